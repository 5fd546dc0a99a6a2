-- How the live slot is found: by the bytes of both slots.
use Rattle.std.specs.Prelude.{ℕ, Bool, true, false, ◌&&◌, not, ◌==◌, List, length, slice_index}
use Rattle.std.specs.Ordering.{nat_cmp}
use Rattle.std.specs.declared.cmp.Ordering.{Ordering}
use Rattle.std.specs.declared.cmp.Ordering.TheVariants.{Less, Equal, Greater}
use Rattle.ip_image.specs.Slot.{open_gate}
use Rattle.ip_control.specs.Live.{Live, no_slot, live_slot, tied, sequence_of}

-- a slot that is whole, and whose gate is open
abbrev pub is_open : List ℕ → Bool
is_open slot = (length slot == 128) && (slice_index slot 0 == open_gate)

-- a slot that is whole, and whose gate is closed
abbrev pub is_shut : List ℕ → Bool
is_shut slot = (length slot == 128) && not (slice_index slot 0 == open_gate)

-- of two slots that are open
abbrev pub newest : Ordering → List ℕ → List ℕ → Live
newest Less first second = live_slot 1 second
newest Equal first second = tied
newest Greater first second = live_slot 0 first

-- of two slots that are open or not
abbrev pub live_by : Bool → Bool → List ℕ → List ℕ → Live
live_by false false first second = no_slot
live_by true false first second = live_slot 0 first
live_by false true first second = live_slot 1 second
live_by true true first second = newest (nat_cmp (sequence_of first) (sequence_of second)) first second

abbrev pub live_among : List ℕ → List ℕ → Live
live_among first second = live_by (is_open first) (is_open second) first second
