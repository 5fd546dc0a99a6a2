-- Control files: which slot is live, and what `init` leaves.
use Rattle.std.proofs.Common.{◌≡◌, ℕ, [], ◌∷◌, ◌++◌, refl, true, Some, None, take}
use Rattle.ip_ground.specs.declared.names.FileName.TheVariants.{Control}
use Rattle.ip_ground.specs.Contents.{Image}
use Rattle.ip_spec.specs.Path.{Bytes}
use Rattle.ip_image.specs.Slot.{Slot, fresh, fresh_control, slot_bytes, slot_fields, live_index, is_tied, IsLive}
use Rattle.ip_image.specs.Standing.{DamagedAt, no_form, NoStore}
use Rattle.ip_image.specs.Collection.{image_runs}

the_fresh_control_file : fresh_control 1048576 ≡ 165 ∷ 0 ∷ 0 ∷ 0 ∷ 0 ∷ 0 ∷ 0 ∷ 0 ∷ 1 ∷ 0 ∷ 0 ∷ 0 ∷ 0 ∷ 0 ∷ 0 ∷ 0 ∷ 1 ∷ 0 ∷ 0 ∷ 0 ∷ 0 ∷ 0 ∷ 0 ∷ 0 ∷ 0 ∷ 0 ∷ 16 ∷ 0 ∷ 0 ∷ 0 ∷ 0 ∷ 0 ∷ 0 ∷ 0 ∷ 0 ∷ 0 ∷ 0 ∷ 0 ∷ 0 ∷ 0 ∷ 0 ∷ 0 ∷ 0 ∷ 0 ∷ 0 ∷ 0 ∷ 0 ∷ 0 ∷ 0 ∷ 0 ∷ 0 ∷ 0 ∷ 0 ∷ 0 ∷ 0 ∷ 0 ∷ 0 ∷ 0 ∷ 0 ∷ 0 ∷ 0 ∷ 0 ∷ 0 ∷ 0 ∷ 0 ∷ 0 ∷ 0 ∷ 0 ∷ 0 ∷ 0 ∷ 0 ∷ 0 ∷ 1 ∷ 0 ∷ 0 ∷ 0 ∷ 0 ∷ 0 ∷ 0 ∷ 0 ∷ 0 ∷ 0 ∷ 0 ∷ 0 ∷ 0 ∷ 0 ∷ 0 ∷ 0 ∷ 0 ∷ 0 ∷ 0 ∷ 0 ∷ 0 ∷ 0 ∷ 0 ∷ 0 ∷ 0 ∷ 0 ∷ 0 ∷ 0 ∷ 0 ∷ 0 ∷ 0 ∷ 0 ∷ 1 ∷ 0 ∷ 0 ∷ 0 ∷ 0 ∷ 0 ∷ 0 ∷ 0 ∷ 0 ∷ 0 ∷ 0 ∷ 0 ∷ 0 ∷ 0 ∷ 0 ∷ 0 ∷ 0 ∷ 0 ∷ 0 ∷ 0 ∷ 0 ∷ 0 ∷ 0 ∷ 0 ∷ 0 ∷ 0 ∷ 0 ∷ 0 ∷ 0 ∷ 0 ∷ 0 ∷ 0 ∷ 0 ∷ 0 ∷ 0 ∷ 0 ∷ 0 ∷ 0 ∷ 0 ∷ 0 ∷ 0 ∷ 0 ∷ 0 ∷ 0 ∷ 0 ∷ 0 ∷ 0 ∷ 0 ∷ 0 ∷ 0 ∷ 0 ∷ 0 ∷ 0 ∷ 0 ∷ 0 ∷ 0 ∷ 0 ∷ 0 ∷ 0 ∷ 0 ∷ 0 ∷ 0 ∷ 0 ∷ 0 ∷ 0 ∷ 0 ∷ 0 ∷ 0 ∷ 0 ∷ 0 ∷ 0 ∷ 0 ∷ 0 ∷ 0 ∷ 0 ∷ 0 ∷ 0 ∷ 0 ∷ 0 ∷ 0 ∷ 0 ∷ 0 ∷ 0 ∷ 0 ∷ 0 ∷ 0 ∷ 0 ∷ 0 ∷ 0 ∷ 0 ∷ 0 ∷ 0 ∷ 0 ∷ 0 ∷ 0 ∷ 0 ∷ 0 ∷ 0 ∷ 0 ∷ 0 ∷ 0 ∷ 0 ∷ 0 ∷ 0 ∷ 0 ∷ 0 ∷ 0 ∷ 0 ∷ 0 ∷ 0 ∷ 0 ∷ 0 ∷ 0 ∷ 0 ∷ 0 ∷ 0 ∷ 0 ∷ 0 ∷ 0 ∷ 0 ∷ 0 ∷ 0 ∷ 0 ∷ 0 ∷ 0 ∷ 0 ∷ 0 ∷ 0 ∷ 0 ∷ 0 ∷ 0 ∷ 0 ∷ 0 ∷ 0 ∷ 0 ∷ 0 ∷ 0 ∷ 0 ∷ 0 ∷ 0 ∷ 0 ∷ 0 ∷ 0 ∷ 0 ∷ 0 ∷ 0 ∷ 0 ∷ 0 ∷ 0 ∷ 0 ∷ 0 ∷ 0 ∷ []
unfolding image_runs
the_fresh_control_file = refl

the_fresh_slot_is_live : live_index (fresh_control 1048576) ≡ Some 0
unfolding image_runs
the_fresh_slot_is_live = refl

-- a slot with this sequence
abbrev numbered : ℕ → Bytes
numbered sequence = slot_bytes (record (fresh 4096) { sequence = sequence })

a_file_of_one_slot_has_it : live_index (take 128 (fresh_control 4096)) ≡ Some 0
unfolding image_runs
a_file_of_one_slot_has_it = refl

a_slot_cut_by_a_byte_is_closed : live_index (take 127 (fresh_control 4096)) ≡ None
unfolding image_runs
a_slot_cut_by_a_byte_is_closed = refl

an_empty_file_has_no_slot : live_index [] ≡ None
unfolding image_runs
an_empty_file_has_no_slot = refl

an_absent_file_is_no_store : NoStore (λ file. None)
an_absent_file_is_no_store = tt

another_gate_is_closed : live_index (0xA4 ∷ slot_fields (fresh 4096)) ≡ None
unfolding image_runs
another_gate_is_closed = refl

the_greater_sequence_is_live : live_index (numbered 2 ++ numbered 3) ≡ Some 1
unfolding image_runs
the_greater_sequence_is_live = refl

the_greater_sequence_is_live_also_in_front : live_index (numbered 3 ++ numbered 2) ≡ Some 0
unfolding image_runs
the_greater_sequence_is_live_also_in_front = refl

-- ---- two open slots with one sequence

tied_control : Bytes
tied_control = numbered 2 ++ numbered 2

tied_image : Image
tied_image Control = Some tied_control
tied_image file = None

it_is_tied : is_tied tied_control ≡ true
unfolding image_runs tied_control
it_is_tied = refl

never_live : (s : Slot) → ¬ (IsLive tied_control 1 s)
never_live s live = let tied = it_is_tied in let one = live.one in cc

a_tie_is_damaged_at_the_second_slot : DamagedAt tied_image Control 128
unfolding image_runs tied_control tied_image
a_tie_is_damaged_at_the_second_slot = no_form tied_control 1 refl refl never_live
