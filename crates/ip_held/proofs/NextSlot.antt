-- The slot of a durable step.
--     next_is      it is a slot.      next_generation      of the same generation.      next_space      the space of it
--     next_room      a step that draws no attempt has room
--     unswept_on      what is unswept is so behind it.      within_on      and each commit's record lies where it may
use Rattle.std.proofs.Common.{ℕ, ◌+◌, ◌<◌, ◌≤◌, List, [], ◌∷◌, ◌++◌, refl, ap, arith}
use Rattle.std.specs.Prelude.{All}
use Rattle.std.specs.List.{AllByRecursion}
use Rattle.std.proofs.lemmas.List.Elements.{All-from_recursion, recursion_from_All}
use Rattle.ip_base.specs.declared.limit.TheConstants.{OFFSET_MAX}
use Rattle.ip_image.specs.declared.slot.Slot.{Slot}
use Rattle.ip_image.specs.declared.layout.Layout.{Layout}
use Rattle.ip_image.specs.Slot.{IsSlot}
use Rattle.ip_image.specs.Appending.{SameGeneration}
use Rattle.ip_space.specs.SpaceView.{SpaceView, grown}
use Rattle.ip_held.specs.declared.collection.Unswept.{Unswept}
use Rattle.ip_held.specs.Collecting.{IsUnswept}
use Rattle.ip_held.specs.Placed.{IsSpaceOf}
use Rattle.ip_held.specs.Step.{HasRoom, slot_behind}

pub next_room : (s : Slot) (length commits : ℕ) → IsSlot s → s.end + length ≤ OFFSET_MAX → s.sequence < OFFSET_MAX → commits ≤ length → HasRoom s s.next_attempt length commits
next_room s length commits is small low few = record { drawn = omega arith; one = omega arith; attempts = is.next_attempt; ends = small; sequence = low; few = few }

module _ (s : Slot) (u : Unswept) (attempt length commits : ℕ) where
  pub next_is : IsSlot s → IsUnswept s u → HasRoom s attempt length commits → IsSlot (slot_behind s u attempt length commits)
  next_is is unswept room = record {
    version_low = is.version_low;
    version_high = is.version_high;
    chunk = is.chunk;
    sequence_low = omega arith;
    sequence_high = (let low = room.sequence in omega (arith, low));
    horizon = (let h = is.horizon in omega (arith, h));
    ends = room.ends;
    floor = (let f = is.floor in omega (arith, f));
    next = (let n = is.next in let few = room.few in omega (arith, n, few));
    live = (let l = is.live in let more = room.drawn in omega (arith, l, more));
    next_attempt = room.attempts;
    prefix_len = is.prefix_len;
    rows = is.rows;
    first_attempt_low = unswept.low;
    first_attempt_high = (let h = unswept.high in let more = room.drawn in omega (arith, h, more));
    first_attempt_live = unswept.live;
    first_chunk = unswept.chunk;
    none_live = is.none_live;
    nothing_below = is.nothing_below;
  }

  pub next_generation : SameGeneration s (slot_behind s u attempt length commits)
  next_generation = record { version = refl; chunk = refl; horizon = refl; floor = refl; live = refl; prefix_len = refl; rows = refl }

  pub next_space : (space : SpaceView) → IsSpaceOf s space → IsSpaceOf (slot_behind s u attempt length commits) (grown space (s.end + length))
  next_space space is = record { layout = ap (λ (l : Layout). record l { end = s.end + length }) is.layout; runs = is.runs }

  pub unswept_on : HasRoom s attempt length commits → IsUnswept s u → IsUnswept (slot_behind s u attempt length commits) u
  unswept_on room is = record { chunk = is.chunk; low = is.low; high = (let h = is.high in let more = room.drawn in omega (arith, h, more)); live = is.live }

-- ---- where commits' records lie

abbrev IsWithin : Slot → ℕ → Type 0
IsWithin s at = (s.horizon ≤ at) × (at < s.end)

pub within_on : (s t : Slot) (places more : List ℕ) → t.horizon ≤ s.horizon → s.end ≤ t.end → All (IsWithin s) places → AllByRecursion (IsWithin t) more → All (IsWithin t) (places ++ more)
within_on s t places more low high is news = All-from_recursion (IsWithin t) (places ++ more) (on places (recursion_from_All (IsWithin s) places is))
  where
    on : (xs : List ℕ) → AllByRecursion (IsWithin s) xs → AllByRecursion (IsWithin t) (xs ++ more)
    on [] none = news
    on (x ∷ xs) (here, rest) = ((let (a, b) = here in (omega (arith, a, low), omega (arith, b, high))), on xs rest)
