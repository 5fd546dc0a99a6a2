-- What is told of both sides, step by step.
--     pair_or pair      a pair, or one of nothing.      set_side side entry pair      with this on a side
--     with_side side entry old      the same where there may be none
--     Puts side what old new      at each step, what stands there is put on a side
--     IsClear indexes found      nothing is told of the steps to which the indexes lead
--     IsUnreadEntry entry      nothing, or a record that was not read
--     Tells a b told      of what stands on both sides: all of it; or nothing, where it is the same, and not read
--     Walks a b indexes old new      that of each step to which the indexes lead, and of the others what was told
use Rattle.std.specs.Prelude.{◌≡◌, ℕ, true, List, Option, Some, None}
use Rattle.std.specs.FinMap.Entries.{find}
use Rattle.ip_spec.specs.Path.{Step, bytes_cmp}
use Rattle.ip_spec.specs.View.{leads}
use Rattle.ip_shape.specs.Shape.{ByTest}
use Rattle.ip_differ.specs.declared.pairs.Entry.{Entry}
use Rattle.ip_differ.specs.declared.pairs.Entry.TheVariants as entry
use Rattle.ip_differ.specs.declared.pairs.Pair.{Pair}
use Rattle.ip_differ.specs.declared.pairs.Side.{Side}
use Rattle.ip_differ.specs.declared.pairs.Side.TheVariants.{One, Other}

abbrev pub pair_or : Option Pair → Pair
pair_or None = record { one = None; other = None }
pair_or (Some pair) = pair

abbrev pub set_side : Side → Entry → Pair → Pair
set_side One e pair = record { one = Some e; other = pair.other }
set_side Other e pair = record { one = pair.one; other = Some e }

abbrev pub with_side : Side → Option Entry → Option Pair → Option Pair
with_side side None old = old
with_side side (Some e) old = Some (set_side side e (pair_or old))

abbrev pub Puts : Side → (Step → Option Entry) → List (Step × Pair) → List (Step × Pair) → Type 0
Puts side what old new = (s : Step) → find bytes_cmp s new ≡ with_side side (what s) (find bytes_cmp s old)

abbrev pub IsClear : List ℕ → List (Step × Pair) → Type 0
IsClear indexes found = (s : Step) → leads 0 indexes s ≡ true → find bytes_cmp s found ≡ None

abbrev pub IsUnreadEntry : Option Entry → Type 0
IsUnreadEntry None = Unit {0}
IsUnreadEntry (Some (entry.Stored x)) = Unit {0}
IsUnreadEntry (Some entry.Read) = ⊥

abbrev pub Tells : Option Entry → Option Entry → Option Pair → Type 0
Tells a b None = (a ≡ b) × IsUnreadEntry a
Tells a b (Some pair) = (pair.one ≡ a) × (pair.other ≡ b)

abbrev pub Walks : (Step → Option Entry) → (Step → Option Entry) → List ℕ → List (Step × Pair) → List (Step × Pair) → Type 0
Walks a b indexes old new = (s : Step) → ByTest (leads 0 indexes s) (Tells (a s) (b s) (find bytes_cmp s new)) (find bytes_cmp s new ≡ find bytes_cmp s old)
