-- Records that fill stretches of offsets.
--     ends_ordered, runs_ordered      they lie in order
--     LastRun, last_run, join_run      the last stretch, parted from the others
--     EndsCut, ends_cut      a stretch parted at a record
--     ends_over, runs_over      they lie so in other bytes that are the same there
--     above_byte, below_byte      the bytes at or above the horizon, and those below it
use Rattle.std.proofs.Common.{◌≡◌, inl, inr, ℕ, ◌+◌, ◌<◌, ◌≤◌, List, [], ◌∷◌, ◌++◌, refl, sym, ap, subst, ◌∙◌, Option, Some, Bool, true, false, cond, length, arith, append_assoc, append-nil, map}
use Rattle.std.proofs.lemmas.Bool.Decides.{nat_tests}
use Rattle.std.proofs.lemmas.Option.{slice_get-get_or}
use Rattle.std.specs.Prelude.{get_or, nat_le}
use Rattle.std.specs.Option.{option_and_then}
use Rattle.ip_ground.specs.declared.names.FileName.TheVariants.{Prefix}
use Rattle.ip_ground.specs.Contents.{Image}
use Rattle.ip_spec.specs.declared.record.Record.{Record}
use Rattle.ip_spec.specs.Record.{spelling}
use Rattle.ip_spec.specs.TreeAt.{Records}
use Rattle.ip_image.specs.Slot.{Layout}
use Rattle.ip_image.specs.Virtual.{Run, Row, run_of, RowsFitFrom, locate, byte_of, chunk_byte, virtual_byte, Stands}
use Rattle.ip_image.specs.Standing.{EndToEnd, RunByRun}
use Rattle.ip_image.proofs.OneRepository.{some_bytes, goes_on}
use Rattle.ip_image.proofs.PairLaws.{Has}
use Rattle.ip_image.proofs.KeptRuns.{Ordered, ordered_lower, ordered_append}

-- ---- stretches

pub ends_ordered : (g : ℕ → Option ℕ) (from : ℕ) (xs : Records) (to : ℕ) → EndToEnd g from xs to → Ordered from xs to
ends_ordered g from [] to e = omega (arith, e)
ends_ordered g from (x ∷ xs) to (at, stands, e) = (omega (arith, at), some_bytes 0 g x.1, subst (λ (n : ℕ). Ordered (n + length (spelling x.1)) xs to) (sym at) (ends_ordered g (from + length (spelling x.1)) xs to e))

pub runs_ordered : (g : ℕ → Option ℕ) (horizon from place low : ℕ) (rows : List Row) (xs : Records) → RowsFitFrom horizon from place rows → low ≤ from → low ≤ horizon → RunByRun g (map run_of rows) xs → Ordered low xs horizon
runs_ordered g horizon from place low [] xs fits l m none = subst (λ (l : Records). Ordered low l horizon) (sym none) m
runs_ordered g horizon from place low (row ∷ rows) xs (one, rest) l m (here, later, is, ends, more) =
    let above = one.apart in
    let below = one.below in
    subst (λ (l : Records). Ordered low l horizon) (sym is)
    (ordered_append low here later (row.at + row.length) horizon (ordered_lower low row.at here (row.at + row.length) (omega (arith, l, above)) (ends_ordered g row.at here (row.at + row.length) ends))
    (runs_ordered g horizon (row.at + row.length + 1) (place + row.length) (row.at + row.length) rows later rest (omega arith) below more))

pub record LastRun (g : ℕ → Option ℕ) (runs : List Run) (last : Run) (xs : Records) : Type 0 where
  pub front : Records
  pub back : Records
  pub is : xs ≡ front ++ back
  pub runs_hold : RunByRun g runs front
  pub ends : EndToEnd g last.at back (last.at + last.length)

pub last_run : (g : ℕ → Option ℕ) (runs : List Run) (last : Run) (xs : Records) → RunByRun g (runs ++ last ∷ []) xs → LastRun g runs last xs
last_run g [] last xs (here, later, is, ends, none) = record { front = []; back = here; is = is ∙ ap (λ (l : Records). here ++ l) none ∙ append-nil here; runs_hold = refl; ends = ends }
last_run g (run ∷ runs) last xs (here, later, is, ends, rest) =
    let l = last_run g runs last later rest in
    record { front = here ++ l.front; back = l.back; is = is ∙ ap (λ (l : Records). here ++ l) l.is ∙ sym (append_assoc here l.front l.back); runs_hold = (here, l.front, refl, ends, l.runs_hold); ends = l.ends }

pub join_run : (g : ℕ → Option ℕ) (runs : List Run) (last : Run) (front back : Records) → RunByRun g runs front → EndToEnd g last.at back (last.at + last.length) → RunByRun g (runs ++ last ∷ []) (front ++ back)
join_run g [] last front back none ends = subst (λ (l : Records). RunByRun g (last ∷ []) (l ++ back)) (sym none) (back, [], sym (append-nil back), ends, refl)
join_run g (run ∷ runs) last front back (here, later, is, e, rest) ends =
    (here, later ++ back, ap (λ (l : Records). l ++ back) is ∙ append_assoc here later back, e, join_run g runs last later back rest ends)

pub record EndsCut (g : ℕ → Option ℕ) (from : ℕ) (xs : Records) (to : ℕ) (y : ℕ × Record) : Type 0 where
  pub before : Records
  pub after : Records
  pub is : xs ≡ before ++ y ∷ after
  pub first : EndToEnd g from before y.0
  pub second : EndToEnd g y.0 (y ∷ after) to

pub ends_cut : (g : ℕ → Option ℕ) (from : ℕ) (xs : Records) (to : ℕ) (y : ℕ × Record) → EndToEnd g from xs to → Has xs y → EndsCut g from xs to y
ends_cut g from [] to y e has = absurd has
ends_cut g from (x ∷ xs) to y (at, stands, e) (inl is) = subst (λ (z : ℕ × Record). EndsCut g from (x ∷ xs) to z) is (record {
  before = [];
  after = xs;
  is = refl;
  first = sym at;
  second = (refl, subst (λ (n : ℕ). Stands g n (spelling x.1)) (sym at) stands, subst (λ (n : ℕ). EndToEnd g (n + length (spelling x.1)) xs to) (sym at) e);
})
ends_cut g from (x ∷ xs) to y (at, stands, e) (inr has) =
    let c = ends_cut g (from + length (spelling x.1)) xs to y e has in
    record { before = x ∷ c.before; after = c.after; is = ap (λ (l : Records). x ∷ l) c.is; first = (at, stands, c.first); second = c.second }

-- where the bytes between the two ends are the same
pub ends_over : (f g : ℕ → Option ℕ) (from : ℕ) (xs : Records) (to : ℕ) → ((k b : ℕ) → from ≤ k → k < to → f k ≡ Some b → g k ≡ Some b) → EndToEnd f from xs to → EndToEnd g from xs to
ends_over f g from [] to same e = e
ends_over f g from (x ∷ xs) to same (at, stands, e) =
    let end = goes_on 0 f (from + length (spelling x.1)) to xs e in (
      at,
      (λ k l.
          let there = slice_get-get_or (spelling x.1) k 0 l in
          same (from + k) (get_or (spelling x.1) k 0) (omega arith) (omega (arith, l, end)) (stands k l ∙ there) ∙ sym there),
      ends_over f g (from + length (spelling x.1)) xs to (λ k b low high is. same k b (omega (arith, low)) high is) e,
    )

-- records in runs lie in all bytes that are the same below the horizon
pub runs_over : (f g : ℕ → Option ℕ) (horizon from place : ℕ) (rows : List Row) (xs : Records) → RowsFitFrom horizon from place rows → ((k b : ℕ) → k < horizon → f k ≡ Some b → g k ≡ Some b)
    → RunByRun f (map run_of rows) xs → RunByRun g (map run_of rows) xs
runs_over f g horizon from place [] xs fits same none = none
runs_over f g horizon from place (row ∷ rows) xs (one, rest) same (here, later, is, ends, more) =
    let below = one.below in (
      here,
      later,
      is,
      ends_over f g row.at here (row.at + row.length) (λ k b low high held. same k b (omega (arith, high, below)) held) ends,
      runs_over f g horizon (row.at + row.length + 1) (place + row.length) rows later rest same more,
    )

-- ---- where the bytes lie

below_horizon : (h at : ℕ) → at < h → nat_le h at ≡ false
below_horizon h at l = grind (arith, nat_tests)

from_horizon : (h at : ℕ) → h ≤ at → nat_le h at ≡ true
from_horizon h at l = grind (arith, nat_tests)

pub above_byte : (image : Image) (l : Layout) (runs : List Run) (at : ℕ) → l.horizon ≤ at → virtual_byte image l runs at ≡ chunk_byte l.chunk image at
unfolding virtual_byte chunk_byte
above_byte image l runs at low = ap (λ (b : Bool). cond b (chunk_byte l.chunk image at) (option_and_then (λ place. byte_of (image (Prefix l.live)) place) (locate runs at))) (from_horizon l.horizon at low)

pub below_byte : (image : Image) (l : Layout) (runs : List Run) (at : ℕ) → at < l.horizon → virtual_byte image l runs at ≡ option_and_then (λ place. byte_of (image (Prefix l.live)) place) (locate runs at)
unfolding virtual_byte chunk_byte
below_byte image l runs at under = ap (λ (b : Bool). cond b (chunk_byte l.chunk image at) (option_and_then (λ place. byte_of (image (Prefix l.live)) place) (locate runs at))) (below_horizon l.horizon at under)
