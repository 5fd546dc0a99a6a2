-- The mapping's file compared while its rows are made.
--     Goes      what holds between two rows.      goes_begun, goes_on      at first, and behind one more row
--     found_here      a difference was found.      goes_end      no row is left.      ended      what stands behind all rows
--     mapping_found, mapping_ended      a difference in the rows, or behind them, is that of the whole file
use Rattle.std.proofs.Common.{◌≡◌, ℕ, ◌+◌, ◌*◌, ◌≤◌, List, [], ◌∷◌, ◌++◌, length, refl, sym, ap, ◌∙◌, subst, arith, Bool}
use Rattle.std.specs.Prelude.{Option, Some, None, Result, Ok, IsTrue}
use Rattle.std.proofs.lemmas.List.Sums.{sum_by-cons}
use Rattle.ip_ground.specs.declared.names.FileName.{FileName}
use Rattle.ip_ground.specs.Counts.{Noted}
use Rattle.ip_ground.specs.Contents.{Content}
use Rattle.ip_ground.specs.Told.{Told, NoFile, ChangesOnly, IsForeign}
use Rattle.ip_ground.proofs.Spans.{only_on, only_nowhere}
use Rattle.ip_spec.specs.declared.reply.Produced.TheVariants as Produced
use Rattle.ip_spec.specs.declared.reply.Difference.{Difference}
use Rattle.ip_spec.specs.Path.{Bytes}
use Rattle.ip_image.specs.declared.run.Run.{Run}
use Rattle.ip_image.specs.Virtual.{mapping_bytes, row_bytes, total}
use Rattle.ip_image.specs.Collection.{difference}
use Rattle.ip_mapping.specs.Parsing.{head_bytes}
use Rattle.ip_keep.specs.Runs.{FitRuns, GivesRun, joined}
use Rattle.ip_check.specs.Alike.{IsSoFar, SaysEnd}
use Rattle.ip_check.specs.Pieces.{AreMade, Compares, FitsIn, made_to, rows_from}
use Rattle.ip_check.specs.declared.fault.CheckFault.{CheckFault}
use Rattle.ip_check.specs.declared.mapping.Pieces.{Pieces}
use Rattle.ip_check.proofs.Reading.{held_still, own_still}
use Rattle.ip_check.proofs.Making.{begun, row_taken, whole_compared}

pub record Goes (tells : Bool) (a b : Told) (c d : Noted) (old p : Pieces) (runs left : List Run) (place : ℕ) : Type 0 where
  pub fit : FitRuns left
  pub few : made_to p + 24 * length (joined left) ≤ made_to old + 24 * length (joined runs)
  pub sums : place + total (joined left) ≡ total (joined runs)
  pub fits : FitsIn p
  pub file : p.file ≡ old.file
  pub only : IsTrue tells → ChangesOnly NoFile a b
  pub counts : d ≡ c
  pub says : IsTrue tells → ¬ IsForeign a old.file → (whole : Bytes) → AreMade whole (a.held old.file) old (rows_from 0 (joined runs)) → AreMade whole (a.held old.file) p (rows_from place (joined left))

pub goes_begun : (tells : Bool) (a : Told) (c : Noted) (p : Pieces) (runs : List Run) → FitRuns runs → FitsIn p → Goes tells a a c c p p runs runs 0
goes_begun tells a c p runs fit fits = record {
  fit = fit;
  few = omega arith;
  sums = omega arith;
  fits = fits;
  file = refl;
  only = λ told. only_nowhere a NoFile;
  counts = refl;
  says = λ told own whole made. made;
}

-- what putting a row says
abbrev pub PutSays : Told → Pieces → Pieces → Bytes → Option Difference → Type 0
PutSays b p q row found = ¬ IsForeign b p.file → (whole rest : Bytes) → AreMade whole (b.held p.file) p (row ++ rest) → Compares {E = CheckFault} whole (b.held p.file) q rest (Ok found)

abbrev pub row_at : Run → ℕ → Bytes
row_at run place = row_bytes (record { at = run.at; length = run.length; place = place })

module _ (tells : Bool) (a b : Told) (c d : Noted) (old p : Pieces) (runs left : List Run) (place : ℕ) (goes : Goes tells a b c d old p runs left place) where
  pub goes_end : (new : List Run) → GivesRun left None new → IsTrue tells → ¬ IsForeign a old.file → (whole : Bytes) → AreMade whole (a.held old.file) old (rows_from 0 (joined runs)) → AreMade whole (a.held old.file) p []
  goes_end new gives told own whole made = subst (λ (rs : List Run). AreMade whole (a.held old.file) p (rows_from place (joined rs))) gives.0 (goes.says told own whole made)

  module _ (rest : List Run) (run : Run) (gives : joined left ≡ run ∷ joined rest) where
    rows : length (joined left) ≡ 1 + length (joined rest)
    rows = ap length gives ∙ (let e : length (run ∷ joined rest) ≡ 1 + length (joined rest) = omega arith in e)

    sums_left : total (joined left) ≡ run.length + total (joined rest)
    sums_left = ap total gives ∙ sum_by-cons (λ (r : Run). r.length) run (joined rest)

    pub row_fits : made_to p + 24 ≤ made_to old + 24 * length (joined runs)
    row_fits = let few = goes.few in let more = rows in omega (arith, few, more)

    pub sum_fits : place + run.length ≤ total (joined runs)
    sum_fits = let sums = goes.sums in let more = sums_left in omega (arith, sums, more)

    pub falls : 1 + length (joined rest) ≤ length (joined left)
    falls = let more = rows in omega (arith, more)

    module _ (q : Pieces) (found : Option Difference) (says : IsTrue tells → PutSays b p q (row_at run place) found) where
      compared : IsTrue tells → ¬ IsForeign a old.file → (whole : Bytes) → AreMade whole (a.held old.file) old (rows_from 0 (joined runs))
          → Compares {E = CheckFault} whole (a.held old.file) q (rows_from (place + run.length) (joined rest)) (Ok found)
      compared told own whole made =
          let only = goes.only told in
          let held : b.held p.file ≡ a.held old.file = ap (λ (f : FileName). b.held f) goes.file ∙ held_still old.file a b own only in
          let ours : ¬ IsForeign b p.file = subst (λ (f : FileName). ¬ IsForeign b f) (sym goes.file) (own_still old.file a b own only) in
          let behind = rows_from (place + run.length) (joined rest) in
          let made_now : AreMade whole (a.held old.file) p (row_at run place ++ behind) =
          subst (AreMade whole (a.held old.file) p) (row_taken place (joined left) (joined rest) run gives) (goes.says told own whole made) in
          let made_there : AreMade whole (b.held p.file) p (row_at run place ++ behind) = subst (λ (h : Content). AreMade whole h p (row_at run place ++ behind)) (sym held) made_now in
          subst (λ (h : Content). Compares {E = CheckFault} whole h q behind (Ok found)) held (says told ours whole behind made_there)

      pub found_here : (x : Difference) → found ≡ Some x → IsTrue tells → ¬ IsForeign a old.file → (whole : Bytes) → AreMade whole (a.held old.file) old (rows_from 0 (joined runs))
          → difference Produced.Mapping whole (a.held old.file) ≡ Some x
      found_here x is told own whole made =
          subst (λ (f : Option Difference). Compares {E = CheckFault} whole (a.held old.file) q (rows_from (place + run.length) (joined rest)) (Ok f)) is (compared told own whole made)

      pub goes_on : (e : Told) (f : Noted) → found ≡ None → FitRuns rest → FitsIn q → q.file ≡ p.file → made_to q ≤ made_to p + 24 → (IsTrue tells → ChangesOnly NoFile b e) → f ≡ d
          → Goes tells a e c f old q runs rest (place + run.length)
      goes_on e f is fit fits file few only counts = record {
        fit = fit;
        few = let before = goes.few in let more = rows in omega (arith, few, before, more);
        sums = let before = goes.sums in let more = sums_left in omega (arith, before, more);
        fits = fits;
        file = file ∙ goes.file;
        only = λ told. only_on a b e NoFile (goes.only told) (only told);
        counts = counts ∙ goes.counts;
        says = λ told own whole made.
            subst (λ (f : Option Difference). Compares {E = CheckFault} whole (a.held old.file) q (rows_from (place + run.length) (joined rest)) (Ok f)) is (compared told own whole made);
      }

-- all was compared, and then that the file ends there
pub ended : (a b : Told) (old p : Pieces) (found result : Option Difference) → found ≡ None → p.file ≡ old.file → p.bytes.items ≡ [] → ChangesOnly NoFile a b → ¬ IsForeign a old.file → (whole : Bytes)
    → Compares {E = CheckFault} whole (a.held old.file) p [] (Ok found)
    → (¬ IsForeign b p.file → (w : Bytes) → length w ≡ p.place → IsSoFar w (b.held p.file) p.place → result ≡ difference Produced.Mapping w (b.held p.file))
    → result ≡ difference Produced.Mapping whole (a.held old.file)
ended a b old p found result is file none only own whole compares says =
    let held : b.held p.file ≡ a.held old.file = ap (λ (f : FileName). b.held f) file ∙ held_still old.file a b own only in
    let ours : ¬ IsForeign b p.file = subst (λ (f : FileName). ¬ IsForeign b f) (sym file) (own_still old.file a b own only) in
    let made : AreMade whole (a.held old.file) p [] = subst (λ (f : Option Difference). Compares {E = CheckFault} whole (a.held old.file) p [] (Ok f)) is compares in
    let so_far : IsSoFar whole (b.held p.file) p.place = subst (λ (h : Content). IsSoFar whole h p.place) (sym held) made.so_far in
    says ours whole (whole_compared whole (a.held old.file) p none made) so_far ∙ ap (difference Produced.Mapping whole) held

-- ---- the whole file

module _ (a : Told) (h e n : ℕ) (file : FileName) (runs : List Run) (p q : Pieces) (found : Option Difference) (count : n ≡ length runs) (named : p.file ≡ file) (place : p.place ≡ 0)
    (bytes : p.bytes.items ≡ head_bytes (record { horizon = h; end = e; rows = n })) (own : ¬ IsForeign a file)
    (says : ¬ IsForeign a p.file → (whole : Bytes) → AreMade whole (a.held p.file) p (rows_from 0 runs) → Compares {E = CheckFault} whole (a.held p.file) q [] (Ok found)) where
  rows_compared : Compares {E = CheckFault} (mapping_bytes h e runs) (a.held p.file) q [] (Ok found)
  rows_compared =
      says (subst (λ (f : FileName). ¬ IsForeign a f) (sym named) own) (mapping_bytes h e runs)
      (begun h e runs (a.held p.file) p place (bytes ∙ ap (λ (k : ℕ). head_bytes (record { horizon = h; end = e; rows = k })) count))

  file_compared : (f : Option Difference) → found ≡ f → Compares {E = CheckFault} (mapping_bytes h e runs) (a.held file) q [] (Ok f)
  file_compared f is =
      subst (λ (g : Option Difference). Compares {E = CheckFault} (mapping_bytes h e runs) (a.held file) q [] (Ok g)) is
      (subst (λ (name : FileName). Compares {E = CheckFault} (mapping_bytes h e runs) (a.held name) q [] (Ok found)) named rows_compared)

  pub mapping_found : (x : Difference) → found ≡ Some x → Some x ≡ difference Produced.Mapping (mapping_bytes h e runs) (a.held file)
  mapping_found x is = sym (file_compared (Some x) is)

  pub mapping_ended : (b : Told) (result : Result (Option Difference) CheckFault) → found ≡ None → q.file ≡ p.file → ChangesOnly NoFile a b
      → (¬ IsForeign b q.file → (whole : Bytes) → AreMade whole (b.held q.file) q [] → SaysEnd Produced.Mapping whole (b.held q.file) result)
      → SaysEnd Produced.Mapping (mapping_bytes h e runs) (a.held file) result
  mapping_ended b result is same only ends =
      let name : q.file ≡ file = same ∙ named in
      let held : b.held q.file ≡ a.held file = ap (λ (f : FileName). b.held f) name ∙ held_still file a b own only in
      let ours : ¬ IsForeign b q.file = subst (λ (f : FileName). ¬ IsForeign b f) (sym name) (own_still file a b own only) in
      let made : AreMade (mapping_bytes h e runs) (b.held q.file) q [] = subst (λ (c : Content). AreMade (mapping_bytes h e runs) c q []) (sym held) (file_compared None is) in
      subst (λ (c : Content). SaysEnd Produced.Mapping (mapping_bytes h e runs) c result) held (ends ours (mapping_bytes h e runs) made)
