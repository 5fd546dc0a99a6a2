-- A mapping's file while it is made: what each step makes of `AreMade`.
--     piece_of, made_on      what was made is a piece of the whole, and was compared
--     flushed      what comparing what was made says.      one_given, none_given      how many runs are left
--     so_far_none      nothing was compared.      begun      the front was made.      whole_compared      nothing is left
--     total_joined      joining leaves the sum.      row_taken      the rows of the runs that are left
use Rattle.std.proofs.Common.{◌≡◌, ℕ, suc, ◌+◌, ◌-◌, List, [], ◌∷◌, ◌++◌, length, take, drop, refl, sym, ap, ◌∙◌, subst, arith, length-drop, length-append}
use Rattle.std.specs.Prelude.{Option, Some, None, Ok}
use Rattle.std.proofs.Math.Seq.{drop-append_seam}
use Rattle.std.proofs.lemmas.List.{drop-drop, take_all, take-append-le}
use Rattle.std.proofs.lemmas.List.Sums.{sum_by-cons}
use Rattle.ip_ground.specs.declared.names.GroundFault.{GroundFault}
use Rattle.ip_spec.specs.declared.reply.Produced.TheVariants as Produced
use Rattle.ip_spec.specs.declared.reply.Difference.{Difference}
use Rattle.ip_spec.specs.Path.{Bytes}
use Rattle.ip_image.specs.declared.run.Run.{Run}
use Rattle.ip_image.specs.Virtual.{mapping_bytes, placed, row_bytes, total}
use Rattle.ip_image.proofs.KeptRuns.{front_total, rows_many}
use Rattle.ip_mapping.specs.Parsing.{head_bytes}
use Rattle.ip_mapping.proofs.Outcomes.{file_begins}
use Rattle.ip_keep.specs.Runs.{joined, GivesRun}
use Rattle.ip_check.specs.Alike.{IsSoFar, IsPiece, SaysAlike}
use Rattle.ip_check.specs.Pieces.{AreMade, Compares, rows_from}
use Rattle.ip_check.specs.declared.fault.CheckFault.{CheckFault}
use Rattle.ip_check.specs.declared.mapping.Pieces.{Pieces}

pub one_given : (old new : List Run) (run : Run) → GivesRun old (Some run) new → length (joined old) ≡ suc (length (joined new))
one_given old new run gives = ap length gives

pub none_given : (old new : List Run) → GivesRun old None new → length (joined old) ≡ 0
none_given old new gives = ap (λ (runs : List Run). length (joined runs)) gives.0

pub total_joined : (runs : List Run) → total (joined runs) ≡ total runs
total_joined [] = refl
total_joined (run ∷ runs) =
    let first = front_total run.at run.length (joined runs) in
    let deep = total_joined runs in
    let all = sum_by-cons (λ (run : Run). run.length) run runs in
    omega (arith, first, deep, all)

pub row_taken : (place : ℕ) (old left : List Run) (run : Run) → old ≡ run ∷ left
    → rows_from place old ≡ row_bytes (record { at = run.at; length = run.length; place = place }) ++ rows_from (place + run.length) left
row_taken place old left run is = ap (rows_from place) is

pub so_far_none : (whole : Bytes) (got : Option Bytes) → IsSoFar whole got 0
so_far_none whole None = refl
so_far_none whole (Some bytes) = record { wanted = omega arith; found = omega arith; same = refl }

pub begun : (h e : ℕ) (runs : List Run) (got : Option Bytes) (p : Pieces) → p.place ≡ 0 → p.bytes.items ≡ head_bytes (record { horizon = h; end = e; rows = length runs }) → AreMade (mapping_bytes h e runs) got p (rows_from 0 runs)
begun h e runs got p first front = record {
  inside = omega (arith, first);
  is = ap (λ (n : ℕ). drop n (mapping_bytes h e runs)) first ∙ file_begins (record { horizon = h; end = e; rows = placed 0 runs })
      ∙ ap (λ (n : ℕ). head_bytes (record { horizon = h; end = e; rows = n }) ++ rows_from 0 runs) (rows_many 0 runs) ∙ ap (λ (b : Bytes). b ++ rows_from 0 runs) (sym front);
  so_far = subst (IsSoFar (mapping_bytes h e runs) got) (sym first) (so_far_none (mapping_bytes h e runs) got);
}

module _ (whole : Bytes) (got : Option Bytes) (p : Pieces) (rest : Bytes) (made : AreMade whole got p rest) where
  sizes : length whole - p.place ≡ length p.bytes.items + length rest
  sizes = sym (length-drop p.place whole) ∙ ap length made.is ∙ length-append p.bytes.items rest

  pub piece_of : IsPiece whole p.place p.bytes.items
  piece_of = record {
    inside = let s = sizes in let i = made.inside in omega (arith, s, i);
    here = ap (take (length p.bytes.items)) made.is ∙ take-append-le (length p.bytes.items) p.bytes.items rest (omega arith) ∙ take_all (length p.bytes.items) p.bytes.items (omega arith);
  }

  pub made_on : (q : Pieces) → q.place ≡ p.place + length p.bytes.items → q.bytes.items ≡ [] → IsSoFar whole got (p.place + length p.bytes.items) → AreMade whole got q rest
  made_on q place none so_far = record {
    inside = let i = piece_of.inside in omega (arith, i, place);
    is = ap (λ (n : ℕ). drop n whole) place ∙ sym (drop-drop (length p.bytes.items) p.place whole) ∙ ap (drop (length p.bytes.items)) made.is ∙ drop-append_seam p.bytes.items rest ∙ ap (λ (b : Bytes). b ++ rest) (sym none);
    so_far = subst (IsSoFar whole got) (sym place) so_far;
  }

  module _ (bytes : Bytes) (are : bytes ≡ p.bytes.items) where
    pub piece_as : IsPiece whole p.place bytes
    piece_as = subst (IsPiece whole p.place) (sym are) piece_of

    pub flushed : (q : Pieces) → q.place ≡ p.place + length p.bytes.items → q.bytes.items ≡ [] → (found : Option Difference)
        → SaysAlike {E = GroundFault} Produced.Mapping whole got (p.place + length bytes) (Ok found) → Compares {E = CheckFault} whole got q rest (Ok found)
    flushed q place none None says = made_on q place none (subst (λ (b : Bytes). IsSoFar whole got (p.place + length b)) are says)
    flushed q place none (Some found) says = says

pub whole_compared : (whole : Bytes) (got : Option Bytes) (p : Pieces) → p.bytes.items ≡ [] → AreMade whole got p [] → length whole ≡ p.place
whole_compared whole got p none made =
    let s = sizes whole got p [] made in
    let l = ap length none in
    let i = made.inside in
    omega (arith, s, l, i)
