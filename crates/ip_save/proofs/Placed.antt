-- Where new contents lie.
--     places at xs      each behind the one before.      GoesOn f at xs      a function tells these places
--     contents_records      their records, with what they spell and that they are within their bounds
use Rattle.std.proofs.Common.{◌≡◌, ℕ, ◌+◌, List, [], ◌∷◌, ◌++◌, refl, ap, ◌∙◌, Some, None, false, map, T, length, arith}
use Rattle.std.specs.Prelude.{if◌then◌else◌, unwrap_or}
use Rattle.std.specs.List.{AllByRecursion}
use Rattle.std.specs.Ordering.{is_eq, ordering_reverse}
use Rattle.std.specs.declared.cmp.Ordering.{Ordering}
use Rattle.std.specs.declared.cmp.Ordering.TheVariants.{Less}
use Rattle.std.specs.FinMap.Entries.{is_sorted, below_all}
use Rattle.std.proofs.lemmas.List.{length-append}
use Rattle.ip_spec.specs.Map.{get}
use Rattle.ip_spec.specs.Path.{Bytes, Path, path_cmp, same_path}
use Rattle.ip_spec.specs.declared.record.Record.{Record}
use Rattle.ip_spec.specs.Record.{spelling, spelling_of}
use Rattle.ip_spec.specs.TreeAt.{Records}
use Rattle.ip_spec.specs.View.{View}
use Rattle.ip_spec.specs.Batch.{placed, place_among, contents_end, contents_record, whole_part}
use Rattle.ip_spec.proofs.TreeLaws.{path_total}
use Rattle.ip_spec.proofs.Subtrees.{same_itself}
use Rattle.ip_save.specs.Laid.{size, size_of, contents_bytes, bytes_of, AllFit, IsShort}
use Rattle.ip_save.proofs.Split.{both_first, both_second, less_of}
use Rattle.ip_save.proofs.News.{value_of}

abbrev pub key_of : Path × Bytes → Path
key_of e = e.0

abbrev pub places : ℕ → List (Path × Bytes) → List (Path × ℕ)
places at [] = []
places at (x ∷ xs) = (x.0, at) ∷ places (at + size x.1) xs

abbrev pub contents_records : ℕ → List (Path × Bytes) → Records
contents_records at [] = []
contents_records at (x ∷ xs) = (at, Record.Contents x.1) ∷ contents_records (at + size x.1) xs

-- contents of the map that no record is known for
pub record IsNew (v : View) (x : Path × Bytes) : Type 0 where
  pub here : get v.map x.0 ≡ Some x.1
  pub new : v.known (whole_part x.0) ≡ None

module _ (v : View) where
  record_is : (x : Path × Bytes) → IsNew v x → contents_record v x.0 ≡ Record.Contents x.1
  record_is x is = ap (λ o. Record.Contents (unwrap_or o [])) is.here

  pub placed_are : (xs : List (Path × Bytes)) (at : ℕ) → AllByRecursion (IsNew v) xs → placed v at (map key_of xs) ≡ places at xs
  placed_are [] at are = refl
  placed_are (x ∷ xs) at (is, are) = ap (λ (r : Record). (x.0, at) ∷ placed v (at + length (spelling r)) (map key_of xs)) (record_is x is) ∙ ap (λ l. (x.0, at) ∷ l) (placed_are xs (at + size x.1) are)

  pub end_is : (xs : List (Path × Bytes)) (at : ℕ) → AllByRecursion (IsNew v) xs → contents_end v at (map key_of xs) ≡ at + size_of (map value_of xs)
  end_is [] at are = omega arith
  end_is (x ∷ xs) at (is, are) =
      ap (λ (r : Record). contents_end v (at + length (spelling r)) (map key_of xs)) (record_is x is) ∙ end_is xs (at + size x.1) are ∙ omega arith

  pub records_are : (xs : List (Path × Bytes)) (at : ℕ) → AllByRecursion (IsNew v) xs → map (λ (x : Path × ℕ). (x.1, contents_record v x.0)) (places at xs) ≡ contents_records at xs
  records_are [] at are = refl
  records_are (x ∷ xs) at (is, are) =
      ap (λ (r : Record). (at, r) ∷ map (λ (x : Path × ℕ). (x.1, contents_record v x.0)) (places (at + size x.1) xs)) (record_is x is) ∙ ap (λ (l : Records). (at, Record.Contents x.1) ∷ l) (records_are xs (at + size x.1) are)

pub records_spell : (xs : List (Path × Bytes)) (at : ℕ) → bytes_of (contents_records at xs) ≡ contents_bytes (map value_of xs)
unfolding spelling_of
records_spell [] at = refl
records_spell (x ∷ xs) at = ap (λ (b : Bytes). spelling (Record.Contents x.1) ++ b) (records_spell xs (at + size x.1))

pub records_fit : (xs : List (Path × Bytes)) (at : ℕ) → AllByRecursion IsShort (map value_of xs) → AllFit (contents_records at xs)
records_fit [] at each = tt
records_fit (x ∷ xs) at (is, each) = (is, records_fit xs (at + size x.1) each)

pub bytes_length : (bs : List Bytes) → length (contents_bytes bs) ≡ size_of bs
bytes_length [] = refl
bytes_length (b ∷ bs) = let e = bytes_length bs in omega (arith, e, length-append (spelling (Record.Contents b)) (contents_bytes bs))

-- ---- where they are looked up

abbrev pub GoesOn : (Path → ℕ) → ℕ → List (Path × Bytes) → Type 0
GoesOn f at [] = Unit {0}
GoesOn f at (x ∷ xs) = (f x.0 ≡ at) × GoesOn f (at + size x.1) xs

above : (o : Ordering) → o ≡ Less → is_eq (ordering_reverse o) ≡ false
above o less = ap (λ o. is_eq (ordering_reverse o)) less

skip : (k : Path) (spot : ℕ) (f : Path → ℕ) (xs : List (Path × Bytes)) (at : ℕ) → T (below_all path_cmp k xs) → GoesOn f at xs → GoesOn (λ p. if same_path p k then spot else f p) at xs
skip k spot f [] at below on = tt
skip k spot f (x ∷ xs) at below (o, on) =
    let apart : same_path x.0 k ≡ false = ap is_eq (path_total.antisymm x.0 k) ∙ above (path_cmp k x.0) (less_of _ (both_first _ _ below)) in
    (ap (λ b. if b then spot else f x.0) apart ∙ o, skip k spot f xs (at + size x.1) (both_second _ _ below) on)

pub places_found : (xs : List (Path × Bytes)) (at : ℕ) → T (is_sorted path_cmp xs) → GoesOn (place_among (places at xs)) at xs
places_found [] at sorted = tt
places_found (x ∷ xs) at sorted = (
  ap (λ b. if b then at else place_among (places (at + size x.1) xs) x.0) (same_itself x.0),
  skip x.0 at (place_among (places (at + size x.1) xs)) xs (at + size x.1) (both_first _ _ sorted) (places_found xs (at + size x.1) (both_second _ _ sorted)),
)
