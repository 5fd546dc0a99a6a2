-- The table of new contents.
--     table_is      it is what the definition of a batch finds for each.      put_short, all_slices      what holds of all of them holds of those that are put
--     as_many      there is what refers to each
use Rattle.std.proofs.Common.{◌≡◌, ℕ, suc, ◌+◌, List, [], ◌∷◌, refl, sym, ap, subst, ◌∙◌, Option, Some, None, map, length, arith}
use Rattle.std.specs.Prelude.{All}
use Rattle.std.specs.List.{AllByRecursion}
use Rattle.std.proofs.lemmas.List.Elements.{All-from_recursion}
use Rattle.ip_ground.specs.Told.{Told}
use Rattle.ip_space.specs.SpaceView.{SpaceView, records_of}
use Rattle.ip_spec.specs.Map.{get}
use Rattle.ip_spec.specs.Path.{Bytes, Path}
use Rattle.ip_spec.specs.View.{View}
use Rattle.ip_spec.specs.declared.record.Record.{Record}
use Rattle.ip_spec.specs.declared.record.Ref.{Ref}
use Rattle.ip_tree.specs.Reads.{IsOver}
use Rattle.ip_tree.specs.Shown.{shown_root}
use Rattle.ip_tree.specs.TreeView.{IsView}
use Rattle.ip_tree.specs.declared.node.Stored.{Stored}
use Rattle.ip_tree.specs.declared.tree.Tree as code
use Rattle.ip_save.specs.Batches.{IsFirst}
use Rattle.ip_save.specs.Earlier.{slices_of}
use Rattle.ip_save.specs.Laid.{fresh_root, size}
use Rattle.ip_save.specs.Reused.{again_root, bytes_in, found_in, place_of, places_by, places_from, refs_of, spelled_by, spelled_from, told_fresh}
use Rattle.ip_save.specs.declared.fresh.Fresh.{Fresh}
use Rattle.ip_save.proofs.Again.{found_first}
use Rattle.ip_save.proofs.News.{fresh_values_root, news_root}
use Rattle.ip_save.proofs.Placed.{IsNew}
use Rattle.ip_save.proofs.Reusing.{told_are}
use Rattle.ip_save.proofs.Viewed.{each_new, refs_from, told}
use denote.Ref.{Bor}

each_here : (v : View) (xs : List (Path × Bytes)) → AllByRecursion (IsNew v) xs → AllByRecursion (λ (e : Path × Bytes). get v.map e.0 ≡ Some e.1) xs
each_here v [] each = tt
each_here v (x ∷ xs) (is, each) = (is.here, each_here v xs each)

pub table_is : (now : Told) (space : SpaceView) (records : ℕ → Option Record) → IsOver now space records → (tree : code.Tree) (v : View) → IsView records tree v → (r : Option Ref) (other : Option View) → IsFirst records r other → (fs : List Fresh)
    → bytes_in fs ≡ fresh_root (shown_root tree.root) → found_in fs ≡ again_root (records_of now space) (shown_root tree.root) r → told_fresh fs ≡ told v other (shown_root tree.root)
table_is now space records over tree v is r other first fs bytes found =
    let root = shown_root tree.root in
    told_are v other fs (news_root root) (bytes ∙ sym (fresh_values_root root)) (found ∙ sym (found_first now space records over v root (each_here v (news_root root) (each_new records tree v is)) r other first))

-- ---- lengths

values_fresh : (fs : List Fresh) → map (λ (x : Bytes × Option ℕ). x.0) (told_fresh fs) ≡ bytes_in fs
values_fresh [] = refl
values_fresh (f ∷ fs) = ap (λ l. f.bytes.now ∷ l) (values_fresh fs)

spelled_each : (P : Bytes → Type 0) (seen : List (Bytes × ℕ)) (at : ℕ) (xs : List (Bytes × Option ℕ)) → AllByRecursion P (map (λ (x : Bytes × Option ℕ). x.0) xs) → AllByRecursion P (spelled_from seen at xs)
spelled_each P seen at [] each = tt
spelled_each P seen at ((b, Some k) ∷ xs) (is, each) = spelled_each P seen at xs each
spelled_each P seen at ((b, None) ∷ xs) (is, each) = by (place_of seen b) (spelled_each P seen at xs each) (spelled_each P ((b, at) ∷ seen) (at + size b) xs each)
  where
    by : (o : Option ℕ) → AllByRecursion P (spelled_from seen at xs) → AllByRecursion P (spelled_from ((b, at) ∷ seen) (at + size b) xs)
        → AllByRecursion P (spelled_by b (spelled_from seen at xs) (spelled_from ((b, at) ∷ seen) (at + size b) xs) o)
    by (Some k) old new = old
    by None old new = (is, new)

pub put_short : (P : Bytes → Type 0) (end : ℕ) (fs : List Fresh) (put : List Bytes) → AllByRecursion P (bytes_in fs) → put ≡ spelled_from [] end (told_fresh fs) → AllByRecursion P put
put_short P end fs put each is = subst (AllByRecursion P) (sym is) (spelled_each P [] end (told_fresh fs) (subst (AllByRecursion P) (sym (values_fresh fs)) each))

of_slices : (P : Bytes → Type 0) (xs : List (Bor Bytes)) → AllByRecursion P (slices_of xs) → AllByRecursion (λ (x : Bor Bytes). P x.now) xs
of_slices P [] each = tt
of_slices P (x ∷ xs) (is, each) = (is, of_slices P xs each)

pub all_slices : (P : Bytes → Type 0) (xs : List (Bor Bytes)) → AllByRecursion P (slices_of xs) → All (λ (x : Bor Bytes). P x.now) xs
all_slices P xs each = All-from_recursion (λ (x : Bor Bytes). P x.now) xs (of_slices P xs each)

-- ---- as many

places_long : (seen : List (Bytes × ℕ)) (at : ℕ) (xs : List (Bytes × Option ℕ)) → length (places_from seen at xs) ≡ length xs
places_long seen at [] = refl
places_long seen at ((b, Some k) ∷ xs) = ap suc (places_long seen at xs)
places_long seen at ((b, None) ∷ xs) = by (place_of seen b) (places_long seen at xs) (places_long ((b, at) ∷ seen) (at + size b) xs)
  where
    by : (o : Option ℕ) → length (places_from seen at xs) ≡ length xs → length (places_from ((b, at) ∷ seen) (at + size b) xs) ≡ length xs
        → length (places_by at (places_from seen at xs) (places_from ((b, at) ∷ seen) (at + size b) xs) o) ≡ suc (length xs)
    by (Some k) old new = ap suc old
    by None old new = ap suc new

refs_long : (xs : List (Bytes × Option ℕ)) (ks : List ℕ) → length ks ≡ length xs → length (refs_of xs ks) ≡ length xs
refs_long [] ks e = refl
refs_long (x ∷ xs) [] e = absurd (omega (arith, e))
refs_long (x ∷ xs) (k ∷ ks) e = ap suc (refs_long xs ks (let l : length ks ≡ length xs = omega (arith, e) in l))

fresh_long : (fs : List Fresh) → length (told_fresh fs) ≡ length (bytes_in fs)
fresh_long [] = refl
fresh_long (f ∷ fs) = ap suc (fresh_long fs)

pub as_many : (end : ℕ) (fs : List Fresh) (bs : List Bytes) (refs : List Stored) → bytes_in fs ≡ bs → refs ≡ refs_from end (told_fresh fs) → length refs ≡ length bs
as_many end fs bs refs bytes is =
    ap (λ (l : List Stored). length l) is ∙ refs_long (told_fresh fs) (places_from [] end (told_fresh fs)) (places_long [] end (told_fresh fs)) ∙ fresh_long fs ∙ ap (λ (l : List Bytes). length l) bytes
