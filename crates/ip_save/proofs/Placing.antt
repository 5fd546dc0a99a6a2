-- New contents are placed one behind the other.
--     PlacesOn end all rest next put places refs      what completes the rest completes all.      places_first, places_more, places_last      at first, with one more, and at the end
--     placed_old, placed_new      contents that have a place, and others
use Rattle.std.proofs.Common.{◌≡◌, ℕ, ◌+◌, List, [], ◌∷◌, ◌++◌, Option, Some, None, refl, sym, ap, subst, ◌∙◌, cond, append_assoc, append-nil, arith, length}
use Rattle.std.specs.BTreeMap.{BTreeMap, UpdatesBy}
use Rattle.std.specs.Str.{bytes_eq}
use Rattle.std.specs.Ordering.{nat_cmp}
use Rattle.std.specs.Map.{lookup}
use Rattle.std.specs.Cmp.Lexicographic.{slice_cmp}
use Rattle.std.proofs.lemmas.List.{map-append}
use Rattle.std.proofs.lemmas.Map.Text.{btree_map_updates_str, is_eq-slice_cmp}
use Rattle.ip_spec.specs.Path.{Bytes, same_bytes}
use Rattle.ip_spec.proofs.Subtrees.{same_bytes_turned}
use Rattle.ip_tree.specs.declared.node.Stored.{Stored}
use Rattle.ip_save.specs.Earlier.{AreKept, IsPlacedOnce, found_or, slices_of}
use Rattle.ip_save.specs.Laid.{contents_at, size}
use Rattle.ip_save.proofs.Bounds.{size_is}
use Rattle.ip_save.specs.Reused.{place_of, places_by, places_from, refs_of, spelled_by, spelled_from}
use denote.Ref.{Bor}

pub record PlacesOn (end : ℕ) (all rest : List (Bytes × Option ℕ)) (next : ℕ) (put : List Bytes) (places : BTreeMap (Bor Bytes) ℕ) (refs : List Stored) : Type 0 where
  pub seen : List (Bytes × ℕ)
  pub kept : AreKept places seen
  pub spelled : put ++ spelled_from seen next rest ≡ spelled_from [] end all
  pub told : refs ++ refs_of rest (places_from seen next rest) ≡ refs_of all (places_from [] end all)

none_kept : (places : BTreeMap (Bor Bytes) ℕ) → places.entries ≡ [] → AreKept places []
none_kept places empty b = ap (λ es. lookup (λ (k : Bor Bytes). same_bytes b k.now) es) empty

pub places_first : (end : ℕ) (all : List (Bytes × Option ℕ)) (put : List Bytes) (places : BTreeMap (Bor Bytes) ℕ) (refs : List Stored) → put ≡ [] → places.entries ≡ [] → refs ≡ [] → PlacesOn end all all end put places refs
places_first end all put places refs none empty no_refs = record {
  seen = [];
  kept = none_kept places empty;
  spelled = ap (λ (l : List Bytes). l ++ spelled_from [] end all) none;
  told = ap (λ (l : List Stored). l ++ refs_of all (places_from [] end all)) no_refs;
}

module _ (end : ℕ) (all rest : List (Bytes × Option ℕ)) (next after : ℕ) (put more : List Bytes) (places : BTreeMap (Bor Bytes) ℕ) (refs longer : List Stored) (at : ℕ) (seen : List (Bytes × ℕ)) where
  old_more : (b : Bytes) (k : ℕ) → longer ≡ refs ++ contents_at b at ∷ [] → at ≡ k → after ≡ next → more ≡ put → AreKept places seen → put ++ spelled_from seen next rest ≡ spelled_from [] end all
      → refs ++ contents_at b k ∷ refs_of rest (places_from seen next rest) ≡ refs_of all (places_from [] end all) → PlacesOn end all rest after more places longer
  old_more b k pushed is still same kept spelled told = record {
    seen = seen;
    kept = kept;
    spelled = ap (λ (l : List Bytes). l ++ spelled_from seen after rest) same ∙ ap (λ n. put ++ spelled_from seen n rest) still ∙ spelled;
    told = ap (λ (l : List Stored). l ++ refs_of rest (places_from seen after rest)) pushed
        ∙ append_assoc refs (contents_at b at ∷ []) (refs_of rest (places_from seen after rest))
        ∙ ap (λ n. refs ++ contents_at b at ∷ refs_of rest (places_from seen n rest)) still
        ∙ ap (λ n. refs ++ contents_at b n ∷ refs_of rest (places_from seen next rest)) is ∙ told;
  }

  new_more : (b : Bytes) → longer ≡ refs ++ contents_at b at ∷ [] → (o : Option ℕ) → put ++ spelled_by b (spelled_from seen next rest) (spelled_from ((b, next) ∷ seen) (next + size b) rest) o ≡ spelled_from [] end all
      → refs ++ refs_of ((b, None) ∷ rest) (places_by next (places_from seen next rest) (places_from ((b, next) ∷ seen) (next + size b) rest) o) ≡ refs_of all (places_from [] end all)
      → IsPlacedOnce o seen b next after put more places at → PlacesOn end all rest after more places longer
  new_more b pushed (Some k) spelled told is = old_more b k pushed is.0 is.1 is.2 is.3 spelled told
  new_more b pushed None spelled told is = record {
    seen = (b, next) ∷ seen;
    kept = is.3;
    spelled = ap (λ (l : List Bytes). l ++ spelled_from ((b, next) ∷ seen) after rest) is.2
        ∙ append_assoc put (b ∷ []) (spelled_from ((b, next) ∷ seen) after rest)
        ∙ ap (λ n. put ++ b ∷ spelled_from ((b, next) ∷ seen) n rest) is.1 ∙ spelled;
    told = ap (λ (l : List Stored). l ++ refs_of rest (places_from ((b, next) ∷ seen) after rest)) pushed
        ∙ append_assoc refs (contents_at b at ∷ []) (refs_of rest (places_from ((b, next) ∷ seen) after rest))
        ∙ ap (λ n. refs ++ contents_at b at ∷ refs_of rest (places_from ((b, next) ∷ seen) n rest)) is.1
        ∙ ap (λ n. refs ++ contents_at b n ∷ refs_of rest (places_from ((b, next) ∷ seen) (next + size b) rest)) is.0 ∙ told;
  }

  one_more : (b : Bytes) (found : Option ℕ) → longer ≡ refs ++ contents_at b at ∷ [] → put ++ spelled_from seen next ((b, found) ∷ rest) ≡ spelled_from [] end all
      → refs ++ refs_of ((b, found) ∷ rest) (places_from seen next ((b, found) ∷ rest)) ≡ refs_of all (places_from [] end all) → IsPlacedOnce (found_or found (place_of seen b)) seen b next after put more places at
      → PlacesOn end all rest after more places longer
  one_more b (Some k) pushed spelled told is = old_more b k pushed is.0 is.1 is.2 is.3 spelled told
  one_more b None pushed spelled told is = new_more b pushed (place_of seen b) spelled told is

pub places_more : (end : ℕ) (all rest : List (Bytes × Option ℕ)) (b : Bytes) (found : Option ℕ) (next after : ℕ) (put more : List Bytes) (old new : BTreeMap (Bor Bytes) ℕ) (refs longer : List Stored) (at : ℕ)
    → (on : PlacesOn end all ((b, found) ∷ rest) next put old refs) → IsPlacedOnce (found_or found (place_of on.seen b)) on.seen b next after put more new at → longer ≡ refs ++ contents_at b at ∷ [] → PlacesOn end all rest after more new longer
places_more end all rest b found next after put more old new refs longer at on is pushed = one_more end all rest next after put more new refs longer at on.seen b found pushed on.spelled on.told is

pub places_put : (end : ℕ) (all rest : List (Bytes × Option ℕ)) (next : ℕ) (put : List Bytes) (places : BTreeMap (Bor Bytes) ℕ) (refs : List Stored) → rest ≡ [] → PlacesOn end all rest next put places refs → put ≡ spelled_from [] end all
places_put end all rest next put places refs last on = sym (append-nil put) ∙ ap (λ (r : List (Bytes × Option ℕ)). put ++ spelled_from on.seen next r) (sym last) ∙ on.spelled

pub places_told : (end : ℕ) (all rest : List (Bytes × Option ℕ)) (next : ℕ) (put : List Bytes) (places : BTreeMap (Bor Bytes) ℕ) (refs : List Stored) → rest ≡ [] → PlacesOn end all rest next put places refs
    → refs ≡ refs_of all (places_from [] end all)
places_told end all rest next put places refs last on = sym (append-nil refs) ∙ ap (λ (r : List (Bytes × Option ℕ)). refs ++ refs_of r (places_from on.seen next r)) (sym last) ∙ on.told

kept_more : (old new : BTreeMap (Bor Bytes) ℕ) (seen : List (Bytes × ℕ)) (b : Bytes) (at : ℕ) → UpdatesBy (λ (x y : Bor Bytes). slice_cmp nat_cmp x.now y.now) (λ (k : Bor Bytes). slice_cmp nat_cmp b k.now) old new (Some at) → AreKept old seen
    → AreKept new ((b, at) ∷ seen)
kept_more old new seen b at updates kept c =
    btree_map_updates_str b old new (Some at) updates c ∙ ap (cond (bytes_eq b c) (Some at)) (kept c)
    ∙ ap (λ t. cond t (Some at) (place_of seen c)) (sym (is_eq-slice_cmp b c) ∙ same_bytes_turned b c)

pub placed_old : (o : Option ℕ) (k : ℕ) (seen : List (Bytes × ℕ)) (b : Bytes) (next : ℕ) (put : List Bytes) (places : BTreeMap (Bor Bytes) ℕ) → o ≡ Some k → AreKept places seen → IsPlacedOnce o seen b next next put put places k
placed_old o k seen b next put places is kept = subst (λ (p : Option ℕ). IsPlacedOnce p seen b next next put put places k) (sym is) (refl, refl, refl, kept)

pub placed_new : (o : Option ℕ) (seen : List (Bytes × ℕ)) (x : Bor Bytes) (next after : ℕ) (put more : List (Bor Bytes)) (old new : BTreeMap (Bor Bytes) ℕ) → o ≡ None → AreKept old seen → after ≡ next + (length x.now + 5) → more ≡ put ++ x ∷ []
    → UpdatesBy (λ (y z : Bor Bytes). slice_cmp nat_cmp y.now z.now) (λ (k : Bor Bytes). slice_cmp nat_cmp x.now k.now) old new (Some next) → IsPlacedOnce o seen x.now next after (slices_of put) (slices_of more) new next
placed_new o seen x next after put more old new is kept sum pushed updates =
    subst (λ (p : Option ℕ). IsPlacedOnce p seen x.now next after (slices_of put) (slices_of more) new next) (sym is)
    (refl, (let size = size_is x.now in omega (arith, sum, size)), ap slices_of pushed ∙ map-append (λ (y : Bor Bytes). y.now) put (x ∷ []), kept_more old new seen x.now next updates kept)
