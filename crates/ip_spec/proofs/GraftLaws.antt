-- What stands where after a graft.
use Rattle.std.proofs.Common.{◌≡◌, List, [], ◌∷◌, ◌++◌, refl, sym, ap, ◌∙◌, Option, Some, None, Bool, true, false, cond, map}
use Rattle.std.proofs.lemmas.Bool.{false≢true}
use Rattle.std.specs.Prelude.{not, ◌||◌}
use Rattle.ip_spec.specs.Map.{get, retain_keys, get-retain_keys}
use Rattle.ip_spec.specs.Path.{Bytes, Path, same_path, is_prefix, is_related}
use Rattle.ip_spec.specs.Tree.{Tree, subtree, place, graft}
use Rattle.ip_spec.proofs.TreeLaws.{path_total, path_antisymmetric}
use Rattle.ip_spec.proofs.Subtrees.{same_as, same_append, prefix_of_append, last_at, get-insert_all, last_found, get-subtree}

abbrev moved : Path → Path × Bytes → Path × Bytes
moved path e = (path ++ e.0, e.1)

moved_found : (path p : Path) (es : List (Path × Bytes)) (d : Option Bytes) → last_at same_path (path ++ p) (map (moved path) es) d ≡ last_at same_path p es d
moved_found path p [] d = refl
moved_found path p (e ∷ es) d = moved_found path p es _ ∙ ap (λ b. last_at same_path p es (cond b (Some e.1) d)) (same_append path p e.0)

moved_apart : (path q : Path) (es : List (Path × Bytes)) (d : Option Bytes) → is_prefix path q ≡ false → last_at same_path q (map (moved path) es) d ≡ d
moved_apart path q [] d apart = refl
moved_apart path q (e ∷ es) d apart = moved_apart path q es _ apart ∙ ap (λ b. cond b (Some e.1) d) (differs (same_path q (path ++ e.0)) refl)
  where
    differs : (b : Bool) → same_path q (path ++ e.0) ≡ b → same_path q (path ++ e.0) ≡ false
    differs true h = absurd (false≢true (sym apart ∙ ap (is_prefix path) (same_as q (path ++ e.0) h) ∙ prefix_of_append path e.0))
    differs false h = h

get-apart : (t : Tree) (path q : Path) → get (retain_keys t (λ r. not (is_related path r))) q ≡ cond (not (is_related path q)) (get t q) None
get-apart t path q = get-retain_keys path_total t (λ r. not (is_related path r)) q (λ x e. ap (λ r. not (is_related path r)) (sym (path_antisymmetric q x e)))

-- what is placed stands at the path and under it
pub get-place : (t : Tree) (path : Path) (sub : Tree) (p : Path) → get (place t path sub) (path ++ p) ≡ get sub p
unfolding place
get-place t path sub p =
    get-insert_all path_total (retain_keys t (λ r. not (is_related path r))) (map (moved path) sub.entries) (path ++ p)
    ∙ ap (last_at same_path (path ++ p) (map (moved path) sub.entries)) (get-apart t path (path ++ p) ∙ ap (λ b. cond (not (b || is_prefix (path ++ p) path)) (get t (path ++ p)) None) (prefix_of_append path p))
    ∙ moved_found path p sub.entries None ∙ last_found sub.entries p sub.sorted

-- elsewhere stands what stood there, but at the prefixes of the path nothing
pub get-beside : (t : Tree) (path : Path) (sub : Tree) (q : Path) → is_prefix path q ≡ false → get (place t path sub) q ≡ cond (not (is_related path q)) (get t q) None
unfolding place
get-beside t path sub q apart =
    get-insert_all path_total (retain_keys t (λ r. not (is_related path r))) (map (moved path) sub.entries) q
    ∙ moved_apart path q sub.entries _ apart ∙ get-apart t path q

pub get-graft : (t source : Tree) (from to p : Path) → get (graft t source from to) (to ++ p) ≡ get source (from ++ p)
unfolding graft
get-graft t source from to p = get-place t to (subtree source from) p ∙ get-subtree source from p

pub get-graft_beside : (t source : Tree) (from to q : Path) → is_prefix to q ≡ false → get (graft t source from to) q ≡ cond (not (is_related to q)) (get t q) None
unfolding graft
get-graft_beside t source from to q apart = get-beside t to (subtree source from) q apart
