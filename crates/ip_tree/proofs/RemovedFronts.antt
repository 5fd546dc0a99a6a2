-- The front of a path that goes where what stands at the path goes.
--     front_some, front_within, front_long      it has a step at least, and not more than the path
--     remove_front      taking it away takes the same away
--     front_count      it is the front of itself
--     front_after      and the same parts are known then
--     gone_is      nothing is left of a directory exactly where its only entry goes
--     taken_whole      a removal of the front is one of the path
use Rattle.std.proofs.Common.{◌≡◌, ℕ, suc, ◌<◌, ◌≤◌, ◌+◌, Bool, true, false, not, List, [], ◌∷◌, take, length, refl, sym, ap, subst, ◌∙◌, Option, Some, None, cond, arith}
use Rattle.std.specs.Prelude.{◌&&◌, ◌==◌, IsFalse, is_some, if◌then◌else◌}
use Rattle.std.specs.Cmp.Lexicographic.{nat_list_cmp_total}
use Rattle.std.proofs.lemmas.Bool.{false≢true, ne_eqb}
use Rattle.std.proofs.lemmas.Bool.Decides.{nat_tests}
use Rattle.std.proofs.lemmas.List.{length-take-le}
use Rattle.std.specs.FinMap.Entries.{find, find-put, length_without}
use Rattle.ip_spec.specs.Path.{Step, Path, bytes_cmp, same_bytes}
use Rattle.ip_spec.specs.declared.record.Record.{Record}
use Rattle.ip_spec.specs.Tree.{Tree, entries_of, is_contents, is_empty, remove, subtree}
use Rattle.ip_spec.specs.View.{Part, is_part, touches}
use Rattle.ip_spec.proofs.Subtrees.{empty_is, get-entries_of, same_step}
use Rattle.ip_shape.specs.Directory.{without}
use Rattle.ip_tree.specs.Edits.{IsDirectory, known_after}
use Rattle.ip_tree.specs.Known.{knows}
use Rattle.ip_tree.specs.Node.{Node}
use Rattle.ip_tree.specs.Removal.{IsTaken, taken_front}
use Rattle.ip_tree.proofs.RemovedTrees.{below_nothing, empty_directory, gone_entries, left_entries, no_tree_empty, remove_directory, remove_root, same_removed, some_entry, subtree_remove}
use Rattle.ip_tree.proofs.TouchedParts.{at, is_part_below, no_part, same_itself, touches_below, touches_beside}

-- a path to the root leaves nothing
nothing_left : (t : Tree) → is_empty (remove t []) ≡ true
nothing_left t = ap is_empty (remove_root t) ∙ no_tree_empty

pub front_some : (t : Tree) (s : Step) (p : Path) → 0 < taken_front t (s ∷ p)
front_some t s p = by (is_empty (remove (subtree t (s ∷ [])) p))
  where
    by : (b : Bool) → 0 < cond b 1 (suc (taken_front (subtree t (s ∷ [])) p))
    by true = omega arith
    by false = omega arith

pub front_within : (t : Tree) (path : Path) → taken_front t path ≤ length path
front_within t [] = omega arith
front_within t (s ∷ p) = by (is_empty (remove (subtree t (s ∷ [])) p)) (front_within (subtree t (s ∷ [])) p)
  where
    by : (b : Bool) → taken_front (subtree t (s ∷ [])) p ≤ length p → cond b 1 (suc (taken_front (subtree t (s ∷ [])) p)) ≤ suc (length p)
    by true deeper = omega arith
    by false deeper = omega (arith, deeper)

pub front_long : (t : Tree) (path : Path) → length (take (taken_front t path) path) ≡ taken_front t path
front_long t path = length-take-le (taken_front t path) path (front_within t path)

pub remove_front : (t : Tree) (path : Path) → remove t (take (taken_front t path) path) ≡ remove t path
remove_front t [] = refl
remove_front t (s ∷ p) = by (is_empty (remove (subtree t (s ∷ [])) p)) refl (remove_front (subtree t (s ∷ [])) p)
  where
    by : (b : Bool) → is_empty (remove (subtree t (s ∷ [])) p) ≡ b → remove (subtree t (s ∷ [])) (take (taken_front (subtree t (s ∷ [])) p) p) ≡ remove (subtree t (s ∷ [])) p
        → remove t (take (cond b 1 (suc (taken_front (subtree t (s ∷ [])) p))) (s ∷ p)) ≡ remove t (s ∷ p)
    by true e deeper = same_removed t s [] p (remove_root (subtree t (s ∷ [])) ∙ sym (empty_is (remove (subtree t (s ∷ [])) p) e))
    by false e deeper = same_removed t s (take (taken_front (subtree t (s ∷ [])) p) p) p deeper

pub front_count : (t : Tree) (path : Path) → taken_front t (take (taken_front t path) path) ≡ taken_front t path
front_count t [] = refl
front_count t (s ∷ p) = by (is_empty (remove (subtree t (s ∷ [])) p)) refl (front_count (subtree t (s ∷ [])) p)
  where
    by : (b : Bool) → is_empty (remove (subtree t (s ∷ [])) p) ≡ b → taken_front (subtree t (s ∷ [])) (take (taken_front (subtree t (s ∷ [])) p) p) ≡ taken_front (subtree t (s ∷ [])) p
        → taken_front t (take (cond b 1 (suc (taken_front (subtree t (s ∷ [])) p))) (s ∷ p)) ≡ cond b 1 (suc (taken_front (subtree t (s ∷ [])) p))
    by true e deeper = ap (λ b. cond b 1 (suc (taken_front (subtree t (s ∷ [])) []))) (nothing_left (subtree t (s ∷ [])))
    by false e deeper =
        ap (λ b. cond b 1 (suc (taken_front (subtree t (s ∷ [])) (take (taken_front (subtree t (s ∷ [])) p) p)))) (ap is_empty (remove_front (subtree t (s ∷ [])) p) ∙ e)
        ∙ ap suc deeper

-- ---- what is known

-- where nothing is left at the step, the tree has no part there
front_gone : (t : Tree) (s : Step) (path p : Path) (is : List ℕ) → is_empty (remove (subtree t (s ∷ [])) path) ≡ true → is_part (remove t (s ∷ path)) (at (s ∷ p) is) ≡ true → {X : Type 0} → X
front_gone t s path p is none part = absurd (false≢true (sym (no_part (remove t (s ∷ path)) s p is (ap is_empty (subtree_remove t s path) ∙ none)) ∙ part))

front_touches : (t : Tree) (path p : Path) (is : List ℕ) → is_part (remove t path) (at p is) ≡ true → touches (at p is) (take (taken_front t path) path) ≡ touches (at p is) path
front_touches t [] p is part = refl
front_touches t (s ∷ path) [] is part = by (is_empty (remove (subtree t (s ∷ [])) path))
  where
    by : (b : Bool) → touches (at [] is) (take (cond b 1 (suc (taken_front (subtree t (s ∷ [])) path))) (s ∷ path)) ≡ touches (at [] is) (s ∷ path)
    by true = refl
    by false = refl
front_touches t (s ∷ path) (q ∷ p) is part =
    by (same_bytes q s) (is_empty (remove (subtree t (s ∷ [])) path)) refl refl (λ there. front_touches (subtree t (s ∷ [])) path p is there)
  where
    rest : Path
    rest = take (taken_front (subtree t (s ∷ [])) path) path

    by : (a b : Bool) → same_bytes q s ≡ a → is_empty (remove (subtree t (s ∷ [])) path) ≡ b
        → (is_part (remove (subtree t (s ∷ [])) path) (at p is) ≡ true → touches (at p is) (take (taken_front (subtree t (s ∷ [])) path) path) ≡ touches (at p is) path)
        → touches (at (q ∷ p) is) (take (cond b 1 (suc (taken_front (subtree t (s ∷ [])) path))) (s ∷ path)) ≡ touches (at (q ∷ p) is) (s ∷ path)
    by false true other e deeper = touches_beside s q [] p is other ∙ sym (touches_beside s q path p is other)
    by false false other e deeper = touches_beside s q (take (taken_front (subtree t (s ∷ [])) path) path) p is other ∙ sym (touches_beside s q path p is other)
    by true true same e deeper = front_gone t s path p is e (ap (λ (k : Step). is_part (remove t (s ∷ path)) (at (k ∷ p) is)) (sym (same_step q s same)) ∙ part)
    by true false same e deeper =
        let there : is_part (remove t (s ∷ path)) (at (s ∷ p) is) ≡ true = ap (λ (k : Step). is_part (remove t (s ∷ path)) (at (k ∷ p) is)) (sym (same_step q s same)) ∙ part in
        ap (λ (k : Step). touches (at (k ∷ p) is) (s ∷ take (taken_front (subtree t (s ∷ [])) path) path)) (same_step q s same)
        ∙ touches_below s (take (taken_front (subtree t (s ∷ [])) path) path) p is
        ∙ deeper (sym (is_part_below (remove t (s ∷ path)) (remove (subtree t (s ∷ [])) path) s p is (subtree_remove t s path) e) ∙ there)
        ∙ sym (touches_below s path p is) ∙ sym (ap (λ (k : Step). touches (at (k ∷ p) is) (s ∷ path)) (same_step q s same))

pub front_after : (known : Part → Option ℕ) (t : Tree) (path : Path) (part : Part) → known_after known (take (taken_front t path) path) (remove t path) part ≡ known_after known path (remove t path) part
front_after known t path part = by (is_part (remove t path) part) refl
  where
    by : (b : Bool) → is_part (remove t path) part ≡ b
        → (if b && not (touches part (take (taken_front t path) path)) then known part else None) ≡ (if b && not (touches part path) then known part else None)
    by true e = ap (λ x. if true && not x then known part else None) (front_touches t path part.path part.indexes e)
    by false e = refl

pub taken_whole : (records : ℕ → Option Record) (path : Path) (old new : Node) (t : Tree) → IsTaken records (take (taken_front t path) path) old new t → IsTaken records path old new t
taken_whole records path old new t taken = record {
  means = subst (λ (u : Tree). IsDirectory records new u) (remove_front t path) taken.means;
  known = λ part. taken.known part ∙ ap (λ (u : Tree). known_after (knows records old) (take (taken_front t path) path) u part) (remove_front t path) ∙ front_after (knows records old) t path part;
}

-- ---- a directory of which nothing is left

one_less : (n m : ℕ) → suc n ≡ m → (n == 0) ≡ (m == 1)
one_less n m e = grind (arith, nat_tests)

not_one : (n : ℕ) → 0 < n → (suc n == 1) ≡ false
not_one n some = ne_eqb (suc n) 1 (λ e. absurd (omega (arith, e, some)))

pub gone_is : (t : Tree) (s : Step) (p : Path) → IsFalse (is_contents t) → is_empty (subtree t (s ∷ p)) ≡ false → is_empty (remove t (s ∷ p)) ≡ (taken_front t (s ∷ p) == 1 && length (entries_of t).entries == 1)
gone_is t s p no_bytes stands = by (is_empty (remove (subtree t (s ∷ [])) p)) refl
  where
    here : is_empty (subtree t (s ∷ [])) ≡ false
    here = front_of (is_empty (subtree t (s ∷ []))) refl
      where
        front_of : (b : Bool) → is_empty (subtree t (s ∷ [])) ≡ b → is_empty (subtree t (s ∷ [])) ≡ false
        front_of true e = absurd (false≢true (sym stands ∙ below_nothing t s p (get-entries_of t s ∙ ap (λ b. cond b None (Some (subtree t (s ∷ [])))) e)))
        front_of false e = e

    found : find bytes_cmp s (entries_of t).entries ≡ Some (subtree t (s ∷ []))
    found = get-entries_of t s ∙ ap (λ b. cond b None (Some (subtree t (s ∷ [])))) here

    fewer : suc (length (without s (entries_of t).entries)) ≡ length (entries_of t).entries
    fewer =
        let e : cond true 1 0 + length (without s (entries_of t).entries) ≡ length (entries_of t).entries =
        ap (λ (o : Option Tree). cond (is_some o) 1 0 + length (without s (entries_of t).entries)) (sym found) ∙ length_without bytes_cmp nat_list_cmp_total s (entries_of t).entries (entries_of t).sorted in
        omega (arith, e)

    directory : IsFalse (is_contents (remove t (s ∷ p)))
    directory = remove_directory t s p ∙ no_bytes

    -- a path of one step leaves nothing at the step
    longer : (q : Path) → is_empty (remove (subtree t (s ∷ [])) q) ≡ false → 0 < taken_front (subtree t (s ∷ [])) q
    longer [] e = absurd (false≢true (sym e ∙ nothing_left (subtree t (s ∷ []))))
    longer (r ∷ q) e = front_some (subtree t (s ∷ [])) r q

    by : (b : Bool) → is_empty (remove (subtree t (s ∷ [])) p) ≡ b → is_empty (remove t (s ∷ p)) ≡ (cond b 1 (suc (taken_front (subtree t (s ∷ [])) p)) == 1 && length (entries_of t).entries == 1)
    by true e =
        empty_directory (remove t (s ∷ p)) directory ∙ ap (λ (es : List (Step × Tree)). length es == 0) (gone_entries t s p e)
        ∙ one_less (length (without s (entries_of t).entries)) (length (entries_of t).entries) fewer
    by false e =
        some_entry (remove t (s ∷ p)) s (remove (subtree t (s ∷ [])) p) (ap (find bytes_cmp s) (left_entries t s p e)
        ∙ find-put bytes_cmp nat_list_cmp_total s s (remove (subtree t (s ∷ [])) p) (entries_of t).entries ∙ ap (λ b. cond b (Some (remove (subtree t (s ∷ [])) p)) (find bytes_cmp s (entries_of t).entries)) (same_itself s))
        ∙ sym (ap (λ b. b && length (entries_of t).entries == 1) (not_one (taken_front (subtree t (s ∷ [])) p) (longer p e)))
