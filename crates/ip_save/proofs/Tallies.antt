-- What lies below directories that were loaded, by their tallies.
--     whole      a list begins with itself.      own_first, own_behind      where it begins with those of nodes: those of the first, and those behind
--     new_first, open_first, inside_first, behind_own      of a directory, whose tally is the first.      begins_root, inside_root, open_root, none_root      of a tree
--     tallied_new, tallied_more      one more node is counted.      tallied_count, tallied_own      a directory's tally is put in its place
--     found_tallies      the tallies of what stands at a step
use Rattle.std.proofs.Common.{◌≡◌, ℕ, ◌+◌, List, [], ◌∷◌, ◌++◌, append_assoc, length, drop, set, refl, sym, ap, subst, ◌∙◌, arith, Option, Some, None, Bool, true, false, cond}
use Rattle.std.specs.Prelude.{is_some, unwrap_or}
use Rattle.std.specs.FinMap.Entries.{find}
use Rattle.std.proofs.lemmas.Bool.{false≢true}
use Rattle.std.proofs.lemmas.List.{append-nil, drop_at, length-append, set_at}
use Rattle.ip_spec.specs.Path.{Step, bytes_cmp, same_bytes}
use Rattle.ip_shape.specs.declared.part.Part.{Part}
use Rattle.ip_tree.specs.Node.{Node, Nodes, Root, directory, first, loaded}
use Rattle.ip_tree.specs.Shown.{shown}
use Rattle.ip_tree.specs.declared.node.Node as declared
use Rattle.ip_tree.specs.declared.node.Stored.{Stored}
use Rattle.ip_save.specs.declared.tally.Tally.{Tally}
use Rattle.ip_save.specs.Laid.{BeginsWith, behind_first, fresh, fresh_among, fresh_root, new_in, no_tally, record_of, tallies, tallies_among, tallies_in, tallies_root, unless_known}
use Rattle.ip_save.proofs.Finding.{empty}
use Rattle.ip_save.proofs.Rests.{rest_of}
use Rattle.ip_save.proofs.Unless.{unless_new}

-- ---- lists that begin with tallies

pub whole : (front all : List Tally) → all ≡ front → BeginsWith front all
whole front all is = record { tail = []; is = is ∙ sym (append-nil front) }

pub own_first : (s : Step) (n : Node) (ns : Nodes) (all : List Tally) → BeginsWith (tallies_among (first s n ns)) all → BeginsWith (tallies n) all
own_first s n ns all begins = record { tail = tallies_among ns ++ begins.tail; is = begins.is ∙ append_assoc (tallies n) (tallies_among ns) begins.tail }

pub own_behind : (s : Step) (n : Node) (ns : Nodes) (all left : List Tally) → BeginsWith (tallies_among (first s n ns)) all → left ≡ drop (length (tallies n)) all → BeginsWith (tallies_among ns) left
own_behind s n ns all left begins is = record {
  tail = begins.tail;
  is = is ∙ ap (drop (length (tallies n))) (begins.is ∙ append_assoc (tallies n) (tallies_among ns) begins.tail) ∙ drop_at (tallies n) (tallies_among ns ++ begins.tail) (length (tallies n)) refl;
}

module _ (root : Part Stored) (ns : Nodes) (all : List Tally) (begins : BeginsWith (tallies (directory root ns)) all) where
  -- its own tally, if no record is known to spell it
  abbrev own_tally : Tally
  own_tally = record { new = length (fresh_among ns); directories = length (tallies_among ns) }

  abbrev Begins : Option Stored → Type 0
  Begins known = BeginsWith (unless_known known (no_tally ∷ []) (own_tally ∷ tallies_among ns)) all

  pub new_first : new_in all ≡ length (fresh (directory root ns))
  new_first = by (record_of root) begins
    where
      by : (o : Option Stored) → Begins o → new_in all ≡ length (unless_known o [] (fresh_among ns))
      by (Some x) here = ap new_in here.is
      by None here = ap new_in here.is

  -- where there is something new no record is known
  pub open_first : (new_in all ≡ 0 → ⊥) → record_of root ≡ None
  open_first some = by (record_of root) begins
    where
      by : (o : Option Stored) → Begins o → o ≡ None
      by (Some x) here = absurd (some (ap new_in here.is))
      by None here = refl

  pub inside_first : record_of root ≡ None → (inside : List Tally) → inside ≡ drop 1 all → BeginsWith (tallies_among ns) inside
  inside_first new inside is = let here : Begins None = subst Begins new begins in record { tail = here.tail; is = is ∙ ap (drop 1) here.is }

  pub behind_own : behind_first all ≡ drop (length (tallies (directory root ns))) all
  behind_own = by (record_of root) begins
    where
      by : (o : Option Stored) → Begins o → behind_first all ≡ drop (length (unless_known o (no_tally ∷ []) (own_tally ∷ tallies_among ns))) all
      by (Some x) here = ap behind_first here.is ∙ sym (ap (drop 1) here.is)
      by None here = ap behind_first here.is ∙ sym (ap (drop (length (own_tally ∷ tallies_among ns))) here.is)

pub begins_root : (part : Part Stored) (ns : Nodes) (root : Root) (ahead : List Tally) → root ≡ loaded part ns → ahead ≡ tallies_root root → BeginsWith (tallies (directory part ns)) ahead
begins_root part ns root ahead is own = whole (tallies (directory part ns)) ahead (own ∙ ap tallies_root is)

pub inside_root : (part : Part Stored) (ns : Nodes) (root : Root) (ahead inside : List Tally) → root ≡ loaded part ns → ahead ≡ tallies_root root → (new_in ahead ≡ 0 → ⊥) → inside ≡ drop 1 ahead → BeginsWith (tallies_among ns) inside
inside_root part ns root ahead inside is own some rest = let here = begins_root part ns root ahead is own in inside_first part ns ahead here (open_first part ns ahead here some) inside rest

pub open_root : (part : Part Stored) (ns : Nodes) (root : Root) (ahead : List Tally) → root ≡ loaded part ns → ahead ≡ tallies_root root → (new_in ahead ≡ 0 → ⊥) → record_of part ≡ None
open_root part ns root ahead is own some = open_first part ns ahead (begins_root part ns root ahead is own) some

pub none_root : (part : Part Stored) (ns : Nodes) (root : Root) (ahead : List Tally) → root ≡ loaded part ns → ahead ≡ tallies_root root → new_in ahead ≡ 0 → fresh_root root ≡ []
none_root part ns root ahead is own none = ap fresh_root is ∙ empty (fresh (directory part ns)) (sym (new_first part ns ahead (begins_root part ns root ahead is own)) ∙ none)

-- ---- they are counted

pub tallied_new : (n : Node) (s : Step) (ns : Nodes) (new below more all : ℕ) → below ≡ length (fresh n) → more ≡ new + below → new + length (fresh_among (first s n ns)) ≡ all → more + length (fresh_among ns) ≡ all
tallied_new n s ns new below more all own sum so = omega (arith, own, sum, so, length-append (fresh n) (fresh_among ns))

pub tallied_more : (n : Node) (s : Step) (ns : Nodes) (out longer all : List Tally) → longer ≡ out ++ tallies n → out ++ tallies_among (first s n ns) ≡ all → longer ++ tallies_among ns ≡ all
tallied_more n s ns out longer all own so = ap (λ l. l ++ tallies_among ns) own ∙ append_assoc out (tallies n) (tallies_among ns) ∙ so

pub tallied_count : (before opened longer among : List Tally) (empty : Tally) → opened ≡ before ++ empty ∷ [] → longer ≡ opened ++ among → length longer ≡ length before + 1 + length among
tallied_count before opened longer among empty pushed more =
    ap (λ (l : List Tally). length l) more ∙ length-append opened among ∙ ap (λ k. k + length among) (ap (λ (l : List Tally). length l) pushed ∙ length-append before (empty ∷ []))

pub tallied_own : (root : Part Stored) (ns : Nodes) → record_of root ≡ None → (before opened longer : List Tally) (at new directories : ℕ) (empty : Tally) → length before ≡ at → opened ≡ before ++ empty ∷ [] → longer ≡ opened ++ tallies_among ns → new ≡ length (fresh_among ns)
    → directories ≡ length (tallies_among ns) → set longer at (record { new = new; directories = directories }) ≡ before ++ tallies (directory root ns)
tallied_own root ns known before opened longer at new directories empty low pushed more own count =
    ap (λ l. set l at (record { new = new; directories = directories })) (more ∙ ap (λ l. l ++ tallies_among ns) pushed ∙ append_assoc before (empty ∷ []) (tallies_among ns))
    ∙ set_at before empty (tallies_among ns) (record { new = new; directories = directories }) at low
    ∙ ap (λ k. before ++ record { new = k; directories = directories } ∷ tallies_among ns) own
    ∙ ap (λ k. before ++ record { new = length (fresh_among ns); directories = k } ∷ tallies_among ns) count
    ∙ ap (λ l. before ++ l) (sym (unless_new (record_of root) (no_tally ∷ []) (record { new = length (fresh_among ns); directories = length (tallies_among ns) } ∷ tallies_among ns) known))

-- ---- at a step

pub found_tallies : (es : List (Step × declared.Node)) (s : Step) (n : declared.Node) → find bytes_cmp s es ≡ Some n → tallies_in (rest_of es) s ≡ tallies (shown n)
found_tallies [] s n found = absurd (false≢true (ap is_some found))
found_tallies (e ∷ es) s n found = by (same_bytes s e.0) found (λ f. found_tallies es s n f)
  where
    by : (b : Bool) → cond b (Some e.1) (find bytes_cmp s es) ≡ Some n → (find bytes_cmp s es ≡ Some n → tallies_in (rest_of es) s ≡ tallies (shown n)) → cond b (tallies (shown e.1)) (tallies_in (rest_of es) s) ≡ tallies (shown n)
    by true is later = ap (λ (m : declared.Node). tallies (shown m)) (ap (λ o. unwrap_or o e.1) is)
    by false is later = later is
