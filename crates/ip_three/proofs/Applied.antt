-- All edits, by the views of the trees.
--     found_all      each edit has a path, and what comes is found
--     free_put      a fault that is free
--     applied      what is answered when all that comes was put
use Rattle.std.proofs.Common.{◌≡◌, ℕ, ◌<◌, ◌≤◌, List, [], ◌∷◌, ◌++◌, take, length, refl, sym, ap, subst, ◌∙◌, arith, Option, Some, Bool, true, false}
use Rattle.std.proofs.lemmas.Bool.{leb-false, leb-true}
use Rattle.std.proofs.lemmas.List.{length-append}
use Rattle.std.proofs.lemmas.List.Elements.{All-cons, All-head, All-nil, All-tail}
use Rattle.std.specs.Prelude.{All, Result, Ok, Err, is_some, nat_le, not, if◌then◌else◌}
use Rattle.ip_base.specs.declared.limit.Limit.TheVariants as limits
use Rattle.ip_base.specs.PathText.{IsStep}
use Rattle.ip_spec.specs.Path.{Path, IsPath}
use Rattle.ip_spec.specs.Step.{entries_limit}
use Rattle.ip_spec.specs.Tree.{Tree, is_empty, subtree, widest}
use Rattle.ip_spec.specs.View.{KnowsUnder, View, put_view, remove_view}
use Rattle.ip_spec.specs.declared.record.Record.{Record}
use Rattle.ip_tree.specs.Meaning.{RootIs}
use Rattle.ip_tree.specs.Reads.{IsFree}
use Rattle.ip_tree.specs.Shown.{shown_root}
use Rattle.ip_tree.specs.TreeView.{IsView}
use Rattle.ip_tree.specs.declared.tree.Tree as code
use Rattle.ip_tree.specs.declared.tree.TreeFault.{TreeFault}
use Rattle.ip_tree.specs.declared.tree.TreeFault.TheVariants.{Limit, Fetch, Memory}
use Rattle.ip_three.specs.Applying.{Applies, CanApply, IsFound, IsFoundAt, IsPutFault, PutsAll, as_coming, as_edit, as_edits}
use Rattle.ip_three.specs.Merging.{Coming, coming, less, less_at, more, more_at, put, taken}
use Rattle.ip_three.specs.declared.apply.Edit.{Edit}
use Rattle.ip_three.proofs.Edited.{some_there}
use Rattle.ip_three.proofs.Nearing.{edits_done, edits_narrow}
use Rattle.ip_three.proofs.Standing.{stands_at}

-- ---- paths

all_front : (p q : Path) → All IsStep (p ++ q) → All IsStep p
all_front [] q each = All-nil IsStep
all_front (s ∷ p) q each = All-cons IsStep s p (All-head IsStep s (p ++ q) each) (all_front p q (All-tail IsStep s (p ++ q) each))

front_path : (p q : Path) → 0 < length p → IsPath (p ++ q) → IsPath p
front_path p q some is = let short = is.short in let sum = length-append p q in record { some = some; short = omega arith; each = all_front p q is.each }

-- ---- faults

pub free_put : (t : Tree) (fault : TreeFault) → IsFree fault → IsPutFault t fault
free_put t (Limit l) free = absurd free
free_put t (Fetch f) free = free
free_put t Memory free = free

put_fault : (t u : Tree) → (entries_limit < widest t → entries_limit < widest u) → (fault : TreeFault) → IsPutFault t fault → IsPutFault u fault
put_fault t u wider (Limit limits.Contents) c = c
put_fault t u wider (Limit limits.Depth) c = c
put_fault t u wider (Limit limits.Entries) c = wider c
put_fault t u wider (Limit limits.Parents) c = c
put_fault t u wider (Limit limits.Branches) c = c
put_fault t u wider (Limit limits.Space) c = c
put_fault t u wider (Limit limits.Sequence) c = c
put_fault t u wider (Limit limits.Attempt) c = c
put_fault t u wider (Fetch f) c = c
put_fault t u wider Memory c = c

-- ---- least numbers

either_oldest : (v : View) (p : Path) (b : Bool) → (if b then remove_view v p else v).oldest ≡ v.oldest
unfolding remove_view
either_oldest v p true = refl
either_oldest v p false = refl

less_oldest : (v : View) (gone : List Path) → (less v gone).oldest ≡ v.oldest
less_oldest v [] = refl
less_oldest v (p ∷ ps) = less_oldest (less_at v p) ps ∙ either_oldest v p (not (is_empty (subtree v.map p)))

at_oldest : (r v : View) (p : Path) (c : Coming) → (more_at r v p c).oldest ≡ v.oldest
unfolding put_view
at_oldest r v p (put bytes) = refl
at_oldest r v p taken = refl

more_oldest : (r v : View) (es : List (Path × Coming)) → (more r v es).oldest ≡ v.oldest
more_oldest r v [] = refl
more_oldest r v (e ∷ es) = more_oldest r (more_at r v e.0 e.1) es ∙ at_oldest r v e.0 e.1

-- ---- all edits

module _ (records : ℕ → Option Record) (b l r : View) (t : Tree) (gone : List Path) (come : List Edit) (can : CanApply records b l r t gone come) (tree right : code.Tree) (l_is : IsView records tree l) (r_is : IsView records right r) where
  path_of : (p : Path) (c : Coming) → coming b l r t p ≡ Some c → 0 < length p → IsPath p
  path_of p c comes some =
      let x = stands_at t p (some_there b l r t l_is.lawful r_is.lawful can.lawful can.follows can.whole p c comes) in
      front_path p x.rest some (can.lawful.paths (p ++ x.rest) (ap is_some x.here))

  found_each : (es : List Edit) → All (λ (e : Edit). 0 < length e.path) es → All (λ (e : Path × Coming). coming b l r t e.0 ≡ Some e.1) (as_edits es) → All (λ (e : Edit). IsFoundAt records r e.path e.coming) es → All (IsFound records r) es
  found_each [] some comes found = All-nil (IsFound records r)
  found_each (e ∷ es) some comes found =
      All-cons (IsFound records r) e es
      (record {
        path_is = path_of e.path (as_coming e.coming) (All-head (λ (x : Path × Coming). coming b l r t x.0 ≡ Some x.1) (as_edit e) (as_edits es) comes) (All-head (λ (x : Edit). 0 < length x.path) e es some);
        found = All-head (λ (x : Edit). IsFoundAt records r x.path x.coming) e es found;
      })
      (found_each es (All-tail (λ (x : Edit). 0 < length x.path) e es some) (All-tail (λ (x : Path × Coming). coming b l r t x.0 ≡ Some x.1) (as_edit e) (as_edits es) comes)
      (All-tail (λ (x : Edit). IsFoundAt records r x.path x.coming) e es found))

  pub found_all : All (λ (e : Edit). 0 < length e.path) come → All (IsFound records r) come
  found_all some = found_each come some can.edits.only_come can.found

  module _ (mid new : code.Tree) (mid_is : IsView records mid (less l gone)) where
    done : (more r (less l gone) (as_edits come)).map ≡ t
    done = edits_done b l r t l_is.lawful r_is.lawful can.lawful can.follows can.whole gone (as_edits come) can.edits

    wide : (n : ℕ) → entries_limit < widest (more r (less l gone) (take n (as_edits come))).map → entries_limit < widest t
    wide n over = by (nat_le (widest t) entries_limit) refl
      where
        by : (x : Bool) → nat_le (widest t) entries_limit ≡ x → entries_limit < widest t
        by true e =
            let narrow = edits_narrow b l r t l_is.lawful r_is.lawful can.lawful can.follows can.whole gone (as_edits come) can.edits mid_is.narrow (leb-true _ _ e) n in
            absurd (omega arith)
        by false e = leb-false _ _ e

    pub applied : (result : Result (Unit {0}) TreeFault) → PutsAll records r (less l gone) (as_edits come) new result → Applies records l r t gone come new result
    applied (Ok x) is = record {
      root = subst (λ (m : Tree). RootIs records (shown_root new.root) m) done is.root;
      lawful = can.lawful;
      narrow = subst (λ (m : Tree). widest m ≤ entries_limit) done is.narrow;
      oldest = sym (more_oldest r (less l gone) (as_edits come) ∙ less_oldest l gone) ∙ is.oldest;
      known = is.known;
      below = subst (KnowsUnder (more r (less l gone) (as_edits come)).known) done is.below;
    }
    applied (Err fault) front = put_fault (more r (less l gone) (take front.0 (as_edits come))).map t (wide front.0) fault front.1
