-- The trees of a merge as views over the records of an image, and the work that commits their merge.
--     within_good, within_long, within_wide      whether a merge's tree is within the limits
--     joined_is      what comes of merging the three trees.      joined_of      as the store has it.      counts_stopped      and what is counted where they are not merged
--     join_outcome, join_view, join_lawful      of the merged tree: the machine's outcome, its view, and that the work is lawful
--     join_there, join_parents      none of the parents of the commit was given up.      goes_on_from      who goes on from commits of a repository goes on from them
--     course_is      how two commits stand to each other, by their least common ancestors.      join_from      whose trees are merged then.      forward_from      which branch moves on
use Rattle.std.proofs.Common.{◌≡◌, ◌≢◌, ℕ, zero, suc, ◌<◌, ◌≤◌, Bool, true, false, List, [], ◌∷◌, length, Option, Some, None, refl, sym, ◌∙◌, ap, subst, arith}
use Rattle.std.specs.Prelude.{Result, Ok, Err, All, AllPairs, IsTrue, IfSome, min, not, ◌&&◌, ◌||◌, ◌==◌, nat_le, nat_lt, if◌then◌else◌}
use Rattle.std.specs.List.{list_any}
use Rattle.std.proofs.lemmas.List.Elements.{All-from_recursion}
use Rattle.std.proofs.lemmas.Bool.Decides.{nat_tests}
use Rattle.ip_base.specs.declared.limit.Limit.{Limit}
use Rattle.ip_ground.specs.Counts.{Noted}
use Rattle.ip_ground.specs.Counts.{Counts, CountsIf}
use Rattle.ip_ground.specs.Files.{number_itself}
use Rattle.ip_history.proofs.LeastAlone.{ancestor_meets, proper_meets}
use Rattle.ip_history.proofs.Parents.{parents_first}
use Rattle.ip_merge.specs.Rules.{IsDecisive}
use Rattle.ip_merge.proofs.Decisive.{one_answer}
use Rattle.ip_space.specs.declared.fault.FetchFault.TheVariants as fetch
use Rattle.ip_spec.specs.declared.record.Record.{Record}
use Rattle.ip_spec.specs.declared.reply.Reply.{Reply}
use Rattle.ip_spec.specs.History.{is_ancestor, is_proper_ancestor, reaches, lcas, parents_at, ParentsFirst}
use Rattle.ip_spec.specs.Machine.{Phase}
use Rattle.ip_spec.specs.Merge.{Rule, IsOneAnswer, Merges, Outcome, merged, conflict_at}
use Rattle.ip_spec.specs.MergeModel.{base_of}
use Rattle.ip_spec.specs.Path.{Bytes, Path}
use Rattle.ip_spec.specs.Repository.{Repository, next, head, is_retained, tree_at}
use Rattle.ip_spec.specs.Step.{contents_limit, entries_limit, longest_value, within_limits, refuse_if, unless_some, Refused, ◌>>◌, least_with}
use Rattle.ip_spec.specs.Tree.{Tree, widest}
use Rattle.ip_spec.specs.View.{View, no_view, least}
use Rattle.ip_save.specs.Batches.{HasShortContents}
use Rattle.ip_tree.specs.TreeView.{IsView, stored_view}
use Rattle.ip_tree.specs.declared.tree.Tree as lazy
use Rattle.ip_three.specs.Answered.{MergesTrees, MergedView, counted_three, whole, edited}
use Rattle.ip_three.specs.declared.merge.ThreeFault.{ThreeFault}
use Rattle.ip_three.specs.declared.merge.ThreeFault.TheVariants as three
use Rattle.ip_held.specs.declared.fault.StoreFault.{StoreFault}
use Rattle.ip_appends.specs.declared.merging.Course.{Course}
use Rattle.ip_appends.specs.declared.merging.Joined.{Joined}
use Rattle.ip_appends.specs.declared.merging.Sides.{Sides}
use Rattle.ip_held.specs.declared.held.Held.{Held}
use Rattle.ip_held.specs.declared.work.Work.{Work}
use Rattle.ip_held.specs.Changes.{KeepsNumbers}
use Rattle.ip_held.specs.Faults.{counted_store}
use Rattle.ip_appends.specs.Merging.{GoesOnFrom, IsStoredAs, IsBase, IsMergeView, IsCourseBy, IsCourse, IsApart, IsStaying, course_in, unless_leaving, bases_of, IsForward, IsJoin, IsBaseTree, IsOutcome, IsJoinedTree, IsJoined, stopped_by}
use Rattle.ip_held.specs.Held.{IsOf}
use Rattle.ip_held.specs.Trees.{IsTreeOf}
use Rattle.ip_held.specs.Work.{AreParents, IsLawful, IsThere, least_of}
use Rattle.ip_held.specs.Collecting.{not_leaving_in}
use Rattle.ip_held.specs.Rooted.{IsRooted}
use Rattle.ip_held.proofs.Histories.{shows_of, common_retained}
use Rattle.ip_held.proofs.Phases.{parents_on, retained_is}
use Rattle.ip_appends.proofs.MergedViews.{rooted_made}
use Rattle.ip_appends.proofs.MergedMaps.{short_merged, long_merged, longest_short, made_map}

-- ---- limits

not_less : (n m : ℕ) → m ≤ n → nat_lt n m ≡ false
not_less n m low = grind (arith, nat_tests)

less_so : (n m : ℕ) → n < m → nat_lt n m ≡ true
less_so n m low = grind (arith, nat_tests)

within_by : Bool → Bool → Tree → Refused Tree
within_by long wide t = refuse_if long (Reply.Limit Limit.Contents) >> (refuse_if wide (Reply.Limit Limit.Entries) >> Ok t)

within_is : (t : Tree) (long wide : Bool) → nat_lt contents_limit (longest_value t) ≡ long → nat_lt entries_limit (widest t) ≡ wide → within_limits t ≡ within_by long wide t
unfolding within_by
within_is t long wide e f = λ i. refuse_if (e i) (Reply.Limit Limit.Contents) >> (refuse_if (f i) (Reply.Limit Limit.Entries) >> Ok t)

pub within_good : (t : Tree) → longest_value t ≤ contents_limit → widest t ≤ entries_limit → within_limits t ≡ Ok t
unfolding within_by
within_good t short narrow = within_is t false false (not_less contents_limit (longest_value t) short) (not_less entries_limit (widest t) narrow)

pub within_long : (t : Tree) → contents_limit < longest_value t → within_limits t ≡ Err (Reply.Limit Limit.Contents)
unfolding within_by
within_long t long = within_is t true (nat_lt entries_limit (widest t)) (less_so contents_limit (longest_value t) long) refl

pub within_wide : (t : Tree) → longest_value t ≤ contents_limit → entries_limit < widest t → within_limits t ≡ Err (Reply.Limit Limit.Entries)
unfolding within_by
within_wide t short wide = within_is t false true (not_less contents_limit (longest_value t) short) (less_so entries_limit (widest t) wide)

-- ---- views

module _ (records : ℕ → Option Record) (r : Repository) where
  base_map : (base : Option ℕ) (v : View) → IsBase records r (bases_of base) v → v.map ≡ base_of r (bases_of base)
  unfolding no_view
  base_map None v is = ap (λ (w : View). w.map) is
  base_map (Some c) v is = ap (λ (w : View). w.map) is.is

  record IsSeen (n : ℕ) (tree : lazy.Tree) : Type 0 where
    view : View
    stored : IsStoredAs records r n view
    is : IsView records tree view
    rooted : IsRooted records view
    short : HasShortContents view.map

  seen : (n : ℕ) (tree : lazy.Tree) → IsTreeOf records r n tree → IsSeen n tree
  seen n tree of = record { view = stored_view records n of.at (tree_at r n); stored = record { at = of.at; root = of.root; spelled = of.spelled; is = refl }; is = of.view; rooted = of.rooted; short = of.short }

  record IsSeenBase (base : Option ℕ) (tree : lazy.Tree) : Type 0 where
    view : View
    stored : IsBase records r (bases_of base) view
    is : IsView records tree view

  seen_base : (base : Option ℕ) (tree : lazy.Tree) → IsBaseTree records r base tree → IsSeenBase base tree
  seen_base None tree is = record { view = no_view; stored = refl; is = is }
  seen_base (Some c) tree of = let s = seen c tree of in record { view = s.view; stored = s.stored; is = s.is }

same_merges : (rule : Rule) (o p a b l q : Tree) (m : Outcome) → o ≡ p → a ≡ b → l ≡ q → Merges rule o a l m → Merges rule p b q m
same_merges rule o p a b l q m first second third is = subst (λ (t : Tree). Merges rule p b t m) third (subst (λ (t : Tree). Merges rule p t l m) second (subst (λ (t : Tree). Merges rule t a l m) first is))

made_oldest : (b l q : View) (t : Tree) (v : View) → MergedView b l q t v → v.oldest ≡ least l.oldest q.oldest
made_oldest b l q t v (whole side is same) = refl
made_oldest b l q t v (edited gone come none edits) = refl

-- what the store makes of the merge of the trees
abbrev pub joined_of : Result lazy.Tree ThreeFault → Result Joined StoreFault
joined_of (Ok tree) = Ok (Joined.Tree tree)
joined_of (Err fault) = stopped_by fault

pub counts_stopped : (fault : ThreeFault) (old new : Noted) → CountsIf (counted_three fault) old new → Counts counted_store (stopped_by fault) old new
counts_stopped (three.Conflict path) old new is = is
counts_stopped (three.Limit limit) old new is = is
counts_stopped (three.Fetch fetch.Ground) old new is = is
counts_stopped (three.Fetch (fetch.Form at fault)) old new is = is
counts_stopped (three.Fetch (fetch.Name at want got)) old new is = is
counts_stopped (three.Fetch fetch.Memory) old new is = is
counts_stopped three.Memory old new is = is

module _ (rule : Rule) (decides : IsDecisive rule) (records : ℕ → Option Record) (r : Repository) (sides : Sides) (base left right : lazy.Tree)
    (base_is : IsBaseTree records r sides.base base) (left_is : IsTreeOf records r sides.head left) (right_is : IsTreeOf records r sides.number right) where
  abbrev b : IsSeenBase records r sides.base base
  b = seen_base records r sides.base base base_is

  abbrev l : IsSeen records r sides.head left
  l = seen records r sides.head left left_is

  abbrev q : IsSeen records r sides.number right
  q = seen records r sides.number right right_is

  at_machine : (m : Outcome) → Merges rule b.view.map l.view.map q.view.map m → IsOutcome rule r sides m
  at_machine m is =
      same_merges rule b.view.map (base_of r (bases_of sides.base)) l.view.map (tree_at r sides.head) q.view.map (tree_at r sides.number) m
      (base_map records r sides.base b.view b.stored) (ap (λ (w : View). w.map) l.stored.is) (ap (λ (w : View). w.map) q.stored.is) is

  pub joined_is : (result : Result lazy.Tree ThreeFault)
      → ((v w x : View) → IsView records base v → IsView records left w → IsView records right x → ((p : Path) → IsOneAnswer (rule p)) → MergesTrees records rule v w x result) → IsJoined rule records r sides (joined_of result)
  joined_is result merges = by result (merges b.view l.view q.view b.is l.is q.is (one_answer rule decides))
    where
      by : (result : Result lazy.Tree ThreeFault) → MergesTrees records rule b.view l.view q.view result → IsJoined rule records r sides (joined_of result)
      by (Ok tree) is =
          let same : is.view.map ≡ is.map = made_map b.view l.view q.view is.map is.view is.made in
          let made : Merges rule b.view.map l.view.map q.view.map (merged is.view.map) = subst (λ (t : Tree). Merges rule b.view.map l.view.map q.view.map (merged t)) (sym same) is.merges in
          record {
            base = b.view;
            left = l.view;
            right = q.view;
            view = is.view;
            base_is = b.stored;
            left_is = l.stored;
            right_is = q.stored;
            merges = made;
            made = subst (λ (t : Tree). MergedView b.view l.view q.view t is.view) (sym same) is.made;
            is = is.is;
            rooted = rooted_made records b.view l.view q.view is.map is.view is.made (made_oldest b.view l.view q.view is.map is.view is.made) l.rooted q.rooted;
            short = short_merged rule b.view.map l.view.map q.view.map is.view.map made l.short q.short is.short;
          }
      by (Err (three.Conflict path)) is = at_machine (conflict_at path) is
      by (Err (three.Limit Limit.Contents)) (t, is, long) = (t, at_machine (merged t) is, long_merged rule b.view.map l.view.map q.view.map t is (one_answer rule decides) long)
      by (Err (three.Limit Limit.Entries)) (t, is, short, wide) = (t, at_machine (merged t) is, longest_short t (short_merged rule b.view.map l.view.map q.view.map t is l.short q.short short), wide)
      by (Err (three.Limit _)) is = absurd is
      by (Err (three.Fetch fetch.Ground)) is = tt
      by (Err (three.Fetch fetch.Memory)) is = tt
      by (Err (three.Fetch (fetch.Form at fault))) is = absurd is
      by (Err (three.Fetch (fetch.Name at want got))) is = absurd is
      by (Err three.Memory) is = tt

-- ---- the work

module _ (rule : Rule) (records : ℕ → Option Record) (r : Repository) (sides : Sides) (tree : lazy.Tree) (J : IsJoinedTree rule records r sides tree) where
  pub join_outcome : IsOutcome rule r sides (merged J.view.map)
  join_outcome =
      same_merges rule J.base.map (base_of r (bases_of sides.base)) J.left.map (tree_at r sides.head) J.right.map (tree_at r sides.number) (merged J.view.map)
      (base_map records r sides.base J.base J.base_is) (ap (λ (w : View). w.map) J.left_is.is) (ap (λ (w : View). w.map) J.right_is.is) J.merges

  pub join_good : within_limits J.view.map ≡ Ok J.view.map
  join_good = within_good J.view.map (longest_short J.view.map J.short) J.is.narrow

  abbrev pub join_view : (phase : Phase) (branch : Bytes) → IsJoin r phase branch sides → IsMergeView rule records r sides.head sides.number J.view
  join_view phase branch is = record {
    base = J.base;
    left = J.left;
    right = J.right;
    base_is = subst (λ (cs : List ℕ). IsBase records r cs J.base) (sym is.least) J.base_is;
    left_is = J.left_is;
    right_is = J.right_is;
    merges = J.merges;
    made = J.made;
  }

  oldest_is : J.view.oldest ≡ Some (min sides.head sides.number)
  oldest_is = made_oldest J.base J.left J.right J.view.map J.view J.made ∙ (λ i. least (J.left_is.is i).oldest (J.right_is.is i).oldest) ∙ lesser sides.head sides.number
    where
      lesser : (m n : ℕ) → least (Some m) (Some n) ≡ Some (min m n)
      lesser m n = by (nat_le m n) refl
        where
          by : (b : Bool) → nat_le m n ≡ b → (if b then Some m else Some n) ≡ Some (min m n)
          by true is = ap Some (grind (arith, nat_tests))
          by false is = ap Some (grind (arith, nat_tests))

  pub join_lawful : (phase : Phase) (branch : Bytes) → IsJoin r phase branch sides → AreParents r (Some (min sides.head sides.number)) (sides.head ∷ sides.number ∷ []) → (work : Work) → work.tree ≡ tree → work.parents ≡ sides.head ∷ sides.number ∷ []
      → work.least ≡ Some (min sides.head sides.number) → IsLawful records r work J.view
  join_lawful phase branch is are work same onto low = record {
    tree = λ there. subst (λ (t : lazy.Tree). IsView records t J.view) (sym same) J.is;
    rooted = λ there. J.rooted;
    short = J.short;
    parents = subst (λ (o : Option ℕ). AreParents r o work.parents) (sym low) (subst (AreParents r (Some (min sides.head sides.number))) (sym onto) are);
    least = low ∙ sym (twice sides.head sides.number) ∙ (λ i. least_of (record J.view { oldest = sym oldest_is i }) (sym onto i));
  }
    where
      twice : (m n : ℕ) → least_with (least_with (Some (min m n)) m) n ≡ Some (min m n)
      twice m n = ap Some (let e : min (min (min m n) m) n ≡ min m n = omega arith in e)

-- ---- parents

itself_is : (steps : ℕ) (r : Repository) (n : ℕ) → reaches steps r n n ≡ true
unfolding reaches
itself_is zero r n = number_itself n
itself_is (suc steps) r n = either (n == n) (list_any (λ p. reaches steps r n p) (parents_at r n)) (number_itself n)
  where
    either : (b c : Bool) → b ≡ true → (b || c) ≡ true
    either b c is = ap (λ (d : Bool). d || c) is

-- none of the two was given up
pub join_there : (r : Repository) (phase : Phase) (branch : Bytes) (sides : Sides) → IsJoin r phase branch sides → IsThere r (Some (min sides.head sides.number))
join_there r phase branch sides is = above r.floor sides.head sides.number (next r) is.head_retained is.number_retained
  where
    above : (floor m n high : ℕ) → (nat_le floor m && nat_lt m high) ≡ true → (nat_le floor n && nat_lt n high) ≡ true → floor ≤ min m n
    above floor m n high a b = grind (arith, nat_tests)

pub join_parents : (r : Repository) (phase : Phase) (branch : Bytes) (sides : Sides) → IsJoin r phase branch sides → AreParents r (Some (min sides.head sides.number)) (sides.head ∷ sides.number ∷ [])
join_parents r phase branch sides is = record {
  made = All-from_recursion (λ n. n < next r) (sides.head ∷ sides.number ∷ []) ((retained_is r sides.head is.head_retained).1, ((retained_is r sides.number is.number_retained).1, tt));
  above = All-from_recursion (λ n. min sides.head sides.number ≤ n) (sides.head ∷ sides.number ∷ []) (omega arith, (omega arith, tt));
  distinct = distinct;
  few = omega arith;
}
  where
    apart : sides.head ≢ sides.number
    apart e = let same : is_ancestor r sides.number sides.head ≡ true = subst (λ (n : ℕ). is_ancestor r sides.number n ≡ true) (sym e) (itself_is sides.number r sides.number) in absurd (cc (same, is.apart.0))

    distinct : AllPairs (λ m n. m ≢ n) (sides.head ∷ sides.number ∷ [])
    distinct zero zero d low high = absurd (omega (arith, low))
    distinct zero (suc zero) d low high = apart
    distinct zero (suc (suc j)) d low high = absurd (omega (arith, high))
    distinct (suc i) zero d low high = absurd (omega (arith, low))
    distinct (suc i) (suc j) d low high = absurd (omega (arith, low, high))

pub goes_on_from : (store store' : Held) (r after : Repository) → IsOf store r → KeepsNumbers store store' → IsOf store' after → GoesOnFrom r store' after
goes_on_from store store' r after of keeps now = record {
  tables = now;
  parents = λ least ns are. parents_on r after least ns (let was = of.next in let is_now = now.next in let more = keeps.1 in omega (arith, was, is_now, more)) are;
}

-- ---- the course

false_by : (b : Bool) → (b ≡ true → ⊥) → b ≡ false
false_by true not = absurd (not refl)
false_by false not = refl

one_of : (m n : ℕ) → m ∷ [] ≡ n ∷ [] → m ≡ n
one_of m n is = cc (is)

-- a collection gives the commit up, or not
by_phase : (phase : Phase) (number : ℕ) (P : Course → Type 0) (course : Course) → (IsStaying phase number → P course) → (not_leaving_in phase (Some number) ≡ Err (Reply.Leaving number) → P Course.Leaving) → P (unless_leaving phase number course)
by_phase Phase.Idle number P course stays leaves = stays refl
by_phase (Phase.Collecting c exit) number P course stays leaves = by_test (nat_lt number c) stays leaves
  where
    by_test : (b : Bool) → (unless_some (if b then Some number else None) Reply.Leaving ≡ Ok tt → P course) → (unless_some (if b then Some number else None) Reply.Leaving ≡ Err (Reply.Leaving number) → P Course.Leaving) → P (if b then Course.Leaving else course)
    by_test true stays leaves = leaves refl
    by_test false stays leaves = stays refl

pub course_is : (store : Held) (r : Repository) (phase : Phase) → IsOf store r → (head number : ℕ) → IsTrue (is_retained r head) → IsTrue (is_retained r number) → (cs : List ℕ) → cs ≡ lcas r head number → (course : Course) → IsCourseBy cs head number course → IsCourse r phase head number (course_in phase number course)
course_is store r phase of head number there here cs e course is = by course is
  where
    first : ParentsFirst r
    first = parents_first store.history r (shows_of store r of) of.parents_first

    above : is_ancestor r number head ≡ true → cs ≡ number ∷ []
    above t = e ∙ (ancestor_meets r first number head here).0 t

    below : is_proper_ancestor r head number ≡ true → cs ≡ head ∷ []
    below t = e ∙ ((proper_meets r first number head there).0 t).1

    by : (course : Course) → IsCourseBy cs head number course → IsCourse r phase head number (course_in phase number course)
    by Course.Current is = (ancestor_meets r first number head here).1 (sym e ∙ is)
    by Course.Forward (is, apart) = (false_by (is_ancestor r number head) (λ t. apart (one_of head number (sym is ∙ above t))), (proper_meets r first number head there).1 (apart, sym e ∙ is))
    by Course.Leaving is = absurd is
    by (Course.Bases count) (more, size) =
        let apart : IsApart r head number = (false_by (is_ancestor r number head) (λ t. let one = ap length (above t) in omega (arith, one, more)), false_by (is_proper_ancestor r head number) (λ t. let one = ap length (below t) in omega (arith, one, more))) in
        by_phase phase number (IsCourse r phase head number) (Course.Bases count) (λ stays. (apart, subst (λ (l : List ℕ). 1 < length l) e more, size ∙ ap length e, stays)) (λ leaves. (apart, leaves))
    by (Course.Join None) is =
        let apart : IsApart r head number = (false_by (is_ancestor r number head) (λ t. let one = ap length (sym is ∙ above t) in omega (arith, one)), false_by (is_proper_ancestor r head number) (λ t. let one = ap length (sym is ∙ below t) in omega (arith, one))) in
        by_phase phase number (IsCourse r phase head number) (Course.Join None) (λ stays. (apart, sym e ∙ is, stays)) (λ leaves. (apart, leaves))
    by (Course.Join (Some base)) (is, not_number, not_head) =
        let apart : IsApart r head number = (false_by (is_ancestor r number head) (λ t. not_number (one_of base number (sym is ∙ above t))), false_by (is_proper_ancestor r head number) (λ t. not_head (one_of base head (sym is ∙ below t)))) in
        by_phase phase number (IsCourse r phase head number) (Course.Join (Some base)) (λ stays. (apart, sym e ∙ is, stays)) (λ leaves. (apart, leaves))

-- ---- the three commits

base_retained : (r : Repository) (head number : ℕ) (base : Option ℕ) → lcas r head number ≡ bases_of base → IfSome base (λ n. IsTrue (is_retained r n))
base_retained r head number None e = tt
base_retained r head number (Some c) e = subst (All (λ n. IsTrue (is_retained r n))) e (common_retained r (head ∷ []) number) 0 0 (omega arith)

pub join_from : (r : Repository) (phase : Phase) (branch : Bytes) (at number : ℕ) (base : Option ℕ) → head r branch ≡ Some at → IsTrue (is_retained r at) → IsTrue (is_retained r number) → IsCourse r phase at number (Course.Join base) → IsJoin r phase branch (record { base = base; head = at; number = number })
join_from r phase branch at number base is_head there here course = record {
  is_head = is_head;
  head_retained = there;
  number_retained = here;
  base_retained = base_retained r at number base course.1;
  apart = course.0;
  least = course.1;
  staying = course.2;
}

pub forward_from : (r : Repository) (phase : Phase) (branch : Bytes) (at number : ℕ) → head r branch ≡ Some at → IsTrue (is_retained r number) → IsCourse r phase at number Course.Forward → IsForward r branch number
forward_from r phase branch at number is_head here course = record { at = at; is_head = is_head; retained = here; not_current = course.0; forward = course.1 }
