-- The merge of three trees, from what its parts do.
--     merged_below, begins, behind      a plan of nothing
--     found      all that comes can be put, where nothing stands against it
--     edits      so the left tree becomes the merge, or there is none
--     puts_plan      what putting it answers
--     whole_merge, edited_merge      the answer, by the root's side
use Rattle.std.proofs.Common.{◌≡◌, ◌≢◌, ◌<◌, ℕ, List, [], ◌∷◌, Option, Some, None, refl, sym, ap, subst, ◌∙◌, arith, length, true}
use Rattle.std.proofs.lemmas.Bool.{both_ways}
use Rattle.std.proofs.lemmas.List.Elements.{All-cons, All-head, All-nil, All-tail}
use Rattle.std.proofs.lemmas.Option.{none-some}
use Rattle.std.specs.Prelude.{All, AllPairs, Contains, Err, IsFalse, Ok, Result, is_none}
use Rattle.ip_base.specs.declared.limit.Limit.TheVariants as limits
use Rattle.ip_spec.specs.Merge.{Rule}
use Rattle.ip_spec.specs.Path.{Path, Step}
use Rattle.ip_spec.specs.Tree.{Tree}
use Rattle.ip_spec.specs.View.{View, least}
use Rattle.ip_spec.specs.declared.record.Record.{Record}
use Rattle.ip_tree.specs.TreeView.{IsView}
use Rattle.ip_tree.specs.declared.tree.Tree as code
use Rattle.ip_tree.specs.declared.tree.TreeFault.{TreeFault}
use Rattle.ip_tree.specs.declared.tree.TreeFault.TheVariants as fault
use Rattle.ip_three.specs.Answered.{EditsTree, GivesShort, IsEditedTo, IsMerge, PutsPlan, three_fault, whole, whole_view}
use Rattle.ip_three.specs.Answered.{edited as edited_so}
use Rattle.ip_three.specs.Applying.{Applies, CanApply, IsFound, IsFoundAt, PutsAll, as_coming, as_edit, as_edits}
use Rattle.ip_three.specs.Clashes.{clash_of, lesser}
use Rattle.ip_three.specs.Going.{IsBehind, PlansUnder}
use Rattle.ip_three.specs.Merging.{Side, directory_side, first_side, is_merged, less, map_of, merged_view}
use Rattle.ip_three.specs.Outcomes.{AreMerging, IsEdited}
use Rattle.ip_three.specs.Planning.{AreAscending, ComesBefore, IsComing, IsGoing, IsPlan, Plan, Visits}
use Rattle.ip_three.specs.Walking.{AreTaken, Begins, IsTakenAt, as_plan}
use Rattle.ip_three.specs.declared.apply.Coming as coming
use Rattle.ip_three.specs.declared.apply.Coming.TheVariants.{Put, Taken}
use Rattle.ip_three.specs.declared.apply.Edit.{Edit}
use Rattle.ip_three.specs.declared.merge.ThreeFault.TheVariants.{Conflict, Limit, Fetch, Memory}
use Rattle.ip_three.specs.declared.plan.Plan as plan
use Rattle.ip_three.proofs.Applied.{applied, found_all}
use Rattle.ip_three.proofs.Elements.{contains_none}
use Rattle.ip_three.proofs.Given.{asked_given, gives_long, gives_short, visits_all, whole_short}
use Rattle.ip_three.proofs.PlanMerges.{some_edited}
use Rattle.ip_three.proofs.Planned.{not_root}
use Rattle.ip_three.proofs.Refusing.{conflict_merges}
use Rattle.ip_three.proofs.Sides.{side_merges}
use Rattle.ip_three.proofs.Values.{no_side}

-- ---- a plan of nothing

-- above each step of the root is the root alone
pub merged_below : (b l r : View) → directory_side b l r [] ≡ None → (s : Step) → is_merged b l r (s ∷ []) ≡ true
merged_below b l r root s = ap (λ o. is_none (first_side o None)) root

module _ (rule : Rule) (records : ℕ → Option Record) (b l r : View) (are : AreMerging rule b l r) (p : plan.Plan) (gone : p.gone.items ≡ []) (come : p.come.items ≡ []) (conflict : p.conflict ≡ None) (short : IsFalse p.is_long) where
  nothing_planned : IsPlan rule b l r (as_plan p)
  nothing_planned = record {
    gone = subst (λ (xs : List Path). All (IsGoing rule b l r) xs) (sym gone) (All-nil (IsGoing rule b l r));
    come = subst (λ (es : List Edit). All (λ e. IsComing rule b l r e.0 e.1) (as_edits es)) (sym come) (All-nil (λ e. IsComing rule b l r e.0 e.1));
    gone_ascend = subst AreAscending (sym gone) (λ i j d less within. absurd (omega (arith, within)));
    come_ascend = subst (λ (es : List Edit). AllPairs ComesBefore (as_edits es)) (sym come) (λ i j d less within. absurd (omega (arith, within)));
    conflict = λ c is. absurd (none-some c (sym conflict ∙ is));
    long = λ is. absurd (both_ways p.is_long short is);
  }

  pub begins : Begins rule records b l r p
  begins = record {
    only = are.one;
    base = are.base;
    left = are.left;
    right = are.right;
    plan = nothing_planned;
    taken_there = subst (AreTaken records r) (sym come) (All-nil (λ (e : Edit). IsTakenAt records r e.path e.coming));
  }

  pub behind : (path : Path) → IsBehind path (as_plan p)
  behind path = record {
    gone = λ q there s rest. absurd (contains_none q (subst (λ (xs : List Path). Contains xs q) gone there));
    come = λ e there s rest. absurd (contains_none e (subst (λ (es : List Edit). Contains (as_edits es) e) come there));
    conflict = λ c is s rest. absurd (none-some c (sym conflict ∙ is));
  }

-- ---- a plan of all

some_steps : (p : Path) → p ≢ [] → 0 < length p
some_steps [] apart = absurd (apart refl)
some_steps (s ∷ p) apart = omega arith

module _ (records : ℕ → Option Record) (rule : Rule) (b l r : View) (are : AreMerging rule b l r) (root : directory_side b l r [] ≡ None) (tree right : code.Tree) (l_is : IsView records tree l) (r_is : IsView records right r)
    (old : Plan) (p : plan.Plan) (plans : PlansUnder rule b l r [] old (as_plan p)) (there : AreTaken records r p.come.items) (clash : Option Path) (clash_is : clash ≡ clash_of (less l p.gone.items).map r (as_edits p.come.items)) where
  visits : Visits rule b l r (λ q. q ≢ []) (as_plan p)
  visits = visits_all rule b l r are old (as_plan p) plans

  edited : lesser p.conflict clash ≡ None → (t : Tree) × IsEdited rule b l r (as_plan p) t
  edited none = some_edited rule b l r are (as_plan p) plans.plan visits root (ap (lesser p.conflict) (sym clash_is) ∙ none)

  found_at : GivesShort rule b.map l.map r.map → (q : Path) (c : coming.Coming) → IsComing rule b l r q (as_coming c) → IsTakenAt records r q c → IsFoundAt records r q c
  found_at short q (Put bytes) comes is = short q bytes (asked_given rule b l r are q bytes comes)
  found_at short q (Taken node) comes is = is

  each_found : GivesShort rule b.map l.map r.map → (es : List Edit) → All (λ e. IsComing rule b l r e.0 e.1) (as_edits es) → AreTaken records r es → All (λ (e : Edit). IsFoundAt records r e.path e.coming) es
  each_found short [] comes is = All-nil (λ (e : Edit). IsFoundAt records r e.path e.coming)
  each_found short (e ∷ es) comes is =
      All-cons (λ (e : Edit). IsFoundAt records r e.path e.coming) e es
      (found_at short e.path e.coming (All-head (λ x. IsComing rule b l r x.0 x.1) (as_edit e) (as_edits es) comes) (All-head (λ (x : Edit). IsTakenAt records r x.path x.coming) e es is))
      (each_found short es (All-tail (λ x. IsComing rule b l r x.0 x.1) (as_edit e) (as_edits es) comes) (All-tail (λ (x : Edit). IsTakenAt records r x.path x.coming) e es is))

  each_long : (es : List Edit) → All (λ e. IsComing rule b l r e.0 e.1) (as_edits es) → All (λ (e : Edit). 0 < length e.path) es
  each_long [] comes = All-nil (λ (e : Edit). 0 < length e.path)
  each_long (e ∷ es) comes =
      All-cons (λ (e : Edit). 0 < length e.path) e es
      (some_steps e.path (not_root rule b l r are (as_plan p) plans.plan visits root e.path (as_coming e.coming) (All-head (λ x. IsComing rule b l r x.0 x.1) (as_edit e) (as_edits es) comes)))
      (each_long es (All-tail (λ x. IsComing rule b l r x.0 x.1) (as_edit e) (as_edits es) comes))

  short_given : IsFalse p.is_long → GivesShort rule b.map l.map r.map
  short_given short = gives_short rule b l r are old (as_plan p) plans short

  can : (t : Tree) → IsEdited rule b l r (as_plan p) t → IsFalse p.is_long → CanApply records b l r t p.gone.items p.come.items
  can t is short = record {
    lawful = is.tree;
    follows = is.follows;
    whole = λ rights. no_side _ (sym rights ∙ root);
    edits = is.edits;
    found = each_found (short_given short) p.come.items plans.plan.come there;
  }

  pub found : lesser p.conflict clash ≡ None → IsFalse p.is_long → All (IsFound records r) p.come.items
  found none short = let e = edited none in found_all records b l r e.0 p.gone.items p.come.items (can e.0 e.1 short) tree right l_is r_is (each_long p.come.items plans.plan.come)

  module _ (mid new : code.Tree) (mid_is : IsView records mid (less l p.gone.items)) where
    put_so : (t : Tree) → IsEdited rule b l r (as_plan p) t → IsFalse p.is_long → (result : Result (Unit {0}) TreeFault) → PutsAll records r (less l p.gone.items) (as_edits p.come.items) new result → Applies records l r t p.gone.items p.come.items new result
    put_so t is short result puts = applied records b l r t p.gone.items p.come.items (can t is short) tree right l_is r_is mid new mid_is result puts

    pub edits : (result : Result (Unit {0}) _) → PutsPlan records (less l p.gone.items) r p clash new result → EditsTree records rule b l r new result
    edits (Ok done) (none, short, is) =
        let e = edited none in
        record { map = e.0; merges = e.1.merges; short = short_given short; gone = p.gone.items; come = as_edits p.come.items; edits = e.1.edits; is = put_so e.0 e.1 short (Ok done) is }
    edits (Err (Conflict c)) is = conflict_merges rule b l r are (as_plan p) plans.plan visits root c (ap (lesser p.conflict) (sym clash_is) ∙ is)
    edits (Err (Limit limits.Contents)) (none, long) = let e = edited none in (e.0, e.1.merges, gives_long rule b l r are old (as_plan p) plans long)
    edits (Err (Limit limits.Entries)) (none, short, wide) = let e = edited none in (e.0, e.1.merges, short_given short, put_so e.0 e.1 short (Err (fault.Limit limits.Entries)) wide)
    edits (Err (Limit limits.Depth)) is = absurd is
    edits (Err (Limit limits.Parents)) is = absurd is
    edits (Err (Limit limits.Branches)) is = absurd is
    edits (Err (Limit limits.Space)) is = absurd is
    edits (Err (Limit limits.Sequence)) is = absurd is
    edits (Err (Limit limits.Attempt)) is = absurd is
    edits (Err (Fetch f)) is = is
    edits (Err Memory) is = tt

-- what putting all answers, as the fault of a merge
module _ (records : ℕ → Option Record) (v r : View) (p : plan.Plan) (clash : Option Path) (new : code.Tree) (none : lesser p.conflict clash ≡ None) (short : IsFalse p.is_long) where
  pub puts_plan : (f : TreeFault) → PutsAll records r v (as_edits p.come.items) new (Err f) → PutsPlan records v r p clash new (Err (three_fault f))
  puts_plan (fault.Limit limits.Contents) is = absurd is.1
  puts_plan (fault.Limit limits.Entries) is = (none, short, is)
  puts_plan (fault.Limit limits.Depth) is = absurd is.1
  puts_plan (fault.Limit limits.Parents) is = absurd is.1
  puts_plan (fault.Limit limits.Branches) is = absurd is.1
  puts_plan (fault.Limit limits.Space) is = absurd is.1
  puts_plan (fault.Limit limits.Sequence) is = absurd is.1
  puts_plan (fault.Limit limits.Attempt) is = absurd is.1
  puts_plan (fault.Fetch f) is = is.1
  puts_plan fault.Memory is = tt

-- ---- the answer

module _ (records : ℕ → Option Record) (rule : Rule) (b l r : View) where
  pub whole_merge : AreMerging rule b l r → (side : Side) → directory_side b l r [] ≡ Some side → (copy : code.Tree) → IsView records copy (whole_view l r side) → IsMerge records rule b l r copy
  whole_merge are side root copy is = record {
    map = map_of l r side;
    merges = side_merges rule b l r are side root;
    short = whole_short rule b l r are side root;
    view = whole_view l r side;
    made = whole side root refl;
    is = is;
  }

  pub edited_merge : directory_side b l r [] ≡ None → (tree : code.Tree) (oldest : Option ℕ) → oldest ≡ least l.oldest r.oldest → IsEditedTo records rule b l r tree → IsMerge records rule b l r (record tree { oldest = oldest })
  edited_merge root tree oldest same is = record {
    map = is.map;
    merges = is.merges;
    short = is.short;
    view = merged_view l r is.map is.gone is.come;
    made = edited_so is.gone is.come root is.edits;
    is = record { root = is.is.root; lawful = is.is.lawful; narrow = is.is.narrow; oldest = sym same; known = is.is.known; below = is.is.below };
  }

-- a copy with the least number of both sides
pub oldest_is : (records : ℕ → Option Record) (left right : code.Tree) (l r : View) (oldest : Option ℕ) → IsView records left l → IsView records right r → oldest ≡ least left.oldest right.oldest → oldest ≡ least l.oldest r.oldest
oldest_is records left right l r oldest l_is r_is same = same ∙ sym (λ i. least (l_is.oldest i) (r_is.oldest i))
