-- The walk between two steps of a directory.
--     below_each, find_each      of entries in order.      entries_at      of what was found at a path
--     Between      what holds before those that are left
--     first_between, next_at, last_between      before the first, from one to the next, and behind the last
--     begins_next, Ready, ready_next      what the next step may begin with
use Rattle.std.proofs.Common.{◌≡◌, ℕ, inl, inr, ◌++◌, ◌∷◌, [], List, refl, sym, ap, subst, ◌∙◌, Bool, true, false, cond, T, Option, Some, None}
use Rattle.std.specs.Prelude.{Contains, ◌&&◌, IsTrue}
use Rattle.std.specs.FinMap.Entries.{below_all, find, is_sorted}
use Rattle.std.specs.Cmp.Lexicographic.{nat_list_cmp_total}
use Rattle.std.specs.Ordering.{is_eq, is_lt, ordering_reverse}
use Rattle.std.specs.declared.cmp.Ordering.{Ordering}
use Rattle.std.specs.declared.cmp.Ordering.TheVariants.{Less, Equal, Greater}
use Rattle.ip_spec.specs.Merge.{Rule}
use Rattle.ip_spec.specs.Path.{Path, Step, bytes_cmp}
use Rattle.ip_spec.specs.Tree.{Tree, is_empty, subtree}
use Rattle.ip_spec.specs.View.{View, is_nil}
use Rattle.ip_spec.specs.declared.record.Record.{Record}
use Rattle.ip_spec.proofs.Subtrees.{step_itself}
use Rattle.ip_tree.specs.Finding.{FindsIn}
use Rattle.ip_tree.specs.Node.{Node}
use Rattle.ip_tree.specs.TreeView.{IsView}
use Rattle.ip_tree.specs.declared.look.Place.{Place}
use Rattle.ip_tree.specs.declared.tree.Tree as tree
use Rattle.ip_tree.proofs.Found.{place_found, subtree_on}
use Rattle.ip_tree.proofs.GotAt.{empty_on}
use Rattle.ip_differ.specs.Differing.{Differs, IsDirectoryAt, entry_in}
use Rattle.ip_differ.specs.declared.pairs.Pair.{Pair}
use Rattle.ip_three.specs.Going.{IsBehind, IsLess, PlansAt, PlansUnder}
use Rattle.ip_three.specs.Merging.{is_merged}
use Rattle.ip_three.specs.Walking.{AreTaken, Begins, Walked, as_plan}
use Rattle.ip_three.specs.declared.plan.Plan as code
use Rattle.ip_three.proofs.Alike.{alike_at}
use Rattle.ip_three.proofs.Elements.{contains_cases, contains_first, contains_none, contains_rest}
use Rattle.ip_three.proofs.Entries.{IsAhead, PlansPassed, ahead_first, ahead_next, begins, ends, goes_next}

-- ---- entries in order

and_first : (a b : Bool) → T (a && b) → T a
and_first true b is = tt
and_first false b is = is

and_second : (a b : Bool) → T (a && b) → T b
and_second true b is = is
and_second false b is = absurd is

less_is : (o : Ordering) → T (is_lt o) → o ≡ Less
less_is Less is = refl
less_is Equal is = absurd is
less_is Greater is = absurd is

below_each : (s : Step) (es : List (Step × Pair)) → T (below_all bytes_cmp s es) → (e : Step × Pair) → Contains es e → bytes_cmp s e.0 ≡ Less
below_each s [] below e m = absurd (contains_none e m)
below_each s (d ∷ es) below e m =
    elim (contains_cases d es e m) [ inl is ↦ subst (λ (x : Step × Pair). bytes_cmp s x.0 ≡ Less) is (less_is _ (and_first _ _ below)) | inr rest ↦ below_each s es (and_second _ _ below) e rest ]

find_each : (es : List (Step × Pair)) → T (is_sorted bytes_cmp es) → (e : Step × Pair) → Contains es e → find bytes_cmp e.0 es ≡ Some e.1
find_each [] sorted e m = absurd (contains_none e m)
find_each (d ∷ es) sorted e m = elim (contains_cases d es e m) [ inl is ↦ subst (λ (x : Step × Pair). find bytes_cmp x.0 (d ∷ es) ≡ Some x.1) is here | inr rest ↦ later rest (find_each es (and_second _ _ sorted) e rest) ]
  where
    here : find bytes_cmp d.0 (d ∷ es) ≡ Some d.1
    here = ap (λ o. cond (is_eq o) (Some d.1) (find bytes_cmp d.0 es)) (step_itself d.0)

    later : Contains es e → find bytes_cmp e.0 es ≡ Some e.1 → find bytes_cmp e.0 (d ∷ es) ≡ Some e.1
    later rest found =
        ap (λ o. cond (is_eq o) (Some d.1) (find bytes_cmp e.0 es)) (nat_list_cmp_total.antisymm e.0 d.0 ∙ ap ordering_reverse (below_each d.0 es (and_first _ _ sorted) e rest)) ∙ found

step_some : (path : Path) (s : Step) → is_nil (path ++ s ∷ []) ≡ false
step_some [] s = refl
step_some (k ∷ path) s = refl

-- what was found there tells the entries: contents have none
pub entries_at : (records : ℕ → Option Record) (w : View) (path : Path) (found : Option Node) → FindsIn records w path found → IsDirectoryAt records w path found
entries_at records w path None none = λ s. subst (λ (t : Tree). IsTrue (is_empty t)) (subtree_on w.map path (s ∷ [])) (empty_on (subtree w.map path) (s ∷ []) none)
entries_at records w path (Some n) is = place_found records w path n is

-- ---- between two steps

module _ (rule : Rule) (records : ℕ → Option Record) (b l r : View) (path : Path) (base right : Option Place) (old : code.Plan) where
  pub record Between (left : List (Step × Pair)) (now : tree.Tree) (plan : code.Plan) : Type 0 where
    pub view : IsView records now l
    pub passed : PlansPassed path rule b l r left (as_plan old) (as_plan plan)
    pub taken_there : AreTaken records r plan.come.items
    pub ahead : IsAhead path left (as_plan plan)
    pub sorted : T (is_sorted bytes_cmp left)
    pub each : (e : Step × Pair) → Contains left e → FindsIn records b (path ++ e.0 ∷ []) (entry_in base e.0 e.1.one) × FindsIn records r (path ++ e.0 ∷ []) (entry_in right e.0 e.1.other)

  -- what a step of the walk asks
  pub record Ready (mid : code.Plan) (at : Path) (one other : Option Node) : Type 0 where
    pub in_base : FindsIn records b at one
    pub in_right : FindsIn records r at other
    pub merged : IsTrue (is_merged b l r at)
    pub less : IsLess at (as_plan mid)

  pub first_between : (all : List (Step × Pair)) (now : tree.Tree) → T (is_sorted bytes_cmp all) → ((s : Step) → Differs records b r path path base right s (find bytes_cmp s all)) → IsView records now l → Begins rule records b l r old
      → IsBehind path (as_plan old) → Between all now old
  first_between all now sorted differs view begin behind = record {
    view = view;
    passed = begins path rule b l r all (as_plan old) begin.plan (λ s none. alike_at records b r (path ++ s ∷ []) (step_some path s) (subst (Differs records b r path path base right s) none (differs s)));
    taken_there = begin.taken_there;
    ahead = ahead_first path rule b l r all (as_plan old) behind;
    sorted = sorted;
    each = λ e m. subst (Differs records b r path path base right e.0) (find_each all sorted e m) (differs e.0);
  }

  module _ (e : Step × Pair) (left : List (Step × Pair)) (now : tree.Tree) (mid : code.Plan) (before : Between (e ∷ left) now mid) where
    pub begins_next : Begins rule records b l r old → Begins rule records b l r mid
    begins_next begin = record {
      only = begin.only;
      base = begin.base;
      left = begin.left;
      right = begin.right;
      plan = before.passed.plan;
      taken_there = before.taken_there;
    }

    next_between : (new : tree.Tree) (plan : code.Plan) → IsView records new l → Walked (PlansAt rule b l r (path ++ e.0 ∷ [])) records r mid plan → Between left new plan
    next_between new plan view at = record {
      view = view;
      passed = goes_next path rule b l r e left (as_plan old) (as_plan mid) (as_plan plan) before.passed at.plans;
      taken_there = at.taken_there;
      ahead = ahead_next path rule b l r e left (as_plan mid) (as_plan plan) (below_each e.0 left (and_first _ _ before.sorted)) before.ahead at.plans;
      sorted = and_second _ _ before.sorted;
      each = λ d m. before.each d (contains_rest e left d m);
    }

    -- at this path the code finds these
    module _ (at : Path) (is : at ≡ path ++ e.0 ∷ []) where
      pub ready_next : (one other : Option Node) → one ≡ entry_in base e.0 e.1.one → other ≡ entry_in right e.0 e.1.other → ((s : Step) → IsTrue (is_merged b l r (path ++ s ∷ []))) → Ready mid at one other
      ready_next one other one_is other_is merged = let found = before.each e (contains_first e left) in record {
        in_base = subst (λ (p : Path). FindsIn records b p one) (sym is) (subst (FindsIn records b (path ++ e.0 ∷ [])) (sym one_is) found.0);
        in_right = subst (λ (p : Path). FindsIn records r p other) (sym is) (subst (FindsIn records r (path ++ e.0 ∷ [])) (sym other_is) found.1);
        merged = ap (is_merged b l r) is ∙ merged e.0;
        less = subst (λ (p : Path). IsLess p (as_plan mid)) (sym is) (before.ahead.less e (contains_first e left));
      }

      pub next_at : (new : tree.Tree) (plan : code.Plan) → IsView records new l → Walked (PlansAt rule b l r at) records r mid plan → Between left new plan
      next_at new plan view walked = next_between new plan view (subst (λ (p : Path). Walked (PlansAt rule b l r p) records r mid plan) is walked)

  pub last_between : (now : tree.Tree) (plan : code.Plan) → Between [] now plan → IsView records now l × Walked (PlansUnder rule b l r path) records r old plan
  last_between now plan all = (all.view, record { plans = ends path rule b l r (as_plan old) (as_plan plan) all.passed; taken_there = all.taken_there })
