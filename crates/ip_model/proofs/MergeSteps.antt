-- What the machine may answer to `merge`, where nothing is met and no collection runs.
use Rattle.std.proofs.Common.{◌≡◌, ℕ, ◌≤◌, ◌<◌, ◌==◌, Bool, true, false, List, [], ◌∷◌, ◌++◌, refl, ap, sym, subst, ◌∙◌, map, length, inl, inr, arith, nat_lt}
use Rattle.std.proofs.lemmas.Bool.Decides.{nat_tests}
use Rattle.std.proofs.lemmas.List.{map-append}
use Rattle.std.proofs.lemmas.List.Elements.{All-nil, All-cons}
use Rattle.std.specs.Prelude.{◌⊎◌, Result, Ok, Err, IfOk, MatchResult, Option, Some, None, IfSome, IsSome, All, is_some, not, ◌&&◌, reverse, unwrap_or, option_map}
use Rattle.std.specs.Bool.{MatchBool}
use Rattle.std.specs.FinMap.Entries as E
use Rattle.std.specs.FinMap.Entries.{find}
use Rattle.std.specs.Cmp.Lexicographic.{nat_list_cmp_total}
use Rattle.ip_base.specs.declared.memory.Memory.{Memory}
use Rattle.ip_base.specs.declared.limit.Limit.TheVariants as Limit
use Rattle.ip_spec.specs.declared.merge.Merged.{Merged}
use Rattle.ip_spec.specs.declared.merge.Merged.TheVariants.{Keep}
use Rattle.ip_spec.specs.declared.reply.Reply.{Reply}
use Rattle.ip_spec.specs.declared.command.Target.{Target}
use Rattle.ip_spec.specs.Map.{get, entries-insert}
use Rattle.ip_spec.specs.Path.{Bytes, Path, bytes_cmp, IsPath}
use Rattle.ip_spec.specs.Record.{Hash, Info, IsBranchName}
use Rattle.ip_spec.specs.Tree.{Tree, IsTree, no_tree, widest}
use Rattle.ip_spec.specs.Repository as Repository
use Rattle.ip_spec.specs.Repository.{Repository, IsRepository, IsCommit, commit_at, head, name_at, next, number_named, tree_at}
use Rattle.ip_spec.specs.History.{is_ancestor, is_proper_ancestor, lcas}
use Rattle.ip_spec.specs.Machine.{State, Phase}
use Rattle.ip_spec.specs.Merge.{Meaning, Rule, Outcome, merged, conflict_at, Decides, Results, Merges}
use Rattle.ip_spec.specs.MergeModel.{base_of}
use Rattle.ip_spec.specs.Step.{Refused, Turned, Base, of_none, of_one, quiet, or_refused, present, resolve, refuse_if, not_leaving, within_limits, longest_value, contents_limit, entries_limit, tree_of_outcome, with_branch, with_commit, with_merge, new_commit, forward_turn, not_existing, Joins, MergesInto, both_named, ◌>>=◌, ◌>>◌}
use Rattle.ip_spec.proofs.Subtrees.{get-no_tree}
use Rattle.ip_spec.proofs.Widths.{none_wider}
use Rattle.ip_model.specs.declared.commits.Commit.{Commit}
use Rattle.ip_model.specs.declared.machine.Machine as Kept
use Rattle.ip_model.specs.Commits.{IsOf, IsNext, name_in}
use Rattle.ip_model_trees.specs.Small.{IsSmall}
use Rattle.ip_model.specs.Working.{IsWork, IsState, TurnsTo}
use Rattle.ip_model.specs.MergeTurns.{ComesTo, FromNumber, MergesFrom, MergesOn, IntoHead, JoinsTo, HasShortSteps, kept_after, added_after}
use Rattle.ip_model.proofs.Kept.{size, named}

-- ---- the commits that are named

abbrev with_head : Refused ℕ → ℕ → Refused (ℕ × ℕ)
with_head heads number = heads >>= λ h. Ok (number, h)

abbrev both_by : Refused ℕ → Refused ℕ → Refused (ℕ × ℕ)
both_by heads numbers = numbers >>= with_head heads

module _ (rule : Rule) (s : State) (target : Target) (branch : Bytes) (info : Info) (m : Kept.Machine) where
  on_number : (n : ℕ) → Ok n ≡ resolve s.repository target → (reply : Reply) → MergesFrom rule s n branch info reply m → MergesOn rule s target branch info reply m
  on_number n found reply (refused, allowed, (t, is, told)) =
      (t, is, (refused, sym told, subst (λ (x : Refused ℕ). MatchResult (both_by (present (head s.repository branch) (Reply.NoBranch branch)) x) (λ both. MergesInto rule s quiet both.0 branch both.1 info refused) (λ reply. refused ≡ Err reply)) found (by (present (head s.repository branch) (Reply.NoBranch branch)) allowed)))
    where
      by : (x : Refused ℕ) → MatchResult x (λ h. MergesInto rule s quiet n branch h info refused) (λ reply. refused ≡ Err reply) → MatchResult (with_head x n) (λ both. MergesInto rule s quiet both.0 branch both.1 info refused) (λ reply. refused ≡ Err reply)
      by (Ok h) allowed = allowed
      by (Err reply) allowed = allowed

  pub commit_found : (n : ℕ) → Ok n ≡ resolve s.repository target → (r : Result Reply Memory) → IfOk r (λ reply. MergesFrom rule s n branch info reply m) → IfOk r (λ reply. MergesOn rule s target branch info reply m)
  commit_found n found (Ok reply) merges = on_number n found reply merges
  commit_found n found (Err e) merges = tt

  pub commit_missing : (reply : Reply) → Err reply ≡ resolve s.repository target → IsState m s → MergesOn rule s target branch info reply m
  commit_missing reply found is =
      (s, is, (Err reply, refl, subst (λ (x : Refused ℕ). MatchResult (both_by (present (head s.repository branch) (Reply.NoBranch branch)) x) (λ both. MergesInto rule s quiet both.0 branch both.1 info (Err reply)) (λ r. ◌≡◌ {A = Refused Turned} (Err reply) (Err r))) found refl))

module _ (rule : Rule) (s : State) (n : ℕ) (branch : Bytes) (info : Info) where
  abbrev named_by : Option ℕ → Refused Turned → Type 0
  named_by o refused = MatchResult (present o (Reply.NoBranch branch)) (λ h. MergesInto rule s quiet n branch h info refused) (λ reply. refused ≡ Err reply)

  at_head : (old new : Kept.Machine) → IsState old s → (h : ℕ) → Ok h ≡ present (find bytes_cmp branch old.branches.items) (Reply.NoBranch branch) → (reply : Reply) → IntoHead rule s n branch h info reply new → MergesFrom rule s n branch info reply new
  at_head old new is h found reply (refused, allowed, told) =
      (refused, subst (λ es. named_by (find bytes_cmp branch es) refused) is.branches (subst (λ (x : Refused ℕ). MatchResult x (λ h. MergesInto rule s quiet n branch h info refused) (λ reply. refused ≡ Err reply)) found allowed), told)

  pub head_found : (old new : Kept.Machine) → IsState old s → (h : ℕ) → Ok h ≡ present (find bytes_cmp branch old.branches.items) (Reply.NoBranch branch) → (r : Result Reply Memory) → IfOk r (λ reply. IntoHead rule s n branch h info reply new) → IfOk r (λ reply. MergesFrom rule s n branch info reply new)
  head_found old new is h found (Ok reply) merges = at_head old new is h found reply merges
  head_found old new is h found (Err e) merges = tt

  pub head_missing : (m : Kept.Machine) → IsState m s → (reply : Reply) → Err reply ≡ present (find bytes_cmp branch m.branches.items) (Reply.NoBranch branch) → MergesFrom rule s n branch info reply m
  head_missing m is reply found =
      (Err reply, subst (λ es. named_by (find bytes_cmp branch es) (Err reply)) is.branches (subst (λ (x : Refused ℕ). MatchResult x (λ h. MergesInto rule s quiet n branch h info (Err reply)) (λ r. ◌≡◌ {A = Refused Turned} (Err reply) (Err r))) found refl), (s, is, refl))

-- a branch is at a commit that is there
pub head_below : (m : Kept.Machine) (s : State) → IsState m s → IsRepository s.repository → (branch : Bytes) (h : ℕ) → Ok h ≡ present (find bytes_cmp branch m.branches.items) (Reply.NoBranch branch) → h < next s.repository
head_below m s is good branch h found = by (head s.repository branch) (good.branches.each branch) (found ∙ ap (λ es. present (find bytes_cmp branch es) (Reply.NoBranch branch)) is.branches)
  where
    by : (o : Option ℕ) → IfSome o (λ k. IsBranchName branch × (s.repository.floor ≤ k) × (k < next s.repository)) → Ok h ≡ present o (Reply.NoBranch branch) → h < next s.repository
    by None low e = absurd (cc (e))
    by (Some k) low e = let same : h ≡ k = cc (e) in subst (λ x. x < next s.repository) (sym same) low.2

-- ---- ancestors

equal_numbers : (a b : ℕ) → (a == b) ≡ true → a ≡ b
equal_numbers a b e = grind (arith, nat_tests)

module _ (rule : Rule) (s : State) (n : ℕ) (branch : Bytes) (h : ℕ) (info : Info) where
  pub current : (m : Kept.Machine) → IsState m s → h < next s.repository → is_ancestor s.repository n h ≡ true → (name : Hash) → name ≡ name_in m.commits h → IntoHead rule s n branch h info (Reply.Current name) m
  current m is low above name told =
      let floor = is.commits.floor in
      let long = size m.commits s.repository is.commits in
      let there : h < length m.commits = omega (arith, low, floor, long) in
      let same : name ≡ name_at s.repository h = told ∙ named m.commits s.repository is.commits h there in
      let refused : Refused Turned = Ok (Reply.Current (name_at s.repository h), s) in (
        refused,
        subst (λ b. MatchBool b (refused ≡ Ok (Reply.Current (name_at s.repository h), s)) (MatchBool (is_proper_ancestor s.repository h n) (refused ≡ forward_turn s quiet n branch) (Joins rule s quiet n branch h info refused))) (sym above) refl,
        (s, is, ap (λ x. (Reply.Current x, s)) (sym same)),
      )

  apart : is_ancestor s.repository n h ≡ false → is_ancestor s.repository h n ≡ true → (b : Bool) → (h == n) ≡ b → b ≡ false
  apart one other true e =
      let same : h ≡ n = equal_numbers h n e in
      let turned : is_ancestor s.repository n h ≡ is_ancestor s.repository h n = (λ i. is_ancestor s.repository (sym same i) (same i)) in
      absurd (cc (one, other, turned))
  apart one other false e = refl

  forward_so : is_ancestor s.repository n h ≡ false → is_ancestor s.repository h n ≡ true → (m : Kept.Machine) (reply : Reply) → TurnsTo (or_refused s (forward_turn s quiet n branch)) reply m → IntoHead rule s n branch h info reply m
  forward_so one other m reply turns =
      let refused = forward_turn s quiet n branch in
      let proper : is_proper_ancestor s.repository h n ≡ true = (λ i. other i && not (apart one other (h == n) refl i)) in (
        refused,
        subst (λ b. MatchBool b (refused ≡ Ok (Reply.Current (name_at s.repository h), s)) (MatchBool (is_proper_ancestor s.repository h n) (refused ≡ forward_turn s quiet n branch) (Joins rule s quiet n branch h info refused))) (sym one)
            (subst (λ b. MatchBool b (refused ≡ forward_turn s quiet n branch) (Joins rule s quiet n branch h info refused)) (sym proper) refl),
        turns,
      )

  pub forwards : is_ancestor s.repository n h ≡ false → is_ancestor s.repository h n ≡ true → (m : Kept.Machine) (r : Result Reply Memory) → IfOk r (λ reply. TurnsTo (or_refused s (forward_turn s quiet n branch)) reply m) → IfOk r (λ reply. IntoHead rule s n branch h info reply m)
  forwards one other m (Ok reply) turns = forward_so one other m reply turns
  forwards one other m (Err e) turns = tt

  join_so : is_ancestor s.repository n h ≡ false → is_ancestor s.repository h n ≡ false → (m : Kept.Machine) (reply : Reply) → JoinsTo rule s n branch h info reply m → IntoHead rule s n branch h info reply m
  join_so one other m reply (refused, joins, turns) =
      let proper : is_proper_ancestor s.repository h n ≡ false = ap (λ b. b && not (h == n)) other in (
        refused,
        subst (λ b. MatchBool b (refused ≡ Ok (Reply.Current (name_at s.repository h), s)) (MatchBool (is_proper_ancestor s.repository h n) (refused ≡ forward_turn s quiet n branch) (Joins rule s quiet n branch h info refused))) (sym one)
            (subst (λ b. MatchBool b (refused ≡ forward_turn s quiet n branch) (Joins rule s quiet n branch h info refused)) (sym proper) joins),
        turns,
      )

  pub joins : is_ancestor s.repository n h ≡ false → is_ancestor s.repository h n ≡ false → (m : Kept.Machine) (r : Result Reply Memory) → IfOk r (λ reply. JoinsTo rule s n branch h info reply m) → IfOk r (λ reply. IntoHead rule s n branch h info reply m)
  joins one other m (Ok reply) turns = join_so one other m reply turns
  joins one other m (Err e) turns = tt

pub forwarded : (old new : Kept.Machine) (s : State) → IsState old s → (n : ℕ) (branch : Bytes) → n < next s.repository → new.commits ≡ old.commits → new.trees.items ≡ old.trees.items → new.work ≡ old.work → new.branches.items ≡ E.put bytes_cmp branch n old.branches.items
    → (name : Hash) → name ≡ name_in new.commits n → TurnsTo (or_refused s (forward_turn s quiet n branch)) (Reply.Forward name) new
forwarded old new s is n branch low commits trees work branches name told =
    let floor = is.commits.floor in
    let long = size old.commits s.repository is.commits in
    let there : n < length old.commits = omega (arith, low, floor, long) in
    let same : name ≡ name_at s.repository n = told ∙ (ap (λ (cs : List Commit). name_in cs n) commits ∙ named old.commits s.repository is.commits n there) in
    let after : State = record s { repository = with_branch s.repository branch n } in
    let held : IsState new after = record {
      phase = is.phase;
      commits = subst (λ cs. IsOf cs (with_branch s.repository branch n)) (sym commits) (record { floor = is.commits.floor; commits = is.commits.commits });
      trees = trees ∙ is.trees;
      branches = branches ∙ (ap (E.put bytes_cmp branch n) is.branches ∙ sym (entries-insert nat_list_cmp_total s.repository.branches branch n));
      work = subst (λ w. IsWork w s.work) (sym work) is.work;
    } in
    (after, held, ap (λ (x : Hash). (Reply.Forward x, after)) (sym same))

-- ---- the ancestor's tree

base_is : (rule : Rule) (r : Repository) (cs : List ℕ) → length cs ≤ 1 → Base rule r (reverse cs) (Ok (base_of r cs))
base_is rule r [] few = of_none
base_is rule r (c ∷ []) few = of_one c
base_is rule r (c ∷ d ∷ cs) few = absurd (omega (arith, few))

module _ (rule : Rule) (s : State) (idle : s.phase ≡ Phase.Idle) (n : ℕ) (branch : Bytes) (h : ℕ) (info : Info) where
  abbrev common : List ℕ
  common = lcas s.repository h n

  abbrev joins_by : Phase → Bool → Refused Turned → Type 0
  joins_by phase many turned =
      MatchResult (not_leaving (record s { phase = phase }) (Some n) >> refuse_if many (Reply.Bases (length common)))
      (λ _. (base : Refused Tree) × Base rule s.repository (reverse common) base × MatchResult base
      (λ o. (m : Outcome) × Merges rule o (tree_at s.repository h) (tree_at s.repository n) m × (turned ≡ (tree_of_outcome m >>= with_merge s quiet n branch h info)))
      (λ reply. turned ≡ Err reply))
      (λ reply. turned ≡ Err reply)

  pub several : (m : Kept.Machine) → IsState m s → (count : ℕ) → 1 < length common → count ≡ length common → JoinsTo rule s n branch h info (Reply.Bases count) m
  several m is count many same =
      let more : nat_lt 1 (length common) ≡ true = grind (arith, nat_tests, many) in
      let refused : Refused Turned = Err (Reply.Bases (length common)) in
      (refused, subst (λ p. joins_by p (nat_lt 1 (length common)) refused) (sym idle) (subst (λ b. joins_by Phase.Idle b refused) (sym more) refl), (s, is, ap (λ k. (Reply.Bases k, s)) (sym same)))

  outcome_told : length common ≤ 1 → (t : Outcome) → Merges rule (base_of s.repository common) (tree_at s.repository h) (tree_at s.repository n) t → (m : Kept.Machine) (reply : Reply)
      → TurnsTo (or_refused s (tree_of_outcome t >>= with_merge s quiet n branch h info)) reply m → JoinsTo rule s n branch h info reply m
  outcome_told few t merges m reply turns =
      let less : nat_lt 1 (length common) ≡ false = grind (arith, nat_tests, few) in
      let refused = tree_of_outcome t >>= with_merge s quiet n branch h info in (
        refused,
        subst (λ p. joins_by p (nat_lt 1 (length common)) refused) (sym idle) (subst (λ b. joins_by Phase.Idle b refused) (sym less) (Ok (base_of s.repository common), base_is rule s.repository common few, (t, merges, refl))),
        turns,
      )

  pub conflicting : length common ≤ 1 → (p : Path) → Merges rule (base_of s.repository common) (tree_at s.repository h) (tree_at s.repository n) (conflict_at p) → (m : Kept.Machine) → IsState m s → JoinsTo rule s n branch h info (Reply.Conflict p) m
  conflicting few p merges m is = outcome_told few (conflict_at p) merges m (Reply.Conflict p) (s, is, refl)

  pub merging : length common ≤ 1 → (t : Tree) → Merges rule (base_of s.repository common) (tree_at s.repository h) (tree_at s.repository n) (merged t) → (m : Kept.Machine) (r : Result Reply Memory) → IfOk r (λ reply. TurnsTo (kept_after s n branch h info t) reply m) → IfOk r (λ reply. JoinsTo rule s n branch h info reply m)
  merging few t merges m (Ok reply) turns = outcome_told few (merged t) merges m reply turns
  merging few t merges m (Err e) turns = tt

-- ---- the merge of trees with short steps has short steps

tree_lawful : (r : Repository) → IsRepository r → (n : ℕ) (p : Path) → IsSome (get (tree_at r n) p) → IsPath p
tree_lawful r good n p there = by (commit_at r n) (good.commits n) there
  where
    by : (o : Option Repository.Commit) → IfSome o (λ c. IsCommit n c) → IsSome (get (unwrap_or (option_map (λ (c : Repository.Commit). c.tree) o) no_tree) p) → IsPath p
    by None is there = absurd (cc (there, get-no_tree p))
    by (Some c) is there = is.tree.paths p there

base_lawful : (r : Repository) → IsRepository r → (cs : List ℕ) (p : Path) → IsSome (get (base_of r cs) p) → IsPath p
base_lawful r good [] p there = absurd (cc (there, get-no_tree p))
base_lawful r good (c ∷ cs) p there = tree_lawful r good c p there

stood : (means : Meaning) (o a b : Option Bytes) (v : Bytes) → Decides means o a b (Keep (Some v)) → IsSome o ⊎ IsSome a ⊎ IsSome b
stood means None None None v is = absurd (cc (is))
stood means (Some x) a b v is = inl refl
stood means None (Some x) b v is = inr (inl refl)
stood means None None (Some x) v is = inr (inr refl)

pub short_merge : (rule : Rule) (s : State) → IsRepository s.repository → (n h : ℕ) (cs : List ℕ) (t : Tree) → Merges rule (base_of s.repository cs) (tree_at s.repository h) (tree_at s.repository n) (merged t) → HasShortSteps t
short_merge rule s good n h cs t merges path some = by (get t path) refl some
  where
    short : IsPath path → All (λ step. length step ≤ 255) path
    short is k d low = (is.each k d low).short

    from : IsSome (get (base_of s.repository cs) path) ⊎ IsSome (get (tree_at s.repository h) path) ⊎ IsSome (get (tree_at s.repository n) path) → IsPath path
    from (inl there) = base_lawful s.repository good cs path there
    from (inr (inl there)) = tree_lawful s.repository good h path there
    from (inr (inr there)) = tree_lawful s.repository good n path there

    by : (x : Option Bytes) → get t path ≡ x → IsSome x → All (λ step. length step ≤ 255) path
    by None e is = absurd (cc (is))
    by (Some v) e is = short (from (stood (rule path) (get (base_of s.repository cs) path) (get (tree_at s.repository h) path) (get (tree_at s.repository n) path) v (subst (λ x. Results rule (base_of s.repository cs) (tree_at s.repository h) (tree_at s.repository n) path (Keep x)) e (merges.0 path))))

pub small_merge : (t : Tree) → HasShortSteps t → widest t ≤ entries_limit → IsSmall t
small_merge t short narrow = record { steps = short; entries = λ path. let h = none_wider t path in omega (arith, h, narrow) }

-- ---- limits

module _ (s : State) (n : ℕ) (branch : Bytes) (h : ℕ) (info : Info) (t : Tree) where
  abbrev limited_by : Bool → Bool → Turned
  limited_by long wide = or_refused s ((refuse_if long (Reply.Limit Limit.Contents) >> (refuse_if wide (Reply.Limit Limit.Entries) >> Ok t)) >>= with_merge s quiet n branch h info)

  limits : (long wide : Bool) → nat_lt contents_limit (longest_value t) ≡ long → nat_lt entries_limit (widest t) ≡ wide → kept_after s n branch h info t ≡ limited_by long wide
  limits long wide a b = (λ i. limited_by (a i) (b i))

  pub too_long : contents_limit < longest_value t → kept_after s n branch h info t ≡ (Reply.Limit Limit.Contents, s)
  too_long more = let e : nat_lt contents_limit (longest_value t) ≡ true = grind (arith, nat_tests, more) in limits true _ e refl

  pub too_wide : longest_value t ≤ contents_limit → entries_limit < widest t → kept_after s n branch h info t ≡ (Reply.Limit Limit.Entries, s)
  too_wide few more =
      let e : nat_lt contents_limit (longest_value t) ≡ false = grind (arith, nat_tests, few) in
      let w : nat_lt entries_limit (widest t) ≡ true = grind (arith, nat_tests, more) in
      limits false true e w

  pub within : longest_value t ≤ contents_limit → widest t ≤ entries_limit → kept_after s n branch h info t ≡ added_after s n branch h info t
  within few narrow =
      let e : nat_lt contents_limit (longest_value t) ≡ false = grind (arith, nat_tests, few) in
      let w : nat_lt entries_limit (widest t) ≡ false = grind (arith, nat_tests, narrow) in
      limits false false e w

-- ---- the commit of the merge

module _ (m : Kept.Machine) (s : State) (is : IsState m s) (n : ℕ) (branch : Bytes) (h : ℕ) (info : Info) (t : Tree) where
  abbrev made : Repository.Commit
  made = new_commit s.repository t (h ∷ n ∷ []) info

  abbrev after : State
  after = record s { repository = with_commit s.repository made branch }

  abbrev Next : Bool → Reply → List Commit → Type 0
  Next b reply cs = MatchResult (refuse_if b (Reply.Existing made.name)) (λ _. (reply ≡ Reply.Committed made.name) × ((name : Bytes) → IsOf cs (with_commit s.repository made name))) (λ refused. (reply ≡ refused) × IsOf cs s.repository)

  abbrev named_so : Bool → Turned
  named_so b = or_refused s (refuse_if b (Reply.Existing made.name) >> Ok (Reply.Merged made.name, after))

  module _ (m' : Kept.Machine) where
    pub merge_made : (name : Hash) (place : ℕ) (tree : List (List Bytes × Bytes)) → tree ≡ t.entries → IsNext s.repository made (Reply.Committed name) m'.commits → place ≡ length m.commits → m'.trees.items ≡ m.trees.items ++ tree ∷ []
        → m'.branches.items ≡ E.put bytes_cmp branch place m.branches.items → m'.work ≡ m.work → TurnsTo (added_after s n branch h info t) (Reply.Merged name) m'
    merge_made name place tree same is_next count trees branches work = by (is_some (number_named s.repository made.name)) refl is_next
      where
        all : place ≡ next s.repository
        all = let many = size m.commits s.repository is.commits in let floor = is.commits.floor in omega (arith, count, floor, many)

        held : IsOf m'.commits (with_commit s.repository made branch) → IsState m' after
        held of = record {
          phase = is.phase;
          commits = of;
          trees = trees ∙ (ap (λ (ts : List (List (List Bytes × Bytes))). ts ++ tree ∷ []) is.trees
              ∙ (ap (λ (x : List (List Bytes × Bytes)). map (λ (c : Repository.Commit). c.tree.entries) s.repository.commits ++ x ∷ []) same
              ∙ sym (map-append (λ (c : Repository.Commit). c.tree.entries) s.repository.commits (made ∷ []))));
          branches = branches ∙ (ap (λ k. E.put bytes_cmp branch k m.branches.items) all ∙ (ap (E.put bytes_cmp branch (next s.repository)) is.branches
              ∙ sym (entries-insert nat_list_cmp_total s.repository.branches branch (next s.repository))));
          work = subst (λ w. IsWork w s.work) (sym work) is.work;
        }

        by : (b : Bool) → is_some (number_named s.repository made.name) ≡ b → Next b (Reply.Committed name) m'.commits → TurnsTo (added_after s n branch h info t) (Reply.Merged name) m'
        by true e next = absurd (cc (next.0))
        by false e next = let same : name ≡ made.name = cc (next.0) in (after, held (next.1 branch), ap named_so e ∙ ap (λ (x : Hash). (Reply.Merged x, after)) (sym same))

    pub merge_refused : (reply : Reply) → IsNext s.repository made reply m'.commits → ((name : Hash) → reply ≡ Reply.Committed name → ⊥) → m'.trees.items ≡ m.trees.items → m'.branches.items ≡ m.branches.items → m'.work ≡ m.work
        → TurnsTo (added_after s n branch h info t) reply m'
    merge_refused reply is_next not_made trees branches work = by (is_some (number_named s.repository made.name)) refl is_next
      where
        by : (b : Bool) → is_some (number_named s.repository made.name) ≡ b → Next b reply m'.commits → TurnsTo (added_after s n branch h info t) reply m'
        by true e next =
            let held : IsState m' s = record { phase = is.phase; commits = next.1; trees = trees ∙ is.trees; branches = branches ∙ is.branches; work = subst (λ w. IsWork w s.work) (sym work) is.work } in
            (s, held, ap named_so e ∙ ap (λ (r : Reply). (r, s)) (sym next.0))
        by false e next = absurd (not_made made.name next.0)

-- ---- the parents of the merge

pub both_few : (n h : ℕ) → length (h ∷ n ∷ []) ≤ 16
both_few n h = omega arith

pub both_low : (m : Kept.Machine) (s : State) → IsState m s → (n h : ℕ) → n < next s.repository → h < next s.repository → All (λ k. k < length m.commits) (h ∷ n ∷ [])
both_low m s is n h low high =
    let floor = is.commits.floor in
    let many = size m.commits s.repository is.commits in
    let a : n < length m.commits = omega (arith, low, floor, many) in
    let b : h < length m.commits = omega (arith, high, floor, many) in
    All-cons (λ k. k < length m.commits) h (n ∷ []) b (All-cons (λ k. k < length m.commits) n [] a (All-nil (λ k. k < length m.commits)))
