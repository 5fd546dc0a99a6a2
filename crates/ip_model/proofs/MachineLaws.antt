-- What the machine answers to the commands that only read commits, where nothing is met and no collection runs.
use Rattle.std.proofs.Common.{◌≡◌, inl, inr, ℕ, Bool, true, false, List, [], refl, ap, sym, subst, ◌∙◌, map, length, arith, nat_le, ◌==◌}
use Rattle.std.specs.List.{list_any}
use Rattle.std.specs.FinMap.Entries as E
use Rattle.std.specs.FinMap.Entries.{find}
use Rattle.std.specs.Cmp.Lexicographic.{nat_list_cmp_total}
use Rattle.std.proofs.lemmas.Option.{slice_get-map}
use Rattle.sha2.specs.Sha256.{sha256}
use Rattle.std.specs.Prelude.{◌⊎◌, Result, Ok, Err, IfOk, reverse, Option, Some, None, option_map, unwrap_or, slice_get, is_some, not, ◌&&◌}
use Rattle.ip_base.specs.declared.memory.Memory.{Memory}
use Rattle.ip_spec.specs.declared.reply.Reply.{Reply}
use Rattle.ip_spec.specs.declared.command.Target.{Target}
use Rattle.ip_spec.specs.declared.met.Child.TheVariants as Child
use Rattle.ip_spec.specs.Map.{empty, len, entries-insert}
use Rattle.ip_spec.specs.Path.{Bytes, Path, bytes_cmp}
use Rattle.ip_spec.specs.Tree.{got_at, no_tree}
use Rattle.ip_spec.specs.Repository as Repository
use Rattle.ip_spec.specs.Repository.{name_at, tree_at, next, no_repository}
use Rattle.ip_spec.specs.History.{ancestors, lcas}
use Rattle.ip_spec.specs.declared.command.Command.{Command}
use Rattle.ip_spec.specs.Machine.{State, Work, Phase, opened, empty_work}
use Rattle.ip_base.specs.declared.limit.Limit.TheVariants as Limit
use Rattle.ip_spec.specs.Step.{Refused, Turned, answer, outcome, quiet, or_refused, resolve, present, child_turn, commit_reply, got_reply, phase_at, not_leaving, room_for_branch, with_branch, with_parent, unless_some, below, refuse_if, ◌>>◌, ◌>>=◌}
use Rattle.ip_model.specs.Working.{IsWork, IsState, Models, TurnsTo, WorksTo, StepsTo, branch_after, lcas_after}
use Rattle.ip_model.specs.Commits.{IsOf, kept}
use Rattle.ip_model.specs.declared.machine.Machine as Kept
use Rattle.ip_model.specs.declared.work.Work as Held
use Rattle.ip_model.proofs.Kept.{size, place}
use Rattle.ip_model.proofs.WorkLaws.{none_given}

-- ---- replies that are given where memory suffices

pub replied : (r : Result Reply Memory) (x : Reply) (s : State) (a : Turned) → a ≡ (x, s) → IfOk r (λ reply. reply ≡ x) → IfOk r (λ reply. a ≡ (reply, s))
replied (Ok y) x s a is same = is ∙ ap (λ z. (z, s)) (sym same)
replied (Err e) x s a is same = tt

pub answered : (r : Result Reply Memory) (s : State) (a b : Turned) → a ≡ b → IfOk r (λ reply. b ≡ (reply, s)) → IfOk r (λ reply. a ≡ (reply, s))
answered (Ok y) s a b is same = is ∙ same
answered (Err e) s a b is same = tt

-- the same turn by another way
pub turned_so : (m : Kept.Machine) (r : Result Reply Memory) (a b : Turned) → a ≡ b → IfOk r (λ reply. TurnsTo b reply m) → IfOk r (λ reply. TurnsTo a reply m)
turned_so m (Ok reply) a b so (after, is, to) = (after, is, so ∙ to)
turned_so m (Err e) a b so is = tt

-- ---- answers by what was found

module _ (s : State) where
  show_open : (t : Target) → answer s (Command.Show t) quiet ≡ or_refused s (resolve s.repository t >>= λ n. Ok (commit_reply s.repository n, s))
  unfolding outcome
  show_open t = refl

  pub show_by : (t : Target) (found : Refused ℕ) → found ≡ resolve s.repository t → answer s (Command.Show t) quiet ≡ or_refused s (found >>= λ n. Ok (commit_reply s.repository n, s))
  show_by t found is = show_open t ∙ ap (λ (x : Refused ℕ). or_refused s (x >>= λ n. Ok (commit_reply s.repository n, s))) (sym is)

  log_open : (t : Target) → answer s (Command.Log t) quiet ≡ or_refused s (resolve s.repository t >>= λ n. Ok (Reply.Log (map (name_at s.repository) (reverse (ancestors s.repository n))), s))
  unfolding outcome
  log_open t = refl

  pub log_by : (t : Target) (found : Refused ℕ) → found ≡ resolve s.repository t → answer s (Command.Log t) quiet ≡ or_refused s (found >>= λ n. Ok (Reply.Log (map (name_at s.repository) (reverse (ancestors s.repository n))), s))
  log_by t found is = log_open t ∙ ap (λ (x : Refused ℕ). or_refused s (x >>= λ n. Ok (Reply.Log (map (name_at s.repository) (reverse (ancestors s.repository n))), s))) (sym is)

  abbrev both : ℕ → Target → Refused Turned
  both a other = resolve s.repository other >>= λ b. Ok (Reply.Lcas (map (name_at s.repository) (lcas s.repository a b)), s)

  lcas_open : (one other : Target) → answer s (Command.Lcas one other) quiet ≡ or_refused s (resolve s.repository one >>= λ a. both a other)
  unfolding outcome
  lcas_open one other = refl

  pub lcas_by : (one other : Target) (found : Refused ℕ) → found ≡ resolve s.repository one → answer s (Command.Lcas one other) quiet ≡ or_refused s (found >>= λ a. both a other)
  lcas_by one other found is = lcas_open one other ∙ ap (λ (x : Refused ℕ). or_refused s (x >>= λ a. both a other)) (sym is)

  pub lcas_then : (a : ℕ) (other : Target) (found : Refused ℕ) → found ≡ resolve s.repository other → lcas_after s a other ≡ or_refused s (found >>= λ b. Ok (Reply.Lcas (map (name_at s.repository) (lcas s.repository a b)), s))
  lcas_then a other found is = ap (λ (x : Refused ℕ). or_refused s (x >>= λ b. Ok (Reply.Lcas (map (name_at s.repository) (lcas s.repository a b)), s))) (sym is)

  cat_open : (t : Target) (p : Path) → answer s (Command.Cat t p) quiet ≡ or_refused s (resolve s.repository t >>= λ n. Ok (got_reply (got_at (tree_at s.repository n) p), s))
  unfolding outcome
  cat_open t p = refl

  pub cat_by : (t : Target) (p : Path) (found : Refused ℕ) → found ≡ resolve s.repository t → answer s (Command.Cat t p) quiet ≡ or_refused s (found >>= λ n. Ok (got_reply (got_at (tree_at s.repository n) p), s))
  cat_by t p found is = cat_open t p ∙ ap (λ (x : Refused ℕ). or_refused s (x >>= λ n. Ok (got_reply (got_at (tree_at s.repository n) p), s))) (sym is)

  pub hash_is : (bytes : Bytes) → answer s (Command.Hash bytes) quiet ≡ (Reply.Hash (sha256 bytes), s)
  unfolding outcome
  hash_is bytes = refl

  stat_open : answer s Command.Stat quiet ≡ (Reply.Stat s.repository.floor (next s.repository) (len s.repository.branches) (phase_at s.phase), s)
  unfolding outcome
  stat_open = refl

  module _ (m : Kept.Machine) (is : IsState m s) where
    pub stat_is : (count branches : ℕ) → count ≡ length m.commits → branches ≡ length m.branches.items → answer s Command.Stat quiet ≡ (Reply.Stat 0 count branches None, s)
    stat_is count branches many named =
        let floor = is.commits.floor in
        let long = size m.commits s.repository is.commits in
        let all : next s.repository ≡ count = omega (arith, floor, long, many) in
        stat_open ∙ λ i. (Reply.Stat (floor i) (all i) ((ap length (sym is.branches) ∙ sym named) i) (ap phase_at is.phase i), s)

    pub tree_found : (n : ℕ) → unwrap_or (slice_get m.trees.items n) [] ≡ (tree_at s.repository n).entries
    unfolding no_tree empty
    tree_found n =
        let r = s.repository in
        ap (λ ts. unwrap_or (slice_get ts n) []) is.trees ∙ (ap (λ o. unwrap_or o []) (slice_get-map (λ (c : Repository.Commit). c.tree.entries) r.commits n)
        ∙ (by (slice_get r.commits n) ∙ ap (λ o. (unwrap_or (option_map (λ (c : Repository.Commit). c.tree) o) no_tree).entries) (sym (place m.commits r is.commits n))))
      where
        by : (o : Option Repository.Commit) → unwrap_or (option_map (λ (c : Repository.Commit). c.tree.entries) o) [] ≡ (unwrap_or (option_map (λ (c : Repository.Commit). c.tree) o) no_tree).entries
        by None = refl
        by (Some c) = refl

-- no collection runs, which these ask of
abbrev collection_asked : Command → Type 0
collection_asked command = (command ≡ Command.Look) ⊎ (command ≡ Command.Finish) ⊎ (command ≡ Command.Cancel)

module _ (m : Kept.Machine) (s : State) (is : IsState m s) where
  looked : answer s Command.Look quiet ≡ (Reply.Idle, s)
  unfolding outcome
  looked = ap (λ p. or_refused s (present (phase_at p) Reply.Idle >>= λ c. child_turn s c quiet Child.NotAsked)) is.phase

  finished : answer s Command.Finish quiet ≡ (Reply.Idle, s)
  unfolding outcome
  finished = ap (λ p. or_refused s (present (phase_at p) Reply.Idle >>= λ c. child_turn s c quiet Child.NotAsked)) is.phase

  cancelled : answer s Command.Cancel quiet ≡ (Reply.Idle, s)
  unfolding outcome
  cancelled = ap (λ p. or_refused s (present (phase_at p) Reply.Idle >> Ok (Reply.Cancelled, record s { phase = Phase.Idle }))) is.phase

  pub idle_told : (command : Command) → collection_asked command → Models s command (Some Reply.Idle) m
  idle_told command (inl e) = subst (λ (k : Command). Models s k (Some Reply.Idle) m) (sym e) (Reply.Idle, refl, (s, is, looked))
  idle_told command (inr (inl e)) = subst (λ (k : Command). Models s k (Some Reply.Idle) m) (sym e) (Reply.Idle, refl, (s, is, finished))
  idle_told command (inr (inr e)) = subst (λ (k : Command). Models s k (Some Reply.Idle) m) (sym e) (Reply.Idle, refl, (s, is, cancelled))

-- ---- commands that change the work alone

begun : (s : State) → answer s Command.Empty quiet ≡ (Reply.Accepted, record s { work = empty_work })
unfolding outcome
begun s = refl

module _ (m : Kept.Machine) (s : State) (is : IsState m s) (w : Held.Work) where
  abbrev worked : (v : Work) → IsWork w v → IsState (record m { work = w }) (record s { work = v })
  worked v isw = record { phase = is.phase; commits = is.commits; trees = is.trees; branches = is.branches; work = isw }

  pub emptied : IsWork w empty_work → StepsTo s Command.Empty Reply.Accepted (record m { work = w })
  emptied isw = (record s { work = empty_work }, worked empty_work isw, begun s)

  pub work_turned : (turned : Turned) (r : Result Reply Memory) → IfOk r (λ reply. WorksTo s turned reply w) → IfOk r (λ reply. TurnsTo turned reply (record m { work = w }))
  work_turned turned (Ok reply) (v, isw, so) = (record s { work = v }, worked v isw, so)
  work_turned turned (Err e) so = tt

-- ---- branches

module _ (s : State) where
  branch_open : (name : Bytes) (t : Target) → answer s (Command.Branch name t) quiet ≡ or_refused s (resolve s.repository t >>= λ n. not_leaving s (Some n) >> (room_for_branch s.repository name >> Ok (Reply.Accepted, record s { repository = with_branch s.repository name n })))
  unfolding outcome
  branch_open name t = refl

  pub branch_by : (name : Bytes) (t : Target) (found : Refused ℕ) → found ≡ resolve s.repository t → answer s (Command.Branch name t) quiet ≡ or_refused s (found >>= λ n. not_leaving s (Some n) >> (room_for_branch s.repository name >> Ok (Reply.Accepted, record s { repository = with_branch s.repository name n })))
  branch_by name t found is = branch_open name t ∙ ap (λ (x : Refused ℕ). or_refused s (x >>= λ n. not_leaving s (Some n) >> (room_for_branch s.repository name >> Ok (Reply.Accepted, record s { repository = with_branch s.repository name n })))) (sym is)

module _ (m : Kept.Machine) (s : State) (is : IsState m s) (name : Bytes) (n : ℕ) (full : Bool) (test : full ≡ (not (is_some (find bytes_cmp name m.branches.items)) && nat_le 4096 (length m.branches.items))) where
  no_room : (not (is_some (find bytes_cmp name s.repository.branches.entries)) && nat_le 4096 (length s.repository.branches.entries)) ≡ full
  no_room = sym (test ∙ ap (λ (es : List (Bytes × ℕ)). not (is_some (find bytes_cmp name es)) && nat_le 4096 (length es)) is.branches)

  abbrev by_room : Phase → Bool → Turned
  by_room phase b = or_refused s (not_leaving (record s { phase = phase }) (Some n) >> (refuse_if b (Reply.Limit Limit.Branches) >> Ok (Reply.Accepted, record s { repository = with_branch s.repository name n })))

  after_room : branch_after s name n ≡ by_room Phase.Idle full
  after_room = ap (λ p. by_room p (not (is_some (find bytes_cmp name s.repository.branches.entries)) && nat_le 4096 (length s.repository.branches.entries))) is.phase ∙ ap (by_room Phase.Idle) no_room

  pub branch_full : full ≡ true → TurnsTo (branch_after s name n) (Reply.Limit Limit.Branches) m
  branch_full t = (s, is, after_room ∙ ap (by_room Phase.Idle) t)

  pub branch_set : full ≡ false → (m' : Kept.Machine) → m'.commits ≡ m.commits → m'.trees.items ≡ m.trees.items → m'.work ≡ m.work → m'.branches.items ≡ E.put bytes_cmp name n m.branches.items → TurnsTo (branch_after s name n) Reply.Accepted m'
  branch_set t m' commits trees work put =
      let held : IsState m' (record s { repository = with_branch s.repository name n }) = record {
        phase = is.phase;
        commits = subst (λ cs. IsOf cs (with_branch s.repository name n)) (sym commits) (record { floor = is.commits.floor; commits = is.commits.commits });
        trees = trees ∙ is.trees;
        branches = put ∙ (ap (E.put bytes_cmp name n) is.branches ∙ sym (entries-insert nat_list_cmp_total s.repository.branches name n));
        work = subst (λ w. IsWork w s.work) (sym work) is.work;
      } in
      (record s { repository = with_branch s.repository name n }, held, after_room ∙ ap (by_room Phase.Idle) t)

-- ---- parents

module _ (m : Kept.Machine) (s : State) (is : IsState m s) where
  abbrev parent_given : Option ℕ → Refused ℕ → Turned
  parent_given given found = or_refused s (unless_some given Reply.GivenUp >> (found >>= λ n. with_parent s n (list_any (λ p. p == n) s.work.parents)))

  parent_open : (t : Target) → answer s (Command.Parent t) quiet ≡ parent_given (below s.repository.floor s.work.least) (resolve s.repository t)
  unfolding outcome
  parent_open t = refl

  pub parent_found : (t : Target) (found : Refused ℕ) → found ≡ resolve s.repository t → answer s (Command.Parent t) quiet ≡ parent_given None found
  parent_found t found so = parent_open t ∙ (ap (λ g. parent_given g (resolve s.repository t)) (none_given s is.commits.floor) ∙ ap (parent_given None) (sym so))

pub fresh : (m : Kept.Machine) → m.commits ≡ [] → m.trees.items ≡ [] → m.branches.items ≡ [] → IsWork m.work empty_work → IsState m (opened no_repository)
unfolding no_repository empty
fresh m commits trees branches work = record {
  phase = refl;
  commits = record { floor = refl; commits = sym (ap (map kept) commits) };
  trees = trees;
  branches = branches;
  work = work;
}
