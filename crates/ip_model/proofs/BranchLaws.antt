-- What the machine answers to the commands on branches: `commit`, `branch-rm` and `branches`, where nothing is met and no collection runs.
use Rattle.std.proofs.Common.{◌≡◌, ℕ, ◌≤◌, ◌<◌, ◌==◌, Bool, true, false, List, [], ◌∷◌, ◌++◌, refl, ap, sym, subst, ◌∙◌, map, length, arith, nat_le}
use Rattle.std.specs.Prelude.{Ok, Option, Some, None, IfSome, MatchResult, All, is_some, not, ◌&&◌, if◌then◌else◌}
use Rattle.std.specs.FinMap.Entries as E
use Rattle.std.specs.FinMap.Entries.{find, where_key}
use Rattle.std.specs.Cmp.Lexicographic.{nat_list_cmp_total}
use Rattle.std.specs.List.{list_any}
use Rattle.std.proofs.lemmas.List.{map-append}
use Rattle.ip_spec.specs.declared.reply.Reply.{Reply}
use Rattle.ip_spec.specs.declared.reply.Head.{Head}
use Rattle.ip_spec.specs.declared.command.Command.TheVariants as Command
use Rattle.ip_base.specs.declared.limit.Limit.TheVariants as Limit
use Rattle.ip_spec.specs.Map.{get, retain_keys, remove, entries-insert}
use Rattle.ip_spec.specs.Path.{Bytes, bytes_cmp, same_bytes}
use Rattle.ip_spec.specs.Record.{Hash, Info, IsBranchName}
use Rattle.ip_spec.specs.Repository as Repository
use Rattle.ip_spec.specs.Repository.{Repository, IsRepository, head, name_at, next, number_named}
use Rattle.ip_spec.specs.Machine.{State, Phase}
use Rattle.ip_spec.specs.Step.{Turned, answer, outcome, quiet, or_refused, present, unless_some, refuse_if, below, moved_head, not_leaving, not_existing, new_commit, with_commit, head_of, ◌>>◌}
use Rattle.ip_spec.proofs.Naming.{Member, member_found}
use Rattle.ip_model.specs.declared.commits.Commit.{Commit}
use Rattle.ip_model.specs.declared.machine.Machine as Kept
use Rattle.ip_model.specs.Commits.{IsOf, IsNext, name_in}
use Rattle.ip_model.specs.Working.{IsWork, IsState, IsSound, TurnsTo, commit_after}
use Rattle.ip_model.proofs.Kept.{size, named}
use Rattle.ip_model.proofs.WorkLaws.{none_given}

-- ---- the commits at which branches are

-- a branch is at a commit that is there
pub head_low : (ms : List Commit) (r : Repository) → IsOf ms r → IsRepository r → (name : Bytes) (n : ℕ) → get r.branches name ≡ Some n → n < length ms
head_low ms r of is name n at =
    let there = subst (λ (o : Option ℕ). IfSome o (λ k. IsBranchName name × (r.floor ≤ k) × (k < next r))) at (is.branches.each name) in
    let low = there.2 in
    let floor = of.floor in
    let many = size ms r of in
    omega (arith, low, floor, many)

-- the work goes on from few commits, which are there
module _ (m : Kept.Machine) (s : State) (is : IsState m s) (sound : IsSound s) (ps : List ℕ) (are : ps ≡ m.work.parents) where
  pub parents_few : length ps ≤ 16
  parents_few = subst (λ (ns : List ℕ). length ns ≤ 16) (sym (are ∙ is.work.parents)) sound.few

  pub parents_low : All (λ n. n < length m.commits) ps
  parents_low = subst (λ ns. All (λ n. n < length m.commits) ns) (sym (are ∙ is.work.parents)) (λ k d l.
      let low = sound.parents k d l in
      let floor = is.commits.floor in
      let many = size m.commits s.repository is.commits in
      omega (arith, low, floor, many))

-- ---- `branches`

module _ (ms : List Commit) (r : Repository) (of : IsOf ms r) (is : IsRepository r) where
  abbrev told_head : Bytes × ℕ → Head
  told_head e = record { branch = e.0; name = name_in ms e.1 }

  heads_from : (es : List (Bytes × ℕ)) → ((e : Bytes × ℕ) → Member e es → e.1 < length ms) → map told_head es ≡ map (head_of r) es
  heads_from [] low = refl
  heads_from (e ∷ es) low =
      ap (λ (h : Hash). record { branch = e.0; name = h } ∷ map told_head es) (named ms r of e.1 (low e Member.here))
      ∙ ap (λ hs. head_of r e ∷ hs) (heads_from es (λ f m. low f (Member.there m)))

  heads_told : map told_head r.branches.entries ≡ map (head_of r) r.branches.entries
  heads_told = heads_from r.branches.entries (λ e m. head_low ms r of is e.0 e.1 (member_found bytes_cmp nat_list_cmp_total r.branches.entries e r.branches.sorted m))

branches_open : (s : State) → answer s Command.Branches quiet ≡ (Reply.Branches (map (head_of s.repository) s.repository.branches.entries), s)
unfolding outcome
branches_open s = refl

pub branches_are : (m : Kept.Machine) (s : State) → IsState m s → IsRepository s.repository → (heads : List Head) → heads ≡ map (λ (e : Bytes × ℕ). record { branch = e.0; name = name_in m.commits e.1 }) m.branches.items → answer s Command.Branches quiet ≡ (Reply.Branches heads, s)
branches_are m s is good heads are =
    let same : heads ≡ map (head_of s.repository) s.repository.branches.entries =
    are ∙ (ap (map (told_head m.commits s.repository is.commits good)) is.branches ∙ heads_told m.commits s.repository is.commits good) in
    branches_open s ∙ ap (λ (hs : List Head). (Reply.Branches hs, s)) (sym same)

-- ---- `branch-rm`

module _ (m : Kept.Machine) (s : State) (is : IsState m s) (name : Bytes) where
  abbrev removed : State
  removed = record s { repository = record s.repository { branches = remove s.repository.branches name } }

  abbrev removed_by : Option ℕ → Turned
  removed_by o = or_refused s (present o (Reply.NoBranch name) >> Ok (Reply.Accepted, removed))

  removed_open : answer s (Command.BranchRm name) quiet ≡ removed_by (head s.repository name)
  unfolding outcome
  removed_open = refl

  removed_at : (o : Option ℕ) → o ≡ find bytes_cmp name m.branches.items → answer s (Command.BranchRm name) quiet ≡ removed_by o
  removed_at o e = removed_open ∙ ap removed_by (sym (e ∙ ap (find bytes_cmp name) is.branches))

  left : (remove s.repository.branches name).entries ≡ where_key bytes_cmp (λ q. not (same_bytes name q)) s.repository.branches.entries
  unfolding retain_keys
  left = refl

  pub remove_none : (o : Option ℕ) → o ≡ find bytes_cmp name m.branches.items → is_some o ≡ false → (told : Bytes) → told ≡ name → TurnsTo (answer s (Command.BranchRm name) quiet) (Reply.NoBranch told) m
  remove_none None e t told same = (s, is, removed_at None e ∙ ap (λ (b : Bytes). (Reply.NoBranch b, s)) (sym same))
  remove_none (Some n) e t told same = absurd cc

  pub remove_some : (o : Option ℕ) → o ≡ find bytes_cmp name m.branches.items → is_some o ≡ true → (m' : Kept.Machine) → m'.commits ≡ m.commits → m'.trees.items ≡ m.trees.items → m'.work ≡ m.work
      → m'.branches.items ≡ where_key bytes_cmp (λ q. not (same_bytes name q)) m.branches.items → TurnsTo (answer s (Command.BranchRm name) quiet) Reply.Accepted m'
  remove_some None e t m' commits trees work branches = absurd cc
  remove_some (Some n) e t m' commits trees work branches =
      let held : IsState m' removed = record {
        phase = is.phase;
        commits = subst (λ cs. IsOf cs removed.repository) (sym commits) (record { floor = is.commits.floor; commits = is.commits.commits });
        trees = trees ∙ is.trees;
        branches = branches ∙ (ap (where_key bytes_cmp (λ q. not (same_bytes name q))) is.branches ∙ sym left);
        work = subst (λ w. IsWork w s.work) (sym work) is.work;
      } in
      (removed, held, removed_at (Some n) e)

-- ---- `commit`

module _ (m : Kept.Machine) (s : State) (is : IsState m s) (branch : Bytes) (info : Info) where
  abbrev made : Repository.Commit
  made = new_commit s.repository s.work.tree s.work.parents info

  abbrev after : State
  after = record s { repository = with_commit s.repository made branch; work = record { tree = s.work.tree; parents = next s.repository ∷ []; least = Some (next s.repository) } }

  abbrev Next : Bool → Reply → List Commit → Type 0
  Next b reply cs = MatchResult (refuse_if b (Reply.Existing made.name)) (λ _. (reply ≡ Reply.Committed made.name) × ((name : Bytes) → IsOf cs (with_commit s.repository made name))) (λ refused. (reply ≡ refused) × IsOf cs s.repository)

  abbrev named_by : Bool → Turned
  named_by b = or_refused s (refuse_if b (Reply.Existing made.name) >> Ok (Reply.Committed made.name, after))

  module _ (m' : Kept.Machine) where
    pub commit_made : (name : Hash) (n : ℕ) → IsNext s.repository made (Reply.Committed name) m'.commits → n ≡ length m.commits → m'.trees.items ≡ m.trees.items ++ m.work.tree ∷ []
        → m'.branches.items ≡ E.put bytes_cmp branch n m.branches.items → m'.work ≡ record { tree = m.work.tree; parents = n ∷ []; least = Some n } → TurnsTo (commit_after s branch info) (Reply.Committed name) m'
    commit_made name n is_next count trees branches work = by (is_some (number_named s.repository made.name)) refl is_next
      where
        floor : s.repository.floor ≡ 0
        floor = is.commits.floor

        all : n ≡ next s.repository
        all = let many = size m.commits s.repository is.commits in omega (arith, count, floor, many)

        held : IsOf m'.commits (with_commit s.repository made branch) → IsState m' after
        held of = record {
          phase = is.phase;
          commits = of;
          trees = trees ∙ (ap (λ (ts : List (List (List Bytes × Bytes))). ts ++ m.work.tree ∷ []) is.trees
              ∙ (ap (λ (t : List (List Bytes × Bytes)). map (λ (c : Repository.Commit). c.tree.entries) s.repository.commits ++ t ∷ []) is.work.tree
              ∙ sym (map-append (λ (c : Repository.Commit). c.tree.entries) s.repository.commits (made ∷ []))));
          branches = branches ∙ (ap (λ k. E.put bytes_cmp branch k m.branches.items) all ∙ (ap (E.put bytes_cmp branch (next s.repository)) is.branches
              ∙ sym (entries-insert nat_list_cmp_total s.repository.branches branch (next s.repository))));
          work = record {
            tree = ap (λ w. w.tree) work ∙ is.work.tree;
            parents = ap (λ w. w.parents) work ∙ ap (λ (k : ℕ). k ∷ []) all;
            least = ap (λ w. w.least) work ∙ ap Some all;
          };
        }

        by : (b : Bool) → is_some (number_named s.repository made.name) ≡ b → Next b (Reply.Committed name) m'.commits → TurnsTo (commit_after s branch info) (Reply.Committed name) m'
        by true e next = absurd (cc (next.0))
        by false e next = (after, held (next.1 branch), ap named_by e ∙ ap (λ (r : Reply). (r, after)) (sym next.0))

    pub commit_refused : (reply : Reply) → IsNext s.repository made reply m'.commits → ((name : Hash) → reply ≡ Reply.Committed name → ⊥) → m'.trees.items ≡ m.trees.items → m'.branches.items ≡ m.branches.items → m'.work ≡ m.work
        → TurnsTo (commit_after s branch info) reply m'
    commit_refused reply is_next not_made trees branches work = by (is_some (number_named s.repository made.name)) refl is_next
      where
        by : (b : Bool) → is_some (number_named s.repository made.name) ≡ b → Next b reply m'.commits → TurnsTo (commit_after s branch info) reply m'
        by true e next =
            let held : IsState m' s = record { phase = is.phase; commits = next.1; trees = trees ∙ is.trees; branches = branches ∙ is.branches; work = subst (λ w. IsWork w s.work) (sym work) is.work } in
            (s, held, ap named_by e ∙ ap (λ (r : Reply). (r, s)) (sym next.0))
        by false e next = absurd (not_made made.name next.0)

  -- ---- the first refusals

  abbrev commit_by : Option ℕ → Option ℕ → Phase → Bool → Turned
  commit_by given moved phase full =
      or_refused s (unless_some given Reply.GivenUp >> (unless_some moved (λ n. Reply.HeadMoved (name_at s.repository n)) >> (not_leaving (record s { phase = phase }) s.work.least
      >> (refuse_if full (Reply.Limit Limit.Branches) >> (not_existing s.repository made.name >> Ok (Reply.Committed made.name, after))))))

  commit_open : answer s (Command.Commit branch info) quiet ≡ commit_by (below s.repository.floor s.work.least) (moved_head (head s.repository branch) s.work.parents) s.phase
      (not (is_some (head s.repository branch)) && nat_le 4096 (length s.repository.branches.entries))
  unfolding outcome
  commit_open = refl

  module _ (moved : Option ℕ) (is_moved : moved ≡ moved_head (find bytes_cmp branch m.branches.items) m.work.parents) where
    commit_tested : (full : Bool) → (not (is_some (find bytes_cmp branch m.branches.items)) && nat_le 4096 (length m.branches.items)) ≡ full → answer s (Command.Commit branch info) quiet ≡ commit_by None moved Phase.Idle full
    commit_tested full test =
        let found = ap (find bytes_cmp branch) (sym is.branches) in
        let known : moved_head (head s.repository branch) s.work.parents ≡ moved = ap (λ o. moved_head o s.work.parents) found ∙ (ap (moved_head (find bytes_cmp branch m.branches.items)) (sym is.work.parents) ∙ sym is_moved) in
        let room : (not (is_some (head s.repository branch)) && nat_le 4096 (length s.repository.branches.entries)) ≡ full =
        ap (λ (es : List (Bytes × ℕ)). not (is_some (find bytes_cmp branch es)) && nat_le 4096 (length es)) (sym is.branches) ∙ test in
        commit_open ∙ λ i. commit_by (none_given s is.commits.floor i) (known i) (is.phase i) (room i)

  head_is : (o : Option ℕ) (ps : List ℕ) (n : ℕ) → Some n ≡ moved_head o ps → o ≡ Some n
  head_is None ps n e = absurd (cc (e))
  head_is (Some k) ps n e = by (list_any (λ p. p == k) ps) e
    where
      by : (b : Bool) → Some n ≡ if b then None else Some k → Some k ≡ Some n
      by true e = absurd (cc (e))
      by false e = sym e

  pub commit_moved : IsRepository s.repository → (n : ℕ) → Some n ≡ moved_head (find bytes_cmp branch m.branches.items) m.work.parents → (name : Hash) → name ≡ name_in m.commits n → TurnsTo (answer s (Command.Commit branch info) quiet) (Reply.HeadMoved name) m
  commit_moved good n moved name told =
      let at : head s.repository branch ≡ Some n = ap (find bytes_cmp branch) (sym is.branches) ∙ head_is (find bytes_cmp branch m.branches.items) m.work.parents n moved in
      let low = head_low m.commits s.repository is.commits good branch n at in
      (s, is, commit_tested (Some n) moved _ refl ∙ ap (λ (h : Hash). (Reply.HeadMoved h, s)) (sym (told ∙ named m.commits s.repository is.commits n low)))

  module _ (moved : None ≡ moved_head (find bytes_cmp branch m.branches.items) m.work.parents) (full : Bool) (test : full ≡ (not (is_some (find bytes_cmp branch m.branches.items)) && nat_le 4096 (length m.branches.items))) where
    pub commit_full : full ≡ true → TurnsTo (answer s (Command.Commit branch info) quiet) (Reply.Limit Limit.Branches) m
    commit_full t = (s, is, commit_tested None moved true (sym test ∙ t))

    pub commit_goes : full ≡ false → answer s (Command.Commit branch info) quiet ≡ commit_after s branch info
    commit_goes t = commit_tested None moved false (sym test ∙ t)
