-- A commit's name has no more bytes than a name, in a reply that tells of a commit that was made or that a branch was moved to.
--     name_size      of a number of the store's.      names_size      where a call answered it
--     Short reply      its name is no longer than that, if it is such a reply.      ShortIn P x      a refusal is Short, and P is so of what is there
--     commit_short, merge_short      what the machine answers to the two commands
use Rattle.std.proofs.Common.{◌≡◌, ◌-◌, ◌≤◌, ℕ, Bool, true, false, List, [], ◌∷◌, length, refl, sym, ap, ◌∙◌, subst, arith, Option, Some, None, Ok, Err}
use Rattle.std.specs.Prelude.{Result, IfOk, MatchBool, MatchResult, nat_le, nat_lt, if◌then◌else◌, option_map, reverse, unwrap_or}
use Rattle.std.specs.List.{slice_get}
use Rattle.std.proofs.lemmas.List.Elements.{All-get_or}
use Rattle.std.proofs.lemmas.Option.{get_or_from_slice_get, slice_get-map, slice_get_within}
use Rattle.sha2.specs.Sha256.{sha256}
use Rattle.sha2.proofs.Facts256.{length-sha256}
use Rattle.ip_base.specs.declared.info.Info.{Info}
use Rattle.ip_spec.specs.declared.command.Command.{Command}
use Rattle.ip_spec.specs.declared.command.Target.{Target}
use Rattle.ip_spec.specs.declared.reply.Reply.{Reply}
use Rattle.ip_spec.specs.History.{is_ancestor, is_proper_ancestor, lcas}
use Rattle.ip_spec.specs.Machine.{Conditions, Limit, Phase, State}
use Rattle.ip_spec.specs.Merge.{Merges, Outcome, Rule}
use Rattle.ip_spec.specs.Path.{Bytes}
use Rattle.ip_spec.specs.Record.{Hash, IsHash}
use Rattle.ip_spec.specs.Repository.{Commit, Repository, head, name_at, number_named, tree_at}
use Rattle.ip_spec.specs.Step.{of_none, of_one, left_refused, ancestor_refused, of_more, ◌>>=◌, ◌>>◌, Base, Joins, MergesInto, Refused, Step, Turned, Turns, answer, below, both_named, contents_limit, enough, forward_turn, longest_value, moved_head, new_commit, not_existing, not_leaving, not_too_wide, or_refused, outcome, present, refuse_if, resolve, room_for_branch, state_with_exit, tree_of_outcome, unless_some, with_merge}
use Rattle.ip_spec.specs.Tree.{Tree}
use Rattle.ip_held.specs.declared.held.Held.{Held}
use Rattle.ip_held.specs.Collecting.{not_leaving_in}
use Rattle.ip_held.specs.Held.{IsOf}

-- ---- names of the store's commits

pub name_size : (store : Held) (r : Repository) → IsOf store r → (n : ℕ) → length (name_at r n) ≤ 32
name_size store r is n = by (nat_le r.floor n) (slice_get r.commits (n - r.floor)) refl
  where
    by : (b : Bool) (o : Option Commit) → slice_get r.commits (n - r.floor) ≡ o → length (unwrap_or (option_map (λ (c : Commit). c.name) (if b then o else None)) []) ≤ 32
    by true (Some c) found =
        let named : slice_get store.names (n - r.floor) ≡ Some c.name = ap (λ (ns : List Hash). slice_get ns (n - r.floor)) (sym is.names) ∙ slice_get-map (λ (c : Commit). c.name) r.commits (n - r.floor) ∙ ap (option_map (λ (c : Commit). c.name)) found in
        let hash : IsHash c.name = subst IsHash (get_or_from_slice_get store.names (n - r.floor) c.name [] named) (All-get_or IsHash store.names (n - r.floor) [] (slice_get_within store.names (n - r.floor) c.name named) is.hashes) in
        let size = hash.0 in
        omega (arith, size)
    by true None found = omega arith
    by false o found = omega arith

pub names_size : {E : Type 0} (store : Held) (r : Repository) → IsOf store r → (n : ℕ) (made : Result Hash E) → IfOk made (λ name. name ≡ name_at r n) → IfOk made (λ name. length name ≤ 32)
names_size store r is n (Ok name) named = subst (λ (h : Hash). length h ≤ 32) (sym named) (name_size store r is n)
names_size store r is n (Err fault) named = tt

sha_size : (m : Bytes) → length (sha256 m) ≤ 32
sha_size m = let size = length-sha256 m in omega (arith, size)

-- ---- refusals tell no such name

abbrev pub Short : Reply → Type 0
Short (Reply.Committed name) = length name ≤ 32
Short (Reply.Forward name) = length name ≤ 32
Short (Reply.Merged name) = length name ≤ 32
Short reply = Unit {0}

abbrev ShortIn : {A : Type 0} → (A → Type 0) → Refused A → Type 0
ShortIn P (Ok x) = P x
ShortIn P (Err reply) = Short reply

abbrev Any : {A : Type 0} → A → Type 0
Any x = Unit {0}

abbrev Named : Turned → Type 0
Named t = Short t.0

or_short : (s : State) (x : Refused Turned) → ShortIn Named x → Short (or_refused s x).0
or_short s (Ok t) p = p
or_short s (Err reply) p = p

then_short : {A B : Type 0} (P : B → Type 0) (x : Refused A) (y : Refused B) → ShortIn {A = A} Any x → ShortIn P y → ShortIn P (x >> y)
then_short P (Ok u) y p q = q
then_short P (Err reply) y p q = p

bind_short : {A B : Type 0} (P : B → Type 0) (x : Refused A) (f : A → Refused B) → ShortIn {A = A} Any x → ((a : A) → ShortIn P (f a)) → ShortIn P (x >>= f)
bind_short P (Ok a) f p q = q a
bind_short P (Err reply) f p q = p

refuse_short : (b : Bool) (reply : Reply) → Short reply → ShortIn {A = Unit {0}} Any (refuse_if b reply)
refuse_short true reply p = p
refuse_short false reply p = tt

some_short : {X : Type 0} (o : Option X) (reply : X → Reply) → ((x : X) → Short (reply x)) → ShortIn {A = Unit {0}} Any (unless_some o reply)
some_short None reply p = tt
some_short (Some x) reply p = p x

present_short : {X : Type 0} (o : Option X) (reply : Reply) → Short reply → ShortIn {A = X} Any (present o reply)
present_short None reply p = p
present_short (Some x) reply p = tt

leaving_short : (phase : Phase) (n : Option ℕ) → ShortIn {A = Unit {0}} Any (not_leaving_in phase n)
leaving_short Phase.Idle n = tt
leaving_short (Phase.Collecting c exit) n = some_short (below c n) Reply.Leaving (λ m. tt)

resolve_short : (r : Repository) (target : Target) → ShortIn {A = ℕ} Any (resolve r target)
resolve_short r (Target.Branch name) = present_short (head r name) (Reply.NoBranch name) tt
resolve_short r (Target.Commit hash) = present_short (number_named r hash) (Reply.NoCommit hash) tt

-- the limits that are met last
limits_short : (met : Conditions) (x : Refused Turned) → ShortIn Named x → ShortIn Named (enough met Limit.Space >> (enough met Limit.Sequence >> x))
limits_short met x p = then_short Named (enough met Limit.Space) (enough met Limit.Sequence >> x) (refuse_short _ (Reply.Limit Limit.Space) tt) (then_short Named (enough met Limit.Sequence) x (refuse_short _ (Reply.Limit Limit.Sequence) tt) p)

-- ---- a commit

pub commit_short : (s : State) (branch : Bytes) (info : Info) (met : Conditions) → Short (answer s (Command.Commit branch info) met).0
unfolding outcome
commit_short s branch info met = or_short s _ (then_short Named _ _ (some_short (below s.repository.floor s.work.least) Reply.GivenUp (λ n. tt)) (then_short Named _ _ (some_short (moved_head (head s.repository branch) s.work.parents) (λ n. Reply.HeadMoved (name_at s.repository n)) (λ n. tt))
    (then_short Named _ _ (leaving_short s.phase s.work.least) (then_short Named (room_for_branch s.repository branch) _ (refuse_short _ (Reply.Limit Limit.Branches) tt)
    (then_short Named (not_existing s.repository (new_commit s.repository s.work.tree s.work.parents info).name) _ (refuse_short _ (Reply.Existing (new_commit s.repository s.work.tree s.work.parents info).name) tt) (limits_short met _ (sha_size _)))))))

-- ---- a merge

merged_short : (m : Outcome) → ShortIn {A = Tree} Any (tree_of_outcome m)
merged_short (Outcome.conflict_at path) = tt
merged_short (Outcome.merged tree) = then_short {B = Tree} Any (refuse_if (nat_lt contents_limit (longest_value tree)) (Reply.Limit Limit.Contents)) (not_too_wide tree >> Ok tree) (refuse_short _ (Reply.Limit Limit.Contents) tt) (then_short {B = Tree} Any (not_too_wide tree) (Ok tree) (refuse_short _ (Reply.Limit Limit.Entries) tt) tt)

base_short : {rule : Rule} {r : Repository} {cs : List ℕ} {base : Refused Tree} → Base rule r cs base → ShortIn {A = Tree} Any base
base_short of_none = tt
base_short (of_one c) = tt
base_short (left_refused c d cs reply made) = base_short made
base_short (ancestor_refused c d cs left reply made other) = base_short other
base_short (of_more c d cs left ancestor m made other merges) = merged_short m

module _ (rule : Rule) (s : State) (met : Conditions) (number at_head : ℕ) (branch : Bytes) (info : Info) (turned : Refused Turned) where
  abbrev r : Repository
  r = s.repository

  with_short : (tree : Tree) → ShortIn Named (with_merge s met number branch at_head info tree)
  with_short tree = then_short Named (not_existing r (new_commit r tree (at_head ∷ number ∷ []) info).name) _ (refuse_short _ (Reply.Existing (new_commit r tree (at_head ∷ number ∷ []) info).name) tt) (limits_short met _ (sha_size _))

  abbrev Made : Refused Tree → Type 0
  Made base = MatchResult base (λ o. (m : Outcome) × Merges rule o (tree_at r at_head) (tree_at r number) m × (turned ≡ (tree_of_outcome m >>= with_merge s met number branch at_head info))) (λ reply. turned ≡ Err reply)

  made_short : (base : Refused Tree) → ShortIn {A = Tree} Any base → Made base → ShortIn Named turned
  made_short (Ok o) p (m, merges, is) = subst (ShortIn Named) (sym is) (bind_short Named (tree_of_outcome m) (with_merge s met number branch at_head info) (merged_short m) with_short)
  made_short (Err reply) p is = subst (ShortIn Named) (sym is) p

  joins_short : (guard : Refused (Unit {0})) → ShortIn {A = Unit {0}} Any guard → MatchResult guard (λ u. (base : Refused Tree) × Base rule r (reverse (lcas r at_head number)) base × Made base) (λ reply. turned ≡ Err reply) → ShortIn Named turned
  joins_short (Ok u) p (base, of, made) = made_short base (base_short of) made
  joins_short (Err reply) p is = subst (ShortIn Named) (sym is) p

  into_short : ((n : ℕ) → length (name_at r n) ≤ 32) → MergesInto rule s met number branch at_head info turned → ShortIn Named turned
  into_short size into = by (is_ancestor r number at_head) (is_proper_ancestor r at_head number) into
    where
      by : (current forward : Bool) → MatchBool current (turned ≡ Ok (Reply.Current (name_at r at_head), s)) (MatchBool forward (turned ≡ forward_turn s met number branch) (Joins rule s met number branch at_head info turned)) → ShortIn Named turned
      by true forward is = subst (ShortIn Named) (sym is) tt
      by false true is = subst (ShortIn Named) (sym is) (limits_short met _ (size number))
      by false false joins = joins_short _ (then_short {B = Unit {0}} Any (not_leaving s (Some number)) _ (leaving_short s.phase (Some number)) (refuse_short _ _ tt)) joins

pub merge_short : (rule : Rule) (s : State) (target : Target) (branch : Bytes) (info : Info) (met : Conditions) (reply : Reply) (s' : State) → ((n : ℕ) → length (name_at s.repository n) ≤ 32) → Step rule s (Command.Merge target branch info) met reply s' → Short reply
merge_short rule s target branch info met reply s' size step = by met.told.refused step.1
  where
    of_turn : (refused : Refused Turned) (both : Refused (ℕ × ℕ)) → ShortIn {A = ℕ × ℕ} Any both → MatchResult both (λ x. MergesInto rule s met x.0 branch x.1 info refused) (λ reply. refused ≡ Err reply) → ShortIn Named refused
    of_turn refused (Ok x) p into = into_short rule s met x.0 x.1 branch info refused size into
    of_turn refused (Err reply) p is = subst (ShortIn Named) (sym is) p

    by : (b : Bool) → MatchBool b ((reply ≡ Reply.Memory) × (s' ≡ state_with_exit s s.phase met.told.child)) (Turns rule s (Command.Merge target branch info) met (reply, s')) → Short reply
    by true is = subst Short (sym is.0) tt
    by false (refused, is, turns) = subst Named (sym is) (or_short s refused (of_turn refused (both_named s target branch)
        (bind_short {B = ℕ × ℕ} Any (resolve s.repository target) _ (resolve_short s.repository target) (λ number. bind_short {B = ℕ × ℕ} Any (present (head s.repository branch) (Reply.NoBranch branch)) _ (present_short (head s.repository branch) (Reply.NoBranch branch) tt) (λ at_head. tt))) turns))
