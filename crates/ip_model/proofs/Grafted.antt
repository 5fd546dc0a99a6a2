-- What the machine answers to `graft`, where nothing is met.
use Rattle.std.proofs.Common.{◌≡◌, ℕ, ◌+◌, ◌<◌, ◌≤◌, Bool, true, false, refl, sym, ap, ◌∙◌, length, nat_lt, arith}
use Rattle.std.proofs.lemmas.Bool.Decides.{nat_tests}
use Rattle.std.specs.Prelude.{Option, None, Ok}
use Rattle.ip_base.specs.declared.limit.Limit.TheVariants as Limit
use Rattle.ip_spec.specs.declared.reply.Reply.{Reply}
use Rattle.ip_spec.specs.declared.command.Target.{Target}
use Rattle.ip_spec.specs.declared.command.Command.TheVariants as Command
use Rattle.ip_spec.specs.Path.{Path}
use Rattle.ip_spec.specs.Tree as Tree
use Rattle.ip_spec.specs.Tree.{Tree, height, widest, subtree, is_empty}
use Rattle.ip_spec.specs.Repository.{tree_at}
use Rattle.ip_spec.specs.Machine.{State}
use Rattle.ip_spec.specs.Step.{Refused, Turned, answer, outcome, quiet, or_refused, resolve, refuse_if, unless_some, below, least_with, graft_turn, steps_limit, entries_limit, ◌>>◌, ◌>>=◌}
use Rattle.ip_model.specs.declared.machine.Machine as Kept
use Rattle.ip_model.specs.Working.{IsState, graft_after}
use Rattle.ip_model.proofs.WorkLaws.{none_given}

-- ---- a tree that was found, put at a path

module _ (s : State) (n : ℕ) (t : Tree) (to : Path) where
  abbrev placed : Tree
  placed = Tree.place s.work.tree to t

  abbrev grafted : State
  grafted = record s { work = record s.work { tree = placed; least = least_with s.work.least n } }

  abbrev graft_by : Bool → Bool → Bool → Turned
  graft_by a b c = or_refused s (refuse_if a Reply.Absent >> (refuse_if b (Reply.Limit Limit.Depth) >> (refuse_if c (Reply.Limit Limit.Entries) >> Ok (Reply.Accepted, grafted))))

  graft_tests : (a b c : Bool) → is_empty t ≡ a → nat_lt steps_limit (length to + height t) ≡ b → nat_lt entries_limit (widest placed) ≡ c → graft_after s n t to ≡ graft_by a b c
  graft_tests a b c none deep wide =
      ap (λ x. graft_by x (nat_lt steps_limit (length to + height t)) (nat_lt entries_limit (widest placed))) none
      ∙ (ap (λ x. graft_by a x (nat_lt entries_limit (widest placed))) deep ∙ ap (graft_by a b) wide)

  pub graft_none : is_empty t ≡ true → graft_after s n t to ≡ (Reply.Absent, s)
  graft_none none = graft_tests true _ _ none refl refl

  pub graft_deep : is_empty t ≡ false → steps_limit < length to + height t → graft_after s n t to ≡ (Reply.Limit Limit.Depth, s)
  graft_deep some more =
      let e : nat_lt steps_limit (length to + height t) ≡ true = grind (arith, nat_tests, more) in
      graft_tests false true _ some e refl

  pub graft_wide : is_empty t ≡ false → length to + height t ≤ steps_limit → entries_limit < widest placed → graft_after s n t to ≡ (Reply.Limit Limit.Entries, s)
  graft_wide some few more =
      let e : nat_lt steps_limit (length to + height t) ≡ false = grind (arith, nat_tests, few) in
      let w : nat_lt entries_limit (widest placed) ≡ true = grind (arith, nat_tests, more) in
      graft_tests false false true some e w

  pub graft_done : is_empty t ≡ false → length to + height t ≤ steps_limit → widest placed ≤ entries_limit → graft_after s n t to ≡ (Reply.Accepted, grafted)
  graft_done some few narrow =
      let e : nat_lt steps_limit (length to + height t) ≡ false = grind (arith, nat_tests, few) in
      let w : nat_lt entries_limit (widest placed) ≡ false = grind (arith, nat_tests, narrow) in
      graft_tests false false false some e w

-- ---- the tree that is named

module _ (m : Kept.Machine) (s : State) (is : IsState m s) (t : Target) (from to : Path) where
  abbrev graft_given : Option ℕ → Refused ℕ → Turned
  graft_given given found = or_refused s (unless_some given Reply.GivenUp >> (found >>= λ n. graft_turn s n (subtree (tree_at s.repository n) from) to))

  graft_open : answer s (Command.Graft t from to) quiet ≡ graft_given (below s.repository.floor s.work.least) (resolve s.repository t)
  unfolding outcome
  graft_open = refl

  pub graft_found : (found : Refused ℕ) → found ≡ resolve s.repository t → answer s (Command.Graft t from to) quiet ≡ graft_given None found
  graft_found found so = graft_open ∙ (ap (λ g. graft_given g (resolve s.repository t)) (none_given s is.commits.floor) ∙ ap (graft_given None) (sym so))
