-- What the machine answers to `checkout`, where nothing is met.
use Rattle.std.proofs.Common.{◌≡◌, ℕ, ◌<◌, ◌∷◌, [], refl, sym, ap, ◌∙◌, length, arith}
use Rattle.std.specs.Prelude.{Some, Ok}
use Rattle.ip_spec.specs.declared.reply.Reply.{Reply}
use Rattle.ip_spec.specs.declared.command.Target.{Target}
use Rattle.ip_spec.specs.declared.command.Command.TheVariants as Command
use Rattle.ip_spec.specs.Repository.{next, tree_at}
use Rattle.ip_spec.specs.Record.{Hash}
use Rattle.ip_spec.specs.Machine.{State}
use Rattle.ip_spec.specs.Step.{Refused, answer, outcome, quiet, or_refused, resolve, ◌>>=◌}
use Rattle.ip_model.specs.declared.machine.Machine as Kept
use Rattle.ip_model.specs.declared.work.Work as Held
use Rattle.ip_model.specs.Commits.{name_in}
use Rattle.ip_model.specs.Working.{IsState, TurnsTo, checkout_after}
use Rattle.ip_model.proofs.Kept.{size, named}

module _ (m : Kept.Machine) (s : State) (is : IsState m s) (n : ℕ) where
  pub checked_out : n < next s.repository → (w : Held.Work) → w.tree ≡ (tree_at s.repository n).entries → w.parents ≡ n ∷ [] → w.least ≡ Some n → (name : Hash) → name ≡ name_in m.commits n → TurnsTo (checkout_after s n) (Reply.At name) (record m { work = w })
  checked_out low w tree parents least name told =
      let floor = is.commits.floor in
      let long = size m.commits s.repository is.commits in
      let there : n < length m.commits = omega (arith, low, floor, long) in (
        record s { work = record { tree = tree_at s.repository n; parents = n ∷ []; least = Some n } },
        record { phase = is.phase; commits = is.commits; trees = is.trees; branches = is.branches; work = record { tree = tree; parents = parents; least = least } },
        ap (λ h. (Reply.At h, record s { work = record { tree = tree_at s.repository n; parents = n ∷ []; least = Some n } })) (sym (told ∙ named m.commits s.repository is.commits n there)),
      )

module _ (s : State) (t : Target) where
  checkout_open : answer s (Command.Checkout t) quiet ≡ or_refused s (resolve s.repository t >>= λ n. Ok (checkout_after s n))
  unfolding outcome
  checkout_open = refl

  pub checkout_by : (found : Refused ℕ) → found ≡ resolve s.repository t → answer s (Command.Checkout t) quiet ≡ or_refused s (found >>= λ n. Ok (checkout_after s n))
  checkout_by found so = checkout_open ∙ ap (λ (x : Refused ℕ). or_refused s (x >>= λ n. Ok (checkout_after s n))) (sym so)
