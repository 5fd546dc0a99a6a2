use Rattle.std.proofs.Common.{◌≡◌, ℕ, List, false, rules, ◌∙◌, ap}
use Rattle.std.specs.Prelude.{is_some}
use Rattle.ip_spec.specs.Map.{get, insert, remove}
use Rattle.ip_tables.proofs.Removed.{removed_again}
use Rattle.ip_held.proofs.step.enter_head.Goals as goal

pub returns-in-Err-push-clause-err : goal.returns-in-Err-push-clause-err
returns-in-Err-push-clause-err c =
    let key : List ℕ = c.into_vec-2.result.items in
    let absent : is_some (get c.args.branches.now key) ≡ false = search rules in
    let again : c.as_slice-in-Err-push.result.now ≡ key = search rules in (
      c.remove.ensures ∙ ap (λ m. remove m c.as_slice-in-Err-push.result.now) c.in_ok-set.ensures.ok ∙ ap (remove (insert c.args.branches.now key c.args.number)) again ∙ removed_again c.args.branches.now key c.args.number absent,
      c.in-Err-push.ensures.refused,
    )
