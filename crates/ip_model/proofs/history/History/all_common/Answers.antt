use Rattle.std.proofs.Common.{◌≡◌, ap, sym, ◌∙◌}
use Rattle.std.specs.Prelude.{◌&&◌}
use Rattle.std.specs.List.{list_any}
use Rattle.ip_spec.specs.History.{is_ancestor, is_common}
use Rattle.ip_model.proofs.Reaching.{found_more}
use Rattle.ip_model.proofs.history.History.all_common.Goals as goal
use Rattle.ip_model.proofs.history.History.all_common.Goals.{then-is_ancestor, else-is_ancestor}

pub loop-place-preserved : goal.loop-place-preserved
loop-place-preserved c r first shows =
    let a = c.number_at-a.result in
    let above = list_any (λ m. is_ancestor r a m) c.args.list.now in
    let own = c.is_ancestor.ensures r first shows in
    let is : c.if-is_ancestor.is ≡ is_common r c.args.list.now c.args.number a = elim c.if-is_ancestor.branch [
      | then-is_ancestor w ↦ w.is-is ∙ (w.is_above_one-is.ensures r first shows ∙ ap (λ b. b && above) (sym w.if-is_ancestor.true ∙ own))
      | else-is_ancestor w ↦ w.is-is ∙ (w.if-is_ancestor.false ∙ ap (λ b. b && above) (sym w.if-is_ancestor.false ∙ own))
    ] in
    found_more (is_common r c.args.list.now c.args.number) c.args.self.now.floor c.loop-place.place c.loop-place.found a c.if-is_ancestor.is c.number_at-a.ensures is (c.loop-place.invariant r first shows) c.push_if.new.numbers c.in_ok-push_if.ensures
