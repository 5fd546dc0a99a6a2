use Rattle.std.proofs.Common.{List, ℕ, ap, ◌∙◌}
use Rattle.std.specs.Prelude.{filter, not}
use Rattle.std.specs.List.{list_any}
use Rattle.std.proofs.lemmas.List.{take_all}
use Rattle.ip_spec.specs.History.{is_proper_ancestor, common}
use Rattle.ip_model.proofs.history.History.common.Goals as goal

pub returns : goal.returns
unfolding common
returns c r first shows =
    let items = c.as_slice-a-items.result.now in
    let whole = take_all c.loop-a.a-index items c.loop-a-test.false in
    let is = c.as_slice-a-items.ensures ∙ c.in_ok-all.ensures r first shows in
    c.loop-a.invariant r first shows ∙ (ap (filter (λ a. not (list_any (is_proper_ancestor r a) items))) whole ∙ ap (λ (ns : List ℕ). filter (λ a. not (list_any (is_proper_ancestor r a) ns)) ns) is)
