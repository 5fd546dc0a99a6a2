use Rattle.std.proofs.Common.{refl, ap, ◌∙◌}
use Rattle.std.specs.Prelude.{not}
use Rattle.std.specs.FinMap.Entries.{find, where_key}
use Rattle.ip_spec.specs.Path.{bytes_cmp, same_bytes}
use Rattle.ip_model.proofs.BranchLaws.{remove_none, remove_some}
use Rattle.ip_model.proofs.machine.Machine.remove_branch.Goals as goal

pub returns-then-is_none : goal.returns-then-is_none
returns-then-is_none c s is =
    let name = c.args.name.now in
    remove_none c.args.self.now s is name c.number_of.result (c.number_of.ensures ∙ ap (find bytes_cmp name) c.as_slice.ensures.value) (c.is_none.ensures ∙ ap not c.if-is_none.true) c.in_ok-copy.field-0 c.in_ok-copy.ensures

pub returns : goal.returns
returns c s is =
    let name = c.args.name.now in
    remove_some c.args.self.now s is name c.number_of.result (c.number_of.ensures ∙ ap (find bytes_cmp name) c.as_slice.ensures.value) (c.is_none.ensures ∙ ap not c.if-is_none.false) _ refl refl refl
    (c.in_ok-self.ensures ∙ ap (where_key bytes_cmp (λ q. not (same_bytes name q))) c.as_slice-2.ensures.value)
