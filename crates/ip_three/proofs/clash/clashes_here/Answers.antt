use Rattle.std.proofs.Common.{ap, sym, subst, ◌∙◌}
use Rattle.std.specs.Option.{option_copied}
use Rattle.std.specs.Prelude.{option_map}
use Rattle.ip_spec.specs.Path.{Path}
use Rattle.ip_tree.specs.Finding.{FindsPlace, as_node}
use Rattle.ip_three.specs.Applying.{as_coming}
use Rattle.ip_three.specs.Clashes.{is_at}
use Rattle.ip_three.specs.Walking.{IsAt}
use Rattle.ip_three.proofs.ClashCalls.{contents_come, directory_comes, says_is, some_place}
use Rattle.ip_three.proofs.SidesFound.{holds_placed}
use Rattle.ip_three.proofs.clash.clashes_here.Goals as goal

pub returns-then-gives_value-clause-clash : goal.returns-then-gives_value-clause-clash
returns-then-gives_value-clause-clash g c tells records v r over is taken =
    let path = c.args.edit.now.path in
    let last = option_copied c.args.last in
    let found : IsAt records v c.steps-path.result.now (option_map as_node c.in-Ok.place) = record { place = c.in-Ok.ensures.place tells records v over is; part = λ below. c.in-Ok.ensures.part tells records v over is below } in
    c.is_some.ensures ∙ some_place c.directory_of.result
    ∙ says_is records v path (option_map as_node c.directory_of.result)
    (c.directory_of.ensures.says records v path (subst (λ (p : Path). IsAt records v p (option_map as_node c.in-Ok.place)) c.steps-path.ensures found))
    ∙ contents_come v.map last path r (as_coming c.args.edit.now.coming) (sym (ap (is_at last) c.steps-path.ensures) ∙ sym c.is_last.ensures ∙ c.if-is_last.false) (sym (c.gives_value.ensures records r path taken) ∙ c.if-gives_value.true)

pub returns-else-gives_value-clause-clash : goal.returns-else-gives_value-clause-clash
returns-else-gives_value-clause-clash g c tells records v r over is taken =
    let path = c.args.edit.now.path in
    let last = option_copied c.args.last in
    c.is_contents.ensures
    ∙ holds_placed records v path (option_map as_node c.in-Ok.place) (subst (λ (p : Path). FindsPlace records v p (option_map as_node c.in-Ok.place)) c.steps-path.ensures (c.in-Ok.ensures.place tells records v over is))
    ∙ directory_comes v.map last path r (as_coming c.args.edit.now.coming) (sym (ap (is_at last) c.steps-path.ensures) ∙ sym c.is_last.ensures ∙ c.if-is_last.false) (sym (c.gives_value.ensures records r path taken) ∙ c.if-gives_value.false)
