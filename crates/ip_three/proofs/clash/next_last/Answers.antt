use Rattle.std.proofs.Common.{Some, ap, sym, ◌∙◌}
use Rattle.std.specs.Prelude.{if◌then◌else◌}
use Rattle.ip_three.proofs.clash.next_last.Goals as goal

pub returns-then-gives_value : goal.returns-then-gives_value
returns-then-gives_value c records r path is = sym (ap (λ b. if b then Some c.args.i else c.args.last) (sym (c.gives_value.ensures records r path is) ∙ c.if-gives_value.true))

pub returns : goal.returns
returns c records r path is = sym (ap (λ b. if b then Some c.args.i else c.args.last) (sym (c.gives_value.ensures records r path is) ∙ c.if-gives_value.false))
