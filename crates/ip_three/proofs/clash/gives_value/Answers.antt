use Rattle.std.proofs.Common.{Some, ap, subst, sym, ◌∙◌}
use Rattle.ip_tree.specs.Node.{Node}
use Rattle.ip_tree.specs.Shown.{shown}
use Rattle.ip_three.specs.Applying.{as_coming}
use Rattle.ip_three.specs.Clashes.{gives_value}
use Rattle.ip_three.specs.Walking.{IsTakenAt, holds_at}
use Rattle.ip_three.specs.declared.apply.Coming.{Coming}
use Rattle.ip_three.proofs.SidesFound.{holds_is}
use Rattle.ip_three.proofs.clash.gives_value.Goals as goal

pub returns-in-Taken : goal.returns-in-Taken
returns-in-Taken c records r path is =
    let there = subst (λ (x : Coming). IsTakenAt records r path x) c.in-Taken.is is in
    c.is_contents.ensures ∙ ap (λ (n : Node). holds_at (Some n)) c.place_of.ensures ∙ holds_is records r path (Some (shown c.in-Taken.node)) there
    ∙ sym (ap (λ (x : Coming). gives_value r path (as_coming x)) c.in-Taken.is)
