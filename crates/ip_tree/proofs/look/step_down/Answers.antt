use Rattle.std.proofs.Common.{◌∷◌, ◌++◌, [], Option, subst}
use Rattle.std.specs.Prelude.{option_map}
use Rattle.ip_spec.specs.Tree.{subtree}
use Rattle.ip_tree.specs.Finding.{FindsIn, IsPlaceOf, as_node}
use Rattle.ip_tree.specs.Node.{stored}
use Rattle.ip_tree.specs.declared.look.Place.{Place}
use Rattle.ip_tree.specs.declared.node.Stored.{Stored}
use Rattle.ip_tree.proofs.Found.{step_contents, step_stored}
use Rattle.ip_tree.proofs.look.step_down.Goals as goal

pub returns-in-Contents-clause-place : goal.returns-in-Contents-clause-place
returns-in-Contents-clause-place g c tells records w p over lawful place =
    step_contents records w p c.args.step.now c.in-Contents.field-0.now (subst (λ (q : Place). IsPlaceOf records w p (as_node q)) c.in-Contents.is place)

pub returns-in-Some-clause-place : goal.returns-in-Some-clause-place
returns-in-Some-clause-place g c tells records w p over lawful place =
    let here = subst (λ (q : Place). IsPlaceOf records w p (as_node q)) c.in-Stored.is place in
    subst (λ (o : Option Stored). FindsIn records w (p ++ c.args.step.now ∷ []) (option_map stored o)) c.in-Some.is
    (step_stored records w p c.args.step.now c.in-Stored.stored c.in_ok-found-in-Stored.field-0 here (c.in_ok-found-in-Stored.ensures.entry tells records (subtree w.map p) over here.0))

pub returns-in-None-clause-place : goal.returns-in-None-clause-place
returns-in-None-clause-place g c tells records w p over lawful place =
    let here = subst (λ (q : Place). IsPlaceOf records w p (as_node q)) c.in-Stored.is place in
    subst (λ (o : Option Stored). FindsIn records w (p ++ c.args.step.now ∷ []) (option_map stored o)) c.in-None.is
    (step_stored records w p c.args.step.now c.in-Stored.stored c.in_ok-found-in-Stored.field-0 here (c.in_ok-found-in-Stored.ensures.entry tells records (subtree w.map p) over here.0))
