use Rattle.std.proofs.Common.{◌≡◌, ◌+◌, ◌-◌, ◌∷◌, ◌++◌, [], Option, ap, sym, subst, take, arith}
use Rattle.std.specs.Prelude.{is_none, option_map}
use Rattle.ip_shape.specs.Directory.{entries_in}
use Rattle.ip_shape.specs.Loaded.{way_to}
use Rattle.ip_spec.specs.Shape.{deepest, part}
use Rattle.ip_spec.specs.Tree.{entries_of, subtree}
use Rattle.ip_tree.specs.Finding.{FindsIn, IsPartOf}
use Rattle.ip_tree.specs.Meaning.{steps_of}
use Rattle.ip_tree.specs.Node.{stored}
use Rattle.ip_tree.specs.declared.node.Stored.{Stored}
use Rattle.ip_tree.proofs.Found.{asked_below, found_below, found_node, found_nothing, found_through}
use Rattle.ip_tree.proofs.PartlyShown.{partly}
use Rattle.ip_tree.proofs.Walk.{err_is}
use Rattle.ip_tree.proofs.look.in_directory.Goals as goal

pub returns-in-Some-clause-place : goal.returns-in-Some-clause-place
returns-in-Some-clause-place g c tells records w p over lawful place =
    subst (IsPartOf records w (p ++ c.args.step.now ∷ [])) (sym c.place_of.ensures) (found_node records c.args.dir.now w p c.args.step.now place c.in-Some.node.now (sym c.in-Some.ensures.held))

pub returns-in_default-first_unread-clause-place : goal.returns-in_default-first_unread-clause-place
returns-in_default-first_unread-clause-place g c tells records w p over lawful place =
    let d = c.args.dir.now in
    let t = subtree w.map p in
    found_nothing records d w p c.args.step.now place
    (sym (c.in_default.ensures.absent (steps_of (entries_of t).entries) (entries_in d) (partly records d t place.0) (ap is_none (sym c.in_default-first_unread.ensures.found))))

pub returns-in_err-found-clause-place : goal.returns-in_err-found-clause-place
returns-in_err-found-clause-place g c tells records w p over lawful place =
    let d = c.args.dir.now in
    let s = c.args.step.now in
    let x = c.in-Some-first_unread.record.now in
    let depth = c.in-Some-first_unread.depth in
    let low = c.in-Some-first_unread.ensures.within in
    let sum : depth + (51 - depth) ≡ deepest = omega (arith, low) in
    let asked = asked_below records d w p s place x depth low (sym c.in-Some-first_unread.ensures.found) c.in-Some-first_unread.ensures.part in
    err_is c.from_residual.result c.in_err-found.field-0.0 c.from_residual.ensures.1 _ _
    (c.in_err-found.ensures.entry tells records depth (part (entries_of (subtree w.map p)).entries (take depth (way_to s))) over sum asked)

pub returns-in-Some-2-clause-place : goal.returns-in-Some-2-clause-place
returns-in-Some-2-clause-place g c tells records w p over lawful place =
    let d = c.args.dir.now in
    let s = c.args.step.now in
    let x = c.in-Some-first_unread.record.now in
    let depth = c.in-Some-first_unread.depth in
    let low = c.in-Some-first_unread.ensures.within in
    let es = part (entries_of (subtree w.map p)).entries (take depth (way_to s)) in
    let sum : depth + (51 - depth) ≡ deepest = omega (arith, low) in
    let at_way = sym c.in-Some-first_unread.ensures.found in
    let front = c.in-Some-first_unread.ensures.part in
    let asked = asked_below records d w p s place x depth low at_way front in
    let is = found_through records _ _ (51 - depth) depth x.reference.at es s c.in_ok-found.field-0 over asked.part (c.in_ok-found.ensures.any tells over.readable) in
    subst (λ (o : Option Stored). FindsIn records w (p ++ s ∷ []) (option_map stored o)) c.in-Some-2.is
    (found_below records d w p s place x depth low at_way front (sym c.in_default.ensures.held) c.in_ok-found.field-0 is (c.in_ok-found.ensures.entry tells records depth es over sum asked))

pub returns-in-None-clause-place : goal.returns-in-None-clause-place
returns-in-None-clause-place g c tells records w p over lawful place =
    let d = c.args.dir.now in
    let s = c.args.step.now in
    let x = c.in-Some-first_unread.record.now in
    let depth = c.in-Some-first_unread.depth in
    let low = c.in-Some-first_unread.ensures.within in
    let es = part (entries_of (subtree w.map p)).entries (take depth (way_to s)) in
    let sum : depth + (51 - depth) ≡ deepest = omega (arith, low) in
    let at_way = sym c.in-Some-first_unread.ensures.found in
    let front = c.in-Some-first_unread.ensures.part in
    let asked = asked_below records d w p s place x depth low at_way front in
    let is = found_through records _ _ (51 - depth) depth x.reference.at es s c.in_ok-found.field-0 over asked.part (c.in_ok-found.ensures.any tells over.readable) in
    subst (λ (o : Option Stored). FindsIn records w (p ++ s ∷ []) (option_map stored o)) c.in-None.is
    (found_below records d w p s place x depth low at_way front (sym c.in_default.ensures.held) c.in_ok-found.field-0 is (c.in_ok-found.ensures.entry tells records depth es over sum asked))
