use Rattle.std.proofs.Common.{◌≡◌, ◌+◌, ◌-◌, ◌<◌, ◌≤◌, [], length, take, ap, sym, subst, ◌∙◌, arith}
use Rattle.std.specs.Prelude.{slice_index_or, cond, Some, ◌&&◌, nat_le}
use Rattle.std.proofs.lemmas.List.{take_all}
use Rattle.ip_history.specs.History.{History, HasParentsFirst}
use Rattle.ip_history.specs.Frontier.{at, known, joined, IsPut}
use Rattle.ip_history.proofs.Lists.{has}
use Rattle.ip_history.proofs.Parents.{no_default}
use Rattle.ip_history.proofs.Flagged.{Passed, passed_below, passed_one}
use Rattle.ip_history.proofs.table.Table.add_parents.Goals as goal
use Rattle.ip_history.proofs.table.Table.add_parents.Goals.{then-self-get+in_ok-add, else-self-get}

pub returns-in_err-add-clause-first : goal.returns-in_err-add-clause-first
returns-in_err-add-clause-first c = subst HasParentsFirst c.self.view_is c.self.invariant.0

pub returns-clause-first : goal.returns-clause-first
returns-clause-first c = subst HasParentsFirst c.self.view_is c.self.invariant.0

pub loop-parent-preserved : goal.loop-parent-preserved
loop-parent-preserved c =
    let h = c.args.self.now in
    let ps = c.as_slice-parents.result.now in
    let i = c.loop-parent.parent-index in
    let p = c.parent-item.result in
    let floor : c.self.inside.floor ≡ h.floor = ap (λ (g : History). g.floor) c.self.view_is in
    let get = c.get.ensures in
    elim c.if-self-get.branch [
      | then-self-get+in_ok-add w ↦
          let least : h.floor ≤ p = omega (arith, floor, get, w.if-self-get.true) in
          let put : IsPut c.loop-parent.frontier w.add.new.self p (Some (joined (known (at c.loop-parent.frontier p)) c.args.flags)) = subst (λ q. IsPut c.loop-parent.frontier w.add.new.self q (Some (joined (known (at c.loop-parent.frontier q)) c.args.flags))) w.get-then-self-get.ensures w.in_ok-add.ensures in
          subst (Passed h.floor ps (i + 1) c.args.flags c.args.frontier.now) (sym w.frontier-is) (passed_one h.floor ps i p c.args.flags c.args.frontier.now c.loop-parent.frontier w.add.new.self c.loop-parent-test.true c.parent-item.is least put c.loop-parent.invariant)
      | else-self-get w ↦
          let less : p < h.floor = omega (arith, floor, get, w.if-self-get.false) in
          subst (Passed h.floor ps (i + 1) c.args.flags c.args.frontier.now) (sym w.frontier-is) (passed_below h.floor ps i p c.args.flags c.args.frontier.now c.loop-parent.frontier c.loop-parent-test.true c.parent-item.is less c.loop-parent.invariant)
    ]

pub returns-clause-passes : goal.returns-clause-passes
returns-clause-passes c m =
    let h = c.args.self.now in
    let ps = c.as_slice-parents.result.now in
    let within : c.args.number - h.floor < length h.parents = omega (arith, c.requires) in
    let is : ps ≡ slice_index_or h.parents (c.args.number - h.floor) [] = c.as_slice-parents.ensures ∙ (c.index.ensures ∙ (ap (λ (g : History). slice_index_or g.parents (c.args.number - g.floor) c.index.result.now) c.self.view_is ∙ no_default h.parents (c.args.number - h.floor) c.index.result.now [] within)) in
    let all : take c.loop-parent.parent-index ps ≡ slice_index_or h.parents (c.args.number - h.floor) [] = take_all c.loop-parent.parent-index ps c.loop-parent-test.false ∙ is in
    c.loop-parent.invariant m ∙ ap (λ qs. cond (nat_le h.floor m && has qs m) (Some (joined (known (at c.args.frontier.now m)) c.args.flags)) (at c.args.frontier.now m)) all
