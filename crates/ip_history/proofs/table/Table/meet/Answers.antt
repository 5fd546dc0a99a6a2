use Rattle.std.proofs.Common.{◌≡◌, [], ◌∷◌, ◌++◌, sym, subst, ◌∙◌, arith}
use Rattle.std.specs.Prelude.{cond}
use Rattle.std.proofs.lemmas.List.Elements.{All-contains}
use Rattle.ip_history.specs.History.{HasParentsFirst, Holds}
use Rattle.ip_history.specs.Frontier.{IsTaken, Passes, passed, is_least}
use Rattle.ip_history.proofs.Logged.{end_of, within_heads, within_more}
use Rattle.ip_history.proofs.Least.{IsMet, met_none, met_more, met_all}
use Rattle.ip_history.proofs.table.Table.meet.Goals as goal

pub loop-next-init : goal.loop-next-init
loop-next-init c =
    let h = c.args.self.now in
    let n = c.args.number in
    let ns = c.args.list.now in
    let cs = c.in_ok-frontier.frontier in
    let heads = c.in_ok-frontier.ensures in
    let at_start = within_heads h ns n cs heads c.requires.number (λ m d. All-contains (Holds h) ns m c.requires.list d) in
    (end_of h, at_start, λ r shows first held. subst (λ xs. IsMet h r shows first ns n held xs cs (end_of h)) (sym c.empty-least.ensures) (met_none h r shows first ns n held cs heads))

pub loop-next-preserved : goal.loop-next-preserved
loop-next-preserved c =
    let h = c.args.self.now in
    let n = c.args.number in
    let ns = c.args.list.now in
    let (bound, range, met) = c.loop-next.invariant in
    let cs = c.loop-next.frontier in
    let taken = c.pop_unsettled.new.self in
    let next = c.in-Some.next in
    let f = c.in-Some.flags in
    let least = c.loop-next.least in
    let new = c.add_parents.new.frontier in
    let take : IsTaken cs taken next f = c.in-Some.ensures.taken in
    let pass : Passes h next (passed f) taken new = subst (λ g. Passes h next g taken new) c.passed.ensures c.in_ok-add_parents.ensures.passes in
    let pushed : c.push_least.new.least ≡ least ++ cond (is_least f) (next ∷ []) [] = c.in_ok-push_least.ensures in
    let first : HasParentsFirst h = c.add_parents.ensures.first in
    (next, within_more h first cs taken new c.loop-next.looked_at bound next f (passed f) range take pass, λ r shows first held. subst (λ xs. IsMet h r shows first ns n held xs new next) (sym pushed) (met_more h r shows first ns n held least cs taken new c.loop-next.looked_at bound next f range take pass (met r shows first held)))

pub returns-clause-once : goal.returns-clause-once
returns-clause-once c =
    let range = c.loop-next.invariant.1 in
    let high = range.high in
    let low = range.low in
    omega (arith, high, low)

pub returns-clause-least : goal.returns-clause-least
returns-clause-least c r shows =
    let h = c.args.self.now in
    let (bound, range, met) = c.loop-next.invariant in
    let first : HasParentsFirst h = subst HasParentsFirst c.self.view_is c.self.invariant.0 in
    c.reversed.ensures ∙ met_all h r shows first c.args.list.now c.args.number c.requires.number c.loop-next.least c.loop-next.frontier c.loop-next.looked_at bound range (met r shows first c.requires.number) c.in_default.ensures.none
