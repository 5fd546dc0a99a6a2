use Rattle.std.proofs.Common.{◌≡◌, [], ◌∷◌, ◌+◌, ◌++◌, length, length-append, sym, subst}
use Rattle.ip_history.specs.History.{HasParentsFirst}
use Rattle.ip_history.specs.Frontier.{IsTaken, Passes}
use Rattle.ip_history.proofs.Lists.{none}
use Rattle.ip_history.proofs.Logged.{IsWithin, IsLogged, end_of, within_heads, within_more, logged_none, logged_more, logged_all}
use Rattle.ip_history.proofs.table.Table.log.Goals as goal

pub loop-next-init : goal.loop-next-init
loop-next-init c =
    let h = c.args.self.now in
    let n = c.args.number in
    let cs = c.in_ok-frontier.frontier in
    let numbers = c.empty-numbers.result in
    let fresh = c.empty-numbers.ensures in
    let at_start = within_heads h [] n cs c.in_ok-frontier.ensures c.requires (λ m d. none m d) in
    (end_of h, subst (λ ns. IsWithin h cs (length ns) (end_of h)) (sym fresh) at_start, λ r shows first. subst (λ ns. IsLogged h r n ns cs (end_of h)) (sym fresh) (logged_none h r shows first n cs c.in_ok-frontier.ensures))

pub loop-next-preserved : goal.loop-next-preserved
loop-next-preserved c =
    let h = c.args.self.now in
    let n = c.args.number in
    let (bound, range, logged) = c.loop-next.invariant in
    let cs = c.loop-next.frontier in
    let taken = c.pop.new.self in
    let next = c.in-Some.next in
    let f = c.in-Some.flags in
    let numbers = c.loop-next.numbers in
    let new = c.add_parents.new.frontier in
    let take : IsTaken cs taken next f = c.in-Some.ensures.taken in
    let pass : Passes h next f taken new = c.in_ok-add_parents.ensures.passes in
    let pushed : c.push.new.self ≡ numbers ++ next ∷ [] = c.in_ok-push.ensures.ok in
    let size : length (numbers ++ next ∷ []) ≡ length numbers + 1 = length-append numbers (next ∷ []) in
    let first : HasParentsFirst h = c.add_parents.ensures.first in
    let moved = within_more h first cs taken new (length numbers) bound next f f range take pass in
    (next, subst (λ ns. IsWithin h new (length ns) next) (sym pushed) (subst (λ m. IsWithin h new m next) (sym size) moved), λ r shows first. subst (λ ns. IsLogged h r n ns new next) (sym pushed) (logged_more h r shows first n numbers cs taken new (length numbers) bound next f range take pass (logged r shows first)))

pub returns : goal.returns
returns c r shows =
    let h = c.args.self.now in
    let (bound, range, logged) = c.loop-next.invariant in
    let first : HasParentsFirst h = subst HasParentsFirst c.self.view_is c.self.invariant.0 in
    logged_all h r shows first c.args.number c.loop-next.numbers c.loop-next.frontier (length c.loop-next.numbers) bound range (logged r shows first) c.in_default.ensures.none
