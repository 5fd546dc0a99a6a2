use Rattle.std.proofs.Common.{◌≡◌, refl, sym, ap, ◌∙◌, arith}
use Rattle.ip_history.specs.Frontier.{Commits, at, known}
use Rattle.ip_history.proofs.Counted.{recounted, alive-le, alive_of-le}
use Rattle.ip_history.proofs.frontier.Frontier.add.Goals as goal

pub overflow_add-self : goal.overflow_add-self
overflow_add-self c =
    let was : c.flags_of-before.result ≡ known (at c.self.inside.commits.entries c.args.number) = c.flags_of-before.ensures ∙ ap (λ (cs : Commits). known (at cs c.args.number)) (sym c.self.view_is) in
    let sum = recounted (λ f. f.own) refl c.self.inside.commits.entries c.insert.new.self.entries c.args.number c.flags_of-before.result c.join-after.result c.self.invariant.0 was c.in_ok-insert.ensures.entries in
    let most = alive_of-le (λ f. f.own) c.insert.new.self.entries in
    let size = c.len.ensures.len in
    let small = c.len.ensures.small in
    let before = alive-le (λ f. f.own) c.flags_of-before.result in
    let is = c.self.invariant.1 in
    let one = c.alive_own.ensures in
    omega (arith, sum, most, size, small, before, is, one)

pub overflow_sub-self : goal.overflow_sub-self
overflow_sub-self c =
    let was : c.flags_of-before.result ≡ known (at c.self.inside.commits.entries c.args.number) = c.flags_of-before.ensures ∙ ap (λ (cs : Commits). known (at cs c.args.number)) (sym c.self.view_is) in
    let sum = recounted (λ f. f.own) refl c.self.inside.commits.entries c.insert.new.self.entries c.args.number c.flags_of-before.result c.join-after.result c.self.invariant.0 was c.in_ok-insert.ensures.entries in
    let is = c.self.invariant.1 in
    let one = c.alive_own.ensures in
    let two = c.alive_own-2.ensures in
    omega (arith, sum, is, one, two)

pub overflow_add-self-2 : goal.overflow_add-self-2
overflow_add-self-2 c =
    let was : c.flags_of-before.result ≡ known (at c.self.inside.commits.entries c.args.number) = c.flags_of-before.ensures ∙ ap (λ (cs : Commits). known (at cs c.args.number)) (sym c.self.view_is) in
    let sum = recounted (λ f. f.listed) refl c.self.inside.commits.entries c.insert.new.self.entries c.args.number c.flags_of-before.result c.join-after.result c.self.invariant.0 was c.in_ok-insert.ensures.entries in
    let most = alive_of-le (λ f. f.listed) c.insert.new.self.entries in
    let size = c.len.ensures.len in
    let small = c.len.ensures.small in
    let before = alive-le (λ f. f.listed) c.flags_of-before.result in
    let is = c.self.invariant.2 in
    let one = c.alive_listed.ensures in
    omega (arith, sum, most, size, small, before, is, one)

pub overflow_sub-self-2 : goal.overflow_sub-self-2
overflow_sub-self-2 c =
    let was : c.flags_of-before.result ≡ known (at c.self.inside.commits.entries c.args.number) = c.flags_of-before.ensures ∙ ap (λ (cs : Commits). known (at cs c.args.number)) (sym c.self.view_is) in
    let sum = recounted (λ f. f.listed) refl c.self.inside.commits.entries c.insert.new.self.entries c.args.number c.flags_of-before.result c.join-after.result c.self.invariant.0 was c.in_ok-insert.ensures.entries in
    let is = c.self.invariant.2 in
    let one = c.alive_listed.ensures in
    let two = c.alive_listed-2.ensures in
    omega (arith, sum, is, one, two)

pub invariant_of-self-2 : goal.invariant_of-self-2
invariant_of-self-2 c =
    let was : c.flags_of-before.result ≡ known (at c.self.inside.commits.entries c.args.number) = c.flags_of-before.ensures ∙ ap (λ (cs : Commits). known (at cs c.args.number)) (sym c.self.view_is) in
    let sum = recounted (λ f. f.own) refl c.self.inside.commits.entries c.insert.new.self.entries c.args.number c.flags_of-before.result c.join-after.result c.self.invariant.0 was c.in_ok-insert.ensures.entries in
    let sum_listed = recounted (λ f. f.listed) refl c.self.inside.commits.entries c.insert.new.self.entries c.args.number c.flags_of-before.result c.join-after.result c.self.invariant.0 was c.in_ok-insert.ensures.entries in
    let is = c.self.invariant.1 in
    let is_listed = c.self.invariant.2 in
    let one = c.alive_own.ensures in
    let two = c.alive_own-2.ensures in
    let three = c.alive_listed.ensures in
    let four = c.alive_listed-2.ensures in
    (c.insert.ensures.ordered, omega (arith, sum, is, one, two), omega (arith, sum_listed, is_listed, three, four))
