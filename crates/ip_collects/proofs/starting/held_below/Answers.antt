use Rattle.std.proofs.Common.{ℕ, ◌∙◌, ap, subst, arith}
use Rattle.ip_tables.proofs.Keyed.{Pairs, told}
use Rattle.ip_collects.proofs.Started.{Below, below_first, below_next, below_found, below_none}
use Rattle.ip_collects.proofs.starting.held_below.Goals as goal

pub loop-head-init : goal.loop-head-init
loop-head-init c = (
  tt,
  tt,
  λ r of. below_first r c.args.store.now c.args.number c.into_iter-head-iterator.result of (ap told c.into_iter-head-iterator.ensures.into_iter_gives ∙ c.iter-head-items.ensures.entries),
)

pub returns-then-get : goal.returns-then-get
returns-then-get c r of =
    let less = c.if-get.true in
    let here = c.get.ensures in
    let bound = c.get-in-loop-head.ensures in
    below_found r c.args.number (c.in-Some.field-0-0.now, c.in-Some.head.now) c.next.new.self c.loop-head.place (omega (arith, less, here, bound))
    (subst (λ (es : Pairs ℕ). Below r c.args.number es c.loop-head.place) c.in-Some.ensures.steps (c.loop-head.invariant.2 r of))

pub overflow_add-place : goal.overflow_add-place
overflow_add-place c = let few = (c.loop-head.invariant.2 c.requires.0 c.requires.1).few in omega (arith, few)

pub loop-head-preserved : goal.loop-head-preserved
loop-head-preserved c = (
  tt,
  tt,
  λ r of.
      let from = c.if-get.false in
      let here = c.get.ensures in
      let bound = c.get-in-loop-head.ensures in
      below_next r c.args.number (c.in-Some.field-0-0.now, c.in-Some.head.now) c.next.new.self c.loop-head.place (omega (arith, from, here, bound))
      (subst (λ (es : Pairs ℕ). Below r c.args.number es c.loop-head.place) c.in-Some.ensures.steps (c.loop-head.invariant.2 r of)),
)

pub returns : goal.returns
returns c r of = below_none r c.args.number c.loop-head.place (subst (λ (es : Pairs ℕ). Below r c.args.number es c.loop-head.place) c.in-None.ensures.steps.0 (c.loop-head.invariant.2 r of))
