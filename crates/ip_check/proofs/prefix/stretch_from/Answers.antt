use Rattle.std.proofs.Common.{arith, drop, reverse}
use Rattle.ip_base.specs.declared.limit.TheConstants.{OFFSET_MAX}
use Rattle.ip_check.proofs.Linked.{first_behind, next_behind, behind_length, one_stretch, stretch_more, stretch_ends}
use Rattle.ip_check.proofs.prefix.stretch_from.Goals as goal

pub loop-stretch-init : goal.loop-stretch-init
loop-stretch-init c =
    let long = behind_length c.args.kept.now c.args.compared in
    one_stretch (drop c.args.compared (reverse c.args.kept.now)) c.args.most _ (record { at = 0; length = 0 }) (omega (arith, long, c.requires.more)) c.requires.some (first_behind c.args.kept.now c.args.compared (record { at = 0; length = 0 }) c.requires.more)

pub overflow_add-stretch : goal.overflow_add-stretch
overflow_add-stretch c =
    let ends = stretch_ends OFFSET_MAX c.args.kept.now c.args.compared c.args.most c.loop-stretch.stretch c.requires.fit c.loop-stretch.invariant in
    omega (arith, ends)

pub loop-stretch-preserved : goal.loop-stretch-preserved
loop-stretch-preserved c =
    let long = behind_length c.args.kept.now c.args.compared in
    stretch_more (drop c.args.compared (reverse c.args.kept.now)) c.args.most c.loop-stretch.stretch _ (record { at = 0; length = 0 }) c.loop-stretch.invariant (omega (arith, long, c.loop-stretch-test.true)) c.if-stretch-most.true
    (next_behind c.args.kept.now c.args.compared c.loop-stretch.stretch.records (record { at = 0; length = 0 }) (omega (arith, c.loop-stretch-test.true))) c.if-stretch-next.false

pub returns-else-stretch-most : goal.returns-else-stretch-most
returns-else-stretch-most c = c.loop-stretch.invariant

pub returns-after-loop-stretch : goal.returns-after-loop-stretch
returns-after-loop-stretch c = c.loop-stretch.invariant

pub returns-then-stretch-next : goal.returns-then-stretch-next
returns-then-stretch-next c = c.loop-stretch.invariant
