use Rattle.std.proofs.Common.{arith}
use Rattle.ip_keep.specs.Runs.{left_of}
use Rattle.ip_check.proofs.Making.{one_given, none_given}
use Rattle.ip_check.proofs.mapping.count_runs.Goals as goal

pub loop-count-init : goal.loop-count-init
loop-count-init c = (c.requires.fit, omega arith)

pub take_run-requires : goal.take_run-requires
take_run-requires c = record { fit = c.loop-count.invariant.0 }

pub overflow_add-count : goal.overflow_add-count
overflow_add-count c =
    let given = one_given (left_of c.loop-count.left) (left_of c.take_run.new.self) c.in-Some.field-0 c.in-Some.ensures.gives in
    let all = c.loop-count.invariant.1 in
    let few = c.requires.few in
    omega (arith, given, all, few)

pub loop-count-smaller : goal.loop-count-smaller
loop-count-smaller c =
    let given = one_given (left_of c.loop-count.left) (left_of c.take_run.new.self) c.in-Some.field-0 c.in-Some.ensures.gives in
    omega (arith, given)

pub loop-count-preserved : goal.loop-count-preserved
loop-count-preserved c =
    let given = one_given (left_of c.loop-count.left) (left_of c.take_run.new.self) c.in-Some.field-0 c.in-Some.ensures.gives in
    let all = c.loop-count.invariant.1 in
    (c.in-Some.ensures.fit, omega (arith, given, all))

pub returns : goal.returns
returns c =
    let given = none_given (left_of c.loop-count.left) (left_of c.take_run.new.self) c.in_default.ensures.gives in
    let all = c.loop-count.invariant.1 in
    omega (arith, given, all)
