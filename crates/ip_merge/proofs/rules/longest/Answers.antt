use Rattle.std.proofs.Common.{subst, All, arith}
use Rattle.ip_merge.proofs.RuleLaws.{Below, none_longer, none_of_length, longest_picked, none_picked}
use Rattle.ip_merge.proofs.rules.longest.Goals as goal

pub loop-length-init : goal.loop-length-init
loop-length-init g c = none_longer (λ r. r.at) c.args.path.now c.args.rules.now

pub returns-in-Ok : goal.returns-in-Ok
returns-in-Ok g c = (
  c.in-Ok.ensures.found.0,
  longest_picked (λ r. r.at) c.args.path.now c.loop-length.length c.args.rules.now c.in-Ok.place c.loop-length.auto.length c.requires c.in-Ok.ensures.found c.loop-length.invariant,
)

pub loop-length-preserved : goal.loop-length-preserved
loop-length-preserved g c =
    let n = c.loop-length.length in
    let fewer = none_of_length (λ r. r.at) c.args.path.now n c.args.rules.now c.in_default.field-0 c.in_default.ensures.missing c.loop-length.invariant in
    subst (λ m. All (Below (λ r. r.at) c.args.path.now m) c.args.rules.now) {x = n} (omega arith) fewer

pub returns-in_default : goal.returns-in_default
returns-in_default g c =
    let n = c.loop-length.length in
    let fewer = none_of_length (λ r. r.at) c.args.path.now n c.args.rules.now c.in_default.field-0 c.in_default.ensures.missing c.loop-length.invariant in
    none_picked (λ r. r.at) c.args.path.now c.args.rules.now (subst (λ m. All (Below (λ r. r.at) c.args.path.now m) c.args.rules.now) {x = n} (omega arith) fewer)
