use Rattle.std.proofs.Common.{◌≡◌, ◌++◌, ◌∷◌, [], subst, ◌+◌, sym, rules, arith, ◌∙◌, ap, Ok}
use Rattle.ip_spec.specs.Reading.{parent_fields}
use Rattle.ip_object.specs.Body.{left_in, IsFault}
use Rattle.ip_object.proofs.Listing.{IsAt, at_next, at_fault, at_last, parent_behind, parents_from, parents_none, parents_next, parents_fail}
use Rattle.ip_object.proofs.loops.take_parents.Goals as goal

pub returns-in_err-parent-clause-takes : goal.returns-in_err-parent-clause-takes
returns-in_err-parent-clause-takes c =
    let fault : IsFault c.in_err-parent.field-0.0 (parent_fields c.args.count (left_in c.args.body.now)) =
    at_fault parent_behind parents_from parents_none parents_next parents_fail c.args.count c.loop.counter c.loop.parents.items (left_in c.args.body.now) (left_in c.loop.body) c.in_err-parent.field-0.0 c.loop-test.true c.loop.invariant.at
    (c.in_err-parent.ensures.takes) in
    search rules

pub loop-preserved : goal.loop-preserved
loop-preserved c =
    let grown : c.push.new.self.items ≡ c.loop.parents.items ++ c.in_ok-parent.parent ∷ [] = search rules in
    record {
      inside = c.take_parent.ensures.inside;
      at = subst (λ es. IsAt parents_from c.args.count (c.loop.counter + 1) es (left_in c.args.body.now) (left_in c.take_parent.new.body)) (sym grown)
          (at_next parent_behind parents_from parents_none parents_next parents_fail c.args.count c.loop.counter c.loop.parents.items (left_in c.args.body.now) (left_in c.loop.body) (left_in c.take_parent.new.body) c.in_ok-parent.parent c.loop-test.true c.loop.invariant.at
          (c.in_ok-parent.ensures.takes));
    }

pub returns-clause-takes : goal.returns-clause-takes
returns-clause-takes c =
    let all : c.loop.counter ≡ c.args.count = omega arith in
    at_last parent_behind parents_from parents_none parents_next parents_fail c.args.count c.loop.parents.items (left_in c.args.body.now) (left_in c.loop.body) (subst (λ i. IsAt parents_from c.args.count i c.loop.parents.items (left_in c.args.body.now) (left_in c.loop.body)) all c.loop.invariant.at)
    ∙ ap (λ es. Ok (es, left_in c.loop.body)) (sym c.of.ensures)
