use Rattle.std.proofs.Common.{◌≡◌, Ok, None, ◌++◌, ◌∷◌, [], ap, subst, ◌∙◌, ◌+◌, sym, rules, arith}
use Rattle.ip_spec.specs.Reading.{row_fields}
use Rattle.ip_object.specs.Body.{left_in, IsFault}
use Rattle.ip_object.specs.Lists.{last_name, row_field}
use Rattle.ip_object.proofs.Listing.{IsAt, at_next, at_fault, at_last, row_behind, rows_from, rows_none, rows_next, rows_fail}
use Rattle.ip_object.proofs.loops.take_rows.Goals as goal

pub returns-in_err-row-clause-takes : goal.returns-in_err-row-clause-takes
returns-in_err-row-clause-takes c =
    let fault : IsFault c.in_err-row.field-0.0 (row_fields c.args.count None (left_in c.args.body.now)) =
    at_fault row_behind rows_from rows_none rows_next rows_fail c.args.count c.loop.counter c.loop.rows.items (left_in c.args.body.now) (left_in c.loop.body) c.in_err-row.field-0.0 c.loop-test.true c.loop.invariant.at
    (subst (λ b. IsFault c.in_err-row.field-0.0 (row_field b (left_in c.loop.body))) (c.last_name.ensures ∙ ap last_name c.deref.ensures.value) c.in_err-row.ensures.takes) in
    search rules

pub loop-preserved : goal.loop-preserved
loop-preserved c =
    let grown : c.push.new.self.items ≡ c.loop.rows.items ++ c.in_ok-row.row ∷ [] = search rules in
    record {
      inside = c.take_row.ensures.inside;
      at = subst (λ es. IsAt rows_from c.args.count (c.loop.counter + 1) es (left_in c.args.body.now) (left_in c.take_row.new.body)) (sym grown)
          (at_next row_behind rows_from rows_none rows_next rows_fail c.args.count c.loop.counter c.loop.rows.items (left_in c.args.body.now) (left_in c.loop.body) (left_in c.take_row.new.body) c.in_ok-row.row c.loop-test.true c.loop.invariant.at
          (subst (λ b. row_field b (left_in c.loop.body) ≡ Ok (c.in_ok-row.row, left_in c.take_row.new.body)) (c.last_name.ensures ∙ ap last_name c.deref.ensures.value) c.in_ok-row.ensures.takes));
    }

pub returns-clause-takes : goal.returns-clause-takes
returns-clause-takes c =
    let all : c.loop.counter ≡ c.args.count = omega arith in
    at_last row_behind rows_from rows_none rows_next rows_fail c.args.count c.loop.rows.items (left_in c.args.body.now) (left_in c.loop.body) (subst (λ i. IsAt rows_from c.args.count i c.loop.rows.items (left_in c.args.body.now) (left_in c.loop.body)) all c.loop.invariant.at)
    ∙ ap (λ es. Ok (es, left_in c.loop.body)) (sym c.of.ensures)
