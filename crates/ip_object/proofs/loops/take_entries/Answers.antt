use Rattle.std.proofs.Common.{◌≡◌, Ok, None, ◌++◌, ◌∷◌, [], ap, subst, ◌∙◌, ◌+◌, sym, rules, arith}
use Rattle.ip_spec.specs.Reading.{entry_field, entry_fields}
use Rattle.ip_object.specs.Body.{left_in, IsFault}
use Rattle.ip_object.specs.Lists.{last_step}
use Rattle.ip_object.proofs.Listing.{IsAt, at_next, at_fault, at_last, entry_behind, entries_from, entries_none, entries_next, entries_fail}
use Rattle.ip_object.proofs.loops.take_entries.Goals as goal

pub returns-in_err-entry-clause-takes : goal.returns-in_err-entry-clause-takes
returns-in_err-entry-clause-takes c =
    let fault : IsFault c.in_err-entry.field-0.0 (entry_fields c.args.count None (left_in c.args.body.now)) =
    at_fault entry_behind entries_from entries_none entries_next entries_fail c.args.count c.loop.counter c.loop.entries.items (left_in c.args.body.now) (left_in c.loop.body) c.in_err-entry.field-0.0 c.loop-test.true c.loop.invariant.at
    (subst (λ b. IsFault c.in_err-entry.field-0.0 (entry_field b (left_in c.loop.body))) (c.last_step.ensures ∙ ap last_step c.deref.ensures.value) c.in_err-entry.ensures.takes) in
    search rules

pub loop-preserved : goal.loop-preserved
loop-preserved c =
    let grown : c.push.new.self.items ≡ c.loop.entries.items ++ c.in_ok-entry.entry ∷ [] = search rules in
    record {
      inside = c.take_entry.ensures.inside;
      at = subst (λ es. IsAt entries_from c.args.count (c.loop.counter + 1) es (left_in c.args.body.now) (left_in c.take_entry.new.body)) (sym grown)
          (at_next entry_behind entries_from entries_none entries_next entries_fail c.args.count c.loop.counter c.loop.entries.items (left_in c.args.body.now) (left_in c.loop.body) (left_in c.take_entry.new.body) c.in_ok-entry.entry c.loop-test.true c.loop.invariant.at
          (subst (λ b. entry_field b (left_in c.loop.body) ≡ Ok (c.in_ok-entry.entry, left_in c.take_entry.new.body)) (c.last_step.ensures ∙ ap last_step c.deref.ensures.value) c.in_ok-entry.ensures.takes));
    }

pub returns-clause-takes : goal.returns-clause-takes
returns-clause-takes c =
    let all : c.loop.counter ≡ c.args.count = omega arith in
    at_last entry_behind entries_from entries_none entries_next entries_fail c.args.count c.loop.entries.items (left_in c.args.body.now) (left_in c.loop.body) (subst (λ i. IsAt entries_from c.args.count i c.loop.entries.items (left_in c.args.body.now) (left_in c.loop.body)) all c.loop.invariant.at)
    ∙ ap (λ es. Ok (es, left_in c.loop.body)) (sym c.of.ensures)
