use Rattle.std.proofs.Common.{◌≡◌, ◌∙◌, sym, false, is_ok, rules}
use Rattle.ip_merge.specs.Rules.{has_rule}
use Rattle.ip_merge.proofs.PlaceLaws.{place_in, gap_in, with_found, with_new, none_in_gap, ascending_after}
use Rattle.ip_merge.proofs.rules.Rules.put.Goals as goal

pub returns-in-Ok-clause-added : goal.returns-in-Ok-clause-added
returns-in-Ok-clause-added g c =
    let place = place_in (λ r. r.at) c.steps.ensures c.deref.ensures.value c.in-Ok.ensures.found in
    sym (with_found (λ r. r.at) c.args.rule c.args.self.now.list.items c.in-Ok.place c.args.self.now.ascending place)

pub invariant_of-self-in-Err : goal.invariant_of-self-in-Err
invariant_of-self-in-Err g c =
    let gap = gap_in (λ r. r.at) c.steps.ensures c.deref.ensures.value c.in-Err.ensures.missing in
    record {
      ascending = ascending_after (λ r. r.at) c.args.rule c.args.self.now.list.items c.insert.new.self.items c.in-Err.place (is_ok c.insert.result) c.args.self.now.ascending gap c.insert.ensures.items;
    }

pub returns-in_ok-insert-in-Err-clause-added : goal.returns-in_ok-insert-in-Err-clause-added
returns-in_ok-insert-in-Err-clause-added g c =
    let gap = gap_in (λ r. r.at) c.steps.ensures c.deref.ensures.value c.in-Err.ensures.missing in
    c.in_ok-insert-in-Err.ensures.items ∙ sym (with_new (λ r. r.at) c.args.rule c.args.self.now.list.items c.in-Err.place gap)

pub returns-in_err-insert-in-Err-clause-refused : goal.returns-in_err-insert-in-Err-clause-refused
returns-in_err-insert-in-Err-clause-refused g c =
    let gap = gap_in (λ r. r.at) c.steps.ensures c.deref.ensures.value c.in-Err.ensures.missing in
    let none : has_rule (λ r. r.at) c.args.rule.at c.args.self.now.list.items ≡ false = none_in_gap (λ r. r.at) c.args.rule.at c.args.self.now.list.items c.in-Err.place gap in
    let same = c.in_err-insert-in-Err.ensures.items in
    search rules
