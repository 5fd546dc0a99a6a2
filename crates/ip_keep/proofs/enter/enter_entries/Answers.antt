use Rattle.std.proofs.Common.{List, map, subst}
use Rattle.std.proofs.lemmas.List.{take_all}
use Rattle.ip_spec.specs.declared.record.LeafEntry.{LeafEntry}
use Rattle.ip_keep.specs.Entering.{Gains}
use Rattle.ip_keep.proofs.Entered.{gains_none, all_front, cut_front, some_front}
use Rattle.ip_keep.proofs.enter.enter_entries.Goals as goal

pub loop-entry-init : goal.loop-entry-init
loop-entry-init c = gains_none c.args.waiting.now.keys c.args.below

pub loop-entry-preserved : goal.loop-entry-preserved
loop-entry-preserved c =
    all_front (λ (e : LeafEntry). e.at) c.args.entries.now c.loop-entry.entry-index c.entry-item.result c.args.waiting.now.keys c.loop-entry.waiting.keys c.enter_one.new.waiting.keys c.args.below c.loop-entry-test.true c.entry-item.is c.loop-entry.invariant c.in_ok-enter_one.ensures.all

pub returns-in_err-enter_one-clause-some : goal.returns-in_err-enter_one-clause-some
returns-in_err-enter_one-clause-some c =
    cut_front (λ (e : LeafEntry). e.at) c.args.entries.now c.loop-entry.entry-index c.entry-item.result c.args.waiting.now.keys c.loop-entry.waiting.keys c.enter_one.new.waiting.keys c.args.below c.loop-entry-test.true c.entry-item.is c.loop-entry.invariant c.enter_one.ensures.some

pub returns-clause-all : goal.returns-clause-all
returns-clause-all c =
    subst (λ (xs : List LeafEntry). Gains c.args.waiting.now.keys c.loop-entry.waiting.keys (map (λ (e : LeafEntry). e.at) xs) c.args.below) (take_all c.loop-entry.entry-index c.args.entries.now c.loop-entry-test.false) c.loop-entry.invariant

pub returns-clause-some : goal.returns-clause-some
returns-clause-some c = some_front (λ (e : LeafEntry). e.at) c.args.entries.now c.loop-entry.entry-index c.args.waiting.now.keys c.loop-entry.waiting.keys c.args.below c.loop-entry.invariant.some
