use Rattle.std.proofs.Common.{◌≡◌, sym, ◌∙◌, true, false}
use Rattle.std.proofs.lemmas.Iterator.Adapters.{position_from-zero}
use Rattle.std.proofs.lemmas.List.{at_drop_all}
use Rattle.std.specs.List.{position_from}
use Rattle.ip_spec.specs.Path.{same_bytes}
use Rattle.ip_model.specs.declared.commits.Commit.{Commit}
use Rattle.ip_model_trees.proofs.Placing.{place_here, place_later}
use Rattle.ip_model.proofs.commits.place_named.Goals as goal

pub returns-then-is_eq : goal.returns-then-is_eq
returns-then-is_eq c =
    let named = λ (m : Commit). same_bytes m.name c.args.name.now in
    let item = c.index-commits-i.result in
    let test : named item ≡ true = cc (c.cmp.ensures, c.is_eq.ensures, c.if-is_eq.true) in
    sym (place_here named c.args.commits.now c.loop-i.i item c.loop-i-test.true c.index-commits-i.is test) ∙ (c.loop-i.invariant ∙ sym (position_from-zero named c.args.commits.now))

pub loop-i-preserved : goal.loop-i-preserved
loop-i-preserved c =
    let named = λ (m : Commit). same_bytes m.name c.args.name.now in
    let item = c.index-commits-i.result in
    let test : named item ≡ false = cc (c.cmp.ensures, c.is_eq.ensures, c.if-is_eq.false) in
    sym (place_later named c.args.commits.now c.loop-i.i item c.loop-i-test.true c.index-commits-i.is test) ∙ c.loop-i.invariant

pub returns : goal.returns
returns c =
    let named = λ (m : Commit). same_bytes m.name c.args.name.now in
    sym (at_drop_all (λ xs. position_from named c.loop-i.i xs) c.args.commits.now c.loop-i.i c.loop-i-test.false) ∙ (c.loop-i.invariant ∙ sym (position_from-zero named c.args.commits.now))
