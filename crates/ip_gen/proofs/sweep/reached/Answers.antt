-- The pass goes down by one record, and is through.
use Rattle.std.proofs.Common.{◌≡◌, ◌⊎◌, inl, inr, ◌≤◌, suc, ◌-◌, subst, arith}
use Rattle.std.specs.Prelude.{Contains}
use Rattle.ip_gen.proofs.Appending.{Added, has_is, lacks_is}
use Rattle.ip_gen.proofs.Sweeping.{IsSwept, swept_by, swept_more, swept}
use Rattle.ip_gen.proofs.sweep.reached.Goals as goal
use Rattle.ip_gen.proofs.sweep.reached.Goals.{then-commit-record-via-then-commit-record, then-commit-record-via-else-commit-record+then-contains}

pub loop-i-preserved-in-loop-i : goal.loop-i-preserved-in-loop-i
loop-i-preserved-in-loop-i c =
    let rs = c.args.records.now in
    let h = c.args.commit in
    let i = c.loop-i.i - 1 in
    let r = c.index-records-i.result in
    let kept = c.loop-i.kept in
    let more = c.insert_below.new.kept in
    let stays : (h ≤ r.at) ⊎ Contains kept.keys r.at = elim c.then-commit-record.branch [
      | then-commit-record-via-then-commit-record w ↦ inl w.if-commit-record.true
      | then-commit-record-via-else-commit-record+then-contains w ↦ inr (has_is kept r.at w.contains.result w.contains.ensures w.if-contains.true)
    ] in
    let adds : Added kept.keys more.keys r.refs h = subst (λ refs. Added kept.keys more.keys refs h) c.as_slice.ensures c.in_ok-insert_below.ensures.added in
    let before : c.loop-i.i ≡ suc i = omega (arith, c.loop-i-test.true) in
    swept_more rs h i kept more r c.requires.order c.requires.below (omega (arith, c.loop-i-test.true, c.loop-i.auto.i)) c.index-records-i.is stays c.insert_below.ensures.ordered adds
    (subst (λ n. IsSwept rs h n kept) before c.loop-i.invariant)

pub loop-i-preserved : goal.loop-i-preserved
loop-i-preserved c =
    let rs = c.args.records.now in
    let h = c.args.commit in
    let i = c.loop-i.i - 1 in
    let r = c.index-records-i.result in
    let kept = c.loop-i.kept in
    let before : c.loop-i.i ≡ suc i = omega (arith, c.loop-i-test.true) in
    swept_by rs h i kept r (omega (arith, c.loop-i-test.true, c.loop-i.auto.i)) c.index-records-i.is c.if-commit-record.false (lacks_is kept r.at c.contains.result c.contains.ensures c.if-contains.false)
    (subst (λ n. IsSwept rs h n kept) before c.loop-i.invariant)

pub returns : goal.returns
returns c =
    let zero_is : c.loop-i.i ≡ 0 = omega (arith, c.loop-i-test.false) in
    swept c.args.records.now c.args.commit c.loop-i.kept c.requires.below (subst (λ n. IsSwept c.args.records.now c.args.commit n c.loop-i.kept) zero_is c.loop-i.invariant)
