use Rattle.std.proofs.Common.{◌≡◌, arith, map}
use Rattle.std.proofs.lemmas.List.{length-map}
use Rattle.std.specs.declared.cmp.Ordering.TheVariants.{Less}
use Rattle.ip_spec.specs.Path.{bytes_cmp}
use Rattle.ip_spec.specs.declared.record.LeafEntry.{LeafEntry}
use Rattle.ip_save.proofs.Rising.{rising_from, pair_rises}
use Rattle.ip_save.proofs.leaf.are_rising.Goals as goal

pub loop-i-preserved : goal.loop-i-preserved
loop-i-preserved c =
    let less : bytes_cmp c.index-entries-i.result.step c.index-entries-i-in-loop-i.result.step ≡ Less = cc (c.cmp.ensures, c.in-Less.is, c.bytes.ensures, c.bytes-in-loop-i.ensures) in
    pair_rises c.args.entries.now c.loop-i.i c.index-entries-i.result c.index-entries-i-in-loop-i.result (omega arith) (omega arith) c.index-entries-i.is c.index-entries-i-in-loop-i.is less c.loop-i.invariant

pub returns : goal.returns
returns c true = rising_from (map (λ (e : LeafEntry). e.step) c.args.entries.now) (λ k lt. c.loop-i.invariant k (omega (arith, lt, length-map c.args.entries.now (λ (e : LeafEntry). e.step), c.loop-i-test.false)))
