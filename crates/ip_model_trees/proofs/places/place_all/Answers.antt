use Rattle.std.proofs.Common.{ap, refl, ◌∙◌}
use Rattle.sha2.specs.Sha256.{sha256}
use Rattle.ip_model_trees.proofs.Parting.{placed_more}
use Rattle.ip_model_trees.proofs.places.place_all.Goals as goal

pub loop-entry-preserved : goal.loop-entry-preserved
loop-entry-preserved c =
    placed_more c.args.entries.now c.loop-entry.entry-index c.entry-item.result c.loop-entry.all.items c.push.new.self.items _ c.loop-entry-test.true c.entry-item.is c.loop-entry.invariant.0 c.loop-entry.invariant.1 c.in_ok-push.ensures.items refl
    (c.digest.ensures ∙ ap sha256 c.bytes.ensures)
