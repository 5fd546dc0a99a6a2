use Rattle.ip_spec.specs.Batch.{reusing_sources}
use Rattle.ip_save.proofs.FirstTree.{first_stands}
use Rattle.ip_save.proofs.saved_trees.Goals as goal

pub returns : goal.returns
returns c records tree v r first f end below is is_first =
    let known = c.known_parts.ensures records tree v end is below in
    c.batch_stands.ensures.stands records v (reusing_sources v first) end known (c.batch_stands.ensures.reused records v first end known (first_stands records r first is_first)) is.lawful f
