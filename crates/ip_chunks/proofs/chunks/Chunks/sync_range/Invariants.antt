use Rattle.std.proofs.Common.{◌≡◌, ◌≤◌}
use Rattle.std.specs.Prelude.{IsTrue}
use Rattle.ip_ground.specs.Told.{SyncsOnly}
use Rattle.ip_image.specs.Virtual.{chunk_of}
use Rattle.ip_chunks.specs.Places.{IsChunkBetween}
use Rattle.ip_chunks.proofs.Syncing.{AllKept}
use Rattle.ip_chunks.proofs.chunks.Chunks.sync_range.Given as goal

abbrev pub invariant-loop-number : goal.invariant-loop-number
invariant-loop-number g l =
    let ground = g.G.Ground in
    let size = l.self.size in
    record {
      from : chunk_of size l.from ≤ l.number;
      only : IsTrue ground.tells → SyncsOnly (IsChunkBetween size l.from l.to) (ground.told l.fn.outside) (ground.told l.outside);
      kept : IsTrue ground.tells → AllKept (ground.told l.outside) (chunk_of size l.from) l.number;
      counts : ground.counts_of l.outside ≡ ground.counts_of l.fn.outside;
    }
