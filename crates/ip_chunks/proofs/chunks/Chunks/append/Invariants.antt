use Rattle.std.proofs.Common.{◌≡◌, ◌+◌, ◌-◌, ◌<◌, ◌≤◌, length, take}
use Rattle.std.specs.Prelude.{IsTrue, Ok}
use Rattle.ip_ground.specs.Told.{ChangesOnly}
use Rattle.ip_image.specs.Virtual.{place_in_chunk}
use Rattle.ip_chunks.specs.Places.{chunk_start, NoGap, IsChunkBetween}
use Rattle.ip_chunks.specs.Effects.{Appends}
use Rattle.ip_chunks.proofs.chunks.Chunks.append.Given as goal

abbrev pub invariant-loop-done : goal.invariant-loop-done
invariant-loop-done g l =
    let ground = g.G.Ground in
    let size = l.self.size in
    record {
      within : l.done ≤ length l.bytes;
      does : IsTrue ground.tells → NoGap size (ground.told l.fn.outside).held (chunk_start size l.end) l.end → Appends size l.end (take l.done l.bytes) (Ok tt) (ground.told l.fn.outside) (ground.told l.outside);
      only : IsTrue ground.tells → ChangesOnly (IsChunkBetween size l.end (l.end + length l.bytes)) (ground.told l.fn.outside) (ground.told l.outside);
      border : 0 < l.done → l.done < length l.bytes → place_in_chunk size (l.end + l.done) ≡ 0;
      none : length l.bytes ≡ 0 → l.outside ≡ l.fn.outside;
      counts : ground.counts_of l.outside ≡ ground.counts_of l.fn.outside;
    }

abbrev pub decreases-loop-done : goal.decreases-loop-done
decreases-loop-done g l = length l.bytes - l.done
