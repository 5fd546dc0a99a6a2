use Rattle.std.proofs.Common.{◌≡◌, [], length, take}
use Rattle.std.specs.Prelude.{IsTrue, Some}
use Rattle.ip_ground.specs.declared.names.FileName.TheVariants.{Prefix}
use Rattle.ip_ground.specs.Told.{Only, ChangesOnly}
use Rattle.ip_image.specs.Virtual.{total}
use Rattle.ip_space.specs.SpaceView.{byte_at}
use Rattle.ip_worker.specs.Steps.{IsReady, gathered}
use Rattle.ip_worker.proofs.pair.copy_runs.Given as goal

abbrev pub invariant-loop-run : goal.invariant-loop-run
invariant-loop-run g l =
    let ground = g.G.Ground in
    record {
      place : l.place ≡ total (take l.run-index l.runs);
      long : length l.buffer ≡ length l.fn.buffer;
      only : IsTrue ground.tells → ChangesOnly (Only (Prefix l.attempt)) (ground.told l.fn.outside) (ground.told l.outside);
      does : IsTrue ground.tells → IsReady l.attempt l.space (ground.told l.fn.outside) → (ground.told l.fn.outside).held (Prefix l.attempt) ≡ Some []
          → ((ground.told l.outside).held (Prefix l.attempt) ≡ Some (gathered (byte_at (ground.told l.fn.outside) l.space) (take l.run-index l.runs)))
          × (length (gathered (byte_at (ground.told l.fn.outside) l.space) (take l.run-index l.runs)) ≡ l.place);
      counts : ground.counts_of l.outside ≡ ground.counts_of l.fn.outside;
    }
