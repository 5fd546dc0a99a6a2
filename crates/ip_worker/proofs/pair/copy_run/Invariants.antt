use Rattle.std.proofs.Common.{◌≡◌, ◌-◌, ◌≤◌, length}
use Rattle.std.specs.Prelude.{IsTrue, Some}
use Rattle.ip_ground.specs.declared.names.FileName.TheVariants.{Prefix}
use Rattle.ip_ground.specs.Told.{Only, ChangesOnly}
use Rattle.ip_spec.specs.Path.{Bytes}
use Rattle.ip_space.specs.SpaceView.{byte_at}
use Rattle.ip_worker.specs.Steps.{IsReady, IsCopied}
use Rattle.ip_worker.proofs.pair.copy_run.Given as goal

abbrev pub invariant-loop-done : goal.invariant-loop-done
invariant-loop-done g l =
    let ground = g.G.Ground in
    record {
      within : l.done ≤ l.run.length;
      long : length l.buffer ≡ length l.fn.buffer;
      only : IsTrue ground.tells → ChangesOnly (Only (Prefix l.attempt)) (ground.told l.fn.outside) (ground.told l.outside);
      does : IsTrue ground.tells → IsReady l.attempt l.space (ground.told l.fn.outside) → (before : Bytes) → (ground.told l.fn.outside).held (Prefix l.attempt) ≡ Some before → length before ≡ l.place
          → IsCopied (byte_at (ground.told l.fn.outside) l.space) l.attempt l.run.at l.done before (ground.told l.outside);
      counts : ground.counts_of l.outside ≡ ground.counts_of l.fn.outside;
    }

abbrev pub decreases-loop-done : goal.decreases-loop-done
decreases-loop-done g l = l.run.length - l.done
