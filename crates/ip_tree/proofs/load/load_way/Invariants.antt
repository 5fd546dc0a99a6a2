use Rattle.std.proofs.Common.{◌≡◌, ℕ, Option}
use Rattle.std.specs.Prelude.{IsTrue}
use Rattle.sha2.specs.Sha256.{sha256}
use Rattle.ip_spec.specs.Path.{Step}
use Rattle.ip_spec.specs.Tree.{Tree}
use Rattle.ip_spec.specs.declared.record.Record.{Record}
use Rattle.ip_tree.specs.Edits.{IsDirectory, IsSame}
use Rattle.ip_tree.specs.Reads.{IsOver, Looks}
use Rattle.ip_tree.specs.Shown.{shown_directory}
use Rattle.ip_tree.proofs.load.load_way.Given as goal

abbrev pub invariant-loop : goal.invariant-loop
invariant-loop g l =
    let ground = g.G.Ground in
    record {
      same : IsTrue ground.tells → (records : ℕ → Option Record) (t : Tree) (s : Step) → IsOver (ground.told l.fn.outside) l.fn.space records → IsDirectory records (shown_directory l.fn.dir) t → l.places ≡ sha256 s
          → IsSame (IsDirectory records) records (shown_directory l.fn.dir) (shown_directory l.dir) t;
      looks : Looks ground.tells (ground.told l.fn.outside) (ground.told l.outside) l.fn.space l.space;
      counts : ground.counts_of l.outside ≡ ground.counts_of l.fn.outside;
    }
