use Rattle.std.proofs.Common.{◌≡◌, ℕ, Option, Some, drop, take}
use Rattle.std.specs.Prelude.{IsTrue}
use Rattle.ip_space.specs.SpaceView.{IsReadable, records_of}
use Rattle.ip_spec.specs.View.{View}
use Rattle.ip_spec.specs.declared.record.Record.{Record}
use Rattle.ip_spec.specs.declared.record.Ref.{Ref}
use Rattle.ip_tree.specs.Finding.{as_node, ref_of, walk_to}
use Rattle.ip_tree.specs.Reads.{IsOver, Looks}
use Rattle.ip_tree.specs.TreeView.{IsView}
use Rattle.ip_tree.specs.declared.tree.Root.TheVariants as Root
use Rattle.ip_tree.proofs.Found.{StandsAt}
use Rattle.ip_tree.proofs.tree.Tree.at.Given as goal

abbrev pub invariant-loop-step : goal.invariant-loop-step
invariant-loop-step g l =
    let ground = g.G.Ground in
    record {
      place : IsTrue ground.tells → (records : ℕ → Option Record) (w : View) → IsOver (ground.told l.fn.outside) l.fn.space records → IsView records l.self w → StandsAt records w (take l.step-index l.path) (as_node l.place);
      any : IsTrue ground.tells → IsReadable (ground.told l.fn.outside) l.fn.space → (r : Ref) → l.self.root ≡ Root.Stored r
          → (q : Ref) × (ref_of (as_node l.place) ≡ Some q) × (walk_to (records_of (ground.told l.fn.outside) l.fn.space) (drop l.step-index l.path) q ≡ walk_to (records_of (ground.told l.fn.outside) l.fn.space) l.path r);
      looks : Looks ground.tells (ground.told l.fn.outside) (ground.told l.outside) l.fn.space l.space;
      counts : ground.counts_of l.outside ≡ ground.counts_of l.fn.outside;
    }
