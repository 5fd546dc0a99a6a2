use Rattle.std.proofs.Common.{refl}
use Rattle.ip_tree.proofs.StoredWhole.{stored_view_below}
use Rattle.ip_tree.proofs.tree.Tree.of.Goals as goal

pub returns : goal.returns
returns c records map directory spells lawful narrow = record {
  root = (directory, spells);
  lawful = lawful;
  narrow = narrow;
  oldest = refl;
  known = λ part. refl;
  below = stored_view_below records c.args.number c.args.root.at map spells.part;
}
