use Rattle.std.proofs.Common.{◌∙◌}
use Rattle.ip_tree.proofs.Heights.{loaded_root}
use Rattle.ip_tree.proofs.Roots.{root_at, root_directory}
use Rattle.ip_tree.specs.declared.tree.Root.TheVariants.{Stored}
use Rattle.ip_tree.proofs.tree.Tree.height.Goals as goal

pub returns-in-Stored-clause-height : goal.returns-in-Stored-clause-height
returns-in-Stored-clause-height g c tells records v over is =
    let root = root_at records c.args.self.now v is (Stored c.in-Stored.reference) c.in-Stored.is in c.stored_height.ensures.height tells records v.map over root.1 root.0 is.lawful

pub returns-in-Loaded-clause-height : goal.returns-in-Loaded-clause-height
returns-in-Loaded-clause-height g c tells records v over is =
    c.height_in.ensures ∙ loaded_root records c.in-Loaded.dir v.map (root_directory records c.args.self.now v is c.in-Loaded.dir c.in-Loaded.is) is.lawful
