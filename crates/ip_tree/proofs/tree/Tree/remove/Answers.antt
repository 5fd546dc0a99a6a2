use Rattle.ip_tree.proofs.Looking.{causes_on, looks_on, still_over}
use Rattle.ip_tree.proofs.RemovedViews.{removes_view}
use Rattle.ip_tree.proofs.tree.Tree.remove.Goals as goal
use Rattle.ip_tree.proofs.Roots.{root_directory}

pub returns-in-Loaded-clause-removes : goal.returns-in-Loaded-clause-removes
returns-in-Loaded-clause-removes g c tells records v over is =
    let opened = (c.in_ok-open_root.ensures.opened tells records v over is).0 in
    let tree = c.open_root.new.self in
    let removed = c.remove_from.ensures.removes tells records v.map (still_over _ _ _ _ _ records c.in_ok-open_root.ensures.looks tells over) (root_directory records tree v opened c.in-Loaded.dir c.in-Loaded.is) in
    removes_view records tree v c.in-Loaded.dir opened c.in-Loaded.is c.args.path.now c.remove_from.new.dir c.remove_from.result removed

pub returns-in-Loaded-clause-looks : goal.returns-in-Loaded-clause-looks
returns-in-Loaded-clause-looks g c = looks_on _ _ _ _ _ _ _ c.in_ok-open_root.ensures.looks c.remove_from.ensures.looks

pub returns-in-Loaded-clause-causes : goal.returns-in-Loaded-clause-causes
returns-in-Loaded-clause-causes g c = causes_on _ _ _ _ _ c.in_ok-open_root.ensures.looks c.remove_from.result c.remove_from.ensures.causes
