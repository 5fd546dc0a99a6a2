use Rattle.ip_tree.proofs.Looking.{causes_on, looks_on, still_over}
use Rattle.ip_tree.proofs.Roots.{root_directory, same_view}
use Rattle.ip_three.proofs.load.load_path.Goals as goal

pub returns-in-Loaded-clause-same : goal.returns-in-Loaded-clause-same
returns-in-Loaded-clause-same g c tells records v over is =
    let opened = (c.in_ok-open_root.ensures.opened tells records v over is).0 in
    let tree = c.open_root.new.self in
    let read = c.load_in.ensures.same tells records v.map (still_over _ _ _ _ _ records c.in_ok-open_root.ensures.looks tells over) (root_directory records tree v opened c.in-Loaded.dir c.in-Loaded.is) in
    (same_view records tree v opened c.in-Loaded.dir c.load_in.new.dir c.in-Loaded.is read.0, read.1)

pub returns-in-Loaded-clause-looks : goal.returns-in-Loaded-clause-looks
returns-in-Loaded-clause-looks g c = looks_on _ _ _ _ _ _ _ c.in_ok-open_root.ensures.looks c.load_in.ensures.looks

pub returns-in-Loaded-clause-causes : goal.returns-in-Loaded-clause-causes
returns-in-Loaded-clause-causes g c = causes_on _ _ _ _ _ c.in_ok-open_root.ensures.looks c.load_in.result c.load_in.ensures.causes
