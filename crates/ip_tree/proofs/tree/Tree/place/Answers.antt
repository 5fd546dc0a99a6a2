use Rattle.ip_tree.specs.Shown.{shown}
use Rattle.ip_tree.proofs.Looking.{causes_on, looks_on, still_over}
use Rattle.ip_tree.proofs.PlacedRoots.{placed_in}
use Rattle.ip_tree.proofs.tree.Tree.place.Goals as goal
use Rattle.ip_tree.proofs.Roots.{root_directory}

pub returns-in-Loaded-clause-place : goal.returns-in-Loaded-clause-place
returns-in-Loaded-clause-place g c tells records v sub over is is_part =
    let opened = (c.in_ok-open_root.ensures.opened tells records v over is).0 in
    let later = still_over g.G.Ground.tells (g.G.Ground.told c.args.outside.now) (g.G.Ground.told c.open_root.new.outside) c.args.space.now c.open_root.new.space records c.in_ok-open_root.ensures.looks tells over in
    placed_in records c.open_root.new.self v opened c.in-Loaded.dir c.in-Loaded.is c.args.path.now (shown c.args.part) sub c.place_in.new.dir c.place_in.result
    (c.place_in.ensures.place tells records v.map sub later (root_directory records c.open_root.new.self v opened c.in-Loaded.dir c.in-Loaded.is) is_part)

pub returns-in-Loaded-clause-looks : goal.returns-in-Loaded-clause-looks
returns-in-Loaded-clause-looks g c = looks_on _ _ _ _ _ _ _ c.in_ok-open_root.ensures.looks c.place_in.ensures.looks

pub returns-in-Loaded-clause-causes : goal.returns-in-Loaded-clause-causes
returns-in-Loaded-clause-causes g c = causes_on _ _ _ _ _ c.in_ok-open_root.ensures.looks c.place_in.result c.place_in.ensures.causes
