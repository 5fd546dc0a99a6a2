use Rattle.ip_tree.specs.Shown.{shown}
use Rattle.ip_three.proofs.Placing.{node_means, puts_node}
use Rattle.ip_three.proofs.apply.put.Goals as goal

pub returns-clause-puts : goal.returns-clause-puts
returns-clause-puts g c tells records v r right over is right_is is_path found =
    let path = c.args.path.now in
    let n = shown c.node_for.result in
    puts_node records c.args.tree.now v r is path is_path n c.place.new.self right right_is c.args.coming found c.node_for.ensures c.place.result
    (c.place.ensures.place tells records v _ over is (node_means records c.args.tree.now v r is path is_path n c.place.new.self c.args.coming found c.node_for.ensures))
