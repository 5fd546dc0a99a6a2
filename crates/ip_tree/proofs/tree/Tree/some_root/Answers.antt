use Rattle.ip_tree.proofs.GraftSources.{loaded_source, no_count, no_height, stored_root, stored_source}
use Rattle.ip_tree.proofs.PlacedNodes.{count_of}
use Rattle.ip_tree.proofs.tree.Tree.some_root.Goals as goal
use Rattle.ip_tree.proofs.Roots.{root_directory}

pub returns-then-height-eq0-clause-part : goal.returns-then-height-eq0-clause-part
returns-then-height-eq0-clause-part g c tells records w over is =
    let self = c.args.self.now in
    let root = stored_root records self w is c.in-Stored.reference c.in-Stored.is in
    no_height records self w is c.in-Stored.reference c.in-Stored.is c.in_ok-height-in-Stored.height (c.in_ok-height-in-Stored.ensures.height tells records w.map over root.1 root.0 is.lawful) c.if-height-eq0.true

pub returns-else-height-eq0-clause-part : goal.returns-else-height-eq0-clause-part
returns-else-height-eq0-clause-part g c tells records w over is =
    let self = c.args.self.now in
    let root = stored_root records self w is c.in-Stored.reference c.in-Stored.is in
    stored_source records self w is c.in-Stored.reference c.in-Stored.is c.in_ok-height-in-Stored.height (c.in_ok-height-in-Stored.ensures.height tells records w.map over root.1 root.0 is.lawful) c.if-height-eq0.false

pub returns-then-count-eq0-clause-part : goal.returns-then-count-eq0-clause-part
returns-then-count-eq0-clause-part g c tells records w over is =
    let self = c.args.self.now in
    let d = c.in-Loaded.dir in
    let count = count_of records d w.map (root_directory records self w is d c.in-Loaded.is) c.root.result.now c.root.ensures c.count.result c.count.ensures.steps in
    no_count records self w is d c.in-Loaded.is c.count.result count c.if-count-eq0.true

pub returns-else-count-eq0-clause-part : goal.returns-else-count-eq0-clause-part
returns-else-count-eq0-clause-part g c tells records w over is =
    let self = c.args.self.now in
    let d = c.in-Loaded.dir in
    let count = count_of records d w.map (root_directory records self w is d c.in-Loaded.is) c.root.result.now c.root.ensures c.count.result c.count.ensures.steps in
    loaded_source records self w is d c.in-Loaded.is c.count.result count c.if-count-eq0.false
