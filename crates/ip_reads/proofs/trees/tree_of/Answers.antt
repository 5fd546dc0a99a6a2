use Rattle.std.proofs.Common.{ℕ, sym, subst}
use Rattle.ip_spec.specs.Repository.{tree_at}
use Rattle.ip_tree.specs.TreeView.{stored_view}
use Rattle.ip_held.specs.Rooted.{IsRooted}
use Rattle.ip_held.specs.Showing.{IsRootOf}
use Rattle.ip_held.specs.Held.{image_records}
use Rattle.ip_held.proofs.Listed.{records_good, records_parts}
use Rattle.ip_held.proofs.RootedViews.{rooted_stored}
use Rattle.ip_held.proofs.SpelledTrees.{short_contents, narrow_tree, lawful_tree}
use Rattle.ip_held.proofs.Stepping.{looks}
use Rattle.ip_reads.proofs.trees.tree_of.Goals as goal

pub returns-in-Ok-clause-tree : goal.returns-in-Ok-clause-tree
returns-in-Ok-clause-tree g c told r held retained =
    let store = c.args.store.now in
    let before = g.G.Ground.told c.args.outside.now in
    let records = image_records held in
    let map = tree_at r c.args.number in
    let at = c.in-Ok.root.at in
    let good = records_good store before r held in
    let parts = records_parts store before r held in
    let root : IsRootOf records r c.args.number c.in-Ok.root = c.in-Ok.ensures.root told r held retained in
    record {
      at = at;
      root = record { commit = root.commit; place = root.place; here = root.here; numbered = root.number; is = root.at };
      spelled = root.tree;
      view = c.of.ensures records map root.tree.0 (record { part = root.tree.1; kind = root.kind; name = root.name })
          (lawful_tree records good parts at map root.tree) (narrow_tree records good parts at map root.tree);
      rooted = subst (λ (o : ℕ). IsRooted records (stored_view records c.args.number o map)) (sym root.at) (rooted_stored records c.args.number root.place root.commit map root.here root.number);
      short = short_contents records good parts at map root.tree;
    }

pub returns-in-Ok-clause-looks : goal.returns-in-Ok-clause-looks
returns-in-Ok-clause-looks g c told = looks c.args.store.now _ c.root_of.ensures.same (g.G.Ground.told c.args.outside.now) (g.G.Ground.told c.root_of.new.outside) (c.root_of.ensures.reads told)

pub returns-in-Err-clause-looks : goal.returns-in-Err-clause-looks
returns-in-Err-clause-looks g c told = looks c.args.store.now _ c.root_of.ensures.same (g.G.Ground.told c.args.outside.now) (g.G.Ground.told c.root_of.new.outside) (c.root_of.ensures.reads told)
