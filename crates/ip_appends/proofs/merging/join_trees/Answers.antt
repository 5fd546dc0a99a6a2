use Rattle.std.proofs.Common.{◌≡◌, rules, sym, ◌∙◌, subst}
use Rattle.std.specs.Prelude.{Err, IfSome, IsTrue, Ok}
use Rattle.ip_spec.specs.Repository.{is_retained}
use Rattle.ip_ground.specs.Counts.{Counts, CountsIf}
use Rattle.ip_three.specs.Answered.{counted_three}
use Rattle.ip_held.specs.declared.held.Held.{Held}
use Rattle.ip_held.specs.Faults.{counted_store}
use Rattle.ip_appends.specs.Merging.{IsBaseTree, JoinsTrees}
use Rattle.ip_held.specs.Held.{SameTables, image_records}
use Rattle.ip_held.specs.Trees.{IsTreeOf}
use Rattle.ip_appends.proofs.JoinedCalls.{looked_by, looked_nothing, looked_on, looked_reading, trees_merged, unfetched}
use Rattle.ip_appends.proofs.JoinedTrees.{counts_stopped}
use Rattle.ip_held.proofs.Stepping.{same_tables}
use Rattle.ip_appends.proofs.merging.join_trees.Goals as goal

pub returns-in_err-base-clause-joins : goal.returns-in_err-base-clause-joins
returns-in_err-base-clause-joins g c =
    let fault = c.in_err-base.field-0.0 in
    let same : c.from_residual.result ≡ Err fault = search rules in
    subst (λ res. JoinsTrees g.G.Ground.tells (g.D.Decides.rule c.args.rules.now) c.args.sides.now res c.args.store.now c.base_tree.new.store (g.G.Ground.told c.args.outside.now) (g.G.Ground.told c.base_tree.new.outside)) (sym same)
    (unfetched g.G.Ground.tells (g.D.Decides.rule c.args.rules.now) c.args.sides.now (λ r. IfSome c.args.sides.now.base (λ n. IsTrue (is_retained r n))) (λ r held. IsBaseTree (image_records held) r c.args.sides.now.base) (λ r branch is. is.base_retained)
    (looked_nothing g.G.Ground.tells c.args.store.now (g.G.Ground.told c.args.outside.now)) c.base_tree.ensures.looked fault c.in_err-base.ensures.tree c.in_err-base.ensures.causes)

pub tree_of-requires : goal.tree_of-requires
tree_of-requires g c =
    let r = c.requires.tables.0 in
    record { tables = (r, same_tables c.args.store.now c.base_tree.new.store c.base_tree.ensures.looked.same r c.requires.tables.2, c.requires.tables.3.head_retained) }

pub returns-in_err-left-clause-joins : goal.returns-in_err-left-clause-joins
returns-in_err-left-clause-joins g c =
    let fault = c.in_err-left.field-0.0 in
    let same : c.from_residual-in_err-left.result ≡ Err fault = search rules in
    subst (λ res. JoinsTrees g.G.Ground.tells (g.D.Decides.rule c.args.rules.now) c.args.sides.now res c.args.store.now c.tree_of.new.store (g.G.Ground.told c.args.outside.now) (g.G.Ground.told c.tree_of.new.outside)) (sym same)
    (unfetched g.G.Ground.tells (g.D.Decides.rule c.args.rules.now) c.args.sides.now (λ r. IsTrue (is_retained r c.args.sides.now.head)) (λ r held. IsTreeOf (image_records held) r c.args.sides.now.head) (λ r branch is. is.head_retained)
    c.base_tree.ensures.looked (looked_by c.tree_of.ensures.same c.tree_of.ensures.looks) fault c.in_err-left.ensures.tree c.in_err-left.ensures.causes)

pub tree_of-requires-2 : goal.tree_of-requires-2
tree_of-requires-2 g c =
    let r = c.requires.tables.0 in
    record { tables = (r, same_tables c.base_tree.new.store c.tree_of.new.store c.tree_of.ensures.same r (same_tables c.args.store.now c.base_tree.new.store c.base_tree.ensures.looked.same r c.requires.tables.2), c.requires.tables.3.number_retained) }

pub returns-in_err-right-clause-joins : goal.returns-in_err-right-clause-joins
returns-in_err-right-clause-joins g c =
    let fault = c.in_err-right.field-0.0 in
    let same : c.from_residual-in_err-right.result ≡ Err fault = search rules in
    subst (λ res. JoinsTrees g.G.Ground.tells (g.D.Decides.rule c.args.rules.now) c.args.sides.now res c.args.store.now c.tree_of-2.new.store (g.G.Ground.told c.args.outside.now) (g.G.Ground.told c.tree_of-2.new.outside)) (sym same)
    (unfetched g.G.Ground.tells (g.D.Decides.rule c.args.rules.now) c.args.sides.now (λ r. IsTrue (is_retained r c.args.sides.now.number)) (λ r held. IsTreeOf (image_records held) r c.args.sides.now.number) (λ r branch is. is.number_retained)
    (looked_on c.base_tree.ensures.looked (looked_by c.tree_of.ensures.same c.tree_of.ensures.looks)) (looked_by c.tree_of-2.ensures.same c.tree_of-2.ensures.looks) fault c.in_err-right.ensures.tree c.in_err-right.ensures.causes)

-- ---- the merge

pub returns-in-Ok-clause-joins : goal.returns-in-Ok-clause-joins
returns-in-Ok-clause-joins g c =
    let now : Held = record c.tree_of-2.new.store { space = c.merge_trees.new.space } in
    let same : SameTables c.tree_of-2.new.store now = search rules in
    trees_merged g.G.Ground.tells (g.D.Decides.rule c.args.rules.now) c.args.sides.now c.base_tree.ensures.looked (looked_by c.tree_of.ensures.same c.tree_of.ensures.looks) (looked_by c.tree_of-2.ensures.same c.tree_of-2.ensures.looks)
    (looked_reading c.tree_of-2.new.store now (g.G.Ground.told c.tree_of-2.new.outside) (g.G.Ground.told c.merge_trees.new.outside) same c.merge_trees.ensures.looks.reads) c.in_ok-base.base c.in_ok-left.left c.in_ok-right.right
    c.in_ok-base.ensures.tree c.in_ok-left.ensures.tree c.in_ok-right.ensures.tree (Ok c.in-Ok.tree) c.in-Ok.ensures.merges tt

pub returns-clause-joins : goal.returns-clause-joins
returns-clause-joins g c =
    let now : Held = record c.tree_of-2.new.store { space = c.merge_trees.new.space } in
    let same : SameTables c.tree_of-2.new.store now = search rules in
    subst (λ res. JoinsTrees g.G.Ground.tells (g.D.Decides.rule c.args.rules.now) c.args.sides.now res c.args.store.now now (g.G.Ground.told c.args.outside.now) (g.G.Ground.told c.merge_trees.new.outside)) (sym c.stopped_by.ensures)
    (trees_merged g.G.Ground.tells (g.D.Decides.rule c.args.rules.now) c.args.sides.now c.base_tree.ensures.looked (looked_by c.tree_of.ensures.same c.tree_of.ensures.looks) (looked_by c.tree_of-2.ensures.same c.tree_of-2.ensures.looks)
    (looked_reading c.tree_of-2.new.store now (g.G.Ground.told c.tree_of-2.new.outside) (g.G.Ground.told c.merge_trees.new.outside) same c.merge_trees.ensures.looks.reads) c.in_ok-base.base c.in_ok-left.left c.in_ok-right.right
    c.in_ok-base.ensures.tree c.in_ok-left.ensures.tree c.in_ok-right.ensures.tree (Err c.in-Err.fault) c.in-Err.ensures.merges c.in-Err.ensures.causes)

pub returns-clause-counts : goal.returns-clause-counts
returns-clause-counts g c =
    let before = g.G.Ground.counts_of c.args.outside.now in
    let after = g.G.Ground.counts_of c.merge_trees.new.outside in
    let same : g.G.Ground.counts_of c.tree_of-2.new.outside ≡ before = c.in_ok-right.ensures.counts ∙ c.in_ok-left.ensures.counts ∙ c.in_ok-base.ensures.counts in
    subst (λ res. Counts counted_store res before after) (sym c.stopped_by.ensures)
    (counts_stopped c.in-Err.fault before after (subst (λ n. CountsIf (counted_three c.in-Err.fault) n after) same c.in-Err.ensures.counts))
