use Rattle.std.proofs.Common.{◌≡◌, rules, Some, refl, sym, ap, subst}
use Rattle.std.specs.Prelude.{Ok, Err}
use Rattle.ip_spec.specs.declared.reply.Reply.TheVariants as Reply
use Rattle.ip_held.specs.declared.fault.StoreFault.TheVariants as StoreFault
use Rattle.ip_held.specs.declared.work.Work.{Work}
use Rattle.ip_held.specs.Collecting.{phase_of}
use Rattle.ip_held.specs.Held.{image_records}
use Rattle.ip_appends.specs.declared.merging.Merge.TheVariants as Merge
use Rattle.ip_appends.specs.Merging.{IsJoin, IsJoined, MergesWhere}
use Rattle.ip_appends.proofs.JoinDone.{done, join_may}
use Rattle.ip_appends.proofs.MergeExits.{conflict, join_failed, join_limits, join_undamaged, looked_fault, looked_value}
use Rattle.ip_appends.proofs.MergeTurns.{turn_memory}
use Rattle.ip_appends.proofs.merging.join.Goals as goal

pub returns-in_err-tree-clause-joins : goal.returns-in_err-tree-clause-joins
returns-in_err-tree-clause-joins g c =
    let rule = g.D.Decides.rule c.args.rules.now in
    let phase = phase_of c.args.store.now.collection in
    let fault = c.in_err-tree.field-0.0 in
    let same : c.from_residual.result ≡ Err fault = search rules in
    subst (λ res. MergesWhere (λ r. IsJoin r phase c.args.branch.now c.args.sides.now) g.G.Ground.tells rule c.args.sides.now.number c.args.branch.now c.args.info res c.args.store.now c.join_trees.new.store (g.G.Ground.told c.args.outside.now) (g.G.Ground.told c.join_trees.new.outside)) (sym same)
    (looked_fault g.G.Ground.tells rule c.args.sides.now.number c.args.branch.now c.args.info (λ r. IsJoin r phase c.args.branch.now c.args.sides.now) c.args.store.now c.join_trees.new.store (g.G.Ground.told c.args.outside.now) (g.G.Ground.told c.join_trees.new.outside) c.join_trees.ensures.joins.looked fault
    (λ told decides r held is.
    let outcome = c.in_err-tree.ensures.joins.joins told decides r c.args.branch.now held is in
    record {
      turns = join_failed rule r phase c.args.branch.now c.args.info c.args.sides.now is (image_records held) fault outcome;
      limits = join_limits rule r phase c.args.branch.now c.args.info c.args.sides.now is (image_records held) c.args.store.now fault outcome;
      undamaged = join_undamaged rule r phase c.args.branch.now c.args.info c.args.sides.now is (image_records held) fault outcome;
    })
    c.in_err-tree.ensures.joins.causes)

pub returns-in-Conflict-clause-joins : goal.returns-in-Conflict-clause-joins
returns-in-Conflict-clause-joins g c =
    let rule = g.D.Decides.rule c.args.rules.now in
    let phase = phase_of c.args.store.now.collection in
    looked_value g.G.Ground.tells rule c.args.sides.now.number c.args.branch.now c.args.info (λ r. IsJoin r phase c.args.branch.now c.args.sides.now) c.args.store.now c.join_trees.new.store (g.G.Ground.told c.args.outside.now) (g.G.Ground.told c.join_trees.new.outside) c.join_trees.ensures.joins.looked (Merge.Conflict c.in-Conflict.path) refl
    (λ told decides r held is. (
      Reply.Conflict c.in-Conflict.path,
      refl,
      conflict rule r phase c.args.branch.now c.args.info c.args.sides.now is (image_records held) c.in-Conflict.path (subst (λ x. IsJoined rule (image_records held) r c.args.sides.now (Ok x)) c.in-Conflict.is (c.in_ok-tree.ensures.joins.joins told decides r c.args.branch.now held is)),
    ))

pub returns-in_err-both-clause-joins : goal.returns-in_err-both-clause-joins
returns-in_err-both-clause-joins g c =
    let rule = g.D.Decides.rule c.args.rules.now in
    let phase = phase_of c.args.store.now.collection in
    let same : c.from_residual-in_err-both.result ≡ Err StoreFault.Memory = search rules in
    subst (λ res. MergesWhere (λ r. IsJoin r phase c.args.branch.now c.args.sides.now) g.G.Ground.tells rule c.args.sides.now.number c.args.branch.now c.args.info res c.args.store.now c.join_trees.new.store (g.G.Ground.told c.args.outside.now) (g.G.Ground.told c.join_trees.new.outside)) (sym same)
    (looked_fault g.G.Ground.tells rule c.args.sides.now.number c.args.branch.now c.args.info (λ r. IsJoin r phase c.args.branch.now c.args.sides.now) c.args.store.now c.join_trees.new.store (g.G.Ground.told c.args.outside.now) (g.G.Ground.told c.join_trees.new.outside) c.join_trees.ensures.joins.looked StoreFault.Memory
    (λ told decides r held is. record { turns = turn_memory rule r phase c.args.sides.now.number c.args.branch.now c.args.info; limits = tt; undamaged = tt }) tt)

-- ---- the commit

pub commit-requires-clause-tables : goal.commit-requires-clause-tables
commit-requires-clause-tables g c =
    let r = c.requires.tables.0 in
    let may = join_may c.args.store.now c.join_trees.new.store r (phase_of c.args.store.now.collection) c.args.branch.now c.args.sides.now c.join_trees.ensures.joins.looked.same c.requires.tables.1 c.requires.tables.2 c.in_ok-both.field-0 c.in_ok-both.ensures (Some c.lesser.result) (ap Some c.lesser.ensures) in
    (r, may.0, may.1)

pub returns-in_err-name-clause-joins : goal.returns-in_err-name-clause-joins
returns-in_err-name-clause-joins g c =
    let rule = g.D.Decides.rule c.args.rules.now in
    let phase = phase_of c.args.store.now.collection in
    let fault = c.in_err-name.field-0.0 in
    let same : c.from_residual-in_err-name.result ≡ Err fault = search rules in
    let work : Work = record { tree = c.in-Tree.tree; parents = c.in_ok-both.field-0; least = Some c.lesser.result } in
    subst (λ res. MergesWhere (λ r. IsJoin r phase c.args.branch.now c.args.sides.now) g.G.Ground.tells rule c.args.sides.now.number c.args.branch.now c.args.info res c.args.store.now c.commit.new.store (g.G.Ground.told c.args.outside.now) (g.G.Ground.told c.commit.new.outside)) (sym same)
    (done g.G.Ground.tells rule c.args.branch.now c.args.info c.args.sides.now c.args.store.now c.join_trees.new.store (g.G.Ground.told c.args.outside.now) (g.G.Ground.told c.join_trees.new.outside) c.join_trees.ensures.joins.looked work c.in_ok-both.ensures (ap Some c.lesser.ensures)
    (λ told decides r held is. subst (λ x. IsJoined rule (image_records held) r c.args.sides.now (Ok x)) c.in-Tree.is (c.in_ok-tree.ensures.joins.joins told decides r c.args.branch.now held is))
    (Err fault) c.commit.new.store c.commit.new.work (g.G.Ground.told c.commit.new.outside) c.in_err-name.ensures.commits)

pub returns-clause-joins : goal.returns-clause-joins
returns-clause-joins g c =
    let rule = g.D.Decides.rule c.args.rules.now in
    let work : Work = record { tree = c.in-Tree.tree; parents = c.in_ok-both.field-0; least = Some c.lesser.result } in
    done g.G.Ground.tells rule c.args.branch.now c.args.info c.args.sides.now c.args.store.now c.join_trees.new.store (g.G.Ground.told c.args.outside.now) (g.G.Ground.told c.join_trees.new.outside) c.join_trees.ensures.joins.looked work c.in_ok-both.ensures (ap Some c.lesser.ensures)
    (λ told decides r held is. subst (λ x. IsJoined rule (image_records held) r c.args.sides.now (Ok x)) c.in-Tree.is (c.in_ok-tree.ensures.joins.joins told decides r c.args.branch.now held is))
    (Ok c.in_ok-name.name) c.commit.new.store c.commit.new.work (g.G.Ground.told c.commit.new.outside) c.in_ok-name.ensures.commits
