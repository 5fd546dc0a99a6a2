use Rattle.std.proofs.Common.{◌≡◌, rules, refl, sym, ap, subst}
use Rattle.std.specs.Prelude.{Result, Ok, Err}
use Rattle.ip_spec.specs.Record.{Hash}
use Rattle.ip_held.specs.declared.fault.StoreFault.{StoreFault}
use Rattle.ip_held.specs.Step.{IsStep, MayTake}
use Rattle.ip_appends.specs.Commits.{CommitsWork}
use Rattle.ip_appends.proofs.AfterCommit.{may_commit, read_root}
use Rattle.ip_appends.proofs.BehindPlan.{next_behind}
use Rattle.ip_appends.proofs.CommitExits.{commit_cut, commit_made, commit_refused}
use Rattle.ip_held.proofs.Stepping.{same_tables}
use Rattle.ip_appends.proofs.committing.commit.Goals as goal

-- ---- the step

pub take-requires-clause-tables : goal.take-requires-clause-tables
take-requires-clause-tables g c = (c.requires.tables.0, same_tables c.args.store.now c.plan_commit.new.store c.plan_commit.ensures.same c.requires.tables.0 c.requires.tables.1)

pub take-requires-clause-may : goal.take-requires-clause-may
take-requires-clause-may g c =
    let r = c.requires.tables.0 in
    let of = c.requires.tables.1 in
    let same = c.plan_commit.ensures.same in
    let plan = c.in_ok-plan.plan in
    subst (λ bytes. MayTake c.plan_commit.new.store bytes plan.step) (sym c.bytes.ensures)
    (may_commit r c.args.work.now c.args.branch.now c.plan_commit.new.store plan (same_tables c.args.store.now c.plan_commit.new.store same r of)
    (next_behind c.args.store.now c.plan_commit.new.store same r c.args.work.now.parents c.args.branch.now plan (c.in_ok-plan.ensures.coming r of)) c.requires.tables.2 (c.in_ok-plan.ensures.there r of))

-- ---- where it ends

pub returns-in_err-plan-clause-commits : goal.returns-in_err-plan-clause-commits
returns-in_err-plan-clause-commits g c =
    let fault = c.in_err-plan.field-0.0 in
    let is : c.from_residual.result ≡ Err fault = search rules in
    subst (λ (res : Result Hash StoreFault). CommitsWork g.G.Ground.tells c.args.branch.now c.args.info res c.args.store.now c.plan_commit.new.store c.args.work.now c.args.work.now (g.G.Ground.told c.args.outside.now) (g.G.Ground.told c.plan_commit.new.outside)) (sym is)
    (commit_refused g.G.Ground.tells c.args.branch.now c.args.info c.args.store.now c.plan_commit.new.store c.args.work.now (g.G.Ground.told c.args.outside.now) (g.G.Ground.told c.plan_commit.new.outside) c.plan_commit.ensures.same c.plan_commit.ensures.looks
    fault c.in_err-plan.ensures.refused c.in_err-plan.ensures.space c.in_err-plan.ensures.sequence c.in_err-plan.ensures.causes c.in_err-plan.ensures.undamaged (λ none. (c.in_err-plan.ensures.alone none).1) c.in_err-plan.ensures.begun c.in_err-plan.ensures.wanted)

pub returns-in_err-take-clause-commits : goal.returns-in_err-take-clause-commits
returns-in_err-take-clause-commits g c =
    let fault = c.in_err-take.field-0.0 in
    let is : c.from_residual-in_err-take.result ≡ Err fault = search rules in
    let plan = c.in_ok-plan.plan in
    subst (λ (res : Result Hash StoreFault). CommitsWork g.G.Ground.tells c.args.branch.now c.args.info res c.args.store.now c.take.new.self c.args.work.now c.args.work.now (g.G.Ground.told c.args.outside.now) (g.G.Ground.told c.take.new.outside)) (sym is)
    (commit_cut g.G.Ground.tells c.args.branch.now c.args.info c.args.store.now c.plan_commit.new.store c.args.work.now (g.G.Ground.told c.args.outside.now) (g.G.Ground.told c.plan_commit.new.outside) c.plan_commit.ensures.same c.plan_commit.ensures.looks
    plan c.in_ok-plan.ensures.coming c.in_ok-plan.ensures.planned c.in_ok-plan.ensures.there c.in_ok-plan.ensures.passed c.take.new.self (g.G.Ground.told c.take.new.outside) (Err fault) c.take.ensures.numbers c.take.ensures.same_collection c.take.ensures.unswept c.in_err-take.ensures.grew
    (λ told r after more held step. c.in_err-take.ensures.took told r after more held (subst (λ bytes. IsStep held after more bytes plan.step) (sym c.bytes.ensures) step)) c.in_err-take.ensures.clear c.take.ensures.beside
    fault refl c.in_err-take.ensures.fault (λ e. let none = c.in_err-take.ensures.refused (ap Err e) in (none.0, ap g.G.Ground.told none.1)))

pub returns-clause-commits : goal.returns-clause-commits
returns-clause-commits g c =
    let plan = c.in_ok-plan.plan in
    commit_made g.G.Ground.tells c.args.branch.now c.args.info c.args.store.now c.plan_commit.new.store c.args.work.now (g.G.Ground.told c.args.outside.now) (g.G.Ground.told c.plan_commit.new.outside) c.plan_commit.ensures.same c.plan_commit.ensures.looks
    plan c.in_ok-plan.ensures.coming c.in_ok-plan.ensures.planned c.in_ok-plan.ensures.there c.in_ok-plan.ensures.passed c.take.new.self (g.G.Ground.told c.take.new.outside) (Ok tt) c.take.ensures.numbers c.take.ensures.same_collection c.take.ensures.unswept c.in_ok-take.ensures.grew
    (λ told r after more held step. c.in_ok-take.ensures.took told r after more held (subst (λ bytes. IsStep held after more bytes plan.step) (sym c.bytes.ensures) step)) c.in_ok-take.ensures.clear c.take.ensures.beside
    refl c.in_ok-take.ensures.taken _ (read_root plan.number c.root.result plan.batch.root c.of.result c.root.ensures c.of.ensures) refl refl c.name.result c.name.ensures
