use Rattle.std.proofs.Common.{◌≡◌, rules, sym, subst}
use Rattle.std.specs.Prelude.{Err}
use Rattle.ip_held.specs.declared.fault.StoreFault.TheVariants as StoreFault
use Rattle.ip_held.specs.Collecting.{phase_of}
use Rattle.ip_appends.specs.Merging.{IsForward, IsJoin, MergesInto}
use Rattle.ip_appends.specs.declared.merging.Sides.{Sides}
use Rattle.ip_appends.proofs.MergeCourses.{course_may, forward_apart, forward_at, head_there, into_bases, into_current, into_leaving, into_memory, into_none, join_at, needs_forward, needs_join}
use Rattle.ip_appends.proofs.MergeExits.{forward_into, into}
use Rattle.ip_appends.proofs.merging.merge_into.Goals as goal

pub returns-in-None-clause-merges : goal.returns-in-None-clause-merges
returns-in-None-clause-merges g c = into_none g.G.Ground.tells (g.D.Decides.rule c.args.rules.now) c.args.number c.args.branch.now c.args.info c.args.store.now (g.G.Ground.told c.args.outside.now) c.head.result c.head.ensures c.in-None.is

pub course_of-requires : goal.course_of-requires
course_of-requires g c =
    let r = c.requires.tables.0 in
    let of = c.requires.tables.1 in
    record { tables = (r, of, course_may g.G.Ground.tells (g.D.Decides.rule c.args.rules.now) c.args.number c.args.branch.now c.args.info c.args.store.now (g.G.Ground.told c.args.outside.now) c.head.result c.head.ensures c.in-Some.head c.in-Some.is r of, c.requires.tables.2) }

pub returns-in_err-course_of-clause-merges : goal.returns-in_err-course_of-clause-merges
returns-in_err-course_of-clause-merges g c =
    let same : c.from_residual.result ≡ Err StoreFault.Memory = search rules in
    subst (λ res. MergesInto g.G.Ground.tells (g.D.Decides.rule c.args.rules.now) c.args.number c.args.branch.now c.args.info res c.args.store.now c.args.store.now (g.G.Ground.told c.args.outside.now) (g.G.Ground.told c.args.outside.now)) (sym same)
    (into_memory g.G.Ground.tells (g.D.Decides.rule c.args.rules.now) c.args.number c.args.branch.now c.args.info c.args.store.now (g.G.Ground.told c.args.outside.now) c.head.result c.head.ensures c.in-Some.head c.in-Some.is)

pub retained_name-requires : goal.retained_name-requires
retained_name-requires g c =
    let r = c.requires.tables.0 in
    let of = c.requires.tables.1 in
    record { tables = (r, of, course_may g.G.Ground.tells (g.D.Decides.rule c.args.rules.now) c.args.number c.args.branch.now c.args.info c.args.store.now (g.G.Ground.told c.args.outside.now) c.head.result c.head.ensures c.in-Some.head c.in-Some.is r of) }

pub returns-in-Current-clause-merges : goal.returns-in-Current-clause-merges
returns-in-Current-clause-merges g c =
    into_current g.G.Ground.tells (g.D.Decides.rule c.args.rules.now) c.args.number c.args.branch.now c.args.info c.args.store.now (g.G.Ground.told c.args.outside.now) c.head.result c.head.ensures c.in-Some.head c.in-Some.is c.in_ok-course_of.field-0 c.in_ok-course_of.ensures c.in-Current.is c.retained_name.result c.retained_name.ensures

pub returns-in-Leaving-clause-merges : goal.returns-in-Leaving-clause-merges
returns-in-Leaving-clause-merges g c =
    into_leaving g.G.Ground.tells (g.D.Decides.rule c.args.rules.now) c.args.number c.args.branch.now c.args.info c.args.store.now (g.G.Ground.told c.args.outside.now) c.head.result c.head.ensures c.in-Some.head c.in-Some.is c.in_ok-course_of.field-0 c.in_ok-course_of.ensures c.in-Leaving.is

pub returns-in-Bases-clause-merges : goal.returns-in-Bases-clause-merges
returns-in-Bases-clause-merges g c =
    into_bases g.G.Ground.tells (g.D.Decides.rule c.args.rules.now) c.args.number c.args.branch.now c.args.info c.args.store.now (g.G.Ground.told c.args.outside.now) c.head.result c.head.ensures c.in-Some.head c.in-Some.is c.in_ok-course_of.field-0 c.in_ok-course_of.ensures c.in-Bases.count c.in-Bases.is

-- ---- the branch moves on

pub forward-requires-clause-tables : goal.forward-requires-clause-tables
forward-requires-clause-tables g c =
    let r = c.requires.tables.0 in
    let of = c.requires.tables.1 in
    (r, of, forward_at g.G.Ground.tells (g.D.Decides.rule c.args.rules.now) c.args.number c.args.branch.now c.args.info c.args.store.now (g.G.Ground.told c.args.outside.now) c.head.result c.head.ensures c.in-Some.head c.in-Some.is c.in_ok-course_of.field-0 c.in_ok-course_of.ensures c.in-Forward.is r of c.requires.tables.2)

pub returns-in-Forward-clause-merges : goal.returns-in-Forward-clause-merges
returns-in-Forward-clause-merges g c =
    let rule = g.D.Decides.rule c.args.rules.now in
    let at = forward_at g.G.Ground.tells rule c.args.number c.args.branch.now c.args.info c.args.store.now (g.G.Ground.told c.args.outside.now) c.head.result c.head.ensures c.in-Some.head c.in-Some.is c.in_ok-course_of.field-0 c.in_ok-course_of.ensures c.in-Forward.is in
    into g.G.Ground.tells rule c.args.number c.args.branch.now c.args.info (λ r. IsForward r c.args.branch.now c.args.number) c.forward.result c.args.store.now c.forward.new.store (g.G.Ground.told c.args.outside.now) (g.G.Ground.told c.forward.new.outside)
    at
    (λ r of here none. needs_forward r (phase_of c.args.store.now.collection) c.args.branch.now c.args.number (at r of here))
    (λ r of e. head_there g.G.Ground.tells rule c.args.number c.args.branch.now c.args.info c.args.store.now (g.G.Ground.told c.args.outside.now) c.head.result c.head.ensures c.in-Some.head c.in-Some.is r of)
    (λ r of is. c.forward.ensures.forwards.room)
    (forward_into g.G.Ground.tells rule c.args.number c.args.branch.now c.args.info c.forward.result c.args.store.now c.forward.new.store (g.G.Ground.told c.args.outside.now) (g.G.Ground.told c.forward.new.outside) c.forward.ensures.forwards)

-- ---- the trees are merged

pub join-requires-clause-tables : goal.join-requires-clause-tables
join-requires-clause-tables g c =
    let r = c.requires.tables.0 in
    let of = c.requires.tables.1 in
    (r, of, join_at g.G.Ground.tells (g.D.Decides.rule c.args.rules.now) c.args.number c.args.branch.now c.args.info c.args.store.now (g.G.Ground.told c.args.outside.now) c.head.result c.head.ensures c.in-Some.head c.in-Some.is c.in_ok-course_of.field-0 c.in_ok-course_of.ensures c.in-Join.base c.in-Join.is r of c.requires.tables.2)

pub returns-in-Join-clause-merges : goal.returns-in-Join-clause-merges
returns-in-Join-clause-merges g c =
    let rule = g.D.Decides.rule c.args.rules.now in
    let sides : Sides = record { base = c.in-Join.base; head = c.in-Some.head; number = c.args.number } in
    let at = join_at g.G.Ground.tells rule c.args.number c.args.branch.now c.args.info c.args.store.now (g.G.Ground.told c.args.outside.now) c.head.result c.head.ensures c.in-Some.head c.in-Some.is c.in_ok-course_of.field-0 c.in_ok-course_of.ensures c.in-Join.base c.in-Join.is in
    into g.G.Ground.tells rule c.args.number c.args.branch.now c.args.info (λ r. IsJoin r (phase_of c.args.store.now.collection) c.args.branch.now sides) c.join.result c.args.store.now c.join.new.store (g.G.Ground.told c.args.outside.now) (g.G.Ground.told c.join.new.outside)
    at
    (λ r of here none. needs_join r (phase_of c.args.store.now.collection) c.args.branch.now sides (at r of here))
    (λ r of e. head_there g.G.Ground.tells rule c.args.number c.args.branch.now c.args.info c.args.store.now (g.G.Ground.told c.args.outside.now) c.head.result c.head.ensures c.in-Some.head c.in-Some.is r of)
    (λ r of is ground. forward_apart r (phase_of c.args.store.now.collection) c.args.branch.now sides (at r of is.retained) is)
    c.join.ensures.joins
