use Rattle.std.proofs.Common.{rules, ◌≡◌, true, false, IsTrue, inl, ℕ, ◌-◌, ◌^◌, ◌≤◌, arith, refl, sym, ap, ap₂, ◌∙◌, subst}
use Rattle.std.proofs.Math.Nat.{le_refl}
use Rattle.ip_ground.specs.Counts.{Noted, as_nothing}
use Rattle.ip_ground.specs.declared.names.GroundCounts.{GroundCounts}
use Rattle.ip_image.specs.declared.counts.TurnCounts.{TurnCounts}
use Rattle.ip_spec.specs.Merge.{Rule}
use Rattle.ip_store.specs.declared.store.Store.{Store}
use Rattle.ip_held.specs.Clear.{IsCleared, unswept_in}
use Rattle.ip_held.specs.Collecting.{child_of}
use Rattle.ip_merge.specs.Rules.{IsDecisive}
use Rattle.ip_app.specs.declared.statuses.Status.TheVariants as status
use Rattle.ip_app.specs.Turns.{turn_of, AreCounts}
use Rattle.ip_app.proofs.Counting.{spawns_itself, bound_counts, falls_bound, falls_same, falls_of}
use Rattle.ip_app.proofs.EndingLaw.{ends_as_bytes}
use Rattle.ip_app.proofs.LivePair.{live_in, known_or_not, with_flag}
use Rattle.ip_app.proofs.RunLemmas.{serves_stop, served_first, served_more, ends_by_script, begins_unopened}
use Rattle.ip_spec.specs.View.{no_view}
use Rattle.ip_session.proofs.Beginning.{begins_working}
use Rattle.ip_app.proofs.serve.serve.Goals as goal

-- of rules that are not known to be decisive
undecided : (rule : Rule) → IsTrue false → IsDecisive rule
undecided rule h = absurd (cc h)

pub returns-in-Err-clause-serves : goal.returns-in-Err-clause-serves
returns-in-Err-clause-serves g c decisive by_rule =
    let files : c.counts.result.file_faults ≤ 2 ^ 64 - 1 = search rules in
    let says : c.counts.result.say_faults ≤ 2 ^ 64 - 1 = search rules in
    let harms : c.counts.result.damages ≤ 2 ^ 64 - 1 = search rules in
    let falls = falls_of c.in-Err.status _ _ (subst (λ (n : GroundCounts). n.file_faults ≤ 2 ^ 64 - 1) c.counts.ensures files) (subst (λ (n : GroundCounts). n.say_faults ≤ 2 ^ 64 - 1) c.counts.ensures says) (subst (λ (n : GroundCounts). n.damages ≤ 2 ^ 64 - 1) c.counts.ensures harms) c.in-Err.ensures.counted in
    begins_unopened _ decisive _ _ _ (record { dir = refl; source_tells = refl; ground_tells = refl; spawner_tells = refl; log_tells = λ t. t; read_faults = le_refl (g.S.Source.read_faults c.args.source.now); counts = falls; spawns = spawns_itself (g.P.Spawner.counts_of c.args.spawner.now) })
    c.open_in.ensures.only c.open_in.ensures.opening refl refl (record { spawned = refl; held = refl; spawns = refl }) refl c.in-Err.ensures.refused c.in-Err.ensures.bound c.in-Err.ensures.counted

pub returns-in_default-clause-serves : goal.returns-in_default-clause-serves
returns-in_default-clause-serves g c decisive by_rule = begins_unopened _ decisive _ _ status.Memory (record { dir = refl; source_tells = refl; ground_tells = refl; spawner_tells = refl; log_tells = λ t. t; read_faults = le_refl (g.S.Source.read_faults c.args.source.now); counts = falls_bound (g.G.Ground.counts_of c.args.ground.now) (g.G.Ground.counts_of c.open_in.new.ground) (falls_same _ _ (bound_counts c.args.folder.now (g.G.Ground.counts_of c.args.ground.now) (g.G.Ground.counts_of c.open_in.new.ground) as_nothing c.in-Ok.ensures.no_fault)); spawns = spawns_itself (g.P.Spawner.counts_of c.args.spawner.now) })
    c.open_in.ensures.only c.open_in.ensures.opening refl refl (record { spawned = refl; held = refl; spawns = refl }) refl tt (inl (ap (λ (n : Noted). n.bound) c.in-Ok.ensures.no_fault)) (bound_counts c.args.folder.now (g.G.Ground.counts_of c.args.ground.now) (g.G.Ground.counts_of c.open_in.new.ground) as_nothing c.in-Ok.ensures.no_fault)

pub lines-init : goal.lines-init
lines-init g c =
    let opened = c.in-Ok.ensures.opened in
    let idle = ap (λ (store : Store). store.held.collection) c.new-session.ensures.store ∙ c.in-Ok.ensures.idle in
    let child = c.requires.child ∙ sym (ap child_of idle) in
    let removals : c.counts.result.remove_faults ≤ 2 ^ 64 - 1 = search rules in
    let running : c.counts-2.result.running ≤ 2 ^ 64 - 1 = search rules in
    let waits : c.counts-2.result.waits ≤ 2 ^ 64 - 1 = search rules in
    let reaps : c.counts-2.result.reaps ≤ 2 ^ 64 - 1 = search rules in
    let faults : c.counts-2.result.spawn_faults ≤ 2 ^ 64 - 1 = search rules in
    record {
      roomy = c.in-Ok-new.ensures.roomy;
      removals = subst (λ (n : ℕ). n ≤ 2 ^ 64 - 1) (sym (ap (λ (t : TurnCounts). t.remove_faults) (c.turn_counts-counts.ensures ∙ ap₂ turn_of c.counts.ensures c.counts-2.ensures))) (subst (λ (n : GroundCounts). n.remove_faults ≤ 2 ^ 64 - 1) c.counts.ensures removals);
      counters = subst AreCounts c.counts-2.ensures (record { running = running; waits = waits; reaps = reaps; spawn_faults = faults });
      child = child;
      served = λ decisive by_rule. served_first _ decisive by_rule _ _ c.in-Ok-new.room.lines c.turn_counts-counts.result c.new-session.result opened.repository no_view refl (subst (λ (store : Store). store.held.unswept ≡ unswept_in store.held.slot) (sym c.new-session.ensures.store) opened.unswept) (with_flag _ decisive (known_or_not g.G.Ground.tells _ (λ told owns. live_in _ _ (opened.stands told owns)))) (opened.repository, c.new-session.ensures.is_in opened.repository opened.tables) (c.new-session.ensures.state c.in-Ok.ensures.idle opened.repository)
          (λ tells. begins_working _ c.new-session.result _ opened.repository (ap (λ (store : Store). store.held) c.new-session.ensures.store) c.new-session.ensures.lawful (opened.holds tells.0 tells.1)) (λ tells clear. subst (λ (store : Store). IsCleared store.held (g.G.Ground.told c.open_in.new.ground)) (sym c.new-session.ensures.store) (opened.clear tells.0 tells.1 clear)) (λ tells. opened.stands tells.0 tells.1) opened.opening (λ tells. opened.over tells.0 tells.1) (c.turn_counts-counts.ensures ∙ ap₂ turn_of c.counts.ensures c.counts-2.ensures) c.in-Ok.ensures.no_fault (record { spawned = refl; held = refl; spawns = refl }) idle c.requires.child refl
          (record { dir = refl; source_tells = refl; ground_tells = refl; spawner_tells = refl; log_tells = λ t. t; read_faults = le_refl (g.S.Source.read_faults c.args.source.now); counts = falls_bound (g.G.Ground.counts_of c.args.ground.now) (g.G.Ground.counts_of c.open_in.new.ground) (falls_same _ _ (bound_counts c.args.folder.now (g.G.Ground.counts_of c.args.ground.now) (g.G.Ground.counts_of c.open_in.new.ground) as_nothing c.in-Ok.ensures.no_fault)); spawns = spawns_itself (g.P.Spawner.counts_of c.args.spawner.now) })
          c.open_in.ensures.only refl refl c.in-Ok-new.ensures.pending c.in-Ok-new.ensures.taken;
    }

pub turn-requires : goal.turn-requires
turn-requires g c =
    let served = c.lines.invariant.served false (undecided _) in
    let told : c.counts.result.file_faults ≤ 2 ^ 64 - 1 = search rules in
    let harms : c.counts.result.damages ≤ 2 ^ 64 - 1 = search rules in
    record {
      roomy = c.lines.invariant.roomy;
      counted = served.ran.trace.counts_now;
      small = subst (λ (n : ℕ). n ≤ 2 ^ 64 - 1) (sym (ap (λ (t : TurnCounts). t.file_faults) served.ran.trace.counts_now ∙ served.no_fault.file_faults)) (subst (λ (n : GroundCounts). n.file_faults ≤ 2 ^ 64 - 1) c.counts.ensures told);
      removals = c.lines.invariant.removals;
      damages = subst (λ (n : ℕ). n ≤ 2 ^ 64 - 1) (sym served.no_fault.damages) (subst (λ (n : GroundCounts). n.damages ≤ 2 ^ 64 - 1) c.counts.ensures harms);
      counters = c.lines.invariant.counters;
      tables = served.ran.serving;
      child = c.lines.invariant.child;
    }

pub returns-in-Err-turn-clause-serves : goal.returns-in-Err-turn-clause-serves
returns-in-Err-turn-clause-serves g c decisive by_rule =
    let served = c.lines.invariant.served decisive by_rule in
    let gone = c.let_go.ensures.told in
    serves_stop _ decisive by_rule c.in-Err-turn.status _ _ _ c.lines.room.lines c.turn.new.self.lines c.lines.counts c.turn.new.counts c.lines.session c.turn.new.session served (c.in-Err-turn.ensures.stops served.known served.repository served.view (λ is. ((served.ran.trace.tells is).0, served.ran.working is, served.ran.trace.is_decisive is)))
    (g.P.Spawner.told c.let_go.new.spawner) (g.P.Spawner.held c.let_go.new.spawner) (g.P.Spawner.counts_of c.let_go.new.spawner) (record { ends = gone.0; few = gone.1; told = gone.2; none = c.let_go.ensures.none_held; counts = c.turn.ensures.counters; gone = c.let_go.ensures.counts })

pub lines-preserved : goal.lines-preserved
lines-preserved g c =
    record {
      roomy = c.turn.ensures.roomy;
      removals = c.turn.ensures.removals;
      counters = c.turn.ensures.counters;
      child = c.turn.ensures.child;
      served = λ decisive by_rule. let served = c.lines.invariant.served decisive by_rule in served_more _ decisive _ _ _ c.lines.room.lines c.turn.new.self.lines c.lines.counts c.turn.new.counts c.lines.session c.turn.new.session served (c.in_default-turn.ensures.turned served.known served.repository served.view (λ is. ((served.ran.trace.tells is).0, served.ran.working is, served.ran.trace.is_decisive is)));
    }

pub lines-smaller : goal.lines-smaller
lines-smaller g c =
    let served = c.lines.invariant.served false (undecided _) in
    let turned = (c.in_default-turn.ensures.turned served.known served.repository served.view (λ is. ((served.ran.trace.tells is).0, served.ran.working is, served.ran.trace.is_decisive is))).took in
    omega (arith, turned.count, c.turn.ensures.roomy.ready.few, served.count)

pub returns-in-Err-clause-complete : goal.returns-in-Err-clause-complete
returns-in-Err-clause-complete g c decisive = let done = returns-in-Err-clause-serves g c true (λ is. decisive) in ends_by_script true refl _ _ _ done.taken done.row done.notes.counted

pub returns-in_default-clause-complete : goal.returns-in_default-clause-complete
returns-in_default-clause-complete g c decisive = let done = returns-in_default-clause-serves g c true (λ is. decisive) in ends_by_script true refl status.Memory _ _ done.taken done.row done.notes.counted

pub returns-in-Err-turn-clause-complete : goal.returns-in-Err-turn-clause-complete
returns-in-Err-turn-clause-complete g c decisive = let done = returns-in-Err-turn-clause-serves g c true (λ is. decisive) in ends_by_script true refl _ _ _ done.taken done.row done.notes.counted

pub returns-in-Err-clause-bytes : goal.returns-in-Err-clause-bytes
returns-in-Err-clause-bytes g c = ends_as_bytes _ false _ _ _ (returns-in-Err-clause-serves g c false (undecided _))

pub returns-in_default-clause-bytes : goal.returns-in_default-clause-bytes
returns-in_default-clause-bytes g c = ends_as_bytes _ false _ _ status.Memory (returns-in_default-clause-serves g c false (undecided _))

pub returns-in-Err-turn-clause-bytes : goal.returns-in-Err-turn-clause-bytes
returns-in-Err-turn-clause-bytes g c = ends_as_bytes _ false _ _ _ (returns-in-Err-turn-clause-serves g c false (undecided _))
