use Rattle.std.proofs.lemmas.List.{length-map}
use Rattle.std.proofs.Common.{rules, true, false, IsTrue, inl, ℕ, [], length, ◌≡◌, ◌-◌, ◌^◌, ◌<◌, ◌≤◌, arith, refl, sym, ap, ap₂, ◌∙◌, subst}
use Rattle.std.proofs.Math.Nat.{le_refl}
use Rattle.ip_ground.specs.Counts.{Noted, as_nothing}
use Rattle.ip_ground.specs.declared.names.GroundCounts.{GroundCounts}
use Rattle.ip_image.specs.declared.counts.TurnCounts.{TurnCounts}
use Rattle.ip_spec.specs.Merge.{Rule}
use Rattle.ip_spec.specs.View.{no_view}
use Rattle.ip_store.specs.declared.store.Store.{Store}
use Rattle.ip_held.specs.Clear.{IsCleared, unswept_in}
use Rattle.ip_held.specs.Collecting.{child_of}
use Rattle.ip_merge.specs.Rules.{IsDecisive}
use Rattle.ip_session.proofs.Beginning.{begins_working}
use Rattle.ip_app.specs.declared.statuses.Status.TheVariants as status
use Rattle.ip_app.specs.Loading.{replies_in}
use Rattle.ip_app.specs.Turns.{turn_of, AreCounts}
use Rattle.ip_app.proofs.Counting.{spawns_itself, bound_counts, falls_bound, falls_same, falls_of}
use Rattle.ip_app.proofs.LivePair.{live_in, known_or_not, with_flag}
use Rattle.ip_app.proofs.LoadLemmas.{loaded_first, loaded_more, script_here, loads_unopened, loads_cut, loads_said, load_ends}
use Rattle.ip_app.proofs.load.load.Goals as goal

-- of rules that are not known to be decisive
undecided : (rule : Rule) → IsTrue false → IsDecisive rule
undecided rule h = absurd (cc h)

pub returns-in-Err-clause-loads : goal.returns-in-Err-clause-loads
returns-in-Err-clause-loads g c source_tells left read_faults decisive by_rule =
    let files : c.counts.result.file_faults ≤ 2 ^ 64 - 1 = search rules in
    let says : c.counts.result.say_faults ≤ 2 ^ 64 - 1 = search rules in
    let harms : c.counts.result.damages ≤ 2 ^ 64 - 1 = search rules in
    let falls = falls_of c.in-Err.status _ _ (subst (λ (n : GroundCounts). n.file_faults ≤ 2 ^ 64 - 1) c.counts.ensures files) (subst (λ (n : GroundCounts). n.say_faults ≤ 2 ^ 64 - 1) c.counts.ensures says) (subst (λ (n : GroundCounts). n.damages ≤ 2 ^ 64 - 1) c.counts.ensures harms) c.in-Err.ensures.counted in
    loads_unopened _ decisive _ _ _ _ _ (record { dir = refl; source_tells = refl; ground_tells = refl; spawner_tells = refl; log_tells = λ t. t; read_faults = le_refl read_faults; counts = falls; spawns = spawns_itself (g.P.Spawner.counts_of c.args.spawner.now) })
    c.open_in.ensures.only c.open_in.ensures.opening refl refl (record { spawned = refl; held = refl; spawns = refl }) refl c.in-Err.ensures.refused c.in-Err.ensures.bound c.in-Err.ensures.counted

pub returns-in_default-clause-loads : goal.returns-in_default-clause-loads
returns-in_default-clause-loads g c source_tells left read_faults decisive by_rule = loads_unopened _ decisive _ _ _ _ status.Memory (record { dir = refl; source_tells = refl; ground_tells = refl; spawner_tells = refl; log_tells = λ t. t; read_faults = le_refl read_faults; counts = falls_bound (g.G.Ground.counts_of c.args.ground.now) (g.G.Ground.counts_of c.open_in.new.ground) (falls_same _ _ (bound_counts c.args.folder.now (g.G.Ground.counts_of c.args.ground.now) (g.G.Ground.counts_of c.open_in.new.ground) as_nothing c.in-Ok.ensures.no_fault)); spawns = spawns_itself (g.P.Spawner.counts_of c.args.spawner.now) })
    c.open_in.ensures.only c.open_in.ensures.opening refl refl (record { spawned = refl; held = refl; spawns = refl }) refl tt (inl (ap (λ (n : Noted). n.bound) c.in-Ok.ensures.no_fault)) (bound_counts c.args.folder.now (g.G.Ground.counts_of c.args.ground.now) (g.G.Ground.counts_of c.open_in.new.ground) as_nothing c.in-Ok.ensures.no_fault)

pub loop-done-init : goal.loop-done-init
loop-done-init g c =
    let opened = c.in-Ok.ensures.opened in
    let idle = ap (λ (store : Store). store.held.collection) c.new-session.ensures.store ∙ c.in-Ok.ensures.idle in
    let child = c.requires.child ∙ sym (ap child_of idle) in
    let removals : c.counts.result.remove_faults ≤ 2 ^ 64 - 1 = search rules in
    let running : c.counts-2.result.running ≤ 2 ^ 64 - 1 = search rules in
    let waits : c.counts-2.result.waits ≤ 2 ^ 64 - 1 = search rules in
    let reaps : c.counts-2.result.reaps ≤ 2 ^ 64 - 1 = search rules in
    let faults : c.counts-2.result.spawn_faults ≤ 2 ^ 64 - 1 = search rules in
    record {
      roomy = c.in-Ok-new.ensures.roomy;
      removals = subst (λ (n : ℕ). n ≤ 2 ^ 64 - 1) (sym (ap (λ (t : TurnCounts). t.remove_faults) (c.turn_counts-counts.ensures ∙ ap₂ turn_of c.counts.ensures c.counts-2.ensures))) (subst (λ (n : GroundCounts). n.remove_faults ≤ 2 ^ 64 - 1) c.counts.ensures removals);
      counters = subst AreCounts c.counts-2.ensures (record { running = running; waits = waits; reaps = reaps; spawn_faults = faults });
      child = child;
      loaded = λ source_tells left read_faults decisive by_rule. loaded_first _ decisive by_rule c.args.seed _ _ c.turn_counts-counts.result c.new-session.result c.in-Ok-new.room.summary opened.repository no_view refl (subst (λ (store : Store). store.held.unswept ≡ unswept_in store.held.slot) (sym c.new-session.ensures.store) opened.unswept) (with_flag _ decisive (known_or_not g.G.Ground.tells _ (λ told owns. live_in _ _ (opened.stands told owns)))) (opened.repository, c.new-session.ensures.is_in opened.repository opened.tables) (c.new-session.ensures.state c.in-Ok.ensures.idle opened.repository)
          (λ tells. begins_working _ c.new-session.result _ opened.repository (ap (λ (store : Store). store.held) c.new-session.ensures.store) c.new-session.ensures.lawful (opened.holds tells.0 tells.1)) (λ tells clear. subst (λ (store : Store). IsCleared store.held (g.G.Ground.told c.open_in.new.ground)) (sym c.new-session.ensures.store) (opened.clear tells.0 tells.1 clear)) (λ tells. opened.stands tells.0 tells.1) opened.opening (λ tells. opened.over tells.0 tells.1) (c.turn_counts-counts.ensures ∙ ap₂ turn_of c.counts.ensures c.counts-2.ensures) c.in-Ok.ensures.no_fault (record { spawned = refl; held = refl; spawns = refl }) idle c.requires.child refl
          (record { dir = refl; source_tells = refl; ground_tells = refl; spawner_tells = refl; log_tells = λ t. t; read_faults = le_refl read_faults; counts = falls_bound (g.G.Ground.counts_of c.args.ground.now) (g.G.Ground.counts_of c.open_in.new.ground) (falls_same _ _ (bound_counts c.args.folder.now (g.G.Ground.counts_of c.args.ground.now) (g.G.Ground.counts_of c.open_in.new.ground) as_nothing c.in-Ok.ensures.no_fault)); spawns = spawns_itself (g.P.Spawner.counts_of c.args.spawner.now) })
          c.open_in.ensures.only refl refl c.in-Ok-new.ensures.tallies;
    }

pub turn-requires : goal.turn-requires
turn-requires g c =
    let loaded = c.loop-done.invariant.loaded false [] 0 false (undecided _) in
    let told : c.counts.result.file_faults ≤ 2 ^ 64 - 1 = search rules in
    let harms : c.counts.result.damages ≤ 2 ^ 64 - 1 = search rules in
    record {
      roomy = c.loop-done.invariant.roomy;
      counted = loaded.ran.trace.counts_now;
      small = subst (λ (n : ℕ). n ≤ 2 ^ 64 - 1) (sym (ap (λ (t : TurnCounts). t.file_faults) loaded.ran.trace.counts_now ∙ loaded.no_fault.file_faults)) (subst (λ (n : GroundCounts). n.file_faults ≤ 2 ^ 64 - 1) c.counts.ensures told);
      removals = c.loop-done.invariant.removals;
      damages = subst (λ (n : ℕ). n ≤ 2 ^ 64 - 1) (sym loaded.no_fault.damages) (subst (λ (n : GroundCounts). n.damages ≤ 2 ^ 64 - 1) c.counts.ensures harms);
      counters = c.loop-done.invariant.counters;
      tables = loaded.ran.serving;
      child = c.loop-done.invariant.child;
    }

pub returns-in-Err-turn-clause-loads : goal.returns-in-Err-turn-clause-loads
returns-in-Err-turn-clause-loads g c source_tells left read_faults decisive by_rule =
    let loaded = c.loop-done.invariant.loaded source_tells left read_faults decisive by_rule in
    let gone = c.let_go.ensures.told in
    let less : c.loop-done.done < c.args.count = c.loop-done-test.true in
    let here = script_here _ decisive _ _ _ _ _ _ _ _ loaded c.args.count less in
    loads_cut _ decisive _ _ _ _ _ _ _ _ loaded by_rule c.args.count c.in-Err-turn.status _ _ _ (c.in-Err-turn.ensures.cut source_tells left read_faults loaded.known loaded.repository loaded.view (λ is. ((loaded.ran.trace.tells is).0, loaded.ran.working is, loaded.ran.trace.is_decisive is))) refl here.0 here.1
    (g.P.Spawner.told c.let_go.new.spawner) (g.P.Spawner.held c.let_go.new.spawner) (g.P.Spawner.counts_of c.let_go.new.spawner) (record { ends = gone.0; few = gone.1; told = gone.2; none = c.let_go.ensures.none_held; counts = c.turn.ensures.counters; gone = c.let_go.ensures.counts })

pub loop-done-preserved : goal.loop-done-preserved
loop-done-preserved g c =
    let less : c.loop-done.done < c.args.count = c.loop-done-test.true in
    let fits : c.args.count < 2 ^ 64 = c.ranges.count.fits in
    record {
      roomy = c.turn.ensures.roomy;
      removals = c.turn.ensures.removals;
      counters = c.turn.ensures.counters;
      child = c.turn.ensures.child;
      loaded = λ source_tells left read_faults decisive by_rule.
          let loaded = c.loop-done.invariant.loaded source_tells left read_faults decisive by_rule in
          let few : length (replies_in loaded.exchanges) < 2 ^ 64 - 1 = omega (arith, length-map loaded.exchanges (λ x. x.reply), loaded.count, less, fits) in
          loaded_more _ decisive _ _ _ _ _ _ _ _ loaded _ _ _ c.turn.new.session c.turn.new.self.summary c.turn.new.state (c.in_default-turn.ensures.replied source_tells left read_faults loaded.known loaded.repository loaded.view (λ is. ((loaded.ran.trace.tells is).0, loaded.ran.working is, loaded.ran.trace.is_decisive is)))
          refl c.turn.ensures.state (λ reply is. c.in_default-turn.ensures.tallies (replies_in loaded.exchanges) reply is few loaded.tallies);
    }

pub finish-status-requires : goal.finish-status-requires
finish-status-requires g c =
    let loaded = c.loop-done.invariant.loaded false [] 0 false (undecided _) in
    let told : c.counts.result.file_faults ≤ 2 ^ 64 - 1 = search rules in
    let harms : c.counts.result.damages ≤ 2 ^ 64 - 1 = search rules in
    record {
      roomy = c.loop-done.invariant.roomy;
      counted = loaded.ran.trace.counts_now;
      small = subst (λ (n : ℕ). n ≤ 2 ^ 64 - 1) (sym (ap (λ (t : TurnCounts). t.file_faults) loaded.ran.trace.counts_now ∙ loaded.no_fault.file_faults)) (subst (λ (n : GroundCounts). n.file_faults ≤ 2 ^ 64 - 1) c.counts.ensures told);
      removals = c.loop-done.invariant.removals;
      damages = subst (λ (n : ℕ). n ≤ 2 ^ 64 - 1) (sym loaded.no_fault.damages) (subst (λ (n : GroundCounts). n.damages ≤ 2 ^ 64 - 1) c.counts.ensures harms);
      counters = c.loop-done.invariant.counters;
      tables = loaded.ran.serving;
      child = c.loop-done.invariant.child;
      tallied = (replies_in loaded.exchanges, loaded.tallies);
    }

pub returns-clause-loads : goal.returns-clause-loads
returns-clause-loads g c source_tells left read_faults decisive by_rule =
    let loaded = c.loop-done.invariant.loaded source_tells left read_faults decisive by_rule in
    let gone = c.let_go-2.ensures.told in
    let all : c.loop-done.done ≡ c.args.count = omega arith in
    loads_said _ decisive _ _ _ _ _ _ _ _ loaded by_rule c.args.count c.finish-status.result _ _ c.finish-status.new.session
    (c.finish-status.ensures.finishes source_tells left read_faults loaded.known loaded.repository loaded.view (λ is. ((loaded.ran.trace.tells is).0, loaded.ran.working is, loaded.ran.trace.is_decisive is)) (replies_in loaded.exchanges) loaded.tallies) all refl
    (g.P.Spawner.told c.let_go-2.new.spawner) (g.P.Spawner.held c.let_go-2.new.spawner) (g.P.Spawner.counts_of c.let_go-2.new.spawner) (record { ends = gone.0; few = gone.1; told = gone.2; none = c.let_go-2.ensures.none_held; counts = c.finish-status.ensures.counters; gone = c.let_go-2.ensures.counts })

pub returns-in-Err-clause-complete : goal.returns-in-Err-clause-complete
returns-in-Err-clause-complete g c decisive = let done = returns-in-Err-clause-loads g c false [] 0 true (λ is. decisive) in load_ends true refl _ _ _ done.run.row done.run.notes.counted

pub returns-in_default-clause-complete : goal.returns-in_default-clause-complete
returns-in_default-clause-complete g c decisive = let done = returns-in_default-clause-loads g c false [] 0 true (λ is. decisive) in load_ends true refl _ _ _ done.run.row done.run.notes.counted

pub returns-in-Err-turn-clause-complete : goal.returns-in-Err-turn-clause-complete
returns-in-Err-turn-clause-complete g c decisive = let done = returns-in-Err-turn-clause-loads g c false [] 0 true (λ is. decisive) in load_ends true refl _ _ _ done.run.row done.run.notes.counted

pub returns-clause-complete : goal.returns-clause-complete
returns-clause-complete g c decisive = let done = returns-clause-loads g c false [] 0 true (λ is. decisive) in load_ends true refl _ _ _ done.run.row done.run.notes.counted

pub returns-in-Err-clause-none_held : goal.returns-in-Err-clause-none_held
returns-in-Err-clause-none_held g c = c.requires.child

pub returns-in_default-clause-none_held : goal.returns-in_default-clause-none_held
returns-in_default-clause-none_held g c = c.requires.child

pub returns-in-Err-turn-clause-none_held : goal.returns-in-Err-turn-clause-none_held
returns-in-Err-turn-clause-none_held g c = c.let_go.ensures.none_held

pub returns-clause-none_held : goal.returns-clause-none_held
returns-clause-none_held g c = c.let_go-2.ensures.none_held
