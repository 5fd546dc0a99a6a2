use Rattle.std.proofs.Common.{refl}
use Rattle.ip_ground.proofs.Rising.{falls_itself}
use Rattle.ip_held.proofs.KeptFiles.{keeps_itself}
use Rattle.ip_app.proofs.Counting.{spawns_itself}
use Rattle.ip_app.proofs.LineFiles.{reads_itself}
use Rattle.ip_app.proofs.SaidLemmas.{took_of, turned_in, left_unsaid}
use Rattle.ip_app.proofs.TurnLemmas.{stops_reading, stops_short}
use Rattle.ip_app.proofs.serve.LineRoom.turn.Goals as goal

pub returns-in-Err-clause-stops : goal.returns-in-Err-clause-stops
returns-in-Err-clause-stops g c known r v works = stops_reading _ c.in-Err.status known _ _ _ _ _ _ c.args.session.now c.args.session.now r v (record {
  rest = c.next_line.new.line.items;
  goes_on = record { dir = refl; source_tells = refl; ground_tells = refl; spawner_tells = refl; log_tells = λ tells. tells; read_faults = c.next_line.ensures.faults; counts = falls_itself (g.G.Ground.counts_of c.args.ground.now); spawns = spawns_itself (g.P.Spawner.counts_of c.args.spawner.now) };
  files = keeps_itself (g.G.Ground.told c.args.ground.now);
  stands = λ is. (works is).1.holds.stands;
  front = c.in-Err.ensures.bytes;
  no_line_feed = c.in-Err.ensures.rest;
  count = c.in-Err.ensures.count_err;
  ends = c.in-Err.ensures.err.ends;
  cause = c.in-Err.ensures.err.cause;
  same_said = refl;
  same_moment = refl;
  same_held = refl;
  same_lending = refl;
  keeps = reads_itself (g.G.Ground.told c.args.ground.now);
  nothing_pending = λ order. order;
  same_turns = refl;
  same_counts = refl;
  no_fault = refl;
  unasked = record { spawned = refl; held = refl; spawns = refl };
})

pub returns-in-Err-exchange-clause-stops : goal.returns-in-Err-exchange-clause-stops
returns-in-Err-exchange-clause-stops g c known r v works =
    let line = c.next_line.new.line.items in
    let cut = c.in-Err-exchange.ensures.cut g.S.Source.tells (g.S.Source.left c.args.source.now) (g.S.Source.read_faults c.args.source.now) known r v works in
    stops_short _ c.in-Err-exchange.status known _ _ line _ c.args.self.now.lines c.next_line.new.self _ _ c.args.session.now c.exchange.new.session r v (g.S.Source.left c.next_line.new.source) (g.S.Source.read_faults c.next_line.new.source)
    cut c.deref.ensures.value (took_of _ _ _ _ line c.in_default.ensures.ok c.in_default.ensures.count) c.in_default.ensures.still

pub returns-in-Ok-clause-turned : goal.returns-in-Ok-clause-turned
returns-in-Ok-clause-turned g c known r v works =
    let line = c.next_line.new.line.items in
    let h = c.in_default-exchange.ensures.replied g.S.Source.tells (g.S.Source.left c.args.source.now) (g.S.Source.read_faults c.args.source.now) known r v works in
    turned_in _ known _ _ _ _ _ _ _ c.args.session.now c.exchange.new.session r v h c.deref-2.ensures.value line c.deref.ensures.value
    (g.S.Source.left c.next_line.new.source) (g.S.Source.read_faults c.next_line.new.source) (g.G.Ground.told c.say.new.self) (g.G.Ground.counts_of c.say.new.self) c.args.self.now.lines c.next_line.new.self
    (took_of _ _ _ _ line c.in_default.ensures.ok c.in_default.ensures.count) c.in_default.ensures.still (λ is. (works is).1.holds.kept) (λ is. g.met.G.Ground.possible c.exchange.new.ground (works is).0) (λ is. c.in-Ok.ensures.does (works is).0) c.in-Ok.ensures.counts

pub returns-in-Err-say-clause-stops : goal.returns-in-Err-say-clause-stops
returns-in-Err-say-clause-stops g c known r v works =
    let line = c.next_line.new.line.items in
    let h = c.in_default-exchange.ensures.replied g.S.Source.tells (g.S.Source.left c.args.source.now) (g.S.Source.read_faults c.args.source.now) known r v works in
    left_unsaid _ known _ _ _ _ _ _ _ c.args.session.now c.exchange.new.session r v h c.deref-2.ensures.value line c.deref.ensures.value
    (g.S.Source.left c.next_line.new.source) (g.S.Source.read_faults c.next_line.new.source) (g.G.Ground.told c.say.new.self) (g.G.Ground.counts_of c.say.new.self) c.args.self.now.lines c.next_line.new.self
    (took_of _ _ _ _ line c.in_default.ensures.ok c.in_default.ensures.count) c.in_default.ensures.still (λ is. (works is).1.holds.kept) (λ is. g.met.G.Ground.possible c.exchange.new.ground (works is).0) _ (λ is. c.in-Err-say.ensures.does (works is).0) c.exchange.ensures.sayable c.in-Err-say.ensures.counts
