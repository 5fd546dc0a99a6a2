use Rattle.std.proofs.Common.{◌≡◌, ◌+◌, ◌≤◌, ◌∙◌, ℕ, Some, ap, sym, subst, arith}
use Rattle.std.specs.Prelude.{Ok, Err, IfSome, IsSome, slice_get}
use Rattle.ip_image.specs.declared.run.Run.{Run}
use Rattle.ip_image.specs.Virtual.{lies_at}
use Rattle.ip_spec.specs.declared.record.Record.{Record}
use Rattle.ip_spec.specs.Record.{Fits}
use Rattle.ip_image.specs.Slot.{newest_version}
use Rattle.ip_space.specs.ScanView.{ScanView}
use Rattle.ip_space.specs.SpaceView.{SpaceView, byte_at, stretches_of}
use Rattle.ip_space.proofs.StretchRows.{stretch_lies}
use Rattle.ip_space.specs.Scanning.{Moves, Steps, FindsWhole}
use Rattle.ip_ground.specs.Counts.{CountsIf}
use Rattle.ip_ground.specs.Told.{NoFile}
use Rattle.ip_ground.proofs.Spans.{only_on}
use Rattle.ip_space.proofs.Stayed.{readable_stays}
use Rattle.ip_opens.specs.OpenFaults.{counted_open}
use Rattle.ip_opens.specs.Walk.{Walks}
use Rattle.ip_opens.specs.declared.opening.OpenFault.{OpenFault}
use Rattle.ip_opens.proofs.Noting.{bad_later, counts_unread, none_missing}
use Rattle.ip_opens.proofs.RecordSteps.{same_fault, stays_there, goes_on, further, too_long, bad_taken_as, bad_unread}
use Rattle.ip_opens.proofs.walk.take_next.Goals as goal

-- a record that was found lies in its stretch
found_lies : (space : SpaceView) (number : ℕ) (stretch : Run) (old new : ScanView) (at : ℕ) (rec : Record) → slice_get (stretches_of space) number ≡ Some stretch → stretch.at ≤ old.next → old.to ≡ stretch.at + stretch.length → Steps old new at rec
    → IsSome (lies_at space.layout space.runs at)
found_lies space number stretch old new at rec here from to steps =
    let is = steps.place in
    let more = steps.more in
    stretch_lies space number at stretch here (omega (arith, from, is)) (omega (arith, is, to, more))

pub unread-requires : goal.unread-requires
unread-requires g c =
    let walk = c.args.walk.now in
    let walks = c.requires.walks in
    (walk.scan.next, stretch_lies c.args.space.now walk.number walk.scan.next walk.stretch walks.here walks.from (let more = c.in-Err.ensures.moves.0 in let to = walks.to in omega (arith, more, to)), c.in-Err.ensures.blames)

pub ends_within-requires : goal.ends_within-requires
ends_within-requires g c =
    let walk = c.args.walk.now in
    let walks = c.requires.walks in
    let steps = subst (λ o. Moves walk.scan c.step.new.self (Ok o)) c.in-Ok-Some.field-0-is c.in-Ok-Some.ensures.moves in
    record { lies = found_lies c.args.space.now walk.number walk.stretch walk.scan c.step.new.self c.in-Ok-Some.at c.in-Ok-Some.rec walks.here walks.from walks.to steps }

pub take_read-requires-clause-lies : goal.take_read-requires-clause-lies
take_read-requires-clause-lies g c =
    let walk = c.args.walk.now in
    let walks = c.requires.walks in
    let steps = subst (λ o. Moves walk.scan c.step.new.self (Ok o)) c.in-Ok-Some.field-0-is c.in-Ok-Some.ensures.moves in
    found_lies c.args.space.now walk.number walk.stretch walk.scan c.step.new.self c.in-Ok-Some.at c.in-Ok-Some.rec walks.here walks.from walks.to steps

pub returns-in-Ok-None-clause-walks : goal.returns-in-Ok-None-clause-walks
returns-in-Ok-None-clause-walks g c =
    let walks = c.requires.walks in
    let moves = subst (λ o. Moves c.args.walk.now.scan c.step.new.self (Ok o)) c.in-Ok-None.field-0-is c.in-Ok-None.ensures.moves in
    stays_there c.args.slot.now c.requires.slot c.args.space.now g.G.Ground.tells _ _ c.args.walk.now c.args.found.now walks (λ t. (c.step.ensures.reads t).only) c.step.new.self moves.1
    (λ t readable. c.step.ensures.current t readable (walks.current t readable))

pub returns-in-Ok-take_read-clause-walks : goal.returns-in-Ok-take_read-clause-walks
returns-in-Ok-take_read-clause-walks g c =
    let walks = c.requires.walks in
    let now = g.G.Ground.told c.step.new.outside in
    let space = c.args.space.now in
    let walk = c.args.walk.now in
    let steps = subst (λ o. Moves walk.scan c.step.new.self (Ok o)) c.in-Ok-Some.field-0-is c.in-Ok-Some.ensures.moves in
    let fits = subst (λ o. IfSome o (λ f. Fits newest_version f.1)) c.in-Ok-Some.field-0-is c.in-Ok-Some.ensures.bounds in
    let still = c.in-Ok-take_read.ensures.still ∙ c.in-Ok.ensures.still in
    subst (λ o. Walks c.args.slot.now g.G.Ground.tells (g.G.Ground.told o) space (record walk { scan = c.step.new.self }) c.take_read.new.found) (sym still)
    (goes_on c.args.slot.now c.requires.slot space g.G.Ground.tells _ now walk c.args.found.now walks (λ t. (c.step.ensures.reads t).only) c.step.new.self c.in-Ok-Some.at c.in-Ok-Some.rec fits steps
    (λ t readable. subst (λ o. FindsWhole (byte_at now space) space.layout.end walk.scan.next (Ok o)) c.in-Ok-Some.field-0-is (c.in-Ok-Some.ensures.whole t readable (walks.current t readable)))
    c.take_read.new.found tt c.in-Ok-take_read.ensures.takes (let within = c.in-Ok.ensures.within in let next = c.next.ensures in omega (arith, within, next)) (λ t readable. c.step.ensures.current t readable (walks.current t readable)))

pub returns-in-Ok-take_read-clause-further : goal.returns-in-Ok-take_read-clause-further
returns-in-Ok-take_read-clause-further g c is =
    let walk = c.args.walk.now in
    let steps = subst (λ o. Moves walk.scan c.step.new.self (Ok o)) c.in-Ok-Some.field-0-is c.in-Ok-Some.ensures.moves in
    let fits = subst (λ o. IfSome o (λ f. Fits newest_version f.1)) c.in-Ok-Some.field-0-is c.in-Ok-Some.ensures.bounds in
    further c.args.slot.now c.requires.slot c.args.space.now g.G.Ground.tells _ _ walk c.args.found.now c.requires.walks (λ t. (c.step.ensures.reads t).only) c.step.new.self c.in-Ok-Some.at c.in-Ok-Some.rec fits steps

pub returns-in-Err-ends_within-clause-damaged : goal.returns-in-Err-ends_within-clause-damaged
returns-in-Err-ends_within-clause-damaged g c told readable file at damaged =
    let walks = c.requires.walks in
    let now = g.G.Ground.told c.step.new.outside in
    let space = c.args.space.now in
    let walk = c.args.walk.now in
    let steps = subst (λ o. Moves walk.scan c.step.new.self (Ok o)) c.in-Ok-Some.field-0-is c.in-Ok-Some.ensures.moves in
    let fits = subst (λ o. IfSome o (λ f. Fits newest_version f.1)) c.in-Ok-Some.field-0-is c.in-Ok-Some.ensures.bounds in
    let beyond = c.in-Err-ends_within.ensures.beyond in
    bad_later c.args.slot.now space now (g.G.Ground.told c.ends_within.new.outside) (c.ends_within.ensures.only told) (readable_stays (g.G.Ground.told c.args.outside.now) now (c.step.ensures.reads told).only space readable) file at
    (too_long c.args.slot.now c.requires.slot space g.G.Ground.tells _ now walk c.args.found.now walks (λ t. (c.step.ensures.reads t).only) c.step.new.self c.in-Ok-Some.at c.in-Ok-Some.rec fits steps
    (λ t readable. subst (λ o. FindsWhole (byte_at now space) space.layout.end walk.scan.next (Ok o)) c.in-Ok-Some.field-0-is (c.in-Ok-Some.ensures.whole t readable (walks.current t readable)))
    told readable (let behind = beyond.0 in let next = c.next.ensures in omega (arith, behind, next)) c.in-Err-ends_within.fault file at damaged beyond.1)

pub returns-in-Err-ends_within-clause-only : goal.returns-in-Err-ends_within-clause-only
returns-in-Err-ends_within-clause-only g c told = only_on _ _ _ NoFile (c.step.ensures.reads told).only (c.ends_within.ensures.only told)

pub returns-in-Err-ends_within-clause-counts : goal.returns-in-Err-ends_within-clause-counts
returns-in-Err-ends_within-clause-counts g c = subst (λ n. CountsIf (counted_open c.in-Err-ends_within.fault) n (g.G.Ground.counts_of c.ends_within.new.outside)) c.in-Ok-Some.ensures.counts c.in-Err-ends_within.ensures.counts

pub returns-in-Err-take_read-clause-damaged : goal.returns-in-Err-take_read-clause-damaged
returns-in-Err-take_read-clause-damaged g c told readable file at damaged =
    let walks = c.requires.walks in
    let now = g.G.Ground.told c.step.new.outside in
    let space = c.args.space.now in
    let walk = c.args.walk.now in
    let steps = subst (λ o. Moves walk.scan c.step.new.self (Ok o)) c.in-Ok-Some.field-0-is c.in-Ok-Some.ensures.moves in
    let fits = subst (λ o. IfSome o (λ f. Fits newest_version f.1)) c.in-Ok-Some.field-0-is c.in-Ok-Some.ensures.bounds in
    bad_later c.args.slot.now space now (g.G.Ground.told c.take_read.new.outside) (only_on _ _ _ NoFile (c.ends_within.ensures.only told) (c.take_read.ensures.only told)) (readable_stays (g.G.Ground.told c.args.outside.now) now (c.step.ensures.reads told).only space readable) file at
    (bad_taken_as c.args.slot.now c.requires.slot space g.G.Ground.tells _ now walk c.args.found.now walks (λ t. (c.step.ensures.reads t).only) c.step.new.self c.in-Ok-Some.at c.in-Ok-Some.rec fits steps
    (λ t readable. subst (λ o. FindsWhole (byte_at now space) space.layout.end walk.scan.next (Ok o)) c.in-Ok-Some.field-0-is (c.in-Ok-Some.ensures.whole t readable (walks.current t readable)))
    c.take_read.new.found told readable c.in-Err-take_read.fault file at damaged c.in-Err-take_read.ensures.takes)

pub returns-in-Err-take_read-clause-only : goal.returns-in-Err-take_read-clause-only
returns-in-Err-take_read-clause-only g c told = only_on _ _ _ NoFile (c.step.ensures.reads told).only (only_on _ _ _ NoFile (c.ends_within.ensures.only told) (c.take_read.ensures.only told))

pub returns-in-Err-take_read-clause-counts : goal.returns-in-Err-take_read-clause-counts
returns-in-Err-take_read-clause-counts g c =
    subst (λ n. CountsIf (counted_open c.in-Err-take_read.fault) n (g.G.Ground.counts_of c.take_read.new.outside)) (c.in-Ok.ensures.counts ∙ c.in-Ok-Some.ensures.counts) c.in-Err-take_read.ensures.counts

pub returns-in-Err-take_read-clause-there : goal.returns-in-Err-take_read-clause-there
returns-in-Err-take_read-clause-there g c none =
    none_missing c.args.slot.now c.args.space.now c.in-Ok-Some.at c.in-Ok-Some.rec c.args.found.now c.take_read.new.found c.in-Err-take_read.fault c.in-Err-take_read.ensures.takes (same_fault c.in-Err-take_read.fault OpenFault.NoStore none)

pub returns-in-Err-clause-damaged : goal.returns-in-Err-clause-damaged
returns-in-Err-clause-damaged g c told readable file at damaged =
    let walks = c.requires.walks in
    bad_unread c.args.slot.now c.requires.slot c.args.space.now g.G.Ground.tells _ _ c.args.walk.now c.args.found.now walks (λ t. (c.step.ensures.reads t).only) told readable file at c.in-Err.ensures.moves.0
    (c.step.ensures.reads told) c.in-Err.fault c.unread.result damaged c.unread.ensures (c.in-Err.ensures.found told readable (walks.current told readable)) c.in-Err.ensures.blames

pub returns-in-Err-clause-counts : goal.returns-in-Err-clause-counts
returns-in-Err-clause-counts g c = counts_unread c.args.space.now c.in-Err.fault c.unread.result (g.G.Ground.counts_of c.args.outside.now) (g.G.Ground.counts_of c.step.new.outside) c.unread.ensures c.in-Err.ensures.counts
