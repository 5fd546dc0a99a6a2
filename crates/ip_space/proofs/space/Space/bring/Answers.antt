use Rattle.std.proofs.Common.{rules, ◌≡◌, Option, None, Result, Err, subst}
use Rattle.ip_ground.specs.Counts.{Counts, Noted}
use Rattle.ip_space.specs.Faults.{counted_fetch}
use Rattle.ip_space.specs.SpaceView.{kept_at}
use Rattle.ip_space.specs.Kept.{IsKnown}
use Rattle.ip_space.specs.declared.fault.FetchFault.{FetchFault}
use Rattle.ip_space.proofs.Bringing.{Brings, Known, known_is, again_brings, again_known, again_no_ground, again_reads, none_known, new_brings, new_reads, misses}
use Rattle.ip_space.proofs.space.Space.bring.Goals as goal
use Rattle.ip_space.proofs.space.Space.bring.Goals.{After-note, After-take_noted, In-Err}

known : (g : _) (c : After-note g) → Known (kept_at c.args.reference.at c.args.self.now.kept) c.args.reference c.in-Some.answer
known g c = known_is (kept_at c.args.reference.at c.args.self.now.kept) c.args.reference c.in-Some.answer
    (subst (λ (x : Option (Result (Unit {0}) FetchFault)). IsKnown (kept_at c.args.reference.at c.args.self.now.kept) c.args.reference x) c.in-Some.is c.known.ensures.is)

again : (g : _) (c : After-note g) → Brings g.G.Ground.tells (g.G.Ground.told c.args.outside.now) c.args.self.now c.args.reference (kept_at c.args.reference.at c.again-found.new.self.kept) c.again-found.result
again g c = again_brings (g.G.Ground.told c.args.outside.now) c.args.self.now c.again-found.new.self c.args.reference c.in-Some.answer c.again-found.result c.again-found.ensures.answers c.again-found.ensures.is (known g c) g.G.Ground.tells

taken : (g : _) (c : After-take_noted g) → Brings g.G.Ground.tells (g.G.Ground.told c.args.outside.now) c.args.self.now c.args.reference (kept_at c.args.reference.at c.take_noted.new.self.kept) c.take_noted.result
taken g c = new_brings (g.G.Ground.told c.args.outside.now) (g.G.Ground.told c.record_at.new.outside) c.args.self.now c.record_at.new.self c.take_noted.new.self c.args.reference c.in-Ok.found.0 c.in-Ok.found.1 g.G.Ground.tells c.take_noted.result
    c.in-Ok.ensures.bounds c.in-Ok.ensures.because c.take_noted.ensures.refers

missed : (g : _) (c : In-Err g) → Brings g.G.Ground.tells (g.G.Ground.told c.args.outside.now) c.args.self.now c.args.reference (kept_at c.args.reference.at c.record_at.new.self.kept) (Err c.in-Err.fault)
missed g c = misses g.G.Ground.tells (g.G.Ground.told c.args.outside.now) c.args.self.now c.args.reference (kept_at c.args.reference.at c.record_at.new.self.kept) c.in-Err.fault c.in-Err.ensures.because c.in-Err.ensures.blames

-- ---- what was kept

pub note-requires : goal.note-requires
note-requires g c = again_no_ground (g.G.Ground.told c.args.outside.now) c.args.self.now c.again-found.new.self c.args.reference c.in-Some.answer c.again-found.result c.again-found.ensures.answers c.again-found.ensures.is
    (known_is (kept_at c.args.reference.at c.args.self.now.kept) c.args.reference c.in-Some.answer
    (subst (λ (x : Option (Result (Unit {0}) FetchFault)). IsKnown (kept_at c.args.reference.at c.args.self.now.kept) c.args.reference x) c.in-Some.is c.known.ensures.is))

pub returns-in-Some-clause-reads : goal.returns-in-Some-clause-reads
returns-in-Some-clause-reads g c told = again_reads (g.G.Ground.told c.args.outside.now) (g.G.Ground.told c.note.new.outside) (c.note.ensures.only told) c.args.self.now c.again-found.new.self c.again-found.ensures.layout c.again-found.ensures.runs c.again-found.ensures.none

pub returns-in-Some-clause-known : goal.returns-in-Some-clause-known
returns-in-Some-clause-known g c = again_known (g.G.Ground.told c.args.outside.now) c.args.self.now c.again-found.new.self c.args.reference c.in-Some.answer c.again-found.result c.again-found.ensures.answers c.again-found.ensures.is (known g c)

pub returns-in-Some-clause-found : goal.returns-in-Some-clause-found
returns-in-Some-clause-found g c = (again g c).found

pub returns-in-Some-clause-because : goal.returns-in-Some-clause-because
returns-in-Some-clause-because g c = (again g c).because

pub returns-in-Some-clause-here : goal.returns-in-Some-clause-here
returns-in-Some-clause-here g c = (again g c).here

pub returns-in-Some-clause-blames : goal.returns-in-Some-clause-blames
returns-in-Some-clause-blames g c = (again g c).blames

pub returns-in-Some-clause-meets : goal.returns-in-Some-clause-meets
returns-in-Some-clause-meets g c = (again g c).meets

pub returns-in-Some-clause-bounds : goal.returns-in-Some-clause-bounds
returns-in-Some-clause-bounds g c = (again g c).bounds

-- ---- where none was read

pub returns-in-Err-clause-found : goal.returns-in-Err-clause-found
returns-in-Err-clause-found g c = (missed g c).found

pub returns-in-Err-clause-because : goal.returns-in-Err-clause-because
returns-in-Err-clause-because g c = (missed g c).because

pub returns-in-Err-clause-blames : goal.returns-in-Err-clause-blames
returns-in-Err-clause-blames g c = (missed g c).blames

pub returns-in-Err-clause-known : goal.returns-in-Err-clause-known
returns-in-Err-clause-known g c rec some =
    let none : c.known.result ≡ None = search rules in
    absurd (none_known (kept_at c.args.reference.at c.args.self.now.kept) c.args.reference
    (subst (λ (x : Option (Result (Unit {0}) FetchFault)). IsKnown (kept_at c.args.reference.at c.args.self.now.kept) c.args.reference x) none c.known.ensures.is) rec some)

-- ---- what was read

pub returns-clause-reads : goal.returns-clause-reads
returns-clause-reads g c told =
    new_reads (g.G.Ground.told c.args.outside.now) (g.G.Ground.told c.record_at.new.outside) c.args.self.now c.record_at.new.self c.take_noted.new.self c.args.reference c.in-Ok.found.0 c.in-Ok.found.1
    (c.in-Ok.ensures.reads told) c.in-Ok.ensures.kept (c.in-Ok.ensures.because told) c.take_noted.ensures.layout c.take_noted.ensures.runs c.take_noted.ensures.gains
    (g.G.Ground.told c.take_noted.new.outside) (c.take_noted.ensures.only told)

pub returns-clause-found : goal.returns-clause-found
returns-clause-found g c = (taken g c).found

pub returns-clause-because : goal.returns-clause-because
returns-clause-because g c = (taken g c).because

pub returns-clause-here : goal.returns-clause-here
returns-clause-here g c = (taken g c).here

pub returns-clause-blames : goal.returns-clause-blames
returns-clause-blames g c = (taken g c).blames

pub returns-clause-meets : goal.returns-clause-meets
returns-clause-meets g c = (taken g c).meets

pub returns-clause-bounds : goal.returns-clause-bounds
returns-clause-bounds g c = (taken g c).bounds

pub returns-clause-counts : goal.returns-clause-counts
returns-clause-counts g c = subst (λ (n : Noted). Counts counted_fetch c.take_noted.result n (g.G.Ground.counts_of c.take_noted.new.outside)) c.in-Ok.ensures.counts c.take_noted.ensures.counts

pub returns-clause-known : goal.returns-clause-known
returns-clause-known g c rec some =
    let none : c.known.result ≡ None = search rules in
    absurd (none_known (kept_at c.args.reference.at c.args.self.now.kept) c.args.reference
    (subst (λ (x : Option (Result (Unit {0}) FetchFault)). IsKnown (kept_at c.args.reference.at c.args.self.now.kept) c.args.reference x) none c.known.ensures.is) rec some)
