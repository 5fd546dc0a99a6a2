use Rattle.ip_space.specs.SpaceView.{kept_at}
use Rattle.ip_space.proofs.Bringing.{no_ground, no_memory}
use Rattle.ip_space.proofs.space.Space.take_noted.Goals as goal

pub note-requires : goal.note-requires
note-requires g c = no_ground c.args.rec c.args.reference.now (kept_at c.args.reference.now.at c.take-found.new.self.kept) c.take-found.result c.take-found.ensures.refers

pub returns-clause-memory : goal.returns-clause-memory
returns-clause-memory g c = no_memory c.args.rec c.args.reference.now (kept_at c.args.reference.now.at c.take-found.new.self.kept) c.take-found.result c.take-found.ensures.refers
