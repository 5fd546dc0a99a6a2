use Rattle.std.proofs.Common.{sym, subst}
use Rattle.std.specs.Prelude.{Err}
use Rattle.ip_ground.specs.Counts.{CountsIf}
use Rattle.ip_opens.specs.OpenFaults.{counted_open}
use Rattle.ip_opens.specs.Walk.{TakesRead}
use Rattle.ip_opens.proofs.Noting.{none_ground}
use Rattle.ip_opens.proofs.walk.take_read.Goals as goal

pub noted-requires : goal.noted-requires
noted-requires g c = none_ground c.args.slot.now c.args.space.now c.args.at c.args.rec c.args.found.now c.take_record.new.found c.in-Err.fault c.in-Err.ensures

pub returns-in-Err-clause-takes : goal.returns-in-Err-clause-takes
returns-in-Err-clause-takes g c = subst (λ fault. TakesRead c.args.slot.now c.args.space.now c.args.at c.args.rec c.args.found.now c.take_record.new.found (Err fault)) (sym c.noted.ensures.same) c.in-Err.ensures

pub returns-in-Err-clause-counts : goal.returns-in-Err-clause-counts
returns-in-Err-clause-counts g c = subst (λ fault. CountsIf (counted_open fault) (g.G.Ground.counts_of c.args.outside.now) (g.G.Ground.counts_of c.noted.new.outside)) (sym c.noted.ensures.same) c.noted.ensures.counts
