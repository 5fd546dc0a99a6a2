use Rattle.std.proofs.Common.{refl, subst}
use Rattle.std.specs.Prelude.{Result, IsOk}
use Rattle.ip_spec.specs.declared.reply.Reply.{Reply}
use Rattle.ip_session.specs.declared.session.SessionEnd.{SessionEnd}
use Rattle.ip_session.specs.Asking.{Spawns}
use Rattle.ip_session.specs.Session.{CountsIn}
use Rattle.ip_session.proofs.SessionGoes.{written_goes}
use Rattle.ip_session.proofs.session.Session.answer.Goals as goal

pub returns-in-Ok-clause-goes : goal.returns-in-Ok-clause-goes
returns-in-Ok-clause-goes g c = written_goes _ _ _ _ c.args.self.now c.step.new.self c.put_reply.new.met c.args.line.now c.in-Ok.reply _ _ _ _ _ _ _ _ _ c.in-Ok.ensures.goes c.put_reply.ensures.written c.in-Ok.ensures.placed c.in-Ok.ensures.bounded c.in-Ok.ensures.clear
    (subst (λ (x : Result Reply SessionEnd). Spawns g.P.Spawner.tells c.args.dir.now (g.P.Spawner.told c.args.spawner.now) (g.P.Spawner.told c.step.new.spawner) c.args.self.now c.step.new.self c.args.line.now x (g.P.Spawner.counts_of c.args.spawner.now) (g.P.Spawner.counts_of c.step.new.spawner)) c.in-Ok.is c.step.ensures.asked)
    (subst (λ (x : Result Reply SessionEnd). CountsIn c.args.line.now x c.step.new.self.met (g.G.Ground.counts_of c.args.ground.now) (g.G.Ground.counts_of c.step.new.ground)) c.in-Ok.is c.step.ensures.counts) c.in-Ok.ensures.quiet

pub returns-in-Ok-clause-still : goal.returns-in-Ok-clause-still
returns-in-Ok-clause-still g c each = ((c.step.ensures.still each).0, refl)

pub returns-in-Err-clause-still : goal.returns-in-Err-clause-still
returns-in-Err-clause-still g c each = (let still = c.step.ensures.still each in absurd (cc (subst IsOk c.in-Err.is still.1)))
