use Rattle.std.proofs.Common.{false, inl, refl, sym, ap, subst}
use Rattle.std.specs.Prelude.{is_err}
use Rattle.ip_spawn.specs.Children.{end_seen, is_running}
use Rattle.ip_spec.specs.declared.command.Command.TheVariants as Command
use Rattle.ip_spec.specs.declared.met.Child.{Child}
use Rattle.ip_session.proofs.FinishAsked.{Sees, seen_so, finish_asked, finish_ran}
use Rattle.ip_session.proofs.FinishGoes.{Says}
use Rattle.ip_session.proofs.session.Session.look.Goals as goal

pub returns : goal.returns
returns g c dir =
    let s = c.args.self.now in
    let call = c.look-looked in
    let looked = call.result in
    let store = call.new.self in
    let C = call.ensures.concludes in
    let met = c.met-self.result in
    let (r, is) = c.requires.tables in
    let says : Says s store Command.Look looked = record { most = _; goes = C.goes; kept = λ x reaped runs exit. (call.ensures.kept x reaped runs exit).1; answered = C.answered; slices = λ left is. refl; few = λ _. refl } in
    finish_ran g.G.Ground.tells _ _ _ _ g.P.Spawner.tells _ dir _ _ _ _ s store met Command.Look tt looked c.met-self.ensures says c.look_answer.result c.look_answer.ensures.answer c.look_answer.ensures.short c.requires.tables
    (λ tells r held. record { any_moment = λ x reaped runs heard. C.any_moment tells r held x reaped runs heard; undamaged = C.undamaged tells r held; works_stay = λ has q now. C.works_stay tells has r q held now; clear = λ has. C.clear tells has r held; bounded = λ look x runs is. C.bounded tells r held x runs is })
    (λ tells. C.untouched tells) (λ quiet. ap g.G.Ground.told (call.ensures.quiet quiet)) call.ensures.counts call.ensures.child
    (finish_asked g.P.Spawner.tells dir _ _ s store met Command.Look tt looked c.met-self.ensures says _ _ r is.0
    (λ idle. let same = call.ensures.idle idle in (ap g.P.Spawner.told same, ap g.P.Spawner.counts_of same)) (λ x reaped runs exit. let same = (call.ensures.kept x reaped runs exit).0 in (ap g.P.Spawner.told same, ap g.P.Spawner.counts_of same))
    (λ x runs exit. let (answer, child, attempt, told, counts) = call.ensures.asked x runs exit in record {
      end = end_seen answer;
      ran = is_running answer;
      waited = false;
      failed = is_err answer;
      sees = subst (λ (k : Child). Sees k (end_seen answer) (is_running answer) (is_err answer)) (sym child) (seen_so answer);
      awaits = λ is. absurd (cc is);
      waits = inl refl;
      attempt = attempt;
      told = told;
      counts = counts;
    }))
