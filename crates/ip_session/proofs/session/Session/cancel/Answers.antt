use Rattle.std.proofs.Common.{sym, ap, subst, ◌∙◌, IsTrue}
use Rattle.ip_ground.specs.Contents.{Image}
use Rattle.ip_ground.specs.Told.{IsSettledAs}
use Rattle.ip_spec.specs.declared.command.Command.TheVariants as Command
use Rattle.ip_spec.specs.declared.met.Met.{Met}
use Rattle.ip_collects.specs.Cancelling.{CountsCancel}
use Rattle.ip_held.specs.declared.collection.Collection.{Collection}
use Rattle.ip_held.specs.Collecting.{child_of, Collects}
use Rattle.ip_session.specs.Running.{IsKnown, Ran}
use Rattle.ip_session.specs.Session.{unasked}
use Rattle.ip_session.proofs.Asking.{cancel_asked, cancel_counts, cancel_quiet, cancel_ends, cancel_sound}
use Rattle.ip_session.proofs.ClearGoes.{cancel_clear, cancel_ran, cancel_runs, cancel_settles, if_there, Remains}
use Rattle.ip_session.proofs.Wanted.{cancel_wants}
use Rattle.ip_session.proofs.CancelGoes.{over_slot, over_none, cancel_serves, cancel_placed, cancel_does, cancel_cuts}
use Rattle.ip_session.proofs.session.Session.cancel.Goals as goal

pub returns : goal.returns
returns g c dir =
    let s = c.args.self.now in
    let call = c.cancel-done in
    let store = call.new.self in
    let C = call.ensures.cancels in
    let done = call.result in
    let met = c.met-self.result in
    let a = g.G.Ground.told c.args.ground.now in
    let b = g.G.Ground.told call.new.outside in
    let p = g.G.Ground.counts_of c.args.ground.now in
    let q = g.G.Ground.counts_of call.new.outside in
    let (left, is_met) = C.told in
    let met_is = c.met-self.ensures ∙ is_met in
    let slot_is = over_slot s.store.held store.held store.held.unswept C.same in
    let over = over_none s.store.held store.held store.held.unswept C.same in
    let (r, is) = c.requires.tables in
    subst (Ran (IsTrue g.G.Ground.tells) (IsTrue g.G.Ground.tells) unasked a b p q g.P.Spawner.tells (g.P.Spawner.held call.new.spawner) dir (g.P.Spawner.told c.args.spawner.now) (g.P.Spawner.told call.new.spawner) (g.P.Spawner.counts_of c.args.spawner.now) (g.P.Spawner.counts_of call.new.spawner) s (record s { store = store; met = met }) Command.Cancel)
    (sym c.cancel_answer.ensures) (record {
      runs = record {
        serving = cancel_serves a b s store met left done c.met-self.ensures slot_is r is.1 done (C.answered r is.0);
        goes = λ tells r v here. cancel_does a b s store met left done c.met-self.ensures slot_is r v here C.runs (C.answered r here.holds.tables) (λ idle. ap g.G.Ground.told (call.ensures.idle idle).0) (λ orphan. ap g.G.Ground.told (call.ensures.orphan orphan))
            C.unswept C.same (λ x runs. C.any_moment tells r here.holds x runs) (λ ok q now. C.stay tells ok r q here.holds now);
        placed = λ tells r v here. cancel_placed a b s store met left done c.met-self.ensures slot_is r v here done;
        bounded = λ tells r v here look. absurd (cc look);
        clear = λ tells r v here. cancel_clear a b s store met c.met-self.ensures done (λ answers. C.clear tells answers r here.holds) slot_is C.unswept
            (λ over. cancel_runs (λ (x : Collection). (pair : Image) × IsSettledAs b x.job.attempt pair) s.store.held done C.runs over (λ c runs. cancel_settles a b s.store.held.slot here.holds.stands.standing.records r c done s.store.held.unswept store.met.left store.held (if_there (Collects a s.store.held.slot here.holds.stands.standing.records r) s.store.held.collection c runs here.holds.collects) (C.any_moment tells r here.holds c runs) over))
            (λ over. cancel_ran (Remains a b s store met c.met-self.ensures) s.store.held done C.runs over (λ c runs. (C.any_moment tells r here.holds c runs).all_but over));
        cut = λ tells r v here. cancel_cuts a b s store met left done c.met-self.ensures slot_is r v here C.runs is_met (λ x runs. C.any_moment tells r here.holds x runs);
        cause = cancel_ends done (IsKnown (IsTrue g.G.Ground.tells) a s);
        untouched = λ told damaged. absurd (cancel_sound done damaged);
      };
      child = call.ensures.child ∙ sym (ap child_of over);
      asked = cancel_asked _ _ _ _ s store met done left met_is over _ _ r C.runs (C.answered r is.0) is_met
          (λ idle. let same = (call.ensures.idle idle).1 in (ap g.P.Spawner.told same, ap g.P.Spawner.counts_of same)) (λ x runs there. let same = call.ensures.kept x runs there in (ap g.P.Spawner.told same, ap g.P.Spawner.counts_of same)) call.ensures.killed;
      quiet = cancel_quiet done met p q;
      memory = λ r is e. absurd (cancel_wants done e);
      counts = cancel_counts done met left p q met_is (subst (λ (m : Met). CountsCancel done m.left p q) (sym c.met-self.ensures) call.ensures.counts);
    })
