use Rattle.std.proofs.Common.{sym, ap, subst, ◌∙◌, IsTrue}
use Rattle.std.specs.Prelude.{IfSome}
use Rattle.ip_spec.specs.Repository.{Repository}
use Rattle.ip_spec.specs.View.{View}
use Rattle.ip_spec.specs.declared.command.Command.TheVariants as Command
use Rattle.ip_spec.specs.declared.met.Met.{Met}
use Rattle.ip_spec.specs.declared.reply.Reply.{Reply}
use Rattle.ip_spec.specs.Path.{Bytes}
use Rattle.ip_held.specs.Answers.{reply_to, Answers}
use Rattle.ip_held.specs.Collecting.{phase_of}
use Rattle.ip_held.specs.Work.{IsAt, session}
use Rattle.ip_held.proofs.Untouched.{damage_refused}
use Rattle.ip_session.specs.Asking.{IsUnanswered, MeetsNone}
use Rattle.ip_session.specs.Running.{IsKnown, Runs}
use Rattle.ip_session.specs.Session.{unasked}
use Rattle.ip_session.proofs.Asking.{faulted, faulted_bare}
use Rattle.ip_session.proofs.ClearGoes.{keeps_by}
use Rattle.ip_session.proofs.Committing.{commit_goes, commit_cut, has_answer}
use Rattle.ip_session.proofs.Damage.{causes_apart}
use Rattle.ip_session.proofs.DurableGoes.{by_answer, damage_of, fault_ends, fault_met, answer_counts}
use Rattle.ip_session.proofs.Placing.{commit_placed}
use Rattle.ip_session.proofs.Running.{runs_as, runs_ended}
use Rattle.ip_session.proofs.session.Session.commit.Goals as goal

-- by the name that the slice has
pub returns-clause-runs : goal.returns-clause-runs
returns-clause-runs g c =
    let s = c.args.self.now in
    let call = c.commit-made in
    let commits = call.ensures.commits in
    let made = call.result in
    let name = c.as_slice.result.now in
    let info = c.args.info in
    let after = record s { store = call.new.self; work = call.new.work; met = c.met-self.result } in
    let a = g.G.Ground.told c.args.ground.now in
    let b = g.G.Ground.told call.new.outside in
    -- of what the store met
    let answered : IsTrue g.G.Ground.tells → (r : Repository) (v : View) → IsAt a s.store.held r s.work v → IfSome (reply_to made) (λ (reply : Reply). Answers b (session r (phase_of s.store.held.collection) s.work v) v (Command.Commit name info) call.new.self.met reply call.new.self.held call.new.work) =
    λ told r v here. subst (λ (m : Met). IfSome (reply_to made) (λ (reply : Reply). Answers b (session r (phase_of s.store.held.collection) s.work v) v (Command.Commit name info) m reply call.new.self.held call.new.work)) (sym call.ensures.met) (commits.answered told r v here) in
    runs_as _ _ _ _ _ _ _ _ (Command.Commit name info) _ (ap (λ (n : Bytes). Command.Commit n info) (sym c.as_slice.ensures)) (by_answer (reply_to made) made c.commit_answer.result (Runs (IsTrue g.G.Ground.tells) (IsTrue g.G.Ground.tells) unasked a b s after (Command.Commit name info)) c.commit_answer.ensures.answer
    (λ reply is. record {
      serving = let (r, of) = c.requires.tables in let on = commits.tables r of.0 of.1 (has_answer made reply is) in (on.repository, (on.tables, on.parents));
      goes = λ told r v here. commit_goes a b s call.new.self call.new.work _ r v here name info made commits.same_collection (commits.took told r v here).changes (commits.took told r v here).slots reply c.met-self.ensures is (answered told r v here);
      placed = λ told r v here. commit_placed a b s call.new.self r v here name info call.new.work made reply is (answered told r v here) (commits.took told r v here).changes (commits.limits told r v here) (commits.appends told r v here);
      bounded = λ known r v here look. absurd (cc look);
      clear = λ told r v here. keeps_by a b s after (Command.Commit name info) reply (λ may. may) (commits.clear told (has_answer made reply is) r here.holds) commits.unswept;
      cut = λ told r v here. tt;
      cause = tt;
      untouched = λ told met. absurd met;
    })
    (λ end is. runs_ended (IsTrue g.G.Ground.tells) (IsTrue g.G.Ground.tells) unasked a b s after (Command.Commit name info) end (fault_ends made end (IsKnown (IsTrue g.G.Ground.tells) a s) is (causes_apart g.G.Ground.tells a s.store.held.space made commits.causes) (λ (told, (r, v, here)). commits.undamaged told r v here)) (λ told met. let refused = damage_refused made (damage_of made end is met) in commits.untouched told refused.0 refused.1)
    (λ told r v here. commit_cut a b s call.new.self call.new.work _ r v here name info made commits.same_collection (commits.took told r v here).changes (commits.took told r v here).slots (c.met-self.ensures ∙ call.ensures.met ∙ fault_met made end is))))

pub returns-clause-counts : goal.returns-clause-counts
returns-clause-counts g c = answer_counts (reply_to c.commit-made.result) c.commit-made.result c.commit_answer.result _ _ c.commit_answer.ensures.answer (has_answer c.commit-made.result) c.commit-made.ensures.counts

pub returns-clause-meets_none : goal.returns-clause-meets_none
returns-clause-meets_none g c = subst MeetsNone (sym (c.met-self.ensures ∙ c.commit-made.ensures.met)) (faulted c.commit-made.result)

pub returns-clause-unanswered : goal.returns-clause-unanswered
returns-clause-unanswered g c failed = subst IsUnanswered (sym (c.met-self.ensures ∙ c.commit-made.ensures.met)) (faulted_bare (reply_to c.commit-made.result) c.commit-made.result c.commit_answer.result c.commit_answer.ensures.answer failed)
