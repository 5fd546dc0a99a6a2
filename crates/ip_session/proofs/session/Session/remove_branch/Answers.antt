use Rattle.std.proofs.Common.{arith, sym, ap, subst, ◌∙◌, IsTrue, Option}
use Rattle.std.specs.Prelude.{IfSome}
use Rattle.ip_spec.specs.declared.command.Command.TheVariants as Command
use Rattle.ip_spec.specs.declared.met.Met.{Met}
use Rattle.ip_spec.specs.declared.reply.Reply.{Reply}
use Rattle.ip_spec.specs.Path.{Bytes}
use Rattle.ip_held.specs.Answers.{met_by}
use Rattle.ip_held.specs.Collecting.{phase_of}
use Rattle.ip_appends.specs.Naming.{removed_reply, AnswersRemove}
use Rattle.ip_held.proofs.Works.{works_stay}
use Rattle.ip_session.specs.Asking.{IsUnanswered, MeetsNone}
use Rattle.ip_session.specs.Running.{IsKnown, Runs}
use Rattle.ip_session.specs.Session.{unasked, IsAnswer}
use Rattle.ip_session.proofs.Asking.{faulted, faulted_bare}
use Rattle.ip_session.proofs.BranchGoes.{serves, remove_goes, remove_cut, has_answer_removed}
use Rattle.ip_session.proofs.ClearGoes.{keeps_by}
use Rattle.ip_session.proofs.Damage.{sound_apart}
use Rattle.ip_session.proofs.DurableGoes.{by_answer, damage_of, fault_ends, fault_ground, fault_met, answer_counts}
use Rattle.ip_session.proofs.Placing.{remove_placed}
use Rattle.ip_session.proofs.Running.{runs_as, runs_ended}
use Rattle.ip_session.proofs.session.Session.remove_branch.Goals as goal

-- by the name that the slice has
pub returns-clause-runs : goal.returns-clause-runs
returns-clause-runs g c =
    let s = c.args.self.now in
    let call = c.remove_branch-made in
    let removes = call.ensures.removes in
    let made = call.result in
    let store = call.new.self in
    let name = c.as_slice.result.now in
    let result = c.removed_answer.result in
    let after = record s { store = store; met = c.met-self.result } in
    let a = g.G.Ground.told c.args.ground.now in
    let b = g.G.Ground.told call.new.outside in
    let is_answer : IsAnswer (removed_reply name made) made result = subst (λ (n : Bytes). IsAnswer (removed_reply n made) made result) (sym c.as_slice.ensures) c.removed_answer.ensures.answer in
    runs_as _ _ _ _ _ _ _ _ (Command.BranchRm name) _ (ap Command.BranchRm (sym c.as_slice.ensures)) (by_answer (removed_reply name made) made result (Runs (IsTrue g.G.Ground.tells) (IsTrue g.G.Ground.tells) unasked a b s after (Command.BranchRm name)) is_answer
    (λ reply is. record {
      serving =
          let (r, of) = c.requires.tables in
          serves r (phase_of s.store.held.collection) (Command.BranchRm name) (met_by made) reply store s of.1 (subst (λ (o : Option Reply). IfSome o (AnswersRemove r (phase_of s.store.held.collection) name (met_by made) store.held)) is (removes.answered r of.0));
      goes = λ told r v here.
          remove_goes a b s store _ r v here name made removes.same_collection (removes.took told r here.holds).changes (removes.took told r here.holds).slots
          (λ has q now kept parents. record { holds = now; lawful = works_stay _ _ r q _ v here.lawful (λ there. (removes.grew told r here.holds).stay has q now) (omega (arith, kept)) parents })
          reply c.met-self.ensures is (λ absent. ap g.G.Ground.told (call.ensures.absent absent)) (subst (λ (m : Met). IfSome (removed_reply name made) (AnswersRemove r (phase_of s.store.held.collection) name m store.held)) (sym call.ensures.met) (removes.answered r here.holds.tables));
      placed = λ told r v here. remove_placed a b s store r v here name made reply is (removes.took told r here.holds).changes removes.limits (λ absent. ap g.G.Ground.told (call.ensures.absent absent)) (removes.appends told);
      bounded = λ known r v here look. absurd (cc look);
      clear = λ told r v here. keeps_by a b s after (Command.BranchRm name) reply (λ may. may) ((removes.took told r here.holds).clear (has_answer_removed name made reply is)) removes.unswept;
      cut = λ told r v here. tt;
      cause = tt;
      untouched = λ told met. absurd met;
    })
    (λ end is. runs_ended (IsTrue g.G.Ground.tells) (IsTrue g.G.Ground.tells) unasked a b s after (Command.BranchRm name) end (fault_ends made end (IsKnown (IsTrue g.G.Ground.tells) a s) is (sound_apart made removes.undamaged) (λ held. removes.undamaged)) (λ told met. absurd (damage_of made end is met removes.undamaged)) (λ told r v here.
    remove_cut a b s store _ r v here name made removes.same_collection (removes.took told r here.holds).changes (removes.took told r here.holds).slots
    (λ has q now kept parents. record { holds = now; lawful = works_stay _ _ r q _ v here.lawful (λ there. (removes.grew told r here.holds).stay has q now) (omega (arith, kept)) parents })
    (c.met-self.ensures ∙ call.ensures.met ∙ fault_met made end is) (removes.begun r here.holds.tables (fault_ground made end is removes.undamaged)))))

pub returns-clause-counts : goal.returns-clause-counts
returns-clause-counts g c = answer_counts (removed_reply c.args.name c.remove_branch-made.result) c.remove_branch-made.result c.removed_answer.result _ _ c.removed_answer.ensures.answer (has_answer_removed c.args.name c.remove_branch-made.result) c.remove_branch-made.ensures.counts

pub returns-clause-meets_none : goal.returns-clause-meets_none
returns-clause-meets_none g c = subst MeetsNone (sym (c.met-self.ensures ∙ c.remove_branch-made.ensures.met)) (faulted c.remove_branch-made.result)

pub returns-clause-unanswered : goal.returns-clause-unanswered
returns-clause-unanswered g c failed = subst IsUnanswered (sym (c.met-self.ensures ∙ c.remove_branch-made.ensures.met)) (faulted_bare (removed_reply c.args.name c.remove_branch-made.result) c.remove_branch-made.result c.removed_answer.result c.removed_answer.ensures.answer failed)
