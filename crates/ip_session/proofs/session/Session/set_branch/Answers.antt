use Rattle.std.proofs.Common.{refl, arith, sym, ap, subst, ◌∙◌, IsTrue, Option}
use Rattle.std.specs.Prelude.{IfSome}
use Rattle.ip_spec.specs.declared.command.Command.TheVariants as Command
use Rattle.ip_spec.specs.declared.met.Met.{Met}
use Rattle.ip_spec.specs.declared.reply.Reply.{Reply}
use Rattle.ip_spec.specs.Path.{Bytes}
use Rattle.ip_held.specs.Answers.{met_by}
use Rattle.ip_held.specs.Collecting.{phase_of}
use Rattle.ip_appends.specs.Naming.{branch_reply, AnswersSet}
use Rattle.ip_held.proofs.Works.{works_stay}
use Rattle.ip_held.specs.Held.{image_records}
use Rattle.ip_session.specs.Asking.{IsUnanswered, MeetsNone}
use Rattle.ip_session.specs.Running.{IsKnown, Runs}
use Rattle.ip_session.specs.Session.{unasked, state_in}
use Rattle.ip_session.proofs.Asking.{faulted, faulted_bare}
use Rattle.ip_session.proofs.BranchGoes.{unnamed_goes, serves, set_goes, set_cut, has_answer_set}
use Rattle.ip_session.proofs.ClearGoes.{keeps_by}
use Rattle.ip_session.proofs.Damage.{sound_apart}
use Rattle.ip_session.proofs.DurableGoes.{by_answer, damage_of, fault_ends, fault_ground, fault_met, answer_counts}
use Rattle.ip_session.proofs.Placing.{unnamed_placed, set_placed}
use Rattle.ip_session.proofs.Running.{runs_as, runs_ended}
use Rattle.ip_session.proofs.session.Session.set_branch.Goals as goal

pub set_branch-made-requires-clause-tables : goal.set_branch-made-requires-clause-tables
set_branch-made-requires-clause-tables g c =
    let (r, is) = c.requires.tables in
    (r, is.0, c.in-Ok.ensures.retained r is.0)

pub returns-in-Err-clause-runs : goal.returns-in-Err-clause-runs
returns-in-Err-clause-runs g c = record {
  serving = c.requires.tables;
  goes = λ told r v here. unnamed_goes _ c.args.self.now c.args.self.now.met r v here c.args.name c.args.target c.in-Err.reply c.requires.met (sym (c.in-Err.ensures.number r here.holds.tables));
  placed = λ told r v here. unnamed_placed (image_records here.holds) _ _ (state_in c.args.self.now r v) v c.args.name c.args.target c.in-Err.reply (sym (c.in-Err.ensures.number r here.holds.tables));
  bounded = λ known r v here look. absurd (cc look);
  clear = λ told r v here. keeps_by _ _ c.args.self.now _ (Command.Branch c.args.name c.args.target) c.in-Err.reply (λ may. may) (λ clear. clear) refl;
  cut = λ told r v here. tt;
  cause = tt;
  untouched = λ told met. absurd met;
}

-- by the name that the slice has
pub returns-clause-runs : goal.returns-clause-runs
returns-clause-runs g c =
    let s = c.args.self.now in
    let call = c.set_branch-made in
    let sets = call.ensures.sets in
    let made = call.result in
    let store = call.new.self in
    let name = c.as_slice.result.now in
    let target = c.args.target in
    let n = c.in-Ok.number in
    let after = record s { store = store; met = c.met-self.result } in
    let a = g.G.Ground.told c.args.ground.now in
    let b = g.G.Ground.told call.new.outside in
    runs_as _ _ _ _ _ _ _ _ (Command.Branch name target) _ (ap (λ (n : Bytes). Command.Branch n target) (sym c.as_slice.ensures)) (by_answer (branch_reply made) made c.branch_answer.result (Runs (IsTrue g.G.Ground.tells) (IsTrue g.G.Ground.tells) unasked a b s after (Command.Branch name target)) c.branch_answer.ensures.answer
    (λ reply is. record {
      serving =
          let (r, of) = c.requires.tables in
          let answers = subst (λ (o : Option Reply). IfSome o (AnswersSet r (phase_of s.store.held.collection) name n (met_by made) store.held)) is (sets.answered r of.0 (c.in-Ok.ensures.retained r of.0)) in
          serves r (phase_of s.store.held.collection) (Command.Branch name target) (met_by made) reply store s of.1 (answers target (sym (c.in-Ok.ensures.number r of.0)));
      goes = λ told r v here.
          let tables = here.holds.tables in
          let retained = c.in-Ok.ensures.retained r tables in
          set_goes a b s store _ r v here name target n (sym (c.in-Ok.ensures.number r tables)) made sets.same_collection (sets.took told r here.holds retained).changes (sets.took told r here.holds retained).slots
          (λ has q now kept parents. record { holds = now; lawful = works_stay _ _ r q _ v here.lawful (λ there. (sets.grew told r here.holds).stay has q now) (omega (arith, kept)) parents }) reply c.met-self.ensures is (subst (λ (m : Met). IfSome (branch_reply made) (AnswersSet r (phase_of s.store.held.collection) name n m store.held)) (sym call.ensures.met) (sets.answered r tables retained));
      placed = λ told r v here.
          let tables = here.holds.tables in
          set_placed a b s store r v here name target n (sym (c.in-Ok.ensures.number r tables)) made reply is (sets.took told r here.holds (c.in-Ok.ensures.retained r tables)).changes sets.limits (sets.appends told);
      bounded = λ known r v here look. absurd (cc look);
      clear = λ told r v here. keeps_by a b s after (Command.Branch name target) reply (λ may. may) ((sets.took told r here.holds (c.in-Ok.ensures.retained r here.holds.tables)).clear (has_answer_set made reply is)) sets.unswept;
      cut = λ told r v here. tt;
      cause = tt;
      untouched = λ told met. absurd met;
    })
    (λ end is. runs_ended (IsTrue g.G.Ground.tells) (IsTrue g.G.Ground.tells) unasked a b s after (Command.Branch name target) end (fault_ends made end (IsKnown (IsTrue g.G.Ground.tells) a s) is (sound_apart made sets.undamaged) (λ held. sets.undamaged)) (λ told met. absurd (damage_of made end is met sets.undamaged)) (λ told r v here.
    let tables = here.holds.tables in
    let retained = c.in-Ok.ensures.retained r tables in
    let begun = sets.begun r tables (fault_ground made end is sets.undamaged) in
    set_cut a b s store _ r v here name target n (sym (c.in-Ok.ensures.number r tables)) made sets.same_collection (sets.took told r here.holds retained).changes (sets.took told r here.holds retained).slots
    (λ has q now kept parents. record { holds = now; lawful = works_stay _ _ r q _ v here.lawful (λ there. (sets.grew told r here.holds).stay has q now) (omega (arith, kept)) parents }) (c.met-self.ensures ∙ call.ensures.met ∙ fault_met made end is) begun.0 begun.1)))

pub returns-clause-counts : goal.returns-clause-counts
returns-clause-counts g c = answer_counts (branch_reply c.set_branch-made.result) c.set_branch-made.result c.branch_answer.result _ _ c.branch_answer.ensures.answer (has_answer_set c.set_branch-made.result) c.set_branch-made.ensures.counts

pub returns-clause-meets_none : goal.returns-clause-meets_none
returns-clause-meets_none g c = subst MeetsNone (sym (c.met-self.ensures ∙ c.set_branch-made.ensures.met)) (faulted c.set_branch-made.result)

pub returns-in-Err-clause-unanswered : goal.returns-in-Err-clause-unanswered
returns-in-Err-clause-unanswered g c failed = absurd (cc failed)

pub returns-clause-unanswered : goal.returns-clause-unanswered
returns-clause-unanswered g c failed = subst IsUnanswered (sym (c.met-self.ensures ∙ c.set_branch-made.ensures.met)) (faulted_bare (branch_reply c.set_branch-made.result) c.set_branch-made.result c.branch_answer.result c.branch_answer.ensures.answer failed)
