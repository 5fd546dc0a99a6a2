use Rattle.std.proofs.Common.{refl, sym, ap, subst, ◌∙◌, IsTrue}
use Rattle.std.specs.Prelude.{IfSome}
use Rattle.ip_merge.specs.Rules.{IsDecisive}
use Rattle.ip_spec.specs.declared.command.Command.TheVariants as Command
use Rattle.ip_spec.specs.declared.met.Met.{Met}
use Rattle.ip_spec.specs.declared.reply.Reply.{Reply}
use Rattle.ip_spec.specs.Path.{Bytes}
use Rattle.ip_spec.specs.Repository.{Repository, is_retained}
use Rattle.ip_held.specs.Collecting.{phase_of}
use Rattle.ip_held.specs.Held.{Holds, image_records}
use Rattle.ip_appends.specs.Merging.{merge_reply, AnswersMerge}
use Rattle.ip_held.proofs.Untouched.{damage_refused}
use Rattle.ip_session.specs.Asking.{IsUnanswered, MeetsNone}
use Rattle.ip_session.specs.Running.{IsKnown, Runs}
use Rattle.ip_session.specs.Session.{state_in, IsAnswer}
use Rattle.ip_session.proofs.Asking.{faulted, faulted_bare}
use Rattle.ip_session.proofs.ClearGoes.{keeps_by}
use Rattle.ip_session.proofs.Damage.{causes_apart}
use Rattle.ip_session.proofs.DurableGoes.{by_answer, damage_of, fault_ends, fault_met, answer_counts}
use Rattle.ip_session.proofs.MergeGoes.{has_reply, merge_serves, unmerged_goes, unmerged_placed, merge_goes, merge_cut, merge_placed}
use Rattle.ip_session.proofs.Running.{runs_as, runs_ended}
use Rattle.ip_session.proofs.session.Session.merge.Goals as goal

pub returns-in-Err-clause-runs : goal.returns-in-Err-clause-runs
returns-in-Err-clause-runs g c =
    let rule = g.D.Decides.rule c.args.rules.now in
    record {
      serving = c.requires.tables;
      goes = λ known r v here. unmerged_goes c.args.target c.args.branch c.args.info rule _ c.args.self.now c.args.self.now.met r v here c.in-Err.reply c.requires.met (sym (c.in-Err.ensures.number r here.holds.tables));
      placed = λ known r v here. unmerged_placed c.args.target c.args.branch c.args.info rule (image_records here.holds) _ _ (state_in c.args.self.now r v) v c.in-Err.reply (sym (c.in-Err.ensures.number r here.holds.tables));
      bounded = λ known r v here look. absurd (cc look);
      clear = λ known r v here. keeps_by _ _ c.args.self.now _ (Command.Merge c.args.target c.args.branch c.args.info) c.in-Err.reply (λ may. may) (λ clear. clear) refl;
      cut = λ known r v here. tt;
      cause = tt;
      untouched = λ told met. absurd met;
    }

pub merge_into-made-requires-clause-tables : goal.merge_into-made-requires-clause-tables
merge_into-made-requires-clause-tables g c =
    let (r, is) = c.requires.tables in
    (r, is.0, c.in-Ok.ensures.retained r is.0)

-- by the name that the slice has
pub returns-clause-runs : goal.returns-clause-runs
returns-clause-runs g c =
    let s = c.args.self.now in
    let call = c.merge_into-made in
    let merges = call.ensures.merges in
    let made = call.result in
    let name = c.as_slice.result.now in
    let target = c.args.target in
    let info = c.args.info in
    let n = c.in-Ok.number in
    let result = c.merge_answer.result in
    let rule = g.D.Decides.rule c.args.rules.now in
    let after = record s { store = call.new.self; met = c.met-self.result } in
    let a = g.G.Ground.told c.args.ground.now in
    let b = g.G.Ground.told call.new.outside in
    let is_answer : IsAnswer (merge_reply name made) made result = subst (λ (n : Bytes). IsAnswer (merge_reply n made) made result) (sym c.as_slice.ensures) c.merge_answer.ensures.answer in
    -- of what the store met
    let answered : IsTrue g.G.Ground.tells → IsDecisive rule → (r : Repository) → Holds s.store.held a r → IsTrue (is_retained r n) → IfSome (merge_reply name made) (λ (reply : Reply). AnswersMerge rule b r (phase_of s.store.held.collection) n name info call.new.self.met reply call.new.self.held) =
    λ told decisive r held retained. subst (λ (m : Met). IfSome (merge_reply name made) (λ (reply : Reply). AnswersMerge rule b r (phase_of s.store.held.collection) n name info m reply call.new.self.held)) (sym call.ensures.met) (merges.merges told decisive r held retained).answered in
    runs_as _ _ _ _ _ _ _ _ (Command.Merge target name info) _ (ap (λ (n : Bytes). Command.Merge target n info) (sym c.as_slice.ensures)) (by_answer (merge_reply name made) made result (Runs (IsTrue g.G.Ground.tells) (IsTrue g.G.Ground.tells × IsDecisive rule) rule a b s after (Command.Merge target name info)) is_answer
    (λ reply is. record {
      serving = let (r, of) = c.requires.tables in merge_serves r s call.new.self c.met-self.result of.1 (merges.tables r of.0 (c.in-Ok.ensures.retained r of.0) (has_reply name made reply is));
      goes = λ known r v here.
          let tables = here.holds.tables in
          let retained = c.in-Ok.ensures.retained r tables in
          merge_goes rule a b s call.new.self merges.same_collection r v here target name info n (sym (c.in-Ok.ensures.number r tables)) _ made reply c.met-self.ensures is
          (merges.merges known.0 known.1 r here.holds retained).any_moment (merges.grew known.0 r here.holds).stay (answered known.0 known.1 r here.holds retained);
      placed = λ known r v here.
          let tables = here.holds.tables in
          let retained = c.in-Ok.ensures.retained r tables in
          merge_placed rule a b s call.new.self merges.same_collection r v here target name info n (sym (c.in-Ok.ensures.number r tables)) made reply is (merges.merges known.0 known.1 r here.holds retained).appends (merges.merges known.0 known.1 r here.holds retained).limits;
      bounded = λ known r v here look. absurd (cc look);
      clear = λ told r v here. keeps_by a b s after (Command.Merge target name info) reply (λ may. may) (merges.clear told (has_reply name made reply is) r here.holds) merges.unswept;
      cut = λ known r v here. tt;
      cause = tt;
      untouched = λ told met. absurd met;
    })
    (λ end is. runs_ended (IsTrue g.G.Ground.tells) (IsTrue g.G.Ground.tells × IsDecisive rule) rule a b s after (Command.Merge target name info) end (fault_ends made end (IsKnown (IsTrue g.G.Ground.tells × IsDecisive rule) a s) is (causes_apart g.G.Ground.tells a s.store.held.space made merges.causes) (λ (known, (r, v, here)). (merges.merges known.0 known.1 r here.holds (c.in-Ok.ensures.retained r here.holds.tables)).undamaged)) (λ told met. let refused = damage_refused made (damage_of made end is met) in merges.untouched told refused.0 refused.1)
    (λ known r v here.
    let tables = here.holds.tables in
    merge_cut rule a b s call.new.self merges.same_collection r v here target name info n (sym (c.in-Ok.ensures.number r tables)) _ made (c.met-self.ensures ∙ call.ensures.met ∙ fault_met made end is) (merges.merges known.0 known.1 r here.holds (c.in-Ok.ensures.retained r tables)).any_moment)))

pub returns-clause-counts : goal.returns-clause-counts
returns-clause-counts g c = answer_counts (merge_reply c.args.branch c.merge_into-made.result) c.merge_into-made.result c.merge_answer.result _ _ c.merge_answer.ensures.answer (has_reply c.args.branch c.merge_into-made.result) c.merge_into-made.ensures.counts

pub returns-clause-meets_none : goal.returns-clause-meets_none
returns-clause-meets_none g c = subst MeetsNone (sym (c.met-self.ensures ∙ c.merge_into-made.ensures.met)) (faulted c.merge_into-made.result)

pub returns-in-Err-clause-unanswered : goal.returns-in-Err-clause-unanswered
returns-in-Err-clause-unanswered g c failed = absurd (cc failed)

pub returns-clause-unanswered : goal.returns-clause-unanswered
returns-clause-unanswered g c failed = subst IsUnanswered (sym (c.met-self.ensures ∙ c.merge_into-made.ensures.met)) (faulted_bare (merge_reply c.args.branch c.merge_into-made.result) c.merge_into-made.result c.merge_answer.result c.merge_answer.ensures.answer failed)
