use Rattle.std.proofs.Common.{◌≡◌, ◌≤◌, length, false, refl, sym, ap, subst, ◌∙◌, Ok, IsTrue}
use Rattle.std.specs.Prelude.{IfOk, is_ok}
use Rattle.ip_spec.specs.declared.command.Command.TheVariants as Command
use Rattle.ip_spec.specs.declared.met.Met.{Met}
use Rattle.ip_spec.specs.declared.reply.Reply.{Reply}
use Rattle.ip_spec.specs.Record.{Hash}
use Rattle.ip_spec.specs.Repository.{Repository}
use Rattle.ip_spec.specs.Step.{resolve}
use Rattle.ip_held.specs.declared.held.Held.{Held}
use Rattle.ip_collects.specs.Starting.{AnswersStart, Replies, met_by_start}
use Rattle.ip_held.specs.Held.{IsOf, image_records}
use Rattle.ip_session.specs.Running.{IsKnown}
use Rattle.ip_session.specs.Session.{unasked, state_in, GoesBy}
use Rattle.ip_session.specs.Starting.{StartReplies}
use Rattle.ip_session.proofs.Asking.{none_met, plain_asked, plain_quiet, start_asked, start_counts, start_quiet, start_ends, start_sound}
use Rattle.ip_session.proofs.ClearGoes.{keeps_by, start_clear}
use Rattle.ip_session.proofs.NameSizes.{names_size}
use Rattle.ip_session.proofs.Wanted.{unnamed_memory}
use Rattle.ip_session.proofs.StartGoes.{idle_by, runs_none, runs_at, retained_at, busy_goes, busy_placed, unnamed_start, unnamed_start_placed, start_goes, start_cut, start_placed, start_serves, found_of, says_as}
use Rattle.ip_session.proofs.session.Session.collect.Goals as goal

-- ---- one runs

pub retained_name-requires : goal.retained_name-requires
retained_name-requires g c =
    let (r, is) = c.requires.tables in
    record { tables = (r, is.0, retained_at c.args.self.now.store.held.slot r c.args.self.now.store.held.collection c.in-Collecting.commit _ is.0.phase (sym c.phase.ensures ∙ c.in-Collecting.is)) }

pub returns-in-Collecting : goal.returns-in-Collecting
returns-in-Collecting g c =
    let s = c.args.self.now in
    let busy = Reply.Busy c.retained_name.result in
    let told = sym c.phase.ensures ∙ c.in-Collecting.is in
    let unmet = none_met s.met false c.requires.met in
    record {
      runs = record {
        serving = c.requires.tables;
        goes = λ tells r v here. subst (λ (h : Hash). GoesBy unasked (g.G.Ground.told c.args.ground.now) (g.G.Ground.told c.args.ground.now) s s r v (Command.Collect c.args.target) (Reply.Busy h))
            (sym (c.retained_name.ensures r here.holds.tables (retained_at s.store.held.slot r s.store.held.collection c.in-Collecting.commit _ here.holds.tables.phase told)))
            (busy_goes _ s r v here c.args.target c.in-Collecting.commit c.requires.met (runs_at s.store.held.collection c.in-Collecting.commit _ told));
        placed = λ tells r v here. busy_placed (image_records here.holds) _ _ (state_in s r v) v c.args.target c.retained_name.result;
        bounded = λ tells r v here look. absurd (cc look);
        clear = λ tells r v here. keeps_by _ _ s s (Command.Collect c.args.target) busy (λ may. may) (λ clear. clear) refl;
        cut = λ tells r v here. tt;
        cause = tt;
        untouched = λ told met. absurd met;
      };
      child = c.requires.child;
      asked = plain_asked _ _ _ s s (Command.Collect c.args.target) (Ok busy) _ tt unmet refl (λ failed. absurd (cc failed));
      quiet = plain_quiet (Ok busy) s.met _ _ tt unmet refl;
      memory = λ r is e. absurd (cc e);
      counts = refl;
    }

-- ---- no commit has the name

pub returns-in-Err : goal.returns-in-Err
returns-in-Err g c =
    let s = c.args.self.now in
    let unmet = none_met s.met false c.requires.met in
    record {
      runs = record {
        serving = c.requires.tables;
        goes = λ tells r v here. unnamed_start _ s r v here c.args.target c.in-Err.reply c.requires.met (runs_none s.store.held.collection (λ n k is. c.in_default.not-Collecting n k (c.phase.ensures ∙ is))) (sym (c.in-Err.ensures.number r here.holds.tables));
        placed = λ tells r v here. unnamed_start_placed (image_records here.holds) _ _ (state_in s r v) v c.args.target c.in-Err.reply (sym (c.in-Err.ensures.number r here.holds.tables));
        bounded = λ tells r v here look. absurd (cc look);
        clear = λ tells r v here. keeps_by _ _ s s (Command.Collect c.args.target) c.in-Err.reply (λ may. may) (λ clear. clear) refl;
        cut = λ tells r v here. tt;
        cause = tt;
        untouched = λ told met. absurd met;
      };
      child = c.requires.child;
      asked = plain_asked _ _ _ s s (Command.Collect c.args.target) (Ok c.in-Err.reply) _ c.in-Err.ensures.tells_none unmet refl (λ failed. absurd (cc failed));
      quiet = plain_quiet (Ok c.in-Err.reply) s.met _ _ c.in-Err.ensures.tells_none unmet refl;
      memory = λ r is e. absurd (unnamed_memory r c.args.target c.in-Err.reply (c.in-Err.ensures.number r is.0) e);
      counts = refl;
    }

-- ---- the store was asked

pub start_collect-begun-requires-clause-tables : goal.start_collect-begun-requires-clause-tables
start_collect-begun-requires-clause-tables g c =
    let (r, is) = c.requires.tables in
    (r, is.0, c.in-Ok.ensures.retained r is.0)

pub start_reply-requires : goal.start_reply-requires
start_reply-requires g c =
    let (r, is) = c.requires.tables in
    let call = c.start_collect-begun in
    (r, found_of r c.in-Ok.number c.args.self.now.store.held.collection (met_by_start call.result) call.new.self.held c.args.target (sym (c.in-Ok.ensures.number r is.0)) call.result (call.ensures.begins.answered r is.0 (c.in-Ok.ensures.retained r is.0)))

pub returns : goal.returns
returns g c =
    let s = c.args.self.now in
    let call = c.start_collect-begun in
    let begun = call.result in
    let store = call.new.self in
    let B = call.ensures.begins in
    let met = c.start_reply.new.met in
    let result = c.start_reply.result in
    let target = c.args.target in
    let n = c.in-Ok.number in
    let named : (r : Repository) → IsOf s.store.held r → resolve r target ≡ Ok n = λ r of. sym (c.in-Ok.ensures.number r of) in
    let answered : (r : Repository) → IsOf s.store.held r → Replies r begun (AnswersStart r n s.store.held.collection store.met store.held) = λ r of. subst (λ (m : Met). Replies r begun (AnswersStart r n s.store.held.collection m store.held)) (sym call.ensures.met) (B.answered r of (c.in-Ok.ensures.retained r of)) in
    let says : (r : Repository) → IsOf s.store.held r → StartReplies r begun store.met met result = λ r of. says_as r n s.store.held.collection store target (named r of) begun _ met result c.met-self.ensures (answered r of) (c.start_reply.ensures r) in
    let size : (r : Repository) → IsOf s.store.held r → IfOk begun (λ name. length name ≤ 32) = λ r of. names_size s.store.held r of n begun (B.named r of (c.in-Ok.ensures.retained r of)) in
    let (r, is) = c.requires.tables in
    let counts = start_counts r _ met result target _ _ begun (says r is.0) call.ensures.counts in
    record {
      runs = record {
        serving = start_serves s store r target n (named r is.0) met result begun (says r is.0) (answered r is.0) is.1;
        goes = λ tells r v here.
            let of = here.holds.tables in
            start_goes _ _ s store r v here target n (named r of) begun met result (says r of) (size r of) (answered r of) (B.any_moment tells r here.holds)
            (λ begun q now. B.stay tells begun r q here.holds now) (λ down. (ap g.G.Ground.told (call.ensures.turned_down down), B.turned_down down));
        placed = λ tells r v here.
            let of = here.holds.tables in
            start_placed _ _ s store r v here target n (named r of) begun met result (says r of) (answered r of) call.ensures.met (B.limits r of)
            (λ begun. B.begins tells begun r of) (λ down. let same : store.held.slot ≡ s.store.held.slot = ap (λ (x : Held). x.slot) (B.turned_down down) in same);
        bounded = λ tells r v here look. absurd (cc look);
        clear = λ tells r v here. start_clear _ _ s store met r target store.met begun result (says r here.holds.tables) (λ answers. B.clear tells answers r here.holds) B.unswept;
        cut = λ tells r v here. let of = here.holds.tables in start_cut _ _ s store r v here target n (named r of) begun met result (says r of) (answered r of) call.ensures.met (B.any_moment tells r here.holds);
        cause = start_ends r _ met result (IsKnown (IsTrue g.G.Ground.tells) (g.G.Ground.told c.args.ground.now) s) begun (says r is.0);
        untouched = λ told damaged. absurd (start_sound r _ met result begun (says r is.0) damaged);
      };
      child = call.ensures.child;
      asked = start_asked _ _ _ _ s store r target n met result _ _ begun (says r is.0) call.ensures.met
          (λ none. let same = call.ensures.unasked none in (ap g.P.Spawner.told same, ap g.P.Spawner.counts_of same)) B.same_collection call.ensures.asked;
      quiet = start_quiet r _ met result target _ _ begun (says r is.0) call.ensures.met (size r is.0) counts;
      counts = counts;
      memory = λ q own e. (idle_by s.store.held.collection (λ n k told. c.in_default.not-Collecting n k (c.phase.ensures ∙ told)), ap is_ok (named q own.0));
    }
