-- What a session does that ran a command which may only read.
--     by_any_rule      the step of a command that is no merge is the same by any rule
--     read_serves      the session goes on serving, whatever is told.      read_goes      it is answered.      read_cut      a fault of the ground or of its files cut it short
use Rattle.std.proofs.Common.{◌≡◌, ℕ, Bool, true, false, refl, sym, ap, ◌∙◌, subst, Option, None, Ok, Err, IsTrue}
use Rattle.std.specs.Prelude.{Result, IfOk, OnErr}
use Rattle.ip_ground.specs.Told.{Told, NoFile}
use Rattle.ip_image.proofs.HeadlineLaws.{pending_passes}
use Rattle.ip_spec.specs.declared.command.Command.{Command}
use Rattle.ip_spec.specs.declared.met.Met.{Met}
use Rattle.ip_spec.specs.declared.record.Record.{Record}
use Rattle.ip_spec.specs.declared.reply.Reply.{Reply}
use Rattle.ip_spec.specs.Machine.{State, Conditions}
use Rattle.ip_spec.specs.Merge.{Rule}
use Rattle.ip_spec.specs.Repository.{Repository}
use Rattle.ip_spec.specs.Step.{Turns, Step, answer}
use Rattle.ip_spec.specs.View.{View}
use Rattle.ip_held.specs.Held.{Holds, image_records}
use Rattle.ip_held.specs.Trees.{OnlyLooks}
use Rattle.ip_held.specs.Collecting.{phase_of}
use Rattle.ip_held.specs.Work.{IsLawful, work_at}
use Rattle.ip_held.proofs.Machine.{AsksNone}
use Rattle.ip_session.specs.declared.session.Session.{Session}
use Rattle.ip_session.specs.declared.session.SessionEnd.{SessionEnd}
use Rattle.ip_session.specs.Session.{unasked, attempt_of, hears, IsServing, IsWorking, state_in, met_only, conditions_of, is_durable, ChangedBy, TouchedBy, IsAnswered, HasRead, GoesBy, CutBy}
use Rattle.ip_session.proofs.Changing.{nothing_by, nothing_space, slots_same, keeps_nothing, stays_only}
use Rattle.ip_session.proofs.SessionLemmas.{plainly, heard_none, unjudged, unsettled}
use Rattle.ip_session.proofs.DurableGoes.{keeps_still}

-- the turns of all commands but merges are the machine's one answer
plain : (rule : Rule) (s : State) (command : Command) (met : Conditions) → is_durable command ≡ false → Turns rule s command met (answer s command met)
plain rule s (Command.Merge target branch info) met quiet = absurd (cc quiet)
plain rule s _ met quiet = refl

by_any_rule : (rule : Rule) (s : State) (command : Command) (met : Conditions) (reply : Reply) (s' : State) → is_durable command ≡ false → Step unasked s command met reply s' → Step rule s command met reply s'
by_any_rule rule s (Command.Merge target branch info) met reply s' quiet step = absurd (cc quiet)
by_any_rule rule s _ met reply s' quiet step = step

module _ (rule : Rule) (a b : Told) (s s' : Session) (r : Repository) (v : View) (here : IsWorking a s r v) (looks : OnlyLooks a b s.store.held s'.store.held) (command : Command) (quiet : is_durable command ≡ false) (asks : AsksNone command) where
  -- the store holds the repository over the same records
  goes : (reply : Reply) → IsAnswered (image_records here.holds) s s' r v command reply → GoesBy rule a b s s' r v command reply
  goes reply A =
      let holds : Holds s'.store.held b r = looks.holds r here.holds in
      record {
        after = r;
        view = A.view;
        difference = None;
        gives = by_any_rule rule (state_in s r v) command (conditions_of s'.met) reply (state_in s' r A.view) quiet A.gives;
        judged = unjudged a b s s' r v (heard_none (phase_of s.store.held.collection) command asks s'.met.child A.gives.0.child);
        settled = unsettled b s s' reply (heard_none (phase_of s.store.held.collection) command asks s'.met.child A.gives.0.child);
        stays = stays_only s.store.held.collection NoFile a b looks.reads.only;
        seen = A.seen;
        is_at = record { holds = holds; lawful = subst (λ (records : ℕ → Option Record). IsLawful records r s'.work A.view) (sym (looks.records r here.holds holds)) A.lawful };
        only = nothing_by (hears command) (attempt_of s.store.held command) (ChangedBy s.store.held a.held command reply) a b looks.reads.only;
        files = keeps_nothing a b looks.reads.only;
        said = looks.reads.only.said;
        space = λ order none slot live. nothing_space a b looks.reads.only order slot live;
        atomic = λ order. keeps_still s.store.held r r a b here.holds order looks.reads.only;
        slots = λ order. slots_same s.store.held r a b here.holds looks.reads.only;
        nothing_pending = λ order. pending_passes a b looks.reads.only.goes (λ file. looks.reads.only.others file (λ none. none)) looks.reads.only.lending order;
        spared = λ long. let x = A.spared long in record { same = x.same; seen = x.seen; refused = by_any_rule rule (state_in s r v) command (conditions_of (met_only true)) Reply.Memory (state_in s r v) quiet x.refused };
        still = λ long. looks.reads.only;
      }

  -- the machine's answer, where nothing was met
  cut : s'.met ≡ met_only false → CutBy rule a b s s' r v command
  cut e =
      let t = answer (state_in s r v) command (conditions_of (met_only false)) in
      record {
        reply = t.0;
        after = t.1;
        difference = None;
        gives = subst (λ (m : Met). Step rule (state_in s r v) command (conditions_of m) t.0 t.1) (sym e)
            (plainly r (phase_of s.store.held.collection) (work_at s.work v) command false t.0 asks (λ h. absurd (cc h)), plain rule (state_in s r v) command (conditions_of (met_only false)) quiet);
        judged = unjudged a b s s' r v (ap (λ (m : Met). m.child) e);
        stays = stays_only s.store.held.collection NoFile a b looks.reads.only;
        only = nothing_by (hears command) (attempt_of s.store.held command) (TouchedBy s.store.held a.held command) a b looks.reads.only;
        files = keeps_nothing a b looks.reads.only;
        said = looks.reads.only.said;
        space = λ order none slot live. nothing_space a b looks.reads.only order slot live;
        atomic = λ order. keeps_still s.store.held r t.1.repository a b here.holds order looks.reads.only;
        slots = λ order. slots_same s.store.held r a b here.holds looks.reads.only;
      }

pub read_serves : (tells : Bool) (a b : Told) (s s' : Session) (command : Command) (result : Result Reply SessionEnd) → IsServing s → HasRead tells a b s s' command result → IfOk result (λ reply. IsServing s')
read_serves tells a b s s' command (Ok reply) (r, is) has = (r, has.tables r is)
read_serves tells a b s s' command (Err end) serving has = tt

module _ (rule : Rule) (tells : Bool) (a b : Told) (s s' : Session) (command : Command) (told : IsTrue tells) (r : Repository) (v : View) (here : IsWorking a s r v) where
  pub read_goes : (result : Result Reply SessionEnd) → is_durable command ≡ false → AsksNone command → HasRead tells a b s s' command result → IfOk result (GoesBy rule a b s s' r v command)
  read_goes (Ok reply) quiet asks has = goes rule a b s s' r v here (has.looks told) command quiet asks reply (has.answered told r v here)
  read_goes (Err end) quiet asks has = tt

  pub read_cut : (result : Result Reply SessionEnd) → is_durable command ≡ false → AsksNone command → s.met ≡ met_only false → HasRead tells a b s s' command result → OnErr result (CutBy rule a b s s' r v command)
  read_cut (Ok reply) quiet asks e has = tt
  read_cut (Err end) quiet asks e has = cut rule a b s s' r v here (has.looks told) command quiet asks (has.unmet refl ∙ e)
