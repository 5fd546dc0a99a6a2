-- What a session does that ended a collection, or was to end one.
--     cancel_does      the store answered it: idle_goes where none ran, cancel_goes where one did.      cancel_cuts      a fault of the ground cut it short.      cancel_placed      no record came of it.      cancel_serves      the session goes on serving
--     idle_store      what the store is where none ran.      over_slot, over_none      its slot stays, and none runs behind it
use Rattle.std.proofs.Common.{◌≡◌, ◌≢◌, ◌↔◌, inl, ℕ, false, refl, sym, ap, ◌∙◌, subst, arith, Option, Some, None, Ok, Err}
use Rattle.std.specs.Prelude.{Result, IfOk, OnErr, IsOk, is_ok, option_map}
use Rattle.ip_ground.specs.declared.names.FileName.{FileName}
use Rattle.ip_ground.specs.Told.{Told, NoFile, ChangesOnly}
use Rattle.ip_ground.proofs.Spans.{only_nowhere}
use Rattle.ip_spec.specs.declared.command.Command.{Command}
use Rattle.ip_spec.specs.declared.met.Child.TheVariants as Child
use Rattle.ip_spec.specs.declared.met.Met.{Met}
use Rattle.ip_spec.specs.declared.reply.Reply.{Reply}
use Rattle.ip_spec.specs.Machine.{Phase, Work as MachineWork}
use Rattle.ip_spec.specs.Repository.{Repository}
use Rattle.ip_spec.specs.Step.{Step, outcome, answer}
use Rattle.ip_spec.specs.View.{View}
use Rattle.ip_image.specs.declared.slot.Slot.{Slot}
use Rattle.ip_collects.specs.declared.cancelling.CancelFault.{CancelFault}
use Rattle.ip_collects.specs.declared.cancelling.Cancelled.{Cancelled}
use Rattle.ip_held.specs.declared.collection.Collection.{Collection}
use Rattle.ip_held.specs.declared.collection.Unswept.{Unswept}
use Rattle.ip_held.specs.declared.held.Held.{Held}
use Rattle.ip_collects.specs.Cancelling.{CancelReplies, met_by_cancel, unswept_after, Cancels}
use Rattle.ip_held.specs.Collecting.{phase_of}
use Rattle.ip_collects.specs.Starting.{AnswersCall}
use Rattle.ip_held.specs.Held.{Holds, SameTables, image_records}
use Rattle.ip_held.specs.Sweeping.{IsSwept, ChangesFor}
use Rattle.ip_held.specs.Trees.{RecordsStay}
use Rattle.ip_held.specs.Work.{AreParents, work_at}
use Rattle.ip_held.proofs.Apart.{for_more}
use Rattle.ip_held.proofs.Stepping.{same_holds, stays_still}
use Rattle.ip_held.proofs.Works.{works_stay}
use Rattle.ip_held.proofs.SlotLaws.{slots_none}
use Rattle.ip_session.specs.declared.session.Session.{Session}
use Rattle.ip_session.specs.Placing.{PlacedBy}
use Rattle.ip_session.specs.Session.{unasked, IsServing, IsWorking, state_in, met_only, conditions_of, IsLong, attempt_of, hears, ChangesBy, ChangedBy, TouchedBy, GoesBy, CutBy}
use Rattle.ip_session.specs.Starting.{cancel_answer}
use Rattle.ip_session.proofs.Changing.{keeps_nothing, nothing_by, nothing_space, none_durable, stays_of}
use Rattle.ip_session.proofs.Placing.{unmoved}
use Rattle.ip_session.proofs.SessionLemmas.{at, plainly, heard_none, unjudged, unsettled, cancelled_is_short, orphan_is_short, idle_is_short}
use Rattle.ip_session.proofs.StartGoes.{step_turned}
use Rattle.ip_store.specs.declared.store.Store.{Store}

-- the repository stays, whatever the answer is
kept : (r : Repository) (phase : Phase) (w : MachineWork) (met : Met) → (answer (at r phase w) Command.Cancel (conditions_of met)).1.repository ≡ r
unfolding outcome
kept r Phase.Idle w met = refl
kept r (Phase.Collecting c exit) w met = refl

pub idle_store : (store now : Held) → store.collection ≡ None → now.unswept ≡ store.unswept → now ≡ record store { collection = None; unswept = now.unswept } → SameTables store now
idle_store store now none unswept is = record {
  index = ap (λ (x : Held). x.index) is;
  slot = ap (λ (x : Held). x.slot) is;
  names = ap (λ (x : Held). x.names) is;
  places = ap (λ (x : Held). x.places) is;
  branches = ap (λ (x : Held). x.branches) is;
  history = ap (λ (x : Held). x.history) is;
  layout = ap (λ (x : Held). x.space.layout) is;
  runs = ap (λ (x : Held). x.space.runs) is;
  collection = ap (λ (x : Held). x.collection) is ∙ sym none;
  unswept = unswept;
}

pub over_slot : (store now : Held) (u : Unswept) → now ≡ record store { collection = None; unswept = u } → now.slot ≡ store.slot
over_slot store now u is = ap (λ (x : Held). x.slot) is

pub over_none : (store now : Held) (u : Unswept) → now ≡ record store { collection = None; unswept = u } → now.collection ≡ None
over_none store now u is = ap (λ (x : Held). x.collection) is

module _ (a b : Told) (s : Session) (store : Store) (met : Met) (left : ℕ) (done : Result Cancelled CancelFault) (is_met : met ≡ store.met) (slot_is : store.held.slot ≡ s.store.held.slot) where
  abbrev after_it : Session
  after_it = record s { store = store; met = met }

  abbrev Answers : Repository → Reply → Type 0
  Answers r reply = AnswersCall r s.store.held.collection Command.Cancel store.met store.held reply

  pub cancel_serves : (r : Repository) → AreParents r s.work.least s.work.parents → (done : Result Cancelled CancelFault) → CancelReplies done (Answers r) → IfOk (cancel_answer done) (λ reply. IsServing after_it)
  cancel_serves r parents (Ok Cancelled.Done) A = (r, (A.tables, parents))
  cancel_serves r parents (Ok Cancelled.Orphan) A = (r, (A.tables, parents))
  cancel_serves r parents (Err CancelFault.Idle) A = (r, (A.tables, parents))
  cancel_serves r parents (Err CancelFault.Ground) A = tt

  module _ (r : Repository) (v : View) (here : IsWorking a s r v) where
    abbrev Went : Reply → Type 0
    Went = GoesBy unasked a b s after_it r v Command.Cancel

    abbrev At : Reply → Type 0
    At reply = PlacedBy unasked (image_records here.holds) s.store.held.slot s.store.held.unswept store.held.slot (state_in s r v) v Command.Cancel reply

    pub cancel_placed : (done : Result Cancelled CancelFault) → IfOk (cancel_answer done) At
    cancel_placed (Ok Cancelled.Done) = unmoved (image_records here.holds) s.store.held.slot s.store.held.unswept store.held.slot (state_in s r v) v Command.Cancel Reply.Cancelled unasked (none_durable Reply.Cancelled Command.Cancel refl) (λ h. h) (λ l is. absurd (cc is)) (λ t is. absurd (cc is)) slot_is
    cancel_placed (Ok Cancelled.Orphan) = unmoved (image_records here.holds) s.store.held.slot s.store.held.unswept store.held.slot (state_in s r v) v Command.Cancel Reply.CancelledOrphan unasked (none_durable Reply.CancelledOrphan Command.Cancel refl) (λ h. h) (λ l is. absurd (cc is)) (λ t is. absurd (cc is)) slot_is
    cancel_placed (Err CancelFault.Idle) = unmoved (image_records here.holds) s.store.held.slot s.store.held.unswept store.held.slot (state_in s r v) v Command.Cancel Reply.Idle unasked (none_durable Reply.Idle Command.Cancel refl) (λ h. h) (λ l is. absurd (cc is)) (λ t is. absurd (cc is)) slot_is
    cancel_placed (Err CancelFault.Ground) = tt

    gives : (reply : Reply) → Answers r reply → Step unasked (state_in s r v) Command.Cancel (conditions_of met) reply (state_in after_it r v)
    gives reply A = subst (λ (m : Met). Step unasked (state_in s r v) Command.Cancel (conditions_of m) reply (state_in after_it r v)) (sym is_met) (step_turned (state_in s r v) Command.Cancel store.met reply (state_in after_it r v) tt (A.turns (work_at s.work v)))

    unheard : (reply : Reply) → Answers r reply → met.child ≡ Child.NotAsked
    unheard reply A = ap (λ (m : Met). m.child) is_met ∙ heard_none (phase_of s.store.held.collection) Command.Cancel tt store.met.child (A.turns (work_at s.work v)).0.child

    -- none runs
    pub idle_goes : SameTables s.store.held store.held → store.held.space ≡ s.store.held.space → b ≡ a → Answers r Reply.Idle → Went Reply.Idle
    idle_goes same space told A = subst (λ (t : Told). GoesBy unasked a t s after_it r v Command.Cancel Reply.Idle) (sym told) (record {
      after = r;
      view = v;
      difference = None;
      gives = gives Reply.Idle A;
      judged = unjudged a a s after_it r v (unheard Reply.Idle A);
      settled = unsettled a s after_it Reply.Idle (unheard Reply.Idle A);
      stays = λ c runs pair was. was;
      is_at = (let holds = same_holds s.store.held store.held same space r a here.holds in record {
        holds = holds;
        lawful = works_stay (image_records here.holds) (image_records holds) r r s.work v here.lawful (λ there. stays_still s.store.held store.held same r r a here.holds holds) (omega arith) here.lawful.parents;
      });
      seen = refl;
      only = nothing_by (hears Command.Cancel) (attempt_of s.store.held Command.Cancel) (ChangedBy s.store.held a.held Command.Cancel Reply.Idle) a a (only_nowhere a NoFile);
      files = keeps_nothing a a (only_nowhere a NoFile);
      said = (only_nowhere a NoFile).said;
      space = λ order none slot live. nothing_space a a (only_nowhere a NoFile) order slot live;
      atomic = λ order t late le. absurd (omega (arith, late, le));
      slots = λ order. slots_none a;
      nothing_pending = λ order. order;
      spared = λ long. absurd (idle_is_short long);
      still = λ long. absurd (idle_is_short long);
    })

    -- one does
    module _ (c : Collection) (runs : s.store.held.collection ≡ Some c) (M : Cancels r c done s.store.held.unswept store.met.left store.held a b) where
      by_attempt : (these : FileName → Type 0) → ChangesFor c.job.attempt these a b → ChangesBy false (attempt_of s.store.held Command.Cancel) these a b
      by_attempt these changes = subst (λ (o : Option Collection). ChangesBy false (option_map (λ x. x.job.attempt) o) these a b) (sym runs) changes

      swept : (file : FileName) → IsSwept store.held.slot s.store.held.unswept file → IsSwept s.store.held.slot s.store.held.unswept file
      swept file is = subst (λ (t : Slot). IsSwept t s.store.held.unswept file) slot_is is

      over_goes : (reply : Reply) → IsOk done → Answers r reply → ¬ IsLong reply → ((q : Repository) (now : Holds store.held b q) → RecordsStay (image_records here.holds) (image_records now))
          → ChangesBy false (attempt_of s.store.held Command.Cancel) (ChangedBy s.store.held a.held Command.Cancel reply) a b → Went reply
      over_goes reply is A short stay only =
          let holds = M.holds is in
          record {
            after = r;
            view = v;
            difference = None;
            gives = gives reply A;
            judged = unjudged a b s after_it r v (unheard reply A);
            settled = unsettled b s after_it reply (unheard reply A);
            stays = stays_of s.store.held.collection c a b runs M.stays;
            is_at = record { holds = holds; lawful = works_stay (image_records here.holds) (image_records holds) r r s.work v here.lawful (λ there. stay r holds) (omega arith) here.lawful.parents };
            seen = refl;
            only = only;
            files = M.files;
            said = M.only.said;
            space = λ order none slot live. M.space order slot live;
            atomic = λ order t late le. let at_it = M.recovers order t late le in record { stands = λ image possible. inl (at_it.stands image possible); flushed = at_it.flushed };
            slots = M.slots;
            nothing_pending = M.nothing_pending;
            spared = λ long. absurd (short long);
            still = λ long. absurd (short long);
          }

      pub cancel_goes : (x : Result Cancelled CancelFault) → done ≡ x → x ≢ Err CancelFault.Idle → CancelReplies x (Answers r) → (IsOk x → (q : Repository) (now : Holds store.held b q) → RecordsStay (image_records here.holds) (image_records now)) → (x ≡ Ok Cancelled.Orphan → b ≡ a)
          → IfOk (cancel_answer x) Went
      cancel_goes (Ok Cancelled.Done) is not A stay orphan = over_goes Reply.Cancelled (ap is_ok is) A cancelled_is_short (stay refl)
          (by_attempt (ChangedBy s.store.held a.held Command.Cancel Reply.Cancelled) (for_more c.job.attempt (IsSwept store.held.slot s.store.held.unswept) (ChangedBy s.store.held a.held Command.Cancel Reply.Cancelled) a b (λ file this. (refl, swept file this)) M.only))
      cancel_goes (Ok Cancelled.Orphan) is not A stay orphan = over_goes Reply.CancelledOrphan (ap is_ok is) A orphan_is_short (stay refl)
          (nothing_by (hears Command.Cancel) (attempt_of s.store.held Command.Cancel) (ChangedBy s.store.held a.held Command.Cancel Reply.CancelledOrphan) a b (subst (ChangesOnly NoFile a) (sym (orphan refl)) (only_nowhere a NoFile)))
      cancel_goes (Err CancelFault.Idle) is not A stay orphan = absurd (not refl)
      cancel_goes (Err CancelFault.Ground) is not A stay orphan = tt

      cut_so : met ≡ met_only false → CutBy unasked a b s after_it r v Command.Cancel
      cut_so e =
          let t = answer (state_in s r v) Command.Cancel (conditions_of (met_only false)) in
          record {
            reply = t.0;
            after = t.1;
            difference = None;
            gives = subst (λ (m : Met). Step unasked (state_in s r v) Command.Cancel (conditions_of m) t.0 t.1) (sym e) (plainly r (phase_of s.store.held.collection) (work_at s.work v) Command.Cancel false t.0 tt (λ h. absurd (cc h)), refl);
            judged = unjudged a b s after_it r v (ap (λ (m : Met). m.child) e);
            stays = stays_of s.store.held.collection c a b runs M.stays;
            only = by_attempt (TouchedBy s.store.held a.held Command.Cancel) (for_more c.job.attempt (IsSwept store.held.slot s.store.held.unswept) (TouchedBy s.store.held a.held Command.Cancel) a b swept M.only);
            files = M.files;
            said = M.only.said;
            space = λ order none slot live. M.space order slot live;
            atomic = λ order moment late le. let at_it = M.recovers order moment late le in record { stands = λ image possible. inl (at_it.stands image possible); flushed = at_it.flushed };
            slots = M.slots;
          }

      pub cancel_cut : (x : Result Cancelled CancelFault) → store.met ≡ met_by_cancel x left → OnErr (cancel_answer x) (CutBy unasked a b s after_it r v Command.Cancel)
      cancel_cut (Ok Cancelled.Done) e = tt
      cancel_cut (Ok Cancelled.Orphan) e = tt
      cancel_cut (Err CancelFault.Idle) e = tt
      cancel_cut (Err CancelFault.Ground) e = cut_so (is_met ∙ e)

    abbrev Runs_or_not : Type 0
    Runs_or_not = (s.store.held.collection ≡ None) ↔ (done ≡ Err CancelFault.Idle)

    -- one runs or none does
    by_running : (P : Type 0) → Runs_or_not → (s.store.held.collection ≡ None → done ≡ Err CancelFault.Idle → P) → ((c : Collection) → s.store.held.collection ≡ Some c → done ≢ Err CancelFault.Idle → P) → P
    by_running P either none some = by s.store.held.collection refl
      where
        by : (o : Option Collection) → s.store.held.collection ≡ o → P
        by None is = none is (either.0 is)
        by (Some c) is = some c is (λ idle. absurd (cc (sym is ∙ either.1 idle)))

    abbrev Does : Type 0
    Does = (c : Collection) → s.store.held.collection ≡ Some c → Cancels r c done s.store.held.unswept store.met.left store.held a b

    pub cancel_does : Runs_or_not → CancelReplies done (Answers r) → (done ≡ Err CancelFault.Idle → b ≡ a) → (done ≡ Ok Cancelled.Orphan → b ≡ a) → store.held.unswept ≡ unswept_after done store.met.left s.store.held.slot s.store.held.unswept
        → store.held ≡ record s.store.held { collection = None; unswept = store.held.unswept } → Does → (IsOk done → (q : Repository) (now : Holds store.held b q) → RecordsStay (image_records here.holds) (image_records now)) → IfOk (cancel_answer done) Went
    cancel_does either A idle orphan unswept same does stay = by_running (IfOk (cancel_answer done) Went) either
        (λ none is. subst (λ (x : Result Cancelled CancelFault). IfOk (cancel_answer x) Went) (sym is)
        (idle_goes (idle_store s.store.held store.held none (unswept ∙ ap (λ (x : Result Cancelled CancelFault). unswept_after x store.met.left s.store.held.slot s.store.held.unswept) is) same) (ap (λ (x : Held). x.space) same) (idle is) (subst (λ (x : Result Cancelled CancelFault). CancelReplies x (Answers r)) is A)))
        (λ c is not. cancel_goes c is (does c is) done refl not A stay orphan)

    pub cancel_cuts : Runs_or_not → store.met ≡ met_by_cancel done left → Does → OnErr (cancel_answer done) (CutBy unasked a b s after_it r v Command.Cancel)
    cancel_cuts either e does = by_running (OnErr (cancel_answer done) (CutBy unasked a b s after_it r v Command.Cancel)) either
        (λ none is. subst (λ (x : Result Cancelled CancelFault). OnErr (cancel_answer x) (CutBy unasked a b s after_it r v Command.Cancel)) (sym is) tt)
        (λ c is not. cancel_cut c is (does c is) done e)
