-- What a session does that ran a merge.
--     merge_goes      the store answered it.      merge_cut      a fault of the ground or of its files cut it short
--     unmerged_goes      no commit has the name that was given.      merge_serves      the session goes on serving, whatever is told
--     merge_placed, unmerged_placed      where its records lie
--     has_reply      what has a reply is an answer
use Rattle.std.proofs.Common.{◌≡◌, ◌≢◌, ◌≤◌, ℕ, false, [], ◌∷◌, ◌++◌, length, refl, sym, ap, subst, arith, Option, Some, None, Ok, Err, length-append}
use Rattle.std.specs.Prelude.{Result, MatchResult, IfSome, codes}
use Rattle.ip_base.specs.declared.info.Info.{Info}
use Rattle.ip_base.specs.declared.limit.Limit.TheVariants as Limit
use Rattle.ip_ground.specs.Told.{Told, NoFile, ChangesOnly}
use Rattle.ip_ground.proofs.Spans.{only_more, only_nowhere}
use Rattle.ip_image.specs.Pending.{NothingPending}
use Rattle.ip_image.specs.Headline.{IsAtomic}
use Rattle.ip_image.proofs.HeadlineLaws.{pending_passes}
use Rattle.ip_image.proofs.OneRepository.{one_repository}
use Rattle.ip_spec.specs.declared.command.Command.{Command}
use Rattle.ip_spec.specs.declared.command.Target.{Target}
use Rattle.ip_spec.specs.declared.met.Met.{Met}
use Rattle.ip_spec.specs.declared.record.Record.{Record}
use Rattle.ip_spec.specs.declared.reply.Reply.{Reply}
use Rattle.ip_spec.specs.Merge.{Rule}
use Rattle.ip_spec.specs.Path.{Bytes, space}
use Rattle.ip_spec.specs.Record.{Hash}
use Rattle.ip_spec.specs.Repository.{Repository, head}
use Rattle.ip_spec.specs.Machine.{Phase, Work as MachineWork, State}
use Rattle.ip_spec.specs.Step.{Refused, ◌>>=◌, present, resolve, both_named, MergesInto, Step}
use Rattle.ip_spec.specs.Text.{reply_text, hex_text}
use Rattle.ip_spec.specs.View.{View}
use Rattle.ip_image.specs.declared.slot.Slot.{Slot}
use Rattle.ip_held.specs.declared.collection.Unswept.{Unswept}
use Rattle.ip_held.specs.declared.fault.StoreFault.{StoreFault}
use Rattle.ip_appends.specs.declared.merging.Merge.{Merge}
use Rattle.ip_held.specs.Changes.{HasAnswer, Changes}
use Rattle.ip_appends.specs.Merging.{merge_reply, GoesOnFrom, AnswersMerge, MergesAtMoments, AppendsMerge, LimitsMerge}
use Rattle.ip_publish.specs.Publishing.{MayChange}
use Rattle.ip_held.specs.Held.{Holds, image_records}
use Rattle.ip_held.specs.Slots.{KeepsSlots}
use Rattle.ip_held.specs.Trees.{RecordsStay}
use Rattle.ip_held.specs.Views.{IsViewAfter}
use Rattle.ip_held.specs.Collecting.{phase_of}
use Rattle.ip_held.specs.Work.{AreParents, IsAt, work_at, state_at}
use Rattle.ip_held.specs.declared.collection.Collection.{Collection}
use Rattle.ip_held.proofs.Stepping.{holds_still, of_store}
use Rattle.ip_held.proofs.KeptFiles.{keeps_store}
use Rattle.ip_held.proofs.Works.{works_stay}
use Rattle.ip_session.specs.declared.session.Session.{Session}
use Rattle.ip_session.specs.Placing.{HasCollected, PlacedBy}
use Rattle.ip_session.specs.Session.{IsServing, IsWorking, state_in, met_only, conditions_of, IsLong, IsDurable, attempt_of, hears, ChangedBy, TouchedBy, OnlyBy, GoesBy, CutBy}
use Rattle.ip_session.proofs.NameSizes.{Short, merge_short, name_size}
use Rattle.ip_session.proofs.SessionLemmas.{at, plainly, heard_none, unjudged, unsettled, hex_long, merge_refused}
use Rattle.ip_session.proofs.Referring.{IsUnnamed, NamesNone, names_none}
use Rattle.ip_session.proofs.Changing.{nothing_by, nothing_space, slots_same, keeps_nothing, stays_only}
use Rattle.ip_session.proofs.SessionGoes.{still_goes}
use Rattle.ip_session.proofs.DurableGoes.{keeps_still, answered}
use Rattle.ip_session.proofs.Placing.{unmoved}
use Rattle.ip_store.specs.declared.store.Store.{Store}

-- ---- texts of names

forward_is_short : (name : Hash) → length name ≤ 32 → IsLong (Reply.Forward name) → ⊥
unfolding reply_text
forward_is_short name long_name long =
    omega (arith, long, long_name, hex_long name, length-append (codes "forward" ++ space ∷ hex_text name) (10 ∷ []), length-append (codes "forward") (space ∷ hex_text name))

merged_is_short : (name : Hash) → length name ≤ 32 → IsLong (Reply.Merged name) → ⊥
unfolding reply_text
merged_is_short name long_name long =
    omega (arith, long, long_name, hex_long name, length-append (codes "merged" ++ space ∷ hex_text name) (10 ∷ []), length-append (codes "merged") (space ∷ hex_text name))

-- ---- what the store answered

pub has_reply : (branch : Bytes) (made : Result Merge StoreFault) (reply : Reply) → merge_reply branch made ≡ Some reply → HasAnswer made
has_reply branch (Ok merge) reply e = tt
has_reply branch (Err fault) reply e = answered Merge fault reply e

pub merge_serves : (r : Repository) (s : Session) (store : Store) (met : Met) → AreParents r s.work.least s.work.parents → (after : Repository) × GoesOnFrom r store.held after → IsServing (record s { store = store; met = met })
merge_serves r s store met parents (after, on) = (after, (on.tables, on.parents s.work.least s.work.parents parents))

-- ---- no commit has the name

module _ (target : Target) (branch : Bytes) (info : Info) where
  abbrev merging : Command
  merging = Command.Merge target branch info

  unnamed_step : (rule : Rule) (r : Repository) (phase : Phase) (w : MachineWork) (reply : Reply) → resolve r target ≡ Err reply → Step rule (at r phase w) merging (conditions_of (met_only false)) reply (at r phase w)
  unnamed_step rule r phase w reply is =
      let named : both_named (at r phase w) target branch ≡ Err reply = ap (λ (x : Refused ℕ). x >>= λ number. present (head r branch) (Reply.NoBranch branch) >>= λ n. Ok (number, n)) is in (
        plainly r phase w merging false reply tt (λ h. absurd (cc h)),
        (Err reply, refl, subst (λ (x : Refused (ℕ × ℕ)). MatchResult x (λ both. MergesInto rule (at r phase w) (conditions_of (met_only false)) both.0 branch both.1 info (Err reply)) (λ other. ◌≡◌ {A = Refused (Reply × State)} (Err reply) (Err other))) (sym named) refl),
      )

  pub unmerged_goes : (rule : Rule) (a : Told) (s : Session) (met : Met) (r : Repository) (v : View) (here : IsWorking a s r v) (reply : Reply) → met ≡ met_only false → resolve r target ≡ Err reply → GoesBy rule a a s (record s { met = met }) r v merging reply
  unmerged_goes rule a s met r v here reply e none = still_goes a s met r v here (OnlyBy s.store.held a a merging) (Step rule (state_in s r v) merging) (IsViewAfter r v merging) reply (ap (λ (m : Met). m.child) e)
      (subst (λ (m : Met). Step rule (state_in s r v) merging (conditions_of m) reply (state_in s r v)) (sym e) (unnamed_step rule r (phase_of s.store.held.collection) (work_at s.work v) reply none))
      refl
      (λ long. merge_refused target branch info r (phase_of s.store.held.collection) (work_at s.work v))
      (only_nowhere a (ChangedBy s.store.held a.held merging reply))

  pub unmerged_placed : (rule : Rule) (records : ℕ → Option Record) (slot : Slot) (u : Unswept) (s : State) (v : View) (reply : Reply) → resolve s.repository target ≡ Err reply → PlacedBy rule records slot u slot s v merging reply
  unmerged_placed rule records slot u s v reply is = by reply (subst NamesNone is (names_none s.repository target))
    where
      by : (reply : Reply) → IsUnnamed reply → PlacedBy rule records slot u slot s v merging reply
      by (Reply.NoBranch other) un = unmoved records slot u slot s v merging (Reply.NoBranch other) rule (λ h. h) (λ h. h) (λ l e. absurd (cc e)) (λ t e. absurd (cc e)) refl
      by (Reply.NoCommit hash) un = unmoved records slot u slot s v merging (Reply.NoCommit hash) rule (λ h. h) (λ h. h) (λ l e. absurd (cc e)) (λ t e. absurd (cc e)) refl
      by _ un = absurd un

-- ---- the command

module _ (rule : Rule) (a b : Told) (s : Session) (store : Store) (phase_is : store.held.collection ≡ s.store.held.collection) (r : Repository) (v : View) (here : IsWorking a s r v) (target : Target) (branch : Bytes) (info : Info) (number : ℕ) (named : resolve r target ≡ Ok number) where
  abbrev command : Command
  command = Command.Merge target branch info

  abbrev Went : Reply → Type 0
  Went = GoesBy rule a b s (record s { store = store; met = store.met }) r v command

  abbrev Answered : Reply → Type 0
  Answered reply = AnswersMerge rule b r (phase_of s.store.held.collection) number branch info store.met reply store.held

  abbrev Stays : Type 0
  Stays = (q : Repository) (now : Holds store.held b q) → RecordsStay (image_records here.holds) (image_records now)

  -- the image stands for what it stood for
  stood : ChangesOnly NoFile a b → Holds s.store.held b r
  stood only = holds_still s.store.held r a b only here.holds

  works : Stays → (reply : Reply) (A : Answered reply) → IsAt b store.held A.after s.work v
  works stay reply A = record {
    holds = A.holds;
    lawful = works_stay (image_records here.holds) (image_records A.holds) r A.after s.work v here.lawful (λ there. stay A.after A.holds) (let same = A.floor in omega (arith, same)) (A.goes_on.parents s.work.least s.work.parents here.lawful.parents);
  }

  turns_on : (reply : Reply) (A : Answered reply) → Step rule (state_in s r v) command (conditions_of store.met) reply (state_at A.after (phase_of store.held.collection) (work_at s.work v))
  turns_on reply A = subst (λ (o : Option Collection). Step rule (state_in s r v) command (conditions_of store.met) reply (state_at A.after (phase_of o) (work_at s.work v))) (sym phase_is) (A.turns (work_at s.work v) target named)

  quiet_so : (reply : Reply) → ¬ IsDurable reply command → Answered reply → Stays → ChangesOnly NoFile a b → Went reply
  quiet_so reply quiet A stay only =
      let same : A.after ≡ r = one_repository b.held A.after r A.holds.stands (stood only).stands in
      record {
        after = A.after;
        view = v;
        difference = None;
        gives = turns_on reply A;
        judged = unjudged a b s (record s { store = store; met = store.met }) r v (heard_none (phase_of s.store.held.collection) command tt store.met.child (turns_on reply A).0.child);
        settled = unsettled b s (record s { store = store; met = store.met }) reply (heard_none (phase_of s.store.held.collection) command tt store.met.child (turns_on reply A).0.child);
        stays = stays_only s.store.held.collection NoFile a b only;
        is_at = works stay reply A;
        seen = refl;
        only = nothing_by (hears command) (attempt_of s.store.held command) (ChangedBy s.store.held a.held command reply) a b only;
        files = keeps_nothing a b only;
        said = only.said;
        space = λ order none slot live. nothing_space a b only order slot live;
        atomic = λ order. keeps_still s.store.held r A.after a b here.holds order only;
        slots = λ order. slots_same s.store.held r a b here.holds only;
        nothing_pending = λ order. pending_passes a b only.goes (λ file. only.others file (λ none. none)) only.lending order;
        spared = λ long. record { same = λ i. state_at (same i) (phase_of (phase_is i)) (work_at s.work v); seen = refl; refused = merge_refused target branch info r (phase_of s.store.held.collection) (work_at s.work v) };
        still = λ long. only;
      }

  done_so : (reply : Reply) → IsDurable reply command → ¬ IsLong reply → Answered reply → Stays → (merge : Merge) (after : Repository) → Changes r after (Ok merge) store.held a b → (NothingPending a → KeepsSlots a b) → Went reply
  done_so reply done short A stay merge after does slots =
      let same : after ≡ A.after = one_repository b.held after A.after does.ok.stands A.holds.stands in
      record {
        after = A.after;
        view = v;
        difference = None;
        gives = turns_on reply A;
        judged = unjudged a b s (record s { store = store; met = store.met }) r v (heard_none (phase_of s.store.held.collection) command tt store.met.child (turns_on reply A).0.child);
        settled = unsettled b s (record s { store = store; met = store.met }) reply (heard_none (phase_of s.store.held.collection) command tt store.met.child (turns_on reply A).0.child);
        stays = stays_only s.store.held.collection (MayChange a.held) a b does.only;
        is_at = works stay reply A;
        seen = refl;
        only = only_more a b _ (ChangedBy s.store.held a.held command reply) (λ file changed. (done, changed)) does.only;
        files = keeps_store a b (MayChange a.held) (of_store a.held) does.only;
        said = does.only.said;
        space = λ order none slot live. does.space order slot live;
        atomic = λ order. subst (λ (q : Repository). IsAtomic a b r q) same (does.atomic order);
        slots = slots;
        nothing_pending = λ order. does.nothing_pending order tt;
        spared = λ long. absurd (short long);
        still = λ long. absurd (short long);
      }

  name_so : (reply : Reply) → Answered reply → Short reply
  name_so reply A = merge_short rule (state_in s r v) target branch info (conditions_of store.met) reply (state_at A.after (phase_of store.held.collection) (work_at s.work v)) (name_size s.store.held r here.holds.tables) (turns_on reply A)

  went : (made : Result Merge StoreFault) → MergesAtMoments rule here.holds (phase_of s.store.held.collection) number branch info made store.held b → (HasAnswer made → Stays) → IfSome (merge_reply branch made) Answered → IfSome (merge_reply branch made) Went
  went (Ok (Merge.Current name)) M stay A = quiet_so (Reply.Current name) (λ h. h) A (stay tt) (M.unmoved tt)
  went (Ok (Merge.Forward name)) M stay A = done_so (Reply.Forward name) tt (forward_is_short name (name_so (Reply.Forward name) A)) A (stay tt) (Merge.Forward name) M.after M.took.changes M.took.slots
  went (Ok (Merge.Merged name)) M stay A = done_so (Reply.Merged name) tt (merged_is_short name (name_so (Reply.Merged name) A)) A (stay tt) (Merge.Merged name) M.after M.took.changes M.took.slots
  went (Ok Merge.NoBranch) M stay A = quiet_so (Reply.NoBranch branch) (λ h. h) A (stay tt) (M.unmoved tt)
  went (Ok (Merge.Bases count)) M stay A = quiet_so (Reply.Bases count) (λ h. h) A (stay tt) (M.unmoved tt)
  went (Ok (Merge.Conflict path)) M stay A = quiet_so (Reply.Conflict path) (λ h. h) A (stay tt) (M.unmoved tt)
  went (Err (StoreFault.GivenUp left)) M stay A = quiet_so (Reply.GivenUp left) (λ h. h) A (stay tt) (M.took.changes.refused (refl, tt)).0
  went (Err (StoreFault.Leaving left)) M stay A = quiet_so (Reply.Leaving left) (λ h. h) A (stay tt) (M.took.changes.refused (refl, tt)).0
  went (Err (StoreFault.HeadMoved name)) M stay A = quiet_so (Reply.HeadMoved name) (λ h. h) A (stay tt) (M.took.changes.refused (refl, tt)).0
  went (Err (StoreFault.Existing name)) M stay A = quiet_so (Reply.Existing name) (λ h. h) A (stay tt) (M.took.changes.refused (refl, tt)).0
  went (Err (StoreFault.Limit limit)) M stay A = quiet_so (Reply.Limit limit) (λ h. h) A (stay tt) (M.took.changes.refused (refl, tt)).0
  went (Err StoreFault.Memory) M stay A = quiet_so Reply.Memory (λ h. h) A (stay tt) (M.took.changes.refused (refl, tt)).0
  went (Err StoreFault.Ground) M stay A = tt
  went (Err (StoreFault.Damaged at_ names)) M stay A = tt

  pub merge_goes : (met : Met) (made : Result Merge StoreFault) (reply : Reply) → met ≡ store.met → merge_reply branch made ≡ Some reply → MergesAtMoments rule here.holds (phase_of s.store.held.collection) number branch info made store.held b → (HasAnswer made → Stays) → IfSome (merge_reply branch made) Answered
      → GoesBy rule a b s (record s { store = store; met = met }) r v command reply
  merge_goes met made reply e is M stay A =
      subst (λ (m : Met). GoesBy rule a b s (record s { store = store; met = m }) r v command reply) (sym e) (subst (λ (o : Option Reply). IfSome o Went) is (went made M stay A))

  pub merge_cut : (met : Met) (made : Result Merge StoreFault) → met ≡ met_only false → MergesAtMoments rule here.holds (phase_of s.store.held.collection) number branch info made store.held b → CutBy rule a b s (record s { store = store; met = met }) r v command
  merge_cut met made e M = record {
    reply = M.reply;
    after = state_at M.after (phase_of s.store.held.collection) (work_at s.work v);
    difference = None;
    gives = subst (λ (m : Met). Step rule (state_in s r v) command (conditions_of m) M.reply (state_at M.after (phase_of s.store.held.collection) (work_at s.work v))) (sym e) (M.turns (work_at s.work v) target named);
    judged = unjudged a b s (record s { store = store; met = met }) r v (ap (λ (m : Met). m.child) e);
    stays = stays_only s.store.held.collection (MayChange a.held) a b M.took.changes.only;
    only = only_more a b (MayChange a.held) (TouchedBy s.store.held a.held command) (λ file changed. (refl, changed)) M.took.changes.only;
    files = keeps_store a b (MayChange a.held) (of_store a.held) M.took.changes.only;
    said = M.took.changes.only.said;
    space = λ order none slot live. M.took.changes.space order slot live;
    atomic = M.took.changes.atomic;
    slots = M.took.slots;
  }

  abbrev At : Reply → Type 0
  At reply = PlacedBy rule (image_records here.holds) s.store.held.slot s.store.held.unswept store.held.slot (state_in s r v) v command reply

  abbrev Appended : Result Merge StoreFault → Type 0
  Appended made = AppendsMerge rule (image_records here.holds) r number branch info made s.store.held store.held a b

  abbrev Limits : Result Merge StoreFault → Type 0
  Limits made = LimitsMerge rule (image_records here.holds) r number branch info made s.store.held

  still_at : (reply : Reply) → ¬ IsDurable reply command → ¬ HasCollected reply command → ((l : _) → reply ≢ Reply.Limit l) → store.held.slot ≡ s.store.held.slot → At reply
  still_at reply not over none same = unmoved (image_records here.holds) s.store.held.slot s.store.held.unswept store.held.slot (state_in s r v) v command reply rule not over none (λ t e. absurd (cc e)) same

  placed : (made : Result Merge StoreFault) → Appended made → Limits made → IfSome (merge_reply branch made) At
  placed (Ok (Merge.Current name)) A L = still_at (Reply.Current name) (λ h. h) (λ h. h) (λ l is. absurd (cc is)) (A tt)
  placed (Ok (Merge.Forward name)) A L = record {
    done = λ _. record { more = A.more; commits = A.commits; are = (number, named, A.are); so = (A.appends.slot, A.room, A.sequence) };
    quiet = λ quiet _. absurd (quiet tt);
    collected = λ floor left may is. absurd may;
    ended = λ may is. absurd may;
    space = λ _ is. absurd (cc is);
    sequence = λ _ is. absurd (cc is);
    attempt = λ t is. absurd (cc is);
  }
  placed (Ok (Merge.Merged name)) A L = record {
    done = λ _. record { more = A.more; commits = A.commits; are = (number, named, A.are); so = (A.appends.slot, A.room, A.sequence) };
    quiet = λ quiet _. absurd (quiet tt);
    collected = λ floor left may is. absurd may;
    ended = λ may is. absurd may;
    space = λ _ is. absurd (cc is);
    sequence = λ _ is. absurd (cc is);
    attempt = λ t is. absurd (cc is);
  }
  placed (Ok Merge.NoBranch) A L = still_at (Reply.NoBranch branch) (λ h. h) (λ h. h) (λ l is. absurd (cc is)) (A tt)
  placed (Ok (Merge.Bases count)) A L = still_at (Reply.Bases count) (λ h. h) (λ h. h) (λ l is. absurd (cc is)) (A tt)
  placed (Ok (Merge.Conflict path)) A L = still_at (Reply.Conflict path) (λ h. h) (λ h. h) (λ l is. absurd (cc is)) (A tt)
  placed (Err (StoreFault.GivenUp left)) A L = still_at (Reply.GivenUp left) (λ h. h) (λ h. h) (λ l is. absurd (cc is)) (A tt)
  placed (Err (StoreFault.Leaving left)) A L = still_at (Reply.Leaving left) (λ h. h) (λ h. h) (λ l is. absurd (cc is)) (A tt)
  placed (Err (StoreFault.HeadMoved name)) A L = still_at (Reply.HeadMoved name) (λ h. h) (λ h. h) (λ l is. absurd (cc is)) (A tt)
  placed (Err (StoreFault.Existing name)) A L = still_at (Reply.Existing name) (λ h. h) (λ h. h) (λ l is. absurd (cc is)) (A tt)
  placed (Err (StoreFault.Limit Limit.Space)) A L = record {
    done = λ done. absurd done;
    quiet = λ _ _. A tt;
    collected = λ floor left may is. absurd may;
    ended = λ may is. absurd may;
    space = λ _ is. record { more = L.more; commits = L.commits; are = (number, named, L.are); so = L.short };
    sequence = λ _ is. absurd (cc is);
    attempt = λ t is. absurd (cc is);
  }
  placed (Err (StoreFault.Limit Limit.Sequence)) A L = record {
    done = λ done. absurd done;
    quiet = λ _ _. A tt;
    collected = λ floor left may is. absurd may;
    ended = λ may is. absurd may;
    space = λ _ is. absurd (cc is);
    sequence = λ _ is. record { more = L.more; commits = L.commits; are = (number, named, L.are); so = L.short };
    attempt = λ t is. absurd (cc is);
  }
  placed (Err (StoreFault.Limit _)) A L = record {
    done = λ done. absurd done;
    quiet = λ _ _. A tt;
    collected = λ floor left may is. absurd may;
    ended = λ may is. absurd may;
    space = λ _ is. absurd (cc is);
    sequence = λ _ is. absurd (cc is);
    attempt = λ t is. absurd (cc is);
  }
  placed (Err StoreFault.Memory) A L = still_at Reply.Memory (λ h. h) (λ h. h) (λ l is. absurd (cc is)) (A tt)
  placed (Err StoreFault.Ground) A L = tt
  placed (Err (StoreFault.Damaged at_ names)) A L = tt

  pub merge_placed : (made : Result Merge StoreFault) (reply : Reply) → merge_reply branch made ≡ Some reply → Appended made → Limits made → At reply
  merge_placed made reply is A L = subst (λ (o : Option Reply). IfSome o At) is (placed made A L)
