-- What a command leaves cleared away.
--     still_clear      where no file changed what was cleared is so still.      still_cleared      so by a store with the same slot
--     sweeps_none, sweeps_never      no sweep was made behind it.      keeps_by      so only what was cleared stays so
--     cancel_settles      the attempt of a collection that was given up, which ran (cancel_runs, cancel_ran, if_there).      clear_same      what was unswept is so still.      read_clear      a command that may only read.      start_clear, finish_clear, cancel_clear      what the store says of a collection
--     lined_clear      the line that spells a command.      quiet_clear      a line with a reply behind no sweep
use Rattle.std.proofs.Common.{◌≡◌, ℕ, Bool, refl, sym, ap, ◌∙◌, subst, Option, Some, None, Ok, Err, IsTrue}
use Rattle.std.specs.Prelude.{◌↔◌, Result, IfOk, IfSome, IsErrOf, IsSomeAnd}
use Rattle.ip_ground.specs.declared.names.FileName.TheVariants.{Chunk}
use Rattle.ip_base.specs.declared.exit.Reaped.{Reaped}
use Rattle.ip_ground.specs.Contents.{Image}
use Rattle.ip_ground.specs.Custody as custody
use Rattle.ip_ground.specs.Told.{Told, lending, NoFile, IsForeign, IsSettledAs, ChangesOnly}
use Rattle.ip_ground.proofs.Lending.{of_attempt}
use Rattle.ip_ground.proofs.Spans.{lending_now}
use Rattle.ip_spec.specs.declared.command.Command.{Command}
use Rattle.ip_spec.specs.declared.command.Target.{Target}
use Rattle.ip_spec.specs.declared.met.Met.{Met}
use Rattle.ip_spec.specs.declared.reply.Reply.{Reply}
use Rattle.ip_spec.specs.Line.{IsLineOf}
use Rattle.ip_spec.specs.Path.{Bytes}
use Rattle.ip_spec.specs.Record.{Hash}
use Rattle.ip_spec.specs.Repository.{Repository}
use Rattle.ip_spec.specs.TreeAt.{Records}
use Rattle.ip_spec.specs.View.{View}
use Rattle.ip_image.specs.declared.slot.Slot.{Slot}
use Rattle.ip_collects.specs.declared.cancelling.CancelFault.{CancelFault}
use Rattle.ip_collects.specs.declared.cancelling.Cancelled.{Cancelled}
use Rattle.ip_held.specs.declared.collection.Collection.{Collection}
use Rattle.ip_held.specs.declared.collection.Unswept.{Unswept}
use Rattle.ip_collects.specs.declared.finishing.FinishFault.{FinishFault}
use Rattle.ip_collects.specs.declared.finishing.Looked.{Looked}
use Rattle.ip_collects.specs.declared.finishing.Rejection.{Rejection}
use Rattle.ip_collects.specs.declared.starting.CollectFault.{CollectFault}
use Rattle.ip_held.specs.declared.held.Held.{Held}
use Rattle.ip_held.specs.Clear.{IsClearTo, KeepsClear, ClearsAll}
use Rattle.ip_held.specs.Sweeping as sweeping
use Rattle.ip_held.specs.Sweeping.{AllBut}
use Rattle.ip_spec.specs.Step.{IsSwept}
use Rattle.ip_collects.specs.Cancelling.{Cancels, unswept_after}
use Rattle.ip_collects.specs.Finishing as finish
use Rattle.ip_collects.specs.Finishing.{HasAnswer, IsSweptBehind}
use Rattle.ip_held.specs.Collecting.{Collects, IsOfChild}
use Rattle.ip_session.specs.declared.session.Session.{Session}
use Rattle.ip_session.specs.declared.session.SessionEnd.{SessionEnd}
use Rattle.ip_session.specs.Asking.{MayReap}
use Rattle.ip_session.specs.Clearing.{SweepsBehind, ClearBy, ClearIn, unswept_behind}
use Rattle.ip_session.specs.Session.{IsWorking, HasRead}
use Rattle.ip_session.specs.Starting.{StartReplies, cancel_answer, look_answer}
use Rattle.ip_session.proofs.Placing.{still_slot}
use Rattle.ip_store.specs.declared.store.Store.{Store}

-- ---- no file changed

still_clear : (a b : Told) → ChangesOnly NoFile a b → (s : Slot) (u : Unswept) → IsClearTo s u a.held (lending a) → IsClearTo s u b.held (lending b)
still_clear a b only s u clear = record {
  chunk = clear.chunk;
  attempt = clear.attempt;
  chunks = λ number low. (only.others (Chunk number) (λ none. none)).held (λ foreign. foreign) ∙ clear.chunks number low;
  files = λ n file from low of mine.
      let was : ¬ custody.IsForeign (lending a n) = λ foreign. mine (subst custody.IsForeign (sym (lending_now a b only.goes n (only.lending n))) foreign) in
      let stays : ¬ IsForeign a file = λ foreign. was (subst custody.IsForeign (of_attempt (lending a) n file of) foreign) in
      (only.others file (λ none. none)).held stays ∙ clear.files n file from low of was;
}

pub still_cleared : (store now : Held) (a b : Told) → ChangesOnly NoFile a b → now.slot ≡ store.slot → now.unswept ≡ store.unswept → KeepsClear store now a b
still_cleared store now a b only slot unswept clear =
    subst (λ (s : Slot). IsClearTo s now.unswept b.held (lending b)) (sym slot) (subst (λ (u : Unswept). IsClearTo store.slot u b.held (lending b)) (sym unswept) (still_clear a b only store.slot store.unswept clear))

-- ---- no sweep was made

sweeps_none : (command : Command) (reply : Reply) → ¬ MayReap command → ¬ SweepsBehind command reply
sweeps_none Command.Look reply not sweeps = not tt
sweeps_none Command.Finish reply not sweeps = not tt
sweeps_none Command.Cancel reply not sweeps = not tt
sweeps_none _ reply not sweeps = sweeps

sweeps_never : (command : Command) (reply : Reply) → ¬ IsSwept reply → ¬ SweepsBehind command reply
sweeps_never Command.Look reply not sweeps = not sweeps
sweeps_never Command.Finish reply not sweeps = not sweeps
sweeps_never Command.Cancel reply not sweeps = not sweeps
sweeps_never _ reply not sweeps = sweeps

sweeps_it : (command : Command) (reply : Reply) → MayReap command → IsSwept reply → SweepsBehind command reply
sweeps_it Command.Look reply may is = is
sweeps_it Command.Finish reply may is = is
sweeps_it Command.Cancel reply may is = is
sweeps_it _ reply may is = absurd may

has_swept : (command : Command) (reply : Reply) → SweepsBehind command reply → IsSwept reply
has_swept Command.Look reply sweeps = sweeps
has_swept Command.Finish reply sweeps = sweeps
has_swept Command.Cancel reply sweeps = sweeps
has_swept _ reply sweeps = absurd sweeps

pub keeps_by : (a b : Told) (s s' : Session) (command : Command) (reply : Reply) → ¬ MayReap command → KeepsClear s.store.held s'.store.held a b → s'.store.held.unswept ≡ s.store.held.unswept → ClearBy (SweepsBehind command reply) a b s s'
keeps_by a b s s' command reply not keeps same = record {
  keeps = keeps;
  all = λ sweeps. absurd (sweeps_none command reply not sweeps);
  unswept = λ _. same;
  behind = λ sweeps. absurd (sweeps_none command reply not sweeps);
  all_but = λ sweeps. absurd (sweeps_none command reply not sweeps);
  settled = λ sweeps. absurd (sweeps_none command reply not sweeps);
}

pub read_clear : (tells : Bool) (a b : Told) (s s' : Session) (command : Command) → IsTrue tells → (r : Repository) (v : View) → IsWorking a s r v → (result : Result Reply SessionEnd) → ¬ MayReap command → HasRead tells a b s s' command result
    → IfOk result (λ reply. ClearBy (SweepsBehind command reply) a b s s')
read_clear tells a b s s' command told r v here (Ok reply) not has =
    let looks = has.looks told in
    keeps_by a b s s' command reply not (still_cleared s.store.held s'.store.held a b looks.reads.only (still_slot s.store.held s'.store.held r r a b here.holds (looks.holds r here.holds) looks.reads.only) has.unswept) has.unswept
read_clear tells a b s s' command told r v here (Err end) not has = tt

-- ---- the commands of a collection

module _ (a b : Told) (s : Session) (store : Store) (met : Met) where
  abbrev after_it : Session
  after_it = record s { store = store; met = met }

  abbrev Clears : Command → Reply → Type 0
  Clears command reply = ClearBy (SweepsBehind command reply) a b s after_it

  pub start_clear : (r : Repository) (target : Target) (before : Met) (begun : Result Hash CollectFault) (result : Result Reply SessionEnd) → StartReplies r begun before met result → (¬ IsErrOf begun CollectFault.Ground → KeepsClear s.store.held store.held a b) → store.held.unswept ≡ s.store.held.unswept → IfOk result (Clears (Command.Collect target))
  start_clear r target before begun (Ok reply) says keeps same = keeps_by a b s after_it (Command.Collect target) reply (λ may. may)
      (keeps (λ fault. let ends = (subst (λ (x : Result Hash CollectFault). StartReplies r x before met (Ok reply)) fault says).0 in absurd (cc ends))) same
  start_clear r target before begun (Err end) says keeps same = tt

  -- the store.held met what the session did
  module _ (is_met : met ≡ store.met) where
    -- the attempt of the collection that ran is settled
    abbrev pub Settles : Type 0
    Settles = IsSomeAnd s.store.held.collection (λ c. (pair : Image) × IsSettledAs b c.job.attempt pair)

    -- of what the sweep was to remove all is gone but so many files
    abbrev pub Remains : Type 0
    Remains = AllBut (sweeping.IsSwept store.held.slot s.store.held.unswept) store.met.left b b

    left_is : store.met.left ≡ met.left
    left_is = ap (λ (m : Met). m.left) (sym is_met)

    -- no sweep was made
    unswept_by : (command : Command) (reply : Reply) (Swept : Type 0) → ¬ IsSwept reply → KeepsClear s.store.held store.held a b × ClearsAll Swept store.met.left s.store.held store.held a b → store.held.unswept ≡ s.store.held.unswept → Clears command reply
    unswept_by command reply Swept not clear same = record {
      keeps = clear.0;
      all = λ sweeps. absurd (sweeps_never command reply not sweeps);
      unswept = λ _. same;
      behind = λ sweeps. absurd (sweeps_never command reply not sweeps);
      all_but = λ sweeps. absurd (sweeps_never command reply not sweeps);
      settled = λ sweeps. absurd (sweeps_never command reply not sweeps);
    }

    -- one was
    swept_by : (command : Command) (reply : Reply) (Swept : Type 0) → MayReap command → IsSwept reply → Swept → KeepsClear s.store.held store.held a b × ClearsAll Swept store.met.left s.store.held store.held a b
        → store.held.unswept ≡ unswept_behind store.met.left store.held.slot s.store.held.unswept → Settles → Remains → Clears command reply
    swept_by command reply Swept may is swept clear behind settled remains = record {
      keeps = clear.0;
      all = λ sweeps none. clear.1 swept (left_is ∙ none);
      unswept = λ not. absurd (not (sweeps_it command reply may is));
      behind = λ sweeps. behind ∙ ap (λ (k : ℕ). unswept_behind k store.held.slot s.store.held.unswept) left_is;
      all_but = λ sweeps. subst (λ (k : ℕ). AllBut (sweeping.IsSwept store.held.slot s.store.held.unswept) k b b) left_is remains;
      settled = λ sweeps. settled;
    }

    -- the reply tells whether a sweep was made
    pub finish_clear : (command : Command) (looked : Result Looked FinishFault) → MayReap command → (HasAnswer looked → KeepsClear s.store.held store.held a b × ClearsAll (IsSweptBehind looked) store.met.left s.store.held store.held a b)
        → store.held.unswept ≡ finish.unswept_by looked store.met.left store.held.slot s.store.held.unswept → (IsSweptBehind looked → Settles) → (IsSweptBehind looked → Remains) → IfOk (look_answer looked) (Clears command)
    finish_clear command looked may clear behind settled remains = by looked clear behind settled remains
      where
        by : (looked : Result Looked FinishFault) → (HasAnswer looked → KeepsClear s.store.held store.held a b × ClearsAll (IsSweptBehind looked) store.met.left s.store.held store.held a b)
            → store.held.unswept ≡ finish.unswept_by looked store.met.left store.held.slot s.store.held.unswept → (IsSweptBehind looked → Settles) → (IsSweptBehind looked → Remains) → IfOk (look_answer looked) (Clears command)
        by (Ok Looked.Running) clear behind settled remains = unswept_by command Reply.Running ⊥ (λ none. none) (clear tt) behind
        by (Ok (Looked.Checking left)) clear behind settled remains = unswept_by command (Reply.Checking left) ⊥ (λ none. none) (clear tt) behind
        by (Ok (Looked.Collected collected)) clear behind settled remains = swept_by command (Reply.Collected collected.floor collected.left) (Unit {0}) may tt tt (clear tt) behind (settled tt) (remains tt)
        by (Err FinishFault.Idle) clear behind settled remains = unswept_by command Reply.Idle ⊥ (λ none. none) (clear tt) behind
        by (Err FinishFault.Wait) clear behind settled remains = unswept_by command Reply.WaitFault ⊥ (λ none. none) (clear tt) behind
        by (Err (FinishFault.Rejected (Rejection.Exit exit))) clear behind settled remains = swept_by command (Reply.RejectedExit exit) (Unit {0}) may tt tt (clear tt) behind (settled tt) (remains tt)
        by (Err (FinishFault.Rejected (Rejection.Differs difference))) clear behind settled remains = swept_by command (Reply.Rejected difference) (Unit {0}) may tt tt (clear tt) behind (settled tt) (remains tt)
        by (Err (FinishFault.Limit limit)) clear behind settled remains = unswept_by command (Reply.Limit limit) ⊥ (λ none. none) (clear tt) behind
        by (Err FinishFault.Memory) clear behind settled remains = unswept_by command Reply.Memory ⊥ (λ none. none) (clear tt) behind
        by (Err FinishFault.Ground) clear behind settled remains = tt
        by (Err (FinishFault.Damaged at)) clear behind settled remains = tt

    pub cancel_clear : (done : Result Cancelled CancelFault) → (¬ IsErrOf done CancelFault.Ground → KeepsClear s.store.held store.held a b × ClearsAll (done ≡ Ok Cancelled.Done) store.met.left s.store.held store.held a b)
        → store.held.slot ≡ s.store.held.slot → store.held.unswept ≡ unswept_after done store.met.left s.store.held.slot s.store.held.unswept → (done ≡ Ok Cancelled.Done → Settles) → (done ≡ Ok Cancelled.Done → Remains) → IfOk (cancel_answer done) (Clears Command.Cancel)
    cancel_clear (Ok Cancelled.Done) clear slot_is behind settled remains = swept_by Command.Cancel Reply.Cancelled _ tt tt refl (clear (λ fault. absurd (cc fault)))
        (behind ∙ ap (λ (t : Slot). unswept_behind store.met.left t s.store.held.unswept) (sym slot_is)) (settled refl) (remains refl)
    cancel_clear (Ok Cancelled.Orphan) clear slot_is behind settled remains = unswept_by Command.Cancel Reply.CancelledOrphan _ (λ none. none) (clear (λ fault. absurd (cc fault))) behind
    cancel_clear (Err CancelFault.Idle) clear slot_is behind settled remains = unswept_by Command.Cancel Reply.Idle _ (λ none. none) (clear (λ fault. absurd (cc fault))) behind
    cancel_clear (Err CancelFault.Ground) clear slot_is behind settled remains = tt

-- one that was given up, whether its exit had been kept or not
pub cancel_settles : (a b : Told) (slot : Slot) (records : Records) (r : Repository) (c : Collection) (done : Result Cancelled CancelFault) (u : Unswept) (left : ℕ) (store : Held) → Collects a slot records r c → Cancels r c done u left store a b → done ≡ Ok Cancelled.Done → (pair : Image) × IsSettledAs b c.job.attempt pair
cancel_settles a b slot records r c done u left store is M over = by c.exit is.child
  where
    by : (exit : Option Reaped) → IsOfChild a records c exit → (pair : Image) × IsSettledAs b c.job.attempt pair
    by None child = M.settled over child
    by (Some reaped) ended = (ended.pair, M.stays ended.pair ended.settled)

-- what is so of the one that runs
pub if_there : (P : Collection → Type 0) (o : Option Collection) (c : Collection) → o ≡ Some c → IfSome o P → P c
if_there P o c is all = subst (λ (o : Option Collection). IfSome o P) is all

-- one that was given up ran
pub cancel_runs : (P : Collection → Type 0) (store : Held) (done : Result Cancelled CancelFault) → (store.collection ≡ None) ↔ IsErrOf done CancelFault.Idle → done ≡ Ok Cancelled.Done → ((c : Collection) → store.collection ≡ Some c → P c) → IsSomeAnd store.collection P
cancel_runs P store done either over each = by store.collection refl
  where
    by : (o : Option Collection) → store.collection ≡ o → IsSomeAnd o P
    by None is = absurd (cc (sym over ∙ either.0 is))
    by (Some c) is = each c is

-- what is so because one ran
pub cancel_ran : (A : Type 0) (store : Held) (done : Result Cancelled CancelFault) → (store.collection ≡ None) ↔ IsErrOf done CancelFault.Idle → done ≡ Ok Cancelled.Done → ((c : Collection) → store.collection ≡ Some c → A) → A
cancel_ran A store done either over each = by store.collection refl
  where
    by : (o : Option Collection) → store.collection ≡ o → A
    by None is = absurd (cc (sym over ∙ either.0 is))
    by (Some c) is = each c is

-- ---- lines

pub lined_clear : (a b : Told) (s s' : Session) (met : Met) (command : Command) (line : Bytes) (result : Result Reply SessionEnd) → IsLineOf command line → ((other : Command) → IsLineOf other line → other ≡ command)
    → IfOk result (λ reply. ClearBy (SweepsBehind command reply) a b (record s { met = met }) s') → IfOk result (ClearIn a b s s' line)
lined_clear a b s s' met command line (Ok reply) served one clear = record {
  keeps = clear.keeps;
  all = λ (other, spelled, sweeps). clear.all (subst (λ (c : Command). SweepsBehind c reply) (one other spelled) sweeps);
  unswept = λ not. clear.unswept (λ sweeps. not (command, served, sweeps));
  behind = λ (other, spelled, sweeps). clear.behind (subst (λ (c : Command). SweepsBehind c reply) (one other spelled) sweeps);
  all_but = λ (other, spelled, sweeps). clear.all_but (subst (λ (c : Command). SweepsBehind c reply) (one other spelled) sweeps);
  settled = λ (other, spelled, sweeps). clear.settled (subst (λ (c : Command). SweepsBehind c reply) (one other spelled) sweeps);
}
lined_clear a b s s' met command line (Err end) served one clear = tt

pub quiet_clear : (a b : Told) (s s' : Session) (line : Bytes) (reply : Reply) → ¬ IsSwept reply → KeepsClear s.store.held s'.store.held a b → s'.store.held.unswept ≡ s.store.held.unswept → ClearIn a b s s' line reply
quiet_clear a b s s' line reply not keeps same = record {
  keeps = keeps;
  all = λ (command, spelled, sweeps). absurd (sweeps_never command reply not sweeps);
  unswept = λ _. same;
  behind = λ (command, spelled, sweeps). absurd (sweeps_never command reply not sweeps);
  all_but = λ (command, spelled, sweeps). absurd (sweeps_never command reply not sweeps);
  settled = λ (command, spelled, sweeps). absurd (sweeps_never command reply not sweeps);
}

-- what was unswept is so still, where no sweep was made
pub clear_same : (a b : Told) (s s' : Session) (line : Bytes) (reply : Reply) → ¬ IsSwept reply → ClearIn a b s s' line reply → s'.store.held.unswept ≡ s.store.held.unswept
clear_same a b s s' line reply not clear = clear.unswept (λ (command, spelled, sweeps). sweeps_never command reply not sweeps)
