-- Where the records of a command come to lie.
--     same_slot      the live slot of a control file that nothing changed
--     commit_placed, set_placed, remove_placed      what the store says of its calls.      unnamed_placed      no commit has the name that was given
--     read_placed      a command that may only read
--     lined_placed      the line that spells a command.      quiet_placed      a line with a reply of none
use Rattle.std.proofs.Common.{◌≡◌, ◌≢◌, ℕ, ◌+◌, ◌^◌, ◌<◌, ◌≤◌, Bool, true, false, [], ◌∷◌, refl, sym, ap, ◌∙◌, subst, arith, length, length-append, Ok, Err, Some, IsTrue}
use Rattle.std.specs.Prelude.{List, Option, Result, All, OnOk, IfOk, IfSome}
use Rattle.ip_base.specs.declared.info.Info.{Info}
use Rattle.ip_ground.specs.declared.names.FileName.TheVariants.{Control}
use Rattle.ip_ground.specs.Told.{Told, NoFile, ChangesOnly}
use Rattle.ip_spec.specs.declared.command.Command.{Command}
use Rattle.ip_spec.specs.declared.command.Target.{Target}
use Rattle.ip_spec.specs.declared.record.Record.{Record}
use Rattle.ip_spec.specs.declared.reply.Reply.{Reply}
use Rattle.ip_spec.specs.Batch.{AreEndToEnd, reusing_sources}
use Rattle.ip_spec.specs.Machine.{State, Limit}
use Rattle.ip_spec.specs.Merge.{Rule}
use Rattle.ip_spec.specs.Path.{Bytes}
use Rattle.ip_spec.specs.Record.{Hash, spelling, spelling_of}
use Rattle.ip_spec.specs.Repository.{Repository, is_retained}
use Rattle.ip_spec.specs.Step.{resolve, with_branch}
use Rattle.ip_spec.specs.TreeAt.{Records}
use Rattle.ip_spec.specs.View.{View}
use Rattle.ip_spec.proofs.BatchLaws.{batch_lies}
use Rattle.ip_spec.specs.Line.{IsLineOf}
use Rattle.ip_image.specs.declared.slot.Slot.{Slot}
use Rattle.ip_image.specs.Appending.{fields_of, bytes_of_records}
use Rattle.ip_image.proofs.HeadlineLaws.{one_slot}
use Rattle.ip_image.proofs.Renaming.{spelled_is}
use Rattle.ip_held.specs.declared.collection.Unswept.{Unswept}
use Rattle.ip_held.specs.declared.fault.StoreFault.{StoreFault}
use Rattle.ip_held.specs.declared.held.Held.{Held}
use Rattle.ip_held.specs.declared.work.Work.{Work}
use Rattle.ip_held.specs.Changes.{Changes, LimitsSpace, Appends, next_slot}
use Rattle.ip_held.specs.Collecting.{phase_of, carrying, carried}
use Rattle.ip_held.specs.Answers.{fault_reply, reply_to, first_parent, first_view, Answers}
use Rattle.ip_appends.specs.Commits.{records_of, end_of, repository_after}
use Rattle.ip_appends.specs.Naming.{branch_reply, removed_reply, without_branch}
use Rattle.ip_held.specs.Held.{Holds, image_records}
use Rattle.ip_held.specs.Work.{session, work_at}
use Rattle.ip_appends.proofs.FirstTree.{first_stored}
use Rattle.ip_held.proofs.Phases.{retained_parents}
use Rattle.ip_held.proofs.Recovering.{held_has}
use Rattle.ip_session.specs.declared.session.Session.{Session}
use Rattle.ip_session.specs.declared.session.SessionEnd.{SessionEnd}
use Rattle.ip_session.specs.Asking.{MayReap}
use Rattle.ip_session.specs.Session.{unasked, IsWorking, state_in, is_durable, IsDurable, HasRead}
use Rattle.ip_session.specs.Placing.{HasCollected, IsFirst, named_record, appended, slot_behind, AttemptsLeft, IsAppended, OfRecords, PlacedBy, PlacedIn}
use Rattle.ip_session.proofs.Referring.{IsUnnamed, NamesNone, names_none}
use Rattle.ip_session.proofs.Committing.{IsPast, commit_there}
use Rattle.ip_session.proofs.DurableGoes.{answered}
use Rattle.ip_session.proofs.Changing.{none_durable}
use Rattle.ip_store.specs.declared.store.Store.{Store}

pub same_slot : (store store' : Held) (r q : Repository) (a b : Told) → Holds store a r → Holds store' b q → b.held Control ≡ a.held Control → store'.slot ≡ store.slot
same_slot store store' r q a b before after same =
    let live = held_has store' q b after in
    one_slot store'.slot store.slot a.held (record { control = live.control; index = live.index; held = sym same ∙ live.held; live = live.live }) (held_has store r a before)

-- no call changed a file
pub still_slot : (store store' : Held) (r q : Repository) (a b : Told) → Holds store a r → Holds store' b q → ChangesOnly NoFile a b → store'.slot ≡ store.slot
still_slot store store' r q a b before after only = same_slot store store' r q a b before after ((only.others Control (λ none. none)).held (λ x. x))

-- a batch is as long as from its begin to its end
lie_long : (from : ℕ) (xs : Records) (to : ℕ) → AreEndToEnd from xs to → to ≡ from + length (bytes_of_records xs)
unfolding spelling_of
lie_long from [] to lies = (let e : to ≡ from + 0 = omega (arith, lies) in e)
lie_long from (x ∷ xs) to (at, lies) =
    let rest = lie_long (from + length (spelling x.1)) xs to lies in
    omega (arith, rest, length-append (spelling x.1) (bytes_of_records xs))

abbrev length_of : Slot → State → Command → ℕ
length_of slot s command = length (bytes_of_records (appended slot s command))

of_these : (records : ℕ → Option Record) (slot : Slot) (s : State) (v : View) (command : Command) (more : Records) (commits : ℕ) (Says : (length commits : ℕ) → Type 0) → IsAppended unasked records slot s v command more commits → Says (length (bytes_of_records more)) commits → OfRecords (IsAppended unasked records slot s v command) Says
of_these records slot s v command more commits Says are so = record { more = more; commits = commits; are = are; so = so }

-- a command that may reap a child appends no records
never_reaps : (command : Command) (reply : Reply) → MayReap command → ¬ IsDurable reply command
never_reaps Command.Look reply may done = none_durable reply Command.Look refl done
never_reaps Command.Finish reply may done = none_durable reply Command.Finish refl done
never_reaps Command.Cancel reply may done = none_durable reply Command.Cancel refl done
never_reaps _ reply may done = absurd may

module _ (records : ℕ → Option Record) (slot : Slot) (u : Unswept) (slot' : Slot) (s : State) (v : View) (command : Command) (reply : Reply) where
  -- the store did it, by these records
  did : (more : Records) (commits : ℕ) → IsAppended unasked records slot s v command more commits → IsDurable reply command → ((l : Limit) → reply ≢ Reply.Limit l) → ((target : Target) → command ≢ Command.Collect target)
      → slot' ≡ slot_behind command (carrying slot u) (length (bytes_of_records more)) commits → (slot.end + length (bytes_of_records more) ≤ 2 ^ 62) × (slot.sequence < 2 ^ 62) → PlacedBy unasked records slot u slot' s v command reply
  did more commits are done none other slot_is enough = record {
    done = λ _. of_these records slot s v command more commits _ are (slot_is, enough.0, enough.1);
    quiet = λ quiet _. absurd (quiet done);
    collected = λ floor left may is. absurd (never_reaps command reply may done);
    ended = λ may limit. absurd (none Limit.Sequence limit);
    space = λ _ limit. absurd (none Limit.Space limit);
    sequence = λ _ limit. absurd (none Limit.Sequence limit);
    attempt = λ target is. absurd (other target is);
  }

  -- nothing was done, and no limit was met
  pub unmoved : (rule : Rule) → ¬ IsDurable reply command → ¬ HasCollected reply command → ((l : Limit) → reply ≢ Reply.Limit l) → ((target : Target) → command ≡ Command.Collect target → AttemptsLeft slot reply) → slot' ≡ slot → PlacedBy rule records slot u slot' s v command reply
  unmoved rule not over none left same = record {
    done = λ done. absurd (not done);
    quiet = λ quiet _. same;
    collected = λ floor left may is. absurd (over (subst (λ (x : Reply). HasCollected x command) (sym is) may));
    ended = λ may limit. absurd (none Limit.Sequence limit);
    space = λ _ limit. absurd (none Limit.Space limit);
    sequence = λ _ limit. absurd (none Limit.Sequence limit);
    attempt = left;
  }

-- the store refused it, by these records where a limit is met
refused : {A : Type 0} (records : ℕ → Option Record) (slot : Slot) (u : Unswept) (slot' : Slot) (s : State) (v : View) (command : Command) (more : Records) (commits : ℕ) (fault : StoreFault) (reply : Reply) (store : Held) → ((l : Limit) → reply ≡ Reply.Limit l → IsAppended unasked records slot s v command more commits)
    → ((target : Target) → command ≢ Command.Collect target) → ¬ MayReap command → fault_reply fault ≡ Some reply → store.slot ≡ slot → LimitsSpace {A = A} (slot.end + length (bytes_of_records more)) (Err fault) store → slot' ≡ slot → PlacedBy unasked records slot u slot' s v command reply
refused records slot u slot' s v command more commits (StoreFault.GivenUp number) reply store are other reaps e at limits same = let is : Reply.GivenUp number ≡ reply = cc e in subst (PlacedBy unasked records slot u slot' s v command) is (unmoved records slot u slot' s v command (Reply.GivenUp number) unasked (λ h. h) (λ h. h) (λ l is. absurd (cc is)) (λ target is. absurd (other target is)) same)
refused records slot u slot' s v command more commits (StoreFault.Leaving number) reply store are other reaps e at limits same = let is : Reply.Leaving number ≡ reply = cc e in subst (PlacedBy unasked records slot u slot' s v command) is (unmoved records slot u slot' s v command (Reply.Leaving number) unasked (λ h. h) (λ h. h) (λ l is. absurd (cc is)) (λ target is. absurd (other target is)) same)
refused records slot u slot' s v command more commits (StoreFault.HeadMoved name) reply store are other reaps e at limits same = let is : Reply.HeadMoved name ≡ reply = cc e in subst (PlacedBy unasked records slot u slot' s v command) is (unmoved records slot u slot' s v command (Reply.HeadMoved name) unasked (λ h. h) (λ h. h) (λ l is. absurd (cc is)) (λ target is. absurd (other target is)) same)
refused records slot u slot' s v command more commits (StoreFault.Existing name) reply store are other reaps e at limits same = let is : Reply.Existing name ≡ reply = cc e in subst (PlacedBy unasked records slot u slot' s v command) is (unmoved records slot u slot' s v command (Reply.Existing name) unasked (λ h. h) (λ h. h) (λ l is. absurd (cc is)) (λ target is. absurd (other target is)) same)
refused records slot u slot' s v command more commits (StoreFault.Limit limit) reply store are other reaps e at limits same =
    let is : Reply.Limit limit ≡ reply = cc e in
    subst (PlacedBy unasked records slot u slot' s v command) is (record {
      done = λ done. absurd done;
      quiet = λ quiet _. same;
      collected = λ floor left may is. absurd (cc is);
      ended = λ may is. absurd (reaps may);
      space = λ _ limit. of_these records slot s v command more commits _ (are Limit.Space (sym is ∙ limit)) (limits.space (cc limit));
      sequence = λ _ limit. let both = limits.sequence (cc limit) in of_these records slot s v command more commits _ (are Limit.Sequence (sym is ∙ limit)) (both.0, ap (λ (t : Slot). t.sequence) (sym at) ∙ both.1);
      attempt = λ target is. absurd (other target is);
    })
refused records slot u slot' s v command more commits StoreFault.Memory reply store are other reaps e at limits same = let is : Reply.Memory ≡ reply = cc e in subst (PlacedBy unasked records slot u slot' s v command) is (unmoved records slot u slot' s v command Reply.Memory unasked (λ h. h) (λ h. h) (λ l is. absurd (cc is)) (λ target is. absurd (other target is)) same)
refused records slot u slot' s v command more commits StoreFault.Ground reply store are other reaps e at limits same = absurd (cc e)
refused records slot u slot' s v command more commits (StoreFault.Damaged at_ names) reply store are other reaps e at limits same = absurd (cc e)

-- ---- the durable commands

-- the tree of the first parent, as its commit's record refers to it
first_is : (store : Held) (told : Told) (r : Repository) (held : Holds store told r) (parents : List ℕ) → All (λ n. IsTrue (is_retained r n)) parents → IsFirst r parents (first_view (image_records held) store r parents)
first_is store told r held [] all = refl
first_is store told r held (n ∷ parents) all = first_stored store told r held n parents all

module _ (a b : Told) (s : Session) (store : Store) (r : Repository) (v : View) (here : IsWorking a s r v) where
  abbrev At : Command → Reply → Type 0
  At command reply = PlacedBy unasked (image_records here.holds) s.store.held.slot s.store.held.unswept store.held.slot (state_in s r v) v command reply

  module _ (branch : Bytes) (info : Info) (work : Work) where
    abbrev committing : Command
    committing = Command.Commit branch info

    abbrev Machine : Reply → Type 0
    Machine reply = Answers b (session r (phase_of s.store.held.collection) s.work v) v committing store.met reply store.held work

    abbrev put : Records
    put = records_of r s.work v (first_parent here) branch info s.store.held

    abbrev put_end : ℕ
    put_end = end_of r s.work v (first_parent here) branch info s.store.held

    length_is : put_end ≡ s.store.held.slot.end + length (bytes_of_records put)
    length_is = lie_long s.store.held.slot.end put put_end (batch_lies v (reusing_sources v (first_parent here)) (fields_of r s.work.parents info branch) s.store.held.slot.end)

    -- its parents are there, so the store.held has the first one's tree
    are_put : (reply : Reply) → Machine reply → IsPast reply → IsAppended unasked (image_records here.holds) s.store.held.slot (state_in s r v) v committing put 1
    are_put reply A past =
        let there = commit_there r (phase_of s.store.held.collection) (work_at s.work v) branch info store.met reply (session A.after (phase_of s.store.held.collection) work A.view) A.turns past in
        (first_parent here, first_is s.store.held a r here.holds s.work.parents (retained_parents r s.work.least s.work.parents here.lawful.parents there), refl, refl)

    pub commit_placed : (made : Result Hash StoreFault) (reply : Reply) → reply_to made ≡ Some reply → IfSome (reply_to made) Machine → Changes r (repository_after r (phase_of s.store.held.collection) s.work v branch info) made store.held a b → LimitsSpace put_end made s.store.held
        → OnOk made (Appends put 1 s.store.held store.held a b) → At committing reply
    commit_placed (Ok name) reply e A does limits appends =
        let is : Reply.Committed name ≡ reply = cc e in
        subst (At committing) is (did (image_records here.holds) s.store.held.slot s.store.held.unswept store.held.slot (state_in s r v) v committing (Reply.Committed name) put 1 (are_put (Reply.Committed name) A tt) tt (λ l is. absurd (cc is)) (λ t is. absurd (cc is)) appends.slot
        (subst (λ (n : ℕ). n ≤ 2 ^ 62) length_is limits.enough.0, limits.enough.1))
    commit_placed (Err fault) reply e A does limits appends =
        let still = does.refused (refl, answered Hash fault reply e) in
        refused {A = Hash} (image_records here.holds) s.store.held.slot s.store.held.unswept store.held.slot (state_in s r v) v committing put 1 fault reply s.store.held (λ l limit. are_put reply (subst (λ (o : Option Reply). IfSome o Machine) e A) (subst IsPast (sym limit) tt)) (λ t is. absurd (cc is)) (λ may. may) e refl
        (subst (λ (n : ℕ). LimitsSpace {A = Hash} n (Err fault) s.store.held) length_is limits)
        (still_slot s.store.held store.held r r a b here.holds still.1 still.0)

  module _ (name : Bytes) (target : Target) (n : ℕ) (named : resolve r target ≡ Ok n) where
    abbrev setting : Command
    setting = Command.Branch name target

    set_length : length (spelling (Record.BranchSet n name)) ≡ length_of s.store.held.slot (state_in s r v) setting
    set_length = ap length (spelled_is s.store.held.slot.end (Record.BranchSet n name)) ∙ ap (λ (x : Result ℕ Reply). length (bytes_of_records (named_record s.store.held.slot.end name x))) (sym named)

    set_end : s.store.held.slot.end + length (spelling (Record.BranchSet n name)) ≡ s.store.held.slot.end + length_of s.store.held.slot (state_in s r v) setting
    set_end = ap (λ (k : ℕ). s.store.held.slot.end + k) set_length

    pub set_placed : (made : Result (Unit {0}) StoreFault) (reply : Reply) → branch_reply made ≡ Some reply → Changes r (with_branch r name n) made store.held a b → LimitsSpace (s.store.held.slot.end + length (spelling (Record.BranchSet n name))) made s.store.held
        → OnOk made (Appends ((s.store.held.slot.end, Record.BranchSet n name) ∷ []) 0 s.store.held store.held a b) → At setting reply
    set_placed (Ok u) reply e does limits appends =
        let is : Reply.Accepted ≡ reply = cc e in
        subst (At setting) is (did (image_records here.holds) s.store.held.slot s.store.held.unswept store.held.slot (state_in s r v) v setting Reply.Accepted (appended s.store.held.slot (state_in s r v) setting) 0 (refl, refl) tt (λ l is. absurd (cc is)) (λ t is. absurd (cc is))
        (appends.slot ∙ ap (λ (k : ℕ). next_slot (carried s.store.held) k 0) (sym (ap length (spelled_is s.store.held.slot.end (Record.BranchSet n name))) ∙ set_length))
        (subst (λ (k : ℕ). k ≤ 2 ^ 62) set_end limits.enough.0, limits.enough.1))
    set_placed (Err fault) reply e does limits appends =
        let still = does.refused (refl, answered (Unit {0}) fault reply e) in
        refused {A = Unit {0}} (image_records here.holds) s.store.held.slot s.store.held.unswept store.held.slot (state_in s r v) v setting (appended s.store.held.slot (state_in s r v) setting) 0 fault reply s.store.held (λ l limit. (refl, refl)) (λ t is. absurd (cc is)) (λ may. may) e refl
        (subst (λ (k : ℕ). LimitsSpace {A = Unit {0}} k (Err fault) s.store.held) set_end limits)
        (still_slot s.store.held store.held r r a b here.holds still.1 still.0)

  module _ (name : Bytes) where
    abbrev removing : Command
    removing = Command.BranchRm name

    remove_length : length (spelling (Record.BranchRemove name)) ≡ length_of s.store.held.slot (state_in s r v) removing
    remove_length = ap length (spelled_is s.store.held.slot.end (Record.BranchRemove name))

    remove_end : s.store.held.slot.end + length (spelling (Record.BranchRemove name)) ≡ s.store.held.slot.end + length_of s.store.held.slot (state_in s r v) removing
    remove_end = ap (λ (k : ℕ). s.store.held.slot.end + k) remove_length

    pub remove_placed : (made : Result Bool StoreFault) (reply : Reply) → removed_reply name made ≡ Some reply → Changes r (without_branch r name) made store.held a b
        → (made ≢ Ok false → LimitsSpace (s.store.held.slot.end + length (spelling (Record.BranchRemove name))) made s.store.held) → (made ≡ Ok false → b ≡ a)
        → (made ≡ Ok true → Appends ((s.store.held.slot.end, Record.BranchRemove name) ∷ []) 0 s.store.held store.held a b) → At removing reply
    remove_placed (Ok true) reply e does limits absent appends =
        let limits = limits (λ is. absurd (cc is)) in
        let is : Reply.Accepted ≡ reply = cc e in
        subst (At removing) is (did (image_records here.holds) s.store.held.slot s.store.held.unswept store.held.slot (state_in s r v) v removing Reply.Accepted (appended s.store.held.slot (state_in s r v) removing) 0 (refl, refl) tt (λ l is. absurd (cc is)) (λ t is. absurd (cc is)) (appends refl).slot
        (subst (λ (k : ℕ). k ≤ 2 ^ 62) remove_end limits.enough.0, limits.enough.1))
    remove_placed (Ok false) reply e does limits absent appends =
        let is : Reply.NoBranch name ≡ reply = cc e in
        subst (At removing) is (unmoved (image_records here.holds) s.store.held.slot s.store.held.unswept store.held.slot (state_in s r v) v removing (Reply.NoBranch name) unasked (λ h. h) (λ h. h) (λ l is. absurd (cc is)) (λ t is. absurd (cc is))
        (same_slot s.store.held store.held r (without_branch r name) a b here.holds does.ok (ap (λ (told : Told). told.held Control) (absent refl))))
    remove_placed (Err fault) reply e does limits absent appends =
        let still = does.refused (refl, answered Bool fault reply e) in
        refused {A = Bool} (image_records here.holds) s.store.held.slot s.store.held.unswept store.held.slot (state_in s r v) v removing (appended s.store.held.slot (state_in s r v) removing) 0 fault reply s.store.held (λ l limit. (refl, refl)) (λ t is. absurd (cc is)) (λ may. may) e refl
        (subst (λ (k : ℕ). LimitsSpace {A = Bool} k (Err fault) s.store.held) remove_end (limits (λ is. absurd (cc is))))
        (still_slot s.store.held store.held r r a b here.holds still.1 still.0)

pub unnamed_placed : (records : ℕ → Option Record) (slot : Slot) (u : Unswept) (s : State) (v : View) (name : Bytes) (target : Target) (reply : Reply) → resolve s.repository target ≡ Err reply → PlacedBy unasked records slot u slot s v (Command.Branch name target) reply
unnamed_placed records slot u s v name target reply is = by reply (subst NamesNone is (names_none s.repository target))
  where
    by : (reply : Reply) → IsUnnamed reply → PlacedBy unasked records slot u slot s v (Command.Branch name target) reply
    by (Reply.NoBranch other) un = unmoved records slot u slot s v (Command.Branch name target) (Reply.NoBranch other) unasked (λ h. h) (λ h. h) (λ l e. absurd (cc e)) (λ t e. absurd (cc e)) refl
    by (Reply.NoCommit hash) un = unmoved records slot u slot s v (Command.Branch name target) (Reply.NoCommit hash) unasked (λ h. h) (λ h. h) (λ l e. absurd (cc e)) (λ t e. absurd (cc e)) refl
    by _ un = absurd un

-- ---- the others

pub read_placed : (rule : Rule) (tells : Bool) (a b : Told) (s s' : Session) (command : Command) → IsTrue tells → (r : Repository) (v : View) (here : IsWorking a s r v) (result : Result Reply SessionEnd) → is_durable command ≡ false → ¬ MayReap command → HasRead tells a b s s' command result
    → IfOk result (PlacedBy rule (image_records here.holds) s.store.held.slot s.store.held.unswept s'.store.held.slot (state_in s r v) v command)
read_placed rule tells a b s s' command told r v here (Ok reply) quiet reaps has =
    let looks = has.looks told in
    record {
      done = λ done. absurd (none_durable reply command quiet done);
      quiet = λ not _. still_slot s.store.held s'.store.held r r a b here.holds (looks.holds r here.holds) looks.reads.only;
      collected = λ floor left may is. absurd (reaps may);
      ended = λ may is. absurd (reaps may);
      space = λ durable. absurd (cc (sym durable ∙ quiet));
      sequence = λ durable. absurd (cc (sym durable ∙ quiet));
      attempt = λ target is. absurd (cc (sym quiet ∙ ap is_durable is));
    }
read_placed rule tells a b s s' command told r v here (Err end) quiet reaps has = tt

-- ---- lines

pub lined_placed : (rule : Rule) (records : ℕ → Option Record) (slot : Slot) (u : Unswept) (slot' : Slot) (s : State) (v : View) (command : Command) (line : Bytes) (result : Result Reply SessionEnd) → IsLineOf command line → ((other : Command) → IsLineOf other line → other ≡ command)
    → IfOk result (PlacedBy rule records slot u slot' s v command) → IfOk result (PlacedIn rule records slot u slot' s v line)
lined_placed rule records slot u slot' s v command line (Ok reply) served one placed = record {
  command = λ other spelled. subst (λ (c : Command). PlacedBy rule records slot u slot' s v c reply) (sym (one other spelled)) placed;
  none = λ none. absurd (none command served);
}
lined_placed rule records slot u slot' s v command line (Err end) served one placed = tt

pub quiet_placed : (rule : Rule) (records : ℕ → Option Record) (slot : Slot) (u : Unswept) (slot' : Slot) (s : State) (v : View) (line : Bytes) (reply : Reply) → ((command : Command) → ¬ IsDurable reply command) → ((command : Command) → ¬ HasCollected reply command) → ((l : Limit) → reply ≢ Reply.Limit l) → AttemptsLeft slot reply → slot' ≡ slot → PlacedIn rule records slot u slot' s v line reply
quiet_placed rule records slot u slot' s v line reply not over none left same = record {
  command = λ command served. unmoved records slot u slot' s v command reply rule (not command) (over command) none (λ target is. left) same;
  none = λ _. same;
}
