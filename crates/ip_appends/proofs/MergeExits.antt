-- What a merge answers where nothing was merged, and where the branch moved on.
--     slot_still      the slot where no file was changed.      goes_itself      who goes on from commits of a repository goes on from them in it
--     into      what is promised of some repositories is promised of each that is one of them
--     looked_value, looked_fault      the store only looked, and did nothing or failed
--     join_failed, join_limits, join_undamaged, conflict      the trees were not merged
--     forward_into      the branch moved on
use Rattle.std.proofs.Common.{◌≡◌, ℕ, ◌+◌, ◌^◌, ◌<◌, ◌≤◌, Bool, false, [], ◌∷◌, length, Option, Some, None, inl, refl, sym, ◌∙◌, ap, subst, append-nil}
use Rattle.std.specs.Prelude.{Result, Ok, Err, OnOk, IfSome, IsErrOf, IsSome, IsTrue}
use Rattle.ip_base.specs.declared.info.Info.{Info}
use Rattle.ip_base.specs.declared.limit.Limit.{Limit}
use Rattle.ip_ground.specs.declared.names.FileName.TheVariants.{Control}
use Rattle.ip_ground.specs.Told.{Told, NoFile, ChangesOnly}
use Rattle.ip_image.specs.Appending.{bytes_of_records}
use Rattle.ip_image.proofs.HeadlineLaws.{one_slot}
use Rattle.ip_merge.specs.Rules.{IsDecisive}
use Rattle.ip_spec.specs.declared.met.Met.{Met}
use Rattle.ip_spec.specs.declared.record.Record.{Record}
use Rattle.ip_spec.specs.declared.reply.Reply.{Reply}
use Rattle.ip_spec.specs.Machine.{Phase}
use Rattle.ip_spec.specs.Merge.{Rule, conflict_at}
use Rattle.ip_spec.specs.Path.{Bytes, Path}
use Rattle.ip_spec.specs.Record.{spelling, spelling_of}
use Rattle.ip_spec.specs.Repository.{Repository, head, is_retained, name_at}
use Rattle.ip_spec.specs.Step.{with_branch}
use Rattle.ip_spec.specs.TreeAt.{Records}
use Rattle.ip_held.specs.declared.fault.StoreFault.{StoreFault}
use Rattle.ip_appends.specs.declared.merging.Merge.{Merge}
use Rattle.ip_appends.specs.declared.merging.Sides.{Sides}
use Rattle.ip_held.specs.declared.held.Held.{Held}
use Rattle.ip_held.specs.Causes.{IsStoreCause}
use Rattle.ip_held.specs.Changes.{Changes, Appends, HasAnswer, IsUndamaged, LimitsSpace}
use Rattle.ip_held.specs.Clear.{KeepsClear}
use Rattle.ip_held.specs.Collecting.{phase_of}
use Rattle.ip_held.specs.Answers.{fault_reply, met_by, met_nothing, met_of}
use Rattle.ip_appends.specs.Merging.{merge_reply, IsTurn, GoesOnFrom, AnswersMerge, MergeAppends, AppendsMerge, LimitsMerge, IsUnmoved, IsForward, IsForwarded, IsJoin, IsOutcome, IsJoined, Forwards, MergesInto, MergesWhere, NeedsFiles, StoreLooks, moves}
use Rattle.ip_appends.specs.Naming.{HasRoomFor}
use Rattle.ip_held.specs.Held.{IsOf, Holds, SameTables, image_records}
use Rattle.ip_held.specs.Trees.{OnlyLooks}
use Rattle.ip_appends.proofs.Beside.{beside_looked}
use Rattle.ip_appends.proofs.JoinedTrees.{within_long, within_wide}
use Rattle.ip_appends.proofs.MergeTurns.{IsQuiet, some_turn, turn_memory, turn_forward, forward_space, forward_sequence, turn_conflict, refused_tree}
use Rattle.ip_held.proofs.Causing.{undamaged_causes}
use Rattle.ip_held.proofs.Clearing.{looked_clear}
use Rattle.ip_held.proofs.Recovering.{held_has}
use Rattle.ip_held.proofs.Stepping.{same_tables}
use Rattle.ip_held.proofs.Taking.{looked_took, looked_grew, looked_still_took, looked_still_grew}

pub slot_still : (store store' : Held) (r q : Repository) (a b : Told) → Holds store a r → Holds store' b q → ChangesOnly NoFile a b → store'.slot ≡ store.slot
slot_still store store' r q a b before after only =
    let live = held_has store' q b after in
    one_slot store'.slot store.slot a.held (record { control = live.control; index = live.index; held = sym ((only.others Control (λ none. none)).held (λ x. x)) ∙ live.held; live = live.live }) (held_has store r a before)

pub goes_itself : (r : Repository) (store : Held) → IsOf store r → GoesOnFrom r store r
goes_itself r store of = record { tables = of; parents = λ least ns are. are }

module _ (tells : Bool) (rule : Rule) (number : ℕ) (branch : Bytes) (info : Info) (Is : Repository → Type 0) where
  pub into : (result : Result Merge StoreFault) (store now : Held) (a b : Told) → ((r : Repository) → IsOf store r → IsTrue (is_retained r number) → Is r) → ((r : Repository) → IsOf store r → IsTrue (is_retained r number) → ¬ HasAnswer result → NeedsFiles r (phase_of store.collection) number branch)
      → ((r : Repository) → IsOf store r → IsErrOf result StoreFault.Memory → IsSome (head r branch)) → ((r : Repository) → IsOf store r → IsForward r branch number → IsErrOf result StoreFault.Ground → HasRoomFor (Record.BranchSet number branch) store) → MergesWhere Is tells rule number branch info result store now a b → MergesInto tells rule number branch info result store now a b
  into result store now a b is begun wanted room all = record {
    tables = λ r of here has. all.tables r of (is r of here) has;
    same_collection = all.same_collection;
    unswept = all.unswept;
    grew = all.grew;
    merges = λ told decides r held here. all.merges told decides r held (is r held.tables here);
    causes = all.causes;
    untouched = all.untouched;
    beside = all.beside;
    clear = all.clear;
    begun = begun;
    wanted = wanted;
    room = room;
  }

  -- ---- where the store only looked

  module _ (store mid : Held) (a b : Told) (looked : StoreLooks tells store mid a b) where
    abbrev phase : Phase
    phase = phase_of store.collection

    abbrev same : SameTables store mid
    same = looked.same

    abbrev looks : IsTrue tells → OnlyLooks a b store mid
    looks = looked.looks

    clear_mid : IsTrue tells → KeepsClear store mid a b
    clear_mid told = looked_clear store mid a b same.slot same.unswept (looks told).reads.only

    -- who answers so leaves the repository as it is
    abbrev Quiet : Repository → Merge → Type 0
    Quiet r x = (reply : Reply) × (merge_reply branch (Ok x) ≡ Some reply) × IsQuiet rule r phase number branch info reply r

    unmoved : (r : Repository) → Holds mid b r → (met : Met) (reply : Reply) → IsTurn rule r phase number branch info met reply r → AnswersMerge rule b r phase number branch info met reply mid
    unmoved r now met reply turns = record { after = r; turns = turns; floor = refl; stays = λ still. refl; holds = now; goes_on = goes_itself r mid now.tables }

    none_appended : (records : ℕ → Option Record) (r : Repository) (x : Merge) → moves x ≡ false → AppendsMerge rule records r number branch info (Ok x) store mid a b
    none_appended records r (Merge.Merged name) still = absurd (cc (still))
    none_appended records r (Merge.Forward name) still = absurd (cc (still))
    none_appended records r (Merge.Current name) still = λ has. same.slot
    none_appended records r Merge.NoBranch still = λ has. same.slot
    none_appended records r (Merge.Bases count) still = λ has. same.slot
    none_appended records r (Merge.Conflict path) still = λ has. same.slot

    pub looked_value : (x : Merge) → moves x ≡ false → (IsTrue tells → IsDecisive rule → (r : Repository) → Holds store a r → Is r → Quiet r x) → MergesWhere Is tells rule number branch info (Ok x) store mid a b
    looked_value x still turns = record {
      tables = λ r of is has. (r, goes_itself r mid (same_tables store mid same r of));
      same_collection = same.collection;
      unswept = same.unswept;
      grew = λ told r held. looked_still_grew moves x still same (looks told) held;
      merges = λ told decides r held is.
          let (reply, replies, quiet) = turns told decides r held is in
          record {
            answered = subst (λ (o : Option Reply). IfSome o (λ reply. AnswersMerge rule b r phase number branch info met_nothing reply mid)) (sym replies) (unmoved r ((looks told).holds r held) met_nothing reply quiet.turns);
            appends = none_appended (image_records held) r x still;
            limits = tt;
            any_moment = record {
              after = r;
              reply = reply;
              more = [];
              turns = quiet.turns;
              replies = replies;
              floor = refl;
              stays = λ still. refl;
              took = looked_still_took moves x still same (looks told) held [];
              unmoved = λ un. (looks told).reads.only;
            };
            undamaged = tt;
          };
      causes = tt;
      untouched = λ told is other. absurd (cc is);
      beside = λ told. beside_looked a b (looks told).reads.only;
      clear = λ told has r held. clear_mid told;
    }

    -- what the machine refuses so
    pub record Refused (r : Repository) (held : Holds store a r) (fault : StoreFault) : Type 0 where
      pub turns : IfSome (fault_reply fault) (λ reply. IsTurn rule r phase number branch info (met_of fault) reply r)
      pub limits : LimitsMerge rule (image_records held) r number branch info (Err fault) store
      pub undamaged : IsUndamaged {A = Merge} (Err fault)

    pub looked_fault : (fault : StoreFault) → (IsTrue tells → IsDecisive rule → (r : Repository) (held : Holds store a r) → Is r → Refused r held fault) → IsStoreCause tells a store.space fault → MergesWhere Is tells rule number branch info (Err fault) store mid a b
    looked_fault fault turns cause = record {
      tables = λ r of is has. (r, goes_itself r mid (same_tables store mid same r of));
      same_collection = same.collection;
      unswept = same.unswept;
      grew = λ told r held. looked_grew moves fault same (looks told) held;
      merges = λ told decides r held is.
          let refused = turns told decides r held is in
          let some = some_turn rule r phase number branch info decides in
          record {
            answered = each (fault_reply fault) r ((looks told).holds r held) (met_of fault) refused.turns;
            appends = λ has. same.slot;
            limits = refused.limits;
            any_moment = record {
              after = some.after;
              reply = some.reply;
              more = [];
              turns = some.quiet.turns;
              replies = tt;
              floor = some.quiet.floor;
              stays = some.quiet.stays;
              took = looked_took moves fault same (looks told) held some.after [];
              unmoved = λ un. absurd un;
            };
            undamaged = refused.undamaged;
          };
      causes = cause;
      untouched = λ told is other. (looks told).reads.only;
      beside = λ told. beside_looked a b (looks told).reads.only;
      clear = λ told has r held. clear_mid told;
    }
      where
        each : (o : Option Reply) (r : Repository) → Holds mid b r → (met : Met) → IfSome o (λ reply. IsTurn rule r phase number branch info met reply r) → IfSome o (λ reply. AnswersMerge rule b r phase number branch info met reply mid)
        each None r now met turns = tt
        each (Some reply) r now met turns = unmoved r now met reply turns

-- ---- where the trees were not merged

module _ (rule : Rule) (r : Repository) (phase : Phase) (branch : Bytes) (info : Info) (sides : Sides) (is : IsJoin r phase branch sides) (records : ℕ → Option Record) where
  pub join_failed : (fault : StoreFault) → IsJoined rule records r sides (Err fault) → IfSome (fault_reply fault) (λ reply. IsTurn rule r phase sides.number branch info (met_of fault) reply r)
  join_failed (StoreFault.Limit Limit.Contents) (t, outcome, long) = refused_tree rule r phase sides.number branch info sides.head is.is_head is.apart.0 is.apart.1 is.staying sides.base is.least Limit.Contents t outcome (within_long t long)
  join_failed (StoreFault.Limit Limit.Entries) (t, outcome, short, wide) = refused_tree rule r phase sides.number branch info sides.head is.is_head is.apart.0 is.apart.1 is.staying sides.base is.least Limit.Entries t outcome (within_wide t short wide)
  join_failed (StoreFault.Limit _) outcome = absurd outcome
  join_failed StoreFault.Memory outcome = turn_memory rule r phase sides.number branch info
  join_failed StoreFault.Ground outcome = tt
  join_failed _ outcome = absurd outcome

  pub join_limits : (store : Held) (fault : StoreFault) → IsJoined rule records r sides (Err fault) → LimitsMerge rule records r sides.number branch info (Err fault) store
  join_limits store (StoreFault.Limit Limit.Space) outcome = absurd outcome
  join_limits store (StoreFault.Limit Limit.Sequence) outcome = absurd outcome
  join_limits store (StoreFault.Limit _) outcome = tt
  join_limits store _ outcome = tt

  pub join_undamaged : (fault : StoreFault) → IsJoined rule records r sides (Err fault) → IsUndamaged {A = Merge} (Err fault)
  join_undamaged (StoreFault.Damaged at names) outcome = outcome
  join_undamaged _ outcome = tt

  pub conflict : (path : Path) → IsOutcome rule r sides (conflict_at path) → IsQuiet rule r phase sides.number branch info (Reply.Conflict path) r
  conflict path outcome = turn_conflict rule r phase sides.number branch info sides.head is.is_head is.apart.0 is.apart.1 is.staying sides.base is.least path outcome

-- ---- where the branch moves on

spelled_is : (at : ℕ) (x : Record) → length (spelling x) ≡ length (bytes_of_records ((at, x) ∷ []))
unfolding spelling_of
spelled_is at x = ap length (sym (append-nil (spelling x)))

module _ (rule : Rule) (r : Repository) (phase : Phase) (number : ℕ) (branch : Bytes) (info : Info) (forward : IsForward r branch number) where
  abbrev moved : Repository
  moved = with_branch r branch number

  quiet : IsQuiet rule r phase number branch info (Reply.Forward (name_at r number)) moved
  quiet = turn_forward rule r phase number branch info forward.at forward.is_head forward.not_current forward.forward

  module _ (store now : Held) (a b : Told) where
    refused : (met : Met) (reply : Reply) → IsTurn rule r phase number branch info met reply r → Holds now b r → AnswersMerge rule b r phase number branch info met reply now
    refused met reply turns holds = record { after = r; turns = turns; floor = refl; stays = λ still. refl; holds = holds; goes_on = goes_itself r now holds.tables }

    forwarded : (result : Result Merge StoreFault) → IsForwarded r number result → Changes r moved result now a b → IfSome (merge_reply branch result) (λ reply. AnswersMerge rule b r phase number branch info (met_by result) reply now)
    forwarded (Ok (Merge.Forward name)) is does =
        subst (λ h. AnswersMerge rule b r phase number branch info met_nothing (Reply.Forward h) now) (sym is) (record {
          after = moved;
          turns = quiet.turns;
          floor = quiet.floor;
          stays = quiet.stays;
          holds = does.ok;
          goes_on = record { tables = does.ok.tables; parents = λ least ns are. record { made = are.made; above = are.above; distinct = are.distinct; few = are.few } };
        })
    forwarded (Ok _) is does = absurd is
    forwarded (Err (StoreFault.Limit Limit.Space)) is does =
        refused (met_of (StoreFault.Limit Limit.Space)) (Reply.Limit Limit.Space) (forward_space rule r phase number branch info forward.at forward.is_head forward.not_current forward.forward) (does.refused (refl, tt)).1
    forwarded (Err (StoreFault.Limit Limit.Sequence)) is does =
        refused (met_of (StoreFault.Limit Limit.Sequence)) (Reply.Limit Limit.Sequence) (forward_sequence rule r phase number branch info forward.at forward.is_head forward.not_current forward.forward) (does.refused (refl, tt)).1
    forwarded (Err StoreFault.Memory) is does = refused (met_of StoreFault.Memory) Reply.Memory (turn_memory rule r phase number branch info) (does.refused (refl, tt)).1
    forwarded (Err StoreFault.Ground) is does = tt
    forwarded (Err _) is does = absurd is

    replies : (result : Result Merge StoreFault) → IsForwarded r number result → OnOk result (merge_reply branch result ≡ Some (Reply.Forward (name_at r number)))
    replies (Ok (Merge.Forward name)) is = ap (λ h. Some (Reply.Forward h)) is
    replies (Ok _) is = absurd is
    replies (Err fault) is = tt

    never : (result : Result Merge StoreFault) → IsForwarded r number result → ¬ IsUnmoved result
    never (Ok (Merge.Forward name)) is = λ h. h
    never (Ok _) is = absurd is
    never (Err fault) is = λ h. h

    abbrev more : Records
    more = (store.slot.end, Record.BranchSet number branch) ∷ []

    more_are : (records : ℕ → Option Record) → MergeAppends rule records r number branch info store.slot.end more 0
    more_are records = inl (record { at = forward.at; is_head = forward.is_head; not_current = forward.not_current; forward = forward.forward; are_records = refl; count = refl })

    abbrev end : ℕ
    end = store.slot.end + length (spelling (Record.BranchSet number branch))

    ends_there : end ≡ store.slot.end + length (bytes_of_records more)
    ends_there = ap (λ (n : ℕ). store.slot.end + n) (spelled_is store.slot.end (Record.BranchSet number branch))

    forward_limits : (records : ℕ → Option Record) (result : Result Merge StoreFault) → LimitsSpace end result store → LimitsMerge rule records r number branch info result store
    forward_limits records (Err (StoreFault.Limit Limit.Space)) limits = record { more = more; commits = 0; are = more_are records; short = subst (λ (n : ℕ). 2 ^ 62 < n) ends_there (limits.space refl) }
    forward_limits records (Err (StoreFault.Limit Limit.Sequence)) limits =
        let both = limits.sequence refl in
        record { more = more; commits = 0; are = more_are records; short = (subst (λ (n : ℕ). n ≤ 2 ^ 62) ends_there both.0, both.1) }
    forward_limits records (Err (StoreFault.Limit _)) limits = tt
    forward_limits records (Err _) limits = tt
    forward_limits records (Ok x) limits = tt

    forward_appends : (records : ℕ → Option Record) (result : Result Merge StoreFault) → IsForwarded r number result → Holds store a r → Changes r moved result now a b → LimitsSpace end result store → OnOk result (Appends more 0 store now a b) → AppendsMerge rule records r number branch info result store now a b
    forward_appends records (Ok (Merge.Forward name)) is held does limits appends = record {
      more = more;
      commits = 0;
      are = more_are records;
      appends = appends;
      room = subst (λ (n : ℕ). n ≤ 2 ^ 62) ends_there limits.enough.0;
      sequence = limits.enough.1;
    }
    forward_appends records (Ok _) is held does limits appends = absurd is
    forward_appends records (Err fault) is held does limits appends = λ has. let both = does.refused (refl, has) in slot_still store now r r a b held both.1 both.0

pub forward_into : (tells : Bool) (rule : Rule) (number : ℕ) (branch : Bytes) (info : Info) (result : Result Merge StoreFault) (store now : Held) (a b : Told) → Forwards tells number branch result store now a b → MergesWhere (λ r. IsForward r branch number) tells rule number branch info result store now a b
forward_into tells rule number branch info result store now a b forwards = record {
  tables = forwards.tables;
  same_collection = forwards.same_collection;
  unswept = forwards.unswept;
  grew = forwards.grew;
  merges = λ told decides r held is.
      let came = forwards.comes r held.tables is in
      let took = forwards.took told r held is in
      let quietly = quiet rule r (phase_of store.collection) number branch info is in
      record {
        answered = forwarded rule r (phase_of store.collection) number branch info is store now a b result came took.changes;
        appends = forward_appends rule r (phase_of store.collection) number branch info is store now a b (image_records held) result came held took.changes forwards.limits (forwards.appends told);
        limits = forward_limits rule r (phase_of store.collection) number branch info is store now a b (image_records held) result forwards.limits;
        any_moment = record {
          after = with_branch r branch number;
          reply = Reply.Forward (name_at r number);
          more = (store.slot.end, Record.BranchSet number branch) ∷ [];
          turns = quietly.turns;
          replies = replies rule r (phase_of store.collection) number branch info is store now a b result came;
          floor = quietly.floor;
          stays = quietly.stays;
          took = took;
          unmoved = λ un. absurd (never rule r (phase_of store.collection) number branch info is store now a b result came un);
        };
        undamaged = forwards.undamaged;
      };
  causes = undamaged_causes tells a store.space result forwards.undamaged;
  untouched = forwards.untouched;
  beside = forwards.beside;
  clear = forwards.clear;
}
