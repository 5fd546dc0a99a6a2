-- What the calls on branches do, at each way out.
--     record_may      what the step of a record asks.      record_taken      what appending it does, by what taking the step did
--     record_limited, record_memory      where a limit was met, and where its bytes could not be taken
--     set_left, set_full, set_short, set_done      setting a branch: where a collection gives up the commit, where there is no room, where memory was refused, and where the record was appended
--     removed_none, removed_short, removed_cut, removed_done      taking one away: where there is none, where memory was refused, where the record was not appended, and where it was
use Rattle.std.proofs.Common.{◌≡◌, ◌≢◌, ℕ, ◌+◌, ◌<◌, ◌≤◌, Bool, true, false, [], ◌∷◌, length, Option, Some, None, refl, sym, ◌∙◌, ap, subst, arith}
use Rattle.std.specs.Prelude.{Result, Ok, Err, IfErr, IfSome, IsSome, IsSomeAnd, IsTrue, OnOk}
use Rattle.ip_base.specs.declared.limit.Limit.{Limit}
use Rattle.ip_base.specs.declared.limit.TheConstants.{OFFSET_MAX}
use Rattle.ip_ground.specs.Told.{Told, ChangesOnly}
use Rattle.ip_ground.proofs.Passing.{changes_nothing}
use Rattle.ip_ground.proofs.Spans.{only_nowhere}
use Rattle.ip_spec.specs.declared.record.Record.{Record}
use Rattle.ip_spec.specs.declared.reply.Reply.{Reply}
use Rattle.ip_spec.specs.Path.{Bytes}
use Rattle.ip_spec.specs.Record.{Fits, spelling}
use Rattle.ip_spec.specs.Repository.{Repository, head}
use Rattle.ip_spec.specs.Step.{refuse_if, room_for_branch, with_branch}
use Rattle.ip_spec.specs.TreeAt.{Records}
use Rattle.ip_image.specs.declared.slot.Slot.{Slot}
use Rattle.ip_image.specs.Appending.{MayName, renamed}
use Rattle.ip_image.specs.Standing.{IsServedKind}
use Rattle.ip_image.proofs.Renaming.{spelled_is}
use Rattle.ip_publish.specs.Publishing.{IsOfStore}
use Rattle.ip_held.specs.declared.fault.StoreFault.{StoreFault}
use Rattle.ip_held.specs.declared.held.Held.{Held}
use Rattle.ip_held.specs.declared.step.Entry.{Entry}
use Rattle.ip_held.specs.declared.step.Step.{Step}
use Rattle.ip_held.specs.Answers.{IsCut, IsLeaving, RefusesBy, fault_reply, met_of}
use Rattle.ip_held.specs.Changes.{Appends, HasAnswer, IsNextSlot, IsUndamaged, LimitsSpace, next_slot}
use Rattle.ip_held.specs.Clear.{KeepsClear}
use Rattle.ip_held.specs.Collecting.{IsAbove, carried, not_leaving_in, phase_of}
use Rattle.ip_held.specs.Held.{IsOf, Holds}
use Rattle.ip_held.specs.Step.{Grew, IsStep, MayTake, Took, entered}
use Rattle.ip_held.proofs.Machine.{each_reply}
use Rattle.ip_held.proofs.Renamed.{may_same, named_may, named_step, named_tables, slot_from}
use Rattle.ip_held.proofs.Room.{err_of}
use Rattle.ip_held.proofs.Taking.{fault_grew, fault_took, refused_grew, refused_took, still_grew, still_took, value_grew, value_took}
use Rattle.ip_held.proofs.Untouched.{taken_untouched}
use Rattle.ip_appends.specs.Naming.{AnswersSet, AppendsRecord, HasRoomFor, RemovesBranch, Renames, SetsBranch, branch_reply, without_branch}
use Rattle.ip_appends.proofs.BranchTurns.{absent_same, remove_cut, remove_done, remove_memory, remove_none, set_answers, set_leaving, set_may, set_memory, set_refused}

-- a fault that is no limit of the space
none_met : {A : Type 0} (end : ℕ) (fault : StoreFault) (store : Held) → fault ≢ StoreFault.Limit Limit.Space → fault ≢ StoreFault.Limit Limit.Sequence → LimitsSpace {A = A} end (Err fault) store
none_met end fault store space sequence = record { space = λ e. absurd (space (cc e)); sequence = λ e. absurd (sequence (cc e)); enough = tt }

-- ---- a record

module _ (tells : Bool) (x : Record) (store : Held) (told : Told) where
  record_undone : (fault : StoreFault) → fault ≢ StoreFault.Ground → ((r : Repository) → IsOf store r → Renames r x (Err fault) store) → LimitsSpace {A = Unit {0}} (store.slot.end + length (spelling x)) (Err fault) store → IsUndamaged {A = Unit {0}} (Err fault) → AppendsRecord tells x (Err fault) store store told told
  record_undone fault ground tables limits undamaged = record {
    tables = λ r of may. tables r of;
    same_collection = refl;
    unswept = refl;
    limits = limits;
    room = λ e. absurd (ground (cc e));
    appends = λ tells. tt;
    grew = λ tells r held. refused_grew (λ done. true) fault held;
    took = λ tells r held may. refused_took (λ done. true) fault held (renamed r x) ((store.slot.end, x) ∷ []);
    untouched = λ tells is other. changes_nothing told;
    beside = λ tells. only_nowhere told IsOfStore;
    clear = λ tells has r held clear. clear;
    undamaged = undamaged;
  }

  pub record_memory : AppendsRecord tells x (Err StoreFault.Memory) store store told told
  record_memory = record_undone StoreFault.Memory (λ e. cc e) (λ r of. of) (none_met (store.slot.end + length (spelling x)) StoreFault.Memory store (λ e. cc e) (λ e. cc e)) tt

  pub record_limited : (fault : StoreFault) (n : ℕ) → n ≡ length (spelling x) → (r : Repository) → IsOf store r → IsNextSlot (carried store) n 0 (Err fault) → AppendsRecord tells x (Err fault) store store told told
  record_limited (StoreFault.Limit Limit.Space) n is q known over = record_undone (StoreFault.Limit Limit.Space) (λ e. cc e) (λ r of. of)
      (record { space = λ e. subst (λ (k : ℕ). OFFSET_MAX < store.slot.end + k) is over; sequence = λ e. absurd (cc e); enough = tt }) tt
  record_limited (StoreFault.Limit Limit.Sequence) n is q known (small, last) = record_undone (StoreFault.Limit Limit.Sequence) (λ e. cc e) (λ r of. of)
      (record { space = λ e. absurd (cc e); sequence = λ e. (subst (λ (k : ℕ). store.slot.end + k ≤ OFFSET_MAX) is small, (let high = known.slot.sequence_high in omega (arith, high, last))); enough = tt }) tt
  record_limited (StoreFault.Limit _) n is q known over = absurd over
  record_limited _ n is q known over = absurd over

module _ (tells : Bool) (x : Record) (fits : Fits 1 x) (served : IsServedKind x) (store : Held) (above : IsAbove store.collection x) (bytes : Bytes) (is : bytes ≡ spelling x)
    (slot : Slot) (count : ℕ) (counted : count ≡ length bytes) (given : IsNextSlot (carried store) count 0 (Ok slot)) where
  next : IsNextSlot (carried store) (length bytes) 0 (Ok slot)
  next = subst (λ (n : ℕ). IsNextSlot (carried store) n 0 (Ok slot)) counted given

  enough : HasRoomFor x store
  enough = (subst (λ (bs : Bytes). store.slot.end + length bs ≤ OFFSET_MAX) is next.1, next.2)

  abbrev step : Step
  step = record { slot = slot; entry = Entry.Branch x }

  abbrev more : Records
  more = (store.slot.end, x) ∷ []

  module _ (r : Repository) (of : IsOf store r) (may : MayName r x) where
    pub record_may : MayTake store bytes step
    record_may = let (slot_is, room) = slot_from store r (length bytes) 0 slot of (omega arith) next in named_may r store of x may fits served bytes is slot store.slot.next_attempt slot_is room (λ _ _. refl) above (Entry.Branch x) refl tt

    tables_taken : IsOf (entered store step) (renamed r x)
    tables_taken = let (slot_is, room) = slot_from store r (length bytes) 0 slot of (omega arith) next in named_tables r store of x may fits served bytes is slot store.slot.next_attempt slot_is room (λ _ _. refl) above (Entry.Branch x) refl

    step_taken : {told : Told} (held : Holds store told r) → IsStep held (renamed r x) more bytes step
    step_taken held = let (slot_is, room) = slot_from store r (length bytes) 0 slot of (omega arith) next in named_step r store of x may fits served bytes is slot store.slot.next_attempt slot_is room (λ _ _. refl) above (Entry.Branch x) refl held

  module _ (result : Result (Unit {0}) StoreFault) (now : Held) (old new : Told) (taken : OnOk result (now ≡ entered store step)) (refused : result ≡ Err StoreFault.Memory → now ≡ store) (still : IsTrue tells → result ≡ Err StoreFault.Memory → new ≡ old) (cut : IfErr result IsCut)
      (took : IsTrue tells → (r after : Repository) (more : Records) (held : Holds store old r) → IsStep held after more bytes step → Took (λ (u : Unit {0}). true) held after more result now new) where
    tables_by : (res : Result (Unit {0}) StoreFault) → OnOk res (now ≡ entered store step) → (res ≡ Err StoreFault.Memory → now ≡ store) → IfErr res IsCut → (r : Repository) → IsOf store r → MayName r x → Renames r x res now
    tables_by (Ok u) is refused cut r of may = subst (λ (h : Held). IsOf h (renamed r x)) (sym is) (tables_taken r of may)
    tables_by (Err StoreFault.Memory) is refused cut r of may = subst (λ (h : Held). IsOf h r) (sym (refused refl)) of
    tables_by (Err StoreFault.Ground) is refused cut r of may = tt
    tables_by (Err _) is refused cut r of may = absurd cut

    limits_by : (res : Result (Unit {0}) StoreFault) → IfErr res IsCut → LimitsSpace (store.slot.end + length (spelling x)) res store
    limits_by (Ok u) cut = record { space = λ e. absurd (cc e); sequence = λ e. absurd (cc e); enough = enough }
    limits_by (Err StoreFault.Memory) cut = none_met (store.slot.end + length (spelling x)) StoreFault.Memory store (λ e. cc e) (λ e. cc e)
    limits_by (Err StoreFault.Ground) cut = none_met (store.slot.end + length (spelling x)) StoreFault.Ground store (λ e. cc e) (λ e. cc e)
    limits_by (Err _) cut = absurd cut

    undamaged_by : (res : Result (Unit {0}) StoreFault) → IfErr res IsCut → IsUndamaged res
    undamaged_by (Ok u) cut = tt
    undamaged_by (Err StoreFault.Memory) cut = tt
    undamaged_by (Err StoreFault.Ground) cut = tt
    undamaged_by (Err _) cut = absurd cut

    appends_by : (q : Repository) → IsOf store q → MayName q x → (res : Result (Unit {0}) StoreFault) → OnOk res (now ≡ entered store step)
        → ((r : Repository) (held : Holds store old r) → MayName r x → Took (λ (u : Unit {0}). true) held (renamed r x) more res now new) → OnOk res (Appends more 0 store now old new)
    appends_by q known may (Ok u) taken took = record {
      slot = ap (λ (h : Held). h.slot) taken ∙ next.0 ∙ ap (λ (bs : Bytes). next_slot (carried store) (length bs) 0) (is ∙ spelled_is store.slot.end x);
      records = λ r s before after. (took r before (may_same store q r x known before.tables may)).list refl s after;
    }
    appends_by q known may (Err fault) taken took = tt

    pub record_taken : (q : Repository) → IsOf store q → MayName q x → now.collection ≡ store.collection → now.unswept ≡ store.unswept → (IsTrue tells → (r : Repository) (held : Holds store old r) → Grew (λ (u : Unit {0}). true) held result now new) → (IsTrue tells → HasAnswer result → (r : Repository) → Holds store old r → KeepsClear store now old new) → (IsTrue tells → ChangesOnly IsOfStore old new) → AppendsRecord tells x result store now old new
    record_taken q known may same unswept grew clear beside = record {
      tables = tables_by result taken refused cut;
      same_collection = same;
      unswept = unswept;
      limits = limits_by result cut;
      room = λ ground. enough;
      appends = λ tells. appends_by q known may result taken (λ r held may. took tells r (renamed r x) more held (step_taken r held.tables may held));
      grew = grew;
      took = λ tells r held may. took tells r (renamed r x) more held (step_taken r held.tables may held);
      untouched = λ tells. taken_untouched old new result (still tells) cut;
      beside = beside;
      clear = clear;
      undamaged = undamaged_by result cut;
    }

-- ---- setting a branch

module _ (tells : Bool) (name : Bytes) (number : ℕ) (store : Held) (told : Told) where
  abbrev set_end : ℕ
  set_end = store.slot.end + length (spelling (Record.BranchSet number name))

  abbrev May : Repository → Type 0
  May r = (not_leaving_in (phase_of store.collection) (Some number) ≡ Ok tt) × (room_for_branch r name ≡ Ok tt)

  set_undone : (fault : StoreFault) → fault ≢ StoreFault.Ground → (fault ≡ StoreFault.Memory → (r : Repository) → IsOf store r → May r) → ((r : Repository) → IsOf store r → IfSome (branch_reply (Err fault)) (AnswersSet r (phase_of store.collection) name number (met_of fault) store))
      → LimitsSpace {A = Unit {0}} set_end (Err fault) store → IsUndamaged {A = Unit {0}} (Err fault) → SetsBranch tells name number (Err fault) store store told told
  set_undone fault ground wanted answered limits undamaged = record {
    answered = λ r of retained. answered r of;
    same_collection = refl;
    unswept = refl;
    begun = λ r of e. absurd (ground (cc e));
    wanted = λ r of e. wanted (cc e) r of;
    limits = limits;
    room = λ e. absurd (ground (cc e));
    appends = λ tells. tt;
    grew = λ tells r held. refused_grew (λ done. true) fault held;
    took = λ tells r held retained. refused_took (λ done. true) fault held (with_branch r name number) ((store.slot.end, Record.BranchSet number name) ∷ []);
    untouched = λ tells is other. changes_nothing told;
    beside = λ tells. only_nowhere told IsOfStore;
    undamaged = undamaged;
  }

  pub set_left : (fault : StoreFault) → RefusesBy (Err fault) (not_leaving_in (phase_of store.collection) (Some number)) → IsLeaving {A = Unit {0}} (Err fault) → SetsBranch tells name number (Err fault) store store told told
  set_left (StoreFault.Leaving n) leaves cause = set_undone (StoreFault.Leaving n) (λ e. cc e) (λ e r of. absurd (cc e)) (λ r of. set_leaving r (phase_of store.collection) name number store (StoreFault.Leaving n) leaves of)
      (none_met set_end (StoreFault.Leaving n) store (λ e. cc e) (λ e. cc e)) tt
  set_left _ leaves cause = absurd cause

  full_by : (test : Bool) (reply : Reply) → refuse_if test (Reply.Limit Limit.Branches) ≡ Err reply → reply ≡ Reply.Limit Limit.Branches
  full_by true reply e = cc e
  full_by false reply e = absurd (cc e)

  full_is : (fault : StoreFault) → IsSomeAnd (fault_reply fault) (λ reply. reply ≡ Reply.Limit Limit.Branches) → fault ≡ StoreFault.Limit Limit.Branches
  full_is (StoreFault.Limit limit) e = let same : limit ≡ Limit.Branches = cc e in ap StoreFault.Limit same
  full_is (StoreFault.GivenUp n) e = absurd (cc e)
  full_is (StoreFault.HeadMoved n) e = absurd (cc e)
  full_is (StoreFault.Leaving n) e = absurd (cc e)
  full_is (StoreFault.Existing n) e = absurd (cc e)
  full_is StoreFault.Memory e = absurd (cc e)
  full_is StoreFault.Ground e = absurd e
  full_is (StoreFault.Damaged at names) e = absurd e

  pub set_full : (q : Repository) → IsOf store q → (fault : StoreFault) → not_leaving_in (phase_of store.collection) (Some number) ≡ Ok tt → ((r : Repository) → IsOf store r → RefusesBy (Err fault) (room_for_branch r name)) → SetsBranch tells name number (Err fault) store store told told
  set_full q known fault stays full =
      set_undone fault (λ e. absurd (cc (e, is))) (λ e r of. absurd (cc (e, is))) (λ r of. set_refused r (phase_of store.collection) name number store fault stays (full r of) of)
      (none_met set_end fault store (λ e. absurd (cc (e, is))) (λ e. absurd (cc (e, is)))) (subst (λ (f : StoreFault). IsUndamaged {A = Unit {0}} (Err f)) (sym is) tt)
    where
      is : fault ≡ StoreFault.Limit Limit.Branches
      is = full_is fault (each_reply (λ (reply : Reply). room_for_branch q name ≡ Err reply) (λ (reply : Reply). reply ≡ Reply.Limit Limit.Branches) (fault_reply fault) (λ reply e. full_by _ reply e) (full q known))

  pub set_short : ((r : Repository) → IsOf store r → May r) → SetsBranch tells name number (Err StoreFault.Memory) store store told told
  set_short may = set_undone StoreFault.Memory (λ e. cc e) (λ e. may) (λ r of. set_memory r (phase_of store.collection) name number store of) (none_met set_end StoreFault.Memory store (λ e. cc e) (λ e. cc e)) tt

  pub set_done : not_leaving_in (phase_of store.collection) (Some number) ≡ Ok tt → ((r : Repository) → IsOf store r → room_for_branch r name ≡ Ok tt)
      → (result : Result (Unit {0}) StoreFault) (now : Held) (new : Told) → AppendsRecord tells (Record.BranchSet number name) result store now told new → SetsBranch tells name number result store now told new
  set_done stays room result now new does = record {
    answered = λ r of retained. set_answers r (phase_of store.collection) name number now result stays (room r of) (does.tables r of (set_may r name number store of retained (room r of)));
    same_collection = does.same_collection;
    unswept = does.unswept;
    begun = λ r of ground. (stays, room r of);
    wanted = λ r of memory. (stays, room r of);
    limits = does.limits;
    room = does.room;
    appends = does.appends;
    grew = does.grew;
    took = λ tells r held retained. does.took tells r held (set_may r name number store held.tables retained (room r held.tables));
    untouched = does.untouched;
    beside = does.beside;
    undamaged = does.undamaged;
  }

-- ---- taking one away

module _ (tells : Bool) (name : Bytes) (store : Held) (told : Told) where
  pub removed_none : ((r : Repository) → IsOf store r → head r name ≡ None) → RemovesBranch tells name (Ok false) store store told told
  removed_none none = record {
    answered = λ r of. remove_none r (phase_of store.collection) name store of (none r of);
    same_collection = refl;
    unswept = refl;
    begun = λ r of e. absurd (cc e);
    wanted = λ r of e. absurd (cc e);
    limits = λ some. absurd (some refl);
    room = λ e. absurd (cc e);
    appends = λ tells e. absurd (cc e);
    grew = λ tells r held. still_grew (λ removed. removed) false refl held;
    took = λ tells r held. subst (λ (q : Repository). Took (λ removed. removed) held q ((store.slot.end, Record.BranchRemove name) ∷ []) (Ok false) store told) (sym (absent_same r name (none r held.tables)))
        (still_took (λ removed. removed) false refl held ((store.slot.end, Record.BranchRemove name) ∷ []));
    untouched = λ tells is other. absurd (cc is);
    beside = λ tells. only_nowhere told IsOfStore;
    undamaged = tt;
  }

  module _ (there : (r : Repository) → IsOf store r → (n : ℕ) × (head r name ≡ Some n)) where
    begun_there : (r : Repository) → IsOf store r → IsSome (head r name)
    begun_there r of = (let (n, is) = there r of in subst (λ (o : Option ℕ). IsSome o) (sym is) refl)

    pub removed_short : RemovesBranch tells name (Err StoreFault.Memory) store store told told
    removed_short = record {
      answered = λ r of. remove_memory r (phase_of store.collection) name store of;
      same_collection = refl;
      unswept = refl;
      begun = λ r of e. absurd (cc e);
      wanted = λ r of e. begun_there r of;
      limits = λ some. none_met (store.slot.end + length (spelling (Record.BranchRemove name))) StoreFault.Memory store (λ e. cc e) (λ e. cc e);
      room = λ e. absurd (cc e);
      appends = λ tells e. absurd (cc e);
      grew = λ tells r held. refused_grew (λ removed. removed) StoreFault.Memory held;
      took = λ tells r held. refused_took (λ removed. removed) StoreFault.Memory held (without_branch r name) ((store.slot.end, Record.BranchRemove name) ∷ []);
      untouched = λ tells is other. changes_nothing told;
      beside = λ tells. only_nowhere told IsOfStore;
      undamaged = tt;
    }

    pub removed_cut : (now : Held) (new : Told) (fault : StoreFault) → AppendsRecord tells (Record.BranchRemove name) (Err fault) store now told new → RemovesBranch tells name (Err fault) store now told new
    removed_cut now new fault does = record {
      answered = λ r of. let (n, is) = there r of in remove_cut r (phase_of store.collection) name now n fault is (does.tables r of tt);
      same_collection = does.same_collection;
      unswept = does.unswept;
      begun = λ r of e. begun_there r of;
      wanted = λ r of e. begun_there r of;
      limits = λ some. record { space = λ e. does.limits.space (err_of fault (StoreFault.Limit Limit.Space) e); sequence = λ e. does.limits.sequence (err_of fault (StoreFault.Limit Limit.Sequence) e); enough = tt };
      room = λ e. does.room (err_of fault StoreFault.Ground e);
      appends = λ tells e. absurd (cc e);
      grew = λ tells r held. fault_grew (λ done. true) (λ removed. removed) fault held now (does.grew tells r held);
      took = λ tells r held. fault_took (λ done. true) (λ removed. removed) fault held (without_branch r name) ((store.slot.end, Record.BranchRemove name) ∷ []) now (does.took tells r held tt);
      untouched = λ tells is other. does.untouched tells refl (λ e. other (err_of fault StoreFault.Ground e));
      beside = does.beside;
      undamaged = undamaged_of fault does.undamaged;
    }
      where
        undamaged_of : (f : StoreFault) → IsUndamaged {A = Unit {0}} (Err f) → IsUndamaged {A = Bool} (Err f)
        undamaged_of (StoreFault.Damaged at names) is = absurd is
        undamaged_of _ is = tt

    pub removed_done : (now : Held) (new : Told) → AppendsRecord tells (Record.BranchRemove name) (Ok tt) store now told new → RemovesBranch tells name (Ok true) store now told new
    removed_done now new does = record {
      answered = λ r of. let (n, is) = there r of in remove_done r (phase_of store.collection) name now n is (does.tables r of tt);
      same_collection = does.same_collection;
      unswept = does.unswept;
      begun = λ r of e. begun_there r of;
      wanted = λ r of e. begun_there r of;
      limits = λ some. record { space = λ e. absurd (cc e); sequence = λ e. absurd (cc e); enough = does.limits.enough };
      room = λ e. absurd (cc e);
      appends = λ tells e. does.appends tells;
      grew = λ tells r held. value_grew (λ removed. removed) true refl held now (does.grew tells r held);
      took = λ tells r held. value_took (λ removed. removed) true refl held (without_branch r name) ((store.slot.end, Record.BranchRemove name) ∷ []) now (does.took tells r held tt);
      untouched = λ tells is other. absurd (cc is);
      beside = does.beside;
      undamaged = tt;
    }
