-- What the machine answers to a collection that is to begin, and what was done.
--     refused_answers      where something stands against it.      refusal_ends, refused_limits      then nothing was begun, and this limit is met
--     failed_answers      where no child was started.      begun_answers      where one was
--     running store o      the store with this collection.      running_tables, running_holds      it has the tables, and holds what it held
--     started_phase      what the collection is to the slot and to the repository.      same_retained      its commit is retained
--     starts_none      nothing was done.      starts_with      the same by another answer.      begins_stays      each record stays
use Rattle.std.proofs.Common.{◌≡◌, ℕ, ◌+◌, [], ◌∷◌, length, Option, Some, None, true, false, refl, sym, ◌∙◌, ap, subst, arith}
use Rattle.std.specs.Prelude.{Result, Ok, Err, IfSome, IsSomeAnd, IsTrue, nat_le, nat_lt, ◌&&◌}
use Rattle.ip_base.specs.declared.limit.Limit.{Limit}
use Rattle.ip_ground.specs.Told.{Told}
use Rattle.ip_ground.proofs.Spans.{only_nowhere}
use Rattle.ip_spawn.specs.declared.job.Job.{Job}
use Rattle.ip_spec.specs.declared.command.Command.TheVariants as Command
use Rattle.ip_spec.specs.declared.command.Target.{Target}
use Rattle.ip_spec.specs.declared.met.Met.{Met}
use Rattle.ip_spec.specs.declared.reply.Reply.{Reply}
use Rattle.ip_spec.specs.Machine.{Phase, State, Work}
use Rattle.ip_spec.specs.Repository.{Repository, next, name_at, is_retained}
use Rattle.ip_spec.specs.Record.{Hash, spelling}
use Rattle.ip_spec.specs.TreeAt.{Records, present}
use Rattle.ip_spec.specs.Step.{IsMet, MayBeShort, Refused, Turned, outcome, resolve, held_branch, phase_at, enough, unless_some, refuse_if, ◌>>◌, ◌>>=◌}
use Rattle.ip_image.specs.declared.slot.Slot.{Slot}
use Rattle.ip_image.specs.Pending.{SameSpace}
use Rattle.ip_image.proofs.SpelledCommits.{present_front}
use Rattle.ip_held.specs.declared.collection.Collection.{Collection}
use Rattle.ip_collects.specs.declared.starting.CollectFault.{CollectFault}
use Rattle.ip_collects.specs.declared.starting.Start.{Start}
use Rattle.ip_held.specs.declared.held.Held.{Held}
use Rattle.ip_held.specs.Collecting.{IsGoing, Collects, phase_of, IsPhaseOf}
use Rattle.ip_held.specs.Answers.{Turns, conditions_of, met_nothing}
use Rattle.ip_publish.specs.Publishing.{IsWritten, MayChange}
use Rattle.ip_collects.specs.Starting.{branch_name_at, met_by_start, Replies, AnswersStart, IsBegun, LimitsStart, RefusesStart, IsStart, Begins, StartsCollection, end_behind, new_collection}
use Rattle.ip_held.specs.TableRecord.{table_of}
use Rattle.ip_held.specs.Held.{IsOf, Holds, image_records}
use Rattle.ip_held.specs.Trees.{RecordsStay}
use Rattle.ip_held.specs.Work.{state_at}
use Rattle.ip_held.proofs.Apart.{for_only}
use Rattle.ip_collects.proofs.Begun.{never_lent}
use Rattle.ip_held.proofs.CommandTurns.{turn_is, plain, memory_turns}
use Rattle.ip_held.proofs.KeptFiles.{keeps_itself}
use Rattle.ip_held.proofs.Machine.{asks_none}
use Rattle.ip_held.proofs.Recovering.{recovers_now}
use Rattle.ip_held.proofs.SlotLaws.{slots_none}
use Rattle.ip_held.proofs.TableRecords.{none_below}

-- ---- the machine

module _ (r : Repository) (target : Target) (number : ℕ) (named : resolve r target ≡ Ok number) (o : Option Collection) (work : Work) where
  abbrev s : State
  s = state_at r (phase_of o) work

  abbrev after : State
  after = state_at r (Phase.Collecting number None) work

  abbrev runs : Refused (Unit {0})
  runs = unless_some (phase_at (phase_of o)) (λ c. Reply.Busy (name_at r c))

  abbrev below : Refused (Unit {0})
  below = unless_some (held_branch r number) Reply.Held

  behind : Met → Refused Turned
  behind met = enough (conditions_of met) Limit.Attempt >> (enough (conditions_of met) Limit.Space >> (enough (conditions_of met) Limit.Sequence >> (refuse_if met.start_failed Reply.StartFault >> Ok (Reply.Started (name_at r number), after))))

  collect_outcome : (met : Met) → outcome s (Command.Collect target) (conditions_of met) ≡ (runs >> (below >> behind met))
  unfolding outcome behind
  collect_outcome met = ap (λ (g : Refused ℕ). runs >> (g >>= (λ n. unless_some (held_branch r n) Reply.Held
      >> (enough (conditions_of met) Limit.Attempt >> (enough (conditions_of met) Limit.Space >> (enough (conditions_of met) Limit.Sequence >> (refuse_if met.start_failed Reply.StartFault >> Ok (Reply.Started (name_at r n), state_at r (Phase.Collecting n None) work)))))))) named

  refusing : (met : Met) (reply : Reply) → met.refused ≡ false → IsMet s (Command.Collect target) (conditions_of met) reply → (runs >> (below >> behind met)) ≡ Err reply → Turns s (Command.Collect target) met reply s
  refusing met reply unrefused is_met is = (is_met, turn_is r (phase_of o) work (Command.Collect target) tt met (Err reply) unrefused (collect_outcome met ∙ is))

  short : (limit : Limit) → MayBeShort limit → IsMet s (Command.Collect target) (conditions_of (record met_nothing { short = Some limit })) (Reply.Limit limit)
  short limit may = record {
    child = asks_none (phase_of o) (Command.Collect target) tt;
    checking = tt;
    start = λ t. absurd (cc (t));
    kill = λ t. absurd (cc (t));
    left = λ l. absurd (omega (arith, l));
    short = (refl, may);
    refused = λ t. absurd (cc (t));
  }

  unstarted : IsMet s (Command.Collect target) (conditions_of (record met_nothing { start_failed = true })) Reply.StartFault
  unstarted = record {
    child = asks_none (phase_of o) (Command.Collect target) tt;
    checking = tt;
    start = λ t. refl;
    kill = λ t. absurd (cc (t));
    left = λ l. absurd (omega (arith, l));
    short = tt;
    refused = λ t. absurd (cc (t));
  }

  turns_busy : (c : Collection) → o ≡ Some c → Turns s (Command.Collect target) met_nothing (Reply.Busy (name_at r c.commit)) s
  turns_busy c some = refusing met_nothing (Reply.Busy (name_at r c.commit)) refl (plain r (phase_of o) work (Command.Collect target) tt (Reply.Busy (name_at r c.commit)))
      (ap (λ (p : Option Collection). unless_some (phase_at (phase_of p)) (λ c. Reply.Busy (name_at r c)) >> (below >> behind met_nothing)) some)

  turns_memory : Turns s (Command.Collect target) (record met_nothing { refused = true }) Reply.Memory s
  turns_memory = memory_turns r (phase_of o) work (Command.Collect target) tt

  -- where none runs
  module _ (idle : o ≡ None) where
    none_runs : (met : Met) (y : Refused Turned) → (below >> behind met) ≡ y → (runs >> (below >> behind met)) ≡ y
    none_runs met y is = ap (λ (p : Option Collection). unless_some (phase_at (phase_of p)) (λ c. Reply.Busy (name_at r c)) >> (below >> behind met)) idle ∙ is

    turns_held : (name : _) → held_branch r number ≡ Some name → Turns s (Command.Collect target) met_nothing (Reply.Held name) s
    turns_held name held = refusing met_nothing (Reply.Held name) refl (plain r (phase_of o) work (Command.Collect target) tt (Reply.Held name)) (none_runs met_nothing (Err (Reply.Held name)) (ap (λ p. unless_some p Reply.Held >> behind met_nothing) held))

    -- and no branch is below
    module _ (free : held_branch r number ≡ None) where
      goes_behind : (met : Met) (y : Refused Turned) → behind met ≡ y → (runs >> (below >> behind met)) ≡ y
      goes_behind met y is = none_runs met y (ap (λ p. unless_some p Reply.Held >> behind met) free ∙ is)

      turns_short : (limit : Limit) → MayBeShort limit → Turns s (Command.Collect target) (record met_nothing { short = Some limit }) (Reply.Limit limit) s
      unfolding behind
      turns_short Limit.Attempt may = refusing (record met_nothing { short = Some Limit.Attempt }) (Reply.Limit Limit.Attempt) refl (short Limit.Attempt tt) (goes_behind (record met_nothing { short = Some Limit.Attempt }) (Err (Reply.Limit Limit.Attempt)) refl)
      turns_short Limit.Space may = refusing (record met_nothing { short = Some Limit.Space }) (Reply.Limit Limit.Space) refl (short Limit.Space tt) (goes_behind (record met_nothing { short = Some Limit.Space }) (Err (Reply.Limit Limit.Space)) refl)
      turns_short Limit.Sequence may = refusing (record met_nothing { short = Some Limit.Sequence }) (Reply.Limit Limit.Sequence) refl (short Limit.Sequence tt) (goes_behind (record met_nothing { short = Some Limit.Sequence }) (Err (Reply.Limit Limit.Sequence)) refl)
      turns_short Limit.Contents may = absurd may
      turns_short Limit.Depth may = absurd may
      turns_short Limit.Entries may = absurd may
      turns_short Limit.Parents may = absurd may
      turns_short Limit.Branches may = absurd may

      turns_unstarted : Turns s (Command.Collect target) (record met_nothing { start_failed = true }) Reply.StartFault s
      unfolding behind
      turns_unstarted = refusing (record met_nothing { start_failed = true }) Reply.StartFault refl unstarted (goes_behind (record met_nothing { start_failed = true }) (Err Reply.StartFault) refl)

      turns_begun : Turns s (Command.Collect target) met_nothing (Reply.Started (name_at r number)) after
      unfolding behind
      turns_begun = (
        plain r (phase_of o) work (Command.Collect target) tt (Reply.Started (name_at r number)),
        turn_is r (phase_of o) work (Command.Collect target) tt met_nothing (Ok (Reply.Started (name_at r number), after)) refl
            (collect_outcome met_nothing ∙ goes_behind met_nothing (Ok (Reply.Started (name_at r number), after)) refl),
      )

-- ---- the store

abbrev pub running : Held → Option Collection → Held
running store o = record store { collection = o }

pub running_tables : (store : Held) (r : Repository) (o : Option Collection) → IsPhaseOf store.slot r o → IfSome o (IsGoing store.slot.floor store.places store.unswept store.space) → IsOf store r → IsOf (running store o) r
running_tables store r o phase going of = record {
  slot = of.slot;
  index = of.index;
  floor = of.floor;
  next = of.next;
  names = of.names;
  hashes = of.hashes;
  branches = of.branches;
  retained = of.retained;
  history = of.history;
  parents_first = of.parents_first;
  space = of.space;
  placed = of.placed;
  phase = phase;
  unswept = of.unswept;
  named = of.named;
  within = of.within;
  rising = of.rising;
  going = going;
}

pub running_holds : (store : Held) (r : Repository) (o : Option Collection) (told : Told) → IsPhaseOf store.slot r o → IfSome o (IsGoing store.slot.floor store.places store.unswept store.space)
    → (held : Holds store told r) → IfSome o (Collects told store.slot held.stands.standing.records r) → Holds (running store o) told r
running_holds store r o told phase going held collects = record {
  tables = running_tables store r o phase going held.tables;
  stands = held.stands;
  live = held.live;
  kept = held.kept;
  pair = held.pair;
  runs = held.runs;
  places = held.places;
  collects = collects;
  current = held.current;
}

-- ---- the answers

each_name : {X : Type 0} (P Q : X → Type 0) (o : Option X) → ((x : X) → P x → Q x) → IsSomeAnd o P → IsSomeAnd o Q
each_name P Q None each none = none
each_name P Q (Some x) each is = each x is

module _ (r : Repository) (store : Held) (number : ℕ) (of : IsOf store r) where
  abbrev Answered : CollectFault → Reply → Type 0
  Answered fault reply = AnswersStart r number store.collection (met_by_start (Err fault)) store reply

  abbrev Refusal : CollectFault → Type 0
  Refusal fault = Replies r (Err fault) (Answered fault)

  busy : (o : Option Collection) → store.collection ≡ o → (name : Hash) → IsSomeAnd o (λ c. name ≡ name_at r c.commit) → Refusal (CollectFault.Busy name)
  busy None same name is = absurd is
  busy (Some c) same name is = λ target named. record {
    turns = λ work. subst (λ (n : Hash). Turns (state_at r (phase_of store.collection) work) (Command.Collect target) met_nothing (Reply.Busy n) (state_at r (phase_of store.collection) work)) (sym is)
        (turns_busy r target number named store.collection work c same);
    tables = of;
  }

  pub refused_answers : (fault : CollectFault) → RefusesStart r number store fault → Replies r (Err fault) (AnswersStart r number store.collection (met_by_start (Err fault)) store)
  refused_answers (CollectFault.Busy name) is = busy store.collection refl name is
  refused_answers (CollectFault.Held place) is =
      each_name (λ name. held_branch r number ≡ Some name) (λ name. Answered (CollectFault.Held place) (Reply.Held name)) (branch_name_at r place)
      (λ name held target named. record { turns = λ work. turns_held r target number named store.collection work is.0 name held; tables = of }) is.1
  refused_answers (CollectFault.Limit Limit.Attempt) is = λ target named. record { turns = λ work. turns_short r target number named store.collection work is.0.0 is.0.1 Limit.Attempt tt; tables = of }
  refused_answers (CollectFault.Limit Limit.Space) is = λ target named. record { turns = λ work. turns_short r target number named store.collection work is.0.0 is.0.1 Limit.Space tt; tables = of }
  refused_answers (CollectFault.Limit Limit.Sequence) is = λ target named. record { turns = λ work. turns_short r target number named store.collection work is.0.0 is.0.1 Limit.Sequence tt; tables = of }
  refused_answers CollectFault.Memory is = λ target named. record { turns = λ work. turns_memory r target number named store.collection work; tables = of }
  refused_answers (CollectFault.Limit Limit.Contents) is = absurd is
  refused_answers (CollectFault.Limit Limit.Depth) is = absurd is
  refused_answers (CollectFault.Limit Limit.Entries) is = absurd is
  refused_answers (CollectFault.Limit Limit.Parents) is = absurd is
  refused_answers (CollectFault.Limit Limit.Branches) is = absurd is
  refused_answers CollectFault.Start is = absurd is
  refused_answers CollectFault.Ground is = absurd is

-- so nothing was begun
pub refusal_ends : (r : Repository) (store : Held) (number : ℕ) (fault : CollectFault) → RefusesStart r number store fault → IsBegun {A = Hash} (Err fault) → ⊥
refusal_ends r store number (CollectFault.Busy name) is begins = begins
refusal_ends r store number (CollectFault.Held place) is begins = begins
refusal_ends r store number (CollectFault.Limit limit) is begins = begins
refusal_ends r store number CollectFault.Memory is begins = begins
refusal_ends r store number CollectFault.Start is begins = is
refusal_ends r store number CollectFault.Ground is begins = begins

pub refused_limits : (r : Repository) (store : Held) (number : ℕ) (fault : CollectFault) → RefusesStart r number store fault → LimitsStart (store.slot.end + length (spelling (table_of r))) (Err fault) store
refused_limits r store number fault refuses = record {
  attempt = λ e. (by (CollectFault.Limit Limit.Attempt) (cc (e))).1;
  space = λ e. (let is = by (CollectFault.Limit Limit.Space) (cc (e)) in (is.1, is.2));
  sequence = λ e. (let is = by (CollectFault.Limit Limit.Sequence) (cc (e)) in (is.1, is.2, is.3));
  enough = λ begins. absurd (refusal_ends r store number fault refuses begins);
}
  where
    by : (other : CollectFault) → fault ≡ other → RefusesStart r number store other
    by other same = subst (RefusesStart r number store) same refuses

-- whatever repository the tables are of
pub same_retained : (store : Held) (q r : Repository) (n : ℕ) → IsOf store q → IsOf store r → IsTrue (is_retained q n) → IsTrue (is_retained r n)
same_retained store q r n a b is =
    subst (λ (f : ℕ). (nat_le f n && nat_lt n (next r)) ≡ true) (a.floor ∙ sym b.floor) (subst (λ (m : ℕ). (nat_le q.floor n && nat_lt n m) ≡ true) (a.next ∙ sym b.next) is)

-- behind the durable step none runs in the store so far
module _ (r : Repository) (number : ℕ) (before : Option Collection) (idle : before ≡ None) (free : held_branch r number ≡ None) (store : Held) (none : store.collection ≡ None) (of : IsOf store r) where
  pub failed_answers : AnswersStart r number before (record met_nothing { start_failed = true }) store Reply.StartFault
  failed_answers target named = record {
    turns = λ work. subst (λ (p : Option Collection). Turns (state_at r (phase_of before) work) (Command.Collect target) (record met_nothing { start_failed = true }) Reply.StartFault (state_at r (phase_of p) work)) (idle ∙ sym none)
        (turns_unstarted r target number named before work idle free);
    tables = of;
  }

  pub begun_answers : (job : Job) → IsPhaseOf store.slot r (Some (new_collection number job)) → IsGoing store.slot.floor store.places store.unswept store.space (new_collection number job)
      → AnswersStart r number before met_nothing (running store (Some (new_collection number job))) (Reply.Started (name_at r number))
  begun_answers job phase going target named = record {
    turns = λ work. turns_begun r target number named before work idle free;
    tables = running_tables store r (Some (new_collection number job)) phase going of;
  }

pub started_phase : (r : Repository) (store : Held) (number : ℕ) (start : Start) → IsTrue (is_retained r number) → held_branch r number ≡ None → IsStart r store number start → IsPhaseOf start.slot r (Some (new_collection number start.job))
started_phase r store number start retained free is = record { retained = retained; heads = none_below r number free; told = is.job.of; reaped = tt }

-- ---- what was done

-- nothing
pub starts_none : {A : Type 0} (r : Repository) (store store' : Held) (told : Told) (fault : CollectFault) → ¬ (IsBegun {A = A} (Err fault)) → Holds store told r → StartsCollection {A = A} r store.slot.next_attempt (Err fault) store' told told
starts_none r store store' told fault not held = record {
  only = for_only store.slot.next_attempt (MayChange told.held) told told (only_nowhere told (MayChange told.held)) (keeps_itself told);
  written = λ s has. for_only store.slot.next_attempt (IsWritten s.chunk s.end (end_behind r s)) told told (only_nowhere told (IsWritten s.chunk s.end (end_behind r s))) (keeps_itself told);
  behind = λ s has at high. refl;
  files = keeps_itself told;
  holds = λ begins. absurd (not begins);
  lent = λ begins. absurd (not begins);
  fresh = never_lent store r told held;
  slots = λ pending. slots_none told;
  recovers = λ pending t after le. absurd (omega (arith, after, le));
  nothing_pending = λ pending begins. pending;
  flushed = λ pending. (recovers_now store r told held pending).flushed;
  space = λ pending u has t after le. absurd (omega (arith, after, le));
  table = λ pending begins. absurd (not begins);
}

-- the same by another answer, and of the store with a collection
pub starts_with : {A B : Type 0} (r : Repository) (n m : ℕ) (res : Result A CollectFault) (out : Result B CollectFault) (store now : Held) (old new : Told) → m ≡ n → (IsBegun out → IsBegun res) → (IsBegun res → Holds store new r → Holds now new r) → now.slot ≡ store.slot → StartsCollection r n res store old new → StartsCollection r m out now old new
starts_with r n m res out store now old new same begun holds slot is = subst (λ (k : ℕ). StartsCollection r k out now old new) (sym same) (record {
  only = is.only;
  written = is.written;
  behind = is.behind;
  files = is.files;
  holds = λ begins. holds (begun begins) (is.holds (begun begins));
  lent = λ begins. is.lent (begun begins);
  fresh = is.fresh;
  slots = is.slots;
  recovers = is.recovers;
  nothing_pending = λ pending begins. is.nothing_pending pending (begun begins);
  flushed = is.flushed;
  space = is.space;
  table = λ pending begins t after le is_lent image left. subst (λ (s : Slot). SameSpace s new.held image) (sym slot) (is.table pending (begun begins) t after le is_lent image left);
})

-- they stand in front of the table
pub begins_stays : (r q : Repository) (store now : Held) (old new : Told) → Begins r store now old new → (before : Holds store old r) (after : Holds now new q) → RecordsStay (image_records before) (image_records after)
begins_stays r q store now old new is before after at x there =
    subst (λ (rs : Records). present rs at ≡ Some x) (sym (is.records q before after)) (present_front before.stands.standing.records ((store.slot.end, table_of r) ∷ []) at x there)
