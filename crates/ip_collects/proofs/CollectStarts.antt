-- All that is promised of a collection that is to begin, by each way out.
--     refused_begins      something stands against it.      fault_begins      a fault of the ground, or no child was started.      started_begins      one was
use Rattle.std.proofs.Common.{◌≡◌, ◌⊎◌, inl, inr, ℕ, ◌+◌, ◌-◌, ◌<◌, ◌≤◌, [], ◌∷◌, ◌++◌, length, Option, Some, None, refl, sym, ap, subst, arith}
use Rattle.std.specs.Prelude.{Bool, Result, Ok, Err, IsErrOf, IsTrue}
use Rattle.ip_base.specs.declared.limit.Limit.{Limit}
use Rattle.ip_ground.specs.Told.{Told}
use Rattle.ip_ground.proofs.Spans.{only_nowhere}
use Rattle.ip_spec.specs.declared.reply.Reply.{Reply}
use Rattle.ip_spec.specs.Record.{Hash, spelling}
use Rattle.ip_spec.specs.Repository.{Repository, is_retained, name_at}
use Rattle.ip_image.specs.declared.slot.Slot.{Slot}
use Rattle.ip_image.specs.Pending.{NothingPending}
use Rattle.ip_image.specs.Standing.{Standing}
use Rattle.ip_held.specs.declared.collection.Collection.{Collection}
use Rattle.ip_collects.specs.declared.starting.CollectFault.{CollectFault}
use Rattle.ip_collects.specs.declared.starting.Start.{Start}
use Rattle.ip_held.specs.declared.held.Held.{Held}
use Rattle.ip_held.specs.Fronts.{LeavesFront}
use Rattle.ip_held.specs.Answers.{met_nothing}
use Rattle.ip_held.specs.Clear.{KeepsClear}
use Rattle.ip_held.specs.Held.{IsOf, Holds, image_records}
use Rattle.ip_held.specs.Sweeping.{ChangesFor}
use Rattle.ip_held.specs.TableRecord.{table_of}
use Rattle.ip_held.specs.Tie.{appending}
use Rattle.ip_held.specs.Trees.{RecordsStay}
use Rattle.ip_collects.specs.Starting.{begun, new_collection, AnswersStart, BeginsCollecting, Begins, IsBegun, IsFree, IsStart, LimitsStart, RefusesStart, StartsCollection}
use Rattle.ip_publish.specs.Publishing.{IsOfStore}
use Rattle.ip_held.proofs.Apart.{for_only}
use Rattle.ip_held.proofs.CoreAppends.{tied_behind}
use Rattle.ip_held.proofs.KeptFiles.{keeps_itself}
use Rattle.ip_held.proofs.StepFronts.{leaves_none}
use Rattle.ip_collects.proofs.Begun.{begins_collecting, begun_going, begun_tables}
use Rattle.ip_collects.proofs.BeginTied.{refused_tied, started_tied}
use Rattle.ip_collects.proofs.ClearBegun.{begun_carries, begun_clear}
use Rattle.ip_collects.proofs.Started.{place_within}
use Rattle.ip_collects.proofs.StartTurns.{begins_stays, begun_answers, failed_answers, refusal_ends, refused_answers, refused_limits, running, running_holds, same_retained, started_phase, starts_none, starts_with}

module _ (tells : Bool) (store : Held) (number : ℕ) (p : Repository) (of : IsOf store p) (retained : IsTrue (is_retained p number)) (a : Told) where
  module _ (fault : CollectFault) (refuses : (r : Repository) → IsOf store r → IsTrue (is_retained r number) → RefusesStart r number store fault) where
    refusal : (r : Repository) → IsOf store r → RefusesStart r number store fault
    refusal r is = refuses r is (same_retained store p r number of is retained)

    not_begun : IsBegun {A = Hash} (Err fault) → ⊥
    not_begun = refusal_ends p store number fault (refusal p of)

    pub refused_begins : BeginsCollecting tells number (Err fault) store store a a
    refused_begins = record {
      answered = λ r is kept. refused_answers r store number is fault (refusal r is);
      named = λ r is kept. tt;
      same_collection = λ err. refl;
      unswept = refl;
      turned_down = λ down. refl;
      begun = λ r is cut. (let same : fault ≡ CollectFault.Ground = cc (cut) in absurd (subst (RefusesStart r number store) same (refusal r is)));
      wanted = λ r is want. (let same : fault ≡ CollectFault.Memory = cc (want) in subst (RefusesStart r number store) same (refusal r is));
      limits = λ r is. refused_limits r store number fault (refusal r is);
      beside = λ told. for_only store.slot.next_attempt IsOfStore a a (only_nowhere a IsOfStore) (keeps_itself a);
      begins = λ told begins. absurd (not_begun begins);
      any_moment = λ told r held. starts_none r store store a fault not_begun held;
      stay = λ told begins. absurd (not_begun begins);
      clear = λ told answered r held clear. clear;
      tied = λ told answered r q held still. refused_tied p number store fault (refusal p of) a.held held.stands.standing still.stands.standing ((store.slot.end, table_of r) ∷ []);
      fronts = λ told r held pending. leaves_none store held.stands.standing.records (appending ((store.slot.end, table_of r) ∷ [])) a;
    }

  -- ---- behind the plan

  module _ (start : Start) (planned : (r : Repository) → IsOf store r → IsTrue (is_retained r number) → IsStart r store number start) (free : (r : Repository) → IsOf store r → IsFree r number store) (b : Told)
      (fronts : IsTrue tells → (r : Repository) (n : ℕ) (held : Holds store a r) → IsStart r store n start → NothingPending a → LeavesFront store held.stands.standing.records (appending ((store.slot.end, table_of r) ∷ [])) a b)
      (touched : IsTrue tells → ChangesFor start.job.attempt IsOfStore a b) where
    kept : (r : Repository) → IsOf store r → IsTrue (is_retained r number)
    kept r is = same_retained store p r number of is retained

    plan : (r : Repository) → IsOf store r → IsStart r store number start
    plan r is = planned r is (kept r is)

    beside : IsTrue tells → ChangesFor store.slot.next_attempt IsOfStore a b
    beside told = subst (λ (n : ℕ). ChangesFor n IsOfStore a b) (plan p of).job.attempt (touched told)

    idle : store.collection ≡ None
    idle = (free p of).0

    enough : (result : Result Hash CollectFault) → ((limit : Limit) → ¬ IsErrOf result (CollectFault.Limit limit)) → (r : Repository) → IsOf store r → LimitsStart (store.slot.end + length (spelling (table_of r))) result store
    enough result not r is = record {
      attempt = λ e. absurd (not Limit.Attempt e);
      space = λ e. absurd (not Limit.Space e);
      sequence = λ e. absurd (not Limit.Sequence e);
      enough = λ begins. ((plan r is).attempt, (plan r is).small, (plan r is).sequence);
    }

    leaves : IsTrue tells → (r : Repository) (held : Holds store a r) → NothingPending a → LeavesFront store held.stands.standing.records (appending ((store.slot.end, table_of r) ∷ [])) a b
    leaves told r held = fronts told r number held (plan r held.tables)

    abbrev Moment : Result (Unit {0}) CollectFault → Held → Type 0
    Moment result now = IsTrue tells → (r : Repository) (n : ℕ) → Holds store a r → IsStart r store n start → StartsCollection r start.job.attempt result now a b

    cut_begins : (now : Held) → now.collection ≡ store.collection → now.unswept ≡ store.unswept → Moment (Err CollectFault.Ground) now → BeginsCollecting tells number (Err CollectFault.Ground) store now a b
    cut_begins now same unswept moment = record {
      answered = λ r is kept. tt;
      named = λ r is kept. tt;
      same_collection = λ err. same;
      unswept = unswept;
      turned_down = λ down. absurd down;
      begun = λ r is cut. (free r is, (plan r is).attempt);
      wanted = λ r is want. absurd (cc (want));
      limits = enough (Err CollectFault.Ground) (λ limit e. absurd (cc (e)));
      beside = beside;
      begins = λ told begins. absurd begins;
      any_moment = λ told r held. starts_with r start.job.attempt store.slot.next_attempt (Err CollectFault.Ground) (Err CollectFault.Ground) now now a b (sym (plan r held.tables).job.attempt) (λ begins. begins) (λ begins now. now) refl (moment told r number held (plan r held.tables));
      stay = λ told begins. absurd begins;
      clear = λ told answered. absurd (answered refl);
      tied = λ told answered. absurd (answered refl);
      fronts = leaves;
    }

    abbrev Listed : Type 0
    Listed = IsTrue tells → (r : Repository) (n : ℕ) (held : Holds store a r) → IsStart r store n start → (image : Standing b.held) → image.records ≡ held.stands.standing.records ++ (store.slot.end, table_of r) ∷ []

    abbrev here : Held
    here = begun store start

    tables : (r : Repository) → IsOf store r → IsOf here r
    tables r is = begun_tables r store number start is (plan r is) idle start.bytes.items refl

    module _ (list : Listed) where
      -- whatever collection goes on then
      begins_at : (o : Option Collection) → IsTrue tells → (r : Repository) → IsOf store r → Begins r store (running here o) a b
      begins_at o told r is = record { slot = (plan r is).slot; records = λ q before after. list told r number before (plan r is) after.stands.standing }

      stays_at : (o : Option Collection) → IsTrue tells → (r q : Repository) (held : Holds store a r) (still : Holds (running here o) b q) → RecordsStay (image_records held) (image_records still)
      stays_at o told r q held still = begins_stays r q store (running here o) a b (begins_at o told r held.tables) held still

      clear_at : {A : Type 0} (o : Option Collection) (result : Result A CollectFault) (r : Repository) (held : Holds store a r) → StartsCollection r store.slot.next_attempt result (running here o) a b → KeepsClear store (running here o) a b
      clear_at o result r held starts =
          begun_clear store r a b held start.slot store.unswept (begun_carries store (length (spelling (table_of r))) start.slot (plan r held.tables).slot) refl result (running here o) starts

      -- no child was started
      failed_here : Moment (Err CollectFault.Start) here → BeginsCollecting tells number (Err CollectFault.Start) store here a b
      failed_here moment = record {
        answered = λ r is kept. failed_answers r number store.collection idle (free r is).1 here idle (tables r is);
        named = λ r is kept. tt;
        same_collection = λ err. refl;
        unswept = refl;
        turned_down = λ down. absurd down;
        begun = λ r is cut. absurd (cc (cut));
        wanted = λ r is want. absurd (cc (want));
        limits = enough (Err CollectFault.Start) (λ limit e. absurd (cc (e)));
        beside = beside;
        begins = λ told begins. begins_at store.collection told;
        any_moment = starts;
        stay = λ told begins. stays_at store.collection told;
        clear = λ told answered r held. clear_at store.collection (Err CollectFault.Start) r held (starts told r held);
        tied = λ told answered r q held still.
            tied_behind store here a b r q held still refl (ap (λ (t : Slot). t.horizon) (plan r held.tables).slot) ((store.slot.end, table_of r) ∷ []) (list told r number held (plan r held.tables) still.stands.standing)
            (refl, ap (λ (t : Slot). t.end) (sym (plan r held.tables).slot));
        fronts = leaves;
      }
        where
          starts : IsTrue tells → (r : Repository) → Holds store a r → StartsCollection {A = Hash} r store.slot.next_attempt (Err CollectFault.Start) here a b
          starts told r held = starts_with r start.job.attempt store.slot.next_attempt (Err CollectFault.Start) (Err CollectFault.Start) here here a b (sym (plan r held.tables).job.attempt) (λ begins. begins) (λ begins now. now) refl (moment told r number held (plan r held.tables))

      failed_begins : (now : Held) → now ≡ begun store start → Moment (Err CollectFault.Start) now → BeginsCollecting tells number (Err CollectFault.Start) store now a b
      failed_begins now is moment = subst (λ (s : Held). BeginsCollecting tells number (Err CollectFault.Start) store s a b) (sym is) (failed_here (subst (λ (s : Held). Moment (Err CollectFault.Start) s) is moment))

      abbrev some : Option Collection
      some = Some (new_collection number start.job)

      -- one was
      started_here : (name : Hash) → ((r : Repository) → IsOf store r → IsTrue (is_retained r number) → name ≡ name_at r number) → Moment (Ok tt) here → BeginsCollecting tells number (Ok name) store (running here some) a b
      started_here name named moment = record {
        answered = λ r is kept'. subst (λ (n : Hash). AnswersStart r number store.collection met_nothing (running here some) (Reply.Started n)) (sym (named r is kept'))
            (begun_answers r number store.collection idle (free r is).1 here idle (tables r is) start.job (started_phase r store number start kept' (free r is).1 (plan r is)) (begun_going r store number start is (plan r is)));
        named = named;
        same_collection = λ err. absurd (cc (err));
        unswept = refl;
        turned_down = λ down. absurd down;
        begun = λ r is cut. absurd (cc (cut));
        wanted = λ r is want. absurd (cc (want));
        limits = enough (Ok name) (λ limit e. absurd (cc (e)));
        beside = beside;
        begins = λ told begins. begins_at some told;
        any_moment = starts;
        stay = λ told begins. stays_at some told;
        clear = λ told answered r held. clear_at some (Ok name) r held (starts told r held);
        tied = λ told answered r q held still.
            started_tied store (running here some) a b r q number start.job held still idle (plan r held.tables).job refl (plan r held.tables).small (begins_at some told r held.tables);
        fronts = leaves;
      }
        where
          starts : IsTrue tells → (r : Repository) → Holds store a r → StartsCollection {A = Hash} r store.slot.next_attempt (Ok name) (running here some) a b
          starts told r held =
              let is = plan r held.tables in
              let lent = moment told r number held is in
              let inside = (place_within (λ at. (store.slot.horizon ≤ at) × (at < store.slot.end)) store.places (number - store.slot.floor) start.job.horizon held.tables.within is.job.horizon).1 in
              let low : start.job.horizon ≤ store.slot.end = omega (arith, inside) in
              starts_with r start.job.attempt store.slot.next_attempt (Ok tt) (Ok name) here (running here some) a b (sym is.job.attempt) (λ begins. tt)
              (λ begins now. running_holds here r some b (started_phase r store number start (kept r held.tables) (free r held.tables).1 is) (begun_going r store number start held.tables is) now
              (begins_collecting here b r now number (kept r held.tables) (free r held.tables).1 start.job (begun_going r store number start held.tables is).placed is.job.end held.stands.standing.records store.slot.end (list told r number held is now.stands.standing)
              low (lent.lent tt)))
              refl lent

      pub started_begins : (now : Held) → now ≡ begun store start → (name : Hash) → ((r : Repository) → IsOf store r → IsTrue (is_retained r number) → name ≡ name_at r number) → Moment (Ok tt) now
          → BeginsCollecting tells number (Ok name) store (record now { collection = Some (new_collection number start.job) }) a b
      started_begins now is name named moment =
          subst (λ (s : Held). BeginsCollecting tells number (Ok name) store (running s some) a b) (sym is) (started_here name named (subst (λ (s : Held). Moment (Ok tt) s) is moment))

    -- of the two faults behind the plan
    module _ (f : CollectFault) (now : Held) (collection : now.collection ≡ store.collection) (unswept : now.unswept ≡ store.unswept) (behind : IsBegun {A = Unit {0}} (Err f) → now ≡ begun store start) (moment : Moment (Err f) now)
        (list : IsTrue tells → IsBegun {A = Unit {0}} (Err f) → (r : Repository) (n : ℕ) (held : Holds store a r) → IsStart r store n start → (image : Standing b.held) → image.records ≡ held.stands.standing.records ++ (store.slot.end, table_of r) ∷ []) where
      pub fault_begins : ◌≡◌ {A = Result (Unit {0}) CollectFault} (Err f) (Err CollectFault.Start) ⊎ ◌≡◌ {A = Result (Unit {0}) CollectFault} (Err f) (Err CollectFault.Ground) → BeginsCollecting tells number (Err f) store now a b
      fault_begins (inl e) =
          let same : f ≡ CollectFault.Start = cc (e) in
          let begins : IsBegun {A = Unit {0}} (Err f) = subst (λ (x : CollectFault). IsBegun {A = Unit {0}} (Err x)) (sym same) tt in
          subst (λ (x : CollectFault). BeginsCollecting tells number (Err x) store now a b) (sym same) (failed_begins (λ told. list told begins) now (behind begins) (subst (λ (x : CollectFault). Moment (Err x) now) same moment))
      fault_begins (inr e) =
          let same : f ≡ CollectFault.Ground = cc (e) in
          subst (λ (x : CollectFault). BeginsCollecting tells number (Err x) store now a b) (sym same) (cut_begins now collection unswept (subst (λ (x : CollectFault). Moment (Err x) now) same moment))
