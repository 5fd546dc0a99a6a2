-- A collection whose child has ended: it is heard of, and its check goes on.
--     heard_tables, heard_holds      once its child has ended, and its attempt is settled
--     with_tables, with_holds      with a check that is kept, or none
--     job_space, kept_check      what its check begins with
--     over_here      the records below the job's end are those of its check
--     begun_next      the check that begins.      none_looked      none was kept.      same_one, has_exit, put_check      the collection that keeps it
--     sliced_tables, sliced_holds, sliced_says, slices, looks_on      behind a slice of it.      begins_over, begins_checking      what a slice asks
--     zero_fits, ends_through, not_open, no_damage, blames_check, breaks_check, memory_check, unsaid_check, counts_check      what an answer of it says.      check_readable      where the live pair is no other's
use Rattle.std.proofs.Common.{◌≡◌, ◌≢◌, ◌⊎◌, inl, inr, ℕ, ◌+◌, ◌-◌, ◌^◌, ◌<◌, ◌≤◌, pos, [], Option, Some, None, true, refl, sym, ◌∙◌, ap, subst, arith}
use Rattle.std.proofs.lemmas.Bool.{false≢true}
use Rattle.std.specs.Prelude.{Result, Ok, Err, IsErr, IsErrOf, IsSome, IfSome, IfOk, OnOk, is_some}
use Rattle.ip_base.specs.declared.memory.Memory.{Memory}
use Rattle.ip_ground.specs.declared.names.FileName.{FileName}
use Rattle.ip_ground.specs.declared.names.FileName.TheVariants.{Mapping, Prefix}
use Rattle.ip_base.specs.declared.exit.Exit.TheVariants as Exit
use Rattle.ip_ground.specs.Counts.{Noted}
use Rattle.ip_ground.specs.declared.names.GroundFault.{GroundFault}
use Rattle.ip_base.specs.declared.exit.Reaped.{Reaped}
use Rattle.ip_ground.specs.Calls.{Settles}
use Rattle.ip_ground.specs.Counts.{Counts}
use Rattle.ip_ground.specs.Contents.{Image}
use Rattle.ip_ground.specs.Told.{Told, IsForeign, NoFile, ChangesOnly}
use Rattle.ip_ground.proofs.Lending.{own_settled, settled_at}
use Rattle.ip_spawn.specs.declared.job.Job.{Job}
use Rattle.ip_spec.specs.declared.reply.Difference.{Difference}
use Rattle.ip_spec.specs.Repository.{Repository}
use Rattle.ip_spec.specs.TreeAt.{Records, present}
use Rattle.ip_image.specs.declared.layout.Layout.{Layout}
use Rattle.ip_image.specs.declared.slot.Slot.{Slot}
use Rattle.ip_image.specs.Collected.{IsCollectable}
use Rattle.ip_image.specs.Collection.{Found, found_in}
use Rattle.ip_image.specs.Slot.{layout_of}
use Rattle.ip_image.proofs.CoreTies.{collection_ends}
use Rattle.ip_image.proofs.OneRepository.{all_records}
use Rattle.ip_space.specs.SpaceView.{SpaceView, IsReadable, bare, grown, records_of}
use Rattle.ip_space.proofs.Stayed.{byte_stays, only_looks}
use Rattle.ip_keep.specs.Whole.{AreRecords}
use Rattle.ip_keep.proofs.RunsApart.{apart_few, apart_total}
use Rattle.ip_check.specs.CheckView.{CheckView}
use Rattle.ip_check.specs.Checking.{Advances, EndsAs, IsBlamed, IsBrokenAt, IsBrokenIn, IsCheck, IsChecking, IsSpaceOf, IsVerdict, SameCheck, Says, begun, looked_by}
use Rattle.ip_check.specs.Faults.{IsUndamaged as IsCheckUndamaged, counted_check}
use Rattle.ip_check.specs.Going.{IsOver}
use Rattle.ip_check.specs.declared.check.Outcome.{Outcome}
use Rattle.ip_check.specs.declared.check.Stage.{Stage}
use Rattle.ip_check.specs.declared.fault.CheckFault.{CheckFault}
use Rattle.ip_held.specs.declared.collection.Collection.{Collection}
use Rattle.ip_held.specs.declared.held.Held.{Held}
use Rattle.ip_held.specs.Collecting.{Collects, HasEnded, IsGoing, IsOfChild, IsPhase, until}
use Rattle.ip_collects.specs.CollectFaults.{counted_finish}
use Rattle.ip_collects.specs.Finishing.{IsUndamaged, LooksOn, looked_at, looked_of}
use Rattle.ip_collects.specs.declared.finishing.FinishFault.{FinishFault}
use Rattle.ip_collects.specs.Judging.{EndsCheck, FindsNone, FitsExit, IsBlamedIn, IsCheckOf, IsDamagedIn, IsNextCheck, IsOpen, IsThrough, SlicesBy, TellsVerdict, verdict_by, with_check}
use Rattle.ip_held.specs.Held.{IsOf, Holds, OwnsPair}
use Rattle.ip_held.specs.Sweeping.{IsApart, ChangesBeside}
use Rattle.ip_held.proofs.Apart.{beside_for, holds_apart, list_apart}
use Rattle.ip_collects.proofs.Cancels.{below, for_settle, other}
use Rattle.ip_held.proofs.Listed.{none_current, readable_of, same_slot}
use Rattle.ip_held.proofs.Recovering.{held_has}
use Rattle.ip_held.proofs.Going.{phase_here, going_here, collects_here}
use Rattle.ip_collects.proofs.StartTurns.{running_holds, running_tables}
use Rattle.ip_held.proofs.Stepping.{holds_still}
use Rattle.ip_collects.proofs.Until.{standing_until}

no_exit : {X : Type 0} (exit : Option Reaped) → exit ≡ None → IsSome exit → X
no_exit exit none some = absurd (false≢true (ap is_some (sym none) ∙ some))

module _ (store : Held) (r : Repository) (c : Collection) (runs : store.collection ≡ Some c) where
  -- the store that it would be with another collection, or with none
  abbrev having : Option Collection → Held
  having o = record store { collection = o }

  -- ---- its child has ended

  module _ (none : c.exit ≡ None) (reaped : Reaped) (same : reaped.attempt ≡ c.job.attempt) where
    abbrev heard : Collection
    heard = record c { exit = Some reaped }

    -- so no check is kept
    unchecked : (check : Option CheckView) → IfSome check (λ k. IsCheck k × (k.job ≡ c.job) × (k.keep.space ≡ bare (grown store.space c.job.end)) × IsSome c.exit) → check ≡ None
    unchecked None is = refl
    unchecked (Some k) is = no_exit c.exit none is.3

    heard_phase : IsOf store r → IsPhase store.slot r heard
    heard_phase of = let p = phase_here store r c runs of in record { retained = p.retained; heads = p.heads; told = p.told; reaped = same }

    heard_going : IsOf store r → IsGoing store.slot.floor store.places store.unswept store.space heard
    heard_going of = let g = going_here store r c runs of in record {
      placed = g.placed;
      drawn = g.drawn;
      check = subst (λ (check : Option CheckView). IfSome check (λ k. IsCheck k × (k.job ≡ c.job) × (k.keep.space ≡ bare (grown store.space c.job.end)) × IsSome (Some reaped))) (sym (unchecked c.check g.check)) tt;
    }

    pub heard_tables : IsOf store r → IsOf (record store { collection = Some (record c { exit = Some reaped }) }) r
    heard_tables of = running_tables store r (Some heard) (heard_phase of) (heard_going of) of

    module _ (a b : Told) (held : Holds store a r) (u : Unit {0}) (settles : Settles reaped.attempt (Ok u) a b) where
      abbrev n : ℕ
      n = c.job.attempt

      ours : Settles n (Ok u) a b
      ours = subst (λ (m : ℕ). Settles m (Ok u) a b) same settles

      held_idle : Holds (having None) a r
      held_idle = running_holds store r None a tt tt held tt

      apart : (file : FileName) → NoFile file → IsApart store.slot file
      apart file nowhere = absurd nowhere

      changes : ChangesBeside n NoFile a b
      changes = beside_for n NoFile a b (for_settle n NoFile u a b ours)

      was : Holds (having None) b r
      was = holds_apart (having None) r a held_idle refl n (other store r a held c runs) (below store r a held c runs) NoFile apart b changes

      records : was.stands.standing.records ≡ held.stands.standing.records
      records = list_apart (having None) r a held_idle refl n (other store r a held c runs) (below store r a held c runs) NoFile apart b changes was.stands.standing ∙ all_records a.held held_idle.stands.standing held.stands.standing

      abbrev before : Records
      before = held.stands.standing.records

      collects : Collects a store.slot before r c
      collects = collects_here store r c runs a held

      ended : HasEnded b was.stands.standing.records heard
      ended = record {
        pair = b.held;
        settled = settled_at n a b (subst (IsOfChild a before c) none collects.child) ours;
        mapping = refl;
        prefix = refl;
        checked = subst (λ (check : Option CheckView). IfSome check (IsChecking (until c.job.end was.stands.standing.records) (found_in b.held n))) (sym (unchecked c.check (going_here store r c runs held.tables).check)) tt;
      }

      collects_on : Collects b store.slot was.stands.standing.records r heard
      collects_on = record {
        kept = collects.kept;
        collectable = subst (λ (rs : Records). IsCollectable rs r store.slot.horizon c.commit c.job.horizon c.job.end collects.kept true) (sym records)
            (collection_ends before r store.slot.horizon c.commit c.job.horizon c.job.end collects.kept (is_some c.exit) true collects.collectable);
        border = subst (λ (rs : Records). (c.job.end ≡ store.slot.end) ⊎ IsSome (present rs c.job.end)) (sym records) collects.border;
        child = ended;
      }

      settled_holds : Holds (record store { collection = Some (record c { exit = Some reaped }) }) b r
      settled_holds = running_holds (having None) r (Some heard) b (heard_phase held.tables) (heard_going held.tables) was collects_on

    pub heard_holds : (a b : Told) (res : Result (Unit {0}) GroundFault) → Settles reaped.attempt res a b → Holds store a r → OnOk res (Holds (record store { collection = Some (record c { exit = Some reaped }) }) b r)
    heard_holds a b (Ok u) settles held = settled_holds a b held u settles
    heard_holds a b (Err e) settles held = tt

  -- ---- its check

  -- the job is that of the store's space
  pub job_space : IsOf store r → IsSpaceOf c.job store.space
  job_space of =
      let told = (phase_here store r c runs of).told in
      subst (λ (l : Layout). IsSpaceOf c.job (record { layout = l; runs = store.space.runs; kept = store.space.kept })) (sym of.space.layout)
      (record { chunk = told.chunk; live = told.live; old_horizon = told.old_horizon; prefix_len = told.prefix_len; rows = told.rows; end = told.end })

  module _ (some : IsSome c.exit) where
    checks : (check : Option CheckView) → IfSome check (λ k. IsCheck k × (k.job ≡ c.job) × (k.keep.space ≡ bare (grown store.space c.job.end)) × IsSome c.exit) → IfSome check (IsCheckOf c store.space)
    checks None is = tt
    checks (Some k) is = record { check = is.0; job = is.1; space = is.2 }

    checked : (check : Option CheckView) → IfSome check (IsCheckOf c store.space) → IfSome check (λ k. IsCheck k × (k.job ≡ c.job) × (k.keep.space ≡ bare (grown store.space c.job.end)) × IsSome c.exit)
    checked None is = tt
    checked (Some k) is = (is.check, is.job, is.space, some)

    pub kept_check : IsOf store r → IfSome c.check (IsCheckOf c store.space)
    kept_check of = checks c.check (going_here store r c runs of).check

    with_phase : (check : Option CheckView) → IsOf store r → IsPhase store.slot r (record c { check = check })
    with_phase check of = let p = phase_here store r c runs of in record { retained = p.retained; heads = p.heads; told = p.told; reaped = p.reaped }

    with_going : (check : Option CheckView) → IfSome check (IsCheckOf c store.space) → IsOf store r → IsGoing store.slot.floor store.places store.unswept store.space (record c { check = check })
    with_going check is of = let g = going_here store r c runs of in record { placed = g.placed; drawn = g.drawn; check = checked check is }

    pub with_tables : (check : Option CheckView) → IfSome check (IsCheckOf c store.space) → IsOf store r → IsOf (with_check store c check) r
    with_tables check is of = running_tables store r (Some (record c { check = check })) (with_phase check of) (with_going check is of) of

    -- ---- where the ground tells

    module _ (told : Told) (held : Holds store told r) where
      abbrev all : Records
      all = held.stands.standing.records

      abbrev early : Records
      early = until c.job.end all

      of_child : (exit : Option Reaped) → IsSome exit → IsOfChild told all c exit → HasEnded told all c
      of_child None none is = no_exit None refl none
      of_child (Some reaped) one is = is

      pub has_ended : HasEnded told held.stands.standing.records c
      has_ended = of_child c.exit some (collects_here store r c runs told held).child

      -- what the check that is kept has found
      pub kept_checking : IfSome c.check (IsChecking (until c.job.end held.stands.standing.records) (found_in told.held c.job.attempt))
      kept_checking = has_ended.checked

      child_with : (check : Option CheckView) → IfSome check (IsChecking early (found_in told.held c.job.attempt)) → (exit : Option Reaped) → IsSome exit → IsOfChild told all (record c { check = check }) exit
      child_with check is None none = no_exit None refl none
      child_with check is (Some reaped) one = record { pair = has_ended.pair; settled = has_ended.settled; mapping = has_ended.mapping; prefix = has_ended.prefix; checked = is }

      pub with_holds : (check : Option CheckView) → IfSome check (IsCheckOf c store.space) → IfSome check (IsChecking (until c.job.end held.stands.standing.records) (found_in told.held c.job.attempt)) → Holds (with_check store c check) told r
      with_holds check is found = running_holds store r (Some (record c { check = check })) told (with_phase check held.tables) (with_going check is held.tables) held (let q = collects_here store r c runs told held in record {
        kept = q.kept;
        collectable = q.collectable;
        border = q.border;
        child = child_with check found c.exit some;
      })

      -- the slot of the image is the store's
      slot_is : held.stands.standing.slot ≡ store.slot
      slot_is = same_slot told.held store.slot (held_has store r told held) held.stands.standing

      border : (c.job.end ≡ held.stands.standing.slot.end) ⊎ IsSome (present all c.job.end)
      border = elim (collects_here store r c runs told held).border [
        | inl is ↦ inl (is ∙ ap (λ (s : Slot). s.end) (sym slot_is))
        | inr there ↦ inr there
      ]

      whole : AreRecords told.held (bare (grown store.space c.job.end)) c.job.horizon early
      whole =
          let job = (phase_here store r c runs held.tables).told in
          let low = ap (λ (s : Slot). s.horizon) slot_is in
          let high = ap (λ (s : Slot). s.end) slot_is in
          standing_until told.held held.stands.standing (bare store.space) c.job.horizon c.job.end (held.tables.space.layout ∙ ap layout_of (sym slot_is)) held.runs
          (let up = job.valid.horizon in let old = job.old_horizon in omega (arith, low, up, old)) job.valid.some (let end = job.end in omega (arith, high, end)) (ap is_some (collects_here store r c runs told held).collectable.here) border

      pub over_here : (k : CheckView) → IsCheckOf c store.space k → IsOver told (until c.job.end held.stands.standing.records) k
      over_here k of = record {
        readable = subst (IsReadable told) (sym of.space) (let own = readable_of store r told held in record { own = own.own; none = own.none; kept = none_current (records_of told (bare (grown store.space c.job.end))) [] refl });
        fixed = record {
          mapping = λ foreign. own_settled c.job.attempt told has_ended.pair (Mapping k.job.attempt) has_ended.settled attempt foreign;
          prefix = λ foreign. own_settled c.job.attempt told has_ended.pair (Prefix k.job.attempt) has_ended.settled attempt foreign;
        };
        whole = subst (λ (h : ℕ). AreRecords told.held k.keep.space h early) (sym horizon) (subst (λ (s : SpaceView). AreRecords told.held s c.job.horizon early) (sym of.space) whole);
      }
        where
          attempt : k.job.attempt ≡ c.job.attempt
          attempt = ap (λ (j : Job). j.attempt) of.job

          horizon : k.keep.horizon ≡ c.job.horizon
          horizon = of.check.horizon ∙ ap (λ (j : Job). j.horizon) of.job

    -- ---- a slice

    module _ (k : CheckView) (next : IsNextCheck c store.space k) (now : CheckView) (is : IsCheck now) (same : SameCheck k now) where
      still_of : IsCheckOf c store.space now
      still_of = record { check = is; job = same.job ∙ next.of.job; space = same.space ∙ next.of.space }

      pub sliced_tables : IsOf store r → IsOf (with_check store c (Some now)) r
      sliced_tables of = with_tables (Some now) still_of of

      module _ (a : Told) (held : Holds store a r) where
        -- what it begins with
        pub begins_over : IsOver a (until c.job.end held.stands.standing.records) k
        begins_over = over_here a held k next.of

        pub begins_checking : IsChecking (until c.job.end held.stands.standing.records) (found_in a.held k.job.attempt) k
        begins_checking = subst (λ (j : Job). IsChecking (until c.job.end held.stands.standing.records) (found_in a.held j.attempt) k) (sym next.of.job)
            (next.checking a.held (until c.job.end held.stands.standing.records) (found_in a.held c.job.attempt) (whole a held) (kept_checking a held))

        pub sliced_holds : (b : Told) → ChangesOnly NoFile a b → IsChecking (until c.job.end held.stands.standing.records) (found_in a.held k.job.attempt) now → Holds (with_check store c (Some now)) b r
        sliced_holds b only found = holds_still (with_check store c (Some now)) r a b only
            (with_holds a held (Some now) still_of (subst (λ (j : Job). IsChecking (until c.job.end held.stands.standing.records) (found_in a.held j.attempt) now) next.of.job found))

        pub sliced_says : (result : Result Outcome CheckFault) (left : ℕ) → Says (until c.job.end held.stands.standing.records) k.job (found_in a.held k.job.attempt) result → TellsVerdict held.stands.standing.records c a (verdict_by result left)
        sliced_says (Ok Outcome.More) left says = tt
        sliced_says (Ok Outcome.Valid) left says = subst (λ (j : Job). IsVerdict (until c.job.end held.stands.standing.records) j (found_in a.held j.attempt) None) next.of.job says
        sliced_says (Ok (Outcome.Differs difference)) left says = subst (λ (j : Job). IsVerdict (until c.job.end held.stands.standing.records) j (found_in a.held j.attempt) (Some difference)) next.of.job says
        sliced_says (Err fault) left says = tt

      -- what was looked at is not to be looked at again, and at most so many more were looked at
      pub looks_on : (most : ℕ) (result : Result Outcome CheckFault) → Advances most k now result → LooksOn most c (Some now)
      looks_on most result goes = subst (λ (n : ℕ). (n ≤ looked_by now) × (looked_by now ≤ n + most)) next.looked (goes.low, goes.high)

      pub slices : (most left : ℕ) (result : Result Outcome CheckFault) → Advances most k now result → left + now.keep.next ≡ now.job.end → SlicesBy most c (verdict_by result left) (Some (record c { check = Some now }))
      slices most left (Ok Outcome.More) goes rest = (goes.ends, goes.more refl ∙ ap (λ (n : ℕ). n + most) next.looked, rest ∙ ap (λ (j : Job). j.end) (same.job ∙ next.of.job))
      slices most left (Ok Outcome.Valid) goes rest = tt
      slices most left (Ok (Outcome.Differs difference)) goes rest = tt
      slices most left (Err fault) goes rest = tt

-- ---- what an answer of the check says

pub zero_fits : (result : Result Outcome CheckFault) (left : ℕ) → FitsExit (Exit.Code (pos 0)) (verdict_by result left)
zero_fits (Ok Outcome.More) left = refl
zero_fits (Ok Outcome.Valid) left = refl
zero_fits (Ok (Outcome.Differs difference)) left = refl
zero_fits (Err CheckFault.Ground) left = (refl, tt)
zero_fits (Err (CheckFault.Damaged at)) left = (refl, tt)
zero_fits (Err CheckFault.Memory) left = (refl, tt)

pub ends_through : (c : Collection) (now : CheckView) (result : Result Outcome CheckFault) (left : ℕ) → EndsAs now result → EndsCheck (verdict_by result left) (Some (record c { check = Some now }))
ends_through c now (Ok Outcome.More) left ends = tt
ends_through c now (Ok Outcome.Valid) left ends = ends
ends_through c now (Ok (Outcome.Differs difference)) left ends = tt
ends_through c now (Err fault) left ends = tt

-- fewer records are looked at than a number of 64 bits says
few_looks : (k : CheckView) → IsCheck k → looked_by k < 2 ^ 64 - 1
few_looks k is =
    let total = apart_total k.keep.horizon k.keep.kept is.keep.apart in
    let few = apart_few k.keep.horizon k.keep.kept is.keep.apart in
    let ends = is.keep.ends in
    let low = is.keep.low in
    let high = is.keep.high in
    let seen = is.keep.seen in
    let compared = is.compared in
    omega (arith, total, few, ends, low, high, seen, compared)

pub not_open : (most : ℕ) (k now : CheckView) (result : Result Outcome CheckFault) (left : ℕ) → IsCheck now → Advances most k now result → most ≡ 2 ^ 64 - 1 → ¬ IsOpen (verdict_by result left)
not_open most k now (Ok Outcome.More) left is goes all not = let looks = goes.more refl in let few = few_looks now is in absurd (omega (arith, looks, few, all))
not_open most k now (Ok Outcome.Valid) left is goes all not = not
not_open most k now (Ok (Outcome.Differs difference)) left is goes all not = not
not_open most k now (Err fault) left is goes all not = not

pub no_damage : (result : Result Outcome CheckFault) (left : ℕ) → IsCheckUndamaged result → IsUndamaged (verdict_by result left)
no_damage (Ok Outcome.More) left none = tt
no_damage (Ok Outcome.Valid) left none = tt
no_damage (Ok (Outcome.Differs difference)) left none = tt
no_damage (Err CheckFault.Ground) left none = tt
no_damage (Err (CheckFault.Damaged at)) left none = none at refl
no_damage (Err CheckFault.Memory) left none = tt

-- damage is where the check found it
damaged_check : (P : ℕ → Type 0) (result : Result Outcome CheckFault) (left : ℕ) → ((at : ℕ) → IsErrOf result (CheckFault.Damaged at) → P at) → (at : ℕ) → IsErrOf (verdict_by result left) (FinishFault.Damaged at) → P at
damaged_check P (Ok Outcome.More) left says at is = absurd (cc (is))
damaged_check P (Ok Outcome.Valid) left says at is = absurd (cc (is))
damaged_check P (Ok (Outcome.Differs difference)) left says at is = absurd (cc (is))
damaged_check P (Err CheckFault.Ground) left says at is = absurd (cc (is))
damaged_check P (Err (CheckFault.Damaged place)) left says at is = says at (let same : place ≡ at = cc (is) in ap (λ (n : ℕ). Err (CheckFault.Damaged n)) same)
damaged_check P (Err CheckFault.Memory) left says at is = absurd (cc (is))

pub blames_check : (c : Collection) (now : CheckView) (result : Result Outcome CheckFault) (left : ℕ) → ((at : ℕ) → IsErrOf result (CheckFault.Damaged at) → IsBlamed now at) → (at : ℕ) → IsErrOf (verdict_by result left) (FinishFault.Damaged at) → IsBlamedIn (Some (record c { check = Some now })) at
blames_check c now result left blames at is = inr (damaged_check (IsBlamed now) result left blames at is)

-- and what is wrong there is so still behind calls that change no file
broken_on : (a b : Told) (k : CheckView) (at : ℕ) → ChangesOnly NoFile a b → IsReadable a k.keep.space → IsBrokenIn a k at → IsBrokenIn b k at
broken_on a b k at only readable = turned k.stage
  where
    turned : (s : Stage) → IsBrokenAt a k at s → IsBrokenAt b k at s
    turned Stage.Keeping broken = λ rec there. broken rec (sym ((only_looks a b only k.keep.space).records readable at) ∙ there)
    turned (Stage.Comparing place) broken = record {
      records = broken.records;
      linked = broken.linked;
      gap = broken.gap;
      inside = broken.inside;
      missing = byte_stays a b only k.keep.space readable (at + broken.gap) ∙ broken.missing;
    }
    turned (Stage.Through told) broken = broken

-- a check's space is readable where the live pair is no other's
pub check_readable : (store : Held) (r : Repository) (c : Collection) (k : CheckView) (told : Told) → IsOf store r → OwnsPair told store.slot → IsCheckOf c store.space k → IsReadable told k.keep.space
check_readable store r c k told of owns is = subst (IsReadable told) (sym is.space) (record {
  own = λ some. subst (λ (n : ℕ). ¬ IsForeign told (Prefix n)) (sym live) (owns (λ none. some (live ∙ none))).prefix;
  none = λ none. of.space.runs (sym live ∙ none);
  kept = none_current (records_of told (bare (grown store.space c.job.end))) [] refl;
})
  where
    live : store.space.layout.live ≡ store.slot.live
    live = ap (λ (l : Layout). l.live) of.space.layout

pub breaks_check : (c : Collection) (k now : CheckView) (a b : Told) → ChangesOnly NoFile a b → IsReadable a k.keep.space → now.keep.space ≡ k.keep.space → (result : Result Outcome CheckFault) (left : ℕ) → ((at : ℕ) → IsErrOf result (CheckFault.Damaged at) → IsBrokenIn a now at)
    → (at : ℕ) → IsErrOf (verdict_by result left) (FinishFault.Damaged at) → IsDamagedIn b (Some (record c { check = Some now })) at
breaks_check c k now a b only readable same result left breaks at is =
    inr (damaged_check (IsBrokenIn b now) result left (λ place damaged. broken_on a b now place only (subst (IsReadable a) (sym same) readable) (breaks place damaged)) at is)

-- where memory was wanted there is no verdict
pub memory_check : (c : Collection) (now : CheckView) (result : Result Outcome CheckFault) (left : ℕ) → (IsErr result → (told : Option Difference) → now.stage ≢ Stage.Through told) → verdict_by result left ≡ Err FinishFault.Memory → FindsNone (Some (record c { check = Some now }))
memory_check c now (Ok Outcome.More) left unsaid is = absurd (cc (is))
memory_check c now (Ok Outcome.Valid) left unsaid is = absurd (cc (is))
memory_check c now (Ok (Outcome.Differs difference)) left unsaid is = absurd (cc (is))
memory_check c now (Err fault) left unsaid is = λ difference. unsaid refl (Some difference)

-- nor behind any fault one that the pair is valid
pub unsaid_check : (c : Collection) (now : CheckView) (result : Result Outcome CheckFault) (left : ℕ) → (IsErr result → (told : Option Difference) → now.stage ≢ Stage.Through told) → IsErr (verdict_by result left) → ¬ IsThrough (Some (record c { check = Some now }))
unsaid_check c now (Ok Outcome.More) left unsaid is = absurd (cc (is))
unsaid_check c now (Ok Outcome.Valid) left unsaid is = absurd (cc (is))
unsaid_check c now (Ok (Outcome.Differs difference)) left unsaid is = absurd (cc (is))
unsaid_check c now (Err fault) left unsaid is = λ through. unsaid refl None through

pub counts_check : (result : Result Outcome CheckFault) (left : ℕ) (d e : Noted) → Counts counted_check result d e → Counts counted_finish (verdict_by result left) d e
counts_check (Ok Outcome.More) left d e counts = counts
counts_check (Ok Outcome.Valid) left d e counts = counts
counts_check (Ok (Outcome.Differs difference)) left d e counts = counts
counts_check (Err CheckFault.Ground) left d e counts = counts
counts_check (Err (CheckFault.Damaged at)) left d e counts = counts
counts_check (Err CheckFault.Memory) left d e counts = counts

-- ---- the check that begins

pub begun_next : (c : Collection) (over : SpaceView) → c.check ≡ None → (result : Result CheckView Memory) → IfOk result (λ k. k ≡ begun c.job over) → IfOk result IsCheck
    → IfOk result (λ k. (image : Image) (records : Records) (found : Found) → AreRecords image k.keep.space k.keep.horizon records → IsChecking records found k) → IfOk result (IsNextCheck c over)
begun_next c over none (Err e) is check checking = tt
begun_next c over none (Ok k) is check checking = record {
  of = record { check = check; job = ap (λ (v : CheckView). v.job) is; space = ap (λ (v : CheckView). v.keep.space) is };
  looked = ap looked_by is ∙ sym (ap looked_of none);
  checking = λ image records found whole kept. checking image records found (subst (λ (v : CheckView). AreRecords image v.keep.space v.keep.horizon records) (sym is) whole);
}

-- no check was kept, so nothing is lost
pub none_looked : (most : ℕ) (c : Collection) → c.check ≡ None → LooksOn most c None
none_looked most c none = subst (λ (n : ℕ). (n ≤ 0) × (0 ≤ n + most)) (sym (ap looked_of none)) (omega arith, omega arith)

-- ---- the store that it is kept in

pub same_one : (o : Option Collection) (x y : Collection) → o ≡ Some x → o ≡ Some y → x ≡ y
same_one o x y one other = cc (one, other)

pub has_exit : (o : Option Collection) (x : Collection) → o ≡ Some x → (c : Collection) × (o ≡ Some c) × IsSome c.exit → IsSome x.exit
has_exit o x is running = subst (λ (c : Collection). IsSome c.exit) (same_one o running.0 x running.1 is) running.2

-- behind the one that was taken out
pub put_check : (store : Held) (x y : Collection) (now : Option CheckView) → y ≡ record x { check = None } → record store { collection = Some (record y { check = now }) } ≡ with_check store x now
put_check store x y now taken = λ i. record store { collection = Some (record (taken i) { check = now }) }
