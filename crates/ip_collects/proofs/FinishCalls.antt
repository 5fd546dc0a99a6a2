-- The end of a collection, from what was heard of the child to what was met.
--     some_heard, may_hear      how it ended is heard of a collection that runs.      exit_known, exit_unknown, known_same      an exit that was kept, and none.      same_running      of two collections that run
--     end_goes, end_loud, end_finishes, end_works      the child has ended
--     goes_idle, goes_wait, goes_runs      nothing was heard of its end
--     goes_cut, cut_finishes      it was heard, and its attempt could not be settled
--     goes_on, on_finishes, on_bounded, on_works, on_owns, on_untouched, on_counts      it was, whether it was heard now or before
use Rattle.std.proofs.Common.{◌≡◌, ◌≢◌, ◌≤◌, ◌⊎◌, inl, inr, ℕ, List, true, false, Some, None, Option, refl, sym, ◌∙◌, ap, subst, arith}
use Rattle.std.specs.Prelude.{Result, Ok, Err, OnErr, IfSome, IsSome, IsSomeAnd, is_some}
use Rattle.ip_base.specs.declared.exit.Exit.{Exit}
use Rattle.ip_ground.specs.declared.names.FileName.{FileName}
use Rattle.ip_ground.specs.declared.names.FileName.TheVariants.{Control, Mapping, Prefix}
use Rattle.ip_ground.specs.Counts.{Noted}
use Rattle.ip_ground.specs.declared.names.GroundFault.{GroundFault}
use Rattle.ip_base.specs.declared.exit.Reaped.{Reaped}
use Rattle.ip_ground.specs.Custody.{lent}
use Rattle.ip_ground.specs.Told.{Told, lending, NoFile, ChangesOnly}
use Rattle.ip_ground.proofs.Spans.{lending_now, only_more}
use Rattle.ip_spec.specs.declared.command.Command.{Command}
use Rattle.ip_spec.specs.declared.met.Child.{Child}
use Rattle.ip_spec.specs.declared.met.Met.{Met}
use Rattle.ip_spec.specs.declared.reply.Difference.{Difference}
use Rattle.ip_spec.specs.declared.reply.Reply.{Reply}
use Rattle.ip_spec.specs.Machine.{Conditions, Phase, State, Work as MachineWork, empty_work}
use Rattle.ip_spec.specs.Repository.{Repository}
use Rattle.ip_spec.specs.Step.{Turned, collected_at, turned}
use Rattle.ip_spec.specs.TreeAt.{Records, present}
use Rattle.ip_image.specs.declared.slot.Slot.{Slot}
use Rattle.ip_space.specs.SpaceView.{SpaceView, bare, grown}
use Rattle.ip_image.proofs.OneRepository.{all_records, one_repository}
use Rattle.ip_check.specs.CheckView.{CheckView}
use Rattle.ip_check.specs.Checking.{IsCheck}
use Rattle.ip_check.specs.declared.check.Stage.TheVariants as Stage
use Rattle.ip_held.specs.declared.collection.Collection.{Collection}
use Rattle.ip_held.specs.declared.collection.Unswept.{Unswept}
use Rattle.ip_collects.specs.declared.finishing.FinishFault.{FinishFault}
use Rattle.ip_collects.specs.declared.finishing.Looked.{Looked}
use Rattle.ip_held.specs.declared.held.Held.{Held}
use Rattle.ip_held.specs.Collecting.{Collects, IsGoing, IsOfChild, phase_of, child_of}
use Rattle.ip_collects.specs.Ending.{Ends, EndsBy, FitsEnd, Goes, GoesOnAs, IsHeardIn, Listens, MayBeHeard, after_by, after_with}
use Rattle.ip_collects.specs.Judging.{IsThrough, is_zero}
use Rattle.ip_collects.specs.Finishing.{Concludes, CountsFinish, FinishesAs, FinishesBy, HasAnswer, IsAsked, IsCollected, IsKept, IsOver, IsQuiet, IsUndamaged, KeepsCollection, LookReplies, LooksOn, LooksWithin, MayTouch, Slices, SlotBy, TurnsBy, WorksStay, conditions_by, difference_in, looked_at, looked_of, met_by_finish, repository_after}
use Rattle.ip_held.specs.Held.{IsOf, Holds, OwnsPair, image_records}
use Rattle.ip_held.specs.Sweeping.{EndsFor}
use Rattle.ip_held.specs.Work.{IsLawful, state_at}
use Rattle.ip_held.proofs.Apart.{beside_only}
use Rattle.ip_collects.proofs.Cancels as Over
use Rattle.ip_collects.proofs.FinishEnds.{no_limit}
use Rattle.ip_collects.proofs.FinishSpans.{Spared, atomic_front, atomic_still, spared_by}
use Rattle.ip_collects.proofs.Ended.{ends_more, ends_on, ends_only}
use Rattle.ip_collects.proofs.FinishTurns.{IsEnding, each_look, met_heard, met_of, repository_is, told_difference, turn_of, turned_heard, turns_end, turns_none, turns_runs, turns_wait}
use Rattle.ip_held.proofs.Going.{going_here, phase_here}
use Rattle.ip_held.proofs.KeptFiles.{keeps_on, keeps_store, nothing_else}
use Rattle.ip_held.proofs.LeftImages.{swapped_front, swapped_still}
use Rattle.ip_held.proofs.SlotLaws.{slots_still, slots_then}
use Rattle.ip_collects.proofs.WorksRemain.{works_remain}

-- ---- an exit that is kept, and none

same_reaped : (a b : Reaped) → Child.Ended a ≡ Child.Ended b → a ≡ b
same_reaped a b e = cc (e)

pub exit_known : (exit : Option Reaped) (n : ℕ) (reaped : Reaped) → MayBeHeard exit n (Child.Ended reaped) → is_some exit ≡ true → exit ≡ Some reaped
exit_known None n reaped may some = absurd (cc (some))
exit_known (Some kept) n reaped may some = ap Some (sym (same_reaped reaped kept may))

pub exit_unknown : (exit : Option Reaped) (n : ℕ) (reaped : Reaped) → MayBeHeard exit n (Child.Ended reaped) → is_some exit ≡ false → (exit ≡ None) × (reaped.attempt ≡ n)
exit_unknown None n reaped may none = (refl, may)
exit_unknown (Some kept) n reaped may none = absurd (cc (none))

pub known_same : (store : Held) (c : Collection) (reaped : Reaped) → store.collection ≡ Some c → c.exit ≡ Some reaped → store ≡ record store { collection = Some (record c { exit = Some reaped }) }
known_same store c reaped runs kept = λ i. record store { collection = (runs ∙ ap (λ (e : Option Reaped). Some (record c { exit = e })) kept) i }

pub same_running : (o : Option Collection) (c d : Collection) → o ≡ Some c → o ≡ Some d → c ≡ d
same_running o c d one other = cc (one, other)

same_kept : (c d : Collection) (a b : Reaped) → c.exit ≡ Some a → c ≡ d → d.exit ≡ Some b → a ≡ b
same_kept c d a b one same other = (let both : Some a ≡ Some b = sym one ∙ ap (λ (x : Collection). x.exit) same ∙ other in cc (both))

-- the exit that was kept is what is heard
kept_heard : (exit : Option Reaped) (n : ℕ) (reaped other : Reaped) → MayBeHeard exit n (Child.Ended reaped) → exit ≡ Some other → reaped ≡ other
kept_heard None n reaped other may is = absurd (cc (is))
kept_heard (Some kept) n reaped other may is = (let same : kept ≡ other = cc (is) in same_reaped reaped kept may ∙ same)

no_exit : (exit : Option Reaped) → exit ≡ None → IsSome exit → ⊥
no_exit None none some = cc (some)
no_exit (Some kept) none some = cc (none)

-- no check is kept of a child whose end was not heard
unchecked : (floor : ℕ) (places : List ℕ) (u : Unswept) (space : SpaceView) (c : Collection) → IsGoing floor places u space c → c.exit ≡ None → ¬ IsThrough (Some c)
unchecked floor places u space c going none through = by c.check going.check through
  where
    by : (check : Option CheckView) → IfSome check (λ k. IsCheck k × (k.job ≡ c.job) × (k.keep.space ≡ bare (grown space c.job.end)) × IsSome c.exit) → IsSomeAnd check (λ k. k.stage ≡ Stage.Through None) → ⊥
    by None is through = absurd through
    by (Some k) is through = no_exit c.exit none is.3

-- damage is found only in a check, which is made only of what was written by a child that ended with code 0
damage_zero : (exit : Exit) (c : Collection) (left : ℕ) (result : Result Looked FinishFault) → FitsEnd exit c left result → ¬ IsUndamaged result → is_zero exit
damage_zero exit c left (Err (FinishFault.Damaged at)) fits not = fits
damage_zero exit c left (Ok looked) fits not = absurd (not tt)
damage_zero exit c left (Err FinishFault.Idle) fits not = absurd (not tt)
damage_zero exit c left (Err FinishFault.Wait) fits not = absurd (not tt)
damage_zero exit c left (Err (FinishFault.Rejected rejection)) fits not = absurd (not tt)
damage_zero exit c left (Err (FinishFault.Limit limit)) fits not = absurd (not tt)
damage_zero exit c left (Err FinishFault.Ground) fits not = absurd (not tt)
damage_zero exit c left (Err FinishFault.Memory) fits not = absurd (not tt)

-- ---- what an answer is not

no_quiet : {X : Type 0} (exit : Exit) (c : Collection) (left : ℕ) (result : Result Looked FinishFault) → FitsEnd exit c left result → IsQuiet result → X
no_quiet exit c left (Ok Looked.Running) fits is = absurd fits
no_quiet exit c left (Ok (Looked.Checking bytes)) fits is = absurd is
no_quiet exit c left (Ok (Looked.Collected collected)) fits is = absurd is
no_quiet exit c left (Err FinishFault.Idle) fits is = absurd fits
no_quiet exit c left (Err FinishFault.Wait) fits is = absurd fits
no_quiet exit c left (Err (FinishFault.Rejected rejection)) fits is = absurd is
no_quiet exit c left (Err (FinishFault.Limit limit)) fits is = absurd is
no_quiet exit c left (Err FinishFault.Ground) fits is = absurd is
no_quiet exit c left (Err (FinishFault.Damaged at)) fits is = absurd is
no_quiet exit c left (Err FinishFault.Memory) fits is = absurd is

-- a collection that goes on keeps how its child ended
held_none : (reaped : Reaped) (c : Collection) (now : Option Collection) → c.exit ≡ Some reaped → (check : Option CheckView) → now ≡ Some (record c { check = check }) → child_of now ≡ None
held_none reaped c now kept check is = ap child_of is ∙ ap (λ (e : Option Reaped). child_of (Some (record c { exit = e; check = check }))) kept

child_behind : (most : ℕ) (exit : Exit) (reaped : Reaped) (c : Collection) (left : ℕ) (result : Result Looked FinishFault) (now : Option Collection) → c.exit ≡ Some reaped → FitsEnd exit c left result → GoesOnAs most result c now → child_of now ≡ None
child_behind most exit reaped c left (Ok Looked.Running) now kept fits goes = absurd fits
child_behind most exit reaped c left (Ok (Looked.Checking bytes)) now kept fits goes = held_none reaped c now kept goes.0 goes.1
child_behind most exit reaped c left (Ok (Looked.Collected collected)) now kept fits goes = ap child_of goes
child_behind most exit reaped c left (Err FinishFault.Idle) now kept fits goes = absurd fits
child_behind most exit reaped c left (Err FinishFault.Wait) now kept fits goes = absurd fits
child_behind most exit reaped c left (Err (FinishFault.Rejected rejection)) now kept fits goes = ap child_of goes
child_behind most exit reaped c left (Err (FinishFault.Limit limit)) now kept fits goes = ap child_of goes
child_behind most exit reaped c left (Err FinishFault.Ground) now kept fits goes = held_none reaped c now kept goes.0 goes.1
child_behind most exit reaped c left (Err (FinishFault.Damaged at)) now kept fits goes = held_none reaped c now kept goes.0 goes.1
child_behind most exit reaped c left (Err FinishFault.Memory) now kept fits goes = held_none reaped c now kept goes.0 goes.1

kept_so : (most : ℕ) (reaped : Reaped) (c : Collection) (now : Option Collection) → c.exit ≡ Some reaped → (check : Option CheckView) → now ≡ Some (record c { check = check }) → LooksOn most c check → KeepsCollection most c reaped now
kept_so most reaped c now kept check is looked = record { same = record c { check = check }; is = is; commit = refl; job = refl; exit = kept; looked = looked }

kept_behind : (most : ℕ) (reaped : Reaped) (c : Collection) (result : Result Looked FinishFault) (now : Option Collection) → c.exit ≡ Some reaped → GoesOnAs most result c now → IsKept result → KeepsCollection most c reaped now
kept_behind most reaped c (Ok Looked.Running) now kept goes is = absurd is
kept_behind most reaped c (Ok (Looked.Checking bytes)) now kept goes is = kept_so most reaped c now kept goes.0 goes.1 goes.2
kept_behind most reaped c (Ok (Looked.Collected collected)) now kept goes is = absurd is
kept_behind most reaped c (Err FinishFault.Memory) now kept goes is = kept_so most reaped c now kept goes.0 goes.1 goes.2
kept_behind most reaped c (Err FinishFault.Idle) now kept goes is = absurd is
kept_behind most reaped c (Err FinishFault.Wait) now kept goes is = absurd is
kept_behind most reaped c (Err (FinishFault.Rejected rejection)) now kept goes is = absurd is
kept_behind most reaped c (Err (FinishFault.Limit limit)) now kept goes is = absurd is
kept_behind most reaped c (Err FinishFault.Ground) now kept goes is = absurd is
kept_behind most reaped c (Err (FinishFault.Damaged at)) now kept goes is = absurd is

over_behind : (most : ℕ) (c : Collection) (result : Result Looked FinishFault) (now : Option Collection) → GoesOnAs most result c now → IsOver result → now ≡ None
over_behind most c (Ok Looked.Running) now goes is = absurd is
over_behind most c (Ok (Looked.Checking bytes)) now goes is = absurd is
over_behind most c (Ok (Looked.Collected collected)) now goes is = goes
over_behind most c (Err FinishFault.Memory) now goes is = absurd is
over_behind most c (Err FinishFault.Idle) now goes is = absurd is
over_behind most c (Err FinishFault.Wait) now goes is = absurd is
over_behind most c (Err (FinishFault.Rejected rejection)) now goes is = goes
over_behind most c (Err (FinishFault.Limit limit)) now goes is = goes
over_behind most c (Err FinishFault.Ground) now goes is = absurd is
over_behind most c (Err (FinishFault.Damaged at)) now goes is = absurd is

answered_after : (result : Result Looked FinishFault) (difference : Option Difference) (r : Repository) (c : Collection) → HasAnswer result → after_with result difference r c ≡ after_by result r c
answered_after (Ok x) difference r c has = refl
answered_after (Err FinishFault.Idle) difference r c has = refl
answered_after (Err FinishFault.Wait) difference r c has = refl
answered_after (Err (FinishFault.Rejected rejection)) difference r c has = refl
answered_after (Err (FinishFault.Limit limit)) difference r c has = refl
answered_after (Err FinishFault.Memory) difference r c has = refl
answered_after (Err FinishFault.Ground) difference r c has = absurd has
answered_after (Err (FinishFault.Damaged at)) difference r c has = absurd has

-- ---- the child has ended

module _ (store : Held) (c : Collection) (runs : store.collection ≡ Some c) (reaped : Reaped) (kept : c.exit ≡ Some reaped) (most : ℕ) (result : Result Looked FinishFault) (left : ℕ) (now : Held) (ends : Ends reaped.exit most c result left store now) where
  abbrev said : Met
  said = met_by_finish (Child.Ended reaped) result left

  concludes : (r : Repository) → IsOf store r → (command : Command) → IsAsked command result → LookReplies result (Concludes r (Some c) command (conditions_by said result) now)
  concludes r of command asked =
      each_look (λ reply. (work : MachineWork) → TurnsBy (state_at r (phase_of (Some c)) work) command (met_of (Child.Ended reaped) result left (difference_in result)) reply (state_at (after_by result r c) (phase_of now.collection) work))
      (Concludes r (Some c) command (conditions_by said result) now) result (λ has reply turns. record { after = after_by result r c; turns = turns; tables = ends.tables r of has })
      (turns_end r c reaped kept result left (difference_in result) ends.fits ends.none (told_difference result) command asked most now.collection ends.goes_on)

  pub end_goes : Goes (Child.Ended reaped) most result (met_by_finish (Child.Ended reaped) result left) store now
  end_goes = record {
    left = left;
    told = refl;
    answered = λ r of command asked. subst (λ (o : Option Collection). LookReplies result (Concludes r o command (conditions_by said result) now)) (sym runs) (concludes r of command asked);
    runs = (λ none. (let both = sym none ∙ runs in absurd (cc (both))), λ is. absurd (no_quiet {X = ⊥} reaped.exit c left (Err FinishFault.Idle) (subst (FitsEnd reaped.exit c left) is ends.fits) tt));
    quiet = λ is. no_quiet reaped.exit c left result ends.fits is;
    none = ends.none;
    ended = inr (reaped, refl);
    wanted = λ is other heard. subst (λ (x : Reaped). is_zero x.exit) (same_reaped reaped other heard) (subst (FitsEnd reaped.exit c left) is ends.fits);
    through = ends.through;
    sequence = ends.sequence;
    damage = λ not other heard. subst (λ (x : Reaped). is_zero x.exit) (same_reaped reaped other heard) (damage_zero reaped.exit c left result ends.fits not);
    fault = λ is d other here exit. subst (λ (x : Reaped). is_zero x.exit) (same_kept c d reaped other kept (same_running store.collection c d runs here) exit) (subst (FitsEnd reaped.exit c left) is ends.fits);
    room = ends.room;
    held = child_behind most reaped.exit reaped c left result now.collection kept ends.fits ends.goes_on;
    goes_on = λ is d other here heard.
        subst (λ (x : Collection). KeepsCollection most x other now.collection) (same_running store.collection c d runs here)
        (subst (λ (x : Reaped). KeepsCollection most c x now.collection) (same_reaped reaped other heard) (kept_behind most reaped c result now.collection kept ends.goes_on is));
    sliced = λ d here. subst (λ (x : Collection). Slices most x result now.collection) (same_running store.collection c d runs here) ends.sliced;
    whole = ends.whole;
    running = λ differ is. no_quiet {X = ⊥} reaped.exit c left (Ok Looked.Running) (subst (FitsEnd reaped.exit c left) is ends.fits) tt;
    over = over_behind most c result now.collection ends.goes_on;
    limits = ends.limits;
    slot = λ d here. subst (λ (x : Collection). SlotBy result x store now.slot) (same_running store.collection c d runs here) ends.slot;
    unswept = ends.unswept;
  }

  pub end_loud : ¬ IsQuiet result
  end_loud is = no_quiet {X = ⊥} reaped.exit c left result ends.fits is

  module _ (r : Repository) (a b : Told) (held : Holds store a r) (does : EndsBy held.stands.standing.records r c result store.unswept left now a b) where
    abbrev conditions : Conditions
    conditions = met_of (Child.Ended reaped) result left does.difference

    pub end_finishes : (command : Command) → IsAsked command result → FinishesBy held.stands.standing.records r c command result store.unswept (met_by_finish (Child.Ended reaped) result left) now a b
    end_finishes command asked =
        let lands : repository_after r c command conditions ≡ after_with result does.difference r c = repository_is r c reaped kept result left does.difference ends.fits ends.none does.tells command asked in
        record {
          met = conditions;
          told = refl;
          judged = λ pair is. record { pair = does.valid; valid = does.is_valid; difference = does.judged pair is };
          turns = each_look (λ reply. (work : MachineWork) → TurnsBy (state_at r (phase_of (Some c)) work) command conditions reply (state_at (after_by result r c) (phase_of now.collection) work))
              (λ reply. (work : MachineWork) → TurnsBy (state_at r (phase_of (Some c)) work) command conditions reply (state_at (repository_after r c command conditions) (phase_of now.collection) work)) result
              (λ has reply turns work. subst (λ (q : Repository). TurnsBy (state_at r (phase_of (Some c)) work) command conditions reply (state_at q (phase_of now.collection) work)) (sym (lands ∙ answered_after result does.difference r c has)) (turns work))
              (turns_end r c reaped kept result left does.difference ends.fits ends.none does.tells command asked most now.collection ends.goes_on);
          does = subst (λ (q : Repository). FinishesAs r q c result store.unswept left now a b) (sym lands) does.does;
          remains = does.remains;
          same = does.same;
          leaves = does.leaves;
        }

    -- ---- works

    -- the repository that it holds then is the machine's
    lands_on : HasAnswer result → (q : Repository) (here : Holds now b q) → q ≡ after_by result r c
    lands_on has q here = one_repository b.held q (after_with result does.difference r c) here.stands (does.does.holds has).stands ∙ answered_after result does.difference r c has

    works_so : HasAnswer result → ((¬ IsCollected result) × (after_by result r c ≡ r)) ⊎ (IsCollected result × (after_by result r c ≡ collected_at r c.commit)) → (q : Repository) (here : Holds now b q) → WorksStay held here
    works_so has (inl (not, same)) q here work v lawful =
        subst (λ (p : Repository). IsLawful (image_records here) p work v) (sym (lands_on has q here ∙ same)) (subst (λ (rs : Records). IsLawful (present rs) r work v) (sym (does.same q here has not)) lawful)
    works_so has (inr (collected, same)) q here work v lawful =
        let there = does.remains q here collected in
        subst (λ (p : Repository). IsLawful (image_records here) p work v) (sym (lands_on has q here ∙ same))
        (subst (λ (rs : Records). IsLawful (present rs) (collected_at r c.commit) work v) (sym there.2) (works_remain store r a held c runs there.0 there.1 work v lawful))

    by_answer : (x : Result Looked FinishFault) → ((¬ IsCollected x) × (after_by x r c ≡ r)) ⊎ (IsCollected x × (after_by x r c ≡ collected_at r c.commit))
    by_answer (Ok Looked.Running) = inl ((λ no. no), refl)
    by_answer (Ok (Looked.Checking bytes)) = inl ((λ no. no), refl)
    by_answer (Ok (Looked.Collected collected)) = inr (tt, refl)
    by_answer (Err fault) = inl ((λ no. no), refl)

    pub end_works : HasAnswer result → (q : Repository) (here : Holds now b q) → WorksStay held here
    end_works has q here = works_so has (by_answer result) q here

-- ---- nothing was heard of its end

no_end : (o : Option Collection) (child : Child) → IsHeardIn o child → ((reaped : Reaped) → child ≢ Child.Ended reaped) → child ≢ Child.NotAsked → (c : Collection) × (o ≡ Some c) × (c.exit ≡ None)
no_end None child is not some = absurd (some is)
no_end (Some c) child is not some = by c.exit refl is
  where
    by : (exit : Option Reaped) → c.exit ≡ exit → MayBeHeard exit c.job.attempt child → (d : Collection) × (Some c ≡ Some d) × (d.exit ≡ None)
    by None e may = (c, refl, e)
    by (Some kept) e may = absurd (not kept may)

no_running : (o : Option Collection) → IsHeardIn o Child.NotAsked → o ≡ None
no_running None is = refl
no_running (Some c) is = by c.exit is
  where
    by : (exit : Option Reaped) → MayBeHeard exit c.job.attempt Child.NotAsked → Some c ≡ None
    by None may = absurd may
    by (Some kept) may = absurd (cc (may))

module _ (store : Held) (most : ℕ) where
  -- nothing is done
  abbrev GoesSo : Child → Result Looked FinishFault → Type 0
  GoesSo child result = Goes child most result (met_by_finish child result 0) store store

  -- no collection runs
  idle_goes : store.collection ≡ None → GoesSo Child.NotAsked (Err FinishFault.Idle)
  idle_goes none = record {
    left = 0;
    told = refl;
    answered = λ r of command asked. record {
      after = r;
      turns = λ work. subst (λ (o : Option Collection). TurnsBy (state_at r (phase_of o) work) command (met_of Child.NotAsked (Err FinishFault.Idle) 0 None) Reply.Idle (state_at r (phase_of o) work)) (sym none) (turns_none r work command asked);
      tables = of;
    };
    runs = (λ is. refl, λ is. none);
    quiet = λ is. refl;
    none = λ _. refl;
    ended = inl tt;
    wanted = λ is. absurd (cc (is));
    through = λ is. absurd (cc (is));
    sequence = λ is. absurd (cc (is));
    damage = λ not. absurd (not tt);
    fault = λ is. absurd (cc (is));
    room = λ is. absurd (cc (is));
    held = refl;
    goes_on = λ is. absurd is;
    sliced = λ d here. tt;
    whole = λ all no. no;
    running = λ differ is. cc (is);
    over = λ is. absurd is;
    limits = no_limit (Err FinishFault.Idle) store (λ limit e. cc (e)) (λ no. no);
    slot = λ d here. refl;
    unswept = refl;
  }

  module _ (c : Collection) (runs : store.collection ≡ Some c) (none : c.exit ≡ None) where
    abbrev RunsOn : Command → Child → Result Looked FinishFault → Reply → Repository → MachineWork → Option Collection → Type 0
    RunsOn command child result reply r work o = TurnsBy (state_at r (phase_of o) work) command (met_of child result 0 None) reply (state_at r (phase_of o) work)

    as_runs : (command : Command) (child : Child) (result : Result Looked FinishFault) (reply : Reply) (r : Repository) (work : MachineWork)
        → TurnsBy (state_at r (Phase.Collecting c.commit None) work) command (met_of child result 0 None) reply (state_at r (Phase.Collecting c.commit None) work) → RunsOn command child result reply r work store.collection
    as_runs command child result reply r work is =
        subst (RunsOn command child result reply r work) (sym runs)
        (subst (λ (e : Option Reaped). TurnsBy (state_at r (Phase.Collecting c.commit e) work) command (met_of child result 0 None) reply (state_at r (Phase.Collecting c.commit e) work)) (sym none) is)

    wait_goes : GoesSo Child.Fault (Err FinishFault.Wait)
    wait_goes = record {
      left = 0;
      told = refl;
      answered = λ r of command asked. record {
        after = r;
        turns = λ work. as_runs command Child.Fault (Err FinishFault.Wait) Reply.WaitFault r work (turns_wait r work c.commit command asked);
        tables = of;
      };
      runs = (λ is. (let both = sym is ∙ runs in absurd (cc (both))), λ is. absurd (cc (is)));
      quiet = λ is. refl;
      none = λ _. refl;
      ended = inl tt;
      wanted = λ is. absurd (cc (is));
      through = λ is. absurd (cc (is));
      sequence = λ is. absurd (cc (is));
      damage = λ not. absurd (not tt);
      fault = λ is. absurd (cc (is));
      room = λ is. absurd (cc (is));
      held = refl;
      goes_on = λ is. absurd is;
      sliced = λ d here. tt;
      whole = λ all no. no;
      running = λ differ is. cc (is);
      over = λ is. absurd is;
      limits = no_limit (Err FinishFault.Wait) store (λ limit e. cc (e)) (λ no. no);
      slot = λ d here. refl;
      unswept = refl;
    }

    runs_goes : GoesSo Child.Running (Ok Looked.Running)
    runs_goes = record {
      left = 0;
      told = refl;
      answered = λ r of command asked. record {
        after = r;
        turns = λ work. as_runs command Child.Running (Ok Looked.Running) Reply.Running r work (turns_runs r work c.commit command asked);
        tables = of;
      };
      runs = (λ is. (let both = sym is ∙ runs in absurd (cc (both))), λ is. absurd (cc (is)));
      quiet = λ is. refl;
      none = λ _. refl;
      ended = inl tt;
      wanted = λ is. absurd (cc (is));
      through = λ is. absurd (cc (is));
      sequence = λ is. absurd (cc (is));
      damage = λ not. absurd (not tt);
      fault = λ is. absurd (cc (is));
      room = λ is. absurd (cc (is));
      held = refl;
      goes_on = λ is. absurd is;
      sliced = λ d here. tt;
      whole = λ all no. no;
      running = λ differ is. differ refl;
      over = λ is. absurd is;
      limits = no_limit (Ok Looked.Running) store (λ limit e. cc (e)) (λ no. no);
      slot = λ d here. refl;
      unswept = refl;
    }

  pub goes_idle : (child : Child) → child ≡ Child.NotAsked → IsHeardIn store.collection child → Goes child most (Err FinishFault.Idle) (met_by_finish child (Err FinishFault.Idle) 0) store store
  goes_idle child e heard = subst (λ (k : Child). GoesSo k (Err FinishFault.Idle)) (sym e) (idle_goes (no_running store.collection (subst (IsHeardIn store.collection) e heard)))

  pub goes_wait : (child : Child) → child ≡ Child.Fault → IsHeardIn store.collection child → Goes child most (Err FinishFault.Wait) (met_by_finish child (Err FinishFault.Wait) 0) store store
  goes_wait child e heard =
      let there = no_end store.collection Child.Fault (subst (IsHeardIn store.collection) e heard) (λ reaped f. cc (f)) (λ f. cc (f)) in
      subst (λ (k : Child). GoesSo k (Err FinishFault.Wait)) (sym e) (wait_goes there.0 there.1 there.2)

  pub goes_runs : (child : Child) → child ≡ Child.Running → IsHeardIn store.collection child → Goes child most (Ok Looked.Running) (met_by_finish child (Ok Looked.Running) 0) store store
  goes_runs child e heard =
      let there = no_end store.collection Child.Running (subst (IsHeardIn store.collection) e heard) (λ reaped f. cc (f)) (λ f. cc (f)) in
      subst (λ (k : Child). GoesSo k (Ok Looked.Running)) (sym e) (runs_goes there.0 there.1 there.2)

  -- works stay where no more is done
  pub quiet_works : (r q : Repository) (a : Told) (now : Held) (held : Holds store a r) (here : Holds now a q) → WorksStay held here
  quiet_works r q a now held here work v lawful =
      subst (λ (p : Repository). IsLawful (image_records here) p work v) (one_repository a.held r q held.stands here.stands)
      (subst (λ (rs : Records). IsLawful (present rs) r work v) (all_records a.held held.stands.standing here.stands.standing) lawful)

-- ---- its end was heard

module _ (store : Held) (c : Collection) (runs : store.collection ≡ Some c) (reaped : Reaped) (most : ℕ) where
  -- with how it ended
  abbrev known : Collection
  known = record c { exit = Some reaped }

  abbrev mid : Held
  mid = record store { collection = Some known }

  cut_store : c.exit ≡ None → (r : Repository) → IsOf store r → Goes (Child.Ended reaped) most (Err FinishFault.Ground) (met_by_finish (Child.Ended reaped) (Err FinishFault.Ground) 0) store mid
  cut_store unheard q of_store = record {
    left = 0;
    told = refl;
    answered = λ r of command asked. tt;
    runs = (λ is. (let both = sym is ∙ runs in absurd (cc (both))), λ is. absurd (cc (is)));
    quiet = λ is. absurd is;
    none = λ _. refl;
    ended = inr (reaped, refl);
    wanted = λ is. absurd (cc (is));
    through = λ is. absurd (cc (is));
    sequence = λ is. absurd (cc (is));
    damage = λ not. absurd (not tt);
    fault = λ is d other here exit. (let both : None ≡ Some other = sym unheard ∙ ap (λ (x : Collection). x.exit) (same_running store.collection c d runs here) ∙ exit in absurd (cc (both)));
    room = λ is through. absurd (unchecked store.slot.floor store.places store.unswept store.space c (going_here store q c runs of_store) unheard through);
    held = refl;
    goes_on = λ is. absurd is;
    sliced = λ d here. tt;
    whole = λ all no. no;
    running = λ differ is. cc (is);
    over = λ is. absurd is;
    limits = no_limit (Err FinishFault.Ground) store (λ limit e. cc (e)) (λ no. no);
    slot = λ d here. refl;
    unswept = refl;
  }

  pub goes_cut : c.exit ≡ None → (r : Repository) → IsOf store r → (heard : Held) → heard ≡ record store { collection = Some (record c { exit = Some reaped }) } → Goes (Child.Ended reaped) most (Err FinishFault.Ground) (met_by_finish (Child.Ended reaped) (Err FinishFault.Ground) 0) store heard
  goes_cut unheard r of heard known_is = subst (λ (s : Held). Goes (Child.Ended reaped) most (Err FinishFault.Ground) (met_by_finish (Child.Ended reaped) (Err FinishFault.Ground) 0) store s) (sym known_is) (cut_store unheard r of)

  -- ---- and what comes of it

  same_slices : (result : Result Looked FinishFault) (now : Option Collection) → Slices most known result now → Slices most c result now
  same_slices (Ok Looked.Running) now is = is
  same_slices (Ok (Looked.Checking bytes)) now is = is
  same_slices (Ok (Looked.Collected collected)) now is = is
  same_slices (Err fault) now is = is

  same_slot : (result : Result Looked FinishFault) (slot : Slot) → SlotBy result known mid slot → SlotBy result c store slot
  same_slot (Ok Looked.Running) slot is = is
  same_slot (Ok (Looked.Checking bytes)) slot is = is
  same_slot (Ok (Looked.Collected collected)) slot is = is
  same_slot (Err fault) slot is = is

  module _ (may : MayBeHeard c.exit c.job.attempt (Child.Ended reaped)) where
    from_known : (r : Repository) (work : MachineWork) (command : Command) (met : Conditions) (reply : Reply) (s : State) → IsEnding command → met.told.child ≡ Child.Ended reaped → TurnsBy (state_at r (phase_of (Some known)) work) command met reply s → TurnsBy (state_at r (phase_of (Some c)) work) command met reply s
    from_known r work command met reply s is ended turns = by c.exit may
      where
        by : (exit : Option Reaped) → MayBeHeard exit c.job.attempt (Child.Ended reaped) → TurnsBy (state_at r (Phase.Collecting c.commit exit) work) command met reply s
        by None unheard = (met_heard r c.commit reaped work met command reply is ended turns.0, turned_heard r c.commit reaped work met command is ended ∙ turns.1)
        by (Some kept) heard = subst (λ (e : Reaped). TurnsBy (state_at r (Phase.Collecting c.commit (Some e)) work) command met reply s) (same_reaped reaped kept heard) turns

    pub goes_on : (result : Result Looked FinishFault) (met : Met) (heard now : Held) → heard ≡ record store { collection = Some (record c { exit = Some reaped }) } → ((r : Repository) → IsOf store r → IsOf heard r) → ¬ IsQuiet result → Goes (Child.Ended reaped) most result met heard now → Goes (Child.Ended reaped) most result met store now
    goes_on result met heard now is tables loud does = lift (subst (λ (s : Held). Goes (Child.Ended reaped) most result met s now) is does) (λ r of. subst (λ (s : Held). IsOf s r) is (tables r of))
      where
        lift : Goes (Child.Ended reaped) most result met mid now → ((r : Repository) → IsOf store r → IsOf mid r) → Goes (Child.Ended reaped) most result met store now
        lift goes of_mid = record {
          left = goes.left;
          told = goes.told;
          answered = λ r of command asked.
              subst (λ (o : Option Collection). LookReplies result (Concludes r o command (conditions_by met result) now)) (sym runs)
              (each_look (Concludes r (Some known) command (conditions_by met result) now) (Concludes r (Some c) command (conditions_by met result) now) result
              (λ has reply is. record {
                after = is.after;
                turns = λ work. from_known r work command (conditions_by met result) reply (state_at is.after (phase_of now.collection) work) (turn_of command result asked) (ap (λ (m : Met). m.child) goes.told) (is.turns work);
                tables = is.tables;
              }) (goes.answered r (of_mid r of) command asked));
          runs = (λ none. (let both = sym none ∙ runs in absurd (cc (both))), λ is. absurd (loud (subst IsQuiet (sym is) tt)));
          quiet = λ is. absurd (loud is);
          none = goes.none;
          ended = inr (reaped, refl);
          wanted = goes.wanted;
          through = goes.through;
          sequence = goes.sequence;
          damage = goes.damage;
          fault = λ is d other here exit. subst (λ (x : Reaped). is_zero x.exit) (kept_heard c.exit c.job.attempt reaped other may (ap (λ (x : Collection). x.exit) (same_running store.collection c d runs here) ∙ exit)) (goes.fault is known reaped refl refl);
          room = goes.room;
          held = goes.held;
          goes_on = λ is d other here heard.
              subst (λ (x : Collection). KeepsCollection most x other now.collection) (same_running store.collection c d runs here)
              (let kept = goes.goes_on is known other refl heard in record { same = kept.same; is = kept.is; commit = kept.commit; job = kept.job; exit = kept.exit; looked = kept.looked });
          sliced = λ d here. subst (λ (x : Collection). Slices most x result now.collection) (same_running store.collection c d runs here) (same_slices result now.collection (goes.sliced known refl));
          whole = goes.whole;
          running = goes.running;
          over = goes.over;
          limits = record { sequence = goes.limits.sequence; enough = goes.limits.enough };
          slot = λ d here. subst (λ (x : Collection). SlotBy result x store now.slot) (same_running store.collection c d runs here) (same_slot result now.slot (goes.slot known refl));
          unswept = goes.unswept;
        }

    -- ---- where the ground tells

    module _ (r : Repository) (a : Told) (held : Holds store a r) (b : Told) (listens : Listens c.job.attempt a b) where
      abbrev n : ℕ
      n = c.job.attempt

      abbrev records : Records
      records = held.stands.standing.records

      span : Spared r records a b
      span = spared_by (Over.idle store r a held c runs) r a (Over.held_idle store r a held c runs) refl n (Over.other store r a held c runs) (Over.below store r a held c runs) NoFile (λ file none. absurd none) b listens.only.beside

      pub on_bounded : (heard : Held) (held_b : Holds heard b r) → LooksWithin most held_b.stands.standing.records (record c { exit = Some reaped }) → LooksWithin most held.stands.standing.records c
      on_bounded heard held_b is = subst (λ (rs : Records). LooksWithin most rs c) (span.same held_b.stands.standing) is

      same_repository : (command : Command) (met : Conditions) → IsEnding command → met.told.child ≡ Child.Ended reaped → repository_after r known command met ≡ repository_after r c command met
      same_repository command met is ended = by c.exit may
        where
          by : (exit : Option Reaped) → MayBeHeard exit c.job.attempt (Child.Ended reaped) → repository_after r known command met ≡ (turned (state_at r (Phase.Collecting c.commit exit) empty_work) command met).1.repository
          by None unheard = sym (ap (λ (t : Turned). t.1.repository) (turned_heard r c.commit reaped empty_work met command is ended))
          by (Some kept) heard = ap (λ (e : Reaped). (turned (state_at r (Phase.Collecting c.commit (Some e)) empty_work) command met).1.repository) (same_reaped reaped kept heard)

      module _ (result : Result Looked FinishFault) (said : Met) (now : Held) (d : Told) (child : said.child ≡ Child.Ended reaped) where
        finishes_as : (after : Repository) → FinishesAs r after known result store.unswept said.left now b d → FinishesAs r after c result store.unswept said.left now a d
        finishes_as after is = record {
          only = ends_on n (MayTouch result now store.unswept) a b d (ends_more n NoFile a b (MayTouch result now store.unswept) (λ file none. absurd none) listens.only) is.only;
          files = keeps_on a b d listens.files is.files;
          holds = is.holds;
          serves = is.serves;
          gone = is.gone;
          all_but = is.all_but;
          atomic = λ pending. atomic_front r after a b d is.only.beside.goes (span.recovers pending) (is.atomic (span.pending pending));
          slots = λ pending. slots_then a b d span.kept span.control is.only.beside.goes (is.slots (span.pending pending));
          recovers = λ pending. is.recovers (span.pending pending);
          nothing_pending = λ pending. is.nothing_pending (span.pending pending);
          flushed = λ pending. is.flushed (span.pending pending);
          settled = is.settled;
        }

        finishes_known : (command : Command) → IsAsked command result → FinishesBy records r known command result store.unswept said now b d → FinishesBy records r c command result store.unswept said now a d
        finishes_known command asked is =
            let turn = turn_of command result asked in
            let ended : is.met.told.child ≡ Child.Ended reaped = ap (λ (m : Met). m.child) is.told ∙ child in
            let same = same_repository command is.met turn ended in
            record {
              met = is.met;
              told = is.told;
              judged = λ pair settled. (let j = is.judged pair settled in record { pair = j.pair; valid = j.valid; difference = j.difference });
              turns = each_look (λ reply. (work : MachineWork) → TurnsBy (state_at r (phase_of (Some known)) work) command is.met reply (state_at (repository_after r known command is.met) (phase_of now.collection) work))
                  (λ reply. (work : MachineWork) → TurnsBy (state_at r (phase_of (Some c)) work) command is.met reply (state_at (repository_after r c command is.met) (phase_of now.collection) work)) result
                  (λ has reply turns work. subst (λ (q : Repository). TurnsBy (state_at r (phase_of (Some c)) work) command is.met reply (state_at q (phase_of now.collection) work)) same
                  (from_known r work command is.met reply (state_at (repository_after r known command is.met) (phase_of now.collection) work) turn ended (turns work))) is.turns;
              does = subst (λ (q : Repository). FinishesAs r q c result store.unswept said.left now a d) same (finishes_as (repository_after r known command is.met) is.does);
              remains = is.remains;
              same = is.same;
              leaves = λ pending. swapped_front records c a b d is.does.only.beside.goes span.live (span.leaves pending) (is.leaves (span.pending pending));
            }

        module _ (heard : Held) (known_is : heard ≡ record store { collection = Some (record c { exit = Some reaped }) }) (held_b : Holds heard b r) where
          pub on_finishes : (command : Command) → IsAsked command result → FinishesBy held_b.stands.standing.records r (record c { exit = Some reaped }) command result heard.unswept said now b d
              → FinishesBy held.stands.standing.records r c command result store.unswept said now a d
          on_finishes command asked is =
              finishes_known command asked
              (subst (λ (u : Unswept). FinishesBy records r known command result u said now b d) (ap (λ (s : Held). s.unswept) known_is)
              (subst (λ (rs : Records). FinishesBy rs r known command result heard.unswept said now b d) (span.same held_b.stands.standing) is))

          pub on_works : (q : Repository) (here : Holds now d q) → WorksStay held_b here → WorksStay held here
          on_works q here stay work v lawful = stay work v (subst (λ (rs : Records). IsLawful (present rs) r work v) (sym (span.same held_b.stands.standing)) lawful)

  -- the live pair is no other's while the attempt is settled
  pub on_owns : (r : Repository) → IsOf store r → (a b : Told) → Listens c.job.attempt a b → (heard : Held) → heard ≡ record store { collection = Some (record c { exit = Some reaped }) } → OwnsPair a store.slot → OwnsPair b heard.slot
  on_owns r of a b listens heard is owns = subst (λ (s : Slot). OwnsPair b s) (sym (ap (λ (s : Held). s.slot) is)) (λ live. let pair = owns live in record {
    mapping = (listens.only.beside.others (Mapping store.slot.live) (λ none. none) other).own pair.mapping;
    prefix = (listens.only.beside.others (Prefix store.slot.live) (λ none. none) other).own pair.prefix;
  })
    where
      other : store.slot.live ≢ c.job.attempt
      other same = (let job = (phase_here store r c runs of).told in absurd (omega (arith, same, job.live, job.valid.live)))

  -- nothing changes behind damage, but that the attempt is settled
  pub on_untouched : (a b d : Told) → Listens c.job.attempt a b → ChangesOnly NoFile b d → EndsFor c.job.attempt NoFile a d
  on_untouched a b d listens only = ends_on c.job.attempt NoFile a b d listens.only (ends_only c.job.attempt NoFile b d only (nothing_else b d only))

  -- the attempt could not be settled
  module _ (r : Repository) (a : Told) (held : Holds store a r) (none : c.exit ≡ None) (b : Told) (only : ChangesOnly NoFile a b) (now : Held) where
    still_lent : lending b c.job.attempt ≡ lent
    still_lent =
        let collects = subst (λ (o : Option Collection). IfSome o (Collects a store.slot held.stands.standing.records r)) runs held.collects in
        lending_now a b only.goes c.job.attempt (only.lending c.job.attempt) ∙ subst (λ (o : Option Reaped). IsOfChild a held.stands.standing.records c o) none collects.child

    cut_span : Spared r held.stands.standing.records a b
    cut_span = spared_by (Over.idle store r a held c runs) r a (Over.held_idle store r a held c runs) refl c.job.attempt (Over.other store r a held c runs) (Over.below store r a held c runs) NoFile (λ file none. absurd none) b
        (beside_only c.job.attempt NoFile a b only (keeps_store a b NoFile (λ file none. absurd none) only))

    pub cut_finishes : (command : Command) → FinishesBy held.stands.standing.records r c command (Err FinishFault.Ground) store.unswept (met_by_finish (Child.Ended reaped) (Err FinishFault.Ground) 0) now a b
    cut_finishes command = record {
      met = met_of (Child.Ended reaped) (Err FinishFault.Ground) 0 None;
      told = refl;
      judged = λ pair settled. (let both = sym settled.1 ∙ still_lent in absurd (cc (both)));
      turns = tt;
      does = record {
        only = ends_only c.job.attempt (λ (file : FileName). file ≡ Control) a b (only_more a b NoFile (λ (file : FileName). file ≡ Control) (λ file none. absurd none) only) (keeps_store a b NoFile (λ file none. absurd none) only);
        files = keeps_store a b NoFile (λ file none. absurd none) only;
        holds = λ has. absurd has;
        serves = λ has. absurd has;
        gone = λ has. absurd has;
        all_but = λ has. absurd has;
        atomic = λ pending. atomic_still r (repository_after r c command (met_of (Child.Ended reaped) (Err FinishFault.Ground) 0 None)) a b (cut_span.recovers pending);
        slots = λ pending. slots_still a b cut_span.kept cut_span.control;
        recovers = λ pending has. absurd has;
        nothing_pending = λ pending has. absurd has;
        flushed = cut_span.flushed;
        settled = λ has. absurd has;
      };
      remains = λ q here has. absurd has;
      same = λ q here has. absurd has;
      leaves = λ pending. swapped_still held.stands.standing.records c a b (cut_span.leaves pending);
    }

-- ---- how it ended is heard

-- where the end is heard nothing is counted
pub on_counts : (result : Result Looked FinishFault) (left : ℕ) (a b d : Noted) → b ≡ a → CountsFinish result left b d → CountsFinish result left a d
on_counts result left a b d same is = subst (λ (x : Noted). CountsFinish result left x d) same is

pub some_heard : (o : Option Collection) (child : Child) (reaped : Reaped) → child ≡ Child.Ended reaped → IsHeardIn o child → (c : Collection) × (o ≡ Some c) × MayBeHeard c.exit c.job.attempt (Child.Ended reaped)
some_heard None child reaped e is = (let both = sym is ∙ e in absurd (cc (both)))
some_heard (Some c) child reaped e is = (c, refl, subst (MayBeHeard c.exit c.job.attempt) e is)

pub may_hear : (o : Option Collection) (c d : Collection) (reaped : Reaped) → o ≡ Some c → o ≡ Some d → MayBeHeard c.exit c.job.attempt (Child.Ended reaped) → MayBeHeard d.exit d.job.attempt (Child.Ended reaped)
may_hear o c d reaped one other may = subst (λ (x : Collection). MayBeHeard x.exit x.job.attempt (Child.Ended reaped)) (same_running o c d one other) may

pub on_err_of : (result : Result (Unit {0}) GroundFault) (P : Type 0) → P → OnErr result P
on_err_of (Ok u) P p = tt
on_err_of (Err e) P p = p
