-- What becomes of a store once its collection's child has ended, by the way it ends.
--     given_up, swept_on, sweeps_on      the store before a sweep and behind it.      same_exit, some_exit      an exit that is kept
--     ends_open, ends_cut      where the check is not through, and where a fault cut it short
--     ends_rejected      where what its child wrote is rejected.      ends_refused, ends_collected      where the swap was refused, and where it was done
--     rootless_blames, rootless_damaged      where damage is that the commit's record lies at 0
--     counts_cut, counts_refused, counts_swept      what is counted.      undamaged_as      no damage was found
use Rattle.std.proofs.Common.{◌≡◌, ◌≢◌, ◌⊎◌, inl, ℕ, ◌<◌, ◌≤◌, Some, None, Option, refl, sym, ◌∙◌, ap, subst}
use Rattle.std.specs.Prelude.{IfSome, IsSome, IsSomeAnd, Result, Ok, Err, if◌then◌else◌, ◌==◌, ◌^◌, ◌-◌}
use Rattle.ip_base.specs.declared.limit.TheConstants.{OFFSET_MAX}
use Rattle.ip_base.specs.declared.limit.Limit.{Limit}
use Rattle.ip_ground.specs.Counts.{Noted}
use Rattle.ip_base.specs.declared.exit.Reaped.{Reaped}
use Rattle.ip_ground.specs.Counts.{Counts, CountsLeft}
use Rattle.ip_ground.specs.Told.{Told}
use Rattle.ip_spec.specs.declared.reply.Difference.{Difference}
use Rattle.ip_spec.specs.Repository.{Repository}
use Rattle.ip_spec.specs.Step.{collected_at}
use Rattle.ip_image.specs.declared.slot.Slot.{Slot}
use Rattle.ip_check.specs.CheckView.{CheckView}
use Rattle.ip_check.specs.Checking.{IsBlamed, IsBrokenIn}
use Rattle.ip_check.specs.declared.check.Stage.TheVariants as Stage
use Rattle.ip_collects.specs.declared.checking.Verdict.{Verdict}
use Rattle.ip_held.specs.declared.collection.Collection.{Collection}
use Rattle.ip_held.specs.declared.collection.Unswept.{Unswept}
use Rattle.ip_collects.specs.declared.finishing.FinishFault.{FinishFault}
use Rattle.ip_collects.specs.declared.finishing.Looked.{Looked}
use Rattle.ip_collects.specs.declared.finishing.Rejection.{Rejection}
use Rattle.ip_held.specs.declared.held.Held.{Held}
use Rattle.ip_collects.specs.Ending.{Ends}
use Rattle.ip_collects.specs.CollectFaults.{counted_finish}
use Rattle.ip_collects.specs.Finishing.{CountsFinish, IsCollected, IsUndamaged, LimitsFinish, LooksOn, swapped_slot}
use Rattle.ip_collects.specs.Judging.{FindsNone, FitsExit, IsBlamedIn, IsCut, IsDamagedIn, IsOpen, IsRootless, IsRootlessIn, IsThrough, SlicesBy, is_zero, with_check}
use Rattle.ip_held.specs.Held.{IsOf}
use Rattle.ip_collects.specs.Swapping.{Accepts, IsSwapFault}
use Rattle.ip_held.specs.Sweeping.{IsSwept, SweepsFiles, swept_to}
use Rattle.ip_collects.proofs.Cancels.{over, over_tables, unswept_is, unswept_now}

-- ---- counts, and damage

pub counts_cut : (fault : FinishFault) (a b : Noted) → IsCut fault → Counts {A = Verdict} counted_finish (Err fault) a b → CountsFinish (Err fault) 0 a b
counts_cut FinishFault.Ground a b cut is = is
counts_cut (FinishFault.Damaged at) a b cut is = is
counts_cut FinishFault.Memory a b cut is = is
counts_cut FinishFault.Idle a b cut is = absurd cut
counts_cut FinishFault.Wait a b cut is = absurd cut
counts_cut (FinishFault.Rejected rejection) a b cut is = absurd cut
counts_cut (FinishFault.Limit limit) a b cut is = absurd cut

pub counts_refused : (fault : FinishFault) (a b d : Noted) → IsSwapFault fault → b ≡ a → Counts {A = Unit {0}} counted_finish (Err fault) b d → CountsFinish (Err fault) 0 a d
counts_refused FinishFault.Ground a b d may same is = subst (λ (g : Noted). CountsFinish (Err FinishFault.Ground) 0 g d) same is
counts_refused (FinishFault.Damaged at) a b d may same is = subst (λ (g : Noted). CountsFinish (Err (FinishFault.Damaged at)) 0 g d) same is
counts_refused FinishFault.Memory a b d may same is = is ∙ same
counts_refused (FinishFault.Limit limit) a b d may same is = is ∙ same
counts_refused FinishFault.Idle a b d may same is = absurd may
counts_refused FinishFault.Wait a b d may same is = absurd may
counts_refused (FinishFault.Rejected rejection) a b d may same is = absurd may

pub counts_swept : (left : ℕ) (a b d : Noted) → b ≡ a → CountsLeft left b d → CountsLeft left a d
counts_swept left a b d same is = subst (λ (g : Noted). CountsLeft left g d) same is

pub undamaged_as : (A B : Type 0) (fault : FinishFault) → IsUndamaged {A = A} (Err fault) → IsUndamaged {A = B} (Err fault)
undamaged_as A B (FinishFault.Damaged at) is = is
undamaged_as A B _ is = tt

-- the same damage, by another answer
pub as_fault_of : (A B : Type 0) (fault : FinishFault) (at : ℕ) → ◌≡◌ {A = Result B FinishFault} (Err fault) (Err (FinishFault.Damaged at)) → ◌≡◌ {A = Result A FinishFault} (Err fault) (Err (FinishFault.Damaged at))
as_fault_of A B fault at is = (let same : fault ≡ FinishFault.Damaged at = cc (is) in ap (λ (f : FinishFault). Err f) same)

-- ---- the store before and behind a sweep

pub given_up : (store mid given : Held) (c : Collection) (check : Option CheckView) → mid ≡ with_check store c check → given ≡ record mid { collection = None } → given ≡ record (with_check store c check) { collection = None }
given_up store mid given c check is none = none ∙ ap (λ (s : Held). record s { collection = None }) is

pub swept_on : (given base swept : Held) (left : ℕ) → given ≡ base → swept ≡ record given { unswept = if left == 0 then swept_to given.slot else given.unswept } → swept ≡ record base { unswept = if left == 0 then swept_to base.slot else base.unswept }
swept_on given base swept left same is = subst (λ (s : Held). swept ≡ record s { unswept = if left == 0 then swept_to s.slot else s.unswept }) same is

pub sweeps_on : (given base : Held) (left : ℕ) (a b : Told) → given ≡ base → SweepsFiles (IsSwept given.slot given.unswept) left a b → SweepsFiles (IsSwept base.slot base.unswept) left a b
sweeps_on given base left a b same is = subst (λ (s : Held). SweepsFiles (IsSwept s.slot s.unswept) left a b) same is

-- the same collection runs, whichever test says so
pub same_exit : (o : Option Collection) (c d : Collection) (reaped : Reaped) → o ≡ Some c → c.exit ≡ Some reaped → o ≡ Some d → d.exit ≡ Some reaped
same_exit o c d reaped one kept other = (let same : c ≡ d = cc (one, other) in subst (λ (x : Collection). x.exit ≡ Some reaped) same kept)

pub some_exit : (exit : Option Reaped) (reaped : Reaped) → exit ≡ Some reaped → IsSome exit
some_exit exit reaped is = subst (λ (o : Option Reaped). IsSome o) (sym is) refl

-- ---- the ways out

-- a check that is through with none has found no difference
none_through : (o : Option Collection) → IsThrough o → FindsNone o
none_through None through = absurd through
none_through (Some c) through = by c.check through
  where
    by : (check : Option CheckView) → IsSomeAnd check (λ k. k.stage ≡ Stage.Through None) → IfSome check (λ k. (difference : Difference) → k.stage ≢ Stage.Through (Some difference))
    by None is = absurd is
    by (Some k) is = λ difference e. (let both = sym is ∙ e in absurd (cc both))

-- and that its commit's record lies at 0
pub rootless_blames : (o : Option Collection) (at : ℕ) → IsRootlessIn o at → IsBlamedIn o at
rootless_blames None at is = absurd is
rootless_blames (Some c) at is = by c.check is
  where
    by : (check : Option CheckView) → IsSomeAnd check (λ k. IsRootless c.job.horizon k at) → IsSomeAnd check (λ k. IsRootless c.job.horizon k at ⊎ IsBlamed k at)
    by None is = absurd is
    by (Some k) is = inl is

pub rootless_damaged : (told : Told) (o : Option Collection) (at : ℕ) → IsRootlessIn o at → IsDamagedIn told o at
rootless_damaged told None at is = absurd is
rootless_damaged told (Some c) at is = by c.check is
  where
    by : (check : Option CheckView) → IsSomeAnd check (λ k. IsRootless c.job.horizon k at) → IsSomeAnd check (λ k. IsRootless c.job.horizon k at ⊎ IsBrokenIn told k at)
    by None is = absurd is
    by (Some k) is = inl is

pub no_limit : (result : Result Looked FinishFault) (store : Held) → ((limit : Limit) → result ≡ Err (FinishFault.Limit limit) → ⊥) → ¬ IsCollected result → LimitsFinish result store
no_limit result store none not = record { sequence = λ limit is. absurd (none limit is); enough = λ collected. absurd (not collected) }

module _ (store : Held) (c : Collection) (reaped : Reaped) (most : ℕ) (check : Option CheckView) (mid : Held) (is : mid ≡ with_check store c check) (looked : LooksOn most c check)
    (tables : (r : Repository) → IsOf store r → IsOf mid r) where
  pub ends_open : (bytes : ℕ) → FitsExit reaped.exit (Ok (Verdict.Open bytes)) → SlicesBy most c (Ok (Verdict.Open bytes)) mid.collection → (most ≡ 2 ^ 64 - 1 → ¬ IsOpen (Ok (Verdict.Open bytes)))
      → Ends reaped.exit most c (Ok (Looked.Checking bytes)) 0 store mid
  ends_open bytes fits slices whole = record {
    fits = fits;
    through = λ e. absurd (cc e);
    sequence = λ e. absurd (cc e);
    room = λ e. absurd (cc e);
    none = λ no. refl;
    goes_on = (check, ap (λ (s : Held). s.collection) is, looked);
    tables = λ r of has. tables r of;
    sliced = slices;
    whole = whole;
    limits = no_limit (Ok (Looked.Checking bytes)) store (λ limit e. cc (e)) (λ no. no);
    slot = ap (λ (s : Held). s.slot) is;
    unswept = ap (λ (s : Held). s.unswept) is;
  }

  pub ends_cut : (fault : FinishFault) → FitsExit reaped.exit (Err fault) → (fault ≡ FinishFault.Memory → FindsNone mid.collection) → ¬ IsThrough mid.collection → Ends reaped.exit most c (Err fault) 0 store mid
  ends_cut FinishFault.Ground fits found unsaid = record {
    fits = fits.0;
    through = λ e. absurd (cc e);
    sequence = λ e. absurd (cc e);
    room = λ e through. absurd (unsaid through);
    none = λ no. refl;
    goes_on = (check, ap (λ (s : Held). s.collection) is, looked);
    tables = λ r of has. absurd has;
    sliced = tt;
    whole = λ all no. no;
    limits = no_limit (Err FinishFault.Ground) store (λ limit e. cc (e)) (λ no. no);
    slot = ap (λ (s : Held). s.slot) is;
    unswept = ap (λ (s : Held). s.unswept) is;
  }
  ends_cut (FinishFault.Damaged at) fits found unsaid = record {
    fits = fits.0;
    through = λ e. absurd (cc e);
    sequence = λ e. absurd (cc e);
    room = λ e. absurd (cc e);
    none = λ no. refl;
    goes_on = (check, ap (λ (s : Held). s.collection) is, looked);
    tables = λ r of has. absurd has;
    sliced = tt;
    whole = λ all no. no;
    limits = no_limit (Err (FinishFault.Damaged at)) store (λ limit e. cc (e)) (λ no. no);
    slot = ap (λ (s : Held). s.slot) is;
    unswept = ap (λ (s : Held). s.unswept) is;
  }
  ends_cut FinishFault.Memory fits found unsaid = record {
    fits = fits.0;
    through = λ e. found refl;
    sequence = λ e through. absurd (unsaid through);
    room = λ e. absurd (cc e);
    none = λ no. refl;
    goes_on = (check, ap (λ (s : Held). s.collection) is, looked);
    tables = λ r of has. tables r of;
    sliced = tt;
    whole = λ all no. no;
    limits = no_limit (Err FinishFault.Memory) store (λ limit e. cc (e)) (λ no. no);
    slot = ap (λ (s : Held). s.slot) is;
    unswept = ap (λ (s : Held). s.unswept) is;
  }
  ends_cut FinishFault.Idle fits found unsaid = absurd fits.1
  ends_cut FinishFault.Wait fits found unsaid = absurd fits.1
  ends_cut (FinishFault.Rejected rejection) fits found unsaid = absurd fits.1
  ends_cut (FinishFault.Limit limit) fits found unsaid = absurd fits.1

  -- a sweep follows
  pub ends_rejected : (rejection : Rejection) (left : ℕ) (now : Held) → now ≡ record (with_check store c check) { collection = None; unswept = unswept_now store left } → FitsExit reaped.exit (Ok (Verdict.Rejected rejection))
      → Ends reaped.exit most c (Err (FinishFault.Rejected rejection)) left store now
  ends_rejected rejection left now now_is fits = subst (λ (s : Held). Ends reaped.exit most c (Err (FinishFault.Rejected rejection)) left store s) (sym now_is) (record {
    fits = fits;
    through = λ e. absurd (cc e);
    sequence = λ e. absurd (cc e);
    room = λ e. absurd (cc e);
    none = λ no. absurd (no tt);
    goes_on = refl;
    tables = λ r of has. over_tables store r (unswept_now store left) (unswept_is store r left of) of;
    sliced = tt;
    whole = λ all no. no;
    limits = no_limit (Err (FinishFault.Rejected rejection)) store (λ limit e. cc (e)) (λ no. no);
    slot = refl;
    unswept = refl;
  })

  module _ (zero : is_zero reaped.exit) (now : Held) where
    -- it was asked for with some tables
    pub ends_refused : (q : Repository) → IsOf store q → (fault : FinishFault) → IsSwapFault fault → IsThrough mid.collection → (fault ≡ FinishFault.Memory → mid.slot.sequence < OFFSET_MAX) → (fault ≡ FinishFault.Ground → mid.slot.sequence < OFFSET_MAX) → ((r : Repository) → IsOf mid r → Accepts (Err fault) r c mid now) → Ends reaped.exit most c (Err fault) 0 store now
    ends_refused q of FinishFault.Ground may through less room accepts = (let same = accepts q (tables q of) ∙ is in record {
      fits = zero;
      through = λ e. absurd (cc e);
      sequence = λ e. absurd (cc e);
      room = λ e stays. subst (λ (s : Held). s.slot.sequence < OFFSET_MAX) is (room refl);
      none = λ no. refl;
      goes_on = (check, ap (λ (s : Held). s.collection) same, looked);
      tables = λ r of has. absurd has;
      sliced = tt;
      whole = λ all no. no;
      limits = no_limit (Err FinishFault.Ground) store (λ limit e. cc (e)) (λ no. no);
      slot = ap (λ (s : Held). s.slot) same;
      unswept = ap (λ (s : Held). s.unswept) same;
    })
    ends_refused q of (FinishFault.Damaged at) may through less room accepts = (let same = accepts q (tables q of) ∙ is in record {
      fits = zero;
      through = λ e. absurd (cc e);
      sequence = λ e. absurd (cc e);
      room = λ e. absurd (cc e);
      none = λ no. refl;
      goes_on = (check, ap (λ (s : Held). s.collection) same, looked);
      tables = λ r of has. absurd has;
      sliced = tt;
      whole = λ all no. no;
      limits = no_limit (Err (FinishFault.Damaged at)) store (λ limit e. cc (e)) (λ no. no);
      slot = ap (λ (s : Held). s.slot) same;
      unswept = ap (λ (s : Held). s.unswept) same;
    })
    ends_refused q of FinishFault.Memory may through less room accepts = (let same = accepts q (tables q of) ∙ is in record {
      fits = zero;
      through = λ e. subst (λ (s : Held). FindsNone s.collection) (sym (accepts q (tables q of))) (none_through mid.collection through);
      sequence = λ e stays. subst (λ (s : Held). s.slot.sequence < OFFSET_MAX) is (less refl);
      room = λ e. absurd (cc e);
      none = λ no. refl;
      goes_on = (check, ap (λ (s : Held). s.collection) same, looked);
      tables = λ p there has. subst (λ (s : Held). IsOf s p) (sym (accepts q (tables q of))) (tables p there);
      sliced = tt;
      whole = λ all no. no;
      limits = no_limit (Err FinishFault.Memory) store (λ limit e. cc (e)) (λ no. no);
      slot = ap (λ (s : Held). s.slot) same;
      unswept = ap (λ (s : Held). s.unswept) same;
    })
    ends_refused q of (FinishFault.Limit Limit.Sequence) may through less room accepts =
        let got = accepts q (tables q of) in
        let same : now ≡ over store store.unswept = got.0 ∙ ap (λ (s : Held). record s { collection = None }) is in
        record {
          fits = (zero, refl);
          through = λ e. absurd (cc e);
          sequence = λ e. absurd (cc e);
          room = λ e. absurd (cc e);
          none = λ no. refl;
          goes_on = ap (λ (s : Held). s.collection) same;
          tables = λ p there has. subst (λ (s : Held). IsOf s p) (sym same) (over_tables store p store.unswept there.unswept there);
          sliced = tt;
          whole = λ all no. no;
          limits = record { sequence = λ limit e. (let one : limit ≡ Limit.Sequence = cc (e) in (one, sym (ap (λ (s : Held). s.slot.sequence) is) ∙ got.1)); enough = λ no. absurd no };
          slot = ap (λ (s : Held). s.slot) same;
          unswept = ap (λ (s : Held). s.unswept) same;
        }
    ends_refused q of (FinishFault.Limit _) may through less room accepts = absurd may
    ends_refused q of FinishFault.Idle may through less room accepts = absurd may
    ends_refused q of FinishFault.Wait may through less room accepts = absurd may
    ends_refused q of (FinishFault.Rejected rejection) may through less room accepts = absurd may

    pub ends_collected : (q : Repository) → IsOf store q → ((r : Repository) → IsOf mid r → Accepts (Ok tt) r c mid now) → (left : ℕ) (swept : Held) → swept ≡ record now { unswept = if left == 0 then swept_to now.slot else now.unswept }
        → Ends reaped.exit most c (Ok (Looked.Collected (record { floor = now.slot.floor; left = left }))) left store swept
    ends_collected q of accepts left swept swept_is = subst (λ (s : Held). Ends reaped.exit most c (Ok (Looked.Collected (record { floor = now.slot.floor; left = left }))) left store s) (sym swept_is) (record {
      fits = (zero, ap (λ (n : ℕ). record { floor = n; left = left }) (ap (λ (s : Slot). s.floor) slot_is));
      through = λ e. absurd (cc e);
      sequence = λ e. absurd (cc e);
      room = λ e. absurd (cc e);
      none = λ no. absurd (no tt);
      goes_on = got.1;
      tables = λ p there has. (let one = accepts p (tables p there) in
          subst (λ (o : Option Collection). IsOf (record now { collection = o; unswept = unswept_now now left }) (collected_at p c.commit)) (sym got.1) (over_tables now (collected_at p c.commit) (unswept_now now left) (unswept_is now (collected_at p c.commit) left one.0) one.0));
      sliced = tt;
      whole = λ all no. no;
      limits = record { sequence = λ limit e. absurd (cc (e)); enough = λ has. (let less = got.6 in subst (λ (s : Held). s.slot.sequence < OFFSET_MAX) is less) };
      slot = (got.2, got.3, slot_is ∙ ap (λ (s : Held). swapped_slot s.slot s.unswept c got.2 got.3) is);
      unswept = ap (λ (u : Unswept). if left == 0 then swept_to now.slot else u) (got.5 ∙ ap (λ (s : Held). s.unswept) is);
    })
      where
        got : Accepts (Ok tt) q c mid now
        got = accepts q (tables q of)

        slot_is : now.slot ≡ swapped_slot mid.slot mid.unswept c got.2 got.3
        slot_is = got.4
