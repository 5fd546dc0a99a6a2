-- The attempt's files as a whole: what is removed, what is synced, and the done file.
--     of_this      only the attempt's files change.      done_stays, none_now      what a crash may leave of the done file.      not_mapping, not_prefix, apart_pair      the names differ
--     Removed attempt a b      since a no crash leaves a done file, where none was left before
--     clear_two, clear_three, clear_all      the exits of the removals, behind the first, the second and the last one
--     sync_changes, of_attempt, pair_changes, both_changed      what a sync changes, and the pair's files among the attempt's
--     pair_refused, pair_half, pair_synced      the exits of the pair's syncs.      ended_half, ended      those of the done file
use Rattle.std.proofs.Common.{◌≡◌, ◌≢◌, ◌⊎◌, inl, inr, Bool, true, false, T, eqb→eq, ℕ, refl, sym, ◌∙◌, ap, subst}
use Rattle.std.specs.Prelude.{Some, None, Result, Ok, Err, IsErr, codes, if◌then◌else◌, ◌==◌}
use Rattle.std.proofs.lemmas.Result.{IfOk-from_err}
use Rattle.ip_ground.specs.declared.names.FileName.{FileName}
use Rattle.ip_ground.specs.declared.names.FileName.TheVariants.{Control, Chunk, Prefix, Mapping, Done}
use Rattle.ip_ground.specs.declared.names.GroundFault.{GroundFault}
use Rattle.ip_ground.specs.Contents.{Content, written}
use Rattle.ip_ground.specs.Custody.{Custody, IsOfAttempt, after_sync, with_synced}
use Rattle.ip_ground.specs.Custody as custody
use Rattle.ip_ground.specs.Told.{Told, lending, KeepsPast, KeepsCustody, EachSince, IsSynced, Only, ChangesOnly}
use Rattle.ip_ground.specs.Calls.{Writes, Syncs, Removes}
use Rattle.ip_ground.proofs.Spans.{only_on, only_more, each_on, each_stays, each_steps, left_now}
use Rattle.ip_worker.specs.Steps.{IsFree, IsPairFile, NoneDone, Clears, SyncsPair, Ends}
use Rattle.ip_worker.proofs.Copying.{not_foreign, not_loose, free_on, of_none}

abbrev pub IsNone : Content → Type 0
IsNone content = content ≡ None

-- ---- removals

-- one file of the attempt is removed, or may be
module _ (attempt : ℕ) (file : FileName) (is : IsOfAttempt attempt file) where
  pub of_this : (a b : Told) → ChangesOnly (Only file) a b → ChangesOnly (IsOfAttempt attempt) a b
  of_this a b only = only_more a b (Only file) (IsOfAttempt attempt) (λ f here. subst (IsOfAttempt attempt) (sym here) is) only

-- what a crash leaves of the done file while another file changes
pub done_stays : (attempt : ℕ) (these : FileName → Type 0) (a b : Told) → ¬ these (Done attempt) → IsFree a attempt → ChangesOnly these a b → NoneDone attempt a → EachSince a b (Done attempt) IsNone
done_stays attempt these a b not free only none = each_stays a b (Done attempt) IsNone (not_loose a attempt (Done attempt) free refl) (only.others (Done attempt) not) none

pub none_now : (attempt : ℕ) (a b : Told) → KeepsPast a b → NoneDone attempt a → EachSince a b (Done attempt) IsNone → NoneDone attempt b
none_now attempt a b goes none since = left_now a b (Done attempt) IsNone goes none since

-- a file stays absent while another changes
pub absent_on : (attempt : ℕ) (file other : FileName) (a b : Told) → IsFree a attempt → IsOfAttempt attempt file → file ≢ other → ChangesOnly (Only other) a b → a.held file ≡ None → b.held file ≡ None
absent_on attempt file other a b free is differ only gone = (only.others file differ).held (not_foreign a attempt file free is) ∙ gone

done_removed : (attempt : ℕ) (r : Result (Unit {0}) GroundFault) (a b : Told) → IsFree a attempt → Removes (Done attempt) r a b → NoneDone attempt a → EachSince a b (Done attempt) IsNone
done_removed attempt r a b free removes none =
    each_steps a b (Done attempt) IsNone IsNone (λ before content. (content ≡ before) ⊎ (content ≡ None)) (removes.left (not_loose a attempt (Done attempt) free refl)) none step
  where
    step : (x y : Content) → x ≡ None → (y ≡ x) ⊎ (y ≡ None) → y ≡ None
    step x y gone (inl same) = same ∙ gone
    step x y gone (inr none) = none

-- as far as was removed
pub record Removed (attempt : ℕ) (a b : Told) : Type 0 where
  pub only : ChangesOnly (IsOfAttempt attempt) a b
  pub none : NoneDone attempt a → EachSince a b (Done attempt) IsNone

removed_first : (attempt : ℕ) (r : Result (Unit {0}) GroundFault) (a b : Told) → IsFree a attempt → Removes (Done attempt) r a b → Removed attempt a b
removed_first attempt r a b free removes = record { only = of_this attempt (Done attempt) refl a b removes.only; none = done_removed attempt r a b free removes }

removed_next : (attempt : ℕ) (file : FileName) (r : Result (Unit {0}) GroundFault) (a b c : Told) → IsFree a attempt → IsOfAttempt attempt file → Done attempt ≢ file → Removed attempt a b → Removes file r b c → Removed attempt a c
removed_next attempt file r a b c free is differ so removes = record {
  only = only_on a b c (IsOfAttempt attempt) so.only (of_this attempt file is b c removes.only);
  none = λ none.
      let first = so.none none in
      each_on a b c (Done attempt) IsNone removes.only.goes first
      (done_stays attempt (Only file) b c differ (free_on (IsOfAttempt attempt) a b attempt so.only free) removes.only (none_now attempt a b so.only.goes none first));
}

pub not_mapping : (m n : ℕ) → Done m ≢ Mapping n
not_mapping m n e = cc

pub not_prefix : (m n : ℕ) → Done m ≢ Prefix n
not_prefix m n e = cc

pub apart_pair : (m n : ℕ) → Mapping m ≢ Prefix n
apart_pair m n e = cc

stopped : (attempt : ℕ) (s : Result (Unit {0}) GroundFault) (a b : Told) → IsErr s → Removed attempt a b → Clears attempt s a b
stopped attempt s a b failed so = record { only = so.only; gone = IfOk-from_err s (λ _. (file : FileName) → IsOfAttempt attempt file → b.held file ≡ None) failed; none = so.none }

-- the exits of the removals
pub clear_two : (attempt : ℕ) (q r s : Result (Unit {0}) GroundFault) → IsErr s → (a b c : Told) → IsFree a attempt → Removes (Done attempt) q a b → Removes (Mapping attempt) r b c → Clears attempt s a c
clear_two attempt q r s failed a b c free one two = stopped attempt s a c failed (removed_next attempt (Mapping attempt) r a b c free refl (not_mapping attempt attempt) (removed_first attempt q a b free one) two)

pub clear_three : (attempt : ℕ) (p q r s : Result (Unit {0}) GroundFault) → IsErr s → (a b c d : Told) → IsFree a attempt → Removes (Done attempt) p a b → Removes (Mapping attempt) q b c → Removes (Prefix attempt) r c d → Clears attempt s a d
clear_three attempt p q r s failed a b c d free one two three =
    stopped attempt s a d failed
    (removed_next attempt (Prefix attempt) r a c d free refl (not_prefix attempt attempt)
    (removed_next attempt (Mapping attempt) q a b c free refl (not_mapping attempt attempt) (removed_first attempt p a b free one) two) three)

pub clear_all : (attempt : ℕ) (a b c d : Told) → IsFree a attempt → Removes (Done attempt) (Ok tt) a b → Removes (Mapping attempt) (Ok tt) b c → Removes (Prefix attempt) (Ok tt) c d → Clears attempt (Ok tt) a d
clear_all attempt a b c d free one two three = record { only = so.only; gone = gone; none = so.none }
  where
    upto : Removed attempt a c
    upto = removed_next attempt (Mapping attempt) (Ok tt) a b c free refl (not_mapping attempt attempt) (removed_first attempt (Ok tt) a b free one) two

    so : Removed attempt a d
    so = removed_next attempt (Prefix attempt) (Ok tt) a c d free refl (not_prefix attempt attempt) upto three

    free_b : IsFree b attempt
    free_b = free_on (Only (Done attempt)) a b attempt one.only free

    free_c : IsFree c attempt
    free_c = free_on (Only (Mapping attempt)) b c attempt two.only free_b

    done : d.held (Done attempt) ≡ None
    done =
        absent_on attempt (Done attempt) (Prefix attempt) c d free_c refl (not_prefix attempt attempt) three.only
        (absent_on attempt (Done attempt) (Mapping attempt) b c free_b refl (not_mapping attempt attempt) two.only (one.ok (not_foreign a attempt (Done attempt) free refl)))

    mapping : d.held (Mapping attempt) ≡ None
    mapping = absent_on attempt (Mapping attempt) (Prefix attempt) c d free_c refl (apart_pair attempt attempt) three.only (two.ok (not_foreign b attempt (Mapping attempt) free_b refl))

    gone : (file : FileName) → IsOfAttempt attempt file → d.held file ≡ None
    gone Control here = absurd here
    gone (Chunk n) here = absurd here
    gone (Prefix n) here = subst (λ (m : ℕ). d.held (Prefix m) ≡ None) (sym here) (three.ok (not_foreign c attempt (Prefix attempt) free_c refl))
    gone (Mapping n) here = subst (λ (m : ℕ). d.held (Mapping m) ≡ None) (sym here) mapping
    gone (Done n) here = subst (λ (m : ℕ). d.held (Done m) ≡ None) (sym here) done

-- ---- syncs of a file of an attempt that was never lent

by_number : (n attempt other : ℕ) (file : FileName) (c : Custody) → n ≡ attempt → (other ≡ attempt → c ≡ custody.own) → (if n == other then with_synced file c else c) ≡ c
by_number n attempt other file c is free = by (n == other) refl
  where
    by : (b : Bool) → (n == other) ≡ b → (if b then with_synced file c else c) ≡ c
    by true e =
        let same : other ≡ attempt = sym (eqb→eq n other (subst T (sym e) tt)) ∙ is in
        ap (with_synced file) (free same) ∙ sym (free same)
    by false e = refl

own_still : (file : FileName) (attempt other : ℕ) (c : Custody) → IsOfAttempt attempt file → (other ≡ attempt → c ≡ custody.own) → after_sync file other c ≡ c
own_still Control attempt other c is free = absurd is
own_still (Chunk n) attempt other c is free = absurd is
own_still (Prefix n) attempt other c is free = by_number n attempt other (Prefix n) c is free
own_still (Mapping n) attempt other c is free = by_number n attempt other (Mapping n) c is free
own_still (Done n) attempt other c is free = by_number n attempt other (Done n) c is free

sync_custody : (file : FileName) (attempt : ℕ) (r : Result (Unit {0}) GroundFault) (b c : Told) → IsFree b attempt → IsOfAttempt attempt file → Syncs file r b c → (other : ℕ) → KeepsCustody b c other
sync_custody file attempt (Err e) b c free is syncs other t after le = syncs.refused.lending other t after le
sync_custody file attempt (Ok u) b c free is syncs other t after le = elim (syncs.turns other t after le) [
  | inl before ↦ before
  | inr now ↦ now ∙ syncs.lending other ∙ own_still file attempt other (lending b other) is (λ same. ap (lending b) same ∙ free)
]

pub sync_changes : (file : FileName) (attempt : ℕ) (r : Result (Unit {0}) GroundFault) (b c : Told) → IsFree b attempt → IsOfAttempt attempt file → Syncs file r b c → ChangesOnly (Only file) b c
sync_changes file attempt r b c free is syncs = record {
  goes = syncs.goes;
  others = syncs.others;
  lending = sync_custody file attempt r b c free is syncs;
  said = syncs.said;
}

-- ---- the pair

pub of_attempt : (attempt : ℕ) (file : FileName) → IsPairFile attempt file → IsOfAttempt attempt file
of_attempt attempt Control is = absurd is
of_attempt attempt (Chunk n) is = absurd is
of_attempt attempt (Prefix n) is = is
of_attempt attempt (Mapping n) is = is
of_attempt attempt (Done n) is = absurd is

pub pair_changes : (attempt : ℕ) (a b : Told) → ChangesOnly (IsPairFile attempt) a b → ChangesOnly (IsOfAttempt attempt) a b
pair_changes attempt a b only = only_more a b (IsPairFile attempt) (IsOfAttempt attempt) (of_attempt attempt) only

this_pair : (attempt : ℕ) (file : FileName) (a b : Told) → IsPairFile attempt file → ChangesOnly (Only file) a b → ChangesOnly (IsPairFile attempt) a b
this_pair attempt file a b is only = only_more a b (Only file) (IsPairFile attempt) (λ f here. subst (IsPairFile attempt) (sym here) is) only

pub both_changed : (attempt : ℕ) (a b c : Told) → ChangesOnly (Only (Prefix attempt)) a b → ChangesOnly (Only (Mapping attempt)) b c → ChangesOnly (IsPairFile attempt) a c
both_changed attempt a b c one two = only_on a b c (IsPairFile attempt) (this_pair attempt (Prefix attempt) a b refl one) (this_pair attempt (Mapping attempt) b c refl two)

module _ (attempt : ℕ) (a b c : Told) (q r : Result (Unit {0}) GroundFault) (free : IsFree a attempt) (one : Syncs (Prefix attempt) q a b) (two : Syncs (Mapping attempt) r b c) where
  first_only : ChangesOnly (Only (Prefix attempt)) a b
  first_only = sync_changes (Prefix attempt) attempt q a b free refl one

  free_then : IsFree b attempt
  free_then = free_on (Only (Prefix attempt)) a b attempt first_only free

  second_only : ChangesOnly (Only (Mapping attempt)) b c
  second_only = sync_changes (Mapping attempt) attempt r b c free_then refl two

  both_only : ChangesOnly (IsPairFile attempt) a c
  both_only = both_changed attempt a b c first_only second_only

  both_held : (file : FileName) → IsPairFile attempt file → c.held file ≡ a.held file
  both_held file is = (two.files file).held (not_foreign b attempt file free_then (of_attempt attempt file is)) ∙ (one.files file).held (not_foreign a attempt file free (of_attempt attempt file is))

-- the first one failed
pub pair_refused : (attempt : ℕ) (a b : Told) (e : GroundFault) (s : Result (Unit {0}) GroundFault) → IsErr s → IsFree a attempt → Syncs (Prefix attempt) (Err e) a b → SyncsPair attempt s a b
pair_refused attempt a b e s failed free one = record {
  only = of_none (IsPairFile attempt) a b one.refused;
  held = λ file is. (one.files file).held (not_foreign a attempt file free (of_attempt attempt file is));
  synced = IfOk-from_err s (λ _. (file : FileName) → IsPairFile attempt file → IsSynced b file) failed;
}

pub pair_half : (attempt : ℕ) (a b c : Told) (e : GroundFault) (s : Result (Unit {0}) GroundFault) → IsErr s → IsFree a attempt → Syncs (Prefix attempt) (Ok tt) a b → Syncs (Mapping attempt) (Err e) b c → SyncsPair attempt s a c
pair_half attempt a b c e s failed free one two = record {
  only = both_only attempt a b c (Ok tt) (Err e) free one two;
  held = both_held attempt a b c (Ok tt) (Err e) free one two;
  synced = IfOk-from_err s (λ _. (file : FileName) → IsPairFile attempt file → IsSynced c file) failed;
}

pub pair_synced : (attempt : ℕ) (a b c : Told) → IsFree a attempt → Syncs (Prefix attempt) (Ok tt) a b → Syncs (Mapping attempt) (Ok tt) b c → SyncsPair attempt (Ok tt) a c
pair_synced attempt a b c free one two = record {
  only = both_only attempt a b c (Ok tt) (Ok tt) free one two;
  held = both_held attempt a b c (Ok tt) (Ok tt) free one two;
  synced = each;
}
  where
    free_b : IsFree b attempt
    free_b = free_then attempt a b c (Ok tt) (Ok tt) free one two

    prefix : IsSynced c (Prefix attempt)
    prefix x left =
        let stays = two.others (Prefix attempt) (λ same. apart_pair attempt attempt (sym same)) in
        left_now b c (Prefix attempt) (λ content. content ≡ b.held (Prefix attempt)) two.goes (one.ok (not_foreign a attempt (Prefix attempt) free refl))
        (each_stays b c (Prefix attempt) (λ content. content ≡ b.held (Prefix attempt)) (not_loose b attempt (Prefix attempt) free_b refl) stays (one.ok (not_foreign a attempt (Prefix attempt) free refl))) x left
        ∙ sym (stays.held (not_foreign b attempt (Prefix attempt) free_b refl))

    each : (file : FileName) → IsPairFile attempt file → IsSynced c file
    each Control is = absurd is
    each (Chunk n) is = absurd is
    each (Prefix n) is = subst (λ (m : ℕ). IsSynced c (Prefix m)) (sym is) prefix
    each (Mapping n) is = subst (λ (m : ℕ). IsSynced c (Mapping m)) (sym is) (two.ok (not_foreign b attempt (Mapping attempt) free_b refl))
    each (Done n) is = absurd is

-- ---- the done file

module _ (attempt : ℕ) (a b c : Told) (free : IsFree a attempt) (one : ChangesOnly (Only (Done attempt)) a b) where
  free_there : IsFree b attempt
  free_there = free_on (Only (Done attempt)) a b attempt one free

  pub ended_half : (r s : Result (Unit {0}) GroundFault) → IsErr s → Syncs (Done attempt) r b c → Ends attempt s a c
  ended_half r s failed two = record {
    only = only_on a b c (Only (Done attempt)) one (sync_changes (Done attempt) attempt r b c free_there refl two);
    held = IfOk-from_err s (λ _. c.held (Done attempt) ≡ Some (codes "IPDONE01")) failed;
    synced = IfOk-from_err s (λ _. IsSynced c (Done attempt)) failed;
  }

  pub ended : a.held (Done attempt) ≡ None → Writes (Done attempt) 0 (codes "IPDONE01") (Ok tt) a b → Syncs (Done attempt) (Ok tt) b c → Ends attempt (Ok tt) a c
  ended gone writes two = record {
    only = only_on a b c (Only (Done attempt)) one (sync_changes (Done attempt) attempt (Ok tt) b c free_there refl two);
    held = (two.files (Done attempt)).held (not_foreign b attempt (Done attempt) free_there refl) ∙ writes.ok (not_foreign a attempt (Done attempt) free refl) ∙ ap (λ (x : Content). written x 0 (codes "IPDONE01")) gone;
    synced = two.ok (not_foreign b attempt (Done attempt) free_there refl);
  }
