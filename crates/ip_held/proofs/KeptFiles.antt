-- What is kept over a span of the files of attempts.
--     custody_still      whose a file is, while no attempt is lent or settled
--     stays_goes, goes_both      a file that stays, and that stays or is removed in each of two spans behind one another.      each_removed      of any file, where one is removed
--     one_attempt      a file is one attempt's.      files_unwritten      no write is asked for of a file of an attempt
--     keeps_itself, nothing_else, keeps_on      what is kept over no time, where no file changes, and over two spans behind one another
--     keeps_custody      where each file but those of the store stays or is removed, and no custody changes.      keeps_store, keeps_swept      so where files of the store alone change, and where files are removed
--     keeps_lent, keeps_ended, keeps_synced      where an attempt is lent, where it is settled, and where a file is synced
use Rattle.std.proofs.Common.{◌≡◌, ◌≢◌, ◌⊎◌, inl, inr, ℕ, ◌≤◌, refl, sym, ◌∙◌, ap, subst, arith}
use Rattle.std.specs.Prelude.{Bool, true, false, ◌==◌, if◌then◌else◌, Result, Ok, Err}
use Rattle.std.proofs.lemmas.Bool.{cases_lt, cases_eq}
use Rattle.ip_ground.specs.declared.names.FileName.{FileName}
use Rattle.ip_ground.specs.declared.names.FileName.TheVariants.{Control, Chunk, Prefix, Mapping, Done}
use Rattle.ip_ground.specs.declared.names.GroundFault.{GroundFault}
use Rattle.ip_ground.specs.Calls.{Removes, Lends, Syncs, Settles}
use Rattle.ip_ground.specs.Contents.{Content, Image}
use Rattle.ip_ground.specs.Custody as custody
use Rattle.ip_ground.specs.Custody.{Custody, own, lent, settled, custody_of, with_synced, after_sync, after_settle, is_same_file, IsOfAttempt}
use Rattle.ip_ground.specs.Files.{no_true, file_itself, cases_file}
use Rattle.ip_ground.specs.Told.{Told, lending, IsForeign, KeepsPast, SyncsAtMost, KeepsFile, KeepsCustody, ChangesLeft, NoFile, ChangesOnly}
use Rattle.ip_ground.proofs.Lending.{of_attempt, own_settled, settled_syncs}
use Rattle.ip_ground.proofs.Spans.{left_now, lending_now, goes_on, only_nowhere, at_most}
use Rattle.ip_publish.specs.Publishing.{IsOfStore}
use Rattle.ip_held.specs.Sweeping.{IsSameOrGone, StaysOrGoes, SweepsFiles, NeverWritten, KeepsSettled, KeepsFiles}

-- ---- whose a file is

-- by the custody of each attempt
custody_alike : (l m : ℕ → Custody) → ((n : ℕ) → l n ≡ m n) → (file : FileName) → custody_of l file ≡ custody_of m file
custody_alike l m same file = ap (λ (k : ℕ → Custody). custody_of k file) (λ i n. same n i)

pub custody_still : (a b : Told) → KeepsPast a b → ((attempt : ℕ) → KeepsCustody a b attempt) → (file : FileName) → custody_of (lending b) file ≡ custody_of (lending a) file
custody_still a b goes stays file = custody_alike (lending b) (lending a) (λ n. lending_now a b goes n (stays n)) file

-- what a file's custody never is, in a span, it is not at the start, nor in a part of it
module _ (P : Custody → Type 0) (file : FileName) where
  abbrev Never : Told → Told → Type 0
  Never old new = (t : ℕ) → old.moment ≤ t → t ≤ new.moment → ¬ P (custody_of (new.lending_at t) file)

  never_first : (a b : Told) → KeepsPast a b → Never a b → ¬ P (custody_of (lending a) file)
  never_first a b goes never is =
      never a.moment (omega arith) goes.later (subst P (custody_alike (lending a) (b.lending_at a.moment) (λ n. sym (goes.lending a.moment n (omega arith))) file) is)

  never_before : (a b c : Told) → KeepsPast b c → Never a c → Never a b
  never_before a b c goes never t low high is =
      let later = goes.later in
      never t low (omega (arith, high, later)) (subst P (custody_alike (b.lending_at t) (c.lending_at t) (λ n. sym (goes.lending t n high)) file) is)

  never_behind : (a b c : Told) → KeepsPast a b → Never a c → Never b c
  never_behind a b c goes never t low high = (let later = goes.later in never t (omega (arith, low, later)) high)

-- ---- a file that stays or is removed

gone_both : (x y z : Content) → IsSameOrGone x y → IsSameOrGone y z → IsSameOrGone x z
gone_both x y z one (inr gone) = inr gone
gone_both x y z (inl same) (inl still) = inl (still ∙ same)
gone_both x y z (inr gone) (inl still) = inr (still ∙ gone)

left_on : (a b c : Told) (file : FileName) → KeepsPast a b → KeepsPast b c → ChangesLeft IsSameOrGone a b file → ChangesLeft IsSameOrGone b c file → ChangesLeft IsSameOrGone a c file
left_on a b c file first next one other t x after le left = elim (cases_lt b.moment t) [
  | inl late ↦
      let mid = other t x late le left in
      let old = left_now a b file From first (λ y was. (y, was, inl refl)) one mid.0 mid.1 in
      (old.0, old.1, gone_both old.0 mid.0 x old.2 mid.2)
  | inr early ↦ one t x after early (next.left t file x early left)
]
  where
    From : Content → Type 0
    From y = (before : Content) × a.may_leave a.moment file before × IsSameOrGone before y

synced_goes : (a b : Told) (file : FileName) → SyncsAtMost a b file → StaysOrGoes a b file
synced_goes a b file stays = record { unwritten = λ not. stays.unwritten; held = λ mine. inl (stays.held mine); left = λ firm t x after le left. (x, stays.left firm t x after le left, inl refl) }

pub stays_goes : (a b : Told) (file : FileName) → KeepsFile a b file → StaysOrGoes a b file
stays_goes a b file stays = synced_goes a b file (at_most a b file stays)

pub goes_both : (a b c : Told) (file : FileName) → KeepsPast a b → KeepsPast b c → custody_of (lending b) file ≡ custody_of (lending a) file → StaysOrGoes a b file → StaysOrGoes b c file → StaysOrGoes a c file
goes_both a b c file first next same one other = record {
  unwritten = λ not. other.unwritten not ∙ one.unwritten not;
  held = λ mine. gone_both (a.held file) (b.held file) (c.held file) (one.held mine) (other.held (λ foreign. mine (subst custody.IsForeign same foreign)));
  left = λ firm. left_on a b c file first next (one.left firm) (other.left (λ loose. firm (subst (λ (k : Custody). custody.IsLoose k file) same loose)));
}

pub each_removed : (one : FileName) (res : Result (Unit {0}) GroundFault) (a b : Told) → Removes one res a b → (file : FileName) → StaysOrGoes a b file
each_removed one res a b removes file = elim (cases_file file one) [
  | inl same ↦ subst (StaysOrGoes a b) (sym same.1) (record { unwritten = λ not. removes.unwritten; held = by res removes; left = removes.left })
  | inr other ↦ stays_goes a b file (removes.only.others file (λ is. no_true (sym other ∙ ap (λ (f : FileName). is_same_file f one) is ∙ file_itself one)))
]
  where
    by : (res : Result (Unit {0}) GroundFault) → Removes one res a b → ¬ IsForeign a one → IsSameOrGone (a.held one) (b.held one)
    by (Ok u) done mine = inr (done.ok mine)
    by (Err e) done mine = done.err mine

-- ---- the files of an attempt

pub one_attempt : (m n : ℕ) (file : FileName) → IsOfAttempt m file → IsOfAttempt n file → m ≡ n
one_attempt m n Control one other = absurd one
one_attempt m n (Chunk k) one other = absurd one
one_attempt m n (Prefix k) one other = sym one ∙ other
one_attempt m n (Mapping k) one other = sym one ∙ other
one_attempt m n (Done k) one other = sym one ∙ other

no_store : (n : ℕ) (file : FileName) → IsOfAttempt n file → ¬ IsOfStore file
no_store n Control of is = of
no_store n (Chunk k) of is = of
no_store n (Prefix k) of is = elim is [ inl control ↦ cc (control) | inr chunk ↦ cc (chunk.2) ]
no_store n (Mapping k) of is = elim is [ inl control ↦ cc (control) | inr chunk ↦ cc (chunk.2) ]
no_store n (Done k) of is = elim is [ inl control ↦ cc (control) | inr chunk ↦ cc (chunk.2) ]

cases_attempt : (n : ℕ) (file : FileName) → IsOfAttempt n file ⊎ (¬ IsOfAttempt n file)
cases_attempt n Control = inr (λ none. none)
cases_attempt n (Chunk k) = inr (λ none. none)
cases_attempt n (Prefix k) = cases_eq k n
cases_attempt n (Mapping k) = cases_eq k n
cases_attempt n (Done k) = cases_eq k n

pub files_unwritten : (n : ℕ) (a b : Told) → KeepsFiles a b → (file : FileName) → IsOfAttempt n file → b.writes file ≡ a.writes file
files_unwritten n a b files file of = files.unwritten file (no_store n file of)

-- ---- over one call

module _ (a b : Told) where
  written_by : (file : FileName) → KeepsPast a b → StaysOrGoes a b file → NeverWritten a b file
  written_by file goes is = record {
    held = λ never. is.held (never_first custody.IsForeign file a b goes never);
    left = λ never. is.left (never_first (λ (k : Custody). custody.IsLoose k file) file a b goes never);
  }

  abbrev IsKeptAs : ℕ → Image → Type 0
  IsKeptAs n pair = (file : FileName) → IsOfAttempt n file → IsSameOrGone (pair file) (b.held file)

  -- an attempt of which the custody is as it was
  still_kept : (n : ℕ) (pair : Image) (synced : FileName → Bool) → KeepsSettled a → lending b n ≡ lending a n → lending b n ≡ settled pair synced → ((file : FileName) → IsOfAttempt n file → StaysOrGoes a b file) → IsKeptAs n pair
  still_kept n pair synced kept same is each file of =
      let was : lending a n ≡ settled pair synced = sym same ∙ is in
      gone_both (pair file) (a.held file) (b.held file) (kept n pair synced was file of) ((each file of).held (own_settled n a pair file (synced, was) of))

  -- each file but those of the store stays or is removed, and no custody changes
  pub keeps_custody : KeepsPast a b → ((n : ℕ) → lending b n ≡ lending a n) → ((file : FileName) → ¬ IsOfStore file → StaysOrGoes a b file) → KeepsFiles a b
  keeps_custody goes same each = record {
    goes = goes;
    unwritten = λ file not. (each file not).unwritten not;
    written = λ file not. written_by file goes (each file not);
    settled = λ kept n pair synced is. still_kept n pair synced kept (same n) is (λ file of. each file (no_store n file of));
  }

  pub keeps_store : (these : FileName → Type 0) → ((file : FileName) → these file → IsOfStore file) → ChangesOnly these a b → KeepsFiles a b
  keeps_store these store only =
      keeps_custody only.goes (λ n. lending_now a b only.goes n (only.lending n)) (λ file not. stays_goes a b file (only.others file (λ this. not (store file this))))

  pub keeps_swept : (these : FileName → Type 0) (left : ℕ) → SweepsFiles these left a b → KeepsFiles a b
  keeps_swept these left sweeps = keeps_custody sweeps.only.goes (λ n. lending_now a b sweeps.only.goes n (sweeps.only.lending n)) (λ file not. sweeps.each file)

  pub nothing_else : ChangesOnly NoFile a b → KeepsFiles a b
  nothing_else only = keeps_store NoFile (λ file none. absurd none) only

  -- ---- an attempt is lent

  module _ (n : ℕ) (goes : KeepsPast a b) (others : (file : FileName) → ¬ IsOfAttempt n file → KeepsFile a b file) (unwritten : (file : FileName) → b.writes file ≡ a.writes file) (elsewhere : (m : ℕ) → m ≢ n → KeepsCustody a b m) where
    -- another than this one
    other_kept : (m : ℕ) (pair : Image) (synced : FileName → Bool) → m ≢ n → KeepsSettled a → lending b m ≡ settled pair synced → IsKeptAs m pair
    other_kept m pair synced differ kept is =
        still_kept m pair synced kept (lending_now a b goes m (elsewhere m differ)) is (λ file of. stays_goes a b file (others file (λ this. differ (one_attempt m n file of this))))

    is_lent : lending b n ≡ lent → KeepsFiles a b
    is_lent now = record {
      goes = goes;
      unwritten = λ file not. unwritten file;
      written = λ file not. elim (cases_attempt n file) [
        | inl of ↦
            let theirs : custody_of (lending b) file ≡ lent = of_attempt (lending b) n file of ∙ now in
            record {
              held = λ never. absurd (never b.moment goes.later (omega arith) (subst custody.IsForeign (sym theirs) tt));
              left = λ never. absurd (never b.moment goes.later (omega arith) (subst (λ (k : Custody). custody.IsLoose k file) (sym theirs) tt));
            }
        | inr apart ↦ written_by file goes (stays_goes a b file (others file apart))
      ];
      settled = λ kept m pair synced is. elim (cases_eq m n) [
        | inl same ↦ (let both = sym (subst (λ (k : ℕ). lending b k ≡ settled pair synced) same is) ∙ now in absurd (cc (both)))
        | inr differ ↦ other_kept m pair synced differ kept is
      ];
    }

  pub keeps_lent : (n : ℕ) (res : Result (Unit {0}) GroundFault) → Lends n res a b → KeepsFiles a b
  keeps_lent n (Ok u) lends = is_lent n lends.goes lends.files lends.unwritten lends.others lends.ok
  keeps_lent n (Err e) lends = elim lends.err [ inl now ↦ is_lent n lends.goes lends.files lends.unwritten lends.others now | inr only ↦ nothing_else only ]

  -- ---- an attempt is settled

  -- it was settled before, or is from now on
  ends_kept : (n : ℕ) (u : Unit {0}) → Settles n (Ok u) a b → KeepsSettled a → (was : Custody) → lending a n ≡ was → (pair : Image) (synced : FileName → Bool) → lending b n ≡ settled pair synced → IsKeptAs n pair
  ends_kept n u settles kept own was pair synced is file of = (let both = sym is ∙ settles.ok ∙ ap (after_settle b.held) was in absurd (cc (both)))
  ends_kept n u settles kept lent was pair synced is file of =
      let both : settled b.held (λ (f : FileName). false) ≡ settled pair synced = sym (settles.ok ∙ ap (after_settle b.held) was) ∙ is in
      let held : b.held ≡ pair = cc (both) in
      inl (ap (λ (image : Image). image file) held)
  ends_kept n u settles kept (settled old flags) was pair synced is file of =
      still_kept n pair synced kept (settles.ok ∙ ap (after_settle b.held) was ∙ sym was) is (λ file of. stays_goes a b file (settles.files file)) file of

  pub keeps_ended : (n : ℕ) (res : Result (Unit {0}) GroundFault) → Settles n res a b → KeepsFiles a b
  keeps_ended n (Err e) settles = nothing_else settles.refused
  keeps_ended n (Ok u) settles = record {
    goes = settles.goes;
    unwritten = λ file not. (settles.files file).unwritten;
    written = λ file not. written_by file settles.goes (stays_goes a b file (settles.files file));
    settled = λ kept m pair synced is. elim (cases_eq m n) [
      | inl same ↦ subst (λ (k : ℕ). IsKeptAs k pair) (sym same) (ends_kept n u settles kept (lending a n) refl pair synced (subst (λ (k : ℕ). lending b k ≡ settled pair synced) same is))
      | inr differ ↦ other_kept n settles.goes (λ file apart. settles.files file) (λ file. (settles.files file).unwritten) settles.others m pair synced differ kept is
    ];
  }

  -- ---- a file is synced

  -- what was not settled is not settled then
  sync_if : (b : Bool) (one : FileName) (k : Custody) → with_synced one k ≡ k → (if b then with_synced one k else k) ≡ k
  sync_if true one k same = same
  sync_if false one k same = refl

  sync_leaves : (one : FileName) (n : ℕ) (k : Custody) → ((file : FileName) → with_synced file k ≡ k) → after_sync one n k ≡ k
  sync_leaves Control n k same = refl
  sync_leaves (Chunk m) n k same = refl
  sync_leaves (Prefix m) n k same = sync_if (m == n) (Prefix m) k (same (Prefix m))
  sync_leaves (Mapping m) n k same = sync_if (m == n) (Mapping m) k (same (Mapping m))
  sync_leaves (Done m) n k same = sync_if (m == n) (Done m) k (same (Done m))

  synced_kept : (one : FileName) (u : Unit {0}) → Syncs one (Ok u) a b → KeepsSettled a → (n : ℕ) (was : Custody) → lending a n ≡ was → (pair : Image) (synced : FileName → Bool) → lending b n ≡ settled pair synced → IsKeptAs n pair
  synced_kept one u syncs kept n own was pair synced is file of =
      (let both = sym is ∙ syncs.lending n ∙ ap (after_sync one n) was ∙ sync_leaves one n own (λ file. refl) in absurd (cc (both)))
  synced_kept one u syncs kept n lent was pair synced is file of =
      (let both = sym is ∙ syncs.lending n ∙ ap (after_sync one n) was ∙ sync_leaves one n lent (λ file. refl) in absurd (cc (both)))
  synced_kept one u syncs kept n (settled old flags) was pair synced is file of =
      let now = settled_syncs n a b old one (Ok u) (flags, was) syncs in
      let both : settled old now.0 ≡ settled pair synced = sym now.1 ∙ is in
      let same : old ≡ pair = cc (both) in
      gone_both (pair file) (a.held file) (b.held file) (subst (λ (image : Image). IsSameOrGone (image file) (a.held file)) same (kept n old flags was file of)) (inl ((syncs.files file).held (own_settled n a old file (flags, was) of)))

  pub keeps_synced : (one : FileName) (res : Result (Unit {0}) GroundFault) → Syncs one res a b → KeepsFiles a b
  keeps_synced one (Err e) syncs = nothing_else syncs.refused
  keeps_synced one (Ok u) syncs = record {
    goes = syncs.goes;
    unwritten = λ file not. (syncs.files file).unwritten;
    written = λ file not. written_by file syncs.goes (synced_goes a b file (syncs.files file));
    settled = λ kept n pair synced is. synced_kept one u syncs kept n (lending a n) refl pair synced is;
  }

pub keeps_itself : (a : Told) → KeepsFiles a a
keeps_itself a = nothing_else a a (only_nowhere a NoFile)

pub keeps_on : (a b c : Told) → KeepsFiles a b → KeepsFiles b c → KeepsFiles a c
keeps_on a b c first next = record {
  goes = goes_on a b c first.goes next.goes;
  unwritten = λ file not. next.unwritten file not ∙ first.unwritten file not;
  written = λ file not.
      let one = first.written file not in
      let other = next.written file not in
      let Loose : Custody → Type 0 = λ k. custody.IsLoose k file in
      record {
        held = λ never. gone_both (a.held file) (b.held file) (c.held file) (one.held (never_before custody.IsForeign file a b c next.goes never)) (other.held (never_behind custody.IsForeign file a b c first.goes never));
        left = λ never. left_on a b c file first.goes next.goes (one.left (never_before Loose file a b c next.goes never)) (other.left (never_behind Loose file a b c first.goes never));
      };
  settled = λ kept. next.settled (first.settled kept);
}
