-- What a collection that is finished does at every moment, by the way it ends.
--     truth      the difference that the pair has.      verdict_is      a whole check tells it.      verdict_on      and tells the same once no file has changed
--     accepts_checked, accepts_as      what the swap does for the collection with its check
--     stays_by      where the repository stays.      kept_on, cut_by      where the collection goes on, or a fault cut the check short
--     swept_out      where what its child wrote is rejected, and swept away
--     refused_by      where the swap was refused, or cut short.      collected_by      where the store went over to the pair
use Rattle.std.proofs.Common.{◌≡◌, ◌⊎◌, inl, inr, ℕ, ◌+◌, Some, None, Option, refl, sym, ◌∙◌, ap, subst, arith}
use Rattle.std.specs.Prelude.{Result, Ok, Err, IfSome, if◌then◌else◌, ◌==◌}
use Rattle.ip_base.specs.declared.limit.Limit.{Limit}
use Rattle.ip_ground.specs.declared.names.FileName.{FileName}
use Rattle.ip_ground.specs.declared.names.FileName.TheVariants.{Control, Mapping, Prefix}
use Rattle.ip_base.specs.declared.exit.Reaped.{Reaped}
use Rattle.ip_ground.specs.Contents.{Image}
use Rattle.ip_ground.specs.Custody.{settled, IsOfAttempt}
use Rattle.ip_ground.specs.Told.{Told, IsForeign, IsSettledAs, KeepsPast, Only, NoFile, ChangesOnly}
use Rattle.ip_ground.proofs.Lending.{own_settled, settled_stays}
use Rattle.ip_ground.proofs.Spans.{goes_on, only_more, only_on}
use Rattle.ip_spec.specs.declared.reply.Difference.{Difference}
use Rattle.ip_spec.specs.Repository.{Repository}
use Rattle.ip_spec.specs.Step.{collected_at}
use Rattle.ip_spec.specs.TreeAt.{Records}
use Rattle.ip_image.specs.declared.slot.Slot.{Slot}
use Rattle.ip_image.specs.Collected.{remaining}
use Rattle.ip_image.specs.Collection.{Pair, Found, IsValid, IsKept as AreKept, first_difference, found_in}
use Rattle.ip_image.specs.Headline.{RecoversTo, IsAtomic}
use Rattle.ip_image.specs.Pending.{HasLive, crash_now, NothingPending}
use Rattle.ip_image.specs.Standing.{Standing}
use Rattle.ip_image.proofs.CoreTies.{image_rises, some_valid, valid_since}
use Rattle.ip_image.proofs.HeadlineLaws.{one_slot}
use Rattle.ip_image.proofs.PairLaws.{one_valid}
use Rattle.ip_check.specs.Checking.{IsVerdict}
use Rattle.ip_check.specs.CheckView.{CheckView}
use Rattle.ip_collects.specs.declared.checking.Verdict.{Verdict}
use Rattle.ip_held.specs.declared.collection.Collection.{Collection}
use Rattle.ip_held.specs.declared.collection.Unswept.{Unswept}
use Rattle.ip_collects.specs.declared.finishing.FinishFault.{FinishFault}
use Rattle.ip_collects.specs.declared.finishing.Looked.{Looked}
use Rattle.ip_collects.specs.declared.finishing.Rejection.{Rejection}
use Rattle.ip_held.specs.declared.held.Held.{Held}
use Rattle.ip_held.specs.Collecting.{HasEnded, IsOfChild, Collects, IsUnswept, until}
use Rattle.ip_collects.specs.Ending.{EndsBy, TellsDifference, after_with, after_cut}
use Rattle.ip_collects.specs.Finishing.{HasAnswer, IsCollected, IsSweptBehind, IsUndamaged, MayTouch, Serves, swapped_slot}
use Rattle.ip_collects.specs.Judging.{IsCut, TellsVerdict, with_check}
use Rattle.ip_held.specs.StandsBy.{LeavesSwapped}
use Rattle.ip_held.specs.Held.{Holds}
use Rattle.ip_held.specs.Slots.{IsNext, IsSlotFrom, KeepsSlots}
use Rattle.ip_collects.specs.Swapping.{Accepts, AcceptsAs, IsSwapFault, IsTurnedDown}
use Rattle.ip_held.specs.Sweeping.{AllBut, IsApart, IsSwept, ChangesBeside, EndsFor, KeepsFiles, SweepsFiles, swept_to}
use Rattle.ip_held.proofs.Apart.{beside_only, holds_apart}
use Rattle.ip_collects.proofs.Cancels as Over
use Rattle.ip_collects.proofs.Cancels.{over, over_holds, swept_apart, unswept_is, unswept_now}
use Rattle.ip_held.proofs.Remaining.{until_front}
use Rattle.ip_collects.proofs.FinishSpans.{Spared, atomic_behind, atomic_front, atomic_still, spared_by}
use Rattle.ip_collects.proofs.Ended.{ends_more, ends_on, ends_only, ends_stays}
use Rattle.ip_held.proofs.KeptFiles.{keeps_on, keeps_store, keeps_swept}
use Rattle.ip_held.proofs.LeftImages.{swapped_behind, swapped_front, swapped_still}
use Rattle.ip_held.proofs.Recovering.{held_has, recovers_now}
use Rattle.ip_held.proofs.SlotLaws.{slots_behind, slots_still, slots_then}
use Rattle.ip_collects.proofs.Swept.{foreign_on}

only_sequence : (limit : Limit) → IsSwapFault (FinishFault.Limit limit) → limit ≡ Limit.Sequence
only_sequence Limit.Sequence is = refl
only_sequence _ is = absurd is

module _ (records : Records) (r : Repository) (c : Collection) (check : Option CheckView) where
  pub accepts_checked : (fault : FinishFault) (store now : Held) → Accepts (Err fault) r (record c { check = check }) store now → Accepts (Err fault) r c store now
  accepts_checked FinishFault.Idle store now is = is
  accepts_checked FinishFault.Wait store now is = is
  accepts_checked (FinishFault.Rejected rejection) store now is = is
  accepts_checked (FinishFault.Limit limit) store now is = is
  accepts_checked (FinishFault.Damaged at) store now is = is
  accepts_checked FinishFault.Ground store now is = is
  accepts_checked FinishFault.Memory store now is = is

  pub accepts_as : (result : Result (Unit {0}) FinishFault) (store : Held) (a b : Told) → AcceptsAs records r (record c { check = check }) result store a b → AcceptsAs records r c result store a b
  accepts_as result store a b is = record { only = is.only; files = is.files; holds = is.holds; serves = is.serves; remains = is.remains; atomic = is.atomic; slots = is.slots; leaves = is.leaves; nothing_pending = is.nothing_pending; flushed = is.flushed }

module _ (store : Held) (r : Repository) (a : Told) (held : Holds store a r) (c : Collection) (runs : store.collection ≡ Some c) (reaped : Reaped) (kept : c.exit ≡ Some reaped) where
  abbrev A : Standing a.held
  A = held.stands.standing

  abbrev records : Records
  records = held.stands.standing.records

  abbrev n : ℕ
  n = c.job.attempt

  pub collects : Collects a store.slot records r c
  collects = subst (λ (o : Option Collection). IfSome o (Collects a store.slot records r)) runs held.collects

  pub ended : HasEnded a records c
  ended = subst (λ (o : Option Reaped). IsOfChild a records c o) kept collects.child

  pub valid : (pair : Pair) × IsValid records c.job.horizon c.job.end pair
  valid = some_valid A.slot records (image_rises a.held A) A.good c.job.horizon c.job.end

  pub truth : Option Difference
  truth = first_difference valid.0 (found_in ended.pair n)

  -- ---- the verdict

  verdict_is : (told : Option Difference) → IsVerdict (until c.job.end records) c.job (found_in a.held n) told → told ≡ truth
  unfolding truth
  verdict_is told v =
      let parts = until_front c.job.end records (image_rises a.held A) in
      let below = collects.collectable.below in
      let all = (valid_since a.held A c.job.horizon c.job.end v.pair (until c.job.end records) parts.0 parts.1 (omega (arith, below)) parts.2).0 v.valid in
      v.difference ∙ ap (λ (p : Pair). first_difference p (found_in a.held n)) (one_valid records c.job.horizon c.job.end v.pair valid.0 all valid.1)
      ∙ ap (first_difference valid.0) (λ i. record { mapping = ended.mapping i; prefix = ended.prefix i })

  judged_in : (b : Told) → IsSettledAs b n ended.pair → (pair : Image) → IsSettledAs b n pair → truth ≡ first_difference valid.0 (found_in pair n)
  unfolding truth
  judged_in b was pair is =
      let both : settled ended.pair was.0 ≡ settled pair is.0 = sym was.1 ∙ is.1 in
      let same : ended.pair ≡ pair = cc (both) in
      ap (λ (image : Image). first_difference valid.0 (found_in image n)) same

  -- ---- the repository stays

  spared : (these : FileName → Type 0) → ((file : FileName) → these file → IsApart store.slot file) → (b : Told) → ChangesBeside n these a b → Spared r records a b
  spared these apart b changes = spared_by (Over.idle store r a held c runs) r a (Over.held_idle store r a held c runs) refl n (Over.other store r a held c runs) (Over.below store r a held c runs) these apart b changes

  module _ (b : Told) (now : Held) (result : Result Looked FinishFault) (left : ℕ) where
    stays_by : EndsFor n (MayTouch result now store.unswept) a b → KeepsFiles a b → Spared r records a b → (HasAnswer result → Holds now b r) → ¬ IsCollected result → TellsDifference result truth → (HasAnswer result → after_with result truth r c ≡ r)
        → (IsSweptBehind result → left ≡ 0 → (file : FileName) → IsSwept now.slot store.unswept file → ¬ IsForeign b file → b.held file ≡ None) → (IsSweptBehind result → AllBut (IsSwept now.slot store.unswept) left b b)
        → EndsBy records r c result store.unswept left now a b
    stays_by changes files span holds not tells same gone all_but = record {
      difference = truth;
      valid = valid.0;
      is_valid = valid.1;
      judged = judged_in b (ends_stays n (MayTouch result now store.unswept) a b changes ended.pair ended.settled);
      tells = tells;
      does = record {
        only = changes;
        files = files;
        holds = λ has. subst (Holds now b) (sym (same has)) (holds has);
        serves = λ collected. absurd (not collected);
        gone = gone;
        all_but = all_but;
        atomic = λ pending. atomic_still r (after_with result truth r c) a b (span.recovers pending);
        slots = λ pending. slots_still a b span.kept span.control;
        recovers = λ pending has. subst (RecoversTo (crash_now b)) (sym (same has)) (recovers_now now r b (holds has) (span.pending pending));
        nothing_pending = λ pending has. span.pending pending;
        flushed = span.flushed;
        settled = λ has. (ended.pair, ends_stays n (MayTouch result now store.unswept) a b changes ended.pair ended.settled);
      };
      remains = λ q here collected. absurd (not collected);
      same = λ q here has no. span.same here.stands.standing;
      leaves = λ pending. swapped_still records c a b (span.leaves pending);
    }

  -- ---- no file changes

  module _ (b : Told) (only : ChangesOnly NoFile a b) where
    files_still : KeepsFiles a b
    files_still = keeps_store a b NoFile (λ file none. absurd none) only

    span_still : Spared r records a b
    span_still = spared NoFile (λ file none. absurd none) b (beside_only n NoFile a b only files_still)

    ends_still : (these : FileName → Type 0) → EndsFor n these a b
    ends_still these = ends_only n these a b (only_more a b NoFile these (λ file none. absurd none) only) files_still

    -- and so the verdict stays
    verdict_on : (B : Standing b.held) (told : Option Difference) → IsVerdict (until c.job.end records) c.job (found_in a.held n) told → IsVerdict (until c.job.end B.records) c.job (found_in b.held n) told
    verdict_on B told v =
        let file : (one : FileName) → IsOfAttempt n one → a.held one ≡ b.held one = λ one of. sym ((only.others one (λ none. none)).held (own_settled n a ended.pair one ended.settled of)) in
        subst (λ (rs : Records). IsVerdict (until c.job.end rs) c.job (found_in b.held n) told) (sym (span_still.same B))
        (subst (λ (f : Found). IsVerdict (until c.job.end records) c.job f told) (λ i. record { mapping = file (Mapping n) refl i; prefix = file (Prefix n) refl i }) v)

    -- nothing was answered but that it goes on
    pub kept_on : (now : Held) (result : Result Looked FinishFault) → (HasAnswer result → Holds now b r) → ¬ IsCollected result → ¬ IsSweptBehind result → TellsDifference result truth → (HasAnswer result → after_with result truth r c ≡ r) → EndsBy records r c result store.unswept 0 now a b
    kept_on now result holds not none tells same =
        stays_by b now result 0 (ends_still (MayTouch result now store.unswept)) files_still span_still holds not tells same (λ swept. absurd (none swept)) (λ swept. absurd (none swept))

    -- a fault of the check
    pub cut_by : (now : Held) → Holds now b r → (fault : FinishFault) → IsCut fault → EndsBy records r c (Err fault) store.unswept 0 now a b
    cut_by now here FinishFault.Ground cut = kept_on now (Err FinishFault.Ground) (λ has. absurd has) (λ no. no) (λ no. no) tt (λ has. absurd has)
    cut_by now here (FinishFault.Damaged at) cut = kept_on now (Err (FinishFault.Damaged at)) (λ has. absurd has) (λ no. no) (λ no. no) tt (λ has. absurd has)
    cut_by now here FinishFault.Memory cut = kept_on now (Err FinishFault.Memory) (λ has. here) (λ no. no) (λ no. no) tt (λ has. refl)
    cut_by now here FinishFault.Idle cut = absurd cut
    cut_by now here FinishFault.Wait cut = absurd cut
    cut_by now here (FinishFault.Rejected rejection) cut = absurd cut
    cut_by now here (FinishFault.Limit limit) cut = absurd cut

    -- ---- it is rejected, and a sweep follows

    module _ (check : Option CheckView) (rejection : Rejection) (left : ℕ) (d : Told) (sweeps : SweepsFiles (IsSwept store.slot store.unswept) left b d) where
      abbrev these : FileName → Type 0
      these = IsSwept store.slot store.unswept

      all_only : ChangesOnly these a d
      all_only = only_on a b d these (only_more a b NoFile these (λ file none. absurd none) only) sweeps.only

      all_files : KeepsFiles a d
      all_files = keeps_on a b d files_still (keeps_swept b d these left sweeps)

      apart : (file : FileName) → these file → IsApart store.slot file
      apart file is = swept_apart store.slot store.unswept file is

      held_swept : Holds (Over.idle store r a held c runs) d r
      held_swept = holds_apart (Over.idle store r a held c runs) r a (Over.held_idle store r a held c runs) refl n (Over.other store r a held c runs) (Over.below store r a held c runs) these apart d (beside_only n these a d all_only all_files)

      theirs : (file : FileName) → ¬ IsForeign d file → ¬ IsForeign b file
      theirs file own foreign = own (foreign_on b d sweeps.only.goes sweeps.only.lending file foreign)

      abbrev rejected : Result Looked FinishFault
      rejected = Err (FinishFault.Rejected rejection)

      abbrev there : Held
      there = over store (unswept_now store left)

      swept_store : TellsDifference rejected truth → EndsBy records r c rejected store.unswept left there a d
      swept_store tells = stays_by d there rejected left (ends_only n these a d all_only all_files) all_files (spared these apart d (beside_only n these a d all_only all_files))
          (λ has. over_holds (Over.idle store r a held c runs) r (unswept_now store left) d (unswept_is store r left held.tables) held_swept)
          (λ no. no) tells (λ has. refl)
          (λ swept zero file this own. sweeps.gone zero file this (theirs file own))
          (λ swept few. (let those = sweeps.all_but few in (those.0, those.1, λ file this own. those.2 file this (theirs file own))))

      pub swept_out : (swept : Held) → swept ≡ record (with_check store c check) { collection = None; unswept = unswept_now store left } → TellsVerdict records c a (Ok (Verdict.Rejected rejection))
          → EndsBy records r c (Err (FinishFault.Rejected rejection)) store.unswept left swept a d
      swept_out swept is says =
          subst (λ (s : Held). EndsBy records r c rejected store.unswept left s a d) (sym is) (swept_store (told_by rejection says))
        where
          told_by : (x : Rejection) → TellsVerdict records c a (Ok (Verdict.Rejected x)) → TellsDifference (Err (FinishFault.Rejected x)) truth
          told_by (Rejection.Exit e) v = tt
          told_by (Rejection.Differs difference) v = sym (verdict_is (Some difference) v)

    -- ---- it is valid

    module _ (mid : Held) (held_b : Holds mid b r) (check : Option CheckView) (mid_is : mid ≡ with_check store c check) (v : IsVerdict (until c.job.end records) c.job (found_in a.held n) None) where
      none_differs : truth ≡ None
      none_differs = sym (verdict_is None v)

      abbrev records_b : Records
      records_b = held_b.stands.standing.records

      same_b : records_b ≡ records
      same_b = span_still.same held_b.stands.standing

      leaves_begun : (d : Told) → NothingPending a → KeepsPast b d → LeavesSwapped records_b c b d → LeavesSwapped records c a d
      leaves_begun d pending goes is = swapped_front records c a b d goes span_still.live (span_still.leaves pending) (subst (λ (rs : Records). LeavesSwapped rs c b d) same_b is)

      slots_begun : (d : Told) → KeepsPast b d → KeepsSlots b d → KeepsSlots a d
      slots_begun d goes is = slots_then a b d span_still.kept span_still.control goes is

      -- what the swap asks
      pub asked_of : IsVerdict (until c.job.end records_b) c.job (found_in b.held n) None
      asked_of = verdict_on held_b.stands.standing None v

      module _ (now : Held) (d : Told) where
        over_now : now ≡ record mid { collection = None } → Holds now b r
        over_now is = subst (λ (s : Held). Holds s b r) (sym is) (over_holds mid r mid.unswept b held_b.tables.unswept held_b)

        same_now : now ≡ mid → Holds now b r
        same_now is = subst (λ (s : Held). Holds s b r) (sym is) held_b

        cut_ground : AcceptsAs records_b r c (Err FinishFault.Ground) now b d → EndsBy records r c (Err FinishFault.Ground) store.unswept 0 now a d
        cut_ground is =
            let changes = ends_on n (λ (file : FileName). file ≡ Control) a b d (ends_still (λ (file : FileName). file ≡ Control)) is.only in
            let after : after_cut truth r c ≡ collected_at r c.commit = ap (λ (t : Option Difference). after_cut t r c) none_differs in
            record {
              difference = truth;
              valid = valid.0;
              is_valid = valid.1;
              judged = judged_in d (ends_stays n (λ (file : FileName). file ≡ Control) a d changes ended.pair ended.settled);
              tells = tt;
              does = record {
                only = changes;
                files = keeps_on a b d files_still is.files;
                holds = λ has. absurd has;
                serves = λ collected. absurd collected;
                gone = λ swept. absurd swept;
                all_but = λ swept. absurd swept;
                atomic = λ pending. subst (IsAtomic a d r) (sym after) (atomic_front r (collected_at r c.commit) a b d is.only.beside.goes (span_still.recovers pending) (is.atomic (span_still.pending pending)));
                slots = λ pending. slots_begun d is.only.beside.goes (is.slots (span_still.pending pending));
                recovers = λ pending has. absurd has;
                nothing_pending = λ pending has. absurd has;
                flushed = λ pending. is.flushed (span_still.pending pending);
                settled = λ has. absurd has;
              };
              remains = λ q here collected. absurd collected;
              same = λ q here has. absurd has;
              leaves = λ pending. leaves_begun d pending is.only.beside.goes (is.leaves (span_still.pending pending));
            }

        pub refused_by : (fault : FinishFault) → IsSwapFault fault → IsUndamaged {A = Unit {0}} (Err fault) → Accepts (Err fault) r c mid now → (IsTurnedDown (Err fault) → d ≡ b) → AcceptsAs records_b r c (Err fault) now b d
            → EndsBy records r c (Err fault) store.unswept 0 now a d
        refused_by FinishFault.Ground may safe accepts still is = cut_ground is
        refused_by (FinishFault.Limit limit) may safe accepts still is =
            subst (λ (t : Told). EndsBy records r c (Err (FinishFault.Limit limit)) store.unswept 0 now a t) (sym (still tt))
            (kept_on now (Err (FinishFault.Limit limit)) (λ has. over_now accepts.0) (λ no. no) (λ no. no) none_differs (λ has. refl))
        refused_by (FinishFault.Damaged at) may safe accepts still is = absurd safe
        refused_by FinishFault.Memory may safe accepts still is =
            subst (λ (t : Told). EndsBy records r c (Err FinishFault.Memory) store.unswept 0 now a t) (sym (still tt))
            (kept_on now (Err FinishFault.Memory) (λ has. same_now accepts) (λ no. no) (λ no. no) tt (λ has. refl))
        refused_by FinishFault.Idle may safe accepts still is = absurd may
        refused_by FinishFault.Wait may safe accepts still is = absurd may
        refused_by (FinishFault.Rejected rejection) may safe accepts still is = absurd may

        -- ---- the store went over to the pair

        module _ (accepts : Accepts (Ok tt) r c mid now) (is : AcceptsAs records_b r c (Ok tt) now b d) (left : ℕ) (f : Told) (sweeps : SweepsFiles (IsSwept now.slot now.unswept) left d f) where
          abbrev q : Repository
          q = collected_at r c.commit

          slot_is : now.slot ≡ swapped_slot mid.slot mid.unswept c accepts.2 accepts.3
          slot_is = accepts.4

          unswept_same : now.unswept ≡ store.unswept
          unswept_same = accepts.5 ∙ ap (λ (s : Held). s.unswept) mid_is

          live_is : now.slot.live ≡ n
          live_is = ap (λ (s : Slot). s.live) slot_is

          next_is : now.slot.next_attempt ≡ n + 1
          next_is = ap (λ (s : Slot). s.next_attempt) slot_is ∙ ap (λ (s : Held). s.slot.next_attempt) mid_is ∙ sym (Over.phase store r a held c runs).told.attempt

          abbrev swept_files : FileName → Type 0
          swept_files = IsSwept now.slot now.unswept

          span_swept : Spared q is.holds.stands.standing.records d f
          span_swept = spared_by now q d is.holds accepts.1 0 (λ same. (let low = (Over.phase store r a held c runs).told.valid.attempt in absurd (omega (arith, same, low, live_is)))) (let next = next_is in omega (arith, next))
              swept_files (λ file this. swept_apart now.slot now.unswept file this) f (beside_only 0 swept_files d f sweeps.only (keeps_swept d f swept_files left sweeps))

          theirs_then : (file : FileName) → ¬ IsForeign f file → ¬ IsForeign d file
          theirs_then file own foreign = own (foreign_on d f sweeps.only.goes sweeps.only.lending file foreign)

          -- the pair stays
          pair_file : (file : FileName) → ¬ swept_files file → IsOfAttempt n file → f.held file ≡ d.held file
          pair_file file not of = (sweeps.only.others file not).held (own_settled n d is.serves.pair file is.serves.settled of)

          serves_then : Serves f n
          serves_then = record {
            pair = is.serves.pair;
            settled = settled_stays n d f is.serves.pair swept_files is.serves.settled sweeps.only;
            mapping = pair_file (Mapping n) (λ this. this.1 (sym live_is)) refl ∙ is.serves.mapping;
            prefix = pair_file (Prefix n) (λ this. this.1 (sym live_is)) refl ∙ is.serves.prefix;
          }

          abbrev collected : Result Looked FinishFault
          collected = Ok (Looked.Collected (record { floor = now.slot.floor; left = left }))

          abbrev Touched : FileName → Type 0
          Touched file = (file ≡ Control) ⊎ IsSwept now.slot store.unswept file

          to_old : (file : FileName) → swept_files file → IsSwept now.slot store.unswept file
          to_old file this = subst (λ (u : Unswept). IsSwept now.slot u file) unswept_same this

          from_old : (file : FileName) → IsSwept now.slot store.unswept file → swept_files file
          from_old file this = subst (λ (u : Unswept). IsSwept now.slot u file) (sym unswept_same) this

          changes_all : EndsFor n Touched a f
          changes_all =
              ends_on n Touched a b f (ends_still Touched)
              (ends_on n Touched b d f (ends_more n (Only Control) b d Touched (λ file this. inl this) is.only)
              (ends_only n Touched d f (only_more d f swept_files Touched (λ file this. inr (to_old file this)) sweeps.only) (keeps_swept d f swept_files left sweeps)))

          -- and the records are those that remain
          list_then : (kept : Records) × AreKept records c.job.horizon c.job.end kept × (is.holds.stands.standing.records ≡ remaining c.job.horizon kept records)
          list_then = (let there = is.remains q is.holds in (there.0, subst (λ (rs : Records). AreKept rs c.job.horizon c.job.end there.0) same_b there.1, there.2 ∙ ap (λ (rs : Records). remaining c.job.horizon there.0 rs) same_b))

          leaves_swept : NothingPending a → LeavesSwapped records c a f
          leaves_swept pending = swapped_behind records c a d f sweeps.only.goes (leaves_begun d pending is.only.beside.goes (is.leaves (span_still.pending pending))) (λ t late le image possible.
              let by = span_swept.leaves (is.nothing_pending (span_still.pending pending)) now.slot (held_has now q d is.holds) t late le image possible in
              (list_then.0, list_then.1, record { repository = by.repository; stands = by.stands; list = by.list ∙ list_then.2; low = by.low ∙ ap (λ (s : Slot). s.horizon) slot_is }))

          -- the slot of the swap comes next
          follows : (s : Slot) → HasLive s a.held → IsSlotFrom s d.held
          follows s has = inr (
            now.slot,
            held_has now q d is.holds,
            subst (λ (u : Slot). IsNext u now.slot) (one_slot store.slot s a.held (held_has store r a held) has)
                (let same : now.slot.next_attempt ≡ store.slot.next_attempt = ap (λ (u : Slot). u.next_attempt) slot_is ∙ ap (λ (x : Held). x.slot.next_attempt) mid_is in record {
                  sequence = ap (λ (u : Slot). u.sequence) slot_is ∙ ap (λ (x : Held). x.slot.sequence + 1) mid_is;
                  drawn = omega (arith, same);
                  one = omega (arith, same);
                }),
          )

          slots_swept : NothingPending a → KeepsSlots a f
          slots_swept pending = slots_behind a d f is.holds.kept follows sweeps.only.goes span_swept.control (slots_begun d is.only.beside.goes (is.slots (span_still.pending pending)))

          pending_then : NothingPending a → NothingPending f
          pending_then pending = span_swept.pending (is.nothing_pending (span_still.pending pending))

          module _ (unswept : Unswept) (unswept_of : IsUnswept now.slot unswept) where
            -- with what is unswept then
            abbrev done : Held
            done = record now { unswept = unswept }

            done_holds : Holds done f q
            done_holds = subst (λ (o : Option Collection). Holds (record now { collection = o; unswept = unswept }) f q) (sym accepts.1)
                (over_holds now q unswept f unswept_of
                (holds_apart now q d is.holds accepts.1 0 (λ same. (let low = (Over.phase store r a held c runs).told.valid.attempt in absurd (omega (arith, same, low, live_is)))) (let next = next_is in omega (arith, next))
                swept_files (λ file this. swept_apart now.slot now.unswept file this) f (beside_only 0 swept_files d f sweeps.only (keeps_swept d f swept_files left sweeps))))

            done_by : EndsBy records r c collected store.unswept left done a f
            done_by = record {
              difference = truth;
              valid = valid.0;
              is_valid = valid.1;
              judged = judged_in f (ends_stays n Touched a f changes_all ended.pair ended.settled);
              tells = none_differs;
              does = record {
                only = changes_all;
                files = keeps_on a b f files_still (keeps_on b d f is.files (keeps_swept d f swept_files left sweeps));
                holds = λ has. done_holds;
                serves = λ has. serves_then;
                gone = λ has zero file this own. sweeps.gone zero file (from_old file this) (theirs_then file own);
                all_but = λ has few. (let those = sweeps.all_but few in (those.0, those.1, λ file this own. those.2 file (from_old file this) (theirs_then file own)));
                atomic = λ pending. atomic_front r q a b f (goes_on b d f is.only.beside.goes sweeps.only.goes) (span_still.recovers pending)
                    (atomic_behind r q b d f sweeps.only.goes (is.atomic (span_still.pending pending)) (span_swept.recovers (is.nothing_pending (span_still.pending pending))));
                slots = slots_swept;
                recovers = λ pending has. recovers_now done q f done_holds (pending_then pending);
                nothing_pending = λ pending has. pending_then pending;
                flushed = λ pending. span_swept.flushed (is.nothing_pending (span_still.pending pending));
                settled = λ has. (ended.pair, ends_stays n Touched a f changes_all ended.pair ended.settled);
              };
              remains = λ p here has. (list_then.0, list_then.1, span_swept.same here.stands.standing ∙ list_then.2);
              same = λ p here has no. absurd (no tt);
              leaves = leaves_swept;
            }

          pub collected_by : (swept : Held) → swept ≡ record now { unswept = if left == 0 then swept_to now.slot else now.unswept }
              → EndsBy records r c (Ok (Looked.Collected (record { floor = now.slot.floor; left = left }))) store.unswept left swept a f
          collected_by swept swept_is =
              subst (λ (s : Held). EndsBy records r c collected store.unswept left s a f) (sym swept_is)
              (done_by (unswept_now now left) (unswept_is now q left is.holds.tables))
