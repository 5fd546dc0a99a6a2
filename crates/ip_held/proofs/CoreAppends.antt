-- What a call does to the core of what a store holds: it appends records, or nothing.
--     one_kept      what a collection keeps is one list.      kept_still      records behind the collection's end change nothing of it
--     tied_still      the same records are no event.      tied_behind, is_appended      records end to end behind the others, in an image that stands, are one
--     Sees store records other others      another store by the same collection, horizon and records.      sees_itself, sees_back, sees_same, sees_still      where it is so
--     answer_seen      what an answer did, from and to such stores.      still_fault, still_value      what an answer did that left the records
use Rattle.std.proofs.Common.{◌≡◌, ◌⊎◌, inl, inr, ℕ, ◌≤◌, Bool, true, false, List, [], ◌∷◌, ◌++◌, Option, Some, None, refl, sym, ◌∙◌, ap, subst, arith}
use Rattle.std.proofs.lemmas.List.{map-append}
use Rattle.std.specs.Prelude.{Contains, IfSome, Result, Ok, Err, is_some}
use Rattle.ip_ground.specs.Contents.{Image}
use Rattle.ip_ground.specs.Told.{Told, NoFile, ChangesOnly}
use Rattle.ip_spec.specs.declared.event.CoreRecord.{CoreRecord}
use Rattle.ip_spec.specs.declared.record.Record.{Record}
use Rattle.ip_spec.specs.Batch.{AreEndToEnd}
use Rattle.ip_spec.specs.Core.{AreReached, Core, CorePhase, CoreRun, FollowOn, Stays, core_of, core_record, core_records}
use Rattle.ip_spec.specs.Repository.{Repository}
use Rattle.ip_spec.specs.TreeAt.{Records}
use Rattle.ip_image.specs.declared.slot.Slot.{Slot}
use Rattle.ip_image.specs.Collected.{offsets_of}
use Rattle.ip_image.specs.Collection.{IsKept}
use Rattle.ip_image.specs.Standing.{Standing}
use Rattle.ip_image.proofs.CoreTies.{image_rises, kept_on, offsets_reached, some_valid}
use Rattle.ip_image.proofs.KeptRuns.{ordered_has}
use Rattle.ip_image.proofs.OneRepository.{all_records}
use Rattle.ip_image.proofs.PairLaws.{Has}
use Rattle.ip_image.proofs.StayingRecords.{In, has_in, has_right, in_contains, in_from, in_map, refs_of}
use Rattle.ip_keep.proofs.Ascending.{Up, up}
use Rattle.ip_held.specs.declared.collection.Collection.{Collection}
use Rattle.ip_held.specs.declared.fault.StoreFault.{StoreFault}
use Rattle.ip_held.specs.declared.held.Held.{Held}
use Rattle.ip_held.specs.Collecting.{Collects, IsPhaseOf}
use Rattle.ip_held.specs.Held.{Holds, SameTables}
use Rattle.ip_held.specs.Tie.{CorePhaseOf, IsCoreOf, IsTied, appending}
use Rattle.ip_held.specs.TieAppends.{IsAppended, IsTiedAnswer, IsTiedBy, IsTiedFault}
use Rattle.ip_held.proofs.BatchRests.{end_reached, follow_on, lie_ordered}
use Rattle.ip_held.proofs.Recovering.{held_has}
use Rattle.ip_held.proofs.Stepping.{still_list}

-- ---- what is kept

same_up : (xs ys : List ℕ) → Up xs → Up ys → ((z : ℕ) → In xs z → In ys z) → ((z : ℕ) → In ys z → In xs z) → xs ≡ ys
same_up [] [] a b to from = refl
same_up [] (y ∷ ys) a b to from = absurd (from y (inl refl))
same_up (x ∷ xs) [] a b to from = absurd (to x (inl refl))
same_up (x ∷ xs) (y ∷ ys) a b to from =
    let rest = same_up xs ys a.1 b.1 (λ z i. rest_to z i (to z (inr i))) (λ z i. rest_from z i (from z (inr i))) in
    λ i. first i ∷ rest i
  where
    heads : (y ≡ x) ⊎ In ys x → (x ≡ y) ⊎ In xs y → x ≡ y
    heads (inl e) other = sym e
    heads (inr i) (inl e) = e
    heads (inr i) (inr j) = let l = b.0 x i in let m = a.0 y j in absurd (omega (arith, l, m))

    first : x ≡ y
    first = heads (to x (inl refl)) (from y (inl refl))

    rest_to : (z : ℕ) → In xs z → (y ≡ z) ⊎ In ys z → In ys z
    rest_to z i (inl e) = let l = a.0 z i in let f = first in absurd (omega (arith, e, f, l))
    rest_to z i (inr j) = j

    rest_from : (z : ℕ) → In ys z → (x ≡ z) ⊎ In xs z → In xs z
    rest_from z i (inl e) = let l = b.0 z i in let f = first in absurd (omega (arith, e, f, l))
    rest_from z i (inr j) = j

pub one_kept : (cores : List CoreRecord) (h e0 : ℕ) (kept other : List ℕ) → AreReached cores h e0 kept → AreReached cores h e0 other → other ≡ kept
one_kept cores h e0 kept other a b =
    same_up other kept (up other b.ascending) (up kept a.ascending)
    (λ z i. in_from kept z ((a.each z).1 ((b.each z).0 (in_contains other z i))))
    (λ z i. in_from other z ((b.each z).1 ((a.each z).0 (in_contains kept z i))))

pub kept_still : (image other : Image) (A : Standing image) (B : Standing other) (more : Records) → B.records ≡ A.records ++ more → (h e0 : ℕ) → h ≤ e0 → ((x : ℕ × Record) → Has more x → e0 ≤ x.0)
    → (kept later : List ℕ) → AreReached (core_records A.records) h e0 kept → AreReached (core_records B.records) h e0 later → later ≡ kept
kept_still image other A B more list h e0 order behind kept later a b =
    one_kept (core_records B.records) h e0 (offsets_of some) later after b ∙ one_kept (core_records A.records) h e0 kept (offsets_of some) a before
  where
    some : Records
    some = (some_valid A.slot A.records (image_rises image A) A.good h e0).1.kept

    each : IsKept A.records h e0 some
    each = (some_valid A.slot A.records (image_rises image A) A.good h e0).1.each

    before : AreReached (core_records A.records) h e0 (offsets_of some)
    before = offsets_reached A.slot A.records (image_rises image A) A.good h e0 some each

    after : AreReached (core_records B.records) h e0 (offsets_of some)
    after = offsets_reached B.slot B.records (image_rises other B) B.good h e0 some
        (subst (λ (rs : Records). IsKept rs h e0 some) (sym list) (kept_on A.slot A.records (image_rises image A) A.good h e0 some each more order behind))

-- ---- two cores

abbrev KeepsOne : Option Collection → Records → Records → Type 0
KeepsOne o records later = (c : Collection) → o ≡ Some c → (kept others : List ℕ) → AreReached (core_records records) c.job.horizon c.job.end kept → AreReached (core_records later) c.job.horizon c.job.end others → others ≡ kept

one_phase : (o : Option Collection) (records later : Records) → KeepsOne o records later → (phase other : CorePhase) → CorePhaseOf records o phase → CorePhaseOf later o other → other ≡ phase
one_phase None records later one phase other a b = b ∙ sym a
one_phase (Some c) records later one phase other (kept, reached, is) (others, reached', is') =
    is' ∙ ap (λ (ks : List ℕ). CorePhase.collecting c.job.horizon ks (is_some c.exit)) (one c refl kept others reached reached') ∙ sym is

pub tied_still : (store store' : Held) (records records' : Records) → store'.collection ≡ store.collection → store'.slot.horizon ≡ store.slot.horizon → records' ≡ records → IsTied store records store' records' []
tied_still store store' records records' collection horizon same core core' here there =
    there.core_is ∙ (λ i. core_of (same i) (horizon i) (phase i)) ∙ sym here.core_is
  where
    phase : there.phase ≡ here.phase
    phase = one_phase store.collection records records (λ c is kept others a b. one_kept (core_records records) c.job.horizon c.job.end kept others a b) here.phase there.phase here.seen
        (subst (λ (rs : Records). CorePhaseOf rs store.collection there.phase) same (subst (λ (o : Option Collection). CorePhaseOf records' o there.phase) collection there.seen))

-- ---- records behind the others

module _ (store store' : Held) (a b : Told) (r q : Repository) (held : Holds store a r) (now : Holds store' b q) (collection : store'.collection ≡ store.collection) (horizon : store'.slot.horizon ≡ store.slot.horizon)
    (more : Records) (list : now.stands.standing.records ≡ held.stands.standing.records ++ more) (lie : AreEndToEnd store.slot.end more store'.slot.end) where
  abbrev A : Standing a.held
  A = held.stands.standing

  abbrev B : Standing b.held
  B = now.stands.standing

  lies_behind : (x : ℕ × Record) → Has more x → store.slot.end ≤ x.0
  lies_behind x has = (ordered_has store.slot.end more store'.slot.end x (lie_ordered store.slot.end more store'.slot.end lie) has).0

  keeps_by : (o : Option Collection) → IsPhaseOf store.slot r o → KeepsOne o A.records B.records
  keeps_by None is c same = absurd (cc (same))
  keeps_by (Some d) is c same =
      let one : d ≡ c = cc (same) in
      let some = is.told.valid.some in
      let inside = is.told.end in
      subst (λ (c : Collection). (kept others : List ℕ) → AreReached (core_records A.records) c.job.horizon c.job.end kept → AreReached (core_records B.records) c.job.horizon c.job.end others → others ≡ kept) one
      (kept_still a.held b.held A B more list d.job.horizon d.job.end (omega (arith, some)) (λ x has. (let low = lies_behind x has in omega (arith, low, inside))))

  follow : (phase : CorePhase) → ((x : ℕ × Record) → Has more x → (at : ℕ) → In (refs_of x.1) at → Stays phase at) → FollowOn (core_records A.records) phase (core_records more)
  follow phase rests = follow_on B.slot B.records (image_rises b.held B) B.good phase A.records more store.slot.end store'.slot.end (sym list) (end_reached a.held store.slot (held_has store r a held) A) lie now.tables.slot.ends rests

  follows_by : (o : Option Collection) → IsPhaseOf store.slot r o → IfSome o (Collects b store'.slot B.records q) → (phase : CorePhase) → CorePhaseOf A.records o phase → FollowOn (core_records A.records) phase (core_records more)
  follows_by None is collects phase seen = subst (λ (p : CorePhase). FollowOn (core_records A.records) p (core_records more)) (sym seen) (follow CorePhase.idle (λ x has at ref. tt))
  follows_by (Some c) is collects phase (kept, reached, seen) =
      subst (λ (p : CorePhase). FollowOn (core_records A.records) p (core_records more)) (sym seen) (follow (CorePhase.collecting c.job.horizon kept (is_some c.exit)) rests)
    where
      same : collects.kept ≡ kept
      same = keeps_by (Some c) is c refl kept collects.kept reached collects.collectable.reached

      high : (x : ℕ × Record) → Has more x → c.job.horizon ≤ x.0
      high x has = let low = lies_behind x has in let some = is.told.valid.some in let inside = is.told.end in omega (arith, low, some, inside)

      rests : (x : ℕ × Record) → Has more x → (at : ℕ) → In (refs_of x.1) at → (c.job.horizon ≤ at) ⊎ Contains kept at
      rests x has at ref =
          subst (λ (ks : List ℕ). (c.job.horizon ≤ at) ⊎ Contains ks at) same
          (collects.collectable.core.keeps.above (core_record x) at
          (in_contains (core_records B.records) (core_record x) (in_map core_record B.records x (has_in B.records x (subst (λ (rs : Records). Has rs x) (sym list) (has_right A.records more x has)))))
          (high x has) (in_contains (refs_of x.1) at ref))

  pub tied_behind : IsTied store A.records store' B.records (appending more)
  tied_behind core core' here there =
      subst (λ (c : Core). CoreRun c (appending more) core') (sym here.core_is)
      (core', ((follows_by store.collection held.tables.phase (subst (λ (o : Option Collection). IfSome o (Collects b store'.slot B.records q)) collection now.collects) here.phase here.seen), there.core_is ∙ more_records), refl)
    where
      cores : core_records B.records ≡ core_records A.records ++ core_records more
      cores = ap core_records list ∙ map-append core_record A.records more

      phase : there.phase ≡ here.phase
      phase = one_phase store.collection A.records B.records (keeps_by store.collection held.tables.phase) here.phase there.phase here.seen
          (subst (λ (o : Option Collection). CorePhaseOf B.records o there.phase) collection there.seen)

      more_records : core_of B.records store'.slot.horizon there.phase ≡ record { records = core_records A.records ++ core_records more; horizon = store.slot.horizon; phase = here.phase }
      more_records = λ i. record { records = cores i; horizon = horizon i; phase = phase i }

  pub is_appended : IsAppended store A.records store' B.records
  is_appended = record { new = more; behind = list; tied = tied_behind }

-- ---- from and to other stores

pub record Sees (store : Held) (records : Records) (other : Held) (others : Records) : Type 0 where
  pub collection : other.collection ≡ store.collection
  pub horizon : other.slot.horizon ≡ store.slot.horizon
  pub list : others ≡ records

pub sees_itself : (store : Held) (records : Records) → Sees store records store records
sees_itself store records = record { collection = refl; horizon = refl; list = refl }

pub sees_back : (store other : Held) (records others : Records) → Sees store records other others → Sees other others store records
sees_back store other records others is = record { collection = sym is.collection; horizon = sym is.horizon; list = sym is.list }

-- by the same tables, whichever proof says that the image stands
pub sees_same : (store store' : Held) → SameTables store store' → (a : Told) (r q : Repository) (held : Holds store a r) (now : Holds store' a q) → Sees store held.stands.standing.records store' now.stands.standing.records
sees_same store store' same a r q held now = record { collection = same.collection; horizon = ap (λ (s : Slot). s.horizon) same.slot; list = all_records a.held now.stands.standing held.stands.standing }

-- where no file was changed
pub sees_still : (store store' : Held) → SameTables store store' → (a b : Told) → ChangesOnly NoFile a b → (r q : Repository) (held : Holds store a r) (now : Holds store' b q) → Sees store held.stands.standing.records store' now.stands.standing.records
sees_still store store' same a b only r q held now = record { collection = same.collection; horizon = ap (λ (s : Slot). s.horizon) same.slot; list = still_list store store' same r q a b only held now }

pub core_seen : (store other : Held) (records others : Records) → Sees store records other others → (core : Core) → IsCoreOf other others core → IsCoreOf store records core
core_seen store other records others same core is = record {
  phase = is.phase;
  seen = subst (λ (rs : Records). CorePhaseOf rs store.collection is.phase) same.list (subst (λ (o : Option Collection). CorePhaseOf others o is.phase) same.collection is.seen);
  core_is = is.core_is ∙ (λ i. core_of (same.list i) (same.horizon i) is.phase);
}

module _ (store other : Held) (records others : Records) (front : Sees store records other others) (now after : Held) (lasts laters : Records) (back : Sees now lasts after laters) where
  none_seen : IsTied store records now lasts [] → IsTied other others after laters []
  none_seen is core core' here there = is core core' (core_seen store other records others front core here) (core_seen now after lasts laters back core' there)

  by_seen : (made : Bool) → IsTiedBy made store records now lasts → IsTiedBy made other others after laters
  by_seen true is = record {
    new = is.new;
    behind = back.list ∙ is.behind ∙ ap (λ (rs : Records). rs ++ is.new) (sym front.list);
    tied = λ core core' here there. is.tied core core' (core_seen store other records others front core here) (core_seen now after lasts laters back core' there);
  }
  by_seen false is = none_seen is

  pub fault_seen : (fault : StoreFault) → IsTiedFault fault store records now lasts → IsTiedFault fault other others after laters
  fault_seen StoreFault.Ground is = tt
  fault_seen (StoreFault.Damaged at names) is = tt
  fault_seen (StoreFault.GivenUp number) is = none_seen is
  fault_seen (StoreFault.HeadMoved name) is = none_seen is
  fault_seen (StoreFault.Leaving number) is = none_seen is
  fault_seen (StoreFault.Existing name) is = none_seen is
  fault_seen (StoreFault.Limit limit) is = none_seen is
  fault_seen StoreFault.Memory is = none_seen is

  pub answer_seen : {A : Type 0} (made : A → Bool) (result : Result A StoreFault) → IsTiedAnswer made result store records now lasts → IsTiedAnswer made result other others after laters
  answer_seen made (Ok value) is = by_seen (made value) is
  answer_seen made (Err fault) is = fault_seen fault is

-- ---- answers that leave the records

module _ (store store' : Held) (records records' : Records) (same : Sees store records store' records') where
  pub no_event : IsTied store records store' records' []
  no_event = tied_still store store' records records' same.collection same.horizon same.list

  pub still_fault : (fault : StoreFault) → IsTiedFault fault store records store' records'
  still_fault StoreFault.Ground = tt
  still_fault (StoreFault.Damaged at names) = tt
  still_fault (StoreFault.GivenUp number) = no_event
  still_fault (StoreFault.HeadMoved name) = no_event
  still_fault (StoreFault.Leaving number) = no_event
  still_fault (StoreFault.Existing name) = no_event
  still_fault (StoreFault.Limit limit) = no_event
  still_fault StoreFault.Memory = no_event

  pub still_value : (made : Bool) → made ≡ false → IsTiedBy made store records store' records'
  still_value made none = subst (λ (b : Bool). IsTiedBy b store records store' records') (sym none) no_event
