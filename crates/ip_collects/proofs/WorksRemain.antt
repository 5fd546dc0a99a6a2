-- What a session works on, over the swap to the pair of a collection.
--     leads_reaches      what a record leads to the core reaches
--     place_above      the commits from a collection's own on lie at its place or behind it
--     works_remain      a work that was not given up goes on, over the records that remain
--     next_same      the next number is as before
use Rattle.std.proofs.Common.{◌≡◌, inl, inr, ℕ, suc, ◌+◌, ◌-◌, ◌<◌, ◌≤◌, List, [], ◌∷◌, Some, None, Option, refl, sym, ◌∙◌, ap, subst, arith}
use Rattle.std.specs.Prelude.{Contains, IfSome, IsSomeAnd, All, fold, min, nat_le, slice_get}
use Rattle.std.proofs.lemmas.Bool.{cases_eq}
use Rattle.std.proofs.lemmas.List.{length-drop}
use Rattle.ip_ground.specs.Told.{Told}
use Rattle.ip_spec.specs.declared.record.CommitRecord.{CommitRecord}
use Rattle.ip_spec.specs.declared.record.Record.{Record}
use Rattle.ip_spec.specs.declared.record.Ref.{Ref}
use Rattle.ip_spec.specs.Core.{Reaches, core_record, core_records}
use Rattle.ip_spec.specs.Core as Core
use Rattle.ip_spec.specs.Record.{references}
use Rattle.ip_spec.specs.Repository.{Commit, Repository, next}
use Rattle.ip_spec.specs.Step.{collected_at, least_with}
use Rattle.ip_spec.specs.TreeAt.{Records, present}
use Rattle.ip_spec.specs.View.{View, Part}
use Rattle.ip_image.specs.Collected.{from as records_from, remaining}
use Rattle.ip_image.specs.Collection.{IsKept as AreKept}
use Rattle.ip_image.proofs.CoreTies.{collected_present, image_rises}
use Rattle.ip_image.proofs.PairLaws.{Has, has_from}
use Rattle.ip_image.proofs.StayingRecords.{In, in_contains, in_from, in_map, has_in, has_either, filter_has, has_present, present_has, refs_of}
use Rattle.ip_held.specs.declared.collection.Collection.{Collection}
use Rattle.ip_held.specs.declared.held.Held.{Held}
use Rattle.ip_held.specs.declared.work.Work.{Work}
use Rattle.ip_held.specs.Collecting.{Collects, IsGoing}
use Rattle.ip_held.specs.Placed.{AreCommitsAt, AreRising, places_in}
use Rattle.ip_held.specs.Rooted.{IsHeld, Leads}
use Rattle.ip_held.specs.Held.{Holds, image_records}
use Rattle.ip_held.specs.Work.{IsLawful, IsThere}
use Rattle.ip_collects.proofs.Cancels as Over
use Rattle.ip_collects.proofs.FewerRecords.{view_kept}
use Rattle.ip_held.proofs.Listed.{commits_there}
use Rattle.ip_held.proofs.Phases.{retained_is}

-- ---- what a record leads to

module _ (records : Records) where
  in_core : (at : ℕ) (x : Record) → present records at ≡ Some x → Contains (core_records records) (core_record (at, x))
  in_core at x here = in_contains (core_records records) (core_record (at, x)) (in_map core_record records (at, x) (has_in records (at, x) (present_has records at x here)))

  refers_to : (x : Record) (ref : Ref) → Contains (references x) ref → Contains (refs_of x) ref.at
  refers_to x ref has = in_contains (refs_of x) ref.at (in_map (λ (r : Ref). r.at) (references x) ref (in_from (references x) ref has))

  pub leads_reaches : (from at : ℕ) → Leads (present records) from at → Reaches (core_records records) from at
  leads_reaches from _ Leads.itself = Core.Reaches.itself
  leads_reaches from _ (Leads.by_ref mid x ref there here refers) = Core.Reaches.by_ref (core_record (mid, x)) ref.at (leads_reaches from mid there) (in_core mid x here) (refers_to x ref refers)

-- ---- where the commits lie

rises_over : (from at : ℕ) (places : List ℕ) → AreRising from places → In places at → from ≤ at
rises_over from at [] rising is = absurd is
rises_over from at (p ∷ places) rising (inl is) = (let low = rising.0 in omega (arith, low, is))
rises_over from at (p ∷ places) rising (inr is) = (let low = rising.0 in let high = rises_over (p + 1) at places rising.1 is in omega (arith, low, high))

same_commit : (c d : CommitRecord) → Some (Record.Commit c) ≡ Some (Record.Commit d) → c ≡ d
same_commit c d e = cc (e)

pub place_above : (J : ℕ → Option Record) (number low : ℕ) (places : List ℕ) (ms : List Commit) → AreCommitsAt J number places ms → AreRising low places → (c h from : ℕ) (d : CommitRecord) → In places from → J from ≡ Some (Record.Commit d)
    → slice_get places (c - number) ≡ Some h → number ≤ c → c ≤ d.number → h ≤ from
place_above J number low [] ms are rising c h from d is here place least most = absurd is
place_above J number low (at ∷ places) [] are rising c h from d is here place least most = absurd are
place_above J number low (at ∷ places) (m ∷ ms) are rising c h from d (inl is) here place least most =
    let same : d ≡ are.0.spelled = same_commit d are.0.spelled (sym (subst (λ (n : ℕ). J n ≡ Some (Record.Commit d)) (sym is) here) ∙ are.0.here) in
    let counted : d.number ≡ number = ap (λ (e : CommitRecord). e.number) same ∙ are.0.spells.number in
    let none : c - number ≡ 0 = omega (arith, least, most, counted) in
    let first : Some at ≡ Some h = sym (ap (slice_get (at ∷ places)) none) ∙ place in
    let it : at ≡ h = cc (first) in
    omega (arith, it, is)
place_above J number low (at ∷ places) (m ∷ ms) are rising c h from d (inr is) here place least most = elim (cases_eq c number) [
  | inl same ↦
      let none : c - number ≡ 0 = omega (arith, same) in
      let first : Some at ≡ Some h = sym (ap (slice_get (at ∷ places)) none) ∙ place in
      let it : at ≡ h = cc (first) in
      let above = rises_over (at + 1) from places rising.1 is in
      omega (arith, it, above)
  | inr differ ↦
      let later : c - number ≡ suc (c - suc number) = omega (arith, least, differ) in
      place_above J (suc number) (at + 1) places ms are.1 rising.1 c h from d is here (sym (ap (slice_get (at ∷ places)) later) ∙ place) (omega (arith, least, differ)) most
]

later_place : (x : ℕ × Record) (xs : Records) (at : ℕ) → In (places_in xs) at → In (places_in (x ∷ xs)) at
later_place (n, Record.Commit d) xs at has = inr has
later_place (n, _) xs at has = has

has_place : (xs : Records) (at : ℕ) (d : CommitRecord) → Has xs (at, Record.Commit d) → In (places_in xs) at
has_place [] at d has = absurd has
has_place (x ∷ xs) at d (inl is) = subst (λ (z : ℕ × Record). In (places_in (z ∷ xs)) at) (sym is) (inl refl)
has_place (x ∷ xs) at d (inr has) = later_place x xs at (has_place xs at d has)

-- ---- numbers

fold_less : (o : ℕ) (ns : List ℕ) → IsSomeAnd (fold least_with (Some o) ns) (λ n. n ≤ o)
fold_less o [] = omega arith
fold_less o (n ∷ ns) = by (fold least_with (Some (min o n)) ns) (fold_less (min o n) ns)
  where
    by : (x : Option ℕ) → IsSomeAnd x (λ k. k ≤ min o n) → IsSomeAnd x (λ k. k ≤ o)
    by None is = absurd is
    by (Some k) is = omega (arith, is)

-- the least number of a work is at most that of its tree
tree_above : (c o : ℕ) (least : Option ℕ) → IfSome least (λ n. c ≤ n) → IsSomeAnd least (λ n. n ≤ o) → c ≤ o
tree_above c o None there is = absurd is
tree_above c o (Some n) there is = omega (arith, there, is)

pub next_same : (r : Repository) (c : ℕ) → r.floor ≤ c → c < next r → next (collected_at r c) ≡ next r
next_same r c low high = (let left = length-drop (c - r.floor) r.commits in omega (arith, low, high, left))

-- ---- a work

module _ (store : Held) (r : Repository) (a : Told) (held : Holds store a r) (c : Collection) (runs : store.collection ≡ Some c) where
  abbrev records : Records
  records = held.stands.standing.records

  collects : Collects a store.slot records r c
  collects = subst (λ (o : Option Collection). IfSome o (Collects a store.slot records r)) runs held.collects

  going : IsGoing store.slot.floor store.places store.unswept store.space c
  going = subst (λ (o : Option Collection). IfSome o (IsGoing store.slot.floor store.places store.unswept store.space)) runs held.tables.going

  retained : (r.floor ≤ c.commit) × (c.commit < next r)
  retained = retained_is r c.commit (Over.phase store r a held c runs).retained

  commit_above : (from : ℕ) (d : CommitRecord) → present records from ≡ Some (Record.Commit d) → c.commit ≤ d.number → c.job.horizon ≤ from
  commit_above from d here most =
      place_above (present records) r.floor store.slot.horizon store.places r.commits (commits_there store a r held) held.tables.rising c.commit c.job.horizon from d
      (subst (λ (ps : List ℕ). In ps from) (sym held.places) (has_place records from d (present_has records from (Record.Commit d) here))) here
      (subst (λ (n : ℕ). slice_get store.places (c.commit - n) ≡ Some c.job.horizon) (sym held.tables.floor) going.placed) retained.0 most

  module _ (kept : Records) (is_kept : AreKept records c.job.horizon c.job.end kept) where
    abbrev left : Records
    left = remaining c.job.horizon kept records

    -- a commit from the collection's own on reaches it
    abbrev Stays : ℕ → Type 0
    Stays at = (from : ℕ) × (c.job.horizon ≤ from) × Reaches (core_records records) from at

    stays_there : (at : ℕ) (x : Record) → Stays at → present records at ≡ Some x → present left at ≡ Some x
    stays_there at x (from, low, reach) here = collected_present a.held held.stands.standing r store.slot.horizon c.commit c.job.horizon c.job.end collects.kept _ kept collects.collectable is_kept from at x low reach here

    stays_closed : (at : ℕ) (x : Record) (b : ℕ) → Stays at → present records at ≡ Some x → In (refs_of x) b → Stays b
    stays_closed at x b (from, low, reach) here ref = (from, low, Core.Reaches.by_ref (core_record (at, x)) b reach (in_core records at x here) (in_contains (refs_of x) b ref))

    among : (at : ℕ) (x : Record) → present left at ≡ Some x → present records at ≡ Some x
    among at x here = has_present records (at, x) (image_rises a.held held.stands.standing) (elim (has_either kept (records_from c.job.horizon records) (at, x) (present_has left at x here)) [
      | inl one ↦ (let (k, l, e) = ((is_kept.each (at, x)).0 (in_contains kept (at, x) (has_in kept (at, x) one))).0 in has_from records (at, x) k l e)
      | inr other ↦ (filter_has (λ (y : ℕ × Record). nat_le c.job.horizon y.0) records (at, x) other).0
    ])

    leads_left : (from at : ℕ) → c.job.horizon ≤ from → Leads (present records) from at → Leads (present left) from at
    leads_left from _ low Leads.itself = Leads.itself
    leads_left from _ low (Leads.by_ref mid x ref there here refers) = Leads.by_ref mid x ref (leads_left from mid low there) (stays_there mid x (from, low, leads_reaches records from mid there) here) refers

    module _ (work : Work) (v : View) (lawful : IsLawful (image_records held) r work v) where
      abbrev q : Repository
      q = collected_at r c.commit

      there_before : (o : Option ℕ) → IsThere q o → IsThere r o
      there_before None there = tt
      there_before (Some n) there = (let low = retained.0 in omega (arith, low, there))

      least_above : (o : ℕ) → v.oldest ≡ Some o → IsThere q work.least → c.commit ≤ o
      least_above o oldest there =
          tree_above c.commit o work.least there
          (subst (λ (l : Option ℕ). IsSomeAnd l (λ n. n ≤ o)) (sym (lawful.least ∙ ap (λ (x : Option ℕ). fold least_with x work.parents) oldest)) (fold_less o work.parents))

      held_above : (o : Option ℕ) → v.oldest ≡ o → IsThere q work.least → (at : ℕ) → IsHeld (present records) o at → Stays at × IsHeld (present left) o at
      held_above None oldest there at is = absurd is
      held_above (Some o) oldest there at (from, d, here, high, leads) =
          let above = least_above o oldest there in
          let low = commit_above from d here (omega (arith, above, high)) in (
            (from, low, leads_reaches records from at leads),
            (from, d, stays_there from (Record.Commit d) (from, low, Core.Reaches.itself) here, high, leads_left from at low leads),
          )

      known_stays : IsThere q work.least → (p : Part) (at : ℕ) → v.known p ≡ Some at → Stays at × IsHeld (present left) v.oldest at
      known_stays there p at known = held_above v.oldest refl there at (lawful.rooted (there_before work.least there) p at known)

      pub works_remain : IsLawful (present (remaining c.job.horizon kept (held.stands.standing.records))) (collected_at r c.commit) work v
      works_remain = record {
        tree = λ there. view_kept (present records) (present left) Stays stays_there stays_closed among work.tree v (λ p at known. (known_stays there p at known).0) (lawful.tree (there_before work.least there));
        rooted = λ there p at known. (known_stays there p at known).1;
        short = lawful.short;
        parents = record {
          made = subst (λ (n : ℕ). All (λ k. k < n) work.parents) (sym (next_same r c.commit retained.0 retained.1)) lawful.parents.made;
          above = lawful.parents.above;
          distinct = lawful.parents.distinct;
          few = lawful.parents.few;
        };
        least = lawful.least;
      }
