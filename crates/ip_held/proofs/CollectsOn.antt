-- What the swap asks of a collection that goes on, with more records behind those that there were.
--     until_more      those below the job's end are as before
--     collects_more      so it goes on, where the core can append them and no branch comes to a commit that goes
--     unwritten      a durable step writes no file of an attempt
--     collects_on      and behind a durable step, where what the new records refer to stays
use Rattle.std.proofs.Common.{◌≡◌, inl, inr, ℕ, ◌+◌, ◌<◌, ◌≤◌, [], ◌∷◌, ◌++◌, Option, Some, None, length, refl, sym, ◌∙◌, ap, subst, arith, append-nil}
use Rattle.std.proofs.lemmas.List.Elements.{All-contains, All-from_recursion, filter-append}
use Rattle.std.specs.List.{AllByRecursion}
use Rattle.std.specs.Prelude.{All, IfSome, IsSome, is_some, nat_lt}
use Rattle.ip_base.specs.declared.limit.TheConstants.{OFFSET_MAX}
use Rattle.ip_ground.specs.declared.names.FileName.{FileName}
use Rattle.ip_ground.specs.declared.names.FileName.TheVariants.{Control, Chunk, Prefix, Mapping, Done}
use Rattle.ip_ground.specs.Custody.{IsOfAttempt}
use Rattle.ip_ground.specs.Told.{Told, ChangesOnly}
use Rattle.ip_spec.specs.declared.record.Record.{Record}
use Rattle.ip_spec.specs.Batch.{AreEndToEnd}
use Rattle.ip_spec.specs.Core.{core_records, CorePhase, FollowOn}
use Rattle.ip_spec.specs.Record.{spelling}
use Rattle.ip_spec.specs.Repository.{Repository}
use Rattle.ip_spec.specs.TreeAt.{Records, present}
use Rattle.ip_image.specs.declared.slot.Slot.{Slot}
use Rattle.ip_image.specs.Collected.{IsCollectable}
use Rattle.ip_image.specs.Standing.{Standing}
use Rattle.ip_image.proofs.CoreTies.{collection_goes_on, image_rises}
use Rattle.ip_image.proofs.PairLaws.{Has, Rises, contains_from}
use Rattle.ip_image.proofs.SpelledCommits.{present_front}
use Rattle.ip_image.proofs.StayingRecords.{has_present, has_right}
use Rattle.ip_held.specs.declared.collection.Collection.{Collection}
use Rattle.ip_held.specs.declared.held.Held.{Held}
use Rattle.ip_held.specs.Collecting.{Collects, IsPhaseOf, until}
use Rattle.ip_publish.specs.Publishing.{IsWritten}
use Rattle.ip_held.specs.Held.{Holds}
use Rattle.ip_held.proofs.BatchRests.{end_reached, follow_on}
use Rattle.ip_held.proofs.Going.{child_on}
use Rattle.ip_held.proofs.Recovering.{held_has}
use Rattle.ip_held.proofs.Remaining.{none_until}
use Rattle.ip_held.proofs.TableRecords.{all_heads}
use Rattle.ip_held.specs.Step.{RestsBy}

pub until_more : (end : ℕ) (records more : Records) → ((x : ℕ × Record) → Has more x → end ≤ x.0) → until end (records ++ more) ≡ until end records
until_more end records more all = filter-append (λ (x : ℕ × Record). nat_lt x.0 end) records more ∙ ap (λ (rs : Records). until end records ++ rs) (none_until end more all) ∙ append-nil (until end records)

still_there : (records more : Records) (at : ℕ) (o : Option Record) → present records at ≡ o → IsSome o → IsSome (present (records ++ more) at)
still_there records more at (Some x) e some = subst (λ (o : Option Record). IsSome o) (sym (present_front records more at x e)) refl
still_there records more at None e some = absurd (cc (some))

pub collects_more : (a b : Told) (these : FileName → Type 0) → ChangesOnly these a b → ((file : FileName) (n : ℕ) → IsOfAttempt n file → ¬ these file) → (s t : Slot) (records more : Records) (r q : Repository) (c : Collection)
    → t.horizon ≡ s.horizon → All (λ (x : ℕ × Record). c.job.end ≤ x.0) more → IsSome (present (records ++ more) s.end) → All (λ e. c.commit ≤ e.1) q.branches.entries
    → (is : Collects a s records r c) → FollowOn (core_records records) (CorePhase.collecting c.job.horizon is.kept (is_some c.exit)) (core_records more) → Collects b t (records ++ more) q c
collects_more a b these only apart s t records more r q c horizon above first heads is follow = record {
  kept = is.kept;
  collectable = subst (λ (h : ℕ). IsCollectable (records ++ more) q h c.commit c.job.horizon c.job.end is.kept (is_some c.exit)) (sym horizon)
      (collection_goes_on records more r q s.horizon c.commit c.job.horizon c.job.end is.kept (is_some c.exit) is.collectable follow above heads);
  border = inr (elim is.border [ inl e ↦ subst (λ (n : ℕ). IsSome (present (records ++ more) n)) (sym e) first | inr some ↦ still_there records more c.job.end (present records c.job.end) refl some ]);
  child = child_on a b only.goes only.lending (λ file n of. only.others file (apart file n of)) c records (records ++ more) (until_more c.job.end records more (λ x has. All-contains (λ (y : ℕ × Record). c.job.end ≤ y.0) more x above (contains_from more x has))) c.exit is.child;
}

-- ---- a durable step

pub unwritten : (size from to : ℕ) (file : FileName) (n : ℕ) → IsOfAttempt n file → ¬ IsWritten size from to file
unwritten size from to Control n of written = of
unwritten size from to (Chunk number) n of written = of
unwritten size from to (Prefix number) n of written = elim written [ inl control ↦ cc (control) | inr chunk ↦ cc (chunk.2) ]
unwritten size from to (Mapping number) n of written = elim written [ inl control ↦ cc (control) | inr chunk ↦ cc (chunk.2) ]
unwritten size from to (Done number) n of written = elim written [ inl control ↦ cc (control) | inr chunk ↦ cc (chunk.2) ]

lie_above : (low from : ℕ) (xs : Records) (to : ℕ) → low ≤ from → AreEndToEnd from xs to → AllByRecursion (λ (x : ℕ × Record). low ≤ x.0) xs
lie_above low from [] to le lie = tt
lie_above low from (x ∷ xs) to le lie = ((let at = lie.0 in omega (arith, le, at)), lie_above low (from + length (spelling x.1)) xs to (omega (arith, le)) lie.1)

-- the first of them lies where the others end
first_there : (old more : Records) (from to : ℕ) → from < to → AreEndToEnd from more to → Rises (old ++ more) → IsSome (present (old ++ more) from)
first_there old [] from to some lie rise = absurd (omega (arith, some, lie))
first_there old (x ∷ xs) from to some lie rise =
    subst (λ (n : ℕ). IsSome (present (old ++ x ∷ xs) n)) lie.0 (subst (λ (o : Option Record). IsSome o) (sym (has_present (old ++ x ∷ xs) x rise (has_right old (x ∷ xs) x (inl refl)))) refl)

-- what the new records refer to stays

module _ (store : Held) (r q : Repository) (a b : Told) (held : Holds store a r) (these : FileName → Type 0) (only : ChangesOnly these a b) (apart : (file : FileName) (n : ℕ) → IsOfAttempt n file → ¬ these file)
    (t : Slot) (horizon : t.horizon ≡ store.slot.horizon) (some : store.slot.end < t.end) (small : t.end ≤ OFFSET_MAX) (more : Records) (lie : AreEndToEnd store.slot.end more t.end) where
  abbrev records : Records
  records = held.stands.standing.records

  by_case : (B : Standing b.held) → B.records ≡ records ++ more → (o : Option Collection) → IfSome o (Collects a store.slot records r) → IsPhaseOf store.slot r o → IsPhaseOf t q o → RestsBy held more o → IfSome o (Collects b t B.records q)
  by_case B list None is was phase rests = tt
  by_case B list (Some c) is was phase rests =
      let inside = was.told.end in
      subst (λ (rs : Records). Collects b t rs q c) (sym list)
      (collects_more a b these only apart store.slot t records more r q c horizon (All-from_recursion (λ (x : ℕ × Record). c.job.end ≤ x.0) more (lie_above c.job.end store.slot.end more t.end inside lie))
      (first_there records more store.slot.end t.end some lie (subst Rises list (image_rises b.held B))) (all_heads (λ (n : ℕ). c.commit ≤ n) q.branches phase.heads) is
      (follow_on B.slot B.records (image_rises b.held B) B.good (CorePhase.collecting c.job.horizon is.kept (is_some c.exit)) records more store.slot.end t.end (sym list)
      (end_reached a.held store.slot (held_has store r a held) held.stands.standing) lie small (rests c refl is)))

  pub collects_on : IsPhaseOf t q store.collection → RestsBy held more store.collection → (B : Standing b.held) → B.records ≡ records ++ more → IfSome store.collection (Collects b t B.records q)
  collects_on phase rests B list = by_case B list store.collection held.collects held.tables.phase phase rests
