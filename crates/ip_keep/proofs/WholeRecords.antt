-- The records that a space has in an image.
--     in_space      each is read at its offset.      border      from the horizon on they lie end to end
--     of_core, core_here      records and what the core sees of them
use Rattle.std.proofs.Common.{◌≡◌, ◌⊎◌, inl, inr, ℕ, ◌+◌, ◌-◌, ◌<◌, List, [], ◌∷◌, ◌++◌, refl, sym, ap, subst, ◌∙◌, length, map, arith, append_assoc, append-nil}
use Rattle.std.specs.Prelude.{Contains, Option, Some, None, IsSome}
use Rattle.std.specs.List.{AllByRecursion}
use Rattle.ip_ground.specs.Contents.{Image}
use Rattle.ip_spec.specs.declared.record.Record.{Record}
use Rattle.ip_spec.specs.declared.event.CoreRecord.{CoreRecord}
use Rattle.ip_spec.specs.Record.{spelling, Fits}
use Rattle.ip_spec.specs.TreeAt.{Records, present}
use Rattle.ip_spec.specs.Core.{core_record, core_records, IsPresent}
use Rattle.ip_image.specs.Slot.{newest_version}
use Rattle.ip_image.specs.declared.run.Run.{Run}
use Rattle.ip_image.specs.Virtual.{run_of, placed, virtual_byte}
use Rattle.ip_image.specs.Standing.{EndToEnd, RunByRun}
use Rattle.ip_image.specs.Stored.{stored}
use Rattle.ip_image.proofs.PairLaws.{Has, Rises}
use Rattle.ip_image.proofs.KeptRuns.{runs_again}
use Rattle.ip_image.proofs.StoredLaws.{ends_of, present_stored}
use Rattle.ip_image.proofs.StayingRecords.{in_from, in_contains, of_map, in_map, has_in, in_has, has_right, has_either, present_has, has_present, ordered_rises}
use Rattle.ip_space.specs.SpaceView.{SpaceView, byte_in, records_in}
use Rattle.ip_space.specs.Scanning.{RunsTo, at_the_end, behind}
use Rattle.ip_keep.specs.Whole.{AreRecords}
use Rattle.ip_keep.proofs.Ascending.{Lies, lies}

all_has : (P : ℕ × Record → Type 0) (xs : Records) (x : ℕ × Record) → AllByRecursion P xs → Has xs x → P x
all_has P [] x all c = absurd c
all_has P (y ∷ xs) x all (inl e) = subst P e all.0
all_has P (y ∷ xs) x all (inr c) = all_has P xs x all.1 c

abbrev Part : (ℕ → Option ℕ) → Run → Records → Type 0
Part f run records = (front here : Records) × (records ≡ front ++ here) × EndToEnd f run.at here (run.at + run.length)

last_part : (f : ℕ → Option ℕ) (runs : List Run) (run : Run) (records : Records) → RunByRun f (runs ++ run ∷ []) records → Part f run records
last_part f [] run records (here, later, is, ends, none) = ([], here, is ∙ ap (λ (l : Records). here ++ l) none ∙ append-nil here, ends)
last_part f (r ∷ runs) run records (here, later, is, ends, rest) =
    let (front, last, same, lie) = last_part f runs run later rest in
    (here ++ front, last, is ∙ ap (λ (l : Records). here ++ l) same ∙ sym (append_assoc here front last), lie)

rises_over : (front : Records) (y : ℕ × Record) (ys : Records) (x : ℕ × Record) → Rises (front ++ y ∷ ys) → Has front x → x.0 < y.0
rises_over [] y ys x r c = absurd c
rises_over (z ∷ front) y ys x r (inl e) = subst (λ (w : ℕ × Record). w.0 < y.0) e (r.0 y (has_right front (y ∷ ys) y (inl refl)))
rises_over (z ∷ front) y ys x r (inr c) = rises_over front y ys x r.1 c

module _ (image : Image) (space : SpaceView) (h : ℕ) (records : Records) (whole : AreRecords image space h records) where
  pub in_place : Lies 0 records
  in_place = lies 0 records whole.closed.order

  pub rise : Rises records
  rise = ordered_rises 0 records in_place.to in_place.ordered

  again : map run_of (placed 0 space.runs) ≡ space.runs
  again = runs_again 0 space.runs

  pub in_space : (at : ℕ) (r : Record) → present records at ≡ Some r → records_in image space at ≡ Some r
  in_space at r is =
      ap (λ (runs : List Run). stored image space.layout runs at) (sym again)
      ∙ present_stored image space.layout (placed 0 space.runs) records
      (ends_of space.layout.horizon space.layout.end 0 0 (placed 0 space.runs) whole.rows (let a = whole.above in let b = whole.below in omega (arith, a, b)))
      (subst (λ (runs : List Run). RunByRun (virtual_byte image space.layout runs) (runs ++ record { at = space.layout.horizon; length = space.layout.end - space.layout.horizon } ∷ []) records) (sym again) whole.whole)
      (λ at r is. all_has (λ (x : ℕ × Record). Fits newest_version x.1) records (at, r) whole.bounds (present_has records at r is)) at r is

  -- a record of the core
  pub of_core : (q : CoreRecord) → Contains (core_records records) q → (x : ℕ × Record) × Has records x × (core_record x ≡ q)
  of_core q c = let (x, there, is) = of_map core_record records q (in_from (core_records records) q c) in (x, in_has records x there, is)

  pub core_here : (x : ℕ × Record) → Has records x → Contains (core_records records) (core_record x)
  core_here x c = in_contains (core_records records) (core_record x) (in_map core_record records x (has_in records x c))

  pub present_here : (at : ℕ) → IsPresent (core_records records) at → (r : Record) × (present records at ≡ Some r)
  present_here at (q, c, is) =
      let (x, there, same) = of_core q c in
      let place : x.0 ≡ at = ap (λ (c : CoreRecord). c.at) same ∙ is in
      (x.1, subst (λ (n : ℕ). present records n ≡ Some x.1) place (has_present records x rise there))

  -- ---- end to end

  along : (f : ℕ → Option ℕ) (xs : Records) (from to : ℕ) → EndToEnd f from xs to → ((x : ℕ × Record) → Has xs x → Has records x) → RunsTo (present records) from to
  along f [] from to is all = subst (λ (n : ℕ). RunsTo (present records) n to) (sym is) at_the_end
  along f (x ∷ xs) from to is all =
      behind x.1 (subst (λ (n : ℕ). present records n ≡ Some x.1) is.0 (has_present records x rise (all x (inl refl)))) (along f xs (from + length (spelling x.1)) to is.2 (λ y c. all y (inr c)))

  along_from : (f : ℕ → Option ℕ) (xs : Records) (from to : ℕ) (x : ℕ × Record) → EndToEnd f from xs to → Has xs x → ((x : ℕ × Record) → Has xs x → Has records x) → RunsTo (present records) x.0 to
  along_from f [] from to x is c all = absurd c
  along_from f (y ∷ xs) from to x is (inl e) all =
      let place : from ≡ x.0 = sym is.0 ∙ ap (λ (w : ℕ × Record). w.0) e in
      subst (λ (n : ℕ). RunsTo (present records) n to) place (along f (y ∷ xs) from to is all)
  along_from f (y ∷ xs) from to x is (inr c) all = along_from f xs (from + length (spelling y.1)) to x is.2 c (λ z d. all z (inr d))

  some_of : (o : Option Record) → IsSome o → (r : Record) × (o ≡ Some r)
  some_of None is = absurd (cc (is))
  some_of (Some r) is = (r, refl)

  pub border : RunsTo (present records) h space.layout.end
  border = by part.1 part.2 part.3 (some_of (present records h) whole.here)
    where
      last : Run
      last = record { at = space.layout.horizon; length = space.layout.end - space.layout.horizon }

      part : Part (byte_in image space) last records
      part = last_part (byte_in image space) space.runs last records whole.whole

      to_end : space.layout.horizon + (space.layout.end - space.layout.horizon) ≡ space.layout.end
      to_end = let a = whole.above in let b = whole.below in omega (arith, a, b)

      by : (here : Records) → records ≡ part.0 ++ here → EndToEnd (byte_in image space) space.layout.horizon here (space.layout.horizon + (space.layout.end - space.layout.horizon))
          → (r : Record) × (present records h ≡ Some r) → RunsTo (present records) h space.layout.end
      by [] is ends (r, there) = let a = whole.above in let b = whole.below in absurd (omega (arith, ends, a, b))
      by (y ∷ ys) is ends (r, there) = pick (has_either part.0 (y ∷ ys) (h, r) (subst (λ (l : Records). Has l (h, r)) is (present_has records h r there)))
        where
          pick : Has part.0 (h, r) ⊎ Has (y ∷ ys) (h, r) → RunsTo (present records) h space.layout.end
          pick (inl c) =
              let less = rises_over part.0 y ys (h, r) (subst Rises is rise) c in
              let first = ends.0 in
              let above = whole.above in
              absurd (omega (arith, less, first, above))
          pick (inr c) = subst (λ (n : ℕ). RunsTo (present records) h n) to_end
              (along_from (byte_in image space) (y ∷ ys) space.layout.horizon (space.layout.horizon + (space.layout.end - space.layout.horizon)) (h, r) ends c
              (λ z d. subst (λ (l : Records). Has l z) (sym is) (has_right part.0 (y ∷ ys) z d)))
