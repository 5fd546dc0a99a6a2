-- Where nothing is left to be looked at, what was kept is the least set.
--     keeps_all, few_looks      the two laws
use Rattle.std.proofs.Common.{◌≡◌, inl, inr, ℕ, ◌≤◌, List, [], ◌∷◌, refl, sym, ap, subst, ◌∙◌, length, map, arith}
use Rattle.std.specs.Prelude.{Contains, Some}
use Rattle.std.specs.List.Sorted.{IsStrictlyIncreasing}
use Rattle.std.proofs.lemmas.Option.{same_Some}
use Rattle.std.proofs.lemmas.List.{length-map}
use Rattle.ip_spec.specs.declared.record.Record.{Record}
use Rattle.ip_spec.specs.Record.{spelling}
use Rattle.ip_spec.specs.TreeAt.{Records, present}
use Rattle.ip_spec.specs.Core.{core_records, Reached, from_above, from_kept}
use Rattle.ip_image.specs.declared.run.Run.{Run}
use Rattle.ip_image.specs.Collection.{in_front, runs_of}
use Rattle.ip_image.proofs.PairLaws.{Has, Rises, has_from, contains_from}
use Rattle.ip_image.proofs.StayingRecords.{In, in_from, in_contains, of_map, in_map, has_in, in_has, present_has, has_present}
use Rattle.ip_keep.specs.KeepView.{KeepView}
use Rattle.ip_keep.specs.Keeping.{IsKeeping, IsThrough, IsFound, KeepsAll, FewLooks, offsets}
use Rattle.ip_keep.specs.Runs.{joined, least, AreApart}
use Rattle.ip_keep.specs.Whole.{run_at}
use Rattle.ip_keep.proofs.Ascending.{Up, up, increasing, fewer, more_counted}
use Rattle.ip_keep.proofs.WholeRecords.{rise}

-- ---- runs that are apart ascend

apart_in : (h : ℕ) (runs : List Run) (at : ℕ) → AreApart h runs → In (offsets runs) at → least h runs ≤ at
apart_in h [] at apart c = absurd c
apart_in h (run ∷ runs) at apart (inl e) = omega (arith, e)
apart_in h (run ∷ runs) at (some, low, apart) (inr c) = let l = apart_in h runs at apart c in omega (arith, l, low)

up_runs : (h : ℕ) (runs : List Run) → AreApart h runs → Up (offsets runs)
up_runs h [] apart = tt
up_runs h (run ∷ runs) (some, low, apart) = (λ y c. (let l = apart_in h runs y apart c in omega (arith, l, low, some)), up_runs h runs apart)

pub ascending_runs : (h : ℕ) (runs : List Run) → AreApart h runs → IsStrictlyIncreasing (offsets runs)
ascending_runs h runs apart = increasing (offsets runs) (up_runs h runs apart)

-- ---- the records of runs

abbrev Of : Records → List Run → Records → Type 0
Of records runs kept = (map run_at kept ≡ runs) × ((x : ℕ × Record) → Has kept x → present records x.0 ≡ Some x.1)

kept_of : (records : Records) (runs : List Run) → ((run : Run) → In runs run → (r : Record) × (present records run.at ≡ Some r) × (run.length ≡ length (spelling r))) → (kept : Records) × Of records runs kept
kept_of records [] each = ([], (refl, λ x c. absurd c))
kept_of records (run ∷ runs) each =
    let (r, there, long) = each run (inl refl) in
    let (kept, (same, all)) = kept_of records runs (λ x c. each x (inr c)) in (
      (run.at, r) ∷ kept,
      (λ i. record { at = run.at; length = sym long i } ∷ same i, λ x c. by r there kept all x c),
    )
  where
    by : (r : Record) → present records run.at ≡ Some r → (kept : Records) → ((x : ℕ × Record) → Has kept x → present records x.0 ≡ Some x.1) → (x : ℕ × Record) → Has ((run.at, r) ∷ kept) x → present records x.0 ≡ Some x.1
    by r there kept all x (inl e) = subst (λ (w : ℕ × Record). present records w.0 ≡ Some w.1) e there
    by r there kept all x (inr c) = all x c

offsets_kept : (kept : Records) → offsets (map run_at kept) ≡ map (λ (x : ℕ × Record). x.0) kept
offsets_kept [] = refl
offsets_kept (x ∷ kept) = ap (λ (l : List ℕ). x.0 ∷ l) (offsets_kept kept)

joined_kept : (kept : Records) → joined (map run_at kept) ≡ runs_of kept
joined_kept [] = refl
joined_kept (x ∷ kept) = ap (in_front x.0 (length (spelling x.1))) (joined_kept kept)

-- ---- the least set

module _ (records : Records) (k : KeepView) (keeping : IsKeeping records k) where
  looked_found : IsThrough k → (at : ℕ) → IsFound k at → Contains (offsets k.kept) at
  looked_found through at (inl c) = absurd (in_from [] at (subst (λ (l : List ℕ). Contains l at) through.1 c))
  looked_found through at (inr c) = c

  reached_kept : IsThrough k → (at : ℕ) → Reached (core_records records) k.horizon k.space.layout.end at → Contains (offsets k.kept) at
  reached_kept through at (from_above q b c high low ref under) = looked_found through b (keeping.above q b c high (let e = through.0 in omega (arith, e, low)) ref under)
  reached_kept through at (from_kept q b c deep ref) = looked_found through b (keeping.closed q b c (reached_kept through q.at deep) ref)

pub keeps_all : KeepsAll
keeps_all image records k whole keep keeping through =
    let (kept, (same, all)) = kept_of records k.kept (λ run c. keeping.lengths run (in_contains k.kept run c)) in (
      kept,
      record { ascending = subst IsStrictlyIncreasing (places kept same) (ascending_runs k.horizon k.kept keep.apart); each = λ x. (to kept same all x, from kept same all x) },
      sym same,
      ap joined (sym same) ∙ joined_kept kept,
    )
  where
    rising : Rises records
    rising = rise image k.space k.horizon records whole

    places : (kept : Records) → map run_at kept ≡ k.kept → offsets k.kept ≡ map (λ (x : ℕ × Record). x.0) kept
    places kept same = ap offsets (sym same) ∙ offsets_kept kept

    to : (kept : Records) → map run_at kept ≡ k.kept → ((x : ℕ × Record) → Has kept x → present records x.0 ≡ Some x.1) → (x : ℕ × Record) → Contains kept x
        → Contains records x × Reached (core_records records) k.horizon k.space.layout.end x.0
    to kept same all x (i, l, e) =
        let has = has_from kept x i l e in (
          contains_from records x (present_has records x.0 x.1 (all x has)),
          keeping.sound x.0 (inr (in_contains (offsets k.kept) x.0 (subst (λ (l : List ℕ). In l x.0) (sym (places kept same)) (in_map (λ (x : ℕ × Record). x.0) kept x (has_in kept x has))))),
        )

    from : (kept : Records) → map run_at kept ≡ k.kept → ((x : ℕ × Record) → Has kept x → present records x.0 ≡ Some x.1) → (x : ℕ × Record)
        → Contains records x × Reached (core_records records) k.horizon k.space.layout.end x.0 → Contains kept x
    from kept same all x ((i, l, e), reached) =
        let here = has_present records x rising (has_from records x i l e) in
        let at = subst (λ (l : List ℕ). Contains l x.0) (places kept same) (reached_kept records k keeping through x.0 reached) in
        let (y, there, place) = of_map (λ (x : ℕ × Record). x.0) kept x.0 (in_from (map (λ (x : ℕ × Record). x.0) kept) x.0 at) in
        let found = subst (λ (n : ℕ). present records n ≡ Some y.1) place (all y (in_has kept y there)) in
        let rec : y.1 ≡ x.1 = same_Some y.1 x.1 (sym found ∙ here) in
        contains_from kept x (subst (Has kept) (λ j. (place j, rec j)) (in_has kept y there))

-- ---- how many looks

pub few_looks : FewLooks
few_looks image records k whole keep keeping kept is =
    let few : length (offsets k.kept) ≤ length (map (λ (x : ℕ × Record). x.0) kept) =
    fewer (offsets k.kept) (map (λ (x : ℕ × Record). x.0) kept) (up_runs k.horizon k.kept keep.apart) (up (map (λ (x : ℕ × Record). x.0) kept) is.ascending) among in
    let one : length (offsets k.kept) ≡ length k.kept = length-map k.kept (λ (run : Run). run.at) in
    let two : length (map (λ (x : ℕ × Record). x.0) kept) ≡ length kept = length-map kept (λ (x : ℕ × Record). x.0) in
    let more = more_counted k.horizon k.next k.space.layout.end records keep.high in
    let seen = keeping.seen in
    omega (arith, few, one, two, more, seen)
  where
    among : (z : ℕ) → In (offsets k.kept) z → In (map (λ (x : ℕ × Record). x.0) kept) z
    among z c =
        let (run, there, place) = of_map (λ (run : Run). run.at) k.kept z c in
        let (r, here, long) = keeping.lengths run (in_contains k.kept run there) in
        let here : present records z ≡ Some r = subst (λ (n : ℕ). present records n ≡ Some r) place here in
        let (i, l, e) = (is.each (z, r)).1 (contains_from records (z, r) (present_has records z r here), keeping.sound z (inr (in_contains (offsets k.kept) z c))) in
        in_map (λ (x : ℕ × Record). x.0) kept (z, r) (has_in kept (z, r) (has_from kept (z, r) i l e))
