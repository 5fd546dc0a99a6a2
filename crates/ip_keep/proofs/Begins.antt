-- Where the search begins.      begins      by the records.      begins_down      over any files
use Rattle.std.proofs.Common.{◌≡◌, inl, inr, ℕ, List, [], ◌∷◌, refl, sym, ap, subst, ◌∙◌, Bool, false, cond, arith, Option}
use Rattle.std.specs.Prelude.{Contains, count_by, nat_le, nat_lt, ◌&&◌}
use Rattle.std.specs.List.{AllByRecursion}
use Rattle.std.proofs.lemmas.Bool.Decides.{nat_tests}
use Rattle.std.proofs.lemmas.List.Sums.{sum_by-cons}
use Rattle.ip_ground.specs.Contents.{Image}
use Rattle.ip_spec.specs.declared.record.Record.{Record}
use Rattle.ip_spec.specs.TreeAt.{Records, present}
use Rattle.ip_image.specs.declared.run.Run.{Run}
use Rattle.ip_image.proofs.StayingRecords.{in_from}
use Rattle.ip_space.specs.Scanning.{RunsTo}
use Rattle.ip_keep.specs.KeepView.{KeepView}
use Rattle.ip_keep.specs.Keeping.{IsKeeping, IsFound, LeadsDown, RefersDown, RunsDown, from_there, offsets, starts_between}
use Rattle.ip_keep.specs.Whole.{AreRecords}
use Rattle.ip_keep.proofs.WholeRecords.{border}

no_test : (h n : ℕ) → (nat_le h n && nat_lt n h) ≡ false
no_test h n = grind (arith, nat_tests)

none_counted : (h : ℕ) (xs : Records) → count_by (starts_between h h) xs ≡ 0
none_counted h [] = refl
none_counted h (x ∷ xs) =
    let a = sum_by-cons (λ y. cond (starts_between h h y) 1 0) x xs in
    let b : ◌≡◌ {A = ℕ} (cond (starts_between h h x) 1 0) 0 = ap (λ (t : Bool). cond t 1 0) (no_test h x.0) in
    let c = none_counted h xs in
    omega (arith, a, b, c)

pub begins_down : (records : ℕ → Option Record) (k : KeepView) → k.next ≡ k.horizon → k.kept ≡ [] → LeadsDown records k
begins_down records k next no_kept = record {
  above = subst (λ (n : ℕ). RunsDown records k.horizon n) (sym next) from_there;
  kept = subst (λ (l : List Run). AllByRecursion (λ run. RefersDown records run.at) l) (sym no_kept) tt;
}

pub begins : (image : Image) (records : Records) (k : KeepView) → k.next ≡ k.horizon → k.seen ≡ 0 → k.waiting ≡ [] → k.kept ≡ [] → AreRecords image k.space k.horizon records → IsKeeping records k
begins image records k next seen none no_kept whole = record {
  border = subst (λ (n : ℕ). RunsTo (present records) n k.space.layout.end) (sym next) (border image k.space k.horizon records whole);
  seen = seen ∙ sym (none_counted k.horizon records) ∙ ap (λ (n : ℕ). count_by (starts_between k.horizon n) records) (sym next);
  sound = λ at c. absurd (nothing at c);
  above = λ r at c low high ref under. absurd (omega (arith, low, high, next));
  closed = λ r at c kept ref. absurd (in_from [] r.at (subst (λ (l : List Run). Contains (offsets l) r.at) no_kept kept));
  lengths = λ run c. absurd (in_from [] run (subst (λ (l : List Run). Contains l run) no_kept c));
}
  where
    nothing : (at : ℕ) → IsFound k at → ⊥
    nothing at (inl c) = in_from [] at (subst (λ (l : List ℕ). Contains l at) none c)
    nothing at (inr c) = in_from [] at (subst (λ (l : List Run). Contains (offsets l) at) no_kept c)
