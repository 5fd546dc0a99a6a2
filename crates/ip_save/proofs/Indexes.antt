-- Indexes of which each is below the next rise.
use Rattle.std.proofs.Common.{◌≡◌, ℕ, zero, suc, ◌+◌, ◌-◌, ◌<◌, List, [], ◌∷◌, map, length, get_or, refl, ap, sym, subst, Bool, true, false, arith}
use Rattle.std.specs.Prelude.{nat_lt, slice_index}
use Rattle.std.proofs.lemmas.Bool.{ltb-true, ltb-false}
use Rattle.ip_spec.specs.declared.record.InodeChild.{InodeChild}

abbrev pub indexes_of : List InodeChild → List ℕ
indexes_of cs = map (λ (c : InodeChild). c.index) cs

index_at : (cs : List InodeChild) (i : ℕ) (c : InodeChild) → i < length cs → c ≡ get_or cs i c → slice_index (indexes_of cs) i ≡ c.index
index_at [] i c lt is = absurd (omega arith)
index_at (d ∷ cs) zero c lt is = ap (λ (x : InodeChild). x.index) (sym is)
index_at (d ∷ cs) (suc i) c lt is = index_at cs i c (omega arith) is

pub index_rises : (cs : List InodeChild) (i : ℕ) (a b : InodeChild) → 0 < i → i < length cs → a ≡ get_or cs (i - 1) a → b ≡ get_or cs i b → (get_or cs (i - 1) a).index < (get_or cs i b).index
    → ((k : ℕ) → k + 1 < i → slice_index (indexes_of cs) k < slice_index (indexes_of cs) (k + 1))
    → (k : ℕ) → k + 1 < i + 1 → slice_index (indexes_of cs) k < slice_index (indexes_of cs) (k + 1)
index_rises cs i a b some lt a_is b_is less before k under = by (nat_lt (k + 1) i) refl
  where
    by : (t : Bool) → nat_lt (k + 1) i ≡ t → slice_index (indexes_of cs) k < slice_index (indexes_of cs) (k + 1)
    by true t = before k (ltb-true _ _ t)
    by false t =
        let here : i ≡ k + 1 = let le = ltb-false _ _ t in omega arith in
        let behind : i - 1 ≡ k = omega arith in
        let x = index_at cs (i - 1) a (omega arith) a_is in
        let y = index_at cs i b lt b_is in
        subst (λ (n : ℕ). slice_index (indexes_of cs) k < slice_index (indexes_of cs) n) here
        (subst (λ (n : ℕ). slice_index (indexes_of cs) n < slice_index (indexes_of cs) i) behind (omega (arith, x, y, less, ap (λ (c : InodeChild). c.index) a_is, ap (λ (c : InodeChild). c.index) b_is)))
