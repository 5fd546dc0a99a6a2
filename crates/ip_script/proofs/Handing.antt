-- What a source in memory hands out, and what it has left.
use Rattle.std.proofs.Common.{◌≡◌, ℕ, suc, zero, ◌+◌, ◌-◌, ◌≤◌, List, [], ◌∷◌, ◌++◌, length, take, drop, min, sym, ap, ◌∙◌, arith}
use Rattle.std.proofs.lemmas.List.{take_rest, take-append-drop, take_at, length-take-le}
use Rattle.std.proofs.Math.Seq.{drop-nil}

drop_add : (a b : ℕ) (xs : List ℕ) → drop (a + b) xs ≡ drop b (drop a xs)
drop_add zero b xs = let e : 0 + b ≡ b = omega arith in ap (λ k. drop k xs) e
drop_add (suc a) b [] = drop-nil (suc a + b) ∙ sym (drop-nil b)
drop_add (suc a) b (x ∷ xs) = let e : suc a + b ≡ suc (a + b) = omega arith in ap (λ k. drop k (x ∷ xs)) e ∙ drop_add a b xs

pub handed_out : (file r room front : List ℕ) (at n : ℕ) → r ≡ file → at ≤ length file → n ≡ min (length (take (length r - at) (drop at r))) (length room) → front ≡ take n (take (length r - at) (drop at r)) → drop at file ≡ take n (front ++ drop n room) ++ drop (at + n) file
handed_out file r room front at n e l m f =
    let whole : take (length r - at) (drop at r) ≡ drop at file = take_rest r at ∙ ap (drop at) e in
    let few : n ≤ length (drop at file) = omega (arith, m, ap length whole) in
    let is : front ≡ take n (drop at file) = f ∙ ap (take n) whole in
    let long : length front ≡ n = ap length is ∙ length-take-le n (drop at file) few in
    sym (ap (λ (t : List ℕ). t ++ drop (at + n) file) (take_at front (drop n room) n long ∙ is) ∙ (ap (λ (t : List ℕ). take n (drop at file) ++ t) (drop_add at n file) ∙ take-append-drop n (drop at file)))
