-- A stretch, record by record.
--     first_behind, next_behind      where these stand in the slice.      one_stretch, stretch_more      the first one, and one more
--     stretch_ends      where they end
use Rattle.std.proofs.Common.{◌≡◌, ℕ, zero, suc, ◌+◌, ◌-◌, ◌<◌, ◌≤◌, List, [], ◌∷◌, ◌++◌, refl, sym, ap, subst, ◌∙◌, length, take, drop, reverse, get_or, arith}
use Rattle.std.proofs.Math.Seq.{take-suc}
use Rattle.std.proofs.lemmas.List.{get_or-reverse, get_or-drop, length-drop, length-reverse, length-take-le, reverse-reverse}
use Rattle.std.proofs.lemmas.List.Sums.{sum_by-cons, sum_by_push}
use Rattle.ip_image.specs.declared.run.Run.{Run}
use Rattle.ip_image.specs.Virtual.{total}
use Rattle.ip_space.specs.SpaceView.{AreBelow}
use Rattle.ip_keep.proofs.RunsApart.{ends_back}
use Rattle.ip_check.specs.declared.prefix.Stretch.{Stretch}
use Rattle.ip_check.specs.Stretching.{AreLinked, IsStretch}

pub first_behind : (xs : List Run) (c : ℕ) (d : Run) → c < length xs → get_or xs (length xs - c - 1) d ≡ get_or (drop c (reverse xs)) 0 d
first_behind xs c d l =
    let e : length xs - c - 1 ≡ length xs - 1 - c = omega arith in
    let z : c ≡ c + 0 = omega arith in
    ap (λ (i : ℕ). get_or xs i d) e ∙ sym (get_or-reverse xs c d l) ∙ ap (λ (i : ℕ). get_or (reverse xs) i d) z ∙ sym (get_or-drop c (reverse xs) 0 d)

pub next_behind : (xs : List Run) (c n : ℕ) (d : Run) → c + n < length xs → get_or xs (length xs - c - 1 - n) d ≡ get_or (drop c (reverse xs)) n d
next_behind xs c n d l =
    let e : length xs - c - 1 - n ≡ length xs - 1 - (c + n) = omega arith in
    ap (λ (i : ℕ). get_or xs i d) e ∙ sym (get_or-reverse xs (c + n) d l) ∙ sym (get_or-drop c (reverse xs) n d)

pub behind_length : (xs : List Run) (c : ℕ) → length (drop c (reverse xs)) ≡ length xs - c
behind_length xs c = length-drop c (reverse xs) ∙ ap (λ (n : ℕ). n - c) (length-reverse xs)

linked_more : (at : ℕ) (runs : List Run) (next : Run) → AreLinked at runs → next.at ≡ at + total runs → AreLinked at (runs ++ next ∷ [])
linked_more at [] next l e = (omega (arith, e), tt)
linked_more at (run ∷ runs) next (here, l) e =
    let s = sum_by-cons (λ (r : Run). r.length) run runs in
    (here, linked_more (at + run.length) runs next l (omega (arith, e, s)))

pub one_stretch : (ys : List Run) (most : ℕ) (first d : Run) → 0 < length ys → 1 ≤ most → first ≡ get_or ys 0 d → IsStretch ys most (record { at = first.at; length = first.length; records = 1 })
one_stretch [] most first d some high e = absurd (omega (arith, some))
one_stretch (y ∷ ys) most first d some high e = subst (λ (r : Run). IsStretch (y ∷ ys) most (record { at = r.at; length = r.length; records = 1 })) (sym e) (record {
  some = omega arith;
  few = high;
  within = omega (arith, some);
  linked = (refl, tt);
  length = let s = sum_by-cons (λ (r : Run). r.length) y [] in omega (arith, s);
})

pub stretch_more : (ys : List Run) (most : ℕ) (s : Stretch) (next d : Run) → IsStretch ys most s → s.records < length ys → s.records < most → next ≡ get_or ys s.records d → s.at + s.length ≡ next.at
    → IsStretch ys most (record { at = s.at; length = s.length + next.length; records = s.records + 1 })
stretch_more ys most s next d st more few is touch = record {
  some = omega arith;
  few = omega (arith, few);
  within = omega (arith, more);
  linked = subst (AreLinked s.at) (sym longer) (linked_more s.at (take s.records ys) next st.linked (sym touch ∙ ap (λ (n : ℕ). s.at + n) st.length));
  length = ap (λ (n : ℕ). n + next.length) st.length ∙ sym (sum_by_push (λ (r : Run). r.length) (take s.records ys) next) ∙ ap total (sym longer);
}
  where
    one : s.records + 1 ≡ suc s.records
    one = omega arith

    longer : take (s.records + 1) ys ≡ take s.records ys ++ next ∷ []
    longer = ap (λ (n : ℕ). take n ys) one ∙ take-suc ys s.records d more ∙ ap (λ (r : Run). take s.records ys ++ r ∷ []) (sym is)

-- ---- where they end

end_take : (top n : ℕ) (xs : List Run) → AreBelow top xs → AreBelow top (take n xs)
end_take top zero xs all = tt
end_take top (suc n) [] all = tt
end_take top (suc n) (x ∷ xs) all = (all.0, end_take top n xs all.1)

end_drop : (top n : ℕ) (xs : List Run) → AreBelow top xs → AreBelow top (drop n xs)
end_drop top zero xs all = all
end_drop top (suc n) [] all = tt
end_drop top (suc n) (x ∷ xs) all = end_drop top n xs all.1

end_reverse : (top : ℕ) (xs : List Run) → AreBelow top xs → AreBelow top (reverse xs)
end_reverse top xs all = ends_back top (reverse xs) (subst (AreBelow top) (sym (reverse-reverse xs)) all)

linked_ends : (top at : ℕ) (runs : List Run) → AreLinked at runs → AreBelow top runs → 0 < length runs → at + total runs ≤ top
linked_ends top at [] l a some = absurd (omega (arith, some))
linked_ends top at (run ∷ []) (e, l) (b, a) some = let s = sum_by-cons (λ (r : Run). r.length) run [] in omega (arith, e, b, s)
linked_ends top at (run ∷ next ∷ runs) (e, l) (b, a) some =
    let s = sum_by-cons (λ (r : Run). r.length) run (next ∷ runs) in
    let deep = linked_ends top (at + run.length) (next ∷ runs) l a (omega arith) in
    omega (arith, s, deep)

pub stretch_ends : (top : ℕ) (xs : List Run) (c most : ℕ) (s : Stretch) → AreBelow top xs → IsStretch (drop c (reverse xs)) most s → s.at + s.length ≤ top
stretch_ends top xs c most s all st =
    let n = length-take-le s.records (drop c (reverse xs)) st.within in
    let some = st.some in
    let long = st.length in
    let e = linked_ends top s.at (take s.records (drop c (reverse xs))) st.linked (end_take top s.records _ (end_drop top c _ (end_reverse top xs all))) (omega (arith, n, some)) in
    omega (arith, e, long)
