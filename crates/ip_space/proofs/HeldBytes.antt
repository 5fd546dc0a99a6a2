-- The bytes that a buffer holds from one place to another.
--     held_more      with those that were read behind them.      held_passed      without those in front
use Rattle.std.proofs.Common.{◌≡◌, ℕ, ◌+◌, ◌-◌, ◌≤◌, List, ◌++◌, length, take, drop, sym, ◌∙◌, ap, arith, length-drop}
use Rattle.std.proofs.Math.Seq.{take-add}
use Rattle.std.proofs.lemmas.List.{length-take, drop-drop, drop-take}
use Rattle.ip_space.specs.declared.ahead.Ahead.{Ahead}
use Rattle.ip_space.specs.Ahead.{held_in, IsAhead}

pub held_size : (a : Ahead) → IsAhead a → length (held_in a) ≡ a.stop - a.start
held_size a is = let low = is.low in let high = is.high in omega (arith, length-take (a.stop - a.start) (drop a.start a.buffer.items), length-drop a.start a.buffer.items)

from_front : (start stop : ℕ) (xs : List ℕ) → start ≡ 0 → take (stop - start) (drop start xs) ≡ take stop xs
from_front start stop xs front = ap (λ (n : ℕ). take (stop - n) (drop n xs)) front ∙ (let e : stop - 0 ≡ stop = omega arith in ap (λ (n : ℕ). take n xs) e)

pub held_more : (a v : Ahead) (n : ℕ) → a.start ≡ 0 → v.start ≡ 0 → take a.stop v.buffer.items ≡ take a.stop a.buffer.items → v.stop ≡ a.stop + n
    → held_in v ≡ held_in a ++ take n (drop a.stop v.buffer.items)
held_more a v n front again same stop =
    from_front v.start v.stop v.buffer.items again
    ∙ ap (λ (k : ℕ). take k v.buffer.items) stop
    ∙ take-add a.stop n v.buffer.items
    ∙ ap (λ (xs : List ℕ). xs ++ take n (drop a.stop v.buffer.items)) (same ∙ sym (from_front a.start a.stop a.buffer.items front))

pub held_same : (a v : Ahead) → a.start ≡ 0 → v.start ≡ 0 → take a.stop v.buffer.items ≡ take a.stop a.buffer.items → v.stop ≡ a.stop → held_in v ≡ held_in a
held_same a v front again same stop =
    from_front v.start v.stop v.buffer.items again
    ∙ ap (λ (k : ℕ). take k v.buffer.items) stop
    ∙ same ∙ sym (from_front a.start a.stop a.buffer.items front)

pub held_passed : (a : Ahead) → IsAhead a → (count : ℕ) → count ≤ length (held_in a)
    → take (a.stop - (a.start + count)) (drop (a.start + count) a.buffer.items) ≡ drop count (held_in a)
held_passed a is count within =
    let size = held_size a is in
    let rest : a.stop - a.start ≡ count + (a.stop - (a.start + count)) = omega (arith, size, within) in
    sym (ap (λ (n : ℕ). drop count (take n (drop a.start a.buffer.items))) rest
    ∙ drop-take count (a.stop - (a.start + count)) (drop a.start a.buffer.items)
    ∙ ap (λ (xs : List ℕ). take (a.stop - (a.start + count)) xs) (drop-drop count a.start a.buffer.items))
