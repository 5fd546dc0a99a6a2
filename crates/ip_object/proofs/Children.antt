-- The children of an inode, by the bits of its bitmap.
use Rattle.std.proofs.Common.{◌≡◌, ◌≢◌, ℕ, suc, ◌+◌, ◌-◌, ◌/◌, ◌%◌, ◌^◌, ◌<◌, List, [], ◌∷◌, ◌++◌, refl, ap, ◌∙◌, Bool, true, false, cond, Ok, arith}
use Rattle.std.specs.Prelude.{◌==◌, filter}
use Rattle.std.specs.List.{range_with_len}
use Rattle.ip_spec.specs.declared.record.InodeChild.{InodeChild}
use Rattle.ip_spec.specs.declared.record.RecordFault.{RecordFault}
use Rattle.ip_spec.specs.Reading.{after, Fields, Left, ◌>>=◌, done, child_field, child_fields}
use Rattle.ip_object.specs.Body.{IsFault}
use Rattle.ip_object.specs.Lists.{led, children_of_bits, bits_from, ReadBelow}
use Rattle.ip_object.proofs.Listing.{led_none, led_more, led_done}

is_set : ℕ → ℕ → Bool
is_set bitmap i = bitmap / 2 ^ i % 2 == 1

one_less : (i : ℕ) → i < 32 → 32 - i ≡ suc (32 - (i + 1))
one_less i l = omega arith

bits_split : (bitmap i : ℕ) → i < 32 → bits_from bitmap i ≡ cond (bitmap / 2 ^ i % 2 == 1) (i ∷ bits_from bitmap (i + 1)) (bits_from bitmap (i + 1))
unfolding bits_from
bits_split bitmap i l = ap (λ n. filter (λ k. bitmap / 2 ^ k % 2 == 1) (range_with_len i n)) (one_less i l)

test_true : (n : ℕ) → n % 2 ≢ 0 → (n % 2 == 1) ≡ true
test_true n h = grind (arith)

test_false : (n : ℕ) → n % 2 ≡ 0 → (n % 2 == 1) ≡ false
test_false n h = grind (arith)

pub read_none : (bitmap : ℕ) (old : Left) → ReadBelow bitmap 0 [] old old
unfolding children_of_bits bits_from
read_none bitmap old = led_none (child_fields (bits_from bitmap 0) old)

pub bit_clear : (bitmap i : ℕ) (cs : List InodeChild) (old now : Left) → i < 32 → bitmap / 2 ^ i % 2 ≡ 0 → ReadBelow bitmap i cs old now → ReadBelow bitmap (i + 1) cs old now
bit_clear bitmap i cs old now l clear is =
    is ∙ ap (λ bs. led cs (child_fields bs now)) (bits_split bitmap i l ∙ ap (λ b. cond b (i ∷ bits_from bitmap (i + 1)) (bits_from bitmap (i + 1))) (test_false (bitmap / 2 ^ i) clear))

set_split : (bitmap i : ℕ) → i < 32 → bitmap / 2 ^ i % 2 ≢ 0 → bits_from bitmap i ≡ i ∷ bits_from bitmap (i + 1)
set_split bitmap i l set = bits_split bitmap i l ∙ ap (λ b. cond b (i ∷ bits_from bitmap (i + 1)) (bits_from bitmap (i + 1))) (test_true (bitmap / 2 ^ i) set)

abbrev from_child : List ℕ → InodeChild → Fields (List InodeChild)
from_child is c = child_fields is >>= λ cs. done (c ∷ cs)

children_split : (i : ℕ) (is : List ℕ) (left : Left) → child_fields (i ∷ is) left ≡ after (from_child is) (child_field i left)
unfolding child_fields
children_split i is left = refl

pub bit_set : (bitmap i : ℕ) (cs : List InodeChild) (c : InodeChild) (old now mid : Left) → i < 32 → bitmap / 2 ^ i % 2 ≢ 0 → child_field i now ≡ Ok (c, mid) → ReadBelow bitmap i cs old now → ReadBelow bitmap (i + 1) (cs ++ c ∷ []) old mid
bit_set bitmap i cs c old now mid l set gives is =
    is
    ∙ ap (λ bs. led cs (child_fields bs now)) (set_split bitmap i l set)
    ∙ ap (led cs) (children_split i (bits_from bitmap (i + 1)) now ∙ ap (after (from_child (bits_from bitmap (i + 1)))) gives)
    ∙ led_more cs c (child_fields (bits_from bitmap (i + 1)) mid)

pub bit_fault : (bitmap i : ℕ) (cs : List InodeChild) (old now : Left) (fault : RecordFault) → i < 32 → bitmap / 2 ^ i % 2 ≢ 0 → IsFault fault (child_field i now) → ReadBelow bitmap i cs old now → IsFault fault (children_of_bits bitmap old)
bit_fault bitmap i cs old now (RecordFault.Form at) l set h is =
    is
    ∙ ap (λ bs. led cs (child_fields bs now)) (set_split bitmap i l set)
    ∙ ap (led cs) (children_split i (bits_from bitmap (i + 1)) now ∙ ap (after (from_child (bits_from bitmap (i + 1)))) h)
bit_fault bitmap i cs old now RecordFault.Memory l set h is = tt
bit_fault bitmap i cs old now RecordFault.Short l set h is = absurd h
bit_fault bitmap i cs old now (RecordFault.Kind kind) l set h is = absurd h
bit_fault bitmap i cs old now RecordFault.Length l set h is = absurd h

none_left : (bitmap : ℕ) (now : Left) → child_fields (bits_from bitmap 32) now ≡ Ok ([], now)
unfolding child_fields bits_from
none_left bitmap now = refl

pub read_all : (bitmap : ℕ) (cs : List InodeChild) (old now : Left) → ReadBelow bitmap 32 cs old now → children_of_bits bitmap old ≡ Ok (cs, now)
read_all bitmap cs old now is = is ∙ ap (led cs) (none_left bitmap now) ∙ led_done cs now
