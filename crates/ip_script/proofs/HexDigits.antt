-- The digits of bytes.
use Rattle.std.proofs.Common.{◌≡◌, ℕ, zero, suc, ◌/◌, ◌%◌, ◌<◌, List, [], ◌∷◌, refl, arith, slice_index, get_or, w8}
use mir.Val.{Fits}
use Rattle.hex.specs.Hex.{encode_with, encode_lower, lower_digits}
use Rattle.ip_spec.specs.Text.{digit, hex_text}

digit_is : (n : ℕ) → n < 16 → slice_index lower_digits n ≡ digit n
digit_is zero h = refl
digit_is (suc zero) h = refl
digit_is (suc (suc zero)) h = refl
digit_is (suc (suc (suc zero))) h = refl
digit_is (suc (suc (suc (suc zero)))) h = refl
digit_is (suc (suc (suc (suc (suc zero))))) h = refl
digit_is (suc (suc (suc (suc (suc (suc zero)))))) h = refl
digit_is (suc (suc (suc (suc (suc (suc (suc zero))))))) h = refl
digit_is (suc (suc (suc (suc (suc (suc (suc (suc zero)))))))) h = refl
digit_is (suc (suc (suc (suc (suc (suc (suc (suc (suc zero))))))))) h = refl
digit_is (suc (suc (suc (suc (suc (suc (suc (suc (suc (suc zero)))))))))) h = refl
digit_is (suc (suc (suc (suc (suc (suc (suc (suc (suc (suc (suc zero))))))))))) h = refl
digit_is (suc (suc (suc (suc (suc (suc (suc (suc (suc (suc (suc (suc zero)))))))))))) h = refl
digit_is (suc (suc (suc (suc (suc (suc (suc (suc (suc (suc (suc (suc (suc zero))))))))))))) h = refl
digit_is (suc (suc (suc (suc (suc (suc (suc (suc (suc (suc (suc (suc (suc (suc zero)))))))))))))) h = refl
digit_is (suc (suc (suc (suc (suc (suc (suc (suc (suc (suc (suc (suc (suc (suc (suc zero))))))))))))))) h = refl
digit_is (suc (suc (suc (suc (suc (suc (suc (suc (suc (suc (suc (suc (suc (suc (suc (suc n)))))))))))))))) h = absurd (omega (arith, h))

pub hex_is : (bytes : List ℕ) → ((k : ℕ) → Fits w8 (get_or bytes k 0)) → encode_lower bytes ≡ hex_text bytes
unfolding encode_with
hex_is [] h = refl
hex_is (b ∷ bytes) h =
    let small = (h 0).fits in
    λ i. digit_is (b / 16) (omega (arith, small)) i ∷ digit_is (b % 16) (omega arith) i ∷ hex_is bytes (λ k. h (suc k)) i
