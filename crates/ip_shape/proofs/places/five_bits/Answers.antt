use Rattle.std.proofs.Common.{rules, ◌≡◌, ◌<◌, ℕ, ◌+◌, ◌-◌, ◌*◌, length, ◌/◌, ◌%◌, List, ap, ◌∙◌, arith, All, get_or}
use Rattle.std.specs.Prelude.{◌^◌}
use Rattle.ip_shape.proofs.Bits.{in_one, in_two}
use Rattle.ip_shape.proofs.places.five_bits.Goals as goal

pub returns-then-end-lt2 : goal.returns-then-end-lt2
returns-then-end-lt2 c =
    let bytes : List ℕ = c.args.digest in
    let long : length bytes ≡ 32 = search rules in
    let small : All (λ b. b < 256) bytes = c.requires.bytes in
    let end : (5 * c.args.depth + 12) / 8 ≡ 1 = omega arith in
    ap (λ (m : ℕ). get_or bytes (m - 1) 0 / 2 ^ (8 * m - (5 * c.args.depth + 5)) % 32) end
    ∙ in_one bytes small (8 - (5 * c.args.depth + 5)) c.args.depth long (omega arith)

pub returns : goal.returns
returns c =
    let bytes : List ℕ = c.args.digest in
    let long : length bytes ≡ 32 = search rules in
    let small : All (λ b. b < 256) bytes = c.requires.bytes in
    let j : ℕ = (5 * c.args.depth + 12) / 8 - 2 in
    let next : (5 * c.args.depth + 12) / 8 - 1 ≡ (5 * c.args.depth + 12) / 8 - 2 + 1 = omega arith in
    ap (λ (i : ℕ). (get_or bytes j 0 * 256 + get_or bytes i 0) / 2 ^ (8 * ((5 * c.args.depth + 12) / 8) - (5 * c.args.depth + 5)) % 32) next
    ∙ in_two bytes small j (8 * ((5 * c.args.depth + 12) / 8) - (5 * c.args.depth + 5)) c.args.depth long (omega arith) (omega arith) (omega arith)
