-- The place of a step, from its digest.
--     place_in digest depth      five bits of the digest from bit 5 * depth on, the most significant first
use Rattle.std.specs.Prelude.{ℕ, ◌-◌, ◌*◌, ◌/◌, ◌%◌, ◌^◌, List}
use Rattle.ip_spec.specs.Shape.{number_of}

abbrev pub place_in : List ℕ → ℕ → ℕ
place_in digest depth = number_of digest / 2 ^ (251 - 5 * depth) % 32
