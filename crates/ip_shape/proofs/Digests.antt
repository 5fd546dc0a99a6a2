-- A digest is a list of bytes.
use Rattle.std.proofs.Common.{◌≡◌, ◌<◌, ℕ, zero, suc, List, arith, All, rules, slice_index, w32, ap, ◌∙◌}
use Rattle.std.specs.Int.{to_be_bytes}
use Rattle.std.proofs.lemmas.List.Elements.{All-append}
use Rattle.ip_spec.specs.Path.{Step}
use Rattle.ip_spec.specs.Shape.{place, shape_runs}
use Rattle.ip_shape.specs.Place.{place_in}
use Rattle.sha2.specs.Sha256.{sha256, digest_bytes, initial_hash_256, final_hash}

word : (n : ℕ) → All (λ b. b < 256) (to_be_bytes w32 n)
word n = search rules

words : (h : List ℕ) (n : ℕ) → All (λ b. b < 256) (digest_bytes h n)
unfolding digest_bytes
words h zero = λ k d lt. absurd (omega (arith, lt))
words h (suc n) = All-append (λ b. b < 256) (digest_bytes h n) (to_be_bytes w32 (slice_index h n)) (words h n) (word (slice_index h n))

pub of_bytes : (m : List ℕ) → All (λ b. b < 256) (sha256 m)
unfolding sha256
of_bytes m = words (final_hash initial_hash_256 m) 8

-- the place that a step's digest gives
pub in_digest : (i : ℕ) (digest : List ℕ) (s : Step) (depth : ℕ) → i ≡ place_in digest depth → digest ≡ sha256 s → i ≡ place s depth
unfolding shape_runs
in_digest i digest s depth e is = e ∙ ap (λ d. place_in d depth) is

pub place_small : (s : Step) (depth : ℕ) → place s depth < 32
unfolding place
place_small s depth = omega arith
