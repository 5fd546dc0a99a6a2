-- SHA-256 gives 32 bytes, so each name has them.
--     sha_is_hash      SHA-256 does.      name_is_hash      the name of a record
use Rattle.std.proofs.Common.{◌≡◌, ℕ, zero, suc, ◌<◌, List, [], ◌∷◌, ◌++◌, ap, subst, arith, Option, Some, None}
use Rattle.std.specs.Prelude.{is_some, option_map, unwrap_or, slice_index}
use Rattle.std.specs.Int.{w32, to_be_bytes}
use Rattle.std.specs.List.{AllByRecursion}
use Rattle.std.proofs.lemmas.List.Elements.{All-from_recursion}
use Rattle.std.proofs.lemmas.Bool.{false≢true}
use Rattle.sha2.specs.Sha256.{sha256, digest_bytes}
use Rattle.sha2.proofs.Facts256.{length-sha256}
use Rattle.ip_spec.specs.Path.{Bytes}
use Rattle.ip_spec.specs.Record.{IsHash, hashed, name_of}
use Rattle.ip_spec.specs.declared.record.Record.{Record}

word_bytes : (n : ℕ) → AllByRecursion (λ b. b < 256) (to_be_bytes w32 n)
word_bytes n = (omega arith, (omega arith, (omega arith, (omega arith, tt))))

both_parts : (xs ys : List ℕ) → AllByRecursion (λ b. b < 256) xs → AllByRecursion (λ b. b < 256) ys → AllByRecursion (λ b. b < 256) (xs ++ ys)
both_parts [] ys p q = q
both_parts (x ∷ xs) ys (p, ps) q = (p, both_parts xs ys ps q)

digest_is : (h : List ℕ) (n : ℕ) → AllByRecursion (λ b. b < 256) (digest_bytes h n)
unfolding digest_bytes
digest_is h zero = tt
digest_is h (suc n) = both_parts (digest_bytes h n) (to_be_bytes w32 (slice_index h n)) (digest_is h n) (word_bytes (slice_index h n))

pub sha_is_hash : (m : List ℕ) → IsHash (sha256 m)
unfolding sha256
sha_is_hash m = (length-sha256 m, All-from_recursion (λ b. b < 256) (sha256 m) (digest_is _ 8))

pub name_is_hash : (r : Record) (name : Bytes) → name_of r ≡ Some name → IsHash name
name_is_hash r name is = by (hashed r) is
  where
    by : (o : Option Bytes) → option_map sha256 o ≡ Some name → IsHash name
    by None e = absurd (false≢true (ap is_some e))
    by (Some b) e = subst IsHash (ap (λ (o : Option Bytes). unwrap_or o []) e) (sha_is_hash b)
