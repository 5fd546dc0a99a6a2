-- Bytes, steps and paths. A path is a list of steps, and the empty path is the root.
--     bytes_cmp, path_cmp      bytes in the order of Rust's slices; paths by their steps, a path before its extensions
--     same_bytes, same_path      whether two are equal
--     is_prefix p q      q is p or lies under it.      is_related p q      one of them is a prefix of the other
--     after_prefix p q      what is left of q behind p, where p is a prefix of q
--     IsStep, IsPath      what a script may name: 1 to 64 steps of 1 to 255 bytes
use Rattle.std.specs.Prelude.{ℕ, ◌<◌, Bool, true, false, ◌&&◌, ◌||◌, cond, List, [], ◌∷◌, All, Option, Some, None}
use Rattle.std.specs.Ordering.{nat_cmp, eq_by_cmp}
use Rattle.std.specs.Cmp.Lexicographic.{slice_cmp}
use Rattle.std.specs.declared.cmp.Ordering.{Ordering}
pub use Rattle.ip_base.specs.declared.path.Step.{Step}
pub use Rattle.ip_base.specs.declared.path.Path.{Path}
pub use Rattle.ip_base.specs.PathText.{slash, space, line_feed, IsWordByte, is_word_byte, IsStep, IsPath, path_text}

abbrev pub Bytes : Type 0
Bytes = List ℕ

abbrev pub bytes_cmp : Bytes → Bytes → Ordering
bytes_cmp = slice_cmp nat_cmp

abbrev pub path_cmp : Path → Path → Ordering
path_cmp = slice_cmp bytes_cmp

abbrev pub same_bytes : Bytes → Bytes → Bool
same_bytes = eq_by_cmp bytes_cmp

abbrev pub same_path : Path → Path → Bool
same_path = eq_by_cmp path_cmp

abbrev pub after_prefix : Path → Path → Option Path
after_prefix [] q = Some q
after_prefix (s ∷ p) [] = None
after_prefix (s ∷ p) (r ∷ q) = cond (same_bytes s r) (after_prefix p q) None

abbrev pub is_prefix : Path → Path → Bool
is_prefix [] q = true
is_prefix (s ∷ p) [] = false
is_prefix (s ∷ p) (r ∷ q) = same_bytes s r && is_prefix p q

abbrev pub is_related : Path → Path → Bool
is_related p q = is_prefix p q || is_prefix q p

-- each is a byte
abbrev pub AreBytes : Bytes → Type 0
AreBytes bytes = All (λ b. b < 256) bytes
