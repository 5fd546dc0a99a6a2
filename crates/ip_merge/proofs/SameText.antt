-- The test of equal bytes.
use Rattle.std.proofs.Common.{◌≡◌, ℕ, true, List, sym, ap, ◌∙◌, is_eq}
use Rattle.std.specs.Cmp.{tied_itself}
use Rattle.std.specs.Str.{bytes_eq}
use Rattle.std.proofs.lemmas.Cmp.{nat_list_cmp_total}
use Rattle.std.proofs.lemmas.Slice.Eq.{bytes_eq-Decides}
use Rattle.std.proofs.lemmas.Map.Text.{is_eq-slice_cmp}
use Rattle.ip_spec.specs.Path.{same_bytes}

pub same_bytes_itself : (bytes : List ℕ) → same_bytes bytes bytes ≡ true
same_bytes_itself bytes = ap is_eq (tied_itself nat_list_cmp_total bytes)

pub same_text : (s t : List ℕ) → same_bytes s t ≡ true → s ≡ t
same_text s t h = (bytes_eq-Decides s t).0 (sym (is_eq-slice_cmp s t) ∙ h)

pub same_bytes_is : (s t : List ℕ) → bytes_eq s t ≡ same_bytes s t
same_bytes_is s t = sym (is_eq-slice_cmp s t)
