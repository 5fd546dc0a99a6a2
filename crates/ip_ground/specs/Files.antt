-- File names that are the same or not.
use Rattle.std.specs.Prelude.{◌≡◌, ◌≢◌, ℕ, ◌==◌, Bool, true, false, refl}
use Rattle.std.proofs.Common.{◌⊎◌, inl, inr, ap, arith}
use Rattle.std.proofs.lemmas.Bool.Decides.{nat_tests}
use Rattle.ip_ground.specs.declared.names.FileName.{FileName}
use Rattle.ip_ground.specs.declared.names.FileName.TheVariants.{Control, Chunk, Prefix, Mapping, Done}
use Rattle.ip_ground.specs.Custody.{is_same_file}

pub same_number : (m n : ℕ) → (m == n) ≡ true → m ≡ n
same_number m n is = grind (arith, nat_tests)

pub number_itself : (n : ℕ) → (n == n) ≡ true
number_itself n = grind (arith, nat_tests)

pub no_true : {A : Type 0} → false ≡ true → A
no_true is = absurd (cc (is))

pub same_file : (f g : FileName) → is_same_file f g ≡ true → f ≡ g
same_file Control Control is = refl
same_file (Chunk m) (Chunk n) is = ap Chunk (same_number m n is)
same_file (Prefix m) (Prefix n) is = ap Prefix (same_number m n is)
same_file (Mapping m) (Mapping n) is = ap Mapping (same_number m n is)
same_file (Done m) (Done n) is = ap Done (same_number m n is)
same_file Control (Chunk n) is = no_true is
same_file Control (Prefix n) is = no_true is
same_file Control (Mapping n) is = no_true is
same_file Control (Done n) is = no_true is
same_file (Chunk m) Control is = no_true is
same_file (Chunk m) (Prefix n) is = no_true is
same_file (Chunk m) (Mapping n) is = no_true is
same_file (Chunk m) (Done n) is = no_true is
same_file (Prefix m) Control is = no_true is
same_file (Prefix m) (Chunk n) is = no_true is
same_file (Prefix m) (Mapping n) is = no_true is
same_file (Prefix m) (Done n) is = no_true is
same_file (Mapping m) Control is = no_true is
same_file (Mapping m) (Chunk n) is = no_true is
same_file (Mapping m) (Prefix n) is = no_true is
same_file (Mapping m) (Done n) is = no_true is
same_file (Done m) Control is = no_true is
same_file (Done m) (Chunk n) is = no_true is
same_file (Done m) (Prefix n) is = no_true is
same_file (Done m) (Mapping n) is = no_true is

pub file_itself : (f : FileName) → is_same_file f f ≡ true
file_itself Control = refl
file_itself (Chunk n) = number_itself n
file_itself (Prefix n) = number_itself n
file_itself (Mapping n) = number_itself n
file_itself (Done n) = number_itself n

pub cases_file : (f g : FileName) → ((is_same_file f g ≡ true) × (f ≡ g)) ⊎ (is_same_file f g ≡ false)
cases_file f g = by_test (is_same_file f g) refl
  where
    by_test : (b : Bool) → is_same_file f g ≡ b → ((is_same_file f g ≡ true) × (f ≡ g)) ⊎ (is_same_file f g ≡ false)
    by_test true is = inl (is, same_file f g is)
    by_test false is = inr is

pub other_file : (f g : FileName) → f ≢ g → is_same_file f g ≡ false
other_file f g ne = elim (cases_file f g) [ inl same ↦ absurd (ne same.1) | inr other ↦ other ]
