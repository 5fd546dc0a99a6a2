-- The order of file names finds a file by its name.
use Rattle.std.proofs.Common.{◌≡◌, ℕ, Bool, true, false, cond, Option, refl, arith}
use Rattle.std.specs.Prelude.{◌==◌, if◌then◌else◌}
use Rattle.std.specs.Option.{option_map}
use Rattle.std.specs.Ordering.{nat_cmp}
use Rattle.std.specs.BTreeMap.{is_at}
use Rattle.std.proofs.lemmas.Bool.Decides.{nat_tests}
use Rattle.ip_ground.specs.declared.names.FileName.{FileName}
use Rattle.ip_ground.specs.declared.names.FileName.TheVariants.{Control, Chunk, Prefix, Mapping, Done}
use Rattle.ip_ground.specs.Custody.{is_same_file}
use Rattle.ip_ground.specs.Map.{file_cmp}

at_number : (m n : ℕ) → is_at (nat_cmp m) n ≡ (n == m)
at_number m n = grind (arith, nat_tests)

pub at_file : (f g : FileName) → is_at (file_cmp f) g ≡ is_same_file g f
at_file Control Control = refl
at_file (Chunk m) (Chunk n) = at_number m n
at_file (Prefix m) (Prefix n) = at_number m n
at_file (Mapping m) (Mapping n) = at_number m n
at_file (Done m) (Done n) = at_number m n
at_file Control (Chunk n) = refl
at_file Control (Prefix n) = refl
at_file Control (Mapping n) = refl
at_file Control (Done n) = refl
at_file (Chunk m) Control = refl
at_file (Chunk m) (Prefix n) = refl
at_file (Chunk m) (Mapping n) = refl
at_file (Chunk m) (Done n) = refl
at_file (Prefix m) Control = refl
at_file (Prefix m) (Chunk n) = refl
at_file (Prefix m) (Mapping n) = refl
at_file (Prefix m) (Done n) = refl
at_file (Mapping m) Control = refl
at_file (Mapping m) (Chunk n) = refl
at_file (Mapping m) (Prefix n) = refl
at_file (Mapping m) (Done n) = refl
at_file (Done m) Control = refl
at_file (Done m) (Chunk n) = refl
at_file (Done m) (Prefix n) = refl
at_file (Done m) (Mapping n) = refl

-- a content through a choice
pub map_choice : {X Y : Type 0} (f : X → Y) (b : Bool) (x y : Option X) → option_map f (cond b x y) ≡ (if b then option_map f x else option_map f y)
map_choice f true x y = refl
map_choice f false x y = refl
