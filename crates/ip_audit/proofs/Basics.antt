-- Small lemmas on tests, options and records.
use Rattle.std.proofs.Common.{◌≡◌, ◌⊎◌, inl, inr, ℕ, ◌<◌, List, [], ◌∷◌, refl, sym, ap, ◌∙◌, Option, Some, None, Bool, true, false, cond, arith}
use Rattle.std.specs.Prelude.{◌==◌}
use Rattle.std.specs.FinMap.{IsAntisymmetric, nat_cmp-IsAntisymmetric, slice_cmp-IsAntisymmetric}
use Rattle.ip_spec.specs.Path.{Step, Bytes, bytes_cmp}
use Rattle.ip_spec.specs.declared.record.Record.{Record}
use Rattle.ip_spec.specs.declared.record.LeafEntry.{LeafEntry}
use Rattle.ip_spec.specs.declared.record.InodeChild.{InodeChild}
use Rattle.ip_spec.specs.Record.{kind_of}
use Rattle.ip_spec.specs.Shape.{Entries, place}

pub no_true : {X : Type 0} (b : Bool) → b ≡ false → b ≡ true → X
no_true b f t = cc

pub bytes_antisymmetric : IsAntisymmetric bytes_cmp
bytes_antisymmetric = slice_cmp-IsAntisymmetric nat_cmp-IsAntisymmetric

unfoldable pub or_else : {A : Type 0} → Option A → Option A → Option A
or_else (Some x) o = Some x
or_else None o = o

pub first_wins : (v : Bytes) (b : Bool) (o g : Option Bytes) → (b ≡ true → o ≡ None) → or_else o (cond b (Some v) g) ≡ or_else (cond b (Some v) o) g
unfolding or_else
first_wins v true o g h = ap (λ x. or_else x (Some v)) (h refl)
first_wins v false o g h = refl

pub equal_test : (k : ℕ) → (k == k) ≡ true
equal_test k = grind arith

pub place_small : (s : Step) (d : ℕ) → place s d < 32
unfolding place
place_small s d = omega arith

-- the entries of the child with this index
unfoldable pub look : ℕ → List (ℕ × Entries) → Entries
look i [] = []
look i (c ∷ cs) = cond (c.0 == i) c.1 (look i cs)

-- ---- one record at a place

leaf_of : Option Record → List LeafEntry
leaf_of (Some (Record.Leaf fields)) = fields
leaf_of o = []

inode_of : Option Record → List InodeChild
inode_of (Some (Record.Inode depth cs)) = cs
inode_of o = []

kind_at : Option Record → ℕ
kind_at None = 0
kind_at (Some r) = kind_of r

pub same_fields : (o : Option Record) (fs gs : List LeafEntry) → o ≡ Some (Record.Leaf fs) → o ≡ Some (Record.Leaf gs) → fs ≡ gs
unfolding leaf_of
same_fields o fs gs f g = ap leaf_of (sym f ∙ g)

pub same_inode : (o : Option Record) (d e : ℕ) (cs ds : List InodeChild) → o ≡ Some (Record.Inode d cs) → o ≡ Some (Record.Inode e ds) → cs ≡ ds
unfolding inode_of
same_inode o d e cs ds f g = ap inode_of (sym f ∙ g)

pub leaf_or_inode : {X : Type 0} (o : Option Record) (fs : List LeafEntry) (d : ℕ) (cs : List InodeChild) → o ≡ Some (Record.Leaf fs) → o ≡ Some (Record.Inode d cs) → X
unfolding kind_at
leaf_or_inode o fs d cs f g = let e : 2 ≡ 3 = ap kind_at (sym f ∙ g) in absurd (omega (arith, e))
