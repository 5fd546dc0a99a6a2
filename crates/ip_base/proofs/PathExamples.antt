-- Texts that are no path, and where they go wrong.
use Rattle.std.proofs.Common.{◌≡◌, [], refl, Some}
use Rattle.std.specs.Prelude.{codes}
use Rattle.ip_base.specs.declared.path.PathFault.TheVariants as PathFault
use Rattle.ip_base.specs.PathText.{path_fault}

path_nothing : path_fault ([]) ≡ Some (PathFault.EmptyStep 0)
unfolding path_fault
path_nothing = refl

path_twice : path_fault (codes "a//b") ≡ Some (PathFault.EmptyStep 2)
unfolding path_fault
path_twice = refl

path_space : path_fault (codes "a b") ≡ Some (PathFault.BadByte 1)
unfolding path_fault
path_space = refl

path_end : path_fault (codes "a/") ≡ Some (PathFault.EmptyStep 2)
unfolding path_fault
path_end = refl
