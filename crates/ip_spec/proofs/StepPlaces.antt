-- The places of steps: five bits of the SHA-256 of a step for each depth, the most significant first.
use Rattle.std.proofs.Common.{◌≡◌, refl}
use Rattle.std.specs.Prelude.{codes}
use Rattle.ip_spec.specs.Shape.{place, shape_runs}

-- its SHA-256 begins with ca97
a_at_the_root : place (codes "a") 0 ≡ 25
unfolding shape_runs
a_at_the_root = refl

a_one_deeper : place (codes "a") 1 ≡ 10
unfolding shape_runs
a_one_deeper = refl

b_at_the_root : place (codes "b") 0 ≡ 7
unfolding shape_runs
b_at_the_root = refl

abc_at_the_root : place (codes "abc") 0 ≡ 23
unfolding shape_runs
abc_at_the_root = refl

abc_one_deeper : place (codes "abc") 1 ≡ 9
unfolding shape_runs
abc_one_deeper = refl

-- the last five bits that are used
a_at_the_deepest : place (codes "a") 50 ≡ 29
unfolding shape_runs
a_at_the_deepest = refl
