use Rattle.std.proofs.Common.{◌-◌, refl}
use Rattle.ip_spec.specs.Shape.{deepest}
use Rattle.ip_shape.proofs.OneShape.{alike, chain}
use Rattle.ip_shape.proofs.part.one_shape.Goals as goal

pub returns-clause-alike : goal.returns-clause-alike
returns-clause-alike g c depth steps one other x y = alike (deepest - depth) depth steps one other x y

pub returns-clause-agreeing : goal.returns-clause-agreeing
returns-clause-agreeing g c s steps part many agree is = chain s steps many agree deepest 0 part refl is
