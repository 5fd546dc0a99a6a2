use Rattle.std.proofs.Common.{◌*◌, arith}
use Rattle.ip_spec.specs.Shape.{number_of}
use Rattle.ip_model_trees.proofs.Bits.{five_in}
use Rattle.ip_model_trees.proofs.places.five_bits.Goals as goal

pub returns : goal.returns
returns c = five_in (number_of c.args.digest.now) (5 * c.args.depth) _ _ _ _ _ (omega (arith, c.requires)) c.bit_at.ensures c.bit_at-2.ensures c.bit_at-3.ensures c.bit_at-4.ensures c.bit_at-5.ensures
