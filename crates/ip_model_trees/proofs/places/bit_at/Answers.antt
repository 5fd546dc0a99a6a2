use Rattle.std.proofs.Common.{ℕ, List, arith}
use Rattle.std.proofs.lemmas.List.{get_or_default}
use Rattle.ip_model_trees.proofs.Bits.{bit_in}
use Rattle.ip_model_trees.proofs.places.bit_at.Goals as goal

pub returns : goal.returns
returns c =
    let bytes : List ℕ = c.args.digest.now in
    bit_in bytes (λ k d lt. omega (arith, get_or_default bytes k d 0 lt, c.type_inv.digest k)) c.requires.whole c.args.bit c.requires.within
