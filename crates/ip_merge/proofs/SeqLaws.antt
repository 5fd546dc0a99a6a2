-- One merger after another.
use Rattle.std.proofs.Common.{inl, inr}
use Rattle.ip_spec.specs.Merge.{Meaning, seq_means, IsOneAnswer}

pub one_seq : (f g : Meaning) → IsOneAnswer f → IsOneAnswer g → IsOneAnswer (seq_means f g)
one_seq f g hf hg o a b r s (inl x) (inl y) = hf o a b r s x.0 y.0
one_seq f g hf hg o a b r s (inl x) (inr y) = absurd (x.1 (hf o a b _ _ x.0 y.0))
one_seq f g hf hg o a b r s (inr x) (inl y) = absurd (y.1 (hf o a b _ _ y.0 x.0))
one_seq f g hf hg o a b r s (inr x) (inr y) = hg o a b r s x.1 y.1
