use Rattle.std.proofs.Common.{◌≡◌, true, sym, subst, Option, ℤ, IfSome}
use Rattle.std.specs.Option.{option_copied}
use Rattle.ip_spec.specs.Merge.{counter_merger, is_i64}
use Rattle.ip_merge.proofs.Counting.{ancestor_range, side_range}
use Rattle.ip_merge.proofs.counter.CounterMerger.merge.Goals as goal

pub returns : goal.returns
unfolding counter_merger
returns c = rw (c.ancestor_number.ensures, c.side_number.ensures, c.side_number-2.ensures) at c.answered.ensures

pub answered-requires : goal.answered-requires
answered-requires c = record {
  base = subst (λ (x : Option ℤ). IfSome x (λ n. is_i64 n ≡ true)) (sym c.ancestor_number.ensures) (ancestor_range (option_copied c.args.base));
  left = subst (λ (x : Option ℤ). IfSome x (λ n. is_i64 n ≡ true)) (sym c.side_number.ensures) (side_range (option_copied c.args.left));
  right = subst (λ (x : Option ℤ). IfSome x (λ n. is_i64 n ≡ true)) (sym c.side_number-2.ensures) (side_range (option_copied c.args.right));
}
