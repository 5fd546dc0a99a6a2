use Rattle.std.proofs.Common.{◌≡◌, ℕ, Some, sym, subst}
use Rattle.std.specs.Prelude.{All}
use Rattle.ip_spec.specs.Map.{get}
use Rattle.ip_tables.proofs.Keyed.{Pairs, told}
use Rattle.ip_held.proofs.Listing.{Listing, listing_first}
use Rattle.ip_held.proofs.held.Held.branches.Goals as goal

pub loop-branch-init : goal.loop-branch-init
loop-branch-init c = (
  tt,
  tt,
  λ r of. listing_first r c.args.self.now of c.into_iter-branch-iterator.result c.in_ok-heads.heads.items
      (subst (λ (es : Pairs ℕ). told es ≡ c.args.self.now.branches.entries) (sym c.into_iter-branch-iterator.ensures.into_iter_gives) c.iter-branch-items.ensures.entries)
      (subst (λ (es : Pairs ℕ). All (λ e. get c.args.self.now.branches e.0.items ≡ Some e.1) es) (sym c.into_iter-branch-iterator.ensures.into_iter_gives) c.iter-branch-items.ensures.found)
      c.in_ok-heads.ensures.items,
)

pub retained_name-requires : goal.retained_name-requires
retained_name-requires c =
    let r = c.requires.0 in
    let listing = subst (λ (es : Pairs ℕ). Listing r es c.loop-branch.heads.items) c.in-Some.ensures.steps (c.loop-branch.invariant.2 r c.requires.1) in
    record { tables = (r, c.requires.1, listing.each.0) }
