use Rattle.std.proofs.Common.{◌≡◌, ◌-◌, [], ◌∷◌, take, drop, length, sym, ap, subst}
use Rattle.std.specs.Prelude.{is_none}
use Rattle.ip_shape.specs.Loaded.{way_to}
use Rattle.ip_spec.specs.Path.{Path}
use Rattle.ip_tree.specs.Node as view
use Rattle.ip_tree.specs.Placing.{IsChain}
use Rattle.ip_tree.specs.Shown.{shown, shown_directory}
use Rattle.ip_tree.proofs.Steps.{by_first, by_rest, nil_of}
use Rattle.ip_tree.proofs.Nodes.{directory_shown}
use Rattle.ip_tree.proofs.PlacedNodes.{chain_end, chain_step}
use Rattle.ip_tree.proofs.place.+chain.Goals as goal

pub returns-then-is_empty : goal.returns-then-is_empty
returns-then-is_empty t c records sub means =
    subst (λ (p : Path). IsChain records p (shown c.args.part) sub (shown c.args.part)) (sym (nil_of c.args.steps.now c.if-is_empty.ensures)) (chain_end records (shown c.args.part) sub means)

pub returns : goal.returns
returns t c records sub means =
    let s = c.index-steps-0.result in
    let p = c.args.steps.now in
    let split : p ≡ s ∷ take (length p - 1) (drop 1 p) = by_rest p s (by_first p s c.if-is_empty.ensures c.index-steps-0.is) in
    let put = c.in_ok-insert.ensures.inserted [] [] c.empty-dir.ensures.dir.0 (ap is_none (c.empty-dir.ensures.fresh (way_to s)).0) in
    subst (λ (n : view.Node). IsChain records p (shown c.args.part) sub n) (sym (directory_shown c.insert.new.dir))
    (subst (λ (q : Path). IsChain records q (shown c.args.part) sub (shown_directory c.insert.new.dir)) (sym split)
    (chain_step records (shown c.args.part) sub means c.empty-dir.result c.empty-dir.ensures.dir c.empty-dir.ensures.fresh c.insert.new.dir s (take (length p - 1) (drop 1 p)) c.in_ok-inner.inner (c.in_ok-inner.ensures records sub means) put.1 put.2))
