use Rattle.std.proofs.Common.{◌-◌, [], get_or, take, drop, length, refl, sym, subst}
use Rattle.ip_shape.specs.declared.dir.Dir.{Dir}
use Rattle.ip_tree.specs.Edits.{IsDirectory}
use Rattle.ip_tree.specs.Placing.{Places}
use Rattle.ip_tree.specs.Shown.{shown, shown_directory}
use Rattle.ip_tree.specs.declared.node.Node.{Node, out-Node}
use Rattle.ip_tree.specs.declared.node.Stored.{Stored}
use Rattle.ip_tree.proofs.Steps.{by_first_lt, by_head, by_rest, nil_of}
use Rattle.ip_tree.proofs.Looking.{causes_on, looks_on, still_over}
use Rattle.ip_tree.proofs.PlacedNodes.{refused}
use Rattle.ip_tree.proofs.PlacedCalls.{placed_added, placed_entry, placed_over, placed_through, placed_whole}
use Rattle.ip_tree.proofs.place.+place.Goals as goal

pub place_at-returns-then-is_empty-clause-place : goal.place_at-returns-then-is_empty-clause-place
place_at-returns-then-is_empty-clause-place g t c tells records tree sub over is is_part =
    placed_whole records (shown c.args.part) sub is_part (shown c.args.node.now) tree c.args.steps.now (nil_of c.args.steps.now c.if-is_empty.ensures)

pub place_at-returns-in-Directory-clause-place : goal.place_at-returns-in-Directory-clause-place
unfolding out-Node denote.Hole.Carrier.out
place_at-returns-in-Directory-clause-place g t c tells records tree sub over is is_part =
    let later = still_over g.G.Ground.tells (g.G.Ground.told c.args.outside.now) (g.G.Ground.told c.unfold.new.outside) c.args.space.now c.unfold.new.space records c.in_ok-unfold.ensures.looks tells over in
    rw c.in-Directory.is (placed_through records (shown c.args.part) sub is_part (shown c.args.node.now) c.unfold.new.node c.in-Directory.dir c.place_in.new.dir c.args.steps.now tree c.place_in.result c.in-Directory.is
    (c.in_ok-unfold.ensures.opened tells records tree over is)
    (subst (λ (x : Dir Node Stored). IsDirectory records (shown_directory x) tree → Places (IsDirectory records) records c.args.steps.now (shown c.args.part) sub (shown_directory x) (shown_directory c.place_in.new.dir) tree c.place_in.result)
    c.in-Directory.dir-is (λ means. c.place_in.ensures.place tells records tree sub later means is_part)))

pub place_at-returns-in-Directory-clause-looks : goal.place_at-returns-in-Directory-clause-looks
place_at-returns-in-Directory-clause-looks g t c = looks_on _ _ _ _ _ _ _ c.in_ok-unfold.ensures.looks c.place_in.ensures.looks

pub place_at-returns-in-Directory-clause-causes : goal.place_at-returns-in-Directory-clause-causes
place_at-returns-in-Directory-clause-causes g t c = causes_on _ _ _ _ _ c.in_ok-unfold.ensures.looks c.place_in.result c.place_in.ensures.causes

pub place_at-returns-in_ok-node-in_default : goal.place_at-returns-in_ok-node-in_default
place_at-returns-in_ok-node-in_default g t c = record {
  place = λ tells records tree sub over is is_part.
      placed_over records (shown c.args.part) sub is_part (shown c.args.node.now) c.unfold.new.node c.in_ok-node-in_default.field-0 c.args.steps.now (get_or c.args.steps.now 0 []) (drop 1 c.args.steps.now) tree
      (by_head c.args.steps.now c.if-is_empty.ensures) c.in_default.not-Directory (c.in_ok-unfold.ensures.opened tells records tree over is) (c.in_ok-node-in_default.ensures records sub is_part);
  looks = c.in_ok-unfold.ensures.looks;
  counts = c.in_ok-unfold.ensures.counts;
  causes = tt;
}

pub place_in-returns-in_err-load_way-clause-place : goal.place_in-returns-in_err-load_way-clause-place
place_in-returns-in_err-load_way-clause-place g t c tells records tree sub over means is_part =
    let kept = c.in_err-load_way.ensures.opened tells records tree c.index-steps-0.result over means c.of-places.ensures in
    refused (IsDirectory records) records c.args.steps.now (shown c.args.part) sub (shown_directory c.args.dir.now) (shown_directory c.load_way.new.dir) tree c.from_residual.result c.in_err-load_way.field-0.0 c.from_residual.ensures.1 kept.cause
    kept.same

pub place_in-returns-in-None-clause-place : goal.place_in-returns-in-None-clause-place
place_in-returns-in-None-clause-place g t c tells records tree sub over means is_part =
    let p = c.args.steps.now in
    let s = c.index-steps-0.result in
    placed_added records (shown c.args.part) sub is_part c.args.dir.now c.load_way.new.dir c.exchange.new.dir c.add.new.dir tree p s (take (length p - 1) (drop 1 p)) c.add.result
    (by_rest p s (by_first_lt p s c.requires c.index-steps-0.is)) (c.in-None.ensures.same refl) (c.in_ok-load_way.ensures.opened tells records tree s over means c.of-places.ensures) (sym c.in-None.ensures.held)
    (λ now new. c.add.ensures.place records tree sub now new is_part)

pub place_in-returns-in-Some-clause-place : goal.place_in-returns-in-Some-clause-place
place_in-returns-in-Some-clause-place g t c tells records tree sub over means is_part =
    let p = c.args.steps.now in
    let s = c.index-steps-0.result in
    let later = still_over g.G.Ground.tells (g.G.Ground.told c.args.outside.now) (g.G.Ground.told c.load_way.new.outside) c.args.space.now c.load_way.new.space records c.in_ok-load_way.ensures.looks tells over in
    placed_entry records (shown c.args.part) sub is_part c.args.dir.now c.load_way.new.dir c.exchange.new.dir c.put_back.new.dir tree p s (take (length p - 1) (drop 1 p))
    c.vacant.result c.in-Some.node c.place_at-placed.new.node c.place_at-placed.result c.is_ok.result (by_rest p s (by_first_lt p s c.requires c.index-steps-0.is)) c.is_ok.ensures.value
    (c.in_ok-load_way.ensures.opened tells records tree s over means c.of-places.ensures) (sym c.in-Some.ensures.held) (λ w is. c.place_at-placed.ensures.place tells records w sub later is is_part)
    (λ steps es is. c.in-Some.ensures.exchanged steps es is refl) c.in-Some.ensures.known c.put_back.ensures

pub place_in-returns-in-Some-clause-looks : goal.place_in-returns-in-Some-clause-looks
place_in-returns-in-Some-clause-looks g t c = looks_on _ _ _ _ _ _ _ c.in_ok-load_way.ensures.looks c.place_at-placed.ensures.looks

pub place_in-returns-in-Some-clause-causes : goal.place_in-returns-in-Some-clause-causes
place_in-returns-in-Some-clause-causes g t c = causes_on _ _ _ _ _ c.in_ok-load_way.ensures.looks c.place_at-placed.result c.place_at-placed.ensures.causes
