use Rattle.std.proofs.Common.{false, ◌-◌, [], take, drop, get_or, length, refl, sym, subst}
use Rattle.std.specs.Prelude.{Ok}
use Rattle.ip_spec.specs.Path.{Step, Path}
use Rattle.ip_spec.specs.Shape.{deepest}
use Rattle.ip_spec.specs.Tree.{entries_of}
use Rattle.ip_shape.specs.Directory.{entries_in, steps_of}
use Rattle.ip_shape.specs.Shape.{IsPart}
use Rattle.ip_shape.specs.declared.part.Part as shape
use Rattle.ip_shape.specs.declared.dir.Dir.{Dir}
use Rattle.ip_tree.specs.Edits.{IsDirectory, IsKept}
use Rattle.ip_tree.specs.declared.node.Node.{Node, out-Node}
use Rattle.ip_tree.specs.Removal.{FindsFront, FindsFrontAt}
use Rattle.ip_tree.specs.Shown.{shown, shown_directory}
use Rattle.ip_tree.specs.declared.node.Node.TheVariants as variant
use Rattle.ip_tree.specs.declared.node.Stored.{Stored}
use Rattle.ip_tree.specs.declared.remove.Front.TheVariants.{Nothing, Steps}
use Rattle.ip_tree.proofs.CallsOn.{err_causes_on, err_is}
use Rattle.ip_tree.proofs.Looking.{causes_on, looks_on, still_over}
use Rattle.ip_tree.proofs.PartlyShown.{partly}
use Rattle.ip_tree.proofs.RemovedDirectories.{back_is}
use Rattle.ip_tree.proofs.RemovedExits.{directory_at, front_at_contents, front_below, front_here, front_nowhere, front_within_above, front_written, kept_through}
use Rattle.ip_tree.proofs.Steps.{by_first_lt, by_head, by_rest, nil_of}
use Rattle.ip_tree.proofs.remove.+front.Goals as goal
use Rattle.ip_tree.proofs.Directories.{child_is}

pub front_at-returns-then-is_empty-clause-front : goal.front_at-returns-then-is_empty-clause-front
front_at-returns-then-is_empty-clause-front g t c tells records tree over is =
    subst (λ (p : Path). FindsFrontAt records p (shown c.args.node.now) (shown c.args.node.now) tree (Ok (Steps 1))) (sym (nil_of c.args.steps.now c.if-is_empty.ensures)) (front_here records (shown c.args.node.now) tree is)

pub front_at-returns-in_default-clause-front : goal.front_at-returns-in_default-clause-front
front_at-returns-in_default-clause-front g t c tells records tree over is =
    let q = c.args.steps.now in
    subst (λ (p : Path). FindsFrontAt records p (shown c.args.node.now) (shown c.unfold.new.node) tree (Ok Nothing)) (sym (by_head q c.if-is_empty.ensures))
    (front_at_contents records (shown c.args.node.now) c.unfold.new.node tree (get_or q 0 []) (drop 1 q) c.in_default.not-Directory (c.in_ok-unfold.ensures.opened tells records tree over is))

pub front_at-returns-in_err-front-clause-front : goal.front_at-returns-in_err-front-clause-front
unfolding out-Node denote.Hole.Carrier.out
front_at-returns-in_err-front-clause-front g t c tells records tree over is =
    let opened = c.in_ok-unfold.ensures.opened tells records tree over is in
    let d = c.in-Directory.dir in
    let same = directory_at records (shown c.args.node.now) c.unfold.new.node d tree c.in-Directory.is opened.same in
    let over' = still_over _ _ _ _ _ records c.in_ok-unfold.ensures.looks tells over in
    let found =
    subst (λ (x : Dir Node Stored). IsKept (IsDirectory records) records (shown_directory x) (shown_directory c.front_in.new.dir) tree c.in_err-front.field-0.0) c.in-Directory.dir-is
    (c.in_err-front.ensures.front tells records tree over' (subst (λ (x : Dir Node Stored). IsDirectory records (shown_directory x) tree) (sym c.in-Directory.dir-is) record { directory = same.means.0.directory; steps = same.means.1; parts = same.means.2; nodes = same.means.3 })) in
    rw c.in-Directory.is
    (err_is (λ r. FindsFrontAt records c.args.steps.now (shown c.args.node.now) (shown (variant.Directory c.front_in.new.dir)) tree r) c.from_residual-in_err-front.result c.in_err-front.field-0.0
    c.from_residual-in_err-front.ensures.1 (kept_through records (shown c.args.node.now) d c.front_in.new.dir tree same c.in_err-front.field-0.0 found))

pub front_at-returns-in_err-front-clause-looks : goal.front_at-returns-in_err-front-clause-looks
front_at-returns-in_err-front-clause-looks g t c = looks_on _ _ _ _ _ _ _ c.in_ok-unfold.ensures.looks c.front_in.ensures.looks

pub front_at-returns-in_err-front-clause-causes : goal.front_at-returns-in_err-front-clause-causes
front_at-returns-in_err-front-clause-causes g t c =
    err_causes_on _ _ _ _ _ c.in_ok-unfold.ensures.looks c.from_residual-in_err-front.result c.in_err-front.field-0.0 c.from_residual-in_err-front.ensures.1 c.in_err-front.ensures.causes

pub front_at-returns-clause-front : goal.front_at-returns-clause-front
unfolding out-Node denote.Hole.Carrier.out
front_at-returns-clause-front g t c tells records tree over is =
    let q = c.args.steps.now in
    let opened = c.in_ok-unfold.ensures.opened tells records tree over is in
    let d = c.in-Directory.dir in
    let same = directory_at records (shown c.args.node.now) c.unfold.new.node d tree c.in-Directory.is opened.same in
    let over' = still_over _ _ _ _ _ records c.in_ok-unfold.ensures.looks tells over in
    let found =
    subst (λ (x : Dir Node Stored). FindsFront records q (shown_directory x) (shown_directory c.front_in.new.dir) tree (Ok c.in_ok-front.front)) c.in-Directory.dir-is
    (c.in_ok-front.ensures.front tells records tree over' (subst (λ (x : Dir Node Stored). IsDirectory records (shown_directory x) tree) (sym c.in-Directory.dir-is) record { directory = same.means.0.directory; steps = same.means.1; parts = same.means.2; nodes = same.means.3 })) in
    front_written records (shown c.args.node.now) d c.front_in.new.dir tree same q (get_or q 0 []) (drop 1 q) c.count.result c.in_ok-front.front c.above.result _ (by_head q c.if-is_empty.ensures) (rw c.in-Directory.is refl)
    (λ steps part. c.count.ensures.steps 0 steps (subst (λ (r : shape.Part Stored). IsPart deepest 0 steps r) (sym c.root.ensures) part)) c.above.ensures.nothing c.above.ensures.steps found

pub front_at-returns-clause-within : goal.front_at-returns-clause-within
front_at-returns-clause-within g t c n is =
    front_within_above c.in_ok-front.front c.above.result (length c.args.steps.now) c.count.result n c.above.ensures.nothing c.above.ensures.steps c.in_ok-front.ensures.within is

pub front_at-returns-clause-looks : goal.front_at-returns-clause-looks
front_at-returns-clause-looks g t c = looks_on _ _ _ _ _ _ _ c.in_ok-unfold.ensures.looks c.front_in.ensures.looks

pub front_in-returns-in_err-load_way-clause-front : goal.front_in-returns-in_err-load_way-clause-front
front_in-returns-in_err-load_way-clause-front g t c tells records tree over is =
    err_is (λ r. FindsFront records c.args.steps.now (shown_directory c.args.dir.now) (shown_directory c.load_way.new.dir) tree r) c.from_residual.result c.in_err-load_way.field-0.0 c.from_residual.ensures.1
    (c.in_err-load_way.ensures.opened tells records tree c.index-steps-0.result over is c.of-places.ensures)

pub front_in-returns-in-None-clause-front : goal.front_in-returns-in-None-clause-front
front_in-returns-in-None-clause-front g t c tells records tree over is =
    let q = c.args.steps.now in
    let s = c.index-steps-0.result in
    let opened = c.in_ok-load_way.ensures.opened tells records tree s over is c.of-places.ensures in
    subst (λ (p : Path). FindsFront records p (shown_directory c.args.dir.now) (shown_directory c.exchange.new.dir) tree (Ok Nothing)) (sym (by_rest q s (by_first_lt q s c.requires c.index-steps-0.is)))
    (front_nowhere records (shown_directory c.args.dir.now) c.load_way.new.dir c.exchange.new.dir tree s (take (length q - 1) (drop 1 q)) opened (sym c.in-None.ensures.held) (c.in-None.ensures.same refl))

pub front_in-returns-in-Some-clause-front : goal.front_in-returns-in-Some-clause-front
front_in-returns-in-Some-clause-front g t c tells records tree over is =
    let q = c.args.steps.now in
    let s = c.index-steps-0.result in
    let d = c.load_way.new.dir in
    let opened = c.in_ok-load_way.ensures.opened tells records tree s over is c.of-places.ensures in
    let child = child_is records d tree s opened.same.means c.in-Some.node (sym c.in-Some.ensures.held) in
    let found = c.front_at-front.ensures.front tells records child.sub (still_over _ _ _ _ _ records c.in_ok-load_way.ensures.looks tells over) child.means in
    let back =
    back_is d c.exchange.new.dir c.put_back.new.dir (steps_of (entries_of tree).entries) s c.vacant.result c.front_at-front.new.node false
    (c.in-Some.ensures.exchanged (steps_of (entries_of tree).entries) (entries_in d) (partly records d tree opened.same.means) refl) c.in-Some.ensures.known c.put_back.ensures in
    subst (λ (p : Path). FindsFront records p (shown_directory c.args.dir.now) (shown_directory c.put_back.new.dir) tree c.front_at-front.result) (sym (by_rest q s (by_first_lt q s c.requires c.index-steps-0.is)))
    (front_below records (shown_directory c.args.dir.now) d c.put_back.new.dir tree s (take (length q - 1) (drop 1 q)) opened c.in-Some.node c.front_at-front.new.node child back c.front_at-front.result found)

pub front_in-returns-in-Some-clause-looks : goal.front_in-returns-in-Some-clause-looks
front_in-returns-in-Some-clause-looks g t c = looks_on _ _ _ _ _ _ _ c.in_ok-load_way.ensures.looks c.front_at-front.ensures.looks

pub front_in-returns-in-Some-clause-causes : goal.front_in-returns-in-Some-clause-causes
front_in-returns-in-Some-clause-causes g t c = causes_on _ _ _ _ _ c.in_ok-load_way.ensures.looks c.front_at-front.result c.front_at-front.ensures.causes
