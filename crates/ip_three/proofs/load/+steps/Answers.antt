use Rattle.std.proofs.Common.{false, refl, sym, subst}
use Rattle.std.specs.Prelude.{IfErr}
use Rattle.ip_spec.specs.Tree.{entries_of}
use Rattle.ip_shape.specs.Directory.{entries_in, steps_of}
use Rattle.ip_shape.specs.declared.dir.Dir.{Dir}
use Rattle.ip_tree.specs.Edits.{IsDirectory, IsSame}
use Rattle.ip_tree.specs.Meaning.{NodeIs}
use Rattle.ip_tree.specs.Reads.{IsFree}
use Rattle.ip_tree.specs.declared.node.Node.{Node, out-Node}
use Rattle.ip_tree.specs.Shown.{shown, shown_directory}
use Rattle.ip_tree.specs.declared.node.Stored.{Stored}
use Rattle.ip_tree.proofs.CallsOn.{err_is}
use Rattle.ip_tree.proofs.Looking.{causes_on, looks_on, still_over}
use Rattle.ip_tree.proofs.PartlyShown.{partly}
use Rattle.ip_tree.proofs.RemovedDirectories.{back_is}
use Rattle.ip_tree.proofs.RemovedExits.{directory_at}
use Rattle.ip_tree.proofs.Directories.{child_is}
use Rattle.ip_three.proofs.Reaching.{itself, reached_below, reached_here, reached_through}
use Rattle.ip_three.proofs.load.+steps.Goals as goal

pub load_at-returns-then-is_empty-clause-same : goal.load_at-returns-then-is_empty-clause-same
load_at-returns-then-is_empty-clause-same g t c tells records tree over is = (itself records (NodeIs records) (shown c.args.node.now) tree is, tt)

pub load_at-returns-in_default-clause-same : goal.load_at-returns-in_default-clause-same
load_at-returns-in_default-clause-same g t c tells records tree over is = ((c.in_ok-unfold.ensures.opened tells records tree over is).same, tt)

pub load_at-returns-clause-same : goal.load_at-returns-clause-same
unfolding out-Node denote.Hole.Carrier.out
load_at-returns-clause-same g t c tells records tree over is =
    let opened = c.in_ok-unfold.ensures.opened tells records tree over is in
    let d = c.in-Directory.dir in
    let same = directory_at records (shown c.args.node.now) c.unfold.new.node d tree c.in-Directory.is opened.same in
    let over' = still_over _ _ _ _ _ records c.in_ok-unfold.ensures.looks tells over in
    let found =
    (c.load_in.ensures.same tells records tree over' (subst (λ (x : Dir Node Stored). IsDirectory records (shown_directory x) tree) (sym c.in-Directory.dir-is) record { directory = same.means.0.directory; steps = same.means.1; parts = same.means.2; nodes = same.means.3 })) in
    let kept = subst (λ (x : Dir Node Stored). IsSame (IsDirectory records) records (shown_directory x) (shown_directory c.load_in.new.dir) tree) c.in-Directory.dir-is found.0 in
    rw c.in-Directory.is (reached_through records (shown c.args.node.now) d c.load_in.new.dir tree same kept, found.1)

pub load_at-returns-clause-looks : goal.load_at-returns-clause-looks
load_at-returns-clause-looks g t c = looks_on _ _ _ _ _ _ _ c.in_ok-unfold.ensures.looks c.load_in.ensures.looks

pub load_at-returns-clause-causes : goal.load_at-returns-clause-causes
load_at-returns-clause-causes g t c = causes_on _ _ _ _ _ c.in_ok-unfold.ensures.looks c.load_in.result c.load_in.ensures.causes

pub load_in-returns-in_err-load_way-clause-same : goal.load_in-returns-in_err-load_way-clause-same
load_in-returns-in_err-load_way-clause-same g t c tells records tree over is =
    let kept = c.in_err-load_way.ensures.opened tells records tree c.index-steps-0.result over is c.of-places.ensures in
    (kept.same, err_is (λ r. IfErr r IsFree) c.from_residual.result c.in_err-load_way.field-0.0 c.from_residual.ensures.1 kept.cause)

pub load_in-returns-in-None-clause-same : goal.load_in-returns-in-None-clause-same
load_in-returns-in-None-clause-same g t c tells records tree over is =
    let s = c.index-steps-0.result in
    let opened = c.in_ok-load_way.ensures.opened tells records tree s over is c.of-places.ensures in
    (reached_here records (shown_directory c.args.dir.now) c.load_way.new.dir c.exchange.new.dir tree s opened (c.in-None.ensures.same refl), tt)

pub load_in-returns-in-Some-clause-same : goal.load_in-returns-in-Some-clause-same
load_in-returns-in-Some-clause-same g t c tells records tree over is =
    let s = c.index-steps-0.result in
    let d = c.load_way.new.dir in
    let opened = c.in_ok-load_way.ensures.opened tells records tree s over is c.of-places.ensures in
    let child = child_is records d tree s opened.same.means c.in-Some.node (sym c.in-Some.ensures.held) in
    let found = c.load_at-loaded.ensures.same tells records child.sub (still_over _ _ _ _ _ records c.in_ok-load_way.ensures.looks tells over) child.means in
    let back =
    back_is d c.exchange.new.dir c.put_back.new.dir (steps_of (entries_of tree).entries) s c.vacant.result c.load_at-loaded.new.node false
    (c.in-Some.ensures.exchanged (steps_of (entries_of tree).entries) (entries_in d) (partly records d tree opened.same.means) refl) c.in-Some.ensures.known c.put_back.ensures in
    (reached_below records (shown_directory c.args.dir.now) d c.put_back.new.dir tree s opened c.in-Some.node c.load_at-loaded.new.node child back found.0, found.1)

pub load_in-returns-in-Some-clause-looks : goal.load_in-returns-in-Some-clause-looks
load_in-returns-in-Some-clause-looks g t c = looks_on _ _ _ _ _ _ _ c.in_ok-load_way.ensures.looks c.load_at-loaded.ensures.looks

pub load_in-returns-in-Some-clause-causes : goal.load_in-returns-in-Some-clause-causes
load_in-returns-in-Some-clause-causes g t c = causes_on _ _ _ _ _ c.in_ok-load_way.ensures.looks c.load_at-loaded.result c.load_at-loaded.ensures.causes
