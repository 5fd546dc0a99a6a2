use Rattle.std.proofs.Common.{◌∷◌, ap, refl}
use Rattle.std.specs.Prelude.{is_none}
use Rattle.ip_shape.specs.Directory.{steps_of}
use Rattle.ip_spec.specs.Tree.{entries_of}
use Rattle.ip_tree.specs.Edits.{IsDirectory}
use Rattle.ip_tree.specs.Shown.{shown, shown_directory}
use Rattle.ip_tree.specs.declared.tree.TreeFault.TheVariants.{Memory}
use Rattle.ip_tree.proofs.PartlyShown.{partly}
use Rattle.ip_tree.proofs.PlacedNodes.{count_of, full_at, new_at, nothing_changed, placed_new, refused, room_test, whole_test}
use Rattle.ip_tree.proofs.place.add.Goals as goal
use Rattle.ip_tree.proofs.Directories.{unchanged_same}

pub returns-then-count-ge-ENTRIES_MAX-clause-place : goal.returns-then-count-ge-ENTRIES_MAX-clause-place
returns-then-count-ge-ENTRIES_MAX-clause-place c records t sub means new is_part =
    let d = c.args.dir.now in
    let s = c.args.step.now in
    let behind = c.args.behind.now in
    record {
      same = nothing_changed (IsDirectory records) records (shown_directory d) t means;
      cause = full_at records d t (s ∷ behind) s behind refl means new
          (whole_test _ _ c.if-count-ge-ENTRIES_MAX.true (count_of records d t means c.root.result.now c.root.ensures c.count.result c.count.ensures.steps));
    }

pub returns-in_err-insert-clause-place : goal.returns-in_err-insert-clause-place
returns-in_err-insert-clause-place c records t sub means new is_part =
    let d = c.args.dir.now in
    let kept = c.in_err-insert.ensures.refused (steps_of (entries_of t).entries) d.entries.entries (partly records d t means) in
    refused (IsDirectory records) records (c.args.step.now ∷ c.args.behind.now) (shown c.args.part) sub (shown_directory d) (shown_directory c.insert.new.dir) t c.from_residual-in_err-insert.result Memory
    c.from_residual-in_err-insert.ensures.1 tt (unchanged_same records d c.insert.new.dir t means kept.0 kept.1)

pub returns-clause-place : goal.returns-clause-place
returns-clause-place c records t sub means new is_part =
    let d = c.args.dir.now in
    let s = c.args.step.now in
    let behind = c.args.behind.now in
    let n = new_at records d t (s ∷ behind) s behind refl means new in
    let put = c.in_ok-insert.ensures.inserted (steps_of (entries_of t).entries) d.entries.entries (partly records d t means) (ap is_none n.way) in
    placed_new records (shown c.args.part) sub is_part d c.insert.new.dir t s behind means n.way c.in_ok-node.node (c.in_ok-node.ensures records sub is_part) n.lost n.missing
    (room_test _ _ c.if-count-ge-ENTRIES_MAX.false (count_of records d t means c.root.result.now c.root.ensures c.count.result c.count.ensures.steps)) put.1 put.2
