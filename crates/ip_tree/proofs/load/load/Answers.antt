use Rattle.std.proofs.Common.{rules, [], ◌≡◌, ◌-◌, ◌^◌, ◌∙◌, refl}
use Rattle.std.specs.Prelude.{min}
use Rattle.ip_shape.specs.Directory.{steps_of}
use Rattle.ip_spec.specs.Tree.{entries_of}
use Rattle.ip_tree.specs.Heights.{content_height}
use Rattle.ip_tree.specs.Reads.{content_count}
use Rattle.ip_tree.specs.declared.node.Stored.{Stored}
use Rattle.ip_tree.proofs.Loading.{spells_ref, steps_ascend, told_knows, told_means, whole_count, whole_spelled}
use Rattle.ip_tree.proofs.Walk.{err_is}
use Rattle.ip_tree.proofs.load.load.Goals as goal

pub returns-in_err-content-clause-loaded : goal.returns-in_err-content-clause-loaded
returns-in_err-content-clause-loaded g c tells records t over spells no_contents =
    err_is c.from_residual.result c.in_err-content.field-0.0 c.from_residual.ensures.1 _ _
    (c.in_err-content.ensures.part tells records 0 (entries_of t).entries over (spells_ref records c.args.reference.now t spells))

pub returns-clause-loaded : goal.returns-clause-loaded
returns-clause-loaded g c tells records t over spells no_contents =
    let r = c.args.reference.now in
    let content = c.in_ok-content.content in
    let x : Stored = record { reference = r; height = c.height_of.result } in
    let d = c.unread-dir.result in
    let height : c.height_of.result ≡ content_height content = search rules in
    let count_is : c.count_of.result ≡ min (content_count content) (2 ^ 64 - 1) = search rules in
    let known = c.unread-dir.ensures.known in
    let bounds = c.in_ok-content.ensures.bounds in
    let here = c.in_ok-content.ensures.part tells records 0 (entries_of t).entries over (spells_ref records r t spells) in
    let whole = whole_spelled records r t spells bounds.0 content here bounds.1 x refl height in
    let count = whole_count records r t spells bounds.0 content here bounds.1 c.count_of.result count_is in
    let partly = c.unread-dir.ensures.partly (steps_of (entries_of t).entries) (steps_ascend t) count in
    let means = told_means records x d t partly.0 known no_contents spells whole partly in
    let same = (c.in_ok-enter.ensures.entered records t x means (known []).0 here).0 in
    (same.means, λ part. same.known part ∙ told_knows records x d t partly.0 known part)
