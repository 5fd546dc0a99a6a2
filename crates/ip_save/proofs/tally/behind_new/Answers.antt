use Rattle.std.proofs.Common.{◌≡◌, drop, sym, ap, subst, ◌∙◌}
use Rattle.ip_shape.specs.Directory.{root_of}
use Rattle.ip_tree.specs.Node as view
use Rattle.ip_tree.specs.Node.{stored, contents}
use Rattle.ip_tree.specs.Shown.{shown, shown_directory}
use Rattle.ip_tree.proofs.Nodes.{stored_shown, contents_shown, directory_shown}
use Rattle.ip_save.specs.Laid.{BeginsWith, behind_refs, nodes_in, tallies}
use Rattle.ip_save.proofs.Tallies.{new_first}
use Rattle.ip_save.proofs.tally.behind_new.Goals as goal

pub returns-in-Stored : goal.returns-in-Stored
returns-in-Stored c begins =
    let shows : shown c.args.node.now ≡ stored c.in-Stored.field-0 = ap shown c.in-Stored.is ∙ stored_shown c.in-Stored.field-0 in
    ap (λ (n : view.Node). behind_refs n c.args.refs.now) (sym shows)

pub returns-in-Contents : goal.returns-in-Contents
returns-in-Contents c begins =
    let shows : shown c.args.node.now ≡ contents c.in-Contents.field-0 = ap shown c.in-Contents.is ∙ contents_shown c.in-Contents.field-0 in
    c.from.ensures ∙ ap (λ (n : view.Node). behind_refs n c.args.refs.now) (sym shows)

pub returns-in-Directory : goal.returns-in-Directory
returns-in-Directory c begins =
    let d = c.in-Directory.field-0 in
    let shows : shown c.args.node.now ≡ shown_directory d = ap shown c.in-Directory.is ∙ directory_shown d in
    let own = subst (λ (n : view.Node). BeginsWith (tallies n) c.args.ahead.now) shows begins in
    c.from-in-Directory.ensures ∙ ap (λ k. drop k c.args.refs.now) (c.new_in.ensures ∙ new_first (root_of d) (nodes_in d) c.args.ahead.now own) ∙ ap (λ (n : view.Node). behind_refs n c.args.refs.now) (sym shows)
