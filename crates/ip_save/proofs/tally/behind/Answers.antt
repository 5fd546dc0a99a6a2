use Rattle.std.proofs.Common.{◌≡◌, length, drop, sym, ap, subst, ◌∙◌}
use Rattle.ip_shape.specs.Directory.{root_of}
use Rattle.ip_tree.specs.Node as view
use Rattle.ip_tree.specs.Node.{stored, contents}
use Rattle.ip_tree.specs.Shown.{shown, shown_directory}
use Rattle.ip_tree.proofs.Nodes.{stored_shown, contents_shown, directory_shown}
use Rattle.ip_save.specs.Laid.{BeginsWith, nodes_in, tallies}
use Rattle.ip_save.proofs.Tallies.{behind_own}
use Rattle.ip_save.proofs.tally.behind.Goals as goal

pub returns-in-Stored : goal.returns-in-Stored
returns-in-Stored c begins =
    let shows : shown c.args.node.now ≡ stored c.in-Stored.field-0 = ap shown c.in-Stored.is ∙ stored_shown c.in-Stored.field-0 in
    ap (λ (n : view.Node). drop (length (tallies n)) c.args.ahead.now) (sym shows)

pub returns-in-Contents : goal.returns-in-Contents
returns-in-Contents c begins =
    let shows : shown c.args.node.now ≡ contents c.in-Contents.field-0 = ap shown c.in-Contents.is ∙ contents_shown c.in-Contents.field-0 in
    ap (λ (n : view.Node). drop (length (tallies n)) c.args.ahead.now) (sym shows)

pub returns-in-Directory : goal.returns-in-Directory
returns-in-Directory c begins =
    let d = c.in-Directory.field-0 in
    let shows : shown c.args.node.now ≡ shown_directory d = ap shown c.in-Directory.is ∙ directory_shown d in
    let own = subst (λ (n : view.Node). BeginsWith (tallies n) c.args.ahead.now) shows begins in
    c.behind_first.ensures ∙ behind_own (root_of d) (nodes_in d) c.args.ahead.now own ∙ ap (λ (n : view.Node). drop (length (tallies n)) c.args.ahead.now) (sym shows)
