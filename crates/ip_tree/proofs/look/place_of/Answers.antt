use Rattle.std.proofs.Common.{ap, sym, ◌∙◌}
use Rattle.ip_tree.specs.Shown.{shown}
use Rattle.ip_tree.proofs.Nodes.{stored_shown, contents_shown, directory_shown}
use Rattle.ip_tree.proofs.look.place_of.Goals as goal

pub returns-in-Stored : goal.returns-in-Stored
returns-in-Stored c = sym (ap shown c.in-Stored.is ∙ stored_shown _)

pub returns-in-Contents : goal.returns-in-Contents
returns-in-Contents c = sym (ap shown c.in-Contents.is ∙ contents_shown _)

pub returns-in-Directory : goal.returns-in-Directory
returns-in-Directory c = sym (ap shown c.in-Directory.is ∙ directory_shown _)
