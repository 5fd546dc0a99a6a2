use Rattle.std.proofs.Common.{sym, ◌∙◌}
use Rattle.std.specs.Prelude.{option_map}
use Rattle.ip_tree.specs.Finding.{as_node}
use Rattle.ip_three.specs.Merging.{same_number}
use Rattle.ip_three.proofs.OneStored.{one_place}
use Rattle.ip_three.proofs.side.is_one_place.Goals as goal

pub returns : goal.returns
returns c records v w p one other same =
    one_place records v w p (option_map as_node c.args.one.now) (option_map as_node c.args.other.now) one other
    (sym (c.is_one_offset.ensures ∙ (λ i. same_number (c.unread_at.ensures i) (c.unread_at-2.ensures i))) ∙ same)
