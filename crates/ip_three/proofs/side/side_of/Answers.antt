use Rattle.std.proofs.Common.{◌∙◌}
use Rattle.std.specs.Prelude.{option_map}
use Rattle.ip_tree.specs.Finding.{as_node}
use Rattle.ip_three.specs.Merging.{side_by}
use Rattle.ip_three.proofs.SidesFound.{side_is}
use Rattle.ip_three.proofs.side.side_of.Goals as goal

pub returns : goal.returns
returns c records b l r p base left right =
    let o = option_map as_node c.directory_of-old.result in
    let one = option_map as_node c.directory_of-one.result in
    let other = option_map as_node c.directory_of-other.result in
    c.side_for.ensures
    ∙ (λ i. side_by (c.is_one_directory.ensures records i) (c.is_one_directory-2.ensures records i) (c.is_one_directory-3.ensures records i))
    ∙ side_is records b l r p o one other (c.directory_of-old.ensures.says records b p base) (c.directory_of-one.ensures.says records l p left) (c.directory_of-other.ensures.says records r p right)
