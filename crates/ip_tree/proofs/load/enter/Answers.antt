use Rattle.std.proofs.Common.{Some, ap, ◌∙◌}
use Rattle.ip_spec.specs.Tree.{entries_of}
use Rattle.ip_shape.specs.Directory.{entries_in, steps_of}
use Rattle.ip_shape.specs.Reading.{AreChildren, steps_under}
use Rattle.std.proofs.Common.{sym, subst, length}
use Rattle.ip_tree.specs.Reads.{record_of}
use Rattle.ip_tree.specs.declared.fetch.Content.{Content}
use Rattle.ip_tree.proofs.Loading.{inode_enters, inode_fits, is_partly, leaf_enters, leaf_fits, leaf_stands}
use Rattle.ip_tree.proofs.load.enter.Goals as goal

pub returns-in_ok-nodes_of-in-Leaf : goal.returns-in_ok-nodes_of-in-Leaf
returns-in_ok-nodes_of-in-Leaf c = record {
  entered = λ records t x means found here.
      let d = c.args.dir.now in
      let is = c.args.indexes.now in
      let fields = c.in-Leaf.entries in
      let given = c.in_ok-nodes_of-in-Leaf.field-0.items in
      let there = here ∙ ap (λ (k : Content). Some (record_of k)) c.in-Leaf.is in
      let shows = c.in_ok-nodes_of-in-Leaf.ensures in
      let whole = is_partly records d t is x means found in
      let stand = leaf_stands records d t is x means found fields given there shows in
      leaf_enters records d t is x means found fields given there shows c.read_leaf.new.dir c.read_leaf.result
      (c.read_leaf.ensures.read (steps_of (entries_of t).entries) (entries_in d) x whole found stand (leaf_fits records d t is x means found fields given there shows))
      (c.read_leaf.ensures.refused (steps_of (entries_of t).entries) (entries_in d) x whole found stand);
}

pub returns-in_ok-children_of-in-Inode : goal.returns-in_ok-children_of-in-Inode
returns-in_ok-children_of-in-Inode c = record {
  entered = λ records t x means found here.
      let d = c.args.dir.now in
      let is = c.args.indexes.now in
      let depth = c.in-Inode.depth in
      let children = c.in-Inode.children in
      let there = here ∙ ap (λ (k : Content). Some (record_of k)) c.in-Inode.is in
      let shows = c.in_ok-children_of-in-Inode.ensures in
      let whole = is_partly records d t is x means found in
      let fit = subst (AreChildren (length is) (steps_under 0 is (steps_of (entries_of t).entries))) (sym shows) (inode_fits records d t is x means found depth children there) in
      inode_enters records d t is x means found depth children there c.in_ok-children_of-in-Inode.field-0.items shows c.read_inode.new.dir c.read_inode.result
      (c.read_inode.ensures.read (steps_of (entries_of t).entries) (entries_in d) x whole found fit) c.read_inode.ensures.refused;
}
