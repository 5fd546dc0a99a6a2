use Rattle.std.proofs.Common.{◌≡◌, ◌+◌, ◌-◌, ◌≤◌, ◌++◌, ◌∷◌, [], List, length, refl, sym, ap, subst, ◌∙◌, arith}
use Rattle.std.specs.Prelude.{Some}
use Rattle.std.specs.FinMap.Entries.{find}
use Rattle.ip_spec.specs.Path.{Step, bytes_cmp}
use Rattle.ip_spec.specs.Shape.{deepest}
use Rattle.ip_spec.specs.declared.record.LeafEntry.{LeafEntry}
use Rattle.ip_spec.specs.declared.record.Record.TheVariants as Record
use Rattle.ip_shape.specs.declared.part.Part.{Part}
use Rattle.ip_tree.specs.Node.{Node, stored, contents}
use Rattle.ip_tree.specs.Shown.{shown, shown_directory}
use Rattle.ip_tree.specs.declared.node.Node.{size-Node}
use Rattle.ip_tree.proofs.Nodes.{stored_shown, contents_shown}
use Rattle.ip_tree.specs.declared.node.Stored.{Stored}
use Rattle.ip_save.specs.Laid.{BeginsWith, IsLaid, IsLayFault, behind_inode, behind_leaf, child_for, lay_children, lay_steps, new_inode, new_leaf, breadth, breadth_among, fresh, lay, lay_at, lay_part, nodes_in, record_of, ref_at, start_in, there}
use Rattle.ip_shape.specs.Heights.{inode_height, leaf_height}
use Rattle.ip_save.proofs.Found.{found_broad, found_has, found_laid, found_enough}
use Rattle.ip_save.proofs.Laying.{behind_result, ends_at, ends_children, ends_part, ends_steps, known_laid, nothing_laid, there_result}
use Rattle.ip_save.proofs.Rows.{child_failed, child_more, children_end, fault_up, inode_laid, leaf_laid, passed_on, step_cause, step_more, steps_end, walk_same, walk_up}
use Rattle.ip_save.proofs.Smaller.{found_most}
use Rattle.ip_save.proofs.Tallies.{found_tallies}
use Rattle.ip_save.specs.declared.tally.Tally.{Tally}
use Rattle.ip_save.proofs.lay.+lay.Goals as goal

pub put_at-put_node-requires : goal.put_at-put_node-requires
put_at-put_node-requires t c =
    let low = found_most size-Node c.args.dir.now.entries.entries c.args.step.now c.in-Some.node.now (sym c.in-Some.ensures.held) in
    (omega (arith, low, c.decreases), tt)

pub put_at-returns : goal.put_at-returns
put_at-returns t c = record {
  laid = λ refs ready.
      let d = c.args.dir.now in
      let es = d.entries.entries in
      let s = c.args.step.now in
      let n = c.in-Some.node.now in
      let found : find bytes_cmp s es ≡ Some n = sym c.in-Some.ensures.held in
      let x = c.in-Some-start_at.start in
      let at = c.in-Some-start_at.ensures (nodes_in d) refs ready.ascend ready.starts (found_has es s n found) in
      let start : x.refs.now ≡ start_in (nodes_in d) refs s = at.0 in
      let ahead = subst (λ (l : List Tally). BeginsWith l x.ahead.now) (found_tallies es s n found) at.1 in
      let enough : length (fresh (shown n)) ≤ length x.refs.now = (let all = found_enough es s n refs found ready.enough in let e = ap length start in omega (arith, e, all)) in
      walk_up c.args.end (breadth (shown n)) (breadth_among (nodes_in d)) (lay (shown n) x.refs.now) (lay_at (nodes_in d) refs s)
      (λ at. ap (λ (k : List Stored). lay (shown n) k at) start ∙ sym (found_laid es s n refs at found)) (found_broad es s n found) c.args.out.now.items c.put_node.new.out.items c.put_node.result (c.put_node.ensures.laid ready.low enough ahead);
}

pub put_directory-returns-in-Some : goal.put_directory-returns-in-Some
put_directory-returns-in-Some t c = record {
  laid = λ low enough begins.
      let d = c.args.dir.now in
      let refs = c.args.refs.now in
      let x = c.in-Some.stored in
      let known : record_of d.root ≡ Some x = ap record_of (sym c.root-root.ensures) ∙ sym c.in-Some.ensures in
      walk_same c.args.end (there x) (lay (shown_directory d) refs) (λ at. sym (known_laid (lay_at (nodes_in d) refs) deepest 0 d.root at x known)) c.args.out.now.items c.args.out.now.items x (nothing_laid c.args.end x c.args.out.now.items);
}

pub put_node-returns-in-Stored : goal.put_node-returns-in-Stored
put_node-returns-in-Stored t c = record {
  laid = λ low enough begins.
      let x = c.in-Stored.stored in
      let shows : shown c.args.node.now ≡ stored x = ap shown c.in-Stored.is ∙ stored_shown x in
      walk_same c.args.end (there x) (lay (shown c.args.node.now) c.args.refs.now) (λ at. ap (λ (n : Node). lay n c.args.refs.now at) (sym shows)) c.args.out.now.items c.args.out.now.items x (nothing_laid c.args.end x c.args.out.now.items);
}

pub put_node-returns-in-Contents : goal.put_node-returns-in-Contents
put_node-returns-in-Contents t c = record {
  laid = λ low enough begins.
      let b = c.in-Contents.field-0 in
      let refs = c.args.refs.now in
      let before = c.args.out.now.items in
      let shows : shown c.args.node.now ≡ contents b = ap shown c.in-Contents.is ∙ contents_shown b in
      walk_up c.args.end 0 (breadth (shown c.args.node.now)) (there (ref_at refs)) (lay (shown c.args.node.now) refs) (λ at. ap (λ (n : Node). lay n refs at) (sym shows)) (omega arith) before before c.first_of.result
      (there_result c.args.end (ref_at refs) before c.first_of.result 0 c.first_of.ensures.first c.first_of.ensures.cause);
}

pub put_part-returns-in-Some : goal.put_part-returns-in-Some
put_part-returns-in-Some t c = record {
  laid = λ refs ready deep.
      let d = c.args.dir.now in
      let x = c.in-Some.stored in
      let child = lay_at (nodes_in d) refs in
      let known : record_of c.args.part.now ≡ Some x = sym c.in-Some.ensures in
      walk_same c.args.end (there x) (lay_part child (deepest - c.args.depth) c.args.depth c.args.part.now) (λ at. sym (known_laid child (deepest - c.args.depth) c.args.depth c.args.part.now at x known)) c.args.out.now.items c.args.out.now.items x
      (nothing_laid c.args.end x c.args.out.now.items);
}

pub put_entries-returns-in-Err : goal.put_entries-returns-in-Err
put_entries-returns-in-Err t c = record {
  row = λ refs ready.
      let ns = nodes_in c.args.dir.now in
      let child = lay_at ns refs in
      step_cause c.args.end child (λ s at. ends_at ns refs s at) (lay_steps child c.args.steps.now) c.args.steps.now c.loop-step.step-index c.loop-step.out.items c.args.out.now.items c.loop-step.leaf (c.loop-step.invariant refs ready)
      c.step-item.result c.loop-step-test.true c.step-item.is (breadth_among ns) c.in-Err.fault (c.in-Err.ensures.laid refs ready);
}

pub put_entries-loop-step-preserved : goal.put_entries-loop-step-preserved
put_entries-loop-step-preserved t c refs ready =
    let ns = nodes_in c.args.dir.now in
    let child = lay_at ns refs in
    step_more c.args.end child (λ s at. ends_at ns refs s at) (lay_steps child c.args.steps.now) c.args.steps.now c.loop-step.step-index c.loop-step.out.items c.args.out.now.items c.loop-step.leaf (c.loop-step.invariant refs ready)
    c.step-item.result c.loop-step-test.true c.step-item.is c.put_at.new.out.items c.in-Ok.stored (c.in-Ok.ensures.laid refs ready) c.push.new.self
    (c.in_ok-push.ensures.ok ∙ ap (λ (x : LeafEntry). c.loop-step.leaf ++ x ∷ []) c.in_ok-leaf_entry.ensures)

pub put_entries-returns : goal.put_entries-returns
put_entries-returns t c = record {
  row = λ refs ready.
      let ns = nodes_in c.args.dir.now in
      let child = lay_at ns refs in
      steps_end c.args.end child (λ s at. ends_at ns refs s at) (lay_steps child c.args.steps.now) c.args.steps.now c.loop-step.step-index c.loop-step.out.items c.args.out.now.items c.loop-step.leaf (c.loop-step.invariant refs ready) c.loop-step-test.false;
}

pub put_children-returns-in-Err : goal.put_children-returns-in-Err
put_children-returns-in-Err t c = record {
  row = λ refs ready lt.
      let ns = nodes_in c.args.dir.now in
      let child = lay_at ns refs in
      let depth = c.args.depth + 1 in
      let deeper = lay_part child (deepest - depth) depth in
      child_failed c.args.end child deeper (λ p at. ends_part child (λ s at. ends_at ns refs s at) (deepest - depth) depth p at) (lay_children child deeper 0 c.args.children.now) c.args.children.now c.loop-index.index c.loop-index.out.items c.args.out.now.items c.loop-index.row (c.loop-index.invariant refs ready lt)
      c.index-children-index.result (omega arith) c.index-children-index.is (breadth_among ns) c.in-Err.fault (λ none. (c.in-Err.ensures.absent none).0) (λ some. c.in-Err.ensures.laid refs ready lt some);
}

pub put_children-loop-index-preserved : goal.put_children-loop-index-preserved
put_children-loop-index-preserved t c refs ready lt =
    let ns = nodes_in c.args.dir.now in
    let child = lay_at ns refs in
    let depth = c.args.depth + 1 in
    let deeper = lay_part child (deepest - depth) depth in
    child_more c.args.end child deeper (λ p at. ends_part child (λ s at. ends_at ns refs s at) (deepest - depth) depth p at) (lay_children child deeper 0 c.args.children.now) c.args.children.now c.loop-index.index c.loop-index.out.items c.args.out.now.items c.loop-index.row (c.loop-index.invariant refs ready lt)
    c.index-children-index.result (omega arith) c.index-children-index.is c.put_some.new.out.items c.in-Ok.stored c.add_child.new.row (λ none. c.in-Ok.ensures.absent none) (λ some. c.in-Ok.ensures.laid refs ready lt some)
    (λ none. c.in_ok-add_child.ensures.absent none) (λ x is. c.in_ok-add_child.ensures.added x is ∙ ap (λ n. c.loop-index.row ++ child_for c.loop-index.index n x ∷ []) c.count.ensures.told)

pub put_children-returns : goal.put_children-returns
put_children-returns t c = record {
  row = λ refs ready lt.
      let ns = nodes_in c.args.dir.now in
      let child = lay_at ns refs in
      let depth = c.args.depth + 1 in
      let deeper = lay_part child (deepest - depth) depth in
      children_end c.args.end child deeper (λ p at. ends_part child (λ s at. ends_at ns refs s at) (deepest - depth) depth p at) (lay_children child deeper 0 c.args.children.now) c.args.children.now c.loop-index.index c.loop-index.out.items c.args.out.now.items c.loop-index.row (c.loop-index.invariant refs ready lt) (omega arith);
}

pub put_new_part-returns-in_err-leaf-in-Leaf : goal.put_new_part-returns-in_err-leaf-in-Leaf
put_new_part-returns-in_err-leaf-in-Leaf t c = record {
  laid = λ refs ready deep new.
      let ns = nodes_in c.args.dir.now in
      let child = lay_at ns refs in
      let part = c.args.part.now in
      let whole = lay_part child (deepest - c.args.depth) c.args.depth part in
      let before = c.args.out.now.items in
      let f = c.in_err-leaf-in-Leaf.field-0.0 in
      passed_on c.from_residual.result f (IsLaid c.args.end whole before c.put_entries.new.out.items) (IsLayFault (breadth_among ns) c.args.end whole before) c.from_residual.ensures.1
      (fault_up c.args.end (breadth_among ns) (breadth_among ns) (λ at. behind_leaf (lay_steps child c.deref.result.now at)) whole
      (λ at. ap (λ (ss : List Step). behind_leaf (lay_steps child ss at)) c.deref.ensures.value ∙ leaf_laid child (deepest - c.args.depth) c.args.depth part c.in-Leaf.known c.in-Leaf.steps c.in-Leaf.is new at) (omega arith) before f
      (c.in_err-leaf-in-Leaf.ensures.row refs ready));
}

pub put_new_part-returns-in_err-row-in-Inode : goal.put_new_part-returns-in_err-row-in-Inode
put_new_part-returns-in_err-row-in-Inode t c = record {
  laid = λ refs ready deep new.
      let ns = nodes_in c.args.dir.now in
      let child = lay_at ns refs in
      let part = c.args.part.now in
      let lt = c.if-depth-ge-DEEPEST.false in
      let depth = c.args.depth + 1 in
      let deeper = lay_part child (deepest - depth) depth in
      let whole = lay_part child (deepest - c.args.depth) c.args.depth part in
      let before = c.args.out.now.items in
      let f = c.in_err-row-in-Inode.field-0.0 in
      passed_on c.from_residual-in_err-row-in-Inode.result f (IsLaid c.args.end whole before c.put_children.new.out.items) (IsLayFault (breadth_among ns) c.args.end whole before) c.from_residual-in_err-row-in-Inode.ensures.1
      (fault_up c.args.end (breadth_among ns) (breadth_among ns) (λ at. behind_inode c.args.depth (lay_children child deeper 0 c.deref-in-Inode.result.now at)) whole
      (λ at. ap (λ (cs : List (Part Stored)). behind_inode c.args.depth (lay_children child deeper 0 cs at)) c.deref-in-Inode.ensures.value ∙ inode_laid child c.args.depth part c.in-Inode.known c.in-Inode.count c.in-Inode.children lt c.in-Inode.is new at) (omega arith) before f
      (c.in_err-row-in-Inode.ensures.row refs ready lt));
}

pub put_new_part-returns-in_ok-leaf-in-Leaf : goal.put_new_part-returns-in_ok-leaf-in-Leaf
put_new_part-returns-in_ok-leaf-in-Leaf t c = record {
  laid = λ refs ready deep new.
      let ns = nodes_in c.args.dir.now in
      let child = lay_at ns refs in
      let part = c.args.part.now in
      let ss = c.deref.result.now in
      let before = c.args.out.now.items in
      walk_up c.args.end (breadth_among ns) (breadth_among ns) (λ at. behind_leaf (lay_steps child ss at)) (lay_part child (deepest - c.args.depth) c.args.depth part)
      (λ at. ap (λ (l : List Step). behind_leaf (lay_steps child l at)) c.deref.ensures.value ∙ leaf_laid child (deepest - c.args.depth) c.args.depth part c.in-Leaf.known c.in-Leaf.steps c.in-Leaf.is new at) (omega arith) before c.put_new_leaf.new.out.items
      c.put_new_leaf.result
      (behind_result Record.Leaf new_leaf c.args.end (lay_steps child ss) (ends_steps child (λ s at. ends_at ns refs s at) ss) before c.put_entries.new.out.items c.in_ok-leaf-in-Leaf.leaf (c.in_ok-leaf-in-Leaf.ensures.row refs ready) leaf_height (λ l at. refl) (breadth_among ns)
      c.put_new_leaf.new.out.items c.put_new_leaf.result c.put_new_leaf.ensures.bytes (c.put_new_leaf.ensures.stands ready.low) c.put_new_leaf.ensures.fits c.put_new_leaf.ensures.cause);
}

pub put_new_part-returns-in_ok-row-in-Inode : goal.put_new_part-returns-in_ok-row-in-Inode
put_new_part-returns-in_ok-row-in-Inode t c = record {
  laid = λ refs ready deep new.
      let ns = nodes_in c.args.dir.now in
      let child = lay_at ns refs in
      let part = c.args.part.now in
      let lt = c.if-depth-ge-DEEPEST.false in
      let depth = c.args.depth + 1 in
      let deeper = lay_part child (deepest - depth) depth in
      let cs = c.deref-in-Inode.result.now in
      let before = c.args.out.now.items in
      walk_up c.args.end (breadth_among ns) (breadth_among ns) (λ at. behind_inode c.args.depth (lay_children child deeper 0 cs at)) (lay_part child (deepest - c.args.depth) c.args.depth part)
      (λ at. ap (λ (l : List (Part Stored)). behind_inode c.args.depth (lay_children child deeper 0 l at)) c.deref-in-Inode.ensures.value ∙ inode_laid child c.args.depth part c.in-Inode.known c.in-Inode.count c.in-Inode.children lt c.in-Inode.is new at) (omega arith) before c.put_new_inode.new.out.items
      c.put_new_inode.result
      (behind_result (Record.Inode c.args.depth) (new_inode c.args.depth) c.args.end (lay_children child deeper 0 cs) (ends_children child (λ s at. ends_at ns refs s at) deeper (λ p at. ends_part child (λ s at. ends_at ns refs s at) (deepest - depth) depth p at) cs 0) before c.put_children.new.out.items
      c.in_ok-row-in-Inode.row (c.in_ok-row-in-Inode.ensures.row refs ready lt) inode_height (λ l at. refl) (breadth_among ns)
      c.put_new_inode.new.out.items c.put_new_inode.result c.put_new_inode.ensures.bytes (c.put_new_inode.ensures.stands ready.low) c.put_new_inode.ensures.fits c.put_new_inode.ensures.cause);
}
