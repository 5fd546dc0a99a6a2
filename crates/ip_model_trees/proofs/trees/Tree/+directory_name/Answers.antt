use Rattle.std.proofs.Common.{◌≡◌, ◌-◌, ap, sym, subst, ◌∙◌, arith, map, length, not}
use Rattle.std.specs.Prelude.{IfOk}
use Rattle.std.proofs.lemmas.List.{take_all, length-map}
use Rattle.sha2.specs.Sha256.{sha256}
use Rattle.ip_spec.specs.Record.{Hash}
use Rattle.ip_spec.specs.Tree.{entries_of}
use Rattle.ip_spec.specs.Shape.{entries_name}
use Rattle.ip_model_trees.specs.declared.names.Entry.{Entry}
use Rattle.ip_model_trees.specs.Names.{paired}
use Rattle.ip_model_trees.proofs.SmallTrees.{named_in, seen, named_more, contents_child, directory_child, no_levels, few_named, short_steps, directory_below}
use Rattle.ip_model_trees.proofs.trees.Tree.+directory_name.Goals as goal
use Rattle.ip_model_trees.proofs.trees.Tree.+directory_name.Goals.{in-Some, in-None+in_ok-name-in-None}

pub returns-then-levels-eq0 : goal.returns-then-levels-eq0
returns-then-levels-eq0 n c t small is =
    subst (λ (x : Hash). IfOk c.entries_name.result (λ name. name ≡ x)) (no_levels c.args.levels t c.if-levels-eq0.true) (c.entries_name.ensures (omega arith) (λ k d low. absurd (omega (arith, low))))

pub loop-entry-preserved : goal.loop-entry-preserved
loop-entry-preserved n c t small is =
    let item = c.entry-item.result in
    let kind = not c.is_contents.result in
    let made : Entry = record { step = c.in_ok-copy.field-0; is_directory = kind; name = c.match-get.name } in
    named_more t small (c.args.levels - 1) c.loop-entry.entry-index c.deref-entry-items.result.now item c.loop-entry.named.items c.push.new.self.items made
    (c.deref-entry-items.ensures.value ∙ c.in_ok-entries.ensures t is) c.loop-entry-test.true c.entry-item.is (c.loop-entry.invariant t small is) c.in_ok-push.ensures.items c.in_ok-copy.ensures
    (λ u good at. elim c.match-get.branch [
      | in-Some w ↦ contents_child (c.args.levels - 1) u item.1 kind made.name at (ap not c.is_contents.ensures) w.in-Some.bytes.now w.in-Some.ensures (w.name-is ∙ (w.contents_name-name.ensures ∙ ap sha256 w.as_slice.ensures))
      | in-None+in_ok-name-in-None w ↦ directory_child (c.args.levels - 1) u item.1 kind made.name at (ap not c.is_contents.ensures) w.in-None.ensures (w.name-is ∙ w.in_ok-name-in-None.ensures u good at)
    ])

pub returns : goal.returns
returns n c t small is =
    let below = c.args.levels - 1 in
    let items = c.deref-entry-items.result.now in
    let from = c.deref-entry-items.ensures.value ∙ c.in_ok-entries.ensures t is in
    let size : length items ≡ length (entries_of t).entries = ap length from ∙ length-map (entries_of t).entries seen in
    let past = c.loop-entry-test.false in
    let all : map paired c.as_slice-2.result.now ≡ map (named_in below) (entries_of t).entries =
    ap (map paired) c.as_slice-2.ensures.value ∙ (c.loop-entry.invariant t small is ∙ ap (map (named_in below)) (take_all c.loop-entry.entry-index (entries_of t).entries (omega (arith, size, past)))) in
    let some = c.if-levels-eq0.false in
    let few = few_named t small below _ all in
    subst (λ (x : Hash). IfOk c.entries_name-2.result (λ name. name ≡ x)) (ap entries_name all ∙ sym (directory_below c.args.levels t (omega (arith, some))))
    (c.entries_name-2.ensures (omega (arith, few)) (short_steps t small below _ all))
