use Rattle.std.proofs.Common.{rules, ◌≡◌, ◌+◌, ◌-◌, ◌++◌, [], ◌∷◌, List, length, Option, Some, None, sym, ap, subst, ◌∙◌, arith}
use Rattle.std.specs.Prelude.{IfOk}
use Rattle.std.proofs.lemmas.List.{append-nil}
use Rattle.ip_spec.specs.Path.{Bytes, Step}
use Rattle.ip_tree.specs.Node.{Node as view, stored, contents}
use Rattle.ip_tree.specs.Shown.{shown, shown_directory}
use Rattle.ip_tree.specs.declared.node.Node.{Node}
use Rattle.ip_tree.proofs.Nodes.{stored_shown, contents_shown, directory_shown}
use Rattle.ip_shape.specs.Directory.{root_of}
use Rattle.ip_tree.specs.declared.node.Stored.{Stored}
use Rattle.ip_save.specs.Laid.{fresh, fresh_among, no_tally, nodes_in, record_of, tallies, tallies_among, unless_known}
use Rattle.ip_save.specs.declared.tally.Tally.{Tally}
use Rattle.ip_save.proofs.Rests.{rest_of}
use Rattle.ip_save.proofs.Tallies.{tallied_count, tallied_more, tallied_new, tallied_own}
use Rattle.ip_save.proofs.Unless.{unless_new}
use Rattle.ip_save.proofs.tally.+tally.Goals as goal

pub tally_entries-loop-node-init : goal.tally_entries-loop-node-init
tally_entries-loop-node-init t c =
    let all : c.into_iter-node-iterator.result ≡ c.args.dir.now.entries.entries = search rules in (
      tt,
      tt,
      (let same = ap (λ (es : List (Step × Node)). length (fresh_among (rest_of es))) all in omega (arith, same)),
      ap (λ (es : List (Step × Node)). c.args.out.now.items ++ tallies_among (rest_of es)) all,
    )

pub tally_entries-loop-node-preserved : goal.tally_entries-loop-node-preserved
tally_entries-loop-node-preserved t c =
    let s = c.in-Some.field-0-0.now in
    let n = shown c.in-Some.node.now in
    let rest = rest_of c.next.new.self in
    let all = rest_of c.args.dir.now.entries.entries in
    let steps : c.loop-node.node-iterator ≡ (s, c.in-Some.node.now) ∷ c.next.new.self = search rules in
    let sum : c.in-Some-checked_add.more ≡ c.loop-node.new + c.in_ok-below.below.new = search rules in (
      tt,
      tt,
      tallied_new n s rest c.loop-node.new c.in_ok-below.below.new c.in-Some-checked_add.more (length (fresh_among all)) c.in_ok-below.ensures.0 sum
          (subst (λ (es : List (Step × Node)). c.loop-node.new + length (fresh_among (rest_of es)) ≡ length (fresh_among all)) steps c.loop-node.invariant.2),
      tallied_more n s rest c.loop-node.out.items c.tally_node.new.out.items (c.args.out.now.items ++ tallies_among all) c.in_ok-below.ensures.1
          (subst (λ (es : List (Step × Node)). c.loop-node.out.items ++ tallies_among (rest_of es) ≡ c.args.out.now.items ++ tallies_among all) steps c.loop-node.invariant.3),
    )

pub tally_entries-returns : goal.tally_entries-returns
tally_entries-returns t c =
    let all = rest_of c.args.dir.now.entries.entries in
    let end : c.loop-node.node-iterator ≡ [] = search rules in
    let new = subst (λ (es : List (Step × Node)). c.loop-node.new + length (fresh_among (rest_of es)) ≡ length (fresh_among all)) end c.loop-node.invariant.2 in (
      (let sum : c.loop-node.new + 0 ≡ length (fresh_among all) = new in omega (arith, sum)),
      sym (append-nil c.loop-node.out.items)
          ∙ subst (λ (es : List (Step × Node)). c.loop-node.out.items ++ tallies_among (rest_of es) ≡ c.args.out.now.items ++ tallies_among all) end c.loop-node.invariant.3,
    )

pub tally_node-returns-in-Stored : goal.tally_node-returns-in-Stored
tally_node-returns-in-Stored t c =
    let shows : shown c.args.node.now ≡ stored c.in-Stored.field-0 = ap shown c.in-Stored.is ∙ stored_shown c.in-Stored.field-0 in (
      sym (ap (λ (n : view). length (fresh n)) shows),
      sym (append-nil c.args.out.now.items) ∙ sym (ap (λ (n : view). c.args.out.now.items ++ tallies n) shows),
    )

pub tally_node-returns-in-Contents : goal.tally_node-returns-in-Contents
tally_node-returns-in-Contents t c =
    let shows : shown c.args.node.now ≡ contents c.in-Contents.field-0 = ap shown c.in-Contents.is ∙ contents_shown c.in-Contents.field-0 in (
      sym (ap (λ (n : view). length (fresh n)) shows),
      sym (append-nil c.args.out.now.items) ∙ sym (ap (λ (n : view). c.args.out.now.items ++ tallies n) shows),
    )

pub tally_node-returns-in-Directory : goal.tally_node-returns-in-Directory
tally_node-returns-in-Directory t c =
    let d = c.in-Directory.dir in
    let shows : shown c.args.node.now ≡ shown_directory d = ap shown c.in-Directory.is ∙ directory_shown d in
    subst (λ (n : view). IfOk c.tally_directory.result (λ below. (below.new ≡ length (fresh n)) × (c.tally_directory.new.out.items ≡ c.args.out.now.items ++ tallies n))) (sym shows) c.tally_directory.ensures

pub tally_directory-returns-in-Some : goal.tally_directory-returns-in-Some
tally_directory-returns-in-Some t c =
    let d = c.args.dir.now in
    let ns = nodes_in d in
    let known : record_of (root_of d) ≡ Some c.in-Some.field-0 = ap record_of (sym c.root.ensures) ∙ sym c.in-Some.ensures in
    subst
    (λ (o : Option Stored). IfOk c.tally_known.result (λ below. (below.new ≡ length (unless_known o [] (fresh_among ns)))
    × (c.tally_known.new.out.items ≡ c.args.out.now.items ++ unless_known o (no_tally ∷ []) (record { new = length (fresh_among ns); directories = length (tallies_among ns) } ∷ tallies_among ns)))) (sym known) c.tally_known.ensures

pub tally_directory-returns-in-None : goal.tally_directory-returns-in-None
tally_directory-returns-in-None t c = c.tally_new.ensures (ap record_of (sym c.root.ensures) ∙ sym c.in-None.ensures)

pub tally_new-overflow_sub-directories : goal.tally_new-overflow_sub-directories
tally_new-overflow_sub-directories t c =
    let before = c.args.out.now.items in
    let at : c.len-at.result ≡ length before = search rules in
    let long : c.len.result ≡ length c.tally_entries.new.out.items = search rules in
    let total = tallied_count before c.push.new.self.items c.tally_entries.new.out.items (tallies_among (nodes_in c.args.dir.now)) (record { new = 0; directories = 0 }) c.in_ok-push.ensures.items c.in_ok-below.ensures.1 in
    omega (arith, at, long, total)

pub tally_new-overflow_sub-directories-2 : goal.tally_new-overflow_sub-directories-2
tally_new-overflow_sub-directories-2 t c =
    let before = c.args.out.now.items in
    let at : c.len-at.result ≡ length before = search rules in
    let long : c.len.result ≡ length c.tally_entries.new.out.items = search rules in
    let total = tallied_count before c.push.new.self.items c.tally_entries.new.out.items (tallies_among (nodes_in c.args.dir.now)) (record { new = 0; directories = 0 }) c.in_ok-push.ensures.items c.in_ok-below.ensures.1 in
    omega (arith, at, long, total)

pub tally_new-returns : goal.tally_new-returns
tally_new-returns t c known =
    let d = c.args.dir.now in
    let ns = nodes_in d in
    let before = c.args.out.now.items in
    let at : c.len-at.result ≡ length before = search rules in
    let long : c.len.result ≡ length c.tally_entries.new.out.items = search rules in
    let empty : Tally = record { new = 0; directories = 0 } in
    let total = tallied_count before c.push.new.self.items c.tally_entries.new.out.items (tallies_among ns) empty c.in_ok-push.ensures.items c.in_ok-below.ensures.1 in
    let directories : c.len.result - c.len-at.result - 1 ≡ length (tallies_among ns) = omega (arith, at, long, total) in (
      c.in_ok-below.ensures.0 ∙ ap (λ (l : List Bytes). length l) (sym (unless_new (record_of (root_of d)) [] (fresh_among ns) known)),
      tallied_own (root_of d) ns known before c.push.new.self.items c.tally_entries.new.out.items c.len-at.result c.in_ok-below.below.new (c.len.result - c.len-at.result - 1) empty (sym at) c.in_ok-push.ensures.items c.in_ok-below.ensures.1 c.in_ok-below.ensures.0 directories,
    )
