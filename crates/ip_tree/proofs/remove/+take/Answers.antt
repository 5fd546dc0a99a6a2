use Rattle.std.proofs.Common.{◌≡◌, false, ◌-◌, [], ◌∷◌, take, drop, length, refl, sym, ap, subst, ◌∙◌}
use Rattle.std.specs.Prelude.{is_none}
use Rattle.ip_spec.specs.Path.{Path}
use Rattle.ip_spec.specs.Tree.{entries_of, is_empty, subtree}
use Rattle.ip_shape.specs.Directory.{entries_in, steps_of}
use Rattle.ip_shape.specs.declared.dir.Dir.{Dir}
use Rattle.ip_tree.specs.Edits.{IsDirectory}
use Rattle.ip_tree.specs.declared.node.Node.{Node, out-Node}
use Rattle.ip_tree.specs.declared.node.Stored.{Stored}
use Rattle.ip_tree.specs.Removal.{IsTaken, Takes, taken_front}
use Rattle.ip_tree.specs.Shown.{shown, shown_directory}
use Rattle.ip_tree.specs.declared.tree.TreeFault.TheVariants.{Memory}
use Rattle.ip_tree.proofs.CallsOn.{err_is}
use Rattle.ip_tree.proofs.PartlyShown.{partly}
use Rattle.ip_tree.proofs.RemovedDirectories.{IsBack, back_is}
use Rattle.ip_tree.proofs.RemovedExits.{only_step, rest_count, rest_stands, takes_out, takes_refused, takes_through, takes_under}
use Rattle.ip_tree.proofs.Steps.{by_first_lt, by_rest}
use Rattle.ip_tree.proofs.remove.+take.Goals as goal
use Rattle.ip_tree.proofs.Directories.{child_is, inner_directory, some_node}

pub take_at-returns-in-Directory-clause-taken : goal.take_at-returns-in-Directory-clause-taken
unfolding out-Node denote.Hole.Carrier.out
take_at-returns-in-Directory-clause-taken g t c tells records tree over is stands count =
    let d = c.in-Directory.dir in
    let taken =
    subst (λ (x : Dir Node Stored). Takes records c.args.steps.now (shown_directory x) (shown_directory c.take_in.new.dir) tree c.take_in.result) c.in-Directory.dir-is
    (c.take_in.ensures.taken tells records tree over
    (subst (λ (x : Dir Node Stored). IsDirectory records (shown_directory x) tree) (sym c.in-Directory.dir-is) (inner_directory records c.args.node.now d tree c.in-Directory.is is)) stands count) in
    rw c.in-Directory.is (takes_through records d c.take_in.new.dir tree c.args.steps.now (some_node records (shown c.args.node.now) tree is) c.take_in.result taken)

pub take_in-returns-in_err-remove-clause-taken : goal.take_in-returns-in_err-remove-clause-taken
take_in-returns-in_err-remove-clause-taken g t c tells records tree over is stands count =
    let s = c.index-steps-0.result in
    let d = c.load_to_remove.new.dir in
    let opened = (c.in_ok-load_to_remove.ensures.opened tells records tree over is).0 in
    err_is (λ r. Takes records c.args.steps.now (shown_directory c.args.dir.now) (shown_directory c.remove.new.dir) tree r) c.from_residual-in_err-remove.result Memory c.from_residual-in_err-remove.ensures.1
    record {
      same = takes_refused records (shown_directory c.args.dir.now) d c.remove.new.dir tree s opened
          (c.in_err-remove.ensures.refused (steps_of (entries_of tree).entries) (entries_in d) (partly records d tree opened.same.means));
      cause = tt;
    }

pub take_in-returns-then-steps-eq1-clause-taken : goal.take_in-returns-then-steps-eq1-clause-taken
take_in-returns-then-steps-eq1-clause-taken g t c tells records tree over is stands count =
    let q = c.args.steps.now in
    let s = c.index-steps-0.result in
    let d = c.load_to_remove.new.dir in
    let steps = steps_of (entries_of tree).entries in
    let split : q ≡ s ∷ [] = only_step q s c.if-steps-eq1.true c.index-steps-0.is in
    let opened = c.in_ok-load_to_remove.ensures.opened tells records tree over is in
    let out = c.in_ok-remove.ensures.removed steps (entries_in d) (partly records d tree opened.0.same.means) (ap is_none opened.0.way) in
    subst (λ (p : Path). IsTaken records p (shown_directory c.args.dir.now) (shown_directory c.remove.new.dir) tree) (sym split)
    (takes_out records (shown_directory c.args.dir.now) d c.remove.new.dir tree s opened.0 opened.1 (subst (λ (p : Path). is_empty (subtree tree p) ≡ false) split stands) c.in_ok-remove.field-0 out)

pub take_in-returns-in-Some-clause-taken : goal.take_in-returns-in-Some-clause-taken
take_in-returns-in-Some-clause-taken g t c tells records tree over is stands count =
    let q = c.args.steps.now in
    let s = c.index-steps-0.result in
    let d = c.args.dir.now in
    let rest = take (length q - 1) (drop 1 q) in
    let split = by_rest q s (by_first_lt q s c.requires c.index-steps-0.is) in
    let more : length (s ∷ rest) ≡ 1 → ⊥ = λ one. c.if-steps-eq1.false (ap (λ (p : Path). length p) split ∙ one) in
    let count' : length (s ∷ rest) ≡ taken_front tree (s ∷ rest) = subst (λ (p : Path). length p ≡ taken_front tree p) split count in
    let stands' : is_empty (subtree tree (s ∷ rest)) ≡ false = subst (λ (p : Path). is_empty (subtree tree p) ≡ false) split stands in
    let child = child_is records d tree s is c.in-Some.node (sym c.in-Some.ensures.held) in
    let taken = c.take_at-taken.ensures.taken tells records child.sub over child.means (rest_stands records d tree s rest c.in-Some.node child more count' stands') (rest_count records d tree s rest c.in-Some.node child more count') in
    let back =
    back_is d c.exchange.new.dir c.put_back.new.dir (steps_of (entries_of tree).entries) s c.vacant.result c.take_at-taken.new.node c.is_ok.result
    (c.in-Some.ensures.exchanged (steps_of (entries_of tree).entries) (entries_in d) (partly records d tree is) refl) c.in-Some.ensures.known c.put_back.ensures in
    subst (λ (p : Path). Takes records p (shown_directory d) (shown_directory c.put_back.new.dir) tree c.take_at-taken.result) (sym split)
    (takes_under records d tree s rest c.in-Some.node child more count' c.put_back.new.dir c.take_at-taken.new.node is c.take_at-taken.result
    (subst (λ b. IsBack d c.put_back.new.dir (steps_of (entries_of tree).entries) s c.take_at-taken.new.node b) c.is_ok.ensures.value back) taken)
