use Rattle.std.proofs.Common.{◌≡◌, ◌≢◌, ◌<◌, ◌-◌, ◌+◌, ap, ◌∙◌, sym, subst, arith, length, List, ℕ}
use Rattle.std.specs.Prelude.{Some, None, option_map}
use Rattle.std.proofs.lemmas.Option.{slice_get-get_or}
use Rattle.ip_spec.specs.Shape.{deepest, place}
use Rattle.ip_shape.specs.Shape.{IsPart, steps_at}
use Rattle.ip_shape.specs.Loaded.{join_of}
use Rattle.ip_shape.specs.Reading.{IsToJoin}
use Rattle.ip_shape.specs.declared.part.Part.{Part}
use Rattle.ip_shape.proofs.Digests.{in_digest}
use Rattle.ip_shape.proofs.Edits.{child_at, counted}
use Rattle.ip_shape.proofs.Entering.{into_way}
use Rattle.ip_shape.proofs.Needs.{first_to_join, join_below, none_to_join}
use Rattle.ip_shape.proofs.reading.+unread_to_join.Goals as goal

pub returns-in-None : goal.returns-in-None
returns-in-None g n c s steps digest le is none =
    let depth = c.args.depth in
    let i = c.at-index.result in
    let lt : depth < 51 = c.if-depth-ge-DEEPEST.false in
    let inode = subst (λ (p : Part g.row.R.Denot). IsPart (deepest - depth) depth steps p) c.in-Inode.is is in
    let long : length steps ≢ 33 = λ e. absurd (omega (arith, counted depth steps c.in-Inode.known c.in-Inode.count c.in-Inode.children lt inode, c.if-count.false, e)) in
    let at : i ≡ place s depth = in_digest i c.args.places.now s depth c.at-index.ensures digest in
    let within : i < length c.in-Inode.children.items = omega (arith, c.if-index-len.false, c.len.ensures, c.in-Inode.children.ok.0) in
    let child = c.index.result.now in
    let read = slice_get-get_or c.in-Inode.children.items i child within ∙ ap Some (sym c.index.ensures) in
    let below = child_at depth steps c.in-Inode.known c.in-Inode.count c.in-Inode.children lt inode i child within c.index.ensures in
    let on_child = sym (into_way depth s c.in-Inode.known c.in-Inode.count c.in-Inode.children c.args.part.now i lt c.in-Inode.is at child read) ∙ none in
    let deeper = c.in_ok-unread_to_join-in-Inode.ensures s (steps_at depth i steps) digest (omega (arith, lt)) below on_child in
    let join = join_of (deepest - (depth + 1)) (depth + 1) s (steps_at depth i steps) in
    subst (λ o. IsToJoin o c.args.part.now None) (sym (join_below depth i s steps lt long at))
    (none_to_join c.in-Inode.known c.in-Inode.count c.in-Inode.children c.args.part.now child i c.in-Inode.is read join
    (subst (λ o. IsToJoin join child (option_map {U = List ℕ × g.row.R.Denot} (λ f. (f.0.items, f.1.now)) o)) c.in-None.is deeper))

pub returns-in_ok-push-in-Some : goal.returns-in_ok-push-in-Some
returns-in_ok-push-in-Some g n c s steps digest le is none =
    let depth = c.args.depth in
    let i = c.at-index.result in
    let lt : depth < 51 = c.if-depth-ge-DEEPEST.false in
    let inode = subst (λ (p : Part g.row.R.Denot). IsPart (deepest - depth) depth steps p) c.in-Inode.is is in
    let long : length steps ≢ 33 = λ e. absurd (omega (arith, counted depth steps c.in-Inode.known c.in-Inode.count c.in-Inode.children lt inode, c.if-count.false, e)) in
    let at : i ≡ place s depth = in_digest i c.args.places.now s depth c.at-index.ensures digest in
    let within : i < length c.in-Inode.children.items = omega (arith, c.if-index-len.false, c.len.ensures, c.in-Inode.children.ok.0) in
    let child = c.index.result.now in
    let read = slice_get-get_or c.in-Inode.children.items i child within ∙ ap Some (sym c.index.ensures) in
    let below = child_at depth steps c.in-Inode.known c.in-Inode.count c.in-Inode.children lt inode i child within c.index.ensures in
    let on_child = sym (into_way depth s c.in-Inode.known c.in-Inode.count c.in-Inode.children c.args.part.now i lt c.in-Inode.is at child read) ∙ none in
    let deeper = c.in_ok-unread_to_join-in-Inode.ensures s (steps_at depth i steps) digest (omega (arith, lt)) below on_child in
    let join = join_of (deepest - (depth + 1)) (depth + 1) s (steps_at depth i steps) in
    subst (λ o. IsToJoin o c.args.part.now (Some (c.push.new.self.items, c.in-Some.record.now))) (sym (join_below depth i s steps lt long at))
    (first_to_join c.in-Inode.known c.in-Inode.count c.in-Inode.children c.args.part.now child i c.in-Inode.is read join c.in-Some.indexes.items c.push.new.self.items c.in-Some.record.now c.in_ok-push-in-Some.ensures.items
    (subst (λ o. IsToJoin join child (option_map {U = List ℕ × g.row.R.Denot} (λ f. (f.0.items, f.1.now)) o)) c.in-Some.is deeper))
