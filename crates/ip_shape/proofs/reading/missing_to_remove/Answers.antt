use Rattle.std.proofs.Common.{◌-◌, ap, ◌∙◌, sym, subst, arith, List, ℕ}
use Rattle.std.specs.Prelude.{Some, None, is_some, is_none, option_map, ◌&&◌}
use Rattle.std.specs.FinMap.Entries.{find}
use Rattle.std.proofs.lemmas.Bool.{false≢true}
use Rattle.ip_spec.specs.Path.{Step, bytes_cmp}
use Rattle.ip_spec.specs.Shape.{deepest}
use Rattle.ip_shape.specs.Shape.{IsPart, has}
use Rattle.ip_shape.specs.Loaded.{is_under, join_of, unread_in, way, way_to}
use Rattle.ip_shape.specs.Reading.{IsToJoin, IsUnreadOn}
use Rattle.ip_shape.specs.declared.part.Part.{Part}
use Rattle.ip_shape.proofs.Entering.{first_missing, none_missing, way_is}
use Rattle.ip_shape.proofs.Entries.{find_is}
use Rattle.ip_shape.proofs.LeafRead.{or_first}
use Rattle.ip_shape.proofs.Needs.{needed_to_join, nothing_needed}
use Rattle.ip_shape.proofs.Partly.{in_steps, read_is}
use Rattle.ip_shape.proofs.reading.missing_to_remove.Goals as goal

pub returns-in-Some : goal.returns-in-Some
returns-in-Some g c steps entries is =
    let s = c.args.step.now in
    let indexes = c.in_ok-indexes.indexes.items in
    let first = first_missing s c.root.result.now indexes c.in-Some.depth c.in-Some.record.now (c.in-Some.ensures.found s c.requires) (c.in_ok-indexes.ensures s c.requires) in
    (ap (unread_in indexes) (sym c.root.ensures) ∙ first.0, or_first (is_under (Some indexes) (way_to s)) (has s steps && is_under (join_of deepest 0 s steps) indexes) first.1)

pub returns-then-not-contains_key : goal.returns-then-not-contains_key
returns-then-not-contains_key g c steps entries is =
    let s = c.args.step.now in
    let root : Part g.row.R.Denot = c.args.dir.now.root in
    let old : List (Step × g.row.C.Denot) = c.args.dir.now.entries.entries in
    let none = ap (unread_in (way_to s)) (sym c.root.ensures) ∙ none_missing s c.root.result.now (subst (λ o. IsUnreadOn 0 (way (deepest - 0) 0 s) c.root.result.now (option_map {U = ℕ × g.row.R.Denot} (λ f. (f.0, f.1.now)) o)) c.in_default.is (c.unread_on.ensures.found s c.requires)) in
    let absent = sym (ap is_some (find_is s old ∙ ap (λ (es : List (Step × g.row.C.Denot)). find bytes_cmp s es) is.0)) ∙ sym c.contains_key.ensures ∙ c.if-not-contains_key.true in
    let not_there = sym (read_is root steps entries s is.3 (ap is_none none)) ∙ absent in
    nothing_needed s steps root none (λ is_in. absurd (false≢true (sym not_there ∙ is_in)))

pub returns-in-None : goal.returns-in-None
returns-in-None g c steps entries is =
    let s = c.args.step.now in
    let root : Part g.row.R.Denot = c.args.dir.now.root in
    let none = ap (unread_in (way_to s)) (sym c.root.ensures) ∙ none_missing s c.root.result.now (subst (λ o. IsUnreadOn 0 (way (deepest - 0) 0 s) c.root.result.now (option_map {U = ℕ × g.row.R.Denot} (λ f. (f.0, f.1.now)) o)) c.in_default.is (c.unread_on.ensures.found s c.requires)) in
    let stands = subst (λ (p : Part g.row.R.Denot). IsPart deepest 0 steps p) (sym c.root-2.ensures) is.2 in
    let deeper = c.in_ok-unread_to_join.ensures s steps c.requires (omega arith) stands (way_is s c.root-2.result.now (ap (unread_in (way_to s)) c.root-2.ensures ∙ none)) in
    nothing_needed s steps root none (λ _.
    subst (λ (p : Part g.row.R.Denot). IsToJoin (join_of deepest 0 s steps) p None) c.root-2.ensures
    (subst (λ o. IsToJoin (join_of deepest 0 s steps) c.root-2.result.now (option_map {U = List ℕ × g.row.R.Denot} (λ f. (f.0.items, f.1.now)) o)) c.in-None.is deeper))

pub returns-in-Some-2 : goal.returns-in-Some-2
returns-in-Some-2 g c steps entries is =
    let s = c.args.step.now in
    let root : Part g.row.R.Denot = c.args.dir.now.root in
    let old : List (Step × g.row.C.Denot) = c.args.dir.now.entries.entries in
    let none = ap (unread_in (way_to s)) (sym c.root.ensures) ∙ none_missing s c.root.result.now (subst (λ o. IsUnreadOn 0 (way (deepest - 0) 0 s) c.root.result.now (option_map {U = ℕ × g.row.R.Denot} (λ f. (f.0, f.1.now)) o)) c.in_default.is (c.unread_on.ensures.found s c.requires)) in
    let found = find_is s old ∙ ap (λ (es : List (Step × g.row.C.Denot)). find bytes_cmp s es) is.0 in
    let is_in = in_steps root steps entries s is.3 (sym (ap is_some found) ∙ sym c.contains_key.ensures ∙ c.if-not-contains_key.false) in
    let stands = subst (λ (p : Part g.row.R.Denot). IsPart deepest 0 steps p) (sym c.root-2.ensures) is.2 in
    let deeper = c.in_ok-unread_to_join.ensures s steps c.requires (omega arith) stands (way_is s c.root-2.result.now (ap (unread_in (way_to s)) c.root-2.ensures ∙ none)) in
    needed_to_join s steps root c.in-Some-2.indexes.items c.reverse.new.self.items c.in-Some-2.record.now is_in c.reverse.ensures.items
    (subst (λ (p : Part g.row.R.Denot). IsToJoin (join_of deepest 0 s steps) p (Some (c.in-Some-2.indexes.items, c.in-Some-2.record.now))) c.root-2.ensures
    (subst (λ o. IsToJoin (join_of deepest 0 s steps) c.root-2.result.now (option_map {U = List ℕ × g.row.R.Denot} (λ f. (f.0.items, f.1.now)) o)) c.in-Some-2.is deeper))
