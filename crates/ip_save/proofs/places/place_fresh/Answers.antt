use Rattle.std.proofs.Common.{◌≡◌, ◌+◌, ◌++◌, ℕ, List, [], ◌∷◌, ap, sym, subst, ◌∙◌, drop, Option}
use Rattle.std.proofs.lemmas.List.{at_drop_all, at_drop_more}
use Rattle.std.proofs.lemmas.List.Elements.{All-from_recursion}
use Rattle.sha2.specs.Sha256.{sha256}
use Rattle.ip_spec.specs.Path.{Bytes}
use Rattle.ip_save.specs.declared.fresh.Fresh.{Fresh}
use Rattle.ip_save.specs.Earlier.{slices_of}
use Rattle.ip_save.specs.Reused.{told_fresh}
use Rattle.ip_save.proofs.Placing.{PlacesOn, places_first, places_more, places_put, places_told}
use Rattle.ip_save.proofs.places.place_fresh.Goals as goal

pub loop-one-init : goal.loop-one-init
loop-one-init c =
    places_first c.args.end (told_fresh c.args.fresh.now) (slices_of c.new-put.result.items) c.new-places.result c.in_ok-refs.refs.items
    (ap slices_of c.new-put.ensures.items) c.new-places.ensures.empty c.in_ok-refs.ensures.items

pub loop-one-preserved : goal.loop-one-preserved
loop-one-preserved c =
    let x = c.one-item.result in
    let i = c.loop-one.one-index in
    let fresh = c.args.fresh.now in
    let all = told_fresh fresh in
    let rest = told_fresh (drop (i + 1) fresh) in
    let is = c.one-item.is in
    let hashed : x.name ≡ sha256 x.bytes.now = subst (λ (f : Fresh). f.name ≡ sha256 f.bytes.now) (sym is) (All-from_recursion (λ (f : Fresh). f.name ≡ sha256 f.bytes.now) fresh c.requires.hashed i x c.loop-one-test.true) in
    let left : told_fresh (drop i fresh) ≡ (x.bytes.now, x.at) ∷ rest = at_drop_more told_fresh fresh i x c.loop-one-test.true ∙ ap (λ (f : Fresh). (f.bytes.now, f.at) ∷ rest) (sym is) in
    let on = subst (λ (l : List (Bytes × Option ℕ)). PlacesOn c.args.end all l c.loop-one.next (slices_of c.loop-one.put.items) c.loop-one.places c.loop-one.refs.items) left c.loop-one.invariant in
    places_more c.args.end all rest x.bytes.now x.at c.loop-one.next c.place_once.new.next (slices_of c.loop-one.put.items) (slices_of c.place_once.new.put.items) c.loop-one.places c.place_once.new.places c.loop-one.refs.items c.push.new.self.items c.in_ok-at.at
    on (c.in_ok-at.ensures on.seen on.kept) (c.in_ok-push.ensures.items ∙ ap (λ r. c.loop-one.refs.items ++ r ∷ []) (c.stored_at.ensures hashed))

pub returns-clause-refs : goal.returns-clause-refs
returns-clause-refs c =
    places_told c.args.end (told_fresh c.args.fresh.now) (told_fresh (drop c.loop-one.one-index c.args.fresh.now)) c.loop-one.next (slices_of c.loop-one.put.items) c.loop-one.places c.loop-one.refs.items
    (at_drop_all told_fresh c.args.fresh.now c.loop-one.one-index c.loop-one-test.false) c.loop-one.invariant

pub returns-clause-put : goal.returns-clause-put
returns-clause-put c =
    places_put c.args.end (told_fresh c.args.fresh.now) (told_fresh (drop c.loop-one.one-index c.args.fresh.now)) c.loop-one.next (slices_of c.loop-one.put.items) c.loop-one.places c.loop-one.refs.items
    (at_drop_all told_fresh c.args.fresh.now c.loop-one.one-index c.loop-one-test.false) c.loop-one.invariant
