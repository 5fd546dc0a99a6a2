use Rattle.std.proofs.Common.{◌≡◌, ◌+◌, Some, None, ap, sym, ◌∙◌, length, rules}
use Rattle.ip_save.specs.Earlier.{found_or, slices_of}
use Rattle.ip_save.specs.Reused.{place_of}
use Rattle.ip_save.proofs.Placing.{placed_new, placed_old}
use Rattle.ip_save.proofs.places.place_once.Goals as goal

pub returns-in-Some : goal.returns-in-Some
returns-in-Some c seen kept =
    let b = c.args.one.now.bytes.now in
    placed_old (found_or c.args.one.now.at (place_of seen b)) c.in-Some.at seen b c.args.next.now (slices_of c.args.put.now.items) c.args.places.now (ap (λ f. found_or f (place_of seen b)) c.in-Some.is) kept

pub returns-in-Some-copied : goal.returns-in-Some-copied
returns-in-Some-copied c seen kept =
    let b = c.args.one.now.bytes.now in
    let there : place_of seen b ≡ Some c.in-Some-copied.at = sym (kept b) ∙ sym c.get.ensures.value ∙ sym c.copied.ensures ∙ c.in-Some-copied.is in
    placed_old (found_or c.args.one.now.at (place_of seen b)) c.in-Some-copied.at seen b c.args.next.now (slices_of c.args.put.now.items) c.args.places.now (ap (λ f. found_or f (place_of seen b)) c.in_default.is ∙ there) kept

pub returns : goal.returns
returns c seen kept =
    let b = c.args.one.now.bytes.now in
    let none : place_of seen b ≡ None = sym (kept b) ∙ sym c.get.ensures.value ∙ sym c.copied.ensures ∙ c.in_default-copied.is in
    let sum : c.in-Some-checked_add.behind ≡ c.args.next.now + (length b + 5) = search rules in
    placed_new (found_or c.args.one.now.at (place_of seen b)) seen c.args.one.now.bytes c.args.next.now c.in-Some-checked_add.behind c.args.put.now.items c.push.new.self.items c.args.places.now c.insert.new.self
    (ap (λ f. found_or f (place_of seen b)) c.in_default.is ∙ none) kept sum c.in_ok-push.ensures.items c.in_ok-insert.ensures.updates
