use Rattle.std.proofs.Common.{rules}
use Rattle.std.proofs.lemmas.Fn.{always_returns_same}
use Rattle.ip_spec.specs.Path.{path_cmp}
use Rattle.ip_merge.proofs.PlaceLaws.{searched}
use Rattle.ip_merge.proofs.rules.place_of.Goals as goal

-- the closure compares a rule's path with the one that is looked for
pub returns : goal.returns
returns g c =
    let facts = c.binary_search_by.ensures in
    let by_path = facts.position (λ rule. path_cmp rule.at c.args.at.now) (always_returns_same _ _ _ (λ a r q called. search rules)) in
    let place = searched (λ rule. rule.at) c.args.at.now c.args.rules.now c.requires c.binary_search_by.result facts.bound by_path in
    record { found = place.0; missing = place.1 }
