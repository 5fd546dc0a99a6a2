use Rattle.std.proofs.Common.{◌≡◌, ◌∙◌, refl, rules}
use Rattle.std.specs.Cmp.Lexicographic.{slice_cmp}
use Rattle.std.proofs.lemmas.Iterator.{YieldsList-from_slice, YieldsList-from_map_by}
use Rattle.std.proofs.lemmas.Iterator.Consumers.{YieldsList-at}
use Rattle.std.proofs.lemmas.Iterator.Search.{cmp_from_yields_List}
use Rattle.std.proofs.lemmas.List.{map-id}
use Rattle.ip_spec.specs.Path.{bytes_cmp}
use Rattle.ip_merge.proofs.order.compare.Goals as goal

-- each side yields the bytes of its steps
pub returns : goal.returns
returns c =
    let path = YieldsList-from_map_by _ (λ r. r.now) (λ step. step) (YieldsList-at c.map.ensures.source (YieldsList-from_slice c.args.path.now c.iter.ensures.rest)) c.map.ensures.closure (λ x r q k. search rules) in
    let other = YieldsList-from_map_by _ (λ r. r.now) (λ step. step) (YieldsList-at c.map-2.ensures.source (YieldsList-from_slice c.args.other.now c.iter-2.ensures.rest)) c.map-2.ensures.closure (λ x r q k. search rules) in
    cmp_from_yields_List (λ x y. y ≡ x) _ bytes_cmp _ c.cmp.ensures.ran path (λ it e. YieldsList-at e other) (λ x y. refl)
    ∙ (λ i. slice_cmp bytes_cmp (map-id c.args.path.now i) (map-id c.args.other.now i))
