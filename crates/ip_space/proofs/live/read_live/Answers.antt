use Rattle.std.proofs.Common.{refl}
use Rattle.std.proofs.lemmas.Bool.{false≢true}
use Rattle.ip_ground.specs.declared.names.FileName.TheVariants.{Mapping, Prefix}
use Rattle.ip_ground.proofs.Passing.{changes_nothing_on}
use Rattle.ip_space.proofs.LivePair.{not_filled, mapping_refused, mapping_later, own_later, pair_found, pair_refused}
use Rattle.ip_space.proofs.live.read_live.Goals as goal

pub returns-in-Err-clause-finds : goal.returns-in-Err-clause-finds
returns-in-Err-clause-finds g c told own = mapping_refused (g.G.Ground.told c.read_mapping.new.outside).held c.args.layout c.in-Err.fault (c.in-Err.ensures.finds told own.mapping)

pub returns-then-not-fills-clause-finds : goal.returns-then-not-fills-clause-finds
returns-then-not-fills-clause-finds g c told own =
    let old = g.G.Ground.told c.args.outside.now in
    let then = g.G.Ground.told c.read_mapping.new.outside in
    let now = g.G.Ground.told c.note_damage.new.self in
    let s = c.args.layout in
    let found = c.in-Ok.ensures.finds told own.mapping in
    let is = mapping_later then now (c.note_damage.ensures.does told) s (own_later old then (c.in-Ok.ensures.only told) s (Mapping s.live) own.mapping) c.in-Ok.mapping.rows found.0 in
    not_filled now.held s c.in-Ok.mapping.rows is found.1 (λ sum. absurd (false≢true (c.if-not-fills.ensures.1 sum)))

pub returns-then-not-fills-clause-only : goal.returns-then-not-fills-clause-only
returns-then-not-fills-clause-only g c told = changes_nothing_on _ _ _ (c.in-Ok.ensures.only told) (c.note_damage.ensures.does told)

pub returns-in-Err-test_prefix-clause-finds : goal.returns-in-Err-test_prefix-clause-finds
returns-in-Err-test_prefix-clause-finds g c told own =
    let old = g.G.Ground.told c.args.outside.now in
    let then = g.G.Ground.told c.read_mapping.new.outside in
    let now = g.G.Ground.told c.test_prefix.new.outside in
    let s = c.args.layout in
    let found = c.in-Ok.ensures.finds told own.mapping in
    let before = c.in-Ok.ensures.only told in
    let is = mapping_later then now (c.in-Err-test_prefix.ensures.only told) s (own_later old then before s (Mapping s.live) own.mapping) c.in-Ok.mapping.rows found.0 in
    pair_refused now.held s c.in-Ok.mapping.rows is found.1 (c.if-not-fills.ensures.0 refl) c.in-Err-test_prefix.fault
    (c.in-Err-test_prefix.ensures.finds told (own_later old then before s (Prefix s.live) own.prefix))

pub returns-in-Err-test_prefix-clause-only : goal.returns-in-Err-test_prefix-clause-only
returns-in-Err-test_prefix-clause-only g c told = changes_nothing_on _ _ _ (c.in-Ok.ensures.only told) (c.in-Err-test_prefix.ensures.only told)

pub returns-clause-finds : goal.returns-clause-finds
returns-clause-finds g c told own =
    let old = g.G.Ground.told c.args.outside.now in
    let then = g.G.Ground.told c.read_mapping.new.outside in
    let now = g.G.Ground.told c.test_prefix.new.outside in
    let s = c.args.layout in
    let found = c.in-Ok.ensures.finds told own.mapping in
    let before = c.in-Ok.ensures.only told in
    let is = mapping_later then now (c.in_default.ensures.only told) s (own_later old then before s (Mapping s.live) own.mapping) c.in-Ok.mapping.rows found.0 in
    pair_found now.held s c.in-Ok.mapping.rows is found.1 (c.if-not-fills.ensures.0 refl) c.requires
    (c.in_default.ensures.finds told (own_later old then before s (Prefix s.live) own.prefix))

pub returns-clause-only : goal.returns-clause-only
returns-clause-only g c told = changes_nothing_on _ _ _ (c.in-Ok.ensures.only told) (c.in_default.ensures.only told)
