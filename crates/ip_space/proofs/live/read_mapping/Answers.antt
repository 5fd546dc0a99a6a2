use Rattle.std.proofs.Common.{rules, ◌≡◌, refl, sym, ◌∙◌, ap, Err}
use Rattle.std.proofs.lemmas.Bool.{false≢true}
use Rattle.ip_ground.specs.declared.names.FileName.TheVariants.{Mapping}
use Rattle.ip_ground.specs.Contents.{bytes_of, size_of}
use Rattle.ip_ground.proofs.Passing.{changes_nothing_on}
use Rattle.ip_space.specs.Pair.{HasRowsLength}
use Rattle.ip_space.proofs.LivePair.{no_length, measured, held_later, own_later, length_later, read_refused}
use Rattle.ip_space.proofs.live.read_mapping.Goals as goal

pub returns-then-not-has_rows-clause-finds : goal.returns-then-not-has_rows-clause-finds
returns-then-not-has_rows-clause-finds g c told own =
    let old = g.G.Ground.told c.args.outside.now in
    let then = g.G.Ground.told c.length.new.self in
    let now = g.G.Ground.told c.note_damage.new.self in
    let s = c.args.layout in
    let does = c.in_ok-length.ensures.does told in
    let same : now.held (Mapping s.live) ≡ then.held (Mapping s.live) = held_later then now (c.note_damage.ensures.does told) s (Mapping s.live) (own_later old then does.only s (Mapping s.live) own) in
    let size : size_of (now.held (Mapping s.live)) ≡ c.unwrap_or-size.result = ap size_of same ∙ measured _ c.in_ok-length.field-0 does.ok ∙ sym c.unwrap_or-size.ensures in
    no_length now.held s c.unwrap_or-size.result size (λ is. absurd (false≢true (c.if-not-has_rows.ensures.1 is)))

pub returns-then-not-has_rows-clause-only : goal.returns-then-not-has_rows-clause-only
returns-then-not-has_rows-clause-only g c told = changes_nothing_on _ _ _ (c.in_ok-length.ensures.does told).only (c.note_damage.ensures.does told)

pub returns-in-Err-clause-finds : goal.returns-in-Err-clause-finds
returns-in-Err-clause-finds g c told own =
    let old = g.G.Ground.told c.args.outside.now in
    let then = g.G.Ground.told c.length.new.self in
    let now = g.G.Ground.told c.read_file.new.outside in
    let s = c.args.layout in
    let does = c.in_ok-length.ensures.does told in
    let size : size_of (then.held (Mapping s.live)) ≡ c.unwrap_or-size.result = measured _ c.in_ok-length.field-0 does.ok ∙ sym c.unwrap_or-size.ensures in
    let length : HasRowsLength then.held s = size ∙ c.if-not-has_rows.ensures.0 refl in
    read_refused now.held s c.in-Err.fault (λ place at is. c.in-Err.ensures.damaged place at (ap Err is))
    (length_later then now (c.in-Err.ensures.only told) s (own_later old then does.only s (Mapping s.live) own) length)

pub returns-in-Err-clause-only : goal.returns-in-Err-clause-only
returns-in-Err-clause-only g c told = changes_nothing_on _ _ _ (c.in_ok-length.ensures.does told).only (c.in-Err.ensures.only told)

pub returns-clause-finds : goal.returns-clause-finds
returns-clause-finds g c told own =
    let old = g.G.Ground.told c.args.outside.now in
    let then = g.G.Ground.told c.length.new.self in
    let read = g.G.Ground.told c.read_file.new.outside in
    let now = g.G.Ground.told c.note_pair.new.outside in
    let s = c.args.layout in
    let does = c.in_ok-length.ensures.does told in
    let mine = own_later old then does.only s (Mapping s.live) own in
    let size : size_of (then.held (Mapping s.live)) ≡ c.unwrap_or-size.result = measured _ c.in_ok-length.field-0 does.ok ∙ sym c.unwrap_or-size.ensures in
    let same : now.held (Mapping s.live) ≡ read.held (Mapping s.live) = held_later read now (c.note_pair.ensures.only told) s (Mapping s.live) (own_later then read (c.in-Ok.ensures.only told) s (Mapping s.live) mine) in
    let bytes : c.deref.result.now ≡ c.in-Ok.bytes.items = search rules in
    c.parse_live-found.ensures.finds now.held (ap bytes_of same ∙ sym (c.in-Ok.ensures.bytes told mine size) ∙ sym bytes)

pub returns-clause-only : goal.returns-clause-only
returns-clause-only g c told = changes_nothing_on _ _ _ (c.in_ok-length.ensures.does told).only (changes_nothing_on _ _ _ (c.in-Ok.ensures.only told) (c.note_pair.ensures.only told))
