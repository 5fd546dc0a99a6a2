use Rattle.std.proofs.Common.{rules, of_calls, ◌≡◌, List, leb, subst, sym, None}
use Rattle.std.proofs.lemmas.List.Sorted.{IsPartitionPoint-from_clause, IsPartitionedBy-leb}
use Rattle.std.specs.List.Sorted.{IsPartitionedBy}
use Rattle.std.specs.Prelude.{map}
use Rattle.ip_image.specs.declared.run.Row.{Row}
use Rattle.ip_image.specs.Virtual.{run_of, locate}
use Rattle.ip_mapping.specs.Parsing.{Fields, IsRowAt}
use Rattle.ip_mapping.proofs.Lookup.{Split, split_of, rising, begins_below, is_row_at, no_row_at, nothing_below}
use Rattle.ip_mapping.proofs.mapping.Mapping.row_at.Goals as goal
use Rattle.ip_mapping.proofs.mapping.Mapping.row_at.Goals.{After-partition_point-behind}

split : (c : After-partition_point-behind) → Split c.self.inside.rows.items c.args.at c.partition_point-behind.result
split c =
    let up = IsPartitionedBy-leb (λ (row : Row). row.at) c.self.inside.rows.items c.args.at (rising c.self.inside.horizon 0 0 c.self.inside.rows.items c.self.invariant) in
    let read = subst (λ (rows : List Row). IsPartitionedBy (λ row. leb row.at c.args.at) rows) (sym c.deref.ensures.value) up in
    let point = IsPartitionPoint-from_clause (λ (row : Row). leb row.at c.args.at) c.deref.result.now c.partition_point-behind.result c.partition_point-behind.ensures.partitioned read (λ a r f q. search (rules, of_calls)) in
    subst (λ rows. Split rows c.args.at c.partition_point-behind.result) c.deref.ensures.value
    (split_of c.deref.result.now c.args.at c.partition_point-behind.result c.partition_point-behind.ensures.bound point)

abbrev shown : After-partition_point-behind → Fields
shown c = record { horizon = c.self.inside.horizon; end = c.self.inside.end; rows = c.self.inside.rows.items }

pub returns-then-behind-eq0 : goal.returns-then-behind-eq0
returns-then-behind-eq0 c =
    let before = (goal.at.returns-then-behind-eq0 c).After-partition_point-behind in
    subst (λ (m : Fields). locate (map run_of m.rows) c.args.at ≡ None) c.self.view_is
    (nothing_below c.args.at c.self.inside.rows.items (subst (λ i. Split c.self.inside.rows.items c.args.at i) c.if-behind-eq0.true (split before)))

pub overflow_sub-at : goal.overflow_sub-at
overflow_sub-at c =
    let before = (goal.at.overflow_sub-at c).After-partition_point-behind in
    begins_below (shown before) c.args.at c.partition_point-behind.result c.index-row.result.now c.self.invariant (split before) c.if-behind-eq0.false c.index-row.ensures

pub returns-then-at-row : goal.returns-then-at-row
returns-then-at-row c =
    let before = (goal.at.returns-then-at-row c).After-partition_point-behind in
    subst (λ (m : Fields). IsRowAt m c.args.at c.index-row.result.now) c.self.view_is
    (is_row_at (shown before) c.args.at c.partition_point-behind.result c.index-row.result.now c.self.invariant (split before) c.if-behind-eq0.false c.index-row.ensures c.if-at-row.true)

pub returns-else-at-row : goal.returns-else-at-row
returns-else-at-row c =
    let before = (goal.at.returns-else-at-row c).After-partition_point-behind in
    subst (λ (m : Fields). locate (map run_of m.rows) c.args.at ≡ None) c.self.view_is
    (no_row_at (shown before) c.args.at c.partition_point-behind.result c.index-row.result.now c.self.invariant (split before) c.if-behind-eq0.false c.index-row.ensures c.if-at-row.false)
