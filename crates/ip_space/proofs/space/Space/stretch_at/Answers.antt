use Rattle.std.proofs.Common.{◌≡◌, ℕ, List, sym, ◌∙◌, ap, subst, arith, map}
use Rattle.ip_image.specs.declared.run.Row.{Row}
use Rattle.ip_image.specs.Virtual.{run_of, RowsFit}
use Rattle.ip_space.specs.SpaceView.{SpaceView}
use Rattle.ip_space.specs.declared.space.Space.TheInside.{Inside}
use Rattle.ip_space.proofs.StretchRows.{row_order, row_ends, no_stretch, last_is, last_order}
use Rattle.ip_space.proofs.space.Space.stretch_at.Goals as goal

fits_by : (h k : ℕ) (rows others : List Row) → h ≡ k → others ≡ rows → RowsFit h rows → RowsFit k others
fits_by h k rows others one two fits = subst (λ (n : ℕ). RowsFit n others) one (subst (RowsFit h) (sym two) fits)

abbrev over : Inside → List Row → SpaceView
over inside rows = record { layout = inside.source.layout; runs = map run_of rows; kept = inside.cache }

pub returns-then-number-rows-clause-in_order : goal.returns-then-number-rows-clause-in_order
returns-then-number-rows-clause-in_order c =
    row_order c.self.inside.source.layout c.self.invariant.layout.order c.rows-rows.result.now (fits_by _ _ _ _ c.self.invariant.horizon c.rows-rows.ensures.rows c.rows-rows.ensures.in_order) c.self.inside.cache c.args.self.now
    (ap (over c.self.inside) c.rows-rows.ensures.rows ∙ c.self.view_is) c.args.number _ c.if-number-rows.true

pub returns-then-number-rows-clause-inside : goal.returns-then-number-rows-clause-inside
returns-then-number-rows-clause-inside c =
    row_ends c.self.inside.source.layout c.self.invariant.layout.order c.rows-rows.result.now (fits_by _ _ _ _ c.self.invariant.horizon c.rows-rows.ensures.rows c.rows-rows.ensures.in_order) c.self.inside.cache c.args.self.now
    (ap (over c.self.inside) c.rows-rows.ensures.rows ∙ c.self.view_is) c.args.number _ c.if-number-rows.true

pub returns-then-number-rows-2-clause-is : goal.returns-then-number-rows-2-clause-is
returns-then-number-rows-2-clause-is c =
    no_stretch c.self.inside.source.layout c.self.invariant.layout.order c.rows-rows.result.now (fits_by _ _ _ _ c.self.invariant.horizon c.rows-rows.ensures.rows c.rows-rows.ensures.in_order) c.self.inside.cache c.args.self.now
    (ap (over c.self.inside) c.rows-rows.ensures.rows ∙ c.self.view_is) c.args.number c.if-number-rows-2.true

pub returns-clause-is : goal.returns-clause-is
returns-clause-is c =
    last_is c.self.inside.source.layout c.self.invariant.layout.order c.rows-rows.result.now (fits_by _ _ _ _ c.self.invariant.horizon c.rows-rows.ensures.rows c.rows-rows.ensures.in_order) c.self.inside.cache c.args.self.now
    (ap (over c.self.inside) c.rows-rows.ensures.rows ∙ c.self.view_is) c.args.number (omega arith)

pub returns-clause-in_order : goal.returns-clause-in_order
returns-clause-in_order c =
    last_order c.self.inside.source.layout c.self.invariant.layout.order c.rows-rows.result.now (fits_by _ _ _ _ c.self.invariant.horizon c.rows-rows.ensures.rows c.rows-rows.ensures.in_order) c.self.inside.cache c.args.self.now
    (ap (over c.self.inside) c.rows-rows.ensures.rows ∙ c.self.view_is) c.args.number (omega arith)
