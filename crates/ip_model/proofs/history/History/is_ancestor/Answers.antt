use Rattle.std.proofs.Common.{◌≡◌, ◌-◌, refl, ap, sym, subst, ◌∙◌, length}
use Rattle.ip_history.specs.History.{History, Holds}
use Rattle.ip_history.proofs.Lists.{no_true, same_number}
use Rattle.ip_model.specs.Ancestry.{reached, AreRows}
use Rattle.ip_model.proofs.Reaching.{same_commit, by_rows, not_both}
use Rattle.ip_model.proofs.history.History.is_ancestor.Goals as goal
use Rattle.ip_model.proofs.history.History.is_ancestor.Goals.{then-is_retained, else-is_retained}

pub returns-then-eq : goal.returns-then-eq
returns-then-eq c r first shows = c.if-eq.true ∙ sym (same_commit c.args.self.now r first shows c.args.a c.args.number (same_number c.args.a c.args.number (sym c.eq.ensures ∙ c.if-eq.true)))

pub returns-then-is_retained-2 : goal.returns-then-is_retained-2
returns-then-is_retained-2 c r first shows =
    let h = c.args.self.now in
    let rows = c.self.inside.rows.items in
    let are : AreRows h rows = subst (λ g. AreRows g rows) c.self.view_is c.self.invariant.2 in
    let count : length rows ≡ length h.parents = subst (λ (g : History). length rows ≡ length g.parents) c.self.view_is c.self.invariant.1 in
    let floor : c.self.inside.floor ≡ h.floor = ap (λ (g : History). g.floor) c.self.view_is in
    let has : c.has.result ≡ reached rows (c.args.number - h.floor) (c.args.a - h.floor) = rw (c.has.ensures, c.deref.ensures.value, c.get.ensures, c.get-then-is_retained-2.ensures, floor) refl in
    elim c.if-is_retained.branch [
      | then-is_retained w ↦
          let held : Holds h c.args.a = c.is_retained.ensures.0 w.if-is_retained.true in
          let child : Holds h c.args.number = w.is_retained-then-is_retained.ensures.0 (sym w.value-is ∙ c.if-is_retained-2.true) in
          has ∙ by_rows h r first shows rows are count c.args.a c.args.number held child
      | else-is_retained w ↦ no_true c.if-is_retained.value (w.value-is ∙ w.if-is_retained.false) c.if-is_retained-2.true
    ]

pub returns-else-is_retained-2 : goal.returns-else-is_retained-2
returns-else-is_retained-2 c r first shows = c.if-is_retained-2.false ∙ not_both c.args.self.now r first shows c.args.a c.args.number (sym c.eq.ensures ∙ c.if-eq.false) (λ held child. elim c.if-is_retained.branch [
  | then-is_retained w ↦ no_true c.if-is_retained.value c.if-is_retained-2.false (w.value-is ∙ w.is_retained-then-is_retained.ensures.1 child)
  | else-is_retained w ↦ no_true c.is_retained.result w.if-is_retained.false (c.is_retained.ensures.1 held)
])
