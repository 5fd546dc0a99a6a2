use Rattle.std.proofs.Common.{◌≡◌, ℕ, Bool, List, [], ◌∷◌, ◌<◌, ap, sym, subst, ◌∙◌, length, length-append, arith}
use Rattle.std.specs.Prelude.{◌==◌, ◌||◌, slice_index_or}
use Rattle.ip_history.specs.History.{History}
use Rattle.ip_history.proofs.Parents.{no_default}
use Rattle.ip_model.specs.Ancestry.{reached_from, AreRows}
use Rattle.ip_model.proofs.Reaching.{rows_next}
use Rattle.ip_model.proofs.history.History.of.Goals as goal

pub loop-list-preserved : goal.loop-list-preserved
loop-list-preserved c =
    let h : History = record { floor = c.args.floor; parents = c.args.parents.items } in
    let (count, are) = c.loop-list.invariant in
    let rows = c.loop-list.rows.items in
    let e = length-append rows (c.in_ok-row.row ∷ []) in
    let pushed = c.in_ok-push.ensures.items in
    let longer = ap length pushed in
    let lists = c.deref-list-items.ensures.value in
    let many = ap length lists in
    let less : length rows < length c.args.parents.items = omega (arith, count, many, c.loop-list-test.true) in
    let ps = c.as_slice.result.now in
    let item = c.list-item.result in
    let is : ps ≡ slice_index_or h.parents (length rows) [] = c.as_slice.ensures ∙ (c.list-item.is ∙ (ap (λ (xs : List (List ℕ)). slice_index_or xs c.loop-list.list-index item) lists ∙ (ap (λ k. slice_index_or h.parents k item) (sym count) ∙ no_default h.parents (length rows) item [] less))) in
    let size : c.len.result ≡ length h.parents = c.len.ensures ∙ (sym c.deref-list-items.ensures.len ∙ many) in
    let next = λ (j : ℕ). λ (low : j < length h.parents). c.in_ok-row.ensures j (subst (λ m. j < m) (sym size) low) ∙ (ap (λ (rs : List (List Bool)). j == length rs || reached_from rs c.floor.inside.0 ps j) c.deref.ensures.value ∙ ap (λ f. j == length rows || reached_from rows f ps j) c.floor.view_is) in
    (omega (arith, count, e, longer), subst (AreRows h) (sym pushed) (rows_next h rows c.in_ok-row.row ps are less is next))
