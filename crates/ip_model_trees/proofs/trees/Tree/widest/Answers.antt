use Rattle.std.proofs.Common.{ℕ, ap, sym, ◌∙◌}
use Rattle.std.proofs.lemmas.List.{at_drop_all}
use Rattle.std.specs.Prelude.{fold}
use Rattle.ip_spec.specs.Path.{Path, Bytes}
use Rattle.ip_spec.specs.Tree.{ways}
use Rattle.ip_model_trees.proofs.PartLaws.{wider, fold_more, widest_parts}
use Rattle.ip_model_trees.proofs.trees.Tree.widest.Goals as goal

pub loop-part-preserved : goal.loop-part-preserved
loop-part-preserved c t is =
    let old = c.loop-part.widest in
    fold_more (λ (n : ℕ) (e : Path × Bytes). fold (wider t) n (ways e.0)) c.deref-part-items.result.now c.loop-part.part-index c.part-item.result old _ c.loop-part-test.true c.part-item.is
    (c.in_ok-widest.ensures t is ∙ ap (λ (p : Path). fold (wider t) old (ways p)) c.as_slice.ensures)
    ∙ c.loop-part.invariant t is

pub returns : goal.returns
returns c t is =
    let all = λ (n : ℕ) (e : Path × Bytes). fold (wider t) n (ways e.0) in
    sym (at_drop_all (λ xs. fold all c.loop-part.widest xs) c.deref-part-items.result.now c.loop-part.part-index c.loop-part-test.false)
    ∙ (c.loop-part.invariant t is ∙ (ap (λ xs. fold all 0 xs) (c.deref-part-items.ensures.value ∙ (c.self.view_is ∙ is)) ∙ widest_parts t))
