use Rattle.std.proofs.Common.{ℕ, ap, sym, ◌∙◌, length}
use Rattle.std.proofs.lemmas.List.{at_drop_all}
use Rattle.std.specs.Prelude.{fold, max}
use Rattle.ip_spec.specs.Path.{Path, Bytes}
use Rattle.ip_model_trees.proofs.PartLaws.{height_parts}
use Rattle.ip_model_trees.proofs.trees.Tree.height.Goals as goal

pub returns : goal.returns
returns c t is =
    let higher = λ (n : ℕ) (e : Path × Bytes). max n (length e.0) in
    sym (at_drop_all (λ xs. fold higher c.loop-part.height xs) c.deref-part-items.result.now c.loop-part.part-index c.loop-part-test.false)
    ∙ (c.loop-part.invariant ∙ (ap (λ xs. fold higher 0 xs) (c.deref-part-items.ensures.value ∙ (c.self.view_is ∙ is)) ∙ sym (height_parts t)))
