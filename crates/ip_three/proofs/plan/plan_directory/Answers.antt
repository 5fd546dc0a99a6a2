use Rattle.std.proofs.Common.{◌≡◌, refl, sym, subst, ◌∙◌, Option, Some, None, option_map}
use Rattle.std.proofs.lemmas.Bool.{false≢true}
use Rattle.std.specs.Prelude.{OnOk}
use Rattle.ip_tree.specs.Finding.{as_node}
use Rattle.ip_tree.specs.Node.{Node}
use Rattle.ip_three.specs.Walking.{BySide, FoundDirectory, TakesDirectory}
use Rattle.ip_three.specs.declared.side.Side.{Side}
use Rattle.ip_three.proofs.PlanEdits.{on_ok}
use Rattle.ip_three.proofs.plan.plan_directory.Goals as goal

pub returns-in-Right : goal.returns-in-Right
returns-in-Right c records r some is =
    subst (λ (side : Side). OnOk c.taken.result (BySide records r c.args.path.now side c.args.plan.now c.taken.new.plan)) (sym c.in-Right.is)
    (by (option_map as_node c.directory_of.result) refl (c.directory_of.ensures.found records r c.args.path.now some is))
  where
    by : (o : Option Node) → option_map as_node c.directory_of.result ≡ o → FoundDirectory records r c.args.path.now o → OnOk c.taken.result (TakesDirectory records r c.args.path.now c.args.plan.now c.taken.new.plan)
    by None here found = on_ok c.taken.result _ _ (λ e. record { some = λ has. absurd (false≢true (sym found.0 ∙ has)); none = λ none. e }) (c.taken.ensures.none here)
    by (Some n) here found = on_ok c.taken.result _ _ (λ t. record { some = λ has. t; none = λ none. absurd (false≢true (sym none ∙ found.0)) }) (c.taken.ensures.some records r n here found.1)
