use Rattle.std.proofs.Common.{◌∙◌, ap, sym, ℕ}
use Rattle.std.specs.Prelude.{slice_get}
use Rattle.ip_tables.proofs.Keyed.{Pairs, told}
use Rattle.ip_tables.proofs.Numbered.{entries_of_branches}
use Rattle.ip_tables.proofs.branches.Branches.at.Goals as goal

pub loop-name-init : goal.loop-name-init
loop-name-init c = (
  tt,
  tt,
  ap (λ (es : Pairs ℕ). slice_get (told es) c.args.place) c.into_iter-name-iterator.ensures.into_iter_gives.0
      ∙ ap (λ es. slice_get es c.args.place) (sym (entries_of_branches c.self.inside.entries c.self.invariant) ∙ ap (λ m. m.entries) c.self.view_is),
)
