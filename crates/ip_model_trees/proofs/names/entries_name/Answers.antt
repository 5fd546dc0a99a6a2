use Rattle.std.proofs.Common.{◌≡◌, ap, sym, subst, ◌∙◌, List, map}
use Rattle.std.specs.Prelude.{IfOk, All}
use Rattle.ip_spec.specs.Shape.{entries_name}
use Rattle.ip_model_trees.specs.declared.places.Placed.{Placed}
use Rattle.ip_model_trees.specs.Names.{paired}
use Rattle.ip_model_trees.specs.Places.{entry_of, pair_of, IsPlaced}
use Rattle.ip_model_trees.proofs.Lists.{again}
use Rattle.ip_model_trees.proofs.Parting.{all_placed}
use Rattle.ip_model_trees.proofs.names.entries_name.Goals as goal

pub returns : goal.returns
returns c few short =
    let es = c.args.entries.now in
    let ps : List Placed = c.as_slice.result.now in
    let same = c.as_slice.ensures.value in
    let are : map entry_of ps ≡ es = ap (map entry_of) same ∙ c.in_ok-placed.ensures.entries in
    let placed = all_placed es ps are (subst (All IsPlaced) (sym same) c.in_ok-placed.ensures.digests) few short in
    let pairs : map pair_of ps ≡ map paired es = sym (again paired entry_of ps) ∙ ap (map paired) are in
    subst (λ xs. IfOk c.part_name.result (λ name. name ≡ entries_name xs)) pairs (c.part_name.ensures placed)
