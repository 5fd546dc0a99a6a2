use Rattle.std.proofs.Common.{Option, sym, subst, ◌∙◌}
use Rattle.std.specs.Prelude.{option_map}
use Rattle.ip_tree.specs.Finding.{as_node}
use Rattle.ip_tree.specs.declared.look.Place.{Place}
use Rattle.ip_three.specs.Walking.{FoundDirectory, SaysDirectory}
use Rattle.ip_three.proofs.SidesFound.{found_none, found_some, says_none, says_some}
use Rattle.ip_three.proofs.side.directory_of.Goals as goal

pub returns-then-is_directory-clause-found : goal.returns-then-is_directory-clause-found
returns-then-is_directory-clause-found c records w p below is =
    subst (λ (o : Option Place). FoundDirectory records w p (option_map as_node o)) (sym c.same_place.ensures)
    (found_some records w p (option_map as_node c.args.place.now) below is (sym c.is_directory.ensures ∙ c.if-is_directory.true))

pub returns-then-is_directory-clause-says : goal.returns-then-is_directory-clause-says
returns-then-is_directory-clause-says c records w p is =
    subst (λ (o : Option Place). SaysDirectory records w p (option_map as_node o)) (sym c.same_place.ensures)
    (says_some records w p (option_map as_node c.args.place.now) is (sym c.is_directory.ensures ∙ c.if-is_directory.true))

pub returns-clause-found : goal.returns-clause-found
returns-clause-found c records w p below is = found_none records w p (option_map as_node c.args.place.now) below is (sym c.is_directory.ensures ∙ c.if-is_directory.false)

pub returns-clause-says : goal.returns-clause-says
returns-clause-says c records w p is = says_none records w p (option_map as_node c.args.place.now) is (sym c.is_directory.ensures ∙ c.if-is_directory.false)
