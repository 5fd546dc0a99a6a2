use Rattle.std.proofs.Common.{Option, None, refl, subst}
use Rattle.std.specs.Prelude.{option_map}
use Rattle.ip_tree.specs.Finding.{FindsIn, as_node}
use Rattle.ip_tree.specs.declared.look.Place.{Place}
use Rattle.ip_three.proofs.ContentsFound.{no_content}
use Rattle.ip_three.proofs.contents.content_of.Goals as goal

pub returns-in-None : goal.returns-in-None
returns-in-None c records w p is = no_content records w p None (subst (λ (o : Option Place). FindsIn records w p (option_map as_node o)) c.in-None.is is) refl
