use Rattle.std.proofs.Common.{Some, refl, subst}
use Rattle.std.proofs.lemmas.Bool.{ne_eqb}
use Rattle.ip_tree.specs.Finding.{FindsIn, as_node}
use Rattle.ip_tree.specs.Node.{stored}
use Rattle.ip_tree.specs.Shown.{shown_directory}
use Rattle.ip_tree.specs.declared.look.Place.{Place}
use Rattle.ip_three.proofs.ContentsFound.{fresh_content, no_content, stored_content}
use Rattle.ip_three.proofs.contents.content_at.Goals as goal

pub returns-then-stored-eq-CONTENTS : goal.returns-then-stored-eq-CONTENTS
returns-then-stored-eq-CONTENTS c records w p is =
    stored_content records w p c.in-Stored.stored (subst (λ (q : Place). FindsIn records w p (Some (as_node q))) c.in-Stored.is is) c.if-stored-eq-CONTENTS.true

pub returns-else-stored-eq-CONTENTS : goal.returns-else-stored-eq-CONTENTS
returns-else-stored-eq-CONTENTS c records w p is =
    let x = c.in-Stored.stored in
    no_content records w p (Some (stored x)) (subst (λ (q : Place). FindsIn records w p (Some (as_node q))) c.in-Stored.is is) (ne_eqb x.reference.kind 1 c.if-stored-eq-CONTENTS.false)

pub returns-in-Contents : goal.returns-in-Contents
returns-in-Contents c records w p is = fresh_content records w p c.in-Contents.bytes.now (subst (λ (q : Place). FindsIn records w p (Some (as_node q))) c.in-Contents.is is)

pub returns-in-Directory : goal.returns-in-Directory
returns-in-Directory c records w p is =
    no_content records w p (Some (shown_directory c.in-Directory.field-0.now)) (subst (λ (q : Place). FindsIn records w p (Some (as_node q))) c.in-Directory.is is) refl
