use Rattle.std.proofs.Common.{List, Bool, ap, refl, ◌∙◌}
use Rattle.std.specs.FinMap.Entries.{find}
use Rattle.std.specs.Prelude.{option_map}
use Rattle.ip_spec.specs.Path.{Step, bytes_cmp}
use Rattle.ip_spec.specs.Tree.{entries_of}
use Rattle.ip_spec.specs.declared.tree.Listed.TheVariants.{Entries}
use Rattle.ip_tree.specs.Listing.{kind_of, kind_or}
use Rattle.ip_tree.proofs.Found.{directory_ref}
use Rattle.ip_tree.proofs.KindsPut.{bytes_listed, listing_is, or_none}
use Rattle.ip_tree.proofs.Walk.{err_is}
use Rattle.ip_tree.proofs.list.list_stored.Goals as goal

pub returns-then-reference-eq-CONTENTS-clause-listed : goal.returns-then-reference-eq-CONTENTS-clause-listed
returns-then-reference-eq-CONTENTS-clause-listed g c tells records t over reached = bytes_listed records c.args.reference.now t c.if-reference-eq-CONTENTS.true reached

pub returns-in_err-gather-clause-listed : goal.returns-in_err-gather-clause-listed
returns-in_err-gather-clause-listed g c tells records t over reached =
    let dir = directory_ref records c.args.reference.now t c.if-reference-eq-CONTENTS.false reached in
    err_is c.from_residual.result c.in_err-gather.field-0.0 c.from_residual.ensures.1 _ _ (c.in_err-gather.ensures.gathered tells records 0 (entries_of t).entries over refl dir.asked)

pub returns-clause-listed : goal.returns-clause-listed
returns-clause-listed g c tells records t over reached =
    let dir = directory_ref records c.args.reference.now t c.if-reference-eq-CONTENTS.false reached in
    let adds = c.in_ok-gather.ensures.gathered tells records 0 (entries_of t).entries over refl dir.asked in
    ap Entries c.in_ok-items_of.ensures.made
    ∙ listing_is t c.gather.new.found.entries dir.no_contents c.in_ok-items_of.ensures.ordered
    (λ s. adds s ∙ ap (λ (l : List (Step × Bool)). kind_or (option_map kind_of (find bytes_cmp s (entries_of t).entries)) (find bytes_cmp s l)) c.new-found.ensures.empty ∙ or_none (option_map kind_of (find bytes_cmp s (entries_of t).entries)))
