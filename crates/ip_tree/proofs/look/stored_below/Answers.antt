use Rattle.std.proofs.Common.{[], ◌∷◌, refl}
use Rattle.std.specs.Prelude.{option_map}
use Rattle.ip_spec.specs.Shape.{deepest}
use Rattle.ip_spec.specs.Tree.{entries_of}
use Rattle.ip_tree.specs.Finding.{Finds}
use Rattle.ip_tree.specs.Node.{stored}
use Rattle.ip_tree.specs.Reads.{FindsEntry, IsFree}
use Rattle.ip_tree.proofs.Found.{directory_ref, found_stored, found_through, nothing_in}
use Rattle.ip_tree.proofs.Walk.{match_both}
use Rattle.ip_tree.proofs.look.stored_below.Goals as goal

pub returns-then-reference-eq-CONTENTS-clause-entry : goal.returns-then-reference-eq-CONTENTS-clause-entry
returns-then-reference-eq-CONTENTS-clause-entry g c tells records t over reached = nothing_in records c.args.reference.now t c.args.step.now c.if-reference-eq-CONTENTS.true reached

pub returns-clause-entry : goal.returns-clause-entry
returns-clause-entry g c tells records t over reached =
    let r = c.args.reference.now in
    let s = c.args.step.now in
    let dir = directory_ref records r t c.if-reference-eq-CONTENTS.false reached in
    match_both c.entry_below.result (FindsEntry records (entries_of t).entries s) _ (λ found. Finds records (stored (record { reference = r; height = 0 })) t (s ∷ []) (option_map (λ x. stored x) found)) IsFree
    (λ found finds is. found_stored records r t s found (found_through records _ _ deepest 0 r.at (entries_of t).entries s found over dir.asked.part is) finds)
    (c.entry_below.ensures.entry tells records 0 (entries_of t).entries over refl dir.asked) (c.entry_below.ensures.any tells over.readable)
