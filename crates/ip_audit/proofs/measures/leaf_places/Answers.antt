use Rattle.std.proofs.Common.{◌∙◌, ap, arith, length, length-drop, drop, map}
use Rattle.std.proofs.lemmas.List.{take_all}
use Rattle.ip_spec.specs.declared.record.LeafEntry.{LeafEntry}
use Rattle.ip_audit.specs.Memory.{common_with}
use Rattle.ip_audit.specs.View.{places_in}
use Rattle.ip_audit.proofs.Agreeing.{common_whole, some_long}
use Rattle.ip_audit.proofs.measures.leaf_places.Goals as goal

pub returns-clause-common : goal.returns-clause-common
returns-clause-common c =
    let n = length-drop 1 c.args.entries.now in
    c.all_agreed-agreed.ensures.common
    ∙ ap (λ es. common_with (places_in c.of-first.result) (map (λ (e : LeafEntry). e.step) es)) (take_all _ (drop 1 c.args.entries.now) (omega (arith, n)))
    ∙ ap (λ d. common_with (places_in d) (map (λ (e : LeafEntry). e.step) (drop 1 c.args.entries.now))) c.of-first.ensures
    ∙ common_whole c.args.entries.now c.index-entries-0.result (some_long (length c.args.entries.now) c.if-is_empty.ensures)
