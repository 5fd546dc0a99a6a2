use Rattle.std.proofs.Common.{◌∷◌, ◌++◌, [], List, append_assoc, ap, arith, refl, sym, ◌∙◌, Some, None, cond}
use Rattle.std.proofs.lemmas.List.{append-nil}
use Rattle.std.specs.FinMap.Entries.{find}
use Rattle.std.specs.Prelude.{option_map}
use Rattle.ip_spec.specs.Path.{bytes_cmp, same_bytes}
use Rattle.ip_spec.specs.StoredParts.{entry_named}
use Rattle.ip_spec.specs.declared.record.LeafEntry.{LeafEntry}
use Rattle.ip_tree.specs.declared.node.Stored.{Stored}
use Rattle.ip_tree.proofs.KindsPut.{none_of}
use Rattle.ip_differ.specs.Pieces.{stored_entry}
use Rattle.ip_differ.specs.Sides.{with_side}
use Rattle.ip_differ.specs.declared.pairs.Entry.TheVariants as entry
use Rattle.ip_differ.proofs.Leaves.{entries_put}
use Rattle.ip_differ.proofs.put.put_entries.Goals as goal

pub loop-entry-init : goal.loop-entry-init
loop-entry-init c = ([], append-nil c.into_vec-left.result.items ∙ c.into_vec-left.ensures, λ s. refl)

pub loop-entry-preserved : goal.loop-entry-preserved
loop-entry-preserved c =
    let inv = c.loop-entry.invariant in
    let e = c.in-Some.entry in
    let left = c.pop.new.self.items in
    let found = c.loop-entry.found.entries in (
      e ∷ inv.0,
      sym (append_assoc left (e ∷ []) inv.0) ∙ ap (λ (l : List LeafEntry). l ++ inv.0) (sym c.in-Some.ensures.items) ∙ inv.1,
      λ s. c.in_ok-put_entry.ensures s ∙ ap (λ (y : Stored). with_side c.args.side (cond (same_bytes s e.step) (Some (entry.Stored y)) None) (find bytes_cmp s found)) c.stored.ensures
          ∙ ap (with_side c.args.side (cond (same_bytes s e.step) (Some (stored_entry e)) None)) (inv.2 s) ∙ entries_put c.args.side e inv.0 s (find bytes_cmp s c.args.found.now.entries),
    )

pub returns : goal.returns
returns c =
    let inv = c.loop-entry.invariant in
    let left = c.loop-entry.left.items in
    let none = none_of left (omega (arith, c.in_default.ensures.cases.0, c.loop-entry.left.ok.0)) in
    λ s. inv.2 s
    ∙ ap (λ l. with_side c.args.side (option_map stored_entry (entry_named s l)) (find bytes_cmp s c.args.found.now.entries)) (ap (λ (l : List LeafEntry). l ++ inv.0) (sym none) ∙ inv.1)
