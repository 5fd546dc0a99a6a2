use Rattle.std.proofs.Common.{◌∷◌, ◌++◌, [], List, append_assoc, ap, arith, refl, sym, ◌∙◌}
use Rattle.std.proofs.lemmas.List.{append-nil}
use Rattle.std.specs.FinMap.Entries.{find}
use Rattle.std.specs.Prelude.{◌==◌}
use Rattle.ip_shape.proofs.Entries.{put_is}
use Rattle.ip_spec.specs.Path.{bytes_cmp}
use Rattle.ip_spec.specs.declared.record.LeafEntry.{LeafEntry}
use Rattle.ip_tree.specs.Listing.{entry_kind, kind_or}
use Rattle.ip_tree.proofs.KindsPut.{kinds_put, none_of}
use Rattle.ip_tree.proofs.below.put_kinds.Goals as goal

pub loop-entry-init : goal.loop-entry-init
loop-entry-init c = ([], append-nil c.into_vec-left.result.items ∙ c.into_vec-left.ensures, λ s. refl)

pub loop-entry-preserved : goal.loop-entry-preserved
loop-entry-preserved c =
    let inv = c.loop-entry.invariant in
    let e = c.in-Some.entry in
    let left = c.pop.new.self.items in (
      e ∷ inv.0,
      sym (append_assoc left (e ∷ []) inv.0) ∙ ap (λ (l : List LeafEntry). l ++ inv.0) (sym c.in-Some.ensures.items) ∙ inv.1,
      λ s. ap (find bytes_cmp s) (c.in_ok-insert.ensures.entries ∙ put_is e.step (e.kind == 2) c.loop-entry.found.entries) ∙ kinds_put s e inv.0 c.args.found.now.entries c.loop-entry.found.entries (inv.2 s),
    )

pub returns : goal.returns
returns c =
    let inv = c.loop-entry.invariant in
    let left = c.loop-entry.left.items in
    let none = none_of left (omega (arith, c.in_default.ensures.cases.0, c.loop-entry.left.ok.0)) in
    λ s. inv.2 s ∙ ap (λ l. kind_or (entry_kind s l) (find bytes_cmp s c.args.found.now.entries)) (ap (λ (l : List LeafEntry). l ++ inv.0) (sym none) ∙ inv.1)
