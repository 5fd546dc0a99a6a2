use Rattle.std.proofs.Common.{◌≡◌, Some, ap, sym, rules, ◌∙◌}
use Rattle.std.specs.Prelude.{option_map}
use Rattle.std.proofs.lemmas.Fn.{always_returns_same}
use Rattle.ip_spec.specs.Path.{bytes_cmp}
use Rattle.ip_spec.specs.declared.record.LeafEntry.{LeafEntry}
use Rattle.ip_tree.specs.Reads.{stored_of_entry}
use Rattle.ip_tree.proofs.LeafSearch.{found_at, found_nowhere}
use Rattle.ip_tree.proofs.below.entry_in.Goals as goal

pub returns-in-Ok : goal.returns-in-Ok
returns-in-Ok c =
    let s = c.args.step.now in
    let named = found_at c.args.entries.now s c.requires c.in-Ok.place c.in-Ok.ensures.bound
    (c.in-Ok.ensures.position (λ e. bytes_cmp e.step s) (always_returns_same _ (λ a r. r ≡ bytes_cmp a.0.now.step s) _ (λ a r q k. search rules))) c.index-entries-place.result in
    ap Some c.stored.ensures ∙ ap (λ (e : LeafEntry). Some (stored_of_entry e)) c.index-entries-place.is ∙ sym (ap (option_map stored_of_entry) named)

pub returns-in-Err : goal.returns-in-Err
returns-in-Err c =
    let s = c.args.step.now in
    sym (ap (option_map stored_of_entry) (found_nowhere c.args.entries.now s c.requires c.in-Err.field-0
    (c.in-Err.ensures.position (λ e. bytes_cmp e.step s) (always_returns_same _ (λ a r. r ≡ bytes_cmp a.0.now.step s) _ (λ a r q k. search rules)))))
