use Rattle.std.proofs.Common.{◌≡◌, ◌+◌, [], List, Bool, ℕ, Some, ap, length, subst, sym, ◌∙◌}
use Rattle.std.specs.FinMap.Entries.{find}
use Rattle.std.specs.Prelude.{filter, is_some, option_map}
use Rattle.ip_shape.specs.Directory.{root_of}
use Rattle.ip_shape.specs.Loaded.{unread_in, way}
use Rattle.ip_shape.specs.Shape.{IsPart}
use Rattle.ip_shape.specs.declared.part.Part.{Part}
use Rattle.ip_spec.specs.Path.{Step, bytes_cmp}
use Rattle.ip_spec.specs.Shape.{deepest, part_from}
use Rattle.ip_spec.specs.Tree.{Tree, entries_of}
use Rattle.ip_spec.specs.declared.tree.Listed.TheVariants.{Entries}
use Rattle.ip_tree.specs.Listing.{kind_of, kind_or}
use Rattle.ip_tree.specs.Meaning.{SpellsPart, steps_of}
use Rattle.ip_tree.specs.declared.node.Stored.{Stored}
use Rattle.ip_tree.proofs.KindsPut.{listing_is}
use Rattle.ip_tree.proofs.UnreadKinds.{all_listed, spelled_from}
use Rattle.ip_tree.proofs.Walk.{err_is}
use Rattle.ip_tree.proofs.list.list_directory.Goals as goal

pub returns-in_err-gather_unread-clause-listed : goal.returns-in_err-gather_unread-clause-listed
returns-in_err-gather_unread-clause-listed g c tells records t over means =
    let es = (entries_of t).entries in
    let shape = subst (λ (q : Part Stored). IsPart deepest 0 (steps_of es) q) (sym c.root.ensures) means.steps.shape in
    let spells = subst (λ (r : Part Stored). (q : List ℕ) (x : Stored) → unread_in q r ≡ Some (x, []) → SpellsPart records (0 + length q) x (part_from 0 es q)) (sym c.root.ensures)
    (λ q x e. spelled_from records es q x (means.parts.unread q x e).spells) in
    err_is c.from_residual-in_err-gather_unread.result c.in_err-gather_unread.field-0.0 c.from_residual-in_err-gather_unread.ensures.1 _ _ (c.in_err-gather_unread.ensures.gathered tells records es over shape spells)

pub returns-clause-listed : goal.returns-clause-listed
returns-clause-listed g c tells records t over means =
    let es = (entries_of t).entries in
    let d = c.args.dir.now in
    let shape = subst (λ (q : Part Stored). IsPart deepest 0 (steps_of es) q) (sym c.root.ensures) means.steps.shape in
    let spells = subst (λ (r : Part Stored). (q : List ℕ) (x : Stored) → unread_in q r ≡ Some (x, []) → SpellsPart records (0 + length q) x (part_from 0 es q)) (sym c.root.ensures)
    (λ q x e. spelled_from records es q x (means.parts.unread q x e).spells) in
    let adds = c.in_ok-gather_unread.ensures.gathered tells records es over shape spells in
    ap Entries c.in_ok-items_of.ensures.made
    ∙ listing_is t c.gather_unread.new.found.entries means.directory c.in_ok-items_of.ensures.ordered
    (λ s. adds s
    ∙ ap (λ (r : Part Stored). kind_or (option_map kind_of (find bytes_cmp s (filter (λ (e : Step × Tree). is_some (unread_in (way 51 0 e.0) r)) es))) (find bytes_cmp s c.in_ok-found.found.entries)) c.root.ensures
    ∙ ap (λ (l : List (Step × Bool)). kind_or (option_map kind_of (find bytes_cmp s (filter (λ (e : Step × Tree). is_some (unread_in (way 51 0 e.0) (root_of d))) es))) (find bytes_cmp s l)) c.in_ok-found.ensures
    ∙ all_listed records d t means s)
