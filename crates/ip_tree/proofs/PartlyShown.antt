-- A directory of the code, and as contracts see it.
--     partly      it is partly what it means;      has_steps      and back
--     shown_put, shown_find, shown_without, shown_from      its entries after an edit
use Rattle.std.proofs.Common.{◌≡◌, true, false, not, List, [], ◌∷◌, map, refl, sym, ap, subst, ◌∙◌, Option, cond, ℕ}
use Rattle.std.specs.Prelude.{option_map, Option, Some}
use Rattle.std.specs.FinMap.Entries.{by_order, find, put}
use Rattle.std.specs.declared.cmp.Ordering.{Ordering}
use Rattle.std.specs.declared.cmp.Ordering.TheVariants.{Less, Equal, Greater}
use Rattle.ip_spec.specs.Path.{Step, bytes_cmp, same_bytes}
use Rattle.ip_spec.specs.declared.record.Record.{Record}
use Rattle.ip_spec.specs.Tree.{Tree, entries_of}
use Rattle.ip_spec.specs.Shape.{Entries}
use Rattle.ip_shape.specs.Directory.{IsPartly, entries_from, root_of, steps_of, without}
use Rattle.ip_shape.specs.declared.dir.Dir.{Dir}
use Rattle.ip_tree.specs.Node as told
use Rattle.ip_tree.specs.Node.{nodes_of, steps_in}
use Rattle.ip_tree.specs.Meaning.{HasSteps}
use Rattle.ip_tree.specs.Edits.{IsDirectory}
use Rattle.ip_tree.specs.Shown.{entries_shown, shown, shown_directory}
use Rattle.ip_tree.specs.declared.node.Node.{Node}
use Rattle.ip_tree.specs.declared.node.Stored.{Stored}

pub steps_nodes : (ys : List told.Entry) → steps_in (nodes_of ys) ≡ steps_of ys
steps_nodes [] = refl
steps_nodes (y ∷ ys) = ap (λ ss. y.0 ∷ ss) (steps_nodes ys)

abbrev pub show : Step × Node → told.Entry
show e = (e.0, shown e.1)

pub steps_show : (es : List (Step × Node)) → steps_of (map show es) ≡ steps_of es
steps_show [] = refl
steps_show (e ∷ es) = ap (λ ss. e.0 ∷ ss) (steps_show es)

pub steps_shown : (d : Dir Node Stored) → steps_in (nodes_of (entries_shown d)) ≡ steps_of d.entries.entries
steps_shown d = steps_nodes (entries_shown d) ∙ steps_show d.entries.entries

pub partly : (records : ℕ → Option Record) (d : Dir Node Stored) (t : Tree) → IsDirectory records (shown_directory d) t → IsPartly d (steps_of (entries_of t).entries) d.entries.entries
partly records d t is = (refl, is.steps.ascend, is.steps.shape, sym (steps_shown d) ∙ is.steps.held)

pub has_steps : (d : Dir Node Stored) (steps : List Step) (entries : List (Step × Node)) (es : Entries) → IsPartly d steps entries → steps ≡ steps_of es → HasSteps (root_of d) (steps_in (nodes_of (entries_shown d))) es
has_steps d steps entries es is same =
    let now : IsPartly d (steps_of es) entries = subst (λ (ss : List Step). IsPartly d ss entries) same is in
    record { ascend = now.1; shape = now.2; held = steps_shown d ∙ ap (λ (l : List (Step × Node)). steps_of l) now.0 ∙ now.3 }

-- ---- edits of the entries

module _ {A B : Type 0} (f : A → B) where
  abbrev at : Step × A → Step × B
  at e = (e.0, f e.1)

  pub map_put : (s : Step) (x : A) (es : List (Step × A)) → map at (put bytes_cmp s x es) ≡ put bytes_cmp s (f x) (map at es)
  map_put s x [] = refl
  map_put s x (e ∷ es) = by (bytes_cmp s e.0) (put bytes_cmp s x es) (map_put s x es)
    where
      by : (o : Ordering) (rest : List (Step × A)) → map at rest ≡ put bytes_cmp s (f x) (map at es)
          → map at (by_order o ((s, x) ∷ e ∷ es) ((e.0, x) ∷ es) (e ∷ rest)) ≡ by_order o ((s, f x) ∷ at e ∷ map at es) ((e.0, f x) ∷ map at es) (at e ∷ put bytes_cmp s (f x) (map at es))
      by Less rest same = refl
      by Equal rest same = refl
      by Greater rest same = ap (λ l. at e ∷ l) same

  pub map_find : (s : Step) (es : List (Step × A)) → find bytes_cmp s (map at es) ≡ option_map f (find bytes_cmp s es)
  map_find s [] = refl
  map_find s (e ∷ es) = elim (same_bytes s e.0) as (λ b. cond b (Some (f e.1)) (find bytes_cmp s (map at es)) ≡ option_map f (cond b (Some e.1) (find bytes_cmp s es))) [
    | true ↦ refl
    | false ↦ map_find s es
  ]

  pub map_without : (s : Step) (es : List (Step × A)) → map at (without s es) ≡ without s (map at es)
  map_without s [] = refl
  map_without s (e ∷ es) = elim (same_bytes s e.0) as (λ b. map at (cond (not b) (e ∷ without s es) (without s es)) ≡ cond (not b) (at e ∷ without s (map at es)) (without s (map at es))) [
    | true ↦ map_without s es
    | false ↦ ap (λ l. at e ∷ l) (map_without s es)
  ]

  pub map_from : (given es : List (Step × A)) → map at (entries_from given es) ≡ entries_from (map at given) (map at es)
  map_from [] es = refl
  map_from (e ∷ given) es = map_put e.0 e.1 (entries_from given es) ∙ ap (put bytes_cmp e.0 (f e.1)) (map_from given es)
