-- A directory of the code after an edit of one entry: what it means. What it knows then say put_known, put_below, taken_known, taken_below.
--     entry_put      an entry was put, or another one exchanged for it and the parts on the way forgotten
--     entry_exchanged      the entry was exchanged for one that means and knows the same
--     entry_taken      the entry was taken out
use Rattle.std.proofs.Common.{◌≡◌, ℕ, Bool, true, false, List, [], ◌∷◌, map, refl, sym, ap, subst, ◌∙◌, Option, Some, None, cond}
use Rattle.std.specs.Option.{option_map_or}
use Rattle.std.specs.Prelude.{IsFalse, IsSomeAnd}
use Rattle.std.proofs.lemmas.Cmp.{nat_list_cmp_total}
use Rattle.std.specs.FinMap.Entries.{find, put, find-put}
use Rattle.ip_spec.specs.Path.{Step, Path, bytes_cmp, same_bytes}
use Rattle.ip_spec.specs.declared.record.Record.{Record}
use Rattle.ip_spec.specs.Tree.{Tree, entries_of, is_contents}
use Rattle.ip_spec.specs.View as view
use Rattle.ip_shape.specs.Directory.{IsPartly, root_of, steps_of, without}
use Rattle.ip_shape.specs.Loaded.{IsEdited, IsLessened, unread_in, way_to}
use Rattle.ip_shape.specs.Reading.{is_needed}
use Rattle.ip_shape.specs.Shape.{AreSteps, has, take_out}
use Rattle.ip_shape.specs.declared.dir.Dir.{Dir}
use Rattle.ip_shape.proofs.Entries.{steps_without}
use Rattle.ip_shape.proofs.Steps.{equal, same_step}
use Rattle.ip_shape.specs.declared.part.Part.{Part}
use Rattle.ip_spec.specs.Shape.{deepest}
use Rattle.ip_tree.specs.Node as told
use Rattle.ip_tree.specs.Node.{directory, nodes_of, steps_in}
use Rattle.ip_tree.specs.Meaning.{DirectoryIs, HasSteps, KnowsParts, NodeIs, NodesAre}
use Rattle.ip_tree.specs.Known.{below_entry, known_at, knows, unread_entry}
use Rattle.ip_tree.specs.Edits.{IsDirectory, IsSame}
use Rattle.ip_tree.specs.Shown.{entries_shown, shown, shown_directory}
use Rattle.ip_tree.specs.declared.node.Node.{Node}
use Rattle.ip_tree.specs.declared.node.Stored.{Stored}
use Rattle.ip_tree.proofs.ChildNodes.{known_found, nodes_put}
use Rattle.ip_tree.proofs.PartlyShown.{has_steps, map_put, map_without, show, steps_nodes}
use Rattle.ip_tree.proofs.PartsPut.{put_directory, read_ascends}
use Rattle.ip_tree.proofs.PartsTaken.{taken_directory}

module _ (records : ℕ → Option Record) (d e : Dir Node Stored) (t u : Tree) (s : Step) (means : IsDirectory records (shown_directory d) t) where
  pub entry_put : (child : Node) (sub : Tree) (steps : List Step) → NodeIs records (shown child) sub → IsFalse (is_contents u) → (entries_of u).entries ≡ put bytes_cmp s sub (entries_of t).entries → steps ≡ steps_of (entries_of u).entries
      → unread_in (way_to s) (root_of d) ≡ None → IsPartly e steps (put bytes_cmp s child d.entries.entries) → IsEdited 0 s (root_of d) (root_of e) → IsDirectory records (shown_directory e) u
  entry_put child sub steps child_means no_contents entries same way_read partly edited =
      let now : entries_shown e ≡ put bytes_cmp s (shown child) (entries_shown d) = ap (λ (l : List (Step × Node)). map show l) partly.0 ∙ map_put shown s child d.entries.entries in
      subst (λ (l : List told.Entry). DirectoryIs records (root_of e) (nodes_of l) u) (sym now)
      (put_directory records (root_of d) (root_of e) (entries_shown d) t u s (shown child) sub means child_means no_contents entries way_read edited
      (subst (λ (l : List told.Entry). HasSteps (root_of e) (steps_in (nodes_of l)) (entries_of u).entries) now (has_steps e steps (put bytes_cmp s child d.entries.entries) (entries_of u).entries partly same)))

  pub entry_taken : has s (steps_of (entries_of t).entries) ≡ true → IsFalse (is_contents u) → (entries_of u).entries ≡ without s (entries_of t).entries → unread_in (way_to s) (root_of d) ≡ None
      → ((is : List ℕ) (r : Stored) → is_needed s (steps_of (entries_of t).entries) is ≡ true → unread_in is (root_of d) ≡ Some (r, []) → ⊥) → IsPartly e (take_out s (steps_of (entries_of t).entries)) (without s d.entries.entries)
      → IsLessened deepest 0 s (steps_of (entries_of t).entries) (root_of d) (root_of e) → IsDirectory records (shown_directory e) u
  entry_taken is_in no_contents entries way_read join_read partly lessened =
      let now : entries_shown e ≡ without s (entries_shown d) = ap (λ (l : List (Step × Node)). map show l) partly.0 ∙ map_without shown s d.entries.entries in
      let steps : take_out s (steps_of (entries_of t).entries) ≡ steps_of (entries_of u).entries = sym (ap (λ (l : List (Step × Tree)). steps_of l) entries ∙ steps_without s (entries_of t).entries) in
      subst (λ (l : List told.Entry). DirectoryIs records (root_of e) (nodes_of l) u) (sym now)
      (taken_directory records (root_of d) (root_of e) (entries_shown d) t u s means is_in no_contents entries way_read join_read lessened
      (subst (λ (l : List told.Entry). HasSteps (root_of e) (steps_in (nodes_of l)) (entries_of u).entries) now
      (has_steps e (take_out s (steps_of (entries_of t).entries)) (without s d.entries.entries) (entries_of u).entries partly steps)))

module _ (records : ℕ → Option Record) (root : Part Stored) (ys : List told.Entry) (s : Step) (old new : told.Node) (found : find bytes_cmp s ys ≡ Some old) (same : (p : view.Part) → knows records new p ≡ knows records old p) where
  exchanged_at : (path : Path) (indexes : List ℕ) → known_at records (directory root (nodes_of (put bytes_cmp s new ys))) path indexes ≡ known_at records (directory root (nodes_of ys)) path indexes
  exchanged_at [] indexes = refl
  exchanged_at (q ∷ path) indexes =
      known_found records (put bytes_cmp s new ys) q path indexes other
      ∙ ap (λ o. option_map_or (λ m. known_at records m path indexes) o other) (find-put bytes_cmp nat_list_cmp_total q s new ys) ∙ by (same_bytes q s) refl
      ∙ sym (known_found records ys q path indexes other)
    where
      other : Option ℕ
      other = below_entry records path indexes (unread_entry records q (unread_in (way_to q) root))

      by : (b : Bool) → same_bytes q s ≡ b → option_map_or (λ m. known_at records m path indexes) (cond b (Some new) (find bytes_cmp q ys)) other ≡ option_map_or (λ m. known_at records m path indexes) (find bytes_cmp q ys) other
      by true f = same (record { path = path; indexes = indexes }) ∙ sym (ap (λ o. option_map_or (λ m. known_at records m path indexes) o other) (ap (λ k. find bytes_cmp k ys) (same_step q s (equal _ f)) ∙ found))
      by false f = refl

  pub exchanged_knows : (p : view.Part) → knows records (directory root (nodes_of (put bytes_cmp s new ys))) p ≡ knows records (directory root (nodes_of ys)) p
  exchanged_knows p = exchanged_at p.path p.indexes

pub entry_exchanged : (records : ℕ → Option Record) (d e : Dir Node Stored) (t : Tree) (s : Step) (old child : Node) (sub : Tree) → IsDirectory records (shown_directory d) t → find bytes_cmp s (entries_shown d) ≡ Some (shown old)
    → find bytes_cmp s (entries_of t).entries ≡ Some sub → NodeIs records (shown child) sub → ((p : view.Part) → knows records (shown child) p ≡ knows records (shown old) p)
    → IsPartly e (steps_of (entries_of t).entries) (put bytes_cmp s child d.entries.entries) → root_of e ≡ root_of d → IsSame (IsDirectory records) records (shown_directory d) (shown_directory e) t
entry_exchanged records d e t s old child sub means found stands child_means same partly root =
    let es = (entries_of t).entries in
    let ys = entries_shown d in
    let now : entries_shown e ≡ put bytes_cmp s (shown child) ys = ap (λ (l : List (Step × Node)). map show l) partly.0 ∙ map_put shown s child d.entries.entries in record {
      means = record {
        directory = means.directory;
        steps = has_steps e (steps_of es) (put bytes_cmp s child d.entries.entries) es partly refl;
        parts = subst (λ r. KnowsParts records r es) (sym root) means.parts;
        nodes = subst (λ (l : List told.Entry). NodesAre records (nodes_of l) es) (sym now)
            (nodes_put records ys es es s (shown child) (subst AreSteps (steps_nodes ys) (read_ascends (root_of d) (steps_in (nodes_of ys)) es means.steps)) means.nodes
            (subst (λ o. IsSomeAnd o (λ sub. NodeIs records (shown child) sub)) (sym stands) child_means) (λ q apart. refl));
      };
      known = λ p.
          ap (λ (l : List told.Entry). knows records (directory (root_of e) (nodes_of l)) p) now ∙ ap (λ r. knows records (directory r (nodes_of (put bytes_cmp s (shown child) ys))) p) root
          ∙ exchanged_knows records (root_of d) ys s (shown old) (shown child) found same p;
    }
