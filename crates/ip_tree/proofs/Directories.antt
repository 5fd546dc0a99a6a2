-- Nodes that are directories, and the nodes of a directory of the code.
--     some_node      what a node means is never nothing
--     IsNoDirectory n, no_directory      a node of the code that is no directory
--     node_of      a directory that is not empty, as what stands at a step.      inner_directory      and back
--     same_on, same_node      the same twice, and of a directory at a step
--     IsChild records d t s n      the directory's node at a step, the way to which was read, and what stands there
--     child_is, child_none, read_has      what is found in the entries that were read, and what it says where nothing is
--     shown_found      what is found, as it is shown
--     put_again      of two entries at one step the second counts
--     unchanged_same      the same parts are unread, and the same are known
use Rattle.std.proofs.Common.{◌≡◌, ℕ, Bool, true, false, List, [], ◌∷◌, map, refl, sym, ap, subst, ◌∙◌, Option, Some, None}
use Rattle.std.specs.Prelude.{◌&&◌, IsSomeAnd, is_none, is_some, option_map}
use Rattle.std.specs.Cmp.{tied_itself}
use Rattle.std.specs.declared.cmp.Ordering.{Ordering}
use Rattle.std.specs.declared.cmp.Ordering.TheVariants.{Less, Equal, Greater}
use Rattle.std.proofs.lemmas.Bool.{false≢true}
use Rattle.std.proofs.lemmas.Cmp.{nat_list_cmp_total}
use Rattle.std.specs.FinMap.Entries.{by_order, find, put}
use Rattle.ip_spec.specs.Path.{Step, Path, bytes_cmp}
use Rattle.ip_spec.specs.declared.record.Record.{Record}
use Rattle.ip_spec.specs.Tree.{Tree, entries_of, is_empty}
use Rattle.ip_shape.specs.Directory.{IsPartly, entries_in, root_of, steps_of}
use Rattle.ip_shape.specs.Loaded.{IsUnchanged, known_in, unread_in, way_to}
use Rattle.ip_shape.specs.Shape.{has}
use Rattle.ip_shape.specs.declared.dir.Dir.{Dir}
use Rattle.ip_shape.proofs.Entries.{has_of}
use Rattle.ip_shape.proofs.Members.{has-filter}
use Rattle.ip_tree.specs.Edits.{IsDirectory, IsSame}
use Rattle.ip_tree.specs.Known.{below_entry, known_among, known_at, known_by, knows, unread_entry}
use Rattle.ip_tree.specs.Meaning.{NodeIs, NodesAre, contents_in, directory_in, is_read}
use Rattle.ip_tree.specs.Node as told
use Rattle.ip_tree.specs.Node.{directory, nodes_of}
use Rattle.ip_tree.specs.Shown.{entries_shown, shown, shown_directory}
use Rattle.ip_tree.specs.declared.node.Node.{Node, out-Node}
use Rattle.ip_tree.specs.declared.node.Node.TheOpen.{Node-F}
use Rattle.ip_tree.specs.declared.node.Node.TheOpen as layer
use Rattle.ip_tree.specs.declared.node.Node.TheViews.{roll-Node, roll-out-Node}
use Rattle.ip_tree.specs.declared.node.Node.TheVariants as variant
use Rattle.ip_tree.specs.declared.node.Stored.{Stored}
use Rattle.ip_tree.proofs.ChildNodes.{each_node}
use Rattle.ip_tree.proofs.Nodes.{contents_shown, directory_shown, stored_shown}
use Rattle.ip_tree.proofs.PartlyShown.{has_steps, map_find, show, steps_shown}
use Rattle.ip_tree.proofs.Trees.{contents_some}

pub some_node : (records : ℕ → Option Record) (n : told.Node) (t : Tree) → NodeIs records n t → is_empty t ≡ false
some_node records (told.stored x) t (contents_in bytes is height child) = contents_some bytes
some_node records (told.stored x) t (directory_in sub some spells) = some.some
some_node records (told.contents bytes) t is = ap is_empty is ∙ contents_some bytes
some_node records (told.directory root ns) t is = is.0.some

abbrev pub IsNoDirectory : told.Node → Type 0
IsNoDirectory (told.stored x) = Unit {0}
IsNoDirectory (told.contents bytes) = Unit {0}
IsNoDirectory (told.directory root ns) = ⊥

pub no_directory : (node : Node) → ((d : Dir Node Stored) → node ≡ variant.Directory d → ⊥) → IsNoDirectory (shown node)
no_directory node other = by (out-Node node) (roll-out-Node node)
  where
    by : (l : Node-F Node) → roll-Node l ≡ node → IsNoDirectory (shown node)
    by (layer.Stored x) e = subst (λ (n : Node). IsNoDirectory (shown n)) (sym (variant.rolls-Stored x) ∙ e) (subst IsNoDirectory (sym (stored_shown x)) tt)
    by (layer.Contents b) e = subst (λ (n : Node). IsNoDirectory (shown n)) (sym (variant.rolls-Contents b) ∙ e) (subst IsNoDirectory (sym (contents_shown b)) tt)
    by (layer.Directory d) e = absurd (other d (sym e ∙ variant.rolls-Directory d))

pub node_of : (records : ℕ → Option Record) (n : told.Node) (t : Tree) → IsDirectory records n t → is_empty t ≡ false → NodeIs records n t
node_of records (told.stored x) t is some = absurd is
node_of records (told.contents bytes) t is some = absurd is
node_of records (told.directory root ns) t is some = (record { directory = is.directory; some = some }, is.steps, is.parts, is.nodes)

pub inner_directory : (records : ℕ → Option Record) (node : Node) (d : Dir Node Stored) (t : Tree) → node ≡ variant.Directory d → NodeIs records (shown node) t → IsDirectory records (shown_directory d) t
inner_directory records node d t same is =
    let at : NodeIs records (shown_directory d) t = subst (λ (n : told.Node). NodeIs records n t) (ap shown same ∙ directory_shown d) is in
    record { directory = at.0.directory; steps = at.1; parts = at.2; nodes = at.3 }

pub same_on : (Means : told.Node → Tree → Type 0) (records : ℕ → Option Record) (a b c : told.Node) (t : Tree) → IsSame Means records a b t → IsSame Means records b c t → IsSame Means records a c t
same_on Means records a b c t one two = record { means = two.means; known = λ part. two.known part ∙ one.known part }

pub same_node : (records : ℕ → Option Record) (old new : told.Node) (t : Tree) → is_empty t ≡ false → IsSame (IsDirectory records) records old new t → IsSame (NodeIs records) records old new t
same_node records old new t some same = record { means = node_of records new t same.means some; known = same.known }

-- ---- the node at a step

pub shown_found : (d : Dir Node Stored) (s : Step) (node : Node) → find bytes_cmp s (entries_in d) ≡ Some node → find bytes_cmp s (entries_shown d) ≡ Some (shown node)
shown_found d s node found = map_find shown s (entries_in d) ∙ ap (option_map shown) found

pub record IsChild (records : ℕ → Option Record) (d : Dir Node Stored) (t : Tree) (s : Step) (n : Node) : Type 0 where
  pub sub : Tree
  pub here : find bytes_cmp s (entries_of t).entries ≡ Some sub
  pub means : NodeIs records (shown n) sub
  pub held : find bytes_cmp s (entries_shown d) ≡ Some (shown n)
  pub way : unread_in (way_to s) (root_of d) ≡ None

module _ (records : ℕ → Option Record) (d : Dir Node Stored) (t : Tree) (s : Step) (is : IsDirectory records (shown_directory d) t) where
  stands_read : has s (steps_of (entries_in d)) ≡ (is_read (root_of d) s && has s (steps_of (entries_of t).entries))
  stands_read = ap (has s) (sym (steps_shown d) ∙ is.steps.held) ∙ has-filter (is_read (root_of d)) s (steps_of (entries_of t).entries)

  pub child_is : (n : Node) → find bytes_cmp s (entries_in d) ≡ Some n → IsChild records d t s n
  child_is n found = by (find bytes_cmp s (entries_of t).entries) refl (each_node records (entries_shown d) (entries_of t).entries is.nodes s (shown n) (shown_found d s n found))
    where
      first : (b c : Bool) → true ≡ (b && c) → b ≡ true
      first true c e = refl
      first false c e = sym e

      none_of : (o : Option (Stored × List ℕ)) → is_none o ≡ true → o ≡ None
      none_of None e = refl
      none_of (Some x) e = absurd (false≢true e)

      by : (o : Option Tree) → find bytes_cmp s (entries_of t).entries ≡ o → IsSomeAnd o (λ sub. NodeIs records (shown n) sub) → IsChild records d t s n
      by None e means = absurd means
      by (Some sub) e means = record {
        sub = sub;
        here = e;
        means = means;
        held = shown_found d s n found;
        way = none_of (unread_in (way_to s) (root_of d))
            (first (is_read (root_of d) s) (has s (steps_of (entries_of t).entries)) (sym (ap is_some found) ∙ sym (has_of s (entries_in d)) ∙ stands_read));
      }

  pub read_has : unread_in (way_to s) (root_of d) ≡ None → is_some (find bytes_cmp s (entries_in d)) ≡ is_some (find bytes_cmp s (entries_of t).entries)
  read_has way =
      sym (has_of s (entries_in d)) ∙ stands_read ∙ ap (λ (o : Option (Stored × List ℕ)). is_none o && has s (steps_of (entries_of t).entries)) way ∙ has_of s (entries_of t).entries

  pub child_none : find bytes_cmp s (entries_in d) ≡ None → unread_in (way_to s) (root_of d) ≡ None → find bytes_cmp s (entries_of t).entries ≡ None
  child_none lost way = none_of (find bytes_cmp s (entries_of t).entries) (sym (read_has way) ∙ ap is_some lost)
    where
      none_of : (o : Option Tree) → is_some o ≡ false → o ≡ None
      none_of None e = refl
      none_of (Some x) e = absurd (false≢true (sym e))

-- ---- a directory that was not changed

module _ {C : Type 0} where
  pub put_again : (s : Step) (x y : C) (es : List (Step × C)) → put bytes_cmp s y (put bytes_cmp s x es) ≡ put bytes_cmp s y es
  put_again s x y [] = ap (λ o. by_order o ((s, y) ∷ (s, x) ∷ []) ((s, y) ∷ []) ((s, x) ∷ (s, y) ∷ [])) (tied_itself nat_list_cmp_total s)
  put_again s x y (e ∷ es) = by (bytes_cmp s e.0) refl (put_again s x y es)
    where
      by : (o : Ordering) → bytes_cmp s e.0 ≡ o → put bytes_cmp s y (put bytes_cmp s x es) ≡ put bytes_cmp s y es
          → put bytes_cmp s y (by_order o ((s, x) ∷ e ∷ es) ((e.0, x) ∷ es) (e ∷ put bytes_cmp s x es)) ≡ by_order o ((s, y) ∷ e ∷ es) ((e.0, y) ∷ es) (e ∷ put bytes_cmp s y es)
      by Less is deeper = ap (λ o. by_order o ((s, y) ∷ (s, x) ∷ e ∷ es) ((s, y) ∷ e ∷ es) ((s, x) ∷ put bytes_cmp s y (e ∷ es))) (tied_itself nat_list_cmp_total s)
      by Equal is deeper = ap (λ o. by_order o ((s, y) ∷ (e.0, x) ∷ es) ((e.0, y) ∷ es) ((e.0, x) ∷ put bytes_cmp s y es)) is
      by Greater is deeper = ap (λ o. by_order o ((s, y) ∷ e ∷ put bytes_cmp s x es) ((e.0, y) ∷ put bytes_cmp s x es) (e ∷ put bytes_cmp s y (put bytes_cmp s x es))) is ∙ ap (λ l. e ∷ l) deeper

pub unchanged_same : (records : ℕ → Option Record) (d e : Dir Node Stored) (t : Tree) → IsDirectory records (shown_directory d) t → IsPartly e (steps_of (entries_of t).entries) (entries_in d) → IsUnchanged (root_of d) (root_of e)
    → IsSame (IsDirectory records) records (shown_directory d) (shown_directory e) t
unchanged_same records d e t is partly unchanged =
    let now : entries_shown e ≡ entries_shown d = ap (λ (l : List (Step × Node)). map show l) partly.0 in record {
      means = record {
        directory = is.directory;
        steps = has_steps e (steps_of (entries_of t).entries) (entries_in d) (entries_of t).entries partly refl;
        parts = record { known = λ q x f. is.parts.known q x (sym (unchanged q).1 ∙ f); unread = λ q x f. is.parts.unread q x (sym (unchanged q).0 ∙ f) };
        nodes = subst (λ (l : List told.Entry). NodesAre records (nodes_of l) (entries_of t).entries) (sym now) is.nodes;
      };
      known = λ part. ap (λ (l : List told.Entry). knows records (directory (root_of e) (nodes_of l)) part) now ∙ by part.path part.indexes;
    }
  where
    by : (p : Path) (indexes : List ℕ) → known_at records (directory (root_of e) (nodes_of (entries_shown d))) p indexes ≡ known_at records (directory (root_of d) (nodes_of (entries_shown d))) p indexes
    by [] indexes = ap (λ k. known_by records k (unread_in indexes (root_of e))) (unchanged indexes).1 ∙ ap (known_by records (known_in indexes (root_of d))) (unchanged indexes).0
    by (q ∷ p) indexes = ap (λ u. known_among records (nodes_of (entries_shown d)) q p indexes (below_entry records p indexes (unread_entry records q u))) (unchanged (way_to q)).0
