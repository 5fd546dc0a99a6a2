-- What stands a step further down than a place.
--     reaches, as_ref      what was not read leads to what stands there
--     subtree_on, under_step      a path behind a path
--     place_here      what a node means and knows, as a place
--     found_node, found_nothing, found_below      a step down from a directory of which parts were read: a node, nothing, or what is found behind an unread part
--     directory_ref, nothing_in, found_stored      from a record
--     step_stored, step_contents      from the place of a record, and from that of contents
--     StandsAt, root_stands, stands_found      what stands at a path: the root, and what was found
--     walk_on      a walk through any records, step by step
use Rattle.std.proofs.Common.{◌≡◌, ◌≢◌, ℕ, zero, suc, ◌-◌, ◌≤◌, true, false, List, [], ◌∷◌, ◌++◌, append_assoc, length, take, drop, refl, sym, ap, subst, ◌∙◌, Option, Some, None, cond, arith, length-drop}
use Rattle.std.proofs.lemmas.Bool.{false≢true, eq-eqb}
use Rattle.std.proofs.lemmas.List.{length-take-le}
use Rattle.std.specs.Option.{option_map_or}
use Rattle.std.specs.Prelude.{IsFalse, IsTrue, IsSomeAnd, is_some, option_and_then, option_map, ◌==◌, Bool}
use Rattle.std.specs.FinMap.Entries.{find}
use Rattle.sha2.specs.Sha256.{sha256}
use Rattle.ip_ground.specs.Told.{Told}
use Rattle.ip_space.specs.SpaceView.{SpaceView, records_of}
use Rattle.ip_spec.specs.Map.{get}
use Rattle.ip_spec.specs.Path.{Bytes, Step, Path, bytes_cmp}
use Rattle.ip_spec.specs.Record.{Child}
use Rattle.ip_spec.specs.Shape.{Entries, deepest, part}
use Rattle.ip_spec.specs.StoredParts.{entry_through, stored_part}
use Rattle.ip_spec.specs.Tree as Tree
use Rattle.ip_spec.specs.Tree.{Tree, contents, entries_of, is_contents, is_empty, subtree}
use Rattle.ip_spec.specs.TreeAt.{PartAt}
use Rattle.ip_spec.specs.View.{View, Part, is_nil, leads}
use Rattle.ip_spec.specs.declared.record.LeafEntry.{LeafEntry}
use Rattle.ip_spec.specs.declared.record.Record.{Record}
use Rattle.ip_spec.specs.declared.record.Ref.{Ref}
use Rattle.ip_spec.proofs.Naming.{root_name-entries}
use Rattle.ip_spec.proofs.Subtrees.{entry_found, entry_lost, get-subtree, same_tree, subtree_root}
use Rattle.ip_shape.specs.Directory.{entries_in, root_of, steps_of}
use Rattle.ip_shape.specs.Loaded.{behind, unread_in, way_to}
use Rattle.ip_shape.specs.Shape.{has}
use Rattle.ip_shape.specs.declared.dir.Dir.{Dir}
use Rattle.ip_shape.proofs.Entries.{has_of}
use Rattle.ip_shape.proofs.LeafRead.{on_way}
use Rattle.ip_tree.specs.Finding.{FindsIn, Finds, IsPartOf, IsPlaceOf, under, walk_by, walk_to}
use Rattle.ip_tree.specs.Known.{below_entry, below_unread, known_at, knows, unread_entry}
use Rattle.ip_tree.specs.Meaning.{DirectoryIs, NodeIs, StoredIs, contents_in, directory_in}
use Rattle.ip_tree.specs.Node as view
use Rattle.ip_tree.specs.Reads.{FindsEntry, IsOver, IsPartRef, Reaches, contents_at, directory_at, entry_below, stored_of_entry}
use Rattle.ip_tree.specs.Shown.{entries_shown, shown, shown_directory}
use Rattle.ip_tree.specs.TreeView.{IsView}
use Rattle.ip_tree.specs.declared.tree.Root.{Root}
use Rattle.ip_tree.specs.declared.tree.Root.TheVariants as root
use Rattle.ip_tree.specs.declared.tree.Tree as code
use Rattle.ip_tree.specs.declared.node.Node.{Node}
use Rattle.ip_tree.specs.declared.node.Stored.{Stored}
use Rattle.ip_tree.proofs.ChildNodes.{each_node, known_found}
use Rattle.ip_tree.proofs.Indexes.{no_some, some_same}
use Rattle.ip_tree.proofs.KnownStands.{long_way}
use Rattle.ip_tree.proofs.Loading.{spells_ref, step_known}
use Rattle.ip_tree.proofs.MoreRecords.{same_entry}
use Rattle.ip_tree.proofs.PartEntries.{part_found}
use Rattle.ip_tree.proofs.PartlyShown.{map_find}
use Rattle.ip_tree.proofs.Roots.{root_directory, root_knows, root_reaches}
use Rattle.ip_tree.proofs.StoredBelow.{child_of_contents}

-- ---- trees

pub subtree_on : (t : Tree) (p q : Path) → subtree (subtree t p) q ≡ subtree t (p ++ q)
subtree_on t p q =
    same_tree (subtree (subtree t p) q) (subtree t (p ++ q))
    (λ r. get-subtree (subtree t p) q r ∙ get-subtree t p (q ++ r) ∙ ap (get t) (sym (append_assoc p q r)) ∙ sym (get-subtree t (p ++ q) r))

pub under_step : (p : Path) (s : Step) (part : Part) → under p (record { path = s ∷ part.path; indexes = part.indexes }) ≡ under (p ++ s ∷ []) part
under_step p s part = ap (λ (q : Path). record { path = q; indexes = part.indexes }) (sym (append_assoc p (s ∷ []) part.path))

pub nothing_below : (bytes : Bytes) (s : Step) → IsTrue (is_empty (subtree (contents bytes) (s ∷ [])))
unfolding Tree.tree_runs
nothing_below bytes s = refl

behind_take : (n : ℕ) (w : List ℕ) → behind (take n w) w ≡ Some (drop n w)
behind_take zero w = refl
behind_take (suc n) [] = refl
behind_take (suc n) (i ∷ w) = ap (λ b. cond b (behind (take n w) w) None) (eq-eqb i i refl) ∙ behind_take n w

module _ (records : ℕ → Option Record) where
  pub reaches : (x : Stored) (t : Tree) → StoredIs records x t → Reaches records x.reference t
  reaches x t (contents_in bytes is low child) =
      let both : ◌≡◌ {A = Child} (x.reference.kind, x.reference.name) (1, sha256 bytes) = child ∙ child_of_contents bytes in
      contents_at bytes is (ap (λ (c : Child). c.0) both) (ap (λ (c : Child). c.1) both)
  reaches x t (directory_in sub some spells) =
      directory_at sub record { part = spells.part; kind = spells.kind; name = spells.name ∙ sym (root_name-entries sub) } some.directory

  pub place_here : (w : View) (q : Path) (n : view.Node) → NodeIs records n (subtree w.map q) → ((part : Part) → knows records n part ≡ w.known (under q part)) → IsPlaceOf records w q n
  place_here w q (view.stored x) means known = (reaches x (subtree w.map q) means, known)
  place_here w q (view.contents bytes) means known = record { means = means; known = known }
  place_here w q (view.directory root ns) means known = (record { directory = means.0.directory; steps = means.1; parts = means.2; nodes = means.3 }, known)

  pub place_found : (w : View) (q : Path) (n : view.Node) → IsPartOf records w q n → IsPlaceOf records w q n
  place_found w q n is = place_here w q n is.means is.known

  -- an entry that was found through records, over more of them
  pub found_through : (told : Told) (space : SpaceView) (levels depth at : ℕ) (es : Entries) (s : Step) (found : Option Stored) → IsOver told space records → PartAt records depth at es
      → found ≡ entry_below (records_of told space) levels at s → found ≡ entry_below records levels at s
  found_through told space levels depth at es s found over part e = e ∙ ap (option_map stored_of_entry) (same_entry records (records_of told space) over.held levels s part)

  -- what is known behind it
  known_entry : (o : Option LeafEntry) (x : Stored) (path : Path) (is : List ℕ) → option_map stored_of_entry o ≡ Some x → stored_part records x.reference.at path is ≡ below_entry records path is o
  known_entry None x path is e = no_some x e
  known_entry (Some f) x path is e = ap (λ (y : Stored). stored_part records y.reference.at path is) (sym (some_same (stored_of_entry f) x e))

  module _ (d : Dir Node Stored) (w : View) (p : Path) (s : Step) (place : IsPlaceOf records w p (shown_directory d)) where
    stands : (sub : Tree) → find bytes_cmp s (entries_of (subtree w.map p)).entries ≡ Some sub → sub ≡ subtree w.map (p ++ s ∷ [])
    stands sub e = (entry_found (subtree w.map p) s sub e).is ∙ subtree_on w.map p (s ∷ [])

    -- what the directory knows below the step
    knows_below : (part : Part) → known_at records (shown_directory d) (s ∷ part.path) part.indexes ≡ w.known (under (p ++ s ∷ []) part)
    knows_below part = place.1 (record { path = s ∷ part.path; indexes = part.indexes }) ∙ ap w.known (under_step p s part)

    at_step : (path : Path) (is : List ℕ) → known_at records (shown_directory d) (s ∷ path) is ≡ option_map_or (λ n. known_at records n path is) (find bytes_cmp s (entries_shown d)) (below_unread records (root_of d) s path is)
    at_step path is = known_found records (entries_shown d) s path is (below_unread records (root_of d) s path is)

    shown_at : (o : Option Node) → find bytes_cmp s (entries_in d) ≡ o → find bytes_cmp s (entries_shown d) ≡ option_map shown o
    shown_at o e = map_find shown s (entries_in d) ∙ ap (option_map shown) e

    pub found_node : (n : Node) → find bytes_cmp s (entries_in d) ≡ Some n → FindsIn records w (p ++ s ∷ []) (Some (shown n))
    found_node n e = by (find bytes_cmp s (entries_of (subtree w.map p)).entries) refl (each_node records (entries_shown d) (entries_of (subtree w.map p)).entries place.0.nodes s (shown n) (shown_at (Some n) e))
      where
        by : (o : Option Tree) → find bytes_cmp s (entries_of (subtree w.map p)).entries ≡ o → IsSomeAnd o (λ sub. NodeIs records (shown n) sub) → FindsIn records w (p ++ s ∷ []) (Some (shown n))
        by None f is = absurd is
        by (Some sub) f is = record {
          means = subst (NodeIs records (shown n)) (stands sub f) is;
          known = λ part.
              sym (ap (λ o. option_map_or (λ n. known_at records n part.path part.indexes) o (below_unread records (root_of d) s part.path part.indexes)) (shown_at (Some n) e)) ∙ sym (at_step part.path part.indexes)
              ∙ knows_below part;
        }

    lost : find bytes_cmp s (entries_of (subtree w.map p)).entries ≡ None → IsTrue (is_empty (subtree w.map (p ++ s ∷ [])))
    lost e = subst (λ (w : Tree). IsTrue (is_empty w)) (subtree_on w.map p (s ∷ [])) (entry_lost (subtree w.map p) s e)

    pub found_nothing : has s (steps_of (entries_of (subtree w.map p)).entries) ≡ false → FindsIn records w (p ++ s ∷ []) None
    found_nothing e = lost (by (find bytes_cmp s (entries_of (subtree w.map p)).entries) (sym (has_of s (entries_of (subtree w.map p)).entries) ∙ e))
      where
        by : (o : Option Tree) → is_some o ≡ false → o ≡ None
        by None f = refl
        by (Some sub) f = absurd (false≢true (sym f))

    -- behind an unread part
    module _ (x : Stored) (depth : ℕ) (low : depth ≤ deepest) (at_way : unread_in (way_to s) (root_of d) ≡ Some (x, drop depth (way_to s))) (front : unread_in (take depth (way_to s)) (root_of d) ≡ Some (x, [])) where
      long_front : length (take depth (way_to s)) ≡ depth
      long_front = length-take-le depth (way_to s) (omega (arith, low, long_way s))

      leads_there : leads 0 (take depth (way_to s)) s ≡ true
      leads_there = sym (on_way (take depth (way_to s)) s (omega (arith, low, long_front))) ∙ ap is_some (behind_take depth (way_to s))

      found_in : find bytes_cmp s (part (entries_of (subtree w.map p)).entries (take depth (way_to s))) ≡ find bytes_cmp s (entries_of (subtree w.map p)).entries
      found_in =
          part_found 0 (take depth (way_to s)) (entries_of (subtree w.map p)).entries s ∙ ap (λ b. cond b (find bytes_cmp s (entries_of (subtree w.map p)).entries) None) leads_there

      pub asked_below : IsPartRef records depth x.reference (part (entries_of (subtree w.map p)).entries (take depth (way_to s)))
      asked_below =
          let at = (place.0.parts.unread (take depth (way_to s)) x front).spells in
          subst (λ n. IsPartRef records n x.reference (part (entries_of (subtree w.map p)).entries (take depth (way_to s)))) long_front (record { part = at.part; kind = at.kind; name = at.name })

      pub found_below : find bytes_cmp s (entries_in d) ≡ None → (found : Option Stored) → found ≡ entry_below records (deepest - depth) x.reference.at s
          → FindsEntry records (part (entries_of (subtree w.map p)).entries (take depth (way_to s))) s found → FindsIn records w (p ++ s ∷ []) (option_map view.stored found)
      found_below none_read None is finds = lost (sym found_in ∙ finds)
      found_below none_read (Some y) is finds = record {
        means = subst (StoredIs records y) (stands finds.0 (sym found_in ∙ finds.1)) finds.2;
        known = λ q.
            known_entry (entry_through (deepest - depth) records s x.reference.at) y q.path q.indexes (sym is)
            ∙ ap (λ n. below_entry records q.path q.indexes (entry_through n records s x.reference.at)) long_left
            ∙ sym (ap (λ u. below_entry records q.path q.indexes (unread_entry records s u)) at_way)
            ∙ sym (ap (λ o. option_map_or (λ n. known_at records n q.path q.indexes) o (below_unread records (root_of d) s q.path q.indexes)) (shown_at None none_read))
            ∙ sym (at_step q.path q.indexes) ∙ knows_below q;
      }
        where
          long_left : deepest - depth ≡ length (drop depth (way_to s))
          long_left = omega (arith, length-drop depth (way_to s), long_way s)

  -- ---- from a record

  pub record IsDirectoryRef (r : Ref) (t : Tree) : Type 0 where
    pub asked : IsPartRef records 0 r (entries_of t).entries
    pub no_contents : IsFalse (is_contents t)

  pub directory_ref : (r : Ref) (t : Tree) → r.kind ≢ 1 → Reaches records r t → IsDirectoryRef r t
  directory_ref r t other (contents_at bytes here kind name) = absurd (other kind)
  directory_ref r t other (directory_at sub spells no_contents) = record { asked = spells_ref records r sub spells; no_contents = no_contents }

  pub nothing_in : (r : Ref) (t : Tree) (s : Step) → r.kind ≡ 1 → Reaches records r t → IsTrue (is_empty (subtree t (s ∷ [])))
  nothing_in r t s kind (contents_at bytes here one name) = nothing_below bytes s
  nothing_in r t s kind (directory_at sub spells no_contents) = absurd (let two = spells.kind in omega (arith, two, kind))

  pub found_stored : (r : Ref) (t : Tree) (s : Step) (found : Option Stored) → found ≡ entry_below records deepest r.at s → FindsEntry records (entries_of t).entries s found
      → Finds records (view.stored (record { reference = r; height = 0 })) t (s ∷ []) (option_map view.stored found)
  found_stored r t s None is finds = entry_lost t s finds
  found_stored r t s (Some y) is finds = record {
    means = subst (StoredIs records y) (entry_found t s finds.0 finds.1).is finds.2;
    known = λ q. known_entry (entry_through deepest records s r.at) y q.path q.indexes (sym is) ∙ step_known records r.at s q.path q.indexes;
  }

  pub step_stored : (w : View) (p : Path) (s : Step) (x : Stored) (found : Option Stored) → IsPlaceOf records w p (view.stored x)
      → Finds records (view.stored (record { reference = x.reference; height = 0 })) (subtree w.map p) (s ∷ []) (option_map view.stored found) → FindsIn records w (p ++ s ∷ []) (option_map view.stored found)
  step_stored w p s x None place finds = subst (λ (w : Tree). IsTrue (is_empty w)) (subtree_on w.map p (s ∷ [])) finds
  step_stored w p s x (Some y) place finds = record {
    means = subst (StoredIs records y) (subtree_on w.map p (s ∷ [])) finds.means;
    known = λ q. finds.known q ∙ place.1 (record { path = s ∷ q.path; indexes = q.indexes }) ∙ ap w.known (under_step p s q);
  }

  -- ---- from contents

  pub step_contents : (w : View) (p : Path) (s : Step) (bytes : Bytes) → IsPlaceOf records w p (view.contents bytes) → IsTrue (is_empty (subtree w.map (p ++ s ∷ [])))
  step_contents w p s bytes place =
      subst (λ (w : Tree). IsTrue (is_empty w)) (ap (λ (t : Tree). subtree t (s ∷ [])) (sym place.means) ∙ subtree_on w.map p (s ∷ [])) (nothing_below bytes s)

  -- ---- down a path

  -- below the root it is not empty
  pub record StandsAt (w : View) (p : Path) (n : view.Node) : Type 0 where
    pub place : IsPlaceOf records w p n
    pub part : IsFalse (is_nil p) → IsPartOf records w p n

  -- a place as it stands at the root
  abbrev pub root_node : Root → view.Node
  root_node (root.Stored r) = view.stored (record { reference = r; height = 0 })
  root_node (root.Loaded d) = shown_directory d

  no_root : (w : View) (n : view.Node) → IsFalse (is_nil {A = Step} []) → IsPartOf records w [] n
  no_root w n e = absurd (false≢true (sym e))

  pub root_stands : (tree : code.Tree) (w : View) (n : view.Node) → IsView records tree w → n ≡ root_node tree.root → StandsAt w [] n
  root_stands tree w n is same = subst (StandsAt w []) (sym same) (by tree.root refl)
    where
      by : (r : Root) → tree.root ≡ r → StandsAt w [] (root_node r)
      by (root.Stored r) at = record {
        place = (subst (Reaches records r) (sym (subtree_root w.map)) (root_reaches records tree w is r at), λ q. sym (root_knows records tree w is (root.Stored r) at q));
        part = no_root w (root_node (root.Stored r));
      }
      by (root.Loaded d) at = record {
        place = (subst (λ t. DirectoryIs records (root_of d) (view.nodes_of (entries_shown d)) t) (sym (subtree_root w.map)) (root_directory records tree w is d at), λ q. sym (root_knows records tree w is (root.Loaded d) at q));
        part = no_root w (root_node (root.Loaded d));
      }

  pub stands_found : (w : View) (p : Path) (n : view.Node) → IsPartOf records w p n → StandsAt w p n
  stands_found w p n is = record { place = place_found w p n is; part = λ below. is }

-- one step more of a walk through any records
pub walk_on : (all : ℕ → Option Record) (s : Step) (p : Path) (r : Ref) → walk_to all (s ∷ p) r ≡ option_and_then (walk_to all p) (walk_to all (s ∷ []) r)
walk_on all s p r = by (r.kind == 1) (entry_below all deepest r.at s)
  where
    by : (b : Bool) (o : Option Stored) → cond b None (walk_by (walk_to all p) o) ≡ option_and_then (walk_to all p) (cond b None (walk_by (λ r. Some r) o))
    by true o = refl
    by false None = refl
    by false (Some x) = refl
