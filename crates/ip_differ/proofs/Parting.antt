-- Pieces of directories, and their children.
--     place_unread, place_held      the whole of what stands at a place
--     held_unread      a part that was not read
--     child_found, child_lost      a child of the record of an inode, and where there is none
--     opened_fetched      a record that was fetched is that of a part that was not read
--     held_child      a child of a part that was read
--     not_deep_unread      the record of an inode stands above the deepest leaves
use Rattle.std.proofs.Common.{◌≡◌, ◌≢◌, ℕ, suc, ◌+◌, ◌-◌, ◌<◌, ◌≤◌, Bool, true, false, List, [], ◌∷◌, ◌++◌, append_assoc, length, refl, sym, ap, subst, ◌∙◌, Option, Some, None, arith, cond, rules}
use Rattle.std.proofs.lemmas.Bool.{false≢true, ne_eqb, and_parts}
use Rattle.std.proofs.lemmas.List.{append-nil}
use Rattle.std.specs.Global.{Global}
use Rattle.std.specs.Option.{option_or}
use Rattle.std.specs.Prelude.{◌==◌, ◌&&◌, Vec, option_and_then, option_map, slice_get}
use Rattle.ip_spec.specs.Path.{Path, Step}
use Rattle.ip_spec.specs.Shape.{Entries, deepest, part, place}
use Rattle.ip_spec.specs.StoredParts.{child_with, entry_through}
use Rattle.ip_spec.specs.Tree.{entries_of, subtree}
use Rattle.ip_spec.specs.View.{View, leads}
use Rattle.ip_spec.specs.declared.record.InodeChild.{InodeChild}
use Rattle.ip_spec.specs.declared.record.Record.{Record}
use Rattle.ip_shape.specs.Directory.{root_of, steps_of}
use Rattle.ip_shape.specs.Loaded.{unread_in, way_to}
use Rattle.ip_shape.specs.Reading.{child_in}
use Rattle.ip_shape.specs.Shape.{IsPart}
use Rattle.ip_shape.specs.declared.dir.Dir.{Dir}
use Rattle.ip_shape.specs.declared.part.Part.{Part, out-Part}
use Rattle.ip_shape.specs.declared.part.Part.TheOpen as layer
use Rattle.ip_shape.specs.declared.part.Part.TheVariants as variant
use Rattle.ip_shape.specs.declared.part.Part.TheViews as whole
use Rattle.ip_shape.proofs.Ways.{unread_child, unread_inode, unread_leaf, unread_unread}
use Rattle.ip_tree.specs.Finding.{IsPlaceOf}
use Rattle.ip_tree.specs.Known.{offset_of, unread_entry}
use Rattle.ip_tree.specs.Node as view
use Rattle.ip_tree.specs.Reads.{IsPartRef, children_read, record_of, stored_of_entry}
use Rattle.ip_tree.specs.Shown.{shown_directory}
use Rattle.ip_tree.specs.declared.fetch.Content.{Content}
use Rattle.ip_tree.specs.declared.look.Place.TheVariants as place_at
use Rattle.ip_tree.specs.declared.node.Node.{Node}
use Rattle.ip_tree.specs.declared.node.Stored.{Stored}
use Rattle.ip_tree.proofs.Found.{directory_ref}
use Rattle.ip_tree.proofs.Indexes.{no_some, some_same, unread_behind}
use Rattle.ip_tree.proofs.MoreRecords.{next_entry}
use Rattle.ip_tree.proofs.PartEntries.{part_deeper}
use Rattle.ip_tree.proofs.PartRecords.{IsInode, above_deepest, child_known, child_spelled, is_inode}
use Rattle.ip_tree.proofs.UnreadKinds.{child_shape}
use Rattle.ip_differ.specs.declared.pairs.Entry.{Entry}
use Rattle.ip_differ.specs.declared.pairs.Entry.TheVariants as entry
use Rattle.ip_differ.specs.declared.piece.Piece.{Piece}
use Rattle.ip_differ.specs.declared.piece.Piece.TheVariants as piece
use Rattle.ip_differ.specs.Pieces.{IsHeld, IsNothing, IsRead, IsUnreadPart, OpenedIs, below_record, in_directory, read_entry, stored_entry}
use Rattle.ip_differ.specs.Pieces as pieces
use Rattle.ip_differ.proofs.Indexed.{leads_deeper, long_deeper, way_behind}
use Rattle.ip_differ.proofs.Standing.{as_stored, none_read}

pub here_deeper : (is : List ℕ) (i : ℕ) (s : Step) → leads 0 (is ++ i ∷ []) s ≡ true → (leads 0 is s ≡ true) × (place s (length is) ≡ i)
here_deeper is i s e =
    let both = and_parts (leads 0 is s) (place s (length is) == i) (sym (leads_deeper is i s) ∙ e) in
    (both.0, let f = both.1 in grind arith)

pub none_long : length {A = ℕ} [] ≤ deepest
none_long = omega arith

pub other_kind : (kind : ℕ) → kind ≢ 1 → (kind == 1) ≡ false
other_kind kind other = ne_eqb kind 1 other

pub leaf_read : (p : Part Stored) (known : Option Stored) (held : Vec Step Global) → p ≡ variant.Leaf known held → unread_in [] p ≡ None
leaf_read p known held same = ap (unread_in []) same ∙ unread_leaf known held []

pub inode_read : (p : Part Stored) (known : Option Stored) (count : ℕ) (children : Vec (Part Stored) Global) → p ≡ variant.Inode known count children → unread_in [] p ≡ None
inode_read p known count children same = ap (unread_in []) same ∙ unread_inode known count children

-- ---- the whole of what stands at a place

module _ (records : ℕ → Option Record) (w : View) (p : Path) where
  pub place_unread : (x : Stored) → (x.reference.kind == 1) ≡ false → IsPlaceOf records w p (view.stored x)
      → IsUnreadPart records (pieces.at_place records (Some (place_at.Stored x))) (entries_of (subtree w.map p)).entries [] x
  place_unread x other is = record {
    asked = (directory_ref records x.reference (subtree w.map p) (λ same. false≢true (sym other ∙ ap (λ k. k == 1) same)) is.0).asked;
    tells = λ s there. ap (λ b. cond b None (below_record records deepest x s)) other;
  }

  pub place_held : (d : Dir Node Stored) → IsPlaceOf records w p (shown_directory d) → IsHeld records (in_directory records d) (entries_of (subtree w.map p)).entries [] d (root_of d)
  place_held d is = record { steps = is.0.steps; parts = is.0.parts; shape = is.0.steps.shape; unread = λ q. refl; tells = λ s. refl }

module _ (records : ℕ → Option Record) (a : Step → Option Entry) (es : Entries) (is : List ℕ) where
  -- ---- a part that was not read

  pub held_unread : (d : Dir Node Stored) (p : Part Stored) (x : Stored) (n : ℕ) → length is ≤ deepest → IsHeld records a es is d p → p ≡ variant.Unread x n → IsUnreadPart records a es is x
  held_unread d p x n low held same =
      let found : unread_in is (root_of d) ≡ Some (x, []) =
      ap (λ l. unread_in l (root_of d)) (sym (append-nil is)) ∙ held.unread [] ∙ ap (unread_in []) same ∙ unread_unread x n [] in
      let at = (held.parts.unread is x found).spells in
      record {
        asked = record { part = at.part; kind = at.kind; name = at.name };
        tells = λ s there.
            let behind = way_behind is s low there in
            let e : unread_in (way_to s) (root_of d) ≡ Some (x, behind.rest) = ap (λ l. unread_in l (root_of d)) behind.whole ∙ unread_behind is behind.rest x (root_of d) found in
            held.tells s
            ∙ ap (λ o. option_or (option_map read_entry o) (option_map stored_entry (unread_entry records s (unread_in (way_to s) (root_of d))))) (none_read d es held.steps s (x, behind.rest) e)
            ∙ ap (λ u. option_map stored_entry (unread_entry records s u)) e ∙ as_stored (entry_through (length behind.rest) records s x.reference.at) ∙ ap (λ n. below_record records n x s) behind.long;
      }

  -- ---- a child of the record of an inode

  module _ (x : Stored) (unread : IsUnreadPart records a es is x) (d : ℕ) (cs : List InodeChild) (here : records x.reference.at ≡ Some (Record.Inode d cs)) (i : ℕ) where
    inode : IsInode records (length is) x.reference.at d cs (part es is)
    inode = is_inode records d cs unread.asked.part here

    pub not_deep_unread : length is < 51
    not_deep_unread = above_deepest records (length is) x.reference.at d cs (part es is) inode

    -- one record further down
    next_record : (s : Step) → leads 0 (is ++ i ∷ []) s ≡ true → a s ≡ option_map (λ y. entry.Stored y) (option_map stored_of_entry (option_and_then (entry_through (deepest - length (is ++ i ∷ [])) records s) (child_with i cs)))
    next_record s there =
        let both = here_deeper is i s there in
        let long = long_deeper is i in
        let deep = not_deep_unread in
        let more : deepest - length is ≡ suc (deepest - length (is ++ i ∷ [])) = omega (arith, long, deep) in
        unread.tells s both.0 ∙ ap (λ n. below_record records n x s) more
        ∙ ap (λ o. option_map (λ y. entry.Stored y) (option_map stored_of_entry o))
        (next_entry records (deepest - length (is ++ i ∷ [])) s x.reference.at d cs here
        ∙ ap (λ j. option_and_then (entry_through (deepest - length (is ++ i ∷ [])) records s) (child_with j cs)) (ap (place s) inode.depth_is ∙ both.1))

    child_there : (o : Option (Stored × ℕ)) → child_in i (children_read cs) ≡ o → child_with i cs ≡ option_map (λ (c : Stored × ℕ). offset_of c.0) o
    child_there o e = child_known i cs ∙ ap (option_map (λ (c : Stored × ℕ). offset_of c.0)) e

    pub unread_none : child_in i (children_read cs) ≡ None → IsNothing records a es (is ++ i ∷ [])
    unread_none e s there =
        next_record s there
        ∙ ap (λ c. option_map (λ y. entry.Stored y) (option_map stored_of_entry (option_and_then (entry_through (deepest - length (is ++ i ∷ [])) records s) c))) (child_there None e)

    pub unread_some : (c : Stored × ℕ) → child_in i (children_read cs) ≡ Some c → IsUnreadPart records a es (is ++ i ∷ []) c.0
    unread_some c e =
        let spelled = (child_spelled records (length is) x.reference.at d cs (part es is) inode i c e).0 in
        let long : suc (length is) ≡ length (is ++ i ∷ []) = (let l = long_deeper is i in omega (arith, l)) in
        record {
          asked =
              subst (λ n. IsPartRef records n c.0.reference (part es (is ++ i ∷ []))) long
              (subst (λ (l : Entries). IsPartRef records (suc (length is)) c.0.reference l) (sym (part_deeper es is i)) (record { part = spelled.part; kind = spelled.kind; name = spelled.name }));
          tells = λ s there.
              next_record s there
              ∙ ap (λ o. option_map (λ y. entry.Stored y) (option_map stored_of_entry (option_and_then (entry_through (deepest - length (is ++ i ∷ [])) records s) o))) (child_there (Some c) e);
        }

    pub child_found : (y : Stored) → Some y ≡ option_map (λ (c : Stored × ℕ). c.0) (child_in i (children_read cs)) → IsUnreadPart records a es (is ++ i ∷ []) y
    child_found y e = by (child_in i (children_read cs)) refl e
      where
        by : (o : Option (Stored × ℕ)) → child_in i (children_read cs) ≡ o → Some y ≡ option_map (λ (c : Stored × ℕ). c.0) o → IsUnreadPart records a es (is ++ i ∷ []) y
        by None f g = no_some y (sym g)
        by (Some c) f g = subst (IsUnreadPart records a es (is ++ i ∷ [])) (some_same c.0 y (sym g)) (unread_some c f)

    pub child_lost : None ≡ option_map (λ (c : Stored × ℕ). c.0) (child_in i (children_read cs)) → IsNothing records a es (is ++ i ∷ [])
    child_lost e = unread_none (by (child_in i (children_read cs)) e)
      where
        by : (o : Option (Stored × ℕ)) → None ≡ option_map (λ (c : Stored × ℕ). c.0) o → o ≡ None
        by None g = refl
        by (Some c) g = no_some c.0 g

  -- ---- with what their records hold

  pub opened_fetched : (q : Piece) (k : Content) → OpenedIs records a es is q (Some k) → (x : Stored) × IsUnreadPart records a es is x × (records x.reference.at ≡ Some (record_of k))
  opened_fetched piece.Nothing k at = absurd at
  opened_fetched (piece.Unread x) k at = (x, at.0, at.1)
  opened_fetched (piece.Read d p) k at = absurd at

  -- ---- a child of a part that was read

  module _ (d : Dir Node Stored) (p : Part Stored) (read : IsRead records a es is d p) (known : Option Stored) (count : ℕ) (children : Vec (Part Stored) Global) (same : p ≡ variant.Inode known count children) where
    out : out-Part Stored p ≡ layer.Inode known count children
    unfolding out-Part denote.Hole.Carrier.out
    out = ap (out-Part Stored) same ∙ search (rules, whole.the_lemmas)

    pub held_child : length is < 51 → (i : ℕ) (c : Part Stored) → slice_get children.items i ≡ Some c → IsHeld records a es (is ++ i ∷ []) d c
    held_child low i c at =
        let more : deepest - length is ≡ suc (deepest - (length is + 1)) = omega (arith, low) in
        let shape = child_shape (deepest - length is) (deepest - (length is + 1)) (length is) (part es is) p more read.held.shape known count children same i c at in
        record {
          steps = read.held.steps;
          parts = read.held.parts;
          shape =
              subst (λ n. IsPart (deepest - n) n (steps_of (part es (is ++ i ∷ []))) c) (sym (long_deeper is i))
              (subst (λ (l : Entries). IsPart (deepest - (length is + 1)) (length is + 1) (steps_of l) c) (sym (part_deeper es is i)) shape);
          unread = λ q.
              ap (λ l. unread_in l (root_of d)) (append_assoc is (i ∷ []) q) ∙ read.held.unread (i ∷ q) ∙ ap (unread_in (i ∷ q)) same ∙ unread_child known count children i q ∙ ap (option_and_then (unread_in q)) at;
          tells = read.held.tells;
        }
