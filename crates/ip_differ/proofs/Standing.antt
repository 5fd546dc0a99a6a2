-- What a place tells of the steps below it stands there.
--     place_finds      of any place
use Rattle.std.proofs.Common.{◌≡◌, ◌≢◌, ℕ, ◌+◌, ◌-◌, ◌≤◌, Bool, true, false, List, [], ◌∷◌, ◌++◌, length, take, drop, refl, sym, ap, subst, ◌∙◌, Option, Some, None, arith, cond}
use Rattle.std.proofs.lemmas.Bool.{false≢true}
use Rattle.std.specs.Option.{option_or}
use Rattle.std.specs.Prelude.{◌==◌, ◌&&◌, is_none, is_some, option_map}
use Rattle.std.specs.FinMap.Entries.{find}
use Rattle.ip_spec.specs.Path.{Path, Step, bytes_cmp}
use Rattle.ip_spec.specs.Shape.{Entries, deepest}
use Rattle.ip_spec.specs.StoredParts.{entry_through}
use Rattle.ip_spec.specs.Tree.{entries_of, subtree}
use Rattle.ip_spec.specs.View.{View}
use Rattle.ip_spec.specs.declared.record.LeafEntry.{LeafEntry}
use Rattle.ip_spec.specs.declared.record.Record.{Record}
use Rattle.ip_shape.specs.Directory.{entries_in, root_of, steps_of}
use Rattle.ip_shape.specs.Loaded.{unread_in, way_to}
use Rattle.ip_shape.specs.Shape.{has}
use Rattle.ip_shape.specs.declared.dir.Dir.{Dir}
use Rattle.ip_shape.proofs.Entries.{has_of}
use Rattle.ip_shape.proofs.LeafRead.{short}
use Rattle.ip_shape.proofs.Members.{has-filter}
use Rattle.ip_tree.specs.Finding.{FindsIn, IsPlaceOf, as_node}
use Rattle.ip_tree.specs.Known.{unread_entry}
use Rattle.ip_tree.specs.Meaning.{HasSteps, is_read}
use Rattle.ip_tree.specs.Node as view
use Rattle.ip_tree.specs.Node.{nodes_of, steps_in}
use Rattle.ip_tree.specs.Reads.{entry_below, stored_of_entry}
use Rattle.ip_tree.specs.Shown.{entries_shown, shown, shown_directory}
use Rattle.ip_tree.specs.declared.look.Place.{Place}
use Rattle.ip_tree.specs.declared.look.Place.TheVariants as place
use Rattle.ip_tree.specs.declared.node.Node.{Node}
use Rattle.ip_tree.specs.declared.node.Stored.{Stored}
use Rattle.ip_tree.proofs.Found.{asked_below, directory_ref, found_below, found_node, found_nothing, found_stored, nothing_in, step_contents, step_stored}
use Rattle.ip_tree.proofs.Indexes.{Unread, first_unread}
use Rattle.ip_tree.proofs.KnownStands.{long_way}
use Rattle.ip_tree.proofs.PartLookups.{through}
use Rattle.ip_tree.proofs.PartlyShown.{steps_shown}
use Rattle.ip_differ.specs.Differing.{IsDirectoryAt, entry_in, node_at, read_in}
use Rattle.ip_differ.specs.Pieces.{at_place, below_record, in_directory, read_entry, stored_entry}
use Rattle.ip_differ.specs.declared.pairs.Entry.TheVariants as entry
use Rattle.ip_differ.proofs.Indexed.{long_behind}

-- an entry of a leaf, not read
pub as_stored : (o : Option LeafEntry) → option_map stored_entry o ≡ option_map (λ y. entry.Stored y) (option_map stored_of_entry o)
as_stored None = refl
as_stored (Some e) = refl

-- and as a node
entry_stored : (o : Option Place) (s : Step) (x : Option Stored) → entry_in o s (option_map (λ y. entry.Stored y) x) ≡ option_map view.stored x
entry_stored o s None = refl
entry_stored o s (Some x) = refl

pub take_front : (front rest : List ℕ) → take (length front) (front ++ rest) ≡ front
take_front [] rest = refl
take_front (i ∷ front) rest = ap (λ (l : List ℕ). i ∷ l) (take_front front rest)

pub drop_front : (front rest : List ℕ) → drop (length front) (front ++ rest) ≡ rest
drop_front [] rest = refl
drop_front (i ∷ front) rest = drop_front front rest

-- a step that was read stands on a way that was read
module _ (d : Dir Node Stored) (es : Entries) (steps : HasSteps (root_of d) (steps_in (nodes_of (entries_shown d))) es) (s : Step) where
  pub has_read : is_some (find bytes_cmp s (entries_in d)) ≡ (is_none (unread_in (way_to s) (root_of d)) && has s (steps_of es))
  has_read =
      sym (has_of s (entries_in d)) ∙ ap (has s) (sym (steps_shown d)) ∙ ap (has s) steps.held ∙ has-filter (is_read (root_of d)) s (steps_of es)

  pub none_read : (u : Stored × List ℕ) → unread_in (way_to s) (root_of d) ≡ Some u → find bytes_cmp s (entries_in d) ≡ None
  none_read u e = by (find bytes_cmp s (entries_in d)) (has_read ∙ ap (λ o. is_none o && has s (steps_of es)) e)
    where
      by : (o : Option Node) → is_some o ≡ false → o ≡ None
      by None f = refl
      by (Some n) f = absurd (false≢true (sym f))

module _ (records : ℕ → Option Record) (w : View) (p : Path) (s : Step) where
  module _ (d : Dir Node Stored) (is : IsPlaceOf records w p (shown_directory d)) where
    es : Entries
    es = (entries_of (subtree w.map p)).entries

    behind_unread : (x : Stored) (rest : List ℕ) → unread_in (way_to s) (root_of d) ≡ Some (x, rest) → find bytes_cmp s (entries_in d) ≡ None → Unread (way_to s) x rest (root_of d)
        → FindsIn records w (p ++ s ∷ []) (option_map view.stored (option_map stored_of_entry (entry_through (length rest) records s x.reference.at)))
    behind_unread x rest e none u =
        let depth = length u.front in
        let low : depth ≤ deepest = short u.front deepest 0 x (steps_of (entries_of (subtree w.map p)).entries) (root_of d) is.0.steps.shape u.found in
        let at_way : unread_in (way_to s) (root_of d) ≡ Some (x, drop depth (way_to s)) = e ∙ ap (λ l. Some (x, l)) (sym (ap (drop depth) u.whole ∙ drop_front u.front rest)) in
        let front : unread_in (take depth (way_to s)) (root_of d) ≡ Some (x, []) = ap (λ l. unread_in l (root_of d)) (ap (take depth) u.whole ∙ take_front u.front rest) ∙ u.found in
        let asked = asked_below records d w p s is x depth low at_way front in
        let left : length rest ≡ deepest - depth = left_of u.front rest (ap (λ (l : List ℕ). length l) (sym u.whole) ∙ long_way s) in
        let sum : (deepest - depth) + depth ≡ 51 = omega (arith, low) in
        let below = found_below records d w p s is x depth low at_way front none (entry_below records (deepest - depth) x.reference.at s) refl (through records (deepest - depth) asked.part sum s) in
        subst (λ n. FindsIn records w (p ++ s ∷ []) (option_map view.stored (option_map stored_of_entry (entry_through n records s x.reference.at)))) (sym left) below
      where
        left_of : (front rest : List ℕ) → length (front ++ rest) ≡ 51 → length rest ≡ deepest - length front
        left_of front rest e = let both = long_behind front rest in omega (arith, both, e)

    -- what is told of it, as a node
    pub directory_finds : (o : Option Place) → read_in o s ≡ node_at d s → FindsIn records w (p ++ s ∷ []) (entry_in o s (in_directory records d s))
    directory_finds o read = by (find bytes_cmp s (entries_in d)) refl
      where
        at_unread : (u : Option (Stored × List ℕ)) → unread_in (way_to s) (root_of d) ≡ u → find bytes_cmp s (entries_in d) ≡ None
            → FindsIn records w (p ++ s ∷ []) (entry_in o s (option_map stored_entry (unread_entry records s u)))
        at_unread None e none =
            found_nothing records d w p s is
            (sym (has_read d (entries_of (subtree w.map p)).entries is.0.steps s ∙ ap (λ o. is_none o && has s (steps_of (entries_of (subtree w.map p)).entries)) e) ∙ ap is_some none)
        at_unread (Some u) e none =
            subst (FindsIn records w (p ++ s ∷ []))
            (sym
            (ap (entry_in o s) (as_stored (entry_through (length u.1) records s u.0.reference.at))
            ∙ entry_stored o s (option_map stored_of_entry (entry_through (length u.1) records s u.0.reference.at))))
            (behind_unread u.0 u.1 e none (first_unread (way_to s) u.0 u.1 (root_of d) e))

        by : (q : Option Node) → find bytes_cmp s (entries_in d) ≡ q
            → FindsIn records w (p ++ s ∷ []) (entry_in o s (option_or (option_map read_entry q) (option_map stored_entry (unread_entry records s (unread_in (way_to s) (root_of d))))))
        by None e = at_unread (unread_in (way_to s) (root_of d)) refl e
        by (Some n) e = subst (FindsIn records w (p ++ s ∷ [])) (sym (read ∙ ap (option_map shown) e)) (found_node records d w p s is n e)

  stored_finds : (o : Option Place) (x : Stored) → IsPlaceOf records w p (view.stored x) → FindsIn records w (p ++ s ∷ []) (entry_in o s (cond (x.reference.kind == 1) None (below_record records deepest x s)))
  stored_finds o x is = by (x.reference.kind == 1) refl
    where
      by : (b : Bool) → (x.reference.kind == 1) ≡ b → FindsIn records w (p ++ s ∷ []) (entry_in o s (cond b None (below_record records deepest x s)))
      by true e = step_stored records w p s x None is (nothing_in records x.reference (subtree w.map p) s (grind arith) is.0)
      by false e =
          let other : x.reference.kind ≢ 1 = λ same. false≢true (sym e ∙ ap (λ k. k == 1) same) in
          let asked = (directory_ref records x.reference (subtree w.map p) other is.0).asked in
          subst (FindsIn records w (p ++ s ∷ [])) (sym (entry_stored o s (entry_below records deepest x.reference.at s)))
          (step_stored records w p s x (entry_below records deepest x.reference.at s) is
          (found_stored records x.reference (subtree w.map p) s (entry_below records deepest x.reference.at s) refl (through records deepest asked.part refl s)))

  pub place_finds : (o : Option Place) → IsDirectoryAt records w p (option_map as_node o) → FindsIn records w (p ++ s ∷ []) (entry_in o s (at_place records o s))
  place_finds None is = is s
  place_finds (Some (place.Stored x)) is = stored_finds (Some (place.Stored x)) x is
  place_finds (Some (place.Contents b)) is = step_contents records w p s b.now is
  place_finds (Some (place.Directory d)) is = directory_finds d.now is (Some (place.Directory d)) refl
