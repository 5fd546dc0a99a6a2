-- An inode that was read in place of an unread part: the directory knows the same.
--     inode_asks      what reading it asks
--     inode_knows      what is known or unread then spells its part
--     inode_same       and the same parts are known
use Rattle.std.proofs.Common.{◌≡◌, ℕ, suc, ◌<◌, List, [], ◌∷◌, ◌++◌, length, refl, sym, ap, subst, ◌∙◌, Option, Some, None}
use Rattle.std.specs.Prelude.{option_and_then, option_map}
use Rattle.std.proofs.lemmas.List.{append-nil}
use Rattle.ip_spec.specs.Path.{Step, Path}
use Rattle.ip_spec.specs.declared.record.Record.{Record}
use Rattle.ip_spec.specs.declared.record.InodeChild.{InodeChild}
use Rattle.ip_spec.specs.declared.record.LeafEntry.{LeafEntry}
use Rattle.ip_spec.specs.Shape.{Entries, place, part}
use Rattle.ip_spec.specs.StoredParts.{child_with, entry_by, entry_through, part_at, part_by}
use Rattle.ip_spec.specs.View as view
use Rattle.ip_shape.specs.Loaded.{behind, known_in, unread_in, way_to}
use Rattle.ip_shape.specs.Directory.{steps_of}
use Rattle.ip_shape.specs.Reading.{AreChildren, IsInodeRead, steps_under, child_in, child_unread, in_place, leaf_known}
use Rattle.ip_shape.specs.declared.part.Part.{Part}
use Rattle.ip_tree.specs.Node.{Nodes, directory}
use Rattle.ip_tree.specs.Meaning.{HasEntries, KnowsParts, SpellsAt, SpellsPart}
use Rattle.ip_tree.specs.Known.{below_entry, known_among, known_at, known_by, known_part, knows, offset_of, unread_entry}
use Rattle.ip_tree.specs.Reads.{children_read}
use Rattle.ip_tree.specs.declared.node.Stored.{Stored}
use Rattle.ip_tree.proofs.Indexes.{behind_is, no_some, same_left, same_record, some_same, unread_behind, way_next}
use Rattle.ip_tree.proofs.PartEntries.{part_deeper, part_steps}
use Rattle.ip_tree.proofs.PartRecords.{IsInode, is_inode, child_known, child_spelled, inode_children}

abbrev no_entry : Option LeafEntry
no_entry = None

one_longer : (is : List ℕ) (i : ℕ) → length (is ++ i ∷ []) ≡ suc (length is)
one_longer [] i = refl
one_longer (j ∷ is) i = ap suc (one_longer is i)

pub has_entries : (es : Entries) (is : List ℕ) → 0 < length (part es is) → HasEntries es is
has_entries es [] some = tt
has_entries es (i ∷ is) some = some

module _ (records : ℕ → Option Record) (es : Entries) (is : List ℕ) (r : Stored) (d : ℕ) (cs : List InodeChild) (old : Part Stored) (known : KnowsParts records old es) (found : unread_in is old ≡ Some (r, [])) (here : records r.reference.at ≡ Some (Record.Inode d cs)) where
  inode_is : IsInode records (length is) r.reference.at d cs (part es is)
  inode_is = is_inode records d cs (known.unread is r found).spells.part here

  pub inode_asks : AreChildren (length is) (steps_under 0 is (steps_of es)) (children_read cs)
  inode_asks = subst (λ (ss : List Step). AreChildren (length is) ss (children_read cs)) (part_steps 0 is es) (inode_children records (length is) r.reference.at d cs (part es is) inode_is)

module _ (records : ℕ → Option Record) (es : Entries) (is : List ℕ) (r : Stored) (d : ℕ) (cs : List InodeChild) (old new : Part Stored) (known : KnowsParts records old es) (found : unread_in is old ≡ Some (r, []))
    (here : records r.reference.at ≡ Some (Record.Inode d cs)) (read : IsInodeRead is r (children_read cs) old new) where
  inode : IsInode records (length is) r.reference.at d cs (part es is)
  inode = inode_is records es is r d cs old known found here

  child_is : (i : ℕ) (c : Stored × ℕ) → child_in i (children_read cs) ≡ Some c → SpellsAt records es (is ++ i ∷ []) c.0
  child_is i c e =
      let there = child_spelled records (length is) r.reference.at d cs (part es is) inode i c e in record {
        spells = subst (λ n. SpellsPart records n c.0 (part es (is ++ i ∷ []))) (sym (one_longer is i)) (subst (SpellsPart records (suc (length is)) c.0) (sym (part_deeper es is i)) there.0);
        some = has_entries es (is ++ i ∷ []) (subst (λ (l : Entries). 0 < length l) (sym (part_deeper es is i)) there.1);
      }

  pub inode_knows : KnowsParts records new es
  inode_knows = record { known = λ q x e. known_new q x (behind is q) refl (sym (read q).1 ∙ e); unread = λ q x e. unread_new q x (behind is q) refl (sym (read q).0 ∙ e) }
    where
      known_new : (q : List ℕ) (x : Stored) (o : Option (List ℕ)) → behind is q ≡ o → in_place (leaf_known r) (known_in q old) o ≡ Some x → SpellsAt records es q x
      known_new q x None b e = known.known q x e
      known_new q x (Some []) b e = subst (λ l. SpellsAt records es l x) (sym (behind_is is q [] b ∙ append-nil is)) (subst (SpellsAt records es is) (some_same r x e) (known.unread is r found))
      known_new q x (Some (i ∷ rest)) b e = no_some x e

      child : (q : List ℕ) (x : Stored) (i : ℕ) (rest : List ℕ) (c : Option (Stored × ℕ)) → q ≡ is ++ i ∷ rest → child_in i (children_read cs) ≡ c → option_map {U = Stored × List ℕ} (λ c. (c.0, rest)) c ≡ Some (x, []) → SpellsAt records es q x
      child q x i rest None whole is_child e = no_some (x, []) e
      child q x i rest (Some c) whole is_child e =
          subst (λ l. SpellsAt records es l x) (sym (whole ∙ ap (λ (l : List ℕ). is ++ i ∷ l) (same_left c.0 x rest [] e))) (subst (SpellsAt records es (is ++ i ∷ [])) (same_record c.0 x rest [] e) (child_is i c is_child))

      unread_new : (q : List ℕ) (x : Stored) (o : Option (List ℕ)) → behind is q ≡ o → in_place (child_unread (children_read cs)) (unread_in q old) o ≡ Some (x, []) → SpellsAt records es q x
      unread_new q x None b e = known.unread q x e
      unread_new q x (Some []) b e = no_some (x, []) e
      unread_new q x (Some (i ∷ rest)) b e = child q x i rest (child_in i (children_read cs)) (behind_is is q (i ∷ rest) b) refl e

  -- behind the inode, as its record tells it
  behind_known : (rest : List ℕ) → known_by records (leaf_known r rest) (child_unread (children_read cs) rest) ≡ part_at records rest r.reference.at
  behind_known [] = refl
  behind_known (i ∷ rest) =
      by (child_in i (children_read cs)) ∙ ap (option_and_then (part_at records rest)) (sym (child_known i cs)) ∙ ap (part_by (part_at records rest) i) (sym here)
    where
      by : (o : Option (Stored × ℕ)) → known_by records None (option_map {U = Stored × List ℕ} (λ c. (c.0, rest)) o) ≡ option_and_then (part_at records rest) (option_map (λ (c : Stored × ℕ). offset_of c.0) o)
      by None = refl
      by (Some c) = refl

  same_part : (q : List ℕ) → known_part records new q ≡ known_part records old q
  same_part q = ap (λ k. known_by records k (unread_in q new)) (read q).1 ∙ ap (known_by records (in_place (leaf_known r) (known_in q old) (behind is q))) (read q).0 ∙ by (behind is q) refl
    where
      by : (o : Option (List ℕ)) → behind is q ≡ o → known_by records (in_place (leaf_known r) (known_in q old) o) (in_place (child_unread (children_read cs)) (unread_in q old) o) ≡ known_by records (known_in q old) (unread_in q old)
      by None b = refl
      by (Some rest) b = behind_known rest ∙ sym (ap (known_by records (known_in q old)) (ap (λ l. unread_in l old) (behind_is is q rest b) ∙ unread_behind is rest r old found))

  behind_entry : (s : Step) (rest : List ℕ) → behind is (way_to s) ≡ Some rest → unread_entry records s (child_unread (children_read cs) rest) ≡ entry_through (length rest) records s r.reference.at
  behind_entry s [] b = by (child_with (place s d) cs) ∙ ap (entry_by (λ at. None) s) (sym here)
    where
      by : (o : Option ℕ) → no_entry ≡ option_and_then (λ (at : ℕ). no_entry) o
      by None = refl
      by (Some at) = refl
  behind_entry s (i ∷ rest) b =
      by (child_in i (children_read cs)) ∙ ap (option_and_then (entry_through (length rest) records s)) (sym (child_known i cs) ∙ ap (λ k. child_with k cs) (way_next is s i rest b ∙ ap (place s) (sym inode.depth_is)))
      ∙ ap (entry_by (entry_through (length rest) records s) s) (sym here)
    where
      by : (o : Option (Stored × ℕ)) → unread_entry records s (option_map {U = Stored × List ℕ} (λ c. (c.0, rest)) o) ≡ option_and_then (entry_through (length rest) records s) (option_map (λ (c : Stored × ℕ). offset_of c.0) o)
      by None = refl
      by (Some c) = refl

  same_entry : (s : Step) → unread_entry records s (unread_in (way_to s) new) ≡ unread_entry records s (unread_in (way_to s) old)
  same_entry s = ap (unread_entry records s) (read (way_to s)).0 ∙ by (behind is (way_to s)) refl
    where
      by : (o : Option (List ℕ)) → behind is (way_to s) ≡ o → unread_entry records s (in_place (child_unread (children_read cs)) (unread_in (way_to s) old) o) ≡ unread_entry records s (unread_in (way_to s) old)
      by None b = refl
      by (Some rest) b = behind_entry s rest b ∙ sym (ap (unread_entry records s) (ap (λ l. unread_in l old) (behind_is is (way_to s) rest b) ∙ unread_behind is rest r old found))

  same_at : (ns : Nodes) (path : Path) (indexes : List ℕ) → known_at records (directory new ns) path indexes ≡ known_at records (directory old ns) path indexes
  same_at ns [] indexes = same_part indexes
  same_at ns (s ∷ path) indexes = ap (λ e. known_among records ns s path indexes (below_entry records path indexes e)) (same_entry s)

  pub inode_same : (ns : Nodes) (p : view.Part) → knows records (directory new ns) p ≡ knows records (directory old ns) p
  inode_same ns p = same_at ns p.path p.indexes
