-- The entry at a step below the record of a part, by that record.
--     leaf_finds, no_child      what is found in a leaf, and where there is none
--     child_asked      the record of the child to which the step goes
--     leaf_through, next_through, none_through      the same through any records
use Rattle.std.proofs.Common.{◌≡◌, ◌≢◌, ℕ, zero, suc, ◌-◌, ◌<◌, List, length, refl, sym, ap, subst, ◌∙◌, Option, Some, None, arith}
use Rattle.std.specs.Prelude.{Contains, option_and_then, option_map, slice_index_or}
use Rattle.std.specs.FinMap.Entries.{find}
use Rattle.ip_spec.specs.Path.{Step, bytes_cmp}
use Rattle.ip_spec.specs.Shape.{Entries, at_place, name_of_part, place}
use Rattle.ip_spec.specs.StoredParts.{child_with, entry_named, entry_through}
use Rattle.ip_spec.specs.TreeAt.{ChildrenAt, PartAt, no_children, child_first, leaf_at, inode_at}
use Rattle.ip_spec.specs.declared.record.InodeChild.{InodeChild}
use Rattle.ip_spec.specs.declared.record.LeafEntry.{LeafEntry}
use Rattle.ip_spec.specs.declared.record.Record.{Record}
use Rattle.ip_spec.specs.declared.record.Ref.{Ref}
use Rattle.ip_shape.specs.Reading.{child_in}
use Rattle.ip_tree.specs.Known.{offset_of}
use Rattle.ip_tree.specs.Reads.{FindsEntry, IsPartRef, children_read, entry_below, ref_of_child, stored_of_entry}
use Rattle.ip_tree.specs.declared.node.Stored.{Stored}
use Rattle.ip_tree.proofs.Indexes.{no_some, some_same}
use Rattle.ip_tree.proofs.LeafEntered.{is_leaf_at}
use Rattle.ip_tree.proofs.MoreRecords.{last_entry, leaf_entry, next_entry}
use Rattle.ip_tree.proofs.PartLookups.{named, step_down}
use Rattle.ip_shape.proofs.PartNames.{named_part}
use Rattle.ip_tree.proofs.PartRecords.{above_deepest, child_known, child_none, child_spelled, is_inode}

module _ (records : ℕ → Option Record) (depth at : ℕ) (es : Entries) (part : PartAt records depth at es) where
  pub leaf_finds : (fields : List LeafEntry) (s : Step) (found : Option Stored) → records at ≡ Some (Record.Leaf fields) → found ≡ option_map stored_of_entry (entry_named s fields) → FindsEntry records es s found
  leaf_finds fields s found here is = subst (FindsEntry records es s) (sym is) (named records (is_leaf_at records fields part here).entries s)

  module _ (d : ℕ) (cs : List InodeChild) (here : records at ≡ Some (Record.Inode d cs)) where
    pub not_deepest : depth < 51
    not_deepest = above_deepest records depth at d cs es (is_inode records d cs part here)

    same_place : (s : Step) → place s d ≡ place s depth
    same_place s = ap (place s) (is_inode records d cs part here).depth_is

    child_there : (s : Step) → option_map (λ (c : Stored × ℕ). offset_of c.0) (child_in (place s depth) (children_read cs)) ≡ child_with (place s d) cs
    child_there s = sym (child_known (place s depth) cs) ∙ ap (λ i. child_with i cs) (sym (same_place s))

    pub no_child : (s : Step) → None ≡ child_with (place s d) cs → find bytes_cmp s es ≡ None
    no_child s none = by (child_in (place s depth) (children_read cs)) refl (child_there s ∙ sym none)
      where
        by : (o : Option (Stored × ℕ)) → child_in (place s depth) (children_read cs) ≡ o → option_map (λ (c : Stored × ℕ). offset_of c.0) o ≡ None → find bytes_cmp s es ≡ None
        by None e f = sym (step_down records depth es s) ∙ ap (find bytes_cmp s) (child_none records depth at d cs es (is_inode records d cs part here) (place s depth) e)
        by (Some c) e f = no_some (offset_of c.0) (sym f)

    -- a child tells the name of what it refers to
    record IsNamed (c : InodeChild) : Type 0 where
      entries : Entries
      spells : PartAt records (suc depth) c.at entries
      name : c.name ≡ name_of_part (suc depth) entries

    child_named : {b : ℕ} {ds : List InodeChild} {xs : List (ℕ × Entries)} → ChildrenAt records depth b ds xs → (k : ℕ) (c : InodeChild) → k < length ds → slice_index_or ds k c ≡ c → IsNamed c
    child_named no_children k c low is = absurd (omega (arith, low))
    child_named (child_first {es = ces} below spells count height name rest) zero c low is = subst IsNamed is (record { entries = ces; spells = spells; name = name })
    child_named (child_first below spells count height name rest) (suc k) c low is = child_named rest k c (omega (arith, low)) is

    there_is : {b n : ℕ} {xs : Entries} → PartAt records n b xs → (r : Record) × (records b ≡ Some r)
    there_is (leaf_at fields is leaf each) = (Record.Leaf fields, is)
    there_is (inode_at {depth = n} children is inode each) = (Record.Inode n children, is)

    same_name : (b : ℕ) (xs ys : Entries) → PartAt records (suc depth) b xs → PartAt records (suc depth) b ys → name_of_part (suc depth) xs ≡ name_of_part (suc depth) ys
    same_name b xs ys one other =
        let r = there_is one in some_same (name_of_part (suc depth) xs) (name_of_part (suc depth) ys) (sym (named_part records one r.0 r.1) ∙ named_part records other r.0 r.1)

    pub child_asked : (s : Step) (r : Ref) → Some r.at ≡ child_with (place s d) cs → (c : InodeChild) × Contains cs c × (r ≡ ref_of_child c) → IsPartRef records (suc depth) r (at_place depth (place s depth) es)
    child_asked s r there from = by (child_in (place s depth) (children_read cs)) refl (child_there s ∙ sym there)
      where
        by : (o : Option (Stored × ℕ)) → child_in (place s depth) (children_read cs) ≡ o → option_map (λ (c : Stored × ℕ). offset_of c.0) o ≡ Some r.at → IsPartRef records (suc depth) r (at_place depth (place s depth) es)
        by None e f = no_some r.at f
        by (Some c) e f =
            let spells = subst (λ b. PartAt records (suc depth) b (at_place depth (place s depth) es)) (some_same (offset_of c.0) r.at f) (child_spelled records depth at d cs es (is_inode records d cs part here) (place s depth) c e).0.part in
            let n = child_named (is_inode records d cs part here).children from.1.0 from.0 from.1.1 from.1.2 in
            let there = subst (λ b. PartAt records (suc depth) b n.entries) (sym (ap (λ (r : Ref). r.at) from.2)) n.spells in record {
              part = spells;
              kind = ap (λ (r : Ref). r.kind) from.2;
              name = ap (λ (r : Ref). r.name) from.2 ∙ n.name ∙ same_name r.at n.entries (at_place depth (place s depth) es) there spells;
            }

-- ---- through any records

module _ (all : ℕ → Option Record) (at : ℕ) (s : Step) where
  pub leaf_through : (levels : ℕ) (fields : List LeafEntry) (found : Option Stored) → all at ≡ Some (Record.Leaf fields) → found ≡ option_map stored_of_entry (entry_named s fields) → found ≡ entry_below all levels at s
  leaf_through levels fields found here is = is ∙ ap (option_map stored_of_entry) (sym (leaf_entry all levels s at fields here))

  pub none_through : (levels d : ℕ) (cs : List InodeChild) → all at ≡ Some (Record.Inode d cs) → None ≡ child_with (place s d) cs → None ≡ entry_below all levels at s
  none_through zero d cs here none = ap (λ o. option_map stored_of_entry (option_and_then (λ (b : ℕ). None) o)) none ∙ ap (option_map stored_of_entry) (sym (last_entry all s at d cs here))
  none_through (suc levels) d cs here none = ap (λ o. option_map stored_of_entry (option_and_then (entry_through levels all s) o)) none ∙ ap (option_map stored_of_entry) (sym (next_entry all levels s at d cs here))

  pub next_through : (levels d b : ℕ) (cs : List InodeChild) (found : Option Stored) → all at ≡ Some (Record.Inode d cs) → Some b ≡ child_with (place s d) cs → found ≡ entry_below all levels b s → found ≡ entry_below all (suc levels) at s
  next_through levels d b cs found here there is =
      is ∙ ap (λ o. option_map stored_of_entry (option_and_then (entry_through levels all s) o)) there ∙ ap (option_map stored_of_entry) (sym (next_entry all levels s at d cs here))
