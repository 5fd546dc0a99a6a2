-- What walks through the records of a directory find.
--     entry_stored      what an entry refers to
--     step_down, same_finds      one inode down the same is found
--     through      the entry at a step is found
--     part_given      what is found at indexes is a part, and the record spells it
use Rattle.std.proofs.Common.{◌≡◌, ℕ, zero, suc, ◌+◌, Bool, true, false, List, [], ◌∷◌, length, refl, sym, ap, subst, ◌∙◌, Option, Some, None, cond, arith}
use Rattle.std.specs.Prelude.{is_some, IsFalse, option_and_then, option_map}
use Rattle.std.proofs.lemmas.Bool.{false≢true, eq-eqb}
use Rattle.std.specs.FinMap.Entries.{find}
use Rattle.ip_spec.specs.Map.{get}
use Rattle.ip_spec.specs.Path.{Bytes, Step, bytes_cmp, same_bytes}
use Rattle.ip_spec.specs.declared.record.Record.{Record}
use Rattle.ip_spec.specs.declared.record.LeafEntry.{LeafEntry}
use Rattle.ip_spec.specs.declared.record.InodeChild.{InodeChild}
use Rattle.ip_spec.specs.Record.{Child}
use Rattle.ip_spec.specs.Tree.{Tree, is_contents}
use Rattle.ip_spec.specs.Shape.{Entries, place, at_place, part_from, child_by, child_of, root_name}
use Rattle.ip_spec.specs.StoredParts.{child_with, entry_by, entry_named, entry_through, part_at, part_by}
use Rattle.ip_spec.specs.TreeAt.{EntriesAt, EntryAt, PartAt, contents_at, directory_at, no_entries, entry_first, leaf_at, inode_at}
use Rattle.ip_spec.specs.View.{is_part_from}
use Rattle.ip_spec.proofs.Naming.{root_name-entries}
use Rattle.ip_shape.specs.Reading.{child_in}
use Rattle.ip_tree.specs.Meaning.{StoredIs, contents_in, directory_in}
use Rattle.ip_tree.specs.Known.{offset_of}
use Rattle.ip_tree.specs.Reads.{FindsEntry, children_read, stored_of_entry}
use Rattle.ip_tree.specs.declared.node.Stored.{Stored}
use Rattle.ip_tree.proofs.Indexes.{no_some, some_same}
use Rattle.ip_tree.proofs.PartEntries.{found_at}
use Rattle.ip_tree.proofs.PartRecords.{IsInode, above_deepest, child_known, child_none, child_small, child_spelled}
use Rattle.ip_tree.proofs.PartWays.{is_part_below}
use Rattle.ip_tree.proofs.TreeHeights.{directory_height}

child_of_directory : (sub : Tree) → IsFalse (is_contents sub) → child_of sub ≡ (2, root_name sub)
child_of_directory sub h = by (get sub []) refl
  where
    by : (o : Option Bytes) → get sub [] ≡ o → child_of sub ≡ (2, root_name sub)
    by None e = ap (λ o. child_by o sub) e
    by (Some x) e = absurd (false≢true (sym h ∙ ap is_some e))

module _ (records : ℕ → Option Record) where
  pub record EntryIs (e : LeafEntry) (x : Step × Tree) : Type 0 where
    pub step : e.step ≡ x.0
    pub means : StoredIs records (stored_of_entry e) x.1

  pub entry_stored : {at : ℕ} {e : LeafEntry} {x : Step × Tree} → EntryAt records at e x → EntryIs e x
  entry_stored (contents_at {e = e} bytes below is height child) = record { step = refl; means = contents_in bytes is height child }
  entry_stored (directory_at {e = e} sub below part directory some height child) =
      let both : ◌≡◌ {A = Child} (e.kind, e.name) (2, root_name sub) = child ∙ child_of_directory sub directory in record {
        step = refl;
        means = directory_in sub record { directory = directory; some = some } record {
          part = part;
          kind = ap (λ (c : Child). c.0) both;
          name = ap (λ (c : Child). c.1) both ∙ root_name-entries sub;
          height = height ∙ directory_height sub directory;
        };
      }

  pub named : {at : ℕ} {fields : List LeafEntry} {xs : Entries} → EntriesAt records at fields xs → (s : Step) → FindsEntry records xs s (option_map stored_of_entry (entry_named s fields))
  named no_entries s = refl
  named (entry_first {e = e} {x = x} {es = es} {xs = xs} first rest) s =
      subst (λ b. FindsEntry records (x ∷ xs) s (option_map stored_of_entry (cond b (Some e) (entry_named s es)))) (ap (same_bytes s) (sym is.step)) (by (named rest s) (same_bytes s x.0) refl)
    where
      is : EntryIs e x
      is = entry_stored first

      later : (o : Option Stored) → same_bytes s x.0 ≡ false → FindsEntry records xs s o → FindsEntry records (x ∷ xs) s o
      later None f found = ap (λ b. cond b (Some x.1) (find bytes_cmp s xs)) f ∙ found
      later (Some y) f found = (found.0, ap (λ b. cond b (Some x.1) (find bytes_cmp s xs)) f ∙ found.1, found.2)

      by : FindsEntry records xs s (option_map stored_of_entry (entry_named s es)) → (b : Bool) → same_bytes s x.0 ≡ b → FindsEntry records (x ∷ xs) s (option_map stored_of_entry (cond b (Some e) (entry_named s es)))
      by deeper true f = (x.1, ap (λ b. cond b (Some x.1) (find bytes_cmp s xs)) f, is.means)
      by deeper false f = later (option_map stored_of_entry (entry_named s es)) f deeper

  abbrev Inode : ℕ → ℕ → List InodeChild → Entries → Type 0
  Inode depth at cs es = IsInode records depth at depth cs es

  pub step_down : (depth : ℕ) (es : Entries) (s : Step) → find bytes_cmp s (at_place depth (place s depth) es) ≡ find bytes_cmp s es
  step_down depth es s = found_at depth (place s depth) es s ∙ ap (λ b. cond b (find bytes_cmp s es) None) (eq-eqb (place s depth) (place s depth) refl)

  pub same_finds : (xs ys : Entries) (s : Step) (o : Option Stored) → find bytes_cmp s xs ≡ find bytes_cmp s ys → FindsEntry records xs s o → FindsEntry records ys s o
  same_finds xs ys s None e f = sym e ∙ f
  same_finds xs ys s (Some x) e f = (f.0, sym e ∙ f.1, f.2)

  inode_finds : (levels depth at : ℕ) (cs : List InodeChild) (es : Entries) (s : Step) → Inode depth at cs es
      → ((below : ℕ) → PartAt records (suc depth) below (at_place depth (place s depth) es) → FindsEntry records (at_place depth (place s depth) es) s (option_map stored_of_entry (entry_through levels records s below)))
      → FindsEntry records es s (option_map stored_of_entry (option_and_then (entry_through levels records s) (child_with (place s depth) cs)))
  inode_finds levels depth at cs es s inode deeper =
      subst (λ o. FindsEntry records es s (option_map stored_of_entry (option_and_then (entry_through levels records s) o))) (sym (child_known (place s depth) cs)) (by (child_in (place s depth) (children_read cs)) refl)
    where
      by : (o : Option (Stored × ℕ)) → child_in (place s depth) (children_read cs) ≡ o → FindsEntry records es s (option_map stored_of_entry (option_and_then (entry_through levels records s) (option_map (λ (c : Stored × ℕ). offset_of c.0) o)))
      by None e = sym (step_down depth es s) ∙ ap (find bytes_cmp s) (child_none records depth at depth cs es inode (place s depth) e)
      by (Some c) e =
          same_finds (at_place depth (place s depth) es) es s (option_map stored_of_entry (entry_through levels records s (offset_of c.0))) (step_down depth es s)
          (deeper (offset_of c.0) (child_spelled records depth at depth cs es inode (place s depth) c e).0.part)

  pub through : (levels : ℕ) {depth at : ℕ} {es : Entries} → PartAt records depth at es → levels + depth ≡ 51 → (s : Step) → FindsEntry records es s (option_map stored_of_entry (entry_through levels records s at))
  through zero (leaf_at {es = es} fields is leaf each) sum s = subst (λ o. FindsEntry records es s (option_map stored_of_entry (entry_by (λ at. None) s o))) (sym is) (named each s)
  through (suc levels) (leaf_at {es = es} fields is leaf each) sum s = subst (λ o. FindsEntry records es s (option_map stored_of_entry (entry_by (entry_through levels records s) s o))) (sym is) (named each s)
  through zero (inode_at {depth = depth} {at = at} {es = es} cs is many each) sum s =
      absurd (omega (arith, sum, above_deepest records depth at depth cs es record { depth_is = refl; many = many; children = each }))
  through (suc levels) (inode_at {depth = depth} {at = at} {es = es} cs is many each) sum s =
      subst (λ o. FindsEntry records es s (option_map stored_of_entry (entry_by (entry_through levels records s) s o))) (sym is)
      (inode_finds levels depth at cs es s record { depth_is = refl; many = many; children = each } (λ below part. through levels part (omega (arith, sum)) s))

  -- the record at indexes, from a part on
  pub record PartIs (depth : ℕ) (es : Entries) (is : List ℕ) (o : ℕ) : Type 0 where
    pub spells : PartAt records (depth + length is) o (part_from depth es is)
    pub is_part : is_part_from depth es is ≡ true

  inode_given : (depth at : ℕ) (cs : List InodeChild) (es : Entries) (i : ℕ) (is : List ℕ) (o : ℕ) → Inode depth at cs es
      → ((below : ℕ) → PartAt records (suc depth) below (at_place depth i es) → part_at records is below ≡ Some o → PartIs (suc depth) (at_place depth i es) is o)
      → option_and_then (part_at records is) (child_with i cs) ≡ Some o → PartIs depth es (i ∷ is) o
  inode_given depth at cs es i is o inode deeper e = by (child_in i (children_read cs)) refl (sym (ap (option_and_then (part_at records is)) (child_known i cs)) ∙ e)
    where
      by : (c : Option (Stored × ℕ)) → child_in i (children_read cs) ≡ c → option_and_then (part_at records is) (option_map (λ (c : Stored × ℕ). offset_of c.0) c) ≡ Some o → PartIs depth es (i ∷ is) o
      by None f g = no_some o g
      by (Some c) f g =
          let child = child_spelled records depth at depth cs es inode i c f in
          let below = deeper (offset_of c.0) child.0.part g in
          let next : suc depth + length is ≡ depth + suc (length is) = omega arith in record {
            spells = subst (λ n. PartAt records n o (part_from (suc depth) (at_place depth i es) is)) next below.spells;
            is_part = is_part_below depth i is es record { inode = inode.many; small = child_small records depth at depth cs es inode i c f; some = child.1 } ∙ below.is_part;
          }

  pub part_given : (is : List ℕ) {depth at : ℕ} {es : Entries} (o : ℕ) → PartAt records depth at es → part_at records is at ≡ Some o → PartIs depth es is o
  part_given [] {depth = depth} {at = at} {es = es} o part e =
      let same : depth ≡ depth + 0 = omega arith in
      record { spells = subst (λ d. PartAt records d o es) same (subst (λ a. PartAt records depth a es) (some_same at o e) part); is_part = refl }
  part_given (i ∷ is) o (leaf_at fields here leaf each) e = no_some o (sym (ap (part_by (part_at records is) i) here) ∙ e)
  part_given (i ∷ is) o (inode_at {depth = depth} {at = at} {es = es} cs here many each) e =
      inode_given depth at cs es i is o record { depth_is = refl; many = many; children = each } (λ below part f. part_given is o part f) (sym (ap (part_by (part_at records is) i) here) ∙ e)
