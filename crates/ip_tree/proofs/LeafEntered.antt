-- A leaf that was read in place of an unread part: the directory knows the same.
--     leaf_steps, leaf_few      what reading it asks
--     leaf_knows      what is known or unread then spells its part
--     leaf_nodes      its nodes mean the entries
--     leaf_same       and the same parts are known
use Rattle.std.proofs.Common.{◌≡◌, ℕ, zero, suc, Bool, true, false, List, [], ◌∷◌, length, filter, refl, sym, ap, subst, ◌∙◌, Option, Some, None, cond, T, arith, ◌≤◌}
use Rattle.std.specs.Option.{option_map_or, option_or}
use Rattle.std.specs.Prelude.{IsSomeAnd, IsTrue, ◌&&◌, is_none, is_some, nat_le, ◌||◌, option_map}
use Rattle.std.proofs.lemmas.Bool.{false≢true}
use Rattle.std.proofs.lemmas.List.{append-nil}
use Rattle.std.specs.FinMap.Entries.{find}
use Rattle.ip_spec.specs.Path.{Step, Path, bytes_cmp, same_bytes}
use Rattle.ip_spec.specs.declared.record.Record.{Record}
use Rattle.ip_spec.specs.declared.record.LeafEntry.{LeafEntry}
use Rattle.ip_spec.specs.declared.record.InodeChild.{InodeChild}
use Rattle.ip_spec.specs.Record.{kind_of}
use Rattle.ip_spec.specs.Shape.{Entries, deepest, is_leaf, leaf_limit, part}
use Rattle.ip_spec.specs.StoredParts.{entry_by, entry_named, entry_through, part_at, part_by}
use Rattle.ip_spec.specs.TreeAt.{EntriesAt, PartAt, no_entries, entry_first, leaf_at, inode_at}
use Rattle.ip_spec.specs.View as view
use Rattle.ip_spec.specs.View.{leads}
use Rattle.ip_shape.specs.Shape.{AreSteps, has}
use Rattle.ip_shape.specs.Directory.{entries_from, steps_of}
use Rattle.ip_shape.specs.Loaded.{behind, known_in, unread_in, way_to}
use Rattle.ip_shape.specs.Reading.{IsLeafRead, in_place, leaf_known, steps_under}
use Rattle.ip_shape.specs.declared.part.Part.{Part}
use Rattle.ip_shape.proofs.Entries.{has_of}
use Rattle.ip_shape.proofs.LeafRead.{on_way, short}
use Rattle.ip_shape.proofs.Members.{has-filter}
use Rattle.ip_tree.specs.Node.{Entry, Node, directory, nodes_of, stored}
use Rattle.ip_tree.specs.Meaning.{HasSteps, KnowsParts, NodesAre, SpellsAt, StoredIs, is_read}
use Rattle.ip_tree.specs.Known.{below_entry, known_at, known_by, known_part, knows, unread_entry}
use Rattle.ip_tree.specs.Reads.{FindsEntry, leaf_read, stored_of_entry}
use Rattle.ip_tree.specs.declared.node.Stored.{Stored}
use Rattle.ip_tree.proofs.Indexes.{behind_is, no_some, some_same, unread_behind}
use Rattle.ip_tree.proofs.PartEntries.{IsOrdered, ordered_steps, part_found, part_ordered, part_steps}
use Rattle.ip_tree.proofs.PartLookups.{entry_stored, named}
use Rattle.ip_tree.proofs.ChildNodes.{Means, found_from, from_each, known_found}

kind_at : Option Record → ℕ
kind_at None = 0
kind_at (Some r) = kind_of r

leaf_of : Option Record → List LeafEntry
leaf_of None = []
leaf_of (Some (Record.Leaf fields)) = fields
leaf_of (Some r) = []

no_inode : {X : Type 0} (o : Option Record) (fs : List LeafEntry) (d : ℕ) (cs : List InodeChild) → o ≡ Some (Record.Leaf fs) → o ≡ Some (Record.Inode d cs) → X
unfolding kind_at
no_inode o fs d cs f g = let e : 2 ≡ 3 = ap kind_at (sym f ∙ g) in absurd (omega (arith, e))

same_leaf : (o : Option Record) (fs gs : List LeafEntry) → o ≡ Some (Record.Leaf fs) → o ≡ Some (Record.Leaf gs) → fs ≡ gs
unfolding leaf_of
same_leaf o fs gs f g = ap leaf_of (sym f ∙ g)

pub record IsLeafAt (records : ℕ → Option Record) (depth at : ℕ) (fields : List LeafEntry) (es : Entries) : Type 0 where
  pub leaf : IsTrue (is_leaf depth es)
  pub entries : EntriesAt records at fields es

pub is_leaf_at : (records : ℕ → Option Record) {depth at : ℕ} {es : Entries} (fields : List LeafEntry) → PartAt records depth at es → records at ≡ Some (Record.Leaf fields) → IsLeafAt records depth at fields es
is_leaf_at records fields (leaf_at {at = at} {es = es} fs is leaf each) here = record { leaf = leaf; entries = subst (λ l. EntriesAt records at l es) (same_leaf (records at) fs fields is here) each }
is_leaf_at records fields (inode_at {depth = depth} {at = at} cs is inode each) here = no_inode (records at) fields depth cs here is

steps_of_leaf : (records : ℕ → Option Record) {at : ℕ} {fields : List LeafEntry} {es : Entries} → EntriesAt records at fields es → steps_of (leaf_read fields) ≡ steps_of es
steps_of_leaf records no_entries = refl
steps_of_leaf records (entry_first {e = e} {x = x} {es = fields} {xs = xs} first rest) =
    ap (λ s. s ∷ steps_of (leaf_read fields)) (entry_stored records first).step ∙ ap (λ ss. x.0 ∷ ss) (steps_of_leaf records rest)

long_leaf : (records : ℕ → Option Record) {at : ℕ} {fields : List LeafEntry} {es : Entries} → EntriesAt records at fields es → length (leaf_read fields) ≡ length es
long_leaf records no_entries = refl
long_leaf records (entry_first first rest) = ap suc (long_leaf records rest)

pub find_read : (s : Step) (fields : List LeafEntry) → find bytes_cmp s (leaf_read fields) ≡ option_map (λ e. stored (stored_of_entry e)) (entry_named s fields)
find_read s [] = refl
find_read s (e ∷ fields) = elim (same_bytes s e.step) as (λ b. cond b (Some (stored (stored_of_entry e))) (find bytes_cmp s (leaf_read fields)) ≡ option_map (λ e. stored (stored_of_entry e)) (cond b (Some e) (entry_named s fields))) [
  | true ↦ refl
  | false ↦ find_read s fields
]

pub if_led : {C : Type 0} (b : Bool) (o : Option C) (x : C) → cond b o None ≡ Some x → o ≡ Some x
if_led true o x e = e
if_led false o x e = no_some x e

module _ (records : ℕ → Option Record) (es : Entries) (ordered : IsOrdered es) (is : List ℕ) (r : Stored) (fields : List LeafEntry) (old new : Part Stored) (read : List Step) (held : HasSteps old read es) (known : KnowsParts records old es)
    (found : unread_in is old ≡ Some (r, [])) (here : records r.reference.at ≡ Some (Record.Leaf fields)) where
  leaf : IsLeafAt records (length is) r.reference.at fields (part es is)
  leaf = is_leaf_at records fields (known.unread is r found).spells.part here

  pub leaf_steps : steps_of (leaf_read fields) ≡ steps_under 0 is (steps_of es)
  leaf_steps = steps_of_leaf records leaf.entries ∙ part_steps 0 is es

  pub leaf_few : is_leaf (length is) (leaf_read fields) ≡ true
  leaf_few = ap (λ n. nat_le n leaf_limit || nat_le deepest (length is)) (long_leaf records leaf.entries) ∙ leaf.leaf

  few : length is ≤ 51
  few = short is deepest 0 r (steps_of es) old held.shape found

  -- what the leaf has at a step is what stands there
  stands : (s : Step) → FindsEntry records (part es is) s (option_map stored_of_entry (entry_named s fields))
  stands s = named records leaf.entries s

  pub leaf_nodes : NodesAre records (nodes_of (leaf_read fields)) es
  leaf_nodes =
      from_each records (leaf_read fields) es (subst AreSteps (sym (steps_of_leaf records leaf.entries)) (subst (λ b. T b) (sym (ordered_steps (part es is))) (part_ordered 0 is es ordered)))
      (λ s n e. by s n (entry_named s fields) (stands s) (sym (find_read s fields) ∙ e))
    where
      by : (s : Step) (n : Node) (o : Option LeafEntry) → FindsEntry records (part es is) s (option_map stored_of_entry o) → option_map (λ e. stored (stored_of_entry e)) o ≡ Some n → Means records es s n
      by s n None f e = no_some n e
      by s n (Some x) f e =
          let at : find bytes_cmp s es ≡ Some f.0 = if_led (leads 0 is s) (find bytes_cmp s es) f.0 (sym (part_found 0 is es s) ∙ f.1) in
          subst (Means records es s) (some_same (stored (stored_of_entry x)) n e) (subst (λ o. IsSomeAnd o (λ sub. StoredIs records (stored_of_entry x) sub)) (sym at) f.2)

  module _ (entered : IsLeafRead is r old new) where
    pub leaf_knows : KnowsParts records new es
    leaf_knows = record { known = λ q x e. known_new q x (behind is q) refl (sym (entered q).1 ∙ e); unread = λ q x e. unread_new q x (behind is q) (sym (entered q).0 ∙ e) }
      where
        known_new : (q : List ℕ) (x : Stored) (o : Option (List ℕ)) → behind is q ≡ o → in_place (leaf_known r) (known_in q old) o ≡ Some x → SpellsAt records es q x
        known_new q x None b e = known.known q x e
        known_new q x (Some []) b e = subst (λ l. SpellsAt records es l x) (sym (behind_is is q [] b ∙ append-nil is)) (subst (SpellsAt records es is) (some_same r x e) (known.unread is r found))
        known_new q x (Some (i ∷ rest)) b e = no_some x e

        unread_new : (q : List ℕ) (x : Stored) (o : Option (List ℕ)) → in_place (λ rest. None) (unread_in q old) o ≡ Some (x, []) → SpellsAt records es q x
        unread_new q x None e = known.unread q x e
        unread_new q x (Some rest) e = no_some (x, []) e

    behind_known : (rest : List ℕ) → known_by records (leaf_known r rest) None ≡ part_at records rest r.reference.at
    behind_known [] = refl
    behind_known (i ∷ rest) = ap (part_by (part_at records rest) i) (sym here)

    unread_there : (q rest : List ℕ) → behind is q ≡ Some rest → unread_in q old ≡ Some (r, rest)
    unread_there q rest b = ap (λ l. unread_in l old) (behind_is is q rest b) ∙ unread_behind is rest r old found

    same_part : (q : List ℕ) → known_part records new q ≡ known_part records old q
    same_part q = ap (λ k. known_by records k (unread_in q new)) (entered q).1 ∙ ap (known_by records (in_place (leaf_known r) (known_in q old) (behind is q))) (entered q).0 ∙ by (behind is q) refl
      where
        by : (o : Option (List ℕ)) → behind is q ≡ o → known_by records (in_place (leaf_known r) (known_in q old) o) (in_place (λ rest. None) (unread_in q old) o) ≡ known_by records (known_in q old) (unread_in q old)
        by None b = refl
        by (Some rest) b = behind_known rest ∙ sym (ap (known_by records (known_in q old)) (unread_there q rest b))

    through_leaf : (levels : ℕ) (s : Step) → entry_through levels records s r.reference.at ≡ entry_named s fields
    through_leaf zero s = ap (entry_by (λ at. None) s) here
    through_leaf (suc levels) s = ap (entry_by (entry_through levels records s) s) here

    module _ (ys : List Entry) (are : read ≡ steps_of ys) (s : Step) (path : Path) (indexes : List ℕ) where
      below : Option Node → Option LeafEntry → Option ℕ
      below o e = option_map_or (λ n. known_at records n path indexes) o (below_entry records path indexes e)

      -- nothing of the leaf stands elsewhere
      none_here : leads 0 is s ≡ false → (o : Option LeafEntry) → FindsEntry records (part es is) s (option_map stored_of_entry o) → o ≡ None
      none_here away None f = refl
      none_here away (Some e) f = no_some f.0 (sym (part_found 0 is es s ∙ ap (λ b. cond b (find bytes_cmp s es) None) away) ∙ f.1)

      -- and nothing was read there
      none_read : (rest : List ℕ) → behind is (way_to s) ≡ Some rest → find bytes_cmp s ys ≡ None
      none_read rest b = by (find bytes_cmp s ys) refl
        where
          both_first : (a c : Bool) → (a && c) ≡ true → a ≡ true
          both_first true c e = refl
          both_first false c e = e

          by : (o : Option Node) → find bytes_cmp s ys ≡ o → o ≡ None
          by None e = refl
          by (Some n) e =
              let in_read : has s (filter (is_read old) (steps_of es)) ≡ true = ap (has s) (sym held.held ∙ are) ∙ has_of s ys ∙ ap is_some e in
              let reads : is_none (unread_in (way_to s) old) ≡ true = both_first (is_none (unread_in (way_to s) old)) (has s (steps_of es)) (sym (has-filter (is_read old) s (steps_of es)) ∙ in_read) in
              absurd (false≢true (sym (ap is_none (unread_there (way_to s) rest b)) ∙ reads))

      same_below : below (find bytes_cmp s (entries_from (leaf_read fields) ys)) (unread_entry records s (unread_in (way_to s) new)) ≡ below (find bytes_cmp s ys) (unread_entry records s (unread_in (way_to s) old))
      unfolding below
      same_below =
          ap (λ o. below o (unread_entry records s (unread_in (way_to s) new))) (found_from (leaf_read fields) ys s ∙ ap (λ o. option_or o (find bytes_cmp s ys)) (find_read s fields))
          ∙ ap (λ u. below (option_or (option_map (λ e. stored (stored_of_entry e)) (entry_named s fields)) (find bytes_cmp s ys)) (unread_entry records s u)) (entered (way_to s)).0
          ∙ by (behind is (way_to s)) refl
        where
          inside : (o : Option LeafEntry) → below (option_or (option_map (λ e. stored (stored_of_entry e)) o) None) None ≡ below None o
          inside None = refl
          inside (Some e) = refl

          by : (o : Option (List ℕ)) → behind is (way_to s) ≡ o
              → below (option_or (option_map (λ e. stored (stored_of_entry e)) (entry_named s fields)) (find bytes_cmp s ys)) (unread_entry records s (in_place (λ rest. None) (unread_in (way_to s) old) o))
              ≡ below (find bytes_cmp s ys) (unread_entry records s (unread_in (way_to s) old))
          by None b =
              ap (λ e. below (option_or (option_map (λ e. stored (stored_of_entry e)) e) (find bytes_cmp s ys)) (unread_entry records s (unread_in (way_to s) old)))
              (none_here (sym (on_way is s few) ∙ ap is_some b) (entry_named s fields) (stands s))
          by (Some rest) b =
              ap (λ o. below (option_or (option_map (λ e. stored (stored_of_entry e)) (entry_named s fields)) o) None) (none_read rest b)
              ∙ inside (entry_named s fields)
              ∙ ap (below None) (sym (through_leaf (length rest) s) ∙ sym (ap (unread_entry records s) (unread_there (way_to s) rest b)))
              ∙ ap (λ o. below o (unread_entry records s (unread_in (way_to s) old))) (sym (none_read rest b))

      pub leaf_same_below : known_at records (directory new (nodes_of (entries_from (leaf_read fields) ys))) (s ∷ path) indexes ≡ known_at records (directory old (nodes_of ys)) (s ∷ path) indexes
      unfolding below
      leaf_same_below =
          known_found records (entries_from (leaf_read fields) ys) s path indexes (below_entry records path indexes (unread_entry records s (unread_in (way_to s) new))) ∙ same_below
          ∙ sym (known_found records ys s path indexes (below_entry records path indexes (unread_entry records s (unread_in (way_to s) old))))

    same_at : (ys : List Entry) → read ≡ steps_of ys → (path : Path) (indexes : List ℕ) → known_at records (directory new (nodes_of (entries_from (leaf_read fields) ys))) path indexes ≡ known_at records (directory old (nodes_of ys)) path indexes
    same_at ys are [] indexes = same_part indexes
    same_at ys are (s ∷ path) indexes = leaf_same_below ys are s path indexes

    pub leaf_same : (ys : List Entry) → read ≡ steps_of ys → (p : view.Part) → knows records (directory new (nodes_of (entries_from (leaf_read fields) ys))) p ≡ knows records (directory old (nodes_of ys)) p
    leaf_same ys are p = same_at ys are p.path p.indexes
