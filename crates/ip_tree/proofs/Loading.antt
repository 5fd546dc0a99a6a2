-- Directories of which a record is read.
--     told_means, told_knows      nothing was read of it but how many entries it has
--     whole_spelled, whole_count      by what the root's record tells
--     step_known      what is known below a step of a record is what is known behind its entry
--     kept_directory      it was not changed
--     same_on      one such call behind another
--     asked      which record spells a part that was not read
--     leaf_stands, leaf_fits, inode_fits      what entering asks of what a record holds
--     leaf_enters, inode_enters      that is entered, or it is as it was
use Rattle.std.proofs.Common.{◌≡◌, ℕ, ◌^◌, ◌-◌, true, List, [], ◌∷◌, map, length, min, T, refl, sym, ap, subst, ◌∙◌, Option, Some, None, cond, arith}
use Rattle.std.specs.Prelude.{IsFalse, Result, Ok, Err, OnOk, OnErr, MatchResult, option_and_then, nat_le, ◌||◌}
use Rattle.std.proofs.lemmas.Bool.{eq-eqb}
use Rattle.std.proofs.lemmas.List.{length-map}
use Rattle.ip_spec.specs.Path.{Step, Path}
use Rattle.ip_spec.specs.declared.record.InodeChild.{InodeChild}
use Rattle.ip_spec.specs.declared.record.LeafEntry.{LeafEntry}
use Rattle.ip_spec.specs.declared.record.Record.{Record}
use Rattle.ip_spec.specs.declared.record.Ref.{Ref}
use Rattle.ip_spec.specs.Record.{Fits}
use Rattle.ip_spec.specs.Shape.{deepest, is_leaf, leaf_limit, part}
use Rattle.ip_spec.specs.StoredParts.{entry_at, entry_through, part_at, stored_at, stored_by, stored_part}
use Rattle.ip_spec.specs.Tree.{Tree, entries_of, is_contents}
use Rattle.ip_spec.specs.TreeAt.{PartAt}
use Rattle.ip_spec.specs.View as view
use Rattle.ip_spec.proofs.Naming.{root_name-entries}
use Rattle.ip_shape.specs.Directory.{IsPartly, entries_from, entries_in, root_of, steps_of}
use Rattle.ip_shape.specs.Loaded.{behind, known_in, unread_in, way_to}
use Rattle.ip_shape.specs.Reading.{AreChildren, IsInodeRead, IsLeafRead, steps_under, in_place, child_unread}
use Rattle.ip_shape.specs.Shape.{AreSteps}
use Rattle.ip_shape.specs.declared.dir.Dir.{Dir}
use Rattle.ip_shape.specs.declared.reading.Child.{Child}
use Rattle.ip_tree.specs.Node as told
use Rattle.ip_tree.specs.Node.{directory, nodes_of, none, steps_in}
use Rattle.ip_tree.specs.Meaning.{NodesAre, Spells, SpellsAt, SpellsPart}
use Rattle.ip_tree.specs.Known.{below_entry, known_at, known_by, knows, unread_entry}
use Rattle.ip_tree.specs.Edits.{IsDirectory, IsReadAt, IsSame}
use Rattle.ip_tree.specs.Shown.{entries_shown, shown_directory}
use Rattle.ip_tree.specs.Reads.{IsPartRef, children_read, content_count, leaf_read, record_of}
use Rattle.ip_tree.specs.Heights.{content_height}
use Rattle.ip_tree.specs.declared.fetch.Content.{Content}
use Rattle.ip_tree.specs.declared.node.Node.{Node}
use Rattle.ip_tree.specs.declared.node.Stored.{Stored}
use Rattle.ip_tree.proofs.ContentTold.{told_count, told_height}
use Rattle.ip_tree.proofs.DirectoryRead.{inode_entered, leaf_entered}
use Rattle.ip_tree.proofs.Indexes.{no_some, same_left, same_record}
use Rattle.ip_tree.proofs.InodeEntered.{inode_asks}
use Rattle.ip_tree.proofs.KnownStands.{long_way}
use Rattle.ip_tree.proofs.LeafEntered.{leaf_few, leaf_steps}
use Rattle.ip_tree.proofs.PartEntries.{ordered_steps}
use Rattle.ip_tree.proofs.PartlyShown.{has_steps, partly, show, steps_show}

-- ---- nothing was read

module _ (records : ℕ → Option Record) where
  below_is : (path : Path) (is : List ℕ) (o : Option LeafEntry) → below_entry records path is o ≡ option_and_then (part_at records is) (stored_by (stored_at records path) o)
  below_is path is None = refl
  below_is path is (Some e) = refl

  pub step_known : (at : ℕ) (s : Step) (path : Path) (is : List ℕ) → below_entry records path is (entry_through deepest records s at) ≡ stored_part records at (s ∷ path) is
  unfolding entry_at
  step_known at s path is = below_is path is (entry_through deepest records s at)

  module _ (x : Stored) (d : Dir Node Stored) (t : Tree) (none_read : entries_in d ≡ []) (one : (is : List ℕ) → (unread_in is (root_of d) ≡ Some (x, is)) × (known_in is (root_of d) ≡ None)) where
    no_nodes : shown_directory d ≡ directory (root_of d) none
    no_nodes = ap (λ (l : List (Step × Node)). directory (root_of d) (nodes_of (map show l))) none_read

    known_there : (path : Path) (is : List ℕ) → known_at records (directory (root_of d) none) path is ≡ stored_part records x.reference.at path is
    known_there [] is = ap (known_by records (known_in is (root_of d))) (one is).0
    known_there (s ∷ path) is =
        ap (λ u. below_entry records path is (unread_entry records s u)) (one (way_to s)).0 ∙ ap (λ n. below_entry records path is (entry_through n records s x.reference.at)) (long_way s) ∙ step_known x.reference.at s path is

    -- it knows what records tell below that record
    pub told_knows : (p : view.Part) → knows records (shown_directory d) p ≡ stored_part records x.reference.at p.path p.indexes
    told_knows p = ap (λ n. knows records n p) no_nodes ∙ known_there p.path p.indexes

    pub told_means : IsFalse (is_contents t) → Spells records x.reference t → SpellsPart records 0 x (entries_of t).entries → IsPartly d (steps_of (entries_of t).entries) [] → IsDirectory records (shown_directory d) t
    told_means no_contents spells whole is_partly = record {
      directory = no_contents;
      steps = has_steps d (steps_of (entries_of t).entries) [] (entries_of t).entries is_partly refl;
      parts = record {
        known = λ is y e. no_some y (sym (one is).1 ∙ e);
        unread = λ is y e. at is y (sym (one is).0 ∙ e);
      };
      nodes = subst (λ (l : List (Step × Node)). NodesAre records (nodes_of (map show l)) (entries_of t).entries) (sym none_read) tt;
    }
      where
        at : (is : List ℕ) (y : Stored) → ◌≡◌ {A = Option (Stored × List ℕ)} (Some (x, is)) (Some (y, [])) → SpellsAt records (entries_of t).entries is y
        at is y e = subst (λ l. SpellsAt records (entries_of t).entries l y) (sym (same_left x y is [] e)) (subst (SpellsAt records (entries_of t).entries []) (same_record x y is [] e) (record { spells = whole; some = tt }))

-- what a root's record spells, with the height that it tells
module _ (records : ℕ → Option Record) (r : Ref) (t : Tree) (spells : Spells records r t) (version : ℕ) (c : Content) (here : records r.at ≡ Some (record_of c)) (fits : Fits version (record_of c)) where
  pub whole_spelled : (x : Stored) → x.reference ≡ r → x.height ≡ content_height c → SpellsPart records 0 x (entries_of t).entries
  whole_spelled x same high = record {
    part = subst (λ (r : Ref). PartAt records 0 r.at (entries_of t).entries) (sym same) spells.part;
    kind = ap (λ (r : Ref). r.kind) same ∙ spells.kind;
    name = ap (λ (r : Ref). r.name) same ∙ spells.name ∙ root_name-entries t;
    height = high ∙ told_height records version 0 r.at (entries_of t).entries c spells.part here fits;
  }

  pub whole_count : (n : ℕ) → n ≡ min (content_count c) (2 ^ 64 - 1) → n ≡ length (steps_of (entries_of t).entries)
  whole_count n is =
      let told = told_count records version 0 r.at (entries_of t).entries c spells.part here fits in
      omega (arith, is, told.count, told.fits, length-map (entries_of t).entries (λ (e : Step × Tree). e.0))

pub steps_ascend : (t : Tree) → AreSteps (steps_of (entries_of t).entries)
steps_ascend t = subst (λ b. T b) (sym (ordered_steps (entries_of t).entries)) (entries_of t).sorted

pub spells_ref : (records : ℕ → Option Record) (r : Ref) (t : Tree) → Spells records r t → IsPartRef records 0 r (entries_of t).entries
spells_ref records r t spells = record { part = spells.part; kind = spells.kind; name = spells.name ∙ root_name-entries t }

-- ---- it was not changed

pub kept_directory : (records : ℕ → Option Record) (d e : Dir Node Stored) (t : Tree) → IsDirectory records (shown_directory d) t → entries_in e ≡ entries_in d → root_of e ≡ root_of d → IsSame (IsDirectory records) records (shown_directory d) (shown_directory e) t
kept_directory records d e t means entries root =
    let same : shown_directory e ≡ shown_directory d = ap (λ r. directory r (nodes_of (entries_shown e))) root ∙ ap (λ (l : List (Step × Node)). directory (root_of d) (nodes_of (map show l))) entries in record {
      means = subst (λ (n : told.Node). IsDirectory records n t) (sym same) means;
      known = λ p. ap (λ n. knows records n p) same;
    }

-- ---- a record is entered

behind_self : (is : List ℕ) → behind is is ≡ Some []
behind_self [] = refl
behind_self (i ∷ is) = ap (λ b. cond b (behind is is) None) (eq-eqb i i refl) ∙ behind_self is

module _ (records : ℕ → Option Record) (d : Dir Node Stored) (t : Tree) (is : List ℕ) (x : Stored) (means : IsDirectory records (shown_directory d) t) (found : unread_in is (root_of d) ≡ Some (x, [])) where
  abbrev Enters : Dir Node Stored → {E : Type 0} → Result (Unit {0}) E → Type 0
  Enters e result = MatchResult result (λ _. IsSame (IsDirectory records) records (shown_directory d) (shown_directory e) t × IsReadAt is (root_of e)) (λ _. IsSame (IsDirectory records) records (shown_directory d) (shown_directory e) t)

  -- the record that is asked for
  pub asked : IsPartRef records (length is) x.reference (part (entries_of t).entries is)
  asked = let at = means.parts.unread is x found in record { part = at.spells.part; kind = at.spells.kind; name = at.spells.name }

  steps : List Step
  steps = steps_of (entries_of t).entries

  pub is_partly : IsPartly d (steps_of (entries_of t).entries) (entries_in d)
  is_partly = partly records d t means

  leaf_is_read : (e : Dir Node Stored) → IsLeafRead is x (root_of d) (root_of e) → IsReadAt is (root_of e)
  leaf_is_read e read y f = no_some (y, []) (sym (ap (in_place (λ rest. None) (unread_in is (root_of d))) (behind_self is)) ∙ sym (read is).0 ∙ f)

  inode_is_read : (e : Dir Node Stored) (cs : List InodeChild) → IsInodeRead is x (children_read cs) (root_of d) (root_of e) → IsReadAt is (root_of e)
  inode_is_read e cs read y f = no_some (y, []) (sym (ap (in_place (child_unread (children_read cs)) (unread_in is (root_of d))) (behind_self is)) ∙ sym (read is).0 ∙ f)

  module _ (fields : List LeafEntry) (given : List (Step × Node)) (here : records x.reference.at ≡ Some (Record.Leaf fields)) (given_is : map show given ≡ leaf_read fields) where
    given_steps : steps_of given ≡ steps_of (leaf_read fields)
    given_steps = sym (steps_show given) ∙ ap (λ (l : List told.Entry). steps_of l) given_is

    pub leaf_stands : steps_of given ≡ steps_under 0 is (steps_of (entries_of t).entries)
    leaf_stands =
        given_steps
        ∙ leaf_steps records (entries_of t).entries (entries_of t).sorted is x fields (root_of d) (root_of d) (steps_in (nodes_of (entries_shown d))) means.steps means.parts found here

    pub leaf_fits : is_leaf (length is) given ≡ true
    leaf_fits =
        let long : length given ≡ length (leaf_read fields) = sym (length-map given show) ∙ ap (λ (l : List told.Entry). length l) given_is in
        ap (λ n. nat_le n leaf_limit || nat_le deepest (length is)) long
        ∙ leaf_few records (entries_of t).entries (entries_of t).sorted is x fields (root_of d) (root_of d) (steps_in (nodes_of (entries_shown d))) means.steps means.parts found here

    pub leaf_enters : {E : Type 0} (e : Dir Node Stored) (result : Result (Unit {0}) E)
        → OnOk result (IsPartly e (steps_of (entries_of t).entries) (entries_from given (entries_in d)) × IsLeafRead is x (root_of d) (root_of e))
        → OnErr result (IsPartly e (steps_of (entries_of t).entries) (entries_in d) × (root_of e ≡ root_of d)) → Enters e result
    leaf_enters e (Ok done) read kept = (leaf_entered records d e t is x means found fields given here given_is read.0 read.1, leaf_is_read e read.1)
    leaf_enters e (Err fault) read kept = kept_directory records d e t means kept.0.0 kept.1

  module _ (depth : ℕ) (cs : List InodeChild) (here : records x.reference.at ≡ Some (Record.Inode depth cs)) where
    pub inode_fits : AreChildren (length is) (steps_under 0 is (steps_of (entries_of t).entries)) (children_read cs)
    inode_fits = inode_asks records (entries_of t).entries is x depth cs (root_of d) means.parts found here

    pub inode_enters : {E : Type 0} (given : List (Child Stored)) → given ≡ children_read cs → (e : Dir Node Stored) (result : Result (Unit {0}) E)
        → OnOk result (IsPartly e (steps_of (entries_of t).entries) (entries_in d) × IsInodeRead is x given (root_of d) (root_of e)) → OnErr result (e ≡ d) → Enters e result
    inode_enters given are e (Ok done) read kept =
        let entered = subst (λ (g : List (Child Stored)). IsInodeRead is x g (root_of d) (root_of e)) are read.1 in
        (inode_entered records d e t is x means found depth cs here read.0 entered, inode_is_read e cs entered)
    inode_enters given are e (Err fault) read kept = kept_directory records d e t means (ap (λ (f : Dir Node Stored). entries_in f) kept) (ap (λ (f : Dir Node Stored). root_of f) kept)
