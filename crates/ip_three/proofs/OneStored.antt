-- What one record spells, in two trees.
--     stored_tree      two references to one offset mean one tree
--     stored_some      below a record that was not read, what stands somewhere is in a record
--     one_stored, one_place      of two trees
--     one_gets, one_directory      so they have the same contents there and below, and each directory in one record
use Rattle.std.proofs.Common.{◌≡◌, ℕ, Bool, true, false, [], ◌∷◌, ◌++◌, refl, sym, ap, subst, ◌∙◌, Option, Some, None, T, eqb→eq}
use Rattle.std.proofs.lemmas.Bool.{both_ways, false≢true, eq-eqb}
use Rattle.std.specs.Prelude.{◌&&◌, ◌||◌, not, is_some, option_and_then, option_map, if◌then◌else◌}
use Rattle.ip_spec.specs.Map.{get}
use Rattle.ip_spec.specs.Path.{Bytes, Path, Step}
use Rattle.ip_spec.specs.Shape.{Entries, deepest}
use Rattle.ip_spec.specs.StoredParts.{entry_at, part_at, stored_at, stored_by, stored_part}
use Rattle.ip_spec.specs.Tree as Tree
use Rattle.ip_spec.specs.Tree.{Tree, entries_of, is_contents, is_empty, subtree}
use Rattle.ip_spec.specs.TreeAt.{PartAt, inode_at, leaf_at}
use Rattle.ip_spec.specs.View.{View, is_nil}
use Rattle.ip_spec.specs.declared.record.LeafEntry.{LeafEntry}
use Rattle.ip_spec.specs.declared.record.Record.{Record}
use Rattle.ip_spec.proofs.Subtrees.{entry_found, entry_lost, get-subtree, subtree_cons}
use Rattle.ip_spec.proofs.Unique.{one_tree}
use Rattle.ip_tree.specs.Finding.{FindsIn}
use Rattle.ip_tree.specs.Meaning.{StoredIs, contents_in, directory_in}
use Rattle.ip_tree.specs.Node.{Node, contents, directory, stored}
use Rattle.ip_tree.specs.Reads.{FindsEntry, stored_of_entry}
use Rattle.ip_tree.specs.declared.node.Stored.{Stored}
use Rattle.ip_tree.proofs.Found.{nothing_below, subtree_on}
use Rattle.ip_tree.proofs.GotAt.{empty_on, some_here}
use Rattle.ip_tree.proofs.PartLookups.{through}
use Rattle.ip_three.specs.Merging.{has_directory, record_at, same_directory, same_number}
use Rattle.ip_three.specs.Walking.{IsOneStored, unread_record}

abbrev bytes_of : Option Record → Bytes
bytes_of None = []
bytes_of (Some (Record.Contents bytes)) = bytes
bytes_of (Some r) = []

abbrev has_bytes : Option Record → Bool
has_bytes None = false
has_bytes (Some (Record.Contents bytes)) = true
has_bytes (Some r) = false

-- nothing stands below nothing
some_front : (t : Tree) (s : Step) (q : Path) → is_empty (subtree t (s ∷ [])) ≡ true → is_empty (subtree t (s ∷ q)) ≡ true
some_front t s q none = ap is_empty (subtree_cons t s q) ∙ empty_on (subtree t (s ∷ [])) q none

module _ (records : ℕ → Option Record) where
  no_part : {depth at : ℕ} {es : Entries} → PartAt records depth at es → has_bytes (records at) ≡ false
  no_part (leaf_at fields is leaf each) = ap has_bytes is
  no_part (inode_at children is inode each) = ap has_bytes is

  pub stored_tree : (x y : Stored) (t u : Tree) → x.reference.at ≡ y.reference.at → StoredIs records x t → StoredIs records y u → t ≡ u
  stored_tree x y t u e (contents_in bytes is low child) (contents_in others is' low' child') = ap Tree.contents (ap bytes_of (sym is ∙ ap records e ∙ is'))
  stored_tree x y t u e (contents_in bytes is low child) (directory_in sub some spells) =
      absurd (both_ways (has_bytes (records x.reference.at)) (ap (λ (n : ℕ). has_bytes (records n)) e ∙ no_part spells.part) (ap has_bytes is))
  stored_tree x y t u e (directory_in sub some spells) (contents_in bytes is low child) =
      absurd (both_ways (has_bytes (records x.reference.at)) (no_part spells.part) (ap (λ (n : ℕ). has_bytes (records n)) e ∙ ap has_bytes is))
  stored_tree x y t u e (directory_in sub some spells) (directory_in sub' some' spells') =
      one_tree records x.reference.at sub sub' (some.directory, spells.part) (some'.directory, subst (λ n. PartAt records 0 n (entries_of sub').entries) (sym e) spells'.part)

  entry_given : (s : Step) (at : ℕ) (t : Tree) → PartAt records 0 at (entries_of t).entries → FindsEntry records (entries_of t).entries s (option_map stored_of_entry (entry_at records at s))
  unfolding entry_at
  entry_given s at t part = through records deepest part refl s

  pub stored_some : (q : Path) (sub : Tree) (x : Stored) → StoredIs records x sub → is_empty (subtree sub q) ≡ false → is_some (stored_at records q x.reference.at) ≡ true
  stored_some [] sub x is some = refl
  stored_some (s ∷ q) sub x (contents_in bytes is low child) some = absurd (both_ways (is_empty (subtree (Tree.contents bytes) (s ∷ q))) some (some_front (Tree.contents bytes) s q (nothing_below bytes s)))
  stored_some (s ∷ q) sub x (directory_in t is spells) some =
      by (λ y w means there. stored_some q w y means there) (entry_at records x.reference.at s) (entry_given s x.reference.at t spells.part)
    where
      by : ((y : Stored) (w : Tree) → StoredIs records y w → is_empty (subtree w q) ≡ false → is_some (stored_at records q y.reference.at) ≡ true) → (o : Option LeafEntry)
          → FindsEntry records (entries_of t).entries s (option_map stored_of_entry o) → is_some (stored_by (stored_at records q) o) ≡ true
      by deeper None finds = absurd (both_ways (is_empty (subtree t (s ∷ q))) some (some_front t s q (entry_lost t s finds)))
      by deeper (Some f) finds =
          let found = entry_found t s finds.0 finds.1 in
          deeper (stored_of_entry f) finds.0 finds.2 (ap (λ (w : Tree). is_empty (subtree w q)) found.is ∙ sym (ap is_empty (subtree_cons t s q)) ∙ some)

  -- the record of what stands there as a part
  whole_part : (q : Path) (at : ℕ) → is_some (stored_at records q at) ≡ true → is_some (stored_part records at q []) ≡ true
  whole_part q at e = by (stored_at records q at) e
    where
      by : (o : Option ℕ) → is_some o ≡ true → is_some (option_and_then (part_at records []) o) ≡ true
      by None f = absurd (false≢true f)
      by (Some n) f = refl

  module _ (v w : View) (p : Path) (x y : Stored) (one : FindsIn records v p (Some (stored x))) (other : FindsIn records w p (Some (stored y))) (same : x.reference.at ≡ y.reference.at) where
    known_below : (q : Path) → is_empty (subtree w.map (p ++ q)) ≡ false → is_some (w.known (record { path = p ++ q; indexes = [] })) ≡ true
    known_below q some =
        ap is_some (sym (other.known (record { path = q; indexes = [] })))
        ∙ whole_part q y.reference.at (stored_some q (subtree w.map p) y other.means (ap is_empty (subtree_on w.map p q) ∙ some))

    some_place : (path : Path) → path ≡ p → is_empty (subtree w.map path) ≡ false
    some_place path e = ap (λ (q : Path). is_empty (subtree w.map q)) e ∙ some_here records (stored y) (subtree w.map p) other.means

    -- the root is not empty here
    directory_some : (t : Tree) (b : Bool) → (not (is_contents t) && (b || not (is_empty t))) ≡ true → (b ≡ true → is_empty t ≡ false) → is_empty t ≡ false
    directory_some t true e root = root refl
    directory_some t false e root = by (is_contents t) (is_empty t) e
      where
        by : (c d : Bool) → (not c && not d) ≡ true → d ≡ false
        by true d f = absurd (false≢true f)
        by false true f = absurd (false≢true f)
        by false false f = refl

    root_only : (front q : Path) → is_nil (front ++ q) ≡ true → front ++ q ≡ front
    root_only [] [] e = refl
    root_only [] (s ∷ q) e = absurd (false≢true e)
    root_only (t ∷ front) q e = absurd (false≢true e)

    pub one_stored : IsOneStored v w p
    one_stored = record {
      same = stored_tree x y (subtree v.map p) (subtree w.map p) same one.means other.means;
      known = λ part. sym (one.known part) ∙ ap (λ (n : ℕ). stored_part records n part.path part.indexes) same ∙ other.known part;
      stored = known_below;
      directories = λ q is. known_below q (directory_some (subtree w.map (p ++ q)) (is_nil (p ++ q)) is (λ nil. some_place (p ++ q) (root_only p q nil)));
    }

  pub one_place : (v w : View) (p : Path) (found other : Option Node) → FindsIn records v p found → FindsIn records w p other → same_number (unread_record found) (unread_record other) ≡ true → IsOneStored v w p
  one_place v w p (Some (stored x)) (Some (stored y)) one is e = one_stored v w p x y one is (eqb→eq x.reference.at y.reference.at (subst T (sym e) tt))
  one_place v w p (Some (stored x)) (Some (contents bytes)) one is e = absurd (false≢true e)
  one_place v w p (Some (stored x)) (Some (directory root ns)) one is e = absurd (false≢true e)
  one_place v w p (Some (stored x)) None one is e = absurd (false≢true e)
  one_place v w p (Some (contents bytes)) other one is e = absurd (false≢true e)
  one_place v w p (Some (directory root ns)) other one is e = absurd (false≢true e)
  one_place v w p None other one is e = absurd (false≢true e)

-- ---- what follows

same_some : (m n : Option ℕ) → m ≡ n → is_some n ≡ true → same_number m n ≡ true
same_some m None e some = absurd (false≢true some)
same_some m (Some n) e some = ap (λ (o : Option ℕ). same_number o (Some n)) e ∙ eq-eqb n n refl

module _ (v w : View) (p : Path) (is : IsOneStored v w p) where
  pub one_gets : (q : Path) → get v.map (p ++ q) ≡ get w.map (p ++ q)
  one_gets q = sym (get-subtree v.map p q) ∙ ap (λ (t : Tree). get t q) is.same ∙ get-subtree w.map p q

  directory_too : (q : Path) → has_directory v.map (p ++ q) ≡ has_directory w.map (p ++ q)
  directory_too q = ap (λ (t : Tree). not (is_contents t) && (is_nil (p ++ q) || not (is_empty t))) (sym (subtree_on v.map p q) ∙ ap (λ (t : Tree). subtree t q) is.same ∙ subtree_on w.map p q)

  pub one_directory : (q : Path) → same_directory v w (p ++ q) ≡ true
  one_directory q = by (has_directory w.map (p ++ q)) refl
    where
      by : (b : Bool) → has_directory w.map (p ++ q) ≡ b → same_directory v w (p ++ q) ≡ true
      by true e =
          (λ i. if (directory_too q ∙ e) i then e i && same_number (record_at v (p ++ q)) (record_at w (p ++ q)) else not (has_directory w.map (p ++ q)))
          ∙ same_some (record_at v (p ++ q)) (record_at w (p ++ q)) (is.known (record { path = q; indexes = [] })) (is.directories q e)
      by false e = λ i. if (directory_too q ∙ e) i then has_directory w.map (p ++ q) && same_number (record_at v (p ++ q)) (record_at w (p ++ q)) else not (e i)
