-- What is known below a record that was not read.
--     stored_below      the record that is found at a path and indexes is that of a part of what stands there
--     step_below      below a directory's record, the root's too, which may be empty
use Rattle.std.proofs.Common.{◌≡◌, ℕ, ◌+◌, true, false, List, [], ◌∷◌, length, refl, sym, ap, subst, ◌∙◌, Option, Some, None, arith}
use Rattle.std.specs.Prelude.{◌&&◌, if◌then◌else◌, is_some, option_and_then, option_map}
use Rattle.std.proofs.lemmas.Bool.{false≢true}
use Rattle.sha2.specs.Sha256.{sha256}
use Rattle.ip_spec.specs.Map.{empty, get, insert, checked}
use Rattle.ip_spec.specs.Path.{Bytes, Step, Path}
use Rattle.ip_spec.specs.declared.record.Record.{Record}
use Rattle.ip_spec.specs.declared.record.LeafEntry.{LeafEntry}
use Rattle.ip_spec.specs.Tree as Tree
use Rattle.ip_spec.specs.Tree.{Tree, entries_of, is_contents, is_empty, subtree}
use Rattle.ip_spec.specs.Shape.{child_by, child_of, deepest, part}
use Rattle.ip_spec.specs.StoredParts.{entry_at, entry_by, entry_through, part_at, part_by, stored_at, stored_by, stored_part}
use Rattle.ip_spec.specs.TreeAt.{PartAt}
use Rattle.ip_spec.specs.View.{is_nil, is_part_at, is_part_from}
use Rattle.ip_spec.proofs.Subtrees.{entry_found, get-contents, subtree_cons, subtree_root}
use Rattle.ip_tree.specs.Meaning.{IsSome, SpellsPart, StoredIs, contents_in, directory_in}
use Rattle.ip_tree.specs.Reads.{FindsEntry, stored_of_entry}
use Rattle.ip_tree.specs.declared.node.Stored.{Stored}
use Rattle.ip_tree.proofs.Indexes.{no_some, some_same}
use Rattle.ip_tree.proofs.PartLookups.{part_given, through}

contents_there : (bytes : Bytes) → is_contents (Tree.contents bytes) ≡ true
unfolding Tree.contents empty insert checked
contents_there bytes = refl

pub child_of_contents : (bytes : Bytes) → child_of (Tree.contents bytes) ≡ (1, sha256 bytes)
child_of_contents bytes = ap (λ o. child_by o (Tree.contents bytes)) (get-contents bytes [])

module _ (records : ℕ → Option Record) where
  -- of what stands there it is a part, and spells it
  pub record IsStoredAt (whole : Path) (sub : Tree) (indexes : List ℕ) (o : ℕ) : Type 0 where
    pub is_part : is_part_at whole sub indexes ≡ true
    pub spells : is_contents sub ≡ false → PartAt records (length indexes) o (part (entries_of sub).entries indexes)
    pub bytes : (b : Bytes) → get sub [] ≡ Some b → records o ≡ Some (Record.Contents b)

  directory_part : (whole : Path) (sub : Tree) (indexes : List ℕ) (o : ℕ) (x : Stored) → IsSome sub → SpellsPart records 0 x (entries_of sub).entries → part_at records indexes x.reference.at ≡ Some o → IsStoredAt whole sub indexes o
  directory_part whole sub indexes o x some spells e =
      let p = part_given records indexes o spells.part e in
      let none : 0 + length indexes ≡ length indexes = omega arith in
      record {
        is_part = ap (λ b. if b then is_nil indexes else if is_empty sub then is_nil whole && is_nil indexes else is_part_from 0 (entries_of sub).entries indexes) some.directory
            ∙ ap (λ b. if b then is_nil whole && is_nil indexes else is_part_from 0 (entries_of sub).entries indexes) some.some ∙ p.is_part;
        spells = λ _. subst (λ n. PartAt records n o (part (entries_of sub).entries indexes)) none p.spells;
        bytes = λ b g. absurd (false≢true (sym some.directory ∙ ap is_some g));
      }

  contents_part : (whole : Path) (bytes : Bytes) (indexes : List ℕ) (o at : ℕ) → records at ≡ Some (Record.Contents bytes) → part_at records indexes at ≡ Some o → IsStoredAt whole (Tree.contents bytes) indexes o
  contents_part whole bytes [] o at is e = record {
    is_part = ap (λ b. if b then true else if is_empty (Tree.contents bytes) then is_nil whole && true else is_part_from 0 (entries_of (Tree.contents bytes)).entries []) (contents_there bytes);
    spells = λ f. absurd (false≢true (sym f ∙ contents_there bytes));
    bytes = λ b g. ap records (sym (some_same at o e)) ∙ is ∙ ap (λ (x : Bytes). Some (Record.Contents x)) (some_same bytes b (sym (get-contents bytes []) ∙ g));
  }
  contents_part whole bytes (i ∷ indexes) o at is e = no_some o (sym (ap (part_by (part_at records indexes) i) is) ∙ e)

  here_stored : (whole : Path) (sub : Tree) (indexes : List ℕ) (o : ℕ) (x : Stored) → StoredIs records x sub → part_at records indexes x.reference.at ≡ Some o → IsStoredAt whole sub indexes o
  here_stored whole sub indexes o x (contents_in bytes is height child) e = contents_part whole bytes indexes o x.reference.at is e
  here_stored whole sub indexes o x (directory_in t some spells) e = directory_part whole t indexes o x some spells e

  below_by : (path : Path) (indexes : List ℕ) (o : ℕ) (e : Option LeafEntry) → option_and_then (part_at records indexes) (stored_by (stored_at records path) e) ≡ Some o → (f : LeafEntry) × (e ≡ Some f) × (stored_part records f.at path indexes ≡ Some o)
  below_by path indexes o None g = no_some o g
  below_by path indexes o (Some f) g = (f, refl, g)

  no_entry : (s : Step) (at : ℕ) (bytes : Bytes) → records at ≡ Some (Record.Contents bytes) → entry_at records at s ≡ None
  unfolding entry_at
  no_entry s at bytes is = ap (entry_by (entry_through 50 records s) s) is

  at_entry : (s : Step) (at : ℕ) (es : Tree) → PartAt records 0 at (entries_of es).entries → FindsEntry records (entries_of es).entries s (option_map stored_of_entry (entry_at records at s))
  unfolding entry_at
  at_entry s at es part = through records deepest part refl s

  step_by : (s : Step) (path whole : Path) (sub : Tree) (indexes : List ℕ) (o at : ℕ)
      → ((y : Stored) (w : Tree) → StoredIs records y w → stored_part records y.reference.at path indexes ≡ Some o → IsStoredAt whole (subtree w path) indexes o) → PartAt records 0 at (entries_of sub).entries
      → stored_part records at (s ∷ path) indexes ≡ Some o → IsStoredAt whole (subtree sub (s ∷ path)) indexes o
  step_by s path whole sub indexes o at deeper part e =
      let f = below_by path indexes o (entry_at records at s) e in
      let found = subst (λ g. FindsEntry records (entries_of sub).entries s (option_map stored_of_entry g)) f.1 (at_entry s at sub part) in
      let is = entry_found sub s found.0 found.1 in
      subst (λ w. IsStoredAt whole w indexes o) (ap (λ w. subtree w path) is.is ∙ sym (subtree_cons sub s path)) (deeper (stored_of_entry f.0) found.0 found.2 f.2)

  pub stored_below : (path whole : Path) (sub : Tree) (indexes : List ℕ) (o : ℕ) (x : Stored) → StoredIs records x sub → stored_part records x.reference.at path indexes ≡ Some o → IsStoredAt whole (subtree sub path) indexes o
  stored_below [] whole sub indexes o x means e = subst (λ t. IsStoredAt whole t indexes o) (sym (subtree_root sub)) (here_stored whole sub indexes o x means e)
  stored_below (s ∷ path) whole sub indexes o x (contents_in bytes is height child) e =
      no_some o (sym (ap (λ f. option_and_then (part_at records indexes) (stored_by (stored_at records path) f)) (no_entry s x.reference.at bytes is)) ∙ e)
  stored_below (s ∷ path) whole sub indexes o x (directory_in t some spells) e = step_by s path whole t indexes o x.reference.at (λ y w means f. stored_below path whole w indexes o y means f) spells.part e

  pub step_below : (s : Step) (path whole : Path) (sub : Tree) (indexes : List ℕ) (o at : ℕ) → PartAt records 0 at (entries_of sub).entries → stored_part records at (s ∷ path) indexes ≡ Some o → IsStoredAt whole (subtree sub (s ∷ path)) indexes o
  step_below s path whole sub indexes o at part e = step_by s path whole sub indexes o at (λ y w means f. stored_below path whole w indexes o y means f) part e
