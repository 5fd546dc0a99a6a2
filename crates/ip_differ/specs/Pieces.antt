-- Parts of directories, by what stands at the steps of their entries.
--     in_directory records d s      what stands at a step of a directory of which parts were read
--     at_place records place s      of what stands at a place, if anything does
--     PieceIs records a es indexes piece      the piece is the part at the indexes of a directory that has these entries, and `a` tells what stands at each step
--     OpenedIs records a es indexes piece content      the same, and what its record holds is this, if that was not read
--     is_one_record one other      both are one record, which was not read
--     has_children piece content      it is an inode
use Rattle.std.specs.Prelude.{◌≡◌, ◌==◌, cond, ◌-◌, ℕ, Bool, true, false, List, [], ◌++◌, length, Option, Some, None, option_map}
use Rattle.std.specs.Option.{option_or}
use Rattle.std.specs.FinMap.Entries.{find}
use Rattle.ip_spec.specs.Path.{Step, bytes_cmp}
use Rattle.ip_spec.specs.Shape.{Entries, deepest, part}
use Rattle.ip_spec.specs.View.{leads}
use Rattle.ip_spec.specs.declared.kind.TheConstants as kinds
use Rattle.ip_spec.specs.declared.record.LeafEntry.{LeafEntry}
use Rattle.ip_spec.specs.declared.record.Record.{Record}
use Rattle.ip_shape.specs.Directory.{entries_in, root_of}
use Rattle.ip_shape.specs.Loaded.{unread_in, way_to}
use Rattle.ip_shape.specs.Shape.{IsPart}
use Rattle.ip_shape.specs.declared.dir.Dir.{Dir}
use Rattle.ip_shape.specs.declared.part.Part.{Part, out-Part}
use Rattle.ip_shape.specs.declared.part.Part.TheOpen as layer
use Rattle.ip_shape.specs.declared.part.Part.TheOpen.{Part-F}
use Rattle.ip_tree.specs.Known.{unread_entry}
use Rattle.ip_tree.specs.Meaning.{HasSteps, KnowsParts, steps_of}
use Rattle.ip_tree.specs.Node.{nodes_of, steps_in}
use Rattle.ip_tree.specs.Reads.{IsPartRef, entry_below, record_of, stored_of_entry}
use Rattle.ip_tree.specs.Shown.{entries_shown}
use Rattle.ip_tree.specs.declared.fetch.Content.{Content}
use Rattle.ip_tree.specs.declared.fetch.Content.TheVariants as content
use Rattle.ip_tree.specs.declared.look.Place.{Place}
use Rattle.ip_tree.specs.declared.look.Place.TheVariants as place
use Rattle.ip_tree.specs.declared.node.Node.{Node}
use Rattle.ip_tree.specs.declared.node.Stored.{Stored}
use Rattle.ip_differ.specs.declared.pairs.Entry.{Entry}
use Rattle.ip_differ.specs.declared.pairs.Entry.TheVariants as entry
use Rattle.ip_differ.specs.declared.piece.Piece.{Piece}
use Rattle.ip_differ.specs.declared.piece.Piece.TheVariants as piece

-- ---- what stands at a step

abbrev pub stored_entry : LeafEntry → Entry
stored_entry e = entry.Stored (stored_of_entry e)

abbrev pub read_entry : Node → Entry
read_entry n = entry.Read

abbrev pub in_directory : (ℕ → Option Record) → Dir Node Stored → Step → Option Entry
in_directory records d s = option_or (option_map read_entry (find bytes_cmp s (entries_in d))) (option_map stored_entry (unread_entry records s (unread_in (way_to s) (root_of d))))

abbrev pub below_record : (ℕ → Option Record) → ℕ → Stored → Step → Option Entry
below_record records levels x s = option_map (λ y. entry.Stored y) (entry_below records levels x.reference.at s)

abbrev pub at_place : (ℕ → Option Record) → Option Place → Step → Option Entry
at_place records None s = None
at_place records (Some (place.Stored x)) s = cond (x.reference.kind == kinds.CONTENTS) None (below_record records deepest x s)
at_place records (Some (place.Contents b)) s = None
at_place records (Some (place.Directory d)) s = in_directory records d.now s

-- ---- pieces

module _ (records : ℕ → Option Record) (a : Step → Option Entry) (es : Entries) (is : List ℕ) where
  abbrev pub IsNothing : Type 0
  IsNothing = (s : Step) → leads 0 is s ≡ true → a s ≡ None

  pub record IsUnreadPart (x : Stored) : Type 0 where
    pub asked : IsPartRef records (length is) x.reference (part es is)
    pub tells : (s : Step) → leads 0 is s ≡ true → a s ≡ below_record records (deepest - length is) x s

  -- a part of a directory, read or not
  pub record IsHeld (d : Dir Node Stored) (p : Part Stored) : Type 0 where
    pub steps : HasSteps (root_of d) (steps_in (nodes_of (entries_shown d))) es
    pub parts : KnowsParts records (root_of d) es
    pub shape : IsPart (deepest - length is) (length is) (steps_of (part es is)) p
    pub unread : (q : List ℕ) → unread_in (is ++ q) (root_of d) ≡ unread_in q p
    pub tells : (s : Step) → a s ≡ in_directory records d s

  pub record IsRead (d : Dir Node Stored) (p : Part Stored) : Type 0 where
    pub held : IsHeld d p
    pub read : unread_in [] p ≡ None

  abbrev pub PieceIs : Piece → Type 0
  PieceIs piece.Nothing = IsNothing
  PieceIs (piece.Unread x) = IsUnreadPart x
  PieceIs (piece.Read d p) = IsRead d.now p.now

  -- with what its record holds, if that was not read
  abbrev pub OpenedIs : Piece → Option Content → Type 0
  OpenedIs piece.Nothing None = IsNothing
  OpenedIs (piece.Unread x) (Some content) = IsUnreadPart x × (records x.reference.at ≡ Some (record_of content))
  OpenedIs (piece.Read d p) None = IsRead d.now p.now
  OpenedIs piece.Nothing (Some content) = ⊥
  OpenedIs (piece.Unread x) None = ⊥
  OpenedIs (piece.Read d p) (Some content) = ⊥

-- ---- records and children

abbrev pub is_one_record : Piece → Piece → Bool
is_one_record (piece.Unread x) (piece.Unread y) = x.reference.at == y.reference.at
is_one_record (piece.Unread x) other = false
is_one_record piece.Nothing other = false
is_one_record (piece.Read d p) other = false

abbrev pub is_inode_layer : Part-F Stored (Part Stored) → Bool
is_inode_layer (layer.Leaf known steps) = false
is_inode_layer (layer.Inode known count children) = true
is_inode_layer (layer.Unread x count) = false

abbrev pub is_inode_content : Content → Bool
is_inode_content (content.Leaf es) = false
is_inode_content (content.Inode depth cs) = true

abbrev pub has_children : Piece → Option Content → Bool
has_children piece (Some content) = is_inode_content content
has_children piece.Nothing None = false
has_children (piece.Unread x) None = false
has_children (piece.Read d p) None = is_inode_layer (out-Part Stored p.now)
