-- Where the parts lie that records are known to spell.
--     known_part records root indexes      the part of a directory at the indexes: below an unread part the records tell it
--     known_at records n path indexes      below a node.      knows records n part      the same
--     known_of records root part      of a whole tree
use Rattle.std.specs.Prelude.{ℕ, cond, List, [], ◌∷◌, length, Option, Some, None, option_map}
use Rattle.ip_spec.specs.Path.{Step, Path, same_bytes}
use Rattle.ip_spec.specs.declared.record.LeafEntry.{LeafEntry}
use Rattle.ip_spec.specs.declared.record.Record.{Record}
use Rattle.ip_spec.specs.View.{Part}
use Rattle.ip_spec.specs.StoredParts.{entry_through, part_at, stored_part}
use Rattle.ip_shape.specs.Loaded.{known_in, unread_in, way_to}
use Rattle.ip_shape.specs.declared.part.Part as shape
use Rattle.ip_tree.specs.Node.{Node, Nodes, Root, stored, contents, directory, none, first, unread, loaded}
use Rattle.ip_tree.specs.declared.node.Stored.{Stored}

abbrev pub offset_of : Stored → ℕ
offset_of x = x.reference.at

abbrev pub known_by : (ℕ → Option Record) → Option Stored → Option (Stored × List ℕ) → Option ℕ
known_by records known None = option_map offset_of known
known_by records known (Some u) = part_at records u.1 u.0.reference.at

abbrev pub known_part : (ℕ → Option Record) → shape.Part Stored → List ℕ → Option ℕ
known_part records root indexes = known_by records (known_in indexes root) (unread_in indexes root)

-- the entry at a step whose part was not read
abbrev pub unread_entry : (ℕ → Option Record) → Step → Option (Stored × List ℕ) → Option LeafEntry
unread_entry records s None = None
unread_entry records s (Some u) = entry_through (length u.1) records s u.0.reference.at

abbrev pub below_entry : (ℕ → Option Record) → Path → List ℕ → Option LeafEntry → Option ℕ
below_entry records path indexes None = None
below_entry records path indexes (Some e) = stored_part records e.at path indexes

abbrev pub below_unread : (ℕ → Option Record) → shape.Part Stored → Step → Path → List ℕ → Option ℕ
below_unread records root s path indexes = below_entry records path indexes (unread_entry records s (unread_in (way_to s) root))

abbrev mutual
  pub known_at : (ℕ → Option Record) → Node → Path → List ℕ → Option ℕ
  known_at records (stored x) path indexes = stored_part records x.reference.at path indexes
  known_at records (contents bytes) path indexes = None
  known_at records (directory root ns) [] indexes = known_part records root indexes
  known_at records (directory root ns) (s ∷ path) indexes = known_among records ns s path indexes (below_unread records root s path indexes)

  -- at the step, where its part was read
  pub known_among : (ℕ → Option Record) → Nodes → Step → Path → List ℕ → Option ℕ → Option ℕ
  known_among records none s path indexes other = other
  known_among records (first t n ns) s path indexes other = cond (same_bytes s t) (known_at records n path indexes) (known_among records ns s path indexes other)

abbrev pub knows : (ℕ → Option Record) → Node → Part → Option ℕ
knows records n part = known_at records n part.path part.indexes

abbrev pub known_of : (ℕ → Option Record) → Root → Part → Option ℕ
known_of records (unread r) part = stored_part records r.at part.path part.indexes
known_of records (loaded root ns) part = known_at records (directory root ns) part.path part.indexes
