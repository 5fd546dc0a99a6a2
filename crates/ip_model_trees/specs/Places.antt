-- The parts of a directory: entries, each with the SHA-256 of its step.
--     place_in digest depth      five bits of a digest, from bit 5 * depth on, the most significant first
--     entry_of p      the entry.      pair_of p      its step, and what it leads to.      IsPlaced p      the digest is that of its step
--     ArePlaced ps      so it is of each, no step is too long, and their number fits
--     entries_at depth index ps      those of the child with this index.      children_in depth ps      the children of an inode.      children_below depth n ps      those with an index below n
--     child_parts c      the index of a child, and its entries.      hashed_child levels c      what the inode's name takes from it
use Rattle.std.specs.Prelude.{◌≡◌, ℕ, ◌<◌, ◌≤◌, ◌-◌, ◌*◌, ◌/◌, ◌%◌, ◌^◌, ◌==◌, List, ◌++◌, length, map, filter, nat_lt, All}
use Rattle.std.specs.List.{range_with_len}
use Rattle.sha2.specs.Sha256.{sha256}
use Rattle.ip_base.specs.declared.limit.TheConstants.{STEP_BYTES_MAX}
use Rattle.ip_spec.specs.Path.{Bytes, Step}
use Rattle.ip_spec.specs.Record.{Child as Named, u32}
use Rattle.ip_spec.specs.Shape.{number_of, part_name}
use Rattle.ip_model_trees.specs.declared.names.Entry.{Entry}
use Rattle.ip_model_trees.specs.declared.places.Placed.{Placed}
use Rattle.ip_model_trees.specs.declared.places.Child.{Child}
use Rattle.ip_model_trees.specs.Names.{paired}

abbrev pub place_in : List ℕ → ℕ → ℕ
place_in digest depth = number_of digest / 2 ^ (251 - 5 * depth) % 32

abbrev pub entry_of : Placed → Entry
entry_of p = p.entry.now

abbrev pub pair_of : Placed → Step × Named
pair_of p = paired p.entry.now

abbrev pub IsPlaced : Placed → Type 0
IsPlaced p = p.digest ≡ sha256 p.entry.now.step

pub record ArePlaced (ps : List Placed) : Type 0 where
  pub count : length ps < 2 ^ 32
  pub short : All (λ p. length p.entry.now.step ≤ STEP_BYTES_MAX) ps
  pub digests : All IsPlaced ps

abbrev pub entries_at : ℕ → ℕ → List Placed → List Placed
entries_at depth index ps = filter (λ p. place_in p.digest depth == index) ps

abbrev pub children_below : ℕ → ℕ → List Placed → List (ℕ × List Placed)
children_below depth n ps = filter (λ c. nat_lt 0 (length c.1)) (map (λ i. (i, entries_at depth i ps)) (range_with_len 0 n))

unfoldable pub children_in : ℕ → List Placed → List (ℕ × List Placed)
children_in depth ps = children_below depth 32 ps

abbrev pub child_parts : Child → ℕ × List Placed
child_parts c = (c.index, c.entries.items)

abbrev pub hashed_child : ℕ → Child → Bytes
hashed_child levels c = u32 (length c.entries.items) ++ part_name levels (map pair_of c.entries.items)
