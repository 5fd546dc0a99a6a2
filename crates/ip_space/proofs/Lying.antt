-- Where bytes lie, and the records that they spell.
--     lies_above      an offset from the horizon on lies in a chunk.      lies_below      one below it lies where the mapping says
--         stands_there      a record that stands below the end is the one that is read there
use Rattle.std.proofs.Common.{◌≡◌, ℕ, ◌+◌, ◌<◌, ◌≤◌, Bool, true, false, length, ◌∙◌, ap}
use Rattle.std.specs.Prelude.{List, Option, Some, option_map, nat_le, if◌then◌else◌}
use Rattle.std.proofs.lemmas.Bool.{le-leb, lt-leb}
use Rattle.ip_ground.specs.declared.names.FileName.{FileName}
use Rattle.ip_ground.specs.declared.names.FileName.TheVariants.{Chunk, Prefix}
use Rattle.ip_ground.specs.Told.{Told}
use Rattle.ip_spec.specs.declared.record.Record.{Record}
use Rattle.ip_spec.specs.Record.{Fits, spelling}
use Rattle.ip_image.specs.declared.layout.Layout.{Layout}
use Rattle.ip_image.specs.declared.run.Run.{Run}
use Rattle.ip_image.specs.Slot.{newest_version}
use Rattle.ip_image.specs.Virtual.{lies_at, locate, chunk_of, place_in_chunk, Stands}
use Rattle.ip_image.specs.Stored.{stored}
use Rattle.ip_image.proofs.StoredLaws.{record_here}
use Rattle.ip_space.specs.SpaceView.{SpaceView, byte_at, records_of}

by_true : (b : Bool) (x y : Option (FileName × ℕ)) → b ≡ true → (if b then x else y) ≡ x
by_true b x y is = ap (λ (b : Bool). if b then x else y) is

pub lies_above : (layout : Layout) (runs : List Run) (at : ℕ) → layout.horizon ≤ at → lies_at layout runs at ≡ Some (Chunk (chunk_of layout.chunk at), place_in_chunk layout.chunk at)
unfolding lies_at
lies_above layout runs at above = by_true (nat_le layout.horizon at) _ _ (le-leb layout.horizon at above)

by_false : (b : Bool) (x y : Option (FileName × ℕ)) → b ≡ false → (if b then x else y) ≡ y
by_false b x y is = ap (λ (b : Bool). if b then x else y) is

pub lies_below : (layout : Layout) (runs : List Run) (at : ℕ) (place : Option ℕ) → at < layout.horizon → locate runs at ≡ place → lies_at layout runs at ≡ option_map (λ place. (Prefix layout.live, place)) place
unfolding lies_at
lies_below layout runs at place below is =
    by_false (nat_le layout.horizon at) _ _ (lt-leb layout.horizon at below) ∙ ap (λ (p : Option ℕ). option_map (λ place. (Prefix layout.live, place)) p) is

pub stands_there : (told : Told) (space : SpaceView) (at : ℕ) (r : Record) → Fits newest_version r → Stands (byte_at told space) at (spelling r) → at + length (spelling r) ≤ space.layout.end
    → records_of told space at ≡ Some r
unfolding stored
stands_there told space at r fits stands inside = record_here (byte_at told space) at space.layout.end r fits stands inside
