-- What the code's memory is.
--     places_in digest      the places at the depths 0 to 50 of the step with this digest
--     counts_of children      their counts added up
--     part_of p, kept_is k      what the code keeps of a part, of a record.      look_of m      of all of them, by offset
use Rattle.std.specs.Prelude.{List, [], ◌∷◌, ◌+◌, ℕ, map, take, option_map}
use Rattle.std.specs.List.{range_with_len}
use Rattle.std.specs.Ordering.{nat_cmp}
use Rattle.std.specs.BTreeMap.{BTreeMap, get}
use Rattle.ip_spec.specs.Shape.{deepest}
use Rattle.ip_spec.specs.declared.record.InodeChild.{InodeChild}
use Rattle.ip_shape.specs.Place.{place_in}
use Rattle.ip_audit.specs.declared.kept.Part as Code
use Rattle.ip_audit.specs.declared.kept.Kept as CodeKept
use Rattle.ip_audit.specs.Memory.{Part, Kept, kept_contents, kept_part, Look}

unfoldable pub places_in : List ℕ → List ℕ
places_in digest = map (place_in digest) (range_with_len 0 deepest)

abbrev pub part_of : Code.Part → Part
part_of p = record { depth = p.depth; count = p.count; height = p.height; name = p.name; common = take p.agreed (places_in p.first) }

abbrev pub kept_is : CodeKept.Kept → Kept
kept_is (CodeKept.TheVariants.Contents name) = kept_contents name
kept_is (CodeKept.TheVariants.Part p) = kept_part (part_of p)

abbrev pub look_of : BTreeMap ℕ CodeKept.Kept → Look
look_of m at = option_map kept_is (get nat_cmp m at)

-- the counts of children added up
abbrev pub counts_of : List InodeChild → ℕ
counts_of [] = 0
counts_of (c ∷ cs) = c.count + counts_of cs
