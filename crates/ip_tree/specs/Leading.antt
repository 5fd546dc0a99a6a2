-- Where the record of a part leads for a step, on the way to the entry there.
--     LeadsBy levels s content next      by what the record holds, with so many depths below it
--     LeadsTo records depth es s next      to the entry of the part, or to the child that holds it
--     LeadsThrough records levels at s next      the same through any records
--     HasDepth levels next      behind a child there is a depth more
use Rattle.std.specs.Prelude.{◌≡◌, ◌≢◌, ◌⊎◌, ℕ, suc, ◌-◌, Contains, Option, Some, None, option_map}
use Rattle.ip_spec.specs.Path.{Step}
use Rattle.ip_spec.specs.Shape.{Entries, at_place, place}
use Rattle.ip_spec.specs.StoredParts.{child_with, entry_named}
use Rattle.ip_spec.specs.declared.record.InodeChild.{InodeChild}
use Rattle.ip_spec.specs.declared.record.Record.{Record}
use Rattle.ip_tree.specs.Reads.{FindsEntry, IsPartRef, entry_below, ref_of_child, stored_of_entry}
use Rattle.ip_tree.specs.declared.below.Next.{Next}
use Rattle.ip_tree.specs.declared.below.Next.TheVariants.{Found, Child}
use Rattle.ip_tree.specs.declared.fetch.Content.{Content}
use Rattle.ip_tree.specs.declared.fetch.Content.TheVariants as content

abbrev pub LeadsBy : ℕ → Step → Content → Next → Type 0
LeadsBy levels s (content.Leaf entries) (Found found) = found ≡ option_map stored_of_entry (entry_named s entries)
LeadsBy levels s (content.Leaf entries) (Child r) = ⊥
LeadsBy levels s (content.Inode depth children) (Found found) = (found ≡ None) × ((levels ≡ 0) ⊎ (None ≡ child_with (place s depth) children))
LeadsBy levels s (content.Inode depth children) (Child r) = (levels ≢ 0) × (Some r.at ≡ child_with (place s depth) children) × (c : InodeChild) × Contains children c × (r ≡ ref_of_child c)

abbrev pub LeadsTo : (ℕ → Option Record) → ℕ → Entries → Step → Next → Type 0
LeadsTo records depth es s (Found found) = FindsEntry records es s found
LeadsTo records depth es s (Child r) = IsPartRef records (suc depth) r (at_place depth (place s depth) es)

abbrev pub LeadsThrough : (ℕ → Option Record) → ℕ → ℕ → Step → Next → Type 0
LeadsThrough records levels at s (Found found) = found ≡ entry_below records levels at s
LeadsThrough records levels at s (Child r) = entry_below records (levels - 1) r.at s ≡ entry_below records levels at s

abbrev pub HasDepth : ℕ → Next → Type 0
HasDepth levels (Found found) = Unit {0}
HasDepth levels (Child r) = levels ≢ 0
