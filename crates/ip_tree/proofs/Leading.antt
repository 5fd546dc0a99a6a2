-- Where the record of a part leads for a step.
--     has_depth      behind a child there is a depth more
--     leads_to      on the way to the entry of the part.      leads_through      through any records.      leads_on      and on from the child
use Rattle.std.proofs.Common.{◌≡◌, ◌≢◌, ◌+◌, ◌⊎◌, inl, inr, List, ℕ, zero, suc, ◌-◌, refl, sym, ap, subst, ◌∙◌, Option, Some, None, arith}
use Rattle.std.specs.Prelude.{Contains, option_and_then, option_map}
use Rattle.ip_spec.specs.Path.{Step}
use Rattle.ip_spec.specs.Shape.{Entries, deepest, place}
use Rattle.ip_spec.specs.StoredParts.{child_with, entry_through}
use Rattle.ip_spec.specs.TreeAt.{PartAt}
use Rattle.ip_spec.specs.declared.record.InodeChild.{InodeChild}
use Rattle.ip_spec.specs.declared.record.Record.{Record}
use Rattle.ip_spec.specs.declared.record.Record.TheVariants as Record
use Rattle.ip_spec.specs.declared.record.Ref.{Ref}
use Rattle.ip_tree.specs.Leading.{HasDepth, LeadsBy, LeadsThrough, LeadsTo}
use Rattle.ip_tree.specs.Reads.{FindsEntry, entry_below, record_of, ref_of_child, stored_of_entry}
use Rattle.ip_tree.specs.declared.below.Next.{Next}
use Rattle.ip_tree.specs.declared.below.Next.TheVariants.{Found, Child}
use Rattle.ip_tree.specs.declared.fetch.Content.{Content}
use Rattle.ip_tree.specs.declared.fetch.Content.TheVariants as content
use Rattle.ip_tree.specs.declared.node.Stored.{Stored}
use Rattle.ip_spec.specs.declared.record.LeafEntry.{LeafEntry}
use Rattle.ip_tree.proofs.EntryBelow.{child_asked, leaf_finds, leaf_through, next_through, no_child, none_through, not_deepest}
use Rattle.ip_tree.proofs.MoreRecords.{last_entry}

pub has_depth : (levels : ℕ) (s : Step) (k : Content) (next : Next) → LeadsBy levels s k next → HasDepth levels next
has_depth levels s (content.Leaf entries) (Found found) is = tt
has_depth levels s (content.Leaf entries) (Child r) is = absurd is
has_depth levels s (content.Inode d cs) (Found found) is = tt
has_depth levels s (content.Inode d cs) (Child r) is = is.0

module _ (records : ℕ → Option Record) (depth levels at : ℕ) (es : Entries) (sum : depth + levels ≡ deepest) (part : PartAt records depth at es) (s : Step) where
  none_found : (found : Option Stored) → found ≡ None → FindsEntry records es s None → FindsEntry records es s found
  none_found found is none = subst (FindsEntry records es s) (sym is) none

  pub leads_to : (k : Content) → records at ≡ Some (record_of k) → (next : Next) → LeadsBy levels s k next → LeadsTo records depth es s next
  leads_to (content.Leaf entries) here (Found found) is = leaf_finds records depth at es part entries s found here is
  leads_to (content.Leaf entries) here (Child r) is = absurd is
  leads_to (content.Inode d cs) here (Found found) (none, inl last) = absurd (let high = not_deepest records depth at es part d cs here in omega (arith, sum, high, last))
  leads_to (content.Inode d cs) here (Found found) (none, inr gone) = none_found found none (no_child records depth at es part d cs here s gone)
  leads_to (content.Inode d cs) here (Child r) (some, there, c, has, is) = child_asked records depth at es part d cs here s r there (c, has, is)

module _ (all : ℕ → Option Record) (at : ℕ) (s : Step) where
  last_through : (d : ℕ) (cs : List InodeChild) → all at ≡ Some (Record.Inode d cs) → None ≡ entry_below all 0 at s
  last_through d cs here = sym (ap (option_map stored_of_entry) (last_entry all s at d cs here) ∙ never (child_with (place s d) cs))
    where
      never : (o : Option ℕ) → option_map stored_of_entry (option_and_then (λ (b : ℕ). None) o) ≡ None
      never None = refl
      never (Some b) = refl

  pub leads_through : (levels : ℕ) (k : Content) → all at ≡ Some (record_of k) → (next : Next) → LeadsBy levels s k next → LeadsThrough all levels at s next
  leads_through levels (content.Leaf entries) here (Found found) is = leaf_through all at s levels entries found here is
  leads_through levels (content.Leaf entries) here (Child r) is = absurd is
  leads_through zero (content.Inode d cs) here (Found found) is = is.0 ∙ last_through d cs here
  leads_through (suc levels) (content.Inode d cs) here (Found found) (none, inl last) = absurd (omega (arith, last))
  leads_through (suc levels) (content.Inode d cs) here (Found found) (none, inr gone) = none ∙ none_through all at s (suc levels) d cs here gone
  leads_through zero (content.Inode d cs) here (Child r) is = absurd (let some = is.0 in omega (arith, some))
  leads_through (suc levels) (content.Inode d cs) here (Child r) is =
      let one : suc levels - 1 ≡ levels = omega arith in
      ap (λ n. entry_below all n r.at s) one ∙ next_through all at s levels d r.at cs (entry_below all levels r.at s) here is.1 refl

  -- and on from the child, where the records are what they were
  pub leads_on : (later : ℕ → Option Record) → ((b : ℕ) → later b ≡ all b) → (levels below : ℕ) (found : Option Stored) → entry_below all (levels - 1) below s ≡ entry_below all levels at s
      → found ≡ entry_below later (levels - 1) below s → found ≡ entry_below all levels at s
  leads_on later same levels below found leads is =
      let every : later ≡ all = λ i b. same b i in is ∙ ap (λ r. entry_below r (levels - 1) below s) every ∙ leads
