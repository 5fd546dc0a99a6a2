-- What is known of the parts of a directory is known of its parts.
--     known_part_is      the record that is known at indexes, also behind what was not read, spells the part there
--     same_spells      a record spells what has the same entries there
use Rattle.std.proofs.Common.{◌≡◌, ℕ, suc, ◌+◌, ◌<◌, true, List, [], ◌∷◌, ◌++◌, length, refl, sym, ap, subst, ◌∙◌, Option, Some, None, arith}
use Rattle.ip_spec.specs.Path.{Step}
use Rattle.ip_spec.specs.declared.record.Record.{Record}
use Rattle.ip_spec.specs.Shape.{Entries, at_place, part, part_from}
use Rattle.ip_spec.specs.StoredParts.{part_at}
use Rattle.ip_spec.specs.TreeAt.{PartAt}
use Rattle.ip_spec.specs.View.{is_part_from}
use Rattle.ip_shape.specs.Loaded.{known_in, unread_in}
use Rattle.ip_shape.specs.declared.part.Part.{Part}
use Rattle.ip_tree.specs.Meaning.{HasEntries, HasSteps, KnowsParts, SpellsAt, SpellsPart}
use Rattle.ip_tree.specs.Known.{known_by, known_part, offset_of}
use Rattle.ip_tree.specs.declared.node.Stored.{Stored}
use Rattle.ip_tree.proofs.Indexes.{first_unread, no_some, some_same}
use Rattle.ip_tree.proofs.PartLookups.{part_given}
use Rattle.ip_tree.proofs.PartWays.{is_part_below, known_is_part, part_below, unread_is_part}

part_append : (front left : List ℕ) (depth : ℕ) (es : Entries) → is_part_from depth es front ≡ true → is_part_from (depth + length front) (part_from depth es front) left ≡ true → is_part_from depth es (front ++ left) ≡ true
part_append [] left depth es e f = let none : depth + 0 ≡ depth = omega arith in subst (λ d. is_part_from d es left ≡ true) none f
part_append (i ∷ front) left depth es e f =
    let b = part_below depth i front es e in
    let next : depth + suc (length front) ≡ suc depth + length front = omega arith in
    is_part_below depth i (front ++ left) es b.0 ∙ part_append front left (suc depth) (at_place depth i es) b.1 (subst (λ d. is_part_from d (part_from (suc depth) (at_place depth i es) front) left ≡ true) next f)

entries_append : (front left : List ℕ) (depth : ℕ) (es : Entries) → part_from depth es (front ++ left) ≡ part_from (depth + length front) (part_from depth es front) left
entries_append [] left depth es = let none : depth ≡ depth + 0 = omega arith in ap (λ d. part_from d es left) none
entries_append (i ∷ front) left depth es =
    let next : suc depth + length front ≡ depth + suc (length front) = omega arith in
    entries_append front left (suc depth) (at_place depth i es) ∙ ap (λ d. part_from d (part_from (suc depth) (at_place depth i es) front) left) next

pub long_append : (front left : List ℕ) → length front + length left ≡ length (front ++ left)
long_append [] left = omega arith
long_append (i ∷ front) left = omega (arith, long_append front left)

pub record IsKnownAt (records : ℕ → Option Record) (es : Entries) (is : List ℕ) (o : ℕ) : Type 0 where
  pub spells : PartAt records (length is) o (part es is)
  pub is_part : is_part_from 0 es is ≡ true

module _ (records : ℕ → Option Record) (root : Part Stored) (read : List Step) (es : Entries) (has_steps : HasSteps root read es) (known : KnowsParts records root es) where
  behind_front : (front left : List ℕ) (x : Stored) (o : ℕ) → unread_in front root ≡ Some (x, []) → part_at records left x.reference.at ≡ Some o → IsKnownAt records es (front ++ left) o
  behind_front front left x o e f =
      let p = part_given records left o (known.unread front x e).spells.part f in
      let none : length front ≡ 0 + length front = omega arith in
      record {
        spells = subst (λ n. PartAt records n o (part es (front ++ left))) (long_append front left)
            (subst (PartAt records (length front + length left) o) (ap (λ n. part_from n (part es front) left) none ∙ sym (entries_append front left 0 es)) p.spells);
        is_part = part_append front left 0 es (unread_is_part records root read es has_steps known front x e) (subst (λ n. is_part_from n (part es front) left ≡ true) none p.is_part);
      }

  pub known_part_is : (is : List ℕ) (o : ℕ) → known_part records root is ≡ Some o → IsKnownAt records es is o
  known_part_is is o e = by (unread_in is root) refl (known_in is root) refl e
    where
      by : (u : Option (Stored × List ℕ)) → unread_in is root ≡ u → (k : Option Stored) → known_in is root ≡ k → known_by records k u ≡ Some o → IsKnownAt records es is o
      by None a None b f = no_some o f
      by None a (Some x) b f = record { spells = subst (λ n. PartAt records (length is) n (part es is)) (some_same (offset_of x) o f) (known.known is x b).spells.part; is_part = known_is_part records root read es has_steps known is x b }
      by (Some u) a k b f =
          let first = first_unread is u.0 u.1 root a in
          subst (λ l. IsKnownAt records es l o) (sym first.whole) (behind_front first.front u.1 u.0 o first.found f)

pub same_spells : (records : ℕ → Option Record) (es fs : Entries) (is : List ℕ) (x : Stored) → part fs is ≡ part es is → SpellsAt records es is x → SpellsAt records fs is x
same_spells records es fs is x same a = record { spells = subst (SpellsPart records (length is) x) (sym same) a.spells; some = by is same a.some }
  where
    by : (w : List ℕ) → part fs w ≡ part es w → HasEntries es w → HasEntries fs w
    by [] e h = tt
    by (i ∷ w) e h = subst (λ (l : Entries). 0 < length l) (sym e) h
