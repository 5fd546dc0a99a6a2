-- The live slot of the definitions on images is the one that is found from the bytes of both slots.
use Rattle.std.proofs.Common.{◌≡◌, inl, inr, ℕ, ◌<◌, Bool, true, false, cond, eqb, leb, List, refl, sym, ◌∙◌, ap, subst, arith}
use Rattle.std.specs.Prelude.{Option, None, Some, ◌&&◌}
use Rattle.std.specs.Ordering.{nat_cmp}
use Rattle.std.specs.Cmp.{nat_cmp_is}
use Rattle.std.specs.declared.cmp.Ordering.TheVariants.{Less, Equal, Greater}
use Rattle.std.proofs.lemmas.Bool.{cases_eq, cases_lt}
use Rattle.std.proofs.lemmas.Bool.Decides.{nat_tests}
use Rattle.ip_ground.specs.Contents.{Content, bytes_of}
use Rattle.ip_image.specs.Slot.{live_index, is_tied, slot_at}
use Rattle.ip_image.specs.Slot as image
use Rattle.ip_control.specs.Live.{Live, no_slot, live_slot, tied, live_with, live_of, slot_of, sequence_of}
use Rattle.ip_control.specs.Comparing.{is_open, newest, live_by, live_among}

-- the slot that a reader takes for live, and whether two are
abbrev pub index_of : Live → Option ℕ
index_of no_slot = None
index_of (live_slot slot bytes) = Some slot
index_of tied = Some 1

abbrev pub is_tie : Live → Bool
is_tie no_slot = false
is_tie (live_slot slot bytes) = false
is_tie tied = true

-- its bytes are those of the slot
abbrev pub HasBytes : (ℕ → List ℕ) → Live → Type 0
HasBytes at no_slot = Unit {0}
HasBytes at (live_slot slot bytes) = bytes ≡ at slot
HasBytes at tied = Unit {0}

module _ (at : ℕ → List ℕ) where
  abbrev first : List ℕ
  first = at 0

  abbrev second : List ℕ
  second = at 1

  abbrev Laws : Bool → Bool → ℕ → ℕ → Live → Type 0
  Laws o p x y live = (image.live_by o p x y ≡ index_of live) × ((o && p && eqb x y) ≡ is_tie live) × HasBytes at live

  by_order : (x y : ℕ) → Laws true true x y (newest (nat_cmp x y) first second)
  by_order x y = elim (cases_eq x y) [
    | inl same ↦ subst (λ o. Laws true true x y (newest o first second)) (nat_cmp_is x y Equal same)
        (ap (λ b. cond b (Some 1) (Some 0)) (let t : leb x y ≡ true = grind (arith, nat_tests) in t), (let t : eqb x y ≡ true = grind (arith, nat_tests) in t), tt)
    | inr other ↦ elim (cases_lt x y) [
      | inl lt ↦ subst (λ o. Laws true true x y (newest o first second)) (nat_cmp_is x y Less lt)
          (ap (λ b. cond b (Some 1) (Some 0)) (let t : leb x y ≡ true = grind (arith, nat_tests) in t), (let t : eqb x y ≡ false = grind (arith, nat_tests) in t), refl)
      | inr le ↦
          let gt : y < x = omega (arith, le, other) in
          subst (λ o. Laws true true x y (newest o first second)) (nat_cmp_is x y Greater gt)
          (ap (λ b. cond b (Some 1) (Some 0)) (let t : leb x y ≡ false = grind (arith, nat_tests) in t), (let t : eqb x y ≡ false = grind (arith, nat_tests) in t), refl)
    ]
  ]

  by_gates : (o p : Bool) → Laws o p (sequence_of first) (sequence_of second) (live_by o p first second)
  by_gates false false = (refl, refl, tt)
  by_gates true false = (refl, refl, refl)
  by_gates false true = (refl, refl, refl)
  by_gates true true = by_order (sequence_of first) (sequence_of second)

-- a live slot is given back by these three
live_back : (at : ℕ → List ℕ) (live : Live) → HasBytes at live → live_with (index_of live) (is_tie live) at ≡ live
live_back at no_slot has = refl
live_back at (live_slot slot bytes) has = ap (λ l. live_slot slot l) (sym has)
live_back at tied has = refl

module _ (content : Content) where
  abbrev found : Live
  found = live_among (slot_of content 0) (slot_of content 1)

  laws : Laws (slot_of content) (is_open (slot_of content 0)) (is_open (slot_of content 1)) (sequence_of (slot_of content 0)) (sequence_of (slot_of content 1)) found
  laws = by_gates (slot_of content) (is_open (slot_of content 0)) (is_open (slot_of content 1))

  found_index : live_index (bytes_of content) ≡ index_of found
  unfolding live_index sequence_of
  found_index = laws.0

  found_tie : is_tied (bytes_of content) ≡ is_tie found
  unfolding sequence_of
  found_tie = laws.1

  pub live_parts : live_of content ≡ live_among (slot_of content 0) (slot_of content 1)
  unfolding live_of
  live_parts =
      (λ i. live_with (found_index i) (found_tie i) (slot_at (bytes_of content)))
      ∙ live_back (slot_of content) found laws.2

  -- these are one
  pub live_index_is : live_index (bytes_of content) ≡ index_of (live_of content)
  live_index_is = found_index ∙ ap index_of (sym live_parts)

  pub is_tied_is : is_tied (bytes_of content) ≡ is_tie (live_of content)
  is_tied_is = found_tie ∙ ap is_tie (sym live_parts)

  pub live_bytes : HasBytes (slot_at (bytes_of content)) (live_of content)
  live_bytes = subst (HasBytes (slot_at (bytes_of content))) (sym live_parts) laws.2
