-- Walking the children of two parts, one index after the other.
--     puts_more, puts_end      what is put of the children with the indexes so far
--     one_below      of one record that neither has read both tell the same
--     both_put      both sides are put
--     walks_same      nothing is told where both sides are the same, and not read
--     walks_first, walks_clear, walks_more, walks_end      what was walked of the children with the indexes so far
--     told_differs      what is told of both sides, as pairs say it
use Rattle.std.proofs.Common.{◌≡◌, ℕ, ◌+◌, ◌-◌, ◌<◌, Bool, true, false, List, [], ◌∷◌, ◌++◌, length, refl, sym, ap, subst, ◌∙◌, Option, Some, None, arith, cond}
use Rattle.std.proofs.lemmas.Bool.{false≢true}
use Rattle.std.proofs.lemmas.Bool.Decides.{nat_tests}
use Rattle.std.specs.Prelude.{◌==◌, ◌&&◌, ◌||◌, nat_lt, option_map}
use Rattle.std.specs.FinMap.Entries.{find}
use Rattle.ip_spec.specs.Path.{Path, Step, bytes_cmp}
use Rattle.ip_spec.specs.Shape.{Entries, deepest, place}
use Rattle.ip_spec.specs.View.{View, leads}
use Rattle.ip_spec.specs.declared.record.Record.{Record}
use Rattle.ip_shape.specs.Shape.{ByTest}
use Rattle.ip_tree.specs.Finding.{FindsIn}
use Rattle.ip_tree.specs.Node as view
use Rattle.ip_tree.specs.Reads.{entry_below}
use Rattle.ip_tree.specs.declared.look.Place.{Place}
use Rattle.ip_tree.specs.declared.node.Stored.{Stored}
use Rattle.ip_tree.proofs.PartRecords.{place_small}
use Rattle.ip_differ.specs.Differing.{Differs, IsSameAt, entry_in}
use Rattle.ip_differ.specs.Pieces.{PieceIs, is_one_record}
use Rattle.ip_differ.specs.Sides.{IsClear, IsUnreadEntry, Puts, Tells, Walks, with_side}
use Rattle.ip_differ.specs.declared.pairs.Entry.{Entry}
use Rattle.ip_differ.specs.declared.pairs.Entry.TheVariants as entry
use Rattle.ip_differ.specs.declared.pairs.Pair.{Pair}
use Rattle.ip_differ.specs.declared.pairs.Side.{Side}
use Rattle.ip_differ.specs.declared.pairs.Side.TheVariants.{One, Other}
use Rattle.ip_differ.specs.declared.piece.Piece.{Piece}
use Rattle.ip_differ.specs.declared.piece.Piece.TheVariants as piece
use Rattle.ip_differ.proofs.Indexed.{leads_deeper}
use Rattle.ip_differ.proofs.Leaves.{with_same}

-- ---- tests of indexes

none_below : (l : Bool) (p : ℕ) → (l && nat_lt p 0) ≡ false
none_below true p = grind (arith, nat_tests)
none_below false p = refl

one_more : (l : Bool) (p i : ℕ) → ((l && (p == i)) || (l && nat_lt p i)) ≡ (l && nat_lt p (i + 1))
one_more true p i = grind (arith, nat_tests)
one_more false p i = refl

all_below : (l : Bool) (p : ℕ) → p < 32 → (l && nat_lt p 32) ≡ l
all_below true p low = grind (arith, nat_tests)
all_below false p low = refl

-- the step goes to a child before the index
abbrev pub is_before : List ℕ → ℕ → Step → Bool
is_before is i s = leads 0 is s && nat_lt (place s (length is)) i

-- ---- what is put of children

abbrev pub put_before : (Step → Option Entry) → List ℕ → ℕ → Step → Option Entry
put_before a is i s = cond (is_before is i s) (a s) None

abbrev pub put_here : (Step → Option Entry) → List ℕ → Step → Option Entry
put_here a is s = cond (leads 0 is s) (a s) None

pub puts_more : (side : Side) (a : Step → Option Entry) (is : List ℕ) (i : ℕ) (old mid new : List (Step × Pair)) → Puts side (put_before a is i) old mid → Puts side (put_here a (is ++ i ∷ [])) mid new
    → Puts side (put_before a is (i + 1)) old new
puts_more side a is i old mid new before here s =
    here s ∙ ap (with_side side (put_here a (is ++ i ∷ []) s)) (before s)
    ∙ ap (λ b. with_side side (cond b (a s) None) (with_side side (put_before a is i s) (find bytes_cmp s old))) (leads_deeper is i s)
    ∙ with_same side (leads 0 is s && (place s (length is) == i)) (is_before is i s) (a s) (find bytes_cmp s old)
    ∙ ap (λ b. with_side side (cond b (a s) None) (find bytes_cmp s old)) (one_more (leads 0 is s) (place s (length is)) i)

pub puts_end : (side : Side) (a : Step → Option Entry) (is : List ℕ) (old new : List (Step × Pair)) → Puts side (put_before a is 32) old new → Puts side (put_here a is) old new
puts_end side a is old new before s =
    before s ∙ ap (λ b. with_side side (cond b (a s) None) (find bytes_cmp s old)) (all_below (leads 0 is s) (place s (length is)) (place_small s (length is)))

-- ---- both sides

-- two records at one offset, neither of which was read, tell the same
pub one_below : (records : ℕ → Option Record) (x y : Piece) (a b : Step → Option Entry) (es fs : Entries) (is : List ℕ) → is_one_record x y ≡ true → PieceIs records a es is x → PieceIs records b fs is y → (s : Step)
    → leads 0 is s ≡ true → Tells (a s) (b s) None
one_below records (piece.Unread x) (piece.Unread y) a b es fs is same one other s there =
    let at : x.reference.at ≡ y.reference.at = grind (arith, same) in
    let told = one.tells s there in
    (told ∙ ap (λ n. option_map (λ z. entry.Stored z) (entry_below records (deepest - length is) n s)) at ∙ sym (other.tells s there), subst IsUnreadEntry (sym told) (unread (entry_below records (deepest - length is) x.reference.at s)))
  where
    unread : (o : Option Stored) → IsUnreadEntry (option_map (λ z. entry.Stored z) o)
    unread None = tt
    unread (Some z) = tt
one_below records (piece.Unread x) piece.Nothing a b es fs is same one other s there = absurd (false≢true same)
one_below records (piece.Unread x) (piece.Read d p) a b es fs is same one other s there = absurd (false≢true same)
one_below records piece.Nothing y a b es fs is same one other s there = absurd (false≢true same)
one_below records (piece.Read d p) y a b es fs is same one other s there = absurd (false≢true same)

module _ (a b : Step → Option Entry) (is : List ℕ) where
  abbrev Told : Step → Option Pair → Type 0
  Told s told = Tells (a s) (b s) told

  both_told : (o p : Option Entry) (told : Option Pair) → told ≡ with_side Other p (with_side One o None) → Tells o p told
  both_told o p told e = subst (Tells o p) (sym e) (by o p)
    where
      by : (o p : Option Entry) → Tells o p (with_side Other p (with_side One o None))
      by None None = (refl, tt)
      by None (Some n) = (refl, refl)
      by (Some m) None = (refl, refl)
      by (Some m) (Some n) = (refl, refl)

  pub both_put : (old mid new : List (Step × Pair)) → IsClear is old → Puts One (put_here a is) old mid → Puts Other (put_here b is) mid new → Walks a b is old new
  both_put old mid new clear one other s = by (leads 0 is s) refl (other s ∙ ap (with_side Other (put_here b is s)) (one s))
    where
      by : (l : Bool) → leads 0 is s ≡ l → find bytes_cmp s new ≡ with_side Other (cond l (b s) None) (with_side One (cond l (a s) None) (find bytes_cmp s old)) → ByTest l (Told s (find bytes_cmp s new)) (find bytes_cmp s new ≡ find bytes_cmp s old)
      by true there e = both_told (a s) (b s) (find bytes_cmp s new) (e ∙ ap (λ o. with_side Other (b s) (with_side One (a s) o)) (clear s there))
      by false away e = e

  pub walks_same : (found : List (Step × Pair)) → IsClear is found → ((s : Step) → leads 0 is s ≡ true → Told s None) → Walks a b is found found
  walks_same found clear same s = by (leads 0 is s) refl
    where
      by : (l : Bool) → leads 0 is s ≡ l → ByTest l (Told s (find bytes_cmp s found)) (find bytes_cmp s found ≡ find bytes_cmp s found)
      by true there = subst (Told s) (sym (clear s there)) (same s there)
      by false away = refl

  -- of the children before an index
  abbrev pub WalksBefore : ℕ → List (Step × Pair) → List (Step × Pair) → Type 0
  WalksBefore i old new = (s : Step) → ByTest (is_before is i s) (Told s (find bytes_cmp s new)) (find bytes_cmp s new ≡ find bytes_cmp s old)

  pub walks_first : (found : List (Step × Pair)) → WalksBefore 0 found found
  walks_first found s = subst (λ t. ByTest t (Told s (find bytes_cmp s found)) (find bytes_cmp s found ≡ find bytes_cmp s found)) (sym (none_below (leads 0 is s) (place s (length is)))) refl

  -- nothing is told yet of the next one
  pub walks_clear : (i : ℕ) (old new : List (Step × Pair)) → IsClear is old → WalksBefore i old new → IsClear (is ++ i ∷ []) new
  walks_clear i old new clear before s there = by (leads 0 is s) refl (sym (leads_deeper is i s) ∙ there) (before s)
    where
      by : (l : Bool) → leads 0 is s ≡ l → (l && (place s (length is) == i)) ≡ true → ByTest (l && nat_lt (place s (length is)) i) (Told s (find bytes_cmp s new)) (find bytes_cmp s new ≡ find bytes_cmp s old) → find bytes_cmp s new ≡ None
      by true here e walked =
          let past : nat_lt (place s (length is)) i ≡ false = grind (arith, nat_tests) in
          subst (λ t. ByTest t (Told s (find bytes_cmp s new)) (find bytes_cmp s new ≡ find bytes_cmp s old)) past walked ∙ clear s here
      by false away e walked = absurd (false≢true e)

  pub walks_more : (i : ℕ) (old mid new : List (Step × Pair)) → WalksBefore i old mid → Walks a b (is ++ i ∷ []) mid new → WalksBefore (i + 1) old new
  walks_more i old mid new before here s =
      by (leads 0 is s) (place s (length is) == i) (nat_lt (place s (length is)) i) refl refl (one_more (leads 0 is s) (place s (length is)) i)
      (subst (λ t. ByTest t (Told s (find bytes_cmp s new)) (find bytes_cmp s new ≡ find bytes_cmp s mid)) (leads_deeper is i s) (here s)) (before s)
    where
      by : (l e t : Bool) → (place s (length is) == i) ≡ e → nat_lt (place s (length is)) i ≡ t → ((l && e) || (l && t)) ≡ is_before is (i + 1) s → ByTest (l && e) (Told s (find bytes_cmp s new)) (find bytes_cmp s new ≡ find bytes_cmp s mid)
          → ByTest (l && t) (Told s (find bytes_cmp s mid)) (find bytes_cmp s mid ≡ find bytes_cmp s old) → ByTest (is_before is (i + 1) s) (Told s (find bytes_cmp s new)) (find bytes_cmp s new ≡ find bytes_cmp s old)
      by true true t f g same told walked = subst (λ q. ByTest q (Told s (find bytes_cmp s new)) (find bytes_cmp s new ≡ find bytes_cmp s old)) same told
      by true false true f g same kept walked = subst (λ q. ByTest q (Told s (find bytes_cmp s new)) (find bytes_cmp s new ≡ find bytes_cmp s old)) same (subst (Told s) (sym kept) walked)
      by true false false f g same kept walked = subst (λ q. ByTest q (Told s (find bytes_cmp s new)) (find bytes_cmp s new ≡ find bytes_cmp s old)) same (kept ∙ walked)
      by false e t f g same kept walked = subst (λ q. ByTest q (Told s (find bytes_cmp s new)) (find bytes_cmp s new ≡ find bytes_cmp s old)) same (kept ∙ walked)

  pub walks_end : (old new : List (Step × Pair)) → WalksBefore 32 old new → Walks a b is old new
  walks_end old new before s =
      subst (λ t. ByTest t (Told s (find bytes_cmp s new)) (find bytes_cmp s new ≡ find bytes_cmp s old)) (all_below (leads 0 is s) (place s (length is)) (place_small s (length is))) (before s)

-- ---- pairs

module _ (records : ℕ → Option Record) (v w : View) (p q : Path) (one other : Option Place) (s : Step) where
  same_at : (e : Option Entry) → IsUnreadEntry e → FindsIn records v (p ++ s ∷ []) (entry_in one s e) → FindsIn records w (q ++ s ∷ []) (entry_in other s e) → IsSameAt records v w (p ++ s ∷ []) (q ++ s ∷ [])
  same_at None unread here there = record { node = None; unread = tt; one = here; other = there }
  same_at (Some (entry.Stored x)) unread here there = record { node = Some (view.stored x); unread = tt; one = here; other = there }
  same_at (Some entry.Read) unread here there = absurd unread

  pub told_differs : (a b : Option Entry) (pair : Option Pair) → FindsIn records v (p ++ s ∷ []) (entry_in one s a) → FindsIn records w (q ++ s ∷ []) (entry_in other s b)
      → Tells a b pair → Differs records v w p q one other s pair
  told_differs a b (Some pair) here there told =
      (subst (λ e. FindsIn records v (p ++ s ∷ []) (entry_in one s e)) (sym told.0) here, subst (λ e. FindsIn records w (q ++ s ∷ []) (entry_in other s e)) (sym told.1) there)
  told_differs a b None here there told = same_at a told.1 here (subst (λ e. FindsIn records w (q ++ s ∷ []) (entry_in other s e)) (sym told.0) there)
