-- The entries of the parts of a directory, by indexes.
--     part_steps      their steps are those of the directory at the indexes
--     part_deeper      one index more leads to those at its place
--     part_found      of the directory's entries a part has those to whose steps the indexes lead
--     same_part       so it is told by them
--     part_put, part_without      and an edit at another step leaves it
--     ordered_steps      entries are in order as their steps are
--     some_above      a part with entries stands in one with entries
use Rattle.std.proofs.Common.{◌≡◌, ℕ, suc, ◌<◌, ◌≤◌, Bool, true, false, not, List, [], ◌∷◌, ◌++◌, ◌+◌, length, refl, sym, ap, ◌∙◌, Option, Some, None, T, arith}
use Rattle.std.specs.Prelude.{cond, ◌==◌, ◌&&◌}
use Rattle.std.specs.Ordering.{is_lt}
use Rattle.std.proofs.lemmas.Bool.{false≢true}
use Rattle.std.proofs.lemmas.Cmp.{nat_list_cmp_total}
use Rattle.std.proofs.lemmas.List.Filters.{length-filter_both}
use Rattle.std.specs.FinMap.Entries.{below_all, find, put, is_sorted, find-put, find-where_key, is_sorted-put, is_sorted-where_key, same_entries}
use Rattle.ip_spec.specs.Path.{Step, bytes_cmp, same_bytes}
use Rattle.ip_spec.specs.Shape.{place, at_place, part_from, part}
use Rattle.ip_spec.specs.View.{leads}
use Rattle.ip_shape.specs.Directory.{steps_of, without}
use Rattle.ip_shape.specs.Reading.{steps_under}
use Rattle.ip_shape.specs.Shape.{ascend, is_below_all}
use Rattle.ip_shape.proofs.ByEntries.{steps_at_place}
use Rattle.ip_shape.proofs.Steps.{equal, same_step}

module _ {C : Type 0} where
  abbrev pub IsOrdered : List (Step × C) → Type 0
  IsOrdered es = T (is_sorted bytes_cmp es)

  below_steps : (s : Step) (es : List (Step × C)) → is_below_all s (steps_of es) ≡ below_all bytes_cmp s es
  below_steps s [] = refl
  below_steps s (e ∷ es) = ap (λ b. is_lt (bytes_cmp s e.0) && b) (below_steps s es)

  pub ordered_steps : (es : List (Step × C)) → ascend (steps_of es) ≡ is_sorted bytes_cmp es
  ordered_steps [] = refl
  ordered_steps (e ∷ es) = ap (λ b. b && ascend (steps_of es)) (below_steps e.0 es) ∙ ap (λ b. below_all bytes_cmp e.0 es && b) (ordered_steps es)

  pub part_steps : (depth : ℕ) (is : List ℕ) (es : List (Step × C)) → steps_of (part_from depth es is) ≡ steps_under depth is (steps_of es)
  part_steps depth [] es = refl
  part_steps depth (i ∷ is) es = part_steps (suc depth) is (at_place depth i es) ∙ ap (steps_under (suc depth) is) (steps_at_place depth i es)

  -- one index more
  part_from_deeper : (depth : ℕ) (es : List (Step × C)) (is : List ℕ) (i : ℕ) → part_from depth es (is ++ i ∷ []) ≡ at_place (depth + length is) i (part_from depth es is)
  part_from_deeper depth es [] i = let here : depth ≡ depth + 0 = omega arith in ap (λ d. at_place d i es) here
  part_from_deeper depth es (j ∷ is) i =
      let next : suc depth + length is ≡ depth + suc (length is) = omega arith in
      part_from_deeper (suc depth) (at_place depth j es) is i ∙ ap (λ d. at_place d i (part_from (suc depth) (at_place depth j es) is)) next

  pub part_deeper : (es : List (Step × C)) (is : List ℕ) (i : ℕ) → part es (is ++ i ∷ []) ≡ at_place (length is) i (part es is)
  part_deeper es is i = let none : 0 + length is ≡ length is = omega arith in part_from_deeper 0 es is i ∙ ap (λ n. at_place n i (part es is)) none

  pub found_at : (depth i : ℕ) (es : List (Step × C)) (s : Step) → find bytes_cmp s (at_place depth i es) ≡ cond (place s depth == i) (find bytes_cmp s es) None
  unfolding at_place
  found_at depth i es s = find-where_key bytes_cmp (λ k. place k depth == i) s (λ x e. ap (λ k. place k depth == i) (sym (same_step s x e))) es

  nested : (p l : Bool) (x : Option C) → cond l (cond p x None) None ≡ cond (p && l) x None
  nested true l x = refl
  nested false true x = refl
  nested false false x = refl

  pub part_found : (depth : ℕ) (is : List ℕ) (es : List (Step × C)) (s : Step) → find bytes_cmp s (part_from depth es is) ≡ cond (leads depth is s) (find bytes_cmp s es) None
  part_found depth [] es s = refl
  part_found depth (i ∷ is) es s =
      part_found (suc depth) is (at_place depth i es) s ∙ ap (λ o. cond (leads (suc depth) is s) o None) (found_at depth i es s)
      ∙ nested (place s depth == i) (leads (suc depth) is s) (find bytes_cmp s es)

  pub place_ordered : (depth i : ℕ) (es : List (Step × C)) → IsOrdered es → IsOrdered (at_place depth i es)
  unfolding at_place
  place_ordered depth i es o = is_sorted-where_key bytes_cmp (λ k. place k depth == i) es o

  pub part_ordered : (depth : ℕ) (is : List ℕ) (es : List (Step × C)) → IsOrdered es → IsOrdered (part_from depth es is)
  part_ordered depth [] es o = o
  part_ordered depth (i ∷ is) es o = part_ordered (suc depth) is (at_place depth i es) (place_ordered depth i es o)

  where_true : (b : Bool) (x y : Option C) → (b ≡ true → x ≡ y) → cond b x None ≡ cond b y None
  where_true true x y same = same refl
  where_true false x y same = refl

  pub same_part : (is : List ℕ) (es fs : List (Step × C)) → IsOrdered es → IsOrdered fs → ((s : Step) → leads 0 is s ≡ true → find bytes_cmp s es ≡ find bytes_cmp s fs) → part es is ≡ part fs is
  same_part is es fs o p same =
      same_entries bytes_cmp nat_list_cmp_total same_step (part es is) (part fs is) (part_ordered 0 is es o) (part_ordered 0 is fs p)
      (λ s. part_found 0 is es s ∙ where_true (leads 0 is s) _ _ (same s) ∙ sym (part_found 0 is fs s))

  pub some_at : (depth i : ℕ) (es : List (Step × C)) → length (at_place depth i es) ≤ length es
  unfolding at_place
  some_at depth i es = omega (arith, length-filter_both (λ (e : Step × C). place e.0 depth == i) (λ e. not (place e.0 depth == i)) (λ _. refl) es)

  pub some_above : (depth : ℕ) (is : List ℕ) (es : List (Step × C)) → 0 < length (part_from depth es is) → 0 < length es
  some_above depth [] es some = some
  some_above depth (i ∷ is) es some = omega (arith, some_above (suc depth) is (at_place depth i es) some, some_at depth i es)

  pub without_ordered : (s : Step) (es : List (Step × C)) → IsOrdered es → IsOrdered (without s es)
  without_ordered s es o = is_sorted-where_key bytes_cmp (λ k. not (same_bytes s k)) es o

  pub found_without : (s : Step) (es : List (Step × C)) (q : Step) → find bytes_cmp q (without s es) ≡ cond (not (same_bytes s q)) (find bytes_cmp q es) None
  found_without s es q = find-where_key bytes_cmp (λ k. not (same_bytes s k)) q (λ x e. ap (λ k. not (same_bytes s k)) (sym (same_step q x e))) es

-- steps to which the same indexes don't lead differ
pub apart : (is : List ℕ) (q s : Step) → leads 0 is q ≡ true → leads 0 is s ≡ false → same_bytes q s ≡ false
apart is q s there away = by (same_bytes q s) refl
  where
    by : (b : Bool) → same_bytes q s ≡ b → b ≡ false
    by true e = absurd (false≢true (sym away ∙ ap (leads 0 is) (sym (same_step q s (equal _ e))) ∙ there))
    by false e = refl

pub apart_too : (is : List ℕ) (q s : Step) → leads 0 is q ≡ true → leads 0 is s ≡ false → same_bytes s q ≡ false
apart_too is q s there away = by (same_bytes s q) refl
  where
    by : (b : Bool) → same_bytes s q ≡ b → b ≡ false
    by true e = absurd (false≢true (sym away ∙ ap (leads 0 is) (same_step s q (equal _ e)) ∙ there))
    by false e = refl

module _ {C : Type 0} where
  pub part_put : (is : List ℕ) (s : Step) (x : C) (es : List (Step × C)) → IsOrdered es → leads 0 is s ≡ false → part (put bytes_cmp s x es) is ≡ part es is
  part_put is s x es o away =
      same_part is (put bytes_cmp s x es) es (is_sorted-put bytes_cmp nat_list_cmp_total s x es o) o
      (λ q there. find-put bytes_cmp nat_list_cmp_total q s x es ∙ ap (λ b. cond b (Some x) (find bytes_cmp q es)) (apart is q s there away))

  pub part_without : (is : List ℕ) (s : Step) (es : List (Step × C)) → IsOrdered es → leads 0 is s ≡ false → part (without s es) is ≡ part es is
  part_without is s es o away =
      same_part is (without s es) es (without_ordered s es o) o
      (λ q there. found_without s es q ∙ ap (λ b. cond (not b) (find bytes_cmp q es) None) (apart_too is q s there away))
