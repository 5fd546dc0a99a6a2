-- The entries of a directory, and their steps.
use Rattle.std.proofs.Common.{◌≡◌, Bool, true, false, not, List, [], ◌∷◌, subst, sym, ap, ◌∙◌, refl, Option, Some, None, ◌++◌, ◌+◌, append_assoc, drop, length, arith}
use Rattle.std.specs.Prelude.{cond, T, ◌||◌, is_some, IsSome}
use Rattle.std.proofs.lemmas.Bool.{false≢true}
use Rattle.std.proofs.Math.Seq.{drop-append_seam}
use Rattle.std.proofs.lemmas.List.{length-append}
use Rattle.std.specs.Ordering.{is_lt, is_eq, match_ordering, ordering_reverse}
use Rattle.std.specs.declared.cmp.Ordering.{Ordering}
use Rattle.std.specs.declared.cmp.Ordering.TheVariants.{Less, Equal, Greater}
use Rattle.std.specs.Map.{lookup, remove_entry}
use Rattle.std.specs.BTreeMap.{insert_entry}
use Rattle.std.specs.FinMap.Entries.{by_order, find, put, is_some-find}
use Rattle.std.proofs.lemmas.Cmp.{nat_list_cmp_total}
use Rattle.std.specs.Cmp.{tied_itself}
use Rattle.ip_spec.specs.Path.{Step, bytes_cmp, same_bytes}
use Rattle.ip_shape.specs.Shape.{AreSteps, ascend, is_below_all, add, has, take_out}
use Rattle.ip_shape.specs.Directory.{steps_of, entries_from, without, IsDir}
use Rattle.ip_shape.specs.declared.dir.Dir.{Dir}
use Rattle.ip_shape.proofs.Steps.{both, first, second, less, equal, lt_of, below_through, same_step}
use Rattle.ip_shape.proofs.Members.{neither}

module _ {C : Type 0} where
  pub find_is : (s : Step) (es : List (Step × C)) → lookup (λ k. is_eq (bytes_cmp s k)) es ≡ find bytes_cmp s es
  find_is s [] = refl
  find_is s (e ∷ es) = ap (cond (is_eq (bytes_cmp s e.0)) (Some e.1)) (find_is s es)

  put_by : (o : Ordering) (a b c d : List (Step × C)) → c ≡ d → match_ordering o a b c ≡ by_order o a b d
  put_by Less a b c d e = refl
  put_by Equal a b c d e = refl
  put_by Greater a b c d e = e

  pub put_is : (s : Step) (x : C) (es : List (Step × C)) → insert_entry bytes_cmp es s x ≡ put bytes_cmp s x es
  put_is s x [] = refl
  put_is s x (e ∷ es) = put_by (bytes_cmp s e.0) _ _ _ _ (ap (λ l. e ∷ l) (put_is s x es))

  steps_by : (s : Step) (x : C) (e : Step × C) (es rest : List (Step × C)) (o : Ordering) → steps_of rest ≡ add s (steps_of es)
      → steps_of (by_order o ((s, x) ∷ e ∷ es) ((e.0, x) ∷ es) (e ∷ rest)) ≡ by_order o (s ∷ e.0 ∷ steps_of es) (e.0 ∷ steps_of es) (e.0 ∷ add s (steps_of es))
  steps_by s x e es rest Less h = refl
  steps_by s x e es rest Equal h = refl
  steps_by s x e es rest Greater h = ap (λ l. e.0 ∷ l) h

  pub steps_put : (s : Step) (x : C) (es : List (Step × C)) → steps_of (put bytes_cmp s x es) ≡ add s (steps_of es)
  steps_put s x [] = refl
  steps_put s x (e ∷ es) = steps_by s x e es (put bytes_cmp s x es) (bytes_cmp s e.0) (steps_put s x es)

  out_by : (s : Step) (x : C) (e : Step × C) (es : List (Step × C)) (o : Ordering) → bytes_cmp s e.0 ≡ o → cond (is_eq o) (Some e.1) (find bytes_cmp s es) ≡ None
      → (find bytes_cmp s es ≡ None → remove_entry (λ k. is_eq (bytes_cmp s k)) (put bytes_cmp s x es) ≡ es)
      → remove_entry (λ k. is_eq (bytes_cmp s k)) (by_order o ((s, x) ∷ e ∷ es) ((e.0, x) ∷ es) (e ∷ put bytes_cmp s x es)) ≡ e ∷ es
  out_by s x e es Less is none rest = ap (λ o. cond (is_eq o) (e ∷ es) ((s, x) ∷ remove_entry (λ k. is_eq (bytes_cmp s k)) (e ∷ es))) (tied_itself nat_list_cmp_total s)
  out_by s x e es Equal is none rest = absurd (false≢true (sym (ap is_some none)))
  out_by s x e es Greater is none rest = ap (λ o. cond (is_eq o) (put bytes_cmp s x es) (e ∷ remove_entry (λ k. is_eq (bytes_cmp s k)) (put bytes_cmp s x es))) is ∙ ap (λ l. e ∷ l) (rest none)

  pub taken_back : (s : Step) (x : C) (es : List (Step × C)) → find bytes_cmp s es ≡ None → remove_entry (λ k. is_eq (bytes_cmp s k)) (put bytes_cmp s x es) ≡ es
  taken_back s x [] none = ap (λ o. cond (is_eq o) [] ((s, x) ∷ [])) (tied_itself nat_list_cmp_total s)
  taken_back s x (e ∷ es) none = out_by s x e es (bytes_cmp s e.0) refl none (taken_back s x es)

  pub entered_is : (s k : Step) (x : C) (old es : List (Step × C)) → k ≡ s → old ≡ es → (new : List (Step × C)) → new ≡ insert_entry bytes_cmp old k x → new ≡ put bytes_cmp s x es
  entered_is s k x old es key is new e =
      e ∙ put_is k x old ∙ ap (λ t. put bytes_cmp t x old) key ∙ ap (λ (l : List (Step × C)). put bytes_cmp s x l) is

  pub found_is : (s k : Step) (old es : List (Step × C)) → k ≡ s → old ≡ es → (o : Option C) → o ≡ lookup (λ t. is_eq (bytes_cmp k t)) old → o ≡ find bytes_cmp s es
  found_is s k old es key is o e =
      e ∙ find_is k old ∙ ap (λ t. find bytes_cmp t old) key ∙ ap (λ (l : List (Step × C)). find bytes_cmp s l) is

  pub has_of : (s : Step) (es : List (Step × C)) → has s (steps_of es) ≡ is_some (find bytes_cmp s es)
  has_of s es = sym (is_some-find bytes_cmp s es)

  pub none_of : (o : Option C) → is_some o ≡ false → o ≡ None
  none_of None e = refl
  none_of (Some x) e = absurd (false≢true (sym e))

  pub some_is : (o : Option C) (x : C) → o ≡ Some x → IsSome o
  some_is o x e = ap is_some e

above : (s t : Step) → bytes_cmp s t ≡ Greater → bytes_cmp t s ≡ Less
above s t e = nat_list_cmp_total.antisymm t s ∙ ap ordering_reverse e

below_by : (u s t : Step) (ts rest : List Step) (o : Ordering) → T (is_lt (bytes_cmp u s)) → T (is_lt (bytes_cmp u t)) → T (is_below_all u ts) → T (is_below_all u rest)
    → T (is_below_all u (by_order o (s ∷ t ∷ ts) (t ∷ ts) (t ∷ rest)))
below_by u s t ts rest Less a b c d = both (is_lt (bytes_cmp u s)) (is_below_all u (t ∷ ts)) a (both (is_lt (bytes_cmp u t)) (is_below_all u ts) b c)
below_by u s t ts rest Equal a b c d = both (is_lt (bytes_cmp u t)) (is_below_all u ts) b c
below_by u s t ts rest Greater a b c d = both (is_lt (bytes_cmp u t)) (is_below_all u rest) b d

below_add : (u s : Step) (ts : List Step) → T (is_lt (bytes_cmp u s)) → T (is_below_all u ts) → T (is_below_all u (add s ts))
below_add u s [] a h = both (is_lt (bytes_cmp u s)) true a tt
below_add u s (t ∷ ts) a h =
    let rest = second (is_lt (bytes_cmp u t)) (is_below_all u ts) h in
    below_by u s t ts (add s ts) (bytes_cmp s t) a (first (is_lt (bytes_cmp u t)) (is_below_all u ts) h) rest (below_add u s ts a rest)

ascend_by : (s t : Step) (ts : List Step) (o : Ordering) → bytes_cmp s t ≡ o → AreSteps (t ∷ ts) → AreSteps (add s ts) → AreSteps (by_order o (s ∷ t ∷ ts) (t ∷ ts) (t ∷ add s ts))
ascend_by s t ts Less e h rest =
    both (is_below_all s (t ∷ ts)) (ascend (t ∷ ts))
    (both (is_lt (bytes_cmp s t)) (is_below_all s ts) (lt_of (bytes_cmp s t) e) (below_through s t ts e (first (is_below_all t ts) (ascend ts) h))) h
ascend_by s t ts Equal e h rest = h
ascend_by s t ts Greater e h rest =
    both (is_below_all t (add s ts)) (ascend (add s ts)) (below_add t s ts (lt_of (bytes_cmp t s) (above s t e)) (first (is_below_all t ts) (ascend ts) h)) rest

pub AreSteps-add : (s : Step) (ss : List Step) → AreSteps ss → AreSteps (add s ss)
AreSteps-add s [] h = tt
AreSteps-add s (t ∷ ts) h = ascend_by s t ts (bytes_cmp s t) refl h (AreSteps-add s ts (second (is_below_all t ts) (ascend ts) h))

pub from_last : {C : Type 0} (given : List (Step × C)) (e : Step × C) (es : List (Step × C)) → entries_from (given ++ e ∷ []) es ≡ entries_from given (put bytes_cmp e.0 e.1 es)
from_last [] e es = refl
from_last (f ∷ given) e es = ap (put bytes_cmp f.0 f.1) (from_last given e es)

pub own : {C R : Type 0} (dir : Dir C R) (es : List (Step × C)) → IsDir dir es → IsDir dir dir.entries.entries
own dir es is = subst (λ l. IsDir dir l) (sym is.0.0) is

-- one more of those given goes into its place
pub moved : {C : Type 0} (given left es new all : List (Step × C)) (s : Step) (x : C) → given ≡ left ++ (s, x) ∷ [] → new ≡ put bytes_cmp s x es → entries_from given es ≡ all → entries_from left new ≡ all
moved given left es new all s x is put_in before =
    ap (entries_from left) put_in ∙ sym (from_last left (s, x) es) ∙ ap (λ l. entries_from l es) (sym is) ∙ before

-- and all behind it stand there already
pub one_out : {C : Type 0} (given left init : List (Step × C)) (e : Step × C) → given ≡ left ++ drop (length left) given → left ≡ init ++ e ∷ []
    → (given ≡ init ++ drop (length init) given) × (drop (length init) given ≡ e ∷ drop (length left) given) × (length left ≡ length init + 1)
one_out {C = C} given left init e split last =
    let rest = drop (length left) given in
    let all : given ≡ init ++ e ∷ rest = split ∙ ap (λ (l : List (Step × C)). l ++ rest) last ∙ append_assoc init (e ∷ []) rest in
    let behind : drop (length init) given ≡ e ∷ rest = ap (drop (length init)) all ∙ drop-append_seam init (e ∷ rest) in
    (all ∙ ap (λ l. init ++ l) (sym behind), behind, ap length last ∙ length-append init (e ∷ []))

pub none_out : {A : Type 0} (xs : List A) → (drop (length xs) xs ≡ []) × (xs ≡ xs ++ drop (length xs) xs)
none_out [] = (refl, refl)
none_out (x ∷ xs) = ((none_out xs).0, ap (λ l. x ∷ l) (none_out xs).1)

put_front : {C : Type 0} (e : Step × C) (es : List (Step × C)) → T (is_below_all e.0 (steps_of es)) → put bytes_cmp e.0 e.1 es ≡ e ∷ es
put_front e [] below = refl
put_front e (f ∷ es) below =
    ap (λ o. by_order o (e ∷ f ∷ es) ((f.0, e.1) ∷ es) (f ∷ put bytes_cmp e.0 e.1 es)) (less (bytes_cmp e.0 f.0) (first (is_lt (bytes_cmp e.0 f.0)) (is_below_all e.0 (steps_of es)) below))

-- entries that ascend, put into a map that has none, are the map's
pub from_none : {C : Type 0} (es : List (Step × C)) → AreSteps (steps_of es) → entries_from es [] ≡ es
from_none [] ascends = refl
from_none (e ∷ es) ascends =
    ap (put bytes_cmp e.0 e.1) (from_none es (second (is_below_all e.0 (steps_of es)) (ascend (steps_of es)) ascends))
    ∙ put_front e es (first (is_below_all e.0 (steps_of es)) (ascend (steps_of es)) ascends)

pub nil_of : {A : Type 0} (xs : List A) → length xs ≡ 0 → xs ≡ []
nil_of [] e = refl
nil_of (x ∷ xs) e = absurd (omega (arith, e))

-- with none left, all stand in the directory
pub all_in : {C R : Type 0} (dir : Dir C R) (left es all : List (Step × C)) → length left ≡ 0 → IsDir dir es → entries_from left es ≡ all → IsDir dir all
all_in dir left es all none is e = subst (λ l. IsDir dir l) (ap (λ l. entries_from l es) (sym (nil_of left none)) ∙ e) is

pub below_absent : (s : Step) (ts : List Step) → T (is_below_all s ts) → has s ts ≡ false
below_absent s [] h = refl
below_absent s (t ∷ ts) h =
    ap (λ o. is_eq o || has s ts) (less (bytes_cmp s t) (first (is_lt (bytes_cmp s t)) (is_below_all s ts) h)) ∙ below_absent s ts (second (is_lt (bytes_cmp s t)) (is_below_all s ts) h)

module _ {C : Type 0} where
  pub steps_without : (s : Step) (es : List (Step × C)) → steps_of (without s es) ≡ take_out s (steps_of es)
  steps_without s [] = refl
  steps_without s (e ∷ es) =
      elim (same_bytes s e.0) as (λ b. steps_of (cond (not b) (e ∷ without s es) (without s es)) ≡ cond (not b) (e.0 ∷ take_out s (steps_of es)) (take_out s (steps_of es))) [
        | true ↦ steps_without s es
        | false ↦ ap (λ ss. e.0 ∷ ss) (steps_without s es)
      ]

  pub without_absent : (s : Step) (es : List (Step × C)) → has s (steps_of es) ≡ false → without s es ≡ es
  without_absent s [] absent = refl
  without_absent s (e ∷ es) absent =
      let none = neither (same_bytes s e.0) (has s (steps_of es)) absent in
      ap (λ b. cond (not b) (e ∷ without s es) (without s es)) none.0 ∙ ap (λ l. e ∷ l) (without_absent s es none.1)

  out_at : (s : Step) (e : Step × C) (es : List (Step × C)) (b : Bool) → same_bytes s e.0 ≡ b → T (is_below_all e.0 (steps_of es)) → remove_entry (λ k. is_eq (bytes_cmp s k)) es ≡ without s es
      → cond b es (e ∷ remove_entry (λ k. is_eq (bytes_cmp s k)) es) ≡ cond (not b) (e ∷ without s es) (without s es)
  out_at s e es true is below rest =
      sym (without_absent s es (ap (λ t. has t (steps_of es)) (same_step s e.0 (equal (bytes_cmp s e.0) is)) ∙ below_absent e.0 (steps_of es) below))
  out_at s e es false is below rest = ap (λ l. e ∷ l) rest

  pub removed_is : (s : Step) (es : List (Step × C)) → AreSteps (steps_of es) → remove_entry (λ k. is_eq (bytes_cmp s k)) es ≡ without s es
  removed_is s [] ascending = refl
  removed_is s (e ∷ es) ascending =
      out_at s e es (same_bytes s e.0) refl (first (is_below_all e.0 (steps_of es)) (ascend (steps_of es)) ascending)
      (removed_is s es (second (is_below_all e.0 (steps_of es)) (ascend (steps_of es)) ascending))
