-- Which steps stand among steps that ascend: by std's lemmas on lists of entries, each step an entry with no value.
use Rattle.std.proofs.Common.{◌≡◌, suc, ◌+◌, Bool, true, false, List, [], ◌∷◌, length, map, filter, not, sym, ap, ◌∙◌, refl, subst, Option, Some, None, true≢false}
use Rattle.std.specs.Prelude.{cond, T, ◌&&◌, ◌||◌, is_some}
use Rattle.std.specs.Ordering.{is_lt, is_eq}
use Rattle.std.specs.declared.cmp.Ordering.{Ordering}
use Rattle.std.specs.declared.cmp.Ordering.TheVariants.{Less, Equal, Greater}
use Rattle.std.specs.FinMap.Entries.{by_order, find, put, is_sorted, below_all, where_key, find-put, find-where_key, length-put, length_without, same_entries}
use Rattle.std.specs.Cmp.{tied_itself}
use Rattle.std.proofs.lemmas.Cmp.{nat_list_cmp_total}
use Rattle.ip_spec.specs.Path.{Step, bytes_cmp, same_bytes}
use Rattle.ip_shape.specs.Shape.{AreSteps, ascend, is_below_all, add, has, take_out}
use Rattle.ip_shape.proofs.Steps.{same_step}

abbrev pub Bare : Type 0
Bare = List (Step × Unit {0})

bare : List Step → Bare
bare ss = map (λ s. (s, tt)) ss

back : (ss : List Step) → map (λ e. e.0) (bare ss) ≡ ss
unfolding bare
back [] = refl
back (s ∷ ss) = ap (λ l. s ∷ l) (back ss)

below_is : (s : Step) (ss : List Step) → is_below_all s ss ≡ below_all bytes_cmp s (bare ss)
unfolding bare
below_is s [] = refl
below_is s (t ∷ ts) = ap (λ b. is_lt (bytes_cmp s t) && b) (below_is s ts)

sorted_is : (ss : List Step) → ascend ss ≡ is_sorted bytes_cmp (bare ss)
unfolding bare
sorted_is [] = refl
sorted_is (s ∷ ss) = ap (λ b. b && ascend ss) (below_is s ss) ∙ ap (λ b. below_all bytes_cmp s (bare ss) && b) (sorted_is ss)

put_by : (s t : Step) (ts : List Step) (o : Ordering) (rest : Bare) → bare (add s ts) ≡ rest
    → bare (by_order o (s ∷ t ∷ ts) (t ∷ ts) (t ∷ add s ts)) ≡ by_order o ((s, tt) ∷ (t, tt) ∷ bare ts) ((t, tt) ∷ bare ts) ((t, tt) ∷ rest)
unfolding bare
put_by s t ts Less rest e = refl
put_by s t ts Equal rest e = refl
put_by s t ts Greater rest e = ap (λ l. (t, tt) ∷ l) e

put_is : (s : Step) (ss : List Step) → bare (add s ss) ≡ put bytes_cmp s tt (bare ss)
unfolding bare
put_is s [] = refl
put_is s (t ∷ ts) = put_by s t ts (bytes_cmp s t) (put bytes_cmp s tt (bare ts)) (put_is s ts)

filter_is : (p : Step → Bool) (ss : List Step) → bare (filter p ss) ≡ where_key bytes_cmp p (bare ss)
unfolding bare
filter_is p [] = refl
filter_is p (s ∷ ss) = elim (p s) as (λ b. bare (cond b (s ∷ filter p ss) (filter p ss)) ≡ cond b ((s, tt) ∷ where_key bytes_cmp p (bare ss)) (where_key bytes_cmp p (bare ss))) [
  | true ↦ ap (λ l. (s, tt) ∷ l) (filter_is p ss)
  | false ↦ filter_is p ss
]

by_has : (b c : Bool) (o : Option (Unit {0})) → o ≡ cond c (Some tt) None → cond b (Some tt) o ≡ cond (b || c) (Some tt) None
by_has true c o e = refl
by_has false c o e = e

find_is : (q : Step) (ss : List Step) → find bytes_cmp q (bare ss) ≡ cond (has q ss) (Some tt) None
unfolding bare
find_is q [] = refl
find_is q (s ∷ ss) = by_has (same_bytes q s) (has q ss) _ (find_is q ss)

here : Option (Unit {0})
here = Some tt

is_some_of : (b : Bool) → is_some (cond b here None) ≡ b
unfolding here
is_some_of true = refl
is_some_of false = refl

has_is : (q : Step) (ss : List Step) → is_some (find bytes_cmp q (bare ss)) ≡ has q ss
unfolding here
has_is q ss = ap is_some (find_is q ss) ∙ is_some_of (has q ss)

either_some : (b : Bool) (o : Option (Unit {0})) → is_some (cond b (Some tt) o) ≡ (b || is_some o)
either_some true o = refl
either_some false o = refl

both_some : (b : Bool) (o : Option (Unit {0})) → is_some (cond b o None) ≡ (b && is_some o)
both_some true o = refl
both_some false o = refl

pub has-add : (q s : Step) (ss : List Step) → has q (add s ss) ≡ (same_bytes q s || has q ss)
has-add q s ss =
    sym (has_is q (add s ss)) ∙ ap (λ es. is_some (find bytes_cmp q es)) (put_is s ss) ∙ ap is_some (find-put bytes_cmp nat_list_cmp_total q s tt (bare ss))
    ∙ either_some (same_bytes q s) (find bytes_cmp q (bare ss)) ∙ ap (λ b. same_bytes q s || b) (has_is q ss)

pub has-filter : (p : Step → Bool) (q : Step) (ss : List Step) → has q (filter p ss) ≡ (p q && has q ss)
has-filter p q ss =
    sym (has_is q (filter p ss)) ∙ ap (λ es. is_some (find bytes_cmp q es)) (filter_is p ss)
    ∙ ap is_some (find-where_key bytes_cmp p q (λ x e. ap p (sym (same_step q x e))) (bare ss))
    ∙ both_some (p q) (find bytes_cmp q (bare ss)) ∙ ap (λ b. p q && b) (has_is q ss)

-- steps that ascend are told by which steps stand among them
pub same_steps : (ss ts : List Step) → AreSteps ss → AreSteps ts → ((q : Step) → has q ss ≡ has q ts) → ss ≡ ts
same_steps ss ts a b same =
    let one = same_entries bytes_cmp nat_list_cmp_total same_step (bare ss) (bare ts) (subst T (sorted_is ss) a) (subst T (sorted_is ts) b)
    (λ q. find_is q ss ∙ ap (λ h. cond h (Some tt) None) (same q) ∙ sym (find_is q ts)) in
    sym (back ss) ∙ ap (λ (es : Bare). map (λ e. e.0) es) one ∙ back ts

long_is : (ss : List Step) → length (bare ss) ≡ length ss
unfolding bare
long_is [] = refl
long_is (s ∷ ss) = ap suc (long_is ss)

pub length_added : (s : Step) (ss : List Step) → AreSteps ss → has s ss ≡ false → length (add s ss) ≡ length ss + 1
length_added s ss a absent =
    sym (long_is (add s ss)) ∙ ap length (put_is s ss) ∙ length-put bytes_cmp nat_list_cmp_total s tt (bare ss) (subst T (sorted_is ss) a)
    ∙ ap (λ b. cond b (length (bare ss)) (length (bare ss) + 1)) (has_is s ss ∙ absent) ∙ ap (λ n. n + 1) (long_is ss)

pub length_taken : (s : Step) (ss : List Step) → AreSteps ss → has s ss ≡ true → 1 + length (take_out s ss) ≡ length ss
length_taken s ss a is_in =
    ap (λ n. 1 + n) (sym (long_is (take_out s ss)) ∙ ap length (filter_is (λ t. not (same_bytes s t)) ss))
    ∙ ap (λ b. cond b 1 0 + length (where_key bytes_cmp (λ t. not (same_bytes s t)) (bare ss))) (sym (has_is s ss ∙ is_in))
    ∙ length_without bytes_cmp nat_list_cmp_total s (bare ss) (subst T (sorted_is ss) a) ∙ long_is ss

-- a step that is missing takes nothing with it
out_by : (s t : Step) (ts : List Step) → same_bytes s t ≡ false → take_out s ts ≡ ts → take_out s (t ∷ ts) ≡ t ∷ ts
out_by s t ts e rest = ap (λ b. cond (not b) (t ∷ take_out s ts) (take_out s ts)) e ∙ ap (λ l. t ∷ l) rest

pub neither : (a b : Bool) → (a || b) ≡ false → (a ≡ false) × (b ≡ false)
neither true b e = absurd (true≢false e)
neither false b e = (refl, e)

pub out_none : (s : Step) (ts : List Step) → has s ts ≡ false → take_out s ts ≡ ts
out_none s [] e = refl
out_none s (t ∷ ts) e =
    let none = neither (same_bytes s t) (has s ts) e in
    out_by s t ts none.0 (out_none s ts none.1)

-- two tests, in either order
module _ (p q : Step → Bool) (s : Step) (ss : List Step) (rest : filter p (filter q ss) ≡ filter q (filter p ss)) where
  swap_by : (a b : Bool) → p s ≡ a → q s ≡ b → filter p (cond b (s ∷ filter q ss) (filter q ss)) ≡ filter q (cond a (s ∷ filter p ss) (filter p ss))
  swap_by true true e f =
      ap (λ c. cond c (s ∷ filter p (filter q ss)) (filter p (filter q ss))) e ∙ ap (λ l. s ∷ l) rest ∙ sym (ap (λ c. cond c (s ∷ filter q (filter p ss)) (filter q (filter p ss))) f)
  swap_by true false e f = rest ∙ sym (ap (λ c. cond c (s ∷ filter q (filter p ss)) (filter q (filter p ss))) f)
  swap_by false true e f = ap (λ c. cond c (s ∷ filter p (filter q ss)) (filter p (filter q ss))) e ∙ rest
  swap_by false false e f = rest

filters_swap : (p q : Step → Bool) (ss : List Step) → filter p (filter q ss) ≡ filter q (filter p ss)
filters_swap p q [] = refl
filters_swap p q (s ∷ ss) = swap_by p q s ss (filters_swap p q ss) (p s) (q s) refl refl

pub out_swaps : (p : Step → Bool) (s : Step) (ss : List Step) → take_out s (filter p ss) ≡ filter p (take_out s ss)
out_swaps p s ss = filters_swap (λ t. not (same_bytes s t)) p ss

itself : (s : Step) → same_bytes s s ≡ true
itself s = ap is_eq (tied_itself nat_list_cmp_total s)

pub or_more : (a b : Bool) → b ≡ true → (a || b) ≡ true
or_more true b e = refl
or_more false b e = e

pub at_head : (s : Step) (ss : List Step) → has s (s ∷ ss) ≡ true
at_head s ss = ap (λ b. b || has s ss) (itself s)

pub all_pass : (p : Step → Bool) (ss : List Step) → ((t : Step) → has t ss ≡ true → p t ≡ true) → filter p ss ≡ ss
all_pass p [] pass = refl
all_pass p (s ∷ ss) pass =
    ap (λ b. cond b (s ∷ filter p ss) (filter p ss)) (pass s (at_head s ss)) ∙ ap (λ l. s ∷ l) (all_pass p ss (λ t is_in. pass t (or_more (same_bytes t s) (has t ss) is_in)))

pub none_pass : (p : Step → Bool) (ss : List Step) → ((t : Step) → has t ss ≡ true → p t ≡ false) → filter p ss ≡ []
none_pass p [] fail = refl
none_pass p (s ∷ ss) fail =
    ap (λ b. cond b (s ∷ filter p ss) (filter p ss)) (fail s (at_head s ss)) ∙ none_pass p ss (λ t is_in. fail t (or_more (same_bytes t s) (has t ss) is_in))
