-- The field of a path: steps with a slash between each two.
use Rattle.std.proofs.Common.{◌≡◌, ◌≢◌, ◌⊎◌, inl, inr, ℕ, suc, zero, ◌+◌, ◌-◌, ◌<◌, ◌≤◌, Bool, true, false, ◌&&◌, ◌==◌, not, List, [], ◌∷◌, ◌++◌, length, take, get_or, refl, sym, ap, ◌∙◌, subst, arith, nat_lt, nat_le, length-append, append_assoc, Option, Some, None, if◌then◌else◌}
use Rattle.std.specs.Prelude.{All}
use Rattle.std.proofs.lemmas.Bool.Decides.{nat_tests}
use Rattle.std.proofs.lemmas.List.{get_or_append_left, get_or-take, get_or-append-add}
use Rattle.std.proofs.lemmas.List.Elements.{All-cons, All-nil, All-head, All-tail, All-get_or}
use Rattle.std.proofs.lemmas.Bool.{cases_Bool}
use Rattle.ip_base.specs.PathText.{slash, IsStep, IsPath, path_text}
use Rattle.ip_spec.specs.Path.{Bytes}
use Rattle.ip_script.specs.declared.field.Field.TheVariants.{Path}
use Rattle.ip_script.specs.declared.field.Open.{Open}
use Rattle.ip_script.specs.Fields.{is_step_byte, with_byte, path_on, path_length, ends_in_step}
use Rattle.ip_script.proofs.Prefix.{none_or_some, length_taken, positive_test}
use Rattle.ip_script.proofs.Values.{IsField}
use Rattle.ip_script.proofs.FieldLaw.{FieldLaw, EndsWord}
use Rattle.ip_script.proofs.PathWords.{IsOfStep, text_with, path_says}

-- ---- one byte more

abbrev start : Open
start = record { steps = 0; size = 0 }

abbrev behind_slash : Open → Open
behind_slash o = record { steps = o.steps + 1; size = 0 }

abbrev behind_byte : Open → Open
behind_byte o = record { steps = o.steps; size = o.size + 1 }

-- a slash, another byte, or none that goes on
abbrev IsSlash : Open → ℕ → Type 0
IsSlash o b = (b ≡ 47) × (0 < o.size) × (o.steps < 63) × (with_byte o b ≡ Some (behind_slash o))

abbrev IsByte : Open → ℕ → Type 0
IsByte o b = IsOfStep b × (o.size < 255) × (with_byte o b ≡ Some (behind_byte o))

of_step : (b : ℕ) → is_step_byte b ≡ true → IsOfStep b
of_step b h = ((grind (arith, nat_tests), grind (arith, nat_tests), grind (arith, nat_tests), grind (arith, nat_tests)), grind (arith, nat_tests))

step_byte : (b : ℕ) → IsOfStep b → is_step_byte b ≡ true
step_byte b h = grind (arith, nat_tests, h)

slash_test : (o : Open) (b : ℕ) → (b == 47 && (nat_lt 0 o.size && nat_lt o.steps 63)) ≡ true → (b ≡ 47) × (0 < o.size) × (o.steps < 63)
slash_test o b h = (grind (arith, nat_tests), grind (arith, nat_tests), grind (arith, nat_tests))

byte_test : (o : Open) (b : ℕ) → (is_step_byte b && nat_lt o.size 255) ≡ true → (is_step_byte b ≡ true) × (o.size < 255)
byte_test o b h = (grind (arith, nat_tests), grind (arith, nat_tests))

choose : Open → Bool → Bool → Option Open
choose o s t = if s then Some (behind_slash o) else (if t then Some (behind_byte o) else None)

chosen : (o : Open) (b : ℕ) (s t : Bool) → (b == 47 && (nat_lt 0 o.size && nat_lt o.steps 63)) ≡ s → (is_step_byte b && nat_lt o.size 255) ≡ t → with_byte o b ≡ choose o s t
unfolding choose
chosen o b s t h g = ap (λ (x : Bool). choose o x (is_step_byte b && nat_lt o.size 255)) h ∙ ap (λ (x : Bool). choose o s x) g

kinds : (o : Open) (b : ℕ) → IsSlash o b ⊎ (IsByte o b ⊎ (with_byte o b ≡ None))
unfolding choose
kinds o b =
    elim (cases_Bool (b == 47 && (nat_lt 0 o.size && nat_lt o.steps 63))) [
      | inl h ↦ let is = slash_test o b h in inl (is.0, is.1, is.2, chosen o b true (is_step_byte b && nat_lt o.size 255) h refl)
      | inr h ↦ elim (cases_Bool (is_step_byte b && nat_lt o.size 255)) [
        | inl g ↦ let is = byte_test o b g in inr (inl (of_step b is.0, is.1, chosen o b false true h g))
        | inr g ↦ inr (inr (chosen o b false false h g))
      ]
    ]

slash_goes : (o : Open) → 0 < o.size → o.steps < 63 → with_byte o 47 ≡ Some (behind_slash o)
unfolding choose
slash_goes o some few = chosen o 47 true (is_step_byte 47 && nat_lt o.size 255) (tests o some few) refl
  where
    tests : (o : Open) → 0 < o.size → o.steps < 63 → (nat_lt 0 o.size && nat_lt o.steps 63) ≡ true
    tests o some few = grind (arith, nat_tests)

byte_goes : (o : Open) (b : ℕ) → IsOfStep b → o.size < 255 → with_byte o b ≡ Some (behind_byte o)
unfolding choose
byte_goes o b is short = chosen o b false true (no_slash o b is.1) (passes o b (step_byte b is) short)
  where
    no_slash : (o : Open) (b : ℕ) → b ≢ 47 → (b == 47 && (nat_lt 0 o.size && nat_lt o.steps 63)) ≡ false
    no_slash o b h = grind (arith, nat_tests)

    passes : (o : Open) (b : ℕ) → is_step_byte b ≡ true → o.size < 255 → (is_step_byte b && nat_lt o.size 255) ≡ true
    passes o b h short = grind (arith, nat_tests)

-- ---- how far a path goes on

counts : (o : Open) (b : ℕ) (text : Bytes) (r : Option Open) → with_byte o b ≡ r → path_on o (b ∷ text) ≡ elim r [ None ↦ 0 | Some next ↦ 1 + path_on next text ]
counts o b text r h = ap (λ (r : Option Open). elim r as (λ _. ℕ) [ None ↦ 0 | Some next ↦ 1 + path_on next text ]) h

none_or_next : (r : Option Open) → (r ≡ None) ⊎ ((next : Open) × (r ≡ Some next))
none_or_next None = inl refl
none_or_next (Some next) = inr (next, refl)

path_within : (o : Open) (text : Bytes) → path_on o text ≤ length text
path_within o [] = omega arith
path_within o (b ∷ text) =
    elim (none_or_next (with_byte o b)) [
      | inl h ↦ omega (arith, counts o b text None h)
      | inr (next, h) ↦ omega (arith, counts o b text (Some next) h, path_within next text)
    ]

path_decided : (o : Open) (text : Bytes) (m : ℕ) (more : Bytes) → path_on o text < m → m ≤ length text → path_on o (take m text ++ more) ≡ path_on o text
path_decided o text zero more h l = absurd (omega arith)
path_decided o [] (suc m) more h l = absurd (omega arith)
path_decided o (b ∷ text) (suc m) more h l =
    elim (none_or_next (with_byte o b)) [
      | inl e ↦ counts o b (take m text ++ more) None e ∙ sym (counts o b text None e)
      | inr (next, e) ↦ omega (arith, counts o b text (Some next) e, counts o b (take m text ++ more) (Some next) e, path_decided next text m more (omega (arith, counts o b text (Some next) e)) (omega arith))
    ]

-- ---- the last byte

last_test : (text : Bytes) (k : ℕ) → ends_in_step text (suc k) ≡ (nat_lt k (length text) && not (get_or text k 0 == 47))
last_test text k =
    let some : nat_lt 0 (suc k) ≡ true = positive_test (suc k) (omega arith) in
    let e : suc k - 1 ≡ k = omega arith in
    ap (λ (x : Bool). x && (nat_le (suc k) (length text) && not (get_or text (suc k - 1) 0 == 47))) some
    ∙ (ap (λ (j : ℕ). nat_le (suc k) (length text) && not (get_or text j 0 == 47)) e ∙ ap (λ (x : Bool). x && not (get_or text k 0 == 47)) (same_test k (length text)))
  where
    same_test : (k n : ℕ) → nat_le (suc k) n ≡ nat_lt k n
    same_test k n = grind (arith, nat_tests)

ends_by : (text : Bytes) (k : ℕ) → k < length text → get_or text k 0 ≢ 47 → ends_in_step text (suc k) ≡ true
ends_by text k inside other = last_test text k ∙ tests k (length text) (get_or text k 0) inside other
  where
    tests : (k n b : ℕ) → k < n → b ≢ 47 → (nat_lt k n && not (b == 47)) ≡ true
    tests k n b inside other = grind (arith, nat_tests)

last_other : (text : Bytes) (k : ℕ) → ends_in_step text (suc k) ≡ true → get_or text k 0 ≢ 47
last_other text k h = tests k (length text) (get_or text k 0) (sym (last_test text k) ∙ h)
  where
    tests : (k n b : ℕ) → (nat_lt k n && not (b == 47)) ≡ true → b ≢ 47
    tests k n b h = grind (arith, nat_tests)

ends_decided : (text : Bytes) (n m : ℕ) (more : Bytes) → n < m → m ≤ length text → ends_in_step (take m text ++ more) n ≡ ends_in_step text n
ends_decided text zero m more h l = refl
ends_decided text (suc k) m more h l =
    let long : length (take m text) ≡ m = length_taken m text l in
    let same : get_or (take m text ++ more) k 0 ≡ get_or text k 0 = get_or_append_left (take m text) more 0 k (omega (arith, long, h)) ∙ get_or-take m text k 0 (omega (arith, h)) in
    last_test (take m text ++ more) k ∙ (ap (λ (b : ℕ). nat_lt k (length (take m text ++ more)) && not (b == 47)) same ∙ (ap (λ (x : Bool). x && not (get_or text k 0 == 47)) (both k (length (take m text ++ more)) (length text) (omega (arith, length-append (take m text) more, long, h)) (omega (arith, h, l))) ∙ sym (last_test text k)))
  where
    both : (k a b : ℕ) → k < a → k < b → nat_lt k a ≡ nat_lt k b
    both k a b h g = grind (arith, nat_tests)

-- ---- what a text goes on with

-- the bytes that are left of the open step, and the steps behind it
record IsRest (o : Open) (text : Bytes) : Type 0 where
  step : Bytes
  path : List Bytes
  text_is : text ≡ path_text (step ∷ path)
  some : 0 < o.size + length step
  short : o.size + length step ≤ 255
  each : All IsOfStep step
  steps : All IsStep path
  few : o.steps + length path ≤ 63

rest_none : (o : Open) → 0 < o.size → o.size ≤ 255 → o.steps ≤ 63 → IsRest o []
rest_none o some short few = record { step = []; path = []; text_is = refl; some = omega (arith, some); short = omega (arith, short); each = All-nil IsOfStep; steps = All-nil IsStep; few = omega (arith, few) }

rest_slash : (o : Open) (b : ℕ) (text : Bytes) → IsSlash o b → o.size ≤ 255 → IsRest (behind_slash o) text → IsRest o (b ∷ text)
rest_slash o b text is short r = record {
  step = [];
  path = r.step ∷ r.path;
  text_is = ap (λ (x : ℕ). x ∷ text) is.0 ∙ ap (λ (u : Bytes). 47 ∷ u) r.text_is;
  some = omega (arith, is.1);
  short = omega (arith, short);
  each = All-nil IsOfStep;
  steps = All-cons IsStep r.step r.path (record { some = omega (arith, r.some); short = omega (arith, r.short); each = r.each }) r.steps;
  few = omega (arith, r.few);
}

rest_byte : (o : Open) (b : ℕ) (text : Bytes) → IsByte o b → IsRest (behind_byte o) text → IsRest o (b ∷ text)
rest_byte o b text is r = record {
  step = b ∷ r.step;
  path = r.path;
  text_is = ap (λ (u : Bytes). b ∷ u) r.text_is ∙ sym (text_with b r.step r.path);
  some = omega arith;
  short = omega (arith, r.short);
  each = All-cons IsOfStep b r.step is.0 r.each;
  steps = r.steps;
  few = r.few;
}

-- what was taken ends in a step
abbrev Ended : Open → Bytes → ℕ → Type 0
Ended o text n = ((n ≡ 0) × (0 < o.size)) ⊎ ((k : ℕ) × (n ≡ suc k) × (get_or text k 0 ≢ 47))

ended_on : (o next : Open) (b : ℕ) (text : Bytes) (n : ℕ) → Ended o (b ∷ text) (suc n) → (b ≢ 47 → 0 < next.size) → Ended next text n
ended_on o next b text n (inl (none, some)) grown = absurd (omega (arith, none))
ended_on o next b text zero (inr (k, is, other)) grown = let e : k ≡ 0 = omega (arith, is) in inl (refl, grown (subst (λ (j : ℕ). get_or (b ∷ text) j 0 ≢ 47) e other))
ended_on o next b text (suc n) (inr (k, is, other)) grown = let e : k ≡ suc n = omega (arith, is) in inr (n, refl, subst (λ (j : ℕ). get_or (b ∷ text) j 0 ≢ 47) e other)

rest_whole : (o : Open) (text : Bytes) (n : ℕ) → n ≡ path_on o text → o.size ≤ 255 → o.steps ≤ 63 → Ended o text n → IsRest o (take n text)
rest_whole o text zero is short few (inl (none, some)) = rest_none o some short few
rest_whole o text zero is short few (inr (k, none, other)) = absurd (omega (arith, none))
rest_whole o [] (suc n) is short few ended = absurd (omega (arith, is))
rest_whole o (b ∷ text) (suc n) is short few ended =
    elim (kinds o b) [
      | inl slash ↦
          let left : n ≡ path_on (behind_slash o) text = omega (arith, is, counts o b text _ slash.3) in
          rest_slash o b (take n text) slash short (rest_whole (behind_slash o) text n left (omega arith) (omega (arith, slash.2)) (ended_on o (behind_slash o) b text n ended (λ other. absurd (other slash.0))))
      | inr (inl byte) ↦
          let left : n ≡ path_on (behind_byte o) text = omega (arith, is, counts o b text _ byte.2) in
          rest_byte o b (take n text) byte (rest_whole (behind_byte o) text n left (omega (arith, byte.1)) few (ended_on o (behind_byte o) b text n ended (λ other. omega arith)))
      | inr (inr stop) ↦ absurd (omega (arith, is, counts o b text None stop))
    ]

-- what was taken goes on
rest_begins : (o : Open) (text : Bytes) (n : ℕ) → n ≡ path_on o text → o.size ≤ 255 → o.steps ≤ 63 → (more : Bytes) × IsRest o (take n text ++ more)
rest_begins o text zero is short few =
    elim (none_or_some o.size) [
      | inl none ↦ (
        97 ∷ [],
        record {
          step = 97 ∷ [];
          path = [];
          text_is = refl;
          some = omega arith;
          short = omega (arith, none);
          each = All-cons IsOfStep 97 [] (of_step 97 refl) (All-nil IsOfStep);
          steps = All-nil IsStep;
          few = omega (arith, few);
        },
      )
      | inr some ↦ ([], rest_none o some short few)
    ]
rest_begins o [] (suc n) is short few = absurd (omega (arith, is))
rest_begins o (b ∷ text) (suc n) is short few =
    elim (kinds o b) [
      | inl slash ↦
          let left : n ≡ path_on (behind_slash o) text = omega (arith, is, counts o b text _ slash.3) in
          let rest = rest_begins (behind_slash o) text n left (omega arith) (omega (arith, slash.2)) in
          (rest.0, rest_slash o b (take n text ++ rest.0) slash short rest.1)
      | inr (inl byte) ↦
          let left : n ≡ path_on (behind_byte o) text = omega (arith, is, counts o b text _ byte.2) in
          let rest = rest_begins (behind_byte o) text n left (omega (arith, byte.1)) few in
          (rest.0, rest_byte o b (take n text ++ rest.0) byte rest.1)
      | inr (inr stop) ↦ absurd (omega (arith, is, counts o b text None stop))
    ]

-- ---- a path is taken whole

path_ends : (o : Open) (rest : Bytes) → EndsWord rest → path_on o rest ≡ 0
path_ends o [] ends = refl
path_ends o (b ∷ rest) ends = counts o b rest None (ap (with_byte o) ends)

step_on : (step rest : Bytes) (k n : ℕ) → All IsOfStep step → n + length step ≤ 255 → path_on (record { steps = k; size = n }) (step ++ rest) ≡ length step + path_on (record { steps = k; size = n + length step }) rest
step_on [] rest k n each short = let e : n ≡ n + 0 = omega arith in ap (λ (j : ℕ). path_on (record { steps = k; size = j }) rest) e ∙ omega arith
step_on (b ∷ step) rest k n each short =
    let o : Open = record { steps = k; size = n } in
    let next = step_on step rest k (n + 1) (All-tail IsOfStep b step each) (omega (arith, short)) in
    let same : path_on (record { steps = k; size = n + 1 + length step }) rest ≡ path_on (record { steps = k; size = n + suc (length step) }) rest = (let e : n + 1 + length step ≡ n + suc (length step) = omega arith in ap (λ (j : ℕ). path_on (record { steps = k; size = j }) rest) e) in
    omega (arith, counts o b (step ++ rest) _ (byte_goes o b (All-head IsOfStep b step each) (omega (arith, short))), next, same)

steps_on : (path : List Bytes) (rest : Bytes) (k : ℕ) → 0 < length path → k + length path ≤ 64 → All IsStep path → EndsWord rest → path_on (record { steps = k; size = 0 }) (path_text path ++ rest) ≡ length (path_text path)
steps_on [] rest k some few each ends = absurd (omega (arith, some))
steps_on (step ∷ []) rest k some few each ends =
    let is = All-head IsStep step [] each in
    omega (arith, step_on step rest k 0 is.each (omega (arith, is.short)), path_ends (record { steps = k; size = 0 + length step }) rest ends)
steps_on (step ∷ next ∷ path) rest k some few each ends =
    let is = All-head IsStep step (next ∷ path) each in
    let text = path_text (next ∷ path) in
    let o : Open = record { steps = k; size = 0 + length step } in
    let split : (step ++ slash ∷ text) ++ rest ≡ step ++ slash ∷ (text ++ rest) = append_assoc step (slash ∷ text) rest in
    let goes = counts o 47 (text ++ rest) _ (slash_goes o (omega (arith, is.some)) (omega (arith, few))) in
    let on = steps_on (next ∷ path) rest (k + 1) (omega arith) (omega (arith, few)) (All-tail IsStep step (next ∷ path) each) ends in
    ap (path_on (record { steps = k; size = 0 })) split ∙ omega (arith, step_on step (slash ∷ (text ++ rest)) k 0 is.each (omega (arith, is.short)), goes, on, length-append step (slash ∷ text))

-- the last byte of a path is one of a step
last_of_path : (path : List Bytes) (k : ℕ) → 0 < length path → All IsStep path → suc k ≡ length (path_text path) → get_or (path_text path) k 0 ≢ 47
last_of_path [] k some each is = absurd (omega (arith, some))
last_of_path (step ∷ []) k some each is = (All-get_or IsOfStep step k 0 (omega (arith, is)) (All-head IsStep step [] each).each).1
last_of_path (step ∷ next ∷ path) k some each is = λ same.
    let text = path_text (next ∷ path) in
    let others = All-tail IsStep step (next ∷ path) each in
    let long = text_some (next ∷ path) (omega arith) others in
    let both = length-append step (slash ∷ text) in
    let j : ℕ = k - length step - 1 in
    let at : k ≡ length step + suc j = omega (arith, is, both, long) in
    last_of_path (next ∷ path) j (omega arith) others (omega (arith, is, both, at))
    (sym (ap (λ (i : ℕ). get_or (step ++ slash ∷ text) i 0) at ∙ get_or-append-add step (slash ∷ text) (suc j) 0) ∙ same)
  where
    text_some : (path : List Bytes) → 0 < length path → All IsStep path → 0 < length (path_text path)
    text_some [] some each = absurd (omega (arith, some))
    text_some (step ∷ []) some each = (All-head IsStep step [] each).some
    text_some (step ∷ next ∷ path) some each = omega (arith, length-append step (slash ∷ path_text (next ∷ path)))

-- ---- the field

rest_field : (text : Bytes) → IsRest start text → IsField Path text
rest_field text r = (
  r.step ∷ r.path,
  (
    record {
      some = omega arith;
      short = omega (arith, r.few);
      each = All-cons IsStep r.step r.path (record { some = omega (arith, r.some); short = omega (arith, r.short); each = r.each }) r.steps;
    },
    r.text_is,
  ),
)

ended : (text : Bytes) (n : ℕ) → ends_in_step text n ≡ true → Ended start text n
ended text zero w = absurd (cc)
ended text (suc k) w = inr (k, refl, last_other text k w)

ends_path : (path : List Bytes) (rest : Bytes) (n : ℕ) → IsPath path → n ≡ length (path_text path) → ends_in_step (path_text path ++ rest) n ≡ true
ends_path path rest zero is e = absurd (no_text path is.some is.each (sym e))
  where
    no_text : (path : List Bytes) → 0 < length path → All IsStep path → length (path_text path) ≡ 0 → ⊥
    no_text [] some each e = absurd (omega (arith, some))
    no_text (step ∷ []) some each e = absurd (omega (arith, (All-head IsStep step [] each).some, e))
    no_text (step ∷ next ∷ path) some each e = absurd (omega (arith, length-append step (slash ∷ path_text (next ∷ path)), e))
ends_path path rest (suc k) is e =
    ends_by (path_text path ++ rest) k (omega (arith, e, length-append (path_text path) rest))
    (λ same. last_of_path path k is.some is.each e (sym (get_or_append_left (path_text path) rest 0 k (omega (arith, e))) ∙ same))

path_taken : (path : List Bytes) (rest : Bytes) → IsPath path → EndsWord rest → (path_length (path_text path ++ rest) ≡ length (path_text path)) × (ends_in_step (path_text path ++ rest) (path_length (path_text path ++ rest)) ≡ true)
path_taken path rest is ends =
    let long : path_length (path_text path ++ rest) ≡ length (path_text path) = steps_on path rest 0 is.some (omega (arith, is.short)) is.each ends in
    (long, ends_path path rest _ is long)

pub path_law : FieldLaw Path
path_law = record {
  one = λ value text is. path_says value text is.0 is.1;
  within = path_within start;
  whole = λ text w. rest_field _ (rest_whole start text _ refl (omega arith) (omega arith) (ended text (path_length text) w));
  taken = λ word rest is ends. subst (λ (u : Bytes). (path_length (u ++ rest) ≡ length u) × (ends_in_step (u ++ rest) (path_length (u ++ rest)) ≡ true)) (sym is.1.1) (path_taken is.0 rest is.1.0 ends);
  decided = λ text m more h l. (path_decided start text m more h l, ends_decided text (path_length text) m more h l);
  begins = λ text. let r = rest_begins start text _ refl (omega arith) (omega arith) in (r.0, rest_field _ r.1);
}
