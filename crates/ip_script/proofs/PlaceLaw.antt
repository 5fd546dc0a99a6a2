-- The field of a place: a path, or `/` for the root.
use Rattle.std.proofs.Common.{◌≡◌, ◌⊎◌, inl, inr, ℕ, suc, zero, ◌<◌, ◌≤◌, Bool, true, false, ◌||◌, ◌==◌, List, [], ◌∷◌, ◌++◌, length, take, refl, sym, ap, ◌∙◌, subst, arith, if◌then◌else◌}
use Rattle.std.proofs.lemmas.Bool.{cases_Bool}
use Rattle.ip_spec.specs.Path.{Bytes}
use Rattle.ip_spec.specs.Line.{IsPlaceText}
use Rattle.ip_script.specs.declared.field.Field.TheVariants.{Path, Place}
use Rattle.ip_script.specs.Fields.{path_length, ends_in_step, field_length, is_whole_field}
use Rattle.ip_script.specs.Words.{path_at, place_at}
use Rattle.ip_script.proofs.Prefix.{pick_false, equal_by}
use Rattle.ip_script.proofs.Values.{IsField}
use Rattle.ip_script.proofs.FieldLaw.{FieldLaw, EndsWord}
use Rattle.ip_script.proofs.PathLaw.{path_law}

length_by : (b : ℕ) (text : Bytes) (d : Bool) → (b == 47) ≡ d → field_length Place (b ∷ text) ≡ (if d then 1 else path_length (b ∷ text))
length_by b text d h = ap (λ (e : Bool). if e then 1 else path_length (b ∷ text)) h

whole_by : (b : ℕ) (text : Bytes) (n : ℕ) (d : Bool) → (b == 47) ≡ d → is_whole_field Place (b ∷ text) n ≡ (d || ends_in_step (b ∷ text) n)
whole_by b text n d h = ap (λ (e : Bool). e || ends_in_step (b ∷ text) n) h

-- ---- what a place is

root : IsField Place (47 ∷ [])
root = ([], refl)

path_place : (text : Bytes) → IsField Path text → IsField Place text
path_place text ([], is) = absurd (omega (arith, is.0.some))
path_place text (step ∷ path, is) = (step ∷ path, is)

kinds : (text : Bytes) → IsField Place text → (text ≡ 47 ∷ []) ⊎ IsField Path text
kinds text ([], e) = inl e
kinds text (step ∷ path, is) = inr (step ∷ path, is)

-- a path does not begin with a slash
no_slash : (b : ℕ) (word : Bytes) → IsField Path (b ∷ word) → (b == 47) ≡ false
no_slash b word is =
    elim (cases_Bool (b == 47)) [
      | inl h ↦
          let t = path_law.taken (b ∷ word) [] is tt in
          let none : path_length (b ∷ (word ++ [])) ≡ 0 = ap (λ (x : ℕ). path_length (x ∷ (word ++ []))) (equal_by b 47 h) in
          absurd (omega (arith, t.0, none))
      | inr h ↦ h
    ]

one : (value : List Bytes) (text : Bytes) → IsPlaceText value text → value ≡ place_at text
one [] text e = sym (ap place_at e)
one (step ∷ path) text is = path_law.one (step ∷ path) text is ∙ as_path text (step ∷ path, is)
  where
    as_path : (text : Bytes) → IsField Path text → path_at text ≡ place_at text
    as_path [] is = refl
    as_path (b ∷ word) is = sym (pick_false (b == 47) _ _ (no_slash b word is))

-- ---- how far it goes

within : (text : Bytes) → field_length Place text ≤ length text
within [] = omega arith
within (b ∷ text) =
    elim (cases_Bool (b == 47)) [
      | inl h ↦ omega (arith, length_by b text true h)
      | inr h ↦ omega (arith, length_by b text false h, path_law.within (b ∷ text))
    ]

whole : (text : Bytes) → is_whole_field Place text (field_length Place text) ≡ true → IsField Place (take (field_length Place text) text)
whole [] w = absurd (cc)
whole (b ∷ text) w =
    elim (cases_Bool (b == 47)) [
      | inl h ↦ subst (λ (k : ℕ). IsField Place (take k (b ∷ text))) (sym (length_by b text true h)) (subst (λ (x : ℕ). IsField Place (x ∷ [])) (sym (equal_by b 47 h)) root)
      | inr h ↦
          let same = length_by b text false h in
          subst (λ (k : ℕ). IsField Place (take k (b ∷ text))) (sym same)
          (path_place _ (path_law.whole (b ∷ text) (ap (ends_in_step (b ∷ text)) (sym same) ∙ (sym (whole_by b text (field_length Place (b ∷ text)) false h) ∙ w))))
    ]

IsTaken : Bytes → Bytes → Type 0
IsTaken word rest = (field_length Place (word ++ rest) ≡ length word) × (is_whole_field Place (word ++ rest) (field_length Place (word ++ rest)) ≡ true)

path_taken : (word rest : Bytes) → IsField Path word → EndsWord rest → IsTaken word rest
unfolding IsTaken
path_taken [] rest is ends = absurd (none is)
  where
    none : IsField Path [] → ⊥
    none is = cc ((path_law.taken [] [] is tt).1)
path_taken (b ∷ word) rest is ends =
    let h = no_slash b word is in
    let t = path_law.taken (b ∷ word) rest is ends in
    let same = length_by b (word ++ rest) false h in
    (same ∙ t.0, whole_by b (word ++ rest) (field_length Place (b ∷ (word ++ rest))) false h ∙ (ap (ends_in_step (b ∷ (word ++ rest))) same ∙ t.1))

taken : (word rest : Bytes) → IsField Place word → EndsWord rest → (field_length Place (word ++ rest) ≡ length word) × (is_whole_field Place (word ++ rest) (field_length Place (word ++ rest)) ≡ true)
unfolding IsTaken
taken word rest is ends = elim (kinds word is) [
  | inl e ↦ subst (λ (u : Bytes). IsTaken u rest) (sym e) (refl, refl)
  | inr path ↦ path_taken word rest path ends
]

decided : (text : Bytes) (m : ℕ) (more : Bytes) → field_length Place text < m → m ≤ length text → (field_length Place (take m text ++ more) ≡ field_length Place text) × (is_whole_field Place (take m text ++ more) (field_length Place text) ≡ is_whole_field Place text (field_length Place text))
decided [] m more h l = absurd (omega arith)
decided (b ∷ text) zero more h l = absurd (omega arith)
decided (b ∷ text) (suc m) more h l =
    elim (cases_Bool (b == 47)) [
      | inl e ↦ (
        length_by b (take m text ++ more) true e ∙ sym (length_by b text true e),
        whole_by b (take m text ++ more) (field_length Place (b ∷ text)) true e ∙ sym (whole_by b text (field_length Place (b ∷ text)) true e),
      )
      | inr e ↦
          let same = length_by b text false e in
          let d = path_law.decided (b ∷ text) (suc m) more (omega (arith, same, h)) l in (
            length_by b (take m text ++ more) false e ∙ (d.0 ∙ sym same),
            whole_by b (take m text ++ more) (field_length Place (b ∷ text)) false e ∙ (ap (ends_in_step (b ∷ (take m text ++ more))) same ∙ (d.1 ∙ (ap (ends_in_step (b ∷ text)) (sym same) ∙ sym (whole_by b text (field_length Place (b ∷ text)) false e)))),
          )
    ]

begins : (text : Bytes) → (more : Bytes) × IsField Place (take (field_length Place text) text ++ more)
begins [] = (47 ∷ [], root)
begins (b ∷ text) =
    elim (cases_Bool (b == 47)) [
      | inl h ↦ ([], subst (λ (k : ℕ). IsField Place (take k (b ∷ text) ++ [])) (sym (length_by b text true h)) (subst (λ (x : ℕ). IsField Place (x ∷ [])) (sym (equal_by b 47 h)) root))
      | inr h ↦
          let more = path_law.begins (b ∷ text) in
          (more.0, subst (λ (k : ℕ). IsField Place (take k (b ∷ text) ++ more.0)) (sym (length_by b text false h)) (path_place _ more.1))
    ]

pub place_law : FieldLaw Place
place_law = record {
  one = one;
  within = within;
  whole = whole;
  taken = taken;
  decided = decided;
  begins = begins;
}
