-- How far a text goes along with fields, and with a word and fields.
use Rattle.std.proofs.Common.{◌≡◌, ◌≢◌, ℕ, suc, zero, ◌+◌, ◌-◌, ◌<◌, ◌≤◌, true, false, ◌==◌, List, [], ◌∷◌, ◌++◌, length, take, drop, refl, sym, ap, ◌∙◌, subst, arith, nat_eq, inl, inr, length-drop, append_assoc}
use Rattle.std.proofs.Math.Seq.{take-add}
use Rattle.std.proofs.lemmas.List.{drop_at, take-append-drop}
use Rattle.std.proofs.lemmas.Bool.Decides.{nat_tests}
use Rattle.std.proofs.lemmas.Bool.{cases_Bool}
use Rattle.ip_script.specs.declared.line.Fit.{Fit}
use Rattle.ip_script.specs.declared.field.Field.{Field}
use Rattle.ip_script.specs.declared.field.Field.TheVariants.{Path, Place, Hex, Name, Reference, Date, Author, Message}
use Rattle.ip_script.specs.Fields.{field_length, is_whole_field, reach_fields, reach_from}
use Rattle.ip_script.proofs.Prefix.{pick_true, pick_false, equal_by, length_taken}
use Rattle.ip_script.proofs.Values.{AreFields, IsForm}
use Rattle.ip_script.proofs.FieldLaw.{FieldLaw, Ends, EndsWord}
use Rattle.ip_script.proofs.RunLaw.{name_law, author_law, message_law}
use Rattle.ip_script.proofs.PathLaw.{path_law}
use Rattle.ip_script.proofs.PlaceLaw.{place_law}
use Rattle.ip_script.proofs.HexField.{hex_law}
use Rattle.ip_script.proofs.ReferenceLaw.{reference_law}
use Rattle.ip_script.proofs.DateLaw.{date_law}

pub law : (f : Field) → FieldLaw f
law Path = path_law
law Place = place_law
law Hex = hex_law
law Name = name_law
law Reference = reference_law
law Date = date_law
law Author = author_law
law Message = message_law

-- nothing stands behind a message
abbrev pub Ordered : List Field → Type 0
Ordered [] = Unit {0}
Ordered (f ∷ []) = Unit {0}
Ordered (Message ∷ g ∷ fields) = ⊥
Ordered (f ∷ g ∷ fields) = Ordered (g ∷ fields)

pub ordered_rest : (f : Field) (fields : List Field) → Ordered (f ∷ fields) → Ordered fields
ordered_rest f [] o = tt
ordered_rest Message (g ∷ fields) o = absurd o
ordered_rest _ (g ∷ fields) o = o

pub fields_end : (f : Field) (fields : List Field) (rest : List ℕ) → Ordered (f ∷ fields) → AreFields fields rest → Ends f rest
fields_end Message [] rest o h = h
fields_end _ [] rest o h = subst EndsWord (sym h) tt
fields_end Message (g ∷ fields) rest o h = absurd o
fields_end _ (g ∷ fields) rest o h = subst EndsWord (sym h.4) refl

-- some text of fields
sample : (fields : List Field) → (text : List ℕ) × AreFields fields text
sample [] = ([], refl)
sample (f ∷ fields) =
    let s = sample fields in
    let word = (law f).begins [] in
    (32 ∷ ((take (field_length f []) [] ++ word.0) ++ s.0), (take (field_length f []) [] ++ word.0, s.0, word.1, s.1, refl))

-- how far a text goes along with fields: k bytes
pub record Reaches (Is : List ℕ → Type 0) (at : ℕ) (text : List ℕ) (r : Fit) : Type 0 where
  pub k : ℕ
  pub at_is : r.at ≡ at + k
  pub high : k ≤ length text
  pub whole : r.whole ≡ true → Is text
  pub is_whole : Is text → r.whole ≡ true
  pub begins : (more : List ℕ) × Is (take k text ++ more)
  pub longest : (m : ℕ) → k < m → m ≤ length text → (more : List ℕ) → Is (take m text ++ more) → ⊥

not_space : (b : ℕ) → (b == 32) ≡ false → b ≡ 32 → ⊥
not_space b h e = absurd (space_is (sym (ap (λ x. x == 32) e) ∙ h))
  where
    space_is : true ≡ false → ⊥
    space_is h = cc

differs : true ≡ false → ⊥
differs h = cc

-- a text that begins with another byte than a space is none of fields, nor begins one
stuck : (f : Field) (fields : List Field) (at b : ℕ) (text : List ℕ) → (b ≡ 32 → ⊥) → Reaches (AreFields (f ∷ fields)) at (b ∷ text) (record { at = at; whole = false })
stuck f fields at b text other = record {
  k = 0;
  at_is = omega arith;
  high = omega arith;
  whole = λ h. absurd (cc);
  is_whole = λ s. absurd (other (cc s.4));
  begins = sample (f ∷ fields);
  longest = longest;
}
  where
    longest : (m : ℕ) → 0 < m → m ≤ length (b ∷ text) → (more : List ℕ) → AreFields (f ∷ fields) (take m (b ∷ text) ++ more) → ⊥
    longest zero h l more s = absurd (omega arith)
    longest (suc m) h l more s = other (cc s.4)

-- the field behind the space is not whole
short_field : (f : Field) (fields : List Field) (at b : ℕ) (text : List ℕ) → Ordered (f ∷ fields) → b ≡ 32 → is_whole_field f text (field_length f text) ≡ false → Reaches (AreFields (f ∷ fields)) at (b ∷ text) (record { at = at + 1 + field_length f text; whole = false })
short_field f fields at b text o space part = record {
  k = suc (field_length f text);
  at_is = omega arith;
  high = omega (arith, (law f).within text);
  whole = λ h. absurd (cc);
  is_whole = λ s.
      let e : text ≡ s.0 ++ s.1 = cc s.4 in
      let t = (law f).taken s.0 s.1 s.2 (fields_end f fields s.1 o s.3) in
      absurd (differs (sym (subst (λ (u : List ℕ). is_whole_field f u (field_length f u) ≡ true) (sym e) t.1) ∙ part));
  begins =
      let more = (law f).begins text in
      let others = sample fields in (
        more.0 ++ others.0,
        (
          take (field_length f text) text ++ more.0,
          others.0,
          more.1,
          others.1,
          ap (λ (x : ℕ). x ∷ (take (field_length f text) text ++ (more.0 ++ others.0))) space ∙ ap (λ (u : List ℕ). 32 ∷ u) (sym (append_assoc (take (field_length f text) text) more.0 others.0)),
        ),
      );
  longest = longest;
}
  where
    longest : (m : ℕ) → suc (field_length f text) < m → m ≤ length (b ∷ text) → (more : List ℕ) → AreFields (f ∷ fields) (take m (b ∷ text) ++ more) → ⊥
    longest zero h l more s = absurd (omega arith)
    longest (suc m) h l more s =
        let e : take m text ++ more ≡ s.0 ++ s.1 = cc s.4 in
        let t = (law f).taken s.0 s.1 s.2 (fields_end f fields s.1 o s.3) in
        let d = (law f).decided text m more (omega (arith, h)) (omega (arith, l)) in
        let w : is_whole_field f (take m text ++ more) (field_length f (take m text ++ more)) ≡ true = subst (λ (u : List ℕ). is_whole_field f u (field_length f u) ≡ true) (sym e) t.1 in
        differs (sym w ∙ (ap (is_whole_field f (take m text ++ more)) d.0 ∙ (d.1 ∙ part)))

-- what is left behind a whole field
left_behind : (n m : ℕ) (text more : List ℕ) → n ≤ m → n ≤ length text → drop n (take m text ++ more) ≡ take (m - n) (drop n text) ++ more
left_behind n m text more h l =
    let e : m ≡ n + (m - n) = omega arith in
    ap (λ k. drop n (take k text ++ more)) e ∙ (ap (λ (u : List ℕ). drop n (u ++ more)) (take-add n (m - n) text)
    ∙ (ap (drop n) (append_assoc (take n text) (take (m - n) (drop n text)) more) ∙ drop_at (take n text) (take (m - n) (drop n text) ++ more) n (length_taken n text l)))

-- the field behind the space is whole, and more fields follow
next_field : (f : Field) (fields : List Field) (at b : ℕ) (text : List ℕ) (r : Fit) → Ordered (f ∷ fields) → b ≡ 32 → is_whole_field f text (field_length f text) ≡ true → Reaches (AreFields fields) (at + 1 + field_length f text) (drop (field_length f text) text) r → Reaches (AreFields (f ∷ fields)) at (b ∷ text) r
next_field f fields at b text r o space is i = record {
  k = suc (field_length f text + i.k);
  at_is = omega (arith, i.at_is);
  high = omega (arith, i.high, length-drop (field_length f text) text, (law f).within text);
  whole = λ h. (
    take (field_length f text) text,
    drop (field_length f text) text,
    (law f).whole text is,
    i.whole h,
    ap (λ (x : ℕ). x ∷ text) space ∙ ap (λ (u : List ℕ). 32 ∷ u) (sym (take-append-drop (field_length f text) text)),
  );
  is_whole = λ s.
      let e : text ≡ s.0 ++ s.1 = cc s.4 in
      let t = (law f).taken s.0 s.1 s.2 (fields_end f fields s.1 o s.3) in
      let n : field_length f text ≡ length s.0 = ap (field_length f) e ∙ t.0 in
      let rest : drop (field_length f text) text ≡ s.1 = ap (drop (field_length f text)) e ∙ drop_at s.0 s.1 (field_length f text) (sym n) in
      i.is_whole (subst (AreFields fields) (sym rest) s.3);
  begins = (
    i.begins.0,
    (
      take (field_length f text) text,
      take i.k (drop (field_length f text) text) ++ i.begins.0,
      (law f).whole text is,
      i.begins.1,
      ap (λ (x : ℕ). x ∷ (take (field_length f text + i.k) text ++ i.begins.0)) space
          ∙ ap (λ (u : List ℕ). 32 ∷ u) (ap (λ (u : List ℕ). u ++ i.begins.0) (take-add (field_length f text) i.k text) ∙ append_assoc (take (field_length f text) text) (take i.k (drop (field_length f text) text)) i.begins.0),
    ),
  );
  longest = longest;
}
  where
    longest : (m : ℕ) → suc (field_length f text + i.k) < m → m ≤ length (b ∷ text) → (more : List ℕ) → AreFields (f ∷ fields) (take m (b ∷ text) ++ more) → ⊥
    longest zero h l more s = absurd (omega arith)
    longest (suc m) h l more s =
        let n = field_length f text in
        let e : take m text ++ more ≡ s.0 ++ s.1 = cc s.4 in
        let t = (law f).taken s.0 s.1 s.2 (fields_end f fields s.1 o s.3) in
        let d = (law f).decided text m more (omega (arith, h)) (omega (arith, l)) in
        let long : n ≡ length s.0 = sym d.0 ∙ (ap (field_length f) e ∙ t.0) in
        let rest : s.1 ≡ take (m - n) (drop n text) ++ more = sym (drop_at s.0 s.1 n (sym long)) ∙ (ap (drop n) (sym e) ∙ left_behind n m text more (omega (arith, h)) ((law f).within text)) in
        i.longest (m - n) (omega (arith, h)) (omega (arith, h, l, length-drop n text)) more (subst (AreFields fields) rest s.3)

pub fields_reach : (fields : List Field) (at : ℕ) (text : List ℕ) → Ordered fields → Reaches (AreFields fields) at text (reach_fields fields at text)
fields_reach [] at [] o = record { k = 0; at_is = omega arith; high = omega arith; whole = λ h. refl; is_whole = λ s. refl; begins = ([], refl); longest = λ m h l more s. absurd (omega arith) }
fields_reach [] at (b ∷ text) o = record { k = 0; at_is = omega arith; high = omega arith; whole = λ h. absurd (cc); is_whole = λ s. absurd (cc s); begins = ([], refl); longest = longest }
  where
    longest : (m : ℕ) → 0 < m → m ≤ length (b ∷ text) → (more : List ℕ) → take m (b ∷ text) ++ more ≡ [] → ⊥
    longest zero h l more s = absurd (omega arith)
    longest (suc m) h l more s = cc
fields_reach (f ∷ fields) at [] o = record { k = 0; at_is = omega arith; high = omega arith; whole = λ h. absurd (cc); is_whole = λ s. absurd (cc s.4); begins = sample (f ∷ fields); longest = λ m h l more s. absurd (omega arith) }
fields_reach (f ∷ fields) at (b ∷ text) o =
    elim (cases_Bool (b == 32)) [
      | inr other ↦ subst (Reaches (AreFields (f ∷ fields)) at (b ∷ text)) (sym (pick_false (b == 32) _ _ other)) (stuck f fields at b text (not_space b other))
      | inl space ↦ subst (Reaches (AreFields (f ∷ fields)) at (b ∷ text)) (sym (pick_true (b == 32) _ _ space)) (elim (cases_Bool (is_whole_field f text (field_length f text))) [
        | inr part ↦ subst (Reaches (AreFields (f ∷ fields)) at (b ∷ text)) (sym (pick_false (is_whole_field f text (field_length f text)) _ _ part)) (short_field f fields at b text o (equal_by b 32 space) part)
        | inl is ↦ subst (Reaches (AreFields (f ∷ fields)) at (b ∷ text)) (sym (pick_true (is_whole_field f text (field_length f text)) _ _ is)) (next_field f fields at b text _ o (equal_by b 32 space) is (fields_reach fields (at + 1 + field_length f text) (drop (field_length f text) text) (ordered_rest f fields o)))
      ])
    ]

-- ---- a word and fields

reaches_as : (P Q : List ℕ → Type 0) (at : ℕ) (text : List ℕ) (r : Fit) → ((u : List ℕ) → P u → Q u) → ((u : List ℕ) → Q u → P u) → Reaches P at text r → Reaches Q at text r
reaches_as P Q at text r f g i = record {
  k = i.k;
  at_is = i.at_is;
  high = i.high;
  whole = λ h. f text (i.whole h);
  is_whole = λ s. i.is_whole (g text s);
  begins = (i.begins.0, f (take i.k text ++ i.begins.0) i.begins.1);
  longest = λ m h l more s. i.longest m h l more (g (take m text ++ more) s);
}

unequal_bytes : (w b : ℕ) → nat_eq w b ≡ false → b ≡ w → ⊥
unequal_bytes w b h e = absurd (omega (arith, apart w b h, e))
  where
    apart : (w b : ℕ) → nat_eq w b ≡ false → w ≢ b
    apart w b h = grind (arith, nat_tests)

equal_bytes : (w b : ℕ) → nat_eq w b ≡ true → b ≡ w
equal_bytes w b h = grind (arith, nat_tests)

-- the text ends, or goes another way than the word
off_word : (w : ℕ) (word : List ℕ) (fields : List Field) (at b : ℕ) (text : List ℕ) → (b ≡ w → ⊥) → Reaches (IsForm (w ∷ word) fields) at (b ∷ text) (record { at = at; whole = false })
off_word w word fields at b text other = record {
  k = 0;
  at_is = omega arith;
  high = omega arith;
  whole = λ h. absurd (cc);
  is_whole = λ s. absurd (other (cc s.2));
  begins = let s = sample fields in ((w ∷ word) ++ s.0, (s.0, s.1, refl));
  longest = longest;
}
  where
    longest : (m : ℕ) → 0 < m → m ≤ length (b ∷ text) → (more : List ℕ) → IsForm (w ∷ word) fields (take m (b ∷ text) ++ more) → ⊥
    longest zero h l more s = absurd (omega arith)
    longest (suc m) h l more s = other (cc s.2)

on_word : (w : ℕ) (word : List ℕ) (fields : List Field) (at b : ℕ) (text : List ℕ) (r : Fit) → b ≡ w → Reaches (IsForm word fields) (at + 1) text r → Reaches (IsForm (w ∷ word) fields) at (b ∷ text) r
on_word w word fields at b text r same i = record {
  k = suc i.k;
  at_is = omega (arith, i.at_is);
  high = omega (arith, i.high);
  whole = λ h. let s = i.whole h in (s.0, s.1, ap (λ (x : ℕ). x ∷ text) same ∙ ap (λ (u : List ℕ). w ∷ u) s.2);
  is_whole = λ s. i.is_whole (s.0, s.1, cc s.2);
  begins = let s = i.begins.1 in (i.begins.0, (s.0, s.1, ap (λ (x : ℕ). x ∷ (take i.k text ++ i.begins.0)) same ∙ ap (λ (u : List ℕ). w ∷ u) s.2));
  longest = longest;
}
  where
    longest : (m : ℕ) → suc i.k < m → m ≤ length (b ∷ text) → (more : List ℕ) → IsForm (w ∷ word) fields (take m (b ∷ text) ++ more) → ⊥
    longest zero h l more s = absurd (omega arith)
    longest (suc m) h l more s = i.longest m (omega (arith, h)) (omega (arith, l)) more (s.0, s.1, cc s.2)

pub word_reach : (word : List ℕ) (fields : List Field) (at : ℕ) (text : List ℕ) → Ordered fields → Reaches (IsForm word fields) at text (reach_from at word fields text)
word_reach [] fields at text o = reaches_as (AreFields fields) (IsForm [] fields) at text _ (λ u s. (u, s, refl)) (λ u s. subst (AreFields fields) (sym s.2) s.1) (fields_reach fields at text o)
word_reach (w ∷ word) fields at [] o = record {
  k = 0;
  at_is = omega arith;
  high = omega arith;
  whole = λ h. absurd (cc);
  is_whole = λ s. absurd (cc s.2);
  begins = let s = sample fields in ((w ∷ word) ++ s.0, (s.0, s.1, refl));
  longest = λ m h l more s. absurd (omega arith);
}
word_reach (w ∷ word) fields at (b ∷ text) o =
    elim (cases_Bool (nat_eq w b)) [
      | inr other ↦ subst (Reaches (IsForm (w ∷ word) fields) at (b ∷ text)) (sym (pick_false (nat_eq w b) _ _ other)) (off_word w word fields at b text (unequal_bytes w b other))
      | inl same ↦ subst (Reaches (IsForm (w ∷ word) fields) at (b ∷ text)) (sym (pick_true (nat_eq w b) _ _ same)) (on_word w word fields at b text _ (equal_bytes w b same) (word_reach word fields (at + 1) text o))
    ]
