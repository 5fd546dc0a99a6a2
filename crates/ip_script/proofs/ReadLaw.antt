-- What reading a line comes to.
use Rattle.std.proofs.Common.{◌≡◌, ◌⊎◌, inl, inr, ℕ, zero, suc, ◌+◌, ◌<◌, ◌≤◌, Bool, true, false, ◌==◌, ◌||◌, if◌then◌else◌, List, [], ◌∷◌, ◌++◌, length, take, drop, max, refl, sym, ap, ◌∙◌, subst, arith, codes, nat_le, nat_lt, slice_index_or, length-append}
use Rattle.std.specs.List.{list_any}
use Rattle.std.specs.Ordering.{ord_max, nat_cmp}
use Rattle.std.proofs.lemmas.Bool.Decides.{nat_tests}
use Rattle.std.proofs.lemmas.List.Folds.{list_any-append}
use Rattle.std.proofs.lemmas.Bool.{cases_Bool}
use Rattle.ip_spec.specs.Path.{Bytes, same_bytes}
use Rattle.ip_spec.specs.declared.command.Command.{Command}
use Rattle.ip_spec.specs.Line.{Begins, IsBadAt, IsLineOf}
use Rattle.ip_script.specs.declared.field.Field.{Field}
use Rattle.ip_script.specs.declared.line.Form.{Form}
use Rattle.ip_script.specs.declared.line.Fit.{Fit}
use Rattle.ip_script.specs.declared.line.TheConstants.{FORMS}
use Rattle.ip_script.specs.Fields.{reach}
use Rattle.ip_script.specs.Forms.{word_of, fields_of, command_at}
use Rattle.ip_script.proofs.Prefix.{lt_or_ge}
use Rattle.ip_script.proofs.Values.{AreFields, IsOf}
use Rattle.ip_script.proofs.FormLaw.{Reaches, word_reach}
use Rattle.ip_script.proofs.LineLaw.{said_by, command_in, form_in, ordered}

-- ---- a line of a form

-- the words behind the first one lie within the line
pub room : (form : Form) (line : Bytes) → IsOf form line → length (word_of form) ≤ length line
room form line (rest, fields, e) = omega (arith, ap length e, length-append (word_of form) rest)

pub is_read : (form : Form) (line text : Bytes) (c : Command) → IsOf form line → text ≡ drop (length (word_of form)) line → c ≡ command_at form text → IsLineOf c line
is_read form line text c is t e = subst (λ (d : Command). IsLineOf d line) (sym (e ∙ ap (command_at form) t)) (command_in form line is)

-- a line without a space is of a form without fields
pub one_word : (form : Form) (line : Bytes) → IsOf form line → list_any (λ b. b == 32) line ≡ false → fields_of form ≡ []
one_word form line (rest, fields, e) none = no_fields (fields_of form) rest fields e
  where
    no_true : (a b : Bool) → b ≡ true → (a || b) ≡ false → ⊥
    no_true true b h f = cc
    no_true false b h f = cc

    no_fields : (fields : List Field) (rest : Bytes) → AreFields fields rest → line ≡ word_of form ++ rest → fields ≡ []
    no_fields [] rest s is = refl
    no_fields (f ∷ fields) rest s is =
        absurd (no_true (list_any (λ b. b == 32) (word_of form)) (list_any (λ b. b == 32) rest) (ap (list_any (λ b. b == 32)) s.4)
        (sym (ap (list_any (λ b. b == 32)) is ∙ list_any-append (λ b. b == 32) (word_of form) rest) ∙ none))

-- ---- one form after another

abbrev pub form_at : ℕ → Form
form_at k = slice_index_or FORMS k Form.Empty

index_in : List Form → Bytes → ℕ
index_in [] word = 0
index_in (form ∷ forms) word = if same_bytes (word_of form) word then 0 else suc (index_in forms word)

index_of : Form → ℕ
index_of form = index_in FORMS (word_of form)

at_index : (form : Form) → form_at (index_of form) ≡ form
unfolding index_of index_in
at_index Form.Empty = refl
at_index _ = refl

index_tested : (form : Form) → nat_lt (index_of form) (length FORMS) ≡ true
unfolding index_of index_in
index_tested Form.Empty = refl
index_tested _ = refl

index_low : (form : Form) → index_of form < length FORMS
index_low form = below _ _ (index_tested form)
  where
    below : (m n : ℕ) → nat_lt m n ≡ true → m < n
    below m n h = grind (arith, nat_tests)

-- a line was held against the first so many forms, and goes along with one of them for most bytes
pub record Tried (line : Bytes) (tried most : ℕ) : Type 0 where
  pub within : most ≤ length line
  pub begins : Begins IsLineOf (take most line)
  pub none : (k : ℕ) → k < tried → ¬ (IsOf (form_at k) line)
  pub longest : (k : ℕ) → k < tried → (n : ℕ) → most < n → n ≤ length line → (more : Bytes) → ¬ (IsOf (form_at k) (take n line ++ more))

pub tried_none : (line : Bytes) → Tried line 0 0
tried_none line = record {
  within = omega arith;
  begins = (Command.Empty, codes "empty", refl);
  none = λ k l. absurd (omega (arith, l));
  longest = λ k l. absurd (omega (arith, l));
}

form_reach : (form : Form) (line : Bytes) → Reaches (IsOf form) 0 line (reach (word_of form) (fields_of form) line)
form_reach form line = word_reach (word_of form) (fields_of form) 0 line (ordered form)

reached : (form : Form) (line : Bytes) (fit : Fit) → fit ≡ reach (word_of form) (fields_of form) line → Reaches (IsOf form) 0 line fit
reached form line fit e = subst (Reaches (IsOf form) 0 line) (sym e) (form_reach form line)

-- how far a line goes along with what a form's functions give
pub fit_is : (form : Form) (line word : Bytes) (fields : List Field) (fit : Fit) → fit ≡ reach word fields line → word ≡ word_of form → fields ≡ fields_of form → fit ≡ reach (word_of form) (fields_of form) line
fit_is form line word fields fit e w f = e ∙ (ap (λ (u : Bytes). reach u fields line) w ∙ ap (λ (fs : List Field). reach (word_of form) fs line) f)

pub whole_is : (form : Form) (line : Bytes) (fit : Fit) → fit ≡ reach (word_of form) (fields_of form) line → fit.whole ≡ true → IsOf form line
whole_is form line fit e w = (reached form line fit e).whole w

max_either : (a b : ℕ) → (max a b ≡ a) ⊎ (max a b ≡ b)
max_either a b = elim (cases_Bool (nat_le a b)) [ inl h ↦ inr (larger a b h) | inr h ↦ inl (smaller a b h) ]
  where
    larger : (a b : ℕ) → nat_le a b ≡ true → max a b ≡ b
    larger a b h = grind (arith, nat_tests)

    smaller : (a b : ℕ) → nat_le a b ≡ false → max a b ≡ a
    smaller a b h = grind (arith, nat_tests)

-- what holds at each of two places holds at the greater
at_greater : (P : ℕ → Type 0) (a b : ℕ) → P a → P b → P (max a b)
at_greater P a b p q = elim (max_either a b) [ inl e ↦ subst P (sym e) p | inr e ↦ subst P (sym e) q ]

no_contradiction : true ≡ false → ⊥
no_contradiction h = cc

last_or_earlier : (k i : ℕ) → k < i + 1 → (k < i) ⊎ (k ≡ i)
last_or_earlier k i h = elim (lt_or_ge k i) [ inl l ↦ inl l | inr m ↦ inr (omega (arith, h, m)) ]

fit_begins : (form : Form) (line : Bytes) (fit : Fit) → Reaches (IsOf form) 0 line fit → Begins IsLineOf (take fit.at line)
fit_begins form line fit r =
    let at : r.k ≡ fit.at = omega (arith, r.at_is) in
    let text = take r.k line ++ r.begins.0 in
    subst (λ n. Begins IsLineOf (take n line)) at (said_by form text, r.begins.0, command_in form text r.begins.1)

-- what `max` of two numbers answers
greater_is : (now a b : ℕ) → now ≡ ord_max nat_cmp a b → now ≡ max a b
greater_is now a b h = grind (arith, h)

pub tried_more : (line : Bytes) (i most now : ℕ) (form : Form) (fit : Fit) → Tried line i most → form ≡ form_at i → fit ≡ reach (word_of form) (fields_of form) line → fit.whole ≡ false → now ≡ ord_max nat_cmp most fit.at → Tried line (i + 1) now
tried_more line i most now form fit t is e part max_is =
    let grown = greater_is now most fit.at max_is in
    let r = reached form line fit e in
    record {
      within = omega (arith, grown, t.within, r.at_is, r.high);
      begins = subst (λ n. Begins IsLineOf (take n line)) (sym grown) (at_greater (λ n. Begins IsLineOf (take n line)) most fit.at t.begins (fit_begins form line fit r));
      none = λ k l s. elim (last_or_earlier k i l) [
        | inl earlier ↦ t.none k earlier s
        | inr last ↦ no_contradiction (sym (r.is_whole (subst (λ f. IsOf f line) (ap form_at last ∙ sym is) s)) ∙ part)
      ];
      longest = λ k l n far high more s. elim (last_or_earlier k i l) [
        | inl earlier ↦ t.longest k earlier n (omega (arith, far, grown)) high more s
        | inr last ↦ r.longest n (omega (arith, far, grown, r.at_is)) high more (subst (λ f. IsOf f (take n line ++ more)) (ap form_at last ∙ sym is) s)
      ];
    }

pub tried_all : (line : Bytes) (i most : ℕ) → length FORMS ≤ i → Tried line i most → IsBadAt IsLineOf line most
tried_all line i most all t = record {
  no_command = λ c h. let f = form_in c line h in t.none (index_of f.0) (omega (arith, index_low f.0, all)) (subst (λ g. IsOf g line) (sym (at_index f.0)) f.1);
  in_line = t.within;
  begins = t.begins;
  longest = λ n far high b.
      let f = form_in b.0 (take n line ++ b.1) b.2 in
      t.longest (index_of f.0) (omega (arith, index_low f.0, all)) n far high b.1 (subst (λ g. IsOf g (take n line ++ b.1)) (sym (at_index f.0)) f.1);
}

-- each line is of a command, or goes wrong at a place
pub each_line : (line : Bytes) → ((command : Command) × IsLineOf command line) ⊎ ((at : ℕ) × IsBadAt IsLineOf line at)
each_line line = from (length FORMS) 0 0 refl (tried_none line)
  where
    from : (left i most : ℕ) → i + left ≡ length FORMS → Tried line i most → ((command : Command) × IsLineOf command line) ⊎ ((at : ℕ) × IsBadAt IsLineOf line at)
    from zero i most e t = inr (most, tried_all line i most (omega (arith, e)) t)
    from (suc left) i most e t =
        let form = form_at i in
        let fit = reach (word_of form) (fields_of form) line in
        elim (cases_Bool fit.whole) [
          | inl whole ↦ inl (said_by form line, command_in form line (whole_is form line fit refl whole))
          | inr part ↦ from left (i + 1) (ord_max nat_cmp most fit.at) (omega (arith, e)) (tried_more line i most (ord_max nat_cmp most fit.at) form fit t refl refl part refl)
        ]
