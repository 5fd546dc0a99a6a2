-- The steps that a text of a path says.
use Rattle.std.proofs.Common.{◌≡◌, ◌≢◌, ℕ, ◌<◌, ◌==◌, false, List, [], ◌∷◌, ◌++◌, length, refl, sym, ap, ◌∙◌, arith}
use Rattle.std.specs.Prelude.{All}
use Rattle.std.proofs.lemmas.Bool.Decides.{nat_tests}
use Rattle.std.proofs.lemmas.List.Elements.{All-head, All-tail}
use Rattle.ip_base.specs.PathText.{slash, IsWordByte, IsStep, IsPath, path_text}
use Rattle.ip_spec.specs.Path.{Bytes}
use Rattle.ip_script.specs.Words.{step_with, path_at}
use Rattle.ip_script.proofs.Prefix.{pick_false}

-- a byte of a step
abbrev pub IsOfStep : ℕ → Type 0
IsOfStep b = IsWordByte b × (b ≢ slash)

pub no_slash : (b : ℕ) → b ≢ 47 → (b == 47) ≡ false
no_slash b h = grind (arith, nat_tests)

-- a text whose first step begins with a byte
pub text_with : (b : ℕ) (step : Bytes) (path : List Bytes) → path_text ((b ∷ step) ∷ path) ≡ b ∷ path_text (step ∷ path)
text_with b step [] = refl
text_with b step (next ∷ path) = refl

byte_says : (b : ℕ) (text : Bytes) → IsOfStep b → path_at (b ∷ text) ≡ step_with b (path_at text)
byte_says b text is = pick_false (b == 47) _ _ (no_slash b is.1)

last_says : (step : Bytes) → All IsOfStep step → path_at step ≡ step ∷ []
last_says [] each = refl
last_says (b ∷ step) each = byte_says b step (All-head IsOfStep b step each) ∙ ap (step_with b) (last_says step (All-tail IsOfStep b step each))

step_says : (step rest : Bytes) → All IsOfStep step → path_at (step ++ slash ∷ rest) ≡ step ∷ path_at rest
step_says [] rest each = refl
step_says (b ∷ step) rest each = byte_says b (step ++ slash ∷ rest) (All-head IsOfStep b step each) ∙ ap (step_with b) (step_says step rest (All-tail IsOfStep b step each))

steps_say : (path : List Bytes) → 0 < length path → All IsStep path → path_at (path_text path) ≡ path
steps_say [] some each = absurd (omega (arith, some))
steps_say (step ∷ []) some each = last_says step (All-head IsStep step [] each).each
steps_say (step ∷ next ∷ path) some each =
    step_says step (path_text (next ∷ path)) (All-head IsStep step (next ∷ path) each).each ∙ ap (λ (p : List Bytes). step ∷ p) (steps_say (next ∷ path) (omega arith) (All-tail IsStep step (next ∷ path) each))

pub path_says : (path : List Bytes) (text : Bytes) → IsPath path → text ≡ path_text path → path ≡ path_at text
path_says path text is e = sym (ap path_at e ∙ steps_say path is.some is.each)
