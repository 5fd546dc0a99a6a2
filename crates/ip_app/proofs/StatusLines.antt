-- Pieces that are written one behind the other.
use Rattle.std.proofs.Common.{◌≡◌, ◌++◌, ◌∷◌, [], List, ℕ, sym, ap, ◌∙◌, append_assoc}

pub three : (a b c f front number : List ℕ) → b ≡ a ++ front → c ≡ b ++ number → f ≡ c ++ 10 ∷ [] → f ≡ a ++ (front ++ (number ++ 10 ∷ []))
three a b c f front number p q t =
    t ∙ (ap (λ (u : List ℕ). u ++ 10 ∷ []) q ∙ (append_assoc b number (10 ∷ []) ∙ (ap (λ (u : List ℕ). u ++ (number ++ 10 ∷ [])) p ∙ append_assoc a front (number ++ 10 ∷ []))))

pub spaced : (a b c f one other : List ℕ) → b ≡ a ++ one → c ≡ b ++ 32 ∷ [] → f ≡ c ++ other → f ≡ a ++ (one ++ 32 ∷ other)
spaced a b c f one other p q s = s ∙ (ap (λ (u : List ℕ). u ++ other) (q ∙ ap (λ (u : List ℕ). u ++ 32 ∷ []) p) ∙ (append_assoc (a ++ one) (32 ∷ []) other ∙ append_assoc a one (32 ∷ other)))

pub five : (a b c d e f front name number : List ℕ) → b ≡ a ++ front → c ≡ b ++ name → d ≡ c ++ 32 ∷ [] → e ≡ d ++ number → f ≡ e ++ 10 ∷ [] → f ≡ a ++ (front ++ (name ++ 32 ∷ number ++ 10 ∷ []))
five a b c d e f front name number p q r s t =
    let tail : List ℕ = (32 ∷ number) ++ 10 ∷ [] in
    let behind : f ≡ c ++ tail = t ∙ (ap (λ (u : List ℕ). u ++ 10 ∷ []) (s ∙ (ap (λ (u : List ℕ). u ++ number) r ∙ append_assoc c (32 ∷ []) number)) ∙ append_assoc c (32 ∷ number) (10 ∷ [])) in
    behind ∙ (ap (λ (u : List ℕ). u ++ tail) (q ∙ ap (λ (u : List ℕ). u ++ name) p) ∙ (append_assoc (a ++ front) name tail ∙ (append_assoc a front (name ++ tail) ∙ ap (λ (u : List ℕ). a ++ (front ++ u)) (sym (append_assoc name (32 ∷ number) (10 ∷ []))))))
