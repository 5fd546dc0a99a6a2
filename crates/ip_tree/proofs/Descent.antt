-- One step of a descent along a path.
--     step_stands, nothing_on, not_nil      by what a tree means
--     walk_none, walk_next      through any records
use Rattle.std.proofs.Common.{◌≡◌, ℕ, ◌+◌, ◌<◌, true, false, [], ◌∷◌, ◌++◌, length, take, drop, get_or, refl, sym, ap, subst, ◌∙◌, Option, Some, None, arith}
use Rattle.std.proofs.lemmas.Bool.{false≢true}
use Rattle.std.proofs.lemmas.List.{drop_more, take_more, take-append-drop}
use Rattle.std.specs.Prelude.{IsFalse, IsTrue, is_some, option_and_then}
use Rattle.ip_spec.specs.Path.{Step, Path}
use Rattle.ip_spec.specs.Tree.{Tree, is_empty, subtree}
use Rattle.ip_spec.specs.View.{View, is_nil}
use Rattle.ip_spec.specs.declared.record.Record.{Record}
use Rattle.ip_spec.specs.declared.record.Ref.{Ref}
use Rattle.ip_tree.specs.Finding.{FindsIn, walk_to}
use Rattle.ip_tree.specs.Node as view
use Rattle.ip_tree.proofs.Found.{StandsAt, stands_found, subtree_on, walk_on}
use Rattle.ip_tree.proofs.GotAt.{empty_on}

module _ (path : Path) (i : ℕ) (s : Step) (low : i < length path) (item : s ≡ get_or path i s) where
  taken : take (i + 1) path ≡ take i path ++ s ∷ []
  taken = take_more path i s low ∙ ap (λ (x : Step). take i path ++ x ∷ []) (sym item)

  left : drop i path ≡ s ∷ drop (i + 1) path
  left = drop_more path i s low ∙ ap (λ (x : Step). x ∷ drop (i + 1) path) (sym item)

  pub not_nil : IsFalse (is_nil path)
  not_nil = by path low
    where
      by : (p : Path) → i < length p → is_nil p ≡ false
      by [] l = absurd (omega (arith, l))
      by (x ∷ p) l = refl

  module _ (records : ℕ → Option Record) (w : View) where
    pub step_stands : (n : view.Node) → FindsIn records w (take i path ++ s ∷ []) (Some n) → StandsAt records w (take (i + 1) path) n
    step_stands n is = subst (λ p. StandsAt records w p n) (sym taken) (stands_found records w (take i path ++ s ∷ []) n is)

    pub nothing_on : FindsIn records w (take i path ++ s ∷ []) None → IsTrue (is_empty (subtree w.map path))
    nothing_on none =
        subst (λ (t : Tree). IsTrue (is_empty t)) (subtree_on w.map (take i path ++ s ∷ []) (drop (i + 1) path) ∙ ap (subtree w.map) (ap (λ p. p ++ drop (i + 1) path) (sym taken) ∙ take-append-drop (i + 1) path))
        (empty_on (subtree w.map (take i path ++ s ∷ [])) (drop (i + 1) path) none)

  module _ (all later : ℕ → Option Record) (same : (at : ℕ) → later at ≡ all at) (r q : Ref) (before : walk_to all (drop i path) q ≡ walk_to all path r) where
    step_walk : walk_to all path r ≡ option_and_then (walk_to all (drop (i + 1) path)) (walk_to later (s ∷ []) q)
    step_walk =
        let every : later ≡ all = λ i at. same at i in
        sym before ∙ ap (λ p. walk_to all p q) left ∙ walk_on all s (drop (i + 1) path) q ∙ ap (λ x. option_and_then (walk_to all (drop (i + 1) path)) (walk_to x (s ∷ []) q)) (sym every)

    pub walk_none : None ≡ walk_to later (s ∷ []) q → None ≡ walk_to all path r
    walk_none none = ap (option_and_then (walk_to all (drop (i + 1) path))) none ∙ sym step_walk

    pub walk_next : (o : Option Ref) → o ≡ walk_to later (s ∷ []) q → is_some o ≡ true → (x : Ref) × (o ≡ Some x) × (walk_to all (drop (i + 1) path) x ≡ walk_to all path r)
    walk_next None there some = absurd (false≢true some)
    walk_next (Some x) there some = (x, refl, ap (option_and_then (walk_to all (drop (i + 1) path))) there ∙ sym step_walk)
