-- The frontier that a walk begins with.
use Rattle.std.proofs.Common.{◌≡◌, ◌⊎◌, inl, inr, ℕ, ◌+◌, ◌<◌, List, length, take, refl, sym, ap, ◌∙◌, true, false}
use Rattle.std.proofs.lemmas.List.Folds.{list_any_more}
use Rattle.std.specs.Prelude.{◌||◌, ◌&&◌, ◌==◌, Bool, Contains, slice_index_or, Some, IsSome}
use Rattle.ip_history.specs.Frontier.{Commits, at, known, joined, flagged, IsPut, IsHeads}
use Rattle.ip_history.specs.declared.frontier.Flags.{Flags}
use Rattle.ip_history.proofs.Lists.{has, has_from, has_to, number_same}
use Rattle.ip_history.proofs.Flagged.{put_flag, put_there, first_true, second_true}

-- one more of the list
pub heads_more : (ns : List ℕ) (i p n : ℕ) (f : Flags) (old new : Commits) → i < length ns → p ≡ slice_index_or ns i p → f ≡ record { own = false; listed = true; stale = false } → IsPut old new p (Some (joined (known (at old p)) f)) → IsHeads (take i ns) n old → IsHeads (take (i + 1) ns) n new
heads_more ns i p n f old new low is flags put s = record {
  own = λ m. put_flag (λ f. f.own) (record { joins = λ e f. refl; clear = refl }) old new p f put m ∙ (ap (λ (g : Flags). flagged (λ f. f.own) (at old m) || (p == m && g.own)) flags ∙ (neither (flagged (λ f. f.own) (at old m)) (p == m) ∙ s.own m));
  listed = λ m. put_flag (λ f. f.listed) (record { joins = λ e f. refl; clear = refl }) old new p f put m ∙ (ap (λ (g : Flags). flagged (λ f. f.listed) (at old m) || (p == m && g.listed)) flags ∙ (either (flagged (λ f. f.listed) (at old m)) (p == m) ∙ (ap (λ b. b || (p == m)) (s.listed m) ∙ sym (more m))));
  stale = λ m. put_flag (λ f. f.stale) (record { joins = λ e f. refl; clear = refl }) old new p f put m ∙ (ap (λ (g : Flags). flagged (λ f. f.stale) (at old m) || (p == m && g.stale)) flags ∙ (neither (flagged (λ f. f.stale) (at old m)) (p == m) ∙ s.stale m));
  given = λ m there. by m (put_there old new p (Some (joined (known (at old p)) f)) put m there);
}
  where
    neither : (b c : Bool) → (b || (c && false)) ≡ b
    neither true c = refl
    neither false true = refl
    neither false false = refl

    either : (b c : Bool) → (b || (c && true)) ≡ (b || c)
    either true c = refl
    either false true = refl
    either false false = refl

    more : (m : ℕ) → has (take (i + 1) ns) m ≡ (has (take i ns) m || (p == m))
    more m = list_any_more (λ k. k == m) ns i p low ∙ ap (λ q. has (take i ns) m || (q == m)) (sym is)

    by : (m : ℕ) → (p ≡ m) ⊎ IsSome (at old m) → (n ≡ m) ⊎ Contains (take (i + 1) ns) m
    by m (inl e) = inr (has_to (take (i + 1) ns) m (more m ∙ second_true (has (take i ns) m) (p == m) (number_same p m e)))
    by m (inr there) = turn (s.given m there)
      where
        turn : (n ≡ m) ⊎ Contains (take i ns) m → (n ≡ m) ⊎ Contains (take (i + 1) ns) m
        turn (inl e) = inl e
        turn (inr c) = inr (has_to (take (i + 1) ns) m (more m ∙ first_true (has (take i ns) m) (p == m) (has_from (take i ns) m c)))
