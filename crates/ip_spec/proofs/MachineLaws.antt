-- What the machine that computes answers is what the steps allow, for rules that compute.
use Rattle.std.proofs.Common.{◌≡◌, ℕ, suc, List, [], ◌∷◌, refl, Some, Bool, true, false, Ok, Err, length, arith}
use Rattle.std.specs.Prelude.{nat_lt, reverse, MatchResult, if◌then◌else◌}
use Rattle.std.specs.Bool.{MatchBool}
use Rattle.ip_spec.specs.Path.{Bytes, Path}
use Rattle.ip_spec.specs.Record.{Info}
use Rattle.ip_spec.specs.Tree.{Tree}
use Rattle.ip_spec.specs.Merge.{Rule, means, Merges, Outcome}
use Rattle.ip_spec.specs.MergeModel.{Merger, merge_of, base_of, join_turn, merge_turn, answer_by, machine}
use Rattle.ip_spec.specs.Repository.{head, name_at, tree_at}
use Rattle.ip_spec.specs.History.{is_ancestor, is_proper_ancestor, lcas}
use Rattle.ip_spec.specs.Machine.{State, Command, Conditions, Reply, Target}
use Rattle.ip_spec.specs.Step.{Refused, ◌>>=◌, ◌>>◌, Turned, or_refused, resolve, present, refuse_if, not_leaving, tree_of_outcome, with_merge, forward_turn, Base, of_none, of_one, Joins, MergesInto, Merging, Turns, MayAnswer, state_with_exit}
use Rattle.ip_spec.proofs.MergeLaws.{merges}

module _ (f : Path → Merger) (s : State) (met : Conditions) (branch : Bytes) (info : Info) where
  rule : Rule
  rule p = means (f p)

  abbrev after_base : ℕ → ℕ → List ℕ → Refused Turned
  after_base number head cs = tree_of_outcome (merge_of f (base_of s.repository cs) (tree_at s.repository head) (tree_at s.repository number)) >>= with_merge s met number branch head info

  abbrev Joined : ℕ → ℕ → List ℕ → Refused Turned → Type 0
  Joined number head cs turned = (base : Refused Tree) × Base rule s.repository (reverse cs) base × MatchResult base
      (λ o. (m : Outcome) × Merges rule o (tree_at s.repository head) (tree_at s.repository number) m × (turned ≡ (tree_of_outcome m >>= with_merge s met number branch head info)))
      (λ reply. turned ≡ Err reply)

  over_base : (number head : ℕ) (cs : List ℕ) → Base rule s.repository (reverse cs) (Ok (base_of s.repository cs)) → Joined number head cs (after_base number head cs)
  unfolding rule
  over_base number head cs base = (Ok (base_of s.repository cs), base, (merge_of f (base_of s.repository cs) (tree_at s.repository head) (tree_at s.repository number), merges f (base_of s.repository cs) (tree_at s.repository head) (tree_at s.repository number), refl))

  two_are_many : (n : ℕ) → nat_lt 1 (suc (suc n)) ≡ true
  two_are_many n = grind arith

  by_room : (number head : ℕ) (cs : List ℕ) (a : Refused (Unit {0})) (b : Bool) → (b ≡ false → Joined number head cs (after_base number head cs))
      → MatchResult (a >> refuse_if b (Reply.Bases (length cs))) (λ _. Joined number head cs (a >> (refuse_if b (Reply.Bases (length cs)) >> after_base number head cs))) (λ reply. (a >> (refuse_if b (Reply.Bases (length cs)) >> after_base number head cs)) ≡ Err reply)
  by_room number head cs (Err reply) b h = refl
  by_room number head cs (Ok u) true h = refl
  by_room number head cs (Ok u) false h = h refl

  one_base : (number head : ℕ) (cs : List ℕ) → nat_lt 1 (length cs) ≡ false → Joined number head cs (after_base number head cs)
  one_base number head [] few = over_base number head [] of_none
  one_base number head (c ∷ []) few = over_base number head (c ∷ []) (of_one c)
  one_base number head (c ∷ d ∷ cs) few = absurd (no_both (nat_lt 1 (suc (suc (length cs)))) few (two_are_many (length cs)))
    where
      no_both : (b : Bool) → b ≡ false → b ≡ true → ⊥
      no_both b p q = cc

  joins : (number head : ℕ) → Joins rule s met number branch head info (join_turn f s met number branch head info)
  joins number head = by_room number head (lcas s.repository head number) (not_leaving s (Some number)) (nat_lt 1 (length (lcas s.repository head number))) (one_base number head (lcas s.repository head number))

  abbrev chosen : ℕ → ℕ → Bool → Bool → Refused Turned
  chosen number head a b = if a then Ok (Reply.Current (name_at s.repository head), s) else if b then forward_turn s met number branch else join_turn f s met number branch head info

  into_by : (number head : ℕ) (a b : Bool) → MatchBool a (chosen number head a b ≡ Ok (Reply.Current (name_at s.repository head), s))
      (MatchBool b (chosen number head a b ≡ forward_turn s met number branch) (Joins rule s met number branch head info (chosen number head a b)))
  into_by number head true b = refl
  into_by number head false true = refl
  into_by number head false false = joins number head

  abbrev rest : ℕ → ℕ → Refused Turned
  rest number head = chosen number head (is_ancestor s.repository number head) (is_proper_ancestor s.repository head number)

  named_by : (x y : Refused ℕ) → MatchResult {T = ℕ × ℕ} (x >>= λ number. y >>= λ head. Ok (number, head))
      (λ both. MergesInto rule s met both.0 branch both.1 info (x >>= λ number. y >>= λ head. rest number head)) (λ reply. (x >>= λ number. y >>= λ head. rest number head) ≡ Err reply)
  named_by (Err reply) y = refl
  named_by (Ok number) (Err reply) = refl
  named_by (Ok number) (Ok head) = into_by number head (is_ancestor s.repository number head) (is_proper_ancestor s.repository head number)

  merging : (target : Target) → Merging rule s target branch info met (or_refused s (merge_turn f s target branch info met))
  merging target = (merge_turn f s target branch info met, refl, named_by (resolve s.repository target) (present (head s.repository branch) (Reply.NoBranch branch)))

by_refusal : (Q : Turned → Type 0) (b : Bool) (memory answer : Turned) → Q answer
    → MatchBool b (((if b then memory else answer).0 ≡ memory.0) × ((if b then memory else answer).1 ≡ memory.1)) (Q (if b then memory else answer))
by_refusal Q true memory answer is = (refl, refl)
by_refusal Q false memory answer is = is

answer_turns : (f : Path → Merger) (s : State) (command : Command) (met : Conditions) → Turns (λ p. means (f p)) s command met (answer_by f s command met)
unfolding rule
answer_turns f s (Command.Merge target branch info) met = merging f s met branch info target
answer_turns f s command met = refl

pub machine_turns : (f : Path → Merger) (s : State) (command : Command) (met : Conditions) → MayAnswer (λ p. means (f p)) s command met (machine f s command met)
unfolding machine
machine_turns f s command met = by_refusal (Turns (λ p. means (f p)) s command met) met.told.refused (Reply.Memory, state_with_exit s s.phase met.told.child) (answer_by f s command met) (answer_turns f s command met)
