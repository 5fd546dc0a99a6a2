-- Bytes that stand, as a list.
--     from_more, more_size      more bytes behind those that are there.      from_stood      bytes that stand are there
--     held_part, held_at      a part, and a run of several
--     gathered_next      one run more.      kept_gathered, kept_held      the runs of records that stand
use Rattle.std.proofs.Common.{◌≡◌, inl, ℕ, zero, suc, ◌+◌, ◌<◌, ◌≤◌, List, [], ◌∷◌, ◌++◌, length, take, get_or, refl, sym, ◌∙◌, ap, subst, arith, length-append, append_assoc, append-nil}
use Rattle.std.specs.Prelude.{Option, Some, None}
use Rattle.ip_spec.specs.Path.{Bytes}
use Rattle.ip_spec.specs.Record.{spelling}
use Rattle.ip_spec.specs.TreeAt.{Records}
use Rattle.ip_image.specs.declared.run.Run.{Run}
use Rattle.ip_image.specs.Virtual.{Stands}
use Rattle.ip_image.specs.Standing.{EndToEnd, RunByRun}
use Rattle.ip_image.specs.Collection.{kept_bytes}
use Rattle.ip_image.specs.Stored.{bytes_from}
use Rattle.ip_space.proofs.StoodBytes.{all_from, stands_both}
use Rattle.ip_keep.proofs.Held.{held_stood}
use Rattle.ip_keep.specs.Runs.{IsHeld, AreHeld}
use Rattle.ip_worker.specs.Steps.{gathered}

module _ (f : ℕ → Option ℕ) where
  from_step : (at n : ℕ) (o : Option ℕ) → f at ≡ o → bytes_from f at (suc n) ≡ elim o [ None ↦ [] | Some b ↦ b ∷ bytes_from f (suc at) n ]
  from_step at n o is = ap (λ (o : Option ℕ). elim o [ None ↦ [] | Some b ↦ b ∷ bytes_from f (suc at) n ]) is

  from_at : (m n k : ℕ) → m ≡ n → bytes_from f m k ≡ bytes_from f n k
  from_at m n k e = ap (λ (m : ℕ). bytes_from f m k) e

  -- more bytes behind those that are all there
  pub from_more : (at m n : ℕ) → length (bytes_from f at m) ≡ m → bytes_from f at (m + n) ≡ bytes_from f at m ++ bytes_from f (at + m) n
  from_more at zero n size = ap (λ (k : ℕ). bytes_from f at k) (let e : 0 + n ≡ n = omega arith in e) ∙ from_at at (at + 0) n (omega arith)
  from_more at (suc m) n size = ap (λ (k : ℕ). bytes_from f at k) (let e : suc m + n ≡ suc (m + n) = omega arith in e) ∙ by (f at) refl (λ whole. from_more (suc at) m n whole)
    where
      by : (o : Option ℕ) → f at ≡ o → (length (bytes_from f (suc at) m) ≡ m → bytes_from f (suc at) (m + n) ≡ bytes_from f (suc at) m ++ bytes_from f (suc at + m) n)
          → bytes_from f at (suc (m + n)) ≡ bytes_from f at (suc m) ++ bytes_from f (at + suc m) n
      by None is deep = absurd (let l = ap length (from_step at m None is) in omega (arith, l, size))
      by (Some b) is deep =
          let l = ap length (from_step at m (Some b) is) in
          from_step at (m + n) (Some b) is
          ∙ ap (λ (l : Bytes). b ∷ l) (deep (omega (arith, l, size)) ∙ ap (λ (l : Bytes). bytes_from f (suc at) m ++ l) (from_at (suc at + m) (at + suc m) n (omega arith)))
          ∙ sym (ap (λ (l : Bytes). l ++ bytes_from f (at + suc m) n) (from_step at m (Some b) is))

  pub more_size : (at m n : ℕ) → length (bytes_from f at m) ≡ m → length (bytes_from f (at + m) n) ≡ n → length (bytes_from f at (m + n)) ≡ m + n
  more_size at m n one two =
      let both = length-append (bytes_from f at m) (bytes_from f (at + m) n) in
      ap length (from_more at m n one) ∙ omega (arith, both, one, two)

  -- where all that is asked for was read, these are the bytes
  pub from_stood : (at n : ℕ) (bytes : Bytes) → Stands f at bytes → length bytes ≡ n → bytes_from f at n ≡ bytes
  from_stood at n bytes stands size = all_from f bytes at n stands (omega (arith, size)) (inl size)

  pub held_part : (at n m k : ℕ) → m + k ≤ n → IsHeld f at n → IsHeld f (at + m) k
  held_part at n m k le held i below gap =
      let place : at + (m + i) ≡ at + m + i = omega arith in
      held (m + i) (omega (arith, le, below)) (ap f place ∙ gap)

  -- one of the runs
  pub held_at : (runs : List Run) (i : ℕ) (d : Run) → i < length runs → AreHeld f runs → IsHeld f (get_or runs i d).at (get_or runs i d).length
  held_at [] i d below held = absurd (omega (arith, below))
  held_at (run ∷ runs) zero d below held = held.0
  held_at (run ∷ runs) (suc i) d below held = held_at runs i d (omega (arith, below)) held.1

  pub gathered_next : (runs : List Run) (i : ℕ) (d : Run) → i < length runs → gathered f (take (suc i) runs) ≡ gathered f (take i runs) ++ bytes_from f (get_or runs i d).at (get_or runs i d).length
  gathered_next [] i d below = absurd (omega (arith, below))
  gathered_next (run ∷ runs) zero d below = append-nil (bytes_from f run.at run.length)
  gathered_next (run ∷ runs) (suc i) d below =
      ap (λ (l : Bytes). bytes_from f run.at run.length ++ l) (gathered_next runs i d (omega (arith, below)))
      ∙ sym (append_assoc (bytes_from f run.at run.length) (gathered f (take i runs)) (bytes_from f (get_or runs i d).at (get_or runs i d).length))

  -- records end to end
  along : (from to : ℕ) (here : Records) → EndToEnd f from here to → Stands f from (kept_bytes here) × (from + length (kept_bytes here) ≡ to)
  along from to [] end = ((λ k below. absurd (omega (arith, below))), omega (arith, end))
  along from to (x ∷ here) (at, stands, rest) =
      let deep = along (from + length (spelling x.1)) to here rest in
      let l = length-append (spelling x.1) (kept_bytes here) in
      let size = deep.1 in (
        stands_both f from (spelling x.1) (kept_bytes here) (subst (λ (n : ℕ). Stands f n (spelling x.1)) at (subst (λ (n : ℕ). Stands f n (spelling x.1)) (sym at) stands)) deep.0,
        omega (arith, l, size),
      )

  kept_append : (here later : Records) → kept_bytes (here ++ later) ≡ kept_bytes here ++ kept_bytes later
  kept_append [] later = refl
  kept_append (x ∷ here) later = ap (λ (l : Bytes). spelling x.1 ++ l) (kept_append here later) ∙ sym (append_assoc (spelling x.1) (kept_bytes here) (kept_bytes later))

  run_size : (run : Run) (here : Records) → EndToEnd f run.at here (run.at + run.length) → length (kept_bytes here) ≡ run.length
  run_size run here ends = let (_, size) = along run.at (run.at + run.length) here ends in omega (arith, size)

  pub kept_gathered : (runs : List Run) (kept : Records) → RunByRun f runs kept → gathered f runs ≡ kept_bytes kept
  kept_gathered [] kept none = sym (ap kept_bytes none)
  kept_gathered (run ∷ runs) kept (here, later, is, ends, rest) =
      let stands = along run.at (run.at + run.length) here ends in
      ap (λ (l : Bytes). l ++ gathered f runs) (from_stood run.at run.length (kept_bytes here) stands.0 (run_size run here ends))
      ∙ ap (λ (l : Bytes). kept_bytes here ++ l) (kept_gathered runs later rest)
      ∙ sym (kept_append here later)
      ∙ sym (ap kept_bytes is)

  pub kept_held : (runs : List Run) (kept : Records) → RunByRun f runs kept → AreHeld f runs
  kept_held [] kept none = tt
  kept_held (run ∷ runs) kept (here, later, is, ends, rest) =
      let stands = along run.at (run.at + run.length) here ends in
      (held_stood f run.at run.length (kept_bytes here) stands.0 (run_size run here ends), kept_held runs later rest)
