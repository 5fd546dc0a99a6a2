-- How many commits are alive.
use Rattle.std.proofs.Common.{◌≡◌, ℕ, ◌+◌, ◌≤◌, [], ◌∷◌, length, refl, ap, Bool, true, false, cond, arith}
use Rattle.std.proofs.lemmas.Cmp.{nat_cmp_total}
use Rattle.std.proofs.lemmas.Map.Entries.{sum_by-insert_entry}
use Rattle.std.proofs.lemmas.List.Sums.{sum_by-cons}
use Rattle.std.specs.BTreeMap.{insert_entry, is_at}
use Rattle.std.specs.List.Sorted.{IsStrictlySortedBy}
use Rattle.std.specs.Map.{keys_of, values_of}
use Rattle.std.specs.Ordering.{nat_cmp}
use Rattle.std.specs.Prelude.{◌&&◌, not, Option, Some, None, option_map, unwrap_or, if◌then◌else◌}
use Rattle.ip_history.specs.Frontier.{Commits, at, unflagged, known, alive, alive_of, flagged, NoneAlive}
use Rattle.ip_history.specs.declared.frontier.Flags.{Flags}
use Rattle.ip_history.proofs.Lists.{no_true}

module _ (K : Flags → Bool) where
  pub counted : K unflagged ≡ false → (cs : Commits) (n : ℕ) (f : Flags) → IsStrictlySortedBy nat_cmp (keys_of cs) → alive_of K (insert_entry nat_cmp cs n f) + alive K (known (at cs n)) ≡ alive_of K cs + alive K f
  counted clear cs n f sorted = by (at cs n) (sum_by-insert_entry (alive K) nat_cmp_total cs n f sorted)
    where
      none : alive K unflagged ≡ 0
      none = ap (λ b. if b && true then 1 else 0) clear

      by : (o : Option Flags) → alive_of K (insert_entry nat_cmp cs n f) + unwrap_or (option_map (alive K) o) 0 ≡ alive_of K cs + alive K f → alive_of K (insert_entry nat_cmp cs n f) + alive K (known o) ≡ alive_of K cs + alive K f
      by None h = omega (arith, h, none)
      by (Some e) h = h

  pub alive-le : (f : Flags) → alive K f ≤ 1
  alive-le f = by (K f && not f.stale)
    where
      by : (b : Bool) → (if b then 1 else 0) ≤ 1
      by true = omega arith
      by false = omega arith

  pub alive_of-le : (cs : Commits) → alive_of K cs ≤ length cs
  alive_of-le [] = omega arith
  alive_of-le (c ∷ cs) =
      let e = sum_by-cons (alive K) c.1 (values_of cs) in
      let one = alive-le c.1 in
      let rest = alive_of-le cs in
      omega (arith, e, one, rest)

  pub none_alive : (cs : Commits) → alive_of K cs ≡ 0 → NoneAlive K cs
  none_alive [] e n = λ h. no_true false refl h
  none_alive (c ∷ cs) e n = by (is_at (nat_cmp n) c.0) (none_alive cs rest n)
    where
      sums : alive_of K (c ∷ cs) ≡ alive K c.1 + alive_of K cs
      sums = sum_by-cons (alive K) c.1 (values_of cs)

      rest : alive_of K cs ≡ 0
      rest = omega (arith, sums, e)

      stale : (b d : Bool) (m : ℕ) → m ≡ (if b && not d then 1 else 0) → m ≡ 0 → b ≡ true → d ≡ true
      stale b true m h none t = refl
      stale true false m h none t = absurd (omega (arith, h, none))
      stale false false m h none t = no_true false refl t

      first : K c.1 ≡ true → c.1.stale ≡ true
      first = stale (K c.1) c.1.stale (alive K c.1) refl (omega (arith, sums, e))

      by : (b : Bool) → (flagged K (at cs n) ≡ true → flagged (λ f. f.stale) (at cs n) ≡ true) → flagged K (cond b (Some c.1) (at cs n)) ≡ true → flagged (λ f. f.stale) (cond b (Some c.1) (at cs n)) ≡ true
      by true ih t = first t
      by false ih t = ih t

  -- what a commit's new flags do to the count
  pub recounted : K unflagged ≡ false → (old new : Commits) (n : ℕ) (before after : Flags) → IsStrictlySortedBy nat_cmp (keys_of old) → before ≡ known (at old n) → new ≡ insert_entry nat_cmp old n after → alive_of K new + alive K before ≡ alive_of K old + alive K after
  recounted clear old new n before after sorted was is = rw (was, is) (counted clear old n after sorted)
