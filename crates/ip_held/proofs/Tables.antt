-- What the tables of a store say of its repository.
--     named, existing, not_there      the number of a commit by its name, and whether there is one
--     retained_small, retained_hash      the number of a retained commit fits, and its name is one
--     free, none_named      a name that no commit has, in the tables and as the machine says it
use Rattle.std.proofs.Common.{◌≡◌, ℕ, ◌+◌, ◌-◌, ◌<◌, ◌≤◌, Bool, true, false, List, [], ◌∷◌, map, length, get_or, ◌^◌, Option, Some, None, refl, sym, ◌∙◌, ap, subst, arith}
use Rattle.std.specs.Prelude.{Ok, Err, position, option_map, is_some, slice_get, unwrap_or, IsTrue, nat_le, nat_lt, if◌then◌else◌, not, ◌&&◌}
use Rattle.std.proofs.lemmas.Bool.Decides.{nat_tests}
use Rattle.std.specs.List.{prefix_len}
use Rattle.std.proofs.lemmas.List.{length-map}
use Rattle.std.proofs.lemmas.Option.{slice_get-map, unwrap_or-slice_get}
use Rattle.ip_spec.specs.Path.{same_bytes}
use Rattle.ip_spec.specs.Record.{Hash, IsHash}
use Rattle.ip_spec.specs.declared.reply.Reply.TheVariants as Reply
use Rattle.ip_spec.specs.Repository.{Repository, Commit, number_named, is_retained, name_at, commit_at, next}
use Rattle.ip_spec.specs.Step.{not_existing, refuse_if}
use Rattle.ip_held.specs.declared.held.Held.{Held}
use Rattle.ip_held.specs.Held.{IsOf}

prefix_names : (p : Hash → Bool) (cs : List Commit) → prefix_len p (map (λ c. c.name) cs) ≡ prefix_len (λ c. p c.name) cs
prefix_names p [] = refl
prefix_names p (c ∷ cs) = ap (λ n. if p c.name then 1 + n else 0) (prefix_names p cs)

pub position_names : (h : Hash) (cs : List Commit) → position (λ n. same_bytes n h) (map (λ c. c.name) cs) ≡ position (λ c. same_bytes c.name h) cs
position_names h cs =
    ap (λ (k : ℕ). if nat_lt k (length (map (λ c. c.name) cs)) then Some k else None) (prefix_names (λ n. not (same_bytes n h)) cs)
    ∙ ap (λ (n : ℕ). if nat_lt (prefix_len (λ c. not (same_bytes c.name h)) cs) n then Some (prefix_len (λ c. not (same_bytes c.name h)) cs) else None) (length-map cs (λ c. c.name))

some_mapped : (f : ℕ → ℕ) (o : Option ℕ) → is_some (option_map f o) ≡ is_some o
some_mapped f None = refl
some_mapped f (Some k) = refl

module _ (store : Held) (r : Repository) (of : IsOf store r) where
  pub named : (h : Hash) → number_named r h ≡ option_map (λ k. r.floor + k) (position (λ n. same_bytes n h) store.names)
  named h = ap (option_map (λ k. r.floor + k)) (sym (position_names h r.commits) ∙ ap (position (λ n. same_bytes n h)) of.names)

  named_some : (h : Hash) → is_some (number_named r h) ≡ is_some (position (λ n. same_bytes n h) store.names)
  named_some h = ap is_some (named h) ∙ some_mapped (λ k. r.floor + k) (position (λ n. same_bytes n h) store.names)

  pub existing : (h : Hash) → is_some (position (λ n. same_bytes n h) store.names) ≡ true → not_existing r h ≡ Err (Reply.Existing h)
  existing h is = ap (λ b. refuse_if b (Reply.Existing h)) (named_some h ∙ is)

  pub not_there : (h : Hash) → is_some (position (λ n. same_bytes n h) store.names) ≡ false → not_existing r h ≡ Ok tt
  not_there h is = ap (λ b. refuse_if b (Reply.Existing h)) (named_some h ∙ is)

  split : (low n high : ℕ) → (nat_le low n && nat_lt n high) ≡ true → (low ≤ n) × (n < high)
  split low n high e = (grind (arith, nat_tests), grind (arith, nat_tests))

  pub retained_small : (n : ℕ) → IsTrue (is_retained r n) → n < 2 ^ 64
  retained_small n is =
      let next_small = of.slot.next in
      let end_small = of.slot.ends in
      let below : n < store.slot.next = subst (λ (k : ℕ). n < k) of.next (split r.floor n (next r) is).1 in
      omega arith

  -- the name of a retained commit stands in the list
  there : (n : ℕ) → IsTrue (is_retained r n) → slice_get store.names (n - r.floor) ≡ option_map (λ (c : Commit). c.name) (slice_get r.commits (n - r.floor))
  there n is = ap (λ ns. slice_get ns (n - r.floor)) (sym of.names) ∙ slice_get-map (λ (c : Commit). c.name) r.commits (n - r.floor)

  commit_is : (n : ℕ) → IsTrue (is_retained r n) → commit_at r n ≡ slice_get r.commits (n - r.floor)
  commit_is n is = ap (λ b. if b then slice_get r.commits (n - r.floor) else None) (at_least r.floor n (split r.floor n (next r) is).0)
    where
      at_least : (low n : ℕ) → low ≤ n → nat_le low n ≡ true
      at_least low n l = grind (arith, nat_tests)

  name_is : (n : ℕ) → IsTrue (is_retained r n) → name_at r n ≡ unwrap_or (slice_get store.names (n - r.floor)) []
  name_is n is = ap (λ o. unwrap_or (option_map (λ (c : Commit). c.name) o) []) (commit_is n is) ∙ ap (λ o. unwrap_or o []) (sym (there n is))

  inside : (n : ℕ) → IsTrue (is_retained r n) → n - r.floor < length store.names
  inside n is =
      let count : length store.names ≡ length r.commits = ap length (sym of.names) ∙ length-map r.commits (λ (c : Commit). c.name) in
      let both = split r.floor n (next r) is in
      omega (arith, both.0, both.1)

  pub retained_hash : (n : ℕ) → IsTrue (is_retained r n) → (h : Hash) → h ≡ name_at r n → IsHash h
  retained_hash n is h named = subst IsHash (sym (named ∙ name_is n is ∙ at_index store.names (n - r.floor) (inside n is))) (of.hashes (n - r.floor) [] (inside n is))
    where
      at_index : (hs : List Hash) (k : ℕ) → k < length hs → unwrap_or (slice_get hs k) [] ≡ get_or hs k []
      at_index hs k l = unwrap_or-slice_get hs k []

  -- a name that no commit has stands at no place
  pub free : (h : Hash) → number_named r h ≡ None → position (λ n. same_bytes n h) store.names ≡ None
  free h none = unmapped (position (λ n. same_bytes n h) store.names) (sym (named h) ∙ none)
    where
      unmapped : (o : Option ℕ) → option_map (λ k. r.floor + k) o ≡ None → o ≡ None
      unmapped None e = refl
      unmapped (Some k) e = absurd (cc (e))

-- a name that the tables do not have, as the machine says it
pub none_named : (r : Repository) (h : Hash) → not_existing r h ≡ Ok tt → number_named r h ≡ None
none_named r h is = by (number_named r h) is
  where
    by : (o : Option ℕ) → refuse_if (is_some o) (Reply.Existing h) ≡ Ok tt → o ≡ None
    by None is = refl
    by (Some n) is = absurd (cc (is))
