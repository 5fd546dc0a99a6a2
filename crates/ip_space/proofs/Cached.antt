-- Records that were kept: what a look-up finds, and what is kept after each call.
--     lookup_shown      a look-up shows the record.      shown_each, each_shown      the members
--     lookup_promoted      the order is of no matter
--     put_each, put_few      what is there behind a put, and how many.      last_found      what was used last
--     bounded_in      how many there are, and how many bytes each has
--     current_none, current_one      what is kept stands, with one record more too.      kept_stands      so does what a look-up finds
use Rattle.std.proofs.Common.{◌≡◌, ℕ, suc, ◌-◌, ◌<◌, ◌≤◌, lit≤, arith, length, take, slice_get, Bool, true, false, cond, List, [], ◌∷◌, map, Contains, Option, Some, None, IfSome, option_map, option_copied, Bor, refl, sym, ◌∙◌, ap, subst, inl, inr, nat_eq, rules}
use Rattle.std.proofs.Math.Nat.{min-le_left}
use Rattle.std.proofs.lemmas.List.{length-take, length-map}
use Rattle.std.specs.Option.{option_map_or}
use Rattle.std.specs.Cmp.{nat_eq_equiv}
use Rattle.std.specs.Map.{lookup, lookup_entry, remove_entry}
use Rattle.lru.specs.LruCache.{LruCache, promoted, put_entries}
use Rattle.lru.proofs.Splits.{Contains-head, Contains-tail, Contains-cons, Contains-nil}
use Rattle.lru.proofs.CallerLemmas.{Contains-lookup_entry, Contains-lookup, Contains-promoted, Contains-put_entries, lookup-put_entries, IsPut}
use Rattle.ip_spec.specs.declared.record.Record.{Record}
use Rattle.ip_spec.specs.Record.{spelling}
use Rattle.ip_space.specs.SpaceView.{AreCurrent, kept_at}
use Rattle.ip_space.specs.Kept.{shown, kept_in, IsNamed, AreNamed, IsBounded, GainsNone, GainsAtMost, PutsAtMost}
use Rattle.ip_space.specs.declared.cache.Kept.{Kept}
use Rattle.ip_space.specs.declared.cache.TheConstants.{RECORDS_MAX, RECORD_BYTES_MAX}

abbrev rec_of : Kept → Record
rec_of k = k.rec

pub lookup_shown : (test : ℕ → Bool) (es : List (ℕ × Kept)) → lookup test (map shown es) ≡ option_map rec_of (lookup test es)
lookup_shown test [] = refl
lookup_shown test (e ∷ es) = elim (test e.0) as (λ y. cond y (Some e.1.rec) (lookup test (map shown es)) ≡ option_map rec_of (cond y (Some e.1) (lookup test es))) [
  | true ↦ refl
  | false ↦ lookup_shown test es
]

pub shown_each : (es : List (ℕ × Kept)) (e : ℕ × Record) → Contains (map shown es) e → (k : Kept) × Contains es (e.0, k) × (k.rec ≡ e.1)
shown_each [] e c = absurd (Contains-nil e c)
shown_each (f ∷ es) e c = elim (Contains-cons (shown f) (map shown es) e c) [
  | inl same ↦ (f.1, subst (λ (n : ℕ). Contains (f ∷ es) (n, f.1)) (ap (λ (p : ℕ × Record). p.0) same) (Contains-head f es), ap (λ (p : ℕ × Record). p.1) same)
  | inr d ↦ let on = shown_each es e d in (on.0, Contains-tail f es (e.0, on.0) on.1, on.2)
]

pub each_shown : (es : List (ℕ × Kept)) (e : ℕ × Kept) → Contains es e → Contains (map shown es) (shown e)
each_shown [] e c = absurd (Contains-nil e c)
each_shown (f ∷ es) e c = elim (Contains-cons f es e c) [
  | inl same ↦ subst (λ (x : ℕ × Kept). Contains (map shown (f ∷ es)) (shown x)) same (Contains-head (shown f) (map shown es))
  | inr d ↦ Contains-tail (shown f) (map shown es) (shown e) (each_shown es e d)
]

module _ (test : ℕ → Bool) where
  lookup_of_entry : (es : List (ℕ × Kept)) → lookup test es ≡ option_map (λ (e : ℕ × Kept). e.1) (lookup_entry test es)
  lookup_of_entry [] = refl
  lookup_of_entry (e ∷ es) = elim (test e.0) as (λ y. cond y (Some e.1) (lookup test es) ≡ option_map (λ (e : ℕ × Kept). e.1) (cond y (Some e) (lookup_entry test es))) [
    | true ↦ refl
    | false ↦ lookup_of_entry es
  ]

  to_front : (es : List (ℕ × Kept)) (o : Option (ℕ × Kept)) → lookup_entry test es ≡ o → lookup test (option_map_or (λ f. f ∷ remove_entry test es) o es) ≡ lookup test es
  to_front es None h = refl
  to_front es (Some f) h =
      ap (λ (b : Bool). cond b (Some f.1) (lookup test (remove_entry test es))) (Contains-lookup_entry test es f h).1
      ∙ sym (lookup_of_entry es ∙ ap (option_map (λ (e : ℕ × Kept). e.1)) h)

  many_removed : (es : List (ℕ × Kept)) (f : ℕ × Kept) → lookup_entry test es ≡ Some f → suc (length (remove_entry test es)) ≡ length es
  many_removed [] f h = cc
  many_removed (e ∷ es) f h = (elim (test e.0) as (λ y. test e.0 ≡ y → suc (length (remove_entry test (e ∷ es))) ≡ length (e ∷ es)) [
    | true ↦ λ t. rw t refl
    | false ↦ λ t. rw t (ap suc (many_removed es f (rw t at h)))
  ]) refl

  many_at_front : (es : List (ℕ × Kept)) (o : Option (ℕ × Kept)) → lookup_entry test es ≡ o → length (option_map_or (λ f. f ∷ remove_entry test es) o es) ≡ length es
  many_at_front es None h = refl
  many_at_front es (Some f) h = many_removed es f h

  pub many_promoted : (es : List (ℕ × Kept)) → length (promoted test es) ≡ length es
  many_promoted es = many_at_front es (lookup_entry test es) refl

  pub lookup_promoted : (es : List (ℕ × Kept)) → lookup test (promoted test es) ≡ lookup test es
  lookup_promoted es = to_front es (lookup_entry test es) refl

module _ (c : LruCache ℕ Kept) (at : ℕ) (kept : Kept) where
  is_put : (e : ℕ × Kept) → IsPut nat_eq c at kept e → e ≡ (at, kept)
  is_put e (is, key) = elim key [
    | inl same ↦ λ i. (same i, is i)
    | inr there ↦ let same : at ≡ e.0 = search (rules, there.2) in λ i. (sym same i, is i)
  ]

  pub put_each : PutsAtMost at kept c.entries (put_entries nat_eq c at kept)
  put_each e d = elim (Contains-put_entries nat_eq c at kept e d) [
    | inl there ↦ inl there
    | inr put ↦ inr (is_put e put)
  ]

  few_after : length c.entries ≤ c.cap → 0 < c.cap → (o : Option (ℕ × Kept)) → lookup_entry (nat_eq at) c.entries ≡ o
      → length (option_map_or (λ e. (e.0, kept) ∷ remove_entry (nat_eq at) c.entries) o ((at, kept) ∷ take (c.cap - 1) c.entries)) ≤ c.cap
  few_after few some None h = let front = length-take (c.cap - 1) c.entries in let least = min-le_left (c.cap - 1) (length c.entries) in omega (arith, front, least, some)
  few_after few some (Some f) h = let many = many_removed (nat_eq at) c.entries f h in omega (arith, many, few)

  pub put_few : length c.entries ≤ c.cap → 0 < c.cap → length (put_entries nat_eq c at kept) ≤ c.cap
  put_few few some = few_after few some (lookup_entry (nat_eq at) c.entries) refl

  pub put_found : lookup (nat_eq at) (put_entries nat_eq c at kept) ≡ Some kept
  put_found = lookup-put_entries nat_eq c at kept nat_eq_equiv

pub last_found : (es : List (ℕ × Kept)) (at : ℕ) (e : ℕ × Kept) → slice_get es 0 ≡ Some e → e.0 ≡ at → lookup (nat_eq at) es ≡ Some e.1
last_found [] at e is same = cc
last_found (f ∷ es) at e is same = let first : f ≡ e = cc in subst (λ (g : ℕ × Kept). lookup (nat_eq at) (g ∷ es) ≡ Some e.1) (sym first) (search (rules, same))

-- ---- by what a cache shows

pub sees : (o : Option (LruCache ℕ Kept)) (c : LruCache ℕ Kept) (now : List (ℕ × Record)) → kept_in o ≡ now → o ≡ Some c → map shown c.entries ≡ now
sees o c now is same = sym (ap kept_in same) ∙ is

pub named_in : (o : Option (LruCache ℕ Kept)) (c : LruCache ℕ Kept) → IfSome o AreNamed → o ≡ Some c → AreNamed c
named_in o c named same = subst (λ (x : Option (LruCache ℕ Kept)). IfSome x AreNamed) same named

-- few of them, and short ones
pub bounded_in : (o : Option (LruCache ℕ Kept)) → IfSome o AreNamed → IsBounded (kept_in o)
bounded_in None named = record { few = lit≤ tt; short = λ at r there. absurd (Contains-nil (at, r) there) }
bounded_in (Some c) named = record {
  few = subst (λ (n : ℕ). n ≤ RECORDS_MAX) (sym (length-map c.entries shown)) named.few;
  short = λ at r there. let h = shown_each c.entries (at, r) there in subst (λ (r : Record). length (spelling r) ≤ RECORD_BYTES_MAX) h.2 (named.each at h.0 h.1).short;
}

pub named_found : (c : LruCache ℕ Kept) (at : ℕ) → AreNamed c → (found : Option (Bor Kept)) → option_copied found ≡ lookup (nat_eq at) c.entries → IfSome found (λ k. IsNamed k.now)
named_found c at named None is = tt
named_found c at named (Some k) is = let there = Contains-lookup (nat_eq at) c.entries k.now (sym is) in named.each there.0 k.now there.1

pub shown_found : (c : LruCache ℕ Kept) (at : ℕ) (found : Option (Bor Kept)) → option_copied found ≡ lookup (nat_eq at) c.entries → option_map rec_of (option_copied found) ≡ kept_at at (map shown c.entries)
shown_found c at found is = ap (option_map rec_of) is ∙ sym (lookup_shown (nat_eq at) c.entries)

as_shown : (e : ℕ × Record) (k : Kept) → k.rec ≡ e.1 → shown (e.0, k) ≡ e
as_shown e k is = ap (λ (r : Record). (e.0, r)) is

pub put_gains : (old new : List (ℕ × Kept)) (at : ℕ) (kept : Kept) → PutsAtMost at kept old new → GainsAtMost at kept.rec (map shown old) (map shown new)
put_gains old new at kept puts e d =
    let h = shown_each new e d in
    elim (puts (e.0, h.0) h.1) [
      | inl was ↦ inl (subst (Contains (map shown old)) (as_shown e h.0 h.2) (each_shown old (e.0, h.0) was))
      | inr same ↦ inr (sym (as_shown e h.0 h.2) ∙ ap shown same)
    ]

pub put_named : (c : LruCache ℕ Kept) (d : LruCache ℕ Kept) (at : ℕ) (kept : Kept) → AreNamed c → IsNamed kept → PutsAtMost at kept c.entries d.entries
    → d.cap ≡ c.cap → (length c.entries ≤ c.cap → 0 < c.cap → length d.entries ≤ c.cap) → AreNamed d
put_named c d at kept all one puts cap few = record {
  each = λ place k there. elim (puts (place, k) there) [
    | inl was ↦ all.each place k was
    | inr same ↦ subst IsNamed (sym (ap (λ (e : ℕ × Kept). e.1) same)) one
  ];
  cap = cap ∙ all.cap;
  few = subst (λ (n : ℕ). length d.entries ≤ n) all.cap (few (subst (λ (n : ℕ). length c.entries ≤ n) (sym all.cap) all.few) (subst (λ (n : ℕ). 0 < n) (sym all.cap) (lit≤ tt)));
}

pub promotes_none : (es : List (ℕ × Kept)) (test : ℕ → Bool) → GainsNone (map shown es) (map shown (promoted test es))
promotes_none es test e d =
    let h = shown_each (promoted test es) e d in
    subst (Contains (map shown es)) (as_shown e h.0 h.2) (each_shown es (e.0, h.0) (Contains-promoted test es (e.0, h.0) h.1))

pub promoted_named : (c d : LruCache ℕ Kept) (test : ℕ → Bool) → AreNamed c → d ≡ record { entries = promoted test c.entries; cap = c.cap } → AreNamed d
promoted_named c d test all is = subst AreNamed (sym is) (record {
  each = λ at k there. all.each at k (Contains-promoted test c.entries (at, k) there);
  cap = all.cap;
  few = subst (λ (n : ℕ). n ≤ RECORDS_MAX) (sym (many_promoted test c.entries)) all.few;
})

pub promoted_same : (es : List (ℕ × Kept)) (test : ℕ → Bool) → lookup test (map shown (promoted test es)) ≡ lookup test (map shown es)
promoted_same es test = lookup_shown test (promoted test es) ∙ ap (option_map rec_of) (lookup_promoted test es) ∙ sym (lookup_shown test es)

pub promoted_entries : (d : LruCache ℕ Kept) (es : List (ℕ × Kept)) (cap : ℕ) → d ≡ record { entries = es; cap = cap } → d.entries ≡ es
promoted_entries d es cap is = ap (λ (x : LruCache ℕ Kept). x.entries) is

pub put_shown : (es : List (ℕ × Kept)) (at : ℕ) (kept : Kept) → lookup (nat_eq at) es ≡ Some kept → kept_at at (map shown es) ≡ Some kept.rec
put_shown es at kept is = lookup_shown (nat_eq at) es ∙ ap (option_map rec_of) is

-- ---- what is kept stands

module _ (records : ℕ → Option Record) (old new : List (ℕ × Record)) (current : AreCurrent records old) where
  pub current_none : GainsNone old new → AreCurrent records new
  current_none none at r c = current at r (none (at, r) c)

  pub current_one : (at : ℕ) (rec : Record) → GainsAtMost at rec old new → records at ≡ Some rec → AreCurrent records new
  current_one at rec gains there place r c = elim (gains (place, r) c) [
    | inl was ↦ current place r was
    | inr same ↦ ap (λ (e : ℕ × Record). records e.0) same ∙ there ∙ sym (ap (λ (e : ℕ × Record). Some e.1) same)
  ]

pub kept_stands : (records : ℕ → Option Record) (kept : List (ℕ × Record)) → AreCurrent records kept → (at : ℕ) (r : Record) → kept_at at kept ≡ Some r → records at ≡ Some r
kept_stands records kept current at r is =
    let there = Contains-lookup (nat_eq at) kept r is in
    let same : at ≡ there.0 = search (rules, there.2) in
    ap records same ∙ current there.0 r there.1
