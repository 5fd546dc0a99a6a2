-- What a reader of fields takes from the front: bytes that spell the value, which passes the reader's tests.
use Rattle.std.proofs.Common.{◌≡◌, ℕ, zero, suc, ◌+◌, ◌^◌, ◌<◌, ◌≤◌, [], ◌∷◌, ◌++◌, refl, sym, ap, subst, ◌∙◌, Option, Result, Ok, Err, Bool, true, false, cond, T, length, take, drop, arith, leb→le}
use Rattle.std.specs.Prelude.{◌&&◌, nat_le, nat_lt}
use Rattle.std.specs.List.{AllByRecursion}
use Rattle.std.proofs.Math.ListN.{get_or}
use Rattle.std.proofs.lemmas.List.{take-append-drop, length-take-le}
use Rattle.std.proofs.lemmas.Nat.{le_bytes_2, le_bytes_4, le_bytes_8}
use Rattle.std.specs.Int.{Width, w8, w16, w32, w64, byte_len, from_le_bytes}
use Rattle.ip_spec.specs.Path.{Bytes}
use Rattle.ip_spec.specs.Record.{short_text, u8, u16, u32, u64}
use Rattle.ip_spec.specs.Reading.{after, Fields, Left, ◌>>=◌, done, bytes_where, number_where, text_field, is_behind}

abbrev pub EachByte : Bytes → Type 0
EachByte bytes = AllByRecursion (λ b. b < 256) bytes

-- the value was read from the front, where its spelling stands, and what is left follows
pub record Took {A : Type 0} (S : A → Bytes) (P : A → Type 0) (before : Left) (x : A) (last : Left) : Type 0 where
  pub is : P x
  pub front : before.1 ≡ S x ++ last.1
  pub rest : EachByte last.1

abbrev pub Takes : {A : Type 0} → Fields A → (A → Bytes) → (A → Type 0) → Type 0
Takes f S P = (before : Left) (x : _) (last : Left) → EachByte before.1 → f before ≡ Ok (x, last) → Took S P before x last

-- ---- one reader behind another

pub record Steps {A B : Type 0} (f : Fields A) (g : A → Fields B) (before : Left) (y : B) (last : Left) : Type 0 where
  pub value : A
  pub middle : Left
  pub first : f before ≡ Ok (value, middle)
  pub second : g value middle ≡ Ok (y, last)

pub steps : {A B : Type 0} (f : Fields A) (g : A → Fields B) (before : Left) (y : B) (last : Left) → (f >>= g) before ≡ Ok (y, last) → Steps f g before y last
steps {A = A} f g before y last e = by (f before) refl e
  where
    by : (r : Result (A × Left) ℕ) → f before ≡ r → after g r ≡ Ok (y, last) → Steps f g before y last
    by (Ok r) is e = record { value = r.0; middle = r.1; first = is; second = e }
    by (Err at) is e = cc

pub ok_same : {A E : Type 0} (x y : A) → ◌≡◌ {A = Result A E} (Ok x) (Ok y) → x ≡ y
ok_same x y e = cc

-- a value that is done takes nothing
pub of_done : {A : Type 0} (S : A → Bytes) (P : A → Type 0) (before middle : Left) (made x : A) (last : Left) → done made middle ≡ Ok (x, last) → Took S P before made middle → Took S P before x last
of_done {A = A} S P before middle made x last e took = subst (λ (p : A × Left). Took S P before p.0 p.1) (ok_same (made, middle) (x, last) e) took

-- ---- bytes

pub take_bytes : (n : ℕ) (bs : Bytes) → EachByte bs → EachByte (take n bs)
take_bytes zero bs each = tt
take_bytes (suc n) [] each = tt
take_bytes (suc n) (b ∷ bs) each = (each.0, take_bytes n bs each.1)

pub drop_bytes : (n : ℕ) (bs : Bytes) → EachByte bs → EachByte (drop n bs)
drop_bytes zero bs each = each
drop_bytes (suc n) [] each = tt
drop_bytes (suc n) (b ∷ bs) each = drop_bytes n bs each.1

pub both_left : (c d : Bool) → (c && d) ≡ true → c ≡ true
both_left true d h = refl
both_left false d h = h

pub both_right : (c d : Bool) → (c && d) ≡ true → d ≡ true
both_right true d h = h
both_right false d h = cc

abbrev pub Passing : ℕ → (Bytes → Bool) → Bytes → Type 0
Passing n test t = (length t ≡ n) × (test t ≡ true) × EachByte t

pub takes_bytes : (n : ℕ) (test : Bytes → Bool) → Takes (bytes_where n test) (λ t. t) (Passing n test)
takes_bytes n test before x last each e = by (nat_le n (length before.1) && test (take n before.1)) refl e
  where
    le_of : (m n : ℕ) → nat_le m n ≡ true → m ≤ n
    le_of m n h = leb→le m n (subst T (sym h) tt)

    by : (b : Bool) → (nat_le n (length before.1) && test (take n before.1)) ≡ b → cond {A = Result (Bytes × Left) ℕ} b (Ok (take n before.1, (before.0 + n, drop n before.1))) (Err before.0) ≡ Ok (x, last) → Took (λ t. t) (Passing n test) before x last
    by true pass e = subst (λ (p : Bytes × Left). Took (λ t. t) (Passing n test) before p.0 p.1) (ok_same (take n before.1, (before.0 + n, drop n before.1)) (x, last) e) (record {
      is = (length-take-le n before.1 (le_of n (length before.1) (both_left _ _ pass)), both_right (nat_le n (length before.1)) _ pass, take_bytes n before.1 each);
      front = sym (take-append-drop n before.1);
      rest = drop_bytes n before.1 each;
    })
    by false pass e = cc

-- ---- numbers

pub get_small : (bs : Bytes) → EachByte bs → (i : ℕ) → get_or bs i 0 < 256
get_small [] each i = omega arith
get_small (b ∷ bs) each zero = each.0
get_small (b ∷ bs) each (suc i) = get_small bs each.1 i

abbrev pub Number : ℕ → (ℕ → Bool) → ℕ → Type 0
Number top test n = (n < top) × (test n ≡ true)

takes_number : (w : Width) (S : ℕ → Bytes) (top : ℕ) (test : ℕ → Bool) → ((t : Bytes) → length t ≡ byte_len w → EachByte t → (S (from_le_bytes w t) ≡ t) × (from_le_bytes w t < top)) → Takes (number_where w test) S (Number top test)
takes_number w S top test back before x last each e =
    let s = steps (bytes_where (byte_len w) (λ bytes. test (from_le_bytes w bytes))) (λ bytes. done (from_le_bytes w bytes)) before x last e in
    let t = takes_bytes (byte_len w) (λ bytes. test (from_le_bytes w bytes)) before s.value s.middle each s.first in
    let b = back s.value t.is.0 t.is.2 in
    of_done S (Number top test) before s.middle (from_le_bytes w s.value) x last s.second (record { is = (b.1, t.is.1); front = t.front ∙ ap (λ u. u ++ s.middle.1) (sym b.0); rest = t.rest })

small_1 : (t : Bytes) → length t ≡ 1 → EachByte t → (u8 (from_le_bytes w8 t) ≡ t) × (from_le_bytes w8 t < 256)
small_1 [] l each = absurd (omega (arith, l))
small_1 (a ∷ []) l each = (refl, each.0)
small_1 (a ∷ b ∷ t) l each = absurd (omega (arith, l))

small_2 : (t : Bytes) → length t ≡ 2 → EachByte t → from_le_bytes w16 t < 2 ^ 16
small_2 [] l each = absurd (omega (arith, l))
small_2 (a ∷ []) l each = absurd (omega (arith, l))
small_2 (a ∷ b ∷ []) l each = let x = each.0 in let y = each.1.0 in omega (arith, x, y)
small_2 (a ∷ b ∷ c ∷ t) l each = absurd (omega (arith, l))

pub small_4 : (t : Bytes) → length t ≡ 4 → EachByte t → from_le_bytes w32 t < 2 ^ 32
small_4 [] l each = absurd (omega (arith, l))
small_4 (a ∷ []) l each = absurd (omega (arith, l))
small_4 (a ∷ b ∷ []) l each = absurd (omega (arith, l))
small_4 (a ∷ b ∷ c ∷ []) l each = absurd (omega (arith, l))
small_4 (a ∷ b ∷ c ∷ d ∷ []) l (x, (y, (z, (u, v)))) = omega (arith, x, y, z, u)
small_4 (a ∷ b ∷ c ∷ d ∷ e ∷ t) l each = absurd (omega (arith, l))

small_8 : (t : Bytes) → length t ≡ 8 → EachByte t → from_le_bytes w64 t < 2 ^ 64
small_8 (a ∷ b ∷ c ∷ d ∷ e ∷ f ∷ g ∷ h ∷ []) l (x, (y, (z, (u, (v, (w, (p, (q, r)))))))) = omega (arith, x, y, z, u, v, w, p, q)
small_8 (a ∷ b ∷ c ∷ d ∷ e ∷ f ∷ g ∷ h ∷ i ∷ t) l each = absurd (omega (arith, l))
small_8 (a ∷ b ∷ c ∷ d ∷ e ∷ f ∷ g ∷ []) l each = absurd (omega (arith, l))
small_8 (a ∷ b ∷ c ∷ d ∷ e ∷ f ∷ []) l each = absurd (omega (arith, l))
small_8 (a ∷ b ∷ c ∷ d ∷ e ∷ []) l each = absurd (omega (arith, l))
small_8 (a ∷ b ∷ c ∷ d ∷ []) l each = absurd (omega (arith, l))
small_8 (a ∷ b ∷ c ∷ []) l each = absurd (omega (arith, l))
small_8 (a ∷ b ∷ []) l each = absurd (omega (arith, l))
small_8 (a ∷ []) l each = absurd (omega (arith, l))
small_8 [] l each = absurd (omega (arith, l))

pub takes_u8 : (test : ℕ → Bool) → Takes (number_where w8 test) u8 (Number 256 test)
takes_u8 test = takes_number w8 u8 256 test small_1

pub takes_u16 : (test : ℕ → Bool) → Takes (number_where w16 test) u16 (Number (2 ^ 16) test)
takes_u16 test = takes_number w16 u16 (2 ^ 16) test (λ t l each. (le_bytes_2 t (from_le_bytes w16 t) l (get_small t each) refl, small_2 t l each))

pub takes_u32 : (test : ℕ → Bool) → Takes (number_where w32 test) u32 (Number (2 ^ 32) test)
takes_u32 test = takes_number w32 u32 (2 ^ 32) test (λ t l each. (le_bytes_4 t (from_le_bytes w32 t) l (get_small t each) refl, small_4 t l each))

pub takes_u64 : (test : ℕ → Bool) → Takes (number_where w64 test) u64 (Number (2 ^ 64) test)
takes_u64 test = takes_number w64 u64 (2 ^ 64) test (λ t l each. (le_bytes_8 t (from_le_bytes w64 t) l (get_small t each) refl, small_8 t l each))

-- ---- texts

pub record IsText (test : Bytes → Bool) (before : Option Bytes) (t : Bytes) : Type 0 where
  pub some : 0 < length t
  pub short : length t ≤ 255
  pub passes : test t ≡ true
  pub behind : is_behind before t ≡ true
  pub bytes : EachByte t

pub lt_of : (m n : ℕ) → nat_lt m n ≡ true → m < n
lt_of m n h = grind arith

pub le_of : (m n : ℕ) → nat_le m n ≡ true → m ≤ n
le_of m n h = grind arith

pub takes_text : (test : Bytes → Bool) (previous : Option Bytes) → Takes (text_field test previous) short_text (IsText test previous)
takes_text test previous before x last each e =
    let s = steps (number_where w8 (λ n. nat_lt 0 n)) (λ n. bytes_where n (λ bytes. test bytes && is_behind previous bytes)) before x last e in
    let n = takes_u8 (λ n. nat_lt 0 n) before s.value s.middle each s.first in
    let t = takes_bytes s.value (λ bytes. test bytes && is_behind previous bytes) s.middle x last n.rest s.second in
    let long = t.is.0 in
    record {
      is = record {
        some = let l = lt_of 0 s.value n.is.1 in omega (arith, long, l);
        short = let l = n.is.0 in omega (arith, long, l);
        passes = both_left (test x) _ t.is.1;
        behind = both_right (test x) _ t.is.1;
        bytes = t.is.2;
      };
      front = n.front ∙ ap (λ (u : Bytes). s.value ∷ u) t.front ∙ ap (λ k. k ∷ (x ++ last.1)) (sym long);
      rest = t.rest;
    }
