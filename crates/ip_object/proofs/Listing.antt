-- A list of fields that is read one element at a time: what is read so far, and what is left to read.
use Rattle.std.proofs.Common.{◌≡◌, ℕ, zero, suc, ◌+◌, ◌-◌, ◌<◌, List, [], ◌∷◌, ◌++◌, refl, sym, ap, ◌∙◌, Some, Result, Ok, Err, arith, append_assoc, append-nil}
use Rattle.std.specs.Prelude.{length, slice_get, option_map}
use Rattle.std.proofs.lemmas.List.{length-append}
use Rattle.std.proofs.lemmas.Option.{slice_get_read}
use Rattle.std.proofs.Math.Seq.{get_or-append_seam}
use Rattle.std.specs.Int.{w64}
use Rattle.ip_spec.specs.Path.{Bytes}
use Rattle.ip_spec.specs.declared.record.LeafEntry.{LeafEntry}
use Rattle.ip_spec.specs.declared.record.Parent.{Parent}
use Rattle.ip_spec.specs.declared.record.Branch.{Branch}
use Rattle.ip_spec.specs.declared.record.RecordFault.{RecordFault}
use Rattle.ip_spec.specs.Reading.{after, Fields, Left, ◌>>=◌, done, number_where, any, hash_field, text_field, is_name, entry_field, entry_fields, parent_fields, row_fields}
use Rattle.ip_object.specs.Body.{IsFault}
use Rattle.ip_object.specs.Lists.{led, last_step, last_name, parent_field, row_field}

abbrev pub consed : {X : Type 0} → X → Result (List X × Left) ℕ → Result (List X × Left) ℕ
consed x r = after (λ xs. done (x ∷ xs)) r

pub led_none : {X : Type 0} (r : Result (List X × Left) ℕ) → r ≡ led [] r
led_none (Ok read) = refl
led_none (Err at) = refl

pub led_more : {X : Type 0} (es : List X) (x : X) (r : Result (List X × Left) ℕ) → led es (consed x r) ≡ led (es ++ x ∷ []) r
led_more es x (Ok read) = ap (λ t. Ok (t, read.1)) (sym (append_assoc es (x ∷ []) read.0))
led_more es x (Err at) = refl

pub led_done : {X : Type 0} (es : List X) (left : Left) → led es (Ok ([], left)) ≡ Ok (es, left)
led_done es left = ap (λ t. Ok (t, left)) (append-nil es)

-- of a list of so many elements these are read, and the rest is read by `many`
abbrev pub IsAt : {X : Type 0} → (ℕ → List X → Fields (List X)) → ℕ → ℕ → List X → Left → Left → Type 0
IsAt many count i es old now = many count [] old ≡ led es (many (count - i) es now)

-- A list of n elements: behind es the next is read by `one es`, and n of them by `many n es`.
module _ {X : Type 0} (one : List X → Fields X) (many : ℕ → List X → Fields (List X))
    (none : (es : List X) (left : Left) → many zero es left ≡ Ok ([], left))
    (next : (n : ℕ) (es : List X) (left mid : Left) (x : X) → one es left ≡ Ok (x, mid) → many (suc n) es left ≡ consed x (many n (es ++ x ∷ []) mid))
    (fails : (n : ℕ) (es : List X) (left : Left) (at : ℕ) → one es left ≡ Err at → many (suc n) es left ≡ Err at) where
  pub at_first : (count : ℕ) (old : Left) → IsAt many count 0 [] old old
  at_first count old = let e : count ≡ count - 0 = omega arith in led_none (many count [] old) ∙ ap (λ n. led [] (many n [] old)) e

  one_less : (count i : ℕ) → i < count → count - i ≡ suc (count - (i + 1))
  one_less count i l = omega arith

  pub at_next : (count i : ℕ) (es : List X) (old now mid : Left) (x : X) → i < count → IsAt many count i es old now → one es now ≡ Ok (x, mid) → IsAt many count (i + 1) (es ++ x ∷ []) old mid
  at_next count i es old now mid x l is gives =
      is
      ∙ ap (λ n. led es (many n es now)) (one_less count i l)
      ∙ ap (led es) (next (count - (i + 1)) es now mid x gives)
      ∙ led_more es x (many (count - (i + 1)) (es ++ x ∷ []) mid)

  pub at_fault : (count i : ℕ) (es : List X) (old now : Left) (fault : RecordFault) → i < count → IsAt many count i es old now → IsFault fault (one es now) → IsFault fault (many count [] old)
  at_fault count i es old now (RecordFault.Form at) l is h = is ∙ ap (λ n. led es (many n es now)) (one_less count i l) ∙ ap (led es) (fails (count - (i + 1)) es now at h)
  at_fault count i es old now RecordFault.Memory l is h = tt
  at_fault count i es old now RecordFault.Short l is h = absurd h
  at_fault count i es old now (RecordFault.Kind kind) l is h = absurd h
  at_fault count i es old now RecordFault.Length l is h = absurd h

  pub at_last : (count : ℕ) (es : List X) (old now : Left) → IsAt many count count es old now → many count [] old ≡ Ok (es, now)
  at_last count es old now is =
      let e : count - count ≡ 0 = omega arith in
      is ∙ ap (λ n. led es (many n es now)) e ∙ ap (led es) (none es now) ∙ led_done es now

-- ---- entries

-- what stands last in a list with one element more
last-append : {X : Type 0} (es : List X) (e : X) → slice_get (es ++ e ∷ []) (length (es ++ e ∷ []) - 1) ≡ Some e
last-append es e =
    let n : length (es ++ e ∷ []) ≡ length es + 1 = length-append es (e ∷ []) in
    let k : length (es ++ e ∷ []) - 1 ≡ length es = omega (arith, n) in
    ap (slice_get (es ++ e ∷ [])) k ∙ slice_get_read (es ++ e ∷ []) (length (es ++ e ∷ [])) (length es) e refl (omega (arith, n)) (sym (get_or-append_seam es e [] e))

pub last_step-append : (es : List LeafEntry) (e : LeafEntry) → last_step (es ++ e ∷ []) ≡ Some e.step
last_step-append es e = ap (option_map (λ (e : LeafEntry). e.step)) (last-append es e)

abbrev pub entries_from : ℕ → List LeafEntry → Fields (List LeafEntry)
entries_from n es = entry_fields n (last_step es)

abbrev pub entry_behind : List LeafEntry → Fields LeafEntry
entry_behind es = entry_field (last_step es)

abbrev from_entry : ℕ → LeafEntry → Fields (List LeafEntry)
from_entry n e = entry_fields n (Some e.step) >>= λ es. done (e ∷ es)

pub entries_none : (es : List LeafEntry) (left : Left) → entries_from zero es left ≡ Ok ([], left)
unfolding entry_fields
entries_none es left = refl

pub entries_next : (n : ℕ) (es : List LeafEntry) (left mid : Left) (e : LeafEntry) → entry_behind es left ≡ Ok (e, mid) → entries_from (suc n) es left ≡ consed e (entries_from n (es ++ e ∷ []) mid)
unfolding entry_fields
entries_next n es left mid e gives = ap (after (from_entry n)) gives ∙ ap (λ s. consed e (entry_fields n s mid)) (sym (last_step-append es e))

pub entries_fail : (n : ℕ) (es : List LeafEntry) (left : Left) (at : ℕ) → entry_behind es left ≡ Err at → entries_from (suc n) es left ≡ Err at
unfolding entry_fields
entries_fail n es left at fails = ap (after (from_entry n)) fails

-- ---- parents

abbrev pub parents_from : ℕ → List Parent → Fields (List Parent)
parents_from n ps = parent_fields n

abbrev pub parent_behind : List Parent → Fields Parent
parent_behind ps = parent_field

-- ---- rows

pub last_name-append : (rows : List Branch) (row : Branch) → last_name (rows ++ row ∷ []) ≡ Some row.name
last_name-append rows row = ap (option_map (λ (row : Branch). row.name)) (last-append rows row)

abbrev pub rows_from : ℕ → List Branch → Fields (List Branch)
rows_from n rows = row_fields n (last_name rows)

abbrev pub row_behind : List Branch → Fields Branch
row_behind rows = row_field (last_name rows)

abbrev p_name : ℕ → ℕ → Fields (List Parent)
p_name n number = hash_field >>= λ name. parent_fields n >>= λ ps. done (record { number = number; name = name } ∷ ps)

abbrev r_number : ℕ → Bytes → Fields (List Branch)
r_number n name = number_where w64 any >>= λ number. row_fields n (Some name) >>= λ rows. done (record { name = name; number = number } ∷ rows)

pub parents_none : (ps : List Parent) (left : Left) → parents_from zero ps left ≡ Ok ([], left)
unfolding parent_fields
parents_none ps left = refl

parents_split : (n : ℕ) (ps : List Parent) (left : Left) → parents_from (suc n) ps left ≡ after (λ p. parent_fields n >>= λ qs. done (p ∷ qs)) (parent_behind ps left)
unfolding parent_fields
parents_split n ps left = by_number (number_where w64 any left)
  where
    by_name : (number : ℕ) (r : Result (Bytes × Left) ℕ) → after (λ name. parent_fields n >>= λ qs. done (record { number = number; name = name } ∷ qs)) r ≡ after (λ p. parent_fields n >>= λ qs. done (p ∷ qs)) (after (λ name. done (record { number = number; name = name })) r)
    by_name number (Ok read) = refl
    by_name number (Err at) = refl

    by_number : (r : Result (ℕ × Left) ℕ) → after (p_name n) r ≡ after (λ p. parent_fields n >>= λ qs. done (p ∷ qs)) (after (λ number. hash_field >>= λ name. done (record { number = number; name = name })) r)
    by_number (Ok read) = by_name read.0 (hash_field read.1)
    by_number (Err at) = refl

pub parents_next : (n : ℕ) (ps : List Parent) (left mid : Left) (p : Parent) → parent_behind ps left ≡ Ok (p, mid) → parents_from (suc n) ps left ≡ consed p (parents_from n (ps ++ p ∷ []) mid)
parents_next n ps left mid p gives = parents_split n ps left ∙ ap (after (λ p. parent_fields n >>= λ qs. done (p ∷ qs))) gives

pub parents_fail : (n : ℕ) (ps : List Parent) (left : Left) (at : ℕ) → parent_behind ps left ≡ Err at → parents_from (suc n) ps left ≡ Err at
parents_fail n ps left at fails = parents_split n ps left ∙ ap (after (λ p. parent_fields n >>= λ qs. done (p ∷ qs))) fails

pub rows_none : (rows : List Branch) (left : Left) → rows_from zero rows left ≡ Ok ([], left)
unfolding row_fields
rows_none rows left = refl

abbrev from_row : ℕ → Branch → Fields (List Branch)
from_row n row = row_fields n (Some row.name) >>= λ rows. done (row ∷ rows)

rows_split : (n : ℕ) (rows : List Branch) (left : Left) → rows_from (suc n) rows left ≡ after (from_row n) (row_behind rows left)
unfolding row_fields
rows_split n rows left = by_name (text_field is_name (last_name rows) left)
  where
    by_number : (name : Bytes) (r : Result (ℕ × Left) ℕ) → after (λ number. row_fields n (Some name) >>= λ rows. done (record { name = name; number = number } ∷ rows)) r ≡ after (from_row n) (after (λ number. done (record { name = name; number = number })) r)
    by_number name (Ok read) = refl
    by_number name (Err at) = refl

    by_name : (r : Result (Bytes × Left) ℕ) → after (r_number n) r ≡ after (from_row n) (after (λ name. number_where w64 any >>= λ number. done (record { name = name; number = number })) r)
    by_name (Ok read) = by_number read.0 (number_where w64 any read.1)
    by_name (Err at) = refl

pub rows_next : (n : ℕ) (rows : List Branch) (left mid : Left) (row : Branch) → row_behind rows left ≡ Ok (row, mid) → rows_from (suc n) rows left ≡ consed row (rows_from n (rows ++ row ∷ []) mid)
rows_next n rows left mid row gives = rows_split n rows left ∙ ap (after (from_row n)) gives ∙ ap (λ s. consed row (row_fields n s mid)) (sym (last_name-append rows row))

pub rows_fail : (n : ℕ) (rows : List Branch) (left : Left) (at : ℕ) → row_behind rows left ≡ Err at → rows_from (suc n) rows left ≡ Err at
rows_fail n rows left at fails = rows_split n rows left ∙ ap (after (from_row n)) fails
