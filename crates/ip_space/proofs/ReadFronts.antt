-- What the front of some bytes is read as.
--     reading_enough      a front that has the whole record is read as all of them
--     ok_enough      bytes that are read as a record have it whole.      read_as      so are bytes that are enough
use Rattle.std.proofs.Common.{◌≡◌, inl, inr, ℕ, suc, ◌+◌, ◌-◌, ◌≤◌, [], ◌∷◌, ◌++◌, length, take, drop, refl, sym, ◌∙◌, ap, subst, arith, Bool, true, false, length-append, length-drop}
use Rattle.std.specs.Prelude.{Option, Result, Ok, Err, not, ◌&&◌, ◌==◌, nat_lt, if◌then◌else◌}
use Rattle.std.specs.Int.{w32, from_le_bytes}
use Rattle.std.proofs.lemmas.Bool.{le-ltb, ltb-false}
use Rattle.std.proofs.lemmas.List.{take-append-le, drop-append-le}
use Rattle.ip_spec.specs.declared.record.Record.{Record}
use Rattle.ip_spec.specs.declared.record.RecordFault.{RecordFault}
use Rattle.ip_spec.specs.Path.{Bytes}
use Rattle.ip_spec.specs.Record.{contents_limit}
use Rattle.ip_spec.specs.Reading.{reading, known, body_of, fields_of}
use Rattle.ip_image.specs.Slot.{newest_version}
use Rattle.ip_image.specs.Stored.{bytes_from}
use Rattle.ip_space.specs.Head.{needed}
use Rattle.ip_space.specs.Ahead.{Shows, IsEnough}
use Rattle.ip_space.proofs.StoodBytes.{front_from, all_from}

abbrev Read : Type 0
Read = Result (Record × ℕ) RecordFault

-- the tests of a record, one after another
abbrev tested : Bool → Bool → Bool → Bool → ℕ → Read → Read
tested unknown no_head long short kind body =
    if unknown then Err (RecordFault.Kind kind) else
    if no_head then Err RecordFault.Short else
    if long then Err RecordFault.Length else
    if short then Err RecordFault.Short else body

-- and of how many bytes it has
abbrev counted : Bool → Bool → Bool → ℕ → ℕ
counted unknown no_head long n = if unknown then 0 else if no_head then 0 else if long then 0 else n

same_tests : (unknown no_head also_none long short also_short : Bool) (kind : ℕ) (body other : Read) → no_head ≡ false → also_none ≡ false
    → (unknown ≡ false → long ≡ false → (short ≡ false) × (also_short ≡ false) × (other ≡ body))
    → tested unknown also_none long also_short kind other ≡ tested unknown no_head long short kind body
same_tests true no_head also_none long short also_short kind body other one two enough = refl
same_tests false no_head also_none true short also_short kind body other one two enough =
    ap (λ (b : Bool). if b then Err RecordFault.Short else Err RecordFault.Length) two ∙ ap (λ (b : Bool). if b then Err RecordFault.Short else Err RecordFault.Length) (sym one)
same_tests false no_head also_none false short also_short kind body other one two enough =
    let e = enough refl refl in
    ap (λ (b : Bool). if b then Err RecordFault.Short else if also_short then Err RecordFault.Short else other) two
    ∙ ap (λ (b : Bool). if b then Err RecordFault.Short else other) e.1
    ∙ e.2
    ∙ sym (ap (λ (b : Bool). if b then Err RecordFault.Short else body) e.0)
    ∙ sym (ap (λ (b : Bool). if b then Err RecordFault.Short else if short then Err RecordFault.Short else body) one)

-- how many are needed where no test fails
counted_all : (unknown no_head long : Bool) (n : ℕ) → no_head ≡ false → unknown ≡ false → long ≡ false → counted unknown no_head long n ≡ n
counted_all unknown no_head long n one two three =
    ap (λ (b : Bool). counted b no_head long n) two ∙ ap (λ (b : Bool). counted false b long n) one ∙ ap (λ (b : Bool). counted false false b n) three

not_less : (a b : ℕ) → b ≤ a → nat_lt a b ≡ false
not_less a b le = le-ltb a b le

pub record Passes (unknown no_head long short : Bool) : Type 0 where
  pub known : unknown ≡ false
  pub head : no_head ≡ false
  pub fits : long ≡ false
  pub whole : short ≡ false

passes : (unknown no_head long short : Bool) (kind : ℕ) (body : Read) (x : Record × ℕ) → tested unknown no_head long short kind body ≡ Ok x → Passes unknown no_head long short
passes true no_head long short kind body x is = absurd (cc (is))
passes false true long short kind body x is = absurd (cc (is))
passes false false true short kind body x is = absurd (cc (is))
passes false false false true kind body x is = absurd (cc (is))
passes false false false false kind body x is = record { known = refl; head = refl; fits = refl; whole = refl }

-- bytes that are read have the whole record
pub ok_enough : (bytes : Bytes) (x : Record × ℕ) → reading newest_version bytes ≡ Ok x → (5 ≤ length bytes) × (needed bytes ≤ length bytes)
unfolding reading needed
ok_enough [] x is = absurd (cc (is))
ok_enough (kind ∷ bs) x is =
    let len : ℕ = from_le_bytes w32 (take 4 bs) in
    let unknown : Bool = not (known newest_version kind) in
    let long : Bool = kind == 1 && nat_lt (contents_limit newest_version) len in
    let p = passes unknown (nat_lt (length bs) 4) long (nat_lt (length bs) (4 + len)) kind (body_of kind (take len (drop 4 bs)) (fields_of kind)) x is in
    let four : 4 ≤ length bs = ltb-false (length bs) 4 p.head in
    let all : 4 + len ≤ length bs = ltb-false (length bs) (4 + len) p.whole in
    let count = counted_all unknown (nat_lt (length bs) 4) long (5 + len) p.head p.known p.fits in (
      omega (arith, four),
      omega (arith, count, all),
    )

pub reading_enough : (bytes rest : Bytes) → 5 ≤ length bytes → needed bytes ≤ length bytes → reading newest_version (bytes ++ rest) ≡ reading newest_version bytes
unfolding reading needed
reading_enough [] rest five whole = absurd (omega (arith, five))
reading_enough (kind ∷ bs) rest five whole =
    let size : length (bs ++ rest) ≡ length bs + length rest = length-append bs rest in
    let four : 4 ≤ length bs = omega (arith, five) in
    let head : take 4 (bs ++ rest) ≡ take 4 bs = take-append-le 4 bs rest four in
    let len : ℕ = from_le_bytes w32 (take 4 bs) in
    let unknown : Bool = not (known newest_version kind) in
    let long : Bool = kind == 1 && nat_lt (contents_limit newest_version) len in
    let body : Bytes → Read = λ b. body_of kind b (fields_of kind) in
    ap (λ (h : Bytes).
    tested unknown (nat_lt (length (bs ++ rest)) 4) (kind == 1 && nat_lt (contents_limit newest_version) (from_le_bytes w32 h))
    (nat_lt (length (bs ++ rest)) (4 + from_le_bytes w32 h)) kind (body (take (from_le_bytes w32 h) (drop 4 (bs ++ rest))))) head
    ∙ same_tests unknown (nat_lt (length bs) 4) (nat_lt (length (bs ++ rest)) 4) long (nat_lt (length bs) (4 + len)) (nat_lt (length (bs ++ rest)) (4 + len)) kind
    (body (take len (drop 4 bs))) (body (take len (drop 4 (bs ++ rest))))
    (not_less (length bs) 4 four) (not_less (length (bs ++ rest)) 4 (omega (arith, size, four)))
    (λ is_known short.
    let all : 5 + len ≤ suc (length bs) = subst (λ (n : ℕ). n ≤ suc (length bs)) (counted_all unknown (nat_lt (length bs) 4) long (5 + len) (not_less (length bs) 4 four) is_known short) whole in
    let left = length-drop 4 bs in (
      not_less (length bs) (4 + len) (omega (arith, all)),
      not_less (length (bs ++ rest)) (4 + len) (omega (arith, all, size)),
      ap body (ap (take len) (drop-append-le 4 bs rest four) ∙ take-append-le len (drop 4 bs) rest (omega (arith, all, left))),
    ))

pub read_as : (f : ℕ → Option ℕ) (end at : ℕ) (bytes : Bytes) → Shows f end at bytes → IsEnough f end at bytes
    → reading newest_version (bytes_from f at (end - at)) ≡ reading newest_version bytes
read_as f end at bytes shows (inl (five, whole)) =
    let front = front_from f bytes at (end - at) shows.stands shows.inside in
    ap (reading newest_version) front.1 ∙ reading_enough bytes front.0 five whole
read_as f end at bytes shows (inr up) = ap (reading newest_version) (all_from f bytes at (end - at) shows.stands shows.inside up)

-- one that needs as many bytes has the same first five
pub needed_more : (bytes rest : Bytes) → 5 ≤ length bytes → needed (bytes ++ rest) ≡ needed bytes
unfolding needed
needed_more [] rest five = absurd (omega (arith, five))
needed_more (kind ∷ bs) rest five =
    let size : length (bs ++ rest) ≡ length bs + length rest = length-append bs rest in
    let four : 4 ≤ length bs = omega (arith, five) in
    let len : ℕ = from_le_bytes w32 (take 4 bs) in
    ap (λ (h : Bytes).
    counted (not (known newest_version kind)) (nat_lt (length (bs ++ rest)) 4) (kind == 1 && nat_lt (contents_limit newest_version) (from_le_bytes w32 h)) (5 + from_le_bytes w32 h)) (take-append-le 4 bs rest four)
    ∙ ap (λ (b : Bool). counted (not (known newest_version kind)) b (kind == 1 && nat_lt (contents_limit newest_version) len) (5 + len))
    (not_less (length (bs ++ rest)) 4 (omega (arith, size, four)) ∙ sym (not_less (length bs) 4 four))
