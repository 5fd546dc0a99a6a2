-- What comparing a part comes to.
--     part_alike, part_differs      no byte of it differs, or the first one that does.      ends_there, ends_longer, ends_absent      what stands behind all bytes
--     some_size, no_size      whether there is a file
use Rattle.std.proofs.Common.{◌≡◌, ◌⊎◌, inl, inr, ℕ, ◌+◌, ◌-◌, ◌<◌, ◌≤◌, length, take, drop, get_or, refl, sym, ap, ◌∙◌, arith, Bool, true, false, cond, length-drop}
use Rattle.std.specs.Prelude.{Option, Some, None, min, option_map}
use Rattle.std.specs.Ordering.{is_eq}
use Rattle.std.proofs.lemmas.Bool.{cases_lt}
use Rattle.std.proofs.lemmas.List.{take_all, get_or-take, get_or-drop, length-take-le}
use Rattle.std.proofs.lemmas.Option.{slice_get_past, slice_get-get_or}
use Rattle.ip_ground.specs.Contents.{bytes_of, size_of}
use Rattle.ip_spec.specs.declared.reply.Produced.{Produced}
use Rattle.ip_spec.specs.declared.reply.Seen.{Seen}
use Rattle.ip_spec.specs.declared.reply.Difference.{Difference}
use Rattle.ip_spec.specs.Path.{Bytes, same_bytes}
use Rattle.ip_spec.proofs.Subtrees.{same_step, step_itself}
use Rattle.ip_image.specs.Collection.{seen_at, common_length, difference}
use Rattle.ip_check.specs.Alike.{IsAlike, IsSoFar, IsPiece, ends}
use Rattle.ip_check.proofs.AlikeBytes.{common_behind, common_taken, common_front, common_itself, common_most, taken_least}

abbrev place_of : Produced → Bytes → Bytes → ℕ → Option Difference
place_of file want got at = Some (record { file = file; at = at; want = seen_at want at; got = seen_at got at })

-- where they are alike up to a place at which one of them goes on
pub differs_at : (file : Produced) (want got : Bytes) (at : ℕ) → common_length want got ≡ at → (at < length want) ⊎ (at < length got) → difference file want (Some got) ≡ place_of file want got at
differs_at file want got at common more = by (same_bytes want got) refl
  where
    by : (b : Bool) → same_bytes want got ≡ b → difference file want (Some got) ≡ place_of file want got at
    by true same =
        let one : want ≡ got = same_step want got same in
        let whole : common_length want got ≡ length want = ap (common_length want) (sym one) ∙ common_itself want in
        let long = ap length one in
        absurd (elim more [ inl a ↦ omega (arith, common, whole, a) | inr b ↦ omega (arith, common, whole, long, b) ])
    by false other = ap (λ (b : Bool). cond {A = Option Difference} b None (place_of file want got (common_length want got))) other ∙ ap (place_of file want got) common

pub differs_nowhere : (file : Produced) (want got : Bytes) → got ≡ want → difference file want (Some got) ≡ None
differs_nowhere file want got one =
    ap (λ (g : Bytes). difference file want (Some g)) one
    ∙ ap (λ (b : Bool). cond {A = Option Difference} b None (place_of file want want (common_length want want))) (ap is_eq (step_itself want))

seen_byte : (bytes : Bytes) (at b : ℕ) → at < length bytes → get_or bytes at 0 ≡ b → seen_at bytes at ≡ Seen.Byte b
seen_byte bytes at b l is = ap (λ (o : Option ℕ). elim o [ None ↦ Seen.End | Some x ↦ Seen.Byte x ]) (slice_get-get_or bytes at 0 l) ∙ ap Seen.Byte is

seen_end : (bytes : Bytes) (at : ℕ) → length bytes ≤ at → seen_at bytes at ≡ Seen.End
seen_end bytes at l = ap (λ (o : Option ℕ). elim o [ None ↦ Seen.End | Some x ↦ Seen.Byte x ]) (slice_get_past bytes at l)

get_part : (k place : ℕ) (bytes : Bytes) (i : ℕ) → i < k → get_or (take k (drop place bytes)) i 0 ≡ get_or bytes (place + i) 0
get_part k place bytes i l = get_or-take k (drop place bytes) i 0 l ∙ get_or-drop place bytes i 0

module _ (file : Produced) (whole : Bytes) (place : ℕ) (want found : Bytes) (n : ℕ) (some : 0 < length want) (piece : IsPiece whole place want) where
  inside : place + length want ≤ length whole
  inside = piece.inside

  module _ (got : Bytes) (so_far : IsAlike whole got place) (count : n ≡ min (length want) (length got - place)) (bytes : found ≡ take n (drop place got)) where
    part : found ≡ take (length want) (drop place got)
    part =
        let size : n ≡ min (length want) (length (drop place got)) = let l = length-drop place got in omega (arith, count, l) in
        bytes ∙ ap (λ (k : ℕ). take k (drop place got)) size ∙ taken_least (length want) (drop place got)

    common_part : common_length want found ≡ min (length want) (common_length (drop place whole) (drop place got))
    common_part = (λ i. common_length (sym piece.here i) (part i)) ∙ common_taken (length want) (drop place whole) (drop place got)

    common_whole : common_length whole got ≡ place + common_length (drop place whole) (drop place got)
    common_whole = common_behind whole got place so_far.wanted so_far.found so_far.same

    pub alike_on : common_length want found ≡ length want → IsAlike whole got (place + length want)
    alike_on all = let p = common_part in let w = common_whole in common_front whole got (place + length want) (omega (arith, all, p, w))

    pub differs_here : (i : ℕ) → i < length want → common_length want found ≡ i → (seen : Seen) → (i < length found → seen ≡ Seen.Byte (get_or found i 0)) → (length found ≤ i → seen ≡ Seen.End)
        → difference file whole (Some got) ≡ Some (record { file = file; at = place + i; want = Seen.Byte (get_or want i 0); got = seen })
    differs_here i low common seen within behind =
        let p = common_part in
        let w = common_whole in
        let at : common_length whole got ≡ place + i = omega (arith, common, p, w, low) in
        let l = inside in
        differs_at file whole got (place + i) at (inl (omega (arith, low, l)))
        ∙ (λ j. Some (record { file = file; at = place + i; want = wanted j; got = there (cases_lt i n) j }))
      where
        wanted : seen_at whole (place + i) ≡ Seen.Byte (get_or want i 0)
        wanted =
            let l = inside in
            seen_byte whole (place + i) (get_or want i 0) (omega (arith, low, l)) (sym (get_part (length want) place whole i low) ∙ ap (λ (b : Bytes). get_or b i 0) piece.here)

        size : length found ≡ n
        size = ap length bytes ∙ length-take-le n (drop place got) (let l = length-drop place got in omega (arith, count, l))

        there : (i < n) ⊎ (n ≤ i) → seen_at got (place + i) ≡ seen
        there (inl less) =
            let long : place + i < length got = omega (arith, less, count) in
            let s = size in
            seen_byte got (place + i) (get_or found i 0) long (sym (get_part n place got i less) ∙ ap (λ (b : Bytes). get_or b i 0) (sym bytes)) ∙ sym (within (omega (arith, less, s)))
        there (inr past) =
            let s = size in
            seen_end got (place + i) (omega (arith, past, count, low)) ∙ sym (behind (omega (arith, past, s)))

  module _ (held : Option Bytes) (so_far : IsSoFar whole held place) (count : n ≡ min (length want) (size_of held - place)) (bytes : found ≡ take n (drop place (bytes_of held))) where
    pub part_alike : common_length want found ≡ length want → IsSoFar whole held (place + length want)
    part_alike all = by held so_far count bytes
      where
        by : (h : Option Bytes) → IsSoFar whole h place → n ≡ min (length want) (size_of h - place) → found ≡ take n (drop place (bytes_of h)) → IsSoFar whole h (place + length want)
        by None first c b =
            let most = common_most found want in
            let f : length found ≡ 0 = ap length b ∙ ap (λ (k : ℕ). length (take k (drop place (bytes_of None)))) (let z : n ≡ 0 = omega (arith, c) in z) in
            let few = (common_front want found (common_length want found) (omega arith)).found in
            absurd (omega (arith, all, f, few, some))
        by (Some got) first c b = alike_on got first c b all

    pub part_differs : (i : ℕ) → i < length want → common_length want found ≡ i → (seen : Seen) → (i < length found → seen ≡ Seen.Byte (get_or found i 0)) → (length found ≤ i → 0 < place + i → seen ≡ Seen.End)
        → (length found ≤ i → place + i ≡ 0 → seen ≡ ends held) → difference file whole held ≡ Some (record { file = file; at = place + i; want = Seen.Byte (get_or want i 0); got = seen })
    part_differs i low common seen within behind front = by held so_far count bytes front
      where
        by : (h : Option Bytes) → IsSoFar whole h place → n ≡ min (length want) (size_of h - place) → found ≡ take n (drop place (bytes_of h)) → (length found ≤ i → place + i ≡ 0 → seen ≡ ends h)
            → difference file whole h ≡ Some (record { file = file; at = place + i; want = Seen.Byte (get_or want i 0); got = seen })
        by None first c b front =
            let f : length found ≡ 0 = ap length b ∙ ap (λ (k : ℕ). length (take k (drop place (bytes_of None)))) (let z : n ≡ 0 = omega (arith, c) in z) in
            let few = (common_front want found (common_length want found) (omega arith)).found in
            let none : i ≡ 0 = omega (arith, common, f, few) in
            let at : place + i ≡ 0 = omega (arith, none, first) in
            let l = inside in
            let wanted : seen_at whole 0 ≡ Seen.Byte (get_or want i 0) =
            seen_byte whole 0 (get_or want i 0) (omega (arith, some, l)) (ap (λ (k : ℕ). get_or whole k 0) (sym at) ∙ sym (get_part (length want) place whole i low) ∙ ap (λ (bs : Bytes). get_or bs i 0) piece.here) in
            λ j. Some (record { file = file; at = sym at j; want = wanted j; got = sym (front (omega (arith, f)) at) j })
        by (Some got) first c b front = differs_here got first c b i low common seen within (λ past. ended past (cases_lt 0 (place + i)))
          where
            ended : length found ≤ i → (0 < place + i) ⊎ (place + i ≤ 0) → seen ≡ Seen.End
            ended past (inl some) = behind past some
            ended past (inr none) = front past (omega (arith, none))

-- ---- whether there is a file

pub some_size : (held now : Option Bytes) (size : Option ℕ) (n : ℕ) → now ≡ held → size ≡ option_map length now → size ≡ Some n → Seen.End ≡ ends held
some_size None now size n same is some = absurd (cc (sym some ∙ is ∙ ap (option_map length) same))
some_size (Some bytes) now size n same is some = refl

pub no_size : (held now : Option Bytes) (size : Option ℕ) → now ≡ held → size ≡ option_map length now → size ≡ None → Seen.Absent ≡ ends held
no_size None now size same is none = refl
no_size (Some bytes) now size same is none = absurd (cc (sym none ∙ is ∙ ap (option_map length) same))

-- ---- behind all bytes

module _ (file : Produced) (whole : Bytes) (place : ℕ) (all : length whole ≡ place) (n : ℕ) (found : Bytes) where
  pub ends_longer : (held : Option Bytes) → IsSoFar whole held place → n ≡ min 1 (size_of held - place) → take n found ≡ take n (drop place (bytes_of held)) → 0 < n
      → Some (record { file = file; at = place; want = Seen.End; got = Seen.Byte (get_or found 0 0) }) ≡ difference file whole held
  ends_longer None first count bytes some = absurd (omega (arith, count, some))
  ends_longer (Some got) first count bytes some =
      let one : n ≡ 1 = omega (arith, count, some) in
      let long : place < length got = omega (arith, count, some) in
      let common : common_length whole got ≡ place =
      (let c = common_behind whole got place first.wanted first.found first.same in let m = common_most (drop place whole) (drop place got) in let l = length-drop place whole in omega (arith, c, m, l, all)) in
      let same : get_or got (place + 0) 0 ≡ get_or found 0 0 = sym (get_part n place got 0 some) ∙ ap (λ (bs : Bytes). get_or bs 0 0) (sym bytes) ∙ get_or-take n found 0 0 some in
      let there : get_or got place 0 ≡ get_or found 0 0 = ap (λ (k : ℕ). get_or got k 0) (let e : place ≡ place + 0 = omega arith in e) ∙ same in
      (λ j. Some (record { file = file; at = place; want = sym (seen_end whole place (omega (arith, all))) j; got = sym (seen_byte got place (get_or found 0 0) long there) j }))
      ∙ sym (differs_at file whole got place common (inr long))

  pub ends_there : (held now : Option Bytes) (size : Option ℕ) (k : ℕ) → IsSoFar whole held place → n ≡ min 1 (size_of held - place) → (0 < n → ⊥) → now ≡ held → size ≡ option_map length now → size ≡ Some k → None ≡ difference file whole held
  ends_there None now size k first count none same is some = absurd (cc (sym some ∙ is ∙ ap (option_map length) same))
  ends_there (Some got) now size k first count none same is some =
      let low : n ≡ 0 = elim (cases_lt 0 n) [ inl some ↦ absurd (none some) | inr few ↦ omega (arith, few) ] in
      let f = first.found in
      let long : length got ≡ place = omega (arith, low, count, f) in
      sym (differs_nowhere file whole got (sym (take_all place got (omega (arith, long))) ∙ first.same ∙ take_all place whole (omega (arith, all))))

  pub ends_absent : (held now : Option Bytes) (size : Option ℕ) → IsSoFar whole held place → now ≡ held → size ≡ option_map length now → size ≡ None
      → Some (record { file = file; at = 0; want = Seen.End; got = Seen.Absent }) ≡ difference file whole held
  ends_absent None now size first same is none = λ j. Some (record { file = file; at = 0; want = sym (seen_end whole 0 (omega (arith, all, first))) j; got = Seen.Absent })
  ends_absent (Some got) now size first same is none = absurd (cc (sym none ∙ is ∙ ap (option_map length) same))
