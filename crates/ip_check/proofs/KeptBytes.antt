-- The bytes of kept records, in the space and in the prefix.
--     piece_at      a stretch is a piece of the prefix
--     same_read      what is read of it is that piece.      no_gap      none of its bytes is missing
use Rattle.std.proofs.Common.{◌≡◌, inl, inr, ℕ, ◌+◌, ◌<◌, List, [], ◌∷◌, ◌++◌, refl, sym, ap, subst, ◌∙◌, length, take, drop, map, get_or, arith, append_assoc, length-append}
use Rattle.std.specs.Prelude.{Option, Some, None}
use Rattle.std.specs.List.{take-map, drop-map}
use Rattle.std.proofs.Math.Seq.{take-append_seam, drop-append_seam}
use Rattle.std.proofs.lemmas.List.{take-append-drop, same_lists}
use Rattle.std.proofs.lemmas.List.Sums.{sum_by-cons}
use Rattle.std.proofs.lemmas.Option.{get_or_from_slice_get, slice_get-get_or}
use Rattle.ip_spec.specs.Path.{Bytes}
use Rattle.ip_spec.specs.Record.{spelling}
use Rattle.ip_spec.specs.TreeAt.{Records}
use Rattle.ip_spec.specs.declared.record.Record.{Record}
use Rattle.ip_image.specs.declared.run.Run.{Run}
use Rattle.ip_image.specs.Collection.{kept_bytes}
use Rattle.ip_image.specs.Virtual.{Stands, total}
use Rattle.ip_image.proofs.PairLaws.{Has}
use Rattle.ip_image.proofs.StayingRecords.{has_left, has_right}
use Rattle.ip_space.proofs.StoodBytes.{stands_both}
use Rattle.ip_keep.specs.Whole.{run_at}
use Rattle.ip_check.specs.declared.prefix.Stretch.{Stretch}
use Rattle.ip_check.specs.Alike.{IsPiece}
use Rattle.ip_check.specs.Stretching.{AreLinked, IsStretch}

-- ---- the bytes of several

linked_stand : (f : ℕ → Option ℕ) (at : ℕ) (mid : Records) → ((x : ℕ × Record) → Has mid x → Stands f x.0 (spelling x.1)) → AreLinked at (map run_at mid) → Stands f at (kept_bytes mid)
linked_stand f at [] each l = λ k below. absurd (omega (arith, below))
linked_stand f at (x ∷ mid) each (here, l) =
    stands_both f at (spelling x.1) (kept_bytes mid) (subst (λ (n : ℕ). Stands f n (spelling x.1)) here (each x (inl refl)))
    (linked_stand f (at + length (spelling x.1)) mid (λ y h. each y (inr h)) l)

pub bytes_total : (xs : Records) → total (map run_at xs) ≡ length (kept_bytes xs)
bytes_total [] = refl
bytes_total (x ∷ xs) =
    sum_by-cons (λ (r : Run). r.length) (run_at x) (map run_at xs) ∙ ap (λ (n : ℕ). length (spelling x.1) + n) (bytes_total xs) ∙ sym (length-append (spelling x.1) (kept_bytes xs))

bytes_append : (xs ys : Records) → kept_bytes (xs ++ ys) ≡ kept_bytes xs ++ kept_bytes ys
bytes_append [] ys = refl
bytes_append (x ∷ xs) ys = ap (λ (l : Bytes). spelling x.1 ++ l) (bytes_append xs ys) ∙ sym (append_assoc (spelling x.1) (kept_bytes xs) (kept_bytes ys))

piece_of : (front mid back : Bytes) → IsPiece (front ++ (mid ++ back)) (length front) mid
piece_of front mid back = record {
  inside = let one = length-append front (mid ++ back) in let two = length-append mid back in omega (arith, one, two);
  here = ap (take (length mid)) (drop-append_seam front (mid ++ back)) ∙ take-append_seam mid back;
}

has_taken : (n : ℕ) (xs : Records) (x : ℕ × Record) → Has (take n xs) x → Has xs x
has_taken n xs x h = subst (λ (l : Records). Has l x) (take-append-drop n xs) (has_left (take n xs) (drop n xs) x h)

has_dropped : (n : ℕ) (xs : Records) (x : ℕ × Record) → Has (drop n xs) x → Has xs x
has_dropped n xs x h = subst (λ (l : Records). Has l x) (take-append-drop n xs) (has_right (take n xs) (drop n xs) x h)

piece_there : (kept : Records) (c n : ℕ) → IsPiece (kept_bytes kept) (total (take c (map run_at kept))) (kept_bytes (take n (drop c kept)))
piece_there kept c n = subst (λ (w : Bytes). IsPiece w (total (take c (map run_at kept))) mid) (sym parts) (subst (λ (p : ℕ). IsPiece (front ++ (mid ++ back)) p mid) (sym place) (piece_of front mid back))
  where
    front : Bytes
    front = kept_bytes (take c kept)

    mid : Bytes
    mid = kept_bytes (take n (drop c kept))

    back : Bytes
    back = kept_bytes (drop n (drop c kept))

    parts : kept_bytes kept ≡ front ++ (mid ++ back)
    parts =
        ap kept_bytes (sym (take-append-drop c kept)) ∙ bytes_append (take c kept) (drop c kept)
        ∙ ap (λ (l : Bytes). front ++ l) (ap kept_bytes (sym (take-append-drop n (drop c kept))) ∙ bytes_append (take n (drop c kept)) (drop n (drop c kept)))

    place : total (take c (map run_at kept)) ≡ length front
    place = ap total (take-map run_at c kept) ∙ bytes_total (take c kept)

pub record Piece (f : ℕ → Option ℕ) (whole : Bytes) (place : ℕ) (s : Stretch) : Type 0 where
  pub bytes : Bytes
  pub long : length bytes ≡ s.length
  pub stands : Stands f s.at bytes
  pub piece : IsPiece whole place bytes

piece_so : (f : ℕ → Option ℕ) (kept : Records) (c most : ℕ) (s : Stretch) → ((x : ℕ × Record) → Has kept x → Stands f x.0 (spelling x.1))
    → IsStretch (drop c (map run_at kept)) most s → Piece f (kept_bytes kept) (total (take c (map run_at kept))) s
piece_so f kept c most s each st = record {
  bytes = kept_bytes mid;
  long = sym (bytes_total mid) ∙ ap total (sym same) ∙ sym st.length;
  stands = linked_stand f s.at mid (λ x h. each x (has_dropped c kept x (has_taken s.records (drop c kept) x h))) (subst (AreLinked s.at) same st.linked);
  piece = piece_there kept c s.records;
}
  where
    mid : Records
    mid = take s.records (drop c kept)

    same : take s.records (drop c (map run_at kept)) ≡ map run_at mid
    same = ap (take s.records) (drop-map run_at c kept) ∙ take-map run_at s.records (drop c kept)

pub piece_at : (f : ℕ → Option ℕ) (kept : Records) (runs : List Run) (c most place : ℕ) (s : Stretch) → ((x : ℕ × Record) → Has kept x → Stands f x.0 (spelling x.1))
    → runs ≡ map run_at kept → place ≡ total (take c runs) → IsStretch (drop c runs) most s → Piece f (kept_bytes kept) place s
piece_at f kept runs c most place s each is here st =
    subst (λ (p : ℕ). Piece f (kept_bytes kept) p s) (sym (here ∙ ap (λ (l : List Run). total (take c l)) is))
    (piece_so f kept c most s each (subst (λ (l : List Run). IsStretch (drop c l) most s) is st))

-- ---- what is read

pub no_gap : (f : ℕ → Option ℕ) (at : ℕ) (bytes : Bytes) (n : ℕ) → Stands f at bytes → n < length bytes → f (at + n) ≡ None → ⊥
no_gap f at bytes n stands l gap = let here : Some (get_or bytes n 0) ≡ None = sym (slice_get-get_or bytes n 0 l) ∙ sym (stands n l) ∙ gap in cc

pub same_read : (f : ℕ → Option ℕ) (at : ℕ) (xs ys : Bytes) → length xs ≡ length ys → Stands f at xs → Stands f at ys → xs ≡ ys
same_read f at xs ys long one two =
    same_lists xs ys long (λ k d l. get_or_from_slice_get xs k (get_or ys k d) d (sym (one k l) ∙ two k (omega (arith, l, long)) ∙ slice_get-get_or ys k d (omega (arith, l, long))))
