-- The entries of a part of a directory: in order, at the places that lead to the part, and no more of them than a directory may have.
--     ArePart depth es      they are those of a part at this depth, and no directory under them is wider
--     of_directory      the entries of a directory are
--     of_children      and those of each child of an inode
--     is_some_part      the record of a part that has them is a part of some directory
--     part_of_good      each leaf and inode among good records is one
--     few_entries      a record that is one has few entries, whatever part it is
use Rattle.std.proofs.Common.{◌≡◌, ◌⊎◌, inl, inr, ℕ, zero, suc, ◌<◌, ◌≤◌, List, [], ◌∷◌, ◌++◌, refl, sym, ap, subst, ◌∙◌, Option, Some, Bool, true, false, cond, T, length, get_or, arith, append_assoc, eqb→eq}
use Rattle.std.proofs.lemmas.Bool.{false≢true, cases_lt}
use Rattle.std.proofs.lemmas.List.Elements.{All-filter, All-map, All-from_recursion, recursion_from_All}
use Rattle.std.proofs.lemmas.List.Sums.{length-filter, count_by-le-length}
use Rattle.std.specs.Prelude.{All, ◌==◌, filter, map, is_some, nat_lt, slice_get}
use Rattle.std.specs.List.{AllByRecursion, range_with_len}
use Rattle.std.specs.Ordering.{nat_cmp, eq_by_cmp}
use Rattle.std.specs.FinMap.{nat_cmp-IsAntisymmetric}
use Rattle.std.specs.FinMap.Entries.{is_sorted-where_key}
use Rattle.ip_spec.specs.declared.record.Record.{Record}
use Rattle.ip_spec.specs.Path.{Step, bytes_cmp}
use Rattle.ip_spec.specs.Step.{entries_limit}
use Rattle.ip_spec.specs.Tree.{Tree, entries_of}
use Rattle.ip_spec.specs.Shape.{Entries, place, at_place, children_of}
use Rattle.ip_spec.specs.Record.{reference_kind}
use Rattle.ip_spec.specs.TreeAt.{Records, present, PartAt}
use Rattle.ip_spec.proofs.TreeAtLaws.{more_part}
use Rattle.ip_spec.proofs.Unique.{Ordered, one_part}
use Rattle.ip_spec.proofs.Widths.{NoneWider, root_none_wider, entries_none_wider}
use Rattle.ip_image.specs.Slot.{Slot}
use Rattle.ip_image.specs.Standing.{Terms, AreTogether, IsSomePart, RecordFits, AreGood, terms_of}
use Rattle.ip_image.proofs.InChunk.{eq_of}
use Rattle.ip_image.proofs.SpelledCommits.{present_front}

pub record ArePart (depth : ℕ) (es : Entries) : Type 0 where
  pub ordered : Ordered es
  pub together : AreTogether depth es
  pub few : length es ≤ entries_limit
  pub narrow : All (λ (e : Step × Tree). NoneWider entries_limit e.1) es

pub of_directory : (sub : Tree) → NoneWider entries_limit sub → ArePart 0 (entries_of sub).entries
of_directory sub narrow = record {
  ordered = (entries_of sub).sorted;
  together = λ d l. absurd (omega (arith, l));
  few = root_none_wider entries_limit sub narrow;
  narrow = All-from_recursion (λ (e : Step × Tree). NoneWider entries_limit e.1) (entries_of sub).entries (entries_none_wider entries_limit sub narrow);
}

-- ---- the children of an inode

-- what passes a test stands in the whole list too
passed : {A : Type 0} (p : A → Bool) (xs : List A) (j : ℕ) (x : A) → slice_get (filter p xs) j ≡ Some x → (p x ≡ true) × ((k : ℕ) × (slice_get xs k ≡ Some x))
passed p [] j x is = absurd (false≢true (ap is_some is))
passed p (y ∷ xs) j x is = by (p y) refl j is (λ (i : ℕ). passed p xs i x)
  where
    by : (b : Bool) → p y ≡ b → (j : ℕ) → slice_get (cond b (y ∷ filter p xs) (filter p xs)) j ≡ Some x → ((i : ℕ) → slice_get (filter p xs) i ≡ Some x → (p x ≡ true) × ((k : ℕ) × (slice_get xs k ≡ Some x)))
        → (p x ≡ true) × ((k : ℕ) × (slice_get (y ∷ xs) k ≡ Some x))
    by true e zero is later = let same : y ≡ x = cc (is) in (ap p (sym same) ∙ e, (0, is))
    by true e (suc i) is later = let deep = later i is in (deep.0, (suc deep.1.0, deep.1.1))
    by false e i is later = let deep = later i is in (deep.0, (suc deep.1.0, deep.1.1))

equal : (m n : ℕ) → (m == n) ≡ true → m ≡ n
equal m n e = eqb→eq m n (subst T (sym e) tt)

-- at this depth, or at one above it
above_or_at : (d depth : ℕ) → d < suc depth → (d < depth) ⊎ (d ≡ depth)
above_or_at d depth l = elim (cases_lt d depth) [ inl under ↦ inl under | inr over ↦ inr (omega (arith, l, over)) ]

abbrev is_at : ℕ → ℕ → Step × Tree → Bool
is_at depth i e = place e.0 depth == i

abbrev IsAt : ℕ → ℕ → Entries → Step × Tree → Type 0
IsAt depth i es x = (is_at depth i x ≡ true) × ((k : ℕ) × (slice_get es k ≡ Some x))

same_place : (depth i : ℕ) (es : Entries) → AreTogether depth es → (d : ℕ) (x y : Step × Tree) → IsAt depth i es x → IsAt depth i es y → (d < depth) ⊎ (d ≡ depth) → place x.0 d ≡ place y.0 d
same_place depth i es together d x y (p, (j, at_j)) (q, (k, at_k)) (inl l) = together d l x y j k at_j at_k
same_place depth i es together d x y (p, (j, at_j)) (q, (k, at_k)) (inr is) =
    subst (λ (n : ℕ). place x.0 n ≡ place y.0 n) (sym is) (equal (place x.0 depth) i p ∙ sym (equal (place y.0 depth) i q))

of_child : (depth i : ℕ) (es : Entries) → ArePart depth es → ArePart (suc depth) (at_place depth i es)
unfolding at_place
of_child depth i es are = record {
  ordered = is_sorted-where_key bytes_cmp (λ s. place s depth == i) es are.ordered;
  together = λ d l x y j k at_j at_k. same_place depth i es are.together d x y (passed (is_at depth i) es j x at_j) (passed (is_at depth i) es k y at_k) (above_or_at d depth l);
  few = (let most = count_by-le-length (is_at depth i) es in let same = length-filter (is_at depth i) es in let few = are.few in omega (arith, most, same, few));
  narrow = All-filter (is_at depth i) (λ (e : Step × Tree). NoneWider entries_limit e.1) es are.narrow;
}

abbrev IsChild : ℕ → ℕ × Entries → Type 0
IsChild depth c = ArePart (suc depth) c.1

pub of_children : (depth : ℕ) (es : Entries) → ArePart depth es → AllByRecursion (λ (c : ℕ × Entries). ArePart (suc depth) c.1) (children_of depth es)
unfolding children_of
of_children depth es are = recursion_from_All (IsChild depth) (children_of depth es)
    (All-filter (λ (c : ℕ × Entries). nat_lt 0 (length c.1)) (IsChild depth) (map (λ i. (i, at_place depth i es)) (range_with_len 0 32))
    (All-map (IsChild depth) (λ i. (i, at_place depth i es)) (range_with_len 0 32) (λ k d l. of_child depth (get_or (range_with_len 0 32) k d) es are)))

-- ---- their record

pub is_some_part : (J : ℕ → Option Record) {depth at : ℕ} {es : Entries} → ArePart depth es → PartAt J depth at es → IsSomePart J at
is_some_part J {depth = depth} {es = es} are part = (depth, record { entries = es; sorted = are.ordered }, part, are.together, are.few)

pub few_entries : (J : ℕ → Option Record) {depth at : ℕ} {es : Entries} → IsSomePart J at → PartAt J depth at es → Ordered es → length es ≤ entries_limit
few_entries J (deep, fs, some, together, few) part ordered = subst (λ (es : Entries). length es ≤ entries_limit) (one_part J some part fs.sorted ordered) few

-- ---- good records

fits_part : (terms : Terms) (before : Records) (at : ℕ) (r : Record) → reference_kind r ≡ 2 → RecordFits terms before at r → IsSomePart (present (before ++ (at, r) ∷ [])) at
fits_part terms before at (Record.Leaf fields) kind fits = fits
fits_part terms before at (Record.Inode depth children) kind fits = fits
fits_part terms before at _ kind fits = absurd (omega (arith, kind))

more_some_part : (J K : ℕ → Option Record) (at : ℕ) → ((a : ℕ) (r : Record) → J a ≡ Some r → K a ≡ Some r) → IsSomePart J at → IsSomePart K at
more_some_part J K at keeps (depth, es, part, together, few) = (depth, es, more_part J K keeps part, together, few)

pub part_of_good : (s : Slot) (before xs : Records) → AreGood s before xs → (at : ℕ) (r : Record) → present xs at ≡ Some r → reference_kind r ≡ 2 → IsSomePart (present (before ++ xs)) at
part_of_good s before [] good at r is kind = absurd (false≢true (ap is_some is))
part_of_good s before (x ∷ xs) good at r is kind =
    by (eq_by_cmp nat_cmp at x.0) refl is (λ (is : present xs at ≡ Some r). subst (λ (rs : Records). IsSomePart (present rs) at) onto (part_of_good s (before ++ x ∷ []) xs good.1 at r is kind))
  where
    onto : (before ++ x ∷ []) ++ xs ≡ before ++ x ∷ xs
    onto = append_assoc before (x ∷ []) xs

    this : reference_kind x.1 ≡ 2 → IsSomePart (present (before ++ x ∷ xs)) x.0
    this kind = more_some_part (present (before ++ x ∷ [])) (present (before ++ x ∷ xs)) x.0
        (λ a r is. subst (λ (rs : Records). present rs a ≡ Some r) onto (present_front (before ++ x ∷ []) xs a r is)) (fits_part (terms_of s) before x.0 x.1 kind good.0.fits)

    by : (b : Bool) → eq_by_cmp nat_cmp at x.0 ≡ b → cond b (Some x.1) (present xs at) ≡ Some r → (present xs at ≡ Some r → IsSomePart (present (before ++ x ∷ xs)) at) → IsSomePart (present (before ++ x ∷ xs)) at
    by true e is later =
        let same : x.1 ≡ r = cc (is) in
        subst (IsSomePart (present (before ++ x ∷ xs))) (sym (nat_cmp-IsAntisymmetric at x.0 (eq_of _ e))) (this (ap reference_kind same ∙ kind))
    by false e is later = later is
