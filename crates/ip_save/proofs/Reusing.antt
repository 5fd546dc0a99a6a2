-- The contents that a batch spells where equal bytes are used again: of each bytes those of the path that comes first.
--     owner found b es      the first path with these bytes for which nothing was found.      told_news v first es      new contents, and what is found for each
--     own v first p      the batch spells the contents of the path
--     spelled_ones v first es      those of which it does.      spelled_are, offsets_are      what they are, and where each of the new contents lies
--     told_are      a table of them
--     only_new, offset_known      what is known is not among them
use Rattle.std.proofs.Common.{◌≡◌, ℕ, ◌+◌, List, [], ◌∷◌, ◌++◌, refl, sym, ap, subst, ◌∙◌, Option, Some, None, Bool, true, false, cond, map, T, append_assoc}
use Rattle.std.specs.Prelude.{is_none, ◌&&◌, option_map, if◌then◌else◌}
use Rattle.std.specs.List.{AllByRecursion}
use Rattle.std.specs.Ordering.{is_eq, is_lt, ordering_reverse}
use Rattle.std.specs.declared.cmp.Ordering.{Ordering}
use Rattle.std.specs.declared.cmp.Ordering.TheVariants.{Less}
use Rattle.std.specs.FinMap.Entries.{is_sorted, below_all, is_sorted-where_key}
use Rattle.std.proofs.lemmas.Bool.{false≢true}
use Rattle.ip_spec.specs.Map.{get}
use Rattle.ip_spec.specs.Path.{Bytes, Path, path_cmp, same_bytes, same_path}
use Rattle.ip_spec.specs.View.{View}
use Rattle.ip_spec.specs.Batch.{Source, earliest, found_again, in_first, is_own, offset_by, place_among, reused_by, reusing_sources, whole_part}
use Rattle.ip_spec.proofs.TreeLaws.{path_total}
use Rattle.ip_spec.proofs.Subtrees.{same_itself, same_step, step_itself}
use Rattle.ip_save.specs.Laid.{size}
use Rattle.ip_save.specs.Reused.{bytes_in, found_in, place_of, places_by, places_from, spelled_by, spelled_from, told_fresh}
use Rattle.ip_save.specs.declared.fresh.Fresh.{Fresh}
use Rattle.ip_save.proofs.News.{kept, value_of}
use Rattle.ip_save.proofs.Placed.{GoesOn, IsNew, places, places_found}
use Rattle.ip_save.proofs.Split.{both_first, both_second, less_of}

-- ---- the first path with some bytes

abbrev first_some : Option Path → Option Path → Option Path
first_some (Some q) o = Some q
first_some None o = o

abbrev path_or : Option Path → Path → Path
path_or (Some q) p = q
path_or None p = p

abbrev one_owner : Bool → Path → Option Path → Option Path
one_owner b q o = cond b (Some q) o

abbrev owner : (Path → Option ℕ) → Bytes → List (Path × Bytes) → Option Path
owner found b [] = None
owner found b (e ∷ es) = one_owner (same_bytes b e.1 && is_none (found e.0)) e.0 (owner found b es)

owner_append : (found : Path → Option ℕ) (b : Bytes) (xs ys : List (Path × Bytes)) → owner found b (xs ++ ys) ≡ first_some (owner found b xs) (owner found b ys)
owner_append found b [] ys = refl
owner_append found b (x ∷ xs) ys = by (same_bytes b x.1 && is_none (found x.0)) (owner_append found b xs ys)
  where
    by : (t : Bool) → owner found b (xs ++ ys) ≡ first_some (owner found b xs) (owner found b ys) → one_owner t x.0 (owner found b (xs ++ ys)) ≡ first_some (one_owner t x.0 (owner found b xs)) (owner found b ys)
    by true e = refl
    by false e = e

earliest_is : (v : View) (first : Option View) (b : Bytes) (es : List (Path × Bytes)) (p : Path) → earliest v first b es p ≡ path_or (owner (found_again v first) b es) p
earliest_is v first b [] p = refl
earliest_is v first b (e ∷ es) p = by (same_bytes b e.1 && is_none (found_again v first e.0)) (earliest_is v first b es p)
  where
    by : (t : Bool) → earliest v first b es p ≡ path_or (owner (found_again v first) b es) p → (if t then e.0 else earliest v first b es p) ≡ path_or (one_owner t e.0 (owner (found_again v first) b es)) p
    by true h = refl
    by false h = h

and_false : (a : Bool) → (a && false) ≡ false
and_false true = refl
and_false false = refl

same_bytes_itself : (b : Bytes) → same_bytes b b ≡ true
same_bytes_itself b = ap is_eq (step_itself b)

-- ---- paths that come before are others

below_behind : (k : Path) (ys xs : List (Path × Bytes)) (x : Path × Bytes) → T (below_all path_cmp k (ys ++ x ∷ xs)) → T (is_lt (path_cmp k x.0))
below_behind k [] xs x below = both_first _ _ below
below_behind k (y ∷ ys) xs x below = below_behind k ys xs x (both_second _ _ below)

above : (o : Ordering) → o ≡ Less → is_eq (ordering_reverse o) ≡ false
above o less = ap (λ o. is_eq (ordering_reverse o)) less

later_apart : (k p : Path) → T (is_lt (path_cmp k p)) → same_path p k ≡ false
later_apart k p below = ap is_eq (path_total.antisymm p k) ∙ above (path_cmp k p) (less_of _ below)

some_path : (p q : Path) → Some p ≡ Some q → p ≡ q
some_path p q e = cc

owner_before : (found : Path → Option ℕ) (b : Bytes) (ys xs : List (Path × Bytes)) (x : Path × Bytes) (q : Path) → T (is_sorted path_cmp (ys ++ x ∷ xs)) → owner found b ys ≡ Some q → same_path x.0 q ≡ false
owner_before found b [] xs x q sorted is = cc
owner_before found b (y ∷ ys) xs x q sorted is = by (same_bytes b y.1 && is_none (found y.0)) is (owner_before found b ys xs x q (both_second _ _ sorted))
  where
    by : (t : Bool) → one_owner t y.0 (owner found b ys) ≡ Some q → (owner found b ys ≡ Some q → same_path x.0 q ≡ false) → same_path x.0 q ≡ false
    by true e later = ap (same_path x.0) (sym (some_path y.0 q e)) ∙ later_apart y.0 x.0 (below_behind y.0 ys xs x (both_first _ _ sorted))
    by false e later = later e

abbrev pub is_new : View → Path → Bool
is_new v p = is_none (v.known (whole_part p))

module _ (v : View) (first : Option View) where
  abbrev pub again_in : Path × Bytes → Bytes × Option ℕ
  again_in e = (e.1, in_first v first e.0)

  abbrev pub told_news : List (Path × Bytes) → List (Bytes × Option ℕ)
  told_news es = map again_in es

  abbrev pub own : Path → Bool
  own p = is_own p (reusing_sources v first p)

  abbrev pub spelled_ones : List (Path × Bytes) → List (Path × Bytes)
  spelled_ones all = kept own all

  pub values_told : (es : List (Path × Bytes)) → map (λ (x : Bytes × Option ℕ). x.0) (told_news es) ≡ map value_of es
  values_told [] = refl
  values_told (e ∷ es) = ap (λ l. e.1 ∷ l) (values_told es)

  -- a table of them
  pub told_are : (fs : List Fresh) (es : List (Path × Bytes)) → bytes_in fs ≡ map value_of es → found_in fs ≡ map (λ (e : Path × Bytes). in_first v first e.0) es → told_fresh fs ≡ told_news es
  told_are [] [] bytes found = refl
  told_are [] (e ∷ es) bytes found = absurd (cc bytes)
  told_are (f ∷ fs) [] bytes found = absurd (cc bytes)
  told_are (f ∷ fs) (e ∷ es) bytes found =
      let one : f.bytes.now ≡ e.1 = cc in
      let rest : bytes_in fs ≡ map value_of es = cc in
      let at : f.at ≡ in_first v first e.0 = cc in
      let ats : found_in fs ≡ map (λ (x : Path × Bytes). in_first v first x.0) es = cc in
      ap (λ (b : Bytes). (b, f.at) ∷ told_fresh fs) one ∙ ap (λ (k : Option ℕ). (e.1, k) ∷ told_fresh fs) at ∙ ap (λ l. again_in e ∷ l) (told_are fs es rest ats)

  -- ---- what is known

  abbrev again_by : Option ℕ → Path → Option ℕ
  again_by k p = elim k [ Some at ↦ Some at | None ↦ in_first v first p ]

  again_known : (p : Path) (at : ℕ) → v.known (whole_part p) ≡ Some at → found_again v first p ≡ Some at
  again_known p at known = ap (λ k. again_by k p) known

  again_new : (p : Path) → v.known (whole_part p) ≡ None → found_again v first p ≡ in_first v first p
  again_new p new = ap (λ k. again_by k p) new

  source_known : (p : Path) (at : ℕ) → v.known (whole_part p) ≡ Some at → reusing_sources v first p ≡ Source.stored at
  source_known p at known = ap (λ f. reused_by v first p f (get v.map p)) (again_known p at known)

  pub offset_known : (P : List (Path × ℕ)) (p : Path) (at : ℕ) → v.known (whole_part p) ≡ Some at → offset_by P (reusing_sources v first p) ≡ at
  offset_known P p at known = ap (offset_by P) (source_known p at known)

  own_out : (p : Path) → is_new v p ≡ false → own p ≡ false
  own_out p old = by (v.known (whole_part p)) refl old
    where
      by : (k : Option ℕ) → v.known (whole_part p) ≡ k → is_none k ≡ false → own p ≡ false
      by None e f = absurd (false≢true (sym f))
      by (Some at) e f = ap (is_own p) (source_known p at e)

  kept_twice : (P Q : Path → Bool) → ((p : Path) → Q p ≡ false → P p ≡ false) → (es : List (Path × Bytes)) → kept P es ≡ kept P (kept Q es)
  kept_twice P Q out [] = refl
  kept_twice P Q out (e ∷ es) = by (Q e.0) refl (kept_twice P Q out es)
    where
      by : (b : Bool) → Q e.0 ≡ b → kept P es ≡ kept P (kept Q es) → kept P (e ∷ es) ≡ kept P (cond b (e ∷ kept Q es) (kept Q es))
      by true q h = ap (λ l. cond (P e.0) (e ∷ l) l) h
      by false q h = ap (λ b. cond b (e ∷ kept P es) (kept P es)) (out e.0 q) ∙ h

  -- the batch spells some of those that no record is known for
  pub only_new : kept own v.map.entries ≡ kept own (kept (is_new v) v.map.entries)
  only_new = kept_twice own (is_new v) own_out v.map.entries

  owner_kept : (b : Bytes) (es : List (Path × Bytes)) → owner (found_again v first) b es ≡ owner (in_first v first) b (kept (is_new v) es)
  owner_kept b [] = refl
  owner_kept b (e ∷ es) = by (v.known (whole_part e.0)) refl (owner_kept b es)
    where
      by : (k : Option ℕ) → v.known (whole_part e.0) ≡ k → owner (found_again v first) b es ≡ owner (in_first v first) b (kept (is_new v) es)
          → owner (found_again v first) b (e ∷ es) ≡ owner (in_first v first) b (cond (is_none k) (e ∷ kept (is_new v) es) (kept (is_new v) es))
      by None k h = ap (λ f. one_owner (same_bytes b e.1 && is_none f) e.0 (owner (found_again v first) b es)) (again_new e.0 k) ∙ ap (one_owner (same_bytes b e.1 && is_none (in_first v first e.0)) e.0) h
      by (Some at) k h = ap (λ f. one_owner (same_bytes b e.1 && is_none f) e.0 (owner (found_again v first) b es)) (again_known e.0 at k) ∙ ap (λ t. one_owner t e.0 (owner (found_again v first) b es)) (and_false (same_bytes b e.1)) ∙ h

  -- ---- one of the new contents

  abbrev source_in : Option ℕ → Option Path → Path → Source
  source_in (Some k) o p = Source.stored k
  source_in None o p = Source.spelled_for (path_or o p)

  module _ (all : List (Path × Bytes)) (news : kept (is_new v) v.map.entries ≡ all) (sorted : T (is_sorted path_cmp all)) where
    source_all : (x : Path × Bytes) → IsNew v x → reusing_sources v first x.0 ≡ source_in (in_first v first x.0) (owner (in_first v first) x.1 all) x.0
    source_all x is =
        ap (λ f. reused_by v first x.0 f (get v.map x.0)) (again_new x.0 is.new) ∙ ap (reused_by v first x.0 (in_first v first x.0)) is.here ∙ by (in_first v first x.0)
      where
        by : (f : Option ℕ) → reused_by v first x.0 f (Some x.1) ≡ source_in f (owner (in_first v first) x.1 all) x.0
        by (Some k) = refl
        by None = ap Source.spelled_for (earliest_is v first x.1 v.map.entries x.0 ∙ ap (λ o. path_or o x.0) (owner_kept x.1 v.map.entries ∙ ap (owner (in_first v first) x.1) news))

    abbrev before : Bytes → List (Path × Bytes) → Option Path
    before b ys = owner (in_first v first) b ys

    -- where nothing is found for it, it is the first of those from it on
    source_new : (ys xs : List (Path × Bytes)) (x : Path × Bytes) → all ≡ ys ++ x ∷ xs → IsNew v x → in_first v first x.0 ≡ None → reusing_sources v first x.0 ≡ Source.spelled_for (path_or (before x.1 ys) x.0)
    source_new ys xs x whole is none =
        source_all x is ∙ ap (λ f. source_in f (before x.1 all) x.0) none
        ∙ ap (λ l. Source.spelled_for (path_or (before x.1 l) x.0)) whole
        ∙ ap (λ o. Source.spelled_for (path_or o x.0)) (owner_append (in_first v first) x.1 ys (x ∷ xs))
        ∙ ap (λ t. Source.spelled_for (path_or (first_some (before x.1 ys) (one_owner t x.0 (before x.1 xs))) x.0)) (ap (λ s. s && is_none (in_first v first x.0)) (same_bytes_itself x.1) ∙ ap is_none none)
        ∙ by (before x.1 ys)
      where
        by : (o : Option Path) → Source.spelled_for (path_or (first_some o (Some x.0)) x.0) ≡ Source.spelled_for (path_or o x.0)
        by (Some q) = refl
        by None = refl

    -- ---- all of them

    module _ (end : ℕ) where
      abbrev P : List (Path × ℕ)
      P = places end (spelled_ones all)

      abbrev pl : Path → ℕ
      pl = place_among P

      abbrev offset : Path → ℕ
      offset p = offset_by P (reusing_sources v first p)

      record Walks (ys xs : List (Path × Bytes)) (seen : List (Bytes × ℕ)) (at : ℕ) : Type 0 where
        whole : all ≡ ys ++ xs
        same : (b : Bytes) → place_of seen b ≡ option_map pl (before b ys)
        on : GoesOn pl at (kept own xs)

      record Reuses (xs : List (Path × Bytes)) (seen : List (Bytes × ℕ)) (at : ℕ) : Type 0 where
        spelled : map value_of (kept own xs) ≡ spelled_from seen at (told_news xs)
        placed : map (λ (x : Path × Bytes). offset x.0) xs ≡ places_from seen at (told_news xs)

      module _ (x : Path × Bytes) (ys xs : List (Path × Bytes)) (seen : List (Bytes × ℕ)) (at : ℕ) (w : Walks ys (x ∷ xs) seen at) (is : IsNew v x) where
        next_whole : all ≡ (ys ++ x ∷ []) ++ xs
        next_whole = w.whole ∙ sym (append_assoc ys (x ∷ []) xs)

        before_next : (b : Bytes) (f : Option ℕ) → in_first v first x.0 ≡ f → before b (ys ++ x ∷ []) ≡ first_some (before b ys) (one_owner (same_bytes b x.1 && is_none f) x.0 None)
        before_next b f e = owner_append (in_first v first) b ys (x ∷ []) ∙ ap (λ g. first_some (before b ys) (one_owner (same_bytes b x.1 && is_none g) x.0 None)) e

        some_none : (o : Option Path) → first_some o None ≡ o
        some_none None = refl
        some_none (Some q) = refl

        kept_out : own x.0 ≡ false → kept own (x ∷ xs) ≡ kept own xs
        kept_out out = ap (λ b. cond b (x ∷ kept own xs) (kept own xs)) out

        kept_in : own x.0 ≡ true → kept own (x ∷ xs) ≡ x ∷ kept own xs
        kept_in within = ap (λ b. cond b (x ∷ kept own xs) (kept own xs)) within

        -- it was found in a record
        found : (k : ℕ) → in_first v first x.0 ≡ Some k → (Walks (ys ++ x ∷ []) xs seen at → Reuses xs seen at) → Reuses (x ∷ xs) seen at
        found k e later =
            let source : reusing_sources v first x.0 ≡ Source.stored k = source_all x is ∙ ap (λ f. source_in f (before x.1 all) x.0) e in
            let out : own x.0 ≡ false = ap (is_own x.0) source in
            let rest = later record {
              whole = next_whole;
              same = λ b. w.same b ∙ ap (option_map pl) (sym (before_next b (Some k) e ∙ ap (λ t. first_some (before b ys) (one_owner t x.0 None)) (and_false (same_bytes b x.1)) ∙ some_none (before b ys)));
              on = subst (GoesOn pl at) (kept_out out) w.on;
            } in
            record {
              spelled = ap (map value_of) (kept_out out) ∙ rest.spelled ∙ ap (λ f. spelled_from seen at ((x.1, f) ∷ told_news xs)) (sym e);
              placed = ap (λ s. offset_by P s ∷ map (λ (y : Path × Bytes). offset y.0) xs) source ∙ ap (λ l. k ∷ l) rest.placed ∙ ap (λ f. places_from seen at ((x.1, f) ∷ told_news xs)) (sym e);
            }

        next_owner : (b : Bytes) (o : Option Path) → before x.1 ys ≡ o → (t : Bool) → same_bytes b x.1 ≡ t → (q : Path) → o ≡ Some q → first_some (before b ys) (one_owner (t && true) x.0 None) ≡ before b ys
        next_owner b o e false s q f = some_none (before b ys)
        next_owner b o e true s q f =
            let own_is : before b ys ≡ Some q = ap (λ (c : Bytes). before c ys) (same_step b x.1 s) ∙ e ∙ f in
            ap (λ (p : Option Path). first_some p (Some x.0)) own_is ∙ sym own_is

        -- an earlier path has the same bytes
        earlier : (q : Path) → in_first v first x.0 ≡ None → before x.1 ys ≡ Some q → (Walks (ys ++ x ∷ []) xs seen at → Reuses xs seen at) → Reuses (x ∷ xs) seen at
        earlier q e o later =
            let source : reusing_sources v first x.0 ≡ Source.spelled_for q = source_new ys xs x w.whole is e ∙ ap (λ p. Source.spelled_for (path_or p x.0)) o in
            let out : own x.0 ≡ false = ap (is_own x.0) source ∙ owner_before (in_first v first) x.1 ys xs x q (subst (λ (l : List (Path × Bytes)). T (is_sorted path_cmp l)) w.whole sorted) o in
            let place : place_of seen x.1 ≡ Some (pl q) = w.same x.1 ∙ ap (option_map pl) o in
            let rest = later record {
              whole = next_whole;
              same = λ b. w.same b ∙ ap (option_map pl) (sym (before_next b None e ∙ next_owner b (before x.1 ys) refl (same_bytes b x.1) refl q o));
              on = subst (GoesOn pl at) (kept_out out) w.on;
            } in
            let old = spelled_from seen at (told_news xs) in
            let new = spelled_from ((x.1, at) ∷ seen) (at + size x.1) (told_news xs) in
            let old_places = places_from seen at (told_news xs) in
            let new_places = places_from ((x.1, at) ∷ seen) (at + size x.1) (told_news xs) in
            record {
              spelled = ap (map value_of) (kept_out out) ∙ rest.spelled ∙ ap (λ p. spelled_by x.1 old new p) (sym place) ∙ ap (λ f. spelled_from seen at ((x.1, f) ∷ told_news xs)) (sym e);
              placed = ap (λ s. offset_by P s ∷ map (λ (y : Path × Bytes). offset y.0) xs) source ∙ ap (λ l. pl q ∷ l) rest.placed
                  ∙ ap (λ p. places_by at old_places new_places p) (sym place) ∙ ap (λ f. places_from seen at ((x.1, f) ∷ told_news xs)) (sym e);
            }

        next_place : (b : Bytes) → pl x.0 ≡ at → before x.1 ys ≡ None → (t : Bool) → same_bytes b x.1 ≡ t → cond t (Some at) (place_of seen b) ≡ option_map pl (first_some (before b ys) (one_owner (t && true) x.0 None))
        next_place b here o false s = w.same b ∙ ap (option_map pl) (sym (some_none (before b ys)))
        next_place b here o true s = ap Some (sym here) ∙ ap (λ (p : Option Path). option_map pl (first_some p (Some x.0))) (sym (ap (λ (c : Bytes). before c ys) (same_step b x.1 s) ∙ o))

        -- it is the first with these bytes
        spelled_here : in_first v first x.0 ≡ None → before x.1 ys ≡ None → (Walks (ys ++ x ∷ []) xs ((x.1, at) ∷ seen) (at + size x.1) → Reuses xs ((x.1, at) ∷ seen) (at + size x.1)) → Reuses (x ∷ xs) seen at
        spelled_here e o later =
            let source : reusing_sources v first x.0 ≡ Source.spelled_for x.0 = source_new ys xs x w.whole is e ∙ ap (λ p. Source.spelled_for (path_or p x.0)) o in
            let within : own x.0 ≡ true = ap (is_own x.0) source ∙ same_itself x.0 in
            let goes : GoesOn pl at (x ∷ kept own xs) = subst (GoesOn pl at) (kept_in within) w.on in
            let place : place_of seen x.1 ≡ None = w.same x.1 ∙ ap (option_map pl) o in
            let rest = later record {
              whole = next_whole;
              same = λ b. next_place b goes.0 o (same_bytes b x.1) refl ∙ ap (option_map pl) (sym (before_next b None e));
              on = goes.1;
            } in
            let old = spelled_from seen at (told_news xs) in
            let new = spelled_from ((x.1, at) ∷ seen) (at + size x.1) (told_news xs) in
            let old_places = places_from seen at (told_news xs) in
            let new_places = places_from ((x.1, at) ∷ seen) (at + size x.1) (told_news xs) in
            record {
              spelled = ap (map value_of) (kept_in within) ∙ ap (λ l. x.1 ∷ l) rest.spelled ∙ ap (λ p. spelled_by x.1 old new p) (sym place) ∙ ap (λ f. spelled_from seen at ((x.1, f) ∷ told_news xs)) (sym e);
              placed = ap (λ s. offset_by P s ∷ map (λ (y : Path × Bytes). offset y.0) xs) source ∙ ap (λ n. n ∷ map (λ (y : Path × Bytes). offset y.0) xs) goes.0 ∙ ap (λ l. at ∷ l) rest.placed
                  ∙ ap (λ p. places_by at old_places new_places p) (sym place) ∙ ap (λ f. places_from seen at ((x.1, f) ∷ told_news xs)) (sym e);
            }

        one : ((ts : List (Bytes × ℕ)) (n : ℕ) → Walks (ys ++ x ∷ []) xs ts n → Reuses xs ts n) → Reuses (x ∷ xs) seen at
        one later = by (in_first v first x.0) refl (before x.1 ys) refl
          where
            by : (f : Option ℕ) → in_first v first x.0 ≡ f → (o : Option Path) → before x.1 ys ≡ o → Reuses (x ∷ xs) seen at
            by (Some k) e o h = found k e (later seen at)
            by None e (Some q) h = earlier q e h (later seen at)
            by None e None h = spelled_here e h (later ((x.1, at) ∷ seen) (at + size x.1))

      walk : (xs ys : List (Path × Bytes)) (seen : List (Bytes × ℕ)) (at : ℕ) → AllByRecursion (IsNew v) xs → Walks ys xs seen at → Reuses xs seen at
      walk [] ys seen at new w = record { spelled = refl; placed = refl }
      walk (x ∷ xs) ys seen at (is, new) w = one x ys xs seen at w is (λ ts n next. walk xs (ys ++ x ∷ []) ts n new next)

      module _ (new : AllByRecursion (IsNew v) all) where
        reused : Reuses all [] end
        reused = walk all [] [] end new record { whole = refl; same = λ b. refl; on = places_found (spelled_ones all) end (is_sorted-where_key path_cmp own all sorted) }

        pub spelled_are : map value_of (spelled_ones all) ≡ spelled_from [] end (told_news all)
        spelled_are = reused.spelled

        pub offsets_are : map (λ (x : Path × Bytes). offset x.0) all ≡ places_from [] end (told_news all)
        offsets_are = reused.placed
