-- When a collection is accepted, an image stands for the repository without the commits before the collection's own.
--     Parted      the records of an image, parted at a commit
--     stands_collected      the law
use Rattle.std.proofs.Common.{◌≡◌, ◌≢◌, ◌⊎◌, inl, inr, ℕ, ◌+◌, ◌-◌, ◌<◌, ◌≤◌, List, [], ◌∷◌, ◌++◌, refl, sym, ap, subst, ◌∙◌, Option, Some, None, Bool, true, false, cond, length, drop, arith, append_assoc, append-nil, length-append, map}
use Rattle.std.proofs.lemmas.List.Elements.{recursion_from_All, All-from_recursion, filter-append, filter_map-append}
use Rattle.std.proofs.lemmas.List.Sums.{fold-append}
use Rattle.std.proofs.lemmas.List.Kept.{AllPairs-from_increasing}
use Rattle.std.specs.Prelude.{All, IfSome, IsSomeAnd, slice_get, filter, fold}
use Rattle.std.specs.List.{AllByRecursion, AllZip, cons_option}
use Rattle.std.specs.Ordering.{eq_by_cmp}
use Rattle.std.specs.FinMap.Entries.{find}
use Rattle.ip_image.proofs.InChunk.{LiesIn, InChunk, chunk_lies, stands_by, same_standing}
use Rattle.ip_ground.specs.declared.names.FileName.TheVariants.{Prefix, Mapping}
use Rattle.ip_ground.specs.Contents.{Image}
use Rattle.ip_spec.specs.declared.record.Record.{Record}
use Rattle.ip_spec.specs.declared.record.CommitRecord.{CommitRecord}
use Rattle.ip_spec.specs.declared.record.Parent.{Parent}
use Rattle.ip_spec.specs.declared.record.Branch.{Branch}
use Rattle.ip_spec.specs.Map.{Map, empty, get}
use Rattle.ip_spec.specs.Path.{Bytes, bytes_cmp}
use Rattle.ip_spec.specs.Record.{Names, Fits, kind_of, name_of}
use Rattle.ip_spec.specs.Tree.{Tree}
use Rattle.ip_spec.specs.TreeAt.{Records, present, TreeAt}
use Rattle.ip_spec.specs.Repository.{Repository, Commit}
use Rattle.ip_spec.specs.Step.{collected_at}
use Rattle.ip_image.specs.Slot.{Slot, layout_of}
use Rattle.ip_image.specs.Virtual.{Run, Row, run_of, total, placed, RowsFitFrom, chunk_byte, virtual_byte}
use Rattle.ip_image.specs.Standing.{EndToEnd, RunByRun, IsSomePart, terms_of, RecordFits, CommitFits, IsServedKind, IsGood, AreGood, commit_of, commits_in, names_after, named, outside, AreRetained, WholeFits, Generation, Standing, Spells, StandsFor}
use Rattle.ip_image.specs.Collection.{IsKept, runs_of, kept_bytes, Pair, IsValid}
use Rattle.ip_image.specs.Pending.{HasLive, SameChunks}
use Rattle.ip_image.proofs.AppendingLaws.{good_append}
use Rattle.ip_image.proofs.CoreTies.{image_rises, core_rests, kept_rises, kept_among, staying, staying_is}
use Rattle.ip_image.specs.Collected.{offsets_of, remaining, IsCollectable, IsSwapped, StandsCollected}
use Rattle.ip_image.proofs.OneRepository.{goes_on}
use Rattle.ip_image.proofs.TreeParts.{all_right, all_onto}
use Rattle.ip_image.proofs.DamageLaws.{slot_is}
use Rattle.ip_image.proofs.PairLaws.{Has, Rises, has_from, contains_from, rises, same_records}
use Rattle.ip_image.proofs.KeptRuns.{get_behind, Ordered, ordered_has, ordered_append, kept_stand, runs_filled, rows_in_order, rows_numbers, rows_total, rows_many, runs_again}
use Rattle.ip_image.proofs.Stretches.{ends_ordered, runs_ordered, EndsCut, ends_cut, ends_over, below_byte}
use Rattle.ip_image.proofs.StayingRecords.{RestsOn, good_both, In, has_left, has_right, has_either, ordered_rises, present_has, has_present, one_at, filter_has, has_filter, filter_rises, filter_ordered, filter_all, filter_last, filter_none, filter_present, refs_of, Leads, staying_part, Cut, cut, good_at, front_there, before_there, front_rises, Stays, reached_leads, reached_kept, stays_closed, test, test_stays, stays_test}

-- ---- lists

zip_behind : {A B : Type 0} (R : A → B → Type 0) (xs us : List A) (ys : List B) → AllZip R (xs ++ us) ys → AllZip R us (drop (length xs) ys)
zip_behind R [] us ys zip = zip
zip_behind R (x ∷ xs) us [] zip = absurd zip
zip_behind R (x ∷ xs) us (y ∷ ys) zip = zip_behind R xs us ys zip.1

-- ---- names

abbrev step : Names → Map bytes_cmp ℕ → ℕ × Record → Map bytes_cmp ℕ
step names m x = names_after names m x.1

-- contents and parts name nothing
low_names : (names : Names) (m : Map bytes_cmp ℕ) (xs : Records) → ((x : ℕ × Record) → Has xs x → kind_of x.1 ≤ 3) → fold (step names) m xs ≡ m
low_names names m [] low = refl
low_names names m (x ∷ xs) low = ap (λ (n : Map bytes_cmp ℕ). fold (step names) n xs) (by names x.1 (low x (inl refl))) ∙ low_names names m xs (λ y has. low y (inr has))
  where
    by : (names : Names) (r : Record) → kind_of r ≤ 3 → names_after names m r ≡ m
    by Names.branches (Record.Contents bytes) l = refl
    by Names.branches (Record.Leaf fields) l = refl
    by Names.branches (Record.Inode depth children) l = refl
    by Names.tags (Record.Contents bytes) l = refl
    by Names.tags (Record.Leaf fields) l = refl
    by Names.tags (Record.Inode depth children) l = refl
    by names _ l = absurd (omega (arith, l))

low_commits : (xs : Records) → ((x : ℕ × Record) → Has xs x → kind_of x.1 ≤ 3) → commits_in xs ≡ []
low_commits [] low = refl
low_commits (x ∷ xs) low = by x.0 x.1 (low x (inl refl)) ∙ low_commits xs (λ y has. low y (inr has))
  where
    by : (at : ℕ) (r : Record) → kind_of r ≤ 3 → cons_option (commit_of (at, r)) (commits_in xs) ≡ commits_in xs
    by at (Record.Contents bytes) l = refl
    by at (Record.Leaf fields) l = refl
    by at (Record.Inode depth children) l = refl
    by at _ l = absurd (omega (arith, l))

-- a table tells the branches, whatever went before
table_names : (m n : Map bytes_cmp ℕ) (xs : Records) (at : ℕ) (rows : List Branch) → Has xs (at, Record.BranchTable rows) → fold (step Names.branches) m xs ≡ fold (step Names.branches) n xs
table_names m n [] at rows has = absurd has
table_names m n (x ∷ xs) at rows (inl is) = ap (λ (k : Map bytes_cmp ℕ). fold (step Names.branches) k xs) (ap (step Names.branches m) is ∙ sym (ap (step Names.branches n) is))
table_names m n (x ∷ xs) at rows (inr has) = table_names (step Names.branches m x) (step Names.branches n x) xs at rows has

-- no record of a tag is served
no_tags : (s : Slot) (m : Map bytes_cmp ℕ) (before xs : Records) → AreGood s before xs → fold (step Names.tags) m xs ≡ m
no_tags s m before [] good = refl
no_tags s m before (x ∷ xs) good = ap (λ (n : Map bytes_cmp ℕ). fold (step Names.tags) n xs) (by x.1 good.0.served) ∙ no_tags s m (before ++ x ∷ []) xs good.1
  where
    by : (r : Record) → IsServedKind r → names_after Names.tags m r ≡ m
    by (Record.Contents bytes) l = refl
    by (Record.Leaf fields) l = refl
    by (Record.Inode depth children) l = refl
    by (Record.Commit c) l = refl
    by (Record.BranchSet number name) l = refl
    by (Record.BranchRemove name) l = refl
    by (Record.BranchTable rows) l = refl
    by _ l = absurd l

-- ---- records parted at a commit

-- these are all below the commit, and those from it on
pub record Parted (records : Records) (h : ℕ) (c : CommitRecord) : Type 0 where
  pub low : Records
  pub after : Records
  pub is : records ≡ low ++ (h, Record.Commit c) ∷ after
  pub below : Ordered 0 low h
  pub rise : Rises records

module _ (s t : Slot) (records : Records) (good : AreGood s [] records) (version : t.version ≡ s.version) (e0 : ℕ) (c : CommitRecord) (parted : Parted records t.horizon c) (to : ℕ)
    (from_on : Ordered t.horizon ((t.horizon, Record.Commit c) ∷ parted.after) to) (floor : t.floor ≡ c.number)
    (kept : Records) (is_kept : IsKept records t.horizon e0 kept) (rests : RestsOn records t.horizon e0 kept) where
  abbrev h : ℕ
  h = t.horizon

  abbrev low : Records
  low = parted.low

  abbrev high : Records
  high = (t.horizon, Record.Commit c) ∷ parted.after

  abbrev p : ℕ × Record → Bool
  p = test s records parted.rise good t.horizon e0 kept is_kept rests

  low_there : (x : ℕ × Record) → Has low x → Has records x
  low_there x has = subst (λ (l : Records). Has l x) (sym parted.is) (has_left low high x has)

  high_there : (x : ℕ × Record) → Has high x → Has records x
  high_there x has = subst (λ (l : Records). Has l x) (sym parted.is) (has_right low high x has)

  low_under : (x : ℕ × Record) → Has low x → x.0 < t.horizon
  low_under x has = let (_, under, some) = ordered_has 0 low t.horizon x parted.below has in omega (arith, under, some)

  high_over : (x : ℕ × Record) → Has high x → t.horizon ≤ x.0
  high_over x has = (ordered_has t.horizon high to x from_on has).0

  stays_high : (x : ℕ × Record) → Has high x → p x ≡ true
  stays_high x has = test_stays s records parted.rise good t.horizon e0 kept is_kept rests x (high_there x has) (inl (high_over x has))

  high_is : filter p high ≡ high
  high_is = filter_all p high stays_high

  new_is : filter p records ≡ filter p low ++ high
  new_is = ap (filter p) parted.is ∙ filter-append p low high ∙ ap (λ (l : Records). filter p low ++ l) high_is

  reached_of : (x : ℕ × Record) → x.0 < t.horizon → p x ≡ true → Leads (present records) t.horizon x.0
  reached_of x under taken = by (stays_test s records parted.rise good t.horizon e0 kept is_kept rests x taken)
    where
      by : Stays s records parted.rise good t.horizon e0 kept is_kept rests x.0 → Leads (present records) t.horizon x.0
      by (inl over) = absurd (omega (arith, over, under))
      by (inr reached) = reached_leads s records parted.rise good t.horizon e0 kept is_kept rests x.0 reached

  -- what stays below the commit is contents or a part
  low_kind : (x : ℕ × Record) → Has records x → x.0 < t.horizon → p x ≡ true → kind_of x.1 ≤ 3
  low_kind x has under taken =
      let l = reached_of x under taken in
      subst (λ (r : Record). kind_of r ≤ 3) (some_is l.to x.1 (sym l.there ∙ has_present records x parted.rise has)) l.kind
    where
      some_is : (r q : Record) → Some r ≡ Some q → r ≡ q
      some_is r q e = cc

  -- below the commit the kept ones stay, in their order
  pub low_is : filter p low ≡ kept
  low_is = same_records (filter p low) kept (filter_rises p low (ordered_rises 0 low t.horizon parted.below)) (rises kept (AllPairs-from_increasing (offsets_of kept) is_kept.ascending)) onto back
    where
      onto : (z : ℕ × Record) → Has (filter p low) z → Has kept z
      onto z has = let (there, taken) = filter_has p low z has in by there (stays_test s records parted.rise good t.horizon e0 kept is_kept rests z taken)
        where
          by : Has low z → Stays s records parted.rise good t.horizon e0 kept is_kept rests z.0 → Has kept z
          by there (inl over) = let under = low_under z there in absurd (omega (arith, over, under))
          by there (inr reached) = reached_kept s records parted.rise good t.horizon e0 kept is_kept rests z (low_there z there) reached

      back : (z : ℕ × Record) → Has kept z → Has (filter p low) z
      back z has =
          let (there, reached) = (is_kept.each z).0 (contains_from kept z has) in
          let (k, l, e) = there in
          let among : Has records z = has_from records z k l e in
          let under = (reached_leads s records parted.rise good t.horizon e0 kept is_kept rests z.0 reached).below in
          by under (has_either low high z (subst (λ (l : Records). Has l z) parted.is among)) (test_stays s records parted.rise good t.horizon e0 kept is_kept rests z among (inr reached))
        where
          by : z.0 < t.horizon → Has low z ⊎ Has high z → p z ≡ true → Has (filter p low) z
          by under (inl there) taken = has_filter p low z there taken
          by under (inr there) taken = let over = high_over z there in absurd (omega (arith, over, under))

  pub new_records : filter p records ≡ kept ++ high
  new_records = new_is ∙ ap (λ (l : Records). l ++ high) low_is

  pub kept_ordered : Ordered 0 kept t.horizon
  kept_ordered = subst (λ (l : Records). Ordered 0 l t.horizon) low_is (filter_ordered p 0 low t.horizon parted.below)

  kept_kinds : (x : ℕ × Record) → Has (filter p low) x → kind_of x.1 ≤ 3
  kept_kinds x has = let (there, taken) = filter_has p low x has in low_kind x (low_there x there) (low_under x there) taken

  -- ---- the records that stay are good

  stays_of : (at : ℕ) (r : Record) → present records at ≡ Some r → Stays s records parted.rise good t.horizon e0 kept is_kept rests at → p (at, r) ≡ true
  stays_of at r is stay = test_stays s records parted.rise good t.horizon e0 kept is_kept rests (at, r) (present_has records at r is) stay

  module _ (x : ℕ × Record) (k : Cut records x) where
    before_rises : Rises k.before
    before_rises = rise k.before (x ∷ []) (front_rises s records parted.rise good x k)
      where
        rise : (xs ys : Records) → Rises (xs ++ ys) → Rises xs
        rise [] ys r = tt
        rise (y ∷ xs) ys (above, r) = ((λ z has. above z (has_left xs ys z has)), rise xs ys r)

    part_stays : p x ≡ true → IsSomePart (present (k.before ++ x ∷ [])) x.0 → IsSomePart (present (filter p k.before ++ x ∷ [])) x.0
    part_stays taken (depth, es, part, together, few) = (
      depth,
      es,
      staying_part (present (k.before ++ x ∷ [])) (present (filter p k.before ++ x ∷ [])) (Stays s records parted.rise good t.horizon e0 kept is_kept rests)
          (λ at r stay is. subst (λ (l : Records). present l at ≡ Some r) (filter_last p k.before x taken)
          (filter_present p (k.before ++ x ∷ []) at r (front_rises s records parted.rise good x k) is (stays_of at r (front_there s records parted.rise good x k at r is) stay)))
          (λ at r b stay is ref. stays_closed s records parted.rise good t.horizon e0 kept is_kept rests at r b stay (front_there s records parted.rise good x k at r is) ref)
          (stays_test s records parted.rise good t.horizon e0 kept is_kept rests x taken) part,
      together,
      few,
    )

    tree_stays : (root : ℕ) (tree : Tree) → Stays s records parted.rise good t.horizon e0 kept is_kept rests root → TreeAt (present k.before) root tree → TreeAt (present (filter p k.before)) root tree
    tree_stays root tree stay (directory, part) = (
      directory,
      staying_part (present k.before) (present (filter p k.before)) (Stays s records parted.rise good t.horizon e0 kept is_kept rests)
          (λ at r stay is. filter_present p k.before at r before_rises is (stays_of at r (before_there s records parted.rise good x k at r is) stay))
          (λ at r b stay is ref. stays_closed s records parted.rise good t.horizon e0 kept is_kept rests at r b stay (before_there s records parted.rise good x k at r is) ref)
          stay part,
    )

    cut_there : Has records x
    cut_there = subst (λ (l : Records). Has l x) (sym k.is) (has_right k.before (x ∷ k.after) x (inl refl))

    good_below : p x ≡ true → x.0 < t.horizon → IsGood s k.before x → IsGood t (filter p k.before) x
    good_below taken under g = record {
      bounds = subst (λ (v : ℕ). Fits v x.1) (sym version) g.bounds;
      served = g.served;
      kept_kind = λ l. kind;
      first = λ some at. absurd (omega (arith, at, under));
      fits = by x.0 x.1 kind (part_stays taken) g.fits;
    }
      where
        kind : kind_of x.1 ≤ 3
        kind = low_kind x cut_there under taken

        by : (at : ℕ) (r : Record) → kind_of r ≤ 3 → (IsSomePart (present (k.before ++ (at, r) ∷ [])) at → IsSomePart (present (filter p k.before ++ (at, r) ∷ [])) at)
            → RecordFits (terms_of s) k.before at r → RecordFits (terms_of t) (filter p k.before) at r
        by at (Record.Contents bytes) kind part fits = tt
        by at (Record.Leaf fields) kind part fits = part fits
        by at (Record.Inode depth children) kind part fits = part fits
        by at _ kind part fits = absurd (omega (arith, kind))

    -- a commit is numbered from the new floor on
    commit_stays : (at : ℕ) (d : CommitRecord) (lows mids : List CommitRecord) → commits_in k.before ≡ lows ++ mids → commits_in (filter p k.before) ≡ mids → t.floor ≡ s.floor + length lows
        → Stays s records parted.rise good t.horizon e0 kept is_kept rests d.root_at → CommitFits (terms_of s) k.before at d → CommitFits (terms_of t) (filter p k.before) at d
    commit_stays at d lows mids all new is stay fits = record {
      number = (let number = fits.number in let count = ap length all ∙ length-append lows mids in let left = ap length new in omega (arith, number, count, left, is));
      root = (fits.root.0, tree_stays d.root_at fits.root.0 stay fits.root.1, fits.root.2);
      root_below = fits.root_below;
      earlier = fits.earlier;
      distinct = fits.distinct;
      parents = All-from_recursion (Stated t.floor (commits_in (filter p k.before))) d.parents
          (all_onto (Stated s.floor (commits_in k.before)) (Stated t.floor (commits_in (filter p k.before))) d.parents stated (recursion_from_All (Stated s.floor (commits_in k.before)) d.parents fits.parents));
      new_name = subst (λ (cs : List CommitRecord). All (λ e. name_of (Record.Commit e) ≢ name_of (Record.Commit d)) cs) (sym new)
          (All-from_recursion (λ (e : CommitRecord). name_of (Record.Commit e) ≢ name_of (Record.Commit d)) mids
          (all_right (λ (e : CommitRecord). name_of (Record.Commit e) ≢ name_of (Record.Commit d)) lows mids
          (recursion_from_All (λ (e : CommitRecord). name_of (Record.Commit e) ≢ name_of (Record.Commit d)) (lows ++ mids)
          (subst (λ (cs : List CommitRecord). All (λ e. name_of (Record.Commit e) ≢ name_of (Record.Commit d)) cs) all fits.new_name))));
    }
      where
        Stated : ℕ → List CommitRecord → Parent → Type 0
        Stated floor cs q = floor ≤ q.number → q.number ≢ outside → IfSome (slice_get cs (q.number - floor)) (λ e. name_of (Record.Commit e) ≡ Some q.name)

        stated : (q : Parent) → Stated s.floor (commits_in k.before) q → Stated t.floor (commits_in (filter p k.before)) q
        stated q was retained inner =
            let place : q.number - s.floor ≡ length lows + (q.number - t.floor) = omega (arith, is, retained) in
            subst (λ (cs : List CommitRecord). IfSome (slice_get cs (q.number - t.floor)) (λ e. name_of (Record.Commit e) ≡ Some q.name)) (sym new)
            (subst (λ (o : Option CommitRecord). IfSome o (λ e. name_of (Record.Commit e) ≡ Some q.name)) (get_behind lows mids (q.number - t.floor))
            (subst (λ (n : ℕ). IfSome (slice_get (lows ++ mids) n) (λ e. name_of (Record.Commit e) ≡ Some q.name)) place
            (subst (λ (cs : List CommitRecord). IfSome (slice_get cs (q.number - s.floor)) (λ e. name_of (Record.Commit e) ≡ Some q.name)) all (was (omega (arith, retained, is)) inner))))

    good_above : (lows mids : List CommitRecord) → commits_in k.before ≡ lows ++ mids → commits_in (filter p k.before) ≡ mids → t.floor ≡ s.floor + length lows → t.horizon ≤ x.0 → IsGood s k.before x → IsGood t (filter p k.before) x
    good_above lows mids all new is over g = record {
      bounds = subst (λ (v : ℕ). Fits v x.1) (sym version) g.bounds;
      served = g.served;
      kept_kind = λ l. absurd (omega (arith, l, over));
      first = λ some at. subst (λ (r : Record). kind_of r ≡ 4) (one_at records (t.horizon, Record.Commit c) x parted.rise (high_there (t.horizon, Record.Commit c) (inl refl)) cut_there (sym at)) refl;
      fits = by x.0 x.1 refs (part_stays (test_stays s records parted.rise good t.horizon e0 kept is_kept rests x cut_there (inl over))) g.fits;
    }
      where
        refs : (b : ℕ) → In (refs_of x.1) b → Stays s records parted.rise good t.horizon e0 kept is_kept rests b
        refs b ref = stays_closed s records parted.rise good t.horizon e0 kept is_kept rests x.0 x.1 b (inl over) (has_present records x parted.rise cut_there) ref

        by : (at : ℕ) (r : Record) → ((b : ℕ) → In (refs_of r) b → Stays s records parted.rise good t.horizon e0 kept is_kept rests b)
            → (IsSomePart (present (k.before ++ (at, r) ∷ [])) at → IsSomePart (present (filter p k.before ++ (at, r) ∷ [])) at)
            → RecordFits (terms_of s) k.before at r → RecordFits (terms_of t) (filter p k.before) at r
        by at (Record.Contents bytes) refs part fits = tt
        by at (Record.Leaf fields) refs part fits = part fits
        by at (Record.Inode depth children) refs part fits = part fits
        by at (Record.Commit d) refs part fits = commit_stays at d lows mids all new is (refs d.root_at (inl refl)) fits
        by at (Record.BranchSet number name) refs part fits = tt
        by at (Record.TagSet number name) refs part fits = tt
        by at (Record.BranchRemove name) refs part fits = tt
        by at (Record.TagRemove name) refs part fits = tt
        by at (Record.BranchTable rows) refs part fits = tt
        by at (Record.TagTable rows) refs part fits = tt

  good_low : (before rest : Records) → records ≡ before ++ (rest ++ high) → ((y : ℕ × Record) → Has rest y → y.0 < t.horizon) → AreGood s before rest → AreGood t (filter p before) (filter p rest)
  good_low before [] is under g = tt
  good_low before (x ∷ rest) is under g =
      by (p x) refl (good_low (before ++ x ∷ []) rest (is ∙ sym (append_assoc before (x ∷ []) (rest ++ high))) (λ y has. under y (inr has)) g.1)
    where
      by : (b : Bool) → p x ≡ b → AreGood t (filter p (before ++ x ∷ [])) (filter p rest) → AreGood t (filter p before) (cond b (x ∷ filter p rest) (filter p rest))
      by true taken later = (
        good_below x (record { before = before; after = rest ++ high; is = is }) taken (under x (inl refl)) g.0,
        subst (λ (l : Records). AreGood t l (filter p rest)) (filter_last p before x taken) later,
      )
      by false left later = subst (λ (l : Records). AreGood t l (filter p rest)) (filter_none p before x left) later

  good_high : (before rest : Records) (lows mids : List CommitRecord) → records ≡ before ++ rest → commits_in before ≡ lows ++ mids → commits_in (filter p before) ≡ mids → t.floor ≡ s.floor + length lows
      → ((y : ℕ × Record) → Has rest y → t.horizon ≤ y.0) → AreGood s before rest → AreGood t (filter p before) rest
  good_high before [] lows mids is all new number over g = tt
  good_high before (x ∷ rest) lows mids is all new number over g =
      let k : Cut records x = record { before = before; after = rest; is = is } in
      let taken = test_stays s records parted.rise good t.horizon e0 kept is_kept rests x (subst (λ (l : Records). Has l x) (sym is) (has_right before (x ∷ rest) x (inl refl))) (inl (over x (inl refl))) in (
        good_above x k lows mids all new number (over x (inl refl)) g.0,
        subst (λ (l : Records). AreGood t l rest) (filter_last p before x taken)
            (good_high (before ++ x ∷ []) rest lows (mids ++ commits_in (x ∷ [])) (is ∙ sym (append_assoc before (x ∷ []) rest))
            (filter_map-append commit_of before (x ∷ []) ∙ ap (λ (cs : List CommitRecord). cs ++ commits_in (x ∷ [])) all ∙ append_assoc lows mids (commits_in (x ∷ [])))
            (ap commits_in (filter_last p before x taken) ∙ filter_map-append commit_of (filter p before) (x ∷ []) ∙ ap (λ (cs : List CommitRecord). cs ++ commits_in (x ∷ [])) new)
            number (λ y has. over y (inr has)) g.1),
      )

  halves : AreGood s [] low × AreGood s low high
  halves = good_both s [] low high (subst (AreGood s []) parted.is good)

  pub floor_is : t.floor ≡ s.floor + length (commits_in low)
  floor_is = let fits : CommitFits (terms_of s) low t.horizon c = halves.1.0.fits in floor ∙ fits.number

  pub commit_under : c.root_at < t.horizon
  commit_under = let fits : CommitFits (terms_of s) low t.horizon c = halves.1.0.fits in fits.root_below

  kept_commits : commits_in (filter p low) ≡ []
  kept_commits = low_commits (filter p low) kept_kinds

  pub new_good : AreGood t [] (filter p records)
  new_good = subst (AreGood t []) (sym new_is)
      (good_append t [] (filter p low) high (good_low [] low parted.is low_under halves.0)
      (good_high low high (commits_in low) [] parted.is (sym (append-nil (commits_in low))) kept_commits floor_is high_over halves.1))

  -- ---- what they leave

  pub old_commits : commits_in records ≡ commits_in low ++ commits_in high
  old_commits = ap commits_in parted.is ∙ filter_map-append commit_of low high

  pub new_commits : commits_in (filter p records) ≡ commits_in high
  new_commits = ap commits_in new_is ∙ filter_map-append commit_of (filter p low) high ∙ ap (λ (cs : List CommitRecord). cs ++ commits_in high) kept_commits

  pub new_branches : (at : ℕ) (rows : List Branch) → t.horizon ≤ at → present records at ≡ Some (Record.BranchTable rows) → named Names.branches (filter p records) ≡ named Names.branches records
  new_branches at rows over is =
      ap (named Names.branches) new_is ∙ fold-append (step Names.branches) empty (filter p low) high
      ∙ table_names (fold (step Names.branches) empty (filter p low)) (fold (step Names.branches) empty low) high at rows (among (has_either low high (at, Record.BranchTable rows) (subst (λ (l : Records). Has l (at, Record.BranchTable rows)) parted.is (present_has records at (Record.BranchTable rows) is))))
      ∙ sym (fold-append (step Names.branches) empty low high) ∙ ap (named Names.branches) (sym parted.is)
    where
      among : Has low (at, Record.BranchTable rows) ⊎ Has high (at, Record.BranchTable rows) → Has high (at, Record.BranchTable rows)
      among (inl there) = let under = low_under (at, Record.BranchTable rows) there in absurd (omega (arith, over, under))
      among (inr there) = there

  pub new_tags : named Names.tags (filter p records) ≡ named Names.tags records
  new_tags = no_tags t empty [] (filter p records) new_good ∙ sym (no_tags s empty [] records good)

  -- ---- commits spell what they spelled

  spells_still : (d : CommitRecord) (m : Commit) → Stays s records parted.rise good t.horizon e0 kept is_kept rests d.root_at → Spells records d m → Spells (filter p records) d m
  spells_still d m stay is = record {
    name = is.name;
    parents = is.parents;
    info = is.info;
    tree = (
      is.tree.0,
      staying_part (present records) (present (filter p records)) (Stays s records parted.rise good t.horizon e0 kept is_kept rests)
          (λ at r stay is. filter_present p records at r parted.rise is (stays_of at r is stay))
          (λ at r b stay is ref. stays_closed s records parted.rise good t.horizon e0 kept is_kept rests at r b stay is ref)
          stay is.tree.1,
    );
  }

  all_still : (xs : Records) (ms : List Commit) → ((y : ℕ × Record) → Has xs y → Has high y) → AllZip (Spells records) (commits_in xs) ms → AllZip (Spells (filter p records)) (commits_in xs) ms
  all_still [] [] among zip = tt
  all_still [] (m ∷ ms) among zip = absurd zip
  all_still (x ∷ xs) ms among zip = by x.0 x.1 refs zip (λ ms zip. all_still xs ms (λ y has. among y (inr has)) zip)
    where
      refs : (b : ℕ) → In (refs_of x.1) b → Stays s records parted.rise good t.horizon e0 kept is_kept rests b
      refs b ref =
          stays_closed s records parted.rise good t.horizon e0 kept is_kept rests x.0 x.1 b (inl (high_over x (among x (inl refl)))) (has_present records x parted.rise (high_there x (among x (inl refl)))) ref

      one : (at : ℕ) (d : CommitRecord) (ms : List Commit) → Stays s records parted.rise good t.horizon e0 kept is_kept rests d.root_at → AllZip (Spells records) (d ∷ commits_in xs) ms
          → ((ms : List Commit) → AllZip (Spells records) (commits_in xs) ms → AllZip (Spells (filter p records)) (commits_in xs) ms) → AllZip (Spells (filter p records)) (d ∷ commits_in xs) ms
      one at d [] stay zip later = absurd zip
      one at d (m ∷ ms) stay zip later = (spells_still d m stay zip.0, later ms zip.1)

      by : (at : ℕ) (r : Record) → ((b : ℕ) → In (refs_of r) b → Stays s records parted.rise good t.horizon e0 kept is_kept rests b) → AllZip (Spells records) (cons_option (commit_of (at, r)) (commits_in xs)) ms
          → ((ms : List Commit) → AllZip (Spells records) (commits_in xs) ms → AllZip (Spells (filter p records)) (commits_in xs) ms)
          → AllZip (Spells (filter p records)) (cons_option (commit_of (at, r)) (commits_in xs)) ms
      by at (Record.Commit d) refs zip later = one at d ms (refs d.root_at (inl refl)) zip later
      by at _ refs zip later = later ms zip

  pub new_spelled : (ms : List Commit) → AllZip (Spells records) (commits_in records) ms → AllZip (Spells (filter p records)) (commits_in (filter p records)) (drop (length (commits_in low)) ms)
  new_spelled ms zip = subst (λ (cs : List CommitRecord). AllZip (Spells (filter p records)) cs (drop (length (commits_in low)) ms)) (sym new_commits)
      (all_still high (drop (length (commits_in low)) ms) (λ y has. has)
      (zip_behind (Spells records) (commits_in low) (commits_in high) ms (subst (λ (cs : List CommitRecord). AllZip (Spells records) cs ms) old_commits zip)))

-- ---- the law

-- no branch is at a commit below this one
no_head_below : (number : ℕ) (es : List (Bytes × ℕ)) → AllByRecursion (λ (e : Bytes × ℕ). number ≤ e.1) es → (name : Bytes) → IfSome (find bytes_cmp name es) (λ n. number ≤ n)
no_head_below number [] all name = tt
no_head_below number (e ∷ es) all name = by (eq_by_cmp bytes_cmp name e.0) (no_head_below number es all.1 name)
  where
    by : (b : Bool) → IfSome (find bytes_cmp name es) (λ n. number ≤ n) → IfSome (cond b (Some e.1) (find bytes_cmp name es)) (λ n. number ≤ n)
    by true later = all.0
    by false later = later

module _ (image other : Image) (r : Repository) (s t : Slot) (number e0 n : ℕ) (offsets : List ℕ) (ended : Bool) (pair : Pair) (stands : StandsFor image r) (live : HasLive s image) (live' : HasLive t other)
    (collectable : IsCollectable stands.standing.records r s.horizon number t.horizon e0 offsets ended) (inside : e0 ≤ s.end)
    (valid : IsValid stands.standing.records t.horizon e0 pair) (swapped : IsSwapped s t number t.horizon n valid.kept pair)
    (mapping : other (Mapping n) ≡ Some pair.mapping) (prefix : other (Prefix n) ≡ Some pair.prefix) (same : SameChunks s.chunk t.horizon s.end image other) where
  abbrev A : Standing image
  A = stands.standing

  abbrev records : Records
  records = stands.standing.records

  abbrev kept : Records
  kept = valid.kept

  abbrev c : CommitRecord
  c = collectable.commit

  floor : t.floor ≡ c.number
  floor = swapped.floor ∙ sym collectable.number

  is_slot : A.slot ≡ s
  is_slot = slot_is image A live.control live.index live.held s live.live

  good : AreGood s [] records
  good = subst (λ (u : Slot). AreGood u [] records) is_slot A.good

  old_fits : WholeFits s records
  old_fits = subst (λ (u : Slot). WholeFits u records) is_slot A.fits

  -- ---- where the commit lies

  lies : LiesIn (layout_of s) image records
  lies = chunk_lies image s live A

  all_rise : Rises records
  all_rise = image_rises image A

  low_ordered : Ordered 0 lies.kept s.horizon
  low_ordered = runs_ordered (virtual_byte image (layout_of s) (map run_of lies.rows)) s.horizon 0 0 0 lies.rows lies.kept lies.generation.fits (omega arith) (omega arith) lies.runs

  -- it lies behind the kept runs, as they hold none
  commit_later : Has lies.later (t.horizon, Record.Commit c)
  commit_later = by (has_either lies.kept lies.later (t.horizon, Record.Commit c) (subst (λ (l : Records). Has l (t.horizon, Record.Commit c)) lies.is commit_there))
    where
      commit_there : Has records (t.horizon, Record.Commit c)
      commit_there = present_has records t.horizon (Record.Commit c) collectable.here

      by : Has lies.kept (t.horizon, Record.Commit c) ⊎ Has lies.later (t.horizon, Record.Commit c) → Has lies.later (t.horizon, Record.Commit c)
      by (inl there) =
          let (_, under, some) = ordered_has 0 lies.kept s.horizon (t.horizon, Record.Commit c) low_ordered there in
          let kind = (good_at s records all_rise good (t.horizon, Record.Commit c) (cut records (t.horizon, Record.Commit c) commit_there)).kept_kind (omega (arith, under, some)) in
          absurd (omega (arith, kind))
      by (inr there) = there

  f : ℕ → Option ℕ
  f = chunk_byte s.chunk image

  ends : EndsCut f s.horizon lies.later s.end (t.horizon, Record.Commit c)
  unfolding f
  ends = ends_cut (chunk_byte s.chunk image) s.horizon lies.later s.end (t.horizon, Record.Commit c) lies.lies commit_later

  over_old : s.horizon ≤ t.horizon
  over_old = goes_on 0 f s.horizon t.horizon ends.before ends.first

  parted : Parted records t.horizon c
  parted = record {
    low = lies.kept ++ ends.before;
    after = ends.after;
    is = lies.is ∙ ap (λ (l : Records). lies.kept ++ l) ends.is ∙ sym (append_assoc lies.kept ends.before ((t.horizon, Record.Commit c) ∷ ends.after));
    below = ordered_append 0 lies.kept ends.before s.horizon t.horizon low_ordered (ends_ordered f s.horizon ends.before t.horizon ends.first);
    rise = all_rise;
  }

  after_is : parted.after ≡ ends.after
  unfolding parted
  after_is = refl

  abbrev from_commit : Records
  from_commit = (t.horizon, Record.Commit c) ∷ parted.after

  from_commit_ends : EndToEnd f t.horizon from_commit s.end
  from_commit_ends = subst (λ (l : Records). EndToEnd f t.horizon ((t.horizon, Record.Commit c) ∷ l) s.end) (sym after_is) ends.second

  from_on : Ordered t.horizon from_commit s.end
  from_on = ends_ordered f t.horizon from_commit s.end from_commit_ends

  -- ---- what stays

  rests : RestsOn records t.horizon e0 kept
  rests = core_rests s records all_rise good t.horizon e0 kept valid.each offsets (let below = collectable.below in omega (arith, below)) collectable.reached collectable.core.keeps

  abbrev new : Records
  new = staying t.horizon kept records

  kept_and_later : new ≡ kept ++ from_commit
  kept_and_later = new_records s t records good swapped.version e0 c parted s.end from_on floor kept valid.each rests

  new_remain : new ≡ remaining t.horizon kept records
  new_remain = staying_is records all_rise t.horizon kept (kept_rises s records all_rise good t.horizon e0 kept valid.each) (kept_among s records all_rise good t.horizon e0 kept valid.each)

  kept_order : Ordered 0 kept t.horizon
  kept_order = kept_ordered s t records good swapped.version e0 c parted s.end from_on floor kept valid.each rests

  is_floor : t.floor ≡ s.floor + length (commits_in parted.low)
  is_floor = floor_is s t records good swapped.version e0 c parted s.end from_on floor kept valid.each rests

  some_horizon : 0 < t.horizon
  some_horizon = let under = commit_under s t records good swapped.version e0 c parted s.end from_on floor kept valid.each rests in omega (arith, under)

  -- ---- the generation

  abbrev rows : List Row
  rows = placed 0 (runs_of kept)

  rows_fit : RowsFitFrom t.horizon 0 0 rows
  rows_fit = rows_in_order t.horizon 0 0 kept kept_order

  mapping_is : other (Mapping t.live) ≡ Some pair.mapping
  mapping_is = ap (λ (n : ℕ). other (Mapping n)) swapped.live ∙ mapping

  prefix_is : other (Prefix t.live) ≡ Some (kept_bytes kept)
  prefix_is = ap (λ (n : ℕ). other (Prefix n)) swapped.live ∙ prefix ∙ ap Some valid.prefix

  prefix_size : t.prefix_len ≡ length (kept_bytes kept)
  prefix_size = swapped.prefix_len ∙ ap length valid.prefix

  generation : Generation other (layout_of t) rows
  generation = record {
    file = λ some. record {
      end = e0;
      file = mapping_is ∙ ap Some valid.mapping;
      count = rows_many 0 (runs_of kept) ∙ sym swapped.rows;
      numbers = rows_numbers t.horizon 0 0 rows (let low = live'.live.fields.horizon in let end = live'.live.fields.ends in omega (arith, low, end)) (omega arith) rows_fit;
      above = collectable.below;
      inside = subst (λ (n : ℕ). e0 ≤ n) (sym swapped.end) inside;
    };
    fits = rows_fit;
    sum = ap total (runs_again 0 (runs_of kept)) ∙ rows_total kept ∙ sym prefix_size;
    prefix = λ some. subst (λ (o : Option Bytes). IsSomeAnd o (λ bytes. length bytes ≡ t.prefix_len)) (sym prefix_is) (sym prefix_size);
    none = λ none. (let zero = live'.live.fields.none_live.0 none in let some = some_horizon in absurd (omega (arith, zero, some)));
  }

  -- ---- the records in it

  g : ℕ → Option ℕ
  g = virtual_byte other (layout_of t) (runs_of kept)

  kept_hold : RunByRun g (runs_of kept) kept
  unfolding g
  kept_hold = runs_filled g kept (λ y has k l.
      let (_, under, _) = ordered_has 0 kept t.horizon y kept_order has in
      below_byte other (layout_of t) (runs_of kept) (y.0 + k) (omega (arith, under, l)) ∙ kept_stand (other (Prefix t.live)) kept 0 t.horizon prefix_is kept_order y has k l)

  from_commit_hold : EndToEnd (chunk_byte t.chunk other) t.horizon from_commit t.end
  unfolding f
  from_commit_hold = subst (λ (n : ℕ). EndToEnd (chunk_byte t.chunk other) t.horizon from_commit n) (sym swapped.end)
      (ends_over f (chunk_byte t.chunk other) t.horizon from_commit s.end (λ k b low high is. ap (λ (size : ℕ). chunk_byte size other k) swapped.chunk ∙ same k low high ∙ is) from_commit_ends)

  new_lies : LiesIn (layout_of t) other new
  unfolding g
  new_lies = record {
    rows = rows;
    kept = kept;
    later = from_commit;
    is = kept_and_later;
    generation = generation;
    runs = subst (λ (runs : List Run). RunByRun (virtual_byte other (layout_of t) runs) runs kept) (sym (runs_again 0 (runs_of kept))) kept_hold;
    lies = from_commit_hold;
  }

  -- ---- the whole

  good_new : AreGood t [] new
  good_new = new_good s t records good swapped.version e0 c parted s.end from_on floor kept valid.each rests

  commits_new : commits_in new ≡ commits_in from_commit
  commits_new = new_commits s t records good swapped.version e0 c parted s.end from_on floor kept valid.each rests

  commits_old : commits_in records ≡ commits_in parted.low ++ commits_in from_commit
  commits_old = old_commits s t records good swapped.version e0 c parted s.end from_on floor kept valid.each rests

  branches_same : named Names.branches new ≡ named Names.branches records
  branches_same =
      let table = collectable.table in
      new_branches s t records good swapped.version e0 c parted s.end from_on floor kept valid.each rests table.at table.rows table.above table.here

  tags_same : named Names.tags new ≡ named Names.tags records
  tags_same = new_tags s t records good swapped.version e0 c parted s.end from_on floor kept valid.each rests

  tags_none : named Names.tags new ≡ empty
  tags_none = no_tags t empty [] new good_new

  fits : WholeFits t new
  unfolding empty
  fits = record {
    next =
        (let was = old_fits.next in
        let next = swapped.next in
        let low = is_floor in
        let all = ap length commits_old ∙ length-append (commits_in parted.low) (commits_in from_commit) in
        let left = ap length commits_new in
        omega (arith, was, next, low, all, left));
    branches = subst (AreRetained t) (sym branches_same) (record { each = each; few = old_fits.branches.few });
    tags = subst (AreRetained t) (sym tags_none) (record { each = λ name. tt; few = omega arith });
  }
    where
      both : (o : Option ℕ) → IfSome o (λ n. (s.floor ≤ n) × (n < s.next)) → IfSome o (λ n. number ≤ n) → IfSome o (λ n. (t.floor ≤ n) × (n < t.next))
      both None was held = tt
      both (Some n) was held = let over = was.1 in let next = swapped.next in let floor = swapped.floor in (omega (arith, held, floor), omega (arith, over, next))

      heads : (name : Bytes) → IfSome (get r.branches name) (λ n. number ≤ n)
      heads name = no_head_below number r.branches.entries (recursion_from_All (λ (e : Bytes × ℕ). number ≤ e.1) r.branches.entries collectable.heads) name

      each : (name : Bytes) → IfSome (get (named Names.branches records) name) (λ n. (t.floor ≤ n) × (n < t.next))
      each name = both (get (named Names.branches records) name) (old_fits.branches.each name) (subst (λ (m : Map bytes_cmp ℕ). IfSome (get m name) (λ n. number ≤ n)) stands.branches (heads name))

  raised : drop (length (commits_in parted.low)) r.commits ≡ (collected_at r number).commits
  raised =
      let old = stands.floor ∙ ap (λ (u : Slot). u.floor) is_slot in
      let new = is_floor in
      let floor = swapped.floor in
      ap (λ (n : ℕ). drop n r.commits) (omega (arith, old, new, floor))

  after : InChunk t other (collected_at r number)
  after = record {
    records = new;
    lies = new_lies;
    good = good_new;
    fits = fits;
    floor = sym swapped.floor;
    commits = subst (AllZip (Spells new) (commits_in new)) raised (new_spelled s t records good swapped.version e0 c parted s.end from_on floor kept valid.each rests r.commits stands.commits);
    branches = stands.branches ∙ sym branches_same;
    tags = stands.tags ∙ sym tags_same;
  }

  after_records : after.records ≡ new
  unfolding after
  after_records = refl

  pub swap_stands : (after : StandsFor other (collected_at r number)) × (after.standing.records ≡ remaining t.horizon kept records)
  swap_stands = (stands_by other t live' (collected_at r number) after, same_standing other t live' (collected_at r number) after ∙ after_records ∙ new_remain)

-- with the horizon as the slot says it
pub stands_collected : StandsCollected
stands_collected image other r s t number h e0 n offsets ended pair stands live live' collectable inside valid swapped mapping prefix same =
    subst Swaps swapped.horizon (λ collectable valid swapped same. swap_stands image other r s t number e0 n offsets ended pair stands live live' collectable inside valid swapped mapping prefix same) collectable valid swapped same
  where
    Swaps : ℕ → Type 0
    Swaps h = IsCollectable stands.standing.records r s.horizon number h e0 offsets ended → (valid : IsValid stands.standing.records h e0 pair) → IsSwapped s t number h n valid.kept pair → SameChunks s.chunk h s.end image other
        → (after : StandsFor other (collected_at r number)) × (after.standing.records ≡ remaining h valid.kept stands.standing.records)
