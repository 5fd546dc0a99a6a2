-- How what an image stands for goes on with a record of a branch.
--     stands_renamed      with a record that sets a branch, takes one away, or says all of them behind its records
--     stands_tabled      a record that says all of them as they are changes none, and lies behind the others
--     few_without, get_without      a map of branches without one of them
use Rattle.std.proofs.Common.{◌≡◌, ℕ, ◌+◌, ◌<◌, ◌≤◌, List, [], ◌∷◌, ◌++◌, refl, sym, ap, subst, ◌∙◌, Option, None, Bool, true, false, cond, length, arith, append-nil, map}
use Rattle.std.proofs.lemmas.Bool.Decides.{nat_tests}
use Rattle.std.proofs.lemmas.List.Elements.{All-from_recursion, filter_map-append}
use Rattle.std.proofs.lemmas.List.Sums.{fold-append}
use Rattle.std.specs.Prelude.{IfSome, not, nat_le, nat_lt, ◌&&◌}
use Rattle.std.specs.List.{AllZip}
use Rattle.std.specs.Cmp.Lexicographic.{nat_list_cmp_total}
use Rattle.std.specs.FinMap.Entries.{length_without}
use Rattle.std.specs.Ordering.{eq_by_cmp}
use Rattle.ip_ground.specs.Contents.{Image}
use Rattle.ip_spec.specs.declared.record.Record.{Record}
use Rattle.ip_spec.specs.declared.record.CommitRecord.{CommitRecord}
use Rattle.ip_spec.specs.Map.{Map, empty, get, remove, from_entries, retain_keys, len, get-retain_keys}
use Rattle.ip_spec.specs.Path.{Bytes, bytes_cmp}
use Rattle.ip_spec.specs.Record.{Names, Fits, spelling, spelling_of}
use Rattle.ip_spec.specs.TreeAt.{Records}
use Rattle.ip_spec.specs.Repository.{Repository, next}
use Rattle.ip_spec.proofs.Subtrees.{step_antisymmetric}
use Rattle.ip_image.specs.Slot.{Slot, IsSlot, layout_of}
use Rattle.ip_image.specs.Standing.{RecordFits, IsServedKind, commit_of, commits_in, names_after, named, row_of, AreRetained, WholeFits, Spells, StandsFor, terms_of}
use Rattle.ip_image.specs.Appending.{SameGeneration, AddsBytes, MayName, renamed, bytes_of_records, StandsRenamed}
use Rattle.ip_image.specs.Pending.{HasLive}
use Rattle.ip_image.proofs.RecordsOn.{records_go_on}
use Rattle.ip_spec.specs.declared.record.Branch.{Branch}
use Rattle.ip_image.proofs.InChunk.{LiesIn, lies_on, lies_above, InChunk, in_chunk, stands_by}
use Rattle.ip_image.proofs.AppendingLaws.{good_append, still_good, good_one, still_retained, set_retained}
use Rattle.ip_image.proofs.NextCommit.{next_number}
use Rattle.ip_image.proofs.SpelledCommits.{present_front, each_spelled}
use Rattle.ip_image.proofs.Tables.{made_again}

-- ---- a map without a key

abbrev Branches : Type 0
Branches = Map bytes_cmp ℕ

pub get_without : (m : Branches) (name q : Bytes) → get (remove m name) q ≡ cond (not (eq_by_cmp bytes_cmp name q)) (get m q) None
get_without m name q = get-retain_keys nat_list_cmp_total m (λ x. not (eq_by_cmp bytes_cmp name x)) q (λ x e. ap (λ y. not (eq_by_cmp bytes_cmp name y)) (sym (step_antisymmetric q x e)))

pub few_without : (m : Branches) (name : Bytes) → len (remove m name) ≤ len m
unfolding retain_keys
few_without m name = by _ _ _ (length_without bytes_cmp nat_list_cmp_total name m.entries m.sorted)
  where
    by : (b : Bool) (n k : ℕ) → cond b 1 0 + n ≡ k → n ≤ k
    by true n k e = omega (arith, e)
    by false n k e = omega (arith, e)

-- ---- the record

fits_anywhere : (s : Slot) (r : Repository) (before : Records) (at : ℕ) (x : Record) → MayName r x → RecordFits (terms_of s) before at x
fits_anywhere s r before at (Record.BranchSet number name) may = tt
fits_anywhere s r before at (Record.BranchRemove name) may = tt
fits_anywhere s r before at (Record.BranchTable rows) may = tt
fits_anywhere s r before at _ may = absurd may

no_commit : (r : Repository) (at : ℕ) (x : Record) → MayName r x → commits_in ((at, x) ∷ []) ≡ []
no_commit r at (Record.BranchSet number name) may = refl
no_commit r at (Record.BranchRemove name) may = refl
no_commit r at (Record.BranchTable rows) may = refl
no_commit r at _ may = absurd may

no_tag : (r : Repository) (m : Branches) (x : Record) → MayName r x → names_after Names.tags m x ≡ m
no_tag r m (Record.BranchSet number name) may = refl
no_tag r m (Record.BranchRemove name) may = refl
no_tag r m (Record.BranchTable rows) may = refl
no_tag r m _ may = absurd may

-- ---- behind the records of a repository

within : (floor n m : ℕ) → (nat_le floor n && nat_lt n m) ≡ true → (floor ≤ n) × (n < m)
within floor n m is = (low floor n m is, high floor n m is)
  where
    low : (floor n m : ℕ) → (nat_le floor n && nat_lt n m) ≡ true → floor ≤ n
    low floor n m is = grind (arith, nat_tests)

    high : (floor n m : ℕ) → (nat_le floor n && nat_lt n m) ≡ true → n < m
    high floor n m is = grind (arith, nat_tests)

module _ (s : Slot) (fields : IsSlot s) (image : Image) (r : Repository) (chunk : InChunk s image r) (x : Record) (may : MayName r x) (fits : Fits s.version x) (served : IsServedKind x) where
  abbrev old : Records
  old = chunk.records

  abbrev new : ℕ × Record
  new = (s.end, x)

  all_commits : commits_in (old ++ new ∷ []) ≡ commits_in old
  all_commits = filter_map-append commit_of old (new ∷ []) ∙ ap (λ cs. commits_in old ++ cs) (no_commit r s.end x may) ∙ append-nil (commits_in old)

  all_names : (names : Names) → named names (old ++ new ∷ []) ≡ names_after names (named names old) x
  all_names names = fold-append (λ m (y : ℕ × Record). names_after names m y.1) empty old (new ∷ [])

  branches_after : names_after Names.branches r.branches x ≡ named Names.branches (old ++ new ∷ [])
  branches_after = ap (λ (m : Branches). names_after Names.branches m x) chunk.branches ∙ sym (all_names Names.branches)

  tags_same : named Names.tags (old ++ new ∷ []) ≡ named Names.tags old
  tags_same = all_names Names.tags ∙ no_tag r (named Names.tags old) x may

  commits_after : AllZip (Spells (old ++ new ∷ [])) (commits_in (old ++ new ∷ [])) r.commits
  commits_after = subst (λ (cs : List CommitRecord). AllZip (Spells (old ++ new ∷ [])) cs r.commits) (sym all_commits)
      (each_spelled old (old ++ new ∷ []) (present_front old (new ∷ [])) (commits_in old) r.commits chunk.commits)

  module _ (t : Slot) (same : SameGeneration s t) (same_next : t.next ≡ s.next) where
    still : (m : Branches) → AreRetained s m → AreRetained t m
    still m is = still_retained s t same (omega (arith, same_next)) m is

    was : AreRetained t r.branches
    was = still r.branches (subst (AreRetained s) (sym chunk.branches) chunk.fits.branches)

    retained : (x : Record) → MayName r x → AreRetained t (names_after Names.branches r.branches x)
    retained (Record.BranchSet number name) may =
        let (low, high) = within r.floor number (next r) may.0 in
        let f = chunk.floor in
        let g = same.floor in
        let n = next_number s image r fields chunk in
        set_retained t r.branches name number (omega (arith, low, f, g)) (omega (arith, high, n, same_next)) may.1 was
    retained (Record.BranchRemove name) may = record { each = each; few = (let few = few_without r.branches name in let all = was.few in omega (arith, few, all)) }
      where
        by : (b : Bool) (o : Option ℕ) → IfSome o (λ n. (t.floor ≤ n) × (n < t.next)) → IfSome (cond b o None) (λ n. (t.floor ≤ n) × (n < t.next))
        by true o is = is
        by false o is = tt

        each : (q : Bytes) → IfSome (get (remove r.branches name) q) (λ n. (t.floor ≤ n) × (n < t.next))
        each q = subst (λ (o : Option ℕ). IfSome o (λ n. (t.floor ≤ n) × (n < t.next))) (sym (get_without r.branches name q)) (by (not (eq_by_cmp bytes_cmp name q)) (get r.branches q) (was.each q))
    retained (Record.BranchTable rows) may = subst (AreRetained t) (sym (ap from_entries may ∙ made_again r.branches)) was
    retained _ may = absurd may

    fits_after : WholeFits t (old ++ new ∷ [])
    fits_after = record {
      next = (let is = chunk.fits.next in let floor = same.floor in let all = ap length all_commits in omega (arith, is, all, floor, same_next));
      branches = subst (AreRetained t) branches_after (retained x may);
      tags = subst (AreRetained t) (sym tags_same) (still (named Names.tags old) chunk.fits.tags);
    }

    renamed_chunk : (other : Image) → LiesIn (layout_of t) other (old ++ new ∷ []) → InChunk t other (renamed r x)
    renamed_chunk other lies = record {
      records = old ++ new ∷ [];
      lies = lies;
      good = still_good s t same [] (old ++ new ∷ []) (good_append s [] old (new ∷ []) chunk.good (good_one s fields old new (lies_above image (layout_of s) fields.horizon old chunk.lies) (fits, served) (fits_anywhere s r old s.end x may), tt));
      fits = fits_after;
      floor = chunk.floor ∙ sym same.floor;
      commits = commits_after;
      branches = branches_after;
      tags = chunk.tags ∙ sym tags_same;
    }

pub spelled_is : (at : ℕ) (x : Record) → spelling x ≡ bytes_of_records ((at, x) ∷ [])
unfolding spelling_of
spelled_is at x = sym (append-nil (spelling x))

pub stands_renamed : StandsRenamed
stands_renamed image other r s t x stands live may fits served live' same ends next adds =
    let chunk = in_chunk image s live r stands in
    let adds : AddsBytes s (bytes_of_records ((s.end, x) ∷ [])) image other = subst (λ (bytes : Bytes). AddsBytes s bytes image other) (spelled_is s.end x) adds in
    stands_by other t live' (renamed r x)
    (renamed_chunk s live.live.fields image r chunk x may fits served t same next other
    (lies_on s t image other live.live.fields.none_live.0 same chunk.records ((s.end, x) ∷ []) chunk.lies (refl, sym ends) adds))

table_renames_none : (r : Repository) (rows : List Branch) → map row_of rows ≡ r.branches.entries → renamed r (Record.BranchTable rows) ≡ r
table_renames_none r rows is = λ i. record r { branches = (ap from_entries is ∙ made_again r.branches) i }

pub stands_tabled : (image other : Image) (r : Repository) (s t : Slot) (rows : List Branch) (stands : StandsFor image r) → HasLive s image → map row_of rows ≡ r.branches.entries → Fits s.version (Record.BranchTable rows)
    → HasLive t other → SameGeneration s t → t.end ≡ s.end + length (spelling (Record.BranchTable rows)) → t.next ≡ s.next → AddsBytes s (spelling (Record.BranchTable rows)) image other
    → (after : StandsFor other r) × (after.standing.records ≡ stands.standing.records ++ (s.end, Record.BranchTable rows) ∷ [])
stands_tabled image other r s t rows stands live all fits live' same ends next adds =
    let table = Record.BranchTable rows in
    let after = subst (StandsFor other) (table_renames_none r rows all) (stands_renamed image other r s t table stands live all fits tt live' same ends next adds) in (
      after,
      records_go_on image other s t ((s.end, table) ∷ []) stands.standing after.standing live live' same (refl, sym ends)
          (All-from_recursion (λ (x : ℕ × Record). Fits t.version x.1) ((s.end, table) ∷ []) (subst (λ (v : ℕ). Fits v table) (sym same.version) fits, tt))
          (subst (λ (bytes : Bytes). AddsBytes s bytes image other) (spelled_is s.end table) adds),
    )
