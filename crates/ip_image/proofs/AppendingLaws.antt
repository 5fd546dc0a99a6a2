-- How what an image stands for goes on.
--     stands_still      with the same records it stands for the same repository
--     stands_grown      with the records of a commit behind them, for the repository after the commit
--     some_repository      an image that holds all that it must stands for some repository
--     good_append, still_good, good_one      records that are good behind others, under a slot of the same generation, and behind the commit that it begins with
--     still_retained, set_retained      branches at retained commits, there, and with one that was set
use Rattle.std.proofs.Common.{◌≡◌, ◌≢◌, ◌⊎◌, inl, inr, ℕ, ◌+◌, ◌<◌, ◌≤◌, List, [], ◌∷◌, ◌++◌, refl, sym, ap, subst, ◌∙◌, Option, Some, None, Bool, true, false, cond, length, arith, append_assoc, append-nil, length-append}
use Rattle.std.proofs.lemmas.List.Elements.{recursion_from_All, filter_map-append}
use Rattle.std.proofs.lemmas.List.Sums.{fold-append}
use Rattle.std.specs.Prelude.{IfSome, fold}
use Rattle.std.specs.List.{AllByRecursion, AllZip, cons_option}
use Rattle.std.specs.Cmp.Lexicographic.{nat_list_cmp_total}
use Rattle.std.specs.Ordering.{eq_by_cmp}
use Rattle.ip_base.specs.declared.info.Info.{Info}
use Rattle.ip_ground.specs.Contents.{Image}
use Rattle.ip_spec.specs.declared.record.Record.{Record}
use Rattle.ip_spec.specs.declared.record.CommitRecord.{CommitRecord}
use Rattle.ip_spec.specs.Map.{Map, empty, get, insert, len, get-insert}
use Rattle.ip_spec.specs.Path.{Bytes, bytes_cmp}
use Rattle.ip_spec.specs.Record.{Names, Fits, kind_of, spelling, spelling_of}
use Rattle.ip_spec.specs.TreeAt.{Records, present, TreeAt}
use Rattle.ip_spec.specs.View.{View}
use Rattle.ip_spec.specs.Batch.{CommitFields, Sources, AreEndToEnd, KnownStand, SourcesStand, batch, batch_end}
use Rattle.ip_spec.specs.Repository.{Repository, Commit, next}
use Rattle.ip_spec.specs.Step.{new_commit, with_commit}
use Rattle.ip_spec.proofs.TreeAtLaws.{more_part}
use Rattle.ip_spec.proofs.BatchLaws.{batch_lies}
use Rattle.ip_spec.proofs.Widths.{none_wider}
use Rattle.ip_image.specs.Slot.{Slot, IsSlot, layout_of}
use Rattle.ip_image.specs.Standing.{Terms, RecordFits, IsServedKind, IsGood, AreGood, commit_of, commits_in, names_after, named, AreRetained, WholeFits, Spells, terms_of, may_be_outside}
use Rattle.ip_image.specs.Appending.{SameGeneration, MayGrow, fields_of, AreWithin, StandsStill, StandsGrown}
use Rattle.ip_image.proofs.OneRepository.{zero_or_not}
use Rattle.ip_image.proofs.InChunk.{LiesIn, lies_on, lies_above, InChunk, in_chunk, same_in_chunk, stands_by, same_standing}
use Rattle.ip_image.proofs.TreeParts.{all_left, all_right, IsTreePart, AreTreeParts}
use Rattle.ip_image.proofs.TreeBatch.{commit_record, TreeBatch, tree_behind}
use Rattle.ip_image.proofs.NextCommit.{next_number, commit_fits, spells_next}
use Rattle.ip_image.proofs.SpelledCommits.{FitCommits, present_front, each_spelled, zip_append}
pub use Rattle.ip_image.proofs.SpelledCommits.{some_repository}

-- ---- good records

pub good_append : (s : Slot) (pre xs ys : Records) → AreGood s pre xs → AreGood s (pre ++ xs) ys → AreGood s pre (xs ++ ys)
good_append s pre [] ys good later = subst (λ (before : Records). AreGood s before ys) (append-nil pre) later
good_append s pre (x ∷ xs) ys good later = (good.0, good_append s (pre ++ x ∷ []) xs ys good.1 (subst (λ (before : Records). AreGood s before ys) (sym (append_assoc pre (x ∷ []) xs)) later))

-- a record is tested against nothing that differs within a generation
pub still_good : (s t : Slot) → SameGeneration s t → (pre xs : Records) → AreGood s pre xs → AreGood t pre xs
still_good s t same pre [] good = tt
still_good s t same pre (x ∷ xs) good = (
  record {
    bounds = subst (λ (v : ℕ). Fits v x.1) (sym same.version) good.0.bounds;
    served = good.0.served;
    kept_kind = λ low. good.0.kept_kind (subst (λ (h : ℕ). x.0 < h) same.horizon low);
    first = λ some at. good.0.first (λ none. some (same.live ∙ none)) (at ∙ same.horizon);
    fits = subst (λ (terms : Terms). RecordFits terms pre x.0 x.1) (sym same_terms) good.0.fits;
  },
  still_good s t same (pre ++ x ∷ []) xs good.1,
)
  where
    same_terms : terms_of t ≡ terms_of s
    same_terms = λ i. record { floor = same.floor i; outside_allowed = may_be_outside (same.version i) }

abbrev IsWithin : ℕ → ℕ × Record → Type 0
IsWithin version x = Fits version x.1 × IsServedKind x.1

-- it lies behind the commit that a generation begins with
abbrev pub IsBehind : Slot → ℕ → Type 0
IsBehind s at = s.live ≢ 0 → s.horizon < at

abbrev AreBehind : Slot → Records → Type 0
AreBehind s xs = AllByRecursion (λ (x : ℕ × Record). IsBehind s x.0) xs

module _ (s : Slot) (fields : IsSlot s) where
  -- below the horizon, and at it, kinds are tested
  pub good_one : (before : Records) (x : ℕ × Record) → IsBehind s x.0 → IsWithin s.version x → RecordFits (terms_of s) before x.0 x.1 → IsGood s before x
  good_one before x behind within fits = record {
    bounds = within.0;
    served = within.1;
    kept_kind = λ l. by l (zero_or_not s.live);
    first = λ some at. (let late = behind some in absurd (omega (arith, late, at)));
    fits = fits;
  }
    where
      by : x.0 < s.horizon → (s.live ≡ 0) ⊎ (s.live ≢ 0) → kind_of x.1 ≤ 3
      by l (inl nothing) = let zero = fields.none_live.0 nothing in absurd (omega (arith, l, zero))
      by l (inr some) = let late = behind some in absurd (omega (arith, late, l))

  good_fits : (before xs : Records) → AreBehind s xs → AllByRecursion (IsWithin s.version) xs → FitCommits (terms_of s) before xs → AreGood s before xs
  good_fits before [] behind within fit = tt
  good_fits before (x ∷ xs) behind within fit = (good_one before x behind.0 within.0 fit.0, good_fits (before ++ x ∷ []) xs behind.1 within.1 fit.1)

-- records from there on lie behind it
all_behind : (s : Slot) (from : ℕ) (xs : Records) (to : ℕ) → IsBehind s from → AreEndToEnd from xs to → AreBehind s xs
all_behind s from [] to behind e = tt
all_behind s from (x ∷ xs) to behind e =
    ((λ some. let late = behind some in let at = e.0 in omega (arith, late, at)), all_behind s (from + length (spelling x.1)) xs to (λ some. let late = behind some in omega (arith, late)) e.1)

-- ---- what the parts of a tree leave as it was

abbrev names_from : Names → Map bytes_cmp ℕ → Records → Map bytes_cmp ℕ
names_from names m records = fold (λ m (x : ℕ × Record). names_after names m x.1) m records

module _ (J : ℕ → Option Record) where
  no_commits : (xs : Records) → AreTreeParts J xs → commits_in xs ≡ []
  no_commits [] are = refl
  no_commits (x ∷ xs) are = by x.0 x.1 are.0 ∙ no_commits xs are.1
    where
      by : (at : ℕ) (r : Record) → IsTreePart J at r → cons_option (commit_of (at, r)) (commits_in xs) ≡ commits_in xs
      by at (Record.Contents bytes) part = refl
      by at (Record.Leaf fields) part = refl
      by at (Record.Inode depth children) part = refl
      by at _ part = absurd part

  no_name : (names : Names) (m : Map bytes_cmp ℕ) (at : ℕ) (r : Record) → IsTreePart J at r → names_after names m r ≡ m
  no_name Names.branches m at (Record.Contents bytes) part = refl
  no_name Names.branches m at (Record.Leaf fields) part = refl
  no_name Names.branches m at (Record.Inode depth children) part = refl
  no_name Names.tags m at (Record.Contents bytes) part = refl
  no_name Names.tags m at (Record.Leaf fields) part = refl
  no_name Names.tags m at (Record.Inode depth children) part = refl
  no_name names m at _ part = absurd part

  names_pass : (names : Names) (m : Map bytes_cmp ℕ) (xs later : Records) → AreTreeParts J xs → names_from names m (xs ++ later) ≡ names_from names m later
  names_pass names m [] later are = refl
  names_pass names m (x ∷ xs) later are = ap (λ n. names_from names n (xs ++ later)) (no_name names m x.0 x.1 are.0) ∙ names_pass names m xs later are.1

-- ---- names

pub still_retained : (s t : Slot) → SameGeneration s t → s.next ≤ t.next → (m : Map bytes_cmp ℕ) → AreRetained s m → AreRetained t m
still_retained s t same more m is = record { each = λ name. by (get m name) (is.each name); few = is.few }
  where
    by : (o : Option ℕ) → IfSome o (λ n. (s.floor ≤ n) × (n < s.next)) → IfSome o (λ n. (t.floor ≤ n) × (n < t.next))
    by None is = tt
    by (Some n) (low, high) = let floor = same.floor in (omega (arith, low, floor), omega (arith, high, more))

pub set_retained : (t : Slot) (m : Map bytes_cmp ℕ) (name : Bytes) (number : ℕ) → t.floor ≤ number → number < t.next → len (insert m name number) ≤ 4096 → AreRetained t m → AreRetained t (insert m name number)
set_retained t m name number low high few is = record {
  each = λ q. subst (λ (o : Option ℕ). IfSome o (λ n. (t.floor ≤ n) × (n < t.next))) (sym (get-insert nat_list_cmp_total m name number q)) (by (eq_by_cmp bytes_cmp q name) (get m q) (is.each q));
  few = few;
}
  where
    by : (b : Bool) (o : Option ℕ) → IfSome o (λ n. (t.floor ≤ n) × (n < t.next)) → IfSome (cond b (Some number) o) (λ n. (t.floor ≤ n) × (n < t.next))
    by true o is = (low, high)
    by false o is = is

-- ---- the same records

pub stands_still : StandsStill
unfolding spelling_of
stands_still image other r s t stands live live' same end next space =
    let chunk = in_chunk image s live r stands in
    let more : s.next ≤ t.next = omega (arith, next) in
    stands_by other t live' r (record {
      records = chunk.records;
      lies = subst (LiesIn (layout_of t) other) (append-nil chunk.records)
          (lies_on s t image other live.live.fields.none_live.0 same chunk.records [] chunk.lies (sym end) (record { same = space; added = λ k l. absurd (omega (arith, l)) }));
      good = still_good s t same [] chunk.records chunk.good;
      fits = record {
        next = (let is = chunk.fits.next in let floor = same.floor in omega (arith, is, next, floor));
        branches = still_retained s t same more (named Names.branches chunk.records) chunk.fits.branches;
        tags = still_retained s t same more (named Names.tags chunk.records) chunk.fits.tags;
      };
      floor = chunk.floor ∙ sym same.floor;
      commits = chunk.commits;
      branches = chunk.branches;
      tags = chunk.tags;
    })

-- ---- a commit's records behind those of its repository

module _ (s : Slot) (fields : IsSlot s) (image : Image) (r : Repository) (chunk : InChunk s image r) (v : View) (from : Sources) (parents : List ℕ) (info : Info) (branch : Bytes)
    (may : MayGrow r v.map parents info branch) (known : KnownStand (present chunk.records) v s.end) (stand : SourcesStand (present chunk.records) v from)
    (within : AreWithin s.version (batch v from (fields_of r parents info branch) s.end)) where
  abbrev old : Records
  old = chunk.records

  abbrev f : CommitFields
  f = fields_of r parents info branch

  abbrev new : Records
  new = batch v from f s.end

  abbrev after : Commit
  after = new_commit r v.map parents info

  all_within : AllByRecursion (IsWithin s.version) new
  all_within = recursion_from_All (IsWithin s.version) new within

  tree : TreeBatch (terms_of s) v from f s.end old
  tree = tree_behind (terms_of s) v from f s.end old known stand may.is_tree (λ p. let most = none_wider v.map p in let narrow = may.narrow in omega (arith, most, narrow))

  abbrev parts : Records
  parts = tree.parts

  abbrev c : CommitRecord
  c = commit_record v.map f tree.root

  abbrev commit : ℕ × Record
  commit = (tree.commit_at, Record.Commit c)

  abbrev set : ℕ × Record
  set = (tree.branch_at, Record.BranchSet (next r) branch)

  -- what the commit record stands behind
  abbrev before : Records
  before = old ++ parts

  all_there : before ++ commit ∷ set ∷ [] ≡ old ++ new
  all_there = append_assoc old parts (commit ∷ set ∷ []) ∙ ap (λ rs. old ++ rs) (sym tree.is)

  root_stays : TreeAt (present (old ++ new)) tree.root v.map
  root_stays = subst (λ (rs : Records). TreeAt (present rs) tree.root v.map) all_there
      (tree.spelled.0, more_part (present before) (present (before ++ commit ∷ set ∷ [])) (present_front before (commit ∷ set ∷ [])) tree.spelled.1)

  same_commits : commits_in before ≡ commits_in old
  same_commits = filter_map-append commit_of old parts ∙ ap (λ cs. commits_in old ++ cs) (no_commits (present before) parts tree.are_parts) ∙ append-nil (commits_in old)

  all_commits : commits_in (old ++ new) ≡ commits_in old ++ c ∷ []
  all_commits = ap commits_in (sym all_there) ∙ filter_map-append commit_of before (commit ∷ set ∷ []) ∙ ap (λ cs. cs ++ c ∷ []) same_commits

  all_names : (names : Names) → named names (old ++ new) ≡ names_from names (named names old) (commit ∷ set ∷ [])
  all_names names =
      fold-append (λ m (x : ℕ × Record). names_after names m x.1) empty old new
      ∙ ap (names_from names (named names old)) tree.is
      ∙ names_pass (present before) names (named names old) parts (commit ∷ set ∷ []) tree.are_parts

  branches_after : insert r.branches branch (next r) ≡ named Names.branches (old ++ new)
  branches_after = ap (λ (m : Map bytes_cmp ℕ). insert m branch (next r)) chunk.branches ∙ sym (all_names Names.branches)

  tags_after : r.tags ≡ named Names.tags (old ++ new)
  tags_after = chunk.tags ∙ sym (all_names Names.tags)

  -- ---- what the records are tested for

  pieces_within : AllByRecursion (IsWithin s.version) (parts ++ commit ∷ set ∷ [])
  pieces_within = subst (AllByRecursion (IsWithin s.version)) tree.is all_within

  last_within : AllByRecursion (IsWithin s.version) (commit ∷ set ∷ [])
  last_within = all_right (IsWithin s.version) parts (commit ∷ set ∷ []) pieces_within

  behind : IsBehind s s.end
  behind = lies_above image (layout_of s) fields.horizon old chunk.lies

  pieces_behind : AreBehind s (parts ++ commit ∷ set ∷ [])
  pieces_behind = subst (AreBehind s) tree.is (all_behind s s.end new (batch_end v from f s.end) behind (batch_lies v from f s.end))

  last_behind : AreBehind s (commit ∷ set ∷ [])
  last_behind = all_right (λ (x : ℕ × Record). IsBehind s x.0) parts (commit ∷ set ∷ []) pieces_behind

  good_commit : IsGood s before commit
  good_commit = good_one s fields before commit last_behind.0 last_within.0 (commit_fits s image r fields chunk v.map parents info branch may tree.root before tree.commit_at same_commits tree.spelled tree.root_below)

  good_batch : AreGood s old new
  good_batch = subst (AreGood s old) (sym tree.is)
      (good_append s old parts (commit ∷ set ∷ [])
      (good_fits s fields old parts (all_left (λ (x : ℕ × Record). IsBehind s x.0) parts (commit ∷ set ∷ []) pieces_behind) (all_left (IsWithin s.version) parts (commit ∷ set ∷ []) pieces_within) tree.fit)
      (good_commit, (good_one s fields (before ++ commit ∷ []) set last_behind.1.0 last_within.1.0 tt, tt)))

  number_is : next r ≡ s.next
  number_is = next_number s image r fields chunk

  commits_after : AllZip (Spells (old ++ new)) (commits_in (old ++ new)) (r.commits ++ after ∷ [])
  commits_after = subst (λ (cs : List CommitRecord). AllZip (Spells (old ++ new)) cs (r.commits ++ after ∷ [])) (sym all_commits)
      (zip_append (Spells (old ++ new)) (commits_in old) (c ∷ []) r.commits (after ∷ [])
      (each_spelled old (old ++ new) (present_front old new) (commits_in old) r.commits chunk.commits)
      (spells_next s image r fields chunk v.map parents info branch may tree.root (old ++ new) root_stays, tt))

  -- ---- the repository after the commit

  module _ (t : Slot) (same : SameGeneration s t) (one_more : t.next ≡ s.next + 1) where
    more : s.next ≤ t.next
    more = omega (arith, one_more)

    branches_fit : AreRetained t (named Names.branches (old ++ new))
    branches_fit =
        let low = fields.floor in
        let floor = same.floor in
        subst (AreRetained t) branches_after
        (set_retained t r.branches branch (next r) (omega (arith, low, floor, number_is)) (omega (arith, one_more, number_is)) may.room
        (still_retained s t same more r.branches (subst (AreRetained s) (sym chunk.branches) chunk.fits.branches)))

    fits_after : WholeFits t (old ++ new)
    fits_after = record {
      next =
          (let is = chunk.fits.next in
          let floor = same.floor in
          let all = ap length all_commits ∙ length-append (commits_in old) (c ∷ []) in
          omega (arith, is, all, floor, one_more));
      branches = branches_fit;
      tags = subst (AreRetained t) (sym (all_names Names.tags)) (still_retained s t same more (named Names.tags old) chunk.fits.tags);
    }

    module _ (other : Image) (lies : LiesIn (layout_of t) other (old ++ new)) where
      pub chunk_after : InChunk t other (with_commit r after branch)
      chunk_after = record {
        records = old ++ new;
        lies = lies;
        good = still_good s t same [] (old ++ new) (good_append s [] old new chunk.good good_batch);
        fits = fits_after;
        floor = chunk.floor ∙ sym same.floor;
        commits = commits_after;
        branches = branches_after;
        tags = tags_after;
      }

      pub records_after : chunk_after.records ≡ old ++ new
      unfolding chunk_after
      records_after = refl

pub stands_grown : StandsGrown
stands_grown image other r s t v from parents info branch stands live may known stand within live' same ends next adds =
    let f = fields_of r parents info branch in
    let q = with_commit r (new_commit r v.map parents info) branch in
    let chunk = in_chunk image s live r stands in
    let same_records : chunk.records ≡ stands.standing.records = same_in_chunk image s live r stands in
    let known : KnownStand (present chunk.records) v s.end = subst (λ (rs : Records). KnownStand (present rs) v s.end) (sym same_records) known in
    let stand : SourcesStand (present chunk.records) v from = subst (λ (rs : Records). SourcesStand (present rs) v from) (sym same_records) stand in
    let lies = lies_on s t image other live.live.fields.none_live.0 same chunk.records (batch v from f s.end) chunk.lies (subst (AreEndToEnd s.end (batch v from f s.end)) (sym ends) (batch_lies v from f s.end)) adds in
    let after = chunk_after s live.live.fields image r chunk v from parents info branch may known stand within t same next other lies in (
      stands_by other t live' q after,
      same_standing other t live' q after
          ∙ records_after s live.live.fields image r chunk v from parents info branch may known stand within t same next other lies
          ∙ ap (λ (rs : Records). rs ++ batch v from f s.end) same_records,
    )
