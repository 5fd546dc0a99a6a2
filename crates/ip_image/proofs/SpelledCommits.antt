-- The commit records of a store spell commits, whatever reads them.
--     present_front, present_behind      what more records leave present, and what they add
--     spells_more, each_spelled      a commit that is spelled among some records is spelled among more
--     FitCommits terms before records      each commit record fits those before it
--     one_more_spelled      one record more: the commits that it and those before it spell
--     commits_spelled      good records spell a commit each
--     some_repository      each image that holds all that it must stands for a repository
use Rattle.std.proofs.Common.{◌≡◌, ℕ, List, [], ◌∷◌, ◌++◌, refl, sym, ap, subst, Some, None, Bool, true, false, cond, append_assoc, map}
use Rattle.std.proofs.lemmas.Bool.{false≢true}
use Rattle.std.specs.Prelude.{is_some}
use Rattle.std.specs.List.{AllZip, cons_option}
use Rattle.std.specs.Ordering.{nat_cmp, eq_by_cmp}
use Rattle.std.specs.FinMap.Entries.{find}
use Rattle.sha2.specs.Sha256.{sha256}
use Rattle.ip_spec.specs.declared.record.Record.{Record}
use Rattle.ip_spec.specs.declared.record.CommitRecord.{CommitRecord}
use Rattle.ip_spec.specs.Record.{Names, hashed_commit}
use Rattle.ip_spec.specs.Tree.{Tree}
use Rattle.ip_spec.specs.TreeAt.{Records, present}
use Rattle.ip_spec.specs.Repository.{Repository, Commit}
use Rattle.ip_spec.proofs.TreeAtLaws.{more_part}
use Rattle.ip_ground.specs.Contents.{Image}
use Rattle.ip_image.specs.Slot.{Slot}
use Rattle.ip_image.specs.Standing.{Terms, terms_of, RecordFits, CommitFits, AreGood, commit_of, commits_in, parent_of, named, Spells, Standing, StandsFor}

-- ---- what is present

pub present_front : (xs ys : Records) (at : ℕ) (r : Record) → present xs at ≡ Some r → present (xs ++ ys) at ≡ Some r
present_front [] ys at r is = absurd (false≢true (ap is_some is))
present_front (x ∷ xs) ys at r is = by (eq_by_cmp nat_cmp at x.0) is (present_front xs ys at r)
  where
    by : (b : Bool) → cond b (Some x.1) (find nat_cmp at xs) ≡ Some r → (find nat_cmp at xs ≡ Some r → find nat_cmp at (xs ++ ys) ≡ Some r) → cond b (Some x.1) (find nat_cmp at (xs ++ ys)) ≡ Some r
    by true is later = is
    by false is later = later is

pub present_behind : (xs ys : Records) (at : ℕ) → present xs at ≡ None → present (xs ++ ys) at ≡ present ys at
present_behind [] ys at none = refl
present_behind (x ∷ xs) ys at none = by (eq_by_cmp nat_cmp at x.0) none (present_behind xs ys at)
  where
    by : (b : Bool) → cond b (Some x.1) (find nat_cmp at xs) ≡ None → (find nat_cmp at xs ≡ None → find nat_cmp at (xs ++ ys) ≡ find nat_cmp at ys) → cond b (Some x.1) (find nat_cmp at (xs ++ ys)) ≡ find nat_cmp at ys
    by true none later = absurd (false≢true (sym (ap is_some none)))
    by false none later = later none

-- ---- what is spelled

-- the commit record has the commit's name, parents and info, whatever stands around it
pub spells_more : (records more : Records) → ((at : ℕ) (r : Record) → present records at ≡ Some r → present more at ≡ Some r)
    → (c : CommitRecord) (m : Commit) → Spells records c m → Spells more c m
spells_more records more keeps c m is = record {
  name = is.name;
  parents = is.parents;
  info = is.info;
  tree = (is.tree.0, more_part (present records) (present more) keeps is.tree.1);
}

pub each_spelled : (records more : Records) → ((at : ℕ) (r : Record) → present records at ≡ Some r → present more at ≡ Some r)
    → (cs : List CommitRecord) (ms : List Commit) → AllZip (Spells records) cs ms → AllZip (Spells more) cs ms
each_spelled records more keeps [] [] is = tt
each_spelled records more keeps [] (m ∷ ms) is = absurd is
each_spelled records more keeps (c ∷ cs) [] is = absurd is
each_spelled records more keeps (c ∷ cs) (m ∷ ms) is = (spells_more records more keeps c m is.0, each_spelled records more keeps cs ms is.1)

pub zip_append : {A B : Type 0} (R : A → B → Type 0) (xs us : List A) (ys vs : List B) → AllZip R xs ys → AllZip R us vs → AllZip R (xs ++ us) (ys ++ vs)
zip_append R [] us [] vs is later = later
zip_append R [] us (y ∷ ys) vs is later = absurd is
zip_append R (x ∷ xs) us [] vs is later = absurd is
zip_append R (x ∷ xs) us (y ∷ ys) vs is later = (is.0, zip_append R xs us ys vs is.1 later)

-- ---- records that fit

-- each commit record fits those before it
abbrev pub FitCommits : Terms → Records → Records → Type 0
FitCommits terms before [] = Unit {0}
FitCommits terms before (x ∷ records) = RecordFits terms before x.0 x.1 × FitCommits terms (before ++ x ∷ []) records

pub good_fit_commits : (s : Slot) (before records : Records) → AreGood s before records → FitCommits (terms_of s) before records
good_fit_commits s before [] good = tt
good_fit_commits s before (x ∷ records) good = (good.0.fits, good_fit_commits s (before ++ x ∷ []) records good.1)

-- what a commit record spells, with its root's tree
abbrev pub spelled_commit : CommitRecord → Tree → Commit
spelled_commit c tree = record { name = sha256 (hashed_commit c.root_name (map (λ p. p.name) c.parents) c.info); parents = map parent_of c.parents; info = c.info; tree = tree }

abbrev pub CommitsOf : Records → Records → Type 0
CommitsOf all records = (cs : List Commit) × AllZip (Spells all) (commits_in records) cs

-- over any records that hold those before and these
pub fit_spelled : (all : Records) (terms : Terms) (before records : Records) → ((at : ℕ) (r : Record) → present (before ++ records) at ≡ Some r → present all at ≡ Some r)
    → FitCommits terms before records → CommitsOf all records
fit_spelled all terms before [] keeps fit = ([], tt)
fit_spelled all terms before (x ∷ records) keeps fit =
    by x.0 x.1 fit.0 (fit_spelled all terms (before ++ x ∷ []) records (λ at r is. keeps at r (subst (λ (rs : Records). present rs at ≡ Some r) (append_assoc before (x ∷ []) records) is)) fit.1)
  where
    one : (at : ℕ) (c : CommitRecord) → (fits : CommitFits terms before at c) → Spells all c (spelled_commit c fits.root.0)
    one at c fits = record {
      name = refl;
      parents = refl;
      info = refl;
      tree = (fits.root.1.0, more_part (present before) (present all) (λ at r is. keeps at r (present_front before (x ∷ records) at r is)) fits.root.1.1);
    }

    by : (at : ℕ) (r : Record) → RecordFits terms before at r → CommitsOf all records → (cs : List Commit) × AllZip (Spells all) (cons_option (commit_of (at, r)) (commits_in records)) cs
    by at (Record.Commit c) fits later = (spelled_commit c fits.root.0 ∷ later.0, (one at c fits, later.1))
    by at r fits later = later

-- records that are good from the first on spell a commit each; where they lie tells nothing
pub commits_spelled : (s : Slot) (records : Records) → AreGood s [] records → CommitsOf records records
commits_spelled s records good = fit_spelled records (terms_of s) [] records (λ at r is. is) (good_fit_commits s [] records good)

pub some_repository : (image : Image) → Standing image → (r : Repository) × StandsFor image r
some_repository image standing =
    let cs = commits_spelled standing.slot standing.records standing.good in (
      record { floor = standing.slot.floor; commits = cs.0; branches = named Names.branches standing.records; tags = named Names.tags standing.records },
      record { standing = standing; floor = refl; commits = cs.1; branches = refl; tags = refl },
    )
