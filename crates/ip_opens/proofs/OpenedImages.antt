-- What an image is, by its live slot, its live pair and what fills the stretches of its space.
--     has_live      the control file is there.      no_store, form_damaged      where no slot is live, or one has no form
--     generation_stays      the live pair is what it was.      pair_damaged      where it is bad
--     bad_damaged, misfit_damaged      where a record is no good one, or all together don't fit the slot.      standing_of      where they do
--     no_tags, whole_from      the parts of what records must hold together
--     repository_of      the repository of records, and what it has
use Rattle.std.proofs.Common.{◌≡◌, ◌≢◌, ℕ, ◌+◌, ◌*◌, List, [], ◌∷◌, ◌++◌, map, length, refl, sym, ◌∙◌, ap, subst, arith}
use Rattle.std.proofs.lemmas.List.{length-map}
use Rattle.std.specs.Prelude.{Option, Some, None, fold, filter_map, IfSome, IsSomeAnd}
use Rattle.std.specs.List.{AllZip, cons_option}
use Rattle.ip_ground.specs.declared.names.FileName.{FileName}
use Rattle.ip_ground.specs.declared.names.FileName.TheVariants.{Control, Prefix}
use Rattle.ip_ground.specs.Contents.{Content, Image, bytes_of}
use Rattle.ip_ground.specs.Told.{Told, NoFile, ChangesOnly}
use Rattle.ip_spec.specs.declared.record.Record.{Record}
use Rattle.ip_spec.specs.declared.record.CommitRecord.{CommitRecord}
use Rattle.ip_spec.specs.declared.record.Parent.{Parent}
use Rattle.ip_spec.specs.Record.{Names, spelling}
use Rattle.ip_spec.specs.Map.{Map, empty}
use Rattle.ip_spec.specs.Path.{Bytes, bytes_cmp}
use Rattle.ip_spec.specs.TreeAt.{Records}
use Rattle.ip_spec.specs.Repository.{Repository, Commit, CommitParent}
use Rattle.ip_image.specs.declared.slot.Slot.{Slot}
use Rattle.ip_image.specs.declared.run.Run.{Run}
use Rattle.ip_image.specs.Slot.{IsLive, live_index, layout_of}
use Rattle.ip_image.specs.declared.run.Row.{Row}
use Rattle.ip_image.specs.Virtual.{run_of, virtual_byte, lies_at, Stands}
use Rattle.ip_image.specs.Standing.{RunByRun, FillTo, IsServedKind, AreGood, Generation, stretches, named, names_after, commits_in, AreRetained, WholeFits, Spells, Standing, parent_of, NoStore, DamagedAt, no_form, no_record, no_whole}
use Rattle.ip_image.specs.Pending.{HasLive}
use Rattle.ip_image.proofs.SpelledCommits.{commits_spelled}
use Rattle.ip_audit.specs.Audits.{commit_name}
use Rattle.ip_history.specs.History.{history_of}
use Rattle.ip_space.specs.Pair.{IsBadPair}
use Rattle.ip_space.specs.SpaceView.{SpaceView, byte_at, stretches_of}
use Rattle.ip_space.proofs.LivePair.{held_later, mapping_later}
use Rattle.ip_space.proofs.Stretches.{damaged_by}
use Rattle.ip_held.specs.Control.{control_in}
use Rattle.ip_held.specs.Placed.{IsSpaceOf}
use Rattle.ip_tables.specs.Histories.{numbers_in, history_in}
use Rattle.ip_held.specs.Held.{OwnsPair}
use Rattle.ip_opens.specs.Walk.{BadRecord}

-- ---- the control file

nothing_live : (index : ℕ) → live_index [] ≡ Some index → ⊥
unfolding live_index
nothing_live index e = cc

-- of a slot that is live in the bytes there are
there : (index : ℕ) (P : Bytes → Type 0) (content : Content) → live_index (bytes_of content) ≡ Some index → P (bytes_of content) → (control : Bytes) × (content ≡ Some control) × P control
there index P None live p = absurd (nothing_live index live)
there index P (Some control) live p = (control, refl, p)

pub has_live : (image : Image) (index : ℕ) (s : Slot) → IsLive (control_in image) index s → HasLive s image
has_live image index s live =
    let is = there index (λ control. IsLive control index s) (image Control) live.index live in
    record { control = is.0; index = index; held = is.1; live = is.2 }

pub no_store : (image : Image) → live_index (control_in image) ≡ None → NoStore image
no_store image none = by (image Control) none
  where
    by : (content : Content) → live_index (bytes_of content) ≡ None → IfSome content (λ control. live_index control ≡ None)
    by None none = tt
    by (Some control) none = none

pub form_damaged : (image : Image) (index : ℕ) → live_index (control_in image) ≡ Some index → ((s : Slot) → ¬ IsLive (control_in image) index s) → DamagedAt image Control (128 * index)
form_damaged image index live none =
    let is = there index (λ control. (live_index control ≡ Some index) × ((s : Slot) → ¬ IsLive control index s)) (image Control) live (live, none) in
    no_form is.0 index is.1 is.2.0 is.2.1

-- ---- the live generation

-- over calls that change no file, where no child has its pair
pub generation_stays : (s : Slot) (a b : Told) → ChangesOnly NoFile a b → OwnsPair a s → (rows : List Row) → Generation a.held (layout_of s) rows → Generation b.held (layout_of s) rows
generation_stays s a b only owns rows is = record {
  file = λ live. mapping_later a b only (layout_of s) (owns live).mapping rows (is.file live);
  fits = is.fits;
  sum = is.sum;
  prefix = λ live. subst (λ (content : Content). IsSomeAnd content (λ bytes. length bytes ≡ s.prefix_len)) (sym (held_later a b only (layout_of s) (Prefix s.live) (owns live).prefix)) (is.prefix live);
  none = is.none;
}

module _ (told : Told) (index : ℕ) (s : Slot) (live : IsLive (control_in told.held) index s) where
  abbrev there_is : HasLive s told.held
  there_is = has_live told.held index s live

  pub pair_damaged : s.live ≢ 0 → (file : FileName) (at : ℕ) → IsBadPair told.held (layout_of s) file at → DamagedAt told.held file at
  unfolding has_live
  pair_damaged some file at bad = damaged_by told.held there_is.control index s file at there_is.held there_is.live some bad

  module _ (rows : List Row) (generation : Generation told.held (layout_of s) rows) (space : SpaceView) (of : IsSpaceOf s space) (runs : space.runs ≡ map run_of rows) where
    bytes_are : byte_at told space ≡ virtual_byte told.held (layout_of s) (map run_of rows)
    bytes_are = λ i. virtual_byte told.held (of.layout i) (runs i)

    stretches_are : stretches_of space ≡ stretches (layout_of s) rows
    stretches_are = λ i. stretches_of (record { layout = of.layout i; runs = runs i; kept = [] })

    pub bad_damaged : (file : FileName) (place : ℕ) → BadRecord s told space file place → DamagedAt told.held file place
    unfolding has_live
    bad_damaged file place bad =
        no_record there_is.control index s rows bad.before bad.at bad.to place file there_is.held there_is.live generation bad.good
        (subst (λ (f : ℕ → Option ℕ). FillTo f (stretches (layout_of s) rows) bad.before bad.at bad.to) bytes_are (subst (λ (rs : List Run). FillTo (byte_at told space) rs bad.before bad.at bad.to) stretches_are bad.fill))
        (λ r inside stands. bad.none r inside (subst (λ (f : ℕ → Option ℕ). Stands f bad.at (spelling r)) (sym bytes_are) stands))
        ((λ i. lies_at (sym of.layout i) (sym runs i) bad.at) ∙ bad.here)

    module _ (records : Records) (good : AreGood s [] records) (fill : RunByRun (byte_at told space) (stretches_of space) records) where
      pub all_filled : RunByRun (virtual_byte told.held (layout_of s) (map run_of rows)) (stretches (layout_of s) rows) records
      all_filled = subst (λ (f : ℕ → Option ℕ). RunByRun f (stretches (layout_of s) rows) records) bytes_are (subst (λ (rs : List Run). RunByRun (byte_at told space) rs records) stretches_are fill)

      pub misfit_damaged : ¬ WholeFits s records → DamagedAt told.held Control (128 * index)
      unfolding has_live
      misfit_damaged none = no_whole there_is.control index s rows records there_is.held there_is.live generation good all_filled none

      abbrev pub standing_of : WholeFits s records → Standing told.held
      standing_of fits = record {
        control = there_is.control;
        index = there_is.index;
        slot = s;
        rows = rows;
        records = records;
        held = there_is.held;
        live = there_is.live;
        generation = generation;
        whole = all_filled;
        good = good;
        fits = fits;
      }

-- ---- what records come to together

tags_stay : (m : Map bytes_cmp ℕ) (r : Record) → IsServedKind r → names_after Names.tags m r ≡ m
tags_stay m (Record.Contents bytes) served = refl
tags_stay m (Record.Leaf entries) served = refl
tags_stay m (Record.Inode depth children) served = refl
tags_stay m (Record.Commit c) served = refl
tags_stay m (Record.BranchSet number name) served = refl
tags_stay m (Record.BranchRemove name) served = refl
tags_stay m (Record.BranchTable rows) served = refl
tags_stay m (Record.TagSet number name) served = absurd served
tags_stay m (Record.TagRemove name) served = absurd served
tags_stay m (Record.TagTable rows) served = absurd served

tags_from : (s : Slot) (pre records : Records) (m : Map bytes_cmp ℕ) → AreGood s pre records → fold (λ m (x : ℕ × Record). names_after Names.tags m x.1) m records ≡ m
tags_from s pre [] m good = refl
tags_from s pre (x ∷ records) m good =
    ap (λ (n : Map bytes_cmp ℕ). fold (λ m (x : ℕ × Record). names_after Names.tags m x.1) n records) (tags_stay m x.1 good.0.served)
    ∙ tags_from s (pre ++ x ∷ []) records m good.1

-- records that are served name no tag
pub no_tags : (s : Slot) (records : Records) → AreGood s [] records → named Names.tags records ≡ empty
no_tags s records good = tags_from s [] records empty good

none_retained : (s : Slot) → AreRetained s empty
unfolding empty
none_retained s = record { each = λ name. tt; few = omega arith }

pub whole_from : (s : Slot) (records : Records) → AreGood s [] records → s.next ≡ s.floor + length (commits_in records) → AreRetained s (named Names.branches records) → WholeFits s records
whole_from s records good next branches = record { next = next; branches = branches; tags = subst (AreRetained s) (sym (no_tags s records good)) (none_retained s) }

-- ---- the repository

pub names_spelled : (records : Records) (cs : List CommitRecord) (ms : List Commit) → AllZip (Spells records) cs ms → map (λ m. m.name) ms ≡ map commit_name cs
names_spelled records [] [] is = refl
names_spelled records [] (m ∷ ms) is = absurd is
names_spelled records (c ∷ cs) [] is = absurd is
names_spelled records (c ∷ cs) (m ∷ ms) is =
    let first : m.name ≡ commit_name c = same_some (commit_name c) m.name is.0.name in
    λ i. first i ∷ names_spelled records cs ms is.1 i
  where
    same_some : (a b : Bytes) → Some a ≡ Some b → b ≡ a
    same_some a b e = cc

history_spelled : (records : Records) (cs : List CommitRecord) (ms : List Commit) → AllZip (Spells records) cs ms → map (λ (m : Commit). filter_map (λ (p : CommitParent). p.number) m.parents) ms ≡ map (λ (c : CommitRecord). numbers_in c.parents) cs
history_spelled records [] [] is = refl
history_spelled records [] (m ∷ ms) is = absurd is
history_spelled records (c ∷ cs) [] is = absurd is
history_spelled records (c ∷ cs) (m ∷ ms) is =
    let first : filter_map (λ (p : CommitParent). p.number) m.parents ≡ numbers_in c.parents = ap (filter_map (λ (p : CommitParent). p.number)) is.0.parents ∙ known c.parents in
    λ i. first i ∷ history_spelled records cs ms is.1 i
  where
    known : (ps : List Parent) → filter_map (λ (p : CommitParent). p.number) (map parent_of ps) ≡ numbers_in ps
    known [] = refl
    known (p ∷ ps) = ap (cons_option (parent_of p).number) (known ps)

pub repository_of : (s : Slot) (records : Records) → AreGood s [] records → Repository
repository_of s records good = record { floor = s.floor; commits = (commits_spelled s records good).0; branches = named Names.branches records; tags = named Names.tags records }

module _ (s : Slot) (records : Records) (good : AreGood s [] records) where
  pub repository_names : map (λ m. m.name) (repository_of s records good).commits ≡ map commit_name (commits_in records)
  unfolding repository_of
  repository_names = names_spelled records (commits_in records) (commits_spelled s records good).0 (commits_spelled s records good).1

  pub repository_history : history_of (repository_of s records good) ≡ history_in s.floor records
  unfolding repository_of
  repository_history = ap (λ (ns : List (List ℕ)). record { floor = s.floor; parents = ns }) (history_spelled records (commits_in records) (commits_spelled s records good).0 (commits_spelled s records good).1)

  pub repository_floor : (repository_of s records good).floor ≡ s.floor
  unfolding repository_of
  repository_floor = refl

  pub repository_branches : (repository_of s records good).branches ≡ named Names.branches records
  unfolding repository_of
  repository_branches = refl

  pub repository_size : length (repository_of s records good).commits ≡ length (commits_in records)
  repository_size = sym (length-map (repository_of s records good).commits (λ m. m.name)) ∙ ap length repository_names ∙ length-map (commits_in records) commit_name

  pub commits_are : AllZip (Spells records) (commits_in records) (repository_of s records good).commits
  unfolding repository_of
  commits_are = (commits_spelled s records good).1

  pub repository_tags : (repository_of s records good).tags ≡ named Names.tags records
  unfolding repository_of
  repository_tags = refl
