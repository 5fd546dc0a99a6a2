-- The search over what is told, while other files change.
--     nothing_on      no attempt was ever lent.      generation_on, records_on, whole_on      what the job reads, while only the attempt's files change
--     readable_whole      where none was lent.      records_later      while no file changes.      for_job      the search is the job's
--     lie_space, lie_before, readable_before      what it begins with.      found      what it found
use Rattle.std.proofs.Common.{◌≡◌, ◌≢◌, ℕ, suc, ◌*◌, ◌<◌, List, [], length, map, sym, ◌∙◌, ap, subst, arith, Option}
use Rattle.std.specs.Prelude.{Ok, IsSomeAnd}
use Rattle.ip_base.specs.declared.limit.TheConstants.{OFFSET_MAX}
use Rattle.ip_ground.specs.declared.names.FileName.TheVariants.{Prefix, Mapping}
use Rattle.ip_ground.specs.Contents.{Content}
use Rattle.ip_ground.specs.Custody.{Custody, IsOfAttempt}
use Rattle.ip_ground.specs.Custody as custody
use Rattle.ip_ground.specs.Told.{Told, NoFile, ChangesOnly}
use Rattle.ip_ground.proofs.Spans.{lending_now}
use Rattle.ip_spec.specs.TreeAt.{Records}
use Rattle.ip_spawn.specs.declared.job.Job.{Job}
use Rattle.ip_image.specs.declared.layout.Layout.{Layout}
use Rattle.ip_image.specs.declared.run.Row.{Row}
use Rattle.ip_image.specs.Virtual.{run_of}
use Rattle.ip_image.specs.Standing.{Generation, RunByRun}
use Rattle.ip_image.proofs.StayingRecords.{in_from}
use Rattle.ip_space.specs.SpaceView.{SpaceView, IsReadable, stretches_of}
use Rattle.ip_keep.specs.KeepView.{KeepView}
use Rattle.ip_keep.specs.Keeping.{IsKeep, IsKeeping, SameWork, LooksUpTo, looked_in}
use Rattle.ip_keep.specs.Whole.{AreRecords}
use Rattle.ip_keep.proofs.Bounds.{most_looks}
use Rattle.ip_worker.specs.Steps.{IsFor, IsFound}
use Rattle.ip_worker.specs.Whole.{AreWhole, layout_of_job, space_of_job}
use Rattle.ip_worker.specs.Working.{NothingLent}
use Rattle.ip_worker.proofs.Copying.{of_none, bytes_stay}

-- ---- while only the attempt's files change

module _ (attempt : ℕ) (a b : Told) (only : ChangesOnly (IsOfAttempt attempt) a b) where
  pub nothing_on : NothingLent a → NothingLent b
  nothing_on nothing n = lending_now a b only.goes n (only.lending n) ∙ nothing n

  pub records_on : (space : SpaceView) (h : ℕ) (records : Records) → IsReadable a space → space.layout.live ≢ attempt → AreRecords a.held space h records → AreRecords b.held space h records
  records_on space h records readable apart lie = record {
    rows = lie.rows;
    whole = subst (λ (g : ℕ → Option ℕ). RunByRun g (stretches_of space) records) (sym (bytes_stay attempt a b only space readable apart)) lie.whole;
    bounds = lie.bounds;
    closed = lie.closed;
    above = lie.above;
    below = lie.below;
    here = lie.here;
  }

  same_pair : (s : Layout) → s.live ≢ attempt → NothingLent a → (b.held (Mapping s.live) ≡ a.held (Mapping s.live)) × (b.held (Prefix s.live) ≡ a.held (Prefix s.live))
  same_pair s apart nothing = (
    (only.others (Mapping s.live) apart).held (λ foreign. subst (λ (c : Custody). custody.IsForeign c) (nothing s.live) foreign),
    (only.others (Prefix s.live) apart).held (λ foreign. subst (λ (c : Custody). custody.IsForeign c) (nothing s.live) foreign),
  )

  pub generation_on : (s : Layout) (rows : List Row) → s.live ≢ attempt → NothingLent a → Generation a.held s rows → Generation b.held s rows
  generation_on s rows apart nothing g = record {
    file = λ live.
        let is = g.file live in
        record { end = is.end; file = (same_pair s apart nothing).0 ∙ is.file; count = is.count; numbers = is.numbers; above = is.above; inside = is.inside };
    fits = g.fits;
    sum = g.sum;
    prefix = λ live. subst (λ (c : Content). IsSomeAnd c (λ bytes. length bytes ≡ s.prefix_len)) (sym (same_pair s apart nothing).1) (g.prefix live);
    none = g.none;
  }

-- where none was lent nobody else changes the space of a job whose files are whole
pub readable_whole : (told : Told) (job : Job) (records : Records) → NothingLent told → (whole : AreWhole told.held job records) → IsReadable told (space_of_job job whole.rows)
readable_whole told job records nothing whole = record {
  own = λ live foreign. subst (λ (c : Custody). custody.IsForeign c) (nothing job.live) foreign;
  none = λ z. ap (map run_of) (whole.generation.none z);
  kept = λ at r there. absurd (in_from [] (at, r) there);
}

pub whole_on : (job : Job) (a b : Told) → ChangesOnly (IsOfAttempt job.attempt) a b → job.live ≢ job.attempt → NothingLent a → (records : Records) → AreWhole a.held job records → AreWhole b.held job records
whole_on job a b only apart nothing records whole = record {
  rows = whole.rows;
  generation = generation_on job.attempt a b only (layout_of_job job) whole.rows apart nothing whole.generation;
  lie = records_on job.attempt a b only (space_of_job job whole.rows) job.horizon records (readable_whole a job records nothing whole) apart whole.lie;
  commit = whole.commit;
  here = whole.here;
}

-- while no file changes
pub records_later : (a b : Told) → ChangesOnly NoFile a b → (space : SpaceView) (h : ℕ) (records : Records) → IsReadable a space → AreRecords a.held space h records → AreRecords b.held space h records
records_later a b only space h records readable lie =
    let other : ℕ = suc space.layout.live in
    records_on other a b (of_none (IsOfAttempt other) a b only) space h records readable (λ e. omega (arith, e)) lie

-- ---- the search

abbrev begun_keep : SpaceView → ℕ → KeepView
begun_keep space horizon = record { space = space; horizon = horizon; next = horizon; seen = 0; waiting = []; kept = [] }

pub for_job : (job : Job) (space : SpaceView) (old new : KeepView) → space.layout ≡ layout_of_job job → old ≡ begun_keep space job.horizon → IsKeep new → SameWork old new → IsFor job new
for_job job space old new layout made keep work = record {
  keep = keep;
  layout = ap (λ (s : SpaceView). s.layout) (work.space ∙ ap (λ (k : KeepView). k.space) made) ∙ layout;
  horizon = work.horizon ∙ ap (λ (k : KeepView). k.horizon) made;
}

module _ (a b : Told) (job : Job) (nothing : NothingLent a) (records : Records) (whole : AreWhole a.held job records) (first : ChangesOnly NoFile a b) (space : SpaceView) (is : space ≡ space_of_job job whole.rows) (old : KeepView) (made : old ≡ begun_keep space job.horizon) where
  pub lie_space : AreRecords b.held space job.horizon records
  lie_space =
      subst (λ (s : SpaceView). AreRecords b.held s job.horizon records) (sym is)
      (records_later a b first (space_of_job job whole.rows) job.horizon records (readable_whole a job records nothing whole) whole.lie)

  pub lie_before : AreRecords b.held old.space old.horizon records
  lie_before = subst (λ (k : KeepView). AreRecords b.held k.space k.horizon records) (sym made) lie_space

  pub readable_before : IsReadable b space → IsReadable b old.space
  readable_before readable = subst (λ (k : KeepView). IsReadable b k.space) (sym made) readable

  none_looked : looked_in old ≡ 0
  none_looked = ap looked_in made

  pub found : (c : Told) (next : ChangesOnly NoFile b c) → IsReadable b space → (new : KeepView) (most left : ℕ) → 2 * OFFSET_MAX < most → IsKeep new → SameWork old new → LooksUpTo most old new (Ok left) → IsKeeping records new → IsFound records c.held new
  found c next readable new most left many keep work looks keeping =
      let few = most_looks new keep in
      let none = none_looked in
      let (count, _, through) = looks in
      let lie = records_later b c next old.space old.horizon records (readable_before readable) lie_before in
      record {
        through = through (omega (arith, few, none, count, many));
        keeping = keeping;
        lie = subst (λ (s : SpaceView). AreRecords c.held s new.horizon records) (sym work.space) (subst (λ (h : ℕ). AreRecords c.held old.space h records) (sym work.horizon) lie);
      }
