-- The laws.      few_looks      how many looks there are at most.      looks_all      and at least where the verdict is there.      looks_twice      and where the pair is valid.      accepts      the valid pair is accepted
--     looks_within      where a slice finds the valid pair, all looks are no more than were made before and what the slice makes
use Rattle.std.proofs.Common.{◌≡◌, ℕ, ◌+◌, ◌*◌, ◌≤◌, refl, sym, ap, subst, ◌∙◌, length, arith}
use Rattle.std.specs.Prelude.{Ok, Some, None, count_by}
use Rattle.std.proofs.lemmas.List.{length-map}
use Rattle.ip_ground.specs.Contents.{Image}
use Rattle.ip_image.specs.Collection.{Pair, IsKept, first_difference}
use Rattle.ip_image.proofs.PairLaws.{one_valid, same_kept, valid_found}
use Rattle.ip_keep.specs.Keeping.{IsThrough, starts_between, looked_in}
use Rattle.ip_keep.specs.Whole.{AreRecords, run_at}
use Rattle.ip_keep.proofs.LeastSet as least
use Rattle.ip_spawn.specs.declared.job.Job.{Job}
use Rattle.ip_spec.specs.TreeAt.{Records}
use Rattle.ip_image.specs.Collection.{Found}
use Rattle.ip_check.specs.declared.check.Outcome.{Outcome}
use Rattle.ip_check.specs.declared.check.Stage.{Stage}
use Rattle.ip_check.specs.CheckView.{CheckView}
use Rattle.ip_check.specs.Checking.{Accepts, Advances, FewLooks, HasReached, IsAtStage, IsCheck, IsChecking, LooksAll, LooksAtAll, LooksTwice, SameCheck, looked_by}

-- once all was found, each record from the horizon on was seen
every : (records : Records) (found : Found) (c : CheckView) → IsCheck c → IsChecking records found c → IsThrough c.keep → c.keep.seen ≡ count_by (starts_between c.job.horizon c.job.end) records
every records found c check checking through =
    subst (λ (h : ℕ). c.keep.seen ≡ count_by (starts_between h c.job.end) records) check.horizon
    (subst (λ (e : ℕ). c.keep.seen ≡ count_by (starts_between c.keep.horizon e) records) (through.0 ∙ check.end) checking.keep.seen)

module _ (image : Image) (records : Records) (found : Found) (c : CheckView) (whole : AreRecords image c.keep.space c.keep.horizon records) (check : IsCheck c) (checking : IsChecking records found c) (kept : Records) (is : IsKept records c.job.horizon c.job.end kept) where
  here : IsKept records c.keep.horizon c.keep.space.layout.end kept
  here = subst (λ (e : ℕ). IsKept records c.keep.horizon e kept) (sym check.end) (subst (λ (h : ℕ). IsKept records h c.job.end kept) (sym check.horizon) is)

  looks : looked_in c.keep ≤ count_by (starts_between c.job.horizon c.job.end) records + length kept
  looks =
      subst (λ (e : ℕ). looked_in c.keep ≤ count_by (starts_between c.job.horizon e) records + length kept) check.end
      (subst (λ (h : ℕ). looked_in c.keep ≤ count_by (starts_between h c.keep.space.layout.end) records + length kept) check.horizon (least.few_looks image records c.keep whole check.keep checking.keep kept here))

  -- once all was found, as many are kept
  long : IsThrough c.keep → length c.keep.kept ≡ length kept
  long through =
      let (other, each, runs, joins) = least.keeps_all image records c.keep whole check.keep checking.keep through in
      let same = same_kept records c.keep.horizon c.keep.space.layout.end other kept each here in
      ap length runs ∙ length-map other run_at ∙ ap length same

  all : IsThrough c.keep → c.compared ≤ length kept
  all through = let few = check.compared in omega (arith, long through, few)

  by : (s : Stage) → IsAtStage c s → c.compared ≤ length kept
  by Stage.Keeping none = omega (arith, none)
  by (Stage.Comparing place) (through, place_is) = all through
  by (Stage.Through found) through = all through

  few_for : looked_by c ≤ count_by (starts_between c.job.horizon c.job.end) records + 2 * length kept
  few_for = omega (arith, looks, by c.stage check.stage)

  twice_for : c.stage ≡ Stage.Through None → count_by (starts_between c.job.horizon c.job.end) records + 2 * length kept ≤ looked_by c
  twice_for valid =
      let through : IsThrough c.keep = subst (IsAtStage c) valid check.stage in
      let compared : c.compared ≡ length c.keep.kept = subst (HasReached c) valid check.reached in
      omega (arith, every records found c check checking through, compared, long through)

pub few_looks : FewLooks
few_looks image records found c whole check checking kept is = few_for image records found c whole check checking kept is

pub looks_twice : LooksTwice
looks_twice image records found c whole check checking valid kept is = twice_for image records found c whole check checking kept is valid

pub looks_all : LooksAll
looks_all records found c told check checking is =
    let through : IsThrough c.keep = subst (IsAtStage c) is check.stage in
    omega (arith, every records found c check checking through)

pub looks_within : (most : ℕ) (image : Image) (records : Records) (found : Found) (old new : CheckView) → AreRecords image new.keep.space new.keep.horizon records → IsCheck new → SameCheck old new → Advances most old new (Ok Outcome.Valid) → IsChecking records found new
    → LooksAtAll records old.job (looked_by old + most)
looks_within most image records found old new whole check same advances checking kept is =
    let all : count_by (starts_between old.job.horizon old.job.end) records + 2 * length kept ≤ looked_by new =
    subst (λ (j : Job). LooksAtAll records j (looked_by new)) same.job (looks_twice image records found new whole check checking advances.ends) kept is in
    let high = advances.high in
    omega (arith, all, high)

pub accepts : Accepts
accepts records job pair told valid verdict =
    verdict.difference ∙ ap (λ (p : Pair). first_difference p (record { mapping = Some pair.mapping; prefix = Some pair.prefix })) (one_valid records job.horizon job.end verdict.pair pair verdict.valid valid)
    ∙ valid_found pair (record { mapping = Some pair.mapping; prefix = Some pair.prefix }) refl refl
