-- What a session works on, under calls that it was not given to.
--     works_stay      it stays lawful, as long as the records stay, commits are only added, and no fewer are given up
use Rattle.std.proofs.Common.{ℕ, ◌≤◌, Option, Some, None, arith}
use Rattle.ip_spec.specs.declared.record.Record.{Record}
use Rattle.ip_spec.specs.Repository.{Repository}
use Rattle.ip_spec.specs.View.{View}
use Rattle.ip_tree.proofs.MoreRecords.{view_stays}
use Rattle.ip_held.specs.declared.work.Work.{Work}
use Rattle.ip_held.specs.Trees.{RecordsStay}
use Rattle.ip_held.specs.Work.{AreParents, IsLawful, IsThere}
use Rattle.ip_held.proofs.RootedViews.{rooted_more}

there_before : (r q : Repository) (least : Option ℕ) → r.floor ≤ q.floor → IsThere q least → IsThere r least
there_before r q None low is = tt
there_before r q (Some n) low is = omega (arith, low, is)

-- whatever floor the next repository has: a work that goes on resting on commits that are there has all its records still
pub works_stay : (records more : ℕ → Option Record) (r q : Repository) (work : Work) (v : View) → IsLawful records r work v → (IsThere q work.least → RecordsStay records more) → r.floor ≤ q.floor → AreParents q work.least work.parents → IsLawful more q work v
works_stay records more r q work v lawful stay low parents = record {
  tree = λ there. view_stays records more work.tree v (lawful.tree (there_before r q work.least low there)) (stay there);
  rooted = λ there. rooted_more records more (stay there) v (lawful.rooted (there_before r q work.least low there));
  short = lawful.short;
  parents = parents;
  least = lawful.least;
}
