-- A work under calls that it was not given to.
--     KeepsLawful      law: it stays lawful where the records stay, commits are only added, and no fewer are given up
use Rattle.std.specs.Prelude.{ℕ, ◌≤◌, Option}
use Rattle.ip_spec.specs.declared.record.Record.{Record}
use Rattle.ip_spec.specs.Repository.{Repository}
use Rattle.ip_spec.specs.View.{View}
use Rattle.ip_held.specs.declared.work.Work.{Work}
use Rattle.ip_held.specs.Trees.{RecordsStay}
use Rattle.ip_held.specs.Work.{AreParents, IsLawful, IsThere}

abbrev pub KeepsLawful : Type 0
KeepsLawful = (records more : ℕ → Option Record) (r q : Repository) (work : Work) (v : View) → IsLawful records r work v →
    (IsThere q work.least → RecordsStay records more) → r.floor ≤ q.floor → AreParents q work.least work.parents → IsLawful more q work v
