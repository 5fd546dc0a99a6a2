use Rattle.std.proofs.Common.{◌≡◌, ℕ, ◌<◌, false, length}
use Rattle.std.specs.Prelude.{◌==◌, ◌||◌, slice_index_or}
use Rattle.ip_model.specs.Ancestry.{reached_from}
use Rattle.ip_model.proofs.history.next_row.Given as goal

abbrev pub invariant-loop-place : goal.invariant-loop-place
invariant-loop-place l = (length l.row ≡ l.place) × ((j : ℕ) → j < l.place → slice_index_or l.row j false ≡ (j == length l.rows || reached_from l.rows l.fn.floor l.parents j))
