-- The history that a store's records tell.
--     numbers_in parents      the numbers of a commit record's parents that are known
--     with_parents h numbers      one commit more, with these parents.      MayEnter h numbers      there is room, and they come before it
--     history_in floor records      the history of these records.      history_after h r      after one record more
--     RecordEnters h r      a commit record's parents come before the commit that is next
use Rattle.std.specs.Prelude.{ℕ, ◌+◌, ◌<◌, ◌^◌, List, [], ◌∷◌, ◌++◌, length, map, filter_map, All}
use Rattle.ip_spec.specs.declared.record.Record.{Record}
use Rattle.ip_spec.specs.declared.record.CommitRecord.{CommitRecord}
use Rattle.ip_spec.specs.declared.record.Parent.{Parent}
use Rattle.ip_spec.specs.TreeAt.{Records}
use Rattle.ip_image.specs.Standing.{commits_in, parent_of}
use Rattle.ip_history.specs.History.{History}

abbrev pub numbers_in : List Parent → List ℕ
numbers_in parents = filter_map (λ (p : Parent). (parent_of p).number) parents

abbrev pub with_parents : History → List ℕ → History
with_parents h numbers = record { floor = h.floor; parents = h.parents ++ numbers ∷ [] }

abbrev pub MayEnter : History → List ℕ → Type 0
MayEnter h numbers = (h.floor + length h.parents < 2 ^ 64) × All (λ p. p < h.floor + length h.parents) numbers

abbrev pub history_in : ℕ → Records → History
history_in floor records = record { floor = floor; parents = map (λ (c : CommitRecord). numbers_in c.parents) (commits_in records) }

abbrev pub history_after : History → Record → History
history_after h (Record.Commit c) = with_parents h (numbers_in c.parents)
history_after h r = h

abbrev pub RecordEnters : History → Record → Type 0
RecordEnters h (Record.Commit c) = (h.floor + length h.parents < 2 ^ 64) × All (λ (p : Parent). p.number < h.floor + length h.parents) c.parents
RecordEnters h r = Unit {0}
