-- The parents of the retained commits, as a table lists them, and the repositories whose history that is.
--     History      the k-th list has the numbers of the parents of commit floor + k, also of those below the floor
--     Holds h n      commit n is retained.      listed h k      the retained parents of commit floor + k
--     HasParentsFirst h      a parent's number is less than the child's
--     Shows h r      the history is the repository's
--     history_of r      a history that is the repository's
--     AboveOneOf r ns a      a is one of these commits or an ancestor of one
use Rattle.std.specs.Prelude.{◌≡◌, ℕ, ◌+◌, ◌<◌, ◌≤◌, List, [], length, map, filter, filter_map, Contains, slice_index_or, nat_le}
use Rattle.ip_spec.specs.Repository.{Repository, Commit, CommitParent}
use Rattle.ip_spec.specs.History.{parents_at, Ancestor}

pub record History : Type 0 where
  pub floor : ℕ
  pub parents : List (List ℕ)

abbrev pub Holds : History → ℕ → Type 0
Holds h n = (h.floor ≤ n) × (n < h.floor + length h.parents)

abbrev pub listed : History → ℕ → List ℕ
listed h k = filter (λ p. nat_le h.floor p) (slice_index_or h.parents k [])

abbrev pub HasParentsFirst : History → Type 0
HasParentsFirst h = (k p : ℕ) → Contains (slice_index_or h.parents k []) p → p < h.floor + k

-- numbers of parents below the floor don't matter
pub record Shows (h : History) (r : Repository) : Type 0 where
  pub floor : h.floor ≡ r.floor
  pub count : length h.parents ≡ length r.commits
  pub parents : (k : ℕ) → k < length h.parents → listed h k ≡ parents_at r (h.floor + k)

-- the history of a repository, with the numbers of parents that are known
abbrev pub history_of : Repository → History
history_of r = record { floor = r.floor; parents = map (λ (c : Commit). filter_map (λ (p : CommitParent). p.number) c.parents) r.commits }

abbrev pub AboveOneOf : Repository → List ℕ → ℕ → Type 0
AboveOneOf r ns a = (m : ℕ) × Contains ns m × Ancestor r a m
