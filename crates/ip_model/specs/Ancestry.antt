-- Which commits are ancestors of which, in rows: one for each retained commit, all by their places above the floor.
--     reached rows k j      the row at k has the place j
--     reached_from rows floor ps j      the row of one of these commits that are not below the floor has the place j
--     AreRows h rows      the rows have the ancestors of the first commits, in every repository whose history it is
use Rattle.std.specs.Prelude.{◌≡◌, ℕ, ◌+◌, ◌-◌, ◌<◌, Bool, false, ◌&&◌, List, [], length, nat_le, slice_index_or}
use Rattle.std.specs.List.{list_any}
use Rattle.ip_spec.specs.Repository.{Repository}
use Rattle.ip_spec.specs.History.{ParentsFirst, is_ancestor}
use Rattle.ip_history.specs.History.{History, Shows}

abbrev pub reached : List (List Bool) → ℕ → ℕ → Bool
reached rows k j = slice_index_or (slice_index_or rows k []) j false

abbrev pub reached_from : List (List Bool) → ℕ → List ℕ → ℕ → Bool
reached_from rows floor ps j = list_any (λ p. nat_le floor p && reached rows (p - floor) j) ps

abbrev pub AreRows : History → List (List Bool) → Type 0
AreRows h rows = (r : Repository) → ParentsFirst r → Shows h r → (k j : ℕ) → k < length rows → j < length h.parents → reached rows k j ≡ is_ancestor r (h.floor + j) (h.floor + k)
