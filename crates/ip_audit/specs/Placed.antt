-- Names of commits in a list, and a map from each name to its place.
--     ArePlaced names places      a name is a key exactly where it is in the list, with its one place
use Rattle.std.specs.Prelude.{◌≡◌, ℕ, List, Some, slice_get, position}
use Rattle.std.specs.BTreeMap.{BTreeMap, get}
use Rattle.ip_spec.specs.Path.{bytes_cmp, same_bytes}
use Rattle.ip_spec.specs.Record.{Hash}

pub record ArePlaced (names : List Hash) (places : BTreeMap Hash ℕ) : Type 0 where
  pub each : (name : Hash) → get bytes_cmp places name ≡ position (λ n. same_bytes n name) names
  pub once : (place : ℕ) (name : Hash) → slice_get names place ≡ Some name → get bytes_cmp places name ≡ Some place
