-- The map from names to numbers that a store keeps of its branches.
--     step_cmp      names in the order of their bytes
--     branches_of      the map.      branches_code      its code, so that it can be a model's value
use Rattle.std.specs.Prelude.{ℕ, List, map, Vec}
use Rattle.std.specs.Coded.{Coded, coded_ℕ, coded_list}
use Rattle.std.specs.declared.alloc.Global.{Global}
use Rattle.std.specs.declared.cmp.Ordering.{Ordering}
use Rattle.std.specs.BTreeMap.{BTreeMap}
use Rattle.ip_spec.specs.Map.{Map, code, from_entries}
use Rattle.ip_spec.specs.Path.{Bytes, bytes_cmp}

abbrev pub step_cmp : Vec ℕ Global → Vec ℕ Global → Ordering
step_cmp step other = bytes_cmp step.items other.items

-- the map of names and numbers
abbrev pub branches_code : Coded (Map bytes_cmp ℕ)
branches_code = code (coded_list coded_ℕ) coded_ℕ

abbrev pub number_entries : BTreeMap (Vec ℕ Global) ℕ → List (Bytes × ℕ)
number_entries entries = map (λ e. (e.0.items, e.1)) entries.entries

unfoldable pub branches_of : BTreeMap (Vec ℕ Global) ℕ → Map bytes_cmp ℕ
branches_of entries = from_entries (number_entries entries)
