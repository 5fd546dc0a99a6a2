-- Trees that keep the limits.
--     IsSmall t      each step has at most 255 bytes, and each directory at most as many entries as it may have
use Rattle.std.specs.Prelude.{◌≤◌, length, All, IsSome}
use Rattle.ip_base.specs.declared.limit.TheConstants.{STEP_BYTES_MAX}
use Rattle.ip_spec.specs.Map.{get, len}
use Rattle.ip_spec.specs.Path.{Path}
use Rattle.ip_spec.specs.Tree.{Tree, subtree, entries_of}
use Rattle.ip_spec.specs.Step.{entries_limit}

pub record IsSmall (t : Tree) : Type 0 where
  pub steps : (path : Path) → IsSome (get t path) → All (λ step. length step ≤ STEP_BYTES_MAX) path
  pub entries : (path : Path) → len (entries_of (subtree t path)) ≤ entries_limit
