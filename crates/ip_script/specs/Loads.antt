-- The pieces of generated lines.
use Rattle.std.specs.Prelude.{ℕ, ◌%◌, ◌∷◌, ◌++◌, codes}
use Rattle.std.specs.Fmt.{decimal}
use Rattle.ip_spec.specs.Path.{Bytes}

-- the path that two words name
abbrev pub place_of : ℕ → ℕ → Bytes
place_of folder file = 100 ∷ decimal (folder % 8) ++ codes "/k" ++ decimal (file % 64)
