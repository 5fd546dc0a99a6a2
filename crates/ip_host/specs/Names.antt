-- The names of the store's files.
--     file_text file
use Rattle.std.specs.Prelude.{ℕ, List, ◌++◌, codes}
use Rattle.std.specs.Fmt.{decimal}
use Rattle.ip_ground.specs.declared.names.FileName.{FileName}
use Rattle.ip_ground.specs.declared.names.FileName.TheVariants.{Control, Chunk, Prefix, Mapping, Done}

-- between a folder's path and a file's name
abbrev pub slash : ℕ
slash = 47

-- a file's name in the store's folder
abbrev pub file_text : FileName → List ℕ
file_text Control = codes "control"
file_text (Chunk number) = codes "chunk." ++ decimal number
file_text (Prefix attempt) = codes "prefix." ++ decimal attempt
file_text (Mapping attempt) = codes "mapping." ++ decimal attempt
file_text (Done attempt) = codes "done." ++ decimal attempt
