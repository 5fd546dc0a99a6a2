-- The entries of a directory, with the names of what they lead to.
--     child_in e      what an entry leads to: 1 for contents, 2 for a directory, and its name.      paired e      with its step
--     child_to n t      what leads to a tree of at most this height
--     hashed_entry e      what a directory's name takes from an entry
use Rattle.std.specs.Prelude.{ℕ, ◌++◌, [], cond, Some, None}
use Rattle.sha2.specs.Sha256.{sha256}
use Rattle.ip_spec.specs.Map.{get}
use Rattle.ip_spec.specs.Path.{Bytes, Step}
use Rattle.ip_spec.specs.Record.{Child, short_text, u8}
use Rattle.ip_spec.specs.Tree.{Tree}
use Rattle.ip_spec.specs.Shape.{directory_name}
use Rattle.ip_model_trees.specs.declared.names.Entry.{Entry}

abbrev pub child_in : Entry → Child
child_in e = (cond e.is_directory 2 1, e.name)

abbrev pub paired : Entry → Step × Child
paired e = (e.step, child_in e)

abbrev pub child_to : ℕ → Tree → Child
child_to n t = elim (get t []) [ Some bytes ↦ (1, sha256 bytes) | None ↦ (2, directory_name n t) ]

abbrev pub hashed_entry : Entry → Bytes
hashed_entry e = short_text e.step ++ u8 (cond e.is_directory 2 1) ++ e.name
