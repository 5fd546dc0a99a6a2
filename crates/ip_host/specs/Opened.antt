-- The files that stay open.
--     name_at kept place
--     bound_of asked files      the folders that were asked for, and the name of the one that is attached
--     lock_of files      whether the lock of the one that is attached is held, or not asked for
use Rattle.std.specs.Prelude.{ℕ, Bool, List, Option, slice_get, string_bytes}
use Rattle.std.specs.Option.{option_map}
use Rattle.ip_ground.specs.Counts.{Binding}
use Rattle.ip_ground.specs.declared.asked.AskedFolders.{AskedFolders}
use Rattle.ip_ground.specs.declared.names.FileName.{FileName}
use Rattle.ip_host.specs.declared.files.FolderFiles.{FolderFiles}
use Rattle.ip_host.specs.declared.files.Opened.{Opened}

-- the name of the file that stands at this place
abbrev pub name_at : List Opened → ℕ → Option FileName
name_at kept place = option_map (λ opened. opened.name) (slice_get kept place)

-- the folders that were asked for, and the name of the one that is attached, if one is
abbrev pub bound_of : AskedFolders → Option FolderFiles → Binding
bound_of asked files = record { asked = asked.names; folder = option_map (λ folder. string_bytes folder.dir) files }

-- of the folder that is attached, if one is
abbrev pub lock_of : Option FolderFiles → Option Bool
lock_of files = option_map (λ folder. folder.is_locked) files
