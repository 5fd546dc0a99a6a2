-- Sets of lines, in order.
--     texts lines      the bytes that some lines refer to
--     insert_lines lines more      more lines in an ascending list, each at its place unless it is there
use Rattle.std.specs.Prelude.{List, [], ◌∷◌, map}
use Rattle.std.specs.BTreeSet.{insert_key}
use denote.Ref.{Bor}
use Rattle.ip_spec.specs.Path.{Bytes, bytes_cmp}

abbrev pub texts : List (Bor Bytes) → List Bytes
texts lines = map (λ line. line.now) lines

abbrev pub insert_lines : List Bytes → List Bytes → List Bytes
insert_lines lines [] = lines
insert_lines lines (line ∷ more) = insert_lines (insert_key bytes_cmp lines line) more
