-- The program's exit status and the line on standard error, for each status of a call.
--     code_of status, status_line status
use Rattle.std.specs.Prelude.{ℕ, [], ◌∷◌, ◌++◌, Option, Some, None, codes}
use Rattle.std.specs.Fmt.{decimal}
use Rattle.ip_host.specs.Names.{file_text}
use Rattle.ip_spec.specs.Path.{Bytes, space, line_feed}
use Rattle.ip_spec.specs.Record.{Hash}
use Rattle.ip_spec.specs.Text.{hex_text}
use Rattle.ip_app.specs.declared.statuses.Status.{Status}
use Rattle.ip_app.specs.declared.statuses.Bound.TheVariants as Bound

abbrev pub code_of : Status → ℕ
code_of Status.Done = 0
code_of Status.Usage = 2
code_of Status.NoStore = 3
code_of (Status.Damaged file at) = 4
code_of (Status.DamagedRecord at) = 4
code_of (Status.DamagedName at want got) = 4
code_of Status.DamagedJob = 4
code_of Status.ReadFault = 5
code_of Status.SayFault = 6
code_of Status.GroundFault = 7
code_of Status.Memory = 8
code_of (Status.Limit bound) = 9
code_of Status.Unfinished = 10
code_of Status.Exists = 11

-- two names, as lower-case digits
abbrev pub names_text : Hash → Hash → Bytes
names_text want got = hex_text want ++ space ∷ hex_text got

-- what the line says, if there is one
abbrev pub status_text : Status → Option Bytes
status_text Status.Done = None
status_text Status.Usage = Some (codes "usage")
status_text Status.NoStore = Some (codes "no store")
status_text (Status.Damaged file at) = Some (codes "damaged " ++ file_text file ++ space ∷ decimal at)
status_text (Status.DamagedRecord at) = Some (codes "damaged record " ++ decimal at)
status_text (Status.DamagedName at want got) = Some (codes "damaged name " ++ decimal at ++ space ∷ names_text want got)
status_text Status.DamagedJob = Some (codes "damaged job")
status_text Status.ReadFault = Some (codes "read fault")
status_text Status.SayFault = Some (codes "write fault")
status_text Status.GroundFault = Some (codes "disk fault")
status_text Status.Memory = Some (codes "want of memory")
status_text (Status.Limit Bound.Line) = Some (codes "limit line")
status_text (Status.Limit Bound.Input) = Some (codes "limit input")
status_text Status.Unfinished = Some (codes "unfinished line")
status_text Status.Exists = Some (codes "store exists")

abbrev pub named_line : Option Bytes → Bytes
named_line None = []
named_line (Some text) = codes "ipstore: " ++ text ++ line_feed ∷ []

abbrev pub status_line : Status → Bytes
status_line status = named_line (status_text status)
