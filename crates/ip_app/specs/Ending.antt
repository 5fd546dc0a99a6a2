-- How the reading of a source ends, by its bytes alone.
--     ending_of bytes      the status, in whatever pieces they come
--     IsOfBytes status      the statuses that the bytes alone give
use Rattle.std.specs.Prelude.{ℕ, ◌+◌, nat_lt, nat_le, ◌==◌, if◌then◌else◌, [], ◌∷◌}
use Rattle.ip_spec.specs.Path.{Bytes, line_feed}
use Rattle.ip_app.specs.declared.statuses.Status.{Status}
use Rattle.ip_app.specs.declared.statuses.Bound.TheVariants as Bound
use Rattle.ip_app.specs.Lines.{longest_line, most_taken}

-- n bytes into a line, and with so many taken, before these
abbrev pub ending_from : (n taken : ℕ) → Bytes → Status
ending_from n taken [] =
    if nat_lt longest_line n then Status.Limit Bound.Line
    else if nat_le most_taken taken then Status.Limit Bound.Input
    else if n == 0 then Status.Done
    else Status.Unfinished
ending_from n taken (b ∷ bytes) =
    if nat_lt longest_line n then Status.Limit Bound.Line
    else if nat_le most_taken taken then Status.Limit Bound.Input
    else ending_from (if b == line_feed then 0 else n + 1) (taken + 1) bytes

abbrev pub ending_of : Bytes → Status
ending_of bytes = ending_from 0 0 bytes

abbrev pub IsOfBytes : Status → Type 0
IsOfBytes Status.Done = Unit {0}
IsOfBytes Status.Unfinished = Unit {0}
IsOfBytes (Status.Limit bound) = Unit {0}
IsOfBytes _ = ⊥
