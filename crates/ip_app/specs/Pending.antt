-- What stands in a chunk of a source.
use Rattle.std.specs.Prelude.{slice_range, ◌≤◌}
use Rattle.ip_spec.specs.Path.{Bytes}
use Rattle.ip_app.specs.declared.lines.Lines.{Lines}
use Rattle.ip_app.specs.declared.lines.TheConstants.{CHUNK}
use Rattle.ip_app.specs.Lines.{most_taken}

-- the bytes that were taken and stand in no line yet
abbrev pub pending : Lines → Bytes
pending lines = slice_range lines.chunk lines.at lines.end

pub record IsReady (lines : Lines) : Type 0 where
  pub ordered : lines.at ≤ lines.end
  pub in_range : lines.end ≤ CHUNK
  pub few : lines.taken ≤ most_taken
