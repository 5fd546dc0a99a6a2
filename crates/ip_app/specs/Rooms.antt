-- The room that serving takes before its first line.
use Rattle.std.specs.Prelude.{◌≤◌, ◌+◌}
use Rattle.std.specs.Vec.{vec_capacity}
use Rattle.ip_session.specs.declared.session.TheConstants.{REPLY_ROOM}
use Rattle.ip_app.specs.declared.serve.LineRoom.{LineRoom}
use Rattle.ip_app.specs.Lines.{longest_line}
use Rattle.ip_app.specs.Pending.{IsReady}

-- there is room for each line, and for the replies that take no memory
pub record IsRoomy (room : LineRoom) : Type 0 where
  pub ready : IsReady room.lines
  pub line : longest_line + 1 ≤ vec_capacity room.line
  pub text : REPLY_ROOM ≤ vec_capacity room.text
