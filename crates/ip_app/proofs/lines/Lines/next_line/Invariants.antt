use Rattle.std.proofs.Common.{◌≡◌, ◌+◌, ◌-◌, ◌^◌, ◌≤◌, ◌++◌, length, vec_len, IsTrue}
use Rattle.std.specs.Vec.{vec_capacity}
use Rattle.ip_app.specs.Lines.{HasNoLineFeed, longest_line}
use Rattle.ip_app.specs.Pending.{pending, IsReady}
use Rattle.ip_app.proofs.lines.Lines.next_line.Given as goal

abbrev pub invariant-loop-self : goal.invariant-loop-self
invariant-loop-self g l =
    let left = g.S.Source.left in
    record {
      ready : IsReady l.self;
      no_line_feed : HasNoLineFeed l.line.items;
      room : vec_len l.line + length (pending l.self) ≤ longest_line + 1;
      capacity : longest_line + 1 ≤ vec_capacity l.line;
      grown : vec_capacity l.fn.line ≤ vec_capacity l.line;
      still : g.S.Source.read_faults l.source ≡ g.S.Source.read_faults l.fn.source;
      bytes : IsTrue g.S.Source.tells → pending l.fn.self ++ left l.fn.source ≡ l.line.items ++ pending l.self ++ left l.source;
      count : l.self.taken + length (pending l.fn.self) ≡ l.fn.self.taken + vec_len l.line + length (pending l.self);
    }

abbrev pub decreases-loop-self : goal.decreases-loop-self
decreases-loop-self g l = 2 ^ 62 - l.self.taken
