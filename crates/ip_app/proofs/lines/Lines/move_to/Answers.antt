use Rattle.std.proofs.Common.{rules, take, ◌≤◌, length}
use Rattle.ip_app.proofs.LineLemmas.{finds_line_feed, no_line_feed_in_piece, no_line_feed_at_all, none_between}
use Rattle.ip_app.specs.Pending.{pending}
use Rattle.ip_app.proofs.lines.Lines.move_to.Goals as goal

pub returns-in-Some-clause-found : goal.returns-in-Some-clause-found
returns-in-Some-clause-found c h =
    let whole : c.args.self.now.end ≤ length c.args.self.now.chunk = search rules in
    record {
      piece = take c.in-Some.n (pending c.args.self.now);
      no_line_feed = no_line_feed_in_piece (pending c.args.self.now) c.in-Some.n c.in-Some.ensures.0;
      bytes = finds_line_feed c.args.self.now.chunk c.args.self.now.at c.args.self.now.end c.in-Some.n whole c.in-Some.ensures.0 c.in-Some.ensures.1;
      grown = search rules;
    }

pub returns-in-None-clause-none : goal.returns-in-None-clause-none
returns-in-None-clause-none c h = record {
  no_line_feed = no_line_feed_at_all (pending c.args.self.now) c.in-None.ensures;
  none_left = none_between c.args.self.now.chunk c.args.self.now.end;
  grown = search rules;
}
