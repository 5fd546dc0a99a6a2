use Rattle.std.proofs.Common.{arith}
use Rattle.ip_spec.specs.History.{is_ancestor, ancestors}
use Rattle.ip_model.proofs.Reaching.{found_more, found_all}
use Rattle.ip_model.proofs.history.History.ancestors.Goals as goal

pub loop-place-preserved : goal.loop-place-preserved
loop-place-preserved c r first shows = found_more (λ a. is_ancestor r a c.args.number) c.args.self.now.floor c.loop-place.place c.loop-place.found c.number_at-a.result c.is_ancestor-is.result c.number_at-a.ensures (c.is_ancestor-is.ensures r first shows) (c.loop-place.invariant r first shows) c.push_if.new.numbers c.in_ok-push_if.ensures

pub returns : goal.returns
unfolding ancestors
returns c r first shows = found_all c.args.self.now r shows (λ a. is_ancestor r a c.args.number) c.loop-place.place c.loop-place.found (omega (arith, c.len-place-end.ensures, c.loop-place-test.false)) (c.loop-place.invariant r first shows)
