use Rattle.std.proofs.Common.{◌≢◌, arith}
use Rattle.ip_worker.specs.Whole.{layout_of_job}
use Rattle.ip_worker.proofs.Opening.{own_pair, generation_later, bad_found, opened}
use Rattle.ip_worker.proofs.search.open.Goals as goal

pub of-requires-clause-chunk : goal.of-requires-clause-chunk
of-requires-clause-chunk g c = c.requires.chunk

pub of-requires-clause-order : goal.of-requires-clause-order
of-requires-clause-order g c = omega (arith, c.requires.horizon, c.requires.some)

pub of-requires-clause-ends : goal.of-requires-clause-ends
of-requires-clause-ends g c = c.requires.most

pub of-requires-clause-nothing_below : goal.of-requires-clause-nothing_below
of-requires-clause-nothing_below g c none = c.requires.served.0 none

pub returns-in-Ok-clause-opens : goal.returns-in-Ok-clause-opens
returns-in-Ok-clause-opens g c told nothing rows generation =
    let a = g.G.Ground.told c.args.outside.now in
    let b = g.G.Ground.told c.of.new.outside in
    let s = layout_of_job c.args.job.now in
    let own = own_pair a s nothing in
    let does = c.in-Ok.ensures in
    record {
      ok = opened b.held s rows c.in-Ok.space (generation_later a b s rows (does.only told) own generation) does.view does.runs does.kept (λ live. does.finds told live own);
      whole = λ no. absurd (cc no);
    }

pub returns-in-Err-Damaged-clause-opens : goal.returns-in-Err-Damaged-clause-opens
returns-in-Err-Damaged-clause-opens g c told nothing rows generation =
    let a = g.G.Ground.told c.args.outside.now in
    let b = g.G.Ground.told c.of.new.outside in
    let s = layout_of_job c.args.job.now in
    let own = own_pair a s nothing in
    let does = c.in-Err-Damaged.ensures in
    let live : s.live ≢ 0 = (λ none. absurd (cc (does.opens none))) in
    record {
      ok = tt;
      whole = λ is. bad_found b.held s rows c.in-Err-Damaged.field-0 c.in-Err-Damaged.field-0-0 c.in-Err-Damaged.field-0-1 c.in-Err-Damaged.field-0-is live (generation_later a b s rows (does.only told) own generation) (does.finds told live own);
    }
