use Rattle.ip_space.proofs.Kept.{run_read}
use Rattle.ip_space.proofs.source.Source.read_run.Goals as goal

pub returns-clause-reads : goal.returns-clause-reads
returns-clause-reads g c told readable =
    run_read c.args.self.now c.requires.source c.args.at c.args.row.now c.requires.row _ _ _ _ readable c.requires.room c.read.result (c.read.ensures.does told)
