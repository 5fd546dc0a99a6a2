use Rattle.ip_ground.proofs.bench.BenchGround.note_damage.Goals as goal

pub returns-clause-counts : goal.returns-clause-counts
returns-clause-counts c = c.found_damage.ensures _
