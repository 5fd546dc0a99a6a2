use Rattle.std.proofs.Common.{ℕ, subst}
use Rattle.ip_ground.specs.declared.names.FileName.{FileName}
use Rattle.ip_ground.specs.Calls.{Reads}
use Rattle.ip_chunks.proofs.Borders.{some_size}
use Rattle.ip_chunks.proofs.Writing.{reads_at}
use Rattle.ip_chunks.proofs.chunks.Chunks.read_piece.Goals as goal

pub returns-clause-does : goal.returns-clause-does
returns-clause-does g c told =
    let size = c.args.self.now.size in
    let old = g.G.Ground.told c.args.outside.now in
    let new = g.G.Ground.told c.read.new.self in
    reads_at size c.args.at (some_size size c.requires.allowed) c.args.out.now c.read.new.out c.requires.within old new c.read.result
    (subst (λ (f : FileName × ℕ). Reads f.0 f.1 c.args.out.now c.read.new.out c.read.result old new) c.file_of-file.ensures (c.read.ensures.does told))
