use Rattle.std.proofs.Common.{◌≤◌, ℕ, subst}
use Rattle.ip_ground.specs.Contents.{size_of}
use Rattle.ip_ground.specs.declared.names.FileName.{FileName}
use Rattle.ip_ground.specs.Told.{Only, ChangesOnly}
use Rattle.ip_ground.specs.Calls.{Writes}
use Rattle.ip_chunks.proofs.Borders.{some_size}
use Rattle.ip_chunks.proofs.Writing.{reaches, only_piece, appends}
use Rattle.ip_chunks.proofs.chunks.Chunks.write_piece.Goals as goal

pub returns-clause-does : goal.returns-clause-does
returns-clause-does g c told no_gap =
    let size = c.args.self.now.size in
    let some = some_size size c.requires.allowed in
    let old = g.G.Ground.told c.args.outside.now in
    let new = g.G.Ground.told c.write.new.self in
    let within = reaches size c.args.at some old.held no_gap in
    appends size c.args.at some c.args.bytes.now c.requires.some c.requires.within old new within c.write.result
    (subst (λ (f : FileName × ℕ). f.1 ≤ size_of (old.held f.0) → Writes f.0 f.1 c.args.bytes.now c.write.result old new) c.file_of-file.ensures (c.write.ensures.does told) within)

pub returns-clause-only : goal.returns-clause-only
returns-clause-only g c told =
    let old = g.G.Ground.told c.args.outside.now in
    let new = g.G.Ground.told c.write.new.self in
    let only = subst (λ (f : FileName × ℕ). ChangesOnly (Only f.0) old new) c.file_of-file.ensures (c.write.ensures.only told) in
    only_piece c.args.self.now.size c.args.at c.args.bytes.now c.requires.some old new only
