use Rattle.std.proofs.Common.{◌≡◌, ◌+◌, length, rules, ap}
use Rattle.ip_check.proofs.Making.{piece_as, flushed}
use Rattle.ip_check.proofs.mapping.Pieces.flush.Goals as goal

pub returns-clause-says : goal.returns-clause-says
returns-clause-says g c told own whole rest made =
    let p = c.args.self.now in
    let is : c.deref.result.now ≡ p.bytes.items = search rules in
    let size : c.len.result ≡ length p.bytes.items = search rules in
    let place : p.place + c.len.result ≡ p.place + length p.bytes.items = ap (λ n. p.place + n) size in
    flushed whole _ p rest made c.deref.result.now is _ place c.clear.ensures.items c.in_ok-found.found (c.in_ok-found.ensures.says told own whole (piece_as whole _ p rest made c.deref.result.now is) made.so_far)
