use Rattle.std.proofs.Common.{[], ap, refl}
use Rattle.std.specs.FinMap.Entries.{find}
use Rattle.ip_spec.specs.Path.{bytes_cmp}
use Rattle.ip_spec.specs.Tree.{entries_of, subtree}
use Rattle.ip_tree.proofs.Walk.{err_is}
use Rattle.ip_differ.specs.Pieces.{at_place}
use Rattle.ip_differ.proofs.Standing.{place_finds}
use Rattle.ip_differ.proofs.Walking.{told_differs}
use Rattle.ip_differ.proofs.differing.Goals as goal

pub returns-in_err-walk_parts-clause-pairs : goal.returns-in_err-walk_parts-clause-pairs
returns-in_err-walk_parts-clause-pairs g c tells records v w p q over one other =
    let es = entries_of (subtree v.map p) in
    let fs = entries_of (subtree w.map q) in
    err_is c.from_residual.result c.in_err-walk_parts.field-0.0 c.from_residual.ensures.1 _ _
    (c.in_err-walk_parts.ensures.walked tells records (at_place records c.args.one.now) (at_place records c.args.other.now) es.entries fs.entries [] over refl (c.piece_of.ensures records v p one)
    (c.piece_of-2.ensures records w q other) (λ s there. ap (find bytes_cmp s) c.new-found.ensures.empty))

pub returns-clause-pairs : goal.returns-clause-pairs
returns-clause-pairs g c tells records v w p q over one other =
    let es = entries_of (subtree v.map p) in
    let fs = entries_of (subtree w.map q) in
    let walked =
    c.in_ok-walk_parts.ensures.walked tells records (at_place records c.args.one.now) (at_place records c.args.other.now) es.entries fs.entries [] over refl (c.piece_of.ensures records v p one)
    (c.piece_of-2.ensures records w q other) (λ s there. ap (find bytes_cmp s) c.new-found.ensures.empty) in
    λ s. told_differs records v w p q c.args.one.now c.args.other.now s (at_place records c.args.one.now s) (at_place records c.args.other.now s) (find bytes_cmp s c.walk_parts.new.found.entries)
    (place_finds records v p s c.args.one.now one) (place_finds records w q s c.args.other.now other) (walked s)
