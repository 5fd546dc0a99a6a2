use Rattle.std.proofs.Common.{◌≡◌, subst, length, arith}
use Rattle.std.proofs.lemmas.List.{take_all}
use Rattle.ip_ground.specs.Told.{NoFile}
use Rattle.ip_ground.proofs.Spans.{only_on}
use Rattle.ip_image.specs.Virtual.{Stands}
use Rattle.ip_space.specs.SpaceView.{byte_at}
use Rattle.ip_check.proofs.prefix.read_stretch.Goals as goal

pub returns-clause-reads : goal.returns-clause-reads
returns-clause-reads g c told readable =
    let count = c.in_ok-count.count in
    let long : length c.read.new.out ≡ length c.args.want.now = c.read.auto.out in
    subst (Stands (byte_at (g.G.Ground.told c.args.outside.now) c.args.space.now) c.args.at) (take_all count c.read.new.out (omega (arith, c.if-count-want.false, long))) (c.in_ok-count.ensures.reads told readable).bytes

pub returns-then-count-want-clause-short : goal.returns-then-count-want-clause-short
returns-then-count-want-clause-short g c told readable at is =
    let long : length c.read.new.out ≡ length c.args.want.now = c.read.auto.out in
    let less = c.if-count-want.true in
    (c.in_ok-count.count, omega (arith, less, long), (c.in_ok-count.ensures.reads told readable).gap (omega (arith, less, long)))

pub returns-then-count-want-clause-only : goal.returns-then-count-want-clause-only
returns-then-count-want-clause-only g c told = only_on _ _ _ NoFile (c.in_ok-count.ensures.only told) (c.note_damage.ensures.does told)
