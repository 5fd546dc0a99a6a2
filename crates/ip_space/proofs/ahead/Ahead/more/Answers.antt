use Rattle.std.proofs.Common.{◌≡◌, ℕ, ◌+◌, ◌++◌, List, length, take, drop, refl, ◌∙◌, ap, arith, length-drop}
use Rattle.ip_space.specs.declared.ahead.Ahead.{Ahead}
use Rattle.ip_space.specs.Ahead.{held_in}
use Rattle.ip_space.specs.Viewed.{view_of}
use Rattle.ip_space.proofs.HeldBytes.{held_size, held_more}
use Rattle.ip_space.proofs.Filled.{goes_by}
use Rattle.ip_space.proofs.ahead.Ahead.more.Goals as goal

pub returns-clause-goes : goal.returns-clause-goes
returns-clause-goes g c told readable =
    let a : Ahead = c.make_room.new.self in
    let n : ℕ = c.in_ok-self.field-0 in
    let v : Ahead = record { buffer = c.read_into.new.buffer; start = a.start; stop = a.stop + n } in
    let made = c.in_ok-make_room.ensures in
    let read = c.in_ok-self.ensures in
    let front = made.front in
    let filled : List ℕ = drop a.stop v.buffer.items in
    let size : a.stop ≡ length (held_in c.args.self.now) = (let s = held_size a made.ahead in omega (arith, s, front)) ∙ ap length made.held in
    let fits = read.fits in
    let left = length-drop a.stop v.buffer.items in
    let same = read.size in
    let room = made.room in
    let wanted = c.min-want.ensures in
    let beyond = c.saturating_sub.ensures in
    let more = c.if-self-want.false in
    goes_by c.args.at c.args.want _ n a.stop (view_of c.args.source.now) (held_in c.args.self.now) (held_in v) filled _ _ (read.only told) size (read.reads told readable) fits
    (omega (arith, fits, left, same, room))
    (held_more a v n front front read.front refl ∙ ap (λ (xs : List ℕ). xs ++ take n filled) made.held)
    (omega (arith, size, wanted, beyond, more))
