use Rattle.std.proofs.Common.{◌≡◌, ℕ, ◌+◌, rules, sym, ap, subst, ◌∙◌, length, arith, Option}
use Rattle.std.proofs.lemmas.List.{take_at}
use Rattle.std.specs.Prelude.{IfSome}
use Rattle.ip_ground.specs.declared.names.GroundFault.{GroundFault}
use Rattle.ip_ground.specs.Told.{NoFile}
use Rattle.ip_space.specs.SpaceView.{byte_at}
use Rattle.ip_ground.proofs.Spans.{only_on}
use Rattle.ip_spec.specs.Path.{Bytes}
use Rattle.ip_spec.specs.declared.reply.Difference.{Difference}
use Rattle.ip_spec.specs.declared.reply.Produced.TheVariants as Produced
use Rattle.ip_keep.proofs.Held.{held_stood}
use Rattle.ip_check.specs.declared.fault.CheckFault.{CheckFault}
use Rattle.ip_check.specs.Alike.{IsByteOf, IsPiece, IsSoFar}
use Rattle.ip_check.proofs.KeptBytes.{no_gap, same_read}
use Rattle.ip_check.proofs.Stages.{alike_turned, blamed_as}
use Rattle.ip_check.proofs.prefix.compare_stretch.Goals as goal

pub returns-in-Err-clause-short : goal.returns-in-Err-clause-short
returns-in-Err-clause-short g c told readable at is =
    let room : length c.deref_mut.result.now ≡ c.args.stretch.now.length = search rules in
    let (gap, inside, missing) = c.in-Err.ensures.short told readable at (blamed_as {A = Option Difference} {B = Unit {0}} c.in-Err.fault at is) in
    (gap, omega (arith, inside, room), missing)

pub returns-in-Err-clause-undamaged : goal.returns-in-Err-clause-undamaged
returns-in-Err-clause-undamaged g c told readable bytes long stands at is =
    let room : length c.deref_mut.result.now ≡ c.args.stretch.now.length = search rules in
    let (gap, inside, missing) = c.in-Err.ensures.short told readable at (blamed_as {A = Option Difference} {B = Unit {0}} c.in-Err.fault at is) in
    no_gap (byte_at (g.G.Ground.told c.args.outside.now) c.args.space.now) c.args.stretch.now.at bytes gap stands (omega (arith, inside, room, long)) missing

pub returns-in-Err-clause-blames : goal.returns-in-Err-clause-blames
returns-in-Err-clause-blames g c at is = c.in-Err.ensures.blames at (blamed_as {A = Option Difference} {B = Unit {0}} c.in-Err.fault at is)

pub returns-in_err-found-clause-only : goal.returns-in_err-found-clause-only
returns-in_err-found-clause-only g c told = only_on _ _ _ NoFile (c.read_stretch.ensures.only told) (c.compare.ensures.only told)

pub returns-clause-only : goal.returns-clause-only
returns-clause-only g c told = only_on _ _ _ NoFile (c.read_stretch.ensures.only told) (c.compare.ensures.only told)

pub returns-clause-says : goal.returns-clause-says
returns-clause-says g c told readable own bytes whole long stands piece so_far =
    let stays = (c.read_stretch.ensures.only told).others c.args.file (λ none. none) in
    let room : length c.deref_mut.result.now ≡ c.args.stretch.now.length = search rules in
    let as_long : length c.read_stretch.new.want ≡ length c.deref_mut.result.now = c.read_stretch.auto.want in
    let whole_length : length c.deref_mut.result.now ≡ c.in-Ok.want.len = search rules in
    let want : c.deref.result.now ≡ c.read_stretch.new.want = c.deref.ensures.value ∙ take_at c.read_stretch.new.want _ c.in-Ok.want.len (as_long ∙ whole_length) in
    let filled : c.read_stretch.new.want ≡ bytes = same_read (byte_at (g.G.Ground.told c.args.outside.now) c.args.space.now) c.args.stretch.now.at c.read_stretch.new.want bytes (as_long ∙ room ∙ sym long) (c.in-Ok-read_stretch.ensures.reads told readable) stands in
    let same : c.deref.result.now ≡ bytes = want ∙ filled in
    let held = stays.held own in
    alike_turned GroundFault CheckFault Produced.Prefix whole _ _ _ _ c.in_ok-found.found held (ap (λ (n : ℕ). c.args.place + n) (ap length same ∙ long))
    (c.in_ok-found.ensures.says told (stays.own own) whole (subst (IsPiece whole c.args.place) (sym same) piece) (subst (λ (h : Option Bytes). IsSoFar whole h c.args.place) (sym held) so_far))

pub returns-clause-stands : goal.returns-clause-stands
returns-clause-stands g c told readable =
    let room : length c.deref_mut.result.now ≡ c.args.stretch.now.length = search rules in
    let as_long : length c.read_stretch.new.want ≡ length c.deref_mut.result.now = c.read_stretch.auto.want in
    held_stood (byte_at (g.G.Ground.told c.args.outside.now) c.args.space.now) c.args.stretch.now.at c.args.stretch.now.length c.read_stretch.new.want (c.in-Ok-read_stretch.ensures.reads told readable) (as_long ∙ room)

pub returns-clause-differs : goal.returns-clause-differs
returns-clause-differs g c =
    let room : length c.deref_mut.result.now ≡ c.args.stretch.now.length = search rules in
    let as_long : length c.read_stretch.new.want ≡ length c.deref_mut.result.now = c.read_stretch.auto.want in
    let whole_length : length c.deref_mut.result.now ≡ c.in-Ok.want.len = search rules in
    let want : c.deref.result.now ≡ c.read_stretch.new.want = c.deref.ensures.value ∙ take_at c.read_stretch.new.want _ c.in-Ok.want.len (as_long ∙ whole_length) in
    subst (λ (n : ℕ). IfSome c.in_ok-found.found (IsByteOf Produced.Prefix c.args.place n)) (ap length want ∙ as_long ∙ room) c.in_ok-found.ensures.differs
