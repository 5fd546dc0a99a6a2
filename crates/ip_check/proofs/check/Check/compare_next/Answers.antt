use Rattle.std.proofs.Common.{◌≡◌, ℕ, ◌+◌, ◌≤◌, List, refl, sym, ap, subst, ◌∙◌, drop, arith, Option, Ok}
use Rattle.ip_base.specs.declared.limit.TheConstants.{OFFSET_MAX}
use Rattle.ip_spec.specs.declared.reply.Difference.{Difference}
use Rattle.ip_image.specs.declared.run.Run.{Run}
use Rattle.ip_image.specs.Virtual.{Stands}
use Rattle.ip_space.specs.SpaceView.{SpaceView, IsReadable, byte_at}
use Rattle.ip_keep.specs.Runs.{IsHeld}
use Rattle.ip_keep.proofs.RunsApart.{ends_fit}
use Rattle.ip_check.specs.declared.check.Stage.{Stage}
use Rattle.ip_check.specs.CheckView.{CheckView}
use Rattle.ip_check.specs.Checking.{IsBlamed, IsBrokenIn, IsCheck, IsChecking}
use Rattle.ip_check.specs.Going.{Goes, HasStood, IsOver, KeepsTrue, found_of}
use Rattle.ip_check.specs.Stretching.{IsStretch}
use Rattle.ip_check.proofs.Linked.{stretch_ends}
use Rattle.ip_check.proofs.Stages.{behind_stretch, blamed_as, goes_stretch, is_next, keeps_stretch, place_fits, undamaged_as, undone}
use Rattle.ip_check.proofs.Stood.{blames_stretch, breaks_stretch, held_stretch, open_comparing, stood_none}
use Rattle.ip_check.proofs.check.Check.compare_next.Goals as goal

pub stretch_from-stretch-requires-clause-fit : goal.stretch_from-stretch-requires-clause-fit
stretch_from-stretch-requires-clause-fit g c =
    let v : CheckView = record { job = c.self.inside.job; keep = c.self.inside.keep; stage = c.self.inside.stage; compared = c.self.inside.compared } in
    let check : IsCheck v = subst IsCheck (sym c.self.view_is) c.requires.check in
    let low = check.keep.low in
    let high = check.keep.high in
    let ends = check.keep.ends in
    ends_fit v.keep.horizon c.kept.result.now (omega (arith, low, high, ends)) c.kept.ensures.inside

pub compare_stretch-requires-clause-inside : goal.compare_stretch-requires-clause-inside
compare_stretch-requires-clause-inside g c =
    let v : CheckView = record { job = c.self.inside.job; keep = c.self.inside.keep; stage = c.self.inside.stage; compared = c.self.inside.compared } in
    let check : IsCheck v = subst IsCheck (sym c.self.view_is) c.requires.check in
    let low = check.keep.low in
    let high = check.keep.high in
    let same = ap (λ (s : SpaceView). s.layout.end) c.space-space.ensures in
    let ends = stretch_ends v.keep.horizon c.kept.result.now v.compared c.args.most c.stretch_from-stretch.result c.kept.ensures.inside c.stretch_from-stretch.ensures in
    omega (arith, low, high, same, ends)

pub compare_stretch-requires-clause-fits : goal.compare_stretch-requires-clause-fits
compare_stretch-requires-clause-fits g c =
    let v : CheckView = record { job = c.self.inside.job; keep = c.self.inside.keep; stage = c.self.inside.stage; compared = c.self.inside.compared } in
    let check : IsCheck v = subst IsCheck (sym c.self.view_is) c.requires.check in
    let s = c.stretch_from-stretch.result in
    let stage : v.stage ≡ Stage.Comparing c.args.place = ap (λ (w : CheckView). w.stage) c.self.view_is ∙ c.requires.next.stage in
    let st : IsStretch (drop v.compared v.keep.kept) c.args.most s = subst (λ (l : List Run). IsStretch (drop v.compared l) c.args.most s) c.kept.ensures.kept c.stretch_from-stretch.ensures in
    let low = check.keep.low in
    let high = check.keep.high in
    let ends = check.keep.ends in
    let fits = place_fits v c.args.place c.args.most s check stage st in
    omega (arith, low, high, ends, fits, c.kept.ensures.total)

pub overflow_add-place : goal.overflow_add-place
overflow_add-place g c =
    let v : CheckView = record { job = c.self.inside.job; keep = c.self.inside.keep; stage = c.self.inside.stage; compared = c.self.inside.compared } in
    let check : IsCheck v = subst IsCheck (sym c.self.view_is) c.requires.check in
    let s = c.stretch_from-stretch.result in
    let stage : v.stage ≡ Stage.Comparing c.args.place = ap (λ (w : CheckView). w.stage) c.self.view_is ∙ c.requires.next.stage in
    let st : IsStretch (drop v.compared v.keep.kept) c.args.most s = subst (λ (l : List Run). IsStretch (drop v.compared l) c.args.most s) c.kept.ensures.kept c.stretch_from-stretch.ensures in
    let low = check.keep.low in
    let high = check.keep.high in
    let ends = check.keep.ends in
    let fits = place_fits v c.args.place c.args.most s check stage st in
    let small : c.args.place + s.length ≤ OFFSET_MAX = omega (arith, low, high, ends, fits, c.kept.ensures.total) in
    omega (arith, small)

pub returns-in-Err-clause-keeps : goal.returns-in-Err-clause-keeps
returns-in-Err-clause-keeps g c told records over keeping =
    let now = g.G.Ground.told c.args.outside.now in
    let v : CheckView = record { job = c.self.inside.job; keep = c.self.inside.keep; stage = c.self.inside.stage; compared = c.self.inside.compared } in
    let check : IsCheck v = subst IsCheck (sym c.self.view_is) c.requires.check in
    let s = c.stretch_from-stretch.result in
    let stage : v.stage ≡ Stage.Comparing c.args.place = ap (λ (w : CheckView). w.stage) c.self.view_is ∙ c.requires.next.stage in
    let st : IsStretch (drop v.compared v.keep.kept) c.args.most s = subst (λ (l : List Run). IsStretch (drop v.compared l) c.args.most s) c.kept.ensures.kept c.stretch_from-stretch.ensures in
    let here : IsOver now records v = subst (IsOver now records) (sym c.self.view_is) over in
    let n = is_next now records v c.args.place c.args.most s check stage st here (subst (λ (w : CheckView). IsChecking records (found_of now w) w) (sym c.self.view_is) keeping) in
    let readable = subst (IsReadable now) (sym c.space-space.ensures) here.readable in
    let stands = subst (λ (x : SpaceView). Stands (byte_at now x) s.at n.piece.bytes) (sym c.space-space.ensures) n.piece.stands in
    (keeping, undamaged_as {A = Option Difference} {B = ℕ} c.in-Err.fault (c.in-Err.ensures.undamaged told readable n.piece.bytes n.piece.long stands))

pub returns-clause-goes : goal.returns-clause-goes
returns-clause-goes g c =
    let v : CheckView = record { job = c.self.inside.job; keep = c.self.inside.keep; stage = c.self.inside.stage; compared = c.self.inside.compared } in
    let check : IsCheck v = subst IsCheck (sym c.self.view_is) c.requires.check in
    let s = c.stretch_from-stretch.result in
    let stage : v.stage ≡ Stage.Comparing c.args.place = ap (λ (w : CheckView). w.stage) c.self.view_is ∙ c.requires.next.stage in
    let st : IsStretch (drop v.compared v.keep.kept) c.args.most s = subst (λ (l : List Run). IsStretch (drop v.compared l) c.args.most s) c.kept.ensures.kept c.stretch_from-stretch.ensures in
    subst (λ (t : Stage). Goes c.args.most c.args.self.now (record { job = v.job; keep = v.keep; stage = t; compared = v.compared + s.records })) (sym c.next_stage-self-inside.ensures)
    (subst (λ (w : CheckView). Goes c.args.most w (behind_stretch v c.in-Ok.found c.args.place s)) c.self.view_is (goes_stretch v c.in-Ok.found c.args.place c.args.most s check stage st c.in-Ok.ensures.differs))

pub returns-clause-keeps : goal.returns-clause-keeps
returns-clause-keeps g c told =
    let now = g.G.Ground.told c.args.outside.now in
    let v : CheckView = record { job = c.self.inside.job; keep = c.self.inside.keep; stage = c.self.inside.stage; compared = c.self.inside.compared } in
    let check : IsCheck v = subst IsCheck (sym c.self.view_is) c.requires.check in
    let s = c.stretch_from-stretch.result in
    let stage : v.stage ≡ Stage.Comparing c.args.place = ap (λ (w : CheckView). w.stage) c.self.view_is ∙ c.requires.next.stage in
    let st : IsStretch (drop v.compared v.keep.kept) c.args.most s = subst (λ (l : List Run). IsStretch (drop v.compared l) c.args.most s) c.kept.ensures.kept c.stretch_from-stretch.ensures in
    subst (λ (t : Stage). KeepsTrue {A = ℕ} now c.args.self.now (record { job = v.job; keep = v.keep; stage = t; compared = v.compared + s.records }) (Ok s.records)) (sym c.next_stage-self-inside.ensures)
    (subst (λ (w : CheckView). KeepsTrue {A = ℕ} now w (behind_stretch v c.in-Ok.found c.args.place s) (Ok s.records)) c.self.view_is (λ records over keeping.
    let n = is_next now records v c.args.place c.args.most s check stage st over keeping in
    let readable = subst (IsReadable now) (sym c.space-space.ensures) over.readable in
    let stands = subst (λ (x : SpaceView). Stands (byte_at now x) s.at n.piece.bytes) (sym c.space-space.ensures) n.piece.stands in
    (keeps_stretch now records v c.args.place s c.in-Ok.found keeping n (c.in-Ok.ensures.says told readable over.fixed.prefix n.piece.bytes n.comparing.pair.prefix n.piece.long stands n.piece.piece n.comparing.prefix), λ at e. undone s.records at e)))

pub returns-in-Err-clause-blames : goal.returns-in-Err-clause-blames
returns-in-Err-clause-blames g c at is =
    let v : CheckView = record { job = c.self.inside.job; keep = c.self.inside.keep; stage = c.self.inside.stage; compared = c.self.inside.compared } in
    let s = c.stretch_from-stretch.result in
    let stage : v.stage ≡ Stage.Comparing c.args.place = ap (λ (w : CheckView). w.stage) c.self.view_is ∙ c.requires.next.stage in
    let st : IsStretch (drop v.compared v.keep.kept) c.args.most s = subst (λ (l : List Run). IsStretch (drop v.compared l) c.args.most s) c.kept.ensures.kept c.stretch_from-stretch.ensures in
    let here : at ≡ s.at = c.in-Err.ensures.blames at (blamed_as {A = ℕ} {B = Option Difference} c.in-Err.fault at is) in
    subst (λ (w : CheckView). IsBlamed w at) c.self.view_is (blames_stretch v c.args.place c.args.most at s stage st here)

pub returns-in-Err-clause-broken : goal.returns-in-Err-clause-broken
returns-in-Err-clause-broken g c told readable at is =
    let now = g.G.Ground.told c.args.outside.now in
    let v : CheckView = record { job = c.self.inside.job; keep = c.self.inside.keep; stage = c.self.inside.stage; compared = c.self.inside.compared } in
    let s = c.stretch_from-stretch.result in
    let stage : v.stage ≡ Stage.Comparing c.args.place = ap (λ (w : CheckView). w.stage) c.self.view_is ∙ c.requires.next.stage in
    let st : IsStretch (drop v.compared v.keep.kept) c.args.most s = subst (λ (l : List Run). IsStretch (drop v.compared l) c.args.most s) c.kept.ensures.kept c.stretch_from-stretch.ensures in
    let bad = blamed_as {A = ℕ} {B = Option Difference} c.in-Err.fault at is in
    let here : at ≡ s.at = c.in-Err.ensures.blames at bad in
    let space = sym (c.space-space.ensures ∙ ap (λ (w : CheckView). w.keep.space) c.self.view_is) in
    let (gap, inside, missing) = c.in-Err.ensures.short told (subst (IsReadable now) space readable) at bad in
    subst (λ (w : CheckView). IsBrokenIn now w at) c.self.view_is
    (breaks_stretch now v c.args.place c.args.most at s stage st here (gap, inside, ap (λ (x : SpaceView). byte_at now x (s.at + gap)) (sym c.space-space.ensures) ∙ missing))

pub returns-in-Err-clause-stood : goal.returns-in-Err-clause-stood
returns-in-Err-clause-stood g c told = stood_none (g.G.Ground.told c.args.outside.now) c.args.self.now c.args.self.now refl

pub returns-in-Err-clause-unsaid : goal.returns-in-Err-clause-unsaid
returns-in-Err-clause-unsaid g c err = open_comparing c.args.self.now.stage c.args.place c.requires.next.stage

pub returns-clause-stood : goal.returns-clause-stood
returns-clause-stood g c told =
    let now = g.G.Ground.told c.args.outside.now in
    let v : CheckView = record { job = c.self.inside.job; keep = c.self.inside.keep; stage = c.self.inside.stage; compared = c.self.inside.compared } in
    let s = c.stretch_from-stretch.result in
    let st : IsStretch (drop v.compared v.keep.kept) c.args.most s = subst (λ (l : List Run). IsStretch (drop v.compared l) c.args.most s) c.kept.ensures.kept c.stretch_from-stretch.ensures in
    subst (λ (t : Stage). HasStood now c.args.self.now (record { job = v.job; keep = v.keep; stage = t; compared = v.compared + s.records })) (sym c.next_stage-self-inside.ensures)
    (subst (λ (w : CheckView). HasStood now w (behind_stretch v c.in-Ok.found c.args.place s)) c.self.view_is (λ readable.
    let held = c.in-Ok.ensures.stands told (subst (IsReadable now) (sym c.space-space.ensures) readable) in
    held_stretch (byte_at now v.keep.space) v.keep.kept v.compared c.args.most s st (subst (λ (x : SpaceView). IsHeld (byte_at now x) s.at s.length) c.space-space.ensures held)))
