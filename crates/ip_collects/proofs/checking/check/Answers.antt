use Rattle.std.proofs.Common.{◌∙◌, ◌≤◌, ℕ, pos, refl, sym, ap, subst, Some, None}
use Rattle.std.specs.Prelude.{IsErr}
use Rattle.ip_base.specs.declared.exit.Exit.TheVariants as Exit
use Rattle.ip_ground.specs.Counts.{Counts}
use Rattle.ip_held.specs.declared.collection.Collection.{Collection}
use Rattle.ip_held.specs.declared.held.Held.{Held}
use Rattle.ip_held.specs.Collecting.{until}
use Rattle.ip_image.specs.Collection.{found_in}
use Rattle.ip_space.specs.SpaceView.{SpaceView}
use Rattle.ip_keep.specs.Whole.{AreRecords}
use Rattle.ip_collects.specs.CollectFaults.{counted_finish}
use Rattle.ip_collects.specs.Finishing.{IsUndamaged, LooksOn, LooksWithin}
use Rattle.ip_collects.specs.Judging.{EndsCheck, FindsNone, FitsExit, IsOpen, IsThrough, SlicesBy, TellsVerdict}
use Rattle.ip_held.specs.Held.{Holds, IsOf}
use Rattle.ip_held.proofs.Going.{phase_here}
use Rattle.ip_collects.proofs.Judged.{begins_checking, begins_over, blames_check, breaks_check, check_readable, counts_check, ends_through, has_exit, job_space, kept_check, looks_on, memory_check, no_damage, none_looked, not_open, put_check, same_one, sliced_holds, sliced_says, sliced_tables, slices, unsaid_check, with_holds, zero_fits}
use Rattle.ip_collects.proofs.LookBounds.{bounds_looks}
use Rattle.ip_collects.proofs.checking.check.Goals as goal

pub returns-in_err-check-clause-holds : goal.returns-in_err-check-clause-holds
returns-in_err-check-clause-holds g c told r held =
    let store = c.args.store.now in
    let x = c.in-Some.collection in
    subst (λ (y : Collection). Holds (record store { collection = Some y }) (g.G.Ground.told c.args.outside.now) r) (sym c.take_check.ensures.taken)
    (with_holds store r x c.in-Some.is (has_exit store.collection x c.in-Some.is c.requires.running) (g.G.Ground.told c.args.outside.now) held None tt tt)

pub returns-clause-check : goal.returns-clause-check
returns-clause-check g c y runs =
    let store = c.args.store.now in
    let x = c.in-Some.collection in
    let same = same_one store.collection x y c.in-Some.is runs in
    let (r, of) = c.requires.tables in
    let slice = c.advance-outcome.ensures in
    let now = c.advance-outcome.new.self in (
      Some now,
      put_check store y c.take_check.new.collection (Some now) (c.take_check.ensures.taken ∙ ap (λ (z : Collection). record z { check = None }) same),
      subst (λ (z : Collection). LooksOn c.args.most z (Some now)) same
          (looks_on store r x c.in-Some.is (has_exit store.collection x c.in-Some.is c.requires.running) c.in_ok-check.check c.in_ok-check.ensures.next now slice.check slice.same c.args.most c.advance-outcome.result slice.advances),
    )

pub returns-in_err-check-clause-check : goal.returns-in_err-check-clause-check
returns-in_err-check-clause-check g c y runs =
    let store = c.args.store.now in
    let x = c.in-Some.collection in
    let same = same_one store.collection x y c.in-Some.is runs in (
      None,
      ap (λ (z : Collection). record store { collection = Some z }) (c.take_check.ensures.taken ∙ ap (λ (z : Collection). record z { check = None }) same),
      subst (λ (z : Collection). LooksOn c.args.most z None) same (none_looked c.args.most x (c.in_err-check.ensures.begins refl)),
    )

pub returns-clause-whole : goal.returns-clause-whole
returns-clause-whole g c all opens =
    not_open c.args.most c.in_ok-check.check c.advance-outcome.new.self c.advance-outcome.result c.left-left.result c.advance-outcome.ensures.check c.advance-outcome.ensures.advances all (subst IsOpen c.verdict_of.ensures opens)

pub returns-clause-holds : goal.returns-clause-holds
returns-clause-holds g c told r held =
    let store = c.args.store.now in
    let x = c.in-Some.collection in
    let a = g.G.Ground.told c.args.outside.now in
    let some = has_exit store.collection x c.in-Some.is c.requires.running in
    let slice = c.advance-outcome.ensures in
    let next = c.in_ok-check.ensures.next in
    let over = begins_over store r x c.in-Some.is some c.in_ok-check.check next c.advance-outcome.new.self slice.check slice.same a held in
    let begins = begins_checking store r x c.in-Some.is some c.in_ok-check.check next c.advance-outcome.new.self slice.check slice.same a held in
    subst (λ (s : Held). Holds s (g.G.Ground.told c.advance-outcome.new.outside) r) (sym (put_check store x c.take_check.new.collection (Some c.advance-outcome.new.self) c.take_check.ensures.taken))
    (sliced_holds store r x c.in-Some.is some c.in_ok-check.check next c.advance-outcome.new.self slice.check slice.same a held (g.G.Ground.told c.advance-outcome.new.outside) (slice.only told)
    (slice.checking told over.readable over.fixed (until x.job.end held.stands.standing.records) over.whole begins))

pub returns-clause-says : goal.returns-clause-says
returns-clause-says g c told r held y runs =
    let store = c.args.store.now in
    let x = c.in-Some.collection in
    let a = g.G.Ground.told c.args.outside.now in
    let some = has_exit store.collection x c.in-Some.is c.requires.running in
    let slice = c.advance-outcome.ensures in
    let next = c.in_ok-check.ensures.next in
    let over = begins_over store r x c.in-Some.is some c.in_ok-check.check next c.advance-outcome.new.self slice.check slice.same a held in
    let begins = begins_checking store r x c.in-Some.is some c.in_ok-check.check next c.advance-outcome.new.self slice.check slice.same a held in
    subst (λ (z : Collection). TellsVerdict held.stands.standing.records z a c.verdict_of.result) (same_one store.collection x y c.in-Some.is runs)
    (subst (TellsVerdict held.stands.standing.records x a) (sym c.verdict_of.ensures)
    (sliced_says store r x c.in-Some.is some c.in_ok-check.check next c.advance-outcome.new.self slice.check slice.same a held c.advance-outcome.result c.left-left.result
    (slice.says told over.readable over.fixed (until x.job.end held.stands.standing.records) over.whole begins)))

pub returns-clause-undamaged : goal.returns-clause-undamaged
returns-clause-undamaged g c told r held =
    let store = c.args.store.now in
    let x = c.in-Some.collection in
    let a = g.G.Ground.told c.args.outside.now in
    let some = has_exit store.collection x c.in-Some.is c.requires.running in
    let slice = c.advance-outcome.ensures in
    let next = c.in_ok-check.ensures.next in
    let over = begins_over store r x c.in-Some.is some c.in_ok-check.check next c.advance-outcome.new.self slice.check slice.same a held in
    let begins = begins_checking store r x c.in-Some.is some c.in_ok-check.check next c.advance-outcome.new.self slice.check slice.same a held in
    subst IsUndamaged (sym c.verdict_of.ensures)
    (no_damage c.advance-outcome.result c.left-left.result (slice.undamaged told over.readable over.fixed (until x.job.end held.stands.standing.records) over.whole begins))

pub take_check-requires-clause-job : goal.take_check-requires-clause-job
take_check-requires-clause-job g c = let (r, of) = c.requires.tables in (phase_here c.args.store.now r c.in-Some.collection c.in-Some.is of).told.valid

pub take_check-requires-clause-space : goal.take_check-requires-clause-space
take_check-requires-clause-space g c = let (r, of) = c.requires.tables in job_space c.args.store.now r c.in-Some.collection c.in-Some.is of

pub take_check-requires-clause-kept : goal.take_check-requires-clause-kept
take_check-requires-clause-kept g c =
    let (r, of) = c.requires.tables in
    kept_check c.args.store.now r c.in-Some.collection c.in-Some.is (has_exit c.args.store.now.collection c.in-Some.collection c.in-Some.is c.requires.running) of

pub returns-clause-tables : goal.returns-clause-tables
returns-clause-tables g c r of =
    let store = c.args.store.now in
    let x = c.in-Some.collection in
    subst (λ (s : Held). IsOf s r) (sym (put_check store x c.take_check.new.collection (Some c.advance-outcome.new.self) c.take_check.ensures.taken))
    (sliced_tables store r x c.in-Some.is (has_exit store.collection x c.in-Some.is c.requires.running) c.in_ok-check.check c.in_ok-check.ensures.next c.advance-outcome.new.self c.advance-outcome.ensures.check c.advance-outcome.ensures.same of)

pub returns-clause-fits : goal.returns-clause-fits
returns-clause-fits g c = subst (FitsExit (Exit.Code (pos 0))) (sym c.verdict_of.ensures) (zero_fits c.advance-outcome.result c.left-left.result)

pub returns-clause-ends : goal.returns-clause-ends
returns-clause-ends g c =
    subst (λ verdict. EndsCheck verdict (Some (record c.take_check.new.collection { check = Some c.advance-outcome.new.self }))) (sym c.verdict_of.ensures)
    (ends_through c.take_check.new.collection c.advance-outcome.new.self c.advance-outcome.result c.left-left.result c.advance-outcome.ensures.advances.ends)

pub returns-clause-blames : goal.returns-clause-blames
returns-clause-blames g c at is =
    blames_check c.take_check.new.collection c.advance-outcome.new.self c.advance-outcome.result c.left-left.result c.advance-outcome.ensures.blames at (sym c.verdict_of.ensures ∙ is)

pub returns-clause-counts : goal.returns-clause-counts
returns-clause-counts g c =
    subst (λ verdict. Counts counted_finish verdict (g.G.Ground.counts_of c.args.outside.now) (g.G.Ground.counts_of c.advance-outcome.new.outside)) (sym c.verdict_of.ensures)
    (counts_check c.advance-outcome.result c.left-left.result (g.G.Ground.counts_of c.args.outside.now) (g.G.Ground.counts_of c.advance-outcome.new.outside) c.advance-outcome.ensures.counts)

pub returns-clause-sliced : goal.returns-clause-sliced
returns-clause-sliced g c y runs =
    let store = c.args.store.now in
    let x = c.in-Some.collection in
    let (r, of) = c.requires.tables in
    let now = c.advance-outcome.new.self in
    subst (λ (z : Collection). SlicesBy c.args.most z c.verdict_of.result (Some (record c.take_check.new.collection { check = Some now }))) (same_one store.collection x y c.in-Some.is runs)
    (subst (λ (z : Collection). SlicesBy c.args.most x c.verdict_of.result (Some (record z { check = Some now }))) (sym c.take_check.ensures.taken)
    (subst (λ verdict. SlicesBy c.args.most x verdict (Some (record x { check = Some now }))) (sym c.verdict_of.ensures)
    (slices store r x c.in-Some.is (has_exit store.collection x c.in-Some.is c.requires.running) c.in_ok-check.check c.in_ok-check.ensures.next now c.advance-outcome.ensures.check c.advance-outcome.ensures.same
    c.args.most c.left-left.result c.advance-outcome.result c.advance-outcome.ensures.advances c.left-left.ensures)))

pub returns-clause-broken : goal.returns-clause-broken
returns-clause-broken g c told owns at is =
    let (r, of) = c.requires.tables in
    let slice = c.advance-outcome.ensures in
    let readable = check_readable c.args.store.now r c.in-Some.collection c.in_ok-check.check (g.G.Ground.told c.args.outside.now) of owns c.in_ok-check.ensures.next.of in
    breaks_check c.take_check.new.collection c.in_ok-check.check c.advance-outcome.new.self (g.G.Ground.told c.args.outside.now) (g.G.Ground.told c.advance-outcome.new.outside) (slice.only told) readable slice.same.space c.advance-outcome.result c.left-left.result
    (slice.broken told readable) at (sym c.verdict_of.ensures ∙ is)

pub returns-clause-through : goal.returns-clause-through
returns-clause-through g c is = memory_check c.take_check.new.collection c.advance-outcome.new.self c.advance-outcome.result c.left-left.result c.advance-outcome.ensures.unsaid (sym c.verdict_of.ensures ∙ is)

-- no check was kept, and none began
pub returns-in_err-check-clause-through : goal.returns-in_err-check-clause-through
returns-in_err-check-clause-through g c is = subst (λ (y : Collection). FindsNone (Some y)) (sym c.take_check.ensures.taken) tt

pub returns-clause-unsaid : goal.returns-clause-unsaid
returns-clause-unsaid g c is = unsaid_check c.take_check.new.collection c.advance-outcome.new.self c.advance-outcome.result c.left-left.result c.advance-outcome.ensures.unsaid (subst (λ verdict. IsErr verdict) c.verdict_of.ensures is)

pub returns-in_err-check-clause-unsaid : goal.returns-in_err-check-clause-unsaid
returns-in_err-check-clause-unsaid g c is = subst (λ (y : Collection). ¬ IsThrough (Some y)) (sym c.take_check.ensures.taken) (λ no. no)

pub returns-clause-bounded : goal.returns-clause-bounded
returns-clause-bounded g c told r held y runs valid =
    let store = c.args.store.now in
    let x = c.in-Some.collection in
    let a = g.G.Ground.told c.args.outside.now in
    let some = has_exit store.collection x c.in-Some.is c.requires.running in
    let slice = c.advance-outcome.ensures in
    let next = c.in_ok-check.ensures.next in
    let over = begins_over store r x c.in-Some.is some c.in_ok-check.check next c.advance-outcome.new.self slice.check slice.same a held in
    let begins = begins_checking store r x c.in-Some.is some c.in_ok-check.check next c.advance-outcome.new.self slice.check slice.same a held in
    subst (λ (z : Collection). LooksWithin c.args.most held.stands.standing.records z) (same_one store.collection x y c.in-Some.is runs)
    (bounds_looks c.args.most a.held held.stands.standing.records x store.space c.in_ok-check.check c.advance-outcome.new.self (found_in a.held c.in_ok-check.check.job.attempt) next slice.check slice.same (subst (λ (s : SpaceView). AreRecords a.held s c.advance-outcome.new.self.keep.horizon (until x.job.end held.stands.standing.records)) (sym slice.same.space) (subst (λ (h : ℕ). AreRecords a.held c.in_ok-check.check.keep.space h (until x.job.end held.stands.standing.records)) (sym slice.same.horizon) over.whole))
    (slice.checking told over.readable over.fixed (until x.job.end held.stands.standing.records) over.whole begins) c.advance-outcome.result c.left-left.result slice.advances (sym c.verdict_of.ensures ∙ valid))
