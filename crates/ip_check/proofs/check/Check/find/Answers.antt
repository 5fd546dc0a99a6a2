use Rattle.std.proofs.Common.{ℕ, rules, sym, subst, ap, Ok, Option}
use Rattle.std.specs.Prelude.{Err}
use Rattle.ip_spec.specs.declared.reply.Difference.{Difference}
use Rattle.ip_space.specs.SpaceView.{IsReadable}
use Rattle.ip_keep.specs.Keeping.{IsThrough}
use Rattle.ip_keep.specs.Runs.{left_of}
use Rattle.ip_check.specs.declared.check.Stage.{Stage}
use Rattle.ip_check.specs.CheckView.{CheckView}
use Rattle.ip_check.specs.Checking.{IsCheck}
use Rattle.ip_check.specs.Going.{Goes, KeepsTrue, found_of, next_stage}
use Rattle.ip_check.proofs.Stages.{blamed_as, goes_kept, goes_mapping, keeping_kept, keeps_mapping, keeps_on, undone, with_keep, with_stage}
use Rattle.ip_ground.specs.Told.{NoFile}
use Rattle.ip_ground.proofs.Spans.{only_on}
use Rattle.ip_check.proofs.Stood.{blames_kept, breaks_kept, stood_none}
use Rattle.ip_check.proofs.check.Check.find.Goals as goal

pub returns-in-Err-compare_mapping-clause-only : goal.returns-in-Err-compare_mapping-clause-only
returns-in-Err-compare_mapping-clause-only g c told = only_on _ _ _ NoFile (c.advance.ensures.only told) (c.compare_mapping.ensures.only told)

pub returns-clause-only : goal.returns-clause-only
returns-clause-only g c told = only_on _ _ _ NoFile (c.advance.ensures.only told) (c.compare_mapping.ensures.only told)

pub returns-clause-keeps : goal.returns-clause-keeps
returns-clause-keeps g c told =
    let old = g.G.Ground.told c.args.outside.now in
    let mid = g.G.Ground.told c.advance.new.outside in
    let v : CheckView = record { job = c.self.inside.job; keep = c.self.inside.keep; stage = c.self.inside.stage; compared = c.self.inside.compared } in
    let check : IsCheck v = subst IsCheck (sym c.self.view_is) c.requires.check in
    let k = c.advance.new.self in
    let left = c.in-Ok.left in
    let found = c.in-Ok-compare_mapping.found in
    let goes = goes_kept c.args.most v k (Ok left) check c.in-Keeping.is c.advance.ensures.keep c.advance.ensures.work c.in-Ok.ensures.looks in
    let through : IsThrough k = search rules in
    let first : KeepsTrue {A = ℕ} old v (with_keep v k) (Ok left) = λ records over keeping.
    (keeping_kept records (found_of old v) v k c.in-Keeping.is (c.advance.ensures.keeping told over.readable records over.whole keeping.keep), λ at e. undone left at e) in
    let second = keeps_mapping mid (with_keep v k) (left_of c.runs.result) found goes.check through c.runs.ensures.runs (λ fixed. c.in-Ok-compare_mapping.ensures.says told fixed.mapping) left in
    subst (λ (t : Stage). KeepsTrue {A = ℕ} old c.args.self.now (record { job = v.job; keep = k; stage = t; compared = v.compared }) (Ok left)) (sym c.next_stage-self-inside.ensures)
    (subst (λ (w : CheckView). KeepsTrue {A = ℕ} old w (with_stage (with_keep v k) (next_stage found 0)) (Ok left)) c.self.view_is
    (keeps_on old mid c.args.most v (with_keep v k) (with_stage (with_keep v k) (next_stage found 0)) (Ok left) (Ok left) (c.advance.ensures.only told) goes first second))

pub returns-in-Err-clause-blames : goal.returns-in-Err-clause-blames
returns-in-Err-clause-blames g c at is =
    let now : CheckView = record { job = c.self.inside.job; keep = c.advance.new.self; stage = c.self.inside.stage; compared = c.self.inside.compared } in
    blames_kept now at c.in-Keeping.is (c.in-Err.ensures.blames at (ap Err (c.fault_of.ensures.damaged at (cc (is)))))

pub returns-in-Err-clause-broken : goal.returns-in-Err-clause-broken
returns-in-Err-clause-broken g c told readable at is =
    let old = g.G.Ground.told c.args.outside.now in
    let now : CheckView = record { job = c.self.inside.job; keep = c.advance.new.self; stage = c.self.inside.stage; compared = c.self.inside.compared } in
    breaks_kept old c.self.inside.keep.space now at c.in-Keeping.is c.advance.ensures.work.space
    (c.in-Err.ensures.broken told (subst (IsReadable old) (sym (ap (λ (w : CheckView). w.keep.space) c.self.view_is)) readable) at (ap Err (c.fault_of.ensures.damaged at (cc (is)))))

pub returns-in-Err-clause-stood : goal.returns-in-Err-clause-stood
returns-in-Err-clause-stood g c told =
    let now : CheckView = record { job = c.self.inside.job; keep = c.advance.new.self; stage = c.self.inside.stage; compared = c.self.inside.compared } in
    stood_none (g.G.Ground.told c.args.outside.now) c.args.self.now now (ap (λ (w : CheckView). w.compared) c.self.view_is)

pub returns-in-Err-compare_mapping-clause-stood : goal.returns-in-Err-compare_mapping-clause-stood
returns-in-Err-compare_mapping-clause-stood g c told =
    let now : CheckView = record { job = c.self.inside.job; keep = c.advance.new.self; stage = c.self.inside.stage; compared = c.self.inside.compared } in
    stood_none (g.G.Ground.told c.args.outside.now) c.args.self.now now (ap (λ (w : CheckView). w.compared) c.self.view_is)

pub returns-in-Err-compare_mapping-clause-broken : goal.returns-in-Err-compare_mapping-clause-broken
returns-in-Err-compare_mapping-clause-broken g c told readable at is = absurd (c.in-Err-compare_mapping.ensures.undamaged at (blamed_as {A = ℕ} {B = Option Difference} c.in-Err-compare_mapping.fault at is))

pub returns-clause-stood : goal.returns-clause-stood
returns-clause-stood g c told =
    let now : CheckView = record { job = c.self.inside.job; keep = c.advance.new.self; stage = c.self.inside.stage; compared = c.self.inside.compared } in
    stood_none (g.G.Ground.told c.args.outside.now) c.args.self.now now (ap (λ (w : CheckView). w.compared) c.self.view_is)

pub returns-in-Err-compare_mapping-clause-blames : goal.returns-in-Err-compare_mapping-clause-blames
returns-in-Err-compare_mapping-clause-blames g c at is = absurd (c.in-Err-compare_mapping.ensures.undamaged at (blamed_as {A = ℕ} {B = Option Difference} c.in-Err-compare_mapping.fault at is))

pub returns-clause-goes : goal.returns-clause-goes
returns-clause-goes g c =
    let v : CheckView = record { job = c.self.inside.job; keep = c.self.inside.keep; stage = c.self.inside.stage; compared = c.self.inside.compared } in
    let check : IsCheck v = subst IsCheck (sym c.self.view_is) c.requires.check in
    let k = c.advance.new.self in
    let found = c.in-Ok-compare_mapping.found in
    let goes = goes_kept c.args.most v k (Ok c.in-Ok.left) check c.in-Keeping.is c.advance.ensures.keep c.advance.ensures.work c.in-Ok.ensures.looks in
    let through : IsThrough k = search rules in
    subst (λ (t : Stage). Goes c.args.most c.args.self.now (record { job = v.job; keep = k; stage = t; compared = v.compared })) (sym c.next_stage-self-inside.ensures)
    (subst (λ (w : CheckView). Goes c.args.most w (with_stage (with_keep v k) (next_stage found 0))) c.self.view_is
    (goes_mapping c.args.most v k found check c.in-Keeping.is goes through c.in-Ok-compare_mapping.ensures.differs))
