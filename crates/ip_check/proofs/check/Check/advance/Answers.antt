use Rattle.std.proofs.Common.{◌∙◌, ℕ, Err}
use Rattle.ip_ground.specs.Told.{NoFile}
use Rattle.ip_ground.proofs.Spans.{only_on}
use Rattle.ip_check.specs.declared.check.Outcome.{Outcome}
use Rattle.ip_check.proofs.Stages.{advances_of, blamed_as, keeps_on, says_of, undamaged_as}
use Rattle.ip_check.proofs.Stood.{breaks_as, breaks_on, stood_behind}
use Rattle.ip_check.proofs.check.Check.advance.Goals as goal

pub returns-in-Ok-compare_prefix-clause-checking : goal.returns-in-Ok-compare_prefix-clause-checking
returns-in-Ok-compare_prefix-clause-checking g c told readable fixed records whole keeping =
    let r = keeps_on _ _ c.args.most _ _ _ c.find.result c.compare_prefix.result (c.find.ensures.only told) c.find.ensures.goes (c.find.ensures.keeps told) (c.compare_prefix.ensures.keeps told) records (record { readable = readable; fixed = fixed; whole = whole }) keeping in
    r.0

pub returns-in-Ok-compare_prefix-clause-says : goal.returns-in-Ok-compare_prefix-clause-says
returns-in-Ok-compare_prefix-clause-says g c told readable fixed records whole keeping =
    let r = keeps_on _ _ c.args.most _ _ _ c.find.result c.compare_prefix.result (c.find.ensures.only told) c.find.ensures.goes (c.find.ensures.keeps told) (c.compare_prefix.ensures.keeps told) records (record { readable = readable; fixed = fixed; whole = whole }) keeping in
    says_of records _ c.compare_prefix.new.self _ c.outcome.result (c.compare_prefix.ensures.goes.same.job ∙ c.find.ensures.goes.same.job) r.0 c.outcome.ensures.valid c.outcome.ensures.differs

pub returns-in-Err-compare_prefix-clause-checking : goal.returns-in-Err-compare_prefix-clause-checking
returns-in-Err-compare_prefix-clause-checking g c told readable fixed records whole keeping =
    let r = keeps_on _ _ c.args.most _ _ _ c.find.result c.compare_prefix.result (c.find.ensures.only told) c.find.ensures.goes (c.find.ensures.keeps told) (c.compare_prefix.ensures.keeps told) records (record { readable = readable; fixed = fixed; whole = whole }) keeping in
    r.0

pub returns-in-Err-compare_prefix-clause-undamaged : goal.returns-in-Err-compare_prefix-clause-undamaged
returns-in-Err-compare_prefix-clause-undamaged g c told readable fixed records whole keeping =
    let r = keeps_on _ _ c.args.most _ _ _ c.find.result (Err c.in-Err-compare_prefix.fault) (c.find.ensures.only told) c.find.ensures.goes (c.find.ensures.keeps told) (c.in-Err-compare_prefix.ensures.keeps told) records (record { readable = readable; fixed = fixed; whole = whole }) keeping in
    undamaged_as {A = Unit {0}} {B = Outcome} c.in-Err-compare_prefix.fault r.1

pub returns-in-Ok-compare_prefix-clause-only : goal.returns-in-Ok-compare_prefix-clause-only
returns-in-Ok-compare_prefix-clause-only g c told = only_on _ _ _ NoFile (c.find.ensures.only told) (c.compare_prefix.ensures.only told)

pub returns-in-Err-compare_prefix-clause-only : goal.returns-in-Err-compare_prefix-clause-only
returns-in-Err-compare_prefix-clause-only g c told = only_on _ _ _ NoFile (c.find.ensures.only told) (c.compare_prefix.ensures.only told)

pub returns-in-Err-clause-blames : goal.returns-in-Err-clause-blames
returns-in-Err-clause-blames g c at is = c.in-Err.ensures.blames at (blamed_as {A = Outcome} {B = ℕ} c.in-Err.fault at is)

pub returns-in-Err-clause-through : goal.returns-in-Err-clause-through
returns-in-Err-clause-through g c told is = let t = c.in-Err.ensures.through told is in t.0

pub returns-in-Err-compare_prefix-clause-blames : goal.returns-in-Err-compare_prefix-clause-blames
returns-in-Err-compare_prefix-clause-blames g c at is = c.in-Err-compare_prefix.ensures.blames at (blamed_as {A = Outcome} {B = Unit {0}} c.in-Err-compare_prefix.fault at is)

pub returns-in-Err-compare_prefix-clause-through : goal.returns-in-Err-compare_prefix-clause-through
returns-in-Err-compare_prefix-clause-through g c told is = let t = c.find.ensures.through told is in c.in-Err-compare_prefix.ensures.through told t.1

pub returns-in-Err-clause-broken : goal.returns-in-Err-clause-broken
returns-in-Err-clause-broken g c told = breaks_as {A = Outcome} {B = ℕ} (g.G.Ground.told c.args.outside.now) c.args.self.now c.find.new.self c.in-Err.fault (c.in-Err.ensures.broken told)

pub returns-in-Err-clause-stood : goal.returns-in-Err-clause-stood
returns-in-Err-clause-stood g c told = c.find.ensures.stood told

pub returns-in-Err-compare_prefix-clause-broken : goal.returns-in-Err-compare_prefix-clause-broken
returns-in-Err-compare_prefix-clause-broken g c told =
    breaks_as {A = Outcome} {B = Unit {0}} (g.G.Ground.told c.args.outside.now) c.args.self.now c.compare_prefix.new.self c.in-Err-compare_prefix.fault
    (breaks_on _ _ c.args.self.now c.find.new.self c.compare_prefix.new.self _ (c.find.ensures.only told) c.find.ensures.goes.same c.compare_prefix.ensures.goes.same (c.in-Err-compare_prefix.ensures.broken told))

pub returns-in-Err-compare_prefix-clause-stood : goal.returns-in-Err-compare_prefix-clause-stood
returns-in-Err-compare_prefix-clause-stood g c told = stood_behind _ _ c.args.self.now c.find.new.self c.compare_prefix.new.self (c.find.ensures.only told) c.find.ensures.goes.same c.find.ensures.uncompared (c.compare_prefix.ensures.stood told)

pub returns-in-Ok-compare_prefix-clause-stood : goal.returns-in-Ok-compare_prefix-clause-stood
returns-in-Ok-compare_prefix-clause-stood g c told = stood_behind _ _ c.args.self.now c.find.new.self c.compare_prefix.new.self (c.find.ensures.only told) c.find.ensures.goes.same c.find.ensures.uncompared (c.compare_prefix.ensures.stood told)

pub returns-in-Ok-compare_prefix-clause-advances : goal.returns-in-Ok-compare_prefix-clause-advances
returns-in-Ok-compare_prefix-clause-advances g c =
    let goes = c.in-Ok-compare_prefix.ensures.goes in
    let left = c.in-Ok.ensures.left in
    advances_of c.args.most c.in-Ok.left c.args.self.now c.find.new.self c.compare_prefix.new.self c.outcome.result c.find.ensures.goes.low left.0 goes.low goes.high c.in-Ok-compare_prefix.ensures.all
    c.outcome.ensures.more c.outcome.ensures.valid c.outcome.ensures.differs
