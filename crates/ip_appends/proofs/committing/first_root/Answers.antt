use Rattle.std.proofs.Common.{◌≡◌, ◌∙◌, List, None, Some, ap, rules, sym, ℕ}
use Rattle.std.specs.Prelude.{slice_get}
use Rattle.ip_save.specs.Batches.{IsFirst}
use Rattle.ip_held.specs.Answers.{first_view}
use Rattle.ip_held.specs.Showing.{IsRootOf}
use Rattle.ip_held.specs.Held.{image_records}
use Rattle.ip_appends.proofs.FirstTree.{first_by, first_retained, first_unread}
use Rattle.ip_appends.proofs.BehindPlan.{looks_nothing}
use Rattle.ip_held.proofs.Stepping.{looks}
use Rattle.ip_appends.proofs.committing.first_root.Goals as goal

pub root_of-requires : goal.root_of-requires
root_of-requires g c =
    let r = c.requires.tables.0 in
    let is : slice_get c.args.parents.now 0 ≡ Some c.in-Some.number.now = search rules in
    record { tables = (r, c.requires.tables.1, first_retained r c.args.parents.now c.in-Some.number.now is c.requires.tables.2) }

pub returns-in-None-clause-looks : goal.returns-in-None-clause-looks
returns-in-None-clause-looks g c told = looks_nothing c.args.store.now (g.G.Ground.told c.args.outside.now)

pub returns-in-Ok-clause-first : goal.returns-in-Ok-clause-first
returns-in-Ok-clause-first g c told r held all =
    let is : slice_get c.args.parents.now 0 ≡ Some c.in-Some.number.now = search rules in
    first_by c.args.store.now (g.G.Ground.told c.args.outside.now) r held c.args.parents.now c.in-Some.number.now is all c.in-Ok.root
    (c.in-Ok.ensures.root told r held (first_retained r c.args.parents.now c.in-Some.number.now is all))

pub returns-in-Ok-clause-looks : goal.returns-in-Ok-clause-looks
returns-in-Ok-clause-looks g c told = looks c.args.store.now c.root_of.new.store c.root_of.ensures.same (g.G.Ground.told c.args.outside.now) (g.G.Ground.told c.root_of.new.outside) (c.root_of.ensures.reads told)

pub returns-in-Err-clause-first : goal.returns-in-Err-clause-first
returns-in-Err-clause-first g c told r held all =
    let is : slice_get c.args.parents.now 0 ≡ Some c.in-Some.number.now = search rules in
    first_unread (IsRootOf (image_records held) r c.in-Some.number.now) (λ root. IsFirst (image_records held) root (first_view (image_records held) c.args.store.now r c.args.parents.now)) c.in-Err.fault
    (c.in-Err.ensures.root told r held (first_retained r c.args.parents.now c.in-Some.number.now is all))

pub returns-in-Err-clause-looks : goal.returns-in-Err-clause-looks
returns-in-Err-clause-looks g c told = looks c.args.store.now c.root_of.new.store c.root_of.ensures.same (g.G.Ground.told c.args.outside.now) (g.G.Ground.told c.root_of.new.outside) (c.root_of.ensures.reads told)

pub returns-in-Ok-clause-alone : goal.returns-in-Ok-clause-alone
returns-in-Ok-clause-alone g c none =
    let is : slice_get c.args.parents.now 0 ≡ Some c.in-Some.number.now = search rules in
    let no : Some c.in-Some.number.now ≡ None = sym is ∙ ap (λ (ns : List ℕ). slice_get ns 0) none in
    absurd (cc no)

pub returns-in-Err-clause-alone : goal.returns-in-Err-clause-alone
returns-in-Err-clause-alone g c none =
    let is : slice_get c.args.parents.now 0 ≡ Some c.in-Some.number.now = search rules in
    let no : Some c.in-Some.number.now ≡ None = sym is ∙ ap (λ (ns : List ℕ). slice_get ns 0) none in
    absurd (cc no)
