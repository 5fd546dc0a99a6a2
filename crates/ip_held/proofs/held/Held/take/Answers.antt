use Rattle.std.proofs.Common.{◌≡◌, ◌+◌, length, rules, sym, subst}
use Rattle.std.specs.Prelude.{true, Result, Ok, Err}
use Rattle.ip_ground.proofs.Spans.{only_nowhere}
use Rattle.ip_publish.specs.Publishing.{IsOfStore}
use Rattle.ip_held.specs.declared.fault.StoreFault.{StoreFault}
use Rattle.ip_held.specs.declared.held.Held.{Held}
use Rattle.ip_held.specs.Clear.{KeepsClear}
use Rattle.ip_held.specs.Step.{Grew, Took}
use Rattle.ip_held.proofs.SlotLaws.{writes_store}
use Rattle.ip_held.proofs.Taking.{cut_clear, cut_grew, cut_took, entered_is, may_take, none_grew, none_took, step_from, taken_clear, taken_grew, taken_took}
use Rattle.ip_held.proofs.held.Held.take.Goals as goal

-- ---- memory was refused

pub returns-in_err-enter-clause-nothing : goal.returns-in_err-enter-clause-nothing
returns-in_err-enter-clause-nothing g c is = absurd (cc (c.in_err-enter.ensures.nothing is))

pub returns-in_err-enter-clause-grew : goal.returns-in_err-enter-clause-grew
returns-in_err-enter-clause-grew g c told r held =
    let is : c.from_residual.result ≡ Err StoreFault.Memory = search rules in
    none_grew (λ done. true) StoreFault.Memory held c.from_residual.result c.enter.new.self is c.in_err-enter.ensures.err

pub returns-in_err-enter-clause-took : goal.returns-in_err-enter-clause-took
returns-in_err-enter-clause-took g c told r after more held step =
    let is : c.from_residual.result ≡ Err StoreFault.Memory = search rules in
    none_took (λ done. true) StoreFault.Memory held after more c.from_residual.result c.enter.new.self is c.in_err-enter.ensures.err

-- ---- a fault of the ground

pub returns-in_err-durable_step-clause-grew : goal.returns-in_err-durable_step-clause-grew
returns-in_err-durable_step-clause-grew g c told r held =
    let is : c.from_residual-in_err-durable_step.result ≡ Err StoreFault.Ground = search rules in
    cut_grew (λ done. true) held c.from_residual-in_err-durable_step.result c.enter.new.self (g.G.Ground.told c.durable_step.new.outside) is

pub returns-in_err-durable_step-clause-took : goal.returns-in_err-durable_step-clause-took
returns-in_err-durable_step-clause-took g c told r after more held step =
    let is : c.from_residual-in_err-durable_step.result ≡ Err StoreFault.Ground = search rules in
    let store = c.args.self.now in
    let may = c.requires.may in
    let a = g.G.Ground.told c.args.outside.now in
    let b = g.G.Ground.told c.durable_step.new.outside in
    let mid = c.enter.new.self in
    let same = c.in_ok-enter.ensures.ok in
    let makes = step_from store c.args.bytes.now c.args.step may r held.tables a held mid same b c.durable_step.result (c.durable_step.ensures.does told (may_take store c.args.bytes.now c.args.step may r held.tables a held mid same)) in
    subst (λ (res : Result (Unit {0}) StoreFault). Took (λ done. true) held after more res mid b) (sym is)
    (cut_took store c.args.bytes.now c.args.step may r held.tables a held b c.durable_step.result makes after more step mid)

-- ---- the step is taken

pub returns-clause-grew : goal.returns-clause-grew
returns-clause-grew g c told r held =
    let store = c.args.self.now in
    let may = c.requires.may in
    let a = g.G.Ground.told c.args.outside.now in
    let b = g.G.Ground.told c.durable_step.new.outside in
    let mid = c.enter.new.self in
    let same = c.in_ok-enter.ensures.ok in
    let makes = step_from store c.args.bytes.now c.args.step may r held.tables a held mid same b (Ok tt) (c.in_ok-durable_step.ensures.does told (may_take store c.args.bytes.now c.args.step may r held.tables a held mid same)) in
    subst (λ (now : Held). Grew {A = Unit {0}} (λ done. true) held (Ok tt) now b) (sym (entered_is store c.args.step mid same c.grow.new.self c.grow.ensures))
    (taken_grew store c.args.bytes.now c.args.step may r held.tables a held b makes)

pub returns-clause-took : goal.returns-clause-took
returns-clause-took g c told r after more held step =
    let store = c.args.self.now in
    let may = c.requires.may in
    let a = g.G.Ground.told c.args.outside.now in
    let b = g.G.Ground.told c.durable_step.new.outside in
    let mid = c.enter.new.self in
    let same = c.in_ok-enter.ensures.ok in
    let makes = step_from store c.args.bytes.now c.args.step may r held.tables a held mid same b (Ok tt) (c.in_ok-durable_step.ensures.does told (may_take store c.args.bytes.now c.args.step may r held.tables a held mid same)) in
    subst (λ (now : Held). Took {A = Unit {0}} (λ done. true) held after more (Ok tt) now b) (sym (entered_is store c.args.step mid same c.grow.new.self c.grow.ensures))
    (taken_took store c.args.bytes.now c.args.step may r held.tables a held b makes after more step)

-- ---- what was cleared away

pub returns-in_err-enter-clause-clear : goal.returns-in_err-enter-clause-clear
returns-in_err-enter-clause-clear g c told has r held =
    let a = g.G.Ground.told c.args.outside.now in
    subst (λ (now : Held). KeepsClear c.args.self.now now a a) (sym c.in_err-enter.ensures.err) (λ clear. clear)

pub returns-in_err-durable_step-clause-clear : goal.returns-in_err-durable_step-clause-clear
returns-in_err-durable_step-clause-clear g c told has r held =
    let is : c.from_residual-in_err-durable_step.result ≡ Err StoreFault.Ground = search rules in
    cut_clear c.from_residual-in_err-durable_step.result c.args.self.now c.enter.new.self (g.G.Ground.told c.args.outside.now) (g.G.Ground.told c.durable_step.new.outside) is has

pub returns-clause-clear : goal.returns-clause-clear
returns-clause-clear g c told has r held =
    let store = c.args.self.now in
    let may = c.requires.may in
    let a = g.G.Ground.told c.args.outside.now in
    let b = g.G.Ground.told c.durable_step.new.outside in
    let mid = c.enter.new.self in
    let same = c.in_ok-enter.ensures.ok in
    let makes = step_from store c.args.bytes.now c.args.step may r held.tables a held mid same b (Ok tt) (c.in_ok-durable_step.ensures.does told (may_take store c.args.bytes.now c.args.step may r held.tables a held mid same)) in
    subst (λ (now : Held). KeepsClear store now a b) (sym (entered_is store c.args.step mid same c.grow.new.self c.grow.ensures))
    (taken_clear store c.args.bytes.now c.args.step may r held.tables a held b makes)

-- ---- no other file is touched

pub returns-in_err-enter-clause-beside : goal.returns-in_err-enter-clause-beside
returns-in_err-enter-clause-beside g c told = only_nowhere (g.G.Ground.told c.args.outside.now) IsOfStore

pub returns-in_err-durable_step-clause-beside : goal.returns-in_err-durable_step-clause-beside
returns-in_err-durable_step-clause-beside g c told =
    let mid = c.enter.new.self in
    let size = c.args.step.slot.chunk in
    writes_store size mid.slot.end (mid.slot.end + length c.args.bytes.now) (g.G.Ground.told c.args.outside.now) (g.G.Ground.told c.durable_step.new.outside) (c.durable_step.ensures.only told)

pub returns-clause-beside : goal.returns-clause-beside
returns-clause-beside g c told =
    let mid = c.enter.new.self in
    let size = c.args.step.slot.chunk in
    writes_store size mid.slot.end (mid.slot.end + length c.args.bytes.now) (g.G.Ground.told c.args.outside.now) (g.G.Ground.told c.durable_step.new.outside) (c.in_ok-durable_step.ensures.only told)
