use Rattle.std.proofs.Common.{◌≡◌, ◌+◌, ◌∙◌, List, ap, arith, drop, length, sym}
use Rattle.std.specs.FinMap.Entries.{put}
use Rattle.std.proofs.lemmas.List.{length-append}
use Rattle.ip_spec.specs.Path.{Step, bytes_cmp}
use Rattle.ip_shape.specs.Directory.{entries_from}
use Rattle.ip_shape.proofs.Entries.{none_out, one_out}
use Rattle.ip_shape.proofs.Ways.{taken_err, taken_ok}
use Rattle.ip_shape.proofs.dir.put_entries.Goals as goal

pub loop-step-init : goal.loop-step-init
loop-step-init g c =
    let given : List (Step × g.row.C.Denot) = c.args.entries.items in
    let old : List (Step × g.row.C.Denot) = c.args.map.now.entries in
    ((none_out given).1, sym (ap (λ (es : List (Step × g.row.C.Denot)). entries_from es old) (none_out given).0))

pub loop-step-preserved : goal.loop-step-preserved
loop-step-preserved g c =
    let given : List (Step × g.row.C.Denot) = c.args.entries.items in
    let old : List (Step × g.row.C.Denot) = c.args.map.now.entries in
    let s = c.in-Some.step in
    let x = c.in-Some.child in
    let one = one_out given c.loop-step.left.items c.pop.new.self.items (s, x) c.loop-step.invariant.0 c.in-Some.ensures.items in
    let entered = taken_ok c.put_entry.result (c.put_entry.new.map.entries ≡ put bytes_cmp s x c.loop-step.map.entries) (sym c.is_err.ensures.value ∙ c.if-is_err.false) c.put_entry.ensures.entered in
    (one.0, entered ∙ ap (put bytes_cmp s x) c.loop-step.invariant.1 ∙ sym (ap (λ (es : List (Step × g.row.C.Denot)). entries_from es old) one.1))

pub returns-then-is_err-clause-within : goal.returns-then-is_err-clause-within
returns-then-is_err-clause-within g c =
    let given : List (Step × g.row.C.Denot) = c.args.entries.items in
    let left : List (Step × g.row.C.Denot) = c.loop-step.left.items in
    let one = one_out given left c.pop.new.self.items (c.in-Some.step, c.in-Some.child) c.loop-step.invariant.0 c.in-Some.ensures.items in
    let long = ap length c.loop-step.invariant.0 ∙ length-append left (drop (length left) given) in
    omega (arith, one.2, long, c.len.ensures, c.pop.new.self.ok.0)

pub returns-then-is_err-clause-entered : goal.returns-then-is_err-clause-entered
returns-then-is_err-clause-entered g c =
    let given : List (Step × g.row.C.Denot) = c.args.entries.items in
    let old : List (Step × g.row.C.Denot) = c.args.map.now.entries in
    let left : List (Step × g.row.C.Denot) = c.loop-step.left.items in
    let one = one_out given left c.pop.new.self.items (c.in-Some.step, c.in-Some.child) c.loop-step.invariant.0 c.in-Some.ensures.items in
    let next : length left ≡ c.len.result + 1 = omega (arith, one.2, c.len.ensures, c.pop.new.self.ok.0) in
    taken_err c.put_entry.result (c.put_entry.new.map.entries ≡ c.loop-step.map.entries) (sym c.is_err.ensures.value ∙ c.if-is_err.true) c.put_entry.ensures.refused
    ∙ c.loop-step.invariant.1 ∙ ap (λ k. entries_from (drop k given) old) next

pub returns-clause-entered : goal.returns-clause-entered
returns-clause-entered g c =
    let given : List (Step × g.row.C.Denot) = c.args.entries.items in
    let old : List (Step × g.row.C.Denot) = c.args.map.now.entries in
    c.loop-step.invariant.1 ∙ ap (λ k. entries_from (drop k given) old) (sym c.loop-step.left.ok.0 ∙ c.in_default.ensures.cases.0)
