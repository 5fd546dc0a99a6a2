use Rattle.std.proofs.Common.{rules, ◌≡◌, ◌<◌, ◌+◌, ◌^◌, ◌++◌, [], length, drop, get_or, ◌∙◌, ap}
use Rattle.ip_spec.specs.Path.{Bytes}
use Rattle.ip_mapping.specs.Parsing.{head_bytes}
use Rattle.ip_mapping.proofs.Writing.{begun, one_written, total_fits, next_run, all_written}
use Rattle.ip_mapping.proofs.encode.build.Goals as goal

pub loop-run-init : goal.loop-run-init
loop-run-init c =
    let empty : c.in_ok-out.out.items ≡ [] = search rules in
    let head : Bytes → Bytes = λ bytes. bytes ++ head_bytes (record { horizon = c.args.horizon; end = c.args.end; rows = length c.args.runs.now }) in
    begun c.args.horizon c.args.end c.put_head.new.out.items c.args.runs.now (c.in_ok-put_head.ensures ∙ ap head empty) c.requires

pub loop-run-preserved : goal.loop-run-preserved
loop-run-preserved c =
    let i = c.loop-run.run-index in
    let runs = c.args.runs.now in
    one_written c.args.horizon c.args.end c.loop-run.place c.loop-run.out.items runs (drop i runs) (drop (i + 1) runs) (get_or runs i (record { at = 0; length = 0 }))
    c.loop-run.invariant (next_run runs i c.loop-run-test.true) c.put_row.new.out.items c.in_ok-put_row.ensures

pub overflow_add-place : goal.overflow_add-place
overflow_add-place c =
    let i = c.loop-run.run-index in
    let runs = c.args.runs.now in
    let small : c.args.horizon < 2 ^ 64 = search rules in
    let p = total_fits c.args.horizon c.args.end c.loop-run.place c.loop-run.out.items runs (drop i runs) (drop (i + 1) runs) (get_or runs i (record { at = 0; length = 0 }))
    c.loop-run.invariant (next_run runs i c.loop-run-test.true) small in
    search rules

pub returns : goal.returns
returns c =
    c.of.ensures ∙ all_written c.args.horizon c.args.end c.loop-run.place c.loop-run.run-index c.loop-run.out.items c.args.runs.now c.loop-run.invariant c.loop-run-test.false
