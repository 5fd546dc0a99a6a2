use Rattle.std.proofs.Common.{◌-◌, ◌∙◌, refl, sym, List, ap, arith, drop, length, length-drop, map}
use Rattle.std.proofs.lemmas.List.{take_all}
use Rattle.ip_spec.specs.Path.{Step}
use Rattle.ip_shape.specs.Directory.{entries_from, entries_off}
use Rattle.ip_shape.proofs.Entries.{from_none, nil_of}
use Rattle.ip_shape.proofs.LeafRead.{all_off, drop_steps, new_behind}
use Rattle.ip_shape.proofs.reading.enter.Goals as goal

pub returns-then-is_empty-clause-entered : goal.returns-then-is_empty-clause-entered
returns-then-is_empty-clause-entered g c ascends =
    let given : List (Step × g.row.C.Denot) = c.args.entries.items in
    let none = nil_of c.args.map.now.entries (c.if-is_empty.ensures.0 refl) in
    c.in_ok-map.ensures ascends ∙ sym (from_none given ascends) ∙ ap (entries_from given) (sym none)

pub returns-clause-refused : goal.returns-clause-refused
returns-clause-refused g c new =
    let given : List (Step × g.row.C.Denot) = c.args.entries.items in
    let old : List (Step × g.row.C.Denot) = c.args.map.now.entries in
    let k = c.put_entries-left.result in
    let steps = c.args.steps.now in
    let behind = take_all (length steps - k) (drop k steps) (omega (arith, length-drop k steps)) ∙ ap (drop k) c.requires ∙ drop_steps k given in
    c.take_entries.ensures ∙ ap (λ ss. entries_off ss c.put_entries-left.new.map.entries) behind
    ∙ ap (λ (es : List (Step × g.row.C.Denot)). entries_off (map (λ e. e.0) (drop k given)) es) c.put_entries-left.ensures.entered ∙ all_off (drop k given) old (new_behind k given old new)
