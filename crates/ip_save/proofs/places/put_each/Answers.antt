use Rattle.std.proofs.Common.{◌++◌, ◌+◌, drop, List, [], sym, ap, ◌∙◌, arith, append_assoc, append-nil, get_or}
use Rattle.std.proofs.lemmas.List.{at_drop_all, at_drop_more}
use Rattle.ip_spec.specs.Path.{Bytes}
use Rattle.ip_spec.specs.declared.record.Record.{Record}
use Rattle.ip_spec.specs.Record.{spelling}
use Rattle.ip_save.specs.Earlier.{slices_of}
use Rattle.ip_save.specs.Laid.{contents_bytes}
use Rattle.ip_save.proofs.places.put_each.Goals as goal
use denote.Ref.{Bor}

abbrev none : Bor Bytes
none = record { ref_ptr = (0, 0); now = [] }

pub put_contents-requires : goal.put_contents-requires
put_contents-requires c = let short = (c.requires.short c.loop-bytes.bytes-index none c.loop-bytes-test.true).fields.0 in omega (arith, short)

pub loop-bytes-preserved : goal.loop-bytes-preserved
loop-bytes-preserved c =
    let rest = λ (xs : List (Bor Bytes)). contents_bytes (slices_of xs) in
    let i = c.loop-bytes.bytes-index in
    let put = c.args.put.now in
    let out = c.loop-bytes.out.items in
    ap (λ (b : Bytes). b ++ rest (drop (i + 1) put)) c.in_ok-put_contents.ensures.ok
    ∙ append_assoc out (spelling (Record.Contents (get_or put i none).now)) (rest (drop (i + 1) put))
    ∙ ap (λ (b : Bytes). out ++ b) (sym (at_drop_more rest put i none c.loop-bytes-test.true)) ∙ c.loop-bytes.invariant

pub returns : goal.returns
returns c =
    let rest = λ (xs : List (Bor Bytes)). contents_bytes (slices_of xs) in
    sym (append-nil c.loop-bytes.out.items) ∙ ap (λ (b : Bytes). c.loop-bytes.out.items ++ b) (sym (at_drop_all rest c.args.put.now c.loop-bytes.bytes-index c.loop-bytes-test.false)) ∙ c.loop-bytes.invariant
