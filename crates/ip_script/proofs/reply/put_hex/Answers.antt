use Rattle.std.proofs.Common.{◌≡◌, ◌+◌, ◌*◌, ◌-◌, ◌++◌, ◌∙◌, sym, ap, arith, rules, length, replicate, List, ℕ}
use Rattle.std.proofs.lemmas.List.{length-replicate, take_all}
use Rattle.hex.specs.Hex.{encode_lower, lower_digits}
use Rattle.hex.proofs.HexLemmas.{length-encode_with}
use Rattle.ip_script.proofs.HexDigits.{hex_is}
use Rattle.ip_script.proofs.PutLemmas.{put_over, on_err}
use Rattle.ip_script.proofs.reply.put_hex.Goals as goal

pub returns-in_err-resize-clause-room : goal.returns-in_err-resize-clause-room
returns-in_err-resize-clause-room c =
    on_err c.from_residual.result (omega (arith, c.in_err-resize.ensures.full, ap length (hex_is c.args.bytes.now c.type_inv.bytes), length-encode_with lower_digits c.args.bytes.now))

pub returns-clause-ok : goal.returns-clause-ok
returns-clause-ok c =
    let old = c.args.out.now.items in
    let n = c.saturating_add.result in
    let more : List ℕ = replicate (n - c.args.out.now.len) 0 in
    let grown : n ≡ length old + 2 * length c.args.bytes.now = omega (arith, c.saturating_add.ensures, c.in_ok-resize.ensures.len, c.len-start.ensures) in
    let hex = hex_is c.args.bytes.now c.type_inv.bytes in
    let written : c.encode_to_slice.new.output ≡ encode_lower c.args.bytes.now = search rules in
    let longer : c.resize.new.self.items ≡ old ++ more = c.in_ok-resize.ensures.items ∙ ap (λ t. t ++ more) (take_all n old (omega (arith, grown))) in
    put_over old more c.deref_mut.result.now c.encode_to_slice.new.output c.resize.new.self.items c.len-start.result c.resize.new.self.len (c.deref_mut.ensures.value ∙ longer) (search rules) (sym c.deref_mut.ensures.len) (omega (arith, ap length written, length-encode_with lower_digits c.args.bytes.now, length-replicate {A = ℕ} (n - c.args.out.now.len) 0, grown)) ∙ ap (λ t. old ++ t) (written ∙ hex)
