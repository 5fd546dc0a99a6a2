use Rattle.std.proofs.Common.{◌≡◌, ◌-◌, ◌++◌, ◌∷◌, sym, ap, ◌∙◌, length, arith, rules}
use Rattle.std.proofs.lemmas.List.{length-append}
use Rattle.ip_spec.specs.Record.{spelling, body, u32}
use Rattle.ip_object.proofs.Patched.{zeros, patched_as}
use Rattle.ip_object.proofs.encode.encode_into.Goals as goal

pub returns-clause-ok : goal.returns-clause-ok
unfolding spelling
returns-clause-ok g c =
    let old = c.args.out.now.items in
    let b = body c.args.rec.now in
    let kept : c.reserve.new.self.items ≡ old = search rules in
    let is : c.put_body.new.out.items ≡ old ++ (c.kind_of.result ∷ zeros) ++ b = c.in_ok-put_body.ensures.ok ∙ ap (λ t. t ++ b) (c.in_ok-put_bytes.ensures.ok ∙ ap (λ t. t ++ (c.kind_of.result ∷ zeros)) kept) in
    let begun : c.len-start.result ≡ length c.reserve.new.self.items = search rules in
    let start : c.len-start.result ≡ length old = begun ∙ ap length kept in
    let all : c.put_body.new.out.len ≡ length c.put_body.new.out.items = search rules in
    let len : c.len.result ≡ length c.put_body.new.out.items = search rules in
    let l = length-append (old ++ c.kind_of.result ∷ zeros) b in
    let h = length-append old (c.kind_of.result ∷ zeros) in
    let e = ap length is in
    let long : c.len.result - c.len-start.result - 5 ≡ length b = omega (arith, l, h, e, len, start) in
    let copied : c.copy_from_slice.new.self ≡ u32 (c.len.result - c.len-start.result - 5) = search rules in
    let four : c.copy_from_slice.new.self ≡ u32 (length b) = copied ∙ ap u32 long in
    let at : c.deref_mut.result.now ≡ c.put_body.new.out.items = search rules in
    patched_as old b c.copy_from_slice.new.self c.deref_mut.result.now c.kind_of.result c.len-start.result c.put_body.new.out.len start (ap length four) (at ∙ is) (all ∙ sym (ap length at)) c.put_body.new.out.items (sym at)
    ∙ (λ i. old ++ (c.kind_of.ensures i ∷ (four i ++ b)))
