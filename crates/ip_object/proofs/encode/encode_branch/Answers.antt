use Rattle.std.proofs.Common.{◌≡◌, ◌+◌, ◌++◌, ◌∷◌, [], sym, ap, ◌∙◌, length, append_assoc, rules, arith}
use Rattle.std.proofs.lemmas.Result.{on_ok_weaker}
use Rattle.ip_spec.specs.Record.{spelling, body, u32, u64, short_text}
use Rattle.ip_object.proofs.Sizes.{branch_size}
use Rattle.ip_object.proofs.encode.encode_branch.Goals as goal

pub returns-clause-ok : goal.returns-clause-ok
unfolding spelling body
returns-clause-ok c =
    let old = c.args.out.now.items in
    let n = c.args.number in
    let name = c.args.name.now in
    let kept : c.reserve.new.self.items ≡ old = search rules in
    let size = u32 (length (u64 n ++ short_text name)) in
    let kind : c.put_u8.new.out.items ≡ old ++ 5 ∷ [] = c.in_ok-put_u8.ensures.ok ∙ ap (λ t. t ++ 5 ∷ []) kept in
    let length_is : c.put_u32.new.out.items ≡ c.put_u8.new.out.items ++ size = c.in_ok-put_u32.ensures.ok ∙ ap (λ k. c.put_u8.new.out.items ++ u32 k) (omega (arith, branch_size n name)) in
    let number_is : c.put_u64.new.out.items ≡ c.put_u32.new.out.items ++ u64 n = search rules in
    let head : c.put_u32.new.out.items ≡ old ++ 5 ∷ size = length_is ∙ ap (λ t. t ++ size) kind ∙ append_assoc old (5 ∷ []) size in
    let number : c.put_u64.new.out.items ≡ old ++ 5 ∷ (size ++ u64 n) = number_is ∙ ap (λ t. t ++ u64 n) head ∙ append_assoc old (5 ∷ size) (u64 n) in
    on_ok_weaker c.put_short.result (λ is. is ∙ ap (λ t. t ++ short_text name) number ∙ append_assoc old (5 ∷ (size ++ u64 n)) (short_text name)) c.put_short.ensures.ok
