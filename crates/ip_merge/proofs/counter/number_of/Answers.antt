use Rattle.std.proofs.Common.{◌≡◌, ◌∙◌, refl, sym, ap, w64, to_z, of_z, FitsSigned, rules}
use Rattle.std.proofs.lemmas.Int.{to_z-of_z}
use Rattle.std.specs.Fmt.{signed_decimal}
use Rattle.ip_merge.proofs.Counting.{fits_where_is_i64, none_of_text, text_is_utf8, value_of_text}
use Rattle.ip_merge.proofs.counter.number_of.Goals as goal

pub returns-in_err-number-in-Ok : goal.returns-in_err-number-in-Ok
returns-in_err-number-in-Ok c =
    c.from_residual.ensures ∙ none_of_text c.args.bytes.now (λ z h e.
    let is = c.in_err-number-in-Ok.ensures z h (c.in-Ok.ensures.cases.0 ∙ e) in cc is)

pub returns-in-Err : goal.returns-in-Err
returns-in-Err c = none_of_text c.args.bytes.now (λ z h e. c.in-Err.ensures.cases.0 (text_is_utf8 z _ h e))

pub returns-then-is_text_of : goal.returns-then-is_text_of
returns-then-is_text_of c =
    let n = to_z w64 (of_z w64 c.in_ok-number-in-Ok.number) in
    let fits : FitsSigned w64 n = search rules in
    sym (value_of_text n c.args.bytes.now fits (c.if-is_text_of.ensures.0 refl))

pub returns-else-is_text_of : goal.returns-else-is_text_of
returns-else-is_text_of c = none_of_text c.args.bytes.now (λ z h e.
    let number = c.in_ok-number-in-Ok.number in
    let is = c.in_ok-number-in-Ok.ensures z h (c.in-Ok.ensures.cases.0 ∙ e) in
    let same : number ≡ z = cc is in
    let there : to_z w64 (of_z w64 number) ≡ z = ap (λ n. to_z w64 (of_z w64 n)) same ∙ to_z-of_z w64 z (fits_where_is_i64 z h) in
    let found = c.is_text_of.ensures.1 (e ∙ ap signed_decimal (sym there)) in
    cc (found, c.if-is_text_of.false))
