use Rattle.std.proofs.Common.{◌≡◌, Some, ◌∙◌, ap, w64, to_z, of_z}
use Rattle.std.proofs.lemmas.Fmt.{parse-signed_decimal}
use Rattle.std.proofs.lemmas.Int.{to_z-of_z}
use Rattle.ip_merge.proofs.Counting.{fits_where_is_i64}
use Rattle.ip_merge.proofs.counter.parsed.Goals as goal

pub returns-in-Ok : goal.returns-in-Ok
returns-in-Ok c z h e =
    let fits = fits_where_is_i64 z h in
    let is = parse-signed_decimal w64 z c.args.text.now c.parse.result fits fits.sfits e c.parse.ensures.value.0 in
    let same : c.in-Ok.number ≡ z = cc (is, c.in-Ok.is) in
    ap (λ n. Some (to_z w64 (of_z w64 n))) same ∙ ap Some (to_z-of_z w64 z fits)

pub returns-in-Err : goal.returns-in-Err
returns-in-Err c z h e =
    let fits = fits_where_is_i64 z h in
    let is = parse-signed_decimal w64 z c.args.text.now c.parse.result fits fits.sfits e c.parse.ensures.value.0 in
    cc (is, c.in-Err.is)
