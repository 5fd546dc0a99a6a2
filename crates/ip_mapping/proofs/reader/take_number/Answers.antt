use Rattle.std.proofs.Common.{rules}
use Rattle.ip_mapping.proofs.Numbers.{number_front}
use Rattle.ip_mapping.proofs.reader.take_number.Goals as goal

pub returns : goal.returns
returns c =
    let cases = c.in_ok-front.ensures.cases in
    number_front c.args.bytes.now c.in_ok-front.front.now c.in_ok-front.rest.now c.from_le_bytes.result cases.0 cases.1 cases.2 (λ i. let fits = c.type_inv.bytes i in search rules) c.from_le_bytes.ensures
