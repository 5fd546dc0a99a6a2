use Rattle.std.proofs.Common.{arith}
use Rattle.std.proofs.lemmas.List.{get_or_default}
use Rattle.ip_spec.specs.Path.{AreBytes}
use Rattle.ip_object.proofs.Spelled.{read_is, part}
use Rattle.ip_object.proofs.read.read_record.Goals as goal

pub returns : goal.returns
returns c =
    let are : AreBytes c.args.bytes.now = (λ k d l. let same = get_or_default c.args.bytes.now k d 0 l in omega (arith, same, c.type_inv.bytes k)) in
    let found = read_is c.args.version c.args.bytes.now c.read_front.result are c.read_front.ensures.read in
    record {
      read = c.read_front.ensures.read;
      head = c.read_front.ensures.head;
      fits = part c.read_front.result _ _ (λ read h. h.0) found;
      spelled = part c.read_front.result _ _ (λ read h. h.1) found;
      length = part c.read_front.result _ _ (λ read h. h.2) found;
    }
