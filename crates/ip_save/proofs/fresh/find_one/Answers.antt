use Rattle.std.proofs.Common.{rules, ◌≡◌, arith}
use Rattle.std.proofs.lemmas.List.{get_or_default}
use Rattle.sha2.specs.Sha256.{sha256}
use Rattle.ip_save.specs.Reused.{entry_at, held_by}
use Rattle.ip_save.proofs.Bounds.{contents_fit}
use Rattle.ip_save.proofs.Finding.{one_found}
use Rattle.ip_save.proofs.fresh.find_one.Goals as goal

pub returns-in-Ok-push-clause-found : goal.returns-in-Ok-push-clause-found
returns-in-Ok-push-clause-found g c =
    let named : c.hash_contents-name.result ≡ sha256 c.args.bytes.now = search rules in
    one_found g.G.Ground.tells (g.G.Ground.told c.args.outside.now) c.args.space.now record { bytes = c.args.bytes; name = c.hash_contents-name.result; at = c.in-Ok.at }
    (λ records. held_by records c.args.bytes.now (entry_at records c.args.step.now c.args.other.now)) c.args.out.now.items c.push.new.self.items named
    (contents_fit c.args.bytes.now (omega (arith, c.if-bytes-gt-CONTENTS_MAX.false)) (λ k d l. omega (arith, get_or_default c.args.bytes.now k d 0 l, c.type_inv.bytes k)))
    c.in-Ok.ensures.found c.in-Ok-push.ensures.items
