use Rattle.std.proofs.Common.{refl}
use Rattle.ip_held.specs.Held.{image_records}
use Rattle.ip_reads.proofs.Showing.{root_found}
use Rattle.ip_reads.proofs.commit.root_of.Goals as goal

pub returns-in-Ok-clause-root : goal.returns-in-Ok-clause-root
returns-in-Ok-clause-root g c told r held retained =
    root_found (image_records held) r c.args.number c.in-Ok.commit (c.in-Ok.ensures.fetched told r held retained) _ refl refl refl
