use Rattle.std.proofs.Common.{refl, sym, ap, subst}
use Rattle.ip_tree.specs.Node.{Root}
use Rattle.ip_tree.specs.Shown.{shown_root}
use Rattle.ip_save.specs.Laid.{IsLaidRoot}
use Rattle.ip_save.proofs.Laying.{nothing_put}
use Rattle.ip_save.proofs.lay.put_root.Goals as goal

pub returns-in-Stored : goal.returns-in-Stored
returns-in-Stored c = record {
  laid = subst (λ (root : Root). IsLaidRoot c.args.end c.args.refs.now root c.args.out.now.items c.args.out.now.items c.in-Stored.reference) (sym (ap shown_root c.in-Stored.is))
      record { bytes = nothing_put c.args.out.now.items; stands = refl; fits = tt };
}
