use Rattle.std.proofs.lemmas.Bool.{eq-eqb, eqb-true}
use Rattle.ip_audit.proofs.Agreeing.{same_if, same_then}
use Rattle.ip_audit.proofs.Basics.{no_true}
use Rattle.ip_audit.proofs.kept.are_same.Goals as goal

pub returns-clause-yes : goal.returns-clause-yes
returns-clause-yes c = λ h. same_if c.args.first.now c.args.other.now c.args.depth c.agreed_with.result c.requires c.agreed_with.ensures.shared (eqb-true _ _ h)

pub returns-clause-no : goal.returns-clause-no
returns-clause-no c = λ h e. no_true _ h (eq-eqb _ _ (same_then c.args.first.now c.args.other.now c.args.depth c.agreed_with.result c.requires c.agreed_with.ensures.most c.agreed_with.ensures.shared e))
