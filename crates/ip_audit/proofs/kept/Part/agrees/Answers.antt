use Rattle.std.proofs.Common.{refl, sym, ◌∙◌}
use Rattle.std.proofs.lemmas.Bool.{eq-eqb, eqb-true}
use Rattle.ip_audit.proofs.Agreeing.{agrees_then, agrees_if, agrees_not}
use Rattle.ip_audit.proofs.Basics.{no_true}
use Rattle.ip_audit.proofs.kept.Part.agrees.Goals as goal

pub returns-then-self-depth-clause-no : goal.returns-then-self-depth-clause-no
returns-then-self-depth-clause-no c = λ h e. agrees_not c.args.self.now.agreed c.args.depth c.args.index c.args.self.now.first c.args.above.now c.if-self-depth.true c.requires e

pub returns-then-not-are_same-clause-no : goal.returns-then-not-are_same-clause-no
returns-then-not-are_same-clause-no c = λ h e. c.if-not-are_same.ensures.no refl (agrees_if c.args.self.now.agreed c.args.depth c.args.index c.args.self.now.first c.args.above.now c.if-self-depth.false c.requires e).0

pub returns-clause-yes : goal.returns-clause-yes
returns-clause-yes c = λ h. agrees_then c.args.self.now.agreed c.args.depth c.args.index c.args.self.now.first c.args.above.now c.if-self-depth.false c.requires (c.if-not-are_same.ensures.yes refl) (sym c.at.ensures ∙ eqb-true _ _ h)

pub returns-clause-no : goal.returns-clause-no
returns-clause-no c = λ h e. no_true _ h (eq-eqb _ _ (c.at.ensures ∙ (agrees_if c.args.self.now.agreed c.args.depth c.args.index c.args.self.now.first c.args.above.now c.if-self-depth.false c.requires e).1))
