use Rattle.ip_script.proofs.ReadLaw.{Tried}
use Rattle.ip_script.proofs.line.read_line.Given as goal

abbrev pub invariant-loop-form : goal.invariant-loop-form
invariant-loop-form l = Tried l.line l.form-index l.most
