use Rattle.std.proofs.Common.{◌∙◌, ◌∷◌, ap, take, arith, eq-eqb}
use Rattle.std.proofs.lemmas.Bool.{eqb-true}
use Rattle.ip_spec.specs.Merge.{lines_of}
use Rattle.ip_merge.proofs.LineLaws.{line_cut, line_last, rest_after}
use Rattle.ip_merge.proofs.line_set.first_line.Goals as goal

pub returns-in-Some-clause-cut : goal.returns-in-Some-clause-cut
returns-in-Some-clause-cut c =
    let h = c.in-Some.ensures in
    line_cut c.in-Some.at c.args.bytes.now h.0.high (eqb-true _ _ h.1) (λ k below is. h.0.before k (omega arith) below (eq-eqb _ _ is))
    ∙ ap (λ rest. take c.in-Some.at c.args.bytes.now ∷ lines_of rest) (rest_after c.in-Some.at c.args.bytes.now)

pub returns-in-None-clause-cut : goal.returns-in-None-clause-cut
returns-in-None-clause-cut c = line_last c.args.bytes.now c.requires (λ k below is. c.in-None.ensures k (omega arith) below (eq-eqb _ _ is))
