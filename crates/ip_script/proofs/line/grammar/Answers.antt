use Rattle.ip_script.proofs.LineLaw.{one_command, one_place}
use Rattle.ip_script.proofs.ReadLaw.{each_line}
use Rattle.ip_script.proofs.line.grammar.Goals as goal

pub returns-clause-each : goal.returns-clause-each
returns-clause-each c line = each_line line

pub returns-clause-one : goal.returns-clause-one
returns-clause-one c = one_command

pub returns-clause-place : goal.returns-clause-place
returns-clause-place c = one_place
