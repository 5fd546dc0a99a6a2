use Rattle.ip_base.proofs.PathLaws.{has_path, fits, same_path}
use Rattle.ip_base.proofs.path.path_texts.Goals as goal

pub returns-clause-some : goal.returns-clause-some
returns-clause-some c text small none = has_path text small none

pub returns-clause-none : goal.returns-clause-none
returns-clause-none c path is = fits path is

pub returns-clause-one : goal.returns-clause-one
returns-clause-one c a b one other same = same_path a b one.each other.each one.some other.some same
