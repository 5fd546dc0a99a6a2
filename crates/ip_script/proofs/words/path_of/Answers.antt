use Rattle.ip_script.proofs.PathWords.{path_says}
use Rattle.ip_script.proofs.words.path_of.Goals as goal

pub returns-in-Ok : goal.returns-in-Ok
returns-in-Ok c = path_says c.in-Ok.path c.args.word.now c.in-Ok.ensures.ok.0 c.in-Ok.ensures.ok.1
