use Rattle.ip_merge.proofs.SeqLaws.{one_seq}
use Rattle.ip_merge.proofs.seq.Seq.one_answer.Goals as goal

pub returns : goal.returns
returns g c = one_seq _ _ c.requires.first c.requires.second
