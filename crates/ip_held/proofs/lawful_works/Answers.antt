use Rattle.ip_held.proofs.Works as laws
use Rattle.ip_held.proofs.lawful_works.Goals as goal

pub returns : goal.returns
returns c = record { stay = laws.works_stay }
