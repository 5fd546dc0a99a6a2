use Rattle.ip_image.proofs.HeadlineLaws as laws
use Rattle.ip_app.proofs.calls.reopened.Goals as goal

pub returns : goal.returns
returns g c = record { stands = λ said first steps now opens. laws.reopened _ _ said first steps now opens }
