use Rattle.std.proofs.Common.{◌≡◌, [], ◌∷◌, ◌++◌, subst, rules}
use Rattle.ip_image.specs.declared.terms.Terms.{Terms}
use Rattle.ip_image.specs.Standing.{RecordFits}
use Rattle.ip_held.specs.Placed.{places_in}
use Rattle.ip_held.proofs.Histories.{record_enters}
use Rattle.ip_opens.proofs.Walking.{takes_good}
use Rattle.ip_opens.proofs.walk.Found.take.Goals as goal

pub enter-requires : goal.enter-requires
enter-requires c =
    let (s, before, is, tells, beyond) = c.requires.told in
    record {
      enters = record_enters s before c.args.at c.requires.bounds.0 c.args.rec c.args.self.now.history tells.history c.requires.bounds.1
          (subst (λ (t : Terms). RecordFits t before c.args.at c.args.rec) tells.terms (c.in_ok-take.ensures.fits before tells.audited beyond));
    }

pub returns-in-Ok : goal.returns-in-Ok
returns-in-Ok c s before is fits may tells beyond =
    let took = c.in_ok-take.ensures in
    let good = took.fits before tells.audited beyond in
    let placed : c.enter_place.new.places ≡ c.args.self.now.places ++ places_in ((c.args.at, c.args.rec) ∷ []) = search rules in
    takes_good s before c.args.at c.args.rec _ _ fits may tells beyond good (took.goes_on before tells.audited beyond) took.terms placed c.in-Ok.ensures.branches
    (record_enters s before c.args.at s.version c.args.rec c.args.self.now.history tells.history fits (subst (λ (t : Terms). RecordFits t before c.args.at c.args.rec) tells.terms good)) c.in-Ok.ensures.history
