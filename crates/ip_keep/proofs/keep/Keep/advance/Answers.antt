use Rattle.ip_space.proofs.Stayed.{readable_stays}
use Rattle.ip_keep.proofs.Goings.{goes_on, blames_later, breaks_later}
use Rattle.ip_keep.proofs.keep.Keep.advance.Goals as goal

pub returns-clause-keeping : goal.returns-clause-keeping
returns-clause-keeping g c = (goes_on g.G.Ground.tells _ _ _ c.args.self.now c.go_up.new.self c.go_down.new.self c.in-Ok.ensures.goes c.go_down.ensures.goes).keeping

pub returns-clause-undamaged : goal.returns-clause-undamaged
returns-clause-undamaged g c = blames_later g.G.Ground.tells _ _ c.args.self.now c.go_up.new.self c.go_down.result c.in-Ok.ensures.goes c.go_down.ensures.undamaged

pub returns-clause-only : goal.returns-clause-only
returns-clause-only g c = (goes_on g.G.Ground.tells _ _ _ c.args.self.now c.go_up.new.self c.go_down.new.self c.in-Ok.ensures.goes c.go_down.ensures.goes).only

pub returns-in-Err-clause-readable : goal.returns-in-Err-clause-readable
returns-in-Err-clause-readable g c told = readable_stays _ _ (c.in-Err.ensures.goes.only told) c.args.self.now.space

pub returns-clause-readable : goal.returns-clause-readable
returns-clause-readable g c told = readable_stays _ _ ((goes_on g.G.Ground.tells _ _ _ c.args.self.now c.go_up.new.self c.go_down.new.self c.in-Ok.ensures.goes c.go_down.ensures.goes).only told) c.args.self.now.space

pub returns-clause-held : goal.returns-clause-held
returns-clause-held g c = (goes_on g.G.Ground.tells _ _ _ c.args.self.now c.go_up.new.self c.go_down.new.self c.in-Ok.ensures.goes c.go_down.ensures.goes).held

pub returns-in-Err-clause-held : goal.returns-in-Err-clause-held
returns-in-Err-clause-held g c = c.in-Err.ensures.goes.held

pub returns-clause-sound : goal.returns-clause-sound
returns-clause-sound g c = (goes_on g.G.Ground.tells _ _ _ c.args.self.now c.go_up.new.self c.go_down.new.self c.in-Ok.ensures.goes c.go_down.ensures.goes).down

pub returns-in-Err-clause-sound : goal.returns-in-Err-clause-sound
returns-in-Err-clause-sound g c = c.in-Err.ensures.goes.down

pub returns-clause-broken : goal.returns-clause-broken
returns-clause-broken g c = breaks_later g.G.Ground.tells _ _ c.args.self.now c.go_up.new.self c.go_down.new.self c.go_down.result c.in-Ok.ensures.goes c.go_down.ensures.broken
