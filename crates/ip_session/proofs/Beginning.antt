-- A session that begins.
--     begins_working      over the store that it holds, its work is the empty one
use Rattle.std.proofs.Common.{◌≡◌, ℕ, sym, subst, Option}
use Rattle.ip_ground.specs.Told.{Told}
use Rattle.ip_spec.specs.declared.record.Record.{Record}
use Rattle.ip_spec.specs.Repository.{Repository}
use Rattle.ip_spec.specs.View.{no_view}
use Rattle.ip_held.specs.declared.held.Held.{Held}
use Rattle.ip_held.specs.Held.{Holds}
use Rattle.ip_held.specs.Work.{IsLawful}
use Rattle.ip_session.specs.declared.session.Session.{Session}
use Rattle.ip_session.specs.Session.{IsWorking}

pub begins_working : (told : Told) (s : Session) (store : Held) (r : Repository) → s.store.held ≡ store → ((records : ℕ → Option Record) (r : Repository) → IsLawful records r s.work no_view) → Holds store told r → IsWorking told s r no_view
begins_working told s store r same lawful h =
    let holds = subst (λ (x : Held). Holds x told r) (sym same) h in
    record { holds = holds; lawful = lawful _ r }
