-- Which attempt a child is started for, and heard of.
--     StartsAt slot slot' x      the job of the child that was started in it.      HearsAt slot x      which child ended that was heard of in it
use Rattle.std.specs.Prelude.{◌≡◌, ◌+◌, [], ◌∷◌, Ok}
use Rattle.ip_base.specs.declared.exit.Reaped.{Reaped}
use Rattle.ip_spawn.specs.declared.job.Job.{Job}
use Rattle.ip_spec.specs.declared.met.Child.TheVariants as Child
use Rattle.ip_image.specs.declared.slot.Slot.{Slot}
use Rattle.ip_held.specs.Collecting.{IsJobOf}
use Rattle.ip_session.specs.Asking.{HasStarted}
use Rattle.ip_app.specs.Exchanges.{Exchange}

-- The child that was started in it has the job of the attempt that came next, of the slot behind it.
abbrev pub StartsAt : Slot → Slot → Exchange → Type 0
StartsAt slot slot' x = HasStarted (Ok x.reply) → (job : Job) × (x.started ≡ job ∷ []) × IsJobOf slot' job × (job.attempt ≡ slot.next_attempt) × (job.end ≡ slot'.end)

-- The child that was heard of is that of the attempt that was drawn last.
abbrev pub HearsAt : Slot → Exchange → Type 0
HearsAt slot x = (reaped : Reaped) → x.turn.met.child ≡ Child.Ended reaped → reaped.attempt + 1 ≡ slot.next_attempt
