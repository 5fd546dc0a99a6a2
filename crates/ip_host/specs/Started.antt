-- For what a child was started, and how it ended.
--     IsFor dir job held
--     StartsOne started old new      how many were started
--     HasEnded was ended reaped
--     was_signalled held      whether it was sent the signal that ends it
use Rattle.std.specs.Prelude.{◌≡◌, ◌⊎◌, ℕ, Bool, true, false, List, ◌++◌, ◌∷◌, Option, Some, IsSomeAnd, option_map, string_bytes}
use Rattle.ip_base.specs.declared.exit.Reaped.{Reaped}
use Rattle.ip_host.specs.Children.{exit_told}
use Rattle.ip_ground.specs.declared.names.FileName.TheVariants.{Done}
use Rattle.ip_host.specs.Names.{slash, file_text}
use Rattle.ip_host.specs.declared.starter.Held.{Held}
use Rattle.ip_spawn.specs.declared.job.Job.{Job}
use Rattle.ip_spawn.specs.Counts.{counted}

-- it is the child of this job in this folder, its done file is looked for there, and no signal was sent to it yet
pub record IsFor (folder : List ℕ) (task : Job) (held : Held) : Type 0 where
  pub job : held.job ≡ task
  pub done : string_bytes held.done ≡ folder ++ slash ∷ file_text (Done task.attempt)
  pub unsignalled : held.is_signalled ≡ false

-- the count of the children that the system was asked for: of one more where it was started, and else of one more at most
abbrev pub StartsOne : Bool → ℕ → ℕ → Type 0
StartsOne true old new = new ≡ counted true old
StartsOne false old new = (new ≡ old) ⊎ (new ≡ counted true old)

-- This child, which was held, was waited for, and its status says what is told of its end.
pub record HasEnded (was now : Option Held) (reaped : Reaped) : Type 0 where
  pub job : option_map (λ held. held.job) now ≡ option_map (λ held. held.job) was
  pub exit : IsSomeAnd now (λ held. exit_told held.child ≡ Some reaped.exit)

-- of the child, if there is one
abbrev pub was_signalled : Option Held → Option Bool
was_signalled held = option_map (λ held. held.is_signalled) held
