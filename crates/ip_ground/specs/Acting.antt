-- What a child does before a call of this number, by the events that are noted of it.
use Rattle.std.specs.Prelude.{◌≡◌, ◌≢◌, ℕ, List, [], ◌∷◌, ◌++◌, Option, Vec}
use Rattle.std.specs.declared.alloc.Global.{Global}
use Rattle.ip_ground.specs.declared.event.Act.{Act}
use Rattle.ip_ground.specs.declared.event.Event.{Event}
use Rattle.ip_ground.specs.declared.event.Event.TheVariants.{Changed}
use Rattle.ip_ground.specs.Custody.{custody_of, lent}
use Rattle.ip_ground.specs.Told.{lending}
use Rattle.ip_ground.specs.Replay.{told_by, content_of}

-- One act: where it names the call and its file is lent, the file becomes what it says; else nothing does.
pub record Acts (act : Act) (call : ℕ) (old new : List Event) : Type 0 where
  pub done : act.before ≡ call → custody_of (lending (told_by old)) act.file ≡ lent → (bytes : Option (Vec ℕ Global)) × (content_of bytes ≡ content_of act.bytes) × (new ≡ old ++ Changed act.file bytes ∷ [])
  pub another_call : act.before ≢ call → new ≡ old
  pub not_lent : custody_of (lending (told_by old)) act.file ≢ lent → new ≡ old

-- these acts, one after the other
abbrev pub Plays : List Act → ℕ → List Event → List Event → Type 0
Plays [] call old new = new ≡ old
Plays (act ∷ acts) call old new = (mid : List Event) × Acts act call old mid × Plays acts call mid new
