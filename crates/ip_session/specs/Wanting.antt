-- Where memory may be wanted of a command, once its words are read.
--     MayWant running work r command child      of one that finds this collection and this work, by which this was heard of a child
--     Wants s s' command result      want of memory is answered there alone.      WantsIn s s' line result      so to a line whose words take none
use Rattle.std.specs.Prelude.{◌≡◌, ◌<◌, length, Option, None, IsOk, Result, Ok}
use Rattle.ip_base.specs.declared.limit.TheConstants.{PARENTS_MAX}
use Rattle.ip_spec.specs.declared.command.Command.{Command}
use Rattle.ip_spec.specs.declared.met.Child.{Child}
use Rattle.ip_spec.specs.declared.reply.Reply.{Reply}
use Rattle.ip_spec.specs.Line.{IsLineOf}
use Rattle.ip_spec.specs.Path.{Bytes}
use Rattle.ip_spec.specs.Repository.{Repository}
use Rattle.ip_spec.specs.Step.{below, resolve, HasSucceeded}
use Rattle.ip_script.specs.Frugal.{IsFrugal}
use Rattle.ip_held.specs.declared.collection.Collection.{Collection}
use Rattle.ip_held.specs.declared.work.Work.{Work}
use Rattle.ip_session.specs.declared.session.Session.{Session}
use Rattle.ip_session.specs.declared.session.SessionEnd.{SessionEnd}
use Rattle.ip_session.specs.Session.{IsIn}

-- Behind the refusals that come before it: a work that was given up or has all its parents, no commit of the name, a collection that runs, a child that did not end with code 0.
abbrev pub MayWant : Option Collection → Work → Repository → Command → Child → Type 0
MayWant running work r Command.Empty child = ⊥
MayWant running work r (Command.Checkout target) child = IsOk (resolve r target)
MayWant running work r (Command.Parent target) child = (below r.floor work.least ≡ None) × IsOk (resolve r target) × (length work.parents < PARENTS_MAX)
MayWant running work r (Command.Show target) child = IsOk (resolve r target)
MayWant running work r (Command.Log target) child = IsOk (resolve r target)
MayWant running work r (Command.Lcas one other) child = IsOk (resolve r one) × IsOk (resolve r other)
MayWant running work r (Command.Collect target) child = (running ≡ None) × IsOk (resolve r target)
MayWant running work r Command.Look child = HasSucceeded child
MayWant running work r Command.Finish child = HasSucceeded child
MayWant running work r Command.Cancel child = ⊥
MayWant running work r Command.Stat child = ⊥
MayWant running work r command child = Unit {0}

abbrev pub Wants : Session → Session → Command → Result Reply SessionEnd → Type 0
Wants s s' command result = (r : Repository) → IsIn s r → result ≡ Ok Reply.Memory → MayWant s.store.held.collection s.work r command s'.met.child

abbrev pub WantsIn : Session → Session → Bytes → Result Reply SessionEnd → Type 0
WantsIn s s' line result = (command : Command) → IsLineOf command line → IsFrugal command → Wants s s' command result
