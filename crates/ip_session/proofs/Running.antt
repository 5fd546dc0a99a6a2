-- A command as the session runs it, by the class that it is of.
--     ends_more      why it ended, where less is known.      runs_as      by another name of the command.      by_any_rule      it is no merge, so it does the same by any rule
--     runs_ended      a call of the store cut it short.      runs_read      it may read records, and changes no file
--     ran_plain      it has to do with no child: ran_within asks nothing of the ground, ran_read may read records, ran_durable may change files.      ran_child      it speaks to one
use Rattle.std.proofs.Common.{◌≡◌, ℕ, Bool, false, refl, sym, ap, ◌∙◌, subst, Option, Ok, Err, IsTrue}
use Rattle.std.specs.Prelude.{Result, IfOk, IfErr, IsErr}
use Rattle.ip_ground.specs.Counts.{Noted, Counts}
use Rattle.ip_ground.specs.Told.{Told, NoFile}
use Rattle.ip_spawn.specs.Children as spawn
use Rattle.ip_spawn.specs.declared.spawner.SpawnCounts.{SpawnCounts}
use Rattle.ip_spec.specs.Merge.{Rule}
use Rattle.ip_spec.specs.Path.{Bytes}
use Rattle.ip_spec.specs.Repository.{Repository}
use Rattle.ip_spec.specs.View.{View}
use Rattle.ip_spec.specs.declared.command.Command.{Command}
use Rattle.ip_spec.specs.declared.record.Record.{Record}
use Rattle.ip_spec.specs.declared.reply.Reply.{Reply}
use Rattle.ip_merge.specs.Rules.{IsDecisive}
use Rattle.ip_held.specs.declared.held.Held.{Held}
use Rattle.ip_held.specs.Collecting.{child_of}
use Rattle.ip_held.specs.Held.{IsOf}
use Rattle.ip_held.specs.Work.{IsLawful}
use Rattle.ip_held.proofs.Machine.{AsksNone}
use Rattle.ip_session.specs.declared.session.Session.{Session}
use Rattle.ip_session.specs.declared.session.SessionEnd.{SessionEnd}
use Rattle.ip_session.specs.Asking.{AsksNoGround, HandlesNone, IsUnanswered, MayReap, MeetsNone, TellsNone}
use Rattle.ip_session.specs.Running.{IsKnown, Runs, Ran}
use Rattle.ip_session.specs.Session.{unasked, counted_end, EndsBy, IsHeld, IsIn, IsServing, IsWorking, HasRead, IsAnswered, CutBy, is_durable, met_only, attempt_of, hears, MetDamage, StillBy}
use Rattle.ip_session.specs.Wanting.{Wants}
use Rattle.ip_session.proofs.Asking.{CutsSo, plain_asked, plain_counts, plain_quiet}
use Rattle.ip_session.proofs.Changing.{nothing_by}
use Rattle.ip_session.proofs.ClearGoes.{read_clear}
use Rattle.ip_session.proofs.Placing.{read_placed}
use Rattle.ip_session.proofs.Reading.{within_read}
use Rattle.ip_session.proofs.ReadGoes.{read_serves, read_goes, read_cut}

pub ends_more : (result : Result Reply SessionEnd) (held more : Type 0) → (more → held) → IfErr result (EndsBy held) → IfErr result (EndsBy more)
ends_more (Ok reply) held more by ends = tt
ends_more (Err SessionEnd.Ground) held more by ends = tt
ends_more (Err (SessionEnd.Damaged at_ names)) held more by ends = (λ known. ends.0 (by known), ends.1)

pub runs_as : (told known : Type 0) (rule : Rule) (a b : Told) (s s' : Session) (command command' : Command) (result : Result Reply SessionEnd) → command ≡ command' → Runs told known rule a b s s' command' result → Runs told known rule a b s s' command result
runs_as told known rule a b s s' command command' result is runs = subst (λ (x : Command). Runs told known rule a b s s' x result) (sym is) runs

pub runs_ended : (told known : Type 0) (rule : Rule) (a b : Told) (s s' : Session) (command : Command) (end : SessionEnd) → EndsBy (IsKnown known a s) end → (told → MetDamage {A = Reply} (Err end) → StillBy s.store.held a b command) → (known → (r : Repository) (v : View) → IsWorking a s r v → CutBy rule a b s s' r v command) → Runs told known rule a b s s' command (Err end)
runs_ended told known rule a b s s' command end cause untouched cut = record { serving = tt; goes = λ k r v here. tt; placed = λ k r v here. tt; bounded = λ k r v here look. tt; clear = λ k r v here. tt; cut = cut; cause = cause; untouched = untouched }

abbrev pub IsNoMerge : Command → Type 0
IsNoMerge (Command.Merge target branch info) = ⊥
IsNoMerge command = Unit {0}

pub by_any_rule : (tells : Bool) (rule : Rule) (a b : Told) (s s' : Session) (command : Command) (result : Result Reply SessionEnd) → IsNoMerge command → Runs (IsTrue tells) (IsTrue tells) unasked a b s s' command result → Runs (IsTrue tells) (IsTrue tells × IsDecisive rule) rule a b s s' command result
by_any_rule tells rule a b s s' (Command.Merge target branch info) result plain runs = absurd plain
by_any_rule tells rule a b s s' _ result plain runs = record {
  serving = runs.serving;
  goes = λ known r v here. runs.goes known.0 r v here;
  placed = λ known r v here. runs.placed known.0 r v here;
  bounded = λ known r v here look. runs.bounded known.0 r v here look;
  clear = runs.clear;
  cut = λ known r v here. runs.cut known.0 r v here;
  cause = ends_more result (IsKnown (IsTrue tells) a s) (IsKnown (IsTrue tells × IsDecisive rule) a s) (λ more. (more.0.0, more.1)) runs.cause;
  untouched = runs.untouched;
}

-- a command that has to do with no child asks none, and reaps none
asks_of : (command : Command) → HandlesNone command → AsksNone command
asks_of Command.Look handles = handles
asks_of Command.Finish handles = handles
asks_of _ handles = tt

none_reaps : (command : Command) → HandlesNone command → ¬ MayReap command
none_reaps Command.Look handles may = handles
none_reaps Command.Finish handles may = handles
none_reaps Command.Cancel handles may = handles
none_reaps _ handles may = may

runs_read : (tells : Bool) (rule : Rule) (a b : Told) (s s' : Session) (command : Command) (result : Result Reply SessionEnd) → is_durable command ≡ false → HandlesNone command → s.met ≡ met_only false → IsServing s → HasRead tells a b s s' command result → IfErr result (EndsBy (IsHeld tells a s))
    → Runs (IsTrue tells) (IsTrue tells × IsDecisive rule) rule a b s s' command result
runs_read tells rule a b s s' command result quiet handles unmet serving has cause = record {
  serving = read_serves tells a b s s' command result serving has;
  goes = λ known r v here. read_goes rule tells a b s s' command known.0 r v here result quiet (asks_of command handles) has;
  placed = λ known r v here. read_placed rule tells a b s s' command known.0 r v here result quiet (none_reaps command handles) has;
  bounded = λ known r v here look. absurd (subst HandlesNone look handles);
  clear = λ told r v here. read_clear tells a b s s' command told r v here result (none_reaps command handles) has;
  cut = λ known r v here. read_cut rule tells a b s s' command known.0 r v here result quiet (asks_of command handles) unmet has;
  cause = ends_more result (IsHeld tells a s) (IsKnown (IsTrue tells × IsDecisive rule) a s) (λ more. (more.0.0, more.1)) cause;
  untouched = λ told met. nothing_by (hears command) (attempt_of s.store.held command) NoFile a b (has.looks told).reads.only;
}

-- ---- by another name of the command, as the match gives it

abbrev Known : Bool → Rule → Type 0
Known tells rule = IsTrue tells × IsDecisive rule

module _ {tells : Bool} {rule : Rule} {a b : Told} {p q : Noted} {spawns : Bool} {held : Option ℕ} {dir : Bytes} {x : spawn.Told} {m : SpawnCounts} {s s' : Session} {result : Result Reply SessionEnd} (command command' : Command) (is : command ≡ command') where
  -- it has to do with no child
  pub ran_plain : HandlesNone command' → held ≡ child_of s.store.held.collection → Runs (IsTrue tells) (Known tells rule) rule a b s s' command' result → IfOk result TellsNone → MeetsNone s'.met → s'.store.held.collection ≡ s.store.held.collection → Counts counted_end result p q
      → Wants s s' command' result → CutsSo s' command' result → Ran (IsTrue tells) (Known tells rule) rule a b p q spawns held dir x x m m s s' command result
  ran_plain handles child runs none meets same counts memory cuts = subst (λ (k : Command). Ran (IsTrue tells) (Known tells rule) rule a b p q spawns held dir x x m m s s' k result) (sym is) (record {
    runs = runs;
    child = child ∙ sym (ap child_of same);
    asked = plain_asked spawns dir x s s' command' result m none meets same cuts;
    quiet = plain_quiet result s'.met p q none meets counts;
    memory = memory;
    counts = plain_counts command' result s'.met p q handles counts;
  })

  pub ran_durable : HandlesNone command' → IsNoMerge command' → held ≡ child_of s.store.held.collection → Runs (IsTrue tells) (IsTrue tells) unasked a b s s' command' result → IfOk result TellsNone → MeetsNone s'.met → s'.store.held.collection ≡ s.store.held.collection → Counts counted_end result p q
      → Wants s s' command' result → CutsSo s' command' result → Ran (IsTrue tells) (Known tells rule) rule a b p q spawns held dir x x m m s s' command result
  ran_durable handles plain child runs none meets same counts memory cuts = ran_plain handles child (by_any_rule tells rule a b s s' command' result plain runs) none meets same counts memory cuts

  pub ran_read : HandlesNone command' → is_durable command' ≡ false → s.met ≡ met_only false → IsServing s → held ≡ child_of s.store.held.collection → HasRead tells a b s s' command' result → IfErr result (EndsBy (IsHeld tells a s)) → IfOk result TellsNone → MeetsNone s'.met
      → s'.store.held.collection ≡ s.store.held.collection → Counts counted_end result p q → Wants s s' command' result → (IsErr result → ¬ AsksNoGround command') → Ran (IsTrue tells) (Known tells rule) rule a b p q spawns held dir x x m m s s' command result
  ran_read handles quiet unmet serving child has cause none meets same counts memory reached = ran_plain handles child (runs_read tells rule a b s s' command' result quiet handles unmet serving has cause) none meets same counts memory (λ failed. (subst IsUnanswered (sym (has.unmet failed ∙ unmet)) (refl, refl, refl), reached failed))

-- it speaks to one
pub ran_child : {tells : Bool} {rule : Rule} {a b : Told} {p q : Noted} {spawns : Bool} {held : Option ℕ} {dir : Bytes} {x y : spawn.Told} {m n : SpawnCounts} {s s' : Session} {result : Result Reply SessionEnd} (command command' : Command) → command ≡ command' → IsNoMerge command'
    → Ran (IsTrue tells) (IsTrue tells) unasked a b p q spawns held dir x y m n s s' command' result → Ran (IsTrue tells) (Known tells rule) rule a b p q spawns held dir x y m n s s' command result
ran_child {tells = tells} {rule = rule} {a = a} {b = b} {p = p} {q = q} {spawns = spawns} {held = held} {dir = dir} {x = x} {y = y} {m = m} {n = n} {s = s} {s' = s'} {result = result} command command' is plain ran =
    subst (λ (k : Command). Ran (IsTrue tells) (Known tells rule) rule a b p q spawns held dir x y m n s s' k result) (sym is) (record {
      runs = by_any_rule tells rule a b s s' command' result plain ran.runs;
      child = ran.child;
      asked = ran.asked;
      quiet = ran.quiet;
      memory = ran.memory;
      counts = ran.counts;
    })

-- it asks nothing of the ground
pub ran_within : {tells : Bool} {rule : Rule} {a : Told} {p : Noted} {spawns : Bool} {held : Option ℕ} {dir : Bytes} {x : spawn.Told} {m : SpawnCounts} {s s' : Session} (command command' : Command) (reply : Reply) → command ≡ command' → HandlesNone command' → is_durable command' ≡ false → s.met ≡ met_only false → IsServing s
    → held ≡ child_of s.store.held.collection → ((r : Repository) → IsIn s r → IsIn s' r) → s'.store.held ≡ s.store.held
    → ((records : ℕ → Option Record) (r : Repository) (v : View) → IsOf s.store.held r → IsLawful records r s.work v → IsAnswered records s s' r v command' reply) → TellsNone reply → MeetsNone s'.met → Wants s s' command' (Ok reply)
    → Ran (IsTrue tells) (Known tells rule) rule a a p p spawns held dir x x m m s s' command (Ok reply)
ran_within {tells = tells} {a = a} {s = s} {s' = s'} command command' reply is handles quiet unmet serving child tables same answered none meets memory =
    ran_read command command' is handles quiet unmet serving child (within_read tells a s s' command' reply tables same answered) tt none meets (ap (λ (k : Held). k.collection) same) refl memory (λ failed. absurd (cc failed))
