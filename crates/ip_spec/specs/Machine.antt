-- The words of the machine: its state, its commands, what a command meets, and its replies.
--     Work, Phase, State      what a session holds.      exit_kept phase      the exit of a child that was reaped before.      phase_told phase      what the store tells of it
--     opened r      how a session begins
--     Verdict, verdict_on exit difference      the verdict on a child that has ended
--     Conditions      what a command meets
use Rattle.std.specs.Prelude.{ℕ, zero, Option, Some, None, is_some, List, [], pos}
pub use Rattle.ip_spec.specs.declared.command.Target.{Target}
pub use Rattle.ip_spec.specs.declared.command.Target.TheVariants as Target
pub use Rattle.ip_spec.specs.declared.command.Command.{Command}
pub use Rattle.ip_spec.specs.declared.command.Command.TheVariants as Command
pub use Rattle.ip_spec.specs.declared.met.Child.{Child}
pub use Rattle.ip_spec.specs.declared.met.Child.TheVariants as Child
pub use Rattle.ip_spec.specs.declared.met.Met.{Met}
use Rattle.ip_spec.specs.declared.met.Phase.{Phase as ToldPhase}
pub use Rattle.ip_spec.specs.declared.reply.Produced.{Produced}
pub use Rattle.ip_spec.specs.declared.reply.Produced.TheVariants as Produced
pub use Rattle.ip_spec.specs.declared.reply.Seen.{Seen}
pub use Rattle.ip_spec.specs.declared.reply.Seen.TheVariants as Seen
pub use Rattle.ip_spec.specs.declared.reply.Difference.{Difference}
pub use Rattle.ip_spec.specs.declared.reply.Head.{Head}
pub use Rattle.ip_spec.specs.declared.reply.Reply.{Reply}
pub use Rattle.ip_spec.specs.declared.reply.Reply.TheVariants as Reply
pub use Rattle.ip_base.specs.declared.limit.Limit.{Limit}
pub use Rattle.ip_base.specs.declared.limit.Limit.TheVariants as Limit
pub use Rattle.ip_base.specs.declared.exit.Exit.{Exit}
pub use Rattle.ip_base.specs.declared.exit.Exit.TheVariants as Exit
pub use Rattle.ip_base.specs.declared.exit.Reaped.{Reaped}
use Rattle.ip_spec.specs.Tree.{Tree, no_tree}
use Rattle.ip_spec.specs.Repository.{Repository}

-- a tree, the commits that it goes on from, and the least number that it took from
pub record Work : Type 0 where
  pub tree : Tree
  pub parents : List ℕ
  pub least : Option ℕ

unfoldable pub empty_work : Work
empty_work = record { tree = no_tree; parents = []; least = None }

-- Idle; or a collection runs at a commit, and the exit of its child is kept where an earlier command reaped it and could not
-- go on. The code tells of a kept exit only that there is one.
pub data Phase : Type 0 where
  Idle : Phase
  Collecting : ℕ → Option Reaped → Phase

-- what the store tells of its phase
abbrev pub phase_told : Phase → ToldPhase
phase_told Phase.Idle = ToldPhase.Idle
phase_told (Phase.Collecting c kept) = ToldPhase.Collecting c (is_some kept)

abbrev pub exit_kept : Phase → Option Reaped
exit_kept Phase.Idle = None
exit_kept (Phase.Collecting c kept) = kept

pub record State : Type 0 where
  pub repository : Repository
  pub phase : Phase
  pub work : Work

-- how a session begins
abbrev pub opened : Repository → State
opened r = record { repository = r; phase = Phase.Idle; work = empty_work }

-- the verdict on an exit and on what was found of the two files
pub data Verdict : Type 0 where
  accepted : Verdict
  exited : Exit → Verdict
  differs : Difference → Verdict

-- None: the two files are the valid ones
abbrev pub verdict_on : Exit → Option Difference → Verdict
verdict_on Exit.Signal difference = Verdict.exited Exit.Signal
verdict_on (Exit.Code (pos zero)) None = Verdict.accepted
verdict_on (Exit.Code (pos zero)) (Some difference) = Verdict.differs difference
verdict_on (Exit.Code z) difference = Verdict.exited (Exit.Code z)

-- what a command meets: what is told of it, and how the two files of a child that has ended differ from the valid ones
pub record Conditions : Type 0 where
  pub told : Met
  pub difference : Option Difference
