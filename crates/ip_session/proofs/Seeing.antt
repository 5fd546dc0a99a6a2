-- A command that is refused, or a line that is none, leaves what is known of the work's tree.
--     memory_seen, limit_seen, given_seen, bad_seen, unnamed_seen      by its reply
use Rattle.std.proofs.Common.{◌≡◌, ℕ, refl, subst, Err}
use Rattle.ip_base.specs.declared.limit.Limit.{Limit}
use Rattle.ip_spec.specs.declared.command.Command.{Command}
use Rattle.ip_spec.specs.declared.command.Target.{Target}
use Rattle.ip_spec.specs.declared.reply.Reply.{Reply}
use Rattle.ip_spec.specs.Repository.{Repository}
use Rattle.ip_spec.specs.Step.{resolve}
use Rattle.ip_spec.specs.View.{View}
use Rattle.ip_held.specs.Views.{IsViewAfter}
use Rattle.ip_session.proofs.Referring.{IsUnnamed, NamesNone, names_none}

pub memory_seen : (r : Repository) (v : View) (command : Command) → IsViewAfter r v command Reply.Memory v
memory_seen r v Command.Empty = refl
memory_seen r v (Command.Checkout target) = refl
memory_seen r v (Command.Set path bytes) = refl
memory_seen r v (Command.Rm path) = refl
memory_seen r v (Command.Graft target from to) = refl
memory_seen r v (Command.Commit branch info) = refl
memory_seen r v _ = refl

pub limit_seen : (r : Repository) (v : View) (command : Command) (limit : Limit) → IsViewAfter r v command (Reply.Limit limit) v
limit_seen r v Command.Empty limit = refl
limit_seen r v (Command.Checkout target) limit = refl
limit_seen r v (Command.Set path bytes) limit = refl
limit_seen r v (Command.Rm path) limit = refl
limit_seen r v (Command.Graft target from to) limit = refl
limit_seen r v (Command.Commit branch info) limit = refl
limit_seen r v _ limit = refl

pub given_seen : (r : Repository) (v : View) (command : Command) (number : ℕ) → IsViewAfter r v command (Reply.GivenUp number) v
given_seen r v Command.Empty number = refl
given_seen r v (Command.Checkout target) number = refl
given_seen r v (Command.Set path bytes) number = refl
given_seen r v (Command.Rm path) number = refl
given_seen r v (Command.Graft target from to) number = refl
given_seen r v (Command.Commit branch info) number = refl
given_seen r v _ number = refl

pub bad_seen : (r : Repository) (v : View) (command : Command) (place : ℕ) → IsViewAfter r v command (Reply.Bad place) v
bad_seen r v Command.Empty place = refl
bad_seen r v (Command.Checkout target) place = refl
bad_seen r v (Command.Set path bytes) place = refl
bad_seen r v (Command.Rm path) place = refl
bad_seen r v (Command.Graft target from to) place = refl
bad_seen r v (Command.Commit branch info) place = refl
bad_seen r v _ place = refl

-- a reference that names no commit
pub unnamed_seen : (r : Repository) (v : View) (command : Command) (target : Target) (reply : Reply) → resolve r target ≡ Err reply → IsViewAfter r v command reply v
unnamed_seen r v command target reply is = by command reply (subst NamesNone is (names_none r target))
  where
    by : (command : Command) (reply : Reply) → IsUnnamed reply → IsViewAfter r v command reply v
    by Command.Empty (Reply.NoBranch name) un = refl
    by (Command.Checkout target) (Reply.NoBranch name) un = refl
    by (Command.Set path bytes) (Reply.NoBranch name) un = refl
    by (Command.Rm path) (Reply.NoBranch name) un = refl
    by (Command.Graft target from to) (Reply.NoBranch name) un = refl
    by (Command.Commit branch info) (Reply.NoBranch name) un = refl
    by _ (Reply.NoBranch name) un = refl
    by Command.Empty (Reply.NoCommit hash) un = refl
    by (Command.Checkout target) (Reply.NoCommit hash) un = refl
    by (Command.Set path bytes) (Reply.NoCommit hash) un = refl
    by (Command.Rm path) (Reply.NoCommit hash) un = refl
    by (Command.Graft target from to) (Reply.NoCommit hash) un = refl
    by (Command.Commit branch info) (Reply.NoCommit hash) un = refl
    by _ (Reply.NoCommit hash) un = refl
    by _ _ un = absurd un
