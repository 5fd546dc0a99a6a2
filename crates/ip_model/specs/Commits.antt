-- Commits as the model keeps them, and the repositories whose commits they are.
--     Told      what is told of a commit.      told c, kept m      of a repository's commit, and of the model's
--     IsOf ms r      the repository has these commits, and none was given up
--     IsNext r c reply ms      what making a commit answers, and which commits there are then
--     name_in ms n      the name of a commit, and zeros for none
--     history_in ms      the parents of each commit
--     told_reply n m      what is told of a commit
use Rattle.std.specs.Prelude.{◌≡◌, ℕ, List, map, replicate, Some, option_map, unwrap_or, slice_get, MatchResult}
use Rattle.ip_spec.specs.declared.record.Parent.{Parent}
use Rattle.ip_spec.specs.declared.reply.Reply.{Reply}
use Rattle.ip_spec.specs.Path.{Bytes}
use Rattle.ip_spec.specs.Record.{Hash, Info}
use Rattle.ip_spec.specs.Shape.{root_name}
use Rattle.ip_spec.specs.Repository as Repository
use Rattle.ip_spec.specs.Repository.{Repository, CommitParent}
use Rattle.ip_spec.specs.Step.{not_existing, with_commit}
use Rattle.ip_history.specs.History.{History}
use Rattle.ip_model.specs.declared.commits.Commit.{Commit}

pub record Told : Type 0 where
  pub name : Hash
  pub parents : List CommitParent
  pub info : Info
  pub root : Hash

abbrev pub told : Repository.Commit → Told
told c = record { name = c.name; parents = c.parents; info = c.info; root = root_name c.tree }

abbrev pub as_kept : Parent → CommitParent
as_kept p = record { number = Some p.number; name = p.name }

abbrev pub kept : Commit → Told
kept m = record { name = m.name; parents = map as_kept m.parents; info = m.info; root = m.root }

pub record IsOf (ms : List Commit) (r : Repository) : Type 0 where
  pub floor : r.floor ≡ 0
  pub commits : map told r.commits ≡ map kept ms

abbrev pub IsNext : Repository → Repository.Commit → Reply → List Commit → Type 0
IsNext r c reply ms =
    MatchResult (not_existing r c.name)
    (λ _. (reply ≡ Reply.Committed c.name) × ((branch : Bytes) → IsOf ms (with_commit r c branch)))
    (λ refused. (reply ≡ refused) × IsOf ms r)

abbrev pub name_in : List Commit → ℕ → Hash
name_in ms n = unwrap_or (option_map (λ (m : Commit). m.name) (slice_get ms n)) (replicate 32 0)

abbrev pub history_in : List Commit → History
history_in ms = record { floor = 0; parents = map (λ (m : Commit). map (λ (p : Parent). p.number) m.parents) ms }

abbrev pub told_reply : ℕ → Commit → Reply
told_reply n m = Reply.Commit m.name n m.root (map (λ (p : Parent). p.name) m.parents) m.info
