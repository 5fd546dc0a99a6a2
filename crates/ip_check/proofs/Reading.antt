-- What a read and a measure tell of a file as it was before.
use Rattle.std.proofs.Common.{◌≡◌, ℕ, ◌-◌, List, length, take, drop, sym, ap, ◌∙◌, subst}
use Rattle.std.specs.Prelude.{Ok, min}
use Rattle.ip_ground.specs.declared.names.FileName.{FileName}
use Rattle.ip_ground.specs.Contents.{Content, bytes_of, size_of}
use Rattle.ip_ground.specs.Told.{Told, IsForeign, NoFile, ChangesOnly}
use Rattle.ip_ground.specs.Calls.{Reads}

pub held_still : (file : FileName) (a b : Told) → ¬ IsForeign a file → ChangesOnly NoFile a b → b.held file ≡ a.held file
held_still file a b own only = (only.others file (λ none. none)).held own

pub own_still : (file : FileName) (a b : Told) → ¬ IsForeign a file → ChangesOnly NoFile a b → ¬ IsForeign b file
own_still file a b own only = (only.others file (λ none. none)).own own

module _ (file : FileName) (a b : Told) (at n : ℕ) (out filled : List ℕ) (own : ¬ IsForeign a file) (reads : Reads file at out filled (Ok n) a b) where
  pub count_read : n ≡ min (length out) (size_of (a.held file) - at)
  count_read = subst (λ (h : Content). n ≡ min (length out) (size_of h - at)) (held_still file a b own reads.only) reads.count

  pub count_room : (want : List ℕ) → length want ≡ length out → n ≡ min (length want) (size_of (a.held file) - at)
  count_room want room = count_read ∙ ap (λ (k : ℕ). min k (size_of (a.held file) - at)) (sym room)

  pub bytes_read : take n filled ≡ take n (drop at (bytes_of (a.held file)))
  bytes_read = subst (λ (h : Content). take n filled ≡ take n (drop at (bytes_of h))) (held_still file a b own reads.only) reads.bytes
