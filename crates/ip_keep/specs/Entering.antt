-- References that are entered into what waits.
--     refs_of rec      the offsets that a record refers to.      are_below at refs      whether these lie below an offset
--     GainsSome old new refs below      some of these that lie below a bound came to those that were there
--     Gains old new refs below      all of them did
use Rattle.std.specs.Prelude.{◌⊎◌, ℕ, ◌<◌, Bool, List, map, nat_lt, Contains}
use Rattle.std.specs.List.{list_all}
use Rattle.std.specs.List.Sorted.{IsStrictlyIncreasing}
use Rattle.ip_spec.specs.declared.record.Record.{Record}
use Rattle.ip_spec.specs.declared.record.Ref.{Ref}
use Rattle.ip_spec.specs.Record.{references}

abbrev pub refs_of : Record → List ℕ
refs_of rec = map (λ (ref : Ref). ref.at) (references rec)

abbrev pub are_below : ℕ → List ℕ → Bool
are_below at refs = list_all (λ ref. nat_lt ref at) refs

pub record GainsSome (old new refs : List ℕ) (below : ℕ) : Type 0 where
  pub kept : (at : ℕ) → Contains old at → Contains new at
  pub only : (at : ℕ) → Contains new at → Contains old at ⊎ (Contains refs at × (at < below))
  pub rises : IsStrictlyIncreasing old → IsStrictlyIncreasing new

pub record Gains (old new refs : List ℕ) (below : ℕ) : Type 0 where
  pub some : GainsSome old new refs below
  pub all : (at : ℕ) → Contains refs at → at < below → Contains new at
