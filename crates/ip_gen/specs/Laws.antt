-- What holds after every list of events, and what the events after an append leave as it was.
use Rattle.std.specs.Prelude.{◌≡◌, ◌⊎◌, ◌↔◌, ℕ, ◌<◌, ◌≤◌, List, Contains, IsTrue}
use Rattle.ip_spec.specs.declared.event.CoreRecord.{CoreRecord}
use Rattle.ip_spec.specs.Core.{CorePhase, IsPresent, Reaches}

-- each reference of a present record points at a present record strictly below it
abbrev pub RefersBelow : List CoreRecord → Type 0
RefersBelow records = (r : CoreRecord) (at : ℕ) → Contains records r → Contains r.refs at → (at < r.at) × IsPresent records at

-- while collecting, what is kept are present records below the commit, and what a kept record refers to is kept
abbrev pub KeptIsClosed : List CoreRecord → CorePhase → Type 0
KeptIsClosed records CorePhase.idle = Unit {0}
KeptIsClosed records (CorePhase.collecting h kept ended) = ((at : ℕ) → Contains kept at → (at < h) × IsPresent records at)
    × ((r : CoreRecord) (at : ℕ) → Contains records r → Contains kept r.at → Contains r.refs at → Contains kept at)

-- while collecting, what a record from the commit on refers to is kept, or at the commit or above
abbrev pub CoversAbove : List CoreRecord → CorePhase → Type 0
CoversAbove records CorePhase.idle = Unit {0}
CoversAbove records (CorePhase.collecting h kept ended) = (r : CoreRecord) (at : ℕ) → Contains records r → h ≤ r.at → Contains r.refs at → (h ≤ at) ⊎ Contains kept at

-- a commit lies at an offset
abbrev pub HasCommit : List CoreRecord → ℕ → Type 0
HasCommit records at = (r : CoreRecord) × Contains records r × (r.at ≡ at) × IsTrue r.commit

-- while collecting, the commit is a present commit record from the horizon on
abbrev pub CollectsCommit : List CoreRecord → ℕ → CorePhase → Type 0
CollectsCommit records horizon CorePhase.idle = Unit {0}
CollectsCommit records horizon (CorePhase.collecting h kept ended) = (horizon ≤ h) × HasCommit records h

-- the same records are reached from an offset
abbrev pub SameReached : ℕ → List CoreRecord → List CoreRecord → Type 0
SameReached from old new = (r : CoreRecord) → (Contains old r × Reaches old from r.at) ↔ (Contains new r × Reaches new from r.at)
