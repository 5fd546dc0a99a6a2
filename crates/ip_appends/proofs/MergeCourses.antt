-- A merge by how the commit stands to the branch's.
--     into_none, into_memory      there is no such branch, or that could not be told.      into_current, into_leaving, into_bases      nothing is merged
--     head_there, course_may      there is the branch, and its commit.      forward_at, join_at      the branch moves on, or the trees are merged
--     needs_forward, needs_join      in both cases the files are needed.      forward_apart      they exclude each other
use Rattle.std.proofs.Common.{◌≡◌, ◌⊎◌, ℕ, ◌≤◌, Bool, true, false, List, length, Option, Some, None, inl, inr, refl, sym, ◌∙◌, ap, subst, arith}
use Rattle.std.specs.Prelude.{Result, Ok, Err, IsSome, IsSomeAnd, IsTrue}
use Rattle.ip_base.specs.declared.info.Info.{Info}
use Rattle.ip_ground.specs.Told.{Told}
use Rattle.ip_spec.specs.declared.reply.Reply.{Reply}
use Rattle.ip_spec.specs.History.{is_ancestor, is_proper_ancestor, lcas}
use Rattle.ip_spec.specs.Machine.{Phase}
use Rattle.ip_spec.specs.Merge.{Rule}
use Rattle.ip_spec.specs.Path.{Bytes}
use Rattle.ip_spec.specs.Record.{Hash}
use Rattle.ip_spec.specs.Repository.{Repository, head, is_retained, name_at}
use Rattle.ip_held.specs.declared.fault.StoreFault.{StoreFault}
use Rattle.ip_appends.specs.declared.merging.Course.{Course}
use Rattle.ip_appends.specs.declared.merging.Merge.{Merge}
use Rattle.ip_appends.specs.declared.merging.Sides.{Sides}
use Rattle.ip_held.specs.declared.held.Held.{Held}
use Rattle.ip_held.specs.Collecting.{not_leaving_in, phase_of}
use Rattle.ip_held.specs.Held.{IsOf}
use Rattle.ip_appends.specs.Merging.{IsCourse, IsForward, IsJoin, MergesInto, NeedsFiles, bases_of, merge_reply, moves}
use Rattle.ip_appends.proofs.JoinedCalls.{looked_nothing}
use Rattle.ip_appends.proofs.JoinedTrees.{forward_from, join_from}
use Rattle.ip_appends.proofs.MergeExits.{into, looked_fault, looked_value}
use Rattle.ip_appends.proofs.MergeTurns.{IsQuiet, turn_bases, turn_current, turn_leaving, turn_memory, turn_none}
use Rattle.ip_held.proofs.Phases.{head_retained}

module _ (tells : Bool) (rule : Rule) (number : ℕ) (branch : Bytes) (info : Info) (store : Held) (a : Told) where
  abbrev phase : Phase
  phase = phase_of store.collection

  abbrev There : Repository → Type 0
  There r = IsTrue (is_retained r number)

  abbrev Into : Result Merge StoreFault → Type 0
  Into result = MergesInto tells rule number branch info result store store a a

  still : (x : Merge) → moves x ≡ false → ((r : Repository) → IsOf store r → There r → (reply : Reply) × (merge_reply branch (Ok x) ≡ Some reply) × IsQuiet rule r phase number branch info reply r) → Into (Ok x)
  still x none quiet = into tells rule number branch info There (Ok x) store store a a (λ r of here. here) (λ r of here none. absurd (none tt)) (λ r of e. absurd (cc (e))) (λ r of is e. absurd (cc (e)))
      (looked_value tells rule number branch info There store store a a (looked_nothing tells store a) x none (λ told decides r held here. quiet r held.tables here))

  module _ (found : Option ℕ) (is_found : (r : Repository) → IsOf store r → found ≡ head r branch) where
    pub into_none : found ≡ None → Into (Ok Merge.NoBranch)
    into_none none = still Merge.NoBranch refl (λ r of here. (Reply.NoBranch branch, refl, turn_none rule r phase number branch info (sym (is_found r of) ∙ none)))

    module _ (at : ℕ) (some : found ≡ Some at) where
      is_head : (r : Repository) → IsOf store r → head r branch ≡ Some at
      is_head r of = sym (is_found r of) ∙ some

      pub head_there : (r : Repository) → IsOf store r → IsSome (head r branch)
      head_there r of = subst (λ (o : Option ℕ). IsSome o) (sym (is_head r of)) refl

      pub into_memory : Into (Err StoreFault.Memory)
      into_memory = into tells rule number branch info There (Err StoreFault.Memory) store store a a (λ r of here. here) (λ r of here none. absurd (none tt)) (λ r of e. head_there r of) (λ r of is e. absurd (cc (e)))
          (looked_fault tells rule number branch info There store store a a (looked_nothing tells store a) StoreFault.Memory (λ told decides r held here. record { turns = turn_memory rule r phase number branch info; limits = tt; undamaged = tt }) tt)

      pub course_may : (r : Repository) → IsOf store r → IsTrue (is_retained r at)
      course_may r of = head_retained store r of branch at (is_head r of)

      module _ (course : Course) (courses : (r : Repository) → IsOf store r → IsTrue (is_retained r at) → There r → IsCourse r phase at number course) where
        by : (one : Course) → course ≡ one → (r : Repository) → IsOf store r → There r → IsCourse r phase at number one
        by one is r of here = subst (IsCourse r phase at number) is (courses r of (course_may r of) here)

        pub into_current : course ≡ Course.Current → (name : Hash) → ((r : Repository) → IsOf store r → IsTrue (is_retained r at) → name ≡ name_at r at) → Into (Ok (Merge.Current name))
        into_current is name named = still (Merge.Current name) refl (λ r of here. (
          Reply.Current (name_at r at),
          ap (λ h. Some (Reply.Current h)) (named r of (course_may r of)),
          turn_current rule r phase number branch info at (is_head r of) (by Course.Current is r of here),
        ))

        pub into_leaving : course ≡ Course.Leaving → Into (Err (StoreFault.Leaving number))
        into_leaving is = into tells rule number branch info There (Err (StoreFault.Leaving number)) store store a a (λ r of here. here) (λ r of here none. absurd (none tt)) (λ r of e. head_there r of) (λ r of is e. absurd (cc (e)))
            (looked_fault tells rule number branch info There store store a a (looked_nothing tells store a) (StoreFault.Leaving number) (λ told decides r held here.
            let taken = by Course.Leaving is r held.tables here in
            record { turns = (turn_leaving rule r phase number branch info at (is_head r held.tables) taken.0.0 taken.0.1 (Reply.Leaving number) taken.1).turns; limits = tt; undamaged = tt }) tt)

        pub into_bases : (count : ℕ) → course ≡ Course.Bases count → Into (Ok (Merge.Bases count))
        into_bases count is = still (Merge.Bases count) refl (λ r of here.
            let taken = by (Course.Bases count) is r of here in
            (Reply.Bases count, refl, turn_bases rule r phase number branch info at (is_head r of) taken.0.0 taken.0.1 taken.3 count taken.1 taken.2))

        pub forward_at : course ≡ Course.Forward → (r : Repository) → IsOf store r → There r → IsForward r branch number
        forward_at is r of here = forward_from r phase branch at number (is_head r of) here (by Course.Forward is r of here)

        pub join_at : (base : Option ℕ) → course ≡ Course.Join base → (r : Repository) → IsOf store r → There r → IsJoin r phase branch (record { base = base; head = at; number = number })
        join_at base is r of here = join_from r phase branch at number base (is_head r of) (course_may r of) here (by (Course.Join base) is r of here)

-- ---- what the files are asked for

pub needs_forward : (r : Repository) (phase : Phase) (branch : Bytes) (number : ℕ) → IsForward r branch number → NeedsFiles r phase number branch
needs_forward r phase branch number is = subst (λ (o : Option ℕ). IsSomeAnd o (λ at. (is_ancestor r number at ≡ false) × ((is_proper_ancestor r at number ≡ true) ⊎ ((not_leaving_in phase (Some number) ≡ Ok tt) × (length (lcas r at number) ≤ 1))))) (sym is.is_head) (is.not_current, inl is.forward)

few : (base : Option ℕ) → length (bases_of base) ≤ 1
few None = omega arith
few (Some n) = omega arith

pub needs_join : (r : Repository) (phase : Phase) (branch : Bytes) (sides : Sides) → IsJoin r phase branch sides → NeedsFiles r phase sides.number branch
needs_join r phase branch sides is = subst (λ (o : Option ℕ). IsSomeAnd o (λ at. (is_ancestor r sides.number at ≡ false) × ((is_proper_ancestor r at sides.number ≡ true) ⊎ ((not_leaving_in phase (Some sides.number) ≡ Ok tt) × (length (lcas r at sides.number) ≤ 1))))) (sym is.is_head)
    (is.apart.0, inr (is.staying, subst (λ (ns : List ℕ). length ns ≤ 1) (sym is.least) (few sides.base)))

-- a commit that the branch moves on to is not apart from it
pub forward_apart : {A : Type 0} (r : Repository) (phase : Phase) (branch : Bytes) (sides : Sides) → IsJoin r phase branch sides → IsForward r branch sides.number → A
forward_apart r phase branch sides is forward =
    let same : forward.at ≡ sides.head = cc (forward.is_head, is.is_head) in
    let is_not = is.apart.1 in
    let is_so = forward.forward in
    absurd (cc (same, is_not, is_so))
