-- Lists of events: what each keeps, and what a commit reaches from then on.
use Rattle.std.proofs.Common.{◌≡◌, ◌⊎◌, inl, inr, ℕ, ◌≤◌, List, [], ◌∷◌, ◌++◌, refl, sym, ap, subst, ◌∙◌, Bool, true, false, arith}
use Rattle.std.specs.Prelude.{◌||◌, Contains, IsTrue, nat_le, filter}
use Rattle.std.proofs.lemmas.List.Elements.{Contains-append_left, Contains-append_right, Contains-append_cases}
use Rattle.ip_spec.specs.declared.event.CoreRecord.{CoreRecord}
use Rattle.ip_spec.specs.declared.event.Event.{Event}
use Rattle.ip_spec.specs.Core.{AreInOrder, AreReached, Core, CorePhase, CoreRun, CoreStep, FollowOn, IsClosed, IsPresent, KeepsEnough, KeepsReached, Reached, Reaches, by_ref, end_of, from_above, from_kept, itself, no_core, stays, with_phase}
use Rattle.ip_spec.proofs.CoreLaws.{step_keeps, always_closed}
use Rattle.ip_gen.specs.Laws.{CollectsCommit, CoversAbove, KeptIsClosed, RefersBelow, SameReached}
use Rattle.ip_gen.proofs.Lists.{filtered, of_filtered, same_rising}
use Rattle.ip_gen.proofs.Order.{behind, inside}
use Rattle.ip_gen.proofs.Sweeping.{reached_below}

-- what every list of events leaves
pub record IsWhole (core : Core) : Type 0 where
  pub closed : IsClosed core
  pub kept : KeptIsClosed core.records core.phase
  pub collects : CollectsCommit core.records core.horizon core.phase

-- ---- one event

reached_present : (records : List CoreRecord) (h e at : ℕ) → RefersBelow records → Reached records h e at → IsPresent records at
reached_present records h e to down (from_above r at c high low ref below) = (down r at c ref).1
reached_present records h e to down (from_kept r at c reach ref) = (down r at c ref).1

more_present : (records rs : List CoreRecord) (at : ℕ) → IsPresent records at → IsPresent (records ++ rs) at
more_present records rs at (r, c, e) = (r, Contains-append_left records rs r c, e)

more_kept : (records rs : List CoreRecord) (phase : CorePhase) → AreInOrder 0 records → FollowOn records phase rs → KeptIsClosed records phase → KeptIsClosed (records ++ rs) phase
more_kept records rs CorePhase.idle order f k = tt
more_kept records rs (CorePhase.collecting h kept ended) order f k = (λ at c. ((k.0 at c).0, more_present records rs at (k.0 at c).1), λ r at c kept_r ref. by r at kept_r ref (Contains-append_cases records rs r c))
  where
    by : (r : CoreRecord) (at : ℕ) → Contains kept r.at → Contains r.refs at → Contains records r ⊎ Contains rs r → Contains kept at
    by r at kept_r ref (inl c) = k.1 r at c kept_r ref
    by r at kept_r ref (inr c) =
        let (q, d, e) = (k.0 r.at kept_r).1 in
        let l = inside records q order d in
        let b = behind records (CorePhase.collecting h kept ended) rs r f c in
        absurd (omega (arith, l, b, e))

more_collects : (records rs : List CoreRecord) (horizon : ℕ) (phase : CorePhase) → CollectsCommit records horizon phase → CollectsCommit (records ++ rs) horizon phase
more_collects records rs horizon CorePhase.idle k = tt
more_collects records rs horizon (CorePhase.collecting h kept ended) (low, (r, c, e, commit)) = (low, (r, Contains-append_left records rs r c, e, commit))

start_kept : (core : Core) (h : ℕ) (kept : List ℕ) → IsClosed core → AreReached core.records h (end_of core.records) kept → KeptIsClosed core.records (CorePhase.collecting h kept false)
start_kept core h kept closed are = (
  λ at c. let reach = (are.each at).0 c in (reached_below core.records h (end_of core.records) at closed.below reach, reached_present core.records h (end_of core.records) at closed.below reach),
  λ r at c kept_r ref. (are.each at).1 (from_kept r at c ((are.each r.at).0 kept_r) ref),
)

whole : (core new next : Core) → new ≡ next → IsClosed new → KeptIsClosed next.records next.phase → CollectsCommit next.records next.horizon next.phase → IsWhole new
whole core new next e closed kept collects = record {
  closed = closed;
  kept = subst (λ (c : Core). KeptIsClosed c.records c.phase) (sym e) kept;
  collects = subst (λ (c : Core). CollectsCommit c.records c.horizon c.phase) (sym e) collects;
}

pub whole_step : (old new : Core) (event : Event) → CoreStep old event new → IsWhole old → IsWhole new
whole_step old new event step w = by event step (step_keeps old new event step w.closed).0
  where
    by : (event : Event) → CoreStep old event new → IsClosed new → IsWhole new
    by (Event.Append rs) (f, e) closed = whole old new _ e closed (more_kept old.records rs old.phase w.closed.order f w.kept) (more_collects old.records rs old.horizon old.phase w.collects)
    by (Event.Start h) (idle, low, has, (kept, are, e)) closed = whole old new _ e closed (start_kept old h kept w.closed are) (low, has)
    by Event.Foreign e closed = whole old new old e closed w.kept w.collects
    by Event.End (h, kept, is, e) closed = whole old new _ e closed (subst (KeptIsClosed old.records) is w.kept) (subst (CollectsCommit old.records old.horizon) is w.collects)
    by Event.Accept (h, kept, is, e) closed = whole old new _ e closed tt tt
    by Event.Reject (h, kept, is, e) closed = whole old new _ e closed tt tt
    by Event.Cancel (h, kept, ended, is, e) closed = whole old new _ e closed tt tt
    by Event.Crash e closed = whole old new _ e closed tt tt
    by Event.Sweep e closed = whole old new old e closed w.kept w.collects

abbrev WouldStay : CorePhase → ℕ → Type 0
WouldStay CorePhase.idle at = ⊥
WouldStay (CorePhase.collecting h kept ended) at = h ≤ at

-- where a record lies from the horizon on, or would once a collection that goes on were accepted
abbrev IsLeft : Core → ℕ → Type 0
IsLeft core at = (core.horizon ≤ at) ⊎ WouldStay core.phase at

-- and so it did before this event
step_left : (old new : Core) (event : Event) (at : ℕ) → CoreStep old event new → IsLeft new at → IsLeft old at
step_left old new event at step left = by event step
  where
    phase_left : (phase other : CorePhase) → phase ≡ other → WouldStay phase at → WouldStay other at
    phase_left phase other e stay = subst (λ p. WouldStay p at) e stay

    same : (next : Core) → new ≡ next → IsLeft next at
    same next e = subst (λ (c : Core). IsLeft c at) e left

    idle_left : (next : Core) → new ≡ next → (next.horizon ≡ old.horizon) → (next.phase ≡ CorePhase.idle) → IsLeft old at
    idle_left next e horizon idle = elim (same next e) [ inl low ↦ inl (subst (λ n. n ≤ at) horizon low) | inr stay ↦ absurd (phase_left next.phase CorePhase.idle idle stay) ]

    by : (event : Event) → CoreStep old event new → IsLeft old at
    by (Event.Append rs) (f, e) = same _ e
    by (Event.Start h) (idle, low, has, (kept, are, e)) = elim (same _ e) [ inl under ↦ inl under | inr stay ↦ inl (let from : h ≤ at = stay in omega (arith, low, from)) ]
    by Event.Foreign e = same old e
    by Event.End (h, kept, is, e) = elim (same _ e) [ inl under ↦ inl under | inr stay ↦ inr (phase_left (CorePhase.collecting h kept false) old.phase (sym is) stay) ]
    by Event.Accept (h, kept, is, e) = elim (same _ e) [ inl under ↦ inr (phase_left (CorePhase.collecting h kept true) old.phase (sym is) under) | inr stay ↦ absurd stay ]
    by Event.Reject (h, kept, is, e) = idle_left _ e refl refl
    by Event.Cancel (h, kept, ended, is, e) = idle_left _ e refl refl
    by Event.Crash e = idle_left _ e refl refl
    by Event.Sweep e = same old e

-- ---- what is reached

reaches_on : (xs ys : List CoreRecord) (from at : ℕ) → ((r : CoreRecord) → Contains xs r → Reaches xs from r.at → Contains ys r) → Reaches xs from at → Reaches ys from at
reaches_on xs ys from to keep itself = itself
reaches_on xs ys from to keep (by_ref r at reach c ref) = by_ref r at (reaches_on xs ys from r.at keep reach) (keep r c reach) ref

-- nothing above is reached
reaches_down : (records : List CoreRecord) (from at : ℕ) → RefersBelow records → Reaches records from at → at ≤ from
reaches_down records from to down itself = omega arith
reaches_down records from to down (by_ref r at reach c ref) = let l = reaches_down records from r.at down reach in let b = (down r at c ref).0 in omega (arith, l, b)

both_ways : (from : ℕ) (old new : List CoreRecord) → ((r : CoreRecord) → Contains old r → Reaches old from r.at → Contains new r) → ((r : CoreRecord) → Contains new r → Reaches new from r.at → Contains old r) → SameReached from old new
both_ways from old new there back r = (
  λ p. (there r p.0 p.1, reaches_on old new from r.at there p.1),
  λ p. (back r p.0 p.1, reaches_on new old from r.at back p.1),
)

-- what this event leaves of a commit that it leaves at the horizon or above
abbrev Since : CoreRecord → List CoreRecord → List CoreRecord → Type 0
Since c old new = Contains new c × SameReached c.at old new

since_same : (c : CoreRecord) (rs : List CoreRecord) → Contains rs c → Since c rs rs
since_same c rs there = (there, λ r. (λ p. p, λ p. p))

step_since : (old new : Core) (event : Event) (c : CoreRecord) → IsClosed old → CoreStep old event new → Contains old.records c → IsTrue c.commit → IsLeft new c.at → Since c old.records new.records
step_since old new event c closed step there commit left = by event step (step_keeps old new event step closed)
  where
    same : (next : Core) → new ≡ next → Since c old.records next.records → Since c old.records new.records
    same next e s = subst (λ (x : Core). Since c old.records x.records) (sym e) s

    by : (event : Event) → CoreStep old event new → IsClosed new × KeepsReached old new → Since c old.records new.records
    by (Event.Append rs) (f, e) k = (in_new c there, both_ways c.at old.records new.records (λ r d reach. in_new r d) back)
      where
        is : new.records ≡ old.records ++ rs
        is = ap (λ (x : Core). x.records) e

        in_new : (r : CoreRecord) → Contains old.records r → Contains new.records r
        in_new r d = subst (λ xs. Contains xs r) (sym is) (Contains-append_left old.records rs r d)

        back : (r : CoreRecord) → Contains new.records r → Reaches new.records c.at r.at → Contains old.records r
        back r d reach = pick (Contains-append_cases old.records rs r (subst (λ xs. Contains xs r) is d))
          where
            pick : Contains old.records r ⊎ Contains rs r → Contains old.records r
            pick (inl a) = a
            pick (inr a) =
                let l = inside old.records c closed.order there in
                let b = behind old.records old.phase rs r f a in
                let m = reaches_down new.records c.at r.at k.0.below reach in
                absurd (omega (arith, l, b, m))
    by (Event.Start h) (idle, low, has, (kept, are, e)) k = same _ e (since_same c old.records there)
    by Event.Foreign e k = same old e (since_same c old.records there)
    by Event.End (h, kept, is, e) k = same _ e (since_same c old.records there)
    by Event.Accept (h, kept, is, e) k = (in_new, both_ways c.at old.records new.records (λ r d reach. k.1 c r in_new commit low d reach) (λ r d reach. of_filtered (stays h kept) old.records r (subst (λ xs. Contains xs r) are d)))
      where
        are : new.records ≡ filter (stays h kept) old.records
        are = ap (λ (x : Core). x.records) e

        high : h ≤ c.at
        high = elim (subst (λ (x : Core). IsLeft x c.at) e left) [ inl from ↦ from | inr stay ↦ absurd stay ]

        low : new.horizon ≤ c.at
        low = subst (λ (x : Core). x.horizon ≤ c.at) (sym e) high

        or_first : (b d : Bool) → b ≡ true → (b || d) ≡ true
        or_first true d t = refl
        or_first false d t = cc

        test : (m n : ℕ) → m ≤ n → nat_le m n ≡ true
        test m n l = grind arith

        in_new : Contains new.records c
        in_new = subst (λ xs. Contains xs c) (sym are) (filtered (stays h kept) old.records c there (or_first (nat_le h c.at) _ (test h c.at high)))
    by Event.Reject (h, kept, is, e) k = same _ e (since_same c old.records there)
    by Event.Cancel (h, kept, ended, is, e) k = same _ e (since_same c old.records there)
    by Event.Crash e k = same _ e (since_same c old.records there)
    by Event.Sweep e k = same old e (since_same c old.records there)

-- ---- lists of events

run_whole : (events : List Event) (core new : Core) → CoreRun core events new → IsWhole core → IsWhole new
run_whole [] core new e w = subst IsWhole (sym e) w
run_whole (event ∷ events) core new (mid, step, rest) w = run_whole events mid new rest (whole_step core mid event step w)

none_whole : IsWhole no_core
none_whole = record { closed = always_closed [] no_core refl; kept = tt; collects = tt }

pub always_whole : (events : List Event) (core : Core) → CoreRun no_core events core → IsWhole core
always_whole events core run = run_whole events no_core core run none_whole

pub run_closed : (events : List Event) (core new : Core) → CoreRun core events new → IsClosed core → IsClosed new
run_closed [] core new e closed = subst IsClosed (sym e) closed
run_closed (event ∷ events) core new (mid, step, rest) closed = run_closed events mid new rest (step_keeps core mid event step closed).0

run_left : (events : List Event) (core new : Core) (at : ℕ) → CoreRun core events new → IsLeft new at → IsLeft core at
run_left [] core new at e left = subst (λ (c : Core). IsLeft c at) e left
run_left (event ∷ events) core new at (mid, step, rest) left = step_left core mid event at step (run_left events mid new at rest left)

pub run_since : (events : List Event) (core new : Core) (c : CoreRecord) → IsClosed core → CoreRun core events new → Contains core.records c → IsTrue c.commit → new.horizon ≤ c.at → Since c core.records new.records
run_since [] core new c closed e there commit low = subst (λ (x : Core). Since c core.records x.records) (sym e) (since_same c core.records there)
run_since (event ∷ events) core new c closed (mid, step, rest) there commit low =
    let first = step_since core mid event c closed step there commit (run_left events mid new c.at rest (inl low)) in
    let last = run_since events mid new c (step_keeps core mid event step closed).0 rest first.0 commit low in
    (last.0, λ r. (λ p. (last.1 r).0 ((first.1 r).0 p), λ p. (first.1 r).1 ((last.1 r).1 p)))

pub run_appended : (events : List Event) (old mid new : Core) (records : List CoreRecord) (c : CoreRecord) → IsClosed old → CoreStep old (Event.Append records) mid → CoreRun mid events new
    → Contains records c → IsTrue c.commit → new.horizon ≤ c.at → Since c mid.records new.records
run_appended events old mid new records c closed step rest there commit low =
    run_since events mid new c (step_keeps old mid (Event.Append records) step closed).0 rest
    (subst (λ xs. Contains xs c) (sym (ap (λ (x : Core). x.records) step.1)) (Contains-append_right old.records records c there)) commit low

pub covers : (records : List CoreRecord) (phase : CorePhase) → KeepsEnough records phase → CoversAbove records phase
covers records CorePhase.idle k = tt
covers records (CorePhase.collecting h kept ended) k = λ r at c high ref. k.above r at c high ref

-- ---- one next core

pub one_step : (old new other : Core) (event : Event) → CoreStep old event new → CoreStep old event other → new ≡ other
one_step old new other (Event.Append rs) (f, e) (g, d) = e ∙ sym d
one_step old new other (Event.Start h) (idle, low, has, (kept, are, e)) (idle', low', has', (kept', are', d)) =
    e ∙ (ap (λ ks. with_phase old (CorePhase.collecting h ks false)) (same_rising kept kept' are.ascending are'.ascending (λ at. (λ c. (are'.each at).1 ((are.each at).0 c), λ c. (are.each at).1 ((are'.each at).0 c)))) ∙ sym d)
one_step old new other Event.Foreign e d = e ∙ sym d
one_step old new other Event.End (h, kept, is, e) (h', kept', is', d) =
    let p : CorePhase.collecting h kept false ≡ CorePhase.collecting h' kept' false = sym is ∙ is' in
    let q : CorePhase.collecting h kept true ≡ CorePhase.collecting h' kept' true = cc in
    e ∙ (ap (with_phase old) q ∙ sym d)
one_step old new other Event.Accept (h, kept, is, e) (h', kept', is', d) =
    let p : CorePhase.collecting h kept true ≡ CorePhase.collecting h' kept' true = sym is ∙ is' in
    let a : h ≡ h' = cc in
    let b : kept ≡ kept' = cc in
    e ∙ ((λ i. record { records = filter (stays (a i) (b i)) old.records; horizon = a i; phase = CorePhase.idle }) ∙ sym d)
one_step old new other Event.Reject (h, kept, is, e) (h', kept', is', d) = e ∙ sym d
one_step old new other Event.Cancel (h, kept, ended, is, e) (h', kept', ended', is', d) = e ∙ sym d
one_step old new other Event.Crash e d = e ∙ sym d
one_step old new other Event.Sweep e d = e ∙ sym d
