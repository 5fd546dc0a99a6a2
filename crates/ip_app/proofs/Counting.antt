-- Counts of faults over calls, and in turns.
--     spawns_itself, spawns_on      nor does a spawner's
--     risen      a count that rose did not fall.      falls_same, file_falls, say_falls, damage_falls, falls_if, falls_bound, falls_of      no count falls, where those that may rise are in their type's range
--     removals_itself, removals_same, removals_bound, removals_on, falls_removals      none rises but that of removals.      removals_any      so it is of a session that answered
--     no_damage      of a status that none is of.      serving_of, serving_on, say_counts      so the ground counts, where it serves
--     later_of, counts_same      so it is of what a turn tells of them.      still_at      and of a turn that tells what the ground counted at first
--     attach_counts, attach_none, attached_same      a folder could not be bound, or was.      bound_to dir noted      it is.      bound_counts, bound_still      and stays so.      bound_if, bound_any      none is bound anew
--     ended_counts, cut_counts      the end of a session counts what its status says, and so it is of the ground, where it serves
--     follow_more      turns one after another, while no fault of a file is counted
use Rattle.std.specs.Prelude.{is_err, min}
use Rattle.std.proofs.Common.{◌≡◌, ℕ, ◌+◌, ◌-◌, ◌^◌, ◌≤◌, Bool, true, false, List, [], ◌∷◌, ◌++◌, inl, inr, refl, sym, ap, ap₂, ◌∙◌, subst, arith, Option, None, Some, Result, Ok, Err}
use Rattle.ip_ground.specs.declared.names.GroundFault.{GroundFault}
use Rattle.ip_ground.specs.Counts.{Noted, Counted, as_nothing, as_fault, as_damage, Rose, RoseBy, NoneFalls, FileFault, SayFault, DamageFound, CountsIf, Binding, binds, Attaches}
use Rattle.ip_ground.proofs.Rising.{falls_itself, damage_rose}
use Rattle.ip_image.specs.declared.counts.TurnCounts.{TurnCounts}
use Rattle.ip_session.specs.declared.session.SessionEnd.{SessionEnd}
use Rattle.ip_session.specs.Session.{counted_end, CountsAny}
use Rattle.ip_spec.specs.declared.reply.Reply.{Reply}
use Rattle.ip_spec.specs.Path.{Bytes}
use Rattle.ip_app.specs.declared.turn_log.Turn.{Turn}
use Rattle.ip_app.specs.declared.statuses.Status.{Status}
use Rattle.ip_app.specs.declared.statuses.Status.TheVariants as status
use Rattle.ip_app.specs.Serving.{ended_status, CountsOf, OnlyRemovals, ASayFault, ADamage, CountsServing}
use Rattle.ip_app.specs.Exchanging.{CountsCut, IsDamage}
use Rattle.ip_spawn.specs.declared.spawner.SpawnCounts.{SpawnCounts}
use Rattle.ip_app.specs.Outside.{but_bound}
use Rattle.ip_app.specs.Turns.{turn_counts, SpawnsLater, IsLater, Follow}

-- ---- no count falls

pub falls_same : (a b : Noted) → b ≡ a → NoneFalls a b
falls_same a b e = subst (NoneFalls a) (sym e) (falls_itself a)

pub risen : (a b : ℕ) → a ≤ 2 ^ 64 - 1 → Rose a b → a ≤ b
risen a b small (inl h) = omega arith
risen a b small (inr h) = omega arith

pub file_falls : (a b : Noted) → a.file_faults ≤ 2 ^ 64 - 1 → FileFault a b → NoneFalls a b
file_falls a b small fault = let removed = fault.remove_faults in let said = fault.say_faults in let harmed = fault.damages in
    record { file_faults = risen a.file_faults b.file_faults small fault.rose; remove_faults = omega (arith, removed); say_faults = omega (arith, said); damages = omega (arith, harmed) }

pub say_falls : (a b : Noted) → a.say_faults ≤ 2 ^ 64 - 1 → SayFault a b → NoneFalls a b
say_falls a b small fault = let held = fault.file_faults in let removed = fault.remove_faults in let harmed = fault.damages in
    record { file_faults = omega (arith, held); remove_faults = omega (arith, removed); say_faults = risen a.say_faults b.say_faults small fault.rose; damages = omega (arith, harmed) }

pub damage_falls : (a b : Noted) → a.damages ≤ 2 ^ 64 - 1 → DamageFound a b → NoneFalls a b
damage_falls a b small found = let held = found.file_faults in let removed = found.remove_faults in let said = found.say_faults in
    record { file_faults = omega (arith, held); remove_faults = omega (arith, removed); say_faults = omega (arith, said); damages = risen a.damages b.damages small (damage_rose a b found) }

pub falls_if : (met : Counted) (a b : Noted) → a.file_faults ≤ 2 ^ 64 - 1 → a.damages ≤ 2 ^ 64 - 1 → CountsIf met a b → NoneFalls a b
falls_if as_nothing a b files harms same = falls_same a b same
falls_if as_fault a b files harms counted = file_falls a b files counted
falls_if as_damage a b files harms found = damage_falls a b harms found

-- whichever folder is bound
pub falls_bound : (a b : Noted) → NoneFalls (but_bound a b) b → NoneFalls a b
falls_bound a b falls = record { file_faults = falls.file_faults; remove_faults = falls.remove_faults; say_faults = falls.say_faults; damages = falls.damages }

pub falls_of : (s : Status) (a b : Noted) → a.file_faults ≤ 2 ^ 64 - 1 → a.say_faults ≤ 2 ^ 64 - 1 → a.damages ≤ 2 ^ 64 - 1 → CountsOf s a b → NoneFalls a b
falls_of s a b files says harms counted = falls_bound a b (by_status s counted)
  where
    by_status : (s : Status) → CountsOf s a b → NoneFalls (but_bound a b) b
    by_status status.GroundFault counted = file_falls (but_bound a b) b files counted
    by_status status.SayFault counted = say_falls (but_bound a b) b says counted
    by_status (status.Damaged file at) found = damage_falls (but_bound a b) b harms found
    by_status status.Done same = falls_same (but_bound a b) b same
    by_status status.Unfinished same = falls_same (but_bound a b) b same
    by_status (status.Limit bound) same = falls_same (but_bound a b) b same
    by_status status.ReadFault same = falls_same (but_bound a b) b same
    by_status status.Usage same = falls_same (but_bound a b) b same
    by_status status.NoStore same = falls_same (but_bound a b) b same
    by_status (status.DamagedRecord at) same = falls_same (but_bound a b) b same
    by_status (status.DamagedName at want got) same = falls_same (but_bound a b) b same
    by_status status.DamagedJob same = falls_same (but_bound a b) b same
    by_status status.Memory same = falls_same (but_bound a b) b same
    by_status status.Exists same = falls_same (but_bound a b) b same

-- ---- the folder that is bound

abbrev pub bound_to : Bytes → Noted → Noted
bound_to dir noted = record noted { bound = binds dir (Some dir) noted.bound }

pub attach_counts : (dir : Bytes) (r : Result (Unit {0}) GroundFault) (a b : Noted) → is_err r ≡ true → Attaches dir r a b → FileFault (but_bound a b) b
attach_counts dir (Ok u) a b e counted = absurd (cc e)
attach_counts dir (Err fault) a b e counted = record { rose = counted.rose; remove_faults = counted.remove_faults; say_faults = counted.say_faults; damages = counted.damages; bound = refl }

pub attach_none : (dir : Bytes) (r : Result (Unit {0}) GroundFault) (a b : Noted) → is_err r ≡ true → Attaches dir r a b → b.bound ≡ binds dir None a.bound
attach_none dir (Ok u) a b e counted = absurd (cc e)
attach_none dir (Err fault) a b e counted = counted.bound

pub attached_same : (dir : Bytes) (r : Result (Unit {0}) GroundFault) (a b : Noted) → is_err r ≡ false → Attaches dir r a b → b ≡ bound_to dir a
attached_same dir (Ok u) a b e same = same
attached_same dir (Err fault) a b e counted = absurd (cc e)

-- what was counted behind it
pub bound_counts : (dir : Bytes) (a b : Noted) (met : Counted) → CountsIf met (bound_to dir a) b → CountsIf met (but_bound a b) b
bound_counts dir a b as_nothing same = same ∙ ap (λ (o : Binding). record a { bound = o }) (sym (ap (λ (n : Noted). n.bound) same))
bound_counts dir a b as_fault h = record { rose = h.rose; remove_faults = h.remove_faults; say_faults = h.say_faults; damages = h.damages; bound = refl }
bound_counts dir a b as_damage h = record { once = h.once; file_faults = h.file_faults; remove_faults = h.remove_faults; say_faults = h.say_faults; bound = refl }

pub bound_still : (dir : Bytes) (a b : Noted) (met : Counted) → CountsIf met (bound_to dir a) b → b.bound ≡ binds dir (Some dir) a.bound
bound_still dir a b as_nothing same = ap (λ (n : Noted). n.bound) same
bound_still dir a b as_fault h = h.bound
bound_still dir a b as_damage h = h.bound

-- ---- none but removals

pub removals_itself : (a : Noted) → OnlyRemovals a a
removals_itself a = record { file_faults = refl; say_faults = refl; damages = refl; remove_faults = omega arith }

pub removals_same : (a b : Noted) → b ≡ a → OnlyRemovals a b
removals_same a b e = subst (OnlyRemovals a) (sym e) (removals_itself a)

pub removals_bound : (a b : Noted) → b ≡ but_bound a b → OnlyRemovals a b
removals_bound a b e = record {
  file_faults = ap (λ (n : Noted). n.file_faults) e;
  say_faults = ap (λ (n : Noted). n.say_faults) e;
  damages = ap (λ (n : Noted). n.damages) e;
  remove_faults = (let same = ap (λ (n : Noted). n.remove_faults) e in omega (arith, same));
}

pub removals_on : (a b c : Noted) → OnlyRemovals a b → OnlyRemovals b c → OnlyRemovals a c
removals_on a b c one other = record { file_faults = other.file_faults ∙ one.file_faults; say_faults = other.say_faults ∙ one.say_faults; damages = other.damages ∙ one.damages; remove_faults = omega (arith, one.remove_faults, other.remove_faults) }

pub falls_removals : (a b : Noted) → OnlyRemovals a b → NoneFalls a b
falls_removals a b h = record { file_faults = (let same = h.file_faults in omega (arith, same)); remove_faults = h.remove_faults; say_faults = (let same = h.say_faults in omega (arith, same)); damages = (let same = h.damages in omega (arith, same)) }

up_by : (n a b : ℕ) → a ≤ 2 ^ 64 - 1 → RoseBy n a b → a ≤ b
up_by n a b small (inl h) = omega arith
up_by n a b small (inr h) = omega arith

-- of a session that answered, whatever the line
pub removals_any : (reply : Reply) (a b : Noted) → a.remove_faults ≤ 2 ^ 64 - 1 → CountsAny (Ok reply) a b → OnlyRemovals a b
removals_any reply a b small any = record { file_faults = any.1.file_faults; say_faults = any.1.say_faults; damages = any.1.damages; remove_faults = up_by any.0 a.remove_faults b.remove_faults small any.1.rose }

-- no such status comes where the store was not open
abbrev pub IsNoDamage : Status → Type 0
IsNoDamage (status.DamagedRecord at) = ⊥
IsNoDamage (status.DamagedName at want got) = ⊥
IsNoDamage _ = Unit {0}

pub no_damage : (s : Status) → IsNoDamage s → IsDamage s → ⊥
no_damage (status.DamagedRecord at) sound damage = sound
no_damage (status.DamagedName at want got) sound damage = sound
no_damage _ sound damage = damage

pub serving_of : (s : Status) (a b : Noted) → IsNoDamage s → CountsOf s a b → CountsServing s a b
serving_of status.GroundFault a b other h = record { rose = h.rose; say_faults = h.say_faults; damages = h.damages; remove_faults = (let same = h.remove_faults in omega (arith, same)) }
serving_of status.SayFault a b other h = record { rose = h.rose; file_faults = h.file_faults; damages = h.damages; remove_faults = (let same = h.remove_faults in omega (arith, same)) }
serving_of (status.Damaged file at) a b other h = record { once = h.once; file_faults = h.file_faults; say_faults = h.say_faults; remove_faults = (let same = h.remove_faults in omega (arith, same)) }
serving_of status.Done a b other h = removals_bound a b h
serving_of status.Unfinished a b other h = removals_bound a b h
serving_of (status.Limit bound) a b other h = removals_bound a b h
serving_of status.ReadFault a b other h = removals_bound a b h
serving_of status.Usage a b other h = removals_bound a b h
serving_of status.NoStore a b other h = removals_bound a b h
serving_of status.DamagedJob a b other h = removals_bound a b h
serving_of status.Memory a b other h = removals_bound a b h
serving_of status.Exists a b other h = removals_bound a b h
serving_of (status.DamagedRecord at) a b other h = absurd other
serving_of (status.DamagedName at want got) a b other h = absurd other

pub serving_on : (s : Status) (a b c : Noted) → OnlyRemovals a b → CountsServing s b c → CountsServing s a c
serving_on s a b c one = by_status s
  where
    damage : ADamage b c → ADamage a c
    damage h = record { once = h.once ∙ ap (λ (n : ℕ). min (n + 1) (2 ^ 64 - 1)) one.damages; file_faults = h.file_faults ∙ one.file_faults; say_faults = h.say_faults ∙ one.say_faults; remove_faults = omega (arith, one.remove_faults, h.remove_faults) }

    by_status : (s : Status) → CountsServing s b c → CountsServing s a c
    by_status status.GroundFault h = record { rose = subst (λ (n : ℕ). Rose n c.file_faults) one.file_faults h.rose; say_faults = h.say_faults ∙ one.say_faults; damages = h.damages ∙ one.damages; remove_faults = omega (arith, one.remove_faults, h.remove_faults) }
    by_status status.SayFault h = record { rose = subst (λ (n : ℕ). Rose n c.say_faults) one.say_faults h.rose; file_faults = h.file_faults ∙ one.file_faults; damages = h.damages ∙ one.damages; remove_faults = omega (arith, one.remove_faults, h.remove_faults) }
    by_status (status.Damaged file at) h = damage h
    by_status (status.DamagedRecord at) h = damage h
    by_status (status.DamagedName at want got) h = damage h
    by_status status.Done h = removals_on a b c one h
    by_status status.Unfinished h = removals_on a b c one h
    by_status (status.Limit bound) h = removals_on a b c one h
    by_status status.ReadFault h = removals_on a b c one h
    by_status status.Usage h = removals_on a b c one h
    by_status status.NoStore h = removals_on a b c one h
    by_status status.DamagedJob h = removals_on a b c one h
    by_status status.Memory h = removals_on a b c one h
    by_status status.Exists h = removals_on a b c one h

-- what was counted while no folder was bound anew
pub ended_counts : (end : SessionEnd) (a b : Noted) → CountsIf (counted_end end) a b → CountsCut (ended_status end) a b
ended_counts SessionEnd.Ground a b h = h
ended_counts (SessionEnd.Damaged at None) a b h = h
ended_counts (SessionEnd.Damaged at (Some (want, got))) a b h = h

pub cut_counts : (s : Status) (a b : Noted) → CountsCut s a b → CountsServing s a b
cut_counts status.GroundFault a b h = record { rose = h.rose; say_faults = h.say_faults; damages = h.damages; remove_faults = (let same = h.remove_faults in omega (arith, same)) }
cut_counts (status.DamagedRecord at) a b h = record { once = h.once; file_faults = h.file_faults; say_faults = h.say_faults; remove_faults = (let same = h.remove_faults in omega (arith, same)) }
cut_counts (status.DamagedName at want got) a b h = record { once = h.once; file_faults = h.file_faults; say_faults = h.say_faults; remove_faults = (let same = h.remove_faults in omega (arith, same)) }
cut_counts _ a b h = absurd h

pub say_counts : (a b : Noted) → SayFault a b → ASayFault a b
say_counts a b h = record { rose = h.rose; file_faults = h.file_faults; damages = h.damages; remove_faults = (let same = h.remove_faults in omega (arith, same)) }

-- a session binds no folder
pub bound_if : (met : Counted) (a b : Noted) → CountsIf met a b → b.bound ≡ a.bound
bound_if as_nothing a b same = ap (λ (n : Noted). n.bound) same
bound_if as_fault a b h = h.bound
bound_if as_damage a b h = h.bound

pub bound_any : (reply : Reply) (a b : Noted) → CountsAny (Ok reply) a b → b.bound ≡ a.bound
bound_any reply a b any = any.1.bound

-- ---- in turns

pub spawns_itself : (m : SpawnCounts) → SpawnsLater m m
spawns_itself m = record { running = omega arith; waits = omega arith; reaps = omega arith; spawn_faults = omega arith }

pub spawns_on : (k m n : SpawnCounts) → SpawnsLater k m → SpawnsLater m n → SpawnsLater k n
spawns_on k m n one other = record { running = omega (arith, one.running, other.running); waits = omega (arith, one.waits, other.waits); reaps = omega (arith, one.reaps, other.reaps); spawn_faults = omega (arith, one.spawn_faults, other.spawn_faults) }

pub later_of : (a b : Noted) (m n : SpawnCounts) → NoneFalls a b → SpawnsLater m n → IsLater (turn_counts a m) (turn_counts b n)
later_of a b m n falls later = record { file = falls.file_faults; remove = falls.remove_faults; spawner = later }

counted_as : SpawnCounts → ℕ → ℕ → TurnCounts
counted_as spawns files removals = record { file_faults = files; remove_faults = removals; spawner = spawns }

pub counts_same : (a b : Noted) (m : SpawnCounts) → b.file_faults ≡ a.file_faults → b.remove_faults ≡ a.remove_faults → turn_counts a m ≡ turn_counts b m
unfolding counted_as
counts_same a b m files removals = ap₂ (counted_as m) (sym files) (sym removals)

-- no fault was counted since
pub still_at : (first now : Noted) (m n : SpawnCounts) (last : TurnCounts) → last ≡ turn_counts now n → OnlyRemovals first now → last.file_faults ≤ (turn_counts first m).file_faults
still_at first now m n last is same =
    let e : last.file_faults ≡ (turn_counts first m).file_faults = ap (λ (c : TurnCounts). c.file_faults) is ∙ same.file_faults in
    omega (arith, e)

follow_rises : (first last : TurnCounts) (turns : List Turn) → Follow first turns last → first.file_faults ≤ last.file_faults
follow_rises first last [] h = let e : last.file_faults ≡ first.file_faults = ap (λ (c : TurnCounts). c.file_faults) h in omega (arith, e)
follow_rises first last (turn ∷ turns) h =
    let begins : turn.before.file_faults ≡ first.file_faults = ap (λ (c : TurnCounts). c.file_faults) h.0 in
    let rises = h.1.file in
    let later = follow_rises turn.after last turns h.3 in
    omega (arith, begins, rises, later)

pub follow_more : (first last : TurnCounts) (turns : List Turn) (t : Turn) → last.file_faults ≤ first.file_faults → Follow first turns last → t.before ≡ last → IsLater t.before t.after → Follow first (turns ++ t ∷ []) t.after
follow_more first last [] t still h begins rises = (begins ∙ h, rises, λ more. absurd (more refl), refl)
follow_more first last (turn ∷ turns) t still h begins rises =
    let began : turn.before.file_faults ≡ first.file_faults = ap (λ (c : TurnCounts). c.file_faults) h.0 in
    let up = h.1.file in
    let on = follow_rises turn.after last turns h.3 in
    (h.0, h.1, λ more. omega (arith, still, began, up, on), follow_more turn.after last turns t (omega (arith, still, began, up)) h.3 begins rises)
