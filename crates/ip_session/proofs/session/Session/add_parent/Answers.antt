use Rattle.std.proofs.Common.{rules, ◌≡◌, ◌==◌, ◌++◌, ◌∷◌, [], ℕ, List, true, false, length, Some, ap, refl, sym, subst, arith}
use Rattle.std.specs.List.{list_any}
use Rattle.ip_base.specs.declared.limit.Limit.TheVariants as Limit
use Rattle.ip_spec.specs.declared.command.Command.TheVariants as Command
use Rattle.ip_spec.specs.declared.reply.Reply.TheVariants as Reply
use Rattle.ip_held.specs.Collecting.{phase_of}
use Rattle.ip_held.specs.Work.{work_at, AreParents, IsLawful}
use Rattle.ip_session.specs.declared.session.Session.{Session}
use Rattle.ip_session.specs.Session.{IsAnswered}
use Rattle.ip_session.proofs.SessionLemmas.{parent_refused}
use Rattle.ip_session.proofs.Referring.{parent_known, parent_full}
use Rattle.ip_session.proofs.Reading.{still_answered, memory_answered, more_parents, parent_answered}
use Rattle.ip_session.proofs.session.Session.add_parent.Goals as goal

pub returns-then-contains-clause-answered : goal.returns-then-contains-clause-answered
returns-then-contains-clause-answered c records r v of l there retained target named =
    let s = c.args.self.now in
    let known : list_any (λ p. p == c.args.number) s.work.parents ≡ true = search rules in
    still_answered records s s r v (Command.Parent target) refl refl l Reply.Accepted c.requires.met (parent_known r (phase_of s.store.held.collection) (work_at s.work v) target c.args.number there named known) refl (parent_refused target)

pub returns-then-parents-ge-PARENTS_MAX-clause-answered : goal.returns-then-parents-ge-PARENTS_MAX-clause-answered
returns-then-parents-ge-PARENTS_MAX-clause-answered c records r v of l there retained target named =
    let s = c.args.self.now in
    let new : list_any (λ p. p == c.args.number) s.work.parents ≡ false = search rules in
    still_answered records s s r v (Command.Parent target) refl refl l (Reply.Limit Limit.Parents) c.requires.met
    (parent_full r (phase_of s.store.held.collection) (work_at s.work v) target c.args.number there named new (omega (arith, ap length c.as_slice-parents.ensures))) refl (parent_refused target)

pub returns-clause-answered : goal.returns-clause-answered
returns-clause-answered c records r v of l there retained target named =
    let s = c.args.self.now in
    let new : list_any (λ p. p == c.args.number) s.work.parents ≡ false = search rules in
    parent_answered records s r v of l there c.push.new.self c.least_with.result s.met target c.args.number c.requires.met named retained new (omega (arith, ap length c.as_slice-parents.ensures)) (search rules) c.least_with.ensures

pub returns-then-is_err-clause-answered : goal.returns-then-is_err-clause-answered
returns-then-is_err-clause-answered c records r v of l there retained target named =
    let s = c.args.self.now in
    let same : c.push.new.self ≡ s.work.parents = search rules in
    let after : Session = record s { work = record s.work { parents = c.push.new.self }; met = c.refuse.new.met } in
    subst (IsAnswered records s after r v (Command.Parent target)) (sym c.refuse.ensures.reply)
    (memory_answered records s after r v (Command.Parent target) refl (ap (λ (parents : List ℕ). record (work_at s.work v) { parents = parents }) same)
    (subst (λ (parents : List ℕ). IsLawful records r (record s.work { parents = parents }) v) (sym same) l) c.refuse.ensures.met (parent_refused target))

pub returns-clause-tables : goal.returns-clause-tables
returns-clause-tables c r is retained =
    let s = c.args.self.now in
    let new : list_any (λ p. p == c.args.number) s.work.parents ≡ false = search rules in
    let added : c.push.new.self ≡ s.work.parents ++ c.args.number ∷ [] = search rules in
    (is.0, subst (AreParents r (Some c.least_with.result)) (sym added) (more_parents r s.work.least c.least_with.result c.args.number s.work.parents c.least_with.ensures is.1 retained new (omega (arith, ap length c.as_slice-parents.ensures))))

-- ---- memory was wanted

pub returns-then-contains-clause-wanted : goal.returns-then-contains-clause-wanted
returns-then-contains-clause-wanted c e = absurd (cc e)

pub returns-then-parents-ge-PARENTS_MAX-clause-wanted : goal.returns-then-parents-ge-PARENTS_MAX-clause-wanted
returns-then-parents-ge-PARENTS_MAX-clause-wanted c e = absurd (cc e)

pub returns-then-is_err-clause-wanted : goal.returns-then-is_err-clause-wanted
returns-then-is_err-clause-wanted c e = omega (arith, ap length c.as_slice-parents.ensures)

pub returns-clause-wanted : goal.returns-clause-wanted
returns-clause-wanted c e = absurd (cc e)
