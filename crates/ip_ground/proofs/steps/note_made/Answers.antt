use Rattle.std.proofs.Common.{◌≡◌, ℕ, [], ◌∷◌, ◌++◌, Some, refl, sym, ◌∙◌, ap, subst, rules}
use Rattle.ip_ground.specs.declared.event.Event.TheVariants.{Changed}
use Rattle.ip_ground.specs.Custody.{Custody, custody_of}
use Rattle.ip_ground.specs.Told.{NoFile, ChangesOnly}
use Rattle.ip_ground.specs.Replay.{blank, replayed, told_by, changed_by_child}
use Rattle.ip_ground.proofs.Replays.{told_lending, changed}
use Rattle.ip_ground.proofs.Ties.{tied_made, durable_pushed}
use Rattle.ip_ground.proofs.steps.note_made.Goals as goal

pub returns-clause-noted : goal.returns-clause-noted
returns-clause-noted c =
    let same : c.in_ok-copy.copy.items ≡ c.args.bytes.now = search rules in
    (c.in_ok-copy.copy, same, c.in-Ok.ensures.items ∙ ap (λ l. l ++ Changed c.args.file (Some c.in_ok-copy.copy) ∷ []) c.reserve.ensures.items)

pub returns-clause-only : goal.returns-clause-only
unfolding returns-clause-noted
returns-clause-only c =
    subst (λ l. ChangesOnly NoFile (told_by c.args.log.now.items) (told_by l)) (sym (returns-clause-noted c).2) (changed c.args.log.now.items c.args.file (Some c.in_ok-copy.copy))

pub returns-clause-tied : goal.returns-clause-tied
unfolding returns-clause-noted
returns-clause-tied c =
    let log = c.args.log.now.items in
    let same : c.in_ok-next.next.items ≡ c.in_ok-copy.copy.items = search rules in
    let made : changed_by_child (custody_of (replayed blank log).lending c.args.file) ((told_by log).held c.args.file) (Some c.in_ok-copy.copy.items) ≡ Some c.in_ok-copy.copy.items =
    ap (λ st. changed_by_child st ((told_by log).held c.args.file) (Some c.in_ok-copy.copy.items)) (ap (λ (l : ℕ → Custody). custody_of l c.args.file) (sym (told_lending log)) ∙ c.requires.lent) in
    tied_made c.args.files.now c.replace.new.files log c.push.new.self.items (Changed c.args.file (Some c.in_ok-copy.copy)) (returns-clause-noted c).2 c.requires.tied
    c.args.file _ _ (λ f. refl) c.in_ok-replace.ensures.ok (ap Some same ∙ sym made)

pub returns-clause-durable : goal.returns-clause-durable
unfolding returns-clause-noted
returns-clause-durable c = durable_pushed c.args.log.now.items c.push.new.self.items (Changed c.args.file (Some c.in_ok-copy.copy)) (returns-clause-noted c).2 refl
