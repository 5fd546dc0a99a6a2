use Rattle.std.proofs.Common.{◌≡◌, ℕ, None, refl, sym, ◌∙◌, ap, subst}
use Rattle.ip_ground.specs.declared.event.Event.TheVariants.{Changed}
use Rattle.ip_ground.specs.Custody.{Custody, custody_of}
use Rattle.ip_ground.specs.Told.{NoFile, ChangesOnly}
use Rattle.ip_ground.specs.Replay.{blank, replayed, told_by, changed_by_child}
use Rattle.ip_ground.proofs.Replays.{told_lending, changed}
use Rattle.ip_ground.proofs.Ties.{tied_made, durable_pushed}
use Rattle.ip_ground.proofs.steps.note_gone.Goals as goal

pub returns-clause-only : goal.returns-clause-only
returns-clause-only c =
    subst (λ l. ChangesOnly NoFile (told_by c.args.log.now.items) (told_by l)) (sym c.in_ok-push.ensures.items) (changed c.args.log.now.items c.args.file None)

pub returns-clause-tied : goal.returns-clause-tied
returns-clause-tied c =
    let log = c.args.log.now.items in
    let made : changed_by_child (custody_of (replayed blank log).lending c.args.file) ((told_by log).held c.args.file) None ≡ None =
    ap (λ st. changed_by_child st ((told_by log).held c.args.file) None) (ap (λ (l : ℕ → Custody). custody_of l c.args.file) (sym (told_lending log)) ∙ c.requires.lent) in
    tied_made c.args.files.now c.discard.new.files log c.push.new.self.items (Changed c.args.file None) c.in_ok-push.ensures.items c.requires.tied
    c.args.file _ _ (λ f. refl) c.discard.ensures (sym made)

pub returns-clause-durable : goal.returns-clause-durable
returns-clause-durable c = durable_pushed c.args.log.now.items c.push.new.self.items (Changed c.args.file None) c.in_ok-push.ensures.items refl
