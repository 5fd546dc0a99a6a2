use Rattle.std.proofs.Common.{sym, ◌∙◌, ap}
use Rattle.std.specs.Prelude.{◌||◌}
use Rattle.ip_image.specs.Slot.{is_open}
use Rattle.ip_image.proofs.FreshLaws.{open_slot, open_slots}
use Rattle.ip_opens.proofs.making.has_open_slot.Goals as goal

pub returns-then-is_open_at : goal.returns-then-is_open_at
returns-then-is_open_at c =
    c.if-is_open_at.true ∙ sym (open_slots c.args.control.now ∙ ap (λ b. b || is_open c.args.control.now 1) (open_slot c.args.control.now 0 ∙ sym c.is_open_at.ensures ∙ c.if-is_open_at.true))

pub returns-else-is_open_at : goal.returns-else-is_open_at
returns-else-is_open_at c =
    c.is_open_at-else-is_open_at.ensures ∙ sym (open_slot c.args.control.now 1)
    ∙ sym (open_slots c.args.control.now ∙ ap (λ b. b || is_open c.args.control.now 1) (open_slot c.args.control.now 0 ∙ sym c.is_open_at.ensures ∙ c.if-is_open_at.false))
