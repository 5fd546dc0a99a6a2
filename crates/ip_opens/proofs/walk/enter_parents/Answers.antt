use Rattle.std.proofs.Common.{◌≡◌, ◌+◌, ◌<◌, ℕ, length, map, sym, ◌∙◌, ap, subst}
use Rattle.std.specs.Prelude.{All}
use Rattle.std.proofs.lemmas.Result.{on_ok_weaker}
use Rattle.ip_spec.specs.declared.record.Parent.{Parent}
use Rattle.ip_tables.specs.Histories.{RecordEnters, with_parents, history_after}
use Rattle.ip_held.proofs.Histories.{are_known, are_below}
use Rattle.ip_opens.proofs.walk.enter_parents.Goals as goal

pub push-requires-clause-below : goal.push-requires-clause-below
push-requires-clause-below c =
    let h = c.args.history.now in
    let ps = c.in-Commit.commit.parents in
    let enters = subst (RecordEnters h) c.in-Commit.is c.requires in
    let same : c.as_slice-in-Commit.result.now ≡ map (λ (p : Parent). p.number) ps = c.as_slice-in-Commit.ensures ∙ c.in_ok-numbers-in-Commit.ensures ∙ ap (map (λ (p : Parent). p.number)) c.as_slice.ensures in
    subst (All (λ (m : ℕ). m < h.floor + length h.parents)) (sym same) (are_below ps (h.floor + length h.parents) enters.1)

pub returns-in_ok-numbers-in-Commit : goal.returns-in_ok-numbers-in-Commit
returns-in_ok-numbers-in-Commit c =
    let h = c.args.history.now in
    let ps = c.in-Commit.commit.parents in
    let enters = subst (RecordEnters h) c.in-Commit.is c.requires in
    let same : c.as_slice-in-Commit.result.now ≡ map (λ (p : Parent). p.number) ps = c.as_slice-in-Commit.ensures ∙ c.in_ok-numbers-in-Commit.ensures ∙ ap (map (λ (p : Parent). p.number)) c.as_slice.ensures in
    on_ok_weaker c.push.result (λ pushed. pushed ∙ ap (with_parents h) (same ∙ sym (are_known ps (h.floor + length h.parents) enters.0 enters.1)) ∙ ap (history_after h) (sym c.in-Commit.is)) c.push.ensures.ok
