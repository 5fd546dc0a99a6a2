use Rattle.std.proofs.Common.{◌≡◌, ◌+◌, length, sym, subst, arith}
use Rattle.std.proofs.lemmas.Result.{IfOk-weaker}
use Rattle.ip_base.proofs.PathReading.{Reading, reading_none, slash_right, byte_right, end_both}
use Rattle.ip_base.proofs.path.Path.read.Goals as goal
use Rattle.ip_base.proofs.path.Path.read.Goals.{then-byte-eq47+in_ok-close, else-byte-eq47+in_ok-extend}

pub loop-at-init : goal.loop-at-init
loop-at-init c = subst (Reading c.args.text.now 0 0) (sym c.empty-steps.ensures) (reading_none c.args.text.now)

pub loop-at-preserved : goal.loop-at-preserved
loop-at-preserved c =
    let text = c.args.text.now in
    let at = c.loop-at.at in
    let from = c.loop-at.from in
    elim c.if-byte-eq47.branch [
      | then-byte-eq47+in_ok-close w ↦
          let ok = w.in_ok-close.ensures.ok in
          let right : Reading text (at + 1) (at + 1) w.close.new.steps = slash_right text at from c.loop-at.steps c.loop-at-test.true c.loop-at.invariant w.close.new.steps w.if-byte-eq47.true ok.0 ok.1 ok.2 in
          subst (λ l. Reading text (at + 1) c.if-byte-eq47.from l) (sym w.steps-is) (subst (λ n. Reading text (at + 1) n w.close.new.steps) (sym w.from-is) right)
      | else-byte-eq47+in_ok-extend w ↦
          let ok = w.in_ok-extend.ensures.ok in
          let right : Reading text (at + 1) from c.loop-at.steps = byte_right text at from c.loop-at.steps c.loop-at-test.true c.loop-at.invariant w.if-byte-eq47.false ok.0 ok.1 (omega (arith, c.type_inv.text at)) in
          subst (λ l. Reading text (at + 1) c.if-byte-eq47.from l) (sym w.steps-is) (subst (λ n. Reading text (at + 1) n c.loop-at.steps) (sym w.from-is) right)
    ]

pub returns-clause-ok : goal.returns-clause-ok
returns-clause-ok c =
    let text = c.args.text.now in
    let at_end : c.loop-at.at ≡ length text = omega arith in
    let now : Reading text (length text) c.loop-at.from c.loop-at.steps = subst (λ n. Reading text n c.loop-at.from c.loop-at.steps) at_end c.loop-at.invariant in
    IfOk-weaker c.end.result _ _ (λ path is. end_both text c.loop-at.from c.loop-at.steps now path is) c.end.ensures.ok
