use Rattle.std.proofs.Common.{◌≡◌, ◌<◌, ◌++◌, ◌∷◌, [], length, true, rules, subst, ◌∙◌, arith}
use Rattle.ip_spec.specs.Shape.{deepest}
use Rattle.ip_tree.proofs.Looking.{cause_on, looks_on, still_over}
use Rattle.ip_tree.proofs.Walk.{err_is}
use Rattle.ip_differ.specs.Pieces.{has_children}
use Rattle.ip_differ.specs.Sides.{Puts}
use Rattle.ip_differ.proofs.Indexed.{long_deeper}
use Rattle.ip_differ.proofs.Walking.{put_before, puts_end, puts_more}
use Rattle.ip_differ.proofs.put.+put_all.Goals as goal

pub returns-in_err-inner-clause-put : goal.returns-in_err-inner-clause-put
returns-in_err-inner-clause-put g n c tells records a es is over long opened =
    let i = c.loop-index.index in
    let has : has_children c.args.piece.now c.args.content ≡ true = search rules in
    let low : length is < deepest = omega (arith, long, c.if-depth-ge-DEEPEST.false) in
    let below = c.child_of-below.ensures records a es is low has opened in
    let over' = still_over _ _ _ _ _ records c.loop-index.invariant.looks tells over in
    err_is c.from_residual-in_err-inner.result c.in_err-inner.field-0.0 c.from_residual-in_err-inner.ensures.1 _ _ (c.in_err-inner.ensures.opened tells records a es (is ++ i ∷ []) over' below)

pub returns-in_err-inner-clause-looks : goal.returns-in_err-inner-clause-looks
returns-in_err-inner-clause-looks g n c = looks_on _ _ _ _ _ _ _ c.loop-index.invariant.looks c.in_err-inner.ensures.looks

pub returns-in_err-inner-clause-causes : goal.returns-in_err-inner-clause-causes
returns-in_err-inner-clause-causes g n c =
    err_is c.from_residual-in_err-inner.result c.in_err-inner.field-0.0 c.from_residual-in_err-inner.ensures.1 _ _
    (cause_on _ _ _ _ _ c.loop-index.invariant.looks c.in_err-inner.field-0.0 c.in_err-inner.ensures.causes)

pub returns-in_err-put_all-clause-put : goal.returns-in_err-put_all-clause-put
returns-in_err-put_all-clause-put g n c tells records a es is over long opened =
    let i = c.loop-index.index in
    let has : has_children c.args.piece.now c.args.content ≡ true = search rules in
    let low : length is < deepest = omega (arith, long, c.if-depth-ge-DEEPEST.false) in
    let below = c.child_of-below.ensures records a es is low has opened in
    let over' = still_over _ _ _ _ _ records c.loop-index.invariant.looks tells over in
    let inner = c.in_ok-inner.ensures.opened tells records a es (is ++ i ∷ []) over' below in
    let later = still_over _ _ _ _ _ records c.in_ok-inner.ensures.looks tells over' in
    let more = long_deeper is i in
    err_is c.from_residual-in_err-put_all.result c.in_err-put_all.field-0.0 c.from_residual-in_err-put_all.ensures.1 _ _
    (c.in_err-put_all.ensures.put tells records a es (is ++ i ∷ []) later (omega (arith, more, long)) inner)

pub returns-in_err-put_all-clause-looks : goal.returns-in_err-put_all-clause-looks
returns-in_err-put_all-clause-looks g n c = looks_on _ _ _ _ _ _ _ (looks_on _ _ _ _ _ _ _ c.loop-index.invariant.looks c.in_ok-inner.ensures.looks) c.in_err-put_all.ensures.looks

pub returns-in_err-put_all-clause-causes : goal.returns-in_err-put_all-clause-causes
returns-in_err-put_all-clause-causes g n c =
    err_is c.from_residual-in_err-put_all.result c.in_err-put_all.field-0.0 c.from_residual-in_err-put_all.ensures.1 _ _
    (cause_on _ _ _ _ _ (looks_on _ _ _ _ _ _ _ c.loop-index.invariant.looks c.in_ok-inner.ensures.looks) c.in_err-put_all.field-0.0 c.in_err-put_all.ensures.causes)

pub loop-index-preserved : goal.loop-index-preserved
loop-index-preserved g n c = record {
  puts = λ tells records a es is over long opened.
      let i = c.loop-index.index in
      let has : has_children c.args.piece.now c.args.content ≡ true = search rules in
      let low : length is < deepest = omega (arith, long, c.if-depth-ge-DEEPEST.false) in
      let below = c.child_of-below.ensures records a es is low has opened in
      let over' = still_over _ _ _ _ _ records c.loop-index.invariant.looks tells over in
      let inner = c.in_ok-inner.ensures.opened tells records a es (is ++ i ∷ []) over' below in
      let later = still_over _ _ _ _ _ records c.in_ok-inner.ensures.looks tells over' in
      let more = long_deeper is i in
      puts_more c.args.side a is i c.args.found.now.entries c.loop-index.found.entries c.put_all.new.found.entries (c.loop-index.invariant.puts tells records a es is over long opened)
      (c.in_ok-put_all.ensures.put tells records a es (is ++ i ∷ []) later (omega (arith, more, long)) inner);
  looks = looks_on _ _ _ _ _ _ _ (looks_on _ _ _ _ _ _ _ c.loop-index.invariant.looks c.in_ok-inner.ensures.looks) c.in_ok-put_all.ensures.looks;
  counts = c.in_ok-put_all.ensures.counts ∙ c.in_ok-inner.ensures.counts ∙ c.loop-index.invariant.counts;
}

pub returns-clause-put : goal.returns-clause-put
returns-clause-put g n c tells records a es is over long opened =
    let end : c.loop-index.index ≡ 32 = omega (arith, c.loop-index-test.false, c.loop-index.auto.index-end) in
    puts_end c.args.side a is c.args.found.now.entries c.loop-index.found.entries
    (subst (λ k. Puts c.args.side (put_before a is k) c.args.found.now.entries c.loop-index.found.entries) end (c.loop-index.invariant.puts tells records a es is over long opened))
