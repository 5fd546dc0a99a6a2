use Rattle.std.proofs.Common.{◌≡◌, ◌<◌, ◌++◌, ◌∷◌, [], length, true, rules, subst, ◌∙◌, arith}
use Rattle.ip_spec.specs.Shape.{deepest}
use Rattle.ip_tree.specs.Reads.{IsFree}
use Rattle.ip_tree.proofs.Looking.{cause_on, causes_on, looks_on, still_over}
use Rattle.ip_tree.proofs.Walk.{err_is, match_ok}
use Rattle.ip_differ.specs.Pieces.{has_children, is_one_record}
use Rattle.ip_differ.proofs.Deep.{not_deep}
use Rattle.ip_differ.proofs.Indexed.{long_deeper}
use Rattle.ip_differ.proofs.Walking.{WalksBefore, both_put, one_below, walks_clear, walks_end, walks_first, walks_more, walks_same}
use Rattle.ip_differ.proofs.walk.+walk_parts.Goals as goal

pub returns-then-is_one_record-clause-walked : goal.returns-then-is_one_record-clause-walked
returns-then-is_one_record-clause-walked g n c tells records a b es fs is over long left right clear =
    let same : is_one_record c.args.one.now c.args.other.now ≡ true = search rules in
    walks_same a b is c.args.found.now.entries clear (one_below records c.args.one.now c.args.other.now a b es fs is same left right)

pub returns-in_err-left-clause-walked : goal.returns-in_err-left-clause-walked
returns-in_err-left-clause-walked g n c tells records a b es fs is over long left right clear =
    err_is c.from_residual.result c.in_err-left.field-0.0 c.from_residual.ensures.1 _ _ (c.in_err-left.ensures.opened tells records a es is over left)

pub returns-in_err-right-clause-walked : goal.returns-in_err-right-clause-walked
returns-in_err-right-clause-walked g n c tells records a b es fs is over long left right clear =
    err_is c.from_residual-in_err-right.result c.in_err-right.field-0.0 c.from_residual-in_err-right.ensures.1 _ _
    (c.in_err-right.ensures.opened tells records b fs is (still_over _ _ _ _ _ records c.in_ok-left.ensures.looks tells over) right)

pub returns-in_err-right-clause-looks : goal.returns-in_err-right-clause-looks
returns-in_err-right-clause-looks g n c = looks_on _ _ _ _ _ _ _ c.in_ok-left.ensures.looks c.in_err-right.ensures.looks

pub returns-in_err-right-clause-causes : goal.returns-in_err-right-clause-causes
returns-in_err-right-clause-causes g n c =
    err_is c.from_residual-in_err-right.result c.in_err-right.field-0.0 c.from_residual-in_err-right.ensures.1 _ _ (cause_on _ _ _ _ _ c.in_ok-left.ensures.looks c.in_err-right.field-0.0 c.in_err-right.ensures.causes)

pub returns-in_err-put_all-clause-walked : goal.returns-in_err-put_all-clause-walked
returns-in_err-put_all-clause-walked g n c tells records a b es fs is over long left right clear =
    let over' = still_over _ _ _ _ _ records (looks_on _ _ _ _ _ _ _ c.in_ok-left.ensures.looks c.in_ok-right.ensures.looks) tells over in
    err_is c.from_residual-in_err-put_all.result c.in_err-put_all.field-0.0 c.from_residual-in_err-put_all.ensures.1 _ _
    (c.in_err-put_all.ensures.put tells records a es is over' long (c.in_ok-left.ensures.opened tells records a es is over left))

pub returns-in_err-put_all-clause-looks : goal.returns-in_err-put_all-clause-looks
returns-in_err-put_all-clause-looks g n c = looks_on _ _ _ _ _ _ _ (looks_on _ _ _ _ _ _ _ c.in_ok-left.ensures.looks c.in_ok-right.ensures.looks) c.in_err-put_all.ensures.looks

pub returns-in_err-put_all-clause-causes : goal.returns-in_err-put_all-clause-causes
returns-in_err-put_all-clause-causes g n c =
    err_is c.from_residual-in_err-put_all.result c.in_err-put_all.field-0.0 c.from_residual-in_err-put_all.ensures.1 _ _ (cause_on _ _ _ _ _ (looks_on _ _ _ _ _ _ _ c.in_ok-left.ensures.looks c.in_ok-right.ensures.looks) c.in_err-put_all.field-0.0 c.in_err-put_all.ensures.causes)

pub returns-then-not-is_inode-clause-walked : goal.returns-then-not-is_inode-clause-walked
returns-then-not-is_inode-clause-walked g n c tells records a b es fs is over long left right clear =
    let first = still_over _ _ _ _ _ records c.in_ok-left.ensures.looks tells over in
    let both = still_over _ _ _ _ _ records c.in_ok-right.ensures.looks tells first in
    let later = still_over _ _ _ _ _ records c.in_ok-put_all.ensures.looks tells both in
    let one = c.in_ok-put_all.ensures.put tells records a es is both long (c.in_ok-left.ensures.opened tells records a es is over left) in
    match_ok c.put_all-then-not-is_inode.result _ _ IsFree (λ _ other. both_put a b is c.args.found.now.entries c.put_all.new.found.entries c.put_all-then-not-is_inode.new.found.entries clear one other)
    (c.put_all-then-not-is_inode.ensures.put tells records b fs is later long (c.in_ok-right.ensures.opened tells records b fs is first right))

pub returns-then-not-is_inode-clause-looks : goal.returns-then-not-is_inode-clause-looks
returns-then-not-is_inode-clause-looks g n c = looks_on _ _ _ _ _ _ _ (looks_on _ _ _ _ _ _ _ (looks_on _ _ _ _ _ _ _ c.in_ok-left.ensures.looks c.in_ok-right.ensures.looks) c.in_ok-put_all.ensures.looks) c.put_all-then-not-is_inode.ensures.looks

pub returns-then-not-is_inode-clause-causes : goal.returns-then-not-is_inode-clause-causes
returns-then-not-is_inode-clause-causes g n c = causes_on _ _ _ _ _ (looks_on _ _ _ _ _ _ _ (looks_on _ _ _ _ _ _ _ c.in_ok-left.ensures.looks c.in_ok-right.ensures.looks) c.in_ok-put_all.ensures.looks) c.put_all-then-not-is_inode.result c.put_all-then-not-is_inode.ensures.causes

pub returns-then-depth-ge-DEEPEST-clause-walked : goal.returns-then-depth-ge-DEEPEST-clause-walked
returns-then-depth-ge-DEEPEST-clause-walked g n c tells records a b es fs is over long left right clear =
    let has : has_children c.args.one.now c.in_ok-left.left ≡ true = search rules in
    let high = not_deep records a es is c.args.one.now c.in_ok-left.left has (c.in_ok-left.ensures.opened tells records a es is over left) in
    absurd (omega (arith, long, high, c.if-depth-ge-DEEPEST.true))

pub returns-then-depth-ge-DEEPEST-clause-looks : goal.returns-then-depth-ge-DEEPEST-clause-looks
returns-then-depth-ge-DEEPEST-clause-looks g n c = (looks_on _ _ _ _ _ _ _ c.in_ok-left.ensures.looks c.in_ok-right.ensures.looks)

pub loop-index-init : goal.loop-index-init
loop-index-init g n c = record {
  walked = λ tells records a b es fs is over long left right clear. walks_first a b is c.args.found.now.entries;
  looks = (looks_on _ _ _ _ _ _ _ c.in_ok-left.ensures.looks c.in_ok-right.ensures.looks);
  counts = c.in_ok-right.ensures.counts ∙ c.in_ok-left.ensures.counts;
}

pub returns-in_err-walk_parts-clause-walked : goal.returns-in_err-walk_parts-clause-walked
returns-in_err-walk_parts-clause-walked g n c tells records a b es fs is over long left right clear =
    let i = c.loop-index.index in
    let first = still_over _ _ _ _ _ records c.in_ok-left.ensures.looks tells over in
    let low : length is < deepest = omega (arith, long, c.if-depth-ge-DEEPEST.false) in
    let one : has_children c.args.one.now c.in_ok-left.left ≡ true = search rules in
    let other : has_children c.args.other.now c.in_ok-right.right ≡ true = search rules in
    let below = c.child_of-below.ensures records a es is low one (c.in_ok-left.ensures.opened tells records a es is over left) in
    let beside = c.child_of-beside.ensures records b fs is low other (c.in_ok-right.ensures.opened tells records b fs is first right) in
    let over' = still_over _ _ _ _ _ records c.loop-index.invariant.looks tells over in
    let more = long_deeper is i in
    let none = walks_clear a b is i c.args.found.now.entries c.loop-index.found.entries clear (c.loop-index.invariant.walked tells records a b es fs is over long left right clear) in
    err_is c.from_residual-in_err-walk_parts.result c.in_err-walk_parts.field-0.0 c.from_residual-in_err-walk_parts.ensures.1 _ _
    (c.in_err-walk_parts.ensures.walked tells records a b es fs (is ++ i ∷ []) over' (omega (arith, more, long)) below beside none)

pub returns-in_err-walk_parts-clause-looks : goal.returns-in_err-walk_parts-clause-looks
returns-in_err-walk_parts-clause-looks g n c = looks_on _ _ _ _ _ _ _ c.loop-index.invariant.looks c.in_err-walk_parts.ensures.looks

pub returns-in_err-walk_parts-clause-causes : goal.returns-in_err-walk_parts-clause-causes
returns-in_err-walk_parts-clause-causes g n c =
    err_is c.from_residual-in_err-walk_parts.result c.in_err-walk_parts.field-0.0 c.from_residual-in_err-walk_parts.ensures.1 _ _
    (cause_on _ _ _ _ _ c.loop-index.invariant.looks c.in_err-walk_parts.field-0.0 c.in_err-walk_parts.ensures.causes)

pub loop-index-preserved : goal.loop-index-preserved
loop-index-preserved g n c = record {
  walked = λ tells records a b es fs is over long left right clear.
      let i = c.loop-index.index in
      let first = still_over _ _ _ _ _ records c.in_ok-left.ensures.looks tells over in
      let low : length is < deepest = omega (arith, long, c.if-depth-ge-DEEPEST.false) in
      let one : has_children c.args.one.now c.in_ok-left.left ≡ true = search rules in
      let other : has_children c.args.other.now c.in_ok-right.right ≡ true = search rules in
      let below = c.child_of-below.ensures records a es is low one (c.in_ok-left.ensures.opened tells records a es is over left) in
      let beside = c.child_of-beside.ensures records b fs is low other (c.in_ok-right.ensures.opened tells records b fs is first right) in
      let over' = still_over _ _ _ _ _ records c.loop-index.invariant.looks tells over in
      let more = long_deeper is i in
      let before = c.loop-index.invariant.walked tells records a b es fs is over long left right clear in
      let none = walks_clear a b is i c.args.found.now.entries c.loop-index.found.entries clear before in
      walks_more a b is i c.args.found.now.entries c.loop-index.found.entries c.walk_parts.new.found.entries before
      (c.in_ok-walk_parts.ensures.walked tells records a b es fs (is ++ i ∷ []) over' (omega (arith, more, long)) below beside none);
  looks = looks_on _ _ _ _ _ _ _ c.loop-index.invariant.looks c.in_ok-walk_parts.ensures.looks;
  counts = c.in_ok-walk_parts.ensures.counts ∙ c.loop-index.invariant.counts;
}

pub returns-clause-walked : goal.returns-clause-walked
returns-clause-walked g n c tells records a b es fs is over long left right clear =
    let end : c.loop-index.index ≡ 32 = omega (arith, c.loop-index-test.false, c.loop-index.auto.index-end) in
    walks_end a b is c.args.found.now.entries c.loop-index.found.entries
    (subst (λ k. WalksBefore a b is k c.args.found.now.entries c.loop-index.found.entries) end (c.loop-index.invariant.walked tells records a b es fs is over long left right clear))
