use Rattle.std.proofs.Common.{rules, ◌≡◌, ◌∷◌, [], List, map, sym, ap, subst, ◌∙◌}
use Rattle.ip_spec.specs.Path.{Step}
use Rattle.ip_shape.specs.Shape.{AreSteps}
use Rattle.ip_tree.specs.declared.node.Node.{Node}
use Rattle.ip_tree.specs.Shown.{shown}
use Rattle.ip_save.specs.Laid.{BeginsWith, tallies_among}
use Rattle.ip_save.proofs.Rests.{rest_of}
use Rattle.ip_save.proofs.Tallies.{own_behind, own_first}
use Rattle.ip_save.proofs.Tables.{StartsOn, ascending, starts_last, starts_more, steps_rest}
use Rattle.ip_save.proofs.starts.starts_of.Goals as goal

pub loop-step-preserved : goal.loop-step-preserved
loop-step-preserved c = (
  tt,
  tt,
  λ begins.
      let s = c.in-Some.step.now in
      let n = c.in-Some.node.now in
      let all = rest_of c.args.dir.now.entries.entries in
      let rest = rest_of c.next.new.self in
      let steps : c.loop-step.step-iterator ≡ (s, n) ∷ c.next.new.self = search rules in
      let so = c.loop-step.invariant.2 begins in
      let now = subst (λ (es : List (Step × Node)). StartsOn (rest_of es) all c.loop-step.left.now c.args.refs.now c.loop-step.starts.items) steps so.0 in
      let below = subst (λ (es : List (Step × Node)). BeginsWith (tallies_among (rest_of es)) c.loop-step.below.now) steps so.1 in
      let own = own_first s (shown n) rest c.loop-step.below.now below in (
        starts_more s n c.next.new.self all c.loop-step.left.now c.args.refs.now c.behind_new-left.result.now c.loop-step.starts.items c.push.new.self.items record { step = c.in-Some.step; refs = c.loop-step.left; ahead = c.loop-step.below } now (search rules) (search rules) own
            c.in_ok-push.ensures.items (c.behind_new-left.ensures own),
        own_behind s (shown n) rest c.loop-step.below.now c.behind-below.result.now below (c.behind-below.ensures own),
      ),
)

pub returns-clause-ascend : goal.returns-clause-ascend
returns-clause-ascend c =
    let es = c.entries-entries.result.now.entries in
    let up : AreSteps (map (λ (e : Step × Node). e.0) es) = ascending (map (λ (e : Step × Node). e.0) es) c.len.ensures.ordered in
    subst AreSteps (ap (λ (l : List (Step × Node)). map (λ (e : Step × Node). e.0) l) c.entries-entries.ensures.held ∙ sym (steps_rest c.args.dir.now.entries.entries)) up

pub returns-clause-starts : goal.returns-clause-starts
returns-clause-starts c begins =
    let none : c.loop-step.step-iterator ≡ [] = search rules in
    starts_last c.loop-step.step-iterator none (rest_of c.args.dir.now.entries.entries) c.loop-step.left.now c.args.refs.now c.loop-step.starts.items (c.loop-step.invariant.2 begins).0
