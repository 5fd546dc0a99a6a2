use Rattle.std.proofs.Common.{◌≡◌, ◌∙◌, [], Ok, ap, sym, subst, arith, rules}
use Rattle.ip_object.specs.Body.{left_in}
use Rattle.ip_object.specs.Lists.{ReadBelow}
use Rattle.ip_object.proofs.Children.{read_none, read_all}
use Rattle.ip_object.proofs.loops.take_children.Goals as goal

pub loop-index-init : goal.loop-index-init
loop-index-init c =
    let begun : c.in-Ok.children.items ≡ [] = search rules in
    record {
      inside = c.requires.inside;
      below = subst (λ cs. ReadBelow c.args.bitmap 0 cs (left_in c.args.body.now) (left_in c.args.body.now)) (sym begun) (read_none c.args.bitmap (left_in c.args.body.now));
    }

pub returns-clause-takes : goal.returns-clause-takes
returns-clause-takes c =
    let all : c.loop-index.index ≡ 32 = omega arith in
    read_all c.args.bitmap c.loop-index.children.items (left_in c.args.body.now) (left_in c.loop-index.body) (subst (λ i. ReadBelow c.args.bitmap i c.loop-index.children.items (left_in c.args.body.now) (left_in c.loop-index.body)) all c.loop-index.invariant.below)
    ∙ ap (λ cs. Ok (cs, left_in c.loop-index.body)) (sym c.of.ensures)
