use Rattle.std.proofs.Common.{◌≡◌, ◌+◌, ◌++◌, ◌∷◌, [], sym, subst, rules}
use Rattle.ip_spec.specs.Reading.{Left}
use Rattle.ip_object.specs.Body.{left_in, IsFault}
use Rattle.ip_object.specs.Lists.{children_of_bits, ReadBelow}
use Rattle.ip_object.proofs.Children.{bit_clear, bit_set, bit_fault}
use Rattle.ip_object.proofs.loops.take_bit.Goals as goal

pub returns-then-bitmap-index-eq0-clause-ok : goal.returns-then-bitmap-index-eq0-clause-ok
returns-then-bitmap-index-eq0-clause-ok c first is =
    bit_clear c.args.bitmap c.args.index c.args.children.now.items first (left_in c.args.body.now) c.requires.index c.if-bitmap-index-eq0.true is

pub returns-in_err-child-clause-err : goal.returns-in_err-child-clause-err
returns-in_err-child-clause-err c =
    let fault : (first : Left) → ReadBelow c.args.bitmap c.args.index c.args.children.now.items first (left_in c.args.body.now) → IsFault c.in_err-child.field-0.0 (children_of_bits c.args.bitmap first) =
    (λ first is. bit_fault c.args.bitmap c.args.index c.args.children.now.items first (left_in c.args.body.now) c.in_err-child.field-0.0 c.requires.index c.if-bitmap-index-eq0.false c.in_err-child.ensures.takes is) in
    search rules

pub returns-in-Ok-clause-ok : goal.returns-in-Ok-clause-ok
returns-in-Ok-clause-ok c first is =
    let grown : c.push.new.self.items ≡ c.args.children.now.items ++ c.in_ok-child.child ∷ [] = search rules in
    subst (λ cs. ReadBelow c.args.bitmap (c.args.index + 1) cs first (left_in c.take_child.new.body)) (sym grown)
    (bit_set c.args.bitmap c.args.index c.args.children.now.items c.in_ok-child.child first (left_in c.args.body.now) (left_in c.take_child.new.body) c.requires.index c.if-bitmap-index-eq0.false c.in_ok-child.ensures.takes is)
