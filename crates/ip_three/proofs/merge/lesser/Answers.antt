use Rattle.std.proofs.Common.{◌≡◌, ◌∙◌, Bool, true, false, Option, Some, ap, sym}
use Rattle.std.specs.Ordering.{is_lt}
use Rattle.std.specs.Prelude.{if◌then◌else◌}
use Rattle.ip_spec.specs.Path.{Path, path_cmp}
use Rattle.ip_three.specs.Clashes.{lesser}
use Rattle.ip_three.proofs.merge.lesser.Goals as goal

lesser_is : (p q : Option Path) (one other : Path) (b : Bool) → p ≡ Some one → q ≡ Some other → is_lt (path_cmp other one) ≡ b → (if b then Some other else Some one) ≡ lesser p q
lesser_is p q one other b e f less = sym (λ i. if less i then Some other else Some one) ∙ sym (λ i. lesser (e i) (f i))

less_is : (a c x y : Path) (b : Bool) → b ≡ is_lt (path_cmp a c) → a ≡ x → c ≡ y → is_lt (path_cmp x y) ≡ b
less_is a c x y b e f h = sym (e ∙ (λ i. is_lt (path_cmp (f i) (h i))))

pub returns-then-is_lt : goal.returns-then-is_lt
returns-then-is_lt c =
    let p = c.in-Some-Some.one in
    let q = c.in-Some-Some.other in
    lesser_is c.args.one c.args.other p q true c.in-Some-Some.is-0 c.in-Some-Some.is-1
    (less_is c.steps.result.now c.steps-in-Some-Some.result.now q p true (sym c.if-is_lt.true ∙ c.is_lt.ensures ∙ ap is_lt c.cmp.ensures) c.steps.ensures c.steps-in-Some-Some.ensures)

pub returns-else-is_lt : goal.returns-else-is_lt
returns-else-is_lt c =
    let p = c.in-Some-Some.one in
    let q = c.in-Some-Some.other in
    lesser_is c.args.one c.args.other p q false c.in-Some-Some.is-0 c.in-Some-Some.is-1
    (less_is c.steps.result.now c.steps-in-Some-Some.result.now q p false (sym c.if-is_lt.false ∙ c.is_lt.ensures ∙ ap is_lt c.cmp.ensures) c.steps.ensures c.steps-in-Some-Some.ensures)
