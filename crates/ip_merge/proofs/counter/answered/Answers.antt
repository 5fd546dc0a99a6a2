use Rattle.std.proofs.Common.{◌≡◌, ◌∙◌, ◌+ℤ◌, ◌-ℤ◌, true, sym, ap, subst, Option, ℤ, IfSome}
use Rattle.ip_spec.specs.Merge.{counter_answer, sum_answer, is_i64}
use Rattle.ip_merge.specs.Answering.{Answers}
use Rattle.ip_merge.proofs.Counting.{number_is, sum_is}
use Rattle.ip_merge.proofs.counter.answered.Goals as goal

pub returns-in-Some-Some-Some : goal.returns-in-Some-Some-Some
returns-in-Some-Some-Some c =
    let there = c.in-Some-Some-Some in
    let o = number_is there.o (subst (λ (x : Option ℤ). IfSome x (λ n. is_i64 n ≡ true)) there.is-0 c.requires.base) in
    let a = number_is there.a (subst (λ (x : Option ℤ). IfSome x (λ n. is_i64 n ≡ true)) there.is-1 c.requires.left) in
    let b = number_is there.b (subst (λ (x : Option ℤ). IfSome x (λ n. is_i64 n ≡ true)) there.is-2 c.requires.right) in
    subst (λ answer. Answers answer c.text_of_sum.result)
    (ap sum_answer (sum_is c.sum.result c.sum.type_inv ∙ c.sum.ensures ∙ (λ i. a i +ℤ b i -ℤ o i))
    ∙ sym (λ i. counter_answer (there.is-0 i) (there.is-1 i) (there.is-2 i)))
    c.text_of_sum.ensures
