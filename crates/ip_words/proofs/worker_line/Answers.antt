use Rattle.std.proofs.Common.{codes}
use Rattle.std.proofs.lemmas.Result.{IfOk-weaker}
use Rattle.clap.specs.Words.{new_app}
use Rattle.ip_words.specs.Words.{IsLine}
use Rattle.ip_words.proofs.Taking.{one_more}
use Rattle.ip_words.proofs.worker_line.Goals as goal

pub returns : goal.returns
returns c =
    let none : IsLine (new_app (codes "worker")) c.new.result = record { is_line = c.new.ensures.app; local = c.new.ensures.local } in
    let words_1 = one_more _ _ _ _ _ none c.in_ok-arg.ensures c.needed.ensures.rule c.needed.ensures.local in
    let words_2 = one_more _ _ _ _ _ words_1 c.in_ok-arg-2.ensures c.needed-2.ensures.rule c.needed-2.ensures.local in
    let words_3 = one_more _ _ _ _ _ words_2 c.in_ok-arg-3.ensures c.needed-3.ensures.rule c.needed-3.ensures.local in
    let words_4 = one_more _ _ _ _ _ words_3 c.in_ok-arg-4.ensures c.needed-4.ensures.rule c.needed-4.ensures.local in
    let words_5 = one_more _ _ _ _ _ words_4 c.in_ok-arg-5.ensures c.needed-5.ensures.rule c.needed-5.ensures.local in
    let words_6 = one_more _ _ _ _ _ words_5 c.in_ok-arg-6.ensures c.needed-6.ensures.rule c.needed-6.ensures.local in
    let words_7 = one_more _ _ _ _ _ words_6 c.in_ok-arg-7.ensures c.needed-7.ensures.rule c.needed-7.ensures.local in
    let words_8 = one_more _ _ _ _ _ words_7 c.in_ok-arg-8.ensures c.needed-8.ensures.rule c.needed-8.ensures.local in
    IfOk-weaker c.arg-9.result _ _ (λ command added. one_more _ _ _ _ _ words_8 added c.needed-9.ensures.rule c.needed-9.ensures.local) c.arg-9.ensures
