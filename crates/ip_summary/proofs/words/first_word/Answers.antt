use Rattle.std.proofs.Common.{rules, ◌≡◌, ℕ, List, false, IsTrue, take, get_or, sym, subst}
use Rattle.std.specs.List.{list_any}
use Rattle.ip_summary.specs.Tally.{is_stop}
use Rattle.ip_summary.proofs.Firsts.{first_at}
use Rattle.ip_summary.proofs.words.first_word.Goals as goal

pub returns-then-is_stop : goal.returns-then-is_stop
returns-then-is_stop c word c' rest is none stop =
    let here : IsTrue (is_stop (get_or c.args.text.now c.loop-end.end 0)) = search rules in
    subst (λ (t : List ℕ). take c.loop-end.end t ≡ word) (sym is) (first_at word c' rest c.loop-end.end none stop
    (subst (λ (t : List ℕ). list_any is_stop (take c.loop-end.end t) ≡ false) is c.loop-end.invariant)
    (subst (λ (t : List ℕ). IsTrue (is_stop (get_or t c.loop-end.end 0))) is here))
