use Rattle.std.proofs.Common.{ap, ◌∙◌, sym, subst, rules, inl, inr}
use Rattle.clap.specs.Words.{App, Kinds, IsAmong, kind_of, fault_of, subcommand_of, is_simple, is_simple_and_free}
use Rattle.ip_words.specs.Words.{texts_of}
use Rattle.ip_words.proofs.Taking.{line_is_simple, line_is_free, read_by}
use Rattle.ip_words.proofs.asked.Goals as goal

pub returns-in-Ok : goal.returns-in-Ok
returns-in-Ok c =
    let line = c.in_ok-command.ensures in
    let taken = c.in-Ok.ensures.kinds (ap is_simple_and_free line ∙ line_is_free) in
    let found = (c.in-Ok.ensures.matches (ap is_simple line ∙ line_is_simple)).1 in
    let words = texts_of c.args.words.now in
    read_by words _ c.call_in.result (sym (ap (λ (a : App). fault_of a words) line) ∙ taken) (found ∙ ap (λ (a : App). subcommand_of a words) line) c.call_in.ensures

pub returns-else-eq : goal.returns-else-eq
returns-else-eq c asked asks =
    let line = c.in_ok-command.ensures in
    let words = texts_of c.args.words.now in
    let none = ap (λ (a : App). fault_of a words) line ∙ asks.taken in
    elim (c.in-Err.ensures.kinds (ap is_simple_and_free line ∙ line_is_free)) [
      | inl memory ↦ search rules
      | inr among ↦ absurd (subst (λ (kinds : Kinds). IsAmong (kind_of c.in-Err.error) kinds) none among)
    ]
