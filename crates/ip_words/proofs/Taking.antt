-- What clap reads of the command line, and the sizes that chunks may have.
use Rattle.std.proofs.Common.{refl, ◌≡◌, ap₂, ◌∙◌, Bool, ◌||◌, sym, subst, ℕ, ◌<◌, ◌^◌, List, [], Option, Some, None, true, false, arith, lit<}
use Rattle.std.proofs.Math.Nat.{pow-le-pow_right}
use Rattle.clap.specs.declared.builder.arg.Arg.{Arg}
use Rattle.clap.specs.declared.builder.command.Command.{Command}
use Rattle.clap.specs.Words.{App, Rule, AddsArg, rule_of, with_rule, Row, fault_of, subcommand_of, is_simple, is_simple_and_free}
use Rattle.clap.proofs.OnLiterals.{clap_on_literals}
use Rattle.ip_spec.specs.Path.{Bytes}
use Rattle.ip_spawn.specs.Sizes.{IsChunkSize}
use Rattle.ip_words.specs.declared.Call.{Call}
use Rattle.ip_words.specs.Words.{command_line, AsksBy, IsLine, IsRead, IsReadBy, shown}

pub line_is_simple : is_simple command_line ≡ true
unfolding clap_on_literals
line_is_simple = refl

pub line_is_free : is_simple_and_free command_line ≡ true
unfolding clap_on_literals
line_is_free = refl

pub read_by : (words : List Bytes) (found : Option (Bytes × List Row)) (call : Option Call) → fault_of command_line words ≡ [] → found ≡ subcommand_of command_line words → IsReadBy found call → IsRead words call
read_by words found None taken e h = λ asked asks. h asked (subst (λ f. AsksBy f asked) (sym e) asks.asks)
read_by words found (Some call) taken e h = record { taken = taken; asks = subst (λ f. AsksBy f (shown call)) e h }

-- a command with one argument more
pub one_more : (line : App) (old new : Command) (a : Arg) (rule : Rule) → IsLine line old → AddsArg old a new → rule_of a ≡ rule → a.global ≡ false → IsLine (with_rule line rule) new
one_more line old new a rule is adds ruled local = record {
  is_line = adds.shape local ∙ ap₂ with_rule is.is_line ruled;
  local = adds.globals ∙ ap₂ (λ (x y : Bool). x || y) is.local local;
}

pub small_size : (size : ℕ) → IsChunkSize size → size < 2 ^ 64
small_size size (k, low, high, is) =
    let most = pow-le-pow_right {n = 2} (lit< tt) high in
    omega (arith, is, most)
