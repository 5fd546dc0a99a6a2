use Rattle.std.proofs.Common.{◌≡◌, ◌∷◌, ℕ, List, None, false, map, take, codes}
use Rattle.std.specs.Fmt.{decimal}
use Rattle.std.specs.Process.{command_program, command_args, command_dir, command_var, clears_env}
use Rattle.ip_host.specs.Children.{folder_word}
use Rattle.ip_host.proofs.children.command_of.Given as goal

abbrev pub invariant-loop-number : goal.invariant-loop-number
invariant-loop-number l = record {
  program : command_program l.command ≡ l.program;
  words : command_args l.command ≡ codes "worker" ∷ folder_word l.dir ∷ map decimal (take l.number-index l.number-items);
  place : command_dir l.command ≡ None;
  inherits : clears_env l.command ≡ false;
  vars : (name : List ℕ) → command_var l.command name ≡ None;
}
