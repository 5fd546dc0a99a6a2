-- Which commands have words that take no memory.
--     IsNamed target      a commit by its name
--     IsFrugal command      it has no words, or none but names of commits
use Rattle.ip_spec.specs.declared.command.Command.{Command}
use Rattle.ip_spec.specs.declared.command.Target.{Target}

abbrev pub IsNamed : Target → Type 0
IsNamed (Target.Branch name) = ⊥
IsNamed (Target.Commit hash) = Unit {0}

abbrev pub IsFrugal : Command → Type 0
IsFrugal Command.Empty = Unit {0}
IsFrugal (Command.Checkout target) = IsNamed target
IsFrugal (Command.Parent target) = IsNamed target
IsFrugal Command.Branches = Unit {0}
IsFrugal (Command.Show target) = IsNamed target
IsFrugal (Command.Log target) = IsNamed target
IsFrugal (Command.Lcas one other) = IsNamed one × IsNamed other
IsFrugal (Command.Collect target) = IsNamed target
IsFrugal Command.Look = Unit {0}
IsFrugal Command.Finish = Unit {0}
IsFrugal Command.Cancel = Unit {0}
IsFrugal Command.Stat = Unit {0}
IsFrugal command = ⊥
