use Rattle.ip_spec.specs.declared.command.Command.TheVariants as Command
use Rattle.ip_spec.specs.Step.{answer, quiet}
use Rattle.ip_model.proofs.MachineLaws.{work_turned}
use Rattle.ip_model.proofs.machine.Machine.set.Goals as goal

pub returns : goal.returns
returns c s is = work_turned c.args.self.now s is c.set.new.self (answer s (Command.Set c.args.path.now c.args.contents) quiet) c.set.result (c.set.ensures s is.commits.floor is.work)
