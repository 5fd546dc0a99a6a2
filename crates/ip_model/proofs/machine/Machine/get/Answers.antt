use Rattle.ip_spec.specs.declared.command.Command.TheVariants as Command
use Rattle.ip_spec.specs.Step.{answer, quiet}
use Rattle.ip_model.proofs.MachineLaws.{work_turned}
use Rattle.ip_model.proofs.machine.Machine.get.Goals as goal

pub returns : goal.returns
returns c s is = work_turned c.args.self.now s is c.args.self.now.work (answer s (Command.Get c.args.path.now) quiet) c.get.result (c.get.ensures s is.commits.floor is.work)
