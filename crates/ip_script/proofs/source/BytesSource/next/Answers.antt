use Rattle.ip_script.proofs.Handing.{handed_out}
use Rattle.ip_script.proofs.source.BytesSource.next.Goals as goal

pub returns-clause-bytes : goal.returns-clause-bytes
returns-clause-bytes c h = handed_out c.args.self.now.bytes c.as_slice.result.now c.args.out.now c.copy_from_slice.new.self c.args.self.now.at c.min-n.result c.as_slice.ensures c.args.self.now.in_range c.min-n.ensures c.copy_from_slice.ensures.after
