use Rattle.std.proofs.Common.{rules, ◌≡◌, length, take, ◌∙◌}
use Rattle.ip_space.proofs.LivePair.{whole_read, written_whole}
use Rattle.ip_space.proofs.live.read_file.Goals as goal

pub returns-clause-bytes : goal.returns-clause-bytes
returns-clause-bytes g c told own size =
    let room : length c.deref_mut.result.now ≡ c.args.size = search rules in
    let filled : c.truncate.new.self.items ≡ take c.in_ok-count.count c.read.new.out =
    (let long : length c.read.new.out ≡ c.in-Ok.bytes.len = search rules in c.truncate.ensures.items ∙ written_whole c.in_ok-count.count c.in-Ok.bytes.len c.read.new.out c.in-Ok.bytes.items long) in
    filled ∙ whole_read c.args.file c.deref_mut.result.now c.read.new.out c.in_ok-count.count c.args.size _ _ own size room (c.in_ok-count.ensures.does told)
