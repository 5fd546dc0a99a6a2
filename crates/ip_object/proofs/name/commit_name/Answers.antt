use Rattle.std.proofs.Common.{sym, ap, ◌∙◌, Some, rules}
use Rattle.sha2.specs.Sha256.{sha256}
use Rattle.ip_object.specs.Lists.{commit_of}
use Rattle.ip_object.proofs.Hashed.{commit_hashed}
use Rattle.ip_object.proofs.name.commit_name.Goals as goal

pub returns : goal.returns
returns c number = sym (ap Some (search rules ∙ ap sha256 (commit_hashed (commit_of number c.args.root.now c.args.parents.now c.args.info.now))))
