use Rattle.std.proofs.Common.{sym, subst}
use Rattle.ip_save.specs.Reused.{IsDirectoryThere}
use Rattle.ip_save.proofs.Finding.{directory_there}
use Rattle.ip_save.proofs.fresh.directory_at.Goals as goal

pub returns-in-Ok-clause-there : goal.returns-in-Ok-clause-there
returns-in-Ok-clause-there g c tells records over there =
    subst (IsDirectoryThere records) (sym c.as_directory.ensures) (directory_there records c.in-Ok.entry (c.in-Ok.ensures.there tells records over there))
