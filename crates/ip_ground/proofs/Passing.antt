-- A call that changes no file and says nothing.
use Rattle.std.proofs.Common.{refl, arith}
use Rattle.ip_ground.specs.declared.names.FileName.{FileName}
use Rattle.ip_ground.specs.Told.{Told, KeepsPast, KeepsFile, NoFile, ChangesOnly}
use Rattle.ip_ground.proofs.Spans.{goes_nowhere, only_nowhere, only_on}

pub goes_itself : (t : Told) → KeepsPast t t
goes_itself t = goes_nowhere t

pub stays_itself : (t : Told) (file : FileName) → KeepsFile t t file
stays_itself t file = record {
  unwritten = refl;
  held = λ own. refl;
  left = λ firm moment content after before is. absurd (omega arith);
  still_left = λ firm moment content after before is. absurd (omega arith);
  own = λ own. own;
  firm = λ firm. firm;
}

pub changes_nothing : (t : Told) → ChangesOnly NoFile t t
changes_nothing t = only_nowhere t NoFile

pub changes_nothing_on : (old mid new : Told) → ChangesOnly NoFile old mid → ChangesOnly NoFile mid new → ChangesOnly NoFile old new
changes_nothing_on old mid new a b = only_on old mid new NoFile a b
