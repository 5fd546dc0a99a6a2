-- Calls that only read, one after another; and what else leaves a walk current.
--     reads_nothing, reads_on      no call, and two
--     current_kept, current_on, current_grown      where the bytes stay, over a call that only reads, and over a later end
use Rattle.std.proofs.Common.{◌≡◌, ℕ, ◌+◌, ◌<◌, ◌≤◌, refl, ◌∙◌, arith}
use Rattle.ip_ground.specs.Told.{Told, NoFile, ChangesOnly}
use Rattle.ip_ground.proofs.Spans.{only_nowhere, only_on}
use Rattle.ip_image.specs.Virtual.{virtual_byte}
use Rattle.ip_space.specs.SpaceView.{SpaceView, IsReadable, OnlyReads, byte_at, grown}
use Rattle.ip_space.specs.ScanView.{ScanView}
use Rattle.ip_space.specs.Scanning.{IsCurrent}
use Rattle.ip_space.proofs.Stayed.{byte_stays}

pub reads_nothing : (told : Told) (space : SpaceView) → OnlyReads told told space space
reads_nothing told space = record { only = only_nowhere told NoFile; layout = refl; runs = refl; readable = λ readable. readable; records = λ readable at. refl }

pub reads_on : (old mid new : Told) (space then now : SpaceView) → OnlyReads old mid space then → OnlyReads mid new then now → OnlyReads old new space now
reads_on old mid new space then now one two = record {
  only = only_on old mid new NoFile one.only two.only;
  layout = two.layout ∙ one.layout;
  runs = two.runs ∙ one.runs;
  readable = λ readable. two.readable (one.readable readable);
  records = λ readable at. two.records (one.readable readable) at ∙ one.records readable at;
}

-- where each byte below the end is what it was
pub current_kept : (old new : Told) (space : SpaceView) (scan : ScanView) → ((at : ℕ) → at < space.layout.end → byte_at new space at ≡ byte_at old space at) → IsCurrent old space scan → IsCurrent new space scan
current_kept old new space scan same current = record {
  stands = λ k below. same (scan.next + k) (let i = current.inside in omega (arith, i, below)) ∙ current.stands k below;
  inside = current.inside;
}

pub current_on : (old new : Told) (space : SpaceView) (scan : ScanView) → IsReadable old space → ChangesOnly NoFile old new → IsCurrent old space scan → IsCurrent new space scan
current_on old new space scan readable only current = current_kept old new space scan (λ at below. byte_stays old new only space readable at) current

pub current_grown : (told : Told) (space : SpaceView) (end : ℕ) (scan : ScanView) → space.layout.end ≤ end → IsCurrent told space scan → IsCurrent told (grown space end) scan
unfolding virtual_byte
current_grown told space end scan further current = record {
  stands = current.stands;
  inside = let i = current.inside in omega (arith, i, further);
}
