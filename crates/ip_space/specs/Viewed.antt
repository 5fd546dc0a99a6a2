-- What a space knows, by where its bytes lie.
--     view_of s      the layout, and the runs of the mapping, with nothing kept.      IsSource s      the mapping is one of the layout's horizon
--     BeginsFile layout at      a file of the space begins at the offset, or would.      IsBorder layout at border      the first such offset from there on
use Rattle.std.specs.Prelude.{◌≡◌, ◌⊎◌, ℕ, ◌*◌, ◌<◌, ◌≤◌, [], map}
use Rattle.ip_image.specs.declared.layout.Layout.{Layout}
use Rattle.ip_image.specs.Virtual.{run_of}
use Rattle.ip_space.specs.SpaceView.{SpaceView, IsLayout}
use Rattle.ip_space.specs.declared.source.Source.{Source}

abbrev pub view_of : Source → SpaceView
view_of s = record { layout = s.layout; runs = map run_of s.mapping.rows; kept = [] }

pub record IsSource (s : Source) : Type 0 where
  pub layout : IsLayout s.layout
  pub horizon : s.mapping.horizon ≡ s.layout.horizon

-- the chunks from the horizon on, of which each has its own file; the prefix lies in front of it
abbrev pub BeginsFile : Layout → ℕ → Type 0
BeginsFile layout at = (at ≡ layout.horizon) ⊎ ((layout.horizon < at) × (number : ℕ) × (at ≡ number * layout.chunk))

pub record IsBorder (layout : Layout) (at border : ℕ) : Type 0 where
  pub from : at ≤ border
  pub begins : BeginsFile layout border
  pub least : (other : ℕ) → at ≤ other → BeginsFile layout other → border ≤ other
