-- What contracts see of the search for what is kept.
use Rattle.std.specs.Prelude.{ℕ, List}
use Rattle.ip_image.specs.declared.run.Run.{Run}
use Rattle.ip_space.specs.SpaceView.{SpaceView}

pub record KeepView : Type 0 where
  -- where records are read, up to the end of its layout
  pub space : SpaceView
  -- what lies below is kept where it is referred to from here on
  pub horizon : ℕ
  -- the first record from the horizon on that was not looked at, or the end
  pub next : ℕ
  -- how many from the horizon on were looked at
  pub seen : ℕ
  -- the offsets of records that are kept and were not looked at, ascending
  pub waiting : List ℕ
  -- where those lie that were, ascending
  pub kept : List Run
