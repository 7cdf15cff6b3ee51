-- What a shelf has under a name.
use Rattle.std.specs.Prelude.{◌≡◌}
use Rattle.medium_port.specs.Image.{Image}

-- the same is read of both, and a crash may leave the same images of both
pub record IsJustSo (had reads : Image) (before now : Image → Type 0) : Type 0 where
  pub reads_same : reads ≡ had
  pub no_more : (c : Image) → now c → before c
  pub no_fewer : (c : Image) → before c → now c
