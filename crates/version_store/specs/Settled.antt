-- A medium between two calls.
use Rattle.std.specs.Prelude.{◌≡◌, Ok}
use Rattle.medium_port.specs.Image.{Image, Only}
use Rattle.version_store.specs.Storage.{entries, log_of}

-- a crash leaves what reads give, and that stands for a log
pub record IsSettled (reads : Image) (may_leave : Image → Type 0) : Type 0 where
  pub only : Only reads may_leave
  pub log : entries reads ≡ Ok (log_of reads)
