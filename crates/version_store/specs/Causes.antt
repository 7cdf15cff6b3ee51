-- What a fault of a store makes its node: down, with this cause. Want of memory leaves it as it is.
use Rattle.std.specs.Prelude.{Option, Some, None}
use Rattle.pseudo_time.specs.declared.down_causes.DownCause.{DownCause}
use Rattle.pseudo_time.specs.declared.down_causes.DownCause.TheVariants as down
use Rattle.version_store.specs.declared.faults.OpenFault.{OpenFault}
use Rattle.version_store.specs.declared.faults.OpenFault.TheVariants as opening
use Rattle.version_store.specs.declared.faults.StoreFault.{StoreFault}
use Rattle.version_store.specs.declared.faults.StoreFault.TheVariants as adding

-- a fault of an append
abbrev pub down_of : StoreFault → Option DownCause
down_of adding.Medium = Some down.Medium
down_of (adding.Full pages) = Some (down.Full pages)
down_of adding.NoMemory = None

-- a fault of an opening
abbrev pub down_of_opening : OpenFault → Option DownCause
down_of_opening opening.Medium = Some down.Medium
down_of_opening (opening.Damaged page) = Some (down.Damaged page)
down_of_opening opening.NoMemory = None
