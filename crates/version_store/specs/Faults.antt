-- After which answers a medium has failed: only after Medium.
use Rattle.std.specs.Prelude.{Bool, true, false, Result, Ok, Err}
use Rattle.version_store.specs.declared.faults.OpenFault.{OpenFault}
use Rattle.version_store.specs.declared.faults.OpenFault.TheVariants as opening
use Rattle.version_store.specs.declared.faults.StoreFault.{StoreFault}
use Rattle.version_store.specs.declared.faults.StoreFault.TheVariants as adding
use Rattle.version_store.specs.declared.faults.FetchFault.{FetchFault}
use Rattle.version_store.specs.declared.faults.FetchFault.TheVariants as fetching

abbrev pub fails_reading : {T : Type 0} → Result T OpenFault → Bool
fails_reading (Ok found) = false
fails_reading (Err opening.Medium) = true
fails_reading (Err (opening.Damaged page)) = false
fails_reading (Err opening.NoMemory) = false

abbrev pub fails_opening : {T M : Type 0} → Result T (M × OpenFault) → Bool
fails_opening (Ok opened) = false
fails_opening (Err (medium, opening.Medium)) = true
fails_opening (Err (medium, opening.Damaged page)) = false
fails_opening (Err (medium, opening.NoMemory)) = false

abbrev pub fails_adding : {T M : Type 0} → Result T (M × StoreFault) → Bool
fails_adding (Ok store) = false
fails_adding (Err (medium, adding.Medium)) = true
fails_adding (Err (medium, adding.Full pages)) = false
fails_adding (Err (medium, adding.NoMemory)) = false

abbrev pub fails_fetching : {T : Type 0} → Result T FetchFault → Bool
fails_fetching (Ok found) = false
fails_fetching (Err fetching.Medium) = true
fails_fetching (Err (fetching.Damaged page)) = false
fails_fetching (Err fetching.NoMemory) = false
