use Rattle.world_core.proofs.Alikes.{alike}
use Rattle.world_core.proofs.entry_laws.flags_are_the_entries.Goals as goal

pub returns : goal.returns
returns c = alike
