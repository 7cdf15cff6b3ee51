use Rattle.world_core.proofs.Others.{same-flags, same-behind}
use Rattle.world_core.proofs.entry_laws.law_of_flags.Goals as goal

pub returns-clause-flags : goal.returns-clause-flags
returns-clause-flags c = same-flags

pub returns-clause-behind : goal.returns-clause-behind
returns-clause-behind c = same-behind
