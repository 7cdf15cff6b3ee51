use Rattle.std.proofs.Common.{refl}
use Rattle.std.proofs.lemmas.List.{get_or-replicate}
use Rattle.stream_port.proofs.memory_fates.no_counts.Goals as goal

pub returns : goal.returns
returns c = record { size = refl; by = λ tag small. get_or-replicate 256 tag 0 0 small }
