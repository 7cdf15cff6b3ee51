-- What the fates of the laboratory are, as callers see them.
use Rattle.std.specs.Prelude.{ℕ, List}
use Rattle.std.specs.List.{All}
use Rattle.stream_port.specs.declared.fates.Asked.{Asked}
use Rattle.laboratory.specs.Losses.{IsFated}
use Rattle.laboratory.specs.declared.losses.LabFates.{LabFates}

-- by what draws are divided
abbrev pub divisor_of : LabFates → ℕ
divisor_of f = f.lose

-- the messages asked for so far
abbrev pub asked_of : LabFates → List Asked
asked_of f = f.asked.items

-- each got the fate that its draw gives
pub fates_are : (f : LabFates) → All (IsFated (divisor_of f)) (asked_of f)
fates_are f = f.fated
