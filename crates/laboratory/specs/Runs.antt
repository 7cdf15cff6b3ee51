-- What a call of the laboratory was given and gave.
use Rattle.std.specs.Prelude.{ℕ, List, Option}
use Rattle.stream_port.specs.Clocks.{FixedParts}
use Rattle.medium_port.specs.declared.memory_media.MemoryMedium.{MemoryMedium}
use Rattle.world_core.specs.declared.traces.Trace.{Trace}
use Rattle.run_volumes.specs.declared.kept.Kept.{Kept}
use Rattle.run_command.specs.Written.{Sinking}
use Rattle.laboratory.specs.declared.losses.LabFates.{LabFates}

-- all but its words
pub record LabRun : Type 0 where
  pub status : ℕ
  -- what the source had and has, and how often it had failed and has
  pub input : Option (List ℕ)
  pub left : Option (List ℕ)
  pub faults_before : ℕ
  pub faults : ℕ
  pub sink : Sinking
  pub trace : Trace
  pub media : List (Kept MemoryMedium)
  pub fates : LabFates
  pub clock : FixedParts
  -- what happened between members and polls
  pub votes : Trace

-- the same of a call's answer: its parts, what its source had and has, how often that had failed and has, and its sink
abbrev pub ran : (status : ℕ) → Trace → List (Kept MemoryMedium) → LabFates → FixedParts → (votes : Trace) → (input left : Option (List ℕ)) → (faults_before faults : ℕ) → Sinking → LabRun
ran status trace media fates clock votes input left faults_before faults sink = record {
  status = status;
  input = input;
  left = left;
  faults_before = faults_before;
  faults = faults;
  sink = sink;
  trace = trace;
  media = media;
  fates = fates;
  clock = clock;
  votes = votes;
}
