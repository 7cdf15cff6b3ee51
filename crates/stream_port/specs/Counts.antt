-- The counts that fates over memory keep.
use Rattle.std.specs.Prelude.{◌≡◌, ◌<◌, ℕ, List, length, slice_index}
use Rattle.stream_port.specs.declared.fates.Asked.{Asked}
use Rattle.stream_port.specs.Fates.{count_of}

-- for each tag how many of the messages had it
pub record AreCounts (counts : List ℕ) (asked : List Asked) : Type 0 where
  pub size : length counts ≡ 256
  pub by : (tag : ℕ) → tag < 256 → slice_index counts tag ≡ count_of tag asked
