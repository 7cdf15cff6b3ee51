-- How many entries a trace may have, by its messages, its Ticks and what failed.
use Rattle.std.specs.Prelude.{ℕ, ◌+◌, ◌*◌, Bool, true, false, List, [], ◌∷◌, length}
use Rattle.std.specs.List.{count_by}
use Rattle.pseudo_time.specs.Lists.{Has}
use Rattle.pseudo_time.specs.StampParts.{StampParts}
use Rattle.stream_port.specs.declared.fates.Fate.{Fate}
use Rattle.stream_port.specs.Fates.{copies_of}
use Rattle.world_core.specs.declared.entries.Entry.{Entry}
use Rattle.world_core.specs.declared.entries.Entry.TheVariants.{Learn}
use Rattle.world_core.specs.declared.traces.Trace.{Trace}
use Rattle.world_core.specs.Legal.{IsDecidedAs, fates_of}
use Rattle.world_core.specs.Walks.{Base, walk}
use Rattle.world_core.specs.Counts.{crash_count, tick_count}
pub use Rattle.wire_core.specs.Learns.{LearnsAreNew}

-- all copies of these messages, of each at most three
abbrev pub copies_in : List Fate → ℕ
copies_in [] = 0
copies_in (fate ∷ fates) = copies_of fate + copies_in fates

abbrev pub is_learn : Entry → Bool
is_learn (Learn node stamp committed) = true
is_learn _ = false

abbrev pub learn_count : List Entry → ℕ
learn_count es = count_by is_learn es

-- Each copy is taken once, and closed by one Gate. Each node goes and goes down once. After each Tick a node hears it, and closes that. A crashed node goes and
-- hears again. A Learn is closed by one Gate.
abbrev pub entries_by : Trace → ℕ
entries_by t =
    2 * copies_in (fates_of t.sent) + 3 * length t.opened + tick_count t.entries * (2 * length t.opened + 1) + 5 * crash_count t.entries + 2 * learn_count t.entries

-- ---- Learns

-- the list has each attempt that was decided at its home by then
abbrev pub AllDecided : Base → List Entry → List StampParts → Type 0
AllDecided b es decided = (s : StampParts) (c : Bool) → IsDecidedAs (walk b es) s c → Has s decided

-- So many attempts were decided: each repository learns of each once, and of each once more after a crash.
abbrev pub learns_by : Trace → List StampParts → ℕ
learns_by t decided = (length t.opened + crash_count t.entries) * length decided
