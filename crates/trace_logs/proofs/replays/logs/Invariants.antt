use Rattle.trace_logs.proofs.Names.{Tree, Scripted, walk, Shows, base_for, ℕ, List, take, IsFit}
use Rattle.trace_logs.proofs.replays.logs.Given as goal

-- the walk so far
abbrev pub invariant-loop-entry : goal.invariant-loop-entry
invariant-loop-entry l =
    ((script : List ℕ → Tree) → Scripted script l.acts → Shows (base_for script l.run l.acts l.trace) (walk (base_for script l.run l.acts l.trace) (take l.entry-index l.trace.entries)) l.replay)
    × IsFit l.replay
