use Rattle.trace_logs.proofs.Names.{Every, Scripted, Base, IsSound, AreAt, ◌≡◌, take}
use Rattle.trace_logs.proofs.replays.opened_nodes.Given as goal

-- those so far
abbrev pub invariant-loop-one : goal.invariant-loop-one
invariant-loop-one l =
    ((b : Base) → b.run ≡ l.run → b.acts ≡ l.acts → Scripted b.script l.acts → AreAt b l.start (take l.one-index l.opened) l.replayed.items)
    × Every IsSound l.replayed.items
