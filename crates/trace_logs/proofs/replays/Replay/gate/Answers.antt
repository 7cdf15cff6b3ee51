use Rattle.trace_logs.proofs.Names.{with_item, get_or, same_node, ReplayedNode, IsAbsent, refl, subst, ◌≡◌, ◌<◌, length, true}
use Rattle.world_core.specs.declared.entries.Entry.TheVariants as entry
use Rattle.trace_logs.proofs.WalkLemmas.{absent}
use Rattle.trace_logs.proofs.EntryLemmas.{moved-ok, gate-absent, gate-ok}
use Rattle.trace_logs.proofs.replays.Replay.gate.Goals as goal

pub returns-in_default-clause-shows : goal.returns-in_default-clause-shows
returns-in_default-clause-shows c b w h =
    absent b w (entry.Gate c.args.node) c.args.self.now c.args.node h (λ k. refl) (subst (IsAbsent c.args.node) c.as_slice.ensures.value c.in_default.ensures) (gate-absent b w c.args.self.now c.args.node h (subst (IsAbsent c.args.node) c.as_slice.ensures.value c.in_default.ensures)) refl

pub returns-clause-shows : goal.returns-clause-shows
returns-clause-shows c b w h =
    moved-ok b w (entry.Gate c.args.node) c.gate.result c.args.self.now (record c.args.self.now { replayed = with_item c.args.self.now.replayed c.in-Some.place c.gate.new.self; letters = c.gate.new.letters }) c.in-Some.place c.index_mut.result.now c.gate.new.self c.args.node h (λ k. refl)
    (subst (λ replayed. (c.in-Some.place < length replayed) × ((d : ReplayedNode) → same_node (get_or replayed c.in-Some.place d).node c.args.node ≡ true)) c.as_slice.ensures.value c.in-Some.ensures)
    c.index_mut.ensures.value c.gate.ensures.node (c.gate.ensures.lives b) refl refl refl (gate-ok b w c.gate.result c.args.self.now c.in-Some.place c.index_mut.result.now c.args.node c.gate.new.letters.items h (subst (λ replayed. (c.in-Some.place < length replayed) × ((d : ReplayedNode) → same_node (get_or replayed c.in-Some.place d).node c.args.node ≡ true)) c.as_slice.ensures.value c.in-Some.ensures) c.index_mut.ensures.value (c.gate.ensures.sent b)) h.last
