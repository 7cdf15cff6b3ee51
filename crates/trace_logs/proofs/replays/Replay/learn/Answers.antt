use Rattle.trace_logs.proofs.Names.{with_item, get_or, same_node, sent_by, ReplayedNode, all_posted, IsAbsent, refl, subst, ◌≡◌, ◌<◌, length, true}
use Rattle.world_core.specs.declared.entries.Entry.TheVariants as entry
use Rattle.trace_logs.proofs.WalkLemmas.{absent}
use Rattle.trace_logs.proofs.EntryLemmas.{moved-ok, always}
use Rattle.trace_logs.proofs.replays.Replay.learn.Goals as goal

pub returns-in_default-clause-shows : goal.returns-in_default-clause-shows
returns-in_default-clause-shows c b w h =
    absent b w (entry.Learn c.args.node c.args.stamp c.args.committed) c.args.self.now c.args.node h (λ k. refl) (subst (IsAbsent c.args.node) c.as_slice.ensures.value c.in_default.ensures) refl refl

pub returns-clause-shows : goal.returns-clause-shows
returns-clause-shows c b w h =
    moved-ok b w (entry.Learn c.args.node c.args.stamp c.args.committed) c.learn.result c.args.self.now (record c.args.self.now { replayed = with_item c.args.self.now.replayed c.in-Some.place c.learn.new.self }) c.in-Some.place c.index_mut.result.now c.learn.new.self c.args.node h (λ k. refl)
    (subst (λ replayed. (c.in-Some.place < length replayed) × ((d : ReplayedNode) → same_node (get_or replayed c.in-Some.place d).node c.args.node ≡ true)) c.as_slice.ensures.value c.in-Some.ensures)
    c.index_mut.ensures.value c.learn.ensures.node (c.learn.ensures.lives b) refl refl refl (always c.learn.result (all_posted c.args.self.now.letters.items ≡ sent_by w) h.sent) h.last
