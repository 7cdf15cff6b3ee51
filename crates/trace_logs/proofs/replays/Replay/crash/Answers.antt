use Rattle.trace_logs.proofs.Names.{with_item, get_or, same_node, sent_by, ReplayedNode, all_posted, IsAbsent, refl, subst, ◌≡◌, ◌<◌, length, true}
use Rattle.world_core.specs.declared.entries.Entry.TheVariants as entry
use Rattle.trace_logs.proofs.WalkLemmas.{absent}
use Rattle.trace_logs.proofs.EntryLemmas.{moved-ok, always}
use Rattle.trace_logs.proofs.replays.Replay.crash.Goals as goal

pub returns-in_default-clause-shows : goal.returns-in_default-clause-shows
returns-in_default-clause-shows c b w h =
    absent b w (entry.Crash c.args.node c.args.kept) c.args.self.now c.args.node h (λ k. refl) (subst (IsAbsent c.args.node) c.as_slice.ensures.value c.in_default.ensures) refl refl

pub returns-clause-shows : goal.returns-clause-shows
returns-clause-shows c b w h =
    moved-ok b w (entry.Crash c.args.node c.args.kept) c.crash.result c.args.self.now (record c.args.self.now { replayed = with_item c.args.self.now.replayed c.in-Some.place c.crash.new.self }) c.in-Some.place c.index_mut.result.now c.crash.new.self c.args.node h (λ k. refl)
    (subst (λ replayed. (c.in-Some.place < length replayed) × ((d : ReplayedNode) → same_node (get_or replayed c.in-Some.place d).node c.args.node ≡ true)) c.as_slice.ensures.value c.in-Some.ensures)
    c.index_mut.ensures.value c.crash.ensures.node (λ l x. c.crash.ensures.lives b l h.run h.start x) refl refl refl (always c.crash.result (all_posted c.args.self.now.letters.items ≡ sent_by w) h.sent) h.last
