use Rattle.trace_logs.proofs.Names.{with_item, get_or, same_node, sent_by, ReplayedNode, all_posted, IsAbsent, refl, sym, subst, ◌≡◌, ◌<◌, ◌∙◌, length, true}
use Rattle.world_core.specs.declared.entries.Entry.TheVariants as entry
use Rattle.trace_logs.proofs.WalkLemmas.{absent, still}
use Rattle.trace_logs.proofs.EntryLemmas.{moved-ok, always, heard-last, heard-nothing}
use Rattle.trace_logs.proofs.replays.Replay.hear.Goals as goal

pub returns-in_default-clause-shows : goal.returns-in_default-clause-shows
returns-in_default-clause-shows c b w h =
    absent b w (entry.Hear c.args.node) c.args.self.now c.args.node h (λ k. refl) (subst (IsAbsent c.args.node) c.as_slice.ensures.value c.in_default.ensures) refl refl

pub returns-in-None-clause-shows : goal.returns-in-None-clause-shows
returns-in-None-clause-shows c b w h = still b w (entry.Hear c.args.node) c.args.self.now c.args.self.now h (λ n. heard-nothing b w n (w.life n) (sym h.last ∙ c.in-None.is)) refl refl refl h.sent h.last

pub returns-in-Some-last-clause-shows : goal.returns-in-Some-last-clause-shows
returns-in-Some-last-clause-shows c b w h =
    moved-ok b w (entry.Hear c.args.node) c.hear.result c.args.self.now (record c.args.self.now { replayed = with_item c.args.self.now.replayed c.in-Some.place c.hear.new.self }) c.in-Some.place c.index_mut.result.now c.hear.new.self c.args.node h (λ k. refl)
    (subst (λ replayed. (c.in-Some.place < length replayed) × ((d : ReplayedNode) → same_node (get_or replayed c.in-Some.place d).node c.args.node ≡ true)) c.as_slice.ensures.value c.in-Some.ensures)
    c.index_mut.ensures.value c.hear.ensures.node (λ l x. heard-last b w c.hear.result c.index_mut.result.now.node c.hear.new.self l c.in-Some-last.moment (sym h.last ∙ c.in-Some-last.is) (c.hear.ensures.lives b l x)) refl refl refl (always c.hear.result (all_posted c.args.self.now.letters.items ≡ sent_by w) h.sent) h.last
