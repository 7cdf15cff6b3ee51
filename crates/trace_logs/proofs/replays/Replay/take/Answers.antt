use Rattle.trace_logs.proofs.Names.{with_item, get_or, same_node, sent_by, numbered, ReplayedNode, all_posted, IsAbsent, refl, ap, subst, ◌≡◌, ◌<◌, ◌∙◌, length, true}
use Rattle.world_core.specs.declared.entries.Entry.TheVariants as entry
use Rattle.trace_logs.proofs.WalkLemmas.{absent, still}
use Rattle.trace_logs.proofs.EntryLemmas.{moved-ok, always, letter-in-range, took-sent, took-unsent}
use Rattle.trace_logs.proofs.replays.Replay.take.Goals as goal

pub returns-in_default-clause-shows : goal.returns-in_default-clause-shows
returns-in_default-clause-shows c b w h =
    absent b w (entry.Take c.args.node c.args.number) c.args.self.now c.args.node h (λ k. refl) (subst (IsAbsent c.args.node) c.as_slice.ensures.value c.in_default.ensures) refl refl

pub take-requires-clause-message : goal.take-requires-clause-message
take-requires-clause-message c = letter-in-range c.args.self.now.letters.items c.args.number c.in-Some-letter_at.letter.now c.requires.fit.letters (c.in-Some-letter_at.ensures ∙ ap (λ ls. numbered ls c.args.number) c.as_slice-2.ensures.value)

pub returns-in-None-clause-shows : goal.returns-in-None-clause-shows
returns-in-None-clause-shows c b w h = still b w (entry.Take c.args.node c.args.number) c.args.self.now c.args.self.now h (λ n. took-unsent b w n (w.life n) c.args.self.now.letters.items c.args.number h.sent (c.in-None.ensures ∙ ap (λ ls. numbered ls c.args.number) c.as_slice-2.ensures.value)) refl refl refl h.sent h.last

pub returns-in-Some-letter_at-clause-shows : goal.returns-in-Some-letter_at-clause-shows
returns-in-Some-letter_at-clause-shows c b w h =
    moved-ok b w (entry.Take c.args.node c.args.number) c.take.result c.args.self.now (record c.args.self.now { replayed = with_item c.args.self.now.replayed c.in-Some.place c.take.new.self }) c.in-Some.place c.index_mut.result.now c.take.new.self c.args.node h (λ k. refl)
    (subst (λ replayed. (c.in-Some.place < length replayed) × ((d : ReplayedNode) → same_node (get_or replayed c.in-Some.place d).node c.args.node ≡ true)) c.as_slice.ensures.value c.in-Some.ensures)
    c.index_mut.ensures.value c.take.ensures.node (λ l x. took-sent b w c.take.result c.index_mut.result.now.node c.take.new.self l c.args.self.now.letters.items c.in-Some-letter_at.letter.now c.args.number h.sent
    (c.in-Some-letter_at.ensures ∙ ap (λ ls. numbered ls c.args.number) c.as_slice-2.ensures.value) (c.take.ensures.lives b l x)) refl refl refl (always c.take.result (all_posted c.args.self.now.letters.items ≡ sent_by w) h.sent) h.last
