use Rattle.trace_logs.proofs.Names.{get_or, IfOk, walk, walk_from, AreLetters, AreAt, base_for, refl, sym, subst, ◌≡◌, ◌<◌, ◌≤◌, length, take, arith}
use Rattle.trace_logs.proofs.EndLemmas.{starts, walk-on, walk-end}
use Rattle.trace_logs.proofs.replays.logs.Goals as goal

pub loop-entry-init : goal.loop-entry-init
unfolding walk_from
loop-entry-init c = (
  λ script scripted.
      let b = base_for script c.args.run c.args.acts.now c.args.trace.now in
      starts b _ c.requires.once refl refl (subst (λ opened. AreAt b c.args.trace.now.start opened c.in_ok-opened_nodes.field-0.items) c.as_slice.ensures (c.in_ok-opened_nodes.ensures.lives b refl refl scripted)) c.in_ok-with_capacity.ensures.items refl,
  record { replayed = c.in_ok-opened_nodes.ensures.sound; letters = subst AreLetters (sym c.in_ok-with_capacity.ensures.items) tt; run = c.requires.run; start = c.requires.start; last = tt },
)

pub loop-entry-preserved : goal.loop-entry-preserved
loop-entry-preserved c = (
  λ script scripted.
      let b = base_for script c.args.run c.args.acts.now c.args.trace.now in
      walk-on b c.args.trace.now.entries c.loop-entry.entry-index c.entry-item.result c.on_entry.new.self (subst (λ es. c.loop-entry.entry-index < length es) c.as_slice-entry-items.ensures c.loop-entry-test.true)
      (subst (λ es. c.entry-item.result ≡ get_or es c.loop-entry.entry-index c.entry-item.result) c.as_slice-entry-items.ensures c.entry-item.is)
      (c.in_ok-on_entry.ensures.shows b (walk b (take c.loop-entry.entry-index c.args.trace.now.entries)) (c.loop-entry.invariant.0 script scripted)),
  c.in_ok-on_entry.ensures.fit,
)

pub returns : goal.returns
returns c script scripted =
    let b = base_for script c.args.run c.args.acts.now c.args.trace.now in
    subst (λ z. IfOk c.logs_of.result (λ logs. logs.items ≡ z)) (walk-end b c.args.trace.now.entries c.loop-entry.entry-index c.loop-entry.replay (subst (λ es. length es ≤ c.loop-entry.entry-index) c.as_slice-entry-items.ensures (let f = c.loop-entry-test.false in omega (arith, f))) (c.loop-entry.invariant.0 script scripted)) c.logs_of.ensures
