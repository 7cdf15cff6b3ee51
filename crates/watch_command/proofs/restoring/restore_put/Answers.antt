use Rattle.watch_command.proofs.Names.{rules, ap, sym, ◌∙◌, w64, moved_at, with_moved}
use Rattle.std.proofs.lemmas.Int.{to_z-of_z}
use Rattle.watch_command.proofs.TotalLemmas.{cursors-new, no-cursor, restored-before, restored-new, restored-none, some-cursor}
use Rattle.watch_command.proofs.restoring.restore_put.Goals as goal

pub returns-in_default-clause-restored : goal.returns-in_default-clause-restored
returns-in_default-clause-restored g c = λ log h. restored-none c.args.effect.now log c.args.watches.now (sym c.in_default.is ∙ c.total_put.ensures) h

pub returns-then-contains_key-clause-restored : goal.returns-then-contains_key-clause-restored
returns-then-contains_key-clause-restored g c = λ log h.
    restored-before c.args.effect.now c.in-Some.total log c.args.watches.now (sym c.in-Some.is ∙ c.total_put.ensures)
    (some-cursor (moved_at c.in-Some.total.object c.args.watches.now) _ (c.requires.cursors c.in-Some.total.object) (sym c.contains_key.ensures ∙ c.if-contains_key.true)) h

pub returns-clause-cursors : goal.returns-clause-cursors
returns-clause-cursors g c =
    cursors-new c.args.cursors.now.entries.entries c.insert.new.self.entries c.in-Some.total c.args.watches.now c.restore.new.self c.in_ok-insert.ensures.updates.0 (c.in_ok-restore.ensures.ok
    ∙ ap (λ z. with_moved (record { object = c.in-Some.total.object; cursor = c.in-Some.total.cursor; total = z }) c.args.watches.now) (to_z-of_z w64 c.in-Some.total.total (search rules))) c.requires.cursors

pub returns-clause-restored : goal.returns-clause-restored
returns-clause-restored g c = λ log h.
    restored-new c.args.effect.now c.in-Some.total log c.args.watches.now c.restore.new.self (sym c.in-Some.is ∙ c.total_put.ensures)
    (no-cursor (moved_at c.in-Some.total.object c.args.watches.now) _ (c.requires.cursors c.in-Some.total.object) (sym c.contains_key.ensures ∙ c.if-contains_key.false)) (c.in_ok-restore.ensures.ok
    ∙ ap (λ z. with_moved (record { object = c.in-Some.total.object; cursor = c.in-Some.total.cursor; total = z }) c.args.watches.now) (to_z-of_z w64 c.in-Some.total.total (search rules))) h
