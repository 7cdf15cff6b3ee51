use Rattle.std.proofs.Common.{List, ap, inr, refl, sym, ◌∙◌}
use Rattle.std.specs.Prelude.{option_copied}
use Rattle.object_history.specs.Kept.{Settled}
use Rattle.log_replay.specs.Drafts.{draft_parts, draft_try}
use Rattle.log_replay.specs.Telling.{committed_by, left_at, told_at}
use Rattle.log_replay.proofs.TellLemmas.{is-told, key-more, not-told, scripts-more, told-more}
use Rattle.log_replay.proofs.tells.Teller.tell.Goals as goal

pub returns-clause-told : goal.returns-clause-told
returns-clause-told c = λ script k ts reads knows told.
    let none = sym c.get.ensures.value ∙ ap option_copied (not-told c.get.result c.is_some.result c.is_some.ensures c.if-is_some.false) in
    let at = told_at c.args.self.now.told in
    told-more k ts at (told_at c.insert.new.self) (left_at c.args.self.now.puts) (left_at c.take_puts-puts.new.puts) told (draft_try script (draft_parts c.args.draft)) c.in_ok-attempt.attempt c.args.draft.stamp refl
    (c.in_ok-attempt.ensures.says script k reads (c.is_committed-committed.ensures.committed ∙ ap (λ (z : List Settled). committed_by z c.args.draft.stamp) c.as_slice.ensures.value ∙ knows c.args.draft.stamp c.is_committed-committed.ensures.in_range) (c.take_puts-puts.ensures.own ∙ told.left c.args.draft.stamp none))
    c.in_ok-attempt.ensures.in_range none c.in_ok-insert.ensures.updates.0 c.take_puts-puts.ensures.left

pub returns-clause-scripts : goal.returns-clause-scripts
returns-clause-scripts c = λ all. scripts-more (told_at c.args.self.now.told) (told_at c.insert.new.self) c.args.draft.stamp _ all c.in_ok-attempt.ensures.in_range c.in_ok-insert.ensures.updates.0

pub returns-clause-keys : goal.returns-clause-keys
returns-clause-keys c = λ ss keys. key-more ss (told_at c.args.self.now.told) (told_at c.insert.new.self) c.args.draft.stamp _ keys c.in_ok-insert.ensures.updates.0

pub returns-then-is_some-clause-unfit : goal.returns-then-is_some-clause-unfit
returns-then-is_some-clause-unfit c = λ ss keys.
    let w = is-told c.get.result c.is_some.result c.is_some.ensures c.if-is_some.true in
    inr (refl, inr (keys _ _ (sym c.get.ensures.value ∙ ap option_copied w.1)))
