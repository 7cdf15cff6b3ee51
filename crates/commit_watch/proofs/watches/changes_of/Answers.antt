use Rattle.commit_watch.proofs.Names.{get, option_copied, object_cmp, moved_at, stood}
use Rattle.commit_watch.proofs.ChangeLemmas.{begins-at, goes-on, refuses-or, ends, at-entry, at-refusal, none-left}
use Rattle.commit_watch.proofs.StandingLemmas.{stood-empty}
use Rattle.commit_watch.proofs.watches.changes_of.Goals as goal

pub loop-object-init : goal.loop-object-init
loop-object-init g c = begins-at _ _ _ _ c.new-changes.ensures.items (λ o. stood-empty g.R.WatchRule.first g.R.WatchRule.next c.args.floor.now o (moved_at o c.args.moved.now))

pub loop-object-preserved : goal.loop-object-preserved
loop-object-preserved g c =
    let k = c.in-Some.object in
    let s = c.in-Some.standing in
    goes-on _ _ _ (λ o. get object_cmp c.loop-object.standings o) (λ o. get object_cmp c.pop_first.new.self o) k s c.loop-object.changes.items c.in-Some.ensures.value c.in-Some.ensures.updates.0 c.loop-object.invariant
    c.in-Ok.change c.note_change.new.changes.items c.in-Ok.ensures.object
    (at-entry (λ z. stood g.R.WatchRule.first g.R.WatchRule.next c.args.floor.now k s z) c.in-Ok.change (option_copied c.entry_of-entry.result) (moved_at k c.args.moved.now) c.entry_of-entry.ensures c.in-Ok.ensures.ok)
    c.in_ok-note_change-in-Ok.ensures

pub returns-in-Err-clause-err : goal.returns-in-Err-clause-err
returns-in-Err-clause-err g c =
    let k = c.in-Some.object in
    let s = c.in-Some.standing in
    refuses-or _ _ _ (λ o. get object_cmp c.loop-object.standings o) (λ o. get object_cmp c.pop_first.new.self o) k s c.loop-object.changes.items c.in-Some.ensures.value c.in-Some.ensures.updates.0 c.loop-object.invariant
    c.in-Err.fault
    (at-refusal (λ z. stood g.R.WatchRule.first g.R.WatchRule.next c.args.floor.now k s z) c.in-Err.fault (option_copied c.entry_of-entry.result) (moved_at k c.args.moved.now) c.entry_of-entry.ensures c.in-Err.ensures.err)
    c.in-Some.ensures.least

pub returns-clause-ok : goal.returns-clause-ok
returns-clause-ok g c = ends _ _ _ (λ o. get object_cmp c.loop-object.standings o) c.loop-object.changes.items c.loop-object.invariant (none-left c.loop-object.standings.entries c.in_default.ensures.variant.1)
