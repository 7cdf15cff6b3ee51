use Rattle.commit_watch.proofs.Names.{reverse, sym, refl, ◌∙◌, Scan, advanced, moved_at, standing_at, stood}
use Rattle.commit_watch.proofs.ChangeLemmas.{if_ok, if_err, refused-as}
use Rattle.commit_watch.proofs.StandingLemmas.{scan-advanced}
use Rattle.commit_watch.proofs.watches.outcomes_of.Goals as goal

pub returns-clause-ok : goal.returns-clause-ok
returns-clause-ok g c =
    let scan : Scan = record { settles = c.in_ok-settles.settles; floor = c.floor_among-floor.result; below = c.args.below } in
    if_ok c.changes_of.result _ _
    (λ changes h o. sym (scan-advanced g.R.WatchRule.first g.R.WatchRule.next scan c.args.moved.now (reverse c.args.marks.now) c.args.below (standing_at c.in_ok-standings.standings o) o
    c.in_ok-settles.ensures c.floor_among-floor.ensures refl (c.in_ok-standings.ensures o)) ∙ h o)
    c.changes_of.ensures.ok

pub returns-clause-err : goal.returns-clause-err
returns-clause-err g c =
    let scan : Scan = record { settles = c.in_ok-settles.settles; floor = c.floor_among-floor.result; below = c.args.below } in
    if_err c.changes_of.result _ _
    (λ e h. refused-as (λ o. stood g.R.WatchRule.first g.R.WatchRule.next c.floor_among-floor.result o (standing_at c.in_ok-standings.standings o) (moved_at o c.args.moved.now))
    (λ o. advanced g.R.WatchRule.first g.R.WatchRule.next o (reverse c.args.marks.now) c.args.below (moved_at o c.args.moved.now)) e
    (λ o. scan-advanced g.R.WatchRule.first g.R.WatchRule.next scan c.args.moved.now (reverse c.args.marks.now) c.args.below (standing_at c.in_ok-standings.standings o) o
    c.in_ok-settles.ensures c.floor_among-floor.ensures refl (c.in_ok-standings.ensures o)) h)
    c.changes_of.ensures.err
