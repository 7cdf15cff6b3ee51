use Rattle.std.proofs.Common.{ap, ◌∙◌, ◌-◌, map, length, arith}
use Rattle.commit_watch.proofs.ChangeLemmas.{if_ok}
use Rattle.archive_store.proofs.ArchiveLemmas.{last-is, joined-last}
use Rattle.archive_store.proofs.archives.Archive.joined.Goals as goal

pub returns : goal.returns
returns c =
    let logs = c.as_slice-logs.result.now in
    let last = c.index-logs-logs.result in
    let e = ap length c.as_slice-logs.ensures.value in
    let some = c.self.invariant in
    if_ok c.joined_with.result _ _
    (λ marks h. h ∙ joined-last (map (λ log. log.items) logs) c.args.self.now c.as_slice.result.now last.items (ap (map (λ log. log.items)) c.as_slice-logs.ensures.value ∙ c.self.view_is) c.as_slice.ensures.value
    (last-is (λ log. log.items) logs (length logs - 1) last (omega (arith, e, some)) c.index-logs-logs.is))
    c.joined_with.ensures
