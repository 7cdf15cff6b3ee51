use Rattle.vote_call.proofs.Names.{List, subst, PollState}
use Rattle.vote_call.specs.Ends.{Tells}
use Rattle.vote_call.proofs.FinishLemmas.{run-ends, trace-same}
use Rattle.vote_call.proofs.voting.run.Goals as goal

pub returns : goal.returns
returns g c =
    let w = g.M.Medium in
    let d = c.go-members.new.courier in
    let t = c.finish-trace.result.0 in
    let ended = c.go-members.result.1 in
    let qs = c.go-members.new.polls.items in
    let tells : Tells c.args.lines.now qs t ended c.told.result = subst (λ (z : List PollState). Tells c.args.lines.now z t ended c.told.result) c.as_slice.ensures.value c.told.ensures in
    run-ends w c.args.limits c.go-members.ensures.few c.args.lines.now c.args.courier d c.args.openings c.go-members.result.0 c.args.polls.items qs c.go-members.ensures.count c.told.result t ended c.media_of.result
    (g.F.Fates.asked c.finish-trace.result.1) (g.C.Clock.answers c.finish-trace.result.2) tells c.go-members.ensures.ended c.go-members.ensures.lasts c.media_of.ensures c.finish-trace.ensures.told.0 c.finish-trace.ensures.told.1
    (trace-same t d c.finish-trace.ensures.start c.finish-trace.ensures.opened c.finish-trace.ensures.sent c.finish-trace.ensures.entries)
