use Rattle.vote_call.proofs.Names.{not-err, medium_of, BegunFor, ◌∙◌, sym}
use Rattle.vote_call.proofs.FinishLemmas.{ended-for}
use Rattle.vote_call.proofs.voting.go.Goals as goal

pub returns-clause-lasts : goal.returns-clause-lasts
returns-clause-lasts g c media h = c.conduct.ensures.lasts (medium_of media) (c.begin-members.ensures.lasts media h)

pub returns-clause-ended : goal.returns-clause-ended
returns-clause-ended g c =
    let w = g.M.Medium in
    let os = c.args.openings in
    let e = c.begin-members.new.courier in
    let ps1 = c.begin-members.new.polls.items in
    let ms0 = c.begin-members.result.0 in
    let begun : BegunFor w os c.args.courier.now c.args.polls.now.items e ms0 ps1 =
    not-err c.begin-members.result.1 (BegunFor w os c.args.courier.now c.args.polls.now.items e ms0 ps1) (sym c.is_err.ensures.value ∙ c.if-is_err.false) c.begin-members.ensures.begun in
    ended-for w c.args.limits os c.args.courier.now e c.conduct.new.courier c.args.polls.now.items ps1 c.conduct.new.polls.items ms0 c.conduct.result.0 c.conduct.result.1 begun c.begin-members.ensures.count c.conduct.ensures.ended c.conduct.ensures.fares
