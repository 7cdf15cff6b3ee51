use Rattle.vote_run.proofs.Names.{HaveSat, some_wants, is_poll, ◌≡◌, ◌∙◌, refl, sym, false}
use Rattle.vote_run.proofs.EndLemmas.{has-gone, polls-wait}
use Rattle.vote_run.proofs.FareLemmas.{all-along}
use Rattle.vote_run.proofs.PollLemmas.{on-ok}
use Rattle.vote_run.proofs.rounds.round.Goals as goal

pub returns-clause-gone : goal.returns-clause-gone
returns-clause-gone g c told lines b =
    let ms = c.members_turn-members.result in
    let mid = c.members_turn-members.new.courier in
    let enough : some_wants ms ≡ false = sym c.some_wants.ensures ∙ c.if-some_wants.false in
    let sat : HaveSat g.M.Medium lines c.args.courier.now mid ms = c.members_turn-members.ensures.sat told lines b.stands b.sit enough in
    on-ok c.polls_turn-turned.result (λ turned. has-gone g.M.Medium lines c.args.courier.now mid c.polls_turn-turned.new.courier ms c.polls_turn-turned.new.polls.items c.args.behind sat turned)
    (c.polls_turn-turned.ensures.turned lines sat.keeps.stands (polls-wait g.M.Medium lines c.args.courier.now mid ms c.args.polls.now.items c.args.behind sat b.polls))

pub returns-clause-fares : goal.returns-clause-fares
returns-clause-fares g c =
    let w = g.M.Medium in
    let ms = c.members_turn-members.result in
    let mid = c.members_turn-members.new.courier in
    let enough : some_wants ms ≡ false = sym c.some_wants.ensures ∙ c.if-some_wants.false in
    on-ok c.polls_turn-turned.result
    (λ longer first h. all-along w first is_poll mid.entries c.polls_turn-turned.new.courier.entries ms longer (λ s. refl) (c.members_turn-members.ensures.fares enough first h)) c.polls_turn-turned.ensures.adds
