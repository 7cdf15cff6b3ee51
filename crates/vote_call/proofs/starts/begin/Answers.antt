use Rattle.vote_call.proofs.Names.{some_wants, not-err, Fall, ◌≡◌, ◌∙◌, sym, false}
use Rattle.vote_call.proofs.BeginLemmas.{begun-for, lasts-all, may-all}
use Rattle.vote_call.proofs.starts.begin.Goals as goal

pub returns-then-is_err-clause-may : goal.returns-then-is_err-clause-may
returns-then-is_err-clause-may g c = may-all g.M.Medium c.start-start.result c.args.openings c.seat_all-members.result c.seat_all-members.ensures c.requires.opened

pub returns-then-is_err-clause-lasts : goal.returns-then-is_err-clause-lasts
returns-then-is_err-clause-lasts g c = lasts-all g.M.Medium c.start-start.result c.args.openings c.seat_all-members.result c.seat_all-members.ensures

pub returns-then-some_wants-clause-may : goal.returns-then-some_wants-clause-may
returns-then-some_wants-clause-may g c = may-all g.M.Medium c.start-start.result c.args.openings c.seat_all-members.result c.seat_all-members.ensures c.requires.opened

pub returns-then-some_wants-clause-lasts : goal.returns-then-some_wants-clause-lasts
returns-then-some_wants-clause-lasts g c = lasts-all g.M.Medium c.start-start.result c.args.openings c.seat_all-members.result c.seat_all-members.ensures

pub returns-clause-may : goal.returns-clause-may
returns-clause-may g c = may-all g.M.Medium c.start-start.result c.args.openings c.seat_all-members.result c.seat_all-members.ensures c.requires.opened

pub returns-clause-lasts : goal.returns-clause-lasts
returns-clause-lasts g c = lasts-all g.M.Medium c.start-start.result c.args.openings c.seat_all-members.result c.seat_all-members.ensures

pub returns-clause-begun : goal.returns-clause-begun
returns-clause-begun g c =
    let w = g.M.Medium in
    let d = c.fall_all-fallen.new.courier in
    let ms = c.seat_all-members.result in
    let fell : Fall c.args.openings c.args.courier.now d = not-err c.fall_all-fallen.result (Fall c.args.openings c.args.courier.now d) (sym c.is_err.ensures.value ∙ c.if-is_err.false) c.fall_all-fallen.ensures in
    let enough : some_wants ms ≡ false = sym c.some_wants.ensures ∙ c.if-some_wants.false in
    begun-for w c.args.openings c.args.courier.now d c.polls_go-went.new.courier c.args.polls.now.items c.polls_go-went.new.polls.items ms c.polls_go-went.result fell
    c.start-start.result c.start-start.ensures.start c.seat_all-members.ensures enough c.polls_go-went.ensures.went c.polls_go-went.ensures.adds
