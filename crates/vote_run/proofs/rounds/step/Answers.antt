use Rattle.vote_run.proofs.Names.{Follows, HasCome, HasGoneRound, Over, Round, Ticked, AllFare, FareOn, AllLast, ◌+◌, ◌∙◌, true, sym, subst}
use Rattle.vote_run.proofs.FareLemmas.{step-fares}
use Rattle.vote_run.proofs.LastLemmas.{all-late-last}
use Rattle.vote_run.proofs.EndLemmas.{if-ok, not-err, step-came}
use Rattle.vote_run.proofs.rounds.step.Goals as goal

pub returns-in-Ok-Over-clause-came : goal.returns-in-Ok-Over-clause-came
returns-in-Ok-Over-clause-came g c told lines first count come =
    let w = g.M.Medium in
    let ms = c.round-after.result.0 in
    let mid = c.round-after.new.courier in
    let d = c.follow.new.courier in
    let qs = c.round-after.new.polls.items in
    let gone : HasGoneRound w lines c.args.courier.now mid ms qs = not-err c.round-after.result.1 (HasGoneRound w lines c.args.courier.now mid ms qs) (sym c.is_err.ensures.value ∙ c.if-is_err.false) (c.round-after.ensures.gone told lines come.between) in
    let follows = if-ok c.follow.result (Follows c.args.limits c.some_late.result c.args.ticks c.as_slice.result.now mid d) c.in-Ok-Over.field-0 c.in-Ok-Over.is c.follow.ensures in
    let came = step-came w lines c.args.limits first c.args.courier.now mid d c.args.members ms c.args.polls.now.items qs c.args.behind c.args.ticks come gone (count ∙ sym c.round-after.ensures.count)
    c.some_late.result c.as_slice.result.now c.some_late.ensures c.as_slice.ensures.value c.in-Ok-Over.field-0 Over c.in-Ok-Over.field-0-is follows c.requires.ticks in
    came

pub returns-in-Ok-Round-clause-came : goal.returns-in-Ok-Round-clause-came
returns-in-Ok-Round-clause-came g c told lines first count come =
    let w = g.M.Medium in
    let ms = c.round-after.result.0 in
    let mid = c.round-after.new.courier in
    let d = c.follow.new.courier in
    let qs = c.round-after.new.polls.items in
    let gone : HasGoneRound w lines c.args.courier.now mid ms qs = not-err c.round-after.result.1 (HasGoneRound w lines c.args.courier.now mid ms qs) (sym c.is_err.ensures.value ∙ c.if-is_err.false) (c.round-after.ensures.gone told lines come.between) in
    let follows = if-ok c.follow.result (Follows c.args.limits c.some_late.result c.args.ticks c.as_slice.result.now mid d) c.in-Ok-Round.field-0 c.in-Ok-Round.is c.follow.ensures in
    let came = step-came w lines c.args.limits first c.args.courier.now mid d c.args.members ms c.args.polls.now.items qs c.args.behind c.args.ticks come gone (count ∙ sym c.round-after.ensures.count)
    c.some_late.result c.as_slice.result.now c.some_late.ensures c.as_slice.ensures.value c.in-Ok-Round.field-0 Round c.in-Ok-Round.field-0-is follows c.requires.ticks in
    came

pub returns-in-Ok-Ticked-clause-came : goal.returns-in-Ok-Ticked-clause-came
returns-in-Ok-Ticked-clause-came g c told lines first count come =
    let w = g.M.Medium in
    let ms = c.round-after.result.0 in
    let mid = c.round-after.new.courier in
    let d = c.follow.new.courier in
    let qs = c.round-after.new.polls.items in
    let gone : HasGoneRound w lines c.args.courier.now mid ms qs = not-err c.round-after.result.1 (HasGoneRound w lines c.args.courier.now mid ms qs) (sym c.is_err.ensures.value ∙ c.if-is_err.false) (c.round-after.ensures.gone told lines come.between) in
    let follows = if-ok c.follow.result (Follows c.args.limits c.some_late.result c.args.ticks c.as_slice.result.now mid d) c.in-Ok-Ticked.field-0 c.in-Ok-Ticked.is c.follow.ensures in
    let came = step-came w lines c.args.limits first c.args.courier.now mid d c.args.members ms c.args.polls.now.items qs c.args.behind c.args.ticks come gone (count ∙ sym c.round-after.ensures.count)
    c.some_late.result c.as_slice.result.now c.some_late.ensures c.as_slice.ensures.value c.in-Ok-Ticked.field-0 Ticked c.in-Ok-Ticked.field-0-is follows c.requires.ticks in
    subst (λ z. HasCome w lines first d z qs true (c.args.ticks + 1)) (sym c.all_late.ensures) came

pub returns-in-Ok-Over-clause-fares : goal.returns-in-Ok-Over-clause-fares
returns-in-Ok-Over-clause-fares g c first h =
    let w = g.M.Medium in
    let ms = c.round-after.result.0 in
    let mid = c.round-after.new.courier in
    let d = c.follow.new.courier in
    let gone = not-err c.round-after.result.1 (FareOn w c.args.courier.now.entries c.args.members mid.entries ms) (sym c.is_err.ensures.value ∙ c.if-is_err.false) c.round-after.ensures.fares first h in
    let follows = if-ok c.follow.result (Follows c.args.limits c.some_late.result c.args.ticks c.as_slice.result.now mid d) c.in-Ok-Over.field-0 c.in-Ok-Over.is c.follow.ensures in
    let fares = step-fares w first c.args.limits c.some_late.result c.args.ticks c.as_slice.result.now mid d ms c.in-Ok-Over.field-0 Over c.in-Ok-Over.field-0-is follows gone in
    fares

pub returns-in-Ok-Round-clause-fares : goal.returns-in-Ok-Round-clause-fares
returns-in-Ok-Round-clause-fares g c first h =
    let w = g.M.Medium in
    let ms = c.round-after.result.0 in
    let mid = c.round-after.new.courier in
    let d = c.follow.new.courier in
    let gone = not-err c.round-after.result.1 (FareOn w c.args.courier.now.entries c.args.members mid.entries ms) (sym c.is_err.ensures.value ∙ c.if-is_err.false) c.round-after.ensures.fares first h in
    let follows = if-ok c.follow.result (Follows c.args.limits c.some_late.result c.args.ticks c.as_slice.result.now mid d) c.in-Ok-Round.field-0 c.in-Ok-Round.is c.follow.ensures in
    let fares = step-fares w first c.args.limits c.some_late.result c.args.ticks c.as_slice.result.now mid d ms c.in-Ok-Round.field-0 Round c.in-Ok-Round.field-0-is follows gone in
    fares

pub returns-in-Ok-Ticked-clause-fares : goal.returns-in-Ok-Ticked-clause-fares
returns-in-Ok-Ticked-clause-fares g c first h =
    let w = g.M.Medium in
    let ms = c.round-after.result.0 in
    let mid = c.round-after.new.courier in
    let d = c.follow.new.courier in
    let gone = not-err c.round-after.result.1 (FareOn w c.args.courier.now.entries c.args.members mid.entries ms) (sym c.is_err.ensures.value ∙ c.if-is_err.false) c.round-after.ensures.fares first h in
    let follows = if-ok c.follow.result (Follows c.args.limits c.some_late.result c.args.ticks c.as_slice.result.now mid d) c.in-Ok-Ticked.field-0 c.in-Ok-Ticked.is c.follow.ensures in
    let fares = step-fares w first c.args.limits c.some_late.result c.args.ticks c.as_slice.result.now mid d ms c.in-Ok-Ticked.field-0 Ticked c.in-Ok-Ticked.field-0-is follows gone in
    subst (AllFare w first d.entries) (sym c.all_late.ensures) fares

pub returns-in-Ok-Ticked-clause-lasts : goal.returns-in-Ok-Ticked-clause-lasts
returns-in-Ok-Ticked-clause-lasts g c first h =
    subst (AllLast g.M.Medium first) (sym c.all_late.ensures) (all-late-last g.M.Medium first c.round-after.result.0 (c.round-after.ensures.lasts first h))
