use Rattle.std.proofs.Common.{◌+◌, ◌<◌, ◌≤◌, sym, ap, ◌∙◌, subst, arith}
use Rattle.std.proofs.lemmas.Bool.Decides.{nat_tests}
use Rattle.vote_form.proofs.PollsLemmas.{Reading, reading-one, reading-fault, too-many, no-poll}
use Rattle.vote_form.proofs.parsing.polls_of.Goals as goal

pub returns-then-len-ge-MOST_POLLS : goal.returns-then-len-ge-MOST_POLLS
returns-then-len-ge-MOST_POLLS c =
    let n = c.len-in-loop-rest.ensures ∙ c.loop-rest.polls.ok.0 in
    let h = c.if-len-ge-MOST_POLLS.true in
    let many : 16 ≤ c.len-in-loop-rest.result = grind (arith, nat_tests) in
    reading-fault c.args.bytes.now c.loop-rest.rest.now c.first_line.result.1.now c.first_line.result.0.now c.loop-rest.polls.items (c.len.result + 2)
    c.loop-rest.invariant c.first_line.ensures.first (ap (λ z. z + 2) (c.len.ensures ∙ c.loop-rest.polls.ok.0)) (too-many c.loop-rest.polls.items c.first_line.result.0.now (omega (arith, many, n)))

pub returns-in_default : goal.returns-in_default
returns-in_default c =
    reading-fault c.args.bytes.now c.loop-rest.rest.now c.first_line.result.1.now c.first_line.result.0.now c.loop-rest.polls.items (c.len.result + 2)
    c.loop-rest.invariant c.first_line.ensures.first (ap (λ z. z + 2) (c.len.ensures ∙ c.loop-rest.polls.ok.0)) (no-poll c.loop-rest.polls.items c.first_line.result.0.now c.in_default.ensures)

pub loop-rest-preserved : goal.loop-rest-preserved
loop-rest-preserved c =
    let n = c.len-in-loop-rest.ensures ∙ c.loop-rest.polls.ok.0 in
    let h = c.if-len-ge-MOST_POLLS.false in
    let few : c.len-in-loop-rest.result < 16 = grind (arith, nat_tests) in
    subst (Reading c.args.bytes.now c.first_line.result.1.now) (sym c.in_ok-push.ensures.items)
    (reading-one c.args.bytes.now c.loop-rest.rest.now c.first_line.result.1.now c.first_line.result.0.now c.loop-rest.polls.items c.in-Some.poll c.loop-rest.invariant c.first_line.ensures.first (omega (arith, few, n)) (sym c.in-Some.ensures))
