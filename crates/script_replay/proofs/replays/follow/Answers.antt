use Rattle.std.proofs.Common.{sym, ◌∙◌}
use Rattle.std.proofs.lemmas.Bool.{false≢true}
use Rattle.script_replay.proofs.FollowLemmas.{follows, not-committed, not-ended, not-taken, not-wrote, run-agrees, took-same, wrote-same}
use Rattle.script_replay.proofs.replays.follow.Goals as goal

pub take_all-requires-clause-agrees : goal.take_all-requires-clause-agrees
take_all-requires-clause-agrees c = run-agrees c.args.map c.new-writes.result c.args.attempt.now.script.lines c.in_ok-run.run' c.in_ok-run.ensures c.new-writes.ensures

pub returns-then-not-took : goal.returns-then-not-took
returns-then-not-took c =
    not-taken c.args.map c.args.attempt.now c.in_ok-run.run' c.take_all.new.run c.take_all.new.run c.take_all.new.writes c.in_ok-run.ensures c.in_ok-took.took c.if-not-took.true
    (took-same c.in_ok-took.took c.args.map c.in_ok-run.run' c.take_all.new.run c.take_all.new.writes c.as_slice.result.now c.args.attempt.now.replies c.as_slice.ensures c.in_ok-took.ensures)

pub returns-then-not-ends_so : goal.returns-then-not-ends_so
returns-then-not-ends_so c =
    not-ended c.args.map c.args.attempt.now c.in_ok-run.run' c.take_all.new.run c.next.new.self c.take_all.new.writes c.in_ok-run.ensures c.in_ok-took.took c.if-not-took.false
    (took-same c.in_ok-took.took c.args.map c.in_ok-run.run' c.take_all.new.run c.take_all.new.writes c.as_slice.result.now c.args.attempt.now.replies c.as_slice.ensures c.in_ok-took.ensures)
    c.in_ok-next.next c.in_ok-next.ensures.tells (λ k. false≢true (sym c.if-not-ends_so.true ∙ c.ends_so.ensures.1 k))

pub returns-then-not-attempt : goal.returns-then-not-attempt
returns-then-not-attempt c =
    not-committed c.args.map c.args.attempt.now c.in_ok-run.run' c.take_all.new.run c.next.new.self c.take_all.new.writes c.in_ok-run.ensures c.in_ok-took.took c.if-not-took.false
    (took-same c.in_ok-took.took c.args.map c.in_ok-run.run' c.take_all.new.run c.take_all.new.writes c.as_slice.result.now c.args.attempt.now.replies c.as_slice.ensures c.in_ok-took.ensures)
    c.in_ok-next.next c.in_ok-next.ensures.tells (c.ends_so.ensures.0 c.if-not-ends_so.false) c.if-not-attempt.true

pub returns-then-not-wrote_so : goal.returns-then-not-wrote_so
returns-then-not-wrote_so c =
    not-wrote c.args.map c.args.attempt.now c.in_ok-run.run' c.take_all.new.run c.next.new.self c.take_all.new.writes c.in_ok-run.ensures c.in_ok-took.took c.if-not-took.false
    (took-same c.in_ok-took.took c.args.map c.in_ok-run.run' c.take_all.new.run c.take_all.new.writes c.as_slice.result.now c.args.attempt.now.replies c.as_slice.ensures c.in_ok-took.ensures)
    c.in_ok-next.next c.in_ok-next.ensures.tells (c.ends_so.ensures.0 c.if-not-ends_so.false) c.if-not-attempt.false
    (λ k. false≢true (sym c.if-not-wrote_so.true ∙ c.wrote_so.ensures.1 (wrote-same c.args.attempt.now.stamp c.args.attempt.now.puts c.as_slice-2.result.now c.next.new.self.lines c.transcript.result.now (sym c.as_slice-2.ensures) (sym c.transcript.ensures) k)))

pub returns : goal.returns
returns c =
    follows c.args.map c.args.attempt.now c.in_ok-run.run' c.take_all.new.run c.next.new.self c.take_all.new.writes c.in_ok-run.ensures c.in_ok-took.took c.if-not-took.false
    (took-same c.in_ok-took.took c.args.map c.in_ok-run.run' c.take_all.new.run c.take_all.new.writes c.as_slice.result.now c.args.attempt.now.replies c.as_slice.ensures c.in_ok-took.ensures)
    c.in_ok-next.next c.in_ok-next.ensures.tells (c.ends_so.ensures.0 c.if-not-ends_so.false) c.if-not-attempt.false
    (wrote-same c.args.attempt.now.stamp c.as_slice-2.result.now c.args.attempt.now.puts c.transcript.result.now c.next.new.self.lines c.as_slice-2.ensures c.transcript.ensures (c.wrote_so.ensures.0 c.if-not-wrote_so.false))
    c.in_ok-map.map c.in_ok-map.ensures
