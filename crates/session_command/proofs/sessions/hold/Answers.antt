use Rattle.std.proofs.Common.{refl, arith, ◌+◌, ◌∙◌}
use Rattle.std.specs.Io.KnownBytes.{prepend_known}
use Rattle.session_command.specs.Ahead.{ahead}
use Rattle.session_command.specs.Standings.{standing}
use Rattle.session_command.proofs.SessionLemmas.{held-full, so-held-none, turn-ended, turn-on, turn-stopped}
use Rattle.session_command.proofs.sessions.hold.Goals as goal

pub loop-init : goal.loop-init
loop-init g c =
    let k = g.O.Sink in
    let input = prepend_known (ahead c.args.input.reader) (g.I.Source.left c.args.source.now) in
    let s = standing c.args.shelf.now (k.taken c.args.sink.now) (k.faults c.args.sink.now) (g.F.Fates.asked c.args.fates) (g.C.Clock.answers c.args.clock) in
    record { so = λ r b e. so-held-none g.H.Shelf g.H.Medium.Medium c.args.options r b input 3 c.args.input.lines s c.requires.lines (omega arith); head = refl; later = omega arith }

pub returns-in-Ended-clause-held : goal.returns-in-Ended-clause-held
returns-in-Ended-clause-held g c r b e =
    let k = g.O.Sink in
    let input = prepend_known (ahead c.args.input.reader) (g.I.Source.left c.args.source.now) in
    let mid = prepend_known (ahead c.loop.input.reader) (g.I.Source.left c.loop.source) in
    let turn = c.take_turn-turn in
    let now = prepend_known (ahead turn.new.input.reader) (g.I.Source.left turn.new.source) in
    let s = standing c.args.shelf.now (k.taken c.args.sink.now) (k.faults c.args.sink.now) (g.F.Fates.asked c.args.fates) (g.C.Clock.answers c.args.clock) in
    let t = standing c.loop.shelf (k.taken c.loop.sink) (k.faults c.loop.sink) (g.F.Fates.asked c.loop.fates) (g.C.Clock.answers c.loop.clock) in
    let u = standing turn.new.shelf (k.taken turn.new.sink) (k.faults turn.new.sink) (g.F.Fates.asked turn.result.1.fates) (g.C.Clock.answers turn.result.1.clock) in
    turn-ended g.H.Shelf g.H.Medium.Medium c.args.options r b input mid now (g.I.Source.faults c.args.source.now) (g.I.Source.faults c.loop.source) (g.I.Source.faults turn.new.source) 3 c.loop.input.lines c.loop.status c.loop.counter s t
    (c.loop.invariant.so r b e) turn.new.input.lines turn.result.1.status u turn.result.0 (turn.ensures.turned r b (c.loop.invariant.head ∙ e)) c.in-Ended.is

pub returns-in-Stopped-clause-held : goal.returns-in-Stopped-clause-held
returns-in-Stopped-clause-held g c r b e =
    let k = g.O.Sink in
    let input = prepend_known (ahead c.args.input.reader) (g.I.Source.left c.args.source.now) in
    let mid = prepend_known (ahead c.loop.input.reader) (g.I.Source.left c.loop.source) in
    let turn = c.take_turn-turn in
    let now = prepend_known (ahead turn.new.input.reader) (g.I.Source.left turn.new.source) in
    let s = standing c.args.shelf.now (k.taken c.args.sink.now) (k.faults c.args.sink.now) (g.F.Fates.asked c.args.fates) (g.C.Clock.answers c.args.clock) in
    let t = standing c.loop.shelf (k.taken c.loop.sink) (k.faults c.loop.sink) (g.F.Fates.asked c.loop.fates) (g.C.Clock.answers c.loop.clock) in
    let u = standing turn.new.shelf (k.taken turn.new.sink) (k.faults turn.new.sink) (g.F.Fates.asked turn.result.1.fates) (g.C.Clock.answers turn.result.1.clock) in
    turn-stopped g.H.Shelf g.H.Medium.Medium c.args.options r b input mid now (g.I.Source.faults c.args.source.now) (g.I.Source.faults c.loop.source) (g.I.Source.faults turn.new.source) 3 c.loop.input.lines c.loop.status c.loop.counter s t
    (c.loop.invariant.so r b e) turn.new.input.lines turn.result.1.status u turn.result.0 (turn.ensures.turned r b (c.loop.invariant.head ∙ e)) c.in-Stopped.is c.loop.invariant.later

pub loop-preserved : goal.loop-preserved
loop-preserved g c =
    let k = g.O.Sink in
    let input = prepend_known (ahead c.args.input.reader) (g.I.Source.left c.args.source.now) in
    let mid = prepend_known (ahead c.loop.input.reader) (g.I.Source.left c.loop.source) in
    let turn = c.take_turn-turn in
    let now = prepend_known (ahead turn.new.input.reader) (g.I.Source.left turn.new.source) in
    let s = standing c.args.shelf.now (k.taken c.args.sink.now) (k.faults c.args.sink.now) (g.F.Fates.asked c.args.fates) (g.C.Clock.answers c.args.clock) in
    let t = standing c.loop.shelf (k.taken c.loop.sink) (k.faults c.loop.sink) (g.F.Fates.asked c.loop.fates) (g.C.Clock.answers c.loop.clock) in
    let u = standing turn.new.shelf (k.taken turn.new.sink) (k.faults turn.new.sink) (g.F.Fates.asked turn.result.1.fates) (g.C.Clock.answers turn.result.1.clock) in
    record {
      so = λ r b e. turn-on g.H.Shelf g.H.Medium.Medium c.args.options r b input mid now (g.I.Source.faults c.args.source.now) (g.I.Source.faults c.loop.source) (g.I.Source.faults turn.new.source) 3 c.loop.input.lines c.loop.status c.loop.counter s t
          (c.loop.invariant.so r b e) turn.new.input.lines turn.result.1.status u turn.result.0 (turn.ensures.turned r b (c.loop.invariant.head ∙ e)) c.in-On.is c.graver_of-status.result (c.loop.counter + 1) c.graver_of-status.ensures refl;
      head = turn.ensures.head ∙ c.loop.invariant.head;
      later = omega (arith, c.loop.invariant.later, turn.ensures.later);
    }

pub returns-clause-held : goal.returns-clause-held
returns-clause-held g c r b e =
    let k = g.O.Sink in
    let input = prepend_known (ahead c.args.input.reader) (g.I.Source.left c.args.source.now) in
    let mid = prepend_known (ahead c.loop.input.reader) (g.I.Source.left c.loop.source) in
    let s = standing c.args.shelf.now (k.taken c.args.sink.now) (k.faults c.args.sink.now) (g.F.Fates.asked c.args.fates) (g.C.Clock.answers c.args.clock) in
    let t = standing c.loop.shelf (k.taken c.loop.sink) (k.faults c.loop.sink) (g.F.Fates.asked c.loop.fates) (g.C.Clock.answers c.loop.clock) in
    let past = c.loop-test.false in
    let end = c.loop.auto.counter-end in
    held-full g.H.Shelf g.H.Medium.Medium c.args.options r b input mid mid (g.I.Source.faults c.args.source.now) (g.I.Source.faults c.loop.source) (g.I.Source.faults c.loop.source) 3 c.loop.input.lines c.loop.status c.loop.counter s t
    (c.loop.invariant.so r b e) (omega (arith, past, end))
