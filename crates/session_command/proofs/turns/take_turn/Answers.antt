use Rattle.std.proofs.Common.{refl, inl, sym, subst}
use Rattle.std.specs.Io.KnownBytes.{prepend_known}
use Rattle.session_command.specs.Ahead.{ahead}
use Rattle.session_command.specs.Inputs.{HasRead}
use Rattle.session_command.specs.Kept.{IsKept}
use Rattle.session_command.specs.Standings.{standing}
use Rattle.session_command.proofs.TurnLemmas.{batch-turned, cut-turned}
use Rattle.session_command.proofs.turns.take_turn.Goals as goal

pub returns-in-Ok-Batch-clause-turned : goal.returns-in-Ok-Batch-clause-turned
returns-in-Ok-Batch-clause-turned g c r b e =
    let k = g.O.Sink in
    let old = prepend_known (ahead c.args.input.now.reader) (g.I.Source.left c.args.source.now) in
    let now = prepend_known (ahead c.read_batch.new.self.reader) (g.I.Source.left c.read_batch.new.source) in
    let a = c.answer_batch-answer in
    let s = standing c.args.shelf.now (k.taken c.args.sink.now) (k.faults c.args.sink.now) (g.F.Fates.asked c.args.fates) (g.C.Clock.answers c.args.clock) in
    let t = standing a.new.shelf (k.taken a.new.sink) (k.faults a.new.sink) (g.F.Fates.asked a.result.fates) (g.C.Clock.answers a.result.clock) in
    let head = c.args.input.now.head.items in
    let lines = c.args.input.now.lines in
    batch-turned g.H.Shelf g.H.Medium.Medium c.args.options r b old now (g.I.Source.faults c.args.source.now) (g.I.Source.faults c.read_batch.new.source) lines c.read_batch.new.self.lines a.result.status s t
    head c.in-Ok-Batch.text.items e c.turn_after.result c.turn_after.ensures (subst (HasRead old now head lines c.read_batch.new.self.lines) c.in-Ok-Batch.field-0-is c.in-Ok-Batch.ensures.next)
    (λ whole kept. a.ensures whole (subst (λ l. IsKept l whole) (sym c.as_slice.ensures.value) kept))

pub returns-in-Ok-Cut-clause-turned : goal.returns-in-Ok-Cut-clause-turned
returns-in-Ok-Cut-clause-turned g c r b e =
    let k = g.O.Sink in
    let old = prepend_known (ahead c.args.input.now.reader) (g.I.Source.left c.args.source.now) in
    let now = prepend_known (ahead c.read_batch.new.self.reader) (g.I.Source.left c.read_batch.new.source) in
    let a = c.tell_cut-status in
    let s = standing c.args.shelf.now (k.taken c.args.sink.now) (k.faults c.args.sink.now) (g.F.Fates.asked c.args.fates) (g.C.Clock.answers c.args.clock) in
    let t = standing c.args.shelf.now (k.taken a.new.sink) (k.faults a.new.sink) (g.F.Fates.asked c.args.fates) (g.C.Clock.answers c.args.clock) in
    let head = c.args.input.now.head.items in
    let lines = c.args.input.now.lines in
    inl (cut-turned s t old now head lines c.read_batch.new.self.lines c.in-Ok-Cut.line a.result (subst (HasRead old now head lines c.read_batch.new.self.lines) c.in-Ok-Cut.field-0-is c.in-Ok-Cut.ensures.next)
    (record { shelf = refl; asked = refl; answers = refl }) a.ensures)
