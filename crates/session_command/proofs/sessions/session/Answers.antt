use Rattle.std.proofs.Common.{Err, refl, ap, subst}
use Rattle.command_words.specs.Words.{said}
use Rattle.session_command.specs.Standings.{standing}
use Rattle.session_command.specs.Words.{GivesOptions}
use Rattle.session_command.proofs.PromiseLemmas.{promise-held, promise-told}
use Rattle.session_command.proofs.WordLemmas.{some-workers}
use Rattle.session_command.proofs.sessions.session.Goals as goal

pub hold-requires-clause-workers : goal.hold-requires-clause-workers
hold-requires-clause-workers g c κs within = let are = subst (GivesOptions (said c.args.words.now)) c.in-Ok-Some.field-0-is c.in-Ok-Some.ensures in some-workers c.in-Ok-Some.options are.0 are.2

pub returns-in-Ok : goal.returns-in-Ok
returns-in-Ok g c =
    let source = g.I.Source in
    record {
      promise = promise-held g.H.Shelf g.H.Medium.Medium
          (record {
            words = said c.args.words.now;
            status = c.hold.result.status;
            input = source.left c.args.source.now;
            faults_before = source.faults c.args.source.now;
            faults = source.faults c.hold.new.source;
            before = standing c.args.shelf.now (g.O.Sink.taken c.args.sink.now) (g.O.Sink.faults c.args.sink.now) (g.F.Fates.asked c.args.fates) (g.C.Clock.answers c.args.clock);
            after = standing c.hold.new.shelf (g.O.Sink.taken c.hold.new.sink) (g.O.Sink.faults c.hold.new.sink) (g.F.Fates.asked c.hold.result.fates) (g.C.Clock.answers c.hold.result.clock);
          })
          c.in-Ok-Some.options (subst (GivesOptions (said c.args.words.now)) c.in-Ok-Some.field-0-is c.in-Ok-Some.ensures) (source.left c.begin.new.source) c.in-Ok.input c.in-Ok.ensures.head (source.faults c.begin.new.source)
          c.in-Ok.ensures.later c.hold.ensures.held;
    }

pub returns-in-Err-begin : goal.returns-in-Err-begin
returns-in-Err-begin g c =
    let source = g.I.Source in
    let still = c.refuse.ensures.still in
    record {
      promise = promise-told g.H.Shelf g.H.Medium.Medium
          (record {
            words = said c.args.words.now;
            status = c.refuse.result.status;
            input = source.left c.args.source.now;
            faults_before = source.faults c.args.source.now;
            faults = source.faults c.begin.new.source;
            before = standing c.args.shelf.now (g.O.Sink.taken c.args.sink.now) (g.O.Sink.faults c.args.sink.now) (g.F.Fates.asked c.args.fates) (g.C.Clock.answers c.args.clock);
            after = standing c.args.shelf.now (g.O.Sink.taken c.refuse.new.sink) (g.O.Sink.faults c.refuse.new.sink) (g.F.Fates.asked c.refuse.result.fates) (g.C.Clock.answers c.refuse.result.clock);
          })
          c.in-Ok-Some.options (subst (GivesOptions (said c.args.words.now)) c.in-Ok-Some.field-0-is c.in-Ok-Some.ensures) (source.left c.begin.new.source) c.in-Err-begin.stop c.in-Err-begin.ensures.head (λ is. c.in-Err-begin.ensures.cause (ap Err is))
          c.refuse.ensures.told (record { shelf = refl; asked = ap g.F.Fates.asked still.0; answers = ap g.C.Clock.answers still.1 });
    }
