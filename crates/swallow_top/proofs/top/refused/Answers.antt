use Rattle.swallow_top.proofs.Names.{RefusedAs, GotLine, sinking, refl, inr, subst, ◌∙◌, sym}
use Rattle.run_command.proofs.TextLemmas.{written}
use Rattle.swallow_top.proofs.top.refused.Goals as goal

pub returns-in-Ok : goal.returns-in-Ok
returns-in-Ok g c =
    let s = sinking (g.O.Sink.taken c.args.sink.now) (g.O.Sink.taken c.write_all-in-Ok.new.sink) (g.O.Sink.faults c.args.sink.now) (g.O.Sink.faults c.write_all-in-Ok.new.sink) in
    let wrote = c.write_all-in-Ok.ensures in
    subst (λ stop. RefusedAs stop 2 s) (sym c.in-Fault.is)
    (inr (
      refl,
      subst (GotLine s) (c.as_slice.ensures.value ∙ c.in-Ok.ensures)
          (written (g.O.Sink.taken c.args.sink.now) (g.O.Sink.taken c.write_all-in-Ok.new.sink) (g.O.Sink.faults c.args.sink.now) (g.O.Sink.faults c.write_all-in-Ok.new.sink) c.as_slice.result.now c.write_all-in-Ok.result wrote.ok wrote.err wrote.cause),
    ))

pub returns-in-Ok-votes_line : goal.returns-in-Ok-votes_line
returns-in-Ok-votes_line g c =
    let s = sinking (g.O.Sink.taken c.args.sink.now) (g.O.Sink.taken c.write_all-in-Ok-votes_line.new.sink) (g.O.Sink.faults c.args.sink.now) (g.O.Sink.faults c.write_all-in-Ok-votes_line.new.sink) in
    let wrote = c.write_all-in-Ok-votes_line.ensures in
    subst (λ stop. RefusedAs stop 2 s) (sym c.in-Votes.is)
    (inr (
      refl,
      subst (GotLine s) (c.as_slice-in-Ok-votes_line.ensures.value ∙ c.in-Ok-votes_line.ensures)
          (written (g.O.Sink.taken c.args.sink.now) (g.O.Sink.taken c.write_all-in-Ok-votes_line.new.sink) (g.O.Sink.faults c.args.sink.now) (g.O.Sink.faults c.write_all-in-Ok-votes_line.new.sink) c.as_slice-in-Ok-votes_line.result.now c.write_all-in-Ok-votes_line.result wrote.ok wrote.err wrote.cause),
    ))
