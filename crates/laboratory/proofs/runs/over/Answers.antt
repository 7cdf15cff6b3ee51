use Rattle.laboratory.proofs.Names.{◌∙◌, Some, ap, sym, replicate, said, asked_of}
use Rattle.stream_port.specs.Clocks.{FixedParts}
use Rattle.laboratory.proofs.RunLemmas.{ran_as}
use Rattle.laboratory.proofs.runs.over.Goals as goal

pub returns : goal.returns
returns g c =
    let finish = c.swallow-finish.result in
    ran_as _ c.args.lab.now c.args.shelf c.swallow-finish.new.shelf (said c.args.words.now) (asked_of c.new.result) (Some (replicate c.new-2.result.calls c.new-2.result.moment)) c.requires.shelf c.requires.words c.new.ensures.1
    (ap (λ (p : FixedParts). Some (replicate p.calls p.moment)) c.new-2.ensures) (finish.fates.tied ∙ sym c.requires.lose) finish.clock.still c.swallow-finish.ensures.promise
