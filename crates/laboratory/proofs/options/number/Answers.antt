use Rattle.laboratory.proofs.Names.{ParsesUnsigned, ExplainsUnsignedError, HasUnsignedDigitsIfOk, found_of}
use Rattle.laboratory.proofs.WordLemmas.{number_read}
use Rattle.laboratory.proofs.options.number.Goals as goal

pub returns : goal.returns
returns c = λ least most fits h.
    number_read _ (λ bs r. ParsesUnsigned 32 10 bs r × ExplainsUnsignedError 10 bs r × HasUnsignedDigitsIfOk bs r) (found_of c.args.matches.now) c.args.name.now least most fits h (λ u x g. g.0)
    c.in-Some.number (c.in-Some.ensures.value _ h.read)
