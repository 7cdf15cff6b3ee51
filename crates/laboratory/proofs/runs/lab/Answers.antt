use Rattle.laboratory.proofs.Names.{Err, inl, refl, subst, said, AreRead}
use Rattle.laboratory.proofs.RunLemmas.{done_as}
use Rattle.laboratory.proofs.runs.lab.Goals as goal

pub returns-in-Ok : goal.returns-in-Ok
returns-in-Ok g c = record { promise = done_as _ (said c.args.words.now) c.in-Ok.lab c.in-Ok.ensures c.run.ensures }

pub returns-in-Err-Words : goal.returns-in-Err-Words
returns-in-Err-Words g c = record {
  promise = inl (
    subst (λ fault. AreRead (said c.args.words.now) (Err fault)) c.in-Err-Words.field-0-is c.in-Err-Words.ensures,
    record {
      status_is = c.quiet.ensures.status;
      trace = c.quiet.ensures.trace;
      media = c.quiet.ensures.media;
      fates = c.quiet.ensures.fates;
      clock = c.quiet.ensures.clock;
      votes = c.quiet.ensures.votes;
      input = (refl, refl);
    },
    c.write_line.ensures,
  );
}
