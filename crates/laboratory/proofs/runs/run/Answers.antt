use Rattle.std.proofs.Common.{inl, inr, refl}
use Rattle.laboratory.proofs.runs.run.Goals as goal

pub returns-in_default : goal.returns-in_default
returns-in_default g c = inl (
  record {
    status_is = c.quiet.ensures.status;
    trace = c.quiet.ensures.trace;
    media = c.quiet.ensures.media;
    fates = c.quiet.ensures.fates;
    clock = c.quiet.ensures.clock;
    votes = c.quiet.ensures.votes;
    input = (refl, refl);
  },
  (refl, refl),
)

pub returns-in_default-shelf_for : goal.returns-in_default-shelf_for
returns-in_default-shelf_for g c = inl (
  record {
    status_is = c.quiet-in_default-shelf_for.ensures.status;
    trace = c.quiet-in_default-shelf_for.ensures.trace;
    media = c.quiet-in_default-shelf_for.ensures.media;
    fates = c.quiet-in_default-shelf_for.ensures.fates;
    clock = c.quiet-in_default-shelf_for.ensures.clock;
    votes = c.quiet-in_default-shelf_for.ensures.votes;
    input = (refl, refl);
  },
  (refl, refl),
)

pub returns : goal.returns
returns g c = inr c.over.ensures
