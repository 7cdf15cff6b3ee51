use Rattle.session_form.specs.Heights.{raised_act}
use Rattle.session_form.proofs.HeightLemmas.{moved-at}
use Rattle.session_form.proofs.raising.raised_acts.Goals as goal

pub loop-place-preserved : goal.loop-place-preserved
loop-place-preserved c =
    moved-at (raised_act c.args.clock) c.loop-place.place c.args.acts.items c.loop-place.acts.items c.index_mut.result.now c.raise.new.act c.loop-place.invariant c.index_mut.ensures.value c.raise.ensures
