use Rattle.page_form.specs.Sheets.{place_alone}
use Rattle.page_form.proofs.ReadLemmas.{at_none, at_some, held_none, held_some}
use Rattle.page_form.proofs.page_reads.add_held.Goals as goal

pub returns-in-None-clause-found : goal.returns-in-None-clause-found
returns-in-None-clause-found c log pieces was stand small =
    let read = c.in_ok-add_effect.ensures in
    held_none log (place_alone c.args.held.now.first) c.deref.result.now c.args.held.now.bytes.items pieces c.deref.ensures.value read.small small stand
    (at_none c.in_ok-add_effect.field-0 _ c.add_effect.new.heads c.add_effect.new.effects.items c.in-None.is (read.found log was))

pub returns-in-Some-clause-found : goal.returns-in-Some-clause-found
returns-in-Some-clause-found c log pieces was stand small =
    let read = c.in_ok-add_effect.ensures in
    held_some log (place_alone c.args.held.now.first) c.deref.result.now c.args.held.now.bytes.items pieces c.in-Some.rest.now c.add_effect.new.heads c.add_effect.new.effects.items c.is_empty.result c.deref.ensures.value read.small small stand c.is_empty.ensures
    (at_some c.in_ok-add_effect.field-0 _ c.add_effect.new.heads c.add_effect.new.effects.items c.in-Some.rest c.in-Some.is (read.found log was))

pub returns-in-None-clause-below : goal.returns-in-None-clause-below
returns-in-None-clause-below c limit low below = c.in_ok-add_effect.ensures.below limit low below

pub returns-in-Some-clause-below : goal.returns-in-Some-clause-below
returns-in-Some-clause-below c limit low below = c.in_ok-add_effect.ensures.below limit low below
