use Rattle.page_form.proofs.Names.{Place, IsPlace, entry_at, ◌<◌, None, sym, ◌∙◌, refl}
use Rattle.page_form.proofs.LogLemmas.{heads_same, heads_push, kept_push, has_back, written_push}
use Rattle.page_form.proofs.last_puts.note.Goals as goal

pub returns-in-None-clause-heads : goal.returns-in-None-clause-heads
returns-in-None-clause-heads c log fits = heads_same c.args.heads.now log (entry_at log c.args.place c.args.effect.now) (sym c.object_put.ensures ∙ c.in-None.is) fits

pub returns-in_ok-back-in-Some-clause-heads : goal.returns-in_ok-back-in-Some-clause-heads
returns-in_ok-back-in-Some-clause-heads c log fits = heads_push c.args.heads.now c.insert.new.self log (entry_at log c.args.place c.args.effect.now) c.in-Some.object (sym c.object_put.ensures ∙ c.in-Some.is) fits c.in_ok-back-in-Some.ensures.updates

pub returns-in_ok-back-in-Some-clause-places : goal.returns-in_ok-back-in-Some-clause-places
returns-in_ok-back-in-Some-clause-places c = kept_push (λ (p : Place). IsPlace p) c.args.heads.now c.insert.new.self c.in-Some.object c.args.place c.requires.place c.requires.places c.in_ok-back-in-Some.ensures.updates

pub returns-in-None-clause-written : goal.returns-in-None-clause-written
returns-in-None-clause-written c h = has_back c.args.effect.now None h tt (λ no_put. refl)

pub returns-in_ok-back-in-Some-clause-written : goal.returns-in_ok-back-in-Some-clause-written
returns-in_ok-back-in-Some-clause-written c h = written_push c.args.heads.now c.args.effect.now c.in-Some.object c.in_ok-back-in-Some.back c.in_ok-back-in-Some.ensures.old (sym c.object_put.ensures ∙ c.in-Some.is) c.requires.places h

pub returns-in_ok-back-in-Some-clause-below : goal.returns-in_ok-back-in-Some-clause-below
returns-in_ok-back-in-Some-clause-below c limit low below = kept_push (λ (p : Place). p.page < limit) c.args.heads.now c.insert.new.self c.in-Some.object c.args.place low below c.in_ok-back-in-Some.ensures.updates
