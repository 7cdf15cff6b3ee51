use Rattle.repository_log.proofs.Names.{◌∷◌, ◌∙◌, sym, subst, States, AreBegun}
use Rattle.repository_log.proofs.OpenLemmas.{begun-step, begun-same}
use Rattle.repository_log.proofs.records.add_begin.Goals as goal

pub returns-in-None : goal.returns-in-None
returns-in-None c = λ part h. begun-same c.args.effect.now part c.args.records.now (sym c.begun_by.ensures ∙ c.in-None.is) h

pub returns-in_ok-begin-in-Some : goal.returns-in_ok-begin-in-Some
returns-in_ok-begin-in-Some c = λ part h.
    subst (λ (r : States). AreBegun (c.args.effect.now ∷ part) r) (sym c.in_ok-begin-in-Some.ensures.begun)
    (begun-step c.args.effect.now part c.in-Some.begun.0 c.in-Some.begun.1 c.args.records.now (sym c.begun_by.ensures ∙ c.in-Some.is) h)
