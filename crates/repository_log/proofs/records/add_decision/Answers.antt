use Rattle.repository_log.proofs.Names.{◌∷◌, ◌∙◌, sym, subst, States, AreDecided}
use Rattle.repository_log.proofs.OpenLemmas.{decided-step, decided-same, kept-step, kept-same}
use Rattle.repository_log.proofs.records.add_decision.Goals as goal

pub returns-in-None-clause-records : goal.returns-in-None-clause-records
returns-in-None-clause-records c = λ whole part h. decided-same whole c.args.effect.now part c.args.records.now (sym c.decided_by.ensures ∙ c.in-None.is) h

pub returns-in-None-clause-early : goal.returns-in-None-clause-early
returns-in-None-clause-early c = λ whole part h k. kept-same whole c.args.effect.now part c.args.early.now.entries (sym c.decided_by.ensures ∙ c.in-None.is) k

pub returns-in_ok-decide_record-in-Some-clause-records :
    goal.returns-in_ok-decide_record-in-Some-clause-records
returns-in_ok-decide_record-in-Some-clause-records c = λ whole part h.
    subst (λ (r : States). AreDecided whole (c.args.effect.now ∷ part) r) (sym c.in_ok-decide_record-in-Some.ensures.records)
    (decided-step whole c.args.effect.now part c.in-Some.decided.0 c.in-Some.decided.1 c.args.records.now (sym c.decided_by.ensures ∙ c.in-Some.is) h)

pub returns-in_ok-decide_record-in-Some-clause-early :
    goal.returns-in_ok-decide_record-in-Some-clause-early
returns-in_ok-decide_record-in-Some-clause-early c = λ whole part h k.
    kept-step whole c.args.effect.now part c.in-Some.decided.0 c.in-Some.decided.1 c.args.records.now c.args.early.now.entries c.decide_record.new.early.entries
    (sym c.decided_by.ensures ∙ c.in-Some.is) h k c.in_ok-decide_record-in-Some.ensures.early
