use Rattle.node_turn.proofs.Names.{HistoryFault, knows, refl, sym, subst, arith, NamesPage}
use Rattle.node_turn.specs.declared.conditions.Condition.TheVariants as condition
use Rattle.node_turn.proofs.CostLemmas.{pays-none, pays-one}
use Rattle.node_inputs.proofs.TrailLemmas.{trail-none, trail-cost}
use Rattle.node_turn.proofs.PhaseLemmas.{passes-stored}
use Rattle.node_turn.proofs.turns.give_up.Goals as goal

pub returns-in-NoMemory-clause-keeps : goal.returns-in-NoMemory-clause-keeps
returns-in-NoMemory-clause-keeps g c = rw c.in-NoMemory.is at c.requires.after

pub returns-in-NoMemory-clause-trail : goal.returns-in-NoMemory-clause-trail
returns-in-NoMemory-clause-trail g c = (0, trail-none c.args.node (knows c.args.pass))

pub returns-in-NoMemory-clause-paid : goal.returns-in-NoMemory-clause-paid
returns-in-NoMemory-clause-paid g c = λ before rose le. pays-none _ _ _ _ (omega arith) le

pub returns-in-NoMemory-clause-dear : goal.returns-in-NoMemory-clause-dear
returns-in-NoMemory-clause-dear g c = λ told ne. absurd (ne refl)

pub open_anew-requires-clause-struck : goal.open_anew-requires-clause-struck
open_anew-requires-clause-struck g c = rw c.in-Medium.is at c.requires.after

pub returns-in-Medium-clause-paid : goal.returns-in-Medium-clause-paid
returns-in-Medium-clause-paid g c = λ before rose le first r. c.open_anew.ensures.paid first (pays-one _ _ _ _ (omega arith) (rose c.in-Medium.is) first r)

pub go_down-pass-requires-clause-struck : goal.go_down-pass-requires-clause-struck
go_down-pass-requires-clause-struck g c = (rw c.in-Damaged.is at c.requires.after).0

pub go_down-pass-requires-clause-cause : goal.go_down-pass-requires-clause-cause
go_down-pass-requires-clause-cause g c = (rw c.in-Damaged.is at c.requires.after).1

pub returns-in-Damaged-clause-trail : goal.returns-in-Damaged-clause-trail
returns-in-Damaged-clause-trail g c = let t = c.go_down-pass.ensures.trail in (t.0, t.3)

pub returns-in-Damaged-clause-paid : goal.returns-in-Damaged-clause-paid
returns-in-Damaged-clause-paid g c = λ before rose le.
    let t = c.go_down-pass.ensures.trail in
    let e = trail-cost t.3 in
    let few = t.1 in
    pays-none _ _ _ _ (omega (arith, e, few)) le

pub returns-in-Damaged-clause-dear : goal.returns-in-Damaged-clause-dear
returns-in-Damaged-clause-dear g c = λ told ne. absurd ((rw c.in-Damaged.is at c.requires.after).1 told)

pub returns-in-Damaged-clause-grew : goal.returns-in-Damaged-clause-grew
returns-in-Damaged-clause-grew g c = λ w. absurd (c.go_down-pass.ensures.stops w)

pub returns-in-NoMemory-clause-passes : goal.returns-in-NoMemory-clause-passes
returns-in-NoMemory-clause-passes g c = λ told. passes-stored g.M.Medium g.met.M.Medium.only_now (rw c.in-NoMemory.is at c.requires.after) told

pub returns-in-NoMemory-clause-names : goal.returns-in-NoMemory-clause-names
returns-in-NoMemory-clause-names g c = subst (λ (f : HistoryFault). NamesPage f condition.Wanting) (sym c.in-NoMemory.is) tt

pub returns-in-Medium-clause-names : goal.returns-in-Medium-clause-names
returns-in-Medium-clause-names g c = subst (λ (f : HistoryFault). NamesPage f c.open_anew.result.1.condition) (sym c.in-Medium.is) tt

pub returns-in-Damaged-clause-names : goal.returns-in-Damaged-clause-names
returns-in-Damaged-clause-names g c = subst (λ (f : HistoryFault). NamesPage f c.go_down-pass.result.1) (sym c.in-Damaged.is) c.go_down-pass.ensures.names

pub returns-in-NoMemory-clause-closes : goal.returns-in-NoMemory-clause-closes
returns-in-NoMemory-clause-closes g c = λ told ne. absurd (ne refl)
