use Rattle.std.proofs.Common.{◌∙◌, eq-eqb}
use Rattle.std.proofs.lemmas.Bool.{ne_eqb}
use Rattle.wire_lock.proofs.SightLemmas.{pass-origin, tested-of}
use Rattle.wire_lock.proofs.DecisionLemmas.{held-stands, answer-yes, answer-no, answer-none}
use Rattle.wire_lock.proofs.shared.SharedWire.decided.Goals as goal

pub returns-then-number-number_of-clause-tested : goal.returns-then-number-number_of-clause-tested
returns-then-number-number_of-clause-tested g c =
    tested-of _ _ c.args.stamp _ c.test-number.result _ c.requires.pass.own c.place_of.ensures.value c.test-number.ensures.kept c.test-number.ensures.carries
    (answer-yes c.args.stamp _ _ c.number_of.ensures (eq-eqb _ _ c.if-number-number_of.true))

pub returns-then-number-number_of-clause-stands : goal.returns-then-number-number_of-clause-stands
returns-then-number-number_of-clause-stands g c =
    held-stands g.M.Medium.tells _ _ _ _ _ c.args.stamp _ c.place_of.ensures.in_range (pass-origin c.args.self.now.lock c.test-number.new.pass c.test-number.ensures.pass) c.test-number.ensures.may
    (c.if-number-number_of.true ∙ c.number_of.ensures)

pub returns-then-number-number_of-2-clause-tested : goal.returns-then-number-number_of-2-clause-tested
returns-then-number-number_of-2-clause-tested g c =
    tested-of _ _ c.args.stamp _ c.test-number.result _ c.requires.pass.own c.place_of.ensures.value c.test-number.ensures.kept c.test-number.ensures.carries
    (answer-no c.args.stamp _ _ _ c.number_of.ensures c.number_of-2.ensures (ne_eqb _ _ c.if-number-number_of.false) (eq-eqb _ _ c.if-number-number_of-2.true))

pub returns-then-number-number_of-2-clause-stands : goal.returns-then-number-number_of-2-clause-stands
returns-then-number-number_of-2-clause-stands g c =
    held-stands g.M.Medium.tells _ _ _ _ _ c.args.stamp _ c.place_of.ensures.in_range (pass-origin c.args.self.now.lock c.test-number.new.pass c.test-number.ensures.pass) c.test-number.ensures.may
    (c.if-number-number_of-2.true ∙ c.number_of-2.ensures)

pub returns-clause-tested : goal.returns-clause-tested
returns-clause-tested g c =
    tested-of _ _ c.args.stamp _ c.test-number.result _ c.requires.pass.own c.place_of.ensures.value c.test-number.ensures.kept c.test-number.ensures.carries
    (answer-none c.args.stamp _ _ _ c.number_of.ensures c.number_of-2.ensures (ne_eqb _ _ c.if-number-number_of.false) (ne_eqb _ _ c.if-number-number_of-2.false))
