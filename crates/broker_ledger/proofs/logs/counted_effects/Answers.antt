use Rattle.broker_ledger.proofs.Names.{reverse, ◌∙◌, ap, arith, take_all, fresh_ledger, counts_led}
use Rattle.broker_ledger.proofs.LogLemmas.{counting-is}
use Rattle.broker_ledger.proofs.logs.counted_effects.Goals as goal

pub returns : goal.returns
returns c = λ script m.
    let l = fresh_ledger c.args.number c.args.run c.args.acts.items in
    let f = c.loop-effect-test.false in
    c.loop-effect.invariant.flags
    ∙ ap (λ es. counts_led l (reverse es)) (take_all c.loop-effect.effect-index c.args.effects.now (omega (arith, f)))
    ∙ counting-is script c.args.number c.args.run c.args.acts.items m (reverse c.args.effects.now)
