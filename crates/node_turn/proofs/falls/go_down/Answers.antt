use Rattle.node_turn.proofs.Names.{knows, cost_of_cause, same_node-refl, refl, [], arith, ◌+◌}
use Rattle.node_inputs.proofs.LifeLemmas.{on-ok, on-err, stored-looked}
use Rattle.node_inputs.proofs.TrailLemmas.{trail-looked, trail-added}
use Rattle.node_turn.proofs.FallLemmas.{had-nothing, down-fallen}
use Rattle.node_turn.proofs.PhaseLemmas.{passes-seen, passes-fallen}
use Rattle.node_turn.proofs.SettleLemmas.{closes-none}
use Rattle.node_turn.proofs.falls.go_down.Goals as goal

pub down-pass-requires-clause-none : goal.down-pass-requires-clause-none
down-pass-requires-clause-none g c = had-nothing c.args.node (knows c.args.pass) c.requires.struck.due

pub returns-in-Err-clause-keeps : goal.returns-in-Err-clause-keeps
returns-in-Err-clause-keeps g c = λ gone count. stored-looked c.requires.struck.stored (on-err _ _ _ c.in-Err.is c.down-pass.ensures.err)

pub returns-in-Err-clause-trail : goal.returns-in-Err-clause-trail
returns-in-Err-clause-trail g c = (0, omega arith, λ ne. absurd (ne refl), trail-looked c.args.node c.requires.struck.stored.own c.requires.pass.own (on-err _ _ _ c.in-Err.is c.down-pass.ensures.err))

pub returns-in-Ok-clause-keeps : goal.returns-in-Ok-clause-keeps
returns-in-Ok-clause-keeps g c = λ gone count. down-fallen c.args.cause c.requires.struck c.requires.cause (on-ok _ _ _ c.in-Ok.is c.down-pass.ensures.ok)

pub returns-in-Ok-clause-trail : goal.returns-in-Ok-clause-trail
returns-in-Ok-clause-trail g c =
    (cost_of_cause c.args.cause + 0, omega arith, λ ne. omega arith, trail-added c.args.node [] (cost_of_cause c.args.cause + 0) c.requires.struck.stored.own c.requires.pass.own refl refl refl (on-ok _ _ _ c.in-Ok.is c.down-pass.ensures.ok).added)

pub returns-in-Err-clause-passes : goal.returns-in-Err-clause-passes
returns-in-Err-clause-passes g c = λ told. passes-seen g.M.Medium g.met.M.Medium.only_now c.requires.struck.stored c.requires.pass.own (on-err _ _ _ c.in-Err.is c.down-pass.ensures.err) told

pub returns-in-Ok-clause-passes : goal.returns-in-Ok-clause-passes
returns-in-Ok-clause-passes g c = λ told. passes-fallen g.M.Medium g.met.M.Medium.only_now c.requires.struck.stored c.requires.pass.own (same_node-refl c.args.node) (on-ok _ _ _ c.in-Ok.is c.down-pass.ensures.ok) told

pub returns-in-Err-clause-names : goal.returns-in-Err-clause-names
returns-in-Err-clause-names g c = λ ne. absurd (ne refl)

pub returns-in-Ok-clause-names : goal.returns-in-Ok-clause-names
returns-in-Ok-clause-names g c = λ ne. refl

pub returns-in-Err-clause-closes : goal.returns-in-Err-clause-closes
returns-in-Err-clause-closes g c = λ told ne. absurd (ne refl)

pub returns-in-Ok-clause-closes : goal.returns-in-Ok-clause-closes
returns-in-Ok-clause-closes g c = λ told ne. closes-none _ _ ((on-ok _ _ _ c.in-Ok.is c.down-pass.ensures.ok).lives told)
