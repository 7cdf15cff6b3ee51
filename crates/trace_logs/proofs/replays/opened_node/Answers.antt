use Rattle.trace_logs.proofs.Names.{IfOk, AreBrokerActs, Scripted, opened_life, own_acts, Lives, sym, ap, subst, ◌∙◌}
use Rattle.trace_logs.proofs.ReplayedNodeLemmas.{own-acts, own-scripted}
use Rattle.trace_logs.proofs.replays.opened_node.Goals as goal

pub open-requires-clause-acts : goal.open-requires-clause-acts
open-requires-clause-acts c = subst AreBrokerActs (sym c.in_ok-own.ensures) (own-acts c.args.opened.now.node.kind c.args.opened.now.node.number c.args.acts.now c.requires.acts)

pub returns-clause-lives : goal.returns-clause-lives
returns-clause-lives c b run acts scripted =
    subst (λ z. IfOk c.open.result (λ s. Lives b s (opened_life c.args.start z))) (c.in_ok-log.ensures ∙ c.as_slice.ensures)
    (c.open.ensures.lives b run (c.in_ok-own.ensures ∙ ap (own_acts c.args.opened.now.node) (sym acts))
    (subst (Scripted b.script) (sym c.in_ok-own.ensures) (own-scripted b.script c.args.opened.now.node.kind c.args.opened.now.node.number c.args.acts.now scripted)))
