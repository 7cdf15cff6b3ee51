use Rattle.trace_report.proofs.Names.{IfOk, acts_of, kept, logs_by, ◌≡◌, ap, ◌∙◌, length, reverse, subst}
use Rattle.trace_report.specs.Books as spec
use Rattle.trace_report.proofs.BookLemmas.{own-acts, flags-length, begun-read}
use Rattle.trace_report.proofs.books.begun_by.Goals as goal

pub counted_effects-requires-clause-acts : goal.counted_effects-requires-clause-acts
counted_effects-requires-clause-acts c =
    own-acts c.args.plan.now c.requires.whole c.args.number c.in_ok-own.own.items (c.in_ok-own.ensures ∙ ap (acts_of c.args.number) c.as_slice.ensures)

pub read_off-requires : goal.read_off-requires
read_off-requires c =
    ap length c.as_slice-2.ensures.value
    ∙ flags-length c.args.plan.now c.requires.whole c.args.number c.in_ok-own.own.items (c.in_ok-own.ensures ∙ ap (acts_of c.args.number) c.as_slice.ensures)
    c.in_ok-flags.flags.items c.log_of-log.result.now c.in_ok-flags.ensures

pub returns : goal.returns
returns c =
    subst (λ z. IfOk c.read_off.result (λ begun. kept begun.items ≡ z))
    (ap (λ fs. spec.read_off (reverse fs) (reverse c.log_of-log.result.now)) c.as_slice-2.ensures.value
    ∙ begun-read c.args.plan.now c.requires.whole c.args.number c.in_ok-own.own.items (c.in_ok-own.ensures ∙ ap (acts_of c.args.number) c.as_slice.ensures)
    c.in_ok-flags.flags.items c.log_of-log.result.now c.in_ok-flags.ensures (logs_by c.args.logs.now) (c.log_of-log.ensures ∙ ap (logs_by c.args.logs.now) c.broker.ensures))
    c.read_off.ensures
