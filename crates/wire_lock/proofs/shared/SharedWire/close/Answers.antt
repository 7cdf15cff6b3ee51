use Rattle.wire_lock.proofs.Names.{CarriesOn, knows, Trace, IsOneOf, owner_of, trace_of, ap, sym, subst, get_or, ◌∙◌, List, ℕ, All}
use Rattle.wire_lock.proofs.SightLemmas.{idle-closed, rest-closed}
use Rattle.wire_lock.proofs.UntoldLemmas.{untold}
use Rattle.wire_lock.proofs.shared.SharedWire.close.Goals as goal

pub close-wire-requires-clause-passes : goal.close-wire-requires-clause-passes
close-wire-requires-clause-passes g c = λ k d lt. (c.requires.passes k d lt).of_lock

pub returns-clause-carries : goal.returns-clause-carries
returns-clause-carries g c =
    λ k d lt. subst (CarriesOn owner_of (knows (get_or c.args.passes.items k d))) (sym (ap (λ (t : Trace). t.entries) c.finish-trace.ensures.trace)) (c.close-wire.ensures.carries k d lt)

pub returns-clause-idle : goal.returns-clause-idle
returns-clause-idle g c =
    λ t. idle-closed c.close-wire.result _ _ c.idle-idle.result c.finish-trace.ensures.trace c.close-wire.ensures.stands (sym c.is_broken-broken.ensures ∙ c.if-broken.false) (c.idle-idle.ensures.idle t)

pub returns-clause-rest : goal.returns-clause-rest
returns-clause-rest g c =
    λ i. rest-closed c.close-wire.result _ _ c.finish-trace.ensures.trace c.close-wire.ensures.stands (c.idle-idle.ensures.quiet.0 i).1

pub returns-then-broken-clause-untold : goal.returns-then-broken-clause-untold
returns-then-broken-clause-untold g c = (
  trace_of c.close-wire.result,
  untold g.M.Medium.tells c.close-wire.result _ c.finish-trace.result.0 c.close-wire.ensures.stands c.finish-trace.ensures.trace c.finish-trace.ensures.sent c.finish-trace.ensures.legal,
  c.close-wire.ensures.carries,
  subst (λ (os : List ℕ). All (λ e. IsOneOf os (owner_of e)) c.close-wire.result.entries) c.args.self.owners c.close-wire.ensures.owned,
)
