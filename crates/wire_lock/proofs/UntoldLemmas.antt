-- What is known of a trace that no one is told.
use Rattle.wire_lock.proofs.Names.{◌≡◌, Bool, ◌++◌, map, IsTrue, Trace, sent_by, Origin, WireParts, trace_of, world_of, end_of, ap, sym, subst, ◌∙◌, post_of, asked_of, IsRunOf, IsUntold}
use Rattle.plan_form.specs.declared.plans.Plan.{Plan}
use Rattle.world_core.specs.Readings.{IsLegal}

pub untold : (told : Bool) (w : WireParts) (o : Origin) (t : Trace) → w.origin ≡ o → t ≡ trace_of w → (IsTrue told → map post_of w.sent ≡ sent_by (world_of w))
    → (IsTrue told → (plan : Plan) → IsRunOf plan w.origin → IsLegal plan (w.origin.asked ++ map asked_of w.sent) t) → IsUntold told o (trace_of w)
untold told w o t same is sent legal = record {
  start = ap (λ (p : Origin). p.start) same;
  opened = ap (λ (p : Origin). p.opened) same;
  sent = λ yes. sent yes ∙ ap (λ (p : Origin). sent_by (end_of p (trace_of w))) same;
  legal = λ yes plan run. subst (λ (p : Origin). IsLegal plan (p.asked ++ map asked_of w.sent) (trace_of w)) same (subst (λ (u : Trace). IsLegal plan (w.origin.asked ++ map asked_of w.sent) u) is (legal yes plan (subst (λ (p : Origin). IsRunOf plan p) (sym same) run)));
}
