-- The logs that are read off a trace are the durable logs at its end.
use Rattle.trace_report.proofs.Names.{NodeId, Effect, ActSpec, Tree, Plan, CanRun, AreBrokerActs, reading, Scripted, Opened, Trace, gated_log, own-reading, logs_in, logs_by, ◌≡◌, List, ℕ, sym, ◌∙◌, ap, subst, base_for, walk, plan-AreBrokerActs}
use Rattle.trace_report.proofs.LogLemmas.{logs-are}

pub plan-acts : (plan : Plan) (acts : List ActSpec) → CanRun plan → acts ≡ plan.acts → AreBrokerActs acts
plan-acts plan acts w is = subst AreBrokerActs (sym is) (plan-AreBrokerActs plan w)

pub logs-found : (plan : Plan) (t : Trace) (acts : List ActSpec) → CanRun plan → acts ≡ plan.acts → (logs : List Opened) →
    ((script : List ℕ → Tree) → Scripted script acts → logs ≡ logs_in (walk (base_for script plan.run acts t) t.entries) t.opened) → ◌≡◌ {A = NodeId → List Effect} (logs_by logs) (gated_log plan t)
logs-found plan t acts w is logs h =
    ap logs_by (h (reading plan.acts) (subst (Scripted (reading plan.acts)) (sym is) (own-reading plan w)) ∙ ap (λ (as' : List ActSpec). logs_in (walk (base_for (reading plan.acts) plan.run as' t) t.entries) t.opened) is)
    ∙ (λ i n. logs-are plan t n i)
