-- What holds of each act of a plan: its script has a text, and its broker and home are those of a stamp.
use Rattle.plan_form.proofs.Names.{ℕ, ◌+◌, ◌≤◌, List, [], ◌∷◌, length, arith, ActSpec, block, Plan, IsPlan, IsAct, CanRun, EachAct}
use Rattle.pseudo_time.specs.Lists.{Every}
use Rattle.pseudo_time.specs.StampParts.{IsInRange}
use Rattle.value_form.specs.Ranges.{IsScript}
use Rattle.script_form.proofs.RangeLemmas.{printable-range}
use Rattle.plan_form.proofs.PlanTextLemmas.{plan_can_run}

-- indices count from n
each-act : (P : ActSpec → Type 0) (repositories brokers n : ℕ) (acts : List ActSpec) → n + length acts ≤ 10001 → 1 ≤ n → ((k : ℕ) (act : ActSpec) → 1 ≤ k → k ≤ 10000 → IsAct repositories brokers k act → P act)
    → EachAct repositories brokers n acts → Every P acts
each-act P repositories brokers n [] few low holds h = tt
each-act P repositories brokers n (act ∷ more) few low holds (is, others) = (holds n act low (omega arith) is, each-act P repositories brokers (n + 1) more (omega arith) (omega arith) holds others)

pub of-whole : (P : ActSpec → Type 0) (plan : Plan) → CanRun plan → ((k : ℕ) (act : ActSpec) → 1 ≤ k → k ≤ 10000 → IsAct plan.repositories plan.brokers k act → P act) → Every P plan.acts
of-whole P plan w holds = let few = w.few in each-act P plan.repositories plan.brokers 1 plan.acts (omega arith) (omega arith) holds w.acts

act-names : (repositories brokers k : ℕ) (act : ActSpec) → repositories ≤ 16 → brokers ≤ 16 → IsAct repositories brokers k act → IsInRange 1 act.broker act.home
act-names repositories brokers k act few_r few_b is = record {
  clock_low = omega arith;
  clock_high = omega arith;
  broker_low = is.broker.0;
  broker_high = (let h = is.broker.1 in omega arith);
  home_low = is.home.0;
  home_high = (let h = is.home.1 in omega arith);
}

pub whole-names : (plan : Plan) → CanRun plan → Every (λ act. IsInRange 1 act.broker act.home) plan.acts
whole-names plan w = of-whole (λ act. IsInRange 1 act.broker act.home) plan w (λ k act low high is_act. act-names plan.repositories plan.brokers k act w.repositories.1 w.brokers is_act)

-- ---- of the bytes of a plan

pub plan-scripts : (bytes : List ℕ) (plan : Plan) → IsPlan bytes plan → Every (λ act. IsScript act.script.lines) plan.acts
plan-scripts bytes plan is =
    of-whole (λ act. IsScript act.script.lines) plan (plan_can_run bytes plan is) (λ k act low high is_act. printable-range plan.repositories (block act.script.lines) is_act.script)
