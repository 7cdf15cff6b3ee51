-- The acts of a plan of the language are acts that a broker can have, and their scripts are in range.
use Rattle.std.proofs.lemmas.List.Sums.{length-filter, count_by-le-length}
use Rattle.world_core.proofs.Names.{Every, ActSpec, block, Plan, CanRun, IsBrokerAct, acts_of, ℕ, ◌≤◌, Bool, true, false, cond, List, [], ◌∷◌, arith, ◌==◌, filter, of-whole, AreBrokerActs, printable-up}
use Rattle.plan_form.specs.PlanTexts as plans
use Rattle.serial_model.specs.Ranges.{BlockInRange}
use Rattle.serial_model.proofs.ScriptRangeLemmas.{printable-InRange}

act-is : (repositories brokers k : ℕ) (act : ActSpec) → repositories ≤ 16 → 1 ≤ k → k ≤ 10000 → plans.IsAct repositories brokers k act → IsBrokerAct act
act-is repositories brokers k act few low high is = record {
  index_low = (let e = is.index in omega arith);
  index_high = (let e = is.index in omega arith);
  home_low = is.home.0;
  home_high = (let h = is.home.1 in omega arith);
  timeout_low = is.timeout.0;
  timeout_high = is.timeout.1;
  tries_low = is.tries.0;
  tries_high = is.tries.1;
  clock_low = is.clock.0;
  clock_high = (let h = is.clock.1 in omega arith);
  script = printable-up repositories 16 (block act.script.lines) few is.script;
}

pub plan-acts : (plan : Plan) → CanRun plan → Every IsBrokerAct plan.acts
plan-acts plan w = of-whole IsBrokerAct plan w (λ k act low high is. act-is plan.repositories plan.brokers k act w.repositories.1 low high is)

every-filter : {X : Type 0} (P : X → Type 0) (test : X → Bool) (xs : List X) → Every P xs → Every P (filter test xs)
every-filter P test [] h = tt
every-filter P test (x ∷ xs) h = go (test x) (every-filter P test xs h.1)
  where
    go : (t : Bool) → Every P (filter test xs) → Every P (cond t (x ∷ filter test xs) (filter test xs))
    go true k = (h.0, k)
    go false k = k

pub own-acts : (b : ℕ) (acts : List ActSpec) → AreBrokerActs acts → AreBrokerActs (acts_of b acts)
own-acts b acts h = record {
  each = every-filter IsBrokerAct (λ (a : ActSpec). a.broker == b) acts h.each;
  few = let e = length-filter (λ (a : ActSpec). a.broker == b) acts in let l = count_by-le-length (λ (a : ActSpec). a.broker == b) acts in let f = h.few in omega (arith, e, l, f);
}

pub plan-AreBrokerActs : (plan : Plan) → CanRun plan → AreBrokerActs plan.acts
plan-AreBrokerActs plan w = record { each = plan-acts plan w; few = w.few }

pub plan-own_acts : (plan : Plan) (b : ℕ) → CanRun plan → AreBrokerActs (acts_of b plan.acts)
plan-own_acts plan b w = own-acts b plan.acts (plan-AreBrokerActs plan w)

pub whole-scripts : (plan : Plan) → CanRun plan → Every (λ act. BlockInRange (block act.script.lines)) plan.acts
whole-scripts plan w = of-whole (λ act. BlockInRange (block act.script.lines)) plan w (λ k act low high is_act. printable-InRange plan.repositories (block act.script.lines) is_act.script)
