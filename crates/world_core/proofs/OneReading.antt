-- One reading for a plan and all plans of the past.
use Rattle.world_core.proofs.Names.{Every, Has, every-append, has-left, NodeId, ActSpec, Effect, Asked, Tree, Plan, CanRun, Scripted, Trace, World, Legal, in_plan, Call, AreCalls, HasPast, logs_after, log_left, IsBrokerAct, ◌≡◌, ℕ, Bool, true, false, List, [], ◌∷◌, ◌++◌, refl, ◌∙◌, ap, if◌then◌else◌, take, has-right, alike, own_reading, reads-all, reads-own}
use Rattle.broker_core.specs.Readings.{reading}
use Rattle.world_core.proofs.PlanRangeLemmas.{plan-acts}
use Rattle.world_core.specs.Readings.{IsLegal, WereLeft}
use Rattle.world_core.proofs.SameWorlds.{walk-same, legal-same}

-- ---- the past

acts_in : List Call → List ActSpec
acts_in [] = []
acts_in (c ∷ cs) = c.plan.acts ++ acts_in cs

-- the reading of a plan's acts reads them
pub own-reading : (plan : Plan) → CanRun plan → Scripted (reading plan.acts) plan.acts
own-reading plan w = reads-own plan.acts (plan-acts plan w)

abbrev AreWhole : List Call → Type 0
AreWhole cs = Every (λ (c : Call). CanRun c.plan) cs

all-acts : (cs : List Call) → AreWhole cs → Every IsBrokerAct (acts_in cs)
unfolding acts_in
all-acts [] h = tt
all-acts (c ∷ cs) h = every-append IsBrokerAct c.plan.acts (acts_in cs) (plan-acts c.plan h.0) (all-acts cs h.1)

-- of these acts, among which are those of all the calls
module _ (all : List ActSpec) (ps : Every IsBrokerAct all) where
  abbrev common : List ℕ → Tree
  common = reading all

  left-same : (c : Call) → Scripted (reading c.plan.acts) c.plan.acts → Scripted common c.plan.acts → (n : NodeId) → log_left own_reading c n ≡ log_left (alike common) c n
  left-same c h k n = ap (λ (w : World). (w.life n).gated ++ take (c.kept n) (w.life n).fresh) (walk-same (reading c.plan.acts) common c.plan h k c.trace c.trace.entries)

  by-plan : (d : Bool) (x x' y y' : List Effect) → x ≡ x' → y ≡ y' → (if d then x else y) ≡ (if d then x' else y')
  by-plan true x x' y y' e f = e
  by-plan false x x' y y' e f = f

  read-all : (c : Call) (cs : List Call) → CanRun c.plan → ((a : ActSpec) → Has a (acts_in (c ∷ cs)) → Has a all) → Scripted common c.plan.acts
  unfolding acts_in
  read-all c cs w h = reads-all all c.plan.acts ps (plan-acts c.plan w) (λ a k. h a (has-left c.plan.acts (acts_in cs) a k))

  in-rest : (c : Call) (cs : List Call) → ((a : ActSpec) → Has a (acts_in (c ∷ cs)) → Has a all) → (a : ActSpec) → Has a (acts_in cs) → Has a all
  unfolding acts_in
  in-rest c cs h a k = h a (has-right c.plan.acts (acts_in cs) a k)

  logs-same : (cs : List Call) → AreWhole cs → ((a : ActSpec) → Has a (acts_in cs) → Has a all) → (n : NodeId) → logs_after own_reading cs n ≡ logs_after (alike common) cs n
  logs-same [] w h n = refl
  logs-same (c ∷ cs) w h n = by-plan (in_plan c.plan n) _ _ _ _ (left-same c (own-reading c.plan w.0) (read-all c cs w.0 h) n) (logs-same cs w.1 (in-rest c cs h) n)

  are-calls : (cs : List Call) → AreCalls own_reading cs → AreWhole cs → ((a : ActSpec) → Has a (acts_in cs) → Has a all) → AreCalls (alike common) cs
  are-calls [] k w h = tt
  are-calls (c ∷ cs) k w h = (
    are-calls cs k.0 w.1 (in-rest c cs h),
    record {
      agrees = λ n log e. k.1.agrees n log e ∙ logs-same cs w.1 (in-rest c cs h) n;
      legal = legal-same (reading c.plan.acts) common c.plan (own-reading c.plan w.0) (read-all c cs w.0 h) c.asked c.trace k.1.legal;
      opened = k.1.opened;
    },
  )

-- Runs that are legal each by its own plan, and a trace over what they left, are legal by one reading.
pub common-reading : (plan : Plan) (asked : List Asked) (t : Trace) (logs : NodeId → List Effect) → CanRun plan → IsLegal plan asked t → (left : WereLeft logs) →
    (script : List ℕ → Tree) × AreCalls (alike script) left.0 × ((n : NodeId) → logs n ≡ logs_after (alike script) left.0 n) × Legal script plan asked t
common-reading plan asked t logs w l left =
    let all = plan.acts ++ acts_in left.0 in
    let ps = every-append IsBrokerAct plan.acts (acts_in left.0) (plan-acts plan w) (all-acts left.0 left.1.1) in
    let within : (a : ActSpec) → Has a (acts_in left.0) → Has a all = λ a k. has-right plan.acts (acts_in left.0) a k in (
      reading all,
      are-calls all ps left.0 left.1.0 left.1.1 within,
      (λ n. left.2 n ∙ logs-same all ps left.0 left.1.1 within n),
      legal-same (reading plan.acts) (reading all) plan (own-reading plan w) (reads-all all plan.acts ps (plan-acts plan w) (λ a k. has-left plan.acts (acts_in left.0) a k)) asked t l,
    )

-- So the logs have a past by it.
pub one-reading : (plan : Plan) (asked : List Asked) (t : Trace) (logs : NodeId → List Effect) → CanRun plan → IsLegal plan asked t → WereLeft logs →
    (script : List ℕ → Tree) × HasPast (alike script) logs × Legal script plan asked t
one-reading plan asked t logs w l left =
    let r = common-reading plan asked t logs w l left in
    (r.0, (left.0, r.1, r.2), r.3)
