-- One reading for a plan and all plans of the runs among earlier calls.
use Rattle.serial_law.proofs.Names.{Every, Has, repository, TimeParts, has-left, has-right, NodeId, ActSpec, Effect, Asked, Tree, Plan, CanRun, Scripted, Trace, in_plan, alike, own_reading, IsLegal, World, sent_by, own-reading, walk-same, AreEarlier, AreOfLanguage, Earlier, WereLeftOrRetired, replaced, sent_earlier, Running, Retiring, ◌≡◌, ℕ, List, [], ◌∷◌, ◌++◌, refl, ◌∙◌, ap, subst, reverse, if◌then◌else◌, take, same_node, every-append, MayRetire, forward, Legal, Call, log_left, legal-same, logs_left, EachAct, block, denote, ◌+◌, ◌≤◌, ◌==◌}
use Rattle.std.specs.Cmp.Lexicographic.{pointwise}
use Rattle.script_form.specs.RowTexts.{script_text}
use Rattle.broker_core.specs.Ledgers.{IsBrokerAct}
use Rattle.broker_core.specs.Readings.{reading}
use Rattle.broker_core.proofs.ReadingLemmas.{reads-all}
use Rattle.world_core.proofs.PlanRangeLemmas.{plan-acts}
use Rattle.serial_law.proofs.Inside.{Inside, inside-if, inside-more, inside-script}

acts_of_all : List Earlier → List ActSpec
acts_of_all [] = []
acts_of_all (Running c ∷ cs) = c.plan.acts ++ acts_of_all cs
acts_of_all (Retiring r at ∷ cs) = acts_of_all cs

-- the script of an act of the language asks for objects of sixteen repositories at most
IsInside : ActSpec → Type 0
IsInside a = Inside 16 (denote (block a.script.lines))

inside-acts : (n k first : ℕ) (acts : List ActSpec) → n ≤ 16 → EachAct n k first acts → Every IsInside acts
unfolding IsInside
inside-acts n k first [] low h = tt
inside-acts n k first (a ∷ acts) low h = (inside-more n 16 (denote (block a.script.lines)) low (inside-script n (block a.script.lines) h.0.script.limits), inside-acts n k (first + 1) acts low h.1)

inside-all : (cs : List Earlier) → AreOfLanguage cs → Every IsInside (acts_of_all cs)
unfolding acts_of_all
inside-all [] h = tt
inside-all (Running c ∷ cs) h = every-append IsInside c.plan.acts (acts_of_all cs) (inside-acts c.plan.repositories c.plan.brokers 1 c.plan.acts h.0.repositories.1 h.0.acts) (inside-all cs h.1)
inside-all (Retiring r at ∷ cs) h = inside-all cs h

-- and so does whatever text they read
inside-read : (acts : List ActSpec) (text : List ℕ) → Every IsInside acts → Inside 16 (reading acts text)
unfolding reading IsInside
inside-read [] text h = tt
inside-read (a ∷ acts) text h = inside-if 16 (pointwise ◌==◌ (script_text (block a.script.lines)) text) (denote (block a.script.lines)) (reading acts text) h.0 (inside-read acts text h.1)

all-acts : (cs : List Earlier) → AreOfLanguage cs → Every IsBrokerAct (acts_of_all cs)
unfolding acts_of_all
all-acts [] h = tt
all-acts (Running c ∷ cs) h = every-append IsBrokerAct c.plan.acts (acts_of_all cs) (plan-acts c.plan h.0) (all-acts cs h.1)
all-acts (Retiring r at ∷ cs) h = all-acts cs h

-- of these acts, among which are those of all the calls
module _ (all : List ActSpec) (ps : Every IsBrokerAct all) where
  abbrev common : List ℕ → Tree
  common = reading all

  abbrev Within : List Earlier → Type 0
  Within cs = (a : ActSpec) → Has a (acts_of_all cs) → Has a all

  read-all : (c : Call) (cs : List Earlier) → CanRun c.plan → Within (Running c ∷ cs) → Scripted common c.plan.acts
  unfolding acts_of_all
  read-all c cs w h = reads-all all c.plan.acts ps (plan-acts c.plan w) (λ a k. h a (has-left c.plan.acts (acts_of_all cs) a k))

  in-rest : (c : Call) (cs : List Earlier) → Within (Running c ∷ cs) → Within cs
  unfolding acts_of_all
  in-rest c cs h a k = h a (has-right c.plan.acts (acts_of_all cs) a k)

  in-same : (r : ℕ) (at : TimeParts) (cs : List Earlier) → Within (Retiring r at ∷ cs) → Within cs
  unfolding acts_of_all
  in-same r at cs h = h

  left-same : (c : Call) → Scripted (reading c.plan.acts) c.plan.acts → Scripted common c.plan.acts → (n : NodeId) → log_left own_reading c n ≡ log_left (alike common) c n
  left-same c h k n = ap (λ (w : World). (w.life n).gated ++ take (c.kept n) (w.life n).fresh) (walk-same (reading c.plan.acts) common c.plan h k c.trace c.trace.entries)

  logs-same : (cs : List Earlier) → AreOfLanguage cs → Within cs → (n : NodeId) → logs_left own_reading cs n ≡ logs_left (alike common) cs n
  logs-same [] w h n = refl
  logs-same (Running c ∷ cs) w h n = λ i. if in_plan c.plan n then left-same c (own-reading c.plan w.0) (read-all c cs w.0 h) n i else logs-same cs w.1 (in-rest c cs h) n i
  logs-same (Retiring r at ∷ cs) w h n = λ i. if same_node (repository r) n then forward (logs-same cs w (in-same r at cs h) n i) at else logs-same cs w (in-same r at cs h) n i

  replaced-same : (cs : List Earlier) → AreOfLanguage cs → Within cs → (n : NodeId) → replaced own_reading cs n ≡ replaced (alike common) cs n
  replaced-same [] w h n = refl
  replaced-same (Running c ∷ cs) w h n = replaced-same cs w.1 (in-rest c cs h) n
  replaced-same (Retiring r at ∷ cs) w h n = λ i. if same_node (repository r) n then logs-same cs w (in-same r at cs h) n i ∷ replaced-same cs w (in-same r at cs h) n i else replaced-same cs w (in-same r at cs h) n i

  sent-same : (cs : List Earlier) → AreOfLanguage cs → Within cs → sent_earlier own_reading cs ≡ sent_earlier (alike common) cs
  sent-same [] w h = refl
  sent-same (Running c ∷ cs) w h = λ i. sent-same cs w.1 (in-rest c cs h) i ++ sent_by (walk-same (reading c.plan.acts) common c.plan (own-reading c.plan w.0) (read-all c cs w.0 h) c.trace c.trace.entries i)
  sent-same (Retiring r at ∷ cs) w h = sent-same cs w (in-same r at cs h)

  are-earlier : (cs : List Earlier) → AreEarlier own_reading cs → AreOfLanguage cs → Within cs → AreEarlier (alike common) cs
  are-earlier [] k w h = tt
  are-earlier (Running c ∷ cs) k w h = (
    are-earlier cs k.0 w.1 (in-rest c cs h),
    record {
      agrees = λ n log e. k.1.agrees n log e ∙ logs-same cs w.1 (in-rest c cs h) n;
      legal = legal-same (reading c.plan.acts) common c.plan (own-reading c.plan w.0) (read-all c cs w.0 h) c.asked c.trace k.1.legal;
      opened = k.1.opened;
    },
  )
  are-earlier (Retiring r at ∷ cs) k w h = (are-earlier cs k.0 w (in-same r at cs h), subst (λ log. MayRetire (reverse log) at) (logs-same cs w (in-same r at cs h) (repository r)) k.1)

-- what one reading gives of a plan, a trace and what earlier calls left
pub record OneReading (plan : Plan) (asked : List Asked) (t : Trace) (logs : NodeId → List Effect) (cs : List Earlier) : Type 0 where
  pub script : List ℕ → Tree
  pub are : AreEarlier (alike script) cs
  pub left : (n : NodeId) → logs n ≡ logs_left (alike script) cs n
  pub legal : Legal script plan asked t
  pub replaced_so : (n : NodeId) → replaced own_reading cs n ≡ replaced (alike script) cs n
  pub sent_so : sent_earlier own_reading cs ≡ sent_earlier (alike script) cs
  pub inside : (text : List ℕ) → Inside 16 (script text)

pub older-reading : (plan : Plan) (asked : List Asked) (t : Trace) (logs : NodeId → List Effect) → CanRun plan → IsLegal plan asked t → (left : WereLeftOrRetired logs) → OneReading plan asked t logs left.0
older-reading plan asked t logs w l left =
    let all = plan.acts ++ acts_of_all left.0 in
    let ps = every-append IsBrokerAct plan.acts (acts_of_all left.0) (plan-acts plan w) (all-acts left.0 left.1.1) in
    let within : (a : ActSpec) → Has a (acts_of_all left.0) → Has a all = λ a k. has-right plan.acts (acts_of_all left.0) a k in
    record {
      script = reading all;
      are = are-earlier all ps left.0 left.1.0 left.1.1 within;
      left = λ n. left.2 n ∙ logs-same all ps left.0 left.1.1 within n;
      legal = legal-same (reading plan.acts) (reading all) plan (own-reading plan w) (reads-all all plan.acts ps (plan-acts plan w) (λ a k. has-left plan.acts (acts_of_all left.0) a k)) asked t l;
      replaced_so = replaced-same all ps left.0 left.1.1 within;
      sent_so = sent-same all ps left.0 left.1.1 within;
      inside = λ text. inside-read all text (every-append IsInside plan.acts (acts_of_all left.0) (inside-acts plan.repositories plan.brokers 1 plan.acts w.repositories.1 w.acts) (inside-all left.0 left.1.1));
    }
