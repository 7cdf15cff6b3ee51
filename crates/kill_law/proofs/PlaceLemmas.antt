-- A place of a legal trace as the end of a legal run in which each node was opened.
use Rattle.std.proofs.Common.{◌≡◌, ◌⊎◌, inl, inr, ⊎_elim, ℕ, Bool, true, false, ◌&&◌, List, [], ◌∷◌, ◌++◌, take, refl, sym, ap, subst, ◌∙◌, if◌then◌else◌}
use Rattle.std.specs.Prelude.{Some}
use Rattle.std.proofs.lemmas.Bool.{cases_Bool}
use Rattle.pseudo_time.specs.Lists.{Every}
use Rattle.pseudo_time.specs.declared.nodes.NodeId.{NodeId}
use Rattle.effect_form.specs.declared.effects.Effect.{Effect}
use Rattle.stream_port.specs.declared.fates.Asked.{Asked}
use Rattle.serial_model.specs.Questions.{Tree}
use Rattle.plan_form.specs.declared.plans.Plan.{Plan}
use Rattle.plan_form.specs.PlanTexts.{CanRun}
use Rattle.world_core.specs.declared.entries.Entry.{Entry}
use Rattle.world_core.specs.declared.entries.Entry.TheVariants.{Down}
use Rattle.world_core.specs.declared.traces.Trace.{Trace}
use Rattle.world_core.specs.Walks.{Base, Life, World, opened_log, is_down, names, start_world, step, walk_from, walk}
use Rattle.world_core.specs.Legal.{Legal, base_of, in_plan}
use Rattle.world_core.specs.Pasts.{Call, IsCall, OpenedWith, WasNotOpened, log_left, own_reading}
use Rattle.world_core.specs.Readings.{IsLegal}
use Rattle.world_core.proofs.Legality.{before-legal}
use Rattle.world_facts.specs.Earlier.{ComeFrom, Earlier, WereLeftOrRetired, logs_left}
use Rattle.world_facts.specs.Earlier.Earlier.{Running}
use Rattle.kill_law.specs.Places.{IsLogOf, LeftAt, LeftBy, life_by}

-- ---- Downs

abbrev AreDowns : List Entry → Type 0
AreDowns es = Every (λ (e : Entry). is_down e ≡ true) es

are_downs : (es : List Entry) → AreDowns es ⊎ (AreDowns es → ⊥)
are_downs [] = inl tt
are_downs (e ∷ es) = ⊎_elim
    (λ yes. ⊎_elim (λ rest. inl (yes, rest)) (λ none. inr (λ all. none all.1)) (are_downs es))
    (λ no. inr (λ all. absurd (cc (sym no ∙ all.0))))
    (cases_Bool (is_down e))

-- no node lives further by a Down
same-by : (b : Bool) (l : Life) → (if b then l else l) ≡ l
same-by true l = refl
same-by false l = refl

down-step : (b : Base) (w : World) (e : Entry) (n : NodeId) → is_down e ≡ true → (step b w e).life n ≡ w.life n
down-step b w (Down node cause) n h = same-by (names n (Down node cause) && (w.flags n).known) (w.life n)
down-step b w _ n h = absurd (cc h)

downs-walk : (b : Base) (w : World) (es : List Entry) (n : NodeId) → AreDowns es → (walk_from b w es).life n ≡ w.life n
unfolding walk_from
downs-walk b w [] n h = refl
downs-walk b w (e ∷ es) n h = downs-walk b (step b w e) es n h.1 ∙ down-step b w e n h.0

downs-life : (b : Base) (es : List Entry) (n : NodeId) → AreDowns es → (walk b []).life n ≡ (walk b es).life n
unfolding walk_from
downs-life b es n h = sym (downs-walk b (start_world b) es n h)

-- ---- a place as an end

-- a legal run in which each node was opened, with the same logs, that ends with the lives of this place
record EndsThere (script : List ℕ → Tree) (plan : Plan) (t : Trace) (front : List Entry) : Type 0 where
  asked : List Asked
  trace : Trace
  opened : trace.opened ≡ t.opened
  legal : Legal script plan asked trace
  all : (n : NodeId) → WasNotOpened trace.entries n → ⊥
  lives : (n : NodeId) → (walk (base_of script plan trace) trace.entries).life n ≡ life_by script plan t front n

ends-there : (script : List ℕ → Tree) (plan : Plan) (asked : List Asked) (t : Trace) (front rest : List Entry) → Legal script plan asked t → t.entries ≡ front ++ rest → EndsThere script plan t front
ends-there script plan asked t front rest legal here = ⊎_elim
    (λ downs.
    let cut = before-legal script plan asked t [] t.entries legal refl in
    record {
      asked = cut.2;
      trace = record { start = t.start; opened = t.opened; sent = cut.0; entries = [] };
      opened = refl;
      legal = cut.5;
      all = λ n was. was.0.1;
      lives = λ n. downs-life (base_of script plan t) front n downs;
    })
    (λ others.
    let cut = before-legal script plan asked t front rest legal here in
    record {
      asked = cut.2;
      trace = record { start = t.start; opened = t.opened; sent = cut.0; entries = front };
      opened = refl;
      legal = cut.5;
      all = λ n was. others was.1;
      lives = λ n. refl;
    })
    (are_downs front)

-- ---- how much of the open effects was left

module _ (read : Plan → List ℕ → Tree) (plan : Plan) (t : Trace) (front : List Entry) (logs after : NodeId → List Effect) (left : LeftBy (read plan) plan t front logs after) where
  abbrev kept-if : (n : NodeId) (d : Bool) → in_plan plan n ≡ d → ℕ
  kept-if n true h = (left.own n h).kept
  kept-if n false h = 0

  abbrev kept-of : NodeId → ℕ
  kept-of n = kept-if n (in_plan plan n) refl

  kept-is : (n : NodeId) (d : Bool) (h : in_plan plan n ≡ d) → in_plan plan n ≡ true
      → after n ≡ (life_by (read plan) plan t front n).gated ++ take (kept-if n d h) (life_by (read plan) plan t front n).fresh
  kept-is n true h within = (left.own n h).is
  kept-is n false h within = absurd (cc (sym h ∙ within))

  abbrev call-of : EndsThere (read plan) plan t front → Call
  call-of e = record { plan = plan; asked = e.asked; trace = e.trace; kept = kept-of }

  -- it is a run over what the calls before it left
  is-call : (e : EndsThere (read plan) plan t front) (cs : List Earlier) → OpenedWith t.opened logs → ((n : NodeId) → logs n ≡ logs_left read cs n) → IsCall read (logs_left read cs) (call-of e)
  is-call e cs agrees had = record { agrees = λ n log at. agrees n log (subst (λ o. opened_log o n ≡ Some log) e.opened at) ∙ had n; legal = e.legal; opened = λ n within was. e.all n was }

  -- and leaves these logs
  leaves : (e : EndsThere (read plan) plan t front) (cs : List Earlier) → ((n : NodeId) → logs n ≡ logs_left read cs n) → (n : NodeId) (d : Bool) → in_plan plan n ≡ d
      → after n ≡ (if d then log_left read (call-of e) n else logs_left read cs n)
  leaves e cs had n true h = kept-is n (in_plan plan n) refl h ∙ sym (ap (λ (l : Life). l.gated ++ take (kept-of n) l.fresh) (e.lives n))
  leaves e cs had n false h = left.others n h ∙ had n

pub came-there : (read : Plan → List ℕ → Tree) (plan : Plan) (asked : List Asked) (t : Trace) (front rest : List Entry) (logs after : NodeId → List Effect)
    → ComeFrom read logs → OpenedWith t.opened logs → Legal (read plan) plan asked t → t.entries ≡ front ++ rest → LeftBy (read plan) plan t front logs after → ComeFrom read after
came-there read plan asked t front rest logs after past agrees legal here left =
    let e : EndsThere (read plan) plan t front = ends-there (read plan) plan asked t front rest legal here in (
      Running (call-of read plan t front logs after left e) ∷ past.0,
      (past.1, is-call read plan t front logs after left e past.0 agrees past.2),
      λ n. leaves read plan t front logs after left e past.0 past.2 n (in_plan plan n) refl,
    )

-- ---- by plans alone

pub were-left-there : (plan : Plan) (asked : List Asked) (t : Trace) (front rest : List Entry) (logs after : NodeId → List Effect) → CanRun plan
    → WereLeftOrRetired logs → OpenedWith t.opened logs → IsLegal plan asked t → t.entries ≡ front ++ rest → LeftAt plan t front logs after → WereLeftOrRetired after
were-left-there plan asked t front rest logs after whole past agrees legal here left =
    let e : EndsThere (own_reading plan) plan t front = ends-there (own_reading plan) plan asked t front rest legal here in (
      Running (call-of own_reading plan t front logs after left e) ∷ past.0,
      ((past.1.0, is-call own_reading plan t front logs after left e past.0 agrees past.2), (whole, past.1.1)),
      λ n. leaves own_reading plan t front logs after left e past.0 past.2 n (in_plan plan n) refl,
    )

pub keeps-there : (l : Life) (log : List Effect) → IsLogOf l log → (late : List Effect) × (log ≡ l.gated ++ late)
keeps-there l log is = (take is.kept l.fresh, is.is)
