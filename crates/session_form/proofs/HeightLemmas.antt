-- How far logs have come, and what is above.
use Rattle.std.proofs.Common.{◌≡◌, ◌++◌, ◌<◌, ◌≤◌, ◌+◌, ◌-◌, ◌^◌, ◌∙◌, ℕ, zero, suc, List, [], ◌∷◌, ap, arith, drop, get_or, map, max, refl, slice_set, take}
use Rattle.pseudo_time.specs.Lists.{Every}
use Rattle.value_form.specs.declared.acts.ActSpec.{ActSpec}
use Rattle.effect_form.specs.declared.effects.Effect.{Effect}
use Rattle.session_form.specs.declared.heights.Heights.{Heights}
use Rattle.plan_form.specs.declared.plans.Plan.{Plan}
use Rattle.plan_form.specs.PlanTexts.{EachAct, CanRun}
use Rattle.std.proofs.lemmas.List.{length-map}
use Rattle.session_form.specs.Heights.{Covers, HasRoom, IsNoLower, clock_in, raised, raised_act, run_in, with_effect, with_log}

pub rises : (h : Heights) (log : List Effect) → IsNoLower h (with_log h log)
rises h [] = (omega arith, omega arith)
rises h (f ∷ log) = let k = rises (with_effect h f) log in let r : max h.run (run_in f) ≤ (with_log h (f ∷ log)).run = k.0 in let c : max h.clock (clock_in f) ≤ (with_log h (f ∷ log)).clock = k.1 in (omega (arith, r), omega (arith, c))

pub covers : (h : Heights) (log : List Effect) → Covers (with_log h log) log
covers h [] = tt
covers h (f ∷ log) =
    let k = rises (with_effect h f) log in
    let r : max h.run (run_in f) ≤ (with_log h (f ∷ log)).run = k.0 in
    let c : max h.clock (clock_in f) ≤ (with_log h (f ∷ log)).clock = k.1 in
    ((omega (arith, r), omega (arith, c)), covers (with_effect h f) log)

pub least : (h g : Heights) (log : List Effect) → IsNoLower h g → Covers g log → IsNoLower (with_log h log) g
least h g [] low all = low
least h g (f ∷ log) low all = let a = low.0 in let b = low.1 in let r = all.0.0 in let c = all.0.1 in least (with_effect h f) g log (omega (arith, a, r), omega (arith, b, c)) all.1

pub all-above : (clock : ℕ) (acts : List ActSpec) → Every (λ (a : ActSpec). clock + 1 ≤ a.clock) (map (raised_act clock) acts)
all-above clock [] = tt
all-above clock (a ∷ acts) = (omega arith, all-above clock acts)

-- one more of the items is moved in its place
moved-step : {A : Type 0} → (f : A → A) (i : ℕ) (xs : List A) (d : A) → slice_set (map f (take i xs) ++ drop i xs) i (f (get_or (map f (take i xs) ++ drop i xs) i d)) ≡ map f (take (suc i) xs) ++ drop (suc i) xs
moved-step f zero [] d = refl
moved-step f (suc i) [] d = refl
moved-step f zero (x ∷ xs) d = refl
moved-step f (suc i) (x ∷ xs) d = ap (λ l. f x ∷ l) (moved-step f i xs d)

pub moved-at : {A : Type 0} → (f : A → A) (i : ℕ) (xs items : List A) (d new : A) → items ≡ map f (take i xs) ++ drop i xs → d ≡ get_or items i d → new ≡ f d → slice_set items i new ≡ map f (take (i + 1) xs) ++ drop (i + 1) xs
moved-at {A} f i xs items d new is at e =
    let k : new ≡ f (get_or (map f (take i xs) ++ drop i xs) i d) = e ∙ ap f (at ∙ ap (λ (l : List A). get_or l i d) is) in
    let next : suc i ≡ i + 1 = omega arith in
    ap (λ (l : List A). slice_set l i new) is ∙ (ap (λ (x : A). slice_set (map f (take i xs) ++ drop i xs) i x) k ∙ (moved-step f i xs d ∙ ap (λ (n : ℕ). map f (take n xs) ++ drop n xs) next))

-- ---- plans that can run

each-raised : (repositories brokers n clock : ℕ) (acts : List ActSpec) → clock < 2 ^ 40 - 1 → EachAct repositories brokers n acts → EachAct repositories brokers n (map (raised_act clock) acts)
each-raised repositories brokers n clock [] low h = tt
each-raised repositories brokers n clock (a ∷ acts) low h =
    let c = h.0.clock.0 in
    let d = h.0.clock.1 in (
      record { index = h.0.index; broker = h.0.broker; home = h.0.home; timeout = h.0.timeout; tries = h.0.tries; clock = (omega (arith, c), omega (arith, d, low)); script = h.0.script },
      each-raised repositories brokers (n + 1) clock acts low h.1,
    )

pub raised-runs : (h : Heights) (plan : Plan) → HasRoom h → CanRun plan → CanRun (raised h plan)
raised-runs h plan room is =
    let r = room.0 in
    let few = is.few in
    let same = length-map plan.acts (raised_act h.clock) in
    record {
      run = (omega arith, omega (arith, r));
      repositories = is.repositories;
      brokers = is.brokers;
      acts = each-raised plan.repositories plan.brokers 1 h.clock plan.acts room.1 is.acts;
      few = omega (arith, few, same);
    }
