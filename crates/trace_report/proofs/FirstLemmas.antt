-- What a log says first of an attempt.
use Rattle.trace_report.proofs.Names.{is_some, is_eq, true≢false, false≢true, eq_by_cmp_equiv, StampParts, same_stamp, stamp_cmp-total, Effect, knows, has_commit, has_learned, Said, AreFirsts, is_decided, is_learned, ◌≡◌, Bool, true, false, List, [], ◌∷◌, refl, sym, ◌∙◌, ap, Option, Some, None, ◌&&◌, ◌||◌, not, if◌then◌else◌, cond, stamp_cmp, same_stamp-is, first_said, is_commit, said_by, first_of, or_else}
use Rattle.std.specs.FinMap as finite
use Rattle.std.specs.FinMap.{get-empty, get-insert}
use Rattle.pseudo_time.specs.declared.decisions.Decision.{Decision}
use Rattle.pseudo_time.specs.declared.decisions.Decision.TheVariants as decision
use Rattle.effect_form.specs.declared.effects.Effect.TheVariants as effect
use Rattle.trace_report.specs.declared.firsts.First.{First}
use Rattle.trace_report.specs.declared.firsts.First.TheVariants.{Decided, Learned}

pub firsts-none : (said : Said) → said ≡ finite.empty → AreFirsts [] said
unfolding first_of
firsts-none said e s = ap (λ z. finite.get z s) e ∙ get-empty stamp_cmp s

pub firsts-same : (said : Said) (log : List Effect) (f : Effect) → said_by f ≡ None → AreFirsts log said → AreFirsts (f ∷ log) said
unfolding first_of
firsts-same said log f e h s = h s ∙ ap (λ z. first_said z (first_of log s) s) (sym e)

pub nothing-said : (f : Effect) → ((t : StampParts) (d : Decision) → f ≡ effect.Decide t d → ⊥) → ((t : StampParts) (c : Bool) → f ≡ effect.Learn t c → ⊥) → said_by f ≡ None
nothing-said (effect.Decide t d) h k = absurd (h t d refl)
nothing-said (effect.Learn t c) h k = absurd (k t c refl)
nothing-said f h k = refl

first_entry : (b : Bool) (x : First) (r u : Option First) → (b ≡ true → u ≡ None) → r ≡ u → cond b (Some x) r ≡ (if b then or_else u x else u)
first_entry true x r u h e = ap (λ z. or_else z x) (sym (h refl))
first_entry false x r u h e = e

later_entry : (b : Bool) (x y : First) (u : Option First) → (b ≡ true → u ≡ Some y) → u ≡ (if b then or_else u x else u)
later_entry true x y u h = h refl ∙ ap (λ z. or_else z x) (sym (h refl))
later_entry false x y u h = refl

pub firsts-new : (said new : Said) (log : List Effect) (f : Effect) (t : StampParts) (x : First) (r : Option First) → said_by f ≡ Some (t, x) → r ≡ finite.get said t → is_some r ≡ false → new ≡ finite.insert said t x →
    AreFirsts log said → AreFirsts (f ∷ log) new
unfolding first_of same_stamp
firsts-new said new log f t x (Some y) e is none put h s = absurd (true≢false none)
firsts-new said new log f t x None e is none put h s =
    ap (λ z. finite.get z s) put ∙ get-insert stamp_cmp-total said t x s ∙ ap (λ b. cond b (Some x) (finite.get said s)) ((eq_by_cmp_equiv stamp_cmp-total).symm s t)
    ∙ first_entry (is_eq (stamp_cmp t s)) x (finite.get said s) (first_of log s) (λ k. ap (first_of log) (sym (same_stamp-is t s k)) ∙ sym (is ∙ h t)) (h s)
    ∙ ap (λ z. first_said z (first_of log s) s) (sym e)

pub firsts-again : (said : Said) (log : List Effect) (f : Effect) (t : StampParts) (x : First) (r : Option First) → said_by f ≡ Some (t, x) → r ≡ finite.get said t → is_some r ≡ true → AreFirsts log said → AreFirsts (f ∷ log) said
unfolding first_of same_stamp
firsts-again said log f t x None e is some h s = absurd (false≢true some)
firsts-again said log f t x (Some y) e is some h s =
    h s ∙ later_entry (is_eq (stamp_cmp t s)) x y (first_of log s) (λ k. ap (first_of log) (sym (same_stamp-is t s k)) ∙ sym (is ∙ h t)) ∙ ap (λ z. first_said z (first_of log s) s) (sym e)

-- ---- what is known

known-step : (b : Bool) (x : First) (r : Option First) → (b || is_some r) ≡ is_some (if b then or_else r x else r)
known-step true x None = refl
known-step true x (Some y) = refl
known-step false x r = refl

knows-is : (log : List Effect) (s : StampParts) → knows log s ≡ is_some (first_of log s)
unfolding knows first_of
knows-is [] s = refl
knows-is (effect.Decide t d ∷ log) s = ap (λ z. same_stamp t s || z) (knows-is log s) ∙ known-step (same_stamp t s) (Decided (is_commit d)) (first_of log s)
knows-is (effect.Learn t c ∷ log) s = ap (λ z. same_stamp t s || z) (knows-is log s) ∙ known-step (same_stamp t s) (Learned c) (first_of log s)
knows-is (f ∷ log) s = knows-is log s

commit-step : (b : Bool) (r : Option First) → ((b && not (is_some r)) || is_decided r) ≡ is_decided (if b then or_else r (Decided true) else r)
commit-step true None = refl
commit-step true (Some y) = refl
commit-step false r = refl

not-commit : (b : Bool) (x : First) (r : Option First) → is_decided (Some x) ≡ false → is_decided r ≡ is_decided (if b then or_else r x else r)
not-commit true x None h = sym h
not-commit true x (Some y) h = refl
not-commit false x r h = refl

pub commit-is : (log : List Effect) (s : StampParts) → has_commit s log ≡ is_decided (first_of log s)
unfolding has_commit first_of
commit-is [] s = refl
commit-is (effect.Decide t decision.Committed ∷ log) s =
    ap (λ z. (same_stamp t s && not z) || has_commit s log) (knows-is log s) ∙ ap (λ z. (same_stamp t s && not (is_some (first_of log s))) || z) (commit-is log s) ∙ commit-step (same_stamp t s) (first_of log s)
commit-is (effect.Decide t decision.Withdrawn ∷ log) s = commit-is log s ∙ not-commit (same_stamp t s) (Decided false) (first_of log s) refl
commit-is (effect.Decide t (decision.Expired d m) ∷ log) s = commit-is log s ∙ not-commit (same_stamp t s) (Decided false) (first_of log s) refl
commit-is (effect.Learn t c ∷ log) s = commit-is log s ∙ not-commit (same_stamp t s) (Learned c) (first_of log s) refl
commit-is (f ∷ log) s = commit-is log s

learn-step : (b : Bool) (r : Option First) → ((b && not (is_some r)) || is_learned r) ≡ is_learned (if b then or_else r (Learned true) else r)
learn-step true None = refl
learn-step true (Some y) = refl
learn-step false r = refl

not-learn : (b : Bool) (x : First) (r : Option First) → is_learned (Some x) ≡ false → is_learned r ≡ is_learned (if b then or_else r x else r)
not-learn true x None h = sym h
not-learn true x (Some y) h = refl
not-learn false x r h = refl

pub learned-is : (log : List Effect) (s : StampParts) → has_learned s log ≡ is_learned (first_of log s)
unfolding has_learned first_of
learned-is [] s = refl
learned-is (effect.Decide t d ∷ log) s = learned-is log s ∙ not-learn (same_stamp t s) (Decided (is_commit d)) (first_of log s) refl
learned-is (effect.Learn t true ∷ log) s =
    ap (λ z. (same_stamp t s && not z) || has_learned s log) (knows-is log s) ∙ ap (λ z. (same_stamp t s && not (is_some (first_of log s))) || z) (learned-is log s) ∙ learn-step (same_stamp t s) (first_of log s)
learned-is (effect.Learn t false ∷ log) s = learned-is log s ∙ not-learn (same_stamp t s) (Learned false) (first_of log s) refl
learned-is (f ∷ log) s = learned-is log s
