-- What the map of settled attempts has, after one effect more.
use Rattle.forward_copy.proofs.Names.{◌≡◌, Bool, true, false, List, ◌∷◌, refl, sym, ◌∙◌, ap, Option, Some, None, cond, if◌then◌else◌, is_eq, get-insert, true≢false, false≢true, eq_by_cmp_equiv, StampParts, stamp_cmp, same_stamp, stamp_cmp-total, same_stamp-is, Effect, Learn, or_else, settle_of, Settled, known, decided_by, is_commit, with_decision, AreKnown}
use Rattle.std.specs.Prelude.{is_some}
use Rattle.std.specs.FinMap as finite
use Rattle.pseudo_time.specs.declared.decisions.Decision.{Decision}

-- what a log knows with one effect more
pub known-more : (f : Effect) (l : List Effect) (s : StampParts) → known (f ∷ l) s ≡ with_decision (decided_by f) s (known l s)
unfolding settle_of
known-more (Learn p true) l s = refl
known-more (Learn p false) l s = refl
known-more _ l s = refl

first_settle : (b : Bool) (c : Bool) (r u : Option Bool) → (b ≡ true → u ≡ None) → r ≡ u → cond b (Some c) r ≡ (if b then or_else u c else u)
first_settle true c r u h e = ap (λ z. or_else z c) (sym (h refl))
first_settle false c r u h e = e

later_settle : (b : Bool) (c d : Bool) (u : Option Bool) → (b ≡ true → u ≡ Some d) → u ≡ (if b then or_else u c else u)
later_settle true c d u h = h refl ∙ ap (λ z. or_else z c) (sym (h refl))
later_settle false c d u h = refl

-- nothing is decided by the effect
pub known-plain : (l : List Effect) (f : Effect) (old : Settled) → decided_by f ≡ None → AreKnown l old → AreKnown (f ∷ l) old
known-plain l f old e h s = h s ∙ sym (known-more f l s ∙ ap (λ z. with_decision z s (known l s)) e)

-- the attempt wasn't settled
pub known-first : (l : List Effect) (f : Effect) (old : Settled) (d : StampParts × Decision) → decided_by f ≡ Some d → finite.get old d.0 ≡ None → AreKnown l old →
    AreKnown (f ∷ l) (finite.insert old d.0 (is_commit d.1))
unfolding same_stamp
known-first l f old d e none h s =
    get-insert stamp_cmp-total old d.0 (is_commit d.1) s ∙ ap (λ b. cond b (Some (is_commit d.1)) (finite.get old s)) ((eq_by_cmp_equiv stamp_cmp-total).symm s d.0)
    ∙ first_settle (is_eq (stamp_cmp d.0 s)) (is_commit d.1) (finite.get old s) (known l s) (λ t. ap (known l) (sym (same_stamp-is d.0 s t)) ∙ sym (h d.0) ∙ none) (h s)
    ∙ sym (known-more f l s ∙ ap (λ z. with_decision z s (known l s)) e)

-- it was
pub known-again : (l : List Effect) (f : Effect) (old : Settled) (d : StampParts × Decision) (c : Bool) → decided_by f ≡ Some d → finite.get old d.0 ≡ Some c → AreKnown l old → AreKnown (f ∷ l) old
unfolding same_stamp
known-again l f old d c e there h s =
    h s ∙ later_settle (is_eq (stamp_cmp d.0 s)) (is_commit d.1) c (known l s) (λ t. ap (known l) (sym (same_stamp-is d.0 s t)) ∙ sym (h d.0) ∙ there)
    ∙ sym (known-more f l s ∙ ap (λ z. with_decision z s (known l s)) e)

pub none-of : (r : Option Bool) → is_some r ≡ false → r ≡ None
none-of None h = refl
none-of (Some d) h = absurd (true≢false h)

pub known-kept : (l : List Effect) (f : Effect) (old : Settled) (d : StampParts × Decision) (r : Option Bool) → decided_by f ≡ Some d → r ≡ finite.get old d.0 → is_some r ≡ true → AreKnown l old →
    AreKnown (f ∷ l) old
known-kept l f old d None e is h k = absurd (false≢true h)
known-kept l f old d (Some c) e is h k = known-again l f old d c e (sym is) k
