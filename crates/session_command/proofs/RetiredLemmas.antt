-- How far the copy of a retired log goes.
use Rattle.std.proofs.Common.{◌≡◌, ◌∙◌, ◌<◌, ◌≤◌, Bool, true, false, ℕ, List, [], ◌∷◌, ap, arith, inl, inr, refl, reverse, subst, sym, ◌⊎◌}
use Rattle.std.specs.Prelude.{Option, Some, None, not, ◌||◌, if◌then◌else◌}
use Rattle.std.specs.Cmp.{nat_cmp_is}
use Rattle.std.specs.Ordering.{is_lt, nat_cmp, ordering_then}
use Rattle.std.specs.declared.cmp.Ordering.TheVariants.{Greater, Less}
use Rattle.std.proofs.lemmas.Bool.{cases_lt}
use Rattle.std.proofs.lemmas.List.{reverse-reverse}
use Rattle.pseudo_time.specs.Lists.{Every}
use Rattle.pseudo_time.specs.Order.{lt}
use Rattle.pseudo_time.specs.TimeParts.{TimeParts}
use Rattle.pseudo_time.proofs.ListLemmas.{every-reverse}
use Rattle.pseudo_time.proofs.OrderLemmas.{lt-asymmetric, lt-fall, lt-irreflexive, lt-trans}
use Rattle.effect_form.specs.declared.effects.Effect.{Effect}
use Rattle.effect_form.specs.declared.effects.Effect.TheVariants as effect
use Rattle.object_history.specs.History.{floor_of, same_place, top, version_count}
use Rattle.repository_log.specs.Logs.{marks}
use Rattle.object_retirement.specs.Forward.{MayRetire, carried, forward}
use Rattle.object_retirement.specs.Retired.{stays_put}
use Rattle.session_form.specs.declared.heights.Heights.{Heights}
use Rattle.session_form.specs.Heights.{Covers, clock_in, run_in}

clock-order : (x y : TimeParts) → lt x y ≡ true → x.stamp.clock ≤ y.stamp.clock
unfolding lt
clock-order x y h = by (cases_lt y.stamp.clock x.stamp.clock)
  where
    by : (y.stamp.clock < x.stamp.clock) ⊎ (x.stamp.clock ≤ y.stamp.clock) → x.stamp.clock ≤ y.stamp.clock
    by (inl more) =
        let e = nat_cmp_is x.stamp.clock y.stamp.clock Greater more in
        let k : false ≡ true = subst (λ o. is_lt (ordering_then (ordering_then o (ordering_then (nat_cmp x.stamp.broker y.stamp.broker) (nat_cmp x.stamp.home y.stamp.home))) (nat_cmp x.step y.step)) ≡ true) (sym e) h in
        absurd (cc k)
    by (inr low) = low

not-before : (x y : TimeParts) → lt y x ≡ false → x.stamp.clock ≤ y.stamp.clock
unfolding lt
not-before x y h = by (cases_lt y.stamp.clock x.stamp.clock)
  where
    by : (y.stamp.clock < x.stamp.clock) ⊎ (x.stamp.clock ≤ y.stamp.clock) → x.stamp.clock ≤ y.stamp.clock
    by (inl more) =
        let e = nat_cmp_is y.stamp.clock x.stamp.clock Less more in
        let k : true ≡ false = subst (λ o. is_lt (ordering_then (ordering_then o (ordering_then (nat_cmp y.stamp.broker x.stamp.broker) (nat_cmp y.stamp.home x.stamp.home))) (nat_cmp y.step x.step)) ≡ false) (sym e) h in
        absurd (cc k)
    by (inr low) = low

put-below : (a s : Bool) → false ≡ (not a || s) → a ≡ true
put-below true s e = refl
put-below false s e = absurd (cc e)

top-after : (x : TimeParts) (e : Option TimeParts) → (z : TimeParts) × (top x e ≡ Some z) × (lt z x ≡ false)
top-after x None = (x, refl, lt-self x)
  where
    lt-self : (a : TimeParts) → lt a a ≡ false
    lt-self a = lt-irreflexive a
top-after x (Some y) = by (lt x y) refl
  where
    by : (b : Bool) → lt x y ≡ b → (z : TimeParts) × ((if b then Some y else Some x) ≡ Some z) × (lt z x ≡ false)
    by true e = (y, refl, lt-asymmetric x y e)
    by false e = (x, refl, lt-irreflexive x)

-- all floors lie below the mark
abbrev FloorsBelow : TimeParts → List Effect → Type 0
FloorsBelow at l = (e : TimeParts) → floor_of (marks l) ≡ Some e → lt e at ≡ true

some-same : (a b : TimeParts) → Some a ≡ Some b → a ≡ b
some-same a b same = cc same

top-below : (x at : TimeParts) (e : Option TimeParts) → ((z : TimeParts) → top x e ≡ Some z → lt z at ≡ true) → (lt x at ≡ true) × ((z : TimeParts) → e ≡ Some z → lt z at ≡ true)
top-below x at None h = (h x refl, λ z k. absurd (cc k))
top-below x at (Some y) h = by (lt x y) refl h
  where
    by : (b : Bool) → lt x y ≡ b → ((z : TimeParts) → (if b then Some y else Some x) ≡ Some z → lt z at ≡ true) → (lt x at ≡ true) × ((z : TimeParts) → Some y ≡ Some z → lt z at ≡ true)
    by true e k = (lt-trans x y at e (k y refl), k)
    by false e k = (k x refl, λ z same. subst (λ t. lt t at ≡ true) (some-same y z same) (lt-fall x y at e (k x refl)))

module _ (h : Heights) (at : TimeParts) (under : at.stamp.clock ≤ h.clock) where
  abbrev Below : Effect → Type 0
  Below f = (run_in f ≤ h.run) × (clock_in f ≤ h.clock)

  low : (x : TimeParts) → x.stamp.clock ≤ at.stamp.clock → x.stamp.clock ≤ h.clock
  low x k = let u = under in omega (arith, k, u)

  carried-below : (all l : List Effect) → FloorsBelow at l → Every Below (carried all at l) → Every Below l
  unfolding floor_of
  carried-below all [] fs e = tt
  carried-below all (effect.Put o x v ∷ l) fs e = by (λ m. carried-below all l fs m) (stays_put (marks all) at o x (version_count o (marks l))) refl e
    where
      by : (Every Below (carried all at l) → Every Below l) → (b : Bool) → b ≡ stays_put (marks all) at o x (version_count o (marks l)) → Every Below (if b then effect.Put o x v ∷ carried all at l else carried all at l) → Every Below (effect.Put o x v ∷ l)
      by more true q k = (k.0, more k.1)
      by more false q k = ((omega arith, low x (clock-order x at (put-below (lt x at) _ q))), more k)
  carried-below all (effect.Stretch o x ∷ l) fs e = by (λ m. carried-below all l fs m) (lt at x) refl e
    where
      by : (Every Below (carried all at l) → Every Below l) → (b : Bool) → lt at x ≡ b → Every Below (if b then effect.Stretch o x ∷ carried all at l else carried all at l) → Every Below (effect.Stretch o x ∷ l)
      by more true q k = (k.0, more k.1)
      by more false q k = ((omega arith, low x (not-before x at q)), more k)
  carried-below all (effect.Mark x ∷ l) fs e = let t = top-below x at (floor_of (marks l)) fs in ((omega arith, low x (clock-order x at t.0)), carried-below all l t.1 e)
  carried-below all (effect.Whole ∷ l) fs e = ((omega arith, omega arith), carried-below all l fs e)
  carried-below all (effect.Begin s d ∷ l) fs e = (e.0, carried-below all l fs e.1)
  carried-below all (effect.Decide s d ∷ l) fs e = (e.0, carried-below all l fs e.1)
  carried-below all (effect.Learn s c ∷ l) fs e = (e.0, carried-below all l fs e.1)
  carried-below all (effect.Run n ∷ l) fs e = (e.0, carried-below all l fs e.1)
  carried-below all (effect.Act i b t n c x ∷ l) fs e = (e.0, carried-below all l fs e.1)
  carried-below all (effect.Try i s ∷ l) fs e = (e.0, carried-below all l fs e.1)
  carried-below all (effect.Got k v ∷ l) fs e = (e.0, carried-below all l fs e.1)
  carried-below all (effect.Acked k ∷ l) fs e = (e.0, carried-below all l fs e.1)
  carried-below all (effect.End i x ∷ l) fs e = (e.0, carried-below all l fs e.1)

-- the mark itself is carried
mark-carried : (P : Effect → Type 0) (at : TimeParts) (all l : List Effect) → Every P (carried all at l) → P (effect.Mark at)
mark-carried P at all [] e = e.0
mark-carried P at all (effect.Put o x v ∷ l) e = by (λ m. mark-carried P at all l m) (stays_put (marks all) at o x (version_count o (marks l))) e
  where
    by : (Every P (carried all at l) → P (effect.Mark at)) → (b : Bool) → Every P (if b then effect.Put o x v ∷ carried all at l else carried all at l) → P (effect.Mark at)
    by more true k = more k.1
    by more false k = more k
mark-carried P at all (effect.Stretch o x ∷ l) e = by (λ m. mark-carried P at all l m) (lt at x) e
  where
    by : (Every P (carried all at l) → P (effect.Mark at)) → (b : Bool) → Every P (if b then effect.Stretch o x ∷ carried all at l else carried all at l) → P (effect.Mark at)
    by more true k = more k.1
    by more false k = more k
mark-carried P at all (effect.Mark x ∷ l) e = mark-carried P at all l e
mark-carried P at all (effect.Whole ∷ l) e = mark-carried P at all l e
mark-carried P at all (effect.Begin s d ∷ l) e = mark-carried P at all l e.1
mark-carried P at all (effect.Decide s d ∷ l) e = mark-carried P at all l e.1
mark-carried P at all (effect.Learn s c ∷ l) e = mark-carried P at all l e.1
mark-carried P at all (effect.Run n ∷ l) e = mark-carried P at all l e.1
mark-carried P at all (effect.Act i b t n c x ∷ l) e = mark-carried P at all l e.1
mark-carried P at all (effect.Try i s ∷ l) e = mark-carried P at all l e.1
mark-carried P at all (effect.Got k v ∷ l) e = mark-carried P at all l e.1
mark-carried P at all (effect.Acked k ∷ l) e = mark-carried P at all l e.1
mark-carried P at all (effect.End i x ∷ l) e = mark-carried P at all l e.1

pub retired-covers : (log : List Effect) (at : TimeParts) (h : Heights) → MayRetire (reverse log) at → Covers h (forward log at) → Covers h log
retired-covers log at h may all =
    let P : Effect → Type 0 = λ f. (run_in f ≤ h.run) × (clock_in f ≤ h.clock) in
    let l = reverse log in
    let back : Every P (reverse (reverse (effect.Whole ∷ carried l at l))) = every-reverse P (forward log at) all in
    let newest : Every P (effect.Whole ∷ carried l at l) = subst (Every P) (reverse-reverse (effect.Whole ∷ carried l at l)) back in
    let under = (mark-carried P at l l newest.1).1 in
    subst (Every P) (reverse-reverse log) (every-reverse P l (carried-below h at under l l may.history.floor newest.1))
