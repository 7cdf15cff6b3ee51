-- Over marks without a floor no object is refused as retired, and each object that has a total is in range.
use Rattle.watch_command.proofs.Names.{Result, Ok, Err, is_some, true≢false, false≢true, Every, TimeParts, ObjectId, IsObject, Effect, AreEffects, Mark, same_object, floor_of, AreMarks, same_object-is, WatchFault, Moved, Version, advanced, cursor_of, moved_at, or_before, IsRefusal, if_of, last_total, total_put, Rule, AreTotals, outcome_of, ◌≡◌, ◌⊎◌, ℤ, pos, Bool, true, false, List, [], ◌∷◌, map, filter, refl, sym, ◌∙◌, ap, subst, Option, Some, None, if◌then◌else◌, ◌&&◌, inl, inr, IsEffect, Seen, version_count, same_object-of, and_then, fresh, is_retired, moved_over, moved_to, unless_retired, version_of, total_of, next_of, IsPlain}
use Rattle.value_form.specs.declared.values.Value.TheVariants.{Nothing, Number, Text}
use Rattle.effect_form.specs.declared.effects.Effect.TheVariants as effect
use Rattle.object_history.specs.declared.marks.Mark.TheVariants.{Put, Stretch, Settle, Floor}
use Rattle.object_history.specs.Kept.{is_below, is_past}
use Rattle.object_history.specs.Settled.{insert, listed, settled_versions}
use Rattle.commit_watch.specs.declared.faults.WatchFault.TheVariants as fault

-- ---- what an object comes to

unless-none : {A : Type 0} (b : Bool) (o : ObjectId) (r : Result A WatchFault) → unless_retired b o None r ≡ r
unless-none true o r = refl
unless-none false o r = refl

module _ (next : ℤ → Version → Option ℤ) (o : ObjectId) where
  over-floor : (m : List Mark) (t : Option (Moved ℤ)) → floor_of m ≡ None → advanced (pos 0) next o m None t ≡ moved_over (pos 0) next o t (fresh m o (cursor_of t) None)
  over-floor m t none =
      ap (λ e. unless_retired (is_retired m o (cursor_of t)) o e (moved_over (pos 0) next o t (fresh m o (cursor_of t) None))) none
      ∙ unless-none (is_retired m o (cursor_of t)) o (moved_over (pos 0) next o t (fresh m o (cursor_of t) None))

  abbrev Fault : Result (Option (Moved ℤ)) WatchFault → Type 0
  Fault (Ok t) = Unit {0}
  Fault (Err why) = IsPlain why

  next-plain : (v : Version) (vs : List Version) (n : Option ℤ) → ((t : Option (Moved ℤ)) → Fault (moved_over (pos 0) next o t vs)) → Fault (and_then (moved_to (pos 0) next o v n) (λ u. moved_over (pos 0) next o u vs))
  next-plain v vs None h = tt
  next-plain v vs (Some n) h = h (Some (record { object = o; cursor = v.start; total = n }))

  moved-plain : (vs : List Version) (t : Option (Moved ℤ)) → Fault (moved_over (pos 0) next o t vs)
  unfolding moved_over
  moved-plain [] t = tt
  moved-plain (v ∷ vs) t = next-plain v vs (next (total_of (pos 0) t) v) (moved-plain vs)

  fault-plain : (r : Result (Option (Moved ℤ)) WatchFault) (why : WatchFault) → r ≡ Err why → Fault r → IsPlain why
  fault-plain r why e h = subst Fault e h

-- an object isn't refused as retired
pub refusal-plain : (rule : Rule) (m : List Mark) (log : List Effect) (why : WatchFault) → floor_of m ≡ None → (why ≡ fault.NoMemory) ⊎ IsRefusal (outcome_of rule m log) why → IsPlain why
refusal-plain rule m log why none (inl e) = subst IsPlain (sym e) tt
refusal-plain rule m log why none (inr r) =
    let t = last_total log r.object in
    fault-plain (next_of rule) r.object (moved_over (pos 0) (next_of rule) r.object t (fresh m r.object (cursor_of t) None)) why (sym (over-floor (next_of rule) r.object m t none) ∙ r.refused)
    (moved-plain (next_of rule) r.object (fresh m r.object (cursor_of t) None) t)

-- ---- objects in range

-- an object with versions among marks in range
put-range : (b c : Bool) (a o : ObjectId) (q : Seen) (qs : List Seen) → same_object a o ≡ b → IsObject a → (qs ≡ []) ⊎ IsObject o → ((if b && c then insert q qs else qs) ≡ []) ⊎ IsObject o
put-range true c a o q qs e h k = inr (subst IsObject (same_object-is a o e) h)
put-range false c a o q qs e h k = k

listed-range : (ok : TimeParts → Bool) (o : ObjectId) (m : List Mark) → AreMarks m → (listed ok o m ≡ []) ⊎ IsObject o
unfolding listed
listed-range ok o [] h = inl refl
listed-range ok o (Put a x v ∷ m) h = put-range (same_object a o) (ok x) a o (record { place = version_count o m; start = x; value = v }) (listed ok o m) refl h.0.0 (listed-range ok o m h.1)
listed-range ok o (Stretch a x ∷ m) h = listed-range ok o m h.1
listed-range ok o (Settle s c ∷ m) h = listed-range ok o m h.1
listed-range ok o (Floor z ∷ m) h = listed-range ok o m h.1

-- an object that has a total in a log in range
found-range : (b : Bool) (a o : ObjectId) (t : Moved ℤ) → same_object a o ≡ b → IsObject a → is_some (if b then Some t else None) ≡ true → IsObject o
found-range true a o t e h k = subst IsObject (same_object-is a o e) h
found-range false a o t e h k = absurd (false≢true k)

number-range : (o : ObjectId) (f : Effect) → IsEffect f → is_some (if_of o (total_put f)) ≡ true → IsObject o
number-range o (effect.Put a x Nothing) h k = absurd (false≢true k)
number-range o (effect.Put a x (Text bytes)) h k = absurd (false≢true k)
number-range o (effect.Put a x (Number z)) h k = found-range (same_object a o) a o (record { object = a; cursor = x; total = z }) refl h.0 k
number-range o (effect.Stretch a x) h k = absurd (false≢true k)
number-range o (effect.Begin s d) h k = absurd (false≢true k)
number-range o (effect.Decide s d) h k = absurd (false≢true k)
number-range o (effect.Learn s c) h k = absurd (false≢true k)
number-range o (effect.Run n) h k = absurd (false≢true k)
number-range o (effect.Act i j t n c b) h k = absurd (false≢true k)
number-range o (effect.Try i s) h k = absurd (false≢true k)
number-range o (effect.Got i v) h k = absurd (false≢true k)
number-range o (effect.Acked i) h k = absurd (false≢true k)
number-range o (effect.End i e) h k = absurd (false≢true k)
number-range o (effect.Mark x) h k = absurd (false≢true k)
number-range o effect.Whole h k = absurd (false≢true k)

more-range : (o : ObjectId) (f : Effect) (r : Option (Moved ℤ)) → IsEffect f → (is_some r ≡ true → IsObject o) → is_some (or_before r (if_of o (total_put f))) ≡ true → IsObject o
more-range o f None h rest k = number-range o f h k
more-range o f (Some t) h rest k = rest refl

total-range : (o : ObjectId) (log : List Effect) → AreEffects log → is_some (last_total log o) ≡ true → IsObject o
unfolding last_total
total-range o [] h k = absurd (false≢true k)
total-range o (f ∷ log) h k = more-range o f (last_total log o) h.0 (total-range o log h.1) k

abbrev some-of : Result (Option (Moved ℤ)) WatchFault → Bool
some-of (Ok z) = is_some z
some-of (Err why) = false

-- what an object comes to, if it was in range before
outcome-range : (next : ℤ → Version → Option ℤ) (o : ObjectId) (m : List Mark) (t u : Option (Moved ℤ)) → AreMarks m → (is_some t ≡ true → IsObject o) →
    moved_over (pos 0) next o t (fresh m o (cursor_of t) None) ≡ Ok u → is_some u ≡ true → IsObject o
unfolding moved_over
outcome-range next o m t u h old e k = by (listed-range _ o m h)
  where
    by : (settled_versions m o ≡ []) ⊎ IsObject o → IsObject o
    by (inr there) = there
    by (inl none) =
        old (ap some-of (sym (ap (λ qs. moved_over (pos 0) next o t (map (version_of o) (filter (λ q. is_past (cursor_of t) q.start && is_below None q.start) qs))) none) ∙ e) ∙ k)

in-list : (list : List (Moved ℤ)) → ((o : ObjectId) → is_some (moved_at o list) ≡ true → IsObject o) → Every (λ t. IsObject t.object) list
unfolding moved_at
in-list [] h = tt
in-list (t ∷ ts) h = (h t.object (here (same_object t.object t.object) refl), in-list ts (λ o k. h o (there o (same_object t.object o) k)))
  where
    here : (b : Bool) → same_object t.object t.object ≡ b → is_some (if b then Some t else moved_at t.object ts) ≡ true
    here true e = refl
    here false e = absurd (true≢false (sym (same_object-of t.object t.object refl) ∙ e))

    there : (o : ObjectId) (b : Bool) → is_some (moved_at o ts) ≡ true → is_some (if b then Some t else moved_at o ts) ≡ true
    there o true k = refl
    there o false k = k

pub totals-range : (rule : Rule) (m : List Mark) (log : List Effect) (list : List (Moved ℤ)) → floor_of m ≡ None → AreMarks m → AreEffects log → AreTotals rule m log list → Every (λ t. IsObject t.object) list
totals-range rule m log list none h k totals =
    in-list list (λ o there. outcome-range (next_of rule) o m (last_total log o) (moved_at o list) h (total-range o log k) (sym (over-floor (next_of rule) o m (last_total log o) none) ∙ totals.each o) there)
