-- A walk from an object's last place by the back places meets its versions, the newest first.
use Rattle.field_form.proofs.FormLaws.{some_is}
use Rattle.object_header.proofs.Names.{TimeParts, ObjectId, Value, Effect, Place, Mark, same_object, same_object-is, Entry, Log, IsIn, first_put, first, mark_of, marks, added, marks_in, Walks, ◌≡◌, ℕ, zero, suc, ◌+◌, ◌≤◌, ◌<◌, Bool, true, false, List, [], ◌∷◌, ◌++◌, length, reverse, take, refl, sym, ◌∙◌, ap, Option, Some, None, slice_index_or, ◌&&◌, if◌then◌else◌, cond, arith, false≢true, true≢false, cond-true, cond-false, reverse-append, take-suc, effects_of, put_object, is_object, last_put, back_in, is_some, StandsAt, put_found}
use Rattle.effect_form.specs.declared.effects.Effect.TheVariants.{Put, Stretch, Begin, Decide, Learn, Run, Act, Try, Got, Acked, End}
use Rattle.effect_form.specs.declared.effects.Effect.TheVariants as effect
use Rattle.version_store.proofs.LogLemmas.{last_from-push, effects_of-append}

marks-push : (log : Log) (e : Entry) → marks_in (log ++ e ∷ []) ≡ added (mark_of e.effect) (marks_in log)
marks-push log e = ap (λ l. marks (reverse l)) (effects_of-append log (e ∷ [])) ∙ ap marks (reverse-append (effects_of log) (e.effect ∷ []))

-- the effect is a version of the object
pub record IsPut (f : Effect) (o : ObjectId) : Type 0 where
  pub object : ObjectId
  pub start : TimeParts
  pub held : Value
  pub is : f ≡ Put object start held
  pub same : same_object object o ≡ true

put_is : (f : Effect) (o : ObjectId) → is_object (put_object f) o ≡ true → IsPut f o
unfolding same_object
put_is (Put a x v) o h = record { object = a; start = x; held = v; is = refl; same = h }
put_is (Stretch a x) o h = absurd (false≢true h)
put_is (Begin s d) o h = absurd (false≢true h)
put_is (Decide s d) o h = absurd (false≢true h)
put_is (Learn s c) o h = absurd (false≢true h)
put_is (Run n) o h = absurd (false≢true h)
put_is (Act i a t n c b) o h = absurd (false≢true h)
put_is (Try i s) o h = absurd (false≢true h)
put_is (Got k v) o h = absurd (false≢true h)
put_is (Acked k) o h = absurd (false≢true h)
put_is (End i e) o h = absurd (false≢true h)
put_is (effect.Mark at) o h = absurd (false≢true h)
put_is effect.Whole o h = absurd (false≢true h)

module _ (ok : TimeParts → Bool) (o : ObjectId) where
  first_other : (f : Effect) (m : List Mark) → is_object (put_object f) o ≡ false → first_put ok o (added (mark_of f) m) ≡ first_put ok o m
  unfolding first_put same_object
  first_other (Put a x v) m h = ap (λ b. if b && ok x then Some (x, v) else first_put ok o m) h
  first_other (Stretch a x) m h = refl
  first_other (Begin s d) m h = refl
  first_other (Decide s d) m h = refl
  first_other (Learn s c) m h = refl
  first_other (Run n) m h = refl
  first_other (Act i a t n c b) m h = refl
  first_other (Try i s) m h = refl
  first_other (Got k v) m h = refl
  first_other (Acked k) m h = refl
  first_other (End i e) m h = refl
  first_other (effect.Mark at) m h = refl
  first_other effect.Whole m h = refl

  first_if : (b : Bool) (x : TimeParts) (v : Value) (r : Option (TimeParts × Value)) → (if b then Some (x, v) else r) ≡ first (if b then Some (x, v) else None) r
  first_if true x v r = refl
  first_if false x v r = refl

  first_own : (f : Effect) (m : List Mark) → IsPut f o → first_put ok o (added (mark_of f) m) ≡ first (put_found ok f) (first_put ok o m)
  unfolding first_put
  first_own f m p =
      ap (λ g. first_put ok o (added (mark_of g) m)) p.is ∙ ap (λ b. if b && ok p.start then Some (p.start, p.held) else first_put ok o m) p.same ∙ first_if (ok p.start) p.start p.held (first_put ok o m)
      ∙ ap (λ g. first (put_found ok g) (first_put ok o m)) (sym p.is)

  module _ (log : Log) where
    -- the version at this place, of the first k entries, and what it hides
    pub record Hit (k : ℕ) (p : Place) : Type 0 where
      pub entry : Entry
      pub index : ℕ
      pub there : IsIn log entry index
      pub at : entry.place ≡ p
      pub put : IsPut entry.effect o
      pub first_is : first_put ok o (marks_in (take k log)) ≡ first (put_found ok entry.effect) (first_put ok o (marks_in (take index log)))

    any : (ys : Log) (i : ℕ) (d e : Entry) → i < length ys → slice_index_or ys i d ≡ slice_index_or ys i e
    any [] i d e h = absurd (omega (arith, h))
    any (y ∷ ys) zero d e h = refl
    any (y ∷ ys) (suc i) d e h = any ys i d e (omega (arith, h))

    last_more : (k : ℕ) (d : Entry) → k < length log → last_put (take (suc k) log) o ≡ cond (is_object (put_object (slice_index_or log k d).effect) o) (Some (slice_index_or log k d).place) (last_put (take k log) o)
    last_more k d low = ap (λ l. last_put l o) (take-suc log k d low) ∙ last_from-push None (take k log) (slice_index_or log k d) o

    marks_more : (k : ℕ) (d : Entry) → k < length log → marks_in (take (suc k) log) ≡ added (mark_of (slice_index_or log k d).effect) (marks_in (take k log))
    marks_more k d low = ap marks_in (take-suc log k d low) ∙ marks-push (take k log) (slice_index_or log k d)

    pub hit : (d : Entry) (k : ℕ) (p : Place) → k ≤ length log → last_put (take k log) o ≡ Some p → Hit k p
    hit d zero p low is = absurd (cc is)
    hit d (suc k) p low is = at (is_object (put_object (slice_index_or log k d).effect) o) refl (hit d k p (omega (arith, low)))
      where
        e : Entry
        e = slice_index_or log k d

        at : (b : Bool) → is_object (put_object e.effect) o ≡ b → (last_put (take k log) o ≡ Some p → Hit k p) → Hit (suc k) p
        at true own again =
            let put = put_is e.effect o own in
            record {
              entry = e;
              index = k;
              there = (omega (arith, low), any log k e d (omega (arith, low)));
              at = some_is e.place p (sym (cond-true (is_object (put_object e.effect) o) (Some e.place) (last_put (take k log) o) own) ∙ sym (last_more k d (omega (arith, low))) ∙ is);
              put = put;
              first_is = ap (first_put ok o) (marks_more k d (omega (arith, low))) ∙ first_own e.effect (marks_in (take k log)) put;
            }
        at false other again =
            let h = again (sym (cond-false (is_object (put_object e.effect) o) (Some e.place) (last_put (take k log) o) other) ∙ sym (last_more k d (omega (arith, low))) ∙ is) in
            record {
              entry = h.entry;
              index = h.index;
              there = h.there;
              at = h.at;
              put = h.put;
              first_is = ap (first_put ok o) (marks_more k d (omega (arith, low))) ∙ first_other e.effect (marks_in (take k log)) other ∙ h.first_is;
            }

    pub missed : (d : Entry) (k : ℕ) → k ≤ length log → last_put (take k log) o ≡ None → first_put ok o (marks_in (take k log)) ≡ None
    unfolding first_put
    missed d zero low is = refl
    missed d (suc k) low is = at (is_object (put_object (slice_index_or log k d).effect) o) refl (missed d k (omega (arith, low)))
      where
        e : Entry
        e = slice_index_or log k d

        at : (b : Bool) → is_object (put_object e.effect) o ≡ b → (last_put (take k log) o ≡ None → first_put ok o (marks_in (take k log)) ≡ None) → first_put ok o (marks_in (take (suc k) log)) ≡ None
        at true own again = some_none (sym (cond-true (is_object (put_object e.effect) o) (Some e.place) (last_put (take k log) o) own) ∙ sym (last_more k d (omega (arith, low))) ∙ is)
          where
            some_none : Some e.place ≡ None → first_put ok o (marks_in (take (suc k) log)) ≡ None
            some_none h = absurd (cc h)
        at false other again =
            ap (first_put ok o) (marks_more k d (omega (arith, low))) ∙ first_other e.effect (marks_in (take k log)) other
            ∙ again (sym (cond-false (is_object (put_object e.effect) o) (Some e.place) (last_put (take k log) o) other) ∙ sym (last_more k d (omega (arith, low))) ∙ is)

    -- ---- as the code goes

    nothing : Entry
    nothing = record { effect = Run 0; place = record { page = 0; offset = 0 }; back = None }

    pub stands : (place : Option Place) (p : Place) → Walks ok o log place → place ≡ Some p → StandsAt log p
    stands place p w is = let h = hit nothing w.left p w.within (sym w.at ∙ is) in (h.entry, h.index, h.there, h.at)

    -- what was fetched at the place
    abbrev pub Fetched : Place → Effect → Option Place → Type 0
    Fetched p effect back = (e : Entry) (i : ℕ) → IsIn log e i → e.place ≡ p → (effect ≡ e.effect) × (back ≡ e.back)

    first_some : (a r : Option (TimeParts × Value)) → true ≡ is_some a → a ≡ first a r
    first_some None r h = absurd (true≢false h)
    first_some (Some f) r h = refl

    first_none : (a r : Option (TimeParts × Value)) → false ≡ is_some a → first a r ≡ r
    first_none None r h = refl
    first_none (Some f) r h = absurd (false≢true h)

    pub walk-found : (place : Option Place) (p : Place) (effect : Effect) (back : Option Place) (result : Option (TimeParts × Value)) → Walks ok o log place → place ≡ Some p → Fetched p effect back → result ≡ put_found ok effect → true ≡ is_some result →
        result ≡ first_put ok o (marks_in log)
    walk-found place p effect back result w is fetched found some =
        let h = hit nothing w.left p w.within (sym w.at ∙ is) in
        let same = (fetched h.entry h.index h.there h.at).0 in
        first_some result (first_put ok o (marks_in (take h.index log))) some ∙ ap (λ a. first a (first_put ok o (marks_in (take h.index log)))) (found ∙ ap (put_found ok) same) ∙ sym h.first_is ∙ sym w.first

    pub walk-on : (place : Option Place) (p : Place) (effect : Effect) (back : Option Place) (result : Option (TimeParts × Value)) → ((e : Entry) (i : ℕ) → IsIn log e i → e.back ≡ back_in (take i log) e.effect) →
        Walks ok o log place → place ≡ Some p → Fetched p effect back → result ≡ put_found ok effect → false ≡ is_some result → Walks ok o log back
    walk-on place p effect back result sound w is fetched found none =
        let h = hit nothing w.left p w.within (sym w.at ∙ is) in
        let same = fetched h.entry h.index h.there h.at in
        record {
          left = h.index;
          within = omega (arith, h.there.0);
          at = same.1 ∙ sound h.entry h.index h.there ∙ ap (back_in (take h.index log)) h.put.is ∙ ap (last_put (take h.index log)) (same_object-is h.put.object o h.put.same);
          first = w.first ∙ h.first_is ∙ ap (λ a. first a (first_put ok o (marks_in (take h.index log)))) (ap (put_found ok) (sym same.0) ∙ sym found) ∙ first_none result (first_put ok o (marks_in (take h.index log))) none;
        }

    pub walk-done : (place : Option Place) → Walks ok o log place → place ≡ None → None ≡ first_put ok o (marks_in log)
    walk-done place w is = sym (w.first ∙ missed nothing w.left w.within (sym w.at ∙ is))
