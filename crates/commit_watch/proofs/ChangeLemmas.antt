-- What becomes of all objects, one after another in rising order.
use Rattle.commit_watch.proofs.Names.{◌≡◌, ◌<◌, length, arith, Bool, true, false, List, [], ◌∷◌, ◌++◌, refl, sym, ◌∙◌, ap, subst, Option, Some, None, if◌then◌else◌, cond, inl, inr, Result, Ok, Err, IsSome, is_some, is_ok, unwrap_or, IfSome, IfOk, IfErr, ◌⊎◌, is_eq, is_gt, true≢false, false≢true, ObjectId, object_cmp, same_object, same_object-is, found_at, Moved, WatchFault, object_lt, moved_at, with_all, or_before, with_change, StandingParts, empty_standing}
use Rattle.commit_watch.specs.declared.faults.WatchFault.TheVariants as fault
use Rattle.commit_watch.specs.Refusals.{IsRefusal}
use Rattle.commit_watch.proofs.ListLemmas.{behind, all-more, moved-with}

module _ {T : Type 0} (out : ObjectId → StandingParts → Result (Option (Moved T)) WatchFault) (ws : List (Moved T)) (all : ObjectId → Option StandingParts) where
  -- what became of the objects that aren't left
  pub record Going (rest : ObjectId → Option StandingParts) (cs : List (Moved T)) : Type 0 where
    pub done : (o : ObjectId) → rest o ≡ None → out o (unwrap_or (all o) empty_standing) ≡ Ok (moved_at o (with_all cs ws))
    pub left : (o : ObjectId) (s : StandingParts) → rest o ≡ Some s → moved_at o (with_all cs ws) ≡ moved_at o ws
    pub same : (o : ObjectId) (s : StandingParts) → rest o ≡ Some s → all o ≡ Some s

  begins : ((o : ObjectId) → out o empty_standing ≡ Ok (moved_at o ws)) → Going all []
  unfolding with_all
  begins empty = record {
    done = λ o h. ap (λ z. out o (unwrap_or z empty_standing)) h ∙ empty o;
    left = λ o s h. refl;
    same = λ o s h. h;
  }

  pub begins-at : (cs : List (Moved T)) → cs ≡ [] → ((o : ObjectId) → out o empty_standing ≡ Ok (moved_at o ws)) → Going all cs
  begins-at cs is empty = subst (λ z. Going all z) (sym is) (begins empty)

  pub ends : (rest : ObjectId → Option StandingParts) (cs : List (Moved T)) → Going rest cs → ((o : ObjectId) → rest o ≡ None) → (o : ObjectId) → out o (unwrap_or (all o) empty_standing) ≡ Ok (moved_at o (with_all cs ws))
  ends rest cs g none o = g.done o (none o)

  module _ (rest later : ObjectId → Option StandingParts) (k : ObjectId) (s : StandingParts) (cs : List (Moved T)) (there : rest k ≡ Some s) (taken : (q : ObjectId) → later q ≡ cond (is_eq (object_cmp k q)) None (rest q)) where
    not-taken : (b : Bool) (z : Option StandingParts) (u : StandingParts) → cond b None z ≡ Some u → (b ≡ false) × (z ≡ Some u)
    not-taken true z u h = absurd (none-some h)
      where
        is_there : Option StandingParts → Bool
        is_there None = false
        is_there (Some v) = true

        none-some : None ≡ Some u → ⊥
        none-some e = false≢true (ap is_there e)
    not-taken false z u h = (refl, h)

    still : (o : ObjectId) (u : StandingParts) → later o ≡ Some u → rest o ≡ Some u
    still o u h = (not-taken (is_eq (object_cmp k o)) (rest o) u (sym (taken o) ∙ h)).1

    other : (o : ObjectId) (u : StandingParts) → later o ≡ Some u → same_object k o ≡ false
    unfolding same_object
    other o u h = (not-taken (is_eq (object_cmp k o)) (rest o) u (sym (taken o) ∙ h)).0

    -- either this object, or one that wasn't left before
    gone : (b : Bool) (o : ObjectId) → same_object k o ≡ b → later o ≡ None → (b ≡ false → rest o ≡ None)
    unfolding same_object
    gone true o e h n = absurd (true≢false n)
    gone false o e h n = sym (ap (λ z. cond z None (rest o)) e) ∙ sym (taken o) ∙ h

    module _ (g : Going rest cs) where
      done-kept : out k s ≡ Ok (moved_at k ws) → (b : Bool) (o : ObjectId) → same_object k o ≡ b → later o ≡ None → out o (unwrap_or (all o) empty_standing) ≡ Ok (moved_at o (with_all cs ws))
      done-kept h true o e n =
          subst (λ z. out z (unwrap_or (all z) empty_standing) ≡ Ok (moved_at z (with_all cs ws))) (same_object-is k o e)
          (ap (λ z. out k (unwrap_or z empty_standing)) (g.same k s there) ∙ h ∙ ap Ok (sym (g.left k s there)))
      done-kept h false o e n = g.done o (gone false o e n refl)

      -- the object stays as it was
      pub goes-kept : out k s ≡ Ok (moved_at k ws) → Going later cs
      goes-kept h = record {
        done = λ o n. done-kept h (same_object k o) o refl n;
        left = λ o u e. g.left o u (still o u e);
        same = λ o u e. g.same o u (still o u e);
      }

      now-at : (c : Moved T) (o : ObjectId) → moved_at o (with_all (cs ++ c ∷ []) ws) ≡ (if same_object c.object o then Some c else moved_at o (with_all cs ws))
      now-at c o = ap (moved_at o) (all-more cs ws c) ∙ moved-with c (with_all cs ws) o

      done-moved : (c : Moved T) → c.object ≡ k → out k s ≡ Ok (Some c) → (b : Bool) (o : ObjectId) → same_object k o ≡ b → later o ≡ None → out o (unwrap_or (all o) empty_standing) ≡ Ok (if b then Some c else moved_at o (with_all cs ws))
      done-moved c is h true o e n =
          subst (λ z. out z (unwrap_or (all z) empty_standing) ≡ Ok (Some c)) (same_object-is k o e)
          (ap (λ z. out k (unwrap_or z empty_standing)) (g.same k s there) ∙ h)
      done-moved c is h false o e n = g.done o (gone false o e n refl)

      -- the object moved
      pub goes-moved : (c : Moved T) → c.object ≡ k → out k s ≡ Ok (Some c) → Going later (cs ++ c ∷ [])
      goes-moved c is h = record {
        done = λ o n. done-moved c is h (same_object k o) o refl n ∙ ap (λ z. Ok (if same_object z o then Some c else moved_at o (with_all cs ws))) (sym is) ∙ ap Ok (sym (now-at c o));
        left = λ o u e. now-at c o ∙ ap (λ z. if same_object z o then Some c else moved_at o (with_all cs ws)) is ∙ ap (λ b. if b then Some c else moved_at o (with_all cs ws)) (other o u e) ∙ g.left o u (still o u e);
        same = λ o u e. g.same o u (still o u e);
      }

      -- what became of it, where it moved
      pub goes-on : (change : Option (Moved T)) (now : List (Moved T)) → IfSome change (λ c. c.object ≡ k) → out k s ≡ Ok (or_before change (moved_at k ws)) → now ≡ with_change change cs → Going later now
      goes-on None now is h e = subst (λ z. Going later z) (sym e) (goes-kept h)
      goes-on (Some c) now is h e = subst (λ z. Going later z) (sym e) (goes-moved c is h)

      least-done : (o : ObjectId) (z : Option StandingParts) → rest o ≡ z → (IsSome (rest o) → is_gt (object_cmp k o) ≡ false) → object_lt o k ≡ true → is_ok (out o (unwrap_or (all o) empty_standing)) ≡ true
      least-done o None e low lt = ap is_ok (g.done o e)
      least-done o (Some u) e low lt = absurd (true≢false (sym (ap is_gt (behind o k lt)) ∙ low (ap is_some e)))

      -- the object is refused, and none before it is
      pub refuses : (e : WatchFault) → out k s ≡ Err e → ((q : ObjectId) → IsSome (rest q) → is_gt (object_cmp k q) ≡ false) → IsRefusal (λ o. out o (unwrap_or (all o) empty_standing)) e
      refuses e h low = record {
        object = k;
        refused = ap (λ z. out k (unwrap_or z empty_standing)) (g.same k s there) ∙ h;
        least = λ o lt. least-done o (rest o) refl (low o) lt;
      }

      pub refuses-or : (e : WatchFault) → (e ≡ fault.NoMemory) ⊎ (out k s ≡ Err e) → ((q : ObjectId) → IsSome (rest q) → is_gt (object_cmp k q) ≡ false) →
          (e ≡ fault.NoMemory) ⊎ IsRefusal (λ o. out o (unwrap_or (all o) empty_standing)) e
      refuses-or e (inl h) low = inl h
      refuses-or e (inr h) low = inr (refuses e h low)

pub refusal-as : {T : Type 0} (f g : ObjectId → Result (Option (Moved T)) WatchFault) (e : WatchFault) → ((o : ObjectId) → f o ≡ g o) → IsRefusal f e → IsRefusal g e
refusal-as f g e same r = record {
  object = r.object;
  refused = sym (same r.object) ∙ r.refused;
  least = λ o lt. sym (ap is_ok (same o)) ∙ r.least o lt;
}

pub refused-as : {T : Type 0} (f g : ObjectId → Result (Option (Moved T)) WatchFault) (e : WatchFault) → ((o : ObjectId) → f o ≡ g o) → (e ≡ fault.NoMemory) ⊎ IsRefusal f e → (e ≡ fault.NoMemory) ⊎ IsRefusal g e
refused-as f g e same (inl h) = inl h
refused-as f g e same (inr h) = inr (refusal-as f g e same h)

pub if_ok : {A E : Type 0} (r : Result A E) (P Q : A → Type 0) → ((a : A) → P a → Q a) → IfOk r P → IfOk r Q
if_ok (Ok a) P Q f h = f a h
if_ok (Err e) P Q f h = tt

pub if_err : {A E : Type 0} (r : Result A E) (P Q : E → Type 0) → ((e : E) → P e → Q e) → IfErr r P → IfErr r Q
if_err (Ok a) P Q f h = tt
if_err (Err e) P Q f h = f e h

pub at-entry : {T : Type 0} (f : Option (Moved T) → Result (Option (Moved T)) WatchFault) (change z w : Option (Moved T)) → z ≡ w → f z ≡ Ok (or_before change z) → f w ≡ Ok (or_before change w)
at-entry f change z w e h = subst (λ u. f u ≡ Ok (or_before change u)) e h

pub at-refusal : {T : Type 0} (f : Option (Moved T) → Result (Option (Moved T)) WatchFault) (why : WatchFault) (z w : Option (Moved T)) → z ≡ w → (why ≡ fault.NoMemory) ⊎ (f z ≡ Err why) → (why ≡ fault.NoMemory) ⊎ (f w ≡ Err why)
at-refusal f why z w e h = subst (λ u. (why ≡ fault.NoMemory) ⊎ (f u ≡ Err why)) e h

pub none-left : (es : List (ObjectId × StandingParts)) → (0 < length es → false ≡ true) → (o : ObjectId) → found_at object_cmp es o ≡ None
none-left [] h o = refl
none-left (e ∷ es) h o = absurd (false≢true (h (omega arith)))

pub none-there : {A : Type 0} (xs : List A) → length xs ≡ 0 → xs ≡ []
none-there [] h = refl
none-there (x ∷ xs) h = absurd (omega arith)
