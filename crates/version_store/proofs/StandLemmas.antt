-- At an object's last place, and at a back place, an effect of the log stands.
use Rattle.version_store.proofs.Names.{some_is, ObjectId, Effect, Place, Entry, Log, IsIn, put_object, is_object, last_from, last_put, back_of, back_in, IsLastPut, BackStands, ◌≡◌, ◌⊎◌, inl, inr, ⊎_elim, ℕ, zero, suc, ◌≤◌, [], ◌∷◌, get_or, take, drop, true, false, Option, Some, None, cond, refl, sym, ◌∙◌, ap, arith, length-take, cases_Bool, cond-true, cond-false, false≢true, take-append-drop, get_or_append_left, IsPutAt}

-- one entry further on
moved : (x : Entry) (log : Log) (object : ObjectId) (place : Place) → IsPutAt log object place → IsPutAt (x ∷ log) object place
moved x log object place at = record { here = (at.here.0, suc at.here.1, ((let low = at.here.2.0 in omega (arith, low)), at.here.2.1), at.here.3); put = at.put }

-- no entry is a Put of the object
abbrev NoPut : Log → ObjectId → Type 0
NoPut log object = (e : Entry) (i : ℕ) → IsIn log e i → is_object (put_object e.effect) object ≡ true → ⊥

none_before : (x : Entry) (log : Log) (object : ObjectId) → is_object (put_object x.effect) object ≡ false → NoPut log object → NoPut (x ∷ log) object
none_before x log object other none e zero there put = absurd (false≢true (sym other ∙ ap (λ (y : Entry). is_object (put_object y.effect) object) there.1 ∙ put))
none_before x log object other none e (suc i) there put = none e i ((let low = there.0 in omega (arith, low)), there.1) put

first_alone : (x : Entry) (log : Log) (object : ObjectId) → NoPut log object → (e : Entry) (i : ℕ) → IsIn (x ∷ log) e i → is_object (put_object e.effect) object ≡ true → i ≤ 0
first_alone x log object none e zero there put = omega arith
first_alone x log object none e (suc i) there put = absurd (none e i ((let low = there.0 in omega (arith, low)), there.1) put)

last_moved : (x : Entry) (log : Log) (object : ObjectId) (n : ℕ) → ((e : Entry) (i : ℕ) → IsIn log e i → is_object (put_object e.effect) object ≡ true → i ≤ n) → (e : Entry) (i : ℕ) → IsIn (x ∷ log) e i → is_object (put_object e.effect) object ≡ true → i ≤ suc n
last_moved x log object n last e zero there put = omega arith
last_moved x log object n last e (suc i) there put = let low = last e i ((let short = there.0 in omega (arith, short)), there.1) put in omega (arith, low)

-- an entry before a log without Puts of the object
first_stands : (x : Entry) (before : Option Place) (log : Log) (object : ObjectId) (place : Place) → cond (is_object (put_object x.effect) object) (Some x.place) before ≡ Some place → NoPut log object
    → (is_object (put_object x.effect) object ≡ true) ⊎ (is_object (put_object x.effect) object ≡ false) → ((before ≡ Some place) × NoPut (x ∷ log) object) ⊎ IsLastPut (x ∷ log) object place
first_stands x before log object place is none (inl put) = inr (record {
  at = record { here = (x, 0, (omega arith, refl), some_is x.place place (sym (cond-true (is_object (put_object x.effect) object) (Some x.place) before put) ∙ is)); put = put };
  last = first_alone x log object none;
})
first_stands x before log object place is none (inr other) = inl (sym (cond-false (is_object (put_object x.effect) object) (Some x.place) before other) ∙ is, none_before x log object other none)

last_from-stands : (before : Option Place) (log : Log) (object : ObjectId) (place : Place) → last_from before log object ≡ Some place → ((before ≡ Some place) × NoPut log object) ⊎ IsLastPut log object place
unfolding moved
last_from-stands before [] object place is = inl (is, λ e i there put. absurd (let low = there.0 in omega (arith, low)))
last_from-stands before (x ∷ log) object place is = ⊎_elim
    (λ (here : (cond (is_object (put_object x.effect) object) (Some x.place) before ≡ Some place) × NoPut log object). first_stands x before log object place here.0 here.1 (cases_Bool (is_object (put_object x.effect) object)))
    (λ behind. inr (record { at = moved x log object place behind.at; last = last_moved x log object behind.at.here.1 behind.last }))
    (last_from-stands (cond (is_object (put_object x.effect) object) (Some x.place) before) log object place is)

pub last_put-stands : (log : Log) (object : ObjectId) (place : Place) → last_put log object ≡ Some place → IsLastPut log object place
last_put-stands log object place is = ⊎_elim (λ nowhere. absurd (cc nowhere.0)) (λ at. at) (last_from-stands None log object place is)

-- what stands in a prefix of the log stands in it
stands_on : (log : Log) (i : ℕ) (object : ObjectId) (place : Place) → IsPutAt (take i log) object place → IsPutAt log object place
stands_on log i object place at = record {
  here = (
    at.here.0,
    at.here.1,
    (
      (let low = at.here.2.0 in omega (arith, low, length-take i log)),
      ap (λ (l : Log). get_or l at.here.1 at.here.0) (sym (take-append-drop i log)) ∙ get_or_append_left (take i log) (drop i log) at.here.0 at.here.1 at.here.2.0 ∙ at.here.2.1,
    ),
    at.here.3,
  );
  put = at.put;
}

pub back-stands : (log : Log) (i : ℕ) (effect : Effect) (back : Option Place) → back ≡ back_in (take i log) effect → BackStands log (effect, back)
back-stands log i effect None is = tt
back-stands log i effect (Some place) is = of_object (put_object effect) refl
  where
    of_object : (o : Option ObjectId) → put_object effect ≡ o → (object : ObjectId) × (put_object effect ≡ Some object) × IsPutAt log object place
    of_object None none = absurd (cc (is ∙ ap (λ (o : Option ObjectId). back_of (take i log) o) none))
    of_object (Some object) put = (object, put, stands_on log i object place (last_put-stands (take i log) object place (sym (is ∙ ap (λ (o : Option ObjectId). back_of (take i log) o) put))).at)
