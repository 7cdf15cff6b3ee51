-- What is met, and what the last log gave up, as the code reads it mark by mark.
use Rattle.archive_store.proofs.Names.{◌≡◌, ℕ, zero, suc, ◌+◌, ◌<◌, ◌≤◌, arith, Bool, true, false, List, [], ◌∷◌, ◌++◌, filter, take, drop, reverse, length, slice_index_or, refl, sym, ◌∙◌, ap, Option, Some, ◌&&◌, ◌||◌, if◌then◌else◌, cond, is_some, reverse-append, TimeParts, time_cmp, same_time, ObjectId, Value, Mark, Put, same_object, Start, has_start, is_new, firsts, met_after, all_firsts, start_cmp}
use Rattle.std.specs.Ordering.{is_eq, ordering_then}
use Rattle.std.specs.declared.cmp.Ordering.{Ordering}
use Rattle.std.specs.declared.cmp.Ordering.TheVariants.{Less, Equal, Greater}
use Rattle.value_form.specs.Objects.{object_cmp}
use Rattle.object_history.proofs.MapLemmas.{found_at, Puts}

-- ---- what is met

both-levels : (o p : Ordering) → is_eq (ordering_then o p) ≡ (is_eq o && is_eq p)
both-levels Less p = refl
both-levels Equal p = refl
both-levels Greater p = refl

there : (b : Bool) (r : Option (Unit {0})) → is_some (cond b (Some tt) r) ≡ (b || is_some r)
there true r = refl
there false r = refl

pub meets-put : (es fs : List (Start × Unit {0})) (m : List Mark) (o : ObjectId) (x : TimeParts) (v : Value) → Puts start_cmp (record { object = o; start = x }) tt es fs →
    ((a : ObjectId) (y : TimeParts) → is_some (found_at start_cmp es (record { object = a; start = y })) ≡ has_start a y m) →
    (a : ObjectId) (y : TimeParts) → is_some (found_at start_cmp fs (record { object = a; start = y })) ≡ has_start a y (Put o x v ∷ m)
unfolding has_start same_object same_time
meets-put es fs m o x v puts is a y =
    ap is_some (puts (record { object = a; start = y }))
    ∙ there (is_eq (ordering_then (object_cmp o a) (time_cmp x y))) (found_at start_cmp es (record { object = a; start = y }))
    ∙ ap (λ b. b || is_some (found_at start_cmp es (record { object = a; start = y }))) (both-levels (object_cmp o a) (time_cmp x y))
    ∙ ap (λ b. (is_eq (object_cmp o a) && is_eq (time_cmp x y)) || b) (is a y)

-- ---- one mark more

firsts-if : (b : Bool) (floor : Option TimeParts) (m : List Mark) (f : Mark) (fs gs : List Mark) → firsts floor (f ∷ m) (fs ++ gs) ≡ firsts floor (f ∷ m) fs ++ firsts floor (met_after floor (f ∷ m) fs) gs →
    firsts floor m (fs ++ gs) ≡ firsts floor m fs ++ firsts floor (met_after floor m fs) gs →
    (if b then f ∷ firsts floor (f ∷ m) (fs ++ gs) else firsts floor m (fs ++ gs)) ≡ (if b then f ∷ firsts floor (f ∷ m) fs else firsts floor m fs) ++ firsts floor (if b then met_after floor (f ∷ m) fs else met_after floor m fs) gs
firsts-if true floor m f fs gs h k = ap (λ z. f ∷ z) h
firsts-if false floor m f fs gs h k = k

pub firsts-more : (floor : Option TimeParts) (m fs gs : List Mark) → firsts floor m (fs ++ gs) ≡ firsts floor m fs ++ firsts floor (met_after floor m fs) gs
unfolding firsts met_after
firsts-more floor m [] gs = refl
firsts-more floor m (f ∷ fs) gs = firsts-if (is_new floor m f) floor m f fs gs (firsts-more floor (f ∷ m) fs gs) (firsts-more floor m fs gs)

met-if : (b : Bool) (floor : Option TimeParts) (m : List Mark) (f : Mark) (fs gs : List Mark) → met_after floor (f ∷ m) (fs ++ gs) ≡ met_after floor (met_after floor (f ∷ m) fs) gs →
    met_after floor m (fs ++ gs) ≡ met_after floor (met_after floor m fs) gs →
    (if b then met_after floor (f ∷ m) (fs ++ gs) else met_after floor m (fs ++ gs)) ≡ met_after floor (if b then met_after floor (f ∷ m) fs else met_after floor m fs) gs
met-if true floor m f fs gs h k = h
met-if false floor m f fs gs h k = k

pub met-more : (floor : Option TimeParts) (m fs gs : List Mark) → met_after floor m (fs ++ gs) ≡ met_after floor (met_after floor m fs) gs
unfolding met_after
met-more floor m [] gs = refl
met-more floor m (f ∷ fs) gs = met-if (is_new floor m f) floor m f fs gs (met-more floor (f ∷ m) fs gs) (met-more floor m fs gs)

-- ---- lists by place

module _ {A : Type 0} where
  pub take-item : (xs : List A) (i j : ℕ) (x : A) → j ≡ i + 1 → i < length xs → x ≡ slice_index_or xs i x → take j xs ≡ take i xs ++ x ∷ []
  take-item [] i j x e l is = absurd (omega arith)
  take-item (y ∷ ys) zero zero x e l is = absurd (omega arith)
  take-item (y ∷ ys) zero (suc zero) x e l is = ap (λ z. z ∷ []) (sym is)
  take-item (y ∷ ys) zero (suc (suc j)) x e l is = absurd (omega arith)
  take-item (y ∷ ys) (suc i) zero x e l is = absurd (omega arith)
  take-item (y ∷ ys) (suc i) (suc j) x e l is = ap (λ z. y ∷ z) (take-item ys i j x (omega arith) (omega arith) is)

  pub take-at : (xs : List A) (i : ℕ) (x : A) → i < length xs → x ≡ slice_index_or xs i x → take (i + 1) xs ≡ take i xs ++ x ∷ []
  take-at xs i x l is = take-item xs i (i + 1) x refl l is

  pub take-end : (xs : List A) (i : ℕ) → length xs ≤ i → take i xs ≡ xs
  take-end [] zero l = refl
  take-end [] (suc i) l = refl
  take-end (x ∷ xs) zero l = absurd (omega arith)
  take-end (x ∷ xs) (suc i) l = ap (λ z. x ∷ z) (take-end xs i (omega arith))

  pub reverse-step : (xs : List A) (i : ℕ) (x : A) → i < length xs → x ≡ slice_index_or xs i x → reverse (take (i + 1) xs) ≡ x ∷ reverse (take i xs)
  reverse-step xs i x l is = ap reverse (take-at xs i x l is) ∙ reverse-append (take i xs) (x ∷ [])

  pub drop-item : (xs : List A) (i j : ℕ) (x : A) → j ≡ i + 1 → i < length xs → x ≡ slice_index_or xs i x → drop i xs ≡ x ∷ drop j xs
  drop-item [] i j x e l is = absurd (omega arith)
  drop-item (y ∷ ys) zero zero x e l is = absurd (omega arith)
  drop-item (y ∷ ys) zero (suc zero) x e l is = ap (λ z. z ∷ ys) (sym is)
  drop-item (y ∷ ys) zero (suc (suc j)) x e l is = absurd (omega arith)
  drop-item (y ∷ ys) (suc i) zero x e l is = absurd (omega arith)
  drop-item (y ∷ ys) (suc i) (suc j) x e l is = drop-item ys i j x (omega arith) (omega arith) is

  pub drop-end : (xs : List A) (i : ℕ) → length xs ≤ i → drop i xs ≡ []
  drop-end [] zero l = refl
  drop-end [] (suc i) l = refl
  drop-end (x ∷ xs) zero l = absurd (omega arith)
  drop-end (x ∷ xs) (suc i) l = drop-end xs i (omega arith)

  pub append-assoc : (xs ys zs : List A) → (xs ++ ys) ++ zs ≡ xs ++ (ys ++ zs)
  append-assoc [] ys zs = refl
  append-assoc (x ∷ xs) ys zs = ap (λ w. x ∷ w) (append-assoc xs ys zs)

  pub append-none : (xs : List A) → xs ++ [] ≡ xs
  append-none [] = refl
  append-none (x ∷ xs) = ap (λ w. x ∷ w) (append-none xs)

  filter-append : (p : A → Bool) (xs ys : List A) → filter p (xs ++ ys) ≡ filter p xs ++ filter p ys
  filter-append p [] ys = refl
  filter-append p (x ∷ xs) ys = ap (λ z. if p x then x ∷ z else z) (filter-append p xs ys) ∙ keep (p x)
    where
      keep : (b : Bool) → (if b then x ∷ (filter p xs ++ filter p ys) else filter p xs ++ filter p ys) ≡ (if b then x ∷ filter p xs else filter p xs) ++ filter p ys
      keep true = refl
      keep false = refl

  -- one element more was added
  pub kept-more : (p : A → Bool) (xs : List A) (i : ℕ) (x : A) (front old new : List A) → i < length xs → x ≡ slice_index_or xs i x → old ≡ front ++ filter p (take i xs) → new ≡ old ++ filter p (x ∷ []) → new ≡ front ++ filter p (take (i + 1) xs)
  kept-more p xs i x front old new l is h k =
      k ∙ ap (λ z. z ++ filter p (x ∷ [])) h ∙ append-assoc front (filter p (take i xs)) (filter p (x ∷ []))
      ∙ ap (λ z. front ++ z) (sym (filter-append p (take i xs) (x ∷ [])) ∙ ap (filter p) (sym (take-at xs i x l is)))

  pub kept-none : (p : A → Bool) (xs front : List A) → front ≡ front ++ filter p (take 0 xs)
  kept-none p [] front = sym (append-none front)
  kept-none p (x ∷ xs) front = sym (append-none front)

-- one mark of a log more
pub firsts-step : (floor : Option TimeParts) (m log : List Mark) (i : ℕ) (f : Mark) (front old new : List Mark) → i < length log → f ≡ slice_index_or log i f →
    old ≡ front ++ firsts floor m (take i log) → new ≡ old ++ firsts floor (met_after floor m (take i log)) (f ∷ []) → new ≡ front ++ firsts floor m (take (i + 1) log)
firsts-step floor m log i f front old new l is h k =
    k ∙ ap (λ z. z ++ firsts floor (met_after floor m (take i log)) (f ∷ [])) h
    ∙ append-assoc front (firsts floor m (take i log)) (firsts floor (met_after floor m (take i log)) (f ∷ []))
    ∙ ap (λ z. front ++ z) (sym (firsts-more floor m (take i log) (f ∷ [])) ∙ ap (firsts floor m) (sym (take-at log i f l is)))

pub met-step : (floor : Option TimeParts) (m log : List Mark) (i : ℕ) (f : Mark) → i < length log → f ≡ slice_index_or log i f → met_after floor (met_after floor m (take i log)) (f ∷ []) ≡ met_after floor m (take (i + 1) log)
met-step floor m log i f l is = sym (met-more floor m (take i log) (f ∷ [])) ∙ ap (met_after floor m) (sym (take-at log i f l is))

-- one log more
pub given-step : (floor : Option TimeParts) (m xs new log now : List Mark) (rest all : List (List Mark)) (whole : List Mark) → log ≡ now → all ≡ now ∷ rest → new ≡ xs ++ firsts floor m log → xs ++ all_firsts floor m all ≡ whole →
    new ++ all_firsts floor (met_after floor m log) rest ≡ whole
unfolding all_firsts
given-step floor m xs new log now rest all whole e h k w =
    ap (λ z. z ++ all_firsts floor (met_after floor m log) rest) k
    ∙ append-assoc xs (firsts floor m log) (all_firsts floor (met_after floor m log) rest)
    ∙ ap (λ z. xs ++ (firsts floor m z ++ all_firsts floor (met_after floor m z) rest)) e
    ∙ sym (ap (λ z. xs ++ all_firsts floor m z) h) ∙ w

-- no log is left
pub given-done : (floor : Option TimeParts) (m xs : List Mark) (all : List (List Mark)) (whole : List Mark) → all ≡ [] → xs ++ all_firsts floor m all ≡ whole → xs ≡ whole
unfolding all_firsts
given-done floor m xs all whole e w = sym (append-none xs) ∙ sym (ap (λ z. xs ++ all_firsts floor m z) e) ∙ w
