-- Each mark that a call may add leaves the settled versions a prefix.
use Rattle.object_history.proofs.Names.{StampParts, TimeParts, ObjectId, Value, Mark, Put, Stretch, Settle, Floor, lt, same_object, version_count, Seen, settle_of, is_alive, is_settled, is_committed, alive, some_put, Starts, HasPut, lt-split, lt-asymmetric, write_step, ◌≡◌, Bool, true, false, List, [], ◌∷◌, ◌++◌, refl, sym, ◌∙◌, ap, subst, Option, Some, None, ◌&&◌, ◌||◌, not, if◌then◌else◌, inl, inr, false≢true, true≢false, Every}
use Rattle.object_history.proofs.BoolLemmas.{and-both, and-left, and-right, not-false, not-true}
use Rattle.object_history.proofs.ObjectLemmas.{same_object-is, same_object-of}
use Rattle.object_history.specs.declared.steps.WriteStep.TheVariants as write
use Rattle.object_history.specs.Settled.{insert, listed, is_blocked, settled_versions, Adds}
use Rattle.object_history.proofs.StableLemmas.{starts-map, settled-stays}
use Rattle.object_history.proofs.ScanLemmas.{puts-below}
use Rattle.object_history.proofs.AnswerLemmas.{some-has, committed}

every-insert : (P : Seen → Type 0) (b : Bool) (q p : Seen) (xs ys : List Seen) → P q → P p → Every P xs → Every P ys → Every P (if b then q ∷ p ∷ xs else p ∷ ys)
every-insert P true q p xs ys h k i j = (h, (k, i))
every-insert P false q p xs ys h k i j = (k, j)

every-in : (P : Seen → Type 0) (q : Seen) (xs : List Seen) → P q → Every P xs → Every P (insert q xs)
unfolding insert
every-in P q [] h k = (h, tt)
every-in P q (p ∷ xs) h k = every-insert P (lt q.start p.start) q p xs (insert q xs) h k.0 k.1 (every-in P q xs h k.1)

-- above all: last
insert-last : (q : Seen) (xs : List Seen) → Every (λ p. lt q.start p.start ≡ false) xs → insert q xs ≡ xs ++ (q ∷ [])
unfolding insert
insert-last q [] h = refl
insert-last q (p ∷ xs) h = rw h.0 (ap (λ z. p ∷ z) (insert-last q xs h.1))

-- above the first part: into the second
insert-right : (q : Seen) (xs ys : List Seen) → Every (λ p. lt q.start p.start ≡ false) xs → insert q (xs ++ ys) ≡ xs ++ insert q ys
unfolding insert
insert-right q [] ys h = refl
insert-right q (p ∷ xs) ys h = rw h.0 (ap (λ z. p ∷ z) (insert-right q xs ys h.1))

-- below the second part: into the first
insert-front : (q : Seen) (ys : List Seen) → Every (λ p. lt q.start p.start ≡ true) ys → insert q ys ≡ q ∷ ys
unfolding insert
insert-front q [] h = refl
insert-front q (p ∷ ys) h = rw h.0 refl

if-append : (b : Bool) (q p : Seen) (xs ys zs : List Seen) → (if b then q ∷ p ∷ (xs ++ ys) else p ∷ (zs ++ ys)) ≡ (if b then q ∷ p ∷ xs else p ∷ zs) ++ ys
if-append true q p xs ys zs = refl
if-append false q p xs ys zs = refl

insert-left : (q : Seen) (xs ys : List Seen) → Every (λ p. lt q.start p.start ≡ true) ys → insert q (xs ++ ys) ≡ insert q xs ++ ys
unfolding insert
insert-left q [] ys h = insert-front q ys h
insert-left q (p ∷ xs) ys h =
    ap (λ z. if lt q.start p.start then q ∷ p ∷ (xs ++ ys) else p ∷ z) (insert-left q xs ys h) ∙ if-append (lt q.start p.start) q p xs ys (insert q xs)

every-map : (P Q : Seen → Type 0) → ((x : Seen) → P x → Q x) → (xs : List Seen) → Every P xs → Every Q xs
every-map P Q h [] k = tt
every-map P Q h (x ∷ xs) k = (h x k.0, every-map P Q h xs k.1)

every-if : (P : Seen → Type 0) (b : Bool) (xs ys : List Seen) → (b ≡ true → Every P xs) → Every P ys → Every P (if b then xs else ys)
every-if P true xs ys h k = h refl
every-if P false xs ys h k = k

-- what is listed passes
pub listed-passes : (Q : TimeParts → Type 0) (f : TimeParts → Bool) (o : ObjectId) (m : List Mark) → Starts Q o m → Every (λ q. Q q.start × (f q.start ≡ true)) (listed f o m)
unfolding listed
listed-passes Q f o [] s = tt
listed-passes Q f o (Put a x v ∷ m) s =
    every-if (λ q. Q q.start × (f q.start ≡ true)) (same_object a o && f x) (insert (record { place = version_count o m; start = x; value = v }) (listed f o m)) (listed f o m)
    (λ e. every-in (λ q. Q q.start × (f q.start ≡ true)) (record { place = version_count o m; start = x; value = v }) (listed f o m)
    (s.0 (same_object-is a o (and-left (same_object a o) (f x) e)), and-right (same_object a o) (f x) e) (listed-passes Q f o m s.1))
    (listed-passes Q f o m s.1)
listed-passes Q f o (Stretch a x ∷ m) s = listed-passes Q f o m s
listed-passes Q f o (Settle t c ∷ m) s = listed-passes Q f o m s
listed-passes Q f o (Floor z ∷ m) s = listed-passes Q f o m s

-- a larger test whose new puts lie above all of the smaller one only adds at the end
module _ (Q : TimeParts → Type 0) (f g : TimeParts → Bool) (o : ObjectId)
    (above : (x y : TimeParts) → Q x → Q y → f x ≡ true → g y ≡ true → f y ≡ false → lt x y ≡ true)
    (larger : (x : TimeParts) → Q x → f x ≡ true → g x ≡ true) where
  abbrev New : Seen → Type 0
  New q = Q q.start × (g q.start ≡ true) × (f q.start ≡ false)

  abbrev Longer : List Seen → List Seen → Type 0
  Longer xs ys = (extra : List Seen) × Every New extra × (ys ≡ xs ++ extra)

  longer-put : (e bf bg : Bool) (s : Seen) (xs ys : List Seen) → (e ≡ true → Q s.start) → f s.start ≡ bf → g s.start ≡ bg →
      Every (λ q. Q q.start × (f q.start ≡ true)) xs → Longer xs ys →
      Longer (if e && bf then insert s xs else xs) (if e && bg then insert s ys else ys)
  longer-put false bf bg s xs ys here hf hg old l = l
  longer-put true true false s xs ys here hf hg old l = absurd (true≢false (sym (larger s.start (here refl) hf) ∙ hg))
  longer-put true false false s xs ys here hf hg old l = l
  longer-put true true true s xs ys here hf hg old l = (
    l.0,
    l.1,
    ap (λ z. insert s z) l.2 ∙ insert-left s xs l.0
        (every-map New (λ q. lt s.start q.start ≡ true) (λ q k. above s.start q.start (here refl) k.0 hf k.1 k.2) l.0 l.1),
  )
  longer-put true false true s xs ys here hf hg old l = (
    insert s l.0,
    every-in New s l.0 (here refl, hg, hf) l.1,
    ap (λ z. insert s z) l.2 ∙ insert-right s xs l.0
        (every-map (λ q. Q q.start × (f q.start ≡ true)) (λ q. lt s.start q.start ≡ false)
        (λ q k. lt-asymmetric q.start s.start (above q.start s.start k.0 (here refl) k.1 hg hf)) xs old),
  )

  pub listed-longer : (m : List Mark) → Starts Q o m → Longer (listed f o m) (listed g o m)
  unfolding listed
  listed-longer [] s = ([], tt, refl)
  listed-longer (Put a x v ∷ m) s =
      longer-put (same_object a o) (f x) (g x) (record { place = version_count o m; start = x; value = v }) (listed f o m) (listed g o m)
      (λ e. s.0 (same_object-is a o e)) refl refl (listed-passes Q f o m s.1) (listed-longer m s.1)
  listed-longer (Stretch a x ∷ m) s = listed-longer m s
  listed-longer (Settle t c ∷ m) s = listed-longer m s
  listed-longer (Floor z ∷ m) s = listed-longer m s

-- ---- blocked

-- a put of the object starts at x
abbrev Here : ObjectId → List Mark → TimeParts → Type 0
Here o m x = HasPut (λ y. y ≡ x) o m

here-all : (o : ObjectId) (m : List Mark) → Starts (λ x. Here o m x) o m
here-all o [] = tt
here-all o (Put a x v ∷ m) = ((λ e. inl (e, refl)), starts-map (λ y. Here o m y) (λ y. Here o (Put a x v ∷ m) y) o m (λ y h. inr h) (here-all o m))
here-all o (Stretch a x ∷ m) = here-all o m
here-all o (Settle s c ∷ m) = here-all o m
here-all o (Floor z ∷ m) = here-all o m

has-at : (P : TimeParts → Type 0) (o : ObjectId) (m : List Mark) → HasPut P o m → (z : TimeParts) × Here o m z × P z
has-at P o [] h = absurd h
has-at P o (Put a x v ∷ m) (inl h) = (x, inl (h.0, refl), h.1)
has-at P o (Put a x v ∷ m) (inr h) = let k = has-at P o m h in (k.0, inr k.1, k.2)
has-at P o (Stretch a x ∷ m) h = has-at P o m h
has-at P o (Settle s c ∷ m) h = has-at P o m h
has-at P o (Floor z ∷ m) h = has-at P o m h

at-start : (P : TimeParts → Type 0) (o : ObjectId) (m : List Mark) (x : TimeParts) → Starts P o m → Here o m x → P x
at-start P o [] x s h = absurd h
at-start P o (Put a y v ∷ m) x s (inl h) = subst (λ z. P z) h.1 (s.0 h.0)
at-start P o (Put a y v ∷ m) x s (inr h) = at-start P o m x s.1 h
at-start P o (Stretch a y ∷ m) x s h = at-start P o m x s h
at-start P o (Settle t c ∷ m) x s h = at-start P o m x s h
at-start P o (Floor z ∷ m) x s h = at-start P o m x s h

or-none : (a b : Bool) → (a || b) ≡ false → (a ≡ false) × (b ≡ false)
or-none true b h = absurd (true≢false h)
or-none false b h = (refl, h)

or-no : (a b : Bool) → a ≡ false → b ≡ false → (a || b) ≡ false
or-no true b h k = h
or-no false b h k = k

none-starts : (ok : TimeParts → Bool) (o : ObjectId) (m : List Mark) → some_put ok o m ≡ false → Starts (λ y. ok y ≡ false) o m
unfolding some_put
none-starts ok o [] h = tt
none-starts ok o (Put a x v ∷ m) h =
    let k = or-none (same_object a o && ok x) (some_put ok o m) h in
    ((λ e. not-false (ok x) (λ t. true≢false (sym (and-both (same_object a o) (ok x) (same_object-of a o e) t) ∙ k.0))), none-starts ok o m k.1)
none-starts ok o (Stretch a x ∷ m) h = none-starts ok o m h
none-starts ok o (Settle s c ∷ m) h = none-starts ok o m h
none-starts ok o (Floor z ∷ m) h = none-starts ok o m h

starts-none : (ok : TimeParts → Bool) (o : ObjectId) (m : List Mark) → Starts (λ y. ok y ≡ false) o m → some_put ok o m ≡ false
unfolding some_put
starts-none ok o [] s = refl
starts-none ok o (Put a x v ∷ m) s =
    or-no (same_object a o && ok x) (some_put ok o m)
    (not-false (same_object a o && ok x) (λ t. true≢false (sym (and-right (same_object a o) (ok x) t) ∙ s.0 (same_object-is a o (and-left (same_object a o) (ok x) t)))))
    (starts-none ok o m s.1)
starts-none ok o (Stretch a x ∷ m) s = starts-none ok o m s
starts-none ok o (Settle t c ∷ m) s = starts-none ok o m s
starts-none ok o (Floor z ∷ m) s = starts-none ok o m s

not-yes : (b : Bool) → not b ≡ true → b ≡ false
not-yes true h = absurd (false≢true h)
not-yes false h = refl

yes-not : (b : Bool) → b ≡ false → not b ≡ true
yes-not true h = absurd (true≢false h)
yes-not false h = refl

not-no : (b : Bool) → not b ≡ false → b ≡ true
not-no true h = refl
not-no false h = absurd (true≢false h)

-- a version that isn't blocked lies below every undecided put
free-below : (m : List Mark) (o : ObjectId) (x y : TimeParts) → is_blocked m o x ≡ false → Here o m y → is_settled (settle_of m y.stamp) ≡ false → lt x y ≡ true
free-below m o x y h here u =
    not-true (lt x y) (λ n. true≢false (sym (and-both (not (is_settled (settle_of m y.stamp))) (not (lt x y)) (yes-not _ u) (yes-not _ n))
    ∙ at-start (λ z. (not (is_settled (settle_of m z.stamp)) && not (lt x z)) ≡ false) o m y (none-starts _ o m h) here))

-- ---- the three marks

abbrev old : List Mark → ObjectId → TimeParts → Bool
old m o x = is_committed (settle_of m x.stamp) && not (is_blocked m o x)

settled-not : (u : Option Bool) (d : Bool) → u ≡ Some d → is_settled u ≡ false → ⊥
settled-not u d h k = true≢false (ap (λ z. is_settled z) (sym h) ∙ k)

settled-is : (u : Option Bool) → is_settled u ≡ true → (d : Bool) × (u ≡ Some d)
settled-is None h = absurd (false≢true h)
settled-is (Some d) h = (d, refl)

-- a Settle
settle-blocks : (m : List Mark) (s : StampParts) (c : Bool) (o : ObjectId) (x : TimeParts) → is_blocked m o x ≡ false → is_blocked (Settle s c ∷ m) o x ≡ false
unfolding some_put
settle-blocks m s c o x h =
    starts-none (λ y. not (is_settled (settle_of (Settle s c ∷ m) y.stamp)) && not (lt x y)) o m
    (starts-map (λ y. (not (is_settled (settle_of m y.stamp)) && not (lt x y)) ≡ false) (λ y. (not (is_settled (settle_of (Settle s c ∷ m) y.stamp)) && not (lt x y)) ≡ false) o m
    (λ y k. not-false (not (is_settled (settle_of (Settle s c ∷ m) y.stamp)) && not (lt x y)) (λ t.
    true≢false (sym (and-both (not (is_settled (settle_of m y.stamp))) (not (lt x y))
    (yes-not (is_settled (settle_of m y.stamp)) (not-false (is_settled (settle_of m y.stamp)) (λ w.
    let d = settled-is (settle_of m y.stamp) w in
    settled-not (settle_of (Settle s c ∷ m) y.stamp) d.0 (settled-stays m s y.stamp c d.0 d.1) (not-yes _ (and-left _ (not (lt x y)) t)))))
    (and-right (not (is_settled (settle_of (Settle s c ∷ m) y.stamp))) (not (lt x y)) t)) ∙ k)))
    (none-starts (λ y. not (is_settled (settle_of m y.stamp)) && not (lt x y)) o m h))

settle-larger : (m : List Mark) (s : StampParts) (c : Bool) (o : ObjectId) (x : TimeParts) → old m o x ≡ true → old (Settle s c ∷ m) o x ≡ true
settle-larger m s c o x h =
    and-both (is_committed (settle_of (Settle s c ∷ m) x.stamp)) (not (is_blocked (Settle s c ∷ m) o x))
    (ap (λ u. is_committed u) (settled-stays m s x.stamp c true (committed (settle_of m x.stamp) (and-left _ (not (is_blocked m o x)) h))))
    (yes-not _ (settle-blocks m s c o x (not-yes _ (and-right (is_committed (settle_of m x.stamp)) (not (is_blocked m o x)) h))))

was-committed : (m : List Mark) (s : StampParts) (c : Bool) (y : StampParts) → is_settled (settle_of m y) ≡ true → is_committed (settle_of (Settle s c ∷ m) y) ≡ true → is_committed (settle_of m y) ≡ true
was-committed m s c y h k =
    let d = settled-is (settle_of m y) h in
    ap (λ u. is_committed u) d.1 ∙ ap (λ u. is_committed u) (sym (settled-stays m s y c d.0 d.1)) ∙ k

settle-above : (m : List Mark) (s : StampParts) (c : Bool) (o : ObjectId) (x y : TimeParts) (b : Bool) → is_settled (settle_of m y.stamp) ≡ b → Here o m y →
    old m o x ≡ true → old (Settle s c ∷ m) o y ≡ true → old m o y ≡ false → lt x y ≡ true
settle-above m s c o x y false e here h k n =
    free-below m o x y (not-yes _ (and-right (is_committed (settle_of m x.stamp)) (not (is_blocked m o x)) h)) here e
settle-above m s c o x y true e here h k n =
    let sure : is_committed (settle_of m y.stamp) ≡ true = was-committed m s c y.stamp e (and-left _ (not (is_blocked (Settle s c ∷ m) o y)) k) in
    let blocked : is_blocked m o y ≡ true = not-true (is_blocked m o y) (λ f. true≢false (sym (and-both (is_committed (settle_of m y.stamp)) (not (is_blocked m o y)) sure (yes-not _ f)) ∙ n)) in
    let z = has-at (λ z. (not (is_settled (settle_of m z.stamp)) && not (lt y z)) ≡ true) o m (some-has _ o m blocked) in
    lt-split x y z.0
    (free-below m o x z.0 (not-yes _ (and-right (is_committed (settle_of m x.stamp)) (not (is_blocked m o x)) h)) z.1
    (not-yes _ (and-left (not (is_settled (settle_of m z.0.stamp))) (not (lt y z.0)) z.2)))
    (not-yes _ (and-right (not (is_settled (settle_of m z.0.stamp))) (not (lt y z.0)) z.2))

-- a Put
put-frees : (m : List Mark) (a o : ObjectId) (x y : TimeParts) (v : Value) → is_blocked (Put a x v ∷ m) o y ≡ false → is_blocked m o y ≡ false
unfolding some_put settle_of
put-frees m a o x y v h = (or-none (same_object a o && (not (is_settled (settle_of m x.stamp)) && not (lt y x))) (is_blocked m o y) h).1

put-blocks : (m : List Mark) (a o : ObjectId) (x y : TimeParts) (v : Value) → Starts (λ z. alive m z ≡ true → lt z x ≡ true) a m → Here o m y →
    is_committed (settle_of m y.stamp) ≡ true → is_blocked m o y ≡ false → is_blocked (Put a x v ∷ m) o y ≡ false
unfolding some_put settle_of
put-blocks m a o x y v below here sure h =
    or-no (same_object a o && (not (is_settled (settle_of m x.stamp)) && not (lt y x))) (is_blocked m o y)
    (not-false (same_object a o && (not (is_settled (settle_of m x.stamp)) && not (lt y x))) (λ t.
    let e : a ≡ o = same_object-is a o (and-left (same_object a o) _ t) in
    let l : lt y x ≡ true = at-start (λ z. alive m z ≡ true → lt z x ≡ true) o m y (subst (λ w. Starts (λ z. alive m z ≡ true → lt z x ≡ true) w m) e below) here
    (ap (λ u. is_alive u) (committed (settle_of m y.stamp) sure)) in
    true≢false (sym l ∙ not-yes _ (and-right (not (is_settled (settle_of m x.stamp))) (not (lt y x)) (and-right (same_object a o) _ t))))) h

abbrev Prefix : List Seen → List Seen → Type 0
Prefix xs ys = (extra : List Seen) × (ys ≡ xs ++ extra)

append-assoc : (xs ys zs : List Seen) → (xs ++ ys) ++ zs ≡ xs ++ (ys ++ zs)
append-assoc [] ys zs = refl
append-assoc (x ∷ xs) ys zs = ap (λ w. x ∷ w) (append-assoc xs ys zs)

put-last : (e b : Bool) (q : Seen) (xs ys extra : List Seen) → ys ≡ xs ++ extra → (e ≡ true → Every (λ p. lt q.start p.start ≡ false) ys) →
    Prefix xs (if e && b then insert q ys else ys)
put-last true true q xs ys extra k h = (extra ++ (q ∷ []), insert-last q ys (h refl) ∙ ap (λ z. z ++ (q ∷ [])) k ∙ append-assoc xs extra (q ∷ []))
put-last true false q xs ys extra k h = (extra, k)
put-last false b q xs ys extra k h = (extra, k)

put-prefix : (m : List Mark) (a o : ObjectId) (x : TimeParts) (v : Value) → write_step m a x v ≡ write.Put →
    Prefix (settled_versions m o) (settled_versions (Put a x v ∷ m) o)
unfolding listed settle_of
put-prefix m a o x v h =
    let below : Starts (λ z. alive m z ≡ true → lt z x ≡ true) a m = puts-below m a x v h in
    let g : TimeParts → Bool = λ y. old (Put a x v ∷ m) o y in
    let l = listed-longer (λ y. Here o m y) (λ y. old m o y) g o
    (λ y z hy hz fy gz nz. absurd (true≢false (sym (and-both (is_committed (settle_of m z.stamp)) (not (is_blocked m o z)) (and-left _ (not (is_blocked (Put a x v ∷ m) o z)) gz)
    (yes-not _ (put-frees m a o x z v (not-yes _ (and-right (is_committed (settle_of m z.stamp)) (not (is_blocked (Put a x v ∷ m) o z)) gz))))) ∙ nz)))
    (λ y hy fy. and-both (is_committed (settle_of m y.stamp)) (not (is_blocked (Put a x v ∷ m) o y)) (and-left _ (not (is_blocked m o y)) fy)
    (yes-not _ (put-blocks m a o x y v below hy (and-left _ (not (is_blocked m o y)) fy) (not-yes _ (and-right (is_committed (settle_of m y.stamp)) (not (is_blocked m o y)) fy)))))
    m (here-all o m) in
    put-last (same_object a o) (g x) (record { place = version_count o m; start = x; value = v }) (settled_versions m o) (listed g o m) l.0 l.2
    (λ e. every-map (λ q. Here o m q.start × (g q.start ≡ true)) (λ q. lt x q.start ≡ false)
    (λ q k. lt-asymmetric q.start x (at-start (λ z. alive m z ≡ true → lt z x ≡ true) o m q.start
    (subst (λ w. Starts (λ z. alive m z ≡ true → lt z x ≡ true) w m) (same_object-is a o e) below) k.0
    (ap (λ u. is_alive u) (committed (settle_of m q.start.stamp) (and-left _ (not (is_blocked (Put a x v ∷ m) o q.start)) k.1)))))
    (listed g o m) (listed-passes (λ y. Here o m y) g o m (here-all o m)))

settle-prefix : (m : List Mark) (s : StampParts) (c : Bool) (o : ObjectId) → Prefix (settled_versions m o) (settled_versions (Settle s c ∷ m) o)
unfolding listed
settle-prefix m s c o =
    let l = listed-longer (λ y. Here o m y) (λ y. old m o y) (λ y. old (Settle s c ∷ m) o y) o
    (λ x y hx hy fx gy ny. settle-above m s c o x y (is_settled (settle_of m y.stamp)) refl hy fx gy ny)
    (λ x hx fx. settle-larger m s c o x fx)
    m (here-all o m) in
    (l.0, l.2)

append-none : (xs : List Seen) → xs ≡ xs ++ []
append-none [] = refl
append-none (x ∷ xs) = ap (λ w. x ∷ w) (append-none xs)

-- ---- the law

pub settled-prefix : (m : List Mark) (f : Mark) (o : ObjectId) → Adds m f → Prefix (settled_versions m o) (settled_versions (f ∷ m) o)
unfolding listed settle_of some_put
settled-prefix m (Put a x v) o h = put-prefix m a o x v h
settled-prefix m (Stretch a x) o h = ([], append-none (settled_versions m o))
settled-prefix m (Settle s c) o h = settle-prefix m s c o
settled-prefix m (Floor z) o h = absurd h
