-- Lists beside each other, and what holds of each element.
use Rattle.node_rounds.proofs.Names.{◌≡◌, ◌<◌, ◌≤◌, ◌+◌, ◌∙◌, ℕ, zero, suc, List, [], ◌∷◌, ◌++◌, length, get_or, refl, subst, sym, arith, All, Any, slice_set, AllZip, AllWithin, get_or_default, All-nil, All-cons, AllWithin-more}

-- one pair more
zip-more : {A B : Type 0} (R : A → B → Type 0) (xs : List A) (ys : List B) (x : A) (y : B) → AllZip R xs ys → R x y → AllZip R (xs ++ x ∷ []) (ys ++ y ∷ [])
zip-more R [] [] x y h one = (one, tt)
zip-more R [] (b ∷ ys) x y h one = absurd h
zip-more R (a ∷ xs) [] x y h one = absurd h
zip-more R (a ∷ xs) (b ∷ ys) x y h one = (h.0, zip-more R xs ys x y h.1 one)

-- one pair more, where the lists are given by their equations
pub zip-joined : {A B : Type 0} (R : A → B → Type 0) (old xs : List A) (new ys : List B) (x : A) (y : B) → old ≡ xs ++ x ∷ [] → new ≡ ys ++ y ∷ [] → AllZip R xs ys → R x y → AllZip R old new
zip-joined R old xs new ys x y o n h one = subst (λ l. AllZip R l new) (sym o) (subst (λ l. AllZip R (xs ++ x ∷ []) l) (sym n) (zip-more R xs ys x y h one))

all-first : {A : Type 0} (P : A → Type 0) (x : A) (xs : List A) → All P (x ∷ xs) → P x
all-first P x xs h = h 0 x (omega arith)

all-rest : {A : Type 0} (P : A → Type 0) (x : A) (xs : List A) → All P (x ∷ xs) → All P xs
all-rest P x xs h = λ k d lt. h (suc k) d (omega (arith, lt))

pub all-both : {A : Type 0} (P Q R : A → Type 0) → ((x : A) → P x → Q x → R x) → (xs : List A) → All P xs → All Q xs → All R xs
all-both P Q R f xs p q = λ k d lt. f (get_or xs k d) (p k d lt) (q k d lt)

-- what holds of each element holds of each of those beside them, where the pairs carry it over
pub all-through : {A B : Type 0} (P : A → Type 0) (R : A → B → Type 0) (Q : B → Type 0) → ((x : A) (y : B) → P x → R x y → Q y) → (xs : List A) (ys : List B) → All P xs → AllZip R xs ys → All Q ys
all-through P R Q f [] [] p r = All-nil Q
all-through P R Q f [] (y ∷ ys) p r = absurd r
all-through P R Q f (x ∷ xs) [] p r = absurd r
all-through P R Q f (x ∷ xs) (y ∷ ys) p r = All-cons Q y ys (f x y (all-first P x xs p) r.0) (all-through P R Q f xs ys (all-rest P x xs p) r.1)

-- pairs of pairs
pub zip-through : {A B C : Type 0} (R : A → B → Type 0) (S : B → C → Type 0) (T : A → C → Type 0) → ((x : A) (y : B) (z : C) → R x y → S y z → T x z)
    → (xs : List A) (ys : List B) (zs : List C) → AllZip R xs ys → AllZip S ys zs → AllZip T xs zs
zip-through R S T f [] [] [] h k = tt
zip-through R S T f [] [] (z ∷ zs) h k = absurd k
zip-through R S T f [] (y ∷ ys) zs h k = absurd h
zip-through R S T f (x ∷ xs) [] zs h k = absurd h
zip-through R S T f (x ∷ xs) (y ∷ ys) [] h k = absurd k
zip-through R S T f (x ∷ xs) (y ∷ ys) (z ∷ zs) h k = (f x y z h.0 k.0, zip-through R S T f xs ys zs h.1 k.1)

-- another pair for each, by what is known of the first elements
pub zip-with : {A B : Type 0} (P : A → Type 0) (R S : A → B → Type 0) → ((x : A) (y : B) → P x → R x y → S x y) → (xs : List A) (ys : List B) → All P xs → AllZip R xs ys → AllZip S xs ys
zip-with P R S f [] [] p h = tt
zip-with P R S f [] (y ∷ ys) p h = absurd h
zip-with P R S f (x ∷ xs) [] p h = absurd h
zip-with P R S f (x ∷ xs) (y ∷ ys) p h = (f x y (all-first P x xs p) h.0, zip-with P R S f xs ys (all-rest P x xs p) h.1)

-- each element beside itself
pub zip-same : {A : Type 0} (P : A → Type 0) (R : A → A → Type 0) → ((x : A) → P x → R x x) → (xs : List A) → All P xs → AllZip R xs xs
zip-same P R f [] p = tt
zip-same P R f (x ∷ xs) p = (f x (all-first P x xs p), zip-same P R f xs (all-rest P x xs p))

-- beside another after the i-th has changed
pub zip-set : {A B : Type 0} (P : A → Type 0) (R : A → B → Type 0) (xs : List A) (ys : List B) (i : ℕ) (d v : B) → ((x : A) → P x → R x (get_or ys i d) → R x v) → All P xs → AllZip R xs ys
    → AllZip R xs (slice_set ys i v)
zip-set P R [] [] i d v f p h = h
zip-set P R [] (y ∷ ys) i d v f p h = absurd h
zip-set P R (x ∷ xs) [] i d v f p h = h
zip-set P R (x ∷ xs) (y ∷ ys) zero d v f p h = (f x (all-first P x xs p) h.0, h.1)
zip-set P R (x ∷ xs) (y ∷ ys) (suc i) d v f p h = (h.0, zip-set P R xs ys i d v f (all-rest P x xs p) h.1)

-- one element more of a loop over a list
pub within-more : {A : Type 0} (P : A → Type 0) (xs : List A) (i : ℕ) (x : A) → i < length xs → x ≡ get_or xs i x → AllWithin P xs 0 i → P x → AllWithin P xs 0 (i + 1)
within-more P xs i x lt is so one = AllWithin-more P xs 0 i so (λ d. subst P (is ∙ get_or_default xs i x d lt) one)

-- and its end
pub within-all : {A : Type 0} (P : A → Type 0) (xs : List A) (i : ℕ) → length xs ≤ i → AllWithin P xs 0 i → All P xs
within-all P xs i long so = λ k d lt. so k d (omega arith) (omega (arith, lt, long))

-- ---- one of the elements

pub any-both : {A : Type 0} (P Q R : A → Type 0) → ((x : A) → P x → Q x → R x) → (xs : List A) → Any P xs → All Q xs → Any R xs
any-both P Q R f xs (i, x, lt, e, p) q = (i, x, lt, e, f x p (subst Q e (q i x lt)))

-- what holds of one element holds of the one beside it, where the pairs carry it over
pub any-through : {A B : Type 0} (P : A → Type 0) (R : A → B → Type 0) (Q : B → Type 0) → ((x : A) (y : B) → P x → R x y → Q y) → (xs : List A) (ys : List B) → Any P xs → AllZip R xs ys → Any Q ys
any-through P R Q f [] ys (i, x, lt, e, p) zip = absurd (omega (arith, lt))
any-through P R Q f (a ∷ xs) [] h zip = absurd zip
any-through P R Q f (a ∷ xs) (b ∷ ys) (zero, x, lt, e, p) zip = (zero, b, omega arith, refl, f a b (subst P (sym e) p) zip.0)
any-through P R Q f (a ∷ xs) (b ∷ ys) (suc i, x, lt, e, p) zip =
    let h = any-through P R Q f xs ys (i, x, omega (arith, lt), e, p) zip.1 in
    let below = h.2 in
    (suc h.0, h.1, omega (arith, below), h.3, h.4)
