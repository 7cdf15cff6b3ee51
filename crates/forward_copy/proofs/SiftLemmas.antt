-- What is kept of a log by how many effects stand below is what a retirement carries forward.
use Rattle.forward_copy.proofs.Names.{◌≡◌, ℕ, zero, suc, ◌+◌, ◌<◌, ◌≤◌, Bool, true, false, List, [], ◌∷◌, ◌++◌, length, reverse, take, slice_index_or, refl, sym, ◌∙◌, ap, subst, ◌||◌, if◌then◌else◌, arith, common_steps, true≢false, false≢true, TimeParts, Every, lt, Effect, Put, Stretch, Begin, Decide, Learn, Run, Act, Try, Got, Acked, End, Mark, Whole, carried, forward, stays_put, version_count, marks, between, stays, sifted, has_whole}
use Rattle.std.proofs.lemmas.List.{length-reverse, reverse-append}

-- ---- the sieve of the definition

chosen : (at : TimeParts) (b : Bool) (f : Effect) (k m : List Effect) → k ≡ m ++ Mark at ∷ [] → (if b then f ∷ k else k) ≡ (if b then f ∷ m else m) ++ Mark at ∷ []
chosen at true f k m h = ap (λ z. f ∷ z) h
chosen at false f k m h = h

pub carried-sifted : (all : List Effect) (at : TimeParts) (l : List Effect) → carried all at l ≡ sifted (stays all at) l ++ Mark at ∷ []
carried-sifted all at [] = refl
carried-sifted all at (Put o x v ∷ l) = chosen at (stays_put (marks all) at o x (version_count o (marks l))) (Put o x v) (carried all at l) (sifted (stays all at) l) (carried-sifted all at l)
carried-sifted all at (Stretch o x ∷ l) = chosen at (lt at x) (Stretch o x) (carried all at l) (sifted (stays all at) l) (carried-sifted all at l)
carried-sifted all at (Begin s d ∷ l) = ap (λ z. Begin s d ∷ z) (carried-sifted all at l)
carried-sifted all at (Decide s d ∷ l) = ap (λ z. Decide s d ∷ z) (carried-sifted all at l)
carried-sifted all at (Learn s c ∷ l) = ap (λ z. Learn s c ∷ z) (carried-sifted all at l)
carried-sifted all at (Run n ∷ l) = ap (λ z. Run n ∷ z) (carried-sifted all at l)
carried-sifted all at (Act i h t n c b ∷ l) = ap (λ z. Act i h t n c b ∷ z) (carried-sifted all at l)
carried-sifted all at (Try i s ∷ l) = ap (λ z. Try i s ∷ z) (carried-sifted all at l)
carried-sifted all at (Got k v ∷ l) = ap (λ z. Got k v ∷ z) (carried-sifted all at l)
carried-sifted all at (Acked k ∷ l) = ap (λ z. Acked k ∷ z) (carried-sifted all at l)
carried-sifted all at (End i e ∷ l) = ap (λ z. End i e ∷ z) (carried-sifted all at l)
carried-sifted all at (_ ∷ l) = carried-sifted all at l

-- the log that is carried forward, by what is kept
pub forward-between : (log : List Effect) (at : TimeParts) → between at (reverse (sifted (stays (reverse log) at) (reverse log))) ≡ forward log at
forward-between log at =
    sym (reverse-append (Whole ∷ []) (carried (reverse log) at (reverse log)) ∙ ap (λ z. reverse z ++ Whole ∷ []) (carried-sifted (reverse log) at (reverse log))
    ∙ ap (λ z. z ++ Whole ∷ []) (reverse-append (sifted (stays (reverse log) at) (reverse log)) (Mark at ∷ [])))

-- ---- any sieve

both : (b c : Bool) (e : Effect) (k m : List Effect) → b ≡ c → k ≡ m → (if b then e ∷ k else k) ≡ (if c then e ∷ m else m)
both true true e k m h is = ap (λ z. e ∷ z) is
both false false e k m h is = is
both true false e k m h is = absurd (true≢false h)
both false true e k m h is = absurd (false≢true h)

moved : (e : Effect) (a l : List Effect) → (a ++ e ∷ []) ++ l ≡ a ++ e ∷ l
moved e [] l = refl
moved e (d ∷ a) l = ap (λ z. d ∷ z) (moved e a l)

pub sifted-same : (f g : List Effect → Effect → Bool) (after l : List Effect) → ((front : List Effect) (e : Effect) (k : List Effect) → front ++ e ∷ k ≡ after ++ l → f k e ≡ g k e) →
    sifted f l ≡ sifted g l
sifted-same f g after [] h = refl
sifted-same f g after (e ∷ l) h = both (f l e) (g l e) e (sifted f l) (sifted g l) (h after e l refl) (sifted-same f g (after ++ e ∷ []) l (λ front d k is. h front d k (is ∙ moved e after l)))

every-if : (P : Effect → Type 0) (b : Bool) (e : Effect) (k : List Effect) → P e → Every P k → Every P (if b then e ∷ k else k)
every-if P true e k p h = (p, h)
every-if P false e k p h = h

pub sifted-every : (P : Effect → Type 0) (f : List Effect → Effect → Bool) (l : List Effect) → Every P l → Every P (sifted f l)
sifted-every P f [] h = tt
sifted-every P f (e ∷ l) h = every-if P (f l e) e (sifted f l) h.0 (sifted-every P f l h.1)

-- ---- no Whole stays

if-whole : (b : Bool) (f : Effect) (k : List Effect) → has_whole (f ∷ k) ≡ has_whole k → has_whole k ≡ false → has_whole (if b then f ∷ k else k) ≡ false
if-whole true f k h e = h ∙ e
if-whole false f k h e = e

pub no-whole : (all : List Effect) (at : TimeParts) (l : List Effect) → has_whole (sifted (stays all at) l) ≡ false
no-whole all at [] = refl
no-whole all at (Put o x v ∷ l) = if-whole (stays all at l (Put o x v)) (Put o x v) (sifted (stays all at) l) refl (no-whole all at l)
no-whole all at (Stretch o x ∷ l) = if-whole (stays all at l (Stretch o x)) (Stretch o x) (sifted (stays all at) l) refl (no-whole all at l)
no-whole all at (_ ∷ l) = no-whole all at l

or-whole : (l m : List Effect) → has_whole (l ++ m) ≡ (has_whole l || has_whole m)
or-whole [] m = refl
or-whole (Whole ∷ l) m = refl
or-whole (_ ∷ l) m = or-whole l m

whole-step : (f : Effect) (l : List Effect) → has_whole (f ∷ l) ≡ (has_whole (f ∷ []) || has_whole l)
whole-step f l = or-whole (f ∷ []) l

whole-reversed : (l : List Effect) → has_whole (reverse l) ≡ has_whole l
whole-reversed [] = refl
whole-reversed (f ∷ l) =
    ap has_whole (reverse-append (f ∷ []) l) ∙ or-whole (reverse l) (f ∷ []) ∙ ap (λ b. b || has_whole (f ∷ [])) (whole-reversed l)
    ∙ either (has_whole l) (has_whole (f ∷ [])) ∙ sym (whole-step f l)
  where
    either : (a b : Bool) → (a || b) ≡ (b || a)
    either true true = refl
    either true false = refl
    either false true = refl
    either false false = refl

pub none-whole : (all : List Effect) (at : TimeParts) (l : List Effect) → has_whole (reverse (sifted (stays all at) l)) ≡ false
none-whole all at l = whole-reversed (sifted (stays all at) l) ∙ no-whole all at l

-- ---- a list in reverse

pub every-append : {A : Type 0} (P : A → Type 0) (xs ys : List A) → Every P xs → Every P ys → Every P (xs ++ ys)
every-append P [] ys h k = k
every-append P (x ∷ xs) ys h k = (h.0, every-append P xs ys h.1 k)

pub every-reverse : {A : Type 0} (P : A → Type 0) (xs : List A) → Every P xs → Every P (reverse xs)
every-reverse P [] h = tt
every-reverse P (x ∷ xs) h = subst (Every P) (sym (reverse-append (x ∷ []) xs)) (every-append P (reverse xs) (x ∷ []) (every-reverse P xs h.1) (h.0, tt))

-- what a loop over the log has met is as long as its place
pub met-length : {A : Type 0} (xs : List A) (i : ℕ) → i ≤ length xs → length (reverse (take i xs)) ≡ i
met-length xs i l = length-reverse (take i xs) ∙ grind (arith, common_steps)

take-item : {A : Type 0} (xs : List A) (i j : ℕ) (x : A) → j ≡ i + 1 → i < length xs → x ≡ slice_index_or xs i x → take j xs ≡ take i xs ++ x ∷ []
take-item [] i j x e l is = absurd (omega arith)
take-item (y ∷ ys) zero zero x e l is = absurd (omega arith)
take-item (y ∷ ys) zero (suc zero) x e l is = ap (λ z. z ∷ []) (sym is)
take-item (y ∷ ys) zero (suc (suc j)) x e l is = absurd (omega arith)
take-item (y ∷ ys) (suc i) zero x e l is = absurd (omega arith)
take-item (y ∷ ys) (suc i) (suc j) x e l is = ap (λ z. y ∷ z) (take-item ys i j x (omega arith) (omega arith) is)

-- one element more, from the other end
pub reverse-step : {A : Type 0} (xs : List A) (i : ℕ) (x : A) → i < length xs → x ≡ slice_index_or xs i x → reverse (take (i + 1) xs) ≡ x ∷ reverse (take i xs)
reverse-step xs i x l is = ap reverse (take-item xs i (i + 1) x refl l is) ∙ reverse-append (take i xs) (x ∷ [])
