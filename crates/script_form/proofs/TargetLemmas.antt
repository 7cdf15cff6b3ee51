-- The object at the front of tokens is the one that is spelled there.
use Rattle.script_form.proofs.Names.{◌≡◌, ℕ, suc, ◌<◌, ◌^◌, Bool, true, false, List, [], ◌∷◌, ◌++◌, length, take, drop, Option, Some, None, refl, sym, ap, ◌∙◌, subst, arith, append_assoc, append-nil, nat_le, nat_lt, ◌&&◌, if◌then◌else◌, le-leb, lt-ltb, leb-true, ltb-true, Token, both, ObjectId, Term, Spot, Fixed, At, Spells, IsRepository, SpellsSpot, is_repository, object_at, fixed_of, bracket_at, indexed_of}
use Rattle.token_form.specs.declared.tokens.Token.TheVariants as t
use Rattle.token_form.specs.declared.tokens.Sign.TheVariants as g
use Rattle.expression_form.proofs.BracketLemmas.{is_bracket, NoBracket, spelled_no_bracket}

-- ---- the number of a repository

both_true : (a b : Bool) → a ≡ true → b ≡ true → (a && b) ≡ true
both_true a b h k = ap (λ z. z && b) h ∙ k

repository_true : (n : ℕ) → IsRepository n → is_repository n ≡ true
repository_true n (low, high) = both_true (nat_le 1 n) (nat_le n 16) (le-leb 1 n low) (le-leb n 16 high)

repository_is : (n : ℕ) → is_repository n ≡ true → IsRepository n
repository_is n h = let k = both (nat_le 1 n) (nat_le n 16) h in (leb-true 1 n k.0, leb-true n 16 k.1)

-- ---- the first `]`

bracket_at-cons : (token : Token) (ts : List Token) → is_bracket token ≡ false → bracket_at (token ∷ ts) ≡ suc (bracket_at ts)
bracket_at-cons (t.Sign g.CloseBracket) ts h = absurd (let no : ⊥ = cc in no)
bracket_at-cons _ ts h = refl

bracket_at-append : (us vs : List Token) → NoBracket us → bracket_at (us ++ t.Sign g.CloseBracket ∷ vs) ≡ length us
bracket_at-append [] vs a = refl
bracket_at-append (token ∷ us) vs (is, more) = bracket_at-cons token (us ++ t.Sign g.CloseBracket ∷ vs) is ∙ ap suc (bracket_at-append us vs more)

take-front : (us vs : List Token) → take (length us) (us ++ vs) ≡ us
take-front [] vs = refl
take-front (token ∷ us) vs = ap (λ z. token ∷ z) (take-front us vs)

drop-front : (us vs : List Token) (token : Token) → drop (suc (length us)) (us ++ token ∷ vs) ≡ vs
drop-front [] vs token = refl
drop-front (u ∷ us) vs token = drop-front us vs token

short-front : (us vs : List Token) (token : Token) → length us < length (us ++ token ∷ vs)
short-front [] vs token = omega arith
short-front (u ∷ us) vs token = let k = short-front us vs token in omega arith

-- the tokens before it, it, and those behind it
bracket_splits : (ts : List Token) → bracket_at ts < length ts → ts ≡ take (bracket_at ts) ts ++ t.Sign g.CloseBracket ∷ drop (suc (bracket_at ts)) ts
bracket_splits [] lt = absurd (let no : ⊥ = omega arith in no)
bracket_splits (t.Sign g.CloseBracket ∷ ts) lt = refl
bracket_splits (token ∷ ts) lt = ap (λ z. token ∷ z) (bracket_splits ts (let k : suc (bracket_at ts) < suc (length ts) = lt in omega arith))

-- ---- what is spelled at the front is found

abbrev pub Found : Spot → List Token → List Token → Type 0
Found (Fixed object) ts rest = fixed_of ts ≡ Some (object, rest)
Found (At n x) ts rest = (fixed_of ts ≡ None) × ((es : List Token) × (indexed_of ts ≡ Some (n, es, rest)) × Spells x es)

chosen_true : {A : Type 0} (b : Bool) (x : A) → b ≡ true → (if b then Some x else None) ≡ Some x
chosen_true b x h = ap (λ c. if c then Some x else None) h

fixed_found : (object : ObjectId) (us rest : List Token) → SpellsSpot (Fixed object) us → fixed_of (us ++ rest) ≡ Some (object, rest)
fixed_found object us rest (is, repository, number) =
    ap (λ z. fixed_of (z ++ rest)) is
    ∙ chosen_true (is_repository object.repository && nat_lt object.number (2 ^ 32)) (object, rest) (both_true (is_repository object.repository) (nat_lt object.number (2 ^ 32)) (repository_true object.repository repository) (lt-ltb object.number (2 ^ 32) number))

indexed_found : (n : ℕ) (es rest : List Token) → IsRepository n → NoBracket es → indexed_of (t.Number n ∷ t.Sign g.OpenBracket ∷ (es ++ t.Sign g.CloseBracket ∷ rest)) ≡ Some (n, es, rest)
indexed_found n es rest repository apart =
    let ts : List Token = es ++ t.Sign g.CloseBracket ∷ rest in
    let at : bracket_at ts ≡ length es = bracket_at-append es rest apart in
    let short : bracket_at ts < length ts = subst (λ k. k < length ts) (sym at) (short-front es rest (t.Sign g.CloseBracket)) in
    chosen_true (is_repository n && nat_lt (bracket_at ts) (length ts)) (n, take (bracket_at ts) ts, drop (suc (bracket_at ts)) ts) (both_true (is_repository n) (nat_lt (bracket_at ts) (length ts)) (repository_true n repository) (lt-ltb (bracket_at ts) (length ts) short))
    ∙ ap (λ k. Some (n, take k ts, drop (suc k) ts)) at
    ∙ ap (λ z. Some (n, z, drop (suc (length es)) ts)) (take-front es (t.Sign g.CloseBracket ∷ rest))
    ∙ ap (λ z. Some (n, es, z)) (drop-front es rest (t.Sign g.CloseBracket))

pub spot_found : (place : Spot) (us rest : List Token) → SpellsSpot place us → Found place (us ++ rest) rest
spot_found (Fixed object) us rest spells = fixed_found object us rest spells
spot_found (At n x) us rest (es, is, repository, spells) =
    let all : us ++ rest ≡ t.Number n ∷ t.Sign g.OpenBracket ∷ (es ++ t.Sign g.CloseBracket ∷ rest) =
    ap (λ z. z ++ rest) is ∙ ap (λ z. t.Number n ∷ t.Sign g.OpenBracket ∷ z) (append_assoc es (t.Sign g.CloseBracket ∷ []) rest) in
    (ap fixed_of all, (es, ap indexed_of all ∙ indexed_found n es rest repository (spelled_no_bracket x es spells), spells))

-- an object that is all the tokens
pub spot_alone : (place : Spot) (ts : List Token) → SpellsSpot place ts → Found place ts []
spot_alone place ts spells = subst (λ z. Found place z []) (append-nil ts) (spot_found place ts [] spells)

-- ---- what is found is spelled at the front

abbrev IsFixed : Option (ObjectId × List Token) → List Token → Type 0
IsFixed None ts = Unit {0}
IsFixed (Some p) ts = (us : List Token) × (ts ≡ us ++ p.1) × SpellsSpot (Fixed p.0) us

fixed_if : (b : Bool) (n m : ℕ) (rest : List Token) → (b ≡ true → IsRepository n × (m < 2 ^ 32)) → IsFixed (if b then Some (object_at n m, rest) else None) (t.Number n ∷ t.Sign g.Dot ∷ t.Number m ∷ rest)
fixed_if true n m rest go = let k = go refl in (t.Number n ∷ t.Sign g.Dot ∷ t.Number m ∷ [], refl, (refl, k.0, k.1))
fixed_if false n m rest go = tt

fixed_is : (ts : List Token) → IsFixed (fixed_of ts) ts
fixed_is (t.Number n ∷ t.Sign g.Dot ∷ t.Number m ∷ rest) =
    fixed_if (is_repository n && nat_lt m (2 ^ 32)) n m rest
    (λ h. let k = both (is_repository n) (nat_lt m (2 ^ 32)) h in (repository_is n k.0, ltb-true m (2 ^ 32) k.1))
fixed_is _ = tt

pub fixed_spells : (ts rest : List Token) (object : ObjectId) → fixed_of ts ≡ Some (object, rest) → (us : List Token) × (ts ≡ us ++ rest) × SpellsSpot (Fixed object) us
fixed_spells ts rest object is = subst (λ o. IsFixed o ts) is (fixed_is ts)

abbrev IsIndexed : Option (ℕ × List Token × List Token) → List Token → Type 0
IsIndexed None ts = Unit {0}
IsIndexed (Some p) ts = (ts ≡ t.Number p.0 ∷ t.Sign g.OpenBracket ∷ (p.1 ++ t.Sign g.CloseBracket ∷ p.2)) × IsRepository p.0

indexed_if : (b : Bool) (n : ℕ) (ts us vs : List Token) → (b ≡ true → IsRepository n × (ts ≡ us ++ t.Sign g.CloseBracket ∷ vs)) → IsIndexed (if b then Some (n, us, vs) else None) (t.Number n ∷ t.Sign g.OpenBracket ∷ ts)
indexed_if true n ts us vs go = let k = go refl in (ap (λ z. t.Number n ∷ t.Sign g.OpenBracket ∷ z) k.1, k.0)
indexed_if false n ts us vs go = tt

indexed_is : (ts : List Token) → IsIndexed (indexed_of ts) ts
indexed_is (t.Number n ∷ t.Sign g.OpenBracket ∷ ts) =
    indexed_if (is_repository n && nat_lt (bracket_at ts) (length ts)) n ts (take (bracket_at ts) ts) (drop (suc (bracket_at ts)) ts)
    (λ h. let k = both (is_repository n) (nat_lt (bracket_at ts) (length ts)) h in (repository_is n k.0, bracket_splits ts (ltb-true (bracket_at ts) (length ts) k.1)))
indexed_is _ = tt

pub indexed_spells : (n : ℕ) (ts es rest : List Token) (x : Term) → indexed_of ts ≡ Some (n, es, rest) → Spells x es → (us : List Token) × (ts ≡ us ++ rest) × SpellsSpot (At n x) us
indexed_spells n ts es rest x is spells =
    let k = subst (λ o. IsIndexed o ts) is (indexed_is ts) in
    (t.Number n ∷ t.Sign g.OpenBracket ∷ (es ++ t.Sign g.CloseBracket ∷ []), k.0 ∙ ap (λ z. t.Number n ∷ t.Sign g.OpenBracket ∷ z) (sym (append_assoc es (t.Sign g.CloseBracket ∷ []) rest)), (es, refl, k.1, spells))
