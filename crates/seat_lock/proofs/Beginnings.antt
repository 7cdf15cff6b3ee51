-- Beginnings of one list, and the entries of an owner in them.
use Rattle.seat_lock.proofs.Names.{◌≡◌, ◌≢◌, ℕ, ◌+◌, ◌≤◌, Bool, true, false, cond, eqb, eq-eqb, ne_eqb, List, [], ◌∷◌, ◌++◌, length, nat_le, refl, ap, sym, ◌∙◌, arith, append_assoc, append-nil, length-append, filter, nil_from_length, filter-append, Part, Begins, entries_of, longer, HasOwn, first_part, other_parts, total, same}
use Rattle.std.proofs.lemmas.Bool.Decides.{nat_tests}

module _ {E : Type 0} where
  pub begins_trans : (xs ys zs : List E) → Begins xs ys → Begins ys zs → Begins xs zs
  begins_trans xs ys zs p q = (p.0 ++ q.0, sym (append_assoc xs p.0 q.0) ∙ (ap (λ w. w ++ q.0) p.1 ∙ q.1))

  pub begins_more : (xs ys zs : List E) → Begins xs ys → Begins xs (ys ++ zs)
  begins_more xs ys zs p = (p.0 ++ zs, sym (append_assoc xs p.0 zs) ∙ ap (λ w. w ++ zs) p.1)

  -- of two beginnings of one list the shorter begins the longer
  pub begins_shorter : (xs ys zs : List E) → Begins xs zs → Begins ys zs → length xs ≤ length ys → Begins xs ys
  begins_shorter [] ys zs p q le = (ys, refl)
  begins_shorter (x ∷ xs) [] zs p q le = absurd (omega arith)
  begins_shorter (x ∷ xs) (y ∷ ys) [] p q le = absurd (cc (p.1))
  begins_shorter (x ∷ xs) (y ∷ ys) (z ∷ zs) p q le =
      let heads : x ≡ y = cc (p.1, q.1) in
      let rest = begins_shorter xs ys zs (p.0, cc (p.1)) (q.0, cc (q.1)) (omega arith) in
      (rest.0, cc (heads, rest.1))

  longer_cases : (xs ys zs : List E) → Begins xs zs → Begins ys zs → (b : Bool) → nat_le (length xs) (length ys) ≡ b → Begins xs (cond b ys xs) × Begins ys (cond b ys xs) × Begins (cond b ys xs) zs
  longer_cases xs ys zs p q true e = (begins_shorter xs ys zs p q (grind (arith, nat_tests)), ([], append-nil ys), q)
  longer_cases xs ys zs p q false e = (([], append-nil xs), begins_shorter ys xs zs q p (grind (arith, nat_tests)), p)

  -- both lists begin the longer one, which begins what they begin
  pub longer_is : (xs ys zs : List E) → Begins xs zs → Begins ys zs → Begins xs (longer xs ys) × Begins ys (longer xs ys) × Begins (longer xs ys) zs
  longer_is xs ys zs p q = longer_cases xs ys zs p q (nat_le (length xs) (length ys)) refl

  module _ (owner : E → ℕ) where
    squeeze_one : (o : ℕ) (a b c own : List E) → Begins a b → Begins b c → entries_of owner o a ≡ own → entries_of owner o c ≡ own → entries_of owner o b ≡ own
    squeeze_one o a b c own p q here there =
        let test : E → Bool = λ e. eqb (owner e) o in
        let one : filter test b ≡ own ++ filter test p.0 = ap (filter test) (sym p.1) ∙ (filter-append test a p.0 ∙ ap (λ l. l ++ filter test p.0) here) in
        let two : own ≡ filter test b ++ filter test q.0 = sym there ∙ (ap (filter test) (sym q.1) ∙ filter-append test b q.0) in
        let n : length (filter test p.0) ≡ 0 = omega (arith, ap length one, ap length two, length-append own (filter test p.0), length-append (filter test b) (filter test q.0)) in
        one ∙ (ap (λ l. own ++ l) (nil_from_length (filter test p.0) n) ∙ append-nil own)

    -- a list between two that agree on the owners agrees with them
    pub squeeze : (ps : List (Part E)) (a b c : List E) → Begins a b → Begins b c → HasOwn owner ps a → HasOwn owner ps c → HasOwn owner ps b
    squeeze [] a b c p q h t = tt
    squeeze (x ∷ xs) a b c p q h t = (squeeze_one x.owner a b c x.own p q h.0 t.0, squeeze xs a b c p q h.1 t.1)

    pub own_append : (ps qs : List (Part E)) (l : List E) → HasOwn owner ps l → HasOwn owner qs l → HasOwn owner (ps ++ qs) l
    own_append [] qs l h t = t
    own_append (x ∷ xs) qs l h t = (h.0, own_append xs qs l h.1 t)

    pub own_first : (ps : List (Part E)) (l : List E) → HasOwn owner ps l → HasOwn owner (first_part ps) l
    own_first [] l h = tt
    own_first (x ∷ xs) l h = (h.0, tt)

    pub own_others : (ps : List (Part E)) (l : List E) → HasOwn owner ps l → HasOwn owner (other_parts ps) l
    own_others [] l h = tt
    own_others (x ∷ xs) l h = h.1

    -- an entry of another owner changes no owner's entries
    pub own_other : (e : E) (ps : List (Part E)) (l : List E) → total (λ (p : Part E). same (owner e) p.owner) ps ≡ 0 → HasOwn owner ps l → HasOwn owner ps (l ++ e ∷ [])
    own_other e [] l none h = tt
    own_other e (x ∷ xs) l none h =
        let differs : owner e ≢ x.owner = (λ same_owner. omega arith) in
        let out : filter (λ d. eqb (owner d) x.owner) (e ∷ []) ≡ [] = ap (λ b. cond b (e ∷ []) []) (ne_eqb (owner e) x.owner differs) in
        (filter-append (λ d. eqb (owner d) x.owner) l (e ∷ []) ∙ (ap (λ t. filter (λ d. eqb (owner d) x.owner) l ++ t) out ∙ (append-nil (filter (λ d. eqb (owner d) x.owner) l) ∙ h.0)), own_other e xs l (omega arith) h.1)

  pub total-parts : (f : Part E → ℕ) (ps : List (Part E)) → total f (other_parts ps) + total f (first_part ps) ≡ total f ps
  total-parts f [] = refl
  total-parts f (x ∷ xs) = omega arith

-- an owner's entries of a list with one more of its own
pub own_adds : {E : Type 0} (owner : E → ℕ) (e : E) (p : Part E) (l : List E) → owner e ≡ p.owner → entries_of owner p.owner l ≡ p.own → entries_of owner p.owner (l ++ e ∷ []) ≡ p.own ++ e ∷ []
own_adds owner e p l is h =
    let in_it : filter (λ d. eqb (owner d) p.owner) (e ∷ []) ≡ e ∷ [] = ap (λ b. cond b (e ∷ []) []) (eq-eqb (owner e) p.owner is) in
    filter-append (λ d. eqb (owner d) p.owner) l (e ∷ []) ∙ (ap (λ t. filter (λ d. eqb (owner d) p.owner) l ++ t) in_it ∙ ap (λ t. t ++ e ∷ []) h)
