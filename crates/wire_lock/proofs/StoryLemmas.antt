-- A story that has all entries of each owner is the whole list.
use Rattle.wire_lock.proofs.Names.{◌≡◌, ℕ, zero, suc, ◌≤◌, ◌==◌, Bool, List, [], ◌∷◌, ◌++◌, filter-append, IsOneOf, Begins, entries_of, Entry, owner_of, All, refl, ap, sym, ◌∙◌, subst, cond, arith, eq-eqb, append-nil, same, total}

nothing-added : (xs ys : List Entry) → xs ++ ys ≡ xs → ys ≡ []
nothing-added [] ys h = h
nothing-added (x ∷ xs) ys h = nothing-added xs ys (cc h)

all-at : (P : Entry → Type 0) (xs : List Entry) (e : Entry) (rest : List Entry) → All P (xs ++ e ∷ rest) → P e
all-at P [] e rest h = h 0 e (omega arith)
all-at P (x ∷ xs) e rest h = all-at P xs e rest (λ k d lt. h (suc k) d (omega (arith, lt)))

-- the first entry that is left out is missing among its owner's
left-out : (story rest : List Entry) (e : Entry) → entries_of owner_of (owner_of e) story ≡ entries_of owner_of (owner_of e) (story ++ e ∷ rest) → ⊥
left-out story rest e h =
    let one : entries_of owner_of (owner_of e) (e ∷ rest) ≡ e ∷ entries_of owner_of (owner_of e) rest =
    ap (λ (t : Bool). cond t (e ∷ entries_of owner_of (owner_of e) rest) (entries_of owner_of (owner_of e) rest)) (eq-eqb (owner_of e) (owner_of e) refl) in
    let all : entries_of owner_of (owner_of e) story ++ entries_of owner_of (owner_of e) (e ∷ rest) ≡ entries_of owner_of (owner_of e) story =
    sym (filter-append (λ (x : Entry). owner_of x == owner_of e) story (e ∷ rest)) ∙ sym h in
    let none : e ∷ entries_of owner_of (owner_of e) rest ≡ [] = sym one ∙ nothing-added (entries_of owner_of (owner_of e) story) (entries_of owner_of (owner_of e) (e ∷ rest)) all in
    absurd (cc none)

same-is : (a b n : ℕ) → same a b ≡ suc n → a ≡ b
same-is a b n h = omega (arith, h)

no-owner : (os : List ℕ) (story rest : List Entry) (e : Entry) → IsOneOf os (owner_of e) → All (λ o. entries_of owner_of o story ≡ entries_of owner_of o (story ++ e ∷ rest)) os → ⊥
no-owner [] story rest e one all = absurd (omega (arith, one))
no-owner (o ∷ os) story rest e one all = go (same (owner_of e) o) refl (λ h. no-owner os story rest e h (λ k d lt. all (suc k) d (omega (arith, lt))))
  where
    go : (n : ℕ) → same (owner_of e) o ≡ n → (1 ≤ total (same (owner_of e)) os → ⊥) → ⊥
    go zero is more = more (omega (arith, is, one))
    go (suc n) is more =
        let at : o ≡ owner_of e = sym (same-is (owner_of e) o n is) in
        left-out story rest e (subst (λ (x : ℕ). entries_of owner_of x story ≡ entries_of owner_of x (story ++ e ∷ rest)) at (all 0 o (omega arith)))

pub whole-story : (owners : List ℕ) (story whole : List Entry) → Begins story whole → All (λ e. IsOneOf owners (owner_of e)) whole → All (λ o. entries_of owner_of o story ≡ entries_of owner_of o whole) owners → story ≡ whole
whole-story owners story whole begins owned all = go begins.0 begins.1
  where
    go : (rest : List Entry) → story ++ rest ≡ whole → story ≡ whole
    go [] is = sym (append-nil story) ∙ is
    go (e ∷ rest) is =
        let one : IsOneOf owners (owner_of e) = all-at (λ (x : Entry). IsOneOf owners (owner_of x)) story e rest (subst (All (λ (x : Entry). IsOneOf owners (owner_of x))) (sym is) owned) in
        absurd (no-owner owners story rest e one (subst (λ (l : List Entry). All (λ o. entries_of owner_of o story ≡ entries_of owner_of o l) owners) (sym is) all))
