-- Learns of a longer list are new, too.
use Rattle.wire_core.proofs.Names.{Entry, Learn, Base, walk, ◌≡◌, List, [], ◌∷◌, ◌++◌, refl, sym, ap, subst, ◌∙◌}
use Rattle.std.specs.Prelude.{◌⊎◌}
use Rattle.std.proofs.Common.{inl, inr, ⊎_elim}
use Rattle.wire_core.specs.Learns.{LearnsAreNew, IsNewIn, IsNewTo}

none-there : {A : Type 0} (front : List A) (x : A) (rest : List A) → [] ≡ front ++ x ∷ rest → ⊥
none-there {A} [] x rest e = absurd (cc e)
none-there {A} (y ∷ front) x rest e = absurd (cc e)

tail-is : {A : Type 0} (y z : A) (ys zs : List A) → y ∷ ys ≡ z ∷ zs → ys ≡ zs
tail-is {A} y z ys zs e = cc e

head-is : {A : Type 0} (y z : A) (ys zs : List A) → y ∷ ys ≡ z ∷ zs → y ≡ z
head-is {A} y z ys zs e = cc e

-- the last one, or one before it
last-or : {A : Type 0} (es : List A) (e : A) (front : List A) (x : A) (rest : List A) → es ++ e ∷ [] ≡ front ++ x ∷ rest → ((more : List A) × (es ≡ front ++ x ∷ more)) ⊎ ((es ≡ front) × (e ≡ x))
last-or {A} [] e [] x rest is = inr (refl, head-is e x [] rest is)
last-or {A} [] e (y ∷ front) x rest is = absurd (none-there front x rest (tail-is e y [] (front ++ x ∷ rest) is))
last-or {A} (y ∷ es) e [] x rest is = inl (es, ap (λ z. z ∷ es) (head-is y x (es ++ e ∷ []) rest is))
last-or {A} (y ∷ es) e (z ∷ front) x rest is =
    let h : y ≡ z = head-is y z (es ++ e ∷ []) (front ++ x ∷ rest) is in
    ⊎_elim (λ k. inl (k.0, ap (λ l. y ∷ l) k.1 ∙ ap (λ a. a ∷ (front ++ x ∷ k.0)) h)) (λ k. inr (ap (λ l. y ∷ l) k.0 ∙ ap (λ a. a ∷ front) h, k.1))
    (last-or es e front x rest (tail-is y z (es ++ e ∷ []) (front ++ x ∷ rest) is))

pub none-learned : (b : Base) (es : List Entry) → es ≡ [] → LearnsAreNew b es
none-learned b es none front n s c rest is = absurd (none-there front (Learn n s c) rest (sym none ∙ is))

pub learns-more : (b : Base) (es : List Entry) (e : Entry) → LearnsAreNew b es → IsNewIn (walk b es) e → LearnsAreNew b (es ++ e ∷ [])
learns-more b es e new is front n s c rest at = ⊎_elim
    (λ h. new front n s c h.0 h.1)
    (λ h. subst (λ l. IsNewTo ((walk b l).life n) s) h.0 (subst (IsNewIn (walk b es)) h.1 is))
    (last-or es e front (Learn n s c) rest at)
