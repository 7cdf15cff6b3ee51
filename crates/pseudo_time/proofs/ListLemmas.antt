-- Facts on the elements of lists that are joined, turned round or seen as another fact.
use Rattle.std.specs.Prelude.{◌⊎◌, List, [], ◌∷◌, ◌++◌, reverse}
use Rattle.std.proofs.Common.{inl, inr, subst, sym}
use Rattle.std.proofs.lemmas.List.{reverse-append}
use Rattle.pseudo_time.specs.Lists.{Every, Has}

module _ {A : Type 0} where
  pub every-map : (P Q : A → Type 0) → ((x : A) → P x → Q x) → (xs : List A) → Every P xs → Every Q xs
  every-map P Q f [] h = tt
  every-map P Q f (x ∷ xs) h = (f x h.0, every-map P Q f xs h.1)

  pub every-append : (P : A → Type 0) (xs ys : List A) → Every P xs → Every P ys → Every P (xs ++ ys)
  every-append P [] ys h k = k
  every-append P (x ∷ xs) ys h k = (h.0, every-append P xs ys h.1 k)

  pub every-left : (P : A → Type 0) (xs ys : List A) → Every P (xs ++ ys) → Every P xs
  every-left P [] ys h = tt
  every-left P (x ∷ xs) ys h = (h.0, every-left P xs ys h.1)

  pub every-right : (P : A → Type 0) (xs ys : List A) → Every P (xs ++ ys) → Every P ys
  every-right P [] ys h = h
  every-right P (x ∷ xs) ys h = every-right P xs ys h.1

  pub every-reverse : (P : A → Type 0) (xs : List A) → Every P xs → Every P (reverse xs)
  every-reverse P [] h = tt
  every-reverse P (x ∷ xs) h = subst (Every P) (sym (reverse-append (x ∷ []) xs)) (every-append P (reverse xs) (x ∷ []) (every-reverse P xs h.1) (h.0, tt))

  pub every-has : (P : A → Type 0) (xs : List A) (x : A) → Every P xs → Has x xs → P x
  every-has P [] x h k = absurd k
  every-has P (y ∷ ys) x h (inl e) = subst P e h.0
  every-has P (y ∷ ys) x h (inr k) = every-has P ys x h.1 k

  pub has-left : (xs ys : List A) (x : A) → Has x xs → Has x (xs ++ ys)
  has-left [] ys x h = absurd h
  has-left (y ∷ xs) ys x (inl e) = inl e
  has-left (y ∷ xs) ys x (inr k) = inr (has-left xs ys x k)

  pub has-right : (xs ys : List A) (x : A) → Has x ys → Has x (xs ++ ys)
  has-right [] ys x h = h
  has-right (y ∷ xs) ys x h = inr (has-right xs ys x h)

  pub has-either : (xs ys : List A) (x : A) → Has x (xs ++ ys) → Has x xs ⊎ Has x ys
  has-either [] ys x h = inr h
  has-either (y ∷ xs) ys x (inl e) = inl (inl e)
  has-either (y ∷ xs) ys x (inr k) = elim (has-either xs ys x k) [
    | inl a ↦ inl (inr a)
    | inr b ↦ inr b
  ]

  pub has-reverse : (xs : List A) (x : A) → Has x xs → Has x (reverse xs)
  has-reverse [] x h = h
  has-reverse (y ∷ ys) x (inl e) = subst (Has x) (sym (reverse-append (y ∷ []) ys)) (has-right (reverse ys) (y ∷ []) x (inl e))
  has-reverse (y ∷ ys) x (inr k) = subst (Has x) (sym (reverse-append (y ∷ []) ys)) (has-left (reverse ys) (y ∷ []) x (has-reverse ys x k))
