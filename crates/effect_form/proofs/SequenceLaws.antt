-- Fields one after another that are read are those that were written.
use Rattle.effect_form.proofs.Names.{◌≡◌, ℕ, List, ◌++◌, Option, Some, Ok, refl, ap, ◌∙◌, subst, append_assoc, IsBytes, Begins, IsForm, bind_some, some_is, Begins-then, ◌>>=◌, field, field_ok, ok_is, part_one, part_two, whole_one, whole_two}
use Rattle.field_form.specs.Forms as form

module _ {A X : Type 0} (text : A → List ℕ) (InRange : A → Type 0) (f : List ℕ → Option (A × List ℕ)) (one : IsForm text InRange f) (make : A → X) where
  pub part_one-takes : (bytes : List ℕ) (x : X) (rest : List ℕ) → IsBytes bytes → part_one make f bytes ≡ Some (x, rest) → (a : A) × (make a ≡ x) × Begins bytes (text a) rest × InRange a
  part_one-takes bytes x rest fits e =
      let a = bind_some (f bytes) (λ p. Some (make p.0, p.1)) (x, rest) e in
      let made : X × List ℕ = (make a.0.0, a.0.1) in
      let is : ◌≡◌ {A = X × List ℕ} made (x, rest) = some_is made (x, rest) a.2 in
      let t = one.takes bytes a.0.0 a.0.1 fits a.1 in
      (a.0.0, ap (λ (y : X × List ℕ). y.0) is, subst (λ (r : List ℕ). Begins bytes (text a.0.0) r) (ap (λ (y : X × List ℕ). y.1) is) t.0, t.1)

  pub part_one-again : (a : A) (rest : List ℕ) → InRange a → part_one make f (text a ++ rest) ≡ Some (make a, rest)
  part_one-again a rest h = rw (one.again a rest h) refl

  pub whole_one-takes : (at : ℕ) (bytes : List ℕ) (x : X) (rest : List ℕ) → IsBytes bytes → whole_one at make f bytes ≡ Ok (x, rest) → (a : A) × (make a ≡ x) × Begins bytes (text a) rest × InRange a
  whole_one-takes at bytes x rest fits e =
      let a = field_ok at (f bytes) (λ p. Ok (make p.0, p.1)) (x, rest) e in
      let made : X × List ℕ = (make a.0.0, a.0.1) in
      let is : ◌≡◌ {A = X × List ℕ} made (x, rest) = ok_is made (x, rest) a.2 in
      let t = one.takes bytes a.0.0 a.0.1 fits a.1 in
      (a.0.0, ap (λ (y : X × List ℕ). y.0) is, subst (λ (r : List ℕ). Begins bytes (text a.0.0) r) (ap (λ (y : X × List ℕ). y.1) is) t.0, t.1)

  pub whole_one-again : (at : ℕ) (a : A) (rest : List ℕ) → InRange a → whole_one at make f (text a ++ rest) ≡ Ok (make a, rest)
  whole_one-again at a rest h = rw (one.again a rest h) refl

module _ {A B X : Type 0} (text : A → List ℕ) (InRange : A → Type 0) (f : List ℕ → Option (A × List ℕ)) (first : IsForm text InRange f)
    (text' : B → List ℕ) (InRange' : B → Type 0) (g : List ℕ → Option (B × List ℕ)) (second : IsForm text' InRange' g) (make : A → B → X) where
  pub part_two-takes : (bytes : List ℕ) (x : X) (rest : List ℕ) → IsBytes bytes → part_two make f g bytes ≡ Some (x, rest) → (a : A) × (b : B) × (make a b ≡ x) × Begins bytes (text a ++ text' b) rest × InRange a × InRange' b
  part_two-takes bytes x rest fits e =
      let a = bind_some (f bytes) (λ p. form.◌>>=◌ (g p.1) (λ q. Some (make p.0 q.0, q.1))) (x, rest) e in
      let b = bind_some (g a.0.1) (λ q. Some (make a.0.0 q.0, q.1)) (x, rest) a.2 in
      let made : X × List ℕ = (make a.0.0 b.0.0, b.0.1) in
      let is : ◌≡◌ {A = X × List ℕ} made (x, rest) = some_is made (x, rest) b.2 in
      let t = first.takes bytes a.0.0 a.0.1 fits a.1 in
      let u = second.takes a.0.1 b.0.0 b.0.1 t.0.rest_is_bytes b.1 in
      (a.0.0, b.0.0, ap (λ (y : X × List ℕ). y.0) is, subst (λ (r : List ℕ). Begins bytes (text a.0.0 ++ text' b.0.0) r) (ap (λ (y : X × List ℕ). y.1) is) (Begins-then bytes (text a.0.0) a.0.1 (text' b.0.0) b.0.1 t.0 u.0), t.1, u.1)

  pub part_two-again : (a : A) (b : B) (rest : List ℕ) → InRange a → InRange' b → part_two make f g ((text a ++ text' b) ++ rest) ≡ Some (make a b, rest)
  part_two-again a b rest h k =
      ap (part_two make f g) (append_assoc (text a) (text' b) rest) ∙ rw (first.again a (text' b ++ rest) h, second.again b rest k) refl

  pub whole_two-takes : (at at' : ℕ) (bytes : List ℕ) (x : X) (rest : List ℕ) → IsBytes bytes → whole_two at at' make f g bytes ≡ Ok (x, rest) → (a : A) × (b : B) × (make a b ≡ x) × Begins bytes (text a ++ text' b) rest × InRange a × InRange' b
  whole_two-takes at at' bytes x rest fits e =
      let a = field_ok at (f bytes) (λ p. field at' (g p.1) >>= λ q. Ok (make p.0 q.0, q.1)) (x, rest) e in
      let b = field_ok at' (g a.0.1) (λ q. Ok (make a.0.0 q.0, q.1)) (x, rest) a.2 in
      let made : X × List ℕ = (make a.0.0 b.0.0, b.0.1) in
      let is : ◌≡◌ {A = X × List ℕ} made (x, rest) = ok_is made (x, rest) b.2 in
      let t = first.takes bytes a.0.0 a.0.1 fits a.1 in
      let u = second.takes a.0.1 b.0.0 b.0.1 t.0.rest_is_bytes b.1 in
      (a.0.0, b.0.0, ap (λ (y : X × List ℕ). y.0) is, subst (λ (r : List ℕ). Begins bytes (text a.0.0 ++ text' b.0.0) r) (ap (λ (y : X × List ℕ). y.1) is) (Begins-then bytes (text a.0.0) a.0.1 (text' b.0.0) b.0.1 t.0 u.0), t.1, u.1)

  pub whole_two-again : (at at' : ℕ) (a : A) (b : B) (rest : List ℕ) → InRange a → InRange' b → whole_two at at' make f g ((text a ++ text' b) ++ rest) ≡ Ok (make a b, rest)
  whole_two-again at at' a b rest h k =
      ap (whole_two at at' make f g) (append_assoc (text a) (text' b) rest) ∙ rw (first.again a (text' b ++ rest) h, second.again b rest k) refl
