-- Logs that grow, lists, and functions that change at one node.
use Rattle.world_facts.proofs.Names.{Every, Has, NodeId, Effect, Each, same_node, same_is, same_node-refl, numbered, put, ◌≡◌, ℕ, zero, suc, ◌-◌, Bool, true, false, List, [], ◌∷◌, ◌++◌, length, drop, take, reverse, map, cond, if◌then◌else◌, refl, sym, ◌∙◌, ap, subst, Some, arith, ◌⊎◌, inl, inr, slice_get, filter, take-append-drop, reverse-append, length-append}

-- ---- growth

pub each-map : (P Q : List Effect → Effect → Type 0) → ((log : List Effect) (f : Effect) → P log f → Q log f) → (log : List Effect) → Each P log → Each Q log
each-map P Q h [] k = k
each-map P Q h (f ∷ log) k = (each-map P Q h log k.0, h log f k.1)

pub each-drop : (P : List Effect → Effect → Type 0) (log : List Effect) (n : ℕ) (fresh : List Effect) → Each P (fresh ++ log) → Each P (drop n fresh ++ log)
each-drop P log zero fresh k = k
each-drop P log (suc n) [] k = k
each-drop P log (suc n) (f ∷ fresh) k = each-drop P log n fresh k.0

-- an effect of a log, with the log below it
pub each-has : (P : List Effect → Effect → Type 0) (log : List Effect) (f : Effect) → Each P log → Has f log → (below : List Effect) × P below f
each-has P [] f h k = absurd k
each-has P (g ∷ log) f h (inl e) = (log, subst (P log) e h.1)
each-has P (g ∷ log) f h (inr k) = each-has P log f h.0 k

pub or-left : {A B C : Type 0} → (A → B) → A ⊎ C → B ⊎ C
or-left f (inl a) = inl (f a)
or-left f (inr c) = inr c

-- ---- lists

module _ {X : Type 0} where
  pub drop-none : (n : ℕ) (xs : List X) → xs ≡ [] → drop n xs ≡ []
  drop-none zero xs h = h
  drop-none (suc n) [] h = refl
  drop-none (suc n) (x ∷ xs) h = absurd (cc h)

  pub every-filter : (P : X → Type 0) (test : X → Bool) (xs : List X) → Every P xs → Every P (filter test xs)
  every-filter P test [] h = tt
  every-filter P test (x ∷ xs) h = (elim (test x) as (λ b. Every P (filter test xs) → Every P (cond b (x ∷ filter test xs) (filter test xs))) [ true ↦ λ rest. (h.0, rest) | false ↦ λ rest. rest ]) (every-filter P test xs h.1)

  pub every-of : (P : X → Type 0) (xs : List X) → ((x : X) → Has x xs → P x) → Every P xs
  every-of P [] f = tt
  every-of P (x ∷ xs) f = (f x (inl refl), every-of P xs (λ y h. f y (inr h)))

  pub every-at : (P : X → Type 0) (xs : List X) (n : ℕ) (x : X) → Every P xs → slice_get xs n ≡ Some x → P x
  every-at P [] n x h e = absurd (cc e)
  every-at P (y ∷ xs) zero x h e = let same : y ≡ x = cc e in subst P same h.0
  every-at P (y ∷ xs) (suc n) x h e = every-at P xs n x h.1 e

  -- what stands in a list has a place there
  pub has-at : (xs : List X) (x : X) → Has x xs → (k : ℕ) × (slice_get xs k ≡ Some x)
  has-at [] x h = absurd h
  has-at (y ∷ xs) x (inl e) = (0, ap (λ z. Some z) e)
  has-at (y ∷ xs) x (inr h) = let k = has-at xs x h in (suc k.0, k.1)

  pub has-filter : (test : X → Bool) (xs : List X) (x : X) → Has x xs → test x ≡ true → Has x (filter test xs)
  has-filter test [] x h e = h
  has-filter test (y ∷ xs) x (inl i) e = subst (λ (t : Bool). Has x (cond t (y ∷ filter test xs) (filter test xs))) (sym (ap test i ∙ e)) (inl i)
  has-filter test (y ∷ xs) x (inr r) e = (elim (test y) as (λ t. Has x (filter test xs) → Has x (cond t (y ∷ filter test xs) (filter test xs))) [ true ↦ λ h. inr h | false ↦ λ h. h ]) (has-filter test xs x r e)

  pub filter-has : (test : X → Bool) (xs : List X) (x : X) → Has x (filter test xs) → Has x xs
  filter-has test [] x h = h
  filter-has test (y ∷ xs) x h = go (filter-has test xs x) (test y) h
    where
      go : (Has x (filter test xs) → Has x xs) → (t : Bool) → Has x (cond t (y ∷ filter test xs) (filter test xs)) → Has x (y ∷ xs)
      go rest true (inl e) = inl e
      go rest true (inr r) = inr (rest r)
      go rest false r = inr (rest r)

  pub none-has : (xs : List X) (x : X) → xs ≡ [] → Has x xs → ⊥
  none-has [] x e h = h
  none-has (y ∷ xs) x e h = absurd (cc e)

  drop-front : (xs ys : List X) → drop (length xs) (xs ++ ys) ≡ ys
  drop-front [] ys = refl
  drop-front (x ∷ xs) ys = drop-front xs ys

  pub length-reverse : (xs : List X) → length (reverse xs) ≡ length xs
  length-reverse [] = refl
  length-reverse (x ∷ xs) = ap length (reverse-append (x ∷ []) xs) ∙ (let a = length-append (reverse xs) (x ∷ []) in let b = length-reverse xs in omega (arith, a, b))

  -- the first elements stand last when a list is turned round
  pub take-back : (k : ℕ) (xs : List X) → reverse (take k xs) ≡ drop (length xs - k) (reverse xs)
  take-back k xs = sym (drop-front (reverse (drop k xs)) (reverse (take k xs)))
      ∙ ap (λ n. drop n (reverse (drop k xs) ++ reverse (take k xs))) (length-reverse (drop k xs) ∙ rest k xs)
      ∙ ap (drop (length xs - k)) (sym (reverse-append (take k xs) (drop k xs)) ∙ ap reverse (take-append-drop k xs))
    where
      rest : (k : ℕ) (xs : List X) → length (drop k xs) ≡ length xs - k
      rest zero xs = omega arith
      rest (suc k) [] = omega arith
      rest (suc k) (x ∷ xs) = let h = rest k xs in omega (arith, h)

module _ {X Y : Type 0} where
  pub every-of-map : (P : Y → Type 0) (f : X → Y) (xs : List X) → Every (λ x. P (f x)) xs → Every P (map f xs)
  every-of-map P f [] h = tt
  every-of-map P f (x ∷ xs) h = (h.0, every-of-map P f xs h.1)

  pub has-map : (f : X → Y) (xs : List X) (x : X) → Has x xs → Has (f x) (map f xs)
  has-map f [] x h = h
  has-map f (y ∷ xs) x (inl e) = inl (ap f e)
  has-map f (y ∷ xs) x (inr h) = inr (has-map f xs x h)

  pub map-has : (f : X → Y) (xs : List X) (y : Y) → Has y (map f xs) → (x : X) × Has x xs × (f x ≡ y)
  map-has f [] y h = absurd h
  map-has f (x ∷ xs) y (inl e) = (x, inl refl, e)
  map-has f (x ∷ xs) y (inr h) = let k = map-has f xs y h in (k.0, inr k.1, k.2)

  pub numbered-has : (f : X → Y) (xs : List X) (k : ℕ) (x : X) → numbered xs k ≡ Some x → Has (f x) (map f xs)
  numbered-has f xs zero x e = absurd (cc e)
  numbered-has f [] (suc k) x e = absurd (cc e)
  numbered-has f (y ∷ xs) (suc zero) x e = inl (let q : y ≡ x = cc e in ap f q)
  numbered-has f (y ∷ xs) (suc (suc k)) x e = inr (numbered-has f xs (suc k) x e)

-- ---- one node

pub put-all : {X : Type 0} → (P : NodeId → X → Type 0) (n : NodeId) (x : X) (s : NodeId → X) → P n x → ((k : NodeId) → P k (s k)) → (k : NodeId) → P k (put n x s k)
put-all P n x s here there k = (elim (same_node n k) as (λ b. same_node n k ≡ b → P k (if b then x else s k)) [ true ↦ λ e. subst (λ z. P z x) (same_is n k e) here | false ↦ λ e. there k ]) refl

pub put-both : {X Y : Type 0} → (P : NodeId → X → Y → Type 0) (n : NodeId) (x : X) (s : NodeId → X) (y : Y) (t : NodeId → Y) → P n x y → ((k : NodeId) → P k (s k) (t k)) →
    (k : NodeId) → P k (put n x s k) (put n y t k)
put-both P n x s y t here there k = (elim (same_node n k) as (λ b. same_node n k ≡ b → P k (if b then x else s k) (if b then y else t k)) [ true ↦ λ e. subst (λ z. P z x y) (same_is n k e) here | false ↦ λ e. there k ]) refl

pub put-here : {X : Type 0} → (n : NodeId) (x : X) (s : NodeId → X) → put n x s n ≡ x
put-here n x s = ap (λ b. if b then x else s n) (same_node-refl n)
