-- What becomes of a list while its shares go on.
use Rattle.run_starts.proofs.Names.{◌≡◌, ◌<◌, ◌+◌, ◌*◌, ◌/◌, ◌%◌, ℕ, zero, suc, List, [], ◌∷◌, ◌++◌, length, Option, Some, None, slice_get, slice_index_or, take, All, Any, refl, ap, sym, ◌∙◌, subst, arith, AllZip, mod-lt, mod-eq_of_lt, mul-add-mod_self_right, slice_get-get_or, slice_get_within, get_or_from_slice_get, same_Some, take_more, length-take-le, Vec, IsDealt, Along}
use Rattle.std.proofs.lemmas.Nat.{div-mul-add}
use Rattle.run_starts.proofs.DealLemmas.{all-at, some-within}

-- ---- lists beside each other

pub zip-at : {A B : Type 0} (Q : A → B → Type 0) (xs : List A) (ys : List B) (i : ℕ) (x : A) → AllZip Q xs ys → slice_get xs i ≡ Some x → (y : B) × (slice_get ys i ≡ Some y) × Q x y
zip-at Q [] ys i x h e = absurd cc
zip-at Q (a ∷ xs) [] i x h e = absurd h
zip-at Q (a ∷ xs) (b ∷ ys) zero x h e = (b, refl, subst (λ z. Q z b) (same_Some _ _ e) h.0)
zip-at Q (a ∷ xs) (b ∷ ys) (suc i) x h e = zip-at Q xs ys i x h.1 e

pub zip-back : {A B : Type 0} (Q : A → B → Type 0) (xs : List A) (ys : List B) (i : ℕ) (y : B) → AllZip Q xs ys → slice_get ys i ≡ Some y → (x : A) × (slice_get xs i ≡ Some x) × Q x y
zip-back Q [] [] i y h e = absurd cc
zip-back Q [] (b ∷ ys) i y h e = absurd h
zip-back Q (a ∷ xs) [] i y h e = absurd h
zip-back Q (a ∷ xs) (b ∷ ys) zero y h e = (a, refl, subst (λ z. Q a z) (same_Some _ _ e) h.0)
zip-back Q (a ∷ xs) (b ∷ ys) (suc i) y h e = zip-back Q xs ys i y h.1 e

pub zip-none : {A B : Type 0} (Q : A → B → Type 0) (xs : List A) (ys : List B) (i : ℕ) → AllZip Q xs ys → slice_get xs i ≡ None → slice_get ys i ≡ None
zip-none Q [] [] i h e = refl
zip-none Q [] (b ∷ ys) i h e = absurd h
zip-none Q (a ∷ xs) [] i h e = absurd h
zip-none Q (a ∷ xs) (b ∷ ys) zero h e = absurd cc
zip-none Q (a ∷ xs) (b ∷ ys) (suc i) h e = zip-none Q xs ys i h.1 e

-- a list of what there is for each element, by its place
made : {T : Type 0} (R : T → T → Type 0) (P : ℕ → T → T → Type 0) (xs : List T) (k : ℕ) → ((i : ℕ) (x y : T) → P i x y → R x y) → ((i : ℕ) (x : T) → slice_get xs i ≡ Some x → (y : T) × P (k + i) x y)
    → (ys : List T) × AllZip R xs ys × ((i : ℕ) (x y : T) → slice_get xs i ≡ Some x → slice_get ys i ≡ Some y → P (k + i) x y)
made R P [] k r f = ([], tt, λ i x y e g. absurd cc)
made {T} R P (x ∷ xs) k r f =
    let one = f 0 x refl in
    let rest = made R P xs (suc k) r (λ i z e. (let h = f (suc i) z e in (h.0, subst (λ (n : ℕ). P n z h.0) (omega arith) h.1))) in
    (one.0 ∷ rest.0, (r (k + 0) x one.0 one.1, rest.1), at one rest.0 rest.2)
  where
    at : (one : (y : T) × P (k + 0) x y) (ys : List T) → ((i : ℕ) (a b : T) → slice_get xs i ≡ Some a → slice_get ys i ≡ Some b → P (suc k + i) a b) → (i : ℕ) (a b : T) → slice_get (x ∷ xs) i ≡ Some a → slice_get (one.0 ∷ ys) i ≡ Some b → P (k + i) a b
    at one ys more zero a b e g = subst (λ z. P (k + 0) a z) (same_Some _ _ g) (subst (λ z. P (k + 0) z one.0) (same_Some _ _ e) one.1)
    at one ys more (suc i) a b e g = subst (λ (n : ℕ). P n a b) (omega arith) (more i a b e g)

-- ---- shares

module _ {T A : Type 0} (W : ℕ) (pos : 0 < W) where
  share-at : (shares : List (Vec T A)) → length shares ≡ W → (i : ℕ) → (s : Vec T A) × (slice_get shares (i % W) ≡ Some s)
  share-at shares size i = some-within shares (i % W) (let m = mod-lt i pos in omega (arith, m, size))

  -- where each share went on, so did the list that was dealt to them
  module _ (R : T → T → Type 0) (xs : List T) (old new : List (Vec T A)) (d : IsDealt W xs old) (size : length old ≡ W) (went : AllZip (λ (a b : Vec T A). AllZip R a.items b.items) old new) where
    abbrev Stands : ℕ → T → T → Type 0
    Stands i x y = R x y × ((t : Vec T A) → slice_get new (i % W) ≡ Some t → slice_get t.items (i / W) ≡ Some y)

    one-at : (i : ℕ) (x : T) → slice_get xs i ≡ Some x → (y : T) × Stands i x y
    one-at i x e =
        let s = share-at old size i in
        let t = zip-at (λ (a b : Vec T A). AllZip R a.items b.items) old new (i % W) s.0 went s.1 in
        let y = zip-at R s.0.items t.0.items (i / W) x t.2 (d i s.0 s.1 ∙ e) in
        (y.0, (y.2, λ u at. ap (λ (v : Vec T A). slice_get v.items (i / W)) (same_Some _ _ (sym at ∙ t.1)) ∙ y.1))

    pub dealt-along : (ys : List T) × IsDealt W ys new × AllZip R xs ys
    dealt-along =
        let m = made R Stands xs 0 (λ i x y h. h.0) (λ i x e. (let h = one-at i x e in (h.0, subst (λ (n : ℕ). Stands n x h.0) (omega arith) h.1))) in
        (m.0, (λ i t at. by m.0 m.1 m.2 i t at (slice_get xs i) refl), m.1)
      where
        by : (ys : List T) → AllZip R xs ys → ((i : ℕ) (x y : T) → slice_get xs i ≡ Some x → slice_get ys i ≡ Some y → Stands (0 + i) x y) → (i : ℕ) (t : Vec T A) → slice_get new (i % W) ≡ Some t
            → (o : Option T) → slice_get xs i ≡ o → slice_get t.items (i / W) ≡ slice_get ys i
        by ys zip at-all i t at (Some x) e =
            let y = zip-at R xs ys i x zip e in
            let h = subst (λ (n : ℕ). Stands n x y.0) (omega arith) (at-all i x y.0 e y.1) in
            h.1 t at ∙ sym y.1
        by ys zip at-all i t at None e =
            let s = zip-back (λ (a b : Vec T A). AllZip R a.items b.items) old new (i % W) t went at in
            zip-none R s.0.items t.items (i / W) s.2 (d i s.0 s.1 ∙ e) ∙ sym (zip-none R xs ys i zip e)

  -- what holds of each element of the shares holds of each of the list
  pub each-dealt : (P : T → Type 0) (xs : List T) (shares : List (Vec T A)) → IsDealt W xs shares → length shares ≡ W → All (λ (s : Vec T A). All P s.items) shares → (i : ℕ) (x : T) → slice_get xs i ≡ Some x → P x
  each-dealt P xs shares d size h i x e =
      let s = share-at shares size i in
      all-at P s.0.items (i / W) x (all-at (λ (v : Vec T A). All P v.items) shares (i % W) s.0 h s.1) (d i s.0 s.1 ∙ e)

module _ {T A : Type 0} (W : ℕ) (pos : 0 < W) (P : T → Type 0) (xs : List T) (shares : List (Vec T A)) (d : IsDealt W xs shares) (size : length shares ≡ W) where
  -- from shares to the list
  pub each-listed : All (λ (s : Vec T A). All P s.items) shares → All P xs
  each-listed h k e lt = each-dealt W pos P xs shares d size h k (slice_index_or xs k e) (slice_get-get_or xs k e lt)

  -- the element in place r of share w
  there : (w r : ℕ) (s : Vec T A) (x : T) → w < W → slice_get shares w ≡ Some s → slice_get s.items r ≡ Some x → slice_get xs (r * W + w) ≡ Some x
  there w r s x lt at got =
      let column : (r * W + w) % W ≡ w = mul-add-mod_self_right r W w ∙ mod-eq_of_lt lt in
      let row : (r * W + w) / W ≡ r = div-mul-add r W w lt in
      sym (d (r * W + w) s (ap (λ n. slice_get shares n) column ∙ at)) ∙ (ap (λ n. slice_get s.items n) row ∙ got)

  -- and back
  pub each-shared : All P xs → All (λ (s : Vec T A). All P s.items) shares
  each-shared h w e lt r f below =
      let s = slice_index_or shares w e in
      let x = slice_index_or s.items r f in
      let at = there w r s x (omega (arith, lt, size)) (slice_get-get_or shares w e lt) (slice_get-get_or s.items r f below) in
      all-at P xs (r * W + w) x h at

  -- one of the shares' is one of the list
  pub some-listed : Any (λ (s : Vec T A). Any P s.items) shares → Any P xs
  some-listed (w, s, lt, es, (r, x, below, ex, px)) =
      let at = there w r s x (omega (arith, lt, size)) (slice_get-get_or shares w s lt ∙ ap (λ z. Some z) es) (slice_get-get_or s.items r x below ∙ ap (λ z. Some z) ex) in
      (r * W + w, x, slice_get_within xs (r * W + w) x at, get_or_from_slice_get xs (r * W + w) x x at, px)

-- ---- lists beside each other, by their places

along-more : {A B : Type 0} (R : ℕ → A → B → Type 0) (i : ℕ) (xs : List A) (ys : List B) (x : A) (y : B) → Along R i xs ys → R (i + length xs) x y → Along R i (xs ++ x ∷ []) (ys ++ y ∷ [])
along-more R i [] [] x y h one = (subst (λ (n : ℕ). R n x y) (omega arith) one, tt)
along-more R i [] (b ∷ ys) x y h one = absurd h
along-more R i (a ∷ xs) [] x y h one = absurd h
along-more R i (a ∷ xs) (b ∷ ys) x y h one = (h.0, along-more R (suc i) xs ys x y h.1 (subst (λ (n : ℕ). R n x y) (omega arith) one))

along-split : {A B : Type 0} (R : ℕ → A → B → Type 0) (i : ℕ) (xs : List A) (ys : List B) (x : A) (y : B) → Along R i (xs ++ x ∷ []) (ys ++ y ∷ []) → Along R i xs ys × R (i + length xs) x y
along-split R i [] [] x y h = (tt, subst (λ (n : ℕ). R n x y) (omega arith) h.0)
along-split R i [] (b ∷ []) x y h = absurd h.1
along-split R i [] (b ∷ c ∷ ys) x y h = absurd h.1
along-split R i (a ∷ []) [] x y h = absurd h.1
along-split R i (a ∷ c ∷ xs) [] x y h = absurd h.1
along-split R i (a ∷ xs) (b ∷ ys) x y h = let k = along-split R (suc i) xs ys x y h.1 in ((h.0, k.0), subst (λ (n : ℕ). R n x y) (omega arith) k.1)

pub along-length : {A B : Type 0} (R : ℕ → A → B → Type 0) (i : ℕ) (xs : List A) (ys : List B) → Along R i xs ys → length ys ≡ length xs
along-length R i [] [] h = refl
along-length R i [] (b ∷ ys) h = absurd h
along-length R i (a ∷ xs) [] h = absurd h
along-length R i (a ∷ xs) (b ∷ ys) h = ap suc (along-length R (suc i) xs ys h.1)

-- as the code says it: the last element of what was popped stands in place p of the other list
module _ {A B : Type 0} (R : ℕ → A → B → Type 0) (xs : List A) (p n : ℕ) (x : A) (size : n ≡ p + 1) (inside : p < length xs) (read : x ≡ slice_index_or xs p x) where
  front-size : length (take p xs) ≡ p
  front-size = length-take-le p xs (omega (arith, inside))

  split : take n xs ≡ take p xs ++ x ∷ []
  split = ap (λ k. take k xs) size ∙ (take_more xs p x inside ∙ ap (λ z. take p xs ++ z ∷ []) (sym read))

  pub along-popped : (all front : List B) (last : B) → all ≡ front ++ last ∷ [] → Along R 0 (take n xs) all → Along R 0 (take p xs) front × R p x last
  along-popped all front last e h =
      let k = along-split R 0 (take p xs) front x last (subst (λ l. Along R 0 l (front ++ last ∷ [])) split (subst (λ l. Along R 0 (take n xs) l) e h)) in
      let s = front-size in
      (k.0, subst (λ (i : ℕ). R i x last) (omega (arith, s)) k.1)

  pub along-pushed : (new front : List B) (last : B) → new ≡ front ++ last ∷ [] → Along R 0 (take p xs) front → R p x last → Along R 0 (take n xs) new
  along-pushed new front last e h one =
      let s = front-size in
      subst (λ l. Along R 0 (take n xs) l) (sym e) (subst (λ l. Along R 0 l (front ++ last ∷ [])) (sym split) (along-more R 0 (take p xs) front x last h (subst (λ (i : ℕ). R i x last) (omega (arith, s)) one)))

-- the same of two lists that were both popped
module _ {A B : Type 0} (R : ℕ → A → B → Type 0) (xs front : List A) (x : A) (split : xs ≡ front ++ x ∷ []) where
  pub both-popped : (all more : List B) (last : B) → all ≡ more ++ last ∷ [] → Along R 0 xs all → Along R 0 front more × R (length front) x last
  both-popped all more last e h =
      let k = along-split R 0 front more x last (subst (λ l. Along R 0 l (more ++ last ∷ [])) split (subst (λ l. Along R 0 xs l) e h)) in
      (k.0, subst (λ (i : ℕ). R i x last) (omega arith) k.1)

  pub both-pushed : (new more : List B) (last : B) → new ≡ more ++ last ∷ [] → Along R 0 front more → R (length front) x last → Along R 0 xs new
  both-pushed new more last e h one =
      subst (λ l. Along R 0 xs l) (sym e) (subst (λ l. Along R 0 l (more ++ last ∷ [])) (sym split) (along-more R 0 front more x last h (subst (λ (i : ℕ). R i x last) (omega arith) one)))
