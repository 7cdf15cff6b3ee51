-- A list that is dealt to shares, with one element more or one fewer.
use Rattle.run_starts.proofs.Names.{◌≡◌, ◌≢◌, ◌≤◌, ◌<◌, ◌+◌, ◌*◌, ◌/◌, ◌%◌, ◌⊎◌, inl, inr, ◌-◌, ℕ, zero, suc, Bool, true, false, ◌==◌, List, [], ◌∷◌, ◌++◌, length, Some, None, slice_get, slice_set, slice_index_or, All, refl, ap, sym, ◌∙◌, subst, arith, nat_tests, div-add-mod, mod-lt, mod-eq_of_lt, lt_of_mul-lt-mul_left, add-mul-div_right, mul-le-mul_left, add-mul-mod_self_right, length_push, slice_get_past, slice_get_within, slice_get_read, get_or_from_slice_get, same_Some, All-get_or, Vec, IsDealt, HaveRoom}
use Rattle.std.proofs.lemmas.Bool.{cases_lt}
use Rattle.std.specs.Vec.{vec_len, vec_capacity}

-- ---- lists

pub get-set-other : {T : Type 0} (xs : List T) (i j : ℕ) (y : T) → j ≢ i → slice_get (slice_set xs i y) j ≡ slice_get xs j
get-set-other [] i j y other = refl
get-set-other (x ∷ xs) zero zero y other = absurd (other refl)
get-set-other (x ∷ xs) zero (suc j) y other = refl
get-set-other (x ∷ xs) (suc i) zero y other = refl
get-set-other (x ∷ xs) (suc i) (suc j) y other = get-set-other xs i j y (λ e. other (ap suc e))

pub get-set-same : {T : Type 0} (xs : List T) (i : ℕ) (x y : T) → slice_get xs i ≡ Some x → slice_get (slice_set xs i y) i ≡ Some y
get-set-same [] i x y e = absurd cc
get-set-same (z ∷ xs) zero x y e = refl
get-set-same (z ∷ xs) (suc i) x y e = get-set-same xs i x y e

pub get-front : {T : Type 0} (xs ys : List T) (i : ℕ) → i < length xs → slice_get (xs ++ ys) i ≡ slice_get xs i
get-front [] ys i lt = absurd (omega (arith, lt))
get-front (x ∷ xs) ys zero lt = refl
get-front (x ∷ xs) ys (suc i) lt = get-front xs ys i (omega (arith, lt))

pub get-last : {T : Type 0} (xs : List T) (y : T) (i : ℕ) → i ≡ length xs → slice_get (xs ++ y ∷ []) i ≡ Some y
get-last [] y zero e = refl
get-last [] y (suc i) e = absurd (omega (arith, e))
get-last (x ∷ xs) y zero e = absurd (omega (arith, e))
get-last (x ∷ xs) y (suc i) e = get-last xs y i (omega (arith, e))

pub get-past : {T : Type 0} (xs : List T) (y : T) (i : ℕ) → length xs < i → slice_get (xs ++ y ∷ []) i ≡ None
get-past [] y zero lt = absurd (omega (arith, lt))
get-past [] y (suc i) lt = refl
get-past (x ∷ xs) y zero lt = absurd (omega (arith, lt))
get-past (x ∷ xs) y (suc i) lt = get-past xs y i (omega (arith, lt))

none-past : {T : Type 0} (xs : List T) (i : ℕ) → slice_get xs i ≡ None → length xs ≤ i
none-past [] i e = omega arith
none-past (x ∷ xs) zero e = absurd cc
none-past (x ∷ xs) (suc i) e = let h = none-past xs i e in omega (arith, h)

pub some-within : {T : Type 0} (xs : List T) (i : ℕ) → i < length xs → (x : T) × (slice_get xs i ≡ Some x)
some-within [] i lt = absurd (omega (arith, lt))
some-within (x ∷ xs) zero lt = (x, refl)
some-within (x ∷ xs) (suc i) lt = some-within xs i (omega (arith, lt))

-- ---- rows

module _ (W : ℕ) where
  -- of two places in the same column, the first is in an earlier row
  row-less : (i j : ℕ) → i % W ≡ j % W → i < j → i / W < j / W
  row-less i j e lt =
      let a = div-add-mod i W in let b = div-add-mod j W in
      let p : (x y : ℕ) → x ≡ W * (i / W) → y ≡ W * (j / W) → x < y = λ x y ex ey. omega (arith, a, b, e, lt, ex, ey) in
      lt_of_mul-lt-mul_left W (p (W * (i / W)) (W * (j / W)) refl refl)

  -- the place before in the column
  row-before : (i : ℕ) → 0 < W → W ≤ i → ((i - W) % W ≡ i % W) × ((i - W) / W + 1 ≡ i / W)
  row-before i pos le =
      let k : i ≡ (i - W) + 1 * W = omega (arith, le) in
      let d : i / W ≡ (i - W) / W + 1 = ap (λ n. n / W) k ∙ add-mul-div_right (i - W) 1 pos in
      let a = div-add-mod i W in let b = div-add-mod (i - W) W in
      let m : W * ((i - W) / W + 1) ≡ W * ((i - W) / W) + W = grind (arith) in
      let q : W * (i / W) ≡ W * ((i - W) / W) + W = ap (λ n. W * n) d ∙ m in
      (omega (arith, a, b, q, le), sym d)

  row-first : (i : ℕ) → i < W → i / W ≡ 0
  row-first i lt = let a = div-add-mod i W in go (i / W) refl where
    go : (r : ℕ) → i / W ≡ r → i / W ≡ 0
    go zero e = e
    go (suc r) e =
        let a = div-add-mod i W in
        let q : W * (i / W) ≡ W * r + W = ap (λ n. W * n) e ∙ grind (arith) in
        absurd (omega (arith, a, q, lt))

  -- a later place isn't in an earlier row
  row-most : 0 < W → (i j : ℕ) → i ≤ j → i / W ≤ j / W
  row-most pos i j le = go (cases_lt (j / W) (i / W))
    where
      go : (j / W < i / W) ⊎ (i / W ≤ j / W) → i / W ≤ j / W
      go (inr h) = h
      go (inl h) =
          let a = div-add-mod i W in let b = div-add-mod j W in let m = mod-lt j pos in
          let q : W * (j / W + 1) ≤ W * (i / W) = mul-le-mul_left W (omega (arith, h)) in
          let e : W * (j / W + 1) ≡ W * (j / W) + W = grind (arith) in
          absurd (omega (arith, a, b, m, q, e, le))

module _ {T : Type 0} where
  pub all-at : (P : T → Type 0) (xs : List T) (i : ℕ) (x : T) → All P xs → slice_get xs i ≡ Some x → P x
  all-at P xs i x h e = subst P (get_or_from_slice_get xs i x x e) (All-get_or P xs i x (slice_get_within xs i x e) h)

module _ {T A : Type 0} (W : ℕ) (pos : 0 < W) where
  -- how long a share is that gets the next element
  pub row-count : (xs : List T) (shares : List (Vec T A)) → IsDealt W xs shares → (s : Vec T A) → slice_get shares (length xs % W) ≡ Some s → length s.items ≡ length xs / W
  row-count xs shares d s at = go (cases_lt (length xs) W)
    where
      most : length s.items ≤ length xs / W
      most = none-past s.items (length xs / W) (d (length xs) s at ∙ slice_get_past xs (length xs) (omega arith))

      go : (length xs < W) ⊎ (W ≤ length xs) → length s.items ≡ length xs / W
      go (inl lt) = let z = row-first W (length xs) lt in let m = most in omega (arith, m, z)
      go (inr le) =
          let b = row-before W (length xs) pos le in
          let x = some-within xs (length xs - W) (omega (arith, le, pos)) in
          let got : slice_get s.items ((length xs - W) / W) ≡ Some x.0 = d (length xs - W) s (ap (λ n. slice_get shares n) b.0 ∙ at) ∙ x.1 in
          let lt = slice_get_within s.items ((length xs - W) / W) x.0 got in
          let m = most in
          let e = b.1 in
          omega (arith, m, lt, e)

  -- one element more
  pub dealt-more : (xs : List T) (x : T) (shares : List (Vec T A)) (s s' : Vec T A) → IsDealt W xs shares → slice_get shares (length xs % W) ≡ Some s → s'.items ≡ s.items ++ x ∷ [] → IsDealt W (xs ++ x ∷ []) (slice_set shares (length xs % W) s')
  dealt-more xs x shares s s' d at more i t got = go (i % W == length xs % W) refl
    where
      q : ℕ
      q = length xs

      size : length s.items ≡ q / W
      size = row-count xs shares d s at

      here : i % W ≡ q % W → slice_get t.items (i / W) ≡ slice_get (xs ++ x ∷ []) i
      here same =
          let e : t ≡ s' = same_Some _ _ (sym got ∙ ap (λ n. slice_get (slice_set shares (q % W) s') n) same ∙ get-set-same shares (q % W) s s' at) in
          let items : t.items ≡ s.items ++ x ∷ [] = ap (λ (v : Vec T A). v.items) e ∙ more in
          ap (λ l. slice_get l (i / W)) items ∙ by-place (cases_lt i q)
        where
          by-place : (i < q) ⊎ (q ≤ i) → slice_get (s.items ++ x ∷ []) (i / W) ≡ slice_get (xs ++ x ∷ []) i
          by-place (inl lt) =
              let r = row-less W i q same lt in
              get-front s.items (x ∷ []) (i / W) (omega (arith, r, size)) ∙ d i s (ap (λ n. slice_get shares n) same ∙ at) ∙ sym (get-front xs (x ∷ []) i lt)
          by-place (inr le) = past (cases_lt q i)
            where
              past : (q < i) ⊎ (i ≤ q) → slice_get (s.items ++ x ∷ []) (i / W) ≡ slice_get (xs ++ x ∷ []) i
              past (inl lt) =
                  let r = row-less W q i (sym same) lt in
                  get-past s.items x (i / W) (omega (arith, r, size)) ∙ sym (get-past xs x i lt)
              past (inr ge) =
                  let z : i ≡ q = omega (arith, le, ge) in
                  get-last s.items x (i / W) (ap (λ n. n / W) z ∙ sym size) ∙ sym (get-last xs x i z)

      go : (b : Bool) → (i % W == q % W) ≡ b → slice_get t.items (i / W) ≡ slice_get (xs ++ x ∷ []) i
      go true is = here (grind (arith, nat_tests))
      go false is =
          let other : i % W ≢ q % W = λ e. grind (arith, nat_tests) in
          let was : slice_get shares (i % W) ≡ Some t = sym (get-set-other shares (q % W) (i % W) s' other) ∙ got in
          let z : i ≢ q = λ e. other (ap (λ n. n % W) e) in
          d i t was ∙ outside (cases_lt i q) z
        where
          outside : (i < q) ⊎ (q ≤ i) → i ≢ q → slice_get xs i ≡ slice_get (xs ++ x ∷ []) i
          outside (inl lt) z = sym (get-front xs (x ∷ []) i lt)
          outside (inr le) z = past (cases_lt q i)
            where
              past : (q < i) ⊎ (i ≤ q) → slice_get xs i ≡ slice_get (xs ++ x ∷ []) i
              past (inl lt) = slice_get_past xs i le ∙ sym (get-past xs x i lt)
              past (inr ge) = absurd (z (omega (arith, le, ge)))

  -- a share has room for the next element
  pub has-room : (xs : List T) (count : ℕ) (shares : List (Vec T A)) → IsDealt W xs shares → length xs < count → HaveRoom W count shares → (s : Vec T A) → slice_get shares (length xs % W) ≡ Some s → vec_len s < vec_capacity s
  has-room xs count shares d lt room s at =
      let n = row-count xs shares d s at in
      let r : count / W + 1 ≤ vec_capacity s = all-at (λ (v : Vec T A). count / W + 1 ≤ vec_capacity v) shares (length xs % W) s room at in
      let le : length xs / W ≤ count / W = row-most W pos (length xs) count (omega (arith, lt)) in
      omega (arith, n, r, le, s.ok)

  -- the last element stands at the end of its share
  module _ (xs : List T) (x : T) (shares : List (Vec T A)) (d : IsDealt W (xs ++ x ∷ []) shares) (s : Vec T A) (at : slice_get shares (length xs % W) ≡ Some s) where
    there : slice_get s.items (length xs / W) ≡ Some x
    there = d (length xs) s at ∙ get-last xs x (length xs) refl

    -- nothing stands behind it
    behind : length s.items ≤ length xs / W + 1
    behind =
        let w : length xs + W ≡ length xs + 1 * W = omega arith in
        let n : (length xs + W) % W ≡ length xs % W = ap (λ k. k % W) w ∙ add-mul-mod_self_right (length xs) 1 W in
        let r : (length xs + W) / W ≡ length xs / W + 1 = ap (λ k. k / W) w ∙ add-mul-div_right (length xs) 1 pos in
        let z : slice_get s.items ((length xs + W) / W) ≡ None = d (length xs + W) s (ap (λ i. slice_get shares i) n ∙ at) ∙ slice_get_past (xs ++ x ∷ []) (length xs + W) (let e = length_push xs x in omega (arith, e, pos)) in
        let l = none-past s.items ((length xs + W) / W) z in
        omega (arith, l, r)

    pub last-there : (ys : List T) (y : T) → s.items ≡ ys ++ y ∷ [] → (length ys ≡ length xs / W) × (y ≡ x)
    last-there ys y e =
        let w = slice_get_within s.items (length xs / W) x there in
        let b = behind in
        let n : length s.items ≡ length ys + 1 = ap length e ∙ length_push ys y in
        let m : length ys ≡ length xs / W = omega (arith, w, b, n) in
        (m, same_Some _ _ (sym (get-last ys y (length xs / W) (sym m)) ∙ sym (ap (λ l. slice_get l (length xs / W)) e) ∙ there))

    pub some-there : s.items ≢ []
    some-there e = let w = slice_get_within s.items (length xs / W) x there in let n : length s.items ≡ 0 = ap length e in omega (arith, w, n)

    -- without it
    pub dealt-fewer : (s' : Vec T A) (y : T) → s.items ≡ s'.items ++ y ∷ [] → IsDealt W xs (slice_set shares (length xs % W) s')
    dealt-fewer s' y e i t got = go (i % W == length xs % W) refl
      where
        q : ℕ
        q = length xs

        is : (length s'.items ≡ length xs / W) × (y ≡ x)
        is = last-there s'.items y e

        here : i % W ≡ q % W → slice_get t.items (i / W) ≡ slice_get xs i
        here same =
            let v : t ≡ s' = same_Some _ _ (sym got ∙ ap (λ n. slice_get (slice_set shares (q % W) s') n) same ∙ get-set-same shares (q % W) s s' at) in
            ap (λ (k : Vec T A). slice_get k.items (i / W)) v ∙ by-place (cases_lt i q)
          where
            by-place : (i < q) ⊎ (q ≤ i) → slice_get s'.items (i / W) ≡ slice_get xs i
            by-place (inl lt) =
                let r = row-less W i q same lt in let m = is.0 in
                sym (get-front s'.items (y ∷ []) (i / W) (omega (arith, r, m))) ∙ sym (ap (λ l. slice_get l (i / W)) e) ∙ d i s (ap (λ n. slice_get shares n) same ∙ at) ∙ get-front xs (x ∷ []) i lt
            by-place (inr le) =
                let m = is.0 in
                slice_get_past s'.items (i / W) (let r = row-most W pos q i le in omega (arith, m, r)) ∙ sym (slice_get_past xs i le)

        go : (b : Bool) → (i % W == q % W) ≡ b → slice_get t.items (i / W) ≡ slice_get xs i
        go true is = here (grind (arith, nat_tests))
        go false is =
            let other : i % W ≢ q % W = λ e. grind (arith, nat_tests) in
            let was : slice_get shares (i % W) ≡ Some t = sym (get-set-other shares (q % W) (i % W) s' other) ∙ got in
            let z : i ≢ q = λ e. other (ap (λ n. n % W) e) in
            d i t was ∙ outside (cases_lt i q) z
          where
            outside : (i < q) ⊎ (q ≤ i) → i ≢ q → slice_get (xs ++ x ∷ []) i ≡ slice_get xs i
            outside (inl lt) z = get-front xs (x ∷ []) i lt
            outside (inr le) z = past (cases_lt q i)
              where
                past : (q < i) ⊎ (i ≤ q) → slice_get (xs ++ x ∷ []) i ≡ slice_get xs i
                past (inl lt) = get-past xs x i lt ∙ sym (slice_get_past xs i le)
                past (inr ge) = absurd (z (omega (arith, le, ge)))

  -- ---- as the code says it: the place p among w shares

  module _ (xs : List T) (x : T) (shares : List (Vec T A)) (s s' : Vec T A) (p w : ℕ) (place : p ≡ length xs) (workers : w ≡ W) (size : length shares ≡ W) (read : s ≡ slice_index_or shares (p % w) s) where
    index-is : p % w ≡ length xs % W
    index-is = ap (λ n. n % w) place ∙ ap (λ n. length xs % n) workers

    pub at-index : slice_get shares (length xs % W) ≡ Some s
    at-index = slice_get_read shares W (length xs % W) s (sym size) (mod-lt (length xs) pos) (read ∙ ap (λ n. slice_index_or shares n s) index-is)

    pub dealt-pushed : (old : List T) → old ≡ xs ++ x ∷ [] → IsDealt W xs shares → s'.items ≡ s.items ++ x ∷ [] → IsDealt W old (slice_set shares (p % w) s')
    dealt-pushed old e d more =
        subst (λ l. IsDealt W l (slice_set shares (p % w) s')) (sym e) (subst (λ n. IsDealt W (xs ++ x ∷ []) (slice_set shares n s')) (sym index-is) (dealt-more xs x shares s s' d at-index more))

    pub dealt-popped : (y : T) → IsDealt W (xs ++ x ∷ []) shares → s.items ≡ s'.items ++ y ∷ [] → IsDealt W xs (slice_set shares (p % w) s')
    dealt-popped y d e = subst (λ n. IsDealt W xs (slice_set shares n s')) (sym index-is) (dealt-fewer xs x shares d s at-index s' y e)

    pub popped-is : (y : T) → IsDealt W (xs ++ x ∷ []) shares → s.items ≡ s'.items ++ y ∷ [] → y ≡ x
    popped-is y d e = (last-there xs x shares d s at-index s'.items y e).1

  -- nothing was dealt to empty shares
  pub none-dealt : (shares : List (Vec T A)) → All (λ (s : Vec T A). s.items ≡ []) shares → IsDealt W [] shares
  none-dealt shares empty i s at = ap (λ l. slice_get l (i / W)) (all-at (λ (v : Vec T A). v.items ≡ []) shares (i % W) s empty at)

-- a list that isn't empty has a last element
pub split-last : {T : Type 0} (xs : List T) (n : ℕ) → length xs ≡ suc n → (ys : List T) × (y : T) × (xs ≡ ys ++ y ∷ [])
split-last [] n e = absurd (omega (arith, e))
split-last (x ∷ []) n e = ([], x, refl)
split-last (x ∷ y ∷ xs) zero e = absurd (omega (arith, e))
split-last (x ∷ y ∷ xs) (suc n) e = let h = split-last (y ∷ xs) n (omega (arith, e)) in (x ∷ h.0, h.1, ap (λ l. x ∷ l) h.2)

pub length-set : {T : Type 0} (xs : List T) (i : ℕ) (y : T) → length (slice_set xs i y) ≡ length xs
length-set [] i y = refl
length-set (x ∷ xs) zero y = refl
length-set (x ∷ xs) (suc i) y = ap suc (length-set xs i y)

pub no-items : {T A : Type 0} (v : Vec T A) → vec_len v ≡ 0 → v.items ≡ []
no-items v e = empty v.items (omega (arith, e, v.ok))
  where
    empty : {T : Type 0} (xs : List T) → length xs ≡ 0 → xs ≡ []
    empty [] e = refl
    empty (x ∷ xs) e = absurd (omega (arith, e))

-- shares to which nothing is dealt are empty
pub empty-dealt : {T A : Type 0} (W : ℕ) (xs : List T) (shares : List (Vec T A)) → IsDealt W xs shares → length xs ≡ 0 → length shares ≡ W → All (λ (s : Vec T A). s.items ≡ []) shares
empty-dealt {T} {A} W xs shares d none size k v lt =
    let x = some-within shares k lt in
    let inside : k < W = omega (arith, lt, size) in
    let z = row-first W k inside in
    let m = none-past x.0.items (k / W) (d k x.0 (ap (λ n. slice_get shares n) (mod-eq_of_lt inside) ∙ x.1) ∙ slice_get_past xs k (omega (arith, none))) in
    subst (λ (s : Vec T A). s.items ≡ []) (sym (get_or_from_slice_get shares k x.0 v x.1)) (no-items x.0 (omega (arith, m, z, x.0.ok)))
