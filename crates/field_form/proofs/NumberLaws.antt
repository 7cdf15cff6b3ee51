-- A number that is read is the number that was written.
use Rattle.field_form.proofs.Names.{◌≡◌, ℕ, suc, ◌^◌, ◌<◌, ◌≤◌, ◌||◌, Bool, true, false, cond, nat_lt, ltb, None, Option, List, [], ◌∷◌, ◌++◌, length, take, drop, Some, refl, sym, ap, subst, arith, Width, w16, w32, w64, byte_len, from_be_bytes, to_be_bytes, cast_signed, cast_unsigned, ℤ, FitsSigned, ltb-false, le-ltb, take_at, drop_at, take-append-drop, length-append, length-take, nat_tests, IsBytes, Begins, IsForm, byte_at, number_at, signed_at, front_at, between}
use Rattle.std.proofs.lemmas.Int.{of_z-to_z, to_z-of_z}
use Rattle.std.proofs.Math.Facts.{sfits_to_z, Fits-of_lt, Fits-of_z}
use Rattle.std.proofs.lemmas.Nat.{be_bytes_2, be_bytes_4, be_bytes_8, from_be_bytes-to_be_bytes_2, from_be_bytes-to_be_bytes_4, from_be_bytes-to_be_bytes_8}
use Rattle.field_form.proofs.FormLaws.{IsBytes-drop, IsBytes-take, bind_some, chosen_else, some_is}

pub record IsWide (w : Width) (limit : ℕ) : Type 0 where
  pub len : (n : ℕ) → length (to_be_bytes w n) ≡ byte_len w
  pub back : (bytes : List ℕ) → length bytes ≡ byte_len w → IsBytes bytes → to_be_bytes w (from_be_bytes w bytes) ≡ bytes
  pub again : (n : ℕ) → n < limit → from_be_bytes w (to_be_bytes w n) ≡ n
  pub below : (bytes : List ℕ) → IsBytes bytes → from_be_bytes w bytes < limit

wide16 : IsWide w16 (2 ^ 16)
wide16 = record {
  len = λ n. refl;
  back = λ bytes len fits. be_bytes_2 bytes _ len fits refl;
  again = λ n lt. from_be_bytes-to_be_bytes_2 n lt;
  below = λ bytes fits. omega (arith, fits 0, fits 1);
}

wide32 : IsWide w32 (2 ^ 32)
wide32 = record {
  len = λ n. refl;
  back = λ bytes len fits. be_bytes_4 bytes _ len fits refl;
  again = λ n lt. from_be_bytes-to_be_bytes_4 n lt;
  below = λ bytes fits. omega (arith, fits 0, fits 1, fits 2, fits 3);
}

wide64 : IsWide w64 (2 ^ 64)
wide64 = record {
  len = λ n. refl;
  back = λ bytes len fits. be_bytes_8 bytes _ len fits refl;
  again = λ n lt. from_be_bytes-to_be_bytes_8 n lt;
  below = λ bytes fits. omega (arith, fits 0, fits 1, fits 2, fits 3, fits 4, fits 5, fits 6, fits 7);
}

module _ (w : Width) (limit : ℕ) (wide : IsWide w limit) where
  number_takes : (bytes : List ℕ) (n : ℕ) (rest : List ℕ) → IsBytes bytes → number_at w bytes ≡ Some (n, rest) → Begins bytes (to_be_bytes w n) rest × (n < limit)
  number_takes bytes n rest fits e =
      let g = chosen_else (ltb (length bytes) (byte_len w)) (from_be_bytes w (take (byte_len w) bytes), drop (byte_len w) bytes) (n, rest) e in
      let long : byte_len w ≤ length bytes = ltb-false _ _ g.0 in
      let n-is : from_be_bytes w (take (byte_len w) bytes) ≡ n = ap (λ (p : ℕ × List ℕ). p.0) g.1 in
      let rest-is : drop (byte_len w) bytes ≡ rest = ap (λ (p : ℕ × List ℕ). p.1) g.1 in
      let front : to_be_bytes w n ≡ take (byte_len w) bytes = rw (← n-is) (wide.back (take (byte_len w) bytes) (omega (arith, length-take (byte_len w) bytes)) (IsBytes-take (byte_len w) bytes fits)) in
      (record { parts = rw (front, ← rest-is) (sym (take-append-drop (byte_len w) bytes)); rest_is_bytes = rw (← rest-is) (IsBytes-drop (byte_len w) bytes fits) }, rw (← n-is) (wide.below (take (byte_len w) bytes) (IsBytes-take (byte_len w) bytes fits)))

  number_again : (n : ℕ) (rest : List ℕ) → n < limit → number_at w (to_be_bytes w n ++ rest) ≡ Some (n, rest)
  number_again n rest lt =
      let long : ltb (length (to_be_bytes w n ++ rest)) (byte_len w) ≡ false = le-ltb _ _ (omega (arith, length-append (to_be_bytes w n) rest, wide.len n)) in
      let front : take (byte_len w) (to_be_bytes w n ++ rest) ≡ to_be_bytes w n = take_at (to_be_bytes w n) rest (byte_len w) (wide.len n) in
      let after : drop (byte_len w) (to_be_bytes w n ++ rest) ≡ rest = drop_at (to_be_bytes w n) rest (byte_len w) (wide.len n) in
      rw (long, front, after, wide.again n lt) refl

  number_form : IsForm (to_be_bytes w) (λ n. n < limit) (number_at w)
  number_form = record { takes = number_takes; again = number_again }

pub u16_form : IsForm (to_be_bytes w16) (λ n. n < 2 ^ 16) (number_at w16)
u16_form = number_form w16 (2 ^ 16) wide16

pub u32_form : IsForm (to_be_bytes w32) (λ n. n < 2 ^ 32) (number_at w32)
u32_form = number_form w32 (2 ^ 32) wide32

pub u64_form : IsForm (to_be_bytes w64) (λ n. n < 2 ^ 64) (number_at w64)
u64_form = number_form w64 (2 ^ 64) wide64

byte_takes : (bytes : List ℕ) (b : ℕ) (rest : List ℕ) → IsBytes bytes → byte_at bytes ≡ Some (b, rest) → Begins bytes (b ∷ []) rest × (b < 256)
byte_takes [] b rest fits e = absurd (cc)
byte_takes (a ∷ more) b rest fits e =
    let p : ◌≡◌ {A = ℕ × List ℕ} (a, more) (b, rest) = some_is (a, more) (b, rest) e in
    let a-is : a ≡ b = ap (λ (q : ℕ × List ℕ). q.0) p in
    let rest-is : more ≡ rest = ap (λ (q : ℕ × List ℕ). q.1) p in
    (record { parts = cc; rest_is_bytes = rw (← rest-is) (λ i. fits (suc i)) }, rw (← a-is) (fits 0))

pub byte_form : IsForm (λ b. b ∷ []) (λ b. b < 256) byte_at
byte_form = record { takes = byte_takes; again = λ b rest lt. refl }

signed_takes : (bytes : List ℕ) (z : ℤ) (rest : List ℕ) → IsBytes bytes → signed_at bytes ≡ Some (z, rest) → Begins bytes (to_be_bytes w64 (cast_unsigned w64 z)) rest × FitsSigned w64 z
unfolding signed_at
signed_takes bytes z rest fits e =
    let a = bind_some (number_at w64 bytes) (λ n. Some (cast_signed w64 n.0, n.1)) (z, rest) e in
    let t = u64_form.takes bytes a.0.0 a.0.1 fits a.1 in
    let made : ℤ × List ℕ = (cast_signed w64 a.0.0, a.0.1) in
    let back : cast_unsigned w64 (cast_signed w64 a.0.0) ≡ a.0.0 = of_z-to_z w64 a.0.0 t.1 in
    subst (λ (y : ℤ × List ℕ). Begins bytes (to_be_bytes w64 (cast_unsigned w64 y.0)) y.1 × FitsSigned w64 y.0) (some_is made (z, rest) a.2)
    (subst (λ (k : ℕ). Begins bytes (to_be_bytes w64 k) a.0.1) (sym back) t.0, sfits_to_z {w = w64} {n = a.0.0} (Fits-of_lt t.1))

signed_again : (z : ℤ) (rest : List ℕ) → FitsSigned w64 z → signed_at (to_be_bytes w64 (cast_unsigned w64 z) ++ rest) ≡ Some (z, rest)
unfolding signed_at
signed_again z rest fits =
    let bound : cast_unsigned w64 z < 2 ^ 64 = omega (arith, Fits-of_z fits) in
    rw (u64_form.again (cast_unsigned w64 z) rest bound, to_z-of_z w64 z fits) refl

pub signed_form : IsForm (λ z. to_be_bytes w64 (cast_unsigned w64 z)) (FitsSigned w64) signed_at
signed_form = record { takes = signed_takes; again = signed_again }

-- so many bytes at the front, as they stand
pub front_takes : (count : ℕ) (bytes front rest : List ℕ) → IsBytes bytes → front_at count bytes ≡ Some (front, rest) → Begins bytes front rest × (length front ≡ count) × IsBytes front
front_takes count bytes front rest fits e =
    let g = chosen_else (ltb (length bytes) count) (take count bytes, drop count bytes) (front, rest) e in
    let long : count ≤ length bytes = ltb-false _ _ g.0 in
    let front-is : take count bytes ≡ front = ap (λ (p : List ℕ × List ℕ). p.0) g.1 in
    let rest-is : drop count bytes ≡ rest = ap (λ (p : List ℕ × List ℕ). p.1) g.1 in
    (record { parts = rw (← front-is, ← rest-is) (sym (take-append-drop count bytes)); rest_is_bytes = rw (← rest-is) (IsBytes-drop count bytes fits) }, rw (← front-is) (omega (arith, length-take count bytes)), rw (← front-is) (IsBytes-take count bytes fits))

pub front_again : (front rest : List ℕ) → front_at (length front) (front ++ rest) ≡ Some (front, rest)
front_again front rest =
    let long : ltb (length (front ++ rest)) (length front) ≡ false = le-ltb _ _ (omega (arith, length-append front rest)) in
    rw (long, take_at front rest (length front) refl, drop_at front rest (length front) refl) refl

outside_not : (p q : Bool) (x y : ℕ × List ℕ) → cond (p || q) None (Some x) ≡ Some y → (p ≡ false) × (q ≡ false) × (x ≡ y)
outside_not true q x y e = absurd (cc)
outside_not false true x y e = absurd (cc)
outside_not false false x y e = (refl, refl, some_is x y e)

-- a number in limits is a form, where the number is
pub between_form : {text : ℕ → List ℕ} {InRange : ℕ → Type 0} {reads : List ℕ → Option (ℕ × List ℕ)} (least most : ℕ) → IsForm text InRange reads → IsForm text (λ n. InRange n × (least ≤ n) × (n ≤ most)) (λ bytes. between least most (reads bytes))
between_form {text} {InRange} {reads} least most form = record {
  takes = λ bytes n rest fits e.
      let a = bind_some (reads bytes) (λ k. cond (nat_lt k.0 least || nat_lt most k.0) None (Some k)) (n, rest) e in
      let g = outside_not (nat_lt a.0.0 least) (nat_lt most a.0.0) a.0 (n, rest) a.2 in
      let t = form.takes bytes a.0.0 a.0.1 fits a.1 in
      subst (λ (y : ℕ × List ℕ). Begins bytes (text y.0) y.1 × (InRange y.0 × (least ≤ y.0) × (y.0 ≤ most))) g.2 (t.0, (t.1, grind (arith, nat_tests, g.0), grind (arith, nat_tests, g.1)));
  again = λ n rest h.
      let low : nat_lt n least ≡ false = let k = h.1 in grind (arith, nat_tests) in
      let high : nat_lt most n ≡ false = let k = h.2 in grind (arith, nat_tests) in
      rw (form.again n rest h.0, low, high) refl;
}
