-- The order of numbers is the order of their bytes, highest first.
use Rattle.pseudo_time.proofs.Names.{◌≡◌, ℕ, zero, suc, ◌+◌, ◌*◌, ◌^◌, ◌<◌, ◌/◌, ◌%◌, List, [], ◌∷◌, ◌++◌, sym, refl, ap, ◌∙◌, inl, inr, arith, nat_cmp, ordering_then, Ordering, Less, Equal, Greater, nat_cmp_is, TimeParts, IsTime, time_bytes, time_cmp, cases_order}
use Rattle.std.specs.Cmp.Lexicographic.{slice_cmp}
use Rattle.std.specs.Int.{bytes_high_first, byte_at}
use Rattle.std.proofs.lemmas.Nat.{mod_below}
use Rattle.std.proofs.Math.Arith.{mod-mul}
use Rattle.std.proofs.Math.Nat.{pow-succ', one-le-pow, mul-le-mul_right, div-one, mod-one, mod-eq_of_lt}

nat_cmp-below : (x y : ℕ) → x < y → nat_cmp x y ≡ Less
nat_cmp-below x y h = sym (nat_cmp_is x y Less h)

nat_cmp-same : (x : ℕ) → nat_cmp x x ≡ Equal
nat_cmp-same x = sym (nat_cmp_is x x Equal refl)

nat_cmp-above : (x y : ℕ) → y < x → nat_cmp x y ≡ Greater
nat_cmp-above x y h = sym (nat_cmp_is x y Greater h)

-- a greater quotient is a greater number, whatever the rests are
quotient_decides : (p q r s m : ℕ) → r < m → p < q → p * m + r < q * m + s
quotient_decides p q r s m small h = omega (arith, mul-le-mul_right {m = suc p} {n = q} m h)

same_quotient : (p m r s : ℕ) → nat_cmp (p * m + r) (p * m + s) ≡ nat_cmp r s
same_quotient p m r s = elim (cases_order r s) [
  | inl e ↦ rw e (nat_cmp-same (p * m + s) ∙ sym (nat_cmp-same s))
  | inr (inl h) ↦ nat_cmp-below (p * m + r) (p * m + s) (omega arith) ∙ sym (nat_cmp-below r s h)
  | inr (inr h) ↦ nat_cmp-above (p * m + r) (p * m + s) (omega arith) ∙ sym (nat_cmp-above r s h)
]

-- numbers are ordered by their quotients, then by their rests
nat_cmp-parts : (p q r s m : ℕ) → r < m → s < m → nat_cmp (p * m + r) (q * m + s) ≡ ordering_then (nat_cmp p q) (nat_cmp r s)
nat_cmp-parts p q r s m small small' = elim (cases_order p q) [
  | inl e ↦ rw (e, nat_cmp-same q) (same_quotient q m r s)
  | inr (inl h) ↦ rw (nat_cmp-below p q h) (nat_cmp-below _ _ (quotient_decides p q r s m small h))
  | inr (inr h) ↦ rw (nat_cmp-above p q h) (nat_cmp-above _ _ (quotient_decides q p s r m small' h))
]

ordering_then_assoc : (a b c : Ordering) → ordering_then (ordering_then a b) c ≡ ordering_then a (ordering_then b c)
ordering_then_assoc Less b c = refl
ordering_then_assoc Equal b c = refl
ordering_then_assoc Greater b c = refl

ordering_then-equal : (a : Ordering) → ordering_then a Equal ≡ a
ordering_then-equal Less = refl
ordering_then-equal Equal = refl
ordering_then-equal Greater = refl

-- the highest byte, then the others
mod-high_byte : (k n : ℕ) → n % 256 ^ suc k ≡ byte_at k n * 256 ^ k + n % 256 ^ k
mod-high_byte k n = rw (byte_at_is, pow-succ') (mod-mul n {m = 256} {c = 256 ^ k} (omega arith) (one-le-pow k 256 (omega arith)))
  where
    byte_at_is : (k n : ℕ) → byte_at k n ≡ n / 256 ^ k % 256
    byte_at_is zero n = ap (λ x. x % 256) (sym (div-one n))
    byte_at_is (suc k) n = refl

-- the first k bytes decide by the number that they stand for
slice_cmp-bytes : (k a b : ℕ) (xs ys : List ℕ) → slice_cmp nat_cmp (bytes_high_first k a ++ xs) (bytes_high_first k b ++ ys) ≡ ordering_then (nat_cmp (a % 256 ^ k) (b % 256 ^ k)) (slice_cmp nat_cmp xs ys)
slice_cmp-bytes zero a b xs ys = rw (mod-one a, mod-one b) refl
slice_cmp-bytes (suc k) a b xs ys =
    let pos : 0 < 256 ^ k = one-le-pow k 256 (omega arith) in
    rw (slice_cmp-bytes k a b xs ys, mod-high_byte k a, mod-high_byte k b, nat_cmp-parts (byte_at k a) (byte_at k b) (a % 256 ^ k) (b % 256 ^ k) (256 ^ k) (mod_below a _ pos) (mod_below b _ pos))
    (sym (ordering_then_assoc (nat_cmp (byte_at k a) (byte_at k b)) (nat_cmp (a % 256 ^ k) (b % 256 ^ k)) (slice_cmp nat_cmp xs ys)))

slice_cmp-number : (k a b : ℕ) (xs ys : List ℕ) → a < 256 ^ k → b < 256 ^ k → slice_cmp nat_cmp (bytes_high_first k a ++ xs) (bytes_high_first k b ++ ys) ≡ ordering_then (nat_cmp a b) (slice_cmp nat_cmp xs ys)
slice_cmp-number k a b xs ys ha hb = slice_cmp-bytes k a b xs ys ∙ rw (mod-eq_of_lt ha, mod-eq_of_lt hb) refl

regroup : (a b c d : Ordering) → ordering_then a (ordering_then b (ordering_then c d)) ≡ ordering_then (ordering_then a (ordering_then b c)) d
regroup a b c d = ap (ordering_then a) (sym (ordering_then_assoc b c d)) ∙ sym (ordering_then_assoc a (ordering_then b c) d)

-- the order of the fourteen bytes is that of pseudotimes
pub slice_cmp-time_bytes : (a b : TimeParts) → IsTime a → IsTime b → slice_cmp nat_cmp (time_bytes a) (time_bytes b) ≡ time_cmp a b
slice_cmp-time_bytes a b ha hb =
    slice_cmp-number 8 a.stamp.clock b.stamp.clock (a.stamp.broker ∷ a.stamp.home ∷ bytes_high_first 4 a.step) (b.stamp.broker ∷ b.stamp.home ∷ bytes_high_first 4 b.step) (omega arith) (omega arith)
    ∙ ap (λ o. ordering_then (nat_cmp a.stamp.clock b.stamp.clock) (ordering_then (nat_cmp a.stamp.broker b.stamp.broker) (ordering_then (nat_cmp a.stamp.home b.stamp.home) o))) (slice_cmp-number 4 a.step b.step [] [] (omega arith) (omega arith) ∙ ordering_then-equal (nat_cmp a.step b.step))
    ∙ regroup (nat_cmp a.stamp.clock b.stamp.clock) (nat_cmp a.stamp.broker b.stamp.broker) (nat_cmp a.stamp.home b.stamp.home) (nat_cmp a.step b.step)
