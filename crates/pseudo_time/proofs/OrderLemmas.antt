-- Stamps and pseudotimes are in a total order.
use Rattle.pseudo_time.proofs.Names.{◌≡◌, ℕ, Bool, true, false, refl, sym, ap, ◌∙◌, subst, nat_lt, arith, common_steps, false≢true, true≢false, nat_cmp, ordering_then, ordering_reverse, is_lt, is_eq, Ordering, Less, Equal, Greater, IsTotalOrder, alike_right, tied_itself, StampParts, stamp_cmp, TimeParts, time_cmp, same_stamp, same_time, stamp_lt, lt}
use Rattle.std.proofs.lemmas.Cmp.{nat_cmp_total, on_total, then_total}
use Rattle.std.proofs.lemmas.Map.Lookups.{CmpEqualImpliesEq, exact_pairs, exact_unsigned}

-- ---- answers of a comparison

pub is_less : (o : Ordering) → is_lt o ≡ true → o ≡ Less
is_less Less h = refl
is_less Equal h = absurd (false≢true h)
is_less Greater h = absurd (false≢true h)

pub is_equal : (o : Ordering) → is_eq o ≡ true → o ≡ Equal
is_equal Less h = absurd (false≢true h)
is_equal Equal h = refl
is_equal Greater h = absurd (false≢true h)

then_less : (o p : Ordering) → is_lt o ≡ true → is_lt (ordering_then o p) ≡ true
then_less Less p h = refl
then_less Equal p h = absurd (false≢true h)
then_less Greater p h = h

-- less by the second alone
then_tied : (o p : Ordering) → is_lt (ordering_then o p) ≡ true → is_lt o ≡ false → o ≡ Equal
then_tied Less p h k = absurd (true≢false k)
then_tied Equal p h k = refl
then_tied Greater p h k = absurd (false≢true h)

then_first : (o p : Ordering) → ordering_then o p ≡ Equal → o ≡ Equal
then_first Less p h = h
then_first Equal p h = refl
then_first Greater p h = h

then_second : (o p : Ordering) → ordering_then o p ≡ Equal → p ≡ Equal
then_second Less p h = absurd (false≢true (ap is_eq h))
then_second Equal p h = h
then_second Greater p h = absurd (false≢true (ap is_eq h))

neither_way : (o p : Ordering) → p ≡ ordering_reverse o → is_lt o ≡ false → is_lt p ≡ false → o ≡ Equal
neither_way Less p e h k = absurd (true≢false h)
neither_way Equal p e h k = refl
neither_way Greater p e h k = absurd (true≢false (sym (ap is_lt e) ∙ k))

-- ---- the two orders

pub stamp_cmp-total : IsTotalOrder stamp_cmp
stamp_cmp-total = then_total (on_total (λ s. s.clock) nat_cmp_total) (then_total (on_total (λ s. s.broker) nat_cmp_total) (on_total (λ s. s.home) nat_cmp_total))

pub stamp_cmp-exact : CmpEqualImpliesEq stamp_cmp
stamp_cmp-exact a b h = ap (λ (p : ℕ × (ℕ × ℕ)). record { clock = p.0; broker = p.1.0; home = p.1.1 })
    (exact_pairs nat_cmp _ exact_unsigned (exact_pairs nat_cmp nat_cmp exact_unsigned exact_unsigned) (a.clock, (a.broker, a.home)) (b.clock, (b.broker, b.home)) h)

pub time_cmp-total : IsTotalOrder time_cmp
time_cmp-total = then_total (on_total (λ t. t.stamp) stamp_cmp-total) (on_total (λ t. t.step) nat_cmp_total)

abbrev time_of : StampParts → ℕ → TimeParts
time_of s n = record { stamp = s; step = n }

pub time_cmp-exact : CmpEqualImpliesEq time_cmp
time_cmp-exact a b h =
    ap (λ s. time_of s a.step) (stamp_cmp-exact a.stamp b.stamp (then_first (stamp_cmp a.stamp b.stamp) (nat_cmp a.step b.step) h))
    ∙ ap (time_of b.stamp) (exact_unsigned a.step b.step (then_second (stamp_cmp a.stamp b.stamp) (nat_cmp a.step b.step) h))

-- ---- the tests of equality

pub same_stamp-is : (a b : StampParts) → same_stamp a b ≡ true → a ≡ b
unfolding same_stamp
same_stamp-is a b h = stamp_cmp-exact a b (is_equal (stamp_cmp a b) h)

pub same_stamp-self : (a : StampParts) → same_stamp a a ≡ true
unfolding same_stamp
same_stamp-self a = ap is_eq (tied_itself stamp_cmp-total a)

pub same_stamp-of : (a b : StampParts) → a ≡ b → same_stamp a b ≡ true
same_stamp-of a b e = subst (λ z. same_stamp a z ≡ true) e (same_stamp-self a)

pub same_time-is : (a b : TimeParts) → same_time a b ≡ true → a ≡ b
unfolding same_time
same_time-is a b h = time_cmp-exact a b (is_equal (time_cmp a b) h)

pub same_time-of : (a b : TimeParts) → a ≡ b → same_time a b ≡ true
unfolding same_time
same_time-of a b e = subst (λ z. same_time a z ≡ true) e (ap is_eq (tied_itself time_cmp-total a))

-- ---- before

pub lt-irreflexive : (a : TimeParts) → lt a a ≡ false
unfolding lt
lt-irreflexive a = ap is_lt (tied_itself time_cmp-total a)

pub lt-trans : (a b c : TimeParts) → lt a b ≡ true → lt b c ≡ true → lt a c ≡ true
unfolding lt
lt-trans a b c h k = ap is_lt (time_cmp-total.trans a b c (is_less (time_cmp a b) h) (is_less (time_cmp b c) k))

pub lt-asymmetric : (a b : TimeParts) → lt a b ≡ true → lt b a ≡ false
unfolding lt
lt-asymmetric a b h = ap is_lt (time_cmp-total.antisymm b a ∙ ap ordering_reverse (is_less (time_cmp a b) h))

pub lt-total : (a b : TimeParts) → lt a b ≡ false → lt b a ≡ false → a ≡ b
unfolding lt
lt-total a b h k = time_cmp-exact a b (neither_way (time_cmp a b) (time_cmp b a) (time_cmp-total.antisymm b a) h k)

-- x is before q, and p isn't: x is before p
split_by : (x p q : TimeParts) (o : Ordering) → time_cmp p q ≡ o → is_lt o ≡ false → time_cmp x q ≡ Less → time_cmp x p ≡ Less
split_by x p q Less e h k = absurd (true≢false h)
split_by x p q Equal e h k = alike_right time_cmp-total p q x e ∙ k
split_by x p q Greater e h k = time_cmp-total.trans x q p k (time_cmp-total.antisymm q p ∙ ap ordering_reverse e)

pub lt-split : (x p q : TimeParts) → lt x q ≡ true → lt p q ≡ false → lt x p ≡ true
unfolding lt
lt-split x p q h k = ap is_lt (split_by x p q (time_cmp p q) refl k (is_less (time_cmp x q) h))

is_true : (b : Bool) → (b ≡ false → ⊥) → b ≡ true
is_true true h = refl
is_true false h = absurd (h refl)

is_false : (b : Bool) → (b ≡ true → ⊥) → b ≡ false
is_false true h = absurd (h refl)
is_false false h = refl

-- s isn't before q, and is before x: q is before x
pub lt-fall : (s q x : TimeParts) → lt s q ≡ false → lt s x ≡ true → lt q x ≡ true
lt-fall s q x h k = is_true (lt q x) (λ n. true≢false (sym (lt-split s q x k n) ∙ h))

-- ---- stamps and steps

pub lt-stamps : (a b : TimeParts) → stamp_lt a.stamp b.stamp ≡ true → lt a b ≡ true
unfolding lt stamp_lt
lt-stamps a b = then_less (stamp_cmp a.stamp b.stamp) (nat_cmp a.step b.step)

pub lt-own : (x t : TimeParts) → lt x t ≡ true → stamp_lt x.stamp t.stamp ≡ false → x.stamp ≡ t.stamp
unfolding lt stamp_lt
lt-own x t h k = stamp_cmp-exact x.stamp t.stamp (then_tied (stamp_cmp x.stamp t.stamp) (nat_cmp x.step t.step) h k)

nat_level : (n m : ℕ) → is_lt (nat_cmp n m) ≡ nat_lt n m
nat_level n m = grind (arith, common_steps)

pub lt-steps : (s : StampParts) (n m : ℕ) → lt (time_of s n) (time_of s m) ≡ nat_lt n m
unfolding lt
lt-steps s n m = ap (λ o. is_lt (ordering_then o (nat_cmp n m))) (tied_itself stamp_cmp-total s) ∙ nat_level n m

-- between two times of one stamp
pub between : (q x t : TimeParts) → q.stamp ≡ t.stamp → lt x q ≡ false → lt x t ≡ true → x.stamp ≡ q.stamp
between q x t e h k =
    lt-own x t k (is_false (stamp_lt x.stamp t.stamp) (λ b.
    true≢false (sym (lt-stamps x q (subst (λ z. stamp_lt x.stamp z ≡ true) (sym e) b)) ∙ h))) ∙ sym e
