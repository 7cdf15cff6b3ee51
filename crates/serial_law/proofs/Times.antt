-- Stamps in their order, and times of one stamp.
use Rattle.std.specs.declared.cmp.Ordering.{Ordering}
use Rattle.std.specs.declared.cmp.Ordering.TheVariants.{Less, Equal, Greater}
use Rattle.std.specs.Cmp.{tied_itself}
use Rattle.serial_law.proofs.Names.{StampParts, TimeParts, same_stamp, stamp_lt, lt, same_stamp-of, lt-stamps, ◌≡◌, ◌≢◌, ℕ, ◌≤◌, ◌<◌, true, false, refl, sym, ◌∙◌, ap, subst, false≢true, true≢false, lt-ltb, ltb-true, ltb-false, is_lt, is_eq, ordering_reverse, stamp_cmp, is_less, stamp_cmp-total, lt-split, lt-own, lt-steps, between, not-false, not-true}

abbrev pub time : StampParts → ℕ → TimeParts
time s n = record { stamp = s; step = n }

pub stamp-no : (a b : StampParts) → same_stamp a b ≡ false → a ≢ b
stamp-no a b h e = false≢true (sym h ∙ same_stamp-of a b e)

pub stamp_lt-trans : (a b c : StampParts) → stamp_lt a b ≡ true → stamp_lt b c ≡ true → stamp_lt a c ≡ true
unfolding stamp_lt
stamp_lt-trans a b c h k = ap is_lt (stamp_cmp-total.trans a b c (is_less (stamp_cmp a b) h) (is_less (stamp_cmp b c) k))

pub stamp_lt-self : (a : StampParts) → stamp_lt a a ≡ false
unfolding stamp_lt
stamp_lt-self a = ap is_lt (tied_itself stamp_cmp-total a)

other_way : (o p : Ordering) → p ≡ ordering_reverse o → is_eq o ≡ false → is_lt o ≡ false → is_lt p ≡ true
other_way Less p e h k = absurd (true≢false k)
other_way Equal p e h k = absurd (true≢false h)
other_way Greater p e h k = ap is_lt e

pub stamp_lt-else : (a b : StampParts) → same_stamp a b ≡ false → stamp_lt a b ≡ false → stamp_lt b a ≡ true
unfolding stamp_lt same_stamp
stamp_lt-else a b h k = other_way (stamp_cmp a b) (stamp_cmp b a) (stamp_cmp-total.antisymm b a) h k

pub not-lt-trans : (s q y : TimeParts) → lt s q ≡ false → lt q y ≡ false → lt s y ≡ false
not-lt-trans s q y h k = not-false (lt s y) (λ e. true≢false (sym (lt-split s q y e k) ∙ h))

-- ---- times of one stamp

pub lt-step : (s : StampParts) (a b : ℕ) → a < b → lt (time s a) (time s b) ≡ true
lt-step s a b h = lt-steps s a b ∙ lt-ltb a b h

pub inside : (q : TimeParts) (s : StampParts) (a b : ℕ) → lt q (time s a) ≡ false → lt q (time s b) ≡ true → q.stamp ≡ s
inside q s a b h k = between (time s a) q (time s b) refl h k

pub inside-low : (q : TimeParts) (s : StampParts) (a : ℕ) → lt q (time s a) ≡ false → q.stamp ≡ s → a ≤ q.step
inside-low q s a h k = ltb-false q.step a (sym (lt-steps s q.step a) ∙ subst (λ z. lt (time z q.step) (time s a) ≡ false) k h)

pub inside-high : (q : TimeParts) (s : StampParts) (b : ℕ) → lt q (time s b) ≡ true → q.stamp ≡ s → q.step < b
inside-high q s b h k = ltb-true q.step b (sym (lt-steps s q.step b) ∙ subst (λ z. lt (time z q.step) (time s b) ≡ true) k h)

pub below-stamp : (q : TimeParts) (s : StampParts) (b : ℕ) → lt q (time s b) ≡ true → q.stamp ≢ s → stamp_lt q.stamp s ≡ true
below-stamp q s b h k = not-true (stamp_lt q.stamp s) (λ e. k (lt-own q (time s b) h e))

pub stamp-below : (q : TimeParts) (s : StampParts) (b : ℕ) → stamp_lt q.stamp s ≡ true → lt q (time s b) ≡ true
stamp-below q s b h = lt-stamps q (time s b) h
