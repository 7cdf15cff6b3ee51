-- The tests of equality of objects and values tell what they say.
use Rattle.std.specs.declared.cmp.Ordering.TheVariants.{Less, Equal, Greater}
use Rattle.std.specs.Cmp.Lexicographic.{bytes_decides}
use Rattle.object_history.proofs.Names.{StampParts, stamp_cmp, TimeParts, same_stamp, same_time, ObjectId, Value, Nothing, object_cmp, object_cmp-total, object_cmp-exact, same_object, same_value, ◌≡◌, ℕ, Bool, true, refl, sym, ◌∙◌, ap, subst, ◌==◌, ◌&&◌, arith, nat_cmp, ordering_then, is_eq, Ordering, tied_itself, signed_Decides, common_steps, false≢true, is_equal, Number, Text}

pub same_object-is : (a b : ObjectId) → same_object a b ≡ true → a ≡ b
unfolding same_object
same_object-is a b h = object_cmp-exact a b (is_equal (object_cmp a b) h)

pub same_object-of : (a b : ObjectId) → a ≡ b → same_object a b ≡ true
unfolding same_object
same_object-of a b e = subst (λ z. same_object a z ≡ true) e (ap is_eq (tied_itself object_cmp-total a))

pub eqb-yes : (a b : ℕ) → a ≡ b → (a == b) ≡ true
eqb-yes a b e = grind (arith, common_steps)

pub eq-from : (a b : ℕ) → (a == b) ≡ true → a ≡ b
eq-from a b e = grind (arith, common_steps)

pub same_value-is : (a b : Value) → same_value a b ≡ true → a ≡ b
unfolding same_value
same_value-is Nothing Nothing h = refl
same_value-is (Number a) (Number b) h = ap (λ z. Number z) ((signed_Decides a b).0 h)
same_value-is (Text a) (Text b) h = ap (λ z. Text z) ((bytes_decides a b).0 h)
same_value-is Nothing (Number b) h = absurd (false≢true h)
same_value-is Nothing (Text b) h = absurd (false≢true h)
same_value-is (Number a) Nothing h = absurd (false≢true h)
same_value-is (Number a) (Text b) h = absurd (false≢true h)
same_value-is (Text a) Nothing h = absurd (false≢true h)
same_value-is (Text a) (Number b) h = absurd (false≢true h)

-- ---- the comparisons that are derived

level : (a b : ℕ) → is_eq (nat_cmp a b) ≡ (a == b)
level a b = grind (arith, common_steps)

both-levels : (o p : Ordering) → is_eq (ordering_then o p) ≡ (is_eq o && is_eq p)
both-levels Less p = refl
both-levels Equal p = refl
both-levels Greater p = refl

joined-levels : (o p : Ordering) (a b : Bool) → is_eq o ≡ a → is_eq p ≡ b → (a && b) ≡ is_eq (ordering_then o p)
joined-levels o p a b h k = sym (both-levels o p ∙ ap (λ z. z && is_eq p) h ∙ ap (λ z. a && z) k)

pub same_stamp-parts : (a b : StampParts) → (a.clock == b.clock && (a.broker == b.broker && a.home == b.home)) ≡ same_stamp a b
unfolding same_stamp
same_stamp-parts a b =
    joined-levels (nat_cmp a.clock b.clock) (ordering_then (nat_cmp a.broker b.broker) (nat_cmp a.home b.home)) (a.clock == b.clock) (a.broker == b.broker && a.home == b.home) (level a.clock b.clock)
    (sym (joined-levels (nat_cmp a.broker b.broker) (nat_cmp a.home b.home) (a.broker == b.broker) (a.home == b.home) (level a.broker b.broker) (level a.home b.home)))

pub same_time-parts : (a b : TimeParts) → ((a.stamp.clock == b.stamp.clock && (a.stamp.broker == b.stamp.broker && a.stamp.home == b.stamp.home)) && a.step == b.step) ≡ same_time a b
unfolding same_time same_stamp
same_time-parts a b = joined-levels (stamp_cmp a.stamp b.stamp) (nat_cmp a.step b.step) _ (a.step == b.step) (sym (same_stamp-parts a.stamp b.stamp)) (level a.step b.step)
