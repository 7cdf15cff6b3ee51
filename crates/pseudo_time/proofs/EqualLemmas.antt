-- The tests of equality of stamps and pseudotimes, part by part.
use Rattle.pseudo_time.proofs.Names.{◌≡◌, ℕ, Bool, refl, ◌==◌, ◌&&◌, arith, nat_cmp, ordering_then, is_eq, Ordering, Less, Equal, Greater, common_steps, StampParts, stamp_cmp, TimeParts, same_stamp, same_time}

level : (a b : ℕ) → (a == b) ≡ is_eq (nat_cmp a b)
level a b = grind (arith, common_steps)

joined : (o p : Ordering) (x y : Bool) → x ≡ is_eq o → y ≡ is_eq p → (x && y) ≡ is_eq (ordering_then o p)
joined Less p x y e f = rw e refl
joined Equal p x y e f = rw e f
joined Greater p x y e f = rw e refl

pub same_stamp-parts : (a b : StampParts) → (a.clock == b.clock && (a.broker == b.broker && a.home == b.home)) ≡ same_stamp a b
unfolding same_stamp
same_stamp-parts a b =
    joined (nat_cmp a.clock b.clock) (ordering_then (nat_cmp a.broker b.broker) (nat_cmp a.home b.home)) (a.clock == b.clock) (a.broker == b.broker && a.home == b.home) (level a.clock b.clock)
    (joined (nat_cmp a.broker b.broker) (nat_cmp a.home b.home) (a.broker == b.broker) (a.home == b.home) (level a.broker b.broker) (level a.home b.home))

pub same_time-parts : (a b : TimeParts) → ((a.stamp.clock == b.stamp.clock && (a.stamp.broker == b.stamp.broker && a.stamp.home == b.stamp.home)) && a.step == b.step) ≡ same_time a b
unfolding same_time same_stamp
same_time-parts a b = joined (stamp_cmp a.stamp b.stamp) (nat_cmp a.step b.step) _ (a.step == b.step) (same_stamp-parts a.stamp b.stamp) (level a.step b.step)
