-- A ledger after a change.
use Rattle.std.specs.declared.cmp.Ordering.{Ordering}
use Rattle.std.specs.declared.cmp.Ordering.TheVariants.{Less, Equal, Greater}
use Rattle.object_header.proofs.Names.{StampParts, TimeParts, ObjectId, Value, Effect, Mark, Put, Stretch, Settle, Floor, same_object, floor_of, Settled, AreMarks, IsMark, kept_of, Headed, head_at, first_put, content, odd_in, IsIndexed, marks, mark_of, added, ◌≡◌, ℕ, Bool, true, false, List, [], ◌∷◌, ◌++◌, length, reverse, take, ◌+◌, ◌-◌, length-append, refl, sym, ◌∙◌, ap, subst, Option, None, ◌==◌, ◌&&◌, if◌then◌else◌, arith, push, nat_cmp, ordering_then, is_eq, common_steps, reverse-append, take_at, append_cancel_right, false≢true, LedgerParts, IsLedger, HasMarks, is_here, mark_put}
use Rattle.repository_log.proofs.MarkLemmas.{marks-append}

-- ---- objects

level : (a b : ℕ) → is_eq (nat_cmp a b) ≡ (a == b)
level a b = grind (arith, common_steps)

both-levels : (o p : Ordering) → is_eq (ordering_then o p) ≡ (is_eq o && is_eq p)
both-levels Less p = refl
both-levels Equal p = refl
both-levels Greater p = refl

pub same_object-parts : (a b : ObjectId) → (a.repository == b.repository && a.number == b.number) ≡ same_object a b
unfolding same_object
same_object-parts a b =
    sym (both-levels (nat_cmp a.repository b.repository) (nat_cmp a.number b.number) ∙ ap (λ z. z && is_eq (nat_cmp a.number b.number)) (level a.repository b.repository) ∙ ap (λ z. (a.repository == b.repository) && z) (level a.number b.number))

-- ---- the parts

abbrev pub parts : List Effect → List Mark → Settled → Headed → Bool → List Mark → LedgerParts
parts log late settles heads whole kept = record { log = log; late = late; settles = settles; heads = heads; whole = whole; kept = kept }

-- no object became odd
abbrev pub SameOdd : Headed → Headed → Type 0
SameOdd new old = (o : ObjectId) → (head_at new o).odd ≡ (head_at old o).odd

pub kept-pointwise : (f g : ObjectId → Bool) (m : List Mark) → ((o : ObjectId) → f o ≡ g o) → kept_of f m ≡ kept_of g m
unfolding kept_of
kept-pointwise f g [] h = refl
kept-pointwise f g (Put a x v ∷ m) h = ap (λ b. if b then Put a x v ∷ kept_of f m else kept_of f m) (h a) ∙ ap (λ k. if g a then Put a x v ∷ k else k) (kept-pointwise f g m h)
kept-pointwise f g (Stretch a x ∷ m) h = ap (λ b. if b then Stretch a x ∷ kept_of f m else kept_of f m) (h a) ∙ ap (λ k. if g a then Stretch a x ∷ k else k) (kept-pointwise f g m h)
kept-pointwise f g (Settle s c ∷ m) h = ap (λ k. Settle s c ∷ k) (kept-pointwise f g m h)
kept-pointwise f g (Floor z ∷ m) h = ap (λ k. Floor z ∷ k) (kept-pointwise f g m h)

append_if : (b : Bool) (f : Mark) (k n : List Mark) → (if b then f ∷ (k ++ n) else k ++ n) ≡ (if b then f ∷ k else k) ++ n
append_if true f k n = refl
append_if false f k n = refl

pub kept-append : (odd : ObjectId → Bool) (a b : List Mark) → kept_of odd (a ++ b) ≡ kept_of odd a ++ kept_of odd b
unfolding kept_of
kept-append odd [] b = refl
kept-append odd (Put c x v ∷ a) b = ap (λ k. if odd c then Put c x v ∷ k else k) (kept-append odd a b) ∙ append_if (odd c) (Put c x v) (kept_of odd a) (kept_of odd b)
kept-append odd (Stretch c x ∷ a) b = ap (λ k. if odd c then Stretch c x ∷ k else k) (kept-append odd a b) ∙ append_if (odd c) (Stretch c x) (kept_of odd a) (kept_of odd b)
kept-append odd (Settle s c ∷ a) b = ap (λ k. Settle s c ∷ k) (kept-append odd a b)
kept-append odd (Floor z ∷ a) b = ap (λ k. Floor z ∷ k) (kept-append odd a b)

twice_put : (b : Bool) (odd : ObjectId → Bool) (f : Mark) (k : List Mark) → (b ≡ true → kept_of odd (f ∷ k) ≡ f ∷ kept_of odd k) → kept_of odd k ≡ k → kept_of odd (if b then f ∷ k else k) ≡ (if b then f ∷ k else k)
twice_put true odd f k at is = at refl ∙ ap (λ z. f ∷ z) is
twice_put false odd f k at is = is

-- what is kept is kept again
pub kept-twice : (odd : ObjectId → Bool) (m : List Mark) → kept_of odd (kept_of odd m) ≡ kept_of odd m
unfolding kept_of
kept-twice odd [] = refl
kept-twice odd (Put a x v ∷ m) = twice_put (odd a) odd (Put a x v) (kept_of odd m) (λ e. ap (λ b. if b then Put a x v ∷ kept_of odd (kept_of odd m) else kept_of odd (kept_of odd m)) e) (kept-twice odd m)
kept-twice odd (Stretch a x ∷ m) = twice_put (odd a) odd (Stretch a x) (kept_of odd m) (λ e. ap (λ b. if b then Stretch a x ∷ kept_of odd (kept_of odd m) else kept_of odd (kept_of odd m)) e) (kept-twice odd m)
kept-twice odd (Settle s c ∷ m) = ap (λ k. Settle s c ∷ k) (kept-twice odd m)
kept-twice odd (Floor z ∷ m) = ap (λ k. Floor z ∷ k) (kept-twice odd m)

reverse-snoc : (xs ys : List Mark) (f : Mark) → ys ≡ xs ++ f ∷ [] → reverse ys ≡ f ∷ reverse xs
reverse-snoc xs ys f is = ap reverse is ∙ reverse-append xs (f ∷ [])

-- one late mark more
pub late-more : (log : List Effect) (xs ys : List Mark) (settled new : Settled) (heads next : Headed) (whole : Bool) (kept : List Mark) (f : Mark) → IsLedger (parts log (reverse xs) settled heads whole kept) → ys ≡ xs ++ f ∷ [] → IsMark f → SameOdd next heads →
    (IsIndexed (content (parts log (reverse xs) settled heads whole kept)) settled heads → IsIndexed (f ∷ content (parts log (reverse xs) settled heads whole kept)) new next) → IsLedger (parts log (reverse ys) new next whole kept)
late-more log xs ys settled new heads next whole kept f is pushed fine same more =
    subst (λ z. IsLedger (parts log z new next whole kept)) (sym (reverse-snoc xs ys f pushed)) (record {
      indexed = more is.indexed;
      in_range = (fine, is.in_range);
      kept = λ w. is.kept w ∙ kept-pointwise (odd_in heads) (odd_in next) (marks (reverse log)) (λ o. sym (same o));
      kept_in_range = is.kept_in_range;
    })

-- what was pushed is popped
pub pop-rest : (xs ys zs : List Mark) (f : Mark) (n : ℕ) → ys ≡ xs ++ f ∷ [] → n ≡ length ys → zs ≡ take (n - 1) ys → zs ≡ xs
pop-rest xs ys zs f n pushed long rest = rest ∙ ap (λ k. take k ys) (less (length xs) (length ys) (ap (λ (l : List Mark). length l) pushed ∙ length-append xs (f ∷ [])) long) ∙ ap (take (length xs)) pushed ∙ take_at xs (f ∷ []) (length xs) refl
  where
    less : (a b : ℕ) → b ≡ a + 1 → n ≡ b → n - 1 ≡ a
    less a b is at = omega (arith, at, is)

-- none, as before
pub late-same : (log : List Effect) (xs ys : List Mark) (settled new : Settled) (heads next : Headed) (whole : Bool) (kept : List Mark) → IsLedger (parts log (reverse xs) settled heads whole kept) → ys ≡ xs → SameOdd next heads →
    ((m : List Mark) → IsIndexed m settled heads → IsIndexed m new next) → IsLedger (parts log (reverse ys) new next whole kept)
late-same log xs ys settled new heads next whole kept is same odd more =
    subst (λ z. IsLedger (parts log (reverse z) new next whole kept)) (sym same) (record {
      indexed = more (content (parts log (reverse xs) settled heads whole kept)) is.indexed;
      in_range = is.in_range;
      kept = λ w. is.kept w ∙ kept-pointwise (odd_in heads) (odd_in next) (marks (reverse log)) (λ o. sym (odd o));
      kept_in_range = is.kept_in_range;
    })

pub late-none : (log : List Effect) (ys zs : List Mark) (settled : Settled) (heads : Headed) → log ≡ [] → ys ≡ [] → zs ≡ [] → IsIndexed [] settled heads → IsLedger (parts log (reverse ys) settled heads false (reverse zs))
late-none log ys zs settled heads none empty bare is =
    subst (λ z. IsLedger (parts z (reverse ys) settled heads false (reverse zs))) (sym none)
    (subst (λ z. IsLedger (parts [] (reverse z) settled heads false (reverse zs))) (sym empty)
    (subst (λ z. IsLedger (parts [] [] settled heads false (reverse z))) (sym bare) (record { indexed = is; in_range = tt; kept = λ w. absurd (false≢true w); kept_in_range = tt })))

-- the log with these effects has their marks
pub marks-more : (log effects : List Effect) → marks (reverse (log ++ effects)) ≡ marks (reverse effects) ++ marks (reverse log)
marks-more log effects = ap marks (reverse-append log effects) ∙ marks-append (reverse effects) (reverse log)

pub late-flushed : (log more effects : List Effect) (xs ys : List Mark) (settled : Settled) (heads : Headed) (whole : Bool) (kept next : List Mark) → IsLedger (parts log (reverse xs) settled heads whole kept) → more ≡ log ++ effects → ys ≡ [] → marks (reverse effects) ≡ reverse xs →
    (whole ≡ true → next ≡ kept_of (odd_in heads) (reverse xs) ++ kept) → AreMarks next → IsLedger (parts more (reverse ys) settled heads whole next)
late-flushed log more effects xs ys settled heads whole kept next is longer empty same keeps fine =
    let all : marks (reverse more) ≡ reverse xs ++ marks (reverse log) = ap (λ l. marks (reverse l)) longer ∙ marks-more log effects ∙ ap (λ z. z ++ marks (reverse log)) same in
    subst (λ z. IsLedger (parts more (reverse z) settled heads whole next)) (sym empty) (record {
      indexed = subst (λ m. IsIndexed m settled heads) (sym all) is.indexed;
      in_range = tt;
      kept = λ w. keeps w ∙ ap (λ k. kept_of (odd_in heads) (reverse xs) ++ k) (is.kept w) ∙ sym (ap (kept_of (odd_in heads)) all ∙ kept-append (odd_in heads) (reverse xs) (marks (reverse log)));
      kept_in_range = fine;
    })

pub late-logged : (log more : List Effect) (e : Effect) (xs ys zs : List Mark) (settled new : Settled) (heads next : Headed) (whole : Bool) (kept : List Mark) → IsLedger (parts log (reverse xs) settled heads whole kept) → more ≡ log ++ e ∷ [] → ys ≡ xs → reverse xs ≡ [] → zs ≡ [] →
    ((m : List Mark) → IsIndexed m settled heads → IsIndexed (added (mark_of e) m) new next) → IsLedger (parts more (reverse ys) new next false (reverse zs))
late-logged log more e xs ys zs settled new heads next whole kept is longer same empty bare added_is =
    subst (λ z. IsLedger (parts more z new next false (reverse zs))) (sym (ap reverse same ∙ empty))
    (subst (λ z. IsLedger (parts more [] new next false (reverse z))) (sym bare) (record {
      indexed = subst (λ m. IsIndexed m new next) (sym (ap (λ l. marks (reverse l)) longer ∙ ap marks (reverse-append log (e ∷ [])))) (added_is (marks (reverse log)) (subst (λ z. IsIndexed (z ++ marks (reverse log)) settled heads) empty is.indexed));
      in_range = tt;
      kept = λ w. absurd (false≢true w);
      kept_in_range = tt;
    }))

-- from now on odd objects can be answered
pub late-whole : (log : List Effect) (xs : List Mark) (settled : Settled) (heads : Headed) (whole : Bool) (kept next : List Mark) → IsLedger (parts log (reverse xs) settled heads whole kept) → next ≡ kept_of (odd_in heads) (marks (reverse log)) → AreMarks next → IsLedger (parts log (reverse xs) settled heads true next)
late-whole log xs settled heads whole kept next is keeps fine = record { indexed = is.indexed; in_range = is.in_range; kept = λ w. keeps; kept_in_range = fine }

-- ---- the floor

pub floor-put : (o : ObjectId) (x : TimeParts) (v : Value) (m : List Mark) → floor_of (Put o x v ∷ m) ≡ floor_of m
unfolding floor_of
floor-put o x v m = refl

pub floor-stretch : (o : ObjectId) (x : TimeParts) (m : List Mark) → floor_of (Stretch o x ∷ m) ≡ floor_of m
unfolding floor_of
floor-stretch o x m = refl

pub floor-settle : (s : StampParts) (c : Bool) (m : List Mark) → floor_of (Settle s c ∷ m) ≡ floor_of m
unfolding floor_of
floor-settle s c m = refl

-- one late mark more that is no Floor
pub floor-more : (log : List Effect) (xs ys : List Mark) (f : Mark) (floor : Option TimeParts) → ((m : List Mark) → floor_of (f ∷ m) ≡ floor_of m) → ys ≡ xs ++ f ∷ [] → floor ≡ floor_of (reverse xs ++ marks (reverse log)) →
    floor ≡ floor_of (reverse ys ++ marks (reverse log))
floor-more log xs ys f floor none pushed is = is ∙ sym (ap (λ z. floor_of (z ++ marks (reverse log))) (reverse-snoc xs ys f pushed) ∙ none (reverse xs ++ marks (reverse log)))

pub floor-same : (log : List Effect) (xs ys : List Mark) (floor : Option TimeParts) → ys ≡ xs → floor ≡ floor_of (reverse xs ++ marks (reverse log)) → floor ≡ floor_of (reverse ys ++ marks (reverse log))
floor-same log xs ys floor same is = is ∙ ap (λ z. floor_of (reverse z ++ marks (reverse log))) (sym same)

pub floor-none : (log : List Effect) (ys : List Mark) → log ≡ [] → ys ≡ [] → None ≡ floor_of (reverse ys ++ marks (reverse log))
unfolding floor_of
floor-none log ys none empty = sym (ap (λ z. floor_of (reverse z ++ marks (reverse log))) empty ∙ ap (λ l. floor_of (marks (reverse l))) none)

pub floor-flushed : (log more effects : List Effect) (xs ys : List Mark) (floor : Option TimeParts) → more ≡ log ++ effects → ys ≡ [] → marks (reverse effects) ≡ reverse xs → floor ≡ floor_of (reverse xs ++ marks (reverse log)) →
    floor ≡ floor_of (reverse ys ++ marks (reverse more))
floor-flushed log more effects xs ys floor longer empty same is =
    is
    ∙ ap floor_of (sym (ap (λ z. reverse z ++ marks (reverse more)) empty ∙ ap (λ l. marks (reverse l)) longer ∙ marks-more log effects ∙ ap (λ z. z ++ marks (reverse log)) same))

pub floor-logged : (log more : List Effect) (e : Effect) (ys : List Mark) (floor new : Option TimeParts) → more ≡ log ++ e ∷ [] → reverse ys ≡ [] → floor ≡ floor_of (reverse ys ++ marks (reverse log)) →
    ((l : List Effect) → floor ≡ floor_of (marks l) → new ≡ floor_of (marks (e ∷ l))) → new ≡ floor_of (reverse ys ++ marks (reverse more))
floor-logged log more e ys floor new longer empty is with_e =
    with_e (reverse log) (is ∙ ap (λ z. floor_of (z ++ marks (reverse log))) empty)
    ∙ ap floor_of (sym (ap (λ z. z ++ marks (reverse more)) empty ∙ ap (λ l. marks (reverse l)) longer ∙ ap marks (reverse-append log (e ∷ []))))

-- ---- looking through the late marks

first_cons : (ok : TimeParts → Bool) (o : ObjectId) (f : Mark) (m : List Mark) → first_put ok o (f ∷ m) ≡ (if is_here ok o f then mark_put f else first_put ok o m)
unfolding first_put
first_cons ok o (Put a x v) m = refl
first_cons ok o (Stretch a x) m = refl
first_cons ok o (Settle s c) m = refl
first_cons ok o (Floor z) m = refl

reverse-push : (ms : List Mark) (f : Mark) → reverse (push ms f) ≡ f ∷ reverse ms
reverse-push ms f = reverse-append ms (f ∷ [])

pub late-step : (ok : TimeParts → Bool) (o : ObjectId) (b : Bool) (f : Mark) (rest left : List Mark) (all : Option (TimeParts × Value)) → rest ≡ push left f → is_here ok o f ≡ b → first_put ok o (reverse rest) ≡ all →
    (if b then mark_put f else first_put ok o (reverse left)) ≡ all
late-step ok o b f rest left all is here all_is =
    ap (λ z. if z then mark_put f else first_put ok o (reverse left)) (sym here) ∙ sym (first_cons ok o f (reverse left)) ∙ ap (first_put ok o) (sym (ap reverse is ∙ reverse-push left f)) ∙ all_is

pub late-done : (ok : TimeParts → Bool) (o : ObjectId) (rest : List Mark) (all : Option (TimeParts × Value)) → length rest ≡ 0 → first_put ok o (reverse rest) ≡ all → None ≡ all
unfolding first_put
late-done ok o [] all none is = is
late-done ok o (f ∷ rest) all none is = absurd (omega (arith, none))

pub late-range : (f : Mark) (rest left : List Mark) → rest ≡ push left f → AreMarks (reverse rest) → IsMark f × AreMarks (reverse left)
late-range f rest left is fine = subst (λ z. AreMarks z) (ap reverse is ∙ reverse-push left f) fine

-- what is flushed stays in the histories
pub content-flushed : (old new : LedgerParts) (effects : List Effect) → marks (reverse effects) ≡ old.late → new.log ≡ old.log ++ effects → new.late ≡ [] → content new ≡ content old
content-flushed old new effects late longer empty =
    ap (λ z. z ++ marks (reverse new.log)) empty ∙ ap (λ l. marks (reverse l)) longer ∙ marks-more old.log effects ∙ ap (λ z. z ++ marks (reverse old.log)) late

-- what the histories grew by since nothing was late is late
pub late-grown : (old new : LedgerParts) (effects : List Effect) → old.late ≡ [] → new.log ≡ old.log → content new ≡ marks (reverse effects) ++ content old → marks (reverse effects) ≡ new.late
late-grown old new effects none same grown =
    append_cancel_right (marks (reverse effects)) new.late (marks (reverse new.log))
    (ap (λ l. marks (reverse effects) ++ marks (reverse l)) same ∙ ap (λ z. marks (reverse effects) ++ (z ++ marks (reverse old.log))) (sym none) ∙ sym grown)

-- what the log goes on by is late
pub late-of_log : (l : LedgerParts) (effects : List Effect) → HasMarks (content l) (l.log ++ effects) → marks (reverse effects) ≡ l.late
late-of_log l effects has = append_cancel_right (marks (reverse effects)) l.late (marks (reverse l.log)) (sym (marks-more l.log effects) ∙ sym has)
