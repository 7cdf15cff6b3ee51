-- What the code keeps of each object is the version that a retirement keeps, and the effects that it keeps are those.
use Rattle.forward_copy.proofs.Names.{◌≡◌, ◌⊎◌, ℕ, ◌+◌, ◌<◌, ◌≤◌, Bool, true, false, List, [], ◌∷◌, ◌++◌, length, refl, sym, ◌∙◌, ap, subst, Option, Some, None, ◌==◌, ◌&&◌, ◌||◌, not, if◌then◌else◌, cond, arith, inl, inr, is_eq, get-insert, common_steps, false≢true, eq_by_cmp_equiv, StampParts, TimeParts, lt, ObjectId, Value, object_cmp, object_cmp-total, Effect, Put, Begin, Decide, Learn, Try, Mark, Whole, Seen, is_committed, pick, place_of, same_place, scan, settle_of, version_count, last_firm, marks, known, Version, FirmMap, AreFirm, firm_of, is_index, last_of, starts_over, stays_above, with_put, put_below, stays, sifted}
use Rattle.std.specs.FinMap as finite
use Rattle.object_history.specs.declared.marks.Mark as history
use Rattle.object_history.specs.Objects.{same_object}
use Rattle.object_history.proofs.ObjectLemmas.{same_object-is, same_object-of}
use Rattle.forward_copy.specs.declared.firms.Firm.{Firm}
use Rattle.forward_copy.proofs.SiftLemmas.{sifted-same}

-- ---- how many versions stand below

-- the log is these effects over a put of the object
abbrev Under : List Effect → ObjectId → TimeParts → Value → List Effect → Type 0
Under l o x v k = (front : List Effect) × (front ++ Put o x v ∷ k ≡ l)

count-put : (o : ObjectId) (x : TimeParts) (v : Value) (l : List Effect) → version_count o (marks (Put o x v ∷ l)) ≡ version_count o (marks l) + 1
unfolding version_count
count-put o x v l = ap (λ b. if b then version_count o (marks l) + 1 else version_count o (marks l)) (same_object-of o o refl)

count-more : (o : ObjectId) (f : Effect) (l : List Effect) → version_count o (marks l) ≤ version_count o (marks (f ∷ l))
unfolding version_count
count-more o (Put a x v) l = elim (same_object a o) as (λ b. version_count o (marks l) ≤ (if b then version_count o (marks l) + 1 else version_count o (marks l))) [ true ↦ omega arith | false ↦ omega arith ]
count-more o _ l = omega arith

-- a version that stands in a log has fewer below it than the log has
count-under : (o : ObjectId) (x : TimeParts) (v : Value) (front k : List Effect) → version_count o (marks k) < version_count o (marks (front ++ Put o x v ∷ k))
count-under o x v [] k = let e = count-put o x v k in omega (arith, e)
count-under o x v (f ∷ front) k = let h = count-under o x v front k in let m = count-more o f (front ++ Put o x v ∷ k) in omega (arith, h, m)

length-under : (o : ObjectId) (x : TimeParts) (v : Value) (front k : List Effect) → length k < length (front ++ Put o x v ∷ k)
length-under o x v [] k = omega arith
length-under o x v (f ∷ front) k = let h = length-under o x v front k in omega (arith, h)

-- ---- the two notions of a place

-- Both found nothing, or the same version: whatever put of the object is asked for, both say the same.
abbrev Agree : List Effect → ObjectId → Option Seen → Option Firm → Type 0
Agree l o None None = Unit {0}
Agree l o None (Some p) = ⊥
Agree l o (Some q) None = ⊥
Agree l o (Some q) (Some p) = (q.start ≡ p.start) × (q.place < version_count o (marks l)) × (p.index < length l)
    × ((x : TimeParts) (v : Value) (k : List Effect) → Under l o x v k → (q.place == version_count o (marks k)) ≡ (p.index == length k))

differ : (a b : ℕ) → a < b → (a == b) ≡ false
differ a b h = grind (arith, common_steps)

differ-back : (a b : ℕ) → a < b → (b == a) ≡ false
differ-back a b h = grind (arith, common_steps)

same : (a b : ℕ) → a ≡ b → (a == b) ≡ true
same a b h = grind (arith, common_steps)

head-put : (f : Effect) (front l k : List Effect) (o : ObjectId) (x : TimeParts) (v : Value) → front ++ Put o x v ∷ k ≡ f ∷ l → (k ≡ l) ⊎ Under l o x v k
head-put f [] l k o x v e = inl (cc e)
head-put f (g ∷ front) l k o x v e = inr (front, cc e)

agree-more : (o : ObjectId) (f : Effect) (l : List Effect) (r : Option Seen) (p : Option Firm) → Agree l o r p → Agree (f ∷ l) o r p
agree-more o f l None None h = tt
agree-more o f l None (Some p) h = absurd h
agree-more o f l (Some q) None h = absurd h
agree-more o f l (Some q) (Some p) h =
    let m = count-more o f l in let low = h.1 in let short = h.2 in
    (h.0, omega (arith, low, m), omega (arith, short), λ x v k u. here x v k (head-put f u.0 l k o x v u.1))
  where
    here : (x : TimeParts) (v : Value) (k : List Effect) → (k ≡ l) ⊎ Under l o x v k → (q.place == version_count o (marks k)) ≡ (p.index == length k)
    here x v k (inl e) =
        differ q.place (version_count o (marks k)) (subst (λ z. q.place < version_count o (marks z)) (sym e) h.1)
        ∙ sym (differ p.index (length k) (subst (λ z. p.index < length z) (sym e) h.2))
    here x v k (inr u) = h.3 x v k u

agree-new : (o : ObjectId) (x : TimeParts) (v : Value) (l : List Effect) → Agree (Put o x v ∷ l) o (Some (record { place = version_count o (marks l); start = x; value = v })) (Some (record { start = x; index = length l }))
agree-new o x v l =
    (refl, omega (arith, count-put o x v l), omega arith, λ y w k u. here y w k (head-put (Put o x v) u.0 l k o y w u.1))
  where
    here : (y : TimeParts) (w : Value) (k : List Effect) → (k ≡ l) ⊎ Under l o y w k → (version_count o (marks l) == version_count o (marks k)) ≡ (length l == length k)
    here y w k (inl e) = same (version_count o (marks l)) (version_count o (marks k)) (sym (ap (λ z. version_count o (marks z)) e)) ∙ sym (same (length l) (length k) (sym (ap length e)))
    here y w k (inr u) =
        differ-back (version_count o (marks k)) (version_count o (marks l)) (subst (λ z. version_count o (marks k) < version_count o (marks z)) u.1 (count-under o y w u.0 k))
        ∙ sym (differ-back (length k) (length l) (subst (λ z. length k < length z) u.1 (length-under o y w u.0 k)))

agree-here : (a o : ObjectId) (x : TimeParts) (v : Value) (l : List Effect) → a ≡ o →
    Agree (Put a x v ∷ l) o (Some (record { place = version_count o (marks l); start = x; value = v })) (Some (record { start = x; index = length l }))
agree-here a o x v l e = subst (λ z. Agree (Put z x v ∷ l) o (Some (record { place = version_count o (marks l); start = x; value = v })) (Some (record { start = x; index = length l }))) (sym e) (agree-new o x v l)

agree-over : (a o : ObjectId) (x : TimeParts) (v : Value) (l : List Effect) (q : Seen) (p : Firm) (b : Bool) → lt x q.start ≡ b → a ≡ o → Agree l o (Some q) (Some p) →
    Agree (Put a x v ∷ l) o (if not b then Some (record { place = version_count o (marks l); start = x; value = v }) else Some q)
    (if b then Some p else Some (record { start = x; index = length l }))
agree-over a o x v l q p true e is h = agree-more o (Put a x v) l (Some q) (Some p) h
agree-over a o x v l q p false e is h = agree-here a o x v l is

agree-chosen : (a o : ObjectId) (x : TimeParts) (v : Value) (l : List Effect) (r : Option Seen) (p : Option Firm) (d : Bool) → (d ≡ true → a ≡ o) → Agree l o r p →
    Agree (Put a x v ∷ l) o (pick d (record { place = version_count o (marks l); start = x; value = v }) r) (if d then last_of (record { start = x; index = length l }) p else p)
unfolding pick
agree-chosen a o x v l r p false is h = agree-more o (Put a x v) l r p h
agree-chosen a o x v l None None true is h = agree-here a o x v l (is refl)
agree-chosen a o x v l None (Some p) true is h = absurd h
agree-chosen a o x v l (Some q) None true is h = absurd h
agree-chosen a o x v l (Some q) (Some p) true is h =
    subst (λ b. Agree (Put a x v ∷ l) o (if not (lt x q.start) then Some (record { place = version_count o (marks l); start = x; value = v }) else Some q)
    (if b then Some p else Some (record { start = x; index = length l }))) (ap (λ z. lt x z) h.0) (agree-over a o x v l q p (lt x q.start) refl (is refl) h)

and-first : (b c : Bool) → (b && c) ≡ true → b ≡ true
and-first true c h = refl
and-first false c h = absurd (false≢true h)

pick-none : (b : Bool) (s : Seen) (r : Option Seen) → pick (b && false) s r ≡ r
unfolding pick
pick-none true s r = refl
pick-none false s r = refl

agree-put : (settled : StampParts → Option Bool) (a o : ObjectId) (x : TimeParts) (v : Value) (l : List Effect) (r : Option Seen) (p : Option Firm) (b : Bool) → Agree l o r p →
    Agree (Put a x v ∷ l) o (pick (same_object a o && (b && is_committed (settled x.stamp))) (record { place = version_count o (marks l); start = x; value = v }) r)
    (with_put settled (if b then Some (record { object = a; start = x }) else None) (length l) o p)
agree-put settled a o x v l r p true h = agree-chosen a o x v l r p (same_object a o && is_committed (settled x.stamp)) (λ e. same_object-is a o (and-first (same_object a o) (is_committed (settled x.stamp)) e)) h
agree-put settled a o x v l r p false h =
    subst (λ z. Agree (Put a x v ∷ l) o z p) (sym (pick-none (same_object a o) (record { place = version_count o (marks l); start = x; value = v }) r)) (agree-more o (Put a x v) l r p h)

pub agree : (all : List history.Mark) (at : TimeParts) (o : ObjectId) (l : List Effect) →
    Agree l o (scan (λ x. lt x at && is_committed (settle_of all x.stamp)) o (marks l)) (firm_of (λ s. settle_of all s) at l o)
unfolding scan
agree all at o [] = tt
agree all at o (Put a x v ∷ l) = agree-put (λ s. settle_of all s) a o x v l (scan (λ y. lt y at && is_committed (settle_of all y.stamp)) o (marks l)) (firm_of (λ s. settle_of all s) at l o) (lt x at) (agree all at o l)
agree all at o (Begin s d ∷ l) = agree-more o (Begin s d) l (scan (λ y. lt y at && is_committed (settle_of all y.stamp)) o (marks l)) (firm_of (λ s. settle_of all s) at l o) (agree all at o l)
agree all at o (Decide s d ∷ l) = agree-more o (Decide s d) l (scan (λ y. lt y at && is_committed (settle_of all y.stamp)) o (marks l)) (firm_of (λ s. settle_of all s) at l o) (agree all at o l)
agree all at o (Learn s c ∷ l) = agree-more o (Learn s c) l (scan (λ y. lt y at && is_committed (settle_of all y.stamp)) o (marks l)) (firm_of (λ s. settle_of all s) at l o) (agree all at o l)
agree all at o (Try i s ∷ l) = agree-more o (Try i s) l (scan (λ y. lt y at && is_committed (settle_of all y.stamp)) o (marks l)) (firm_of (λ s. settle_of all s) at l o) (agree all at o l)
agree all at o (Whole ∷ l) = agree-more o Whole l (scan (λ y. lt y at && is_committed (settle_of all y.stamp)) o (marks l)) (firm_of (λ s. settle_of all s) at l o) (agree all at o l)
agree all at o (f ∷ l) = agree-more o f l (scan (λ y. lt y at && is_committed (settle_of all y.stamp)) o (marks l)) (firm_of (λ s. settle_of all s) at l o) (agree all at o l)

-- ---- the effects that stay

said : (l : List Effect) (o : ObjectId) (r : Option Seen) (p : Option Firm) → Agree l o r p → (x : TimeParts) (v : Value) (k : List Effect) → Under l o x v k →
    is_index p (length k) ≡ same_place (place_of r) (Some (version_count o (marks k)))
said l o None None h x v k u = refl
said l o None (Some p) h x v k u = absurd h
said l o (Some q) None h x v k u = absurd h
said l o (Some q) (Some p) h x v k u = sym (h.3 x v k u)

firm-same : (f g : StampParts → Option Bool) (at : TimeParts) (l : List Effect) (o : ObjectId) → ((s : StampParts) → f s ≡ g s) → firm_of f at l o ≡ firm_of g at l o
firm-same f g at [] o h = refl
firm-same f g at (e ∷ l) o h = with-same (put_below at e) (firm-same f g at l o h)
  where
    with-same : (v : Option Version) {p q : Option Firm} → p ≡ q → with_put f v (length l) o p ≡ with_put g v (length l) o q
    with-same None is = is
    with-same (Some v) {p} {q} is =
        ap (λ z. with_put f (Some v) (length l) o z) is
        ∙ ap (λ z. if same_object v.object o && is_committed z then last_of (record { start = v.start; index = length l }) q else q) (h v.start.stamp)

stays-same : (settled : StampParts → Option Bool) (at : TimeParts) (all : List Effect) (firms : FirmMap) → ((s : StampParts) → settled s ≡ known all s) → AreFirm settled at all firms →
    (front : List Effect) (f : Effect) (k : List Effect) → front ++ f ∷ k ≡ all → stays_above firms at (length k) f ≡ stays all at k f
stays-same settled at all firms known are front (Put o x v) k is =
    ap (λ b. not (lt x at) || b)
    (ap (λ p. is_index p (length k)) (are o ∙ firm-same settled (λ s. settle_of (marks all) s) at all o known)
    ∙ said all o (last_firm (marks all) at o) (firm_of (λ s. settle_of (marks all) s) at all o) (agree (marks all) at o all) x v k (front, is))
stays-same settled at all firms known are front _ k is = refl

-- what the code keeps
pub kept-same : (settled : StampParts → Option Bool) (at : TimeParts) (all : List Effect) (firms : FirmMap) → ((s : StampParts) → settled s ≡ known all s) → AreFirm settled at all firms →
    sifted (λ l f. stays_above firms at (length l) f) all ≡ sifted (stays all at) all
kept-same settled at all firms known are = sifted-same (λ l f. stays_above firms at (length l) f) (stays all at) [] all (stays-same settled at all firms known are)

-- and what it drops
pub dropped-same : (settled : StampParts → Option Bool) (at : TimeParts) (all : List Effect) (firms : FirmMap) → ((s : StampParts) → settled s ≡ known all s) → AreFirm settled at all firms →
    sifted (λ l f. not (stays_above firms at (length l) f)) all ≡ sifted (λ l f. not (stays all at l f)) all
dropped-same settled at all firms known are =
    sifted-same (λ l f. not (stays_above firms at (length l) f)) (λ l f. not (stays all at l f)) [] all (λ front f k is. ap not (stays-same settled at all firms known are front f k is))

-- ---- the map with one effect more

pub noted-none : (settled : StampParts → Option Bool) (at : TimeParts) (l : List Effect) (f : Effect) (firms : FirmMap) → put_below at f ≡ None → AreFirm settled at l firms → AreFirm settled at (f ∷ l) firms
noted-none settled at l f firms e are o = are o ∙ sym (ap (λ z. with_put settled z (length l) o (firm_of settled at l o)) e)

stays-over : (b c : Bool) (p : Firm) (r : Option Firm) → (b ≡ true → starts_over r p.start ≡ true) → (if b && c then last_of p r else r) ≡ r
stays-over true true p r h = ap (λ z. if z then r else Some p) (h refl)
stays-over true false p r h = refl
stays-over false c p r h = refl

-- it lies below the one that is kept
pub noted-below : (settled : StampParts → Option Bool) (at : TimeParts) (l : List Effect) (f : Effect) (v : Version) (firms : FirmMap) → put_below at f ≡ Some v →
    starts_over (finite.get firms v.object) v.start ≡ true → AreFirm settled at l firms → AreFirm settled at (f ∷ l) firms
noted-below settled at l f v firms e over are o =
    are o ∙ sym (ap (λ z. with_put settled z (length l) o (firm_of settled at l o)) e
    ∙ stays-over (same_object v.object o) (is_committed (settled v.start.stamp)) (record { start = v.start; index = length l }) (firm_of settled at l o)
    (λ t. ap (λ z. starts_over z v.start) (sym (are o) ∙ sym (ap (finite.get firms) (same_object-is v.object o t))) ∙ over))

put-there : (b : Bool) (p : Firm) (q r : Option Firm) → q ≡ r → (b ≡ true → starts_over q p.start ≡ false) → cond b (Some p) q ≡ (if b && true then last_of p r else r)
put-there true p q r is h = sym (ap (λ z. if z then r else Some p) (sym (ap (λ z. starts_over z p.start) is) ∙ h refl))
put-there false p q r is h = is

-- it is put there
pub noted : (settled : StampParts → Option Bool) (at : TimeParts) (l : List Effect) (f : Effect) (v : Version) (firms : FirmMap) → put_below at f ≡ Some v → is_committed (settled v.start.stamp) ≡ true →
    starts_over (finite.get firms v.object) v.start ≡ false → AreFirm settled at l firms →
    AreFirm settled at (f ∷ l) (finite.insert firms v.object (record { start = v.start; index = length l }))
unfolding same_object
noted settled at l f v firms e firm high are o =
    let p : Firm = record { start = v.start; index = length l } in
    get-insert object_cmp-total firms v.object p o ∙ ap (λ b. cond b (Some p) (finite.get firms o)) ((eq_by_cmp_equiv object_cmp-total).symm o v.object)
    ∙ put-there (is_eq (object_cmp v.object o)) p (finite.get firms o) (firm_of settled at l o) (are o) (λ t. ap (λ z. starts_over z v.start) (sym (ap (finite.get firms) (same_object-is v.object o t))) ∙ high)
    ∙ sym (ap (λ z. with_put settled z (length l) o (firm_of settled at l o)) e ∙ ap (λ c. if same_object v.object o && c then last_of p (firm_of settled at l o) else firm_of settled at l o) firm)
