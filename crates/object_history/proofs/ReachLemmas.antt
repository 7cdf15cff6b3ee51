-- In a history that grew by fitting marks, no reach goes beyond a living version above it.
use Rattle.object_history.proofs.Names.{StampParts, TimeParts, lt, lt-irreflexive, lt-asymmetric, lt-split, lt-trans, ObjectId, Value, Mark, Put, Stretch, Settle, Floor, same_object, Seen, settle_of, alive, version_count, sees, newest, place_of, same_place, top, stretched, floor_of, latest, reach, write_step, Starts, IsVersion, Distinct, Fits, ◌≡◌, ℕ, ◌+◌, ◌<◌, Bool, true, false, List, [], ◌∷◌, refl, sym, ◌∙◌, ap, subst, Option, Some, None, ◌&&◌, if◌then◌else◌, inl, inr, arith, false≢true, true≢false, lt-total, Grown}
use Rattle.object_history.specs.declared.steps.WriteStep.TheVariants as write
use Rattle.object_history.proofs.Words.{Passes, Ends, Low, AtMost}
use Rattle.object_history.proofs.BoolLemmas.{and-both, and-right, not-false}
use Rattle.object_history.proofs.ObjectLemmas.{same_object-of, eq-from}
use Rattle.object_history.proofs.StableLemmas.{put-says, alive-fewer, scan-passes}
use Rattle.object_history.proofs.ViewLemmas.{top-all}
use Rattle.object_history.proofs.ScanLemmas.{Standing, standing, stands-starts, one-version, distinct-kept, puts-below}

-- ---- one place, one version

more : (same : Bool) (n k : ℕ) → n < k → n < (if same then k + 1 else k)
more true n k h = omega arith
more false n k h = h

stands-under : (o : ObjectId) (m : List Mark) (q : Seen) → IsVersion o m q → q.place < version_count o m
unfolding version_count
stands-under o [] q s = absurd s
stands-under o (Put a x v ∷ m) q (inl s) = here (same_object a o) (same_object-of a o s.0)
  where
    here : (same : Bool) → same ≡ true → q.place < (if same then version_count o m + 1 else version_count o m)
    here true h = let is : version_count o m ≡ q.place = ap (λ z. z.place) s.1 in omega arith
    here false h = absurd (false≢true h)
stands-under o (Put a x v ∷ m) q (inr s) = more (same_object a o) q.place (version_count o m) (stands-under o m q s)
stands-under o (Stretch a x ∷ m) q s = stands-under o m q s
stands-under o (Settle t c ∷ m) q s = stands-under o m q s
stands-under o (Floor z ∷ m) q s = stands-under o m q s

clash : (o : ObjectId) (m : List Mark) (p q : Seen) (x : TimeParts) (v : Value) → record { place = version_count o m; start = x; value = v } ≡ p → IsVersion o m q → p.place ≡ q.place → p ≡ q
clash o m p q x v is s same =
    let under : q.place < version_count o m = stands-under o m q s in
    let at : version_count o m ≡ p.place = ap (λ z. z.place) is in
    absurd (omega arith)

pub one-place : (o : ObjectId) (m : List Mark) (p q : Seen) → IsVersion o m p → IsVersion o m q → p.place ≡ q.place → p ≡ q
one-place o [] p q s t e = absurd s
one-place o (Put a x v ∷ m) p q (inl s) (inl t) e = sym s.1 ∙ t.1
one-place o (Put a x v ∷ m) p q (inl s) (inr t) e = clash o m p q x v s.1 t e
one-place o (Put a x v ∷ m) p q (inr s) (inl t) e = sym (clash o m q p x v t.1 s (sym e))
one-place o (Put a x v ∷ m) p q (inr s) (inr t) e = one-place o m p q s t e
one-place o (Stretch a x ∷ m) p q s t e = one-place o m p q s t e
one-place o (Settle u c ∷ m) p q s t e = one-place o m p q s t e
one-place o (Floor z ∷ m) p q s t e = one-place o m p q s t e

-- ---- ends

ends-top : (a y : TimeParts) (s : Option TimeParts) → lt y a ≡ false → Ends s y → Ends (top a s) y
ends-top a y None h k = h
ends-top a y (Some e) h k = either (lt a e)
  where
    either : (b : Bool) → Ends (if b then Some e else Some a) y
    either true = k
    either false = h

ends-rest : (a y : TimeParts) (s : Option TimeParts) → Ends (top a s) y → Ends s y
ends-rest a y None h = tt
ends-rest a y (Some e) h = either (lt a e) refl h
  where
    either : (b : Bool) → lt a e ≡ b → Ends (if b then Some e else Some a) y → lt y e ≡ false
    either true l k = k
    either false l k = not-false (lt y e) (λ n. true≢false (sym (lt-split y a e n l) ∙ k))

ends-first : (a y : TimeParts) (s : Option TimeParts) → Ends (top a s) y → lt y a ≡ false
ends-first a y None h = h
ends-first a y (Some e) h = either (lt a e) refl h
  where
    either : (b : Bool) → lt a e ≡ b → Ends (if b then Some e else Some a) y → lt y a ≡ false
    either true l k = not-false (lt y a) (λ n. true≢false (sym (lt-trans y a e n l) ∙ k))
    either false l k = k

pub ends-floor : (f e : Option TimeParts) (y : TimeParts) → Ends (latest f e) y → Ends f y
ends-floor None e y h = tt
ends-floor (Some x) e y h = ends-first x y e h

ends-read : (f e : Option TimeParts) (y : TimeParts) → Ends (latest f e) y → Ends e y
ends-read None e y h = h
ends-read (Some x) e y h = ends-rest x y e h

ends-latest : (f e : Option TimeParts) (y : TimeParts) → Ends f y → Ends e y → Ends (latest f e) y
ends-latest None e y h k = k
ends-latest (Some x) e y h k = ends-top x y e h k

ends-if : (b : Bool) (x y : TimeParts) (s : Option TimeParts) → (b ≡ true → lt y x ≡ false) → Ends s y → Ends (if b then top x s else s) y
ends-if true x y s h k = ends-top x y s (h refl) k
ends-if false x y s h k = k

ends-later : (r : Option TimeParts) (y x : TimeParts) → Ends r y → lt y x ≡ true → Ends r x
ends-later None y x h l = tt
ends-later (Some e) y x h l = not-false (lt x e) (λ n. true≢false (sym (lt-trans y x e l n) ∙ h))

-- ---- the order of reaches

abbrev Living : ObjectId → List Mark → Seen → Type 0
Living o m q = IsVersion o m q × (alive m q.start ≡ true)

record Ordered (o : ObjectId) (m : List Mark) : Type 0 where
  origin : (r : Seen) → Living o m r → Ends (reach m o None) r.start
  versions : (q r : Seen) → Living o m q → Living o m r → lt q.start r.start ≡ true → Ends (reach m o (Some q)) r.start

-- what isn't below the newest living version is it
newest-or-below : (o : ObjectId) (m : List Mark) (n q : Seen) → Distinct m → IsVersion o m n → IsVersion o m q → lt n.start q.start ≡ false → (b : Bool) → lt q.start n.start ≡ b → (b ≡ true → Ends (reach m o (Some q)) n.start) → (x : TimeParts) → lt n.start x ≡ true → Ends (reach m o (Some n)) x → Ends (reach m o (Some q)) x
newest-or-below o m n q d s t top true e h x low ends = ends-later (reach m o (Some q)) n.start x (h refl) low
newest-or-below o m n q d s t top false e h x low ends = subst (λ z. Ends (reach m o (Some z)) x) (one-version o m n q d s t (lt-total n.start q.start top e)) ends

above-by : (o : ObjectId) (m : List Mark) (x : TimeParts) (n : Option Seen) → Ordered o m → Distinct m → Standing o m n → ((q : Seen) → Living o m q → AtMost n q.start) → (IfLiving : (q : Seen) → n ≡ Some q → alive m q.start ≡ true) → Low n x → Ends (reach m o n) x →
    Ends (reach m o None) x × ((q : Seen) → Living o m q → Ends (reach m o (Some q)) x)
above-by o m x None ordered d s atmost live low ends = (ends, λ q l. absurd (atmost q l))
above-by o m x (Some n) ordered d s atmost live low ends = (
  ends-later (reach m o None) n.start x (ordered.origin n (s, live n refl)) low,
  λ q l. newest-or-below o m n q d s l.0 (atmost q l) (lt q.start n.start) refl (λ e. ordered.versions q n l (s, live n refl) e) x low ends,
)

stands-atmost : (o : ObjectId) (m : List Mark) (n : Option Seen) → Starts (λ y. alive m y ≡ true → AtMost n y) o m → (q : Seen) → Living o m q → AtMost n q.start
stands-atmost o m n h q l = stands-starts (λ y. alive m y ≡ true → AtMost n y) o m q h l.0 l.1

passing : (o : ObjectId) (m : List Mark) (r : Option Seen) → Passes (λ y. alive m y) r → (q : Seen) → r ≡ Some q → alive m q.start ≡ true
passing o m None p q e = absurd (cc e)
passing o m (Some n) p q e = let same : n ≡ q = cc e in subst (λ z. alive m z.start ≡ true) same p

-- an accepted write isn't below the reach of any living version, or of the origin
above-all : (o : ObjectId) (m : List Mark) (x : TimeParts) (v : Value) → Ordered o m → Distinct m → write_step m o x v ≡ write.Put → Ends (reach m o None) x × ((q : Seen) → Living o m q → Ends (reach m o (Some q)) x)
above-all o m x v ordered d put =
    let says = put-says m o x v put in
    above-by o m x (newest m o) ordered d (standing (λ y. alive m y) o m) (stands-atmost o m (newest m o) (top-all (λ y. alive m y) o m))
    (passing o m (newest m o) (scan-passes (λ y. alive m y) o m)) says.0 says.1

-- ---- each mark keeps the order

ordered-put : (o : ObjectId) (m : List Mark) (a : ObjectId) (x : TimeParts) (v : Value) → Ordered o m → Distinct m → write_step m a x v ≡ write.Put → Ordered o (Put a x v ∷ m)
unfolding stretched settle_of floor_of
ordered-put o m a x v ordered d put = record { origin = origin; versions = versions }
  where
    here : a ≡ o → Ends (reach m o None) x × ((q : Seen) → Living o m q → Ends (reach m o (Some q)) x)
    here e = above-all o m x v ordered d (subst (λ z. write_step m z x v ≡ write.Put) e put)

    below : a ≡ o → (q : Seen) → Living o m q → lt q.start x ≡ true
    below e q l = stands-starts (λ y. alive m y ≡ true → lt y x ≡ true) o m q (subst (λ z. Starts (λ y. alive m y ≡ true → lt y x ≡ true) z m) e (puts-below m a x v put)) l.0 l.1

    origin : (r : Seen) → Living o (Put a x v ∷ m) r → Ends (reach (Put a x v ∷ m) o None) r.start
    origin r (inl s, live) = subst (λ z. Ends (reach m o None) z.start) s.1 (here s.0).0
    origin r (inr s, live) = ordered.origin r (s, live)

    versions : (q r : Seen) → Living o (Put a x v ∷ m) q → Living o (Put a x v ∷ m) r → lt q.start r.start ≡ true → Ends (reach (Put a x v ∷ m) o (Some q)) r.start
    versions q r (inl s, l) (inl t, k) h = absurd (true≢false (sym h ∙ ap (λ z. lt z r.start) (sym (ap (λ z. z.start) s.1)) ∙ ap (lt x) (sym (ap (λ z. z.start) t.1)) ∙ lt-irreflexive x))
    versions q r (inl s, l) (inr t, k) h = absurd (true≢false (sym h ∙ ap (λ z. lt z r.start) (sym (ap (λ z. z.start) s.1)) ∙ lt-asymmetric r.start x (below s.0 r (t, k))))
    versions q r (inr s, l) (inl t, k) h = subst (λ z. Ends (reach m o (Some q)) z.start) t.1 ((here t.0).1 q (s, l))
    versions q r (inr s, l) (inr t, k) h = ordered.versions q r (s, l) (t, k) h

ordered-settle : (o : ObjectId) (m : List Mark) (s : StampParts) (c : Bool) → Ordered o m → settle_of m s ≡ None → Ordered o (Settle s c ∷ m)
unfolding stretched floor_of
ordered-settle o m s c ordered none = record {
  origin = λ r l. ordered.origin r (l.0, alive-fewer m s c r.start none l.1);
  versions = λ q r l k h. ordered.versions q r (l.0, alive-fewer m s c q.start none l.1) (k.0, alive-fewer m s c r.start none k.1) h;
}

-- a living version that a read doesn't see, or sees one below, isn't below the read
not-below-origin : (o : ObjectId) (m : List Mark) (x : TimeParts) (n : Option Seen) → Starts (λ y. (lt y x && alive m y) ≡ true → AtMost n y) o m → (r : Seen) → Living o m r → same_place (place_of n) None ≡ true → lt r.start x ≡ false
not-below-origin o m x None h r l e = not-false (lt r.start x) (λ k. stands-starts (λ y. (lt y x && alive m y) ≡ true → ⊥) o m r h l.0 (and-both (lt r.start x) (alive m r.start) k l.1))
not-below-origin o m x (Some n) h r l e = absurd (false≢true e)

not-below-seen : (o : ObjectId) (m : List Mark) (x : TimeParts) (n : Option Seen) → Standing o m n → Starts (λ y. (lt y x && alive m y) ≡ true → AtMost n y) o m → (q r : Seen) → Living o m q → Living o m r → lt q.start r.start ≡ true →
    same_place (place_of n) (Some q.place) ≡ true → lt r.start x ≡ false
not-below-seen o m x None s h q r k l b e = absurd (false≢true e)
not-below-seen o m x (Some n) s h q r k l b e =
    let same : n ≡ q = one-place o m n q s k.0 (eq-from n.place q.place e) in
    not-false (lt r.start x) (λ u. true≢false (sym b ∙ ap (λ z. lt z.start r.start) (sym same)
    ∙ stands-starts (λ y. (lt y x && alive m y) ≡ true → lt n.start y ≡ false) o m r h l.0 (and-both (lt r.start x) (alive m r.start) u l.1)))

ordered-stretch : (o : ObjectId) (m : List Mark) (a : ObjectId) (x : TimeParts) → Ordered o m → Ordered o (Stretch a x ∷ m)
unfolding stretched settle_of floor_of
ordered-stretch o m a x ordered = record { origin = origin; versions = versions }
  where
    ok : TimeParts → Bool
    ok y = lt y x && alive m y

    at : Standing o m (sees m o x)
    at = standing (λ y. lt y x && alive m y) o m

    most : Starts (λ y. (lt y x && alive m y) ≡ true → AtMost (sees m o x) y) o m
    most = top-all (λ y. lt y x && alive m y) o m

    origin : (r : Seen) → Living o m r → Ends (latest (floor_of m) (if same_object a o && same_place (place_of (sees m o x)) None then top x (stretched m o None) else stretched m o None)) r.start
    origin r l = ends-latest (floor_of m) _ r.start (ends-floor (floor_of m) (stretched m o None) r.start (ordered.origin r l)) (ends-if (same_object a o && same_place (place_of (sees m o x)) None) x r.start (stretched m o None)
        (λ e. not-below-origin o m x (sees m o x) most r l (and-right (same_object a o) _ e)) (ends-read (floor_of m) (stretched m o None) r.start (ordered.origin r l)))

    versions : (q r : Seen) → Living o m q → Living o m r → lt q.start r.start ≡ true →
        Ends (latest (floor_of m) (top q.start (if same_object a o && same_place (place_of (sees m o x)) (Some q.place) then top x (stretched m o (Some q.place)) else stretched m o (Some q.place)))) r.start
    versions q r k l b = ends-latest (floor_of m) _ r.start (ends-floor (floor_of m) (top q.start (stretched m o (Some q.place))) r.start (ordered.versions q r k l b)) (ends-top q.start r.start _ (lt-asymmetric q.start r.start b)
        (ends-if (same_object a o && same_place (place_of (sees m o x)) (Some q.place)) x r.start (stretched m o (Some q.place))
        (λ e. not-below-seen o m x (sees m o x) at most q r k l b (and-right (same_object a o) _ e))
        (ends-rest q.start r.start (stretched m o (Some q.place)) (ends-read (floor_of m) (top q.start (stretched m o (Some q.place))) r.start (ordered.versions q r k l b)))))

ordered-fits : (o : ObjectId) (m : List Mark) (f : Mark) → Fits m f → Distinct m → Ordered o m → Ordered o (f ∷ m)
ordered-fits o m (Put a x v) fits d h = ordered-put o m a x v h d fits.1
ordered-fits o m (Stretch a x) fits d h = ordered-stretch o m a x h
ordered-fits o m (Settle s c) fits d h = ordered-settle o m s c h fits
ordered-fits o m (Floor z) fits d h = absurd fits

pub grown-distinct : (m : List Mark) → Grown m → Distinct m
grown-distinct [] g = tt
grown-distinct (f ∷ m) g = distinct-kept m f g.0 (grown-distinct m g.1)

ordered-none : (o : ObjectId) → Ordered o []
ordered-none o = record { origin = λ r l. absurd l.0; versions = λ q r k l b. absurd k.0 }

grown-ordered : (o : ObjectId) (m : List Mark) → Grown m → Ordered o m
grown-ordered o [] g = ordered-none o
grown-ordered o (f ∷ m) g = ordered-fits o m f g.0 (grown-distinct m g.1) (grown-ordered o m g.1)

-- ---- the law

ends-is : (x e : TimeParts) (r : Option TimeParts) → Ends r x → r ≡ Some e → lt x e ≡ false
ends-is x e r h k = let P : Option TimeParts → Type 0 = λ z. Ends z x in subst P k h

pub above-reaches : (m : List Mark) (o : ObjectId) (x : TimeParts) (v : Value) (q : Seen) (e : TimeParts) → Grown m → write_step m o x v ≡ write.Put → IsVersion o m q → alive m q.start ≡ true → reach m o (Some q) ≡ Some e → lt x e ≡ false
above-reaches m o x v q e g put s live is = ends-is x e (reach m o (Some q)) ((above-all o m x v (grown-ordered o m g) (grown-distinct m g) put).1 q (s, live)) is

pub above-origin : (m : List Mark) (o : ObjectId) (x : TimeParts) (v : Value) (e : TimeParts) → Grown m → write_step m o x v ≡ write.Put → reach m o None ≡ Some e → lt x e ≡ false
above-origin m o x v e g put is = ends-is x e (reach m o None) (above-all o m x v (grown-ordered o m g) (grown-distinct m g) put).0 is
