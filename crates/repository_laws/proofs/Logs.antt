-- a repository's log
use Rattle.repository_laws.proofs.Names.{StampParts, TimeParts, ObjectId, Value, Decision, Effect, Put, Stretch, Decide, Learn, Unknown, Decided, or_else, settle_of, floor_of, same_stamp-is, same_stamp-of, Has, same_stamp, unknown-unsettled, FitsLog, IsTidy, IsTimely, grew_keeps, Grew, ◌≡◌, ◌≢◌, ℕ, Bool, true, false, List, [], ◌∷◌, ◌++◌, refl, sym, ◌∙◌, ap, subst, Option, Some, None, if◌then◌else◌, inl, inr, false≢true, Begin, Mark, Whole, new-start, settled-kept, undecided, from-begin, from-decided}
use Rattle.object_history.specs.declared.marks.Mark.TheVariants as mark
use Rattle.object_history.proofs.ViewLemmas.{viewed-kept}
use Rattle.object_history.specs.Views.{Distinct, IsOnFloor, Viewed}
use Rattle.repository_core.specs.Logs.{decision_of, first_begin, is_commit, marks, record_of, as_decision}

-- ----- records -----

begin-if : (b : Bool) (p s : StampParts) (d t : ℕ) (u : Option ℕ) (l : List Effect) → (b ≡ true → p ≡ s) → (u ≡ Some t → Has (Begin s t) l) →
    (if b then or_else u d else u) ≡ Some t → Has (Begin s t) (Begin p d ∷ l)
begin-if false p s d t u l e g h = inr (g h)
begin-if true p s d t None l e g h = let k : d ≡ t = cc h in inl (ap (λ z. Begin z d) (e refl) ∙ ap (λ z. Begin s z) k)
begin-if true p s d t (Some w) l e g h = inr (g h)

begin-stands : (l : List Effect) (s : StampParts) (t : ℕ) → first_begin l s ≡ Some t → Has (Begin s t) l
unfolding first_begin
begin-stands [] s t h = cc h
begin-stands (Begin p d ∷ l) s t h = begin-if (same_stamp p s) p s d t (first_begin l s) l (same_stamp-is p s) (begin-stands l s t) h
begin-stands (f ∷ l) s t h = inr (begin-stands l s t h)

pub unknown-begun : (l : List Effect) (s : StampParts) (t : ℕ) → record_of l s ≡ Some (Unknown t) → Has (Begin s t) l
unknown-begun l s t h = begin-stands l s t (from-begin (first_begin l s) (decision_of l s) t h)

-- ----- tidy logs -----

pub tidy-tail : (r : ℕ) (f : Effect) (l : List Effect) → IsTidy r (f ∷ l) → IsTidy r l
tidy-tail r (Put o x v) l t = t.2
tidy-tail r (Stretch o x) l t = t.1
tidy-tail r (Begin s d) l t = t.1
tidy-tail r (Decide s d) l t = t.2
tidy-tail r (Learn s c) l t = t.2
tidy-tail r (Mark at) l t = t
tidy-tail r Whole l t = t
tidy-tail r f l t = absurd t

-- where an effect belongs
abbrev Homed : ℕ → Effect → Type 0
Homed r (Put o x v) = o.repository ≡ r
Homed r (Stretch o x) = o.repository ≡ r
Homed r (Begin s d) = s.home ≡ r
Homed r (Decide s d) = s.home ≡ r
Homed r (Learn s c) = s.home ≢ r
Homed r (Mark at) = Unit {0}
Homed r Whole = Unit {0}
Homed r _ = ⊥

homed-head : (r : ℕ) (f : Effect) (l : List Effect) → IsTidy r (f ∷ l) → Homed r f
homed-head r (Put o x v) l t = t.0
homed-head r (Stretch o x) l t = t.0
homed-head r (Begin s d) l t = t.0
homed-head r (Decide s d) l t = t.0
homed-head r (Learn s c) l t = t.0
homed-head r (Mark at) l t = tt
homed-head r Whole l t = tt
homed-head r f l t = absurd t

homed : (r : ℕ) (f : Effect) (l : List Effect) → IsTidy r l → Has f l → Homed r f
homed r f [] t h = absurd h
homed r f (g ∷ l) t (inl e) = subst (λ z. Homed r z) e (homed-head r g l t)
homed r f (g ∷ l) t (inr h) = homed r f l (tidy-tail r g l t) h

pub begin-home : (r : ℕ) (l : List Effect) (s : StampParts) (d : ℕ) → IsTidy r l → Has (Begin s d) l → s.home ≡ r
begin-home r l s d t h = homed r (Begin s d) l t h

pub decide-home : (r : ℕ) (l : List Effect) (s : StampParts) (d : Decision) → IsTidy r l → Has (Decide s d) l → s.home ≡ r
decide-home r l s d t h = homed r (Decide s d) l t h

pub learn-home : (r : ℕ) (l : List Effect) (s : StampParts) (c : Bool) → IsTidy r l → Has (Learn s c) l → s.home ≢ r
learn-home r l s c t h = homed r (Learn s c) l t h

-- 4.4
pub tidy-kept : (r : ℕ) (l : List Effect) (f : Effect) → FitsLog r l f → IsTidy r l → IsTidy r (f ∷ l)
tidy-kept r l (Put o x v) k t = (k.0, new-start (marks l) o x v k.1, t)
tidy-kept r l (Stretch o x) k t = (k, t)
tidy-kept r l (Begin s d) k t = (k.0, t)
tidy-kept r l (Decide s d) k t = (k.0, k.1, t)
tidy-kept r l (Learn s c) k t = (k.0, k.1, t)
tidy-kept r l f k t = absurd k

pub tidy-through : (r : ℕ) (l added : List Effect) → Grew (FitsLog r) l added → IsTidy r l → IsTidy r (added ++ l)
tidy-through r l added g t = grew_keeps (FitsLog r) (λ k. IsTidy r k) (λ k f u fit. tidy-kept r k f fit u) l added g t

-- no turn adds a Mark, so the floor stays
floor-log : (r : ℕ) (l : List Effect) (f : Effect) → FitsLog r l f → floor_of (marks (f ∷ l)) ≡ floor_of (marks l)
unfolding floor_of
floor-log r l (Put o x v) k = refl
floor-log r l (Stretch o x) k = refl
floor-log r l (Begin s d) k = refl
floor-log r l (Decide s d) k = refl
floor-log r l (Learn s c) k = refl
floor-log r l f k = absurd k

pub floor-through : (r : ℕ) (l added : List Effect) → Grew (FitsLog r) l added → floor_of (marks (added ++ l)) ≡ floor_of (marks l)
floor-through r l [] g = refl
floor-through r l (f ∷ added) g = floor-log r (added ++ l) f g.1 ∙ floor-through r l added g.0

pub on-floor-log : (r : ℕ) (l : List Effect) (f : Effect) (t : TimeParts) → FitsLog r l f → IsOnFloor (marks l) t → IsOnFloor (marks (f ∷ l)) t
on-floor-log r l f t k h e is = h e (sym (floor-log r l f k) ∙ is)

pub grown-floor : (r : ℕ) (l : List Effect) → Grew (FitsLog r) [] l → floor_of (marks l) ≡ None
unfolding floor_of
grown-floor r [] g = refl
grown-floor r (Put o x v ∷ l) g = grown-floor r l g.0
grown-floor r (Stretch o x ∷ l) g = grown-floor r l g.0
grown-floor r (Begin s d ∷ l) g = grown-floor r l g.0
grown-floor r (Decide s d ∷ l) g = grown-floor r l g.0
grown-floor r (Learn s c ∷ l) g = grown-floor r l g.0
grown-floor r (f ∷ l) g = absurd g.1

pub grown-floors : (r : ℕ) (l : List Effect) (e : TimeParts) → Grew (FitsLog r) [] l → Has (mark.Floor e) (marks l) → ⊥
grown-floors r [] e g h = h
grown-floors r (Put o x v ∷ l) e g (inl q) = absurd (cc q)
grown-floors r (Put o x v ∷ l) e g (inr h) = grown-floors r l e g.0 h
grown-floors r (Stretch o x ∷ l) e g (inl q) = absurd (cc q)
grown-floors r (Stretch o x ∷ l) e g (inr h) = grown-floors r l e g.0 h
grown-floors r (Begin s d ∷ l) e g h = grown-floors r l e g.0 h
grown-floors r (Decide s d ∷ l) e g (inl q) = absurd (cc q)
grown-floors r (Decide s d ∷ l) e g (inr h) = grown-floors r l e g.0 h
grown-floors r (Learn s c ∷ l) e g (inl q) = absurd (cc q)
grown-floors r (Learn s c ∷ l) e g (inr h) = grown-floors r l e g.0 h
grown-floors r (f ∷ l) e g h = absurd g.1

pub tidy-distinct : (r : ℕ) (l : List Effect) → IsTidy r l → Distinct (marks l)
tidy-distinct r [] t = tt
tidy-distinct r (Put o x v ∷ l) t = (t.1, tidy-distinct r l t.2)
tidy-distinct r (f ∷ l) t = tidy-distinct r l (tidy-tail r f l t)

-- what is decided of a stamp of this home is a Decide of the log
decide-if : (b : Bool) (p s : StampParts) (e d : Decision) (u : Option Decision) (l : List Effect) → (b ≡ true → p ≡ s) → (u ≡ Some d → Has (Decide s d) l) →
    (if b then or_else u e else u) ≡ Some d → Has (Decide s d) (Decide p e ∷ l)
decide-if false p s e d u l q g h = inr (g h)
decide-if true p s e d None l q g h = let k : e ≡ d = cc h in inl (ap (λ z. Decide z e) (q refl) ∙ ap (λ z. Decide s z) k)
decide-if true p s e d (Some w) l q g h = inr (g h)

learn-if : (b : Bool) (p s : StampParts) (c : Bool) (d : Decision) (u : Option Decision) (l : List Effect) → (b ≡ true → ⊥) → (u ≡ Some d → Has (Decide s d) l) →
    (if b then or_else u (as_decision c) else u) ≡ Some d → Has (Decide s d) (Learn p c ∷ l)
learn-if false p s c d u l q g h = inr (g h)
learn-if true p s c d u l q g h = absurd (q refl)

decision-stands : (r : ℕ) (l : List Effect) (s : StampParts) (d : Decision) → IsTidy r l → s.home ≡ r → decision_of l s ≡ Some d → Has (Decide s d) l
unfolding decision_of
decision-stands r [] s d t e h = cc h
decision-stands r (Decide p q ∷ l) s d t e h = decide-if (same_stamp p s) p s q d (decision_of l s) l (same_stamp-is p s) (decision-stands r l s d t.2 e) h
decision-stands r (Learn p c ∷ l) s d t e h = learn-if (same_stamp p s) p s c d (decision_of l s) l (λ k. t.0 (ap (λ z. z.home) (same_stamp-is p s k) ∙ e)) (decision-stands r l s d t.2 e) h
decision-stands r (f ∷ l) s d t e h = inr (decision-stands r l s d (tidy-tail r f l t) e h)

pub decided-stands : (r : ℕ) (l : List Effect) (s : StampParts) (d : Decision) → IsTidy r l → s.home ≡ r → record_of l s ≡ Some (Decided d) → Has (Decide s d) l
decided-stands r l s d t e h = decision-stands r l s d t e (from-decided (first_begin l s) (decision_of l s) d h)

-- 4.5
first-if : (b : Bool) (e d : Decision) (u : Option Decision) → b ≡ true → u ≡ None → e ≡ d → (if b then or_else u e else u) ≡ Some d
first-if true e d u q h k = ap (λ z. or_else z e) h ∙ ap (λ z. Some z) k
first-if false e d u q h k = absurd (false≢true q)

stays-if : (b : Bool) (e d : Decision) (u : Option Decision) → u ≡ Some d → (if b then or_else u e else u) ≡ Some d
stays-if true e d u h = ap (λ z. or_else z e) h
stays-if false e d u h = h

pub decide-counts : (r : ℕ) (l : List Effect) (s : StampParts) (d : Decision) → IsTidy r l → Has (Decide s d) l → decision_of l s ≡ Some d
unfolding decision_of
decide-counts r [] s d t h = absurd h
decide-counts r (Decide p e ∷ l) s d t (inl q) =
    let same : p ≡ s = cc q in
    let dec : e ≡ d = cc q in
    first-if (same_stamp p s) e d (decision_of l s) (same_stamp-of p s same) (undecided l s (subst (λ z. settle_of (marks l) z ≡ None) same (unknown-unsettled l p t.1.0 t.1.1))) dec
decide-counts r (Decide p e ∷ l) s d t (inr h) = stays-if (same_stamp p s) e d (decision_of l s) (decide-counts r l s d t.2 h)
decide-counts r (Learn p c ∷ l) s d t (inl q) = absurd (cc q)
decide-counts r (Learn p c ∷ l) s d t (inr h) = stays-if (same_stamp p s) (as_decision c) d (decision_of l s) (decide-counts r l s d t.2 h)
decide-counts r (f ∷ l) s d t (inl q) = absurd (cc q)
decide-counts r (f ∷ l) s d t (inr h) = decide-counts r l s d (tidy-tail r f l t) h

pub decided-once : (r : ℕ) (l : List Effect) (s : StampParts) (d e : Decision) → IsTidy r l → Has (Decide s d) l → Has (Decide s e) l → d ≡ e
decided-once r l s d e t h k = let both : Some d ≡ Some e = sym (decide-counts r l s d t h) ∙ decide-counts r l s e t k in cc

-- what IsTidy says of a Decide that stands in the log, at its tail
pub decide-cause : (r : ℕ) (l : List Effect) (s : StampParts) (d : Decision) → IsTidy r l → Has (Decide s d) l → (t : ℕ) × Has (Begin s t) l × IsTimely t d
decide-cause r [] s d t h = absurd h
decide-cause r (Decide p e ∷ l) s d t (inl q) =
    let same : p ≡ s = cc q in let dec : e ≡ d = cc q in
    (t.1.0, inr (subst (λ z. Has (Begin z t.1.0) l) same (unknown-begun l p t.1.0 t.1.1)), subst (λ z. IsTimely t.1.0 z) dec t.1.2)
decide-cause r (f ∷ l) s d t (inl q) = absurd (cc q)
decide-cause r (f ∷ l) s d t (inr h) = let k = decide-cause r l s d (tidy-tail r f l t) h in (k.0, inr k.1, k.2)

pub learned-elsewhere : (r : ℕ) (l : List Effect) (s : StampParts) (d : Decision) (c : Bool) → IsTidy r l → Has (Decide s d) l → Has (Learn s c) l → ⊥
learned-elsewhere r l s d c t h k = learn-home r l s c t k (decide-home r l s d t h)

-- ----- one more effect -----

pub settled-log : (l : List Effect) (f : Effect) (s : StampParts) (c : Bool) → settle_of (marks l) s ≡ Some c → settle_of (marks (f ∷ l)) s ≡ Some c
unfolding settle_of
settled-log l (Decide p d) s c h = settled-kept (marks l) (mark.Settle p (is_commit d)) s c h
settled-log l (Learn p b) s c h = settled-kept (marks l) (mark.Settle p b) s c h
settled-log l f s c h = h

or-some : (u : Option Bool) (c : Bool) → (w : Bool) × (or_else u c ≡ Some w)
or-some None c = (c, refl)
or-some (Some w) c = (w, refl)

if-some : (b : Bool) (u : Option Bool) (c : Bool) → b ≡ true → (w : Bool) × ((if b then or_else u c else u) ≡ Some w)
if-some true u c h = or-some u c
if-some false u c h = absurd (false≢true h)

pub decide-settles : (l : List Effect) (s : StampParts) (d : Decision) → Has (Decide s d) l → (c : Bool) × (settle_of (marks l) s ≡ Some c)
unfolding settle_of
decide-settles [] s d h = absurd h
decide-settles (Decide p e ∷ l) s d (inl q) = let same : p ≡ s = cc q in if-some (same_stamp p s) (settle_of (marks l) s) (is_commit e) (same_stamp-of p s same)
decide-settles (f ∷ l) s d (inl q) = absurd (cc q)
decide-settles (f ∷ l) s d (inr h) = let k = decide-settles l s d h in (k.0, settled-log l f s k.0 k.1)

pub viewed-log : (r : ℕ) (l : List Effect) (f : Effect) (o : ObjectId) (t : TimeParts) (v : Value) → FitsLog r l f → Viewed (marks l) o t v → Viewed (marks (f ∷ l)) o t v
viewed-log r l (Put a x w) o t v k h = viewed-kept (marks l) (mark.Put a x w) o t v k.1 h
viewed-log r l (Stretch a x) o t v k h = viewed-kept (marks l) (mark.Stretch a x) o t v tt h
viewed-log r l (Begin s d) o t v k h = h
viewed-log r l (Decide s d) o t v k h = viewed-kept (marks l) (mark.Settle s (is_commit d)) o t v (unknown-unsettled l s k.1.0 k.1.1) h
viewed-log r l (Learn s c) o t v k h = viewed-kept (marks l) (mark.Settle s c) o t v k.1 h
viewed-log r l f o t v k h = absurd k

-- a put of the history is a Put of the log
put-of : (a o : ObjectId) (y x : TimeParts) (w v : Value) → mark.Put a y w ≡ mark.Put o x v → Put a y w ≡ Put o x v
put-of a o y x w v q =
    let e : a ≡ o = cc q in let f : y ≡ x = cc q in let g : w ≡ v = cc q in
    ap (λ z. Put z y w) e ∙ ap (λ z. Put o z w) f ∙ ap (λ z. Put o x z) g

pub put-logged : (l : List Effect) (o : ObjectId) (x : TimeParts) (v : Value) → Has (mark.Put o x v) (marks l) → Has (Put o x v) l
put-logged [] o x v h = absurd h
put-logged (Put a y w ∷ l) o x v (inl q) = inl (put-of a o y x w v q)
put-logged (Put a y w ∷ l) o x v (inr h) = inr (put-logged l o x v h)
put-logged (Stretch a y ∷ l) o x v (inl q) = absurd (cc q)
put-logged (Stretch a y ∷ l) o x v (inr h) = inr (put-logged l o x v h)
put-logged (Decide s d ∷ l) o x v (inl q) = absurd (cc q)
put-logged (Decide s d ∷ l) o x v (inr h) = inr (put-logged l o x v h)
put-logged (Learn s c ∷ l) o x v (inl q) = absurd (cc q)
put-logged (Learn s c ∷ l) o x v (inr h) = inr (put-logged l o x v h)
put-logged (Mark at ∷ l) o x v (inl q) = absurd (cc q)
put-logged (Mark at ∷ l) o x v (inr h) = inr (put-logged l o x v h)
put-logged (f ∷ l) o x v h = inr (put-logged l o x v h)
