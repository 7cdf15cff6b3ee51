-- What was seen stays seen under each mark that fits.
use Rattle.object_history.proofs.Names.{StampParts, TimeParts, ObjectId, Value, Mark, Put, Stretch, Settle, Floor, same_stamp, lt, same_object, version_count, Seen, or_else, settle_of, is_alive, alive, starts_above, pick, scan, newest, reach, Starts, HasPut, shows, views, Covers, Firm, Shut, Fits, same_stamp-is, lt-trans, lt-split, lt-fall, write_reach, write_newest, write_step, stands_written, WriteStep, ◌≡◌, Bool, true, false, List, [], ◌∷◌, refl, sym, ◌∙◌, ap, subst, Option, Some, None, ◌&&◌, ◌||◌, not, if◌then◌else◌, inl, inr, false≢true, true≢false, same_stamp-of, between}
use Rattle.object_history.proofs.Words.{Passes, Ends, Low}
use Rattle.object_history.proofs.BoolLemmas.{and-both, and-left}
use Rattle.object_history.proofs.ObjectLemmas.{same_object-is, same_object-of}
use Rattle.object_history.specs.declared.steps.WriteStep.TheVariants as write
use Rattle.object_history.proofs.TestLemmas.{two-tests}

pub starts-all : (P : TimeParts → Type 0) (o : ObjectId) (m : List Mark) → ((x : TimeParts) → P x) → Starts P o m
starts-all P o [] h = tt
starts-all P o (Put a x v ∷ m) h = (λ e. h x, starts-all P o m h)
starts-all P o (Stretch a x ∷ m) h = starts-all P o m h
starts-all P o (Settle s c ∷ m) h = starts-all P o m h
starts-all P o (Floor z ∷ m) h = starts-all P o m h

pub starts-map : (P Q : TimeParts → Type 0) (o : ObjectId) (m : List Mark) → ((x : TimeParts) → P x → Q x) → Starts P o m → Starts Q o m
starts-map P Q o [] h k = tt
starts-map P Q o (Put a x v ∷ m) h k = (λ e. h x (k.0 e), starts-map P Q o m h k.1)
starts-map P Q o (Stretch a x ∷ m) h k = starts-map P Q o m h k
starts-map P Q o (Settle s c ∷ m) h k = starts-map P Q o m h k
starts-map P Q o (Floor z ∷ m) h k = starts-map P Q o m h k

pub meets : (P Q : TimeParts → Type 0) (o : ObjectId) (m : List Mark) → ((x : TimeParts) → P x → Q x → ⊥) → Starts P o m → HasPut Q o m → ⊥
meets P Q o [] h k j = j
meets P Q o (Put a x v ∷ m) h k (inl j) = h x (k.0 j.0) j.1
meets P Q o (Put a x v ∷ m) h k (inr j) = meets P Q o m h k.1 j
meets P Q o (Stretch a x ∷ m) h k j = meets P Q o m h k j
meets P Q o (Settle s c ∷ m) h k j = meets P Q o m h k j
meets P Q o (Floor z ∷ m) h k j = meets P Q o m h k j

-- what is picked passes its test
picked : (ok : TimeParts → Bool) (b c e : Bool) (s : Seen) (r : Option Seen) → b ≡ ok s.start → Passes ok r →
    Passes ok (if (e && b) && not c then Some s else r)
picked ok true false true s r h k = sym h
picked ok true true true s r h k = k
picked ok false c true s r h k = k
picked ok b c false s r h k = k

pub scan-passes : (ok : TimeParts → Bool) (o : ObjectId) (m : List Mark) → Passes ok (scan ok o m)
unfolding scan pick
scan-passes ok o [] = tt
scan-passes ok o (Put a x v ∷ m) =
    picked ok (ok x) (starts_above (scan ok o m) x) (same_object a o) (record { place = version_count o m; start = x; value = v }) (scan ok o m) refl (scan-passes ok o m)
scan-passes ok o (Stretch a x ∷ m) = scan-passes ok o m
scan-passes ok o (Settle s c ∷ m) = scan-passes ok o m
scan-passes ok o (Floor z ∷ m) = scan-passes ok o m

-- every put that passes is below x, if the picked one is
low-one : (b : Bool) (c : Bool) (s : Seen) (r : Option Seen) (x : TimeParts) → starts_above r s.start ≡ c →
    Low (if b && not c then Some s else r) x → (b ≡ true → lt s.start x ≡ true) × Low r x
low-one true true s (Some q) x h k = (λ e. lt-trans s.start q.start x h k, k)
low-one true true s None x h k = absurd (false≢true h)
low-one true false s None x h k = (λ e. k, tt)
low-one true false s (Some q) x h k = (λ e. k, lt-fall s.start q.start x h k)
low-one false c s r x h k = (λ e. absurd (false≢true e), k)

pub low-all : (ok : TimeParts → Bool) (o : ObjectId) (m : List Mark) (x : TimeParts) → Low (scan ok o m) x →
    Starts (λ y. ok y ≡ true → lt y x ≡ true) o m
unfolding scan pick
low-all ok o [] x k = tt
low-all ok o (Put a y v ∷ m) x k =
    let both = low-one (same_object a o && ok y) (starts_above (scan ok o m) y) (record { place = version_count o m; start = y; value = v }) (scan ok o m) x refl k in
    (λ e h. both.0 (and-both (same_object a o) (ok y) (same_object-of a o e) h), low-all ok o m x both.1)
low-all ok o (Stretch a y ∷ m) x k = low-all ok o m x k
low-all ok o (Settle s c ∷ m) x k = low-all ok o m x k
low-all ok o (Floor z ∷ m) x k = low-all ok o m x k

-- a settle makes no put alive
fewer : (b c : Bool) (u : Option Bool) → (b ≡ true → u ≡ None) → is_alive (if b then or_else u c else u) ≡ true → is_alive u ≡ true
fewer true c None h k = refl
fewer true c (Some d) h k = let e : Some d ≡ None = h refl in absurd (cc e)
fewer false c u h k = k

stays : (b c d : Bool) (u : Option Bool) → u ≡ Some d → (if b then or_else u c else u) ≡ Some d
stays true c d None h = let e : None ≡ Some d = h in absurd (cc e)
stays true c d (Some w) h = h
stays false c d u h = h

pub settled-stays : (m : List Mark) (s y : StampParts) (c d : Bool) → settle_of m y ≡ Some d → settle_of (Settle s c ∷ m) y ≡ Some d
unfolding settle_of
settled-stays m s y c d h = stays (same_stamp s y) c d (settle_of m y) h

pub alive-fewer : (m : List Mark) (s : StampParts) (c : Bool) (x : TimeParts) → settle_of m s ≡ None →
    alive (Settle s c ∷ m) x ≡ true → alive m x ≡ true
unfolding settle_of
alive-fewer m s c x h k =
    fewer (same_stamp s x.stamp) c (settle_of m x.stamp) (λ e. sym (ap (λ y. settle_of m y) (same_stamp-is s x.stamp e)) ∙ h) k

shown-fewer : (a p p' q : Bool) → (p ≡ true → p' ≡ true) → (a && (p || q)) ≡ true → (a && (p' || q)) ≡ true
shown-fewer true true p' q h k = rw (h refl) refl
shown-fewer true false true q h k = refl
shown-fewer true false false q h k = k
shown-fewer false p p' q h k = k

shown-own : (a p q : Bool) → a ≡ true → q ≡ true → (a && (p || q)) ≡ true
shown-own a true q h k = and-both a true h refl
shown-own a false q h k = and-both a q h k

shown-alive : (a p q : Bool) → a ≡ true → p ≡ true → (a && (p || q)) ≡ true
shown-alive a true q h k = and-both a true h refl
shown-alive a false q h k = absurd (false≢true k)

-- what the view shows passes the new test
still : (m : List Mark) (s : StampParts) (c : Bool) (t : TimeParts) (r : Option Seen) → settle_of m s ≡ None → Firm m t r →
    Passes (λ x. shows m t x) r → Passes (λ x. shows (Settle s c ∷ m) t x) r
still m s c t None h f p = tt
still m s c t (Some q) h (inl own) p =
    shown-own (lt q.start t) (alive (Settle s c ∷ m) q.start) (same_stamp q.start.stamp t.stamp)
    (and-left (lt q.start t) _ p) (same_stamp-of q.start.stamp t.stamp own)
still m s c t (Some q) h (inr set) p =
    shown-alive (lt q.start t) (alive (Settle s c ∷ m) q.start) (same_stamp q.start.stamp t.stamp)
    (and-left (lt q.start t) _ p) (ap (λ u. is_alive u) (settled-stays m s q.start.stamp c true set))

view-settle : (m : List Mark) (s : StampParts) (c : Bool) (o : ObjectId) (t : TimeParts) → settle_of m s ≡ None → Firm m t (views m o t) →
    views (Settle s c ∷ m) o t ≡ views m o t
unfolding scan
view-settle m s c o t h f =
    two-tests (λ x. shows m t x) (λ x. shows (Settle s c ∷ m) t x) o m
    (starts-all _ o m (λ x. shown-fewer (lt x t) (alive (Settle s c ∷ m) x) (alive m x) (same_stamp x.stamp t.stamp) (alive-fewer m s c x h)))
    (still m s c t (views m o t) h f (scan-passes (λ x. shows m t x) o m))

pub clash-lt : (e x t : TimeParts) → lt e t ≡ false → lt x t ≡ true → lt x e ≡ true
clash-lt e x t c h = lt-split x e t h c

clash : (e : Option TimeParts) (x t : TimeParts) → Covers e t → Ends e x → lt x t ≡ true → ⊥
clash None x t c d h = c
clash (Some e) x t c d h = true≢false (sym (clash-lt e x t c h) ∙ d)

-- the seen version is alive, where an accepted write lies above it and below t
seen-alive : (m : List Mark) (x t : TimeParts) (r : Option Seen) → settle_of m x.stamp ≡ None → Firm m t r →
    starts_above r x ≡ false → lt x t ≡ true → Passes (λ y. alive m y) r
seen-alive m x t None u f n k = tt
seen-alive m x t (Some q) u (inl own) n k =
    ap (λ w. is_alive w) (sym (ap (λ y. settle_of m y) (between q.start x t own n k)) ∙ u)
seen-alive m x t (Some q) u (inr set) n k = ap (λ w. is_alive w) set

no-write-end : (m : List Mark) (o : ObjectId) (x t : TimeParts) (r : Option Seen) → lt x t ≡ true →
    Starts (λ y. alive m y ≡ true → lt y x ≡ true) o m → Ends (reach m o r) x → Shut m o t r → ⊥
no-write-end m o x t r k below ends (inl c) = clash (reach m o r) x t c ends k
no-write-end m o x t r k below ends (inr j) =
    meets (λ y. alive m y ≡ true → lt y x ≡ true) (λ y. (settle_of m y.stamp ≡ Some true) × (lt y t ≡ false)) o m
    (λ y h w. true≢false (sym (lt-trans y x t (h (ap (λ u. is_alive u) w.0)) k) ∙ w.1)) below j

no-write : (m : List Mark) (o : ObjectId) (x t : TimeParts) → settle_of m x.stamp ≡ None → Low (newest m o) x →
    Ends (reach m o (newest m o)) x → Firm m t (views m o t) → Shut m o t (views m o t) →
    starts_above (views m o t) x ≡ false → lt x t ≡ true → ⊥
no-write m o x t u low ends firm shut n k =
    let below : Starts (λ y. alive m y ≡ true → lt y x ≡ true) o m = low-all (λ y. alive m y) o m x low in
    let same : newest m o ≡ views m o t =
    two-tests (λ y. shows m t y) (λ y. alive m y) o m
    (starts-map (λ y. alive m y ≡ true → lt y x ≡ true) (λ y. alive m y ≡ true → shows m t y ≡ true) o m
    (λ y h a. shown-alive (lt y t) (alive m y) (same_stamp y.stamp t.stamp) (lt-trans y x t (h a) k) a) below)
    (seen-alive m x t (views m o t) u firm n k) in
    let P : Option Seen → Type 0 = λ r. Ends (reach m o r) x in
    no-write-end m o x t (views m o t) k below (subst P same ends) shut

pub kept-choice : (e b c : Bool) (s r : Option Seen) → (e ≡ true → b ≡ true → c ≡ false → ⊥) → (if (e && b) && not c then s else r) ≡ r
kept-choice true true true s r h = refl
kept-choice true true false s r h = absurd (h refl refl refl)
kept-choice true false c s r h = refl
kept-choice false b c s r h = refl

-- what an accepted write says
reach-put : (x : TimeParts) (b : Bool) (e : TimeParts) → lt x e ≡ b → (if b then write.LaterRead e else write.Put) ≡ write.Put → lt x e ≡ false
reach-put x true e h k = absurd (cc k)
reach-put x false e h k = h

ends-put : (x : TimeParts) (e : Option TimeParts) → write_reach x e ≡ write.Put → Ends e x
ends-put x None h = tt
ends-put x (Some e) h = reach-put x (lt x e) e refl h

newest-put : (x : TimeParts) (b : Bool) (q : Seen) (e : Option TimeParts) → lt q.start x ≡ b →
    (if b then write_reach x e else write.LaterVersion q.start) ≡ write.Put → (lt q.start x ≡ true) × Ends e x
newest-put x true q e h k = (h, ends-put x e k)
newest-put x false q e h k = absurd (cc k)

low-put : (x : TimeParts) (r : Option Seen) (e : Option TimeParts) → write_newest x r e ≡ write.Put → Low r x × Ends e x
low-put x None e h = (tt, ends-put x e h)
low-put x (Some q) e h = newest-put x (lt q.start x) q e refl h

step-put : (b : Bool) (w : WriteStep) → (if b then write.Again else w) ≡ write.Put → w ≡ write.Put
step-put true w h = absurd (cc h)
step-put false w h = h

pub put-says : (m : List Mark) (o : ObjectId) (x : TimeParts) (v : Value) → write_step m o x v ≡ write.Put →
    Low (newest m o) x × Ends (reach m o (newest m o)) x
put-says m o x v h = low-put x (newest m o) (reach m o (newest m o)) (step-put (stands_written m o x v) _ h)

view-put : (m : List Mark) (a : ObjectId) (x : TimeParts) (v : Value) (o : ObjectId) (t : TimeParts) → Fits m (Put a x v) → Firm m t (views m o t) →
    Shut m o t (views m o t) → views (Put a x v ∷ m) o t ≡ views m o t
unfolding scan pick settle_of
view-put m a x v o t fits firm shut =
    kept-choice (same_object a o) (shows m t x) (starts_above (views m o t) x) (Some (record { place = version_count o m; start = x; value = v })) (views m o t)
    (λ e h n. let P : ObjectId → Type 0 = λ y. Low (newest m y) x × Ends (reach m y (newest m y)) x in
    let w : P o = subst P (same_object-is a o e) (put-says m a x v fits.1) in
    no-write m o x t fits.0 w.0 w.1 firm shut n (and-left (lt x t) _ h))

-- one fitting mark leaves what an answered read saw
pub view-kept : (m : List Mark) (f : Mark) (o : ObjectId) (t : TimeParts) → Fits m f → Firm m t (views m o t) →
    Shut m o t (views m o t) → views (f ∷ m) o t ≡ views m o t
unfolding scan settle_of
view-kept m (Put a x v) o t fits firm shut = view-put m a x v o t fits firm shut
view-kept m (Stretch a x) o t fits firm shut = refl
view-kept m (Settle s c) o t fits firm shut = view-settle m s c o t fits firm
view-kept m (Floor z) o t fits firm shut = absurd fits
