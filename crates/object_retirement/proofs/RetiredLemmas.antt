-- What a reader at or above the mark viewed, it views still once the versions below were given up.
use Rattle.object_retirement.proofs.Names.{◌≡◌, ◌≢◌, ℕ, Bool, true, false, List, [], ◌∷◌, refl, sym, ◌∙◌, ap, subst, Option, Some, None, ◌&&◌, ◌||◌, not, if◌then◌else◌, ◌⊎◌, inl, inr, false≢true, true≢false, StampParts, TimeParts, Has, same_stamp, lt, same_stamp-is, lt-split, lt-total, ObjectId, Value, Mark, Put, Stretch, Settle, Floor, same_object, Seen, or_else, settle_of, is_alive, is_committed, alive, version_count, scan, sees, place_of, same_place, top, stretched, floor_of, read_to, reach, Starts, HasPut, IsVersion, Distinct, shows, views, Covers, Firm, Shut, value_of, Viewed, last_firm, stays_put, kept, retired, MayRetire, Same, NoneOwn, Passes, AtMost, and-both, and-left, and-right, not-false, eq-from, eqb-yes, two-tests, starts-all, scan-passes, top-all, has-map, covers-which, covers-either, covers-first, covers-rest, covers-floor, covers-read, covers-top, Standing, standing, same-scan, stands-starts, stands-has, one-version, one-place}

-- ---- versions of two lists

pub starts-has : (P : TimeParts → Type 0) (o : ObjectId) (m : List Mark) (x : TimeParts) (v : Value) → Starts P o m → Has (Put o x v) m → P x
starts-has P o [] x v h j = absurd j
starts-has P o (Put a y w ∷ m) x v h (inl e) = let p : y ≡ x = cc e in let q : a ≡ o = cc e in subst P p (h.0 q)
starts-has P o (Put a y w ∷ m) x v h (inr j) = starts-has P o m x v h.1 j
starts-has P o (_ ∷ m) x v h (inl e) = absurd (cc e)
starts-has P o (_ ∷ m) x v h (inr j) = starts-has P o m x v h j

apart : (a o : ObjectId) (y x : TimeParts) (u v w : Value) (m : List Mark) → Put a y u ≡ Put o x v → Starts (λ z. z ≢ y) a m → Has (Put o x w) m → ⊥
apart a o y x u v w m e h j =
    let p : y ≡ x = cc e in
    let q : a ≡ o = cc e in
    starts-has (λ z. z ≢ y) o m x w (subst (λ z. Starts (λ i. i ≢ y) z m) q h) j (sym p)

pub one-value : (o : ObjectId) (m : List Mark) (x : TimeParts) (v w : Value) → Distinct m → Has (Put o x v) m → Has (Put o x w) m → v ≡ w
one-value o [] x v w d i j = absurd i
one-value o (Put a y u ∷ m) x v w d (inl e) (inl f) = let p : Put o x v ≡ Put o x w = sym e ∙ f in cc p
one-value o (Put a y u ∷ m) x v w d (inl e) (inr j) = absurd (apart a o y x u v w m e d.0 j)
one-value o (Put a y u ∷ m) x v w d (inr i) (inl f) = absurd (apart a o y x u w v m f d.0 i)
one-value o (Put a y u ∷ m) x v w d (inr i) (inr j) = one-value o m x v w d.1 i j
one-value o (Stretch a y ∷ m) x v w d (inl e) j = absurd (cc e)
one-value o (_ ∷ m) x v w d (inl e) j = absurd (cc e)
one-value o (_ ∷ m) x v w d (inr i) (inl f) = absurd (cc f)
one-value o (_ ∷ m) x v w d (inr i) (inr j) = one-value o m x v w d i j

module _ (ok : TimeParts → Bool) (o : ObjectId) (m k : List Mark) (d : Distinct m) (sub : (x : TimeParts) (v : Value) → Has (Put o x v) k → Has (Put o x v) m) where
  same-end : (r s : Option Seen) → Standing o m r → Passes ok r → Starts (λ y. ok y ≡ true → AtMost r y) o m → ((q : Seen) → r ≡ Some q → Has (Put o q.start q.value) k) →
      Standing o k s → Passes ok s → Starts (λ y. ok y ≡ true → AtMost s y) o k → Same s r
  same-end None None sr pr tr stay ss ps ts = tt
  same-end None (Some p) sr pr tr stay ss ps ts = starts-has (λ y. ok y ≡ true → ⊥) o m p.start p.value tr (sub p.start p.value (stands-has o k p ss)) ps
  same-end (Some q) None sr pr tr stay ss ps ts = starts-has (λ y. ok y ≡ true → ⊥) o k q.start q.value ts (stay q refl) pr
  same-end (Some q) (Some p) sr pr tr stay ss ps ts =
      let in_m : Has (Put o p.start p.value) m = sub p.start p.value (stands-has o k p ss) in
      let high : lt q.start p.start ≡ false = starts-has (λ y. ok y ≡ true → lt q.start y ≡ false) o m p.start p.value tr in_m ps in
      let e : p.start ≡ q.start = lt-total p.start q.start (starts-has (λ y. ok y ≡ true → lt p.start y ≡ false) o k q.start q.value ts (stay q refl) pr) high in
      (e, one-value o m q.start p.value q.value d (subst (λ z. Has (Put o z p.value) m) e in_m) (stands-has o m q sr))

  -- of a list with fewer versions the same is found, if what was found is among them
  pub same-found : ((q : Seen) → scan ok o m ≡ Some q → Has (Put o q.start q.value) k) → Same (scan ok o k) (scan ok o m)
  same-found stay = same-end (scan ok o m) (scan ok o k) (standing ok o m) (scan-passes ok o m) (top-all ok o m) stay (standing ok o k) (scan-passes ok o k) (top-all ok o k)

-- ---- what stays

settle-if : (b : Bool) (f : Mark) (k : List Mark) (s : StampParts) → settle_of (f ∷ k) s ≡ settle_of k s → settle_of (if b then f ∷ k else k) s ≡ settle_of k s
settle-if true f k s h = h
settle-if false f k s h = refl

-- every Settle stays
pub settle-kept : (all : List Mark) (at : TimeParts) (m : List Mark) (s : StampParts) → settle_of (kept all at m) s ≡ settle_of m s
unfolding kept settle_of
settle-kept all at [] s = refl
settle-kept all at (Put o x v ∷ m) s = settle-if (stays_put all at o x (version_count o m)) (Put o x v) (kept all at m) s refl ∙ settle-kept all at m s
settle-kept all at (Stretch o x ∷ m) s = settle-if (lt at x) (Stretch o x) (kept all at m) s refl ∙ settle-kept all at m s
settle-kept all at (Settle p c ∷ m) s = ap (λ u. if same_stamp p s then or_else u c else u) (settle-kept all at m s)
settle-kept all at (Floor x ∷ m) s = settle-kept all at m s

floor-if : (b : Bool) (f : Mark) (k : List Mark) → floor_of (f ∷ k) ≡ floor_of k → floor_of (if b then f ∷ k else k) ≡ floor_of k
floor-if true f k h = h
floor-if false f k h = refl

-- the floor is the mark
pub floor-kept : (all : List Mark) (at : TimeParts) (m : List Mark) → floor_of (kept all at m) ≡ Some at
unfolding kept floor_of
floor-kept all at [] = refl
floor-kept all at (Put o x v ∷ m) = floor-if (stays_put all at o x (version_count o m)) (Put o x v) (kept all at m) refl ∙ floor-kept all at m
floor-kept all at (Stretch o x ∷ m) = floor-if (lt at x) (Stretch o x) (kept all at m) refl ∙ floor-kept all at m
floor-kept all at (_ ∷ m) = floor-kept all at m

sub-if : (b : Bool) (f p : Mark) (k m : List Mark) → (Has p k → Has p m) → Has p (if b then f ∷ k else k) → Has p (f ∷ m)
sub-if true f p k m h (inl e) = inl e
sub-if true f p k m h (inr j) = inr (h j)
sub-if false f p k m h j = inr (h j)

pub sub-kept : (all : List Mark) (at : TimeParts) (m : List Mark) (o : ObjectId) (x : TimeParts) (v : Value) → Has (Put o x v) (kept all at m) → Has (Put o x v) m
unfolding kept
sub-kept all at [] o x v (inl e) = absurd (cc e)
sub-kept all at [] o x v (inr j) = j
sub-kept all at (Put a y w ∷ m) o x v j = sub-if (stays_put all at a y (version_count a m)) (Put a y w) (Put o x v) (kept all at m) m (sub-kept all at m o x v) j
sub-kept all at (Stretch a y ∷ m) o x v j = sub-if (lt at y) (Stretch a y) (Put o x v) (kept all at m) m (sub-kept all at m o x v) j
sub-kept all at (Settle s c ∷ m) o x v (inl e) = inl e
sub-kept all at (Settle s c ∷ m) o x v (inr j) = inr (sub-kept all at m o x v j)
sub-kept all at (Floor y ∷ m) o x v j = inr (sub-kept all at m o x v j)

here-if : (b : Bool) (f p : Mark) (k : List Mark) → b ≡ true → f ≡ p → Has p (if b then f ∷ k else k)
here-if true f p k h e = inl e
here-if false f p k h e = absurd (false≢true h)

there-if : (b : Bool) (f p : Mark) (k : List Mark) → Has p k → Has p (if b then f ∷ k else k)
there-if true f p k j = inr j
there-if false f p k j = j

-- a version that stays
pub stands-kept : (all : List Mark) (at : TimeParts) (o : ObjectId) (m : List Mark) (q : Seen) → IsVersion o m q → stays_put all at o q.start q.place ≡ true → Has (Put o q.start q.value) (kept all at m)
unfolding kept
stands-kept all at o [] q s h = absurd s
stands-kept all at o (Put a x v ∷ m) q (inl s) h =
    let P : Seen → Type 0 = λ z. stays_put all at o z.start z.place ≡ true in
    let here : stays_put all at o x (version_count o m) ≡ true = subst P (sym s.1) h in
    here-if (stays_put all at a x (version_count a m)) (Put a x v) (Put o q.start q.value) (kept all at m)
    (subst (λ z. stays_put all at z x (version_count z m) ≡ true) (sym s.0) here)
    (ap (λ z. Put z x v) s.0 ∙ ap (λ (z : Seen). Put o z.start z.value) s.1)
stands-kept all at o (Put a x v ∷ m) q (inr s) h = there-if (stays_put all at a x (version_count a m)) (Put a x v) (Put o q.start q.value) (kept all at m) (stands-kept all at o m q s h)
stands-kept all at o (Stretch a x ∷ m) q s h = there-if (lt at x) (Stretch a x) (Put o q.start q.value) (kept all at m) (stands-kept all at o m q s h)
stands-kept all at o (Settle t c ∷ m) q s h = inr (stands-kept all at o m q s h)
stands-kept all at o (Floor x ∷ m) q s h = stands-kept all at o m q s h

starts-if : (P : TimeParts → Type 0) (o : ObjectId) (b : Bool) (f : Mark) (k : List Mark) → Starts P o (f ∷ k) → Starts P o k → Starts P o (if b then f ∷ k else k)
starts-if P o true f k h i = h
starts-if P o false f k h i = i

pub starts-kept : (P : TimeParts → Type 0) (o : ObjectId) (all : List Mark) (at : TimeParts) (m : List Mark) → Starts P o m → Starts P o (kept all at m)
unfolding kept
starts-kept P o all at [] h = tt
starts-kept P o all at (Put a x v ∷ m) h = starts-if P o (stays_put all at a x (version_count a m)) (Put a x v) (kept all at m) (h.0, starts-kept P o all at m h.1) (starts-kept P o all at m h.1)
starts-kept P o all at (Stretch a x ∷ m) h = starts-if P o (lt at x) (Stretch a x) (kept all at m) (starts-kept P o all at m h) (starts-kept P o all at m h)
starts-kept P o all at (_ ∷ m) h = starts-kept P o all at m h

distinct-if : (b : Bool) (f : Mark) (k : List Mark) → Distinct (f ∷ k) → Distinct k → Distinct (if b then f ∷ k else k)
distinct-if true f k h i = h
distinct-if false f k h i = i

pub distinct-retired : (all : List Mark) (at : TimeParts) (m : List Mark) → Distinct m → Distinct (kept all at m)
unfolding kept
distinct-retired all at [] d = tt
distinct-retired all at (Put o x v ∷ m) d =
    distinct-if (stays_put all at o x (version_count o m)) (Put o x v) (kept all at m) (starts-kept (λ y. y ≢ x) o all at m d.0, distinct-retired all at m d.1) (distinct-retired all at m d.1)
distinct-retired all at (Stretch o x ∷ m) d = distinct-if (lt at x) (Stretch o x) (kept all at m) (distinct-retired all at m d) (distinct-retired all at m d)
distinct-retired all at (_ ∷ m) d = distinct-retired all at m d

-- ---- A READER AT OR ABOVE THE MARK SEES THE SAME

kept-test : (b c : Bool) → (b ≡ true → c ≡ true) → (not b || c) ≡ true
kept-test true c h = h refl
kept-test false c h = refl

shown-firm : (u : Option Bool) (own : Bool) → (own ≡ true → ⊥) → u ≢ None → (is_alive u || own) ≡ true → is_committed u ≡ true
shown-firm None own n d h = absurd (d refl)
shown-firm (Some true) own n d h = refl
shown-firm (Some false) own n d h = absurd (n h)

firm-shown : (u : Option Bool) (own : Bool) → is_committed u ≡ true → (is_alive u || own) ≡ true
firm-shown None own h = absurd (false≢true h)
firm-shown (Some true) own h = refl
firm-shown (Some false) own h = absurd (false≢true h)

module _ (m : List Mark) (at : TimeParts) (may : MayRetire m at) (d : Distinct m) (o : ObjectId) (t : TimeParts) (above : lt t at ≡ false) (none : NoneOwn m o at t) where
  firm : TimeParts → Bool
  firm x = lt x at && is_committed (settle_of m x.stamp)

  firm-passes : (r : Option Seen) → Standing o m r → Passes (λ x. shows m t x) r → (q : Seen) → r ≡ Some q → lt q.start at ≡ true → Passes (λ x. lt x at && is_committed (settle_of m x.stamp)) r
  firm-passes None s p q e l = tt
  firm-passes (Some r) s p q e l =
      let same : r ≡ q = cc e in
      let below : lt r.start at ≡ true = subst (λ (z : Seen). lt z.start at ≡ true) (sym same) l in
      and-both (lt r.start at) _ below
      (shown-firm (settle_of m r.start.stamp) (same_stamp r.start.stamp t.stamp)
      (λ own. stands-starts (λ x. lt x at ≡ true → x.stamp ≢ t.stamp) o m r none s below (same_stamp-is r.start.stamp t.stamp own))
      (stands-starts (λ x. lt x at ≡ true → settle_of m x.stamp ≢ None) o m r (may.decided o) s below)
      (and-right (lt r.start t) _ p))

  -- what a reader there views stays
  pub view-stays : (q : Seen) → views m o t ≡ Some q → stays_put m at o q.start q.place ≡ true
  view-stays q e = kept-test (lt q.start at) _ (λ below.
      let same : last_firm m at o ≡ views m o t =
      two-tests (λ x. shows m t x) (λ x. lt x at && is_committed (settle_of m x.stamp)) o m
      (starts-all (λ x. (lt x at && is_committed (settle_of m x.stamp)) ≡ true → shows m t x ≡ true) o m
      (λ x h. and-both (lt x t) _ (lt-split x t at (and-left (lt x at) _ h) above) (firm-shown (settle_of m x.stamp) (same_stamp x.stamp t.stamp) (and-right (lt x at) _ h))))
      (firm-passes (views m o t) (standing (λ x. shows m t x) o m) (scan-passes (λ x. shows m t x) o m) q e below) in
      ap (λ r. same_place (place_of r) (Some q.place)) (same ∙ e) ∙ eqb-yes q.place q.place refl)

  views-still : Same (scan (λ x. shows m t x) o (retired m at)) (views m o t)
  views-still =
      same-found (λ x. shows m t x) o m (retired m at) d (sub-kept m at m o)
      (λ q e. stands-kept m at o m q (stood (views m o t) (standing (λ x. shows m t x) o m) q e) (view-stays q e))
    where
      stood : (r : Option Seen) → Standing o m r → (q : Seen) → r ≡ Some q → IsVersion o m q
      stood None s q e = absurd (cc e)
      stood (Some r) s q e = let same : r ≡ q = cc e in subst (IsVersion o m) same s

  same-tests : scan (λ x. shows (retired m at) t x) o (retired m at) ≡ scan (λ x. shows m t x) o (retired m at)
  same-tests =
      same-scan (λ x. shows (retired m at) t x) (λ x. shows m t x) o (retired m at)
      (starts-all (λ x. shows (retired m at) t x ≡ shows m t x) o (retired m at)
      (λ x. ap (λ u. lt x t && (is_alive u || same_stamp x.stamp t.stamp)) (settle-kept m at m x.stamp)))

  pub views-retired : Same (views (retired m at) o t) (views m o t)
  views-retired = subst (λ r. Same r (views m o t)) (sym same-tests) views-still

-- ---- AND WHAT WAS VIEWED THERE STAYS VIEWED

has-if : (P : TimeParts → Type 0) (o : ObjectId) (b : Bool) (f : Mark) (k : List Mark) → HasPut P o k → HasPut P o (f ∷ k) → HasPut P o (if b then f ∷ k else k)
has-if P o true f k h i = i
has-if P o false f k h i = h

-- a version that isn't below the mark stays
has-put-kept : (P : TimeParts → Type 0) (o : ObjectId) (all : List Mark) (at : TimeParts) (m : List Mark) → ((x : TimeParts) → P x → lt x at ≡ false) → HasPut P o m → HasPut P o (kept all at m)
unfolding kept
has-put-kept P o all at [] h j = absurd j
has-put-kept P o all at (Put a x v ∷ m) h (inl j) = either (lt x at) (h x j.1) (same_place (place_of (last_firm all at a)) (Some (version_count a m)))
  where
    either : (b : Bool) → b ≡ false → (c : Bool) → HasPut P o (if not b || c then Put a x v ∷ kept all at m else kept all at m)
    either true e c = absurd (true≢false e)
    either false e c = inl j
has-put-kept P o all at (Put a x v ∷ m) h (inr j) = has-if P o (stays_put all at a x (version_count a m)) (Put a x v) (kept all at m) (has-put-kept P o all at m h j) (inr (has-put-kept P o all at m h j))
has-put-kept P o all at (Stretch a x ∷ m) h j = has-if P o (lt at x) (Stretch a x) (kept all at m) (has-put-kept P o all at m h j) (has-put-kept P o all at m h j)
has-put-kept P o all at (_ ∷ m) h j = has-put-kept P o all at m h j

stands-if : (o : ObjectId) (b : Bool) (f : Mark) (k : List Mark) (q : Seen) → IsVersion o k q → IsVersion o (f ∷ k) q → IsVersion o (if b then f ∷ k else k) q
stands-if o true f k q s i = i
stands-if o false f k q s i = s

-- the same versions of two lists have one place in each
one-end : (o : ObjectId) (m k : List Mark) → Distinct k → (r r2 s s2 : Option Seen) → Standing o m r → Standing o k r2 → Standing o m s → Standing o k s2 → Same r2 r → Same s2 s →
    same_place (place_of s) (place_of r) ≡ true → same_place (place_of s2) (place_of r2) ≡ true
one-end o m k d None None None None a b c e f g h = refl
one-end o m k d None None None (Some z) a b c e f g h = absurd g
one-end o m k d None (Some z) s s2 a b c e f g h = absurd f
one-end o m k d None r2 (Some s) s2 a b c e f g h = absurd (false≢true h)
one-end o m k d (Some r) None s s2 a b c e f g h = absurd f
one-end o m k d (Some r) r2 None s2 a b c e f g h = absurd (false≢true h)
one-end o m k d (Some r) r2 (Some s) None a b c e f g h = absurd g
one-end o m k d (Some r) (Some r2) (Some s) (Some s2) a b c e f g h =
    let one : s2 ≡ r2 = one-version o k s2 r2 d e b (g.0 ∙ ap (λ (z : Seen). z.start) (one-place o m s r c a (eq-from s.place r.place h)) ∙ sym f.0) in
    eqb-yes s2.place r2.place (ap (λ (z : Seen). z.place) one)

lifted : (o : ObjectId) (l m : List Mark) (r : Option Seen) → ((q : Seen) → IsVersion o l q → IsVersion o m q) → Standing o l r → Standing o m r
lifted o l m None up s = tt
lifted o l m (Some q) up s = up q s

covers-cases : (b : Bool) (x t : TimeParts) (e : Option TimeParts) → Covers (if b then top x e else e) t → ((b ≡ true) × (lt x t ≡ false)) ⊎ Covers e t
covers-cases true x t e c = elim (covers-either x e t c) [ inl h ↦ inl (refl, h) | inr h ↦ inr h ]
covers-cases false x t e c = inr c

covers-yes : (b : Bool) (x t : TimeParts) (e : Option TimeParts) → b ≡ true → lt x t ≡ false → Covers (if b then top x e else e) t
covers-yes true x t e h c = covers-first x e t c
covers-yes false x t e h c = absurd (false≢true h)

covers-put : (o : ObjectId) (p : Option ℕ) (b : Bool) (a : ObjectId) (x : TimeParts) (v : Value) (k : List Mark) (t : TimeParts) → Covers (stretched k o p) t → Covers (stretched (if b then Put a x v ∷ k else k) o p) t
unfolding stretched
covers-put o p true a x v k t c = c
covers-put o p false a x v k t c = c

covers-stretch : (o : ObjectId) (p : Option ℕ) (b : Bool) (a : ObjectId) (x : TimeParts) (k : List Mark) (t : TimeParts) → Covers (stretched k o p) t → Covers (stretched (if b then Stretch a x ∷ k else k) o p) t
unfolding stretched
covers-stretch o p true a x k t c = covers-top (same_object a o && same_place (place_of (sees k o x)) p) x t (stretched k o p) c
covers-stretch o p false a x k t c = c

module _ (m : List Mark) (at : TimeParts) (o : ObjectId) (t : TimeParts) (d : Distinct m) (r r2 : Option Seen) (sr : Standing o m r) (sr2 : Standing o (retired m at) r2) (same : Same r2 r)
    (stays : (q : Seen) → r ≡ Some q → stays_put m at o q.start q.place ≡ true) where
  -- what a Stretch fell on, it falls on still
  fell : (l : List Mark) → Distinct l → ((q : Seen) → IsVersion o l q → IsVersion o m q) → ((q : Seen) → IsVersion o (kept m at l) q → IsVersion o (retired m at) q) → (x : TimeParts) →
      same_place (place_of (sees l o x)) (place_of r) ≡ true → same_place (place_of (sees (kept m at l) o x)) (place_of r2) ≡ true
  fell l dl up up2 x h =
      one-end o m (retired m at) (distinct-retired m at m d) r r2 (sees l o x) (sees (kept m at l) o x) sr sr2
      (lifted o l m (sees l o x) up (standing (λ y. lt y x && alive l y) o l))
      (lifted o (kept m at l) (retired m at) (sees (kept m at l) o x) up2 (standing (λ y. lt y x && alive (kept m at l) y) o (kept m at l)))
      same again h
    where
      here : (s : Option Seen) → Standing o l s → same_place (place_of s) (place_of r) ≡ true → (q : Seen) → s ≡ Some q → (w : Option Seen) → r ≡ w → Has (Put o q.start q.value) (kept m at l)
      here None sl k q e w g = absurd (cc e)
      here (Some s) sl k q e None g = absurd (false≢true (subst (λ z. same_place (Some s.place) (place_of z) ≡ true) g k))
      here (Some s) sl k q e (Some w) g =
          let is : s ≡ q = cc e in
          let p : same_place (Some s.place) (Some w.place) ≡ true = subst (λ z. same_place (Some s.place) (place_of z) ≡ true) g k in
          let one : s ≡ w = one-place o m s w (up s sl) (subst (Standing o m) g sr) (eq-from s.place w.place p) in
          stands-kept m at o l q (subst (IsVersion o l) is sl) (subst (λ (z : Seen). stays_put m at o z.start z.place ≡ true) (sym one ∙ is) (stays w g))

      again : Same (sees (kept m at l) o x) (sees l o x)
      again =
          subst (λ z. Same z (sees l o x))
          (sym (same-scan (λ y. lt y x && alive (kept m at l) y) (λ y. lt y x && alive l y) o (kept m at l)
          (starts-all (λ y. (lt y x && alive (kept m at l) y) ≡ (lt y x && alive l y)) o (kept m at l) (λ y. ap (λ u. lt y x && is_alive u) (settle-kept m at l y.stamp)))))
          (same-found (λ y. lt y x && alive l y) o l (kept m at l) dl (sub-kept m at l o) (λ q e. here (sees l o x) (standing (λ y. lt y x && alive l y) o l) h q e r refl))

  -- a Stretch up to t stays, or the mark is at t or above
  stretch-stays : (l : List Mark) → Distinct l → ((q : Seen) → IsVersion o l q → IsVersion o m q) → ((q : Seen) → IsVersion o (kept m at l) q → IsVersion o (retired m at) q) →
      Covers (stretched l o (place_of r)) t → (lt at t ≡ false) ⊎ Covers (stretched (kept m at l) o (place_of r2)) t
  unfolding kept stretched
  stretch-stays [] dl up up2 c = absurd c
  stretch-stays (Put a x v ∷ l) dl up up2 c =
      let b : Bool = stays_put m at a x (version_count a l) in
      elim (stretch-stays l dl.1 (λ q s. up q (inr s)) (λ q s. up2 q (stands-if o b (Put a x v) (kept m at l) q s (inr s))) c) [
        | inl h ↦ inl h
        | inr h ↦ inr (covers-put o (place_of r2) b a x v (kept m at l) t h)
      ]
  stretch-stays (Stretch a x ∷ l) dl up up2 c = elim (covers-cases (same_object a o && same_place (place_of (sees l o x)) (place_of r)) x t (stretched l o (place_of r)) c) [
    | inr h ↦
        elim (stretch-stays l dl up (λ q s. up2 q (stands-if o (lt at x) (Stretch a x) (kept m at l) q s s)) h) [
          | inl k ↦ inl k
          | inr k ↦ inr (covers-stretch o (place_of r2) (lt at x) a x (kept m at l) t k)
        ]
    | inl h ↦ either (lt at x) refl (and-both (same_object a o) _ (and-left (same_object a o) _ h.0) (fell l dl up (λ q s. up2 q (stands-if o (lt at x) (Stretch a x) (kept m at l) q s s)) x (and-right (same_object a o) _ h.0))) h.1
  ]
    where
      either : (b : Bool) → lt at x ≡ b → (same_object a o && same_place (place_of (sees (kept m at l) o x)) (place_of r2)) ≡ true → lt x t ≡ false →
          (lt at t ≡ false) ⊎ Covers (stretched (if b then Stretch a x ∷ kept m at l else kept m at l) o (place_of r2)) t
      either true e k c = inr (covers-yes _ x t (stretched (kept m at l) o (place_of r2)) k c)
      either false e k c = inl (not-false (lt at t) (λ n. true≢false (sym (lt-split at x t n c) ∙ e)))
  stretch-stays (_ ∷ l) dl up up2 c = stretch-stays l dl up up2 c

no-floor : (f : Option TimeParts) (at t : TimeParts) → ((e : TimeParts) → f ≡ Some e → lt e at ≡ true) → lt t at ≡ false → Covers f t → ⊥
no-floor None at t h a c = c
no-floor (Some e) at t h a c = true≢false (sym (lt-split e t at (h e refl) a) ∙ c)

pub same-firm : (m k : List Mark) (t : TimeParts) → ((s : StampParts) → settle_of k s ≡ settle_of m s) → (r r2 : Option Seen) → Same r2 r → Firm m t r → Firm k t r2
same-firm m k t h None None s f = tt
same-firm m k t h None (Some z) s f = absurd s
same-firm m k t h (Some r) None s f = absurd s
same-firm m k t h (Some r) (Some z) s (inl own) = inl (ap (λ (x : TimeParts). x.stamp) s.0 ∙ own)
same-firm m k t h (Some r) (Some z) s (inr set) = inr (ap (λ (x : TimeParts). settle_of k x.stamp) s.0 ∙ h r.start.stamp ∙ set)

pub same-values : (r r2 : Option Seen) → Same r2 r → value_of r2 ≡ value_of r
same-values None None s = refl
same-values None (Some z) s = absurd s
same-values (Some r) None s = absurd s
same-values (Some r) (Some z) s = s.1

read-stretched : (m : List Mark) (o : ObjectId) (t : TimeParts) (r : Option Seen) → Passes (λ x. shows m t x) r → Covers (read_to m o r) t → Covers (stretched m o (place_of r)) t
read-stretched m o t None p c = c
read-stretched m o t (Some q) p c = elim (covers-either q.start (stretched m o (Some q.place)) t c) [ inl h ↦ absurd (true≢false (sym (and-left (lt q.start t) _ p) ∙ h)) | inr h ↦ h ]

stretched-read : (m : List Mark) (o : ObjectId) (t : TimeParts) (r : Option Seen) → Covers (stretched m o (place_of r)) t → Covers (read_to m o r) t
stretched-read m o t None c = c
stretched-read m o t (Some q) c = covers-rest q.start (stretched m o (Some q.place)) t c

pub viewed-retired : (m : List Mark) (at : TimeParts) → MayRetire m at → Distinct m → (o : ObjectId) (t : TimeParts) (v : Value) → lt t at ≡ false → NoneOwn m o at t →
    Viewed m o t v → Viewed (retired m at) o t v
viewed-retired m at may d o t v above none w =
    let same : Same (views (retired m at) o t) (views m o t) = views-retired m at may d o t above none in
    (same-values (views m o t) (views (retired m at) o t) same ∙ w.0, same-firm m (retired m at) t (settle-kept m at m) (views m o t) (views (retired m at) o t) same w.1, shut same w.2)
  where
    k : List Mark
    k = retired m at

    covered : Same (views (retired m at) o t) (views m o t) → (lt at t ≡ false) ⊎ Covers (stretched (retired m at) o (place_of (views (retired m at) o t))) t → Covers (reach (retired m at) o (views (retired m at) o t)) t
    covered same (inl h) = covers-floor (floor_of (retired m at)) _ t (subst (λ f. Covers f t) (sym (floor-kept m at m)) h)
    covered same (inr h) = covers-read (floor_of (retired m at)) _ t (stretched-read (retired m at) o t (views (retired m at) o t) h)

    shut : Same (views (retired m at) o t) (views m o t) → Shut m o t (views m o t) → Shut (retired m at) o t (views (retired m at) o t)
    shut same (inr j) =
        let Q : TimeParts → Type 0 = λ y. (settle_of m y.stamp ≡ Some true) × (lt y t ≡ false) in
        inr (has-map2 (has-put-kept Q o m at m (λ y c. not-false (lt y at) (λ n. true≢false (sym (lt-split y t at n above) ∙ c.1))) j))
      where
        has-map2 : HasPut (λ y. (settle_of m y.stamp ≡ Some true) × (lt y t ≡ false)) o (retired m at) → HasPut (λ y. (settle_of (retired m at) y.stamp ≡ Some true) × (lt y t ≡ false)) o (retired m at)
        has-map2 h = has-map (λ y. (settle_of m y.stamp ≡ Some true) × (lt y t ≡ false)) (λ y. (settle_of (retired m at) y.stamp ≡ Some true) × (lt y t ≡ false)) o (retired m at) (λ y c. (settle-kept m at m y.stamp ∙ c.0, c.1)) h
    shut same (inl c) = elim (covers-which (floor_of m) (read_to m o (views m o t)) t c) [
      | inl f ↦ absurd (no-floor (floor_of m) at t may.floor above f)
      | inr g ↦
          inl (covered same (stretch-stays m at o t d (views m o t) (views (retired m at) o t) (standing (λ x. shows m t x) o m) (standing (λ x. shows (retired m at) t x) o (retired m at)) same
          (view-stays m at may d o t above none) m d (λ q s. s) (λ q s. s) (read-stretched m o t (views m o t) (scan-passes (λ x. shows m t x) o m) g)))
    ]
