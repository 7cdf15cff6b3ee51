-- What was given up hides nothing that a reader at or above the floor views.
use Rattle.object_retirement.proofs.Names.{◌≡◌, ◌≢◌, Bool, true, false, List, [], ◌∷◌, refl, sym, ◌∙◌, ap, subst, Option, Some, None, ◌&&◌, ◌||◌, not, ◌⊎◌, inl, inr, true≢false, StampParts, TimeParts, Has, same_stamp, lt, same_stamp-is, same_stamp-of, lt-trans, lt-split, lt-total, ObjectId, Value, Mark, Put, Stretch, Floor, Seen, settle_of, is_alive, is_committed, alive, scan, place_of, same_place, version_count, floor_of, Starts, HasPut, IsVersion, Distinct, Fits, Firm, shows, views, last_firm, retired, MayRetire, Same, Gone, GivenUp, Passes, AtMost, and-both, and-left, and-right, eqb-yes, two-tests, scan-passes, starts-all, top-all, has-map, Standing, standing, stands-has, one-version, settled-kept}
use Rattle.object_retirement.proofs.RetiredLemmas.{starts-has, same-found, settle-kept, floor-kept, stands-kept}
use Rattle.object_history.proofs.AnswerLemmas.{committed}

has-stands : (o : ObjectId) (m : List Mark) (x : TimeParts) (v : Value) → Has (Put o x v) m → (q : Seen) × IsVersion o m q × (q.start ≡ x) × (q.value ≡ v)
has-stands o [] x v j = absurd j
has-stands o (Put a y w ∷ m) x v (inl e) = let p : a ≡ o = cc e in (record { place = version_count o m; start = y; value = w }, inl (p, refl), cc e, cc e)
has-stands o (Put a y w ∷ m) x v (inr j) = let h = has-stands o m x v j in (h.0, inr h.1, h.2, h.3)
has-stands o (_ ∷ m) x v (inl e) = absurd (cc e)
has-stands o (_ ∷ m) x v (inr j) = has-stands o m x v j

has-start : (P : TimeParts → Type 0) (o : ObjectId) (m : List Mark) (x : TimeParts) (v : Value) → P x → Has (Put o x v) m → HasPut P o m
has-start P o [] x v p j = j
has-start P o (Put a y w ∷ m) x v p (inl e) = let q : x ≡ y = cc (sym e) in inl (cc e, subst P q p)
has-start P o (Put a y w ∷ m) x v p (inr j) = inr (has-start P o m x v p j)
has-start P o (_ ∷ m) x v p (inl e) = absurd (cc e)
has-start P o (_ ∷ m) x v p (inr j) = has-start P o m x v p j

is-firm : (u : Option Bool) → u ≡ Some true → is_committed u ≡ true
is-firm u e = ap is_committed e

module _ (m : List Mark) (at : TimeParts) (may : MayRetire m at) (d : Distinct m) where
  -- of each committed version below the mark, one that isn't below it stays
  firm-stays : (o : ObjectId) (y : TimeParts) (v : Value) → Has (Put o y v) m → lt y at ≡ true → settle_of m y.stamp ≡ Some true → (r : Option Seen) → last_firm m at o ≡ r →
      (q : Seen) × (r ≡ Some q) × (lt q.start y ≡ false) × (lt q.start at ≡ true) × (settle_of m q.start.stamp ≡ Some true) × Has (Put o q.start q.value) (retired m at)
  firm-stays o y v j below set None e =
      absurd (starts-has (λ z. (lt z at && is_committed (settle_of m z.stamp)) ≡ true → AtMost None z) o m y v
      (subst (λ r. Starts (λ z. (lt z at && is_committed (settle_of m z.stamp)) ≡ true → AtMost r z) o m) e (top-all (λ z. lt z at && is_committed (settle_of m z.stamp)) o m)) j
      (and-both (lt y at) _ below (is-firm (settle_of m y.stamp) set)))
  firm-stays o y v j below set (Some q) e =
      let ok : TimeParts → Bool = λ z. lt z at && is_committed (settle_of m z.stamp) in
      let passes : (lt q.start at && is_committed (settle_of m q.start.stamp)) ≡ true = subst (Passes (λ z. lt z at && is_committed (settle_of m z.stamp))) e (scan-passes ok o m) in
      let stands : IsVersion o m q = subst (Standing o m) e (standing ok o m) in (
        q,
        refl,
        starts-has (λ z. (lt z at && is_committed (settle_of m z.stamp)) ≡ true → lt q.start z ≡ false) o m y v
            (subst (λ r. Starts (λ z. (lt z at && is_committed (settle_of m z.stamp)) ≡ true → AtMost r z) o m) e (top-all ok o m)) j (and-both (lt y at) _ below (is-firm (settle_of m y.stamp) set)),
        and-left (lt q.start at) _ passes,
        committed (settle_of m q.start.stamp) (and-right (lt q.start at) _ passes),
        stands-kept m at o m q stands ((elim (not (lt q.start at)) as (λ a. (b : Bool) → b ≡ true → (a || b) ≡ true) [ true ↦ λ b h. refl | false ↦ λ b h. h ]) _ (ap (λ r. same_place (place_of r) (Some q.place)) e ∙ eqb-yes q.place q.place refl)),
      )

  -- a version below the mark stays, or is given up
  below-mark : (o : ObjectId) (x : TimeParts) (v : Value) → Has (Put o x v) m → lt x at ≡ true → (u : Option Bool) → settle_of m x.stamp ≡ u → Has (Put o x v) (retired m at) ⊎ Gone (retired m at) o x
  below-mark o x v j below None e = absurd (starts-has (λ z. lt z at ≡ true → settle_of m z.stamp ≢ None) o m x v (may.decided o) j below e)
  below-mark o x v j below (Some false) e = inr (at, floor-kept m at m, below, inl (settle-kept m at m x.stamp ∙ e))
  below-mark o x v j below (Some true) e = go (firm-stays o x v j below e (last_firm m at o) refl) (lt x (firm-stays o x v j below e (last_firm m at o) refl).0.start) refl
    where
      go : (f : (q : Seen) × (last_firm m at o ≡ Some q) × (lt q.start x ≡ false) × (lt q.start at ≡ true) × (settle_of m q.start.stamp ≡ Some true) × Has (Put o q.start q.value) (retired m at)) →
          (b : Bool) → lt x f.0.start ≡ b → Has (Put o x v) (retired m at) ⊎ Gone (retired m at) o x
      go f true l =
          inr (
            at,
            floor-kept m at m,
            below,
            inr (has-start (λ y. (settle_of (retired m at) y.stamp ≡ Some true) × (lt x y ≡ true) × (lt y at ≡ true)) o (retired m at) f.0.start f.0.value
                (settle-kept m at m f.0.start.stamp ∙ f.4, l, f.3) f.5),
          )
      go f false l =
          let same : f.0.start ≡ x = lt-total f.0.start x f.2 l in
          let h = has-stands o m x v j in
          let one : h.0 ≡ f.0 = one-version o m h.0 f.0 d h.1 (subst (Standing o m) f.1 (standing (λ z. lt z at && is_committed (settle_of m z.stamp)) o m)) (h.2 ∙ sym same) in
          inl (subst (λ z. Has (Put o z v) (retired m at)) same (subst (λ z. Has (Put o f.0.start z) (retired m at)) (sym (ap (λ (z : Seen). z.value) one) ∙ h.3) f.5))

  -- what a retirement gives up
  pub given-up : GivenUp (retired m at) m
  given-up o x v j = (elim (lt x at) as (λ b. lt x at ≡ b → Has (Put o x v) (retired m at) ⊎ Gone (retired m at) o x) [ true ↦ λ e. below-mark o x v j e (settle_of m x.stamp) refl | false ↦ λ e. inl (above e (has-stands o m x v j)) ]) refl
    where
      above : lt x at ≡ false → (h : (q : Seen) × IsVersion o m q × (q.start ≡ x) × (q.value ≡ v)) → Has (Put o x v) (retired m at)
      above e h =
          let high : lt h.0.start at ≡ false = subst (λ z. lt z at ≡ false) (sym h.2) e in
          subst (λ z. Has (Put o x z) (retired m at)) h.3 (subst (λ z. Has (Put o z h.0.value) (retired m at)) h.2 (stands-kept m at o m h.0 h.1 (or-first (lt h.0.start at) _ high)))
        where
          or-first : (a b : Bool) → a ≡ false → (not a || b) ≡ true
          or-first true b k = absurd (true≢false k)
          or-first false b k = refl

-- ---- it stays given up

pub put-of : (P : TimeParts → Type 0) (o : ObjectId) (m : List Mark) → HasPut P o m → (y : TimeParts) × (v : Value) × P y × Has (Put o y v) m
put-of P o [] j = absurd j
put-of P o (Put a y w ∷ m) (inl j) = (y, w, j.1, inl (ap (λ z. Put z y w) j.0))
put-of P o (Put a y w ∷ m) (inr j) = let h = put-of P o m j in (h.0, h.1, h.2, inr h.3)
put-of P o (Stretch a y ∷ m) j = let h = put-of P o m j in (h.0, h.1, h.2, inr h.3)
put-of P o (_ ∷ m) j = let h = put-of P o m j in (h.0, h.1, h.2, inr h.3)

pub floor-stays : (m : List Mark) (f : Mark) → Fits m f → floor_of (f ∷ m) ≡ floor_of m
unfolding floor_of
floor-stays m (Floor x) fits = absurd fits
floor-stays m _ fits = refl

put-more : (P : TimeParts → Type 0) (o : ObjectId) (m : List Mark) (f : Mark) → HasPut P o m → HasPut P o (f ∷ m)
put-more P o m (Put a x v) j = inr j
put-more P o m _ j = j

gone-stays : (m : List Mark) (f : Mark) (o : ObjectId) (x : TimeParts) → Fits m f → Gone m o x → Gone (f ∷ m) o x
gone-stays m f o x fits (e, is, l, inl dead) = (e, floor-stays m f fits ∙ is, l, inl (settled-kept m f x.stamp false dead))
gone-stays m f o x fits (e, is, l, inr j) = (
  e,
  floor-stays m f fits ∙ is,
  l,
  inr (put-more _ o m f
      (has-map (λ y. (settle_of m y.stamp ≡ Some true) × (lt x y ≡ true) × (lt y e ≡ true)) (λ y. (settle_of (f ∷ m) y.stamp ≡ Some true) × (lt x y ≡ true) × (lt y e ≡ true)) o m
      (λ y h. (settled-kept m f y.stamp true h.0, h.1, h.2)) j)),
)

-- under each mark that fits
pub given-up-fits : (m old : List Mark) (f : Mark) → Fits m f → GivenUp m old → GivenUp (f ∷ m) old
given-up-fits m old f fits g o x v j = elim (g o x v j) [ inl h ↦ inl (inr h) | inr h ↦ inr (gone-stays m f o x fits h) ]

gone-again : (m : List Mark) (at : TimeParts) → MayRetire m at → Distinct m → (o : ObjectId) (x : TimeParts) → Gone m o x → Gone (retired m at) o x
gone-again m at may d o x (e, is, l, inl dead) = (at, floor-kept m at m, lt-trans x e at l (may.floor e is), inl (settle-kept m at m x.stamp ∙ dead))
gone-again m at may d o x (e, is, l, inr j) =
    let h = put-of (λ y. (settle_of m y.stamp ≡ Some true) × (lt x y ≡ true) × (lt y e ≡ true)) o m j in
    let f = firm-stays m at may d o h.0 h.1 h.3 (lt-trans h.0 e at h.2.2 (may.floor e is)) h.2.0 (last_firm m at o) refl in (
      at,
      floor-kept m at m,
      lt-trans x e at l (may.floor e is),
      inr (has-start (λ y. (settle_of (retired m at) y.stamp ≡ Some true) × (lt x y ≡ true) × (lt y at ≡ true)) o (retired m at) f.0.start f.0.value
          (settle-kept m at m f.0.start.stamp ∙ f.4, lt-split x f.0.start h.0 h.2.1 f.2, f.3) f.5),
    )

-- and under each retirement
pub given-up-again : (m old : List Mark) (at : TimeParts) → MayRetire m at → Distinct m → GivenUp m old → GivenUp (retired m at) old
given-up-again m old at may d g o x v j = elim (g o x v j) [ inl h ↦ given-up m at may d o x v h | inr h ↦ inr (gone-again m at may d o x h) ]

-- ---- OVER ALL VERSIONS THAT EVER WERE, WHAT A READER SAW IN AN OLDER HISTORY IS SEEN STILL

pub record Follows (l all : List Mark) (o : ObjectId) (t : TimeParts) : Type 0 where
  pub distinct : Distinct all
  pub sub : (x : TimeParts) (v : Value) → Has (Put o x v) l → Has (Put o x v) all
  pub settles : (s : StampParts) (c : Bool) → settle_of l s ≡ Some c → settle_of all s ≡ Some c
  -- a version of them stood there, was given up before, or isn't below the reader
  pub given : (x : TimeParts) (v : Value) → Has (Put o x v) all → (Has (Put o x v) l ⊎ Gone l o x) ⊎ (lt x t ≡ false)
  pub floor : (e : TimeParts) → floor_of l ≡ Some e → lt t e ≡ false
  pub own : (x : TimeParts) (v : Value) (e : TimeParts) → Has (Put o x v) all → floor_of l ≡ Some e → lt x e ≡ true → x.stamp ≢ t.stamp

module _ (l all : List Mark) (o : ObjectId) (t : TimeParts) (f : Follows l all o t) where
  alive-before : (x : TimeParts) → (is_alive (settle_of all x.stamp) || same_stamp x.stamp t.stamp) ≡ true → (is_alive (settle_of l x.stamp) || same_stamp x.stamp t.stamp) ≡ true
  alive-before x h = go (settle_of l x.stamp) refl
    where
      go : (u : Option Bool) → settle_of l x.stamp ≡ u → (is_alive u || same_stamp x.stamp t.stamp) ≡ true
      go None e = refl
      go (Some true) e = refl
      go (Some false) e = subst (λ u. (is_alive u || same_stamp x.stamp t.stamp) ≡ true) (f.settles x.stamp false e) h

  or-own : (a b : Bool) → b ≡ true → (a || b) ≡ true
  or-own true b h = refl
  or-own false b h = h

  firm-later : (r : Option Seen) → Firm l t r → Passes (λ x. shows l t x) r → Passes (λ x. shows all t x) r
  firm-later None h p = tt
  firm-later (Some q) (inl own) p = and-both (lt q.start t) _ (and-left (lt q.start t) _ p) (or-own (alive all q.start) _ (same_stamp-of q.start.stamp t.stamp own))
  firm-later (Some q) (inr set) p = and-both (lt q.start t) _ (and-left (lt q.start t) _ p) (subst (λ u. (is_alive u || same_stamp q.start.stamp t.stamp) ≡ true) (sym (f.settles q.start.stamp true set)) refl)

  same-view : Firm l t (views l o t) → scan (λ x. shows all t x) o l ≡ views l o t
  same-view firm =
      two-tests (λ x. shows l t x) (λ x. shows all t x) o l
      (starts-all (λ x. shows all t x ≡ true → shows l t x ≡ true) o l (λ x h. and-both (lt x t) _ (and-left (lt x t) _ h) (alive-before x (and-right (lt x t) _ h))))
      (firm-later (views l o t) firm (scan-passes (λ x. shows l t x) o l))

  hidden : (q : Seen) → (lt q.start t && (alive all q.start || same_stamp q.start.stamp t.stamp)) ≡ true → Has (Put o q.start q.value) all →
      Starts (λ y. shows all t y ≡ true → lt q.start y ≡ false) o all → Gone l o q.start → ⊥
  hidden q p j most (e, is, low, inl dead) =
      f.own q.start q.value e j is low (same_stamp-is q.start.stamp t.stamp
      (subst (λ u. (is_alive u || same_stamp q.start.stamp t.stamp) ≡ true) (f.settles q.start.stamp false dead) (and-right (lt q.start t) _ p)))
  hidden q p j most (e, is, low, inr k) =
      let h = put-of (λ y. (settle_of l y.stamp ≡ Some true) × (lt q.start y ≡ true) × (lt y e ≡ true)) o l k in
      let shown : shows all t h.0 ≡ true =
      and-both (lt h.0 t) _ (lt-split h.0 t e h.2.2 (f.floor e is)) (subst (λ u. (is_alive u || same_stamp h.0.stamp t.stamp) ≡ true) (sym (f.settles h.0.stamp true h.2.0)) refl) in
      true≢false (sym h.2.1 ∙ starts-has (λ y. shows all t y ≡ true → lt q.start y ≡ false) o all h.0 h.1 most (f.sub h.0 h.1 h.3) shown)

  stood : (r : Option Seen) → Standing o all r → Passes (λ x. shows all t x) r → Starts (λ y. shows all t y ≡ true → AtMost r y) o all → (q : Seen) → r ≡ Some q → Has (Put o q.start q.value) l
  stood None s p most q e = absurd (cc e)
  stood (Some r) s p most q e =
      let is : r ≡ q = cc e in
      subst (λ (z : Seen). Has (Put o z.start z.value) l) is
      (elim (f.given r.start r.value (stands-has o all r s)) [ inl h ↦ known h | inr h ↦ absurd (true≢false (sym (and-left (lt r.start t) _ p) ∙ h)) ])
    where
      known : Has (Put o r.start r.value) l ⊎ Gone l o r.start → Has (Put o r.start r.value) l
      known (inl h) = h
      known (inr h) = absurd (hidden r p (stands-has o all r s) most h)

  pub older-view : Firm l t (views l o t) → Same (views l o t) (views all o t)
  older-view firm =
      subst (λ r. Same r (views all o t)) (same-view firm)
      (same-found (λ x. shows all t x) o all l f.distinct f.sub
      (stood (views all o t) (standing (λ x. shows all t x) o all) (scan-passes (λ x. shows all t x) o all) (top-all (λ x. shows all t x) o all)))
