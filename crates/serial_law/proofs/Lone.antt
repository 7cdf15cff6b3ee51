-- one try: the premises of the second part, and the value lemma
use Rattle.serial_law.proofs.Names.{TimeParts, StampParts, ObjectId, Value, Mark, left_after, Seen, alive, scan, settle_of, shows, views, lt, same_stamp, stamp_lt, Answer, Got, Stored, ToRead, ToWrite, Sees, asks, at, HasValue, Tree, after, Objects, value_at, and-both, and-left, and-right, scan-passes, starts-all, two-tests, top-all, AtMost, Passes, Starts, same_stamp-of, ◌≡◌, ◌+◌, ◌≤◌, ◌<◌, length, Bool, true, false, List, ◌∷◌, ◌++◌, refl, sym, ◌∙◌, ap, subst, Option, Some, None, inl, inr, ◌&&◌, arith, true≢false, or_left, or_right, is_alive, Firm}
use Rattle.serial_law.proofs.Own.{Kinds, Written, NoneWritten, LastWritten, own-map, fronts, longer, same-value, same-read, shorter, widen, front-short}
use Rattle.serial_law.proofs.Puts.{Picked, PutAt, at-most, picked}
use Rattle.serial_law.proofs.Times.{below-stamp, inside, inside-high, inside-low, lt-step, stamp-below}

-- the marks of each object's repository, and which stamps are committed
pub record Lone (t : Tree) (ans : List Answer) (s : StampParts) (marks : ObjectId → List Mark) (sure : StampParts → Bool) : Type 0 where
  pub yes : (o : ObjectId) (x : StampParts) → settle_of (marks o) x ≡ Some true → sure x ≡ true
  pub no : (o : ObjectId) (x : StampParts) → settle_of (marks o) x ≡ Some false → sure x ≡ false
  pub got : (pre post : List Answer) (v : Value) → ans ≡ pre ++ (Got v ∷ post) → (o : ObjectId) × (asks (after t pre) ≡ Some (ToRead o)) × Sees (marks o) o (at s pre) v
  pub wrote : (pre post : List Answer) → ans ≡ pre ++ (Stored ∷ post) → (o : ObjectId) × (w : Value) × (asks (after t pre) ≡ Some (ToWrite o w))
  pub stored : (o : ObjectId) (w : Value) (pre : List Answer) → Written t ans o pre w → PutAt o (at s pre) w (marks o)
  pub puts : (o : ObjectId) (x : TimeParts) (w : Value) → PutAt o x w (marks o) → x.stamp ≡ s → x.step ≤ length ans → (pre : List Answer) × (x.step ≡ length pre + 1) × Written t ans o pre w

-- The map holds the committed puts below the stamp
abbrev pub Holds_below : (ObjectId → List Mark) → (StampParts → Bool) → StampParts → Objects → Type 0
Holds_below marks sure s m = (o : ObjectId) → HasValue (scan (λ x. stamp_lt x.stamp s && sure x.stamp) o (marks o)) (value_at m o)

alive-sure : (u : Option Bool) (c : Bool) → (u ≡ Some false → c ≡ false) → c ≡ true → is_alive u ≡ true
alive-sure None c h k = refl
alive-sure (Some true) c h k = refl
alive-sure (Some false) c h k = absurd (true≢false (sym k ∙ h refl))

both-values : (r : Option Seen) (v w : Value) → HasValue r v → HasValue r w → v ≡ w
both-values None v w h k = h ∙ sym k
both-values (Some q) v w h k = h ∙ sym k

-- a put of the reader that is seen is a line of its transcript
own-line : (t : Tree) (ans : List Answer) (s : StampParts) (marks : ObjectId → List Mark) (sure : StampParts → Bool) → Lone t ans s marks sure →
    (pre y : List Answer) (o : ObjectId) (q : Seen) → ans ≡ pre ++ y → PutAt o q.start q.value (marks o) → q.start.stamp ≡ s →
    lt q.start (at s pre) ≡ true → (p : List Answer) × (q.start.step ≡ length p + 1) × Written t pre o p q.value
own-line t ans s marks sure f pre y o q e j k b =
    let hi : q.start.step < length pre + 1 = inside-high q.start s (length pre + 1) b k in
    let w = f.puts o q.start q.value j k (omega (arith, hi, front-short pre y ans e)) in
    (w.0, w.1, shorter t ans pre y o w.0 q.value e (let st = w.1 in omega (arith, hi, st)) w.2)

own-case : (t : Tree) (ans : List Answer) (s : StampParts) (marks : ObjectId → List Mark) (sure : StampParts → Bool) → Lone t ans s marks sure →
    (pre y : List Answer) (o : ObjectId) (v : Value) → ans ≡ pre ++ y → (r : Option Seen) → HasValue r v → Picked o (marks o) r →
    Passes (λ x. shows (marks o) (at s pre) x) r → Starts (λ x. shows (marks o) (at s pre) x ≡ true → AtMost r x) o (marks o) →
    (p : List Answer) (w : Value) → LastWritten t pre o p w → v ≡ w
unfolding Picked
own-case t ans s marks sure f pre y o v e r val st pas top p w l =
    let shown : shows (marks o) (at s pre) (at s p) ≡ true =
    and-both (lt (at s p) (at s pre)) _ (lt-step s (length p + 1) (length pre + 1) (omega (arith, longer p pre Stored l.0.0.0 l.0.0.1)))
    (or_right (alive (marks o) (at s p)) (same_stamp s s) (same_stamp-of s s refl)) in
    own-end r val st pas (at-most (λ x. shows (marks o) (at s pre) x) o (at s p) w (marks o) r top (f.stored o w p (widen t ans pre y o p w e l.0)) shown)
  where
    own-end : (r : Option Seen) → HasValue r v → Picked o (marks o) r → Passes (λ x. shows (marks o) (at s pre) x) r → AtMost r (at s p) → v ≡ w
    own-end None val st pas am = absurd am
    own-end (Some q) val st pas am =
        let b : lt q.start (at s pre) ≡ true = and-left (lt q.start (at s pre)) _ pas in
        let own : q.start.stamp ≡ s = inside q.start s (length p + 1) (length pre + 1) am b in
        let k = own-line t ans s marks sure f pre y o q e st own b in
        let eq : k.0 ≡ p = fronts k.0 p (Stored ∷ k.2.0.0) (Stored ∷ l.0.0.0) (sym k.2.0.1 ∙ l.0.0.1) (omega (arith, inside-low q.start s (length p + 1) am own, l.1 k.0 q.value k.2, k.1)) in
        val ∙ same-value o q.value w (sym k.2.1 ∙ ap (λ x. asks (after t x)) eq ∙ l.0.1)

-- what is seen and isn't own is the committed put below the stamp
passes-low : (t : Tree) (ans : List Answer) (s : StampParts) (marks : ObjectId → List Mark) (sure : StampParts → Bool) → Lone t ans s marks sure →
    (pre : List Answer) (o : ObjectId) (r : Option Seen) → Firm (marks o) (at s pre) r → Passes (λ x. shows (marks o) (at s pre) x) r →
    ((q : Seen) → r ≡ Some q → q.start.stamp ≡ s → ⊥) → Passes (λ x. stamp_lt x.stamp s && sure x.stamp) r
passes-low t ans s marks sure f pre o None firm pas alien = tt
passes-low t ans s marks sure f pre o (Some q) (inl own) pas alien = absurd (alien q refl own)
passes-low t ans s marks sure f pre o (Some q) (inr set) pas alien =
    and-both (stamp_lt q.start.stamp s) (sure q.start.stamp)
    (below-stamp q.start s (length pre + 1) (and-left (lt q.start (at s pre)) _ pas) (alien q refl)) (f.yes o q.start.stamp set)

not-own : (t : Tree) (ans : List Answer) (s : StampParts) (marks : ObjectId → List Mark) (sure : StampParts → Bool) → Lone t ans s marks sure →
    (pre y : List Answer) (o : ObjectId) → ans ≡ pre ++ y → NoneWritten t pre o → (r : Option Seen) → Picked o (marks o) r →
    Passes (λ x. shows (marks o) (at s pre) x) r → (q : Seen) → r ≡ Some q → q.start.stamp ≡ s → ⊥
unfolding Picked
not-own t ans s marks sure f pre y o e none None st pas q is own = absurd (cc is)
not-own t ans s marks sure f pre y o e none (Some u) st pas q is own =
    let same : u ≡ q = cc is in
    let mine : u.start.stamp ≡ s = ap (λ z. z.start.stamp) same ∙ own in
    let k = own-line t ans s marks sure f pre y o u e st mine (and-left (lt u.start (at s pre)) _ pas) in
    none k.0 u.value k.2

-- the value lemma: an answer is the value that the map before and the own writes give
pub value : (t : Tree) (ans : List Answer) (s : StampParts) (marks : ObjectId → List Mark) (sure : StampParts → Bool) → Lone t ans s marks sure →
    (m : Objects) → Holds_below marks sure s m → (pre post : List Answer) (v : Value) (o : ObjectId) → Kinds t pre → ans ≡ pre ++ (Got v ∷ post) →
    asks (after t pre) ≡ Some (ToRead o) → v ≡ value_at (left_after t pre m) o
value t ans s marks sure f m before pre post v o kinds e asked =
    let g = f.got pre post v e in
    let w : Sees (marks o) o (at s pre) v = subst (λ p. Sees (marks p) p (at s pre) v) (same-read g.0 o (sym g.1 ∙ asked)) g.2 in
    let ok : TimeParts → Bool = λ x. shows (marks o) (at s pre) x in
    let low : TimeParts → Bool = λ x. stamp_lt x.stamp s && sure x.stamp in
    elim (own-map t pre m o kinds) [
      | inl r ↦ own-case t ans s marks sure f pre (Got v ∷ post) o v e (views (marks o) o (at s pre)) (sym w.0) (picked ok o (marks o))
          (scan-passes ok o (marks o)) (top-all ok o (marks o)) r.0 r.1 r.2 ∙ sym r.3
      | inr r ↦
          let same : scan low o (marks o) ≡ views (marks o) o (at s pre) =
          two-tests ok low o (marks o)
          (starts-all (λ x. low x ≡ true → ok x ≡ true) o (marks o) (λ x h.
          and-both (lt x (at s pre)) _
          (stamp-below x s (length pre + 1) (and-left (stamp_lt x.stamp s) _ h))
          (or_left (alive (marks o) x) (same_stamp x.stamp s)
          (alive-sure (settle_of (marks o) x.stamp) (sure x.stamp) (f.no o x.stamp) (and-right (stamp_lt x.stamp s) _ h)))))
          (passes-low t ans s marks sure f pre o (views (marks o) o (at s pre)) w.1 (scan-passes ok o (marks o))
          (not-own t ans s marks sure f pre (Got v ∷ post) o e r.0 (views (marks o) o (at s pre)) (picked ok o (marks o)) (scan-passes ok o (marks o)))) in
          both-values (views (marks o) o (at s pre)) v (value_at m o) (sym w.0) (subst (λ z. HasValue z (value_at m o)) same (before o)) ∙ sym r.1
    ]
