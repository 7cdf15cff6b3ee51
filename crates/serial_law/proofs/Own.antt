-- A script's own map: what it wrote last to an object, or what was there before.
use Rattle.serial_law.proofs.Names.{ObjectId, Value, Nothing, same_object, Answer, Got, Request, Stored, ToRead, ToWrite, asks, Ends, Reads, Says, Tree, Writes, after, left_after, Objects, object_cmp, value_at, same_object-is, same_object-of, ◌≡◌, ◌≤◌, ◌<◌, length, Bool, true, false, List, [], ◌∷◌, ◌++◌, refl, sym, ◌∙◌, ap, subst, Option, Some, None, ◌⊎◌, inl, inr, arith, if◌then◌else◌, cond, false≢true, is_eq, unwrap_or}
use Rattle.value_form.proofs.ObjectLemmas.{object_cmp-total}
use Rattle.std.specs.FinMap as finite

-- what a map holds after a write
in_map : (b : Bool) (v : Value) (r : Option Value) → unwrap_or (cond b (Some v) r) Nothing ≡ (if b then v else unwrap_or r Nothing)
in_map true v r = refl
in_map false v r = refl

pub value-insert : (m : Objects) (o p : ObjectId) (v : Value) → value_at (finite.insert m o v) p ≡ (if same_object p o then v else value_at m p)
unfolding same_object
value-insert m o p v = ap (λ r. unwrap_or r Nothing) (finite.get-insert object_cmp-total m o v p) ∙ in_map (is_eq (object_cmp p o)) v (finite.get m p)

-- each answer is of the kind that its request asks for
abbrev pub Kinds : Tree → List Answer → Type 0
Kinds (Ends e) (a ∷ ans) = ⊥
Kinds (Says v t) ans = Kinds t ans
Kinds (Reads o k) (Got v ∷ ans) = Kinds (k v) ans
Kinds (Reads o k) (Stored ∷ ans) = ⊥
Kinds _ [] = Unit {0}
Kinds (Writes o v t) (Stored ∷ ans) = Kinds t ans
Kinds (Writes o v t) (Got w ∷ ans) = ⊥

abbrev pub Kind_fits : Option Request → Answer → Type 0
Kind_fits None a = ⊥
Kind_fits (Some (ToRead o)) (Got v) = Unit {0}
Kind_fits (Some (ToRead o)) Stored = ⊥
Kind_fits (Some (ToWrite o v)) Stored = Unit {0}
Kind_fits (Some (ToWrite o v)) (Got w) = ⊥

-- the answers have a Stored after `pre`, for a write of w to o
abbrev pub Written : Tree → List Answer → ObjectId → List Answer → Value → Type 0
Written t ans o pre w = ((post : List Answer) × (ans ≡ pre ++ (Stored ∷ post))) × (asks (after t pre) ≡ Some (ToWrite o w))

abbrev pub NoneWritten : Tree → List Answer → ObjectId → Type 0
NoneWritten t ans o = (pre : List Answer) (w : Value) → Written t ans o pre w → ⊥

abbrev pub LastWritten : Tree → List Answer → ObjectId → List Answer → Value → Type 0
LastWritten t ans o pre w = Written t ans o pre w × ((q : List Answer) (u : Value) → Written t ans o q u → length q ≤ length pre)

pub no-split : (pre post : List Answer) (a : Answer) → [] ≡ pre ++ (a ∷ post) → ⊥
no-split [] post a e = cc e
no-split (x ∷ pre) post a e = cc e

unfoldable pub tail_of : List Answer → List Answer
tail_of [] = []
tail_of (a ∷ ans) = ans

unfoldable pub head_of : List Answer → Answer
head_of [] = Stored
head_of (a ∷ ans) = a

unfoldable got_of : List Answer → Value
got_of [] = Nothing
got_of (Got v ∷ ans) = v
got_of (Stored ∷ ans) = Nothing

-- a write after an answered read is a write of what follows
read-tail : (p : ObjectId) (v : Value) (k : Value → Tree) (ans : List Answer) (o : ObjectId) (pre : List Answer) (w : Value) →
    Written (Reads p k) (Got v ∷ ans) o pre w → (q : List Answer) × (length q ≤ length pre) × (pre ≡ Got v ∷ q) × Written (k v) ans o q w
unfolding tail_of got_of
read-tail p v k ans o [] w h = absurd (cc (h.0.1))
read-tail p v k ans o (Stored ∷ q) w h = absurd (cc (h.0.1))
read-tail p v k ans o (Got u ∷ q) w h =
    let e : v ≡ u = ap (λ xs. got_of xs) h.0.1 in
    let P : Value → Type 0 = λ x. asks (after (k x) q) ≡ Some (ToWrite o w) in
    (q, omega arith, ap (λ x. Got x ∷ q) (sym e), ((h.0.0, ap (λ xs. tail_of xs) h.0.1), subst P (sym e) h.1))

write-tail : (p : ObjectId) (v : Value) (t : Tree) (ans : List Answer) (o : ObjectId) (x : Answer) (q : List Answer) (w : Value) →
    Written (Writes p v t) (Stored ∷ ans) o (x ∷ q) w → Written t ans o q w
unfolding tail_of
write-tail p v t ans o (Got u) q w h = absurd (cc (h.0.1))
write-tail p v t ans o Stored q w h = ((h.0.0, ap (λ xs. tail_of xs) h.0.1), h.1)

same-target : (o p : ObjectId) (v w : Value) → Some (ToWrite p v) ≡ Some (ToWrite o w) → p ≡ o
same-target o p v w e = cc e

at-write : (b : Bool) (p : ObjectId) (v : Value) (t : Tree) (ans : List Answer) (m : Objects) (o : ObjectId) → same_object o p ≡ b →
    value_at (left_after t ans (finite.insert m p v)) o ≡ (if b then v else value_at m o) → NoneWritten t ans o →
    ((pre : List Answer) × (w : Value) × LastWritten (Writes p v t) (Stored ∷ ans) o pre w × (value_at (left_after t ans (finite.insert m p v)) o ≡ w))
    ⊎ (NoneWritten (Writes p v t) (Stored ∷ ans) o × (value_at (left_after t ans (finite.insert m p v)) o ≡ value_at m o))
at-write true p v t ans m o e l none =
    inl (
      [],
      v,
      (
        ((ans, refl), ap (λ x. Some (ToWrite x v)) (sym (same_object-is o p e))),
        λ q u h. (elim q as (λ q. (u : Value) → Written (Writes p v t) (Stored ∷ ans) o q u → length q ≤ 0) [ [] ↦ λ u h. omega arith | x ∷ q ↦ λ u h. absurd (none q u (write-tail p v t ans o x q u h)) ]) u h,
      ),
      l,
    )
at-write false p v t ans m o e l none =
    inr ((λ q u h. neither q u h), l)
  where
    neither : (q : List Answer) (u : Value) → Written (Writes p v t) (Stored ∷ ans) o q u → ⊥
    neither [] u h = false≢true (sym e ∙ same_object-of o p (sym (same-target o p v u h.1)))
    neither (x ∷ q) u h = none q u (write-tail p v t ans o x q u h)

later : (p : ObjectId) (v : Value) (t : Tree) (ans : List Answer) (o : ObjectId) (pre : List Answer) →
    ((q : List Answer) (u : Value) → Written t ans o q u → length q ≤ length pre) →
    (q : List Answer) (u : Value) → Written (Writes p v t) (Stored ∷ ans) o q u → length q ≤ length (Stored ∷ pre)
later p v t ans o pre h [] u w = omega arith
later p v t ans o pre h (x ∷ q) u w = let n = h q u (write-tail p v t ans o x q u w) in omega (arith, n)

-- the own map at an object is the last own write, or the map before
pub own-map : (t : Tree) (ans : List Answer) (m : Objects) (o : ObjectId) → Kinds t ans →
    ((pre : List Answer) × (w : Value) × LastWritten t ans o pre w × (value_at (left_after t ans m) o ≡ w))
    ⊎ (NoneWritten t ans o × (value_at (left_after t ans m) o ≡ value_at m o))
own-map (Ends e) ans m o h = inr ((λ q u w. cc (w.1)), refl)
own-map (Says v t) ans m o h = own-map t ans m o h
own-map (Reads p k) (Got v ∷ ans) m o h =
    elim (own-map (k v) ans m o h) [
      | inl r ↦ inl (
        Got v ∷ r.0,
        r.1,
        (((r.2.0.0.0, ap (λ xs. Got v ∷ xs) r.2.0.0.1), r.2.0.1), λ q u w. let s = read-tail p v k ans o q u w in let n = r.2.1 s.0 u s.3 in rw s.2 (omega (arith, n))),
        r.3,
      )
      | inr r ↦ inr ((λ q u w. let s = read-tail p v k ans o q u w in r.0 s.0 u s.3), r.1)
    ]
own-map (Reads p k) (Stored ∷ ans) m o h = absurd h
own-map _ [] m o h = inr ((λ q u w. no-split q w.0.0 Stored w.0.1), refl)
own-map (Writes p v t) (Stored ∷ ans) m o h =
    elim (own-map t ans (finite.insert m p v) o h) [
      | inl r ↦ inl (Stored ∷ r.0, r.1, (((r.2.0.0.0, ap (λ xs. Stored ∷ xs) r.2.0.0.1), r.2.0.1), λ q u w. later p v t ans o r.0 r.2.1 q u w), r.3)
      | inr r ↦ at-write (same_object o p) p v t ans m o refl (r.1 ∙ value-insert m p o v) r.0
    ]
own-map (Writes p v t) (Got w ∷ ans) m o h = absurd h

-- splits of answers
pub assoc : (a b c : List Answer) → (a ++ b) ++ c ≡ a ++ (b ++ c)
assoc [] b c = refl
assoc (x ∷ a) b c = ap (λ xs. x ∷ xs) (assoc a b c)

-- of two splits of one list, the shorter front begins the longer
front : (p q y z : List Answer) (a : Answer) → p ++ (a ∷ y) ≡ q ++ z → length p < length q → (x : List Answer) × (q ≡ p ++ (a ∷ x))
unfolding tail_of head_of
front p [] y z a e h = absurd (omega arith)
front [] (b ∷ q) y z a e h = (q, ap (λ c. c ∷ q) (sym (ap (λ xs. head_of xs) e)))
front (c ∷ p) (b ∷ q) y z a e h =
    let r = front p q y z a (ap (λ xs. tail_of xs) e) (omega (arith, h)) in
    (r.0, ap (λ d. d ∷ q) (sym (ap (λ xs. head_of xs) e)) ∙ ap (λ xs. c ∷ xs) r.1)

-- two fronts of one length are equal
pub fronts : (p q y z : List Answer) → p ++ y ≡ q ++ z → length p ≡ length q → p ≡ q
unfolding tail_of head_of
fronts [] [] y z e h = refl
fronts [] (b ∷ q) y z e h = absurd (omega (arith, h))
fronts (c ∷ p) [] y z e h = absurd (omega (arith, h))
fronts (c ∷ p) (b ∷ q) y z e h = ap (λ d. d ∷ p) (ap (λ xs. head_of xs) e) ∙ ap (λ xs. b ∷ xs) (fronts p q y z (ap (λ xs. tail_of xs) e) (omega (arith, h)))

pub longer : (p q : List Answer) (a : Answer) (x : List Answer) → q ≡ p ++ (a ∷ x) → length p < length q
longer [] q a x e = rw e (omega arith)
longer (b ∷ p) q a x e = rw e (let h = longer p (p ++ (a ∷ x)) a x refl in omega (arith, h))

pub same-value : (o : ObjectId) (v w : Value) → Some (ToWrite o v) ≡ Some (ToWrite o w) → v ≡ w
same-value o v w e = cc e

pub same-read : (o p : ObjectId) → Some (ToRead o) ≡ Some (ToRead p) → o ≡ p
same-read o p e = cc e

pub shorter : (t : Tree) (ans pre y : List Answer) (o : ObjectId) (p : List Answer) (w : Value) → ans ≡ pre ++ y → length p < length pre → Written t ans o p w → Written t pre o p w
shorter t ans pre y o p w e h k = let r = front p pre k.0.0 y Stored (sym k.0.1 ∙ e) h in ((r.0, r.1), k.1)

pub widen : (t : Tree) (ans pre y : List Answer) (o : ObjectId) (p : List Answer) (w : Value) → ans ≡ pre ++ y → Written t pre o p w → Written t ans o p w
widen t ans pre y o p w e k = ((k.0.0 ++ y, e ∙ ap (λ xs. xs ++ y) k.0.1 ∙ assoc p (Stored ∷ k.0.0) y), k.1)

pub front-short : (pre y ans : List Answer) → ans ≡ pre ++ y → length pre ≤ length ans
front-short [] y ans e = omega arith
front-short (b ∷ pre) y ans e = rw e (let h = front-short pre y (pre ++ y) refl in omega (arith, h))
