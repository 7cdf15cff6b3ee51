-- What histories in memory keep stays so when a mark is added.
use Rattle.std.specs.FinMap as finite
use Rattle.object_history.proofs.Names.{StampParts, stamp_cmp, TimeParts, same_stamp, stamp_cmp-total, same_stamp-is, ObjectId, Value, object_cmp, IsValue, Mark, Put, Stretch, Settle, Floor, Version, same_object, or_else, settle_of, version_count, Seen, starts_above, pick, scan, sees, place_of, same_place, top, floor_of, latest, read_to, reach, stretched, read_seen, read_from, read_step, Settled, TrackParts, Tracked, empty_track, track_at, IsKept, with_version, read_up_to, ended_at, with_end, versions_in, ◌≡◌, ℕ, ◌+◌, ◌≤◌, ◌<◌, Bool, true, false, List, [], ◌∷◌, ◌++◌, length, reverse, refl, sym, ◌∙◌, ap, subst, Option, Some, None, ◌==◌, ◌&&◌, not, if◌then◌else◌, cond, arith, is_eq, unwrap_or, is_some, reverse-append, length-reverse, get-empty, get-insert, false≢true, true≢false, eq_by_cmp_equiv, common_steps, IsWhole, track_of, Keeps}
use Rattle.value_form.specs.ObjectBytes.{IsObject}
use Rattle.object_history.proofs.ObjectLemmas.{same_object-is}

-- ---- places

abbrev Under : Option Seen → ℕ → Type 0
Under None n = Unit {0}
Under (Some q) n = q.place < n

under-more : (r : Option Seen) (n : ℕ) → Under r n → Under r (n + 1)
under-more None n h = tt
under-more (Some q) n h = omega arith

under-pick : (same ok above : Bool) (n : ℕ) (p : Seen) (r : Option Seen) → p.place ≡ n → Under r n → Under (if (same && ok) && not above then Some p else r) (if same then n + 1 else n)
under-pick false ok above n p r is h = h
under-pick true false above n p r is h = under-more r n h
under-pick true true true n p r is h = under-more r n h
under-pick true true false n p r is h = omega arith

pub scan-under : (ok : TimeParts → Bool) (o : ObjectId) (m : List Mark) → Under (scan ok o m) (version_count o m)
unfolding scan pick version_count
scan-under ok o [] = tt
scan-under ok o (Put a x v ∷ m) = under-pick (same_object a o) (ok x) (starts_above (scan ok o m) x) (version_count o m) (record { place = version_count o m; start = x; value = v }) (scan ok o m) refl (scan-under ok o m)
scan-under ok o (Stretch a x ∷ m) = scan-under ok o m
scan-under ok o (Settle s c ∷ m) = scan-under ok o m
scan-under ok o (Floor z ∷ m) = scan-under ok o m

not_there : (r : Option Seen) (n k : ℕ) → Under r n → n ≤ k → same_place (place_of r) (Some k) ≡ false
not_there None n k h le = refl
not_there (Some q) n k h le = grind (arith, common_steps)

and_false : (a b : Bool) → b ≡ false → (a && b) ≡ false
and_false true b h = h
and_false false b h = refl

count_less : (same : Bool) (n k : ℕ) → (if same then n + 1 else n) ≤ k → n ≤ k
count_less true n k h = omega arith
count_less false n k h = h

-- no Stretch fell on a version that isn't there yet
pub stretched-new : (o : ObjectId) (m : List Mark) (k : ℕ) → version_count o m ≤ k → stretched m o (Some k) ≡ None
unfolding stretched version_count
stretched-new o [] k le = refl
stretched-new o (Put a x v ∷ m) k le = stretched-new o m k (count_less (same_object a o) (version_count o m) k le)
stretched-new o (Settle s c ∷ m) k le = stretched-new o m k le
stretched-new o (Floor z ∷ m) k le = stretched-new o m k le
stretched-new o (Stretch a x ∷ m) k le =
    ap (λ b. if b then top x (stretched m o (Some k)) else stretched m o (Some k))
    (and_false (same_object a o) (same_place (place_of (sees m o x)) (Some k)) (not_there (sees m o x) (version_count o m) k (scan-under _ o m) le))
    ∙ stretched-new o m k le

-- ---- the versions of an object

length-if : (b : Bool) (v : Version) (vs : List Version) (n : ℕ) → length vs ≡ n → length (if b then v ∷ vs else vs) ≡ (if b then n + 1 else n)
length-if true v vs n h = omega arith
length-if false v vs n h = h

pub length-versions : (all : List Mark) (o : ObjectId) (m : List Mark) → length (versions_in all o m) ≡ version_count o m
unfolding versions_in version_count
length-versions all o [] = refl
length-versions all o (Put a x v ∷ m) = length-if (same_object a o) _ (versions_in all o m) (version_count o m) (length-versions all o m)
length-versions all o (Stretch a x ∷ m) = length-versions all o m
length-versions all o (Settle s c ∷ m) = length-versions all o m
length-versions all o (Floor z ∷ m) = length-versions all o m

abbrev version_of : ℕ → ℕ → TimeParts → Option TimeParts → Version
version_of p k x e = record { place = p; mark = k; start = x; end = e }

pub versions-same : (all more : List Mark) (o : ObjectId) (m : List Mark) → ((p : ℕ) → stretched all o (Some p) ≡ stretched more o (Some p)) → versions_in all o m ≡ versions_in more o m
unfolding versions_in
versions-same all more o [] h = refl
versions-same all more o (Put a x v ∷ m) h =
    ap (λ e. if same_object a o then version_of (version_count o m) (length m) x e ∷ versions_in all o m else versions_in all o m) (h (version_count o m))
    ∙ ap (λ vs. if same_object a o then version_of (version_count o m) (length m) x (stretched more o (Some (version_count o m))) ∷ vs else vs) (versions-same all more o m h)
versions-same all more o (Stretch a x ∷ m) h = versions-same all more o m h
versions-same all more o (Settle s c ∷ m) h = versions-same all more o m h
versions-same all more o (Floor z ∷ m) h = versions-same all more o m h

ended_head : (b : Bool) (p k : ℕ) (x y : TimeParts) (e f : Option TimeParts) → f ≡ (if b then top x e else e) → (if b then read_up_to x (version_of p k y e) else version_of p k y e) ≡ version_of p k y f
ended_head true p k x y e f h = ap (version_of p k y) (sym h)
ended_head false p k x y e f h = ap (version_of p k y) (sym h)

ended_if : (b : Bool) (i : ℕ) (x : TimeParts) (v : Version) (vs ws : List Version) → ended_at i x vs ≡ ws → ended_at i x (if b then v ∷ vs else vs) ≡ (if b then (if i == length vs then read_up_to x v else v) ∷ ws else ws)
unfolding ended_at
ended_if true i x v vs ws h = ap (λ z. (if i == length vs then read_up_to x v else v) ∷ z) h
ended_if false i x v vs ws h = h

-- a Stretch that falls on the version at place i
pub versions-ended : (all more : List Mark) (o : ObjectId) (i : ℕ) (x : TimeParts) (m : List Mark) →
    ((p : ℕ) → stretched more o (Some p) ≡ (if i == p then top x (stretched all o (Some p)) else stretched all o (Some p))) → ended_at i x (versions_in all o m) ≡ versions_in more o m
unfolding versions_in ended_at
versions-ended all more o i x [] h = refl
versions-ended all more o i x (Put a y v ∷ m) h =
    let n = version_count o m in
    let e = stretched all o (Some n) in
    ended_if (same_object a o) i x (version_of n (length m) y e) (versions_in all o m) (versions_in more o m) (versions-ended all more o i x m h)
    ∙ ap (λ k. if same_object a o then (if i == k then read_up_to x (version_of n (length m) y e) else version_of n (length m) y e) ∷ versions_in more o m else versions_in more o m) (length-versions all o m)
    ∙ ap (λ w. if same_object a o then w ∷ versions_in more o m else versions_in more o m) (ended_head (i == n) n (length m) x y e (stretched more o (Some n)) (h n))
versions-ended all more o i x (Stretch a y ∷ m) h = versions-ended all more o i x m h
versions-ended all more o i x (Settle s c ∷ m) h = versions-ended all more o i x m h
versions-ended all more o i x (Floor z ∷ m) h = versions-ended all more o i x m h

-- ---- a Settle

first_settle : (b : Bool) (c : Bool) (r u : Option Bool) → (b ≡ true → u ≡ None) → r ≡ u → cond b (Some c) r ≡ (if b then or_else u c else u)
first_settle true c r u h e = ap (λ z. or_else z c) (sym (h refl))
first_settle false c r u h e = e

later_settle : (b : Bool) (c d : Bool) (u : Option Bool) → (b ≡ true → u ≡ Some d) → u ≡ (if b then or_else u c else u)
later_settle true c d u h = h refl ∙ ap (λ z. or_else z c) (sym (h refl))
later_settle false c d u h = refl

same_versions : (f : Mark) (m : List Mark) (o : ObjectId) → ((p : Option ℕ) → stretched (f ∷ m) o p ≡ stretched m o p) → versions_in (f ∷ m) o (f ∷ m) ≡ versions_in (f ∷ m) o m → track_of m o ≡ track_of (f ∷ m) o
same_versions f m o h k =
    ap (λ e. record { origin = e; versions = versions_in m o m }) (sym (h None))
    ∙ ap (λ vs. record { origin = stretched (f ∷ m) o None; versions = vs }) (sym (k ∙ versions-same (f ∷ m) m o m (λ p. h (Some p))))

track-settle : (m : List Mark) (s : StampParts) (c : Bool) (o : ObjectId) → track_of m o ≡ track_of (Settle s c ∷ m) o
unfolding stretched versions_in
track-settle m s c o = same_versions (Settle s c) m o (λ p. refl) refl

settled-new : (m : List Mark) (settled : Settled) (s : StampParts) (c : Bool) (q : StampParts) → finite.get settled q ≡ settle_of m q → settle_of m s ≡ None →
    finite.get (finite.insert settled s c) q ≡ settle_of (Settle s c ∷ m) q
unfolding settle_of same_stamp
settled-new m settled s c q is none =
    get-insert stamp_cmp-total settled s c q ∙ ap (λ b. cond b (Some c) (finite.get settled q)) ((eq_by_cmp_equiv stamp_cmp-total).symm q s)
    ∙ first_settle (is_eq (stamp_cmp s q)) c (finite.get settled q) (settle_of m q) (λ e. ap (settle_of m) (sym (same_stamp-is s q e)) ∙ none) is

settled-old : (m : List Mark) (s : StampParts) (c d : Bool) (q : StampParts) → settle_of m s ≡ Some d → settle_of m q ≡ settle_of (Settle s c ∷ m) q
unfolding settle_of same_stamp
settled-old m s c d q there = later_settle (is_eq (stamp_cmp s q)) c d (settle_of m q) (λ e. ap (settle_of m) (sym (same_stamp-is s q e)) ∙ there)

pub keeps-settle : (m : List Mark) (settled : Settled) (tracks : Tracked) (s : StampParts) (c : Bool) → Keeps m settled tracks → settle_of m s ≡ None → Keeps (Settle s c ∷ m) (finite.insert settled s c) tracks
keeps-settle m settled tracks s c k none = record {
  settles = λ q. settled-new m settled s c q (k.settles q) none;
  objects = λ o. k.objects o ∙ track-settle m s c o;
}

pub keeps-again : (m : List Mark) (settled : Settled) (tracks : Tracked) (s : StampParts) (c d : Bool) → Keeps m settled tracks → settle_of m s ≡ Some d → Keeps (Settle s c ∷ m) settled tracks
keeps-again m settled tracks s c d k there = record {
  settles = λ q. k.settles q ∙ settled-old m s c d q there;
  objects = λ o. k.objects o ∙ track-settle m s c o;
}

-- ---- a Put

put_if : (b : Bool) (k n : ℕ) (x : TimeParts) (e : Option TimeParts) (origin : Option TimeParts) (vs ws : List Version) → length vs ≡ n → e ≡ None → ws ≡ vs →
    (if b then with_version k x (record { origin = origin; versions = vs }) else record { origin = origin; versions = vs }) ≡ record { origin = origin; versions = if b then version_of n k x e ∷ ws else ws }
put_if true k n x e origin vs ws h none same =
    ap (λ z. record { origin = origin; versions = version_of z k x None ∷ vs }) h ∙ ap (λ z. record { origin = origin; versions = version_of n k x z ∷ vs }) (sym none)
    ∙ ap (λ z. record { origin = origin; versions = version_of n k x e ∷ z }) (sym same)
put_if false k n x e origin vs ws h none same = ap (λ z. record { origin = origin; versions = z }) (sym same)

track-put : (m : List Mark) (a : ObjectId) (x : TimeParts) (v : Value) (o : ObjectId) → (if same_object a o then with_version (length m) x (track_of m o) else track_of m o) ≡ track_of (Put a x v ∷ m) o
unfolding stretched versions_in
track-put m a x v o =
    put_if (same_object a o) (length m) (version_count o m) x (stretched m o (Some (version_count o m))) (stretched m o None) (versions_in m o m) (versions_in (Put a x v ∷ m) o m)
    (length-versions m o m) (stretched-new o m (version_count o m) (omega arith)) (versions-same (Put a x v ∷ m) m o m (λ p. refl))

pub keeps-put : (m : List Mark) (settled : Settled) (tracks new : Tracked) (a : ObjectId) (x : TimeParts) (v : Value) (k : ℕ) → Keeps m settled tracks → k ≡ length m →
    ((o : ObjectId) → track_at new o ≡ (if same_object a o then with_version k x (track_at tracks o) else track_at tracks o)) → Keeps (Put a x v ∷ m) settled new
unfolding settle_of
keeps-put m settled tracks new a x v k keeps at h = record {
  settles = keeps.settles;
  objects = λ o. h o ∙ ap (λ t. if same_object a o then with_version k x t else t) (keeps.objects o) ∙ ap (λ n. if same_object a o then with_version n x (track_of m o) else track_of m o) at ∙ track-put m a x v o;
}

-- ---- a Stretch

-- it falls on another object's versions, on the origin, or on a version
stretch_if : (b : Bool) (p : Option ℕ) (x : TimeParts) (all more : List Mark) (o : ObjectId) →
    ((k : Option ℕ) → stretched more o k ≡ (if b && same_place p k then top x (stretched all o k) else stretched all o k)) →
    (if b then with_end p x (track_of all o) else track_of all o) ≡ record { origin = stretched more o None; versions = versions_in more o all }
stretch_if false p x all more o h =
    ap (λ e. record { origin = e; versions = versions_in all o all }) (sym (h None))
    ∙ ap (λ vs. record { origin = stretched more o None; versions = vs }) (versions-same all more o all (λ k. sym (h (Some k))))
stretch_if true None x all more o h =
    ap (λ e. record { origin = e; versions = versions_in all o all }) (sym (h None))
    ∙ ap (λ vs. record { origin = stretched more o None; versions = vs }) (versions-same all more o all (λ k. sym (h (Some k))))
stretch_if true (Some i) x all more o h =
    ap (λ e. record { origin = e; versions = ended_at i x (versions_in all o all) }) (sym (h None))
    ∙ ap (λ vs. record { origin = stretched more o None; versions = vs }) (versions-ended all more o i x all (λ k. h (Some k)))

place_at : (b : Bool) (m : List Mark) (a o : ObjectId) (x : TimeParts) (t : TrackParts) → (b ≡ true → a ≡ o) → (if b then with_end (place_of (sees m a x)) x t else t) ≡ (if b then with_end (place_of (sees m o x)) x t else t)
place_at true m a o x t h = ap (λ z. with_end (place_of (sees m z x)) x t) (h refl)
place_at false m a o x t h = refl

track-stretch : (m : List Mark) (a : ObjectId) (x : TimeParts) (o : ObjectId) → (if same_object a o then with_end (place_of (sees m a x)) x (track_of m o) else track_of m o) ≡ track_of (Stretch a x ∷ m) o
unfolding stretched versions_in
track-stretch m a x o =
    place_at (same_object a o) m a o x (track_of m o) (same_object-is a o)
    ∙ stretch_if (same_object a o) (place_of (sees m o x)) x m (Stretch a x ∷ m) o (λ k. refl)

pub keeps-stretch : (m : List Mark) (settled : Settled) (tracks new : Tracked) (a : ObjectId) (x : TimeParts) (p : Option ℕ) → Keeps m settled tracks → p ≡ place_of (sees m a x) →
    ((o : ObjectId) → track_at new o ≡ (if same_object a o then with_end p x (track_at tracks o) else track_at tracks o)) → Keeps (Stretch a x ∷ m) settled new
unfolding settle_of
keeps-stretch m settled tracks new a x p keeps at h = record {
  settles = keeps.settles;
  objects = λ o. h o ∙ ap (λ t. if same_object a o then with_end p x t else t) (keeps.objects o) ∙ ap (λ z. if same_object a o then with_end z x (track_of m o) else track_of m o) at ∙ track-stretch m a x o;
}

-- ---- all that is kept

pub kept-none : IsKept [] (finite.empty {R = stamp_cmp}) (finite.empty {R = object_cmp})
unfolding settle_of stretched versions_in
kept-none = record {
  keeps = record { settles = λ s. get-empty stamp_cmp s; objects = λ o. ap (λ t. unwrap_or t empty_track) (get-empty object_cmp o) };
  in_range = tt;
}

pub kept-settle : (m : List Mark) (settled : Settled) (tracks : Tracked) (s : StampParts) (c : Bool) → IsKept m settled tracks → settle_of m s ≡ None → IsKept (Settle s c ∷ m) (finite.insert settled s c) tracks
kept-settle m settled tracks s c k none = record { keeps = keeps-settle m settled tracks s c k.keeps none; in_range = (tt, k.in_range) }

pub kept-again : (m : List Mark) (settled : Settled) (tracks : Tracked) (s : StampParts) (c d : Bool) → IsKept m settled tracks → settle_of m s ≡ Some d → IsKept (Settle s c ∷ m) settled tracks
kept-again m settled tracks s c d k there = record { keeps = keeps-again m settled tracks s c d k.keeps there; in_range = (tt, k.in_range) }

pub kept-put : (m : List Mark) (settled : Settled) (tracks new : Tracked) (a : ObjectId) (x : TimeParts) (v : Value) (n : ℕ) → IsKept m settled tracks → IsObject a → IsValue v → n ≡ length m →
    ((o : ObjectId) → track_at new o ≡ (if same_object a o then with_version n x (track_at tracks o) else track_at tracks o)) → IsKept (Put a x v ∷ m) settled new
kept-put m settled tracks new a x v n k object value at h = record { keeps = keeps-put m settled tracks new a x v n k.keeps at h; in_range = ((object, value), k.in_range) }

pub kept-stretch : (m : List Mark) (settled : Settled) (tracks new : Tracked) (a : ObjectId) (x : TimeParts) (p : Option ℕ) → IsKept m settled tracks → IsObject a → p ≡ place_of (sees m a x) →
    ((o : ObjectId) → track_at new o ≡ (if same_object a o then with_end p x (track_at tracks o) else track_at tracks o)) → IsKept (Stretch a x ∷ m) settled new
kept-stretch m settled tracks new a x p k object at h = record { keeps = keeps-stretch m settled tracks new a x p k.keeps at h; in_range = (object, k.in_range) }

-- the maps were not changed, but for what can't be told apart
pub kept-same : (m : List Mark) (settled : Settled) (tracks new : Tracked) → IsKept m settled tracks → ((o : ObjectId) → track_at new o ≡ track_at tracks o) → IsKept m settled new
kept-same m settled tracks new k h = record { keeps = record { settles = k.keeps.settles; objects = λ o. h o ∙ k.keeps.objects o }; in_range = k.in_range }

-- ---- as the code goes

pub kept-new : (items : List Mark) (settled : Settled) (tracks : Tracked) → items ≡ [] → settled ≡ finite.empty → tracks ≡ finite.empty → IsKept (reverse items) settled tracks
kept-new items settled tracks none s t =
    subst (λ z. IsKept (reverse items) settled z) (sym t) (subst (λ z. IsKept (reverse items) z finite.empty) (sym s) (subst (λ z. IsKept (reverse z) finite.empty finite.empty) (sym none) kept-none))

pub pushed : (xs ys : List Mark) (f : Mark) → ys ≡ xs ++ f ∷ [] → reverse ys ≡ f ∷ reverse xs
pushed xs ys f is = ap reverse is ∙ reverse-append xs (f ∷ [])

abbrev KeptIn : Settled → Tracked → List Mark → Type 0
KeptIn settled tracks m = IsKept m settled tracks

pub push-again : (xs ys : List Mark) (settled : Settled) (tracks : Tracked) (s : StampParts) (c : Bool) (r : Option Bool) → IsKept (reverse xs) settled tracks → ys ≡ xs ++ Settle s c ∷ [] → r ≡ finite.get settled s → true ≡ is_some r → IsKept (reverse ys) settled tracks
push-again xs ys settled tracks s c None k is found h = absurd (true≢false h)
push-again xs ys settled tracks s c (Some d) k is found h =
    subst (KeptIn settled tracks) (sym (pushed xs ys (Settle s c) is)) (kept-again (reverse xs) settled tracks s c d k (sym (found ∙ k.keeps.settles s)))

pub push-settle : (xs ys : List Mark) (settled new : Settled) (tracks : Tracked) (s : StampParts) (c : Bool) (r : Option Bool) → IsKept (reverse xs) settled tracks → ys ≡ xs ++ Settle s c ∷ [] → r ≡ finite.get settled s → false ≡ is_some r →
    new ≡ finite.insert settled s c → IsKept (reverse ys) new tracks
push-settle xs ys settled new tracks s c (Some d) k is found h put = absurd (false≢true h)
push-settle xs ys settled new tracks s c None k is found h put =
    subst (λ z. IsKept (reverse ys) z tracks) (sym put)
    (subst (KeptIn (finite.insert settled s c) tracks) (sym (pushed xs ys (Settle s c) is)) (kept-settle (reverse xs) settled tracks s c k (sym (found ∙ k.keeps.settles s))))

pub push-put : (xs ys : List Mark) (settled : Settled) (tracks new : Tracked) (a : ObjectId) (x : TimeParts) (v : Value) (n : ℕ) → IsKept (reverse xs) settled tracks → ys ≡ xs ++ Put a x v ∷ [] → IsObject a → IsValue v → n ≡ length xs →
    ((o : ObjectId) → track_at new o ≡ (if same_object a o then with_version n x (track_at tracks o) else track_at tracks o)) → IsKept (reverse ys) settled new
push-put xs ys settled tracks new a x v n k is object value at h =
    subst (KeptIn settled new) (sym (pushed xs ys (Put a x v) is)) (kept-put (reverse xs) settled tracks new a x v n k object value (at ∙ sym (length-reverse xs)) h)

pub push-stretch : (xs ys m : List Mark) (settled : Settled) (tracks new : Tracked) (a : ObjectId) (x : TimeParts) (p : Option ℕ) → IsKept (reverse xs) settled tracks → ys ≡ xs ++ Stretch a x ∷ [] → IsObject a → reverse xs ≡ m → p ≡ place_of (sees m a x) →
    ((o : ObjectId) → track_at new o ≡ (if same_object a o then with_end p x (track_at tracks o) else track_at tracks o)) → IsKept (reverse ys) settled new
push-stretch xs ys m settled tracks new a x p k is object view at h =
    subst (KeptIn settled new) (sym (pushed xs ys (Stretch a x) is)) (kept-stretch (reverse xs) settled tracks new a x p k object (at ∙ ap (λ z. place_of (sees z a x)) (sym view)) h)

-- ---- the floor

pub floor-pushed : (xs ys : List Mark) (f : Mark) (floor : Option TimeParts) → floor ≡ floor_of (reverse xs) → ys ≡ xs ++ f ∷ [] → floor_of (f ∷ reverse xs) ≡ floor_of (reverse xs) → floor ≡ floor_of (reverse ys)
floor-pushed xs ys f floor is more same = is ∙ sym same ∙ ap floor_of (sym (pushed xs ys f more))

pub whole-put : (xs ys : List Mark) (settled : Settled) (tracks : Tracked) (a : ObjectId) (x : TimeParts) (v : Value) (floor : Option TimeParts) → floor ≡ floor_of (reverse xs) → ys ≡ xs ++ Put a x v ∷ [] → IsKept (reverse ys) settled tracks → IsWhole (reverse ys) settled tracks floor
unfolding floor_of
whole-put xs ys settled tracks a x v floor is more k = record { kept = k; floors = floor-pushed xs ys (Put a x v) floor is more refl }

pub whole-stretch : (xs ys : List Mark) (settled : Settled) (tracks : Tracked) (a : ObjectId) (x : TimeParts) (floor : Option TimeParts) → floor ≡ floor_of (reverse xs) → ys ≡ xs ++ Stretch a x ∷ [] → IsKept (reverse ys) settled tracks → IsWhole (reverse ys) settled tracks floor
unfolding floor_of
whole-stretch xs ys settled tracks a x floor is more k = record { kept = k; floors = floor-pushed xs ys (Stretch a x) floor is more refl }

pub whole-settle : (xs ys : List Mark) (settled : Settled) (tracks : Tracked) (s : StampParts) (c : Bool) (floor : Option TimeParts) → floor ≡ floor_of (reverse xs) → ys ≡ xs ++ Settle s c ∷ [] → IsKept (reverse ys) settled tracks → IsWhole (reverse ys) settled tracks floor
unfolding floor_of
whole-settle xs ys settled tracks s c floor is more k = record { kept = k; floors = floor-pushed xs ys (Settle s c) floor is more refl }

keeps-floor : (m : List Mark) (settled : Settled) (tracks : Tracked) (x : TimeParts) → Keeps m settled tracks → Keeps (Floor x ∷ m) settled tracks
unfolding settle_of stretched versions_in
keeps-floor m settled tracks x k = record { settles = k.settles; objects = λ o. k.objects o ∙ same o }
  where
    same : (o : ObjectId) → track_of m o ≡ track_of (Floor x ∷ m) o
    same o = ap (λ vs. record { origin = stretched m o None; versions = vs }) (versions-same m (Floor x ∷ m) o m (λ p. refl))

pub push-floor : (xs ys : List Mark) (settled : Settled) (tracks : Tracked) (x new : TimeParts) (floor : Option TimeParts) → IsWhole (reverse xs) settled tracks floor → ys ≡ xs ++ Floor x ∷ [] → Some new ≡ top x floor → IsWhole (reverse ys) settled tracks (Some new)
unfolding floor_of
push-floor xs ys settled tracks x new floor k more is = record {
  kept = subst (KeptIn settled tracks) (sym (pushed xs ys (Floor x) more)) (record { keeps = keeps-floor (reverse xs) settled tracks x k.kept.keeps; in_range = (tt, k.kept.in_range) });
  floors = is ∙ ap (λ f. top x f) k.floors ∙ ap floor_of (sym (pushed xs ys (Floor x) more));
}

pub whole-new : (items : List Mark) (settled : Settled) (tracks : Tracked) → items ≡ [] → IsKept (reverse items) settled tracks → IsWhole (reverse items) settled tracks None
unfolding floor_of
whole-new items settled tracks none k = record { kept = k; floors = ap (λ z. floor_of (reverse z)) (sym none) }

floor-is : (items m : List Mark) (floor f : Option TimeParts) → floor ≡ floor_of (reverse items) → reverse items ≡ m → floor ≡ f → f ≡ floor_of m
floor-is items m floor f whole view is = sym is ∙ whole ∙ ap floor_of view

pub reach-some : (items m : List Mark) (floor : Option TimeParts) (o : ObjectId) (r : Option Seen) (x new : TimeParts) (read : Option TimeParts) → floor ≡ floor_of (reverse items) → reverse items ≡ m → floor ≡ Some x → Some new ≡ top x read → read ≡ read_to m o r → Some new ≡ reach m o r
reach-some items m floor o r x new read whole view is h same = h ∙ ap (top x) same ∙ ap (λ f. latest f (read_to m o r)) (floor-is items m floor (Some x) whole view is)

pub reach-none : (items m : List Mark) (floor : Option TimeParts) (o : ObjectId) (r : Option Seen) (read : Option TimeParts) → floor ≡ floor_of (reverse items) → reverse items ≡ m → floor ≡ None → read ≡ read_to m o r → read ≡ reach m o r
reach-none items m floor o r read whole view is same = same ∙ ap (λ f. latest f (read_to m o r)) (floor-is items m floor None whole view is)

pub answer-none : (items m : List Mark) (floor : Option TimeParts) (o : ObjectId) (t : TimeParts) → floor ≡ floor_of (reverse items) → reverse items ≡ m → floor ≡ None → read_seen m o t (sees m o t) ≡ read_step m o t
answer-none items m floor o t whole view is = ap (λ f. read_from f m o t) (floor-is items m floor None whole view is)
