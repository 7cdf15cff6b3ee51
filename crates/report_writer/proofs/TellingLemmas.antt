-- What the code keeps of an object stays what the marks say when one more is read.
use Rattle.report_writer.proofs.Names.{◌≡◌, ℕ, zero, suc, ◌≤◌, ◌<◌, length, Bool, true, false, List, [], ◌∷◌, ◌++◌, map, take, drop, refl, sym, ◌∙◌, ap, subst, Option, Some, None, ◌==◌, ◌&&◌, if◌then◌else◌, cond, slice_set, slice_index_or, arith, option_map, is_some, true≢false, false≢true, common_steps, TimeParts, lt, same_stamp, Every, stamp_cmp-total, same_stamp-is, ObjectId, Mark, Put, Stretch, Settle, Floor, same_object, Seen, or_else, settle_of, is_alive, alive, version_count, sees, place_of, same_place, top, stretched, Settled, not-false, Version, version_in, falling, is_visible, first_place, count_above, told_of, Holds}
use Rattle.std.specs.Ordering.{is_eq}
use Rattle.std.specs.FinMap as finite
use Rattle.std.specs.FinMap.{get-empty, get-insert}
use Rattle.std.proofs.lemmas.Cmp.{eq_by_cmp_equiv}
use Rattle.pseudo_time.specs.StampParts.{StampParts, stamp_cmp}
use Rattle.value_form.specs.declared.values.Value.{Value}
use Rattle.object_history.proofs.ObjectLemmas.{same_object-is, same_object-of}
use Rattle.object_history.proofs.KeptLemmas.{stretched-new}
use Rattle.report_writer.proofs.FallingLemmas.{Differ, Apart, first_seen, scan-first, apart, first-differs}

-- ---- nothing was read

pub holds-none : (o : ObjectId) → Holds o [] None [] (finite.empty {R = stamp_cmp})
unfolding settle_of stretched falling
holds-none o = record { origin_is = refl; versions_are = refl; settles = λ s. get-empty stamp_cmp s }

pub holds-new : (o : ObjectId) (vs : List Version) (settled : Settled) → vs ≡ [] → settled ≡ finite.empty → Holds o [] None vs settled
holds-new o vs settled none empty = subst (λ z. Holds o [] None z settled) (sym none) (subst (λ z. Holds o [] None [] z) (sym empty) (holds-none o))

-- two objects whose parts aren't both the same
same-parts : (r n : ℕ) → (r == r && n == n) ≡ true
same-parts r n = grind (arith, common_steps)

pub other-object : (a b : ObjectId) → false ≡ (a.repository == b.repository && a.number == b.number) → same_object a b ≡ false
other-object a b h =
    not-false (same_object a b) (λ e. false≢true (h ∙ ap (λ (z : ObjectId). a.repository == z.repository && a.number == z.number) (sym (same_object-is a b e)) ∙ same-parts a.repository a.number))

-- ---- a Put

insert-if : (b : Bool) (c : ℕ) (t p : Version) (ts us : List Version) → take c ts ++ t ∷ drop c ts ≡ us →
    take (if b then suc c else 0) (p ∷ ts) ++ t ∷ drop (if b then suc c else 0) (p ∷ ts) ≡ (if b then p ∷ us else t ∷ p ∷ ts)
insert-if true c t p ts us h = ap (λ z. p ∷ z) h
insert-if false c t p ts us h = refl

map-if : (f : Seen → Version) (b : Bool) (xs ys : List Seen) → (if b then map f xs else map f ys) ≡ map f (if b then xs else ys)
map-if f true xs ys = refl
map-if f false xs ys = refl

map-in : (m : List Mark) (o : ObjectId) (q : Seen) (ps : List Seen) →
    take (count_above q.start (map (told_of m o) ps)) (map (told_of m o) ps) ++ told_of m o q ∷ drop (count_above q.start (map (told_of m o) ps)) (map (told_of m o) ps) ≡ map (told_of m o) (version_in q ps)
unfolding version_in
map-in m o q [] = refl
map-in m o q (p ∷ ps) =
    insert-if (lt q.start p.start) (count_above q.start (map (told_of m o) ps)) (told_of m o q) (told_of m o p) (map (told_of m o) ps) (map (told_of m o) (version_in q ps)) (map-in m o q ps)
    ∙ map-if (told_of m o) (lt q.start p.start) (p ∷ version_in q ps) (q ∷ p ∷ ps)

itself : (n : ℕ) → n ≤ n
itself n = omega arith

abbrev put_at : List Version → TimeParts → Version → List Version
put_at ws x t = take (count_above x ws) ws ++ t ∷ drop (count_above x ws) ws

pub holds-put : (o : ObjectId) (m : List Mark) (origin : Option TimeParts) (vs new : List Version) (settled : Settled) (x : TimeParts) (v : Value) (at : ℕ) → Holds o m origin vs settled → at ≡ count_above x vs →
    new ≡ take at vs ++ record { start = x; value = v; end = None } ∷ drop at vs → Holds o (Put o x v ∷ m) origin new settled
unfolding settle_of stretched falling
holds-put o m origin vs new settled x v at h place is = record {
  origin_is = h.origin_is;
  versions_are =
      let q : Seen = record { place = version_count o m; start = x; value = v } in
      is
      ∙ ap (λ i. take i vs ++ record { start = x; value = v; end = None } ∷ drop i vs) place
      ∙ ap (λ ws. put_at ws x (record { start = x; value = v; end = None })) h.versions_are
      ∙ ap (λ e. put_at (map (told_of m o) (falling o m)) x (record { start = x; value = v; end = e })) (sym (stretched-new o m (version_count o m) (itself (version_count o m))))
      ∙ map-in m o q (falling o m)
      ∙ ap (λ b. map (told_of m o) (if b then version_in q (falling o m) else falling o m)) (sym (same_object-of o o refl));
  settles = h.settles;
}

-- a Put of another object
pub holds-other : (o : ObjectId) (m : List Mark) (origin : Option TimeParts) (vs : List Version) (settled : Settled) (a : ObjectId) (x : TimeParts) (v : Value) → same_object a o ≡ false → Holds o m origin vs settled →
    Holds o (Put a x v ∷ m) origin vs settled
unfolding settle_of stretched falling
holds-other o m origin vs settled a x v other h = record {
  origin_is = h.origin_is;
  versions_are = h.versions_are ∙ ap (λ b. map (told_of m o) (if b then version_in (record { place = version_count o m; start = x; value = v }) (falling o m) else falling o m)) (sym other);
  settles = h.settles;
}

-- ---- a Stretch

abbrev raised : TimeParts → Version → Version
raised x v = record { start = v.start; value = v.value; end = top x v.end }

-- one that has this place is raised
abbrev raised_at : TimeParts → (Seen → Version) → Option ℕ → Seen → Version
raised_at x f p q = if same_place p (Some q.place) then raised x (f q) else f q

raise-none : (x : TimeParts) (f : Seen → Version) (p : ℕ) (q : Seen) → (p == q.place) ≡ false → raised_at x f (Some p) q ≡ f q
raise-none x f p q h = ap (λ c. if c then raised x (f q) else f q) h

raise-rest : (x : TimeParts) (f : Seen → Version) (q : Seen) (ps : List Seen) → Every (Differ q) ps → map (raised_at x f (Some q.place)) ps ≡ map f ps
raise-rest x f q [] h = refl
raise-rest x f q (p ∷ ps) h = λ i. raise-none x f q.place p h.0.0 i ∷ raise-rest x f q ps h.1 i

level : (n : ℕ) → (n == n) ≡ true
level n = grind (arith, common_steps)

abbrev AtFirst : (TimeParts → Bool) → TimeParts → (Seen → Version) → List Seen → Option ℕ → Type 0
AtFirst ok x f ps None = (place_of (first_seen ok ps) ≡ None) × (map f ps ≡ map (raised_at x f (place_of (first_seen ok ps))) ps)
AtFirst ok x f ps (Some i) = ((same_place (place_of (first_seen ok ps)) None) ≡ false) × ((d : Version) → slice_set (map f ps) i (raised x (slice_index_or (map f ps) i d)) ≡ map (raised_at x f (place_of (first_seen ok ps))) ps)

abbrev Keeps : (Seen → Version) → Type 0
Keeps f = (q : Seen) → (f q).start ≡ q.start

at-next : (ok : TimeParts → Bool) (x : TimeParts) (f : Seen → Version) (q : Seen) (qs : List Seen) (place : Option ℕ) → same_place (place_of (first_seen ok qs)) (Some q.place) ≡ false → AtFirst ok x f qs place →
    ok q.start ≡ false → AtFirst ok x f (q ∷ qs) (option_map suc place)
at-next ok x f q qs None apart h fails = (
  ap (λ b. place_of (if b then Some q else first_seen ok qs)) fails ∙ h.0,
  sym (λ i. ap (λ c. if c then raised x (f q) else f q) apart i ∷ sym h.1 i)
      ∙ ap (λ b. map (raised_at x f (place_of (if b then Some q else first_seen ok qs))) (q ∷ qs)) (sym fails),
)
at-next ok x f q qs (Some i) apart h fails = (
  ap (λ b. same_place (place_of (if b then Some q else first_seen ok qs)) None) fails ∙ h.0,
  λ d. sym (λ j. ap (λ c. if c then raised x (f q) else f q) apart j ∷ sym (h.1 d) j)
      ∙ ap (λ b. map (raised_at x f (place_of (if b then Some q else first_seen ok qs))) (q ∷ qs)) (sym fails),
)

at-here : (ok : TimeParts → Bool) (x : TimeParts) (f : Seen → Version) (q : Seen) (qs : List Seen) → Every (Differ q) qs → ok q.start ≡ true → AtFirst ok x f (q ∷ qs) (Some 0)
at-here ok x f q qs apart passes = (
  ap (λ b. same_place (place_of (if b then Some q else first_seen ok qs)) None) passes,
  λ d. sym (λ j. ap (λ c. if c then raised x (f q) else f q) (level q.place) j ∷ raise-rest x f q qs apart j)
      ∙ ap (λ b. map (raised_at x f (place_of (if b then Some q else first_seen ok qs))) (q ∷ qs)) (sym passes),
)

at-if : (b : Bool) (ok : TimeParts → Bool) (x : TimeParts) (f : Seen → Version) (q : Seen) (qs : List Seen) (place : Option ℕ) → ok q.start ≡ b → Every (Differ q) qs → AtFirst ok x f qs place →
    AtFirst ok x f (q ∷ qs) (if b then Some 0 else option_map suc place)
at-if true ok x f q qs place is apart h = at-here ok x f q qs apart is
at-if false ok x f q qs place is apart h = at-next ok x f q qs place (first-differs ok q qs apart) h is

at-first : (m : List Mark) (o : ObjectId) (ok : TimeParts → Bool) (x : TimeParts) (ps : List Seen) → Apart ps → AtFirst ok x (told_of m o) ps (first_place ok (map (told_of m o) ps))
at-first m o ok x [] a = (refl, refl)
at-first m o ok x (p ∷ ps) a = at-if (ok p.start) ok x (told_of m o) p ps (first_place ok (map (told_of m o) ps)) refl a.0 (at-first m o ok x ps a.1)

end-if : (s b : Bool) (x start : TimeParts) (v : Value) (e : Option TimeParts) → s ≡ true →
    ◌≡◌ {A = Version} (if b then record { start = start; value = v; end = top x e } else record { start = start; value = v; end = e }) (record { start = start; value = v; end = if s && b then top x e else e })
end-if true true x start v e h = refl
end-if true false x start v e h = refl
end-if false b x start v e h = absurd (false≢true h)

raised-told : (m : List Mark) (o : ObjectId) (x : TimeParts) (ps : List Seen) → map (raised_at x (told_of m o) (place_of (sees m o x))) ps ≡ map (told_of (Stretch o x ∷ m) o) ps
unfolding stretched
raised-told m o x [] = refl
raised-told m o x (p ∷ ps) =
    λ i. end-if (same_object o o) (same_place (place_of (sees m o x)) (Some p.place)) x p.start p.value (stretched m o (Some p.place)) (same_object-of o o refl) i ∷ raised-told m o x ps i

module _ (o : ObjectId) (m : List Mark) (origin : Option TimeParts) (vs : List Version) (settled : Settled) (x : TimeParts) (h : Holds o m origin vs settled) where
  abbrev ok : TimeParts → Bool
  ok y = lt y x && alive m y

  visible : ◌≡◌ {A = TimeParts → Bool} (is_visible settled x) ok
  visible = λ i y. lt y x && is_alive (h.settles y.stamp i)

  seen-first : place_of (sees m o x) ≡ place_of (first_seen ok (falling o m))
  seen-first = ap place_of (scan-first ok o m)

  place-is : (place : Option ℕ) → place ≡ first_place (is_visible settled x) vs → place ≡ first_place ok (map (told_of m o) (falling o m))
  place-is place is = is ∙ ap (λ g. first_place g vs) visible ∙ ap (first_place ok) h.versions_are

  at : (place : Option ℕ) → place ≡ first_place (is_visible settled x) vs → AtFirst ok x (told_of m o) (falling o m) place
  at place is = subst (AtFirst ok x (told_of m o) (falling o m)) (sym (place-is place is)) (at-first m o ok x (falling o m) (apart o m))

  told : map (raised_at x (told_of m o) (place_of (first_seen ok (falling o m)))) (falling o m) ≡ map (told_of (Stretch o x ∷ m) o) (falling o m)
  told = ap (λ p. map (raised_at x (told_of m o) p) (falling o m)) (sym seen-first) ∙ raised-told m o x (falling o m)

  origin-stays : (b c : Bool) (e f : Option TimeParts) → b ≡ false → e ≡ f → e ≡ (if c && b then top x f else f)
  origin-stays false true e f is k = k
  origin-stays false false e f is k = k
  origin-stays true c e f is k = absurd (true≢false is)

  origin-rises : (b c : Bool) (e f g : Option TimeParts) → b ≡ true → c ≡ true → e ≡ top x g → g ≡ f → e ≡ (if c && b then top x f else f)
  origin-rises true true e f g is too k l = k ∙ ap (top x) l
  origin-rises false c e f g is too k l = absurd (false≢true is)
  origin-rises true false e f g is too k l = absurd (false≢true too)

  -- it falls on a version
  pub holds-seen : (i : ℕ) (new : List Version) (d : Version) → Some i ≡ first_place (is_visible settled x) vs → new ≡ slice_set vs i (raised x (slice_index_or vs i d)) → Holds o (Stretch o x ∷ m) origin new settled
  unfolding settle_of stretched falling
  holds-seen i new d place is =
      let a = at (Some i) place in
      record {
        origin_is = origin-stays (same_place (place_of (sees m o x)) None) (same_object o o) origin (stretched m o None) (ap (λ p. same_place p None) seen-first ∙ a.0) h.origin_is;
        versions_are = is ∙ ap (λ ws. slice_set ws i (raised x (slice_index_or ws i d))) h.versions_are ∙ a.1 d ∙ told;
        settles = h.settles;
      }

  -- it falls on the origin
  pub holds-unseen : (end : Option TimeParts) → None ≡ first_place (is_visible settled x) vs → end ≡ top x origin → Holds o (Stretch o x ∷ m) end vs settled
  unfolding settle_of stretched falling
  holds-unseen end place is =
      let a = at None place in
      record {
        origin_is = origin-rises (same_place (place_of (sees m o x)) None) (same_object o o) end (stretched m o None) origin (ap (λ p. same_place p None) (seen-first ∙ a.0)) (same_object-of o o refl) is h.origin_is;
        versions_are = h.versions_are ∙ a.1 ∙ told;
        settles = h.settles;
      }

-- as the code writes it
pub raised-set : (vs : List Version) (i : ℕ) (x end : TimeParts) (first at : Version) → i < length vs → first ≡ slice_index_or vs i first → at ≡ slice_index_or vs i at → Some end ≡ top x first.end →
    slice_set vs i (record { start = at.start; value = at.value; end = Some end }) ≡ slice_set vs i (raised x (slice_index_or vs i at))
raised-set vs i x end first at below found there later =
    ap (slice_set vs i)
    (ap (λ e. record { start = at.start; value = at.value; end = e }) (later ∙ ap (λ (z : Version). top x z.end) (found ∙ in_range vs i first at below ∙ sym there)) ∙ ap (raised x) there)
  where
    in_range : (xs : List Version) (p : ℕ) (d e : Version) → p < length xs → slice_index_or xs p d ≡ slice_index_or xs p e
    in_range [] p d e h = absurd (omega arith)
    in_range (y ∷ ys) zero d e h = refl
    in_range (y ∷ ys) (suc p) d e h = in_range ys p d e (omega arith)

-- a Stretch of another object
not-both : (c b : Bool) (x : TimeParts) (e : Option TimeParts) → c ≡ false → (if c && b then top x e else e) ≡ e
not-both false b x e h = refl
not-both true b x e h = absurd (true≢false h)

told-same : (m more : List Mark) (o : ObjectId) (ps : List Seen) → ((p : Option ℕ) → stretched more o p ≡ stretched m o p) → map (told_of m o) ps ≡ map (told_of more o) ps
told-same m more o [] h = refl
told-same m more o (p ∷ ps) h = sym (λ i. record { start = p.start; value = p.value; end = h (Some p.place) i } ∷ sym (told-same m more o ps h) i)

pub holds-apart : (o : ObjectId) (m : List Mark) (origin : Option TimeParts) (vs : List Version) (settled : Settled) (a : ObjectId) (x : TimeParts) → same_object a o ≡ false → Holds o m origin vs settled →
    Holds o (Stretch a x ∷ m) origin vs settled
unfolding settle_of stretched falling
holds-apart o m origin vs settled a x other h =
    let same : (p : Option ℕ) → stretched (Stretch a x ∷ m) o p ≡ stretched m o p = λ p. not-both (same_object a o) (same_place (place_of (sees m o x)) p) x (stretched m o p) other in
    record {
      origin_is = h.origin_is ∙ sym (same None);
      versions_are = h.versions_are ∙ told-same m (Stretch a x ∷ m) o (falling o m) same;
      settles = h.settles;
    }

-- ---- a Floor

pub holds-floor : (o : ObjectId) (m : List Mark) (origin : Option TimeParts) (vs : List Version) (settled : Settled) (z : TimeParts) → Holds o m origin vs settled → Holds o (Floor z ∷ m) origin vs settled
unfolding settle_of stretched falling
holds-floor o m origin vs settled z h = record { origin_is = h.origin_is; versions_are = h.versions_are; settles = h.settles }

-- ---- a Settle

first_settle : (b : Bool) (c : Bool) (r u : Option Bool) → (b ≡ true → u ≡ None) → r ≡ u → cond b (Some c) r ≡ (if b then or_else u c else u)
first_settle true c r u h e = ap (λ z. or_else z c) (sym (h refl))
first_settle false c r u h e = e

later_settle : (b : Bool) (c d : Bool) (u : Option Bool) → (b ≡ true → u ≡ Some d) → u ≡ (if b then or_else u c else u)
later_settle true c d u h = h refl ∙ ap (λ z. or_else z c) (sym (h refl))
later_settle false c d u h = refl

settled-new : (m : List Mark) (settled : Settled) (s : StampParts) (c : Bool) (q : StampParts) → finite.get settled q ≡ settle_of m q → settle_of m s ≡ None →
    finite.get (finite.insert settled s c) q ≡ settle_of (Settle s c ∷ m) q
unfolding settle_of same_stamp
settled-new m settled s c q is none =
    get-insert stamp_cmp-total settled s c q ∙ ap (λ b. cond b (Some c) (finite.get settled q)) ((eq_by_cmp_equiv stamp_cmp-total).symm q s)
    ∙ first_settle (is_eq (stamp_cmp s q)) c (finite.get settled q) (settle_of m q) (λ e. ap (settle_of m) (sym (same_stamp-is s q e)) ∙ none) is

settled-old : (m : List Mark) (s : StampParts) (c d : Bool) (q : StampParts) → settle_of m s ≡ Some d → settle_of m q ≡ settle_of (Settle s c ∷ m) q
unfolding settle_of same_stamp
settled-old m s c d q there = later_settle (is_eq (stamp_cmp s q)) c d (settle_of m q) (λ e. ap (settle_of m) (sym (same_stamp-is s q e)) ∙ there)

pub holds-settle : (o : ObjectId) (m : List Mark) (origin : Option TimeParts) (vs : List Version) (settled new : Settled) (s : StampParts) (c : Bool) (r : Option Bool) → Holds o m origin vs settled → r ≡ finite.get settled s →
    is_some r ≡ false → new ≡ finite.insert settled s c → Holds o (Settle s c ∷ m) origin vs new
unfolding stretched falling
holds-settle o m origin vs settled new s c None h is none put = record {
  origin_is = h.origin_is;
  versions_are = h.versions_are;
  settles = λ q. ap (λ z. finite.get z q) put ∙ settled-new m settled s c q (h.settles q) (sym (is ∙ h.settles s));
}
holds-settle o m origin vs settled new s c (Some d) h is none put = absurd (true≢false none)

pub holds-again : (o : ObjectId) (m : List Mark) (origin : Option TimeParts) (vs : List Version) (settled : Settled) (s : StampParts) (c : Bool) (r : Option Bool) → Holds o m origin vs settled → r ≡ finite.get settled s →
    is_some r ≡ true → Holds o (Settle s c ∷ m) origin vs settled
unfolding stretched falling
holds-again o m origin vs settled s c None h is some = absurd (false≢true some)
holds-again o m origin vs settled s c (Some d) h is some = record {
  origin_is = h.origin_is;
  versions_are = h.versions_are;
  settles = λ q. h.settles q ∙ settled-old m s c d q (sym (is ∙ h.settles s));
}
