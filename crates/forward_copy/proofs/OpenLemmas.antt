-- The version that the code finds is the first undecided one, and where it finds none there is none.
use Rattle.forward_copy.proofs.Names.{◌≡◌, ◌≢◌, Bool, true, false, List, [], ◌∷◌, refl, sym, ◌∙◌, ap, subst, Option, Some, None, if◌then◌else◌, inl, inr, ordering_reverse, is_lt, is_gt, true≢false, false≢true, on_total, then_total, upto, StampParts, TimeParts, Has, lt, time_cmp-total, ObjectId, Value, object_cmp-total, Effect, Put, Whole, marks, Version, version_cmp, lesser, when_open, with_version, first_open}
use Rattle.std.specs.declared.cmp.Ordering.{Ordering}
use Rattle.std.specs.declared.cmp.Ordering.TheVariants.{Less, Greater}
use Rattle.std.specs.Cmp.{IsTotalOrder, tied_itself}
use Rattle.object_history.specs.Views.{Starts}

-- ---- the order of versions

pub version_cmp-total : IsTotalOrder version_cmp
version_cmp-total = then_total (on_total (λ v. v.object) object_cmp-total) (on_total (λ v. v.start) time_cmp-total)

turned : (o p : Ordering) → p ≡ ordering_reverse o → is_lt o ≡ false → is_gt p ≡ false
turned Less p e h = absurd (true≢false h)
turned _ p e h = ap is_gt e

back : (o p : Ordering) → p ≡ ordering_reverse o → is_gt o ≡ false → is_lt p ≡ false
back Greater p e h = absurd (true≢false h)
back _ p e h = ap is_lt e

never-both : (o p : Ordering) → p ≡ ordering_reverse o → is_lt o ≡ true → is_lt p ≡ false
never-both Greater p e h = absurd (false≢true h)
never-both _ p e h = ap is_lt e

-- v isn't above w, and w isn't above u
not-under : (u v w : Version) → is_lt (version_cmp w v) ≡ false → is_lt (version_cmp u w) ≡ false → is_lt (version_cmp u v) ≡ false
not-under u v w h k =
    back (version_cmp v u) (version_cmp u v) (version_cmp-total.antisymm u v)
    (upto version_cmp-total v w u (turned (version_cmp w v) (version_cmp v w) (version_cmp-total.antisymm v w) h) (turned (version_cmp u w) (version_cmp w u) (version_cmp-total.antisymm w u) k))

-- ---- where none is found

when-none : (r : Option Bool) (v : Version) (first : Option Version) → when_open r v first ≡ None → (first ≡ None) × (r ≢ None)
when-none None v first h = absurd (cc h)
when-none (Some c) v first h = (h, λ e. cc e)

put-none : (settled : StampParts → Option Bool) (b : Bool) (v : Version) (first : Option Version) → with_version settled (if b then Some v else None) first ≡ None →
    (first ≡ None) × (b ≡ true → settled v.start.stamp ≢ None)
put-none settled true v first h =
    let w = when-none (settled v.start.stamp) v first h in
    (w.0, λ e. w.1)
put-none settled false v first h = (h, λ e. absurd (false≢true e))

pub none-open : (settled : StampParts → Option Bool) (at : TimeParts) (o : ObjectId) (l : List Effect) → first_open settled at l ≡ None →
    Starts (λ x. lt x at ≡ true → settled x.stamp ≢ None) o (marks l)
none-open settled at o [] h = tt
none-open settled at o (Put a x v ∷ l) h =
    let s = put-none settled (lt x at) (record { object = a; start = x }) (first_open settled at l) h in
    (λ e. s.1, none-open settled at o l s.0)
none-open settled at o (_ ∷ l) h = none-open settled at o l h

-- ---- where one is found

-- it is undecided, below the mark, and stands in the log
pub record Stands (settled : StampParts → Option Bool) (at : TimeParts) (l : List Effect) (w : Version) : Type 0 where
  pub value : Value
  pub has : Has (Put w.object w.start value) l
  pub unknown : settled w.start.stamp ≡ None
  pub below : lt w.start at ≡ true

-- and no such one comes before it
abbrev pub Leads : (StampParts → Option Bool) → TimeParts → List Effect → Version → Type 0
Leads settled at l w = (u : Version) → Stands settled at l u → is_lt (version_cmp u w) ≡ false

pub record Opens (settled : StampParts → Option Bool) (at : TimeParts) (l : List Effect) (w : Version) : Type 0 where
  pub stands : Stands settled at l w
  pub leads : Leads settled at l w

abbrev pub Finds : (StampParts → Option Bool) → TimeParts → List Effect → Option Version → Type 0
Finds settled at l None = (u : Version) → Stands settled at l u → ⊥
Finds settled at l (Some w) = Opens settled at l w

deeper : (settled : StampParts → Option Bool) (at : TimeParts) (f : Effect) (l : List Effect) (u : Version) → Stands settled at l u → Stands settled at (f ∷ l) u
deeper settled at f l u s = record { value = s.value; has = inr s.has; unknown = s.unknown; below = s.below }

-- the effect puts no undecided version below the mark
abbrev PutsNone : (StampParts → Option Bool) → TimeParts → Effect → Type 0
PutsNone settled at f = (o : ObjectId) (x : TimeParts) (v : Value) → f ≡ Put o x v → settled x.stamp ≡ None → lt x at ≡ true → ⊥

only-deeper : (settled : StampParts → Option Bool) (at : TimeParts) (f : Effect) (l : List Effect) → PutsNone settled at f → (u : Version) → Stands settled at (f ∷ l) u → Stands settled at l u
only-deeper settled at f l none u s = pick s.has
  where
    pick : Has (Put u.object u.start s.value) (f ∷ l) → Stands settled at l u
    pick (inl e) = absurd (none u.object u.start s.value e s.unknown s.below)
    pick (inr h) = record { value = s.value; has = h; unknown = s.unknown; below = s.below }

finds-passed : (settled : StampParts → Option Bool) (at : TimeParts) (f : Effect) (l : List Effect) (r : Option Version) → PutsNone settled at f → Finds settled at l r → Finds settled at (f ∷ l) r
finds-passed settled at f l None none h = λ u s. h u (only-deeper settled at f l none u s)
finds-passed settled at f l (Some w) none h = record { stands = deeper settled at f l w h.stands; leads = λ u s. h.leads u (only-deeper settled at f l none u s) }

abbrev version : ObjectId → TimeParts → Version
version o x = record { object = o; start = x }

alike : (o a : ObjectId) (x y : TimeParts) (w : Version) → o ≡ a → x ≡ y → is_lt (version_cmp (version o x) w) ≡ false → is_lt (version_cmp (version a y) w) ≡ false
alike o a x y w e f h = sym (ap (λ z. is_lt (version_cmp (version z y) w)) e) ∙ (sym (ap (λ z. is_lt (version_cmp (version o z) w)) f) ∙ h)

itself : (w : Version) → is_lt (version_cmp w w) ≡ false
itself w = ap is_lt (tied_itself version_cmp-total w)

-- what stands with one put more doesn't come before w, where neither it nor what stood does
leads-put : (settled : StampParts → Option Bool) (at : TimeParts) (o : ObjectId) (x : TimeParts) (v : Value) (l : List Effect) (w : Version) →
    is_lt (version_cmp (version o x) w) ≡ false → Leads settled at l w → Leads settled at (Put o x v ∷ l) w
leads-put settled at o x v l w this old u s = pick s.has
  where
    pick : Has (Put u.object u.start s.value) (Put o x v ∷ l) → is_lt (version_cmp u w) ≡ false
    pick (inl e) = alike o u.object x u.start w (cc e) (cc e) this
    pick (inr h) = old u (record { value = s.value; has = h; unknown = s.unknown; below = s.below })

stands-put : (settled : StampParts → Option Bool) (at : TimeParts) (o : ObjectId) (x : TimeParts) (v : Value) (l : List Effect) → settled x.stamp ≡ None → lt x at ≡ true →
    Stands settled at (Put o x v ∷ l) (version o x)
stands-put settled at o x v l e b = record { value = v; has = inl refl; unknown = e; below = b }

finds-lesser : (settled : StampParts → Option Bool) (at : TimeParts) (o : ObjectId) (x : TimeParts) (v : Value) (l : List Effect) (r : Option Version) → settled x.stamp ≡ None → lt x at ≡ true →
    Finds settled at l r → Opens settled at (Put o x v ∷ l) (lesser (version o x) r)
finds-lesser settled at o x v l None e b h = record { stands = stands-put settled at o x v l e b; leads = leads-put settled at o x v l (version o x) (itself (version o x)) (λ u s. absurd (h u s)) }
finds-lesser settled at o x v l (Some w) e b h = pick (is_lt (version_cmp w (version o x))) refl
  where
    pick : (c : Bool) → is_lt (version_cmp w (version o x)) ≡ c → Opens settled at (Put o x v ∷ l) (if c then w else version o x)
    pick true k = record {
      stands = deeper settled at (Put o x v) l w h.stands;
      leads = leads-put settled at o x v l w (never-both (version_cmp w (version o x)) (version_cmp (version o x) w) (version_cmp-total.antisymm (version o x) w) k) h.leads;
    }
    pick false k = record { stands = stands-put settled at o x v l e b; leads = leads-put settled at o x v l (version o x) (itself (version o x)) (λ u s. not-under u (version o x) w k (h.leads u s)) }

finds-when : (settled : StampParts → Option Bool) (at : TimeParts) (o : ObjectId) (x : TimeParts) (v : Value) (l : List Effect) (first : Option Version) (r : Option Bool) → settled x.stamp ≡ r → lt x at ≡ true →
    Finds settled at l first → Finds settled at (Put o x v ∷ l) (when_open r (version o x) first)
finds-when settled at o x v l first None e b h = finds-lesser settled at o x v l first e b h
finds-when settled at o x v l first (Some c) e b h =
    finds-passed settled at (Put o x v) l first (λ a y u is none below. cc (sym (ap (λ z. settled z.stamp) (starts is)) ∙ e, none)) h
  where
    starts : {a : ObjectId} {y : TimeParts} {u : Value} → Put o x v ≡ Put a y u → x ≡ y
    starts is = cc is

finds-put : (settled : StampParts → Option Bool) (at : TimeParts) (o : ObjectId) (x : TimeParts) (v : Value) (l : List Effect) (first : Option Version) (b : Bool) → lt x at ≡ b →
    Finds settled at l first → Finds settled at (Put o x v ∷ l) (with_version settled (if b then Some (version o x) else None) first)
finds-put settled at o x v l first true b h = finds-when settled at o x v l first (settled x.stamp) refl b h
finds-put settled at o x v l first false b h =
    finds-passed settled at (Put o x v) l first (λ a y u is none below. true≢false (sym below ∙ (sym (ap (λ z. lt z at) (starts is)) ∙ b))) h
  where
    starts : {a : ObjectId} {y : TimeParts} {u : Value} → Put o x v ≡ Put a y u → x ≡ y
    starts is = cc is

pub finds : (settled : StampParts → Option Bool) (at : TimeParts) (l : List Effect) → Finds settled at l (first_open settled at l)
finds settled at [] = λ u s. s.has
finds settled at (Put o x v ∷ l) = finds-put settled at o x v l (first_open settled at l) (lt x at) refl (finds settled at l)
finds settled at (Whole ∷ l) = finds-passed settled at Whole l (first_open settled at l) (λ o y v e. cc e) (finds settled at l)
finds settled at (f ∷ l) = finds-passed settled at f l (first_open settled at l) (λ o y v e. cc e) (finds settled at l)

pub found : (settled : StampParts → Option Bool) (at : TimeParts) (l : List Effect) (w : Version) → first_open settled at l ≡ Some w → Opens settled at l w
found settled at l w e = subst (λ r. Finds settled at l r) e (finds settled at l)
