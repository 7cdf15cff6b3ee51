-- A track, and the map of all tracks, after a change.
use Rattle.std.specs.FinMap as finite
use Rattle.object_history.proofs.Names.{TimeParts, ObjectId, object_cmp, Version, top, same_object, TrackParts, Tracked, track_at, empty_track, read_up_to, ended_at, with_end, object_cmp-total, object_cmp-exact, ◌≡◌, ℕ, zero, suc, ◌+◌, ◌≤◌, ◌<◌, Bool, true, false, List, [], ◌∷◌, ◌++◌, length, reverse, refl, sym, ◌∙◌, ap, subst, Option, Some, ◌==◌, if◌then◌else◌, cond, slice_set, slice_index_or, arith, Result, Ok, Err, OnOk, OnErr, unwrap_or, is_eq, common_steps, reverse-append, length-reverse}
use Rattle.object_history.proofs.ObjectLemmas.{same_object-is}
use Rattle.object_history.proofs.MapLemmas.{found_at, Puts, get-entries_of}

pub on_ok : {T E P Q : Type 0} (r : Result T E) → (P → Q) → OnOk r P → OnOk r Q
on_ok (Ok x) f h = f h
on_ok (Err e) f h = tt

pub on_err : {T E P Q : Type 0} (r : Result T E) → (P → Q) → OnErr r P → OnErr r Q
on_err (Ok x) f h = tt
on_err (Err e) f h = f h

-- ---- the map

put_case : (b : Bool) (found at_key : Option TrackParts) (f : TrackParts → TrackParts) (new : TrackParts) → (b ≡ true → found ≡ at_key) → new ≡ f (unwrap_or at_key empty_track) →
    unwrap_or (cond b (Some new) found) empty_track ≡ (if b then f (unwrap_or found empty_track) else unwrap_or found empty_track)
put_case true found at_key f new h is = is ∙ ap (λ z. f (unwrap_or z empty_track)) (sym (h refl))
put_case false found at_key f new h is = refl

pub tracks-put : (es fs : List (ObjectId × TrackParts)) (old : Tracked) (k : ObjectId) (f : TrackParts → TrackParts) (new : TrackParts) → finite.from_entries {R = object_cmp} es ≡ old → Puts object_cmp k new es fs →
    new ≡ f (unwrap_or (found_at object_cmp es k) empty_track) → (o : ObjectId) → track_at (finite.from_entries {R = object_cmp} fs) o ≡ (if same_object k o then f (track_at old o) else track_at old o)
unfolding same_object
tracks-put es fs old k f new view puts is o =
    let at = get-entries_of object_cmp-total object_cmp-exact es o in
    let now = sym at ∙ ap (λ m. finite.get m o) view in
    ap (λ z. unwrap_or z empty_track) (get-entries_of object_cmp-total object_cmp-exact fs o ∙ puts o)
    ∙ put_case (is_eq (object_cmp k o)) (found_at object_cmp es o) (found_at object_cmp es k) f new (λ e. ap (found_at object_cmp es) (sym (same_object-is k o e))) is
    ∙ ap (λ z. if is_eq (object_cmp k o) then f (unwrap_or z empty_track) else unwrap_or z empty_track) now

if_same : (b : Bool) (t : TrackParts) → (if b then t else t) ≡ t
if_same true t = refl
if_same false t = refl

-- what was there is put again
pub tracks-same : (es fs : List (ObjectId × TrackParts)) (old : Tracked) (k : ObjectId) (new : TrackParts) → finite.from_entries {R = object_cmp} es ≡ old → Puts object_cmp k new es fs →
    new ≡ unwrap_or (found_at object_cmp es k) empty_track → (o : ObjectId) → track_at (finite.from_entries {R = object_cmp} fs) o ≡ track_at old o
tracks-same es fs old k new view puts is o = tracks-put es fs old k (λ t. t) new view puts is o ∙ if_same (same_object k o) (track_at old o)

-- ---- a version that is read up to a time

ended-first : (x : TimeParts) (vs : List Version) (v : Version) → ended_at 0 x (vs ++ v ∷ []) ≡ vs ++ read_up_to x v ∷ []
unfolding ended_at
ended-first x [] v = refl
ended-first x (w ∷ vs) v = ap (λ b. (if b then read_up_to x w else w) ∷ ended_at 0 x (vs ++ v ∷ [])) (differ (length (vs ++ v ∷ [])) (longer vs)) ∙ ap (λ z. w ∷ z) (ended-first x vs v)
  where
    differ : (n : ℕ) → 0 < n → (0 == n) ≡ false
    differ n h = grind (arith, common_steps)

    longer : (us : List Version) → 0 < length (us ++ v ∷ [])
    longer [] = omega arith
    longer (u ∷ us) = omega arith

ended-next : (p : ℕ) (x : TimeParts) (vs : List Version) (v : Version) → ended_at (suc p) x (vs ++ v ∷ []) ≡ ended_at p x vs ++ v ∷ []
unfolding ended_at
ended-next p x [] v = ap (λ b. (if b then read_up_to x v else v) ∷ []) (apart p)
  where
    apart : (p : ℕ) → (suc p == 0) ≡ false
    apart p = grind (arith, common_steps)
ended-next p x (w ∷ vs) v = ap (λ b. (if b then read_up_to x w else w) ∷ ended_at (suc p) x (vs ++ v ∷ [])) (shift (length (vs ++ v ∷ [])) (length vs) (more vs)) ∙ ap (λ z. (if p == length vs then read_up_to x w else w) ∷ z) (ended-next p x vs v)
  where
    shift : (n k : ℕ) → n ≡ k + 1 → (suc p == n) ≡ (p == k)
    shift n k h = grind (arith, common_steps)

    grow : (n k : ℕ) → n ≡ k + 1 → suc n ≡ suc k + 1
    grow n k h = omega arith

    more : (us : List Version) → length (us ++ v ∷ []) ≡ length us + 1
    more [] = refl
    more (u ∷ us) = grow (length (us ++ v ∷ [])) (length us) (more us)

pub reverse-set : (xs : List Version) (p : ℕ) (x : TimeParts) (w d : Version) → p < length xs → w ≡ read_up_to x (slice_index_or xs p d) → reverse (slice_set xs p w) ≡ ended_at p x (reverse xs)
reverse-set [] p x w d le is = absurd (omega arith)
reverse-set (y ∷ ys) zero x w d le is = reverse-append (w ∷ []) ys ∙ ap (λ z. reverse ys ++ z ∷ []) is ∙ sym (ended-first x (reverse ys) y) ∙ ap (ended_at 0 x) (sym (reverse-append (y ∷ []) ys))
reverse-set (y ∷ ys) (suc p) x w d le is =
    reverse-append (y ∷ []) (slice_set ys p w) ∙ ap (λ z. z ++ y ∷ []) (reverse-set ys p x w d (omega arith) is) ∙ sym (ended-next p x (reverse ys) y) ∙ ap (ended_at (suc p) x) (sym (reverse-append (y ∷ []) ys))

pub ended-beyond : (p : ℕ) (x : TimeParts) (vs : List Version) → length vs ≤ p → ended_at p x vs ≡ vs
unfolding ended_at
ended-beyond p x [] le = refl
ended-beyond p x (v ∷ vs) le = ap (λ b. (if b then read_up_to x v else v) ∷ ended_at p x vs) (differ p (length vs) le) ∙ ap (λ z. v ∷ z) (ended-beyond p x vs (omega arith))
  where
    differ : (p n : ℕ) → suc n ≤ p → (p == n) ≡ false
    differ p n h = grind (arith, common_steps)

-- ---- as the code goes

abbrev track : Option TimeParts → List Version → TrackParts
track origin versions = record { origin = origin; versions = versions }

pub track-ended : (origin : Option TimeParts) (xs : List Version) (place : Option ℕ) (p : ℕ) (x end : TimeParts) (at first d : Version) (old : TrackParts) → track origin (reverse xs) ≡ old → place ≡ Some p → p < length xs →
    first ≡ slice_index_or xs p first → at ≡ slice_index_or xs p at → Some end ≡ top x first.end →
    track origin (reverse (slice_set xs p (record { place = at.place; mark = at.mark; start = at.start; end = Some end }))) ≡ with_end place x old
track-ended origin xs place p x end at first d old view is below found there later =
    ap (track origin) (reverse-set xs p x _ at below (ap (λ e. record { place = at.place; mark = at.mark; start = at.start; end = e }) (later ∙ ap (λ z. top x z.end) (found ∙ in_range xs p first at below ∙ sym there)) ∙ ap (read_up_to x) there))
    ∙ ap (with_end (Some p) x) view ∙ ap (λ z. with_end z x old) (sym is)
  where
    in_range : (xs : List Version) (p : ℕ) (d e : Version) → p < length xs → slice_index_or xs p d ≡ slice_index_or xs p e
    in_range [] p d e h = absurd (omega arith)
    in_range (y ∷ ys) zero d e h = refl
    in_range (y ∷ ys) (suc p) d e h = in_range ys p d e (omega arith)

pub track-kept : (origin : Option TimeParts) (xs : List Version) (place : Option ℕ) (p : ℕ) (x : TimeParts) (old : TrackParts) → track origin (reverse xs) ≡ old → place ≡ Some p → length xs ≤ p → old ≡ with_end place x old
track-kept origin xs place p x old view is beyond =
    sym view ∙ ap (track origin) (sym (ended-beyond p x (reverse xs) (subst (λ n. n ≤ p) (sym (length-reverse xs)) beyond))) ∙ ap (with_end (Some p) x) view ∙ ap (λ z. with_end z x old) (sym is)
