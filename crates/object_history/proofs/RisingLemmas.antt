-- Where the starts of versions rise, a walk from the newest on may end early.
use Rattle.object_history.proofs.Names.{TimeParts, same_time, lt, lt-trans, lt-asymmetric, lt-irreflexive, same_time-is, Value, Mark, Version, same_value, Settled, TrackParts, takes_over, joined, last_of, is_past, is_firm, some_version, value_under, tops, rising, read_up_to, ended_at, with_end, ◌≡◌, ◌==◌, ℕ, length, Bool, true, false, List, [], ◌∷◌, ◌++◌, reverse, refl, sym, ◌∙◌, ap, subst, Option, Some, None, ◌&&◌, ◌||◌, if◌then◌else◌, push, true≢false, reverse-append}
use Rattle.object_history.proofs.BoolLemmas.{and-left, and-right, not-false}
use Rattle.object_history.proofs.LookLemmas.{reverse-push, is_written}

tops-first : (v : Version) (vs : List Version) → rising (v ∷ vs) ≡ true → tops vs v.start ≡ true
unfolding rising
tops-first v vs h = and-left (tops vs v.start) (rising vs) h

rising-rest : (v : Version) (vs : List Version) → rising (v ∷ vs) ≡ true → rising vs ≡ true
unfolding rising
rising-rest v vs h = and-right (tops vs v.start) (rising vs) h

turned : (rest left : List Version) (v : Version) → rest ≡ push left v → reverse rest ≡ v ∷ reverse left
turned rest left v is = ap reverse is ∙ reverse-push left v

pub rising-step : (rest left : List Version) (v : Version) → rest ≡ push left v → rising (reverse rest) ≡ true → rising (reverse left) ≡ true
rising-step rest left v is h = rising-rest v (reverse left) (subst (λ vs. rising vs ≡ true) (turned rest left v is) h)

lower : (x : TimeParts) (v : Version) (vs : List Version) → tops vs v.start ≡ true → lt v.start x ≡ true → tops vs x ≡ true
lower x v [] h k = refl
lower x v (w ∷ vs) h k = lt-trans w.start v.start x h k

-- ---- what is found

joined-below : (passes : Bool) (v : Version) (r : Option Version) (x : TimeParts) → lt v.start x ≡ true → takes_over r x ≡ true → takes_over (joined (if passes then Some v else None) r) x ≡ true
joined-below false v r x h k = k
joined-below true v None x h k = h
joined-below true v (Some w) x h k = either (lt v.start w.start)
  where
    either : (b : Bool) → takes_over (if b then Some w else Some v) x ≡ true
    either true = k
    either false = h

-- what is found among versions below a time is below it
below : (ok : TimeParts → Bool) (x : TimeParts) (vs : List Version) → tops vs x ≡ true → rising vs ≡ true → takes_over (last_of ok vs) x ≡ true
unfolding last_of
below ok x [] h k = refl
below ok x (v ∷ vs) h k = joined-below (ok v.start) v (last_of ok vs) x h (below ok x vs (lower x v vs (tops-first v vs k) h) (rising-rest v vs k))

stays : (v : Version) (r : Option Version) → takes_over r v.start ≡ true → joined (Some v) r ≡ Some v
stays v None h = refl
stays v (Some w) h = ap (λ b. if b then Some w else Some v) (lt-asymmetric w.start v.start h)

newest-is : (ok : TimeParts → Bool) (v : Version) (vs : List Version) → rising (v ∷ vs) ≡ true → ok v.start ≡ true → Some v ≡ last_of ok (v ∷ vs)
unfolding last_of
newest-is ok v vs h passes =
    sym (ap (λ b. joined (if b then Some v else None) (last_of ok vs)) passes ∙ stays v (last_of ok vs) (below ok v.start vs (tops-first v vs h) (rising-rest v vs h)))

pub newest-found : (ok : TimeParts → Bool) (v : Version) (rest left : List Version) (all : Option Version) → rest ≡ push left v → rising (reverse rest) ≡ true → ok v.start ≡ true → last_of ok (reverse rest) ≡ all → Some v ≡ all
newest-found ok v rest left all is rises passes h =
    newest-is ok v (reverse left) (subst (λ vs. rising vs ≡ true) (turned rest left v is) rises) passes ∙ ap (last_of ok) (sym (turned rest left v is)) ∙ h

pub newest-step : (ok : TimeParts → Bool) (v : Version) (rest left : List Version) (all : Option Version) → rest ≡ push left v → ok v.start ≡ false → last_of ok (reverse rest) ≡ all → last_of ok (reverse left) ≡ all
unfolding last_of
newest-step ok v rest left all is fails h = ap (λ b. joined (if b then Some v else None) (last_of ok (reverse left))) (sym fails) ∙ ap (last_of ok) (sym (turned rest left v is)) ∙ h

-- ---- some version

-- where what starts below a time fails, no version below it passes
low-fail : (ok : Version → Bool) (x : TimeParts) → ((u : Version) → lt u.start x ≡ true → ok u ≡ false) → (vs : List Version) → tops vs x ≡ true → rising vs ≡ true → some_version ok vs ≡ false
unfolding some_version
low-fail ok x low [] h k = refl
low-fail ok x low (v ∷ vs) h k = ap (λ b. b || some_version ok vs) (low v h) ∙ low-fail ok x low vs (lower x v vs (tops-first v vs k) h) (rising-rest v vs k)

and-false : (a b : Bool) → b ≡ false → (a && b) ≡ false
and-false true b h = h
and-false false b h = refl

firm-low : (settled : Settled) (other : Option TimeParts) (v u : Version) → is_past other v.start ≡ false → lt u.start v.start ≡ true → is_firm settled other u.start ≡ false
firm-low settled None v u h k = absurd (true≢false h)
firm-low settled (Some o) v u h k = and-false _ (lt o u.start) (not-false (lt o u.start) (λ e. true≢false (sym (lt-trans o u.start v.start e k) ∙ h)))

firm-all : (settled : Settled) (other : Option TimeParts) (v : Version) (vs : List Version) → rising (v ∷ vs) ≡ true → is_past other v.start ≡ false → some_version (λ w. is_firm settled other w.start) (v ∷ vs) ≡ false
unfolding some_version
firm-all settled other v vs rises low =
    ap (λ b. b || some_version (λ w. is_firm settled other w.start) vs) (and-false _ (is_past other v.start) low)
    ∙ low-fail (λ w. is_firm settled other w.start) v.start (λ u k. firm-low settled other v u low k) vs (tops-first v vs rises) (rising-rest v vs rises)

-- below a version that isn't above the other start none is firm
pub firm-done : (settled : Settled) (other : Option TimeParts) (v : Version) (rest left : List Version) (all : Bool) → rest ≡ push left v → rising (reverse rest) ≡ true → is_past other v.start ≡ false
    → some_version (λ w. is_firm settled other w.start) (reverse rest) ≡ all → false ≡ all
firm-done settled other v rest left all is rises low h =
    sym (firm-all settled other v (reverse left) (subst (λ vs. rising vs ≡ true) (turned rest left v is) rises) low) ∙ ap (some_version (λ w. is_firm settled other w.start)) (sym (turned rest left v is)) ∙ h

written-low : (m : List Mark) (t : TimeParts) (w : Value) (u : Version) → lt u.start t ≡ true → is_written m t w u ≡ false
written-low m t w u k =
    ap (λ b. b && same_value (value_under m u.mark) w)
    (not-false (same_time u.start t) (λ e. true≢false (sym k ∙ ap (λ z. lt z t) (same_time-is u.start t e) ∙ lt-irreflexive t)))

-- below a version that starts below the time none has it as its start
pub written-done : (m : List Mark) (t : TimeParts) (w : Value) (v : Version) (rest left : List Version) (all : Bool) → rest ≡ push left v → rising (reverse rest) ≡ true → lt v.start t ≡ true
    → some_version (is_written m t w) (reverse rest) ≡ all → false ≡ all
written-done m t w v rest left all is rises low h =
    sym (low-fail (is_written m t w) t (λ u k. written-low m t w u k) (v ∷ reverse left) low (subst (λ vs. rising vs ≡ true) (turned rest left v is) rises))
    ∙ ap (some_version (is_written m t w)) (sym (turned rest left v is)) ∙ h

-- ---- a version more, and a version that is read further

and-true : (a b : Bool) → b ≡ true → a ≡ (a && b)
and-true true b h = sym h
and-true false b h = refl

more : (vs ws : List Version) (v : Version) → ws ≡ vs ++ v ∷ [] → reverse ws ≡ v ∷ reverse vs
more vs ws v is = ap reverse is ∙ reverse-append vs (v ∷ [])

pub rising-on : (vs ws : List Version) (v : Version) (on_top : Bool) → rising (reverse vs) ≡ true → on_top ≡ tops (reverse vs) v.start → ws ≡ vs ++ v ∷ [] → on_top ≡ rising (reverse ws)
unfolding rising
rising-on vs ws v on_top h k is = k ∙ and-true (tops (reverse vs) v.start) (rising (reverse vs)) h ∙ ap rising (sym (more vs ws v is))

pub rising-off : (vs ws : List Version) (v : Version) → rising (reverse vs) ≡ false → ws ≡ vs ++ v ∷ [] → false ≡ rising (reverse ws)
unfolding rising
rising-off vs ws v h is = sym (ap rising (more vs ws v is) ∙ and-false (tops (reverse vs) v.start) (rising (reverse vs)) h)

tops-ended : (p : ℕ) (x : TimeParts) (vs : List Version) (y : TimeParts) → tops (ended_at p x vs) y ≡ tops vs y
unfolding ended_at
tops-ended p x [] y = refl
tops-ended p x (v ∷ vs) y = either (p == length vs)
  where
    either : (b : Bool) → tops ((if b then read_up_to x v else v) ∷ ended_at p x vs) y ≡ lt v.start y
    either true = refl
    either false = refl

rising-either : (b : Bool) (p : ℕ) (x : TimeParts) (v : Version) (vs : List Version) → rising (ended_at p x vs) ≡ rising vs → rising ((if b then read_up_to x v else v) ∷ ended_at p x vs) ≡ (tops vs v.start && rising vs)
unfolding rising
rising-either true p x v vs h = ap (λ z. z && rising (ended_at p x vs)) (tops-ended p x vs v.start) ∙ ap (λ z. tops vs v.start && z) h
rising-either false p x v vs h = ap (λ z. z && rising (ended_at p x vs)) (tops-ended p x vs v.start) ∙ ap (λ z. tops vs v.start && z) h

rising-ended : (p : ℕ) (x : TimeParts) (vs : List Version) → rising (ended_at p x vs) ≡ rising vs
unfolding rising ended_at
rising-ended p x [] = refl
rising-ended p x (v ∷ vs) = rising-either (p == length vs) p x v vs (rising-ended p x vs)

pub rising-end : (place : Option ℕ) (x : TimeParts) (t : TrackParts) → rising (with_end place x t).versions ≡ rising t.versions
rising-end None x t = refl
rising-end (Some p) x t = rising-ended p x t.versions
