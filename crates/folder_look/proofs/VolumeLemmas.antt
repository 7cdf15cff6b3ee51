-- What the volumes of a repository give up, one after another; and that none of their versions is left out.
use Rattle.folder_look.proofs.Names.{filter, nat_tests, reverse-append, same_time, TimeParts, ObjectId, Effect, Mark, Seen, marks, falling, versions, current, current_from, log_at, Choice, VersionRow, has_start, logs_of, MediumLook, given_up_by, is_shown, row_of, rows_of, rows_with, starts_at, ◌≡◌, ◌⊎◌, inl, inr, ℕ, zero, suc, ◌+◌, ◌-◌, ◌≤◌, ◌<◌, Bool, true, false, List, [], ◌∷◌, ◌++◌, length, map, take, drop, reverse, get_or, nat_le, refl, sym, ◌∙◌, ap, subst, ◌&&◌, ◌||◌, not, if◌then◌else◌, append_assoc, Option, Some, None, arith, drop_more, same_time-is, is_volume, given_up, given_up_at}
use Rattle.std.proofs.lemmas.Bool.{true≢false, false≢true}
use Rattle.pseudo_time.specs.Lists.{Has}
use Rattle.forward_copy.specs.Wholes.{has_whole}
use Rattle.folder_look.specs.Once.{HasStart}

-- ---- one volume after another

-- what is still to be given up, where so many volumes were seen and this is the last one's log
abbrev pub going : Choice → ObjectId → ℕ → ℕ → List Effect → List (List Effect) → List VersionRow
going c o last zero before logs = given_up_by c o last logs
going c o last (suc v) before logs = given_up c o v before (take (last - v) logs)

drop-at : {X : Type 0} (xs : List X) (i : ℕ) (x : X) → i < length xs → x ≡ get_or xs i x → drop i xs ≡ x ∷ drop (i + 1) xs
drop-at xs i x less at = drop_more xs i x less ∙ ap (λ z. z ∷ drop (i + 1) xs) (sym at)

and-first : (a b : Bool) → (a && b) ≡ true → a ≡ true
and-first true b h = refl
and-first false b h = absurd (false≢true h)

and-second : (a b : Bool) → (a && b) ≡ true → b ≡ true
and-second true b h = h
and-second false b h = absurd (false≢true h)

one-more : (c : Choice) (o : ObjectId) (last v : ℕ) (before log : List Effect) (logs : List (List Effect)) → v ≤ last → going c o last v before (log ∷ logs) ≡ given_up_at c o v before log ++ going c o last (suc v) log logs
one-more c o last zero before log logs low = let k : last ≡ last - 0 = omega arith in ap (λ n. given_up c o 0 log (take n logs)) k
one-more c o last (suc v) before log logs low =
    let k : last - v ≡ suc (last - suc v) = omega (arith, low) in
    ap (λ n. given_up c o v before (take n (log ∷ logs))) k

-- an early volume adds what it gives up
pub going-on : (c : Choice) (o : ObjectId) (last volumes i : ℕ) (before : List Effect) (media : List MediumLook) (m : MediumLook) (first old new : List VersionRow) (all : List VersionRow) → i < length media → m ≡ get_or media i m →
    (nat_le volumes last && is_volume o.repository m) ≡ true → old ++ going c o last volumes before (logs_of o.repository (drop i media)) ≡ first ++ all → new ≡ old ++ given_up_at c o volumes before m.log →
    new ++ going c o last (suc volumes) m.log (logs_of o.repository (drop (i + 1) media)) ≡ first ++ all
going-on c o last volumes i before media m first old new all less at early so adds =
    let rest = logs_of o.repository (drop (i + 1) media) in
    let is = and-first (nat_le volumes last) (is_volume o.repository m) early in
    let mine = and-second (nat_le volumes last) (is_volume o.repository m) early in
    let low : volumes ≤ last = grind (arith, nat_tests) in
    let here : logs_of o.repository (drop i media) ≡ m.log ∷ rest = ap (logs_of o.repository) (drop-at media i m less at) ∙ ap (λ b. if b then m.log ∷ rest else rest) mine in
    ap (λ l. l ++ going c o last (suc volumes) m.log rest) adds ∙ append_assoc old (given_up_at c o volumes before m.log) (going c o last (suc volumes) m.log rest)
    ∙ ap (λ l. old ++ l) (sym (one-more c o last volumes before m.log rest low) ∙ ap (going c o last volumes before) (sym here)) ∙ so

late : (c : Choice) (o : ObjectId) (last volumes : ℕ) (before : List Effect) (log : List Effect) (rest : List (List Effect)) (mine : Bool) → (nat_le volumes last && mine) ≡ false →
    going c o last volumes before (if mine then log ∷ rest else rest) ≡ going c o last volumes before rest
late c o last volumes before log rest false h = refl
late c o last zero before log rest true h = absurd (zero-late h)
  where
    zero-late : (nat_le 0 last && true) ≡ false → ⊥
    zero-late e = absurd (grind (arith, nat_tests))
late c o last (suc v) before log rest true h = ap (λ n. given_up c o v before (take n (log ∷ rest))) none ∙ ap (λ n. given_up c o v before (take n rest)) (sym none)
  where
    none : last - v ≡ 0
    none = grind (arith, nat_tests)

-- another medium adds nothing
pub going-by : (c : Choice) (o : ObjectId) (last volumes i : ℕ) (before : List Effect) (media : List MediumLook) (m : MediumLook) (first old : List VersionRow) (all : List VersionRow) → i < length media → m ≡ get_or media i m →
    (nat_le volumes last && is_volume o.repository m) ≡ false → old ++ going c o last volumes before (logs_of o.repository (drop i media)) ≡ first ++ all →
    old ++ going c o last volumes before (logs_of o.repository (drop (i + 1) media)) ≡ first ++ all
going-by c o last volumes i before media m first old all less at early so =
    let rest = logs_of o.repository (drop (i + 1) media) in
    ap (λ l. old ++ l) (sym (late c o last volumes before m.log rest (is_volume o.repository m) early) ∙ ap (λ l. going c o last volumes before (logs_of o.repository l)) (sym (drop-at media i m less at))) ∙ so

-- the same by other names
pub steps-are : (c : Choice) (o : ObjectId) (last i : ℕ) (media : List MediumLook) (rows old : List VersionRow) (volumes v : ℕ) (before log : List Effect) (all : List VersionRow) → rows ≡ old → volumes ≡ v → before ≡ log →
    old ++ going c o last v log (logs_of o.repository (drop i media)) ≡ all → rows ++ going c o last volumes before (logs_of o.repository (drop i media)) ≡ all
steps-are c o last i media rows old volumes v before log all a b d h =
    ap (λ l. l ++ going c o last volumes before (logs_of o.repository (drop i media))) a ∙ ap (λ n. old ++ going c o last n before (logs_of o.repository (drop i media))) b ∙ ap (λ l. old ++ going c o last v l (logs_of o.repository (drop i media))) d ∙ h

-- ---- among these

has-split : {A : Type 0} (x : A) (xs ys : List A) → Has x (xs ++ ys) → Has x xs ⊎ Has x ys
has-split x [] ys h = inr h
has-split x (y ∷ xs) ys (inl e) = inl (inl e)
has-split x (y ∷ xs) ys (inr h) = by (has-split x xs ys h)
  where
    by : Has x xs ⊎ Has x ys → Has x (y ∷ xs) ⊎ Has x ys
    by (inl there) = inl (inr there)
    by (inr there) = inr there

has-behind : {A : Type 0} (x : A) (xs ys : List A) → Has x ys → Has x (xs ++ ys)
has-behind x [] ys h = h
has-behind x (y ∷ xs) ys h = inr (has-behind x xs ys h)

has-front : {A : Type 0} (x : A) (xs ys : List A) → Has x xs → Has x (xs ++ ys)
has-front x [] ys h = absurd h
has-front x (y ∷ xs) ys (inl e) = inl e
has-front x (y ∷ xs) ys (inr h) = inr (has-front x xs ys h)

has-reverse : {A : Type 0} (x : A) (xs : List A) → Has x xs → Has x (reverse xs)
has-reverse x [] h = absurd h
has-reverse x (y ∷ xs) (inl e) = subst (Has x) (sym (reverse-append (y ∷ []) xs)) (has-behind x (reverse xs) (y ∷ []) (inl e))
has-reverse x (y ∷ xs) (inr there) = subst (Has x) (sym (reverse-append (y ∷ []) xs)) (has-front x (reverse xs) (y ∷ []) (has-reverse x xs there))

has-filter : {A : Type 0} (p : A → Bool) (x : A) (xs : List A) → Has x xs → p x ≡ true → Has x (filter p xs)
has-filter p x [] h k = absurd h
has-filter p x (y ∷ xs) (inl e) k = subst (λ b. Has x (if b then y ∷ filter p xs else filter p xs)) (sym (ap p e ∙ k)) (inl e)
has-filter p x (y ∷ xs) (inr h) k = with-more (p y) (has-filter p x xs h k)
  where
    with-more : (b : Bool) → Has x (filter p xs) → Has x (if b then y ∷ filter p xs else filter p xs)
    with-more true h = inr h
    with-more false h = h

-- ---- rows that start there

start-front : (x : TimeParts) (rs ss : List VersionRow) → HasStart rs x → HasStart (rs ++ ss) x
start-front x [] ss h = absurd h
start-front x (r ∷ rs) ss (inl e) = inl e
start-front x (r ∷ rs) ss (inr h) = inr (start-front x rs ss h)

start-behind : (x : TimeParts) (rs ss : List VersionRow) → HasStart ss x → HasStart (rs ++ ss) x
start-behind x [] ss h = h
start-behind x (r ∷ rs) ss h = inr (start-behind x rs ss h)

start-rows : (older : Option ℕ) (o : ObjectId) (m : List Mark) (q : Seen) (qs : List Seen) → Has q qs → HasStart (map (row_of older o m) qs) q.start
start-rows older o m q [] h = absurd h
start-rows older o m q (p ∷ qs) (inl e) = inl (ap (λ (s : Seen). s.start) e)
start-rows older o m q (p ∷ qs) (inr h) = inr (start-rows older o m q qs h)

both : (a b : Bool) → a ≡ true → b ≡ false → (a && not b) ≡ true
both true false e f = refl
both true true e f = absurd (true≢false f)
both false b e f = absurd (false≢true e)

-- one that is chosen, where the next volume has none that starts there
start-shown : (c : Choice) (older : Option ℕ) (next : List Seen) (o : ObjectId) (m : List Mark) (q : Seen) → Has q (versions o m) → has_start c q.start ≡ true → starts_at next q.start ≡ false → HasStart (rows_with c older next o m) q.start
start-shown c older next o m q h chosen far =
    start-rows older o m q (filter (is_shown c next) (versions o m)) (has-filter (is_shown c next) q (versions o m) h (both (has_start c q.start) (starts_at next q.start) chosen far))

-- a version that starts there
record StartsAt (qs : List Seen) (x : TimeParts) : Type 0 where
  one : Seen
  among : Has one qs
  same : one.start ≡ x

found : (x : TimeParts) (qs : List Seen) → starts_at qs x ≡ true → StartsAt qs x
found x [] h = absurd (false≢true h)
found x (q ∷ qs) h = by (same_time x q.start) refl h (found x qs)
  where
    by : (b : Bool) → same_time x q.start ≡ b → (b || starts_at qs x) ≡ true → (starts_at qs x ≡ true → StartsAt qs x) → StartsAt (q ∷ qs) x
    by true e k again = record { one = q; among = inl refl; same = sym (same_time-is x q.start e) }
    by false e k again = let r = again k in record { one = r.one; among = inr r.among; same = r.same }

-- ---- the current volume is one of them

whole-low : (b : Bool) (so v k : ℕ) → so ≤ k → v ≤ k → (if b then v else so) ≤ k
whole-low true so v k f g = g
whole-low false so v k f g = f

current-low : (so v : ℕ) (logs : List (List Effect)) (k : ℕ) → so ≤ k → v + length logs ≤ suc k → current_from so v logs ≤ k
current-low so v [] k low few = low
current-low so v (log ∷ logs) k low few =
    current-low (if has_whole log then v else so) (suc v) logs k (whole-low (has_whole log) so v k low (omega (arith, few))) (omega (arith, few))

-- ---- none is left out

-- the object's versions in a volume
abbrev of_log : ObjectId → List Effect → List Seen
of_log o log = versions o (marks (reverse log))

module _ (c : Choice) (o : ObjectId) where
  -- it is shown among these, or there is one that starts there in the last of these volumes
  abbrev Reaches : ℕ → List Effect → List (List Effect) → ℕ → TimeParts → Type 0
  Reaches i before logs n x = HasStart (given_up c o i before (take n logs)) x ⊎ StartsAt (of_log o (log_at (before ∷ logs) n)) x

  onward : (i : ℕ) (before next : List Effect) (logs : List (List Effect)) (n : ℕ) (x : TimeParts) → Reaches (suc i) next logs n x → Reaches i before (next ∷ logs) (suc n) x
  onward i before next logs n x (inl k) = inl (start-behind x (rows_with c (Some i) (falling o (marks (reverse next))) o (marks (reverse before))) (given_up c o (suc i) next (take n logs)) k)
  onward i before next logs n x (inr k) = inr k

  -- one that the next volume hasn't is shown here; for one that it has go on there
  here-or-next : (i : ℕ) (before next : List Effect) (logs : List (List Effect)) (n : ℕ) (q : Seen) → Has q (of_log o before) → has_start c q.start ≡ true →
      ((p : Seen) → Has p (of_log o next) → has_start c p.start ≡ true → Reaches (suc i) next logs n p.start) → Reaches i before (next ∷ logs) (suc n) q.start
  here-or-next i before next logs n q h chosen go = by (starts_at (falling o (marks (reverse next))) q.start) refl
    where
      up : StartsAt (falling o (marks (reverse next))) q.start → Reaches i before (next ∷ logs) (suc n) q.start
      up r =
          onward i before next logs n q.start
          (subst (Reaches (suc i) next logs n) r.same (go r.one (has-reverse r.one (falling o (marks (reverse next))) r.among) (ap (has_start c) r.same ∙ chosen)))

      by : (b : Bool) → starts_at (falling o (marks (reverse next))) q.start ≡ b → Reaches i before (next ∷ logs) (suc n) q.start
      by true e = up (found q.start (falling o (marks (reverse next))) e)
      by false e =
          inl (start-front q.start (rows_with c (Some i) (falling o (marks (reverse next))) o (marks (reverse before))) (given_up c o (suc i) next (take n logs))
          (start-shown c (Some i) (falling o (marks (reverse next))) o (marks (reverse before)) q h chosen e))

  chain : (i : ℕ) (before : List Effect) (logs : List (List Effect)) (n v : ℕ) → n ≤ length logs → v ≤ n → (q : Seen) → Has q (of_log o (log_at (before ∷ logs) v)) → has_start c q.start ≡ true → Reaches i before logs n q.start
  chain i before logs zero zero few low q h chosen = inr (record { one = q; among = h; same = refl })
  chain i before logs zero (suc v) few low q h chosen = absurd (omega (arith, low))
  chain i before [] (suc n) v few low q h chosen = absurd (omega (arith, few))
  chain i before (next ∷ logs) (suc n) (suc v) few low q h chosen = onward i before next logs n q.start (chain (suc i) next logs n v (omega (arith, few)) (omega (arith, low)) q h chosen)
  chain i before (next ∷ logs) (suc n) zero few low q h chosen =
      here-or-next i before next logs n q h chosen (λ p among k. chain (suc i) next logs n zero (omega (arith, few)) (omega arith) p among k)

  -- a chosen version of the current volume, or of one before it, is shown
  pub none-lost : (logs : List (List Effect)) (v : ℕ) → v ≤ current logs → (q : Seen) → Has q (of_log o (log_at logs v)) → has_start c q.start ≡ true → HasStart (rows_of c o logs) q.start
  none-lost [] v low q h chosen = start-shown c None [] o (marks (reverse [])) q h chosen refl
  none-lost (log ∷ logs) v low q h chosen = by (chain 0 log logs (current (log ∷ logs)) v (current-low 0 0 (log ∷ logs) (length logs) (omega arith) (omega arith)) low q h chosen)
    where
      by : HasStart (given_up c o 0 log (take (current (log ∷ logs)) logs)) q.start ⊎ StartsAt (of_log o (log_at (log ∷ logs) (current (log ∷ logs)))) q.start → HasStart (rows_of c o (log ∷ logs)) q.start
      by (inl k) = start-front q.start (given_up c o 0 log (take (current (log ∷ logs)) logs)) (rows_with c None [] o (marks (reverse (log_at (log ∷ logs) (current (log ∷ logs)))))) k
      by (inr r) =
          start-behind q.start (given_up c o 0 log (take (current (log ∷ logs)) logs)) (rows_with c None [] o (marks (reverse (log_at (log ∷ logs) (current (log ∷ logs))))))
          (subst (HasStart (rows_with c None [] o (marks (reverse (log_at (log ∷ logs) (current (log ∷ logs))))))) r.same
          (start-shown c None [] o (marks (reverse (log_at (log ∷ logs) (current (log ∷ logs))))) r.one r.among (ap (has_start c) r.same ∙ chosen) refl))
