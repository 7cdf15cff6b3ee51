-- A stamp has versions just where a repository's log has a put of it; and the tries that are told are the run's.
use Rattle.std.proofs.Common.{◌≡◌, ◌⊎◌, inl, inr, ◌≤◌, ◌+◌, length, ℕ, zero, suc, Bool, true, false, List, [], ◌∷◌, ◌++◌, map, reverse, refl, sym, ◌∙◌, ap, subst, Option, Some, None, arith, if◌then◌else◌}
use Rattle.std.specs.Prelude.{nat_le}
use Rattle.std.proofs.lemmas.Bool.{false≢true, le-leb, leb-true}
use Rattle.std.proofs.Math.Nat.{eq-or-lt_of_le}
use Rattle.object_history.proofs.BoolLemmas.{and-both, and-left, and-right}
use Rattle.pseudo_time.specs.Lists.{Has}
use Rattle.pseudo_time.proofs.ListLemmas.{has-either, has-left, has-right}
use Rattle.pseudo_time.specs.StampParts.{StampParts}
use Rattle.pseudo_time.specs.TimeParts.{TimeParts}
use Rattle.pseudo_time.specs.Order.{lt, same_stamp}
use Rattle.pseudo_time.proofs.OrderLemmas.{same_stamp-is, same_stamp-of}
use Rattle.value_form.specs.declared.objects.ObjectId.{ObjectId}
use Rattle.value_form.specs.declared.values.Value.{Value}
use Rattle.effect_form.specs.declared.effects.Effect.{Effect}
use Rattle.effect_form.specs.declared.effects.Effect.TheVariants as effect
use Rattle.object_history.specs.declared.marks.Mark.{Mark}
use Rattle.object_history.specs.declared.marks.Mark.TheVariants as mark
use Rattle.repository_core.specs.Logs.{marks}
use Rattle.serial_model.specs.Deeds.{Version}
use Rattle.serial_model.specs.Questions.{Tree}
unfoldable use Rattle.serial_model.specs.Deeds.{put_in}
use Rattle.broker_core.specs.Book.{book, tries}
use Rattle.world_core.specs.Deeds.{RunLogs, Try, attempt, in_run, log_of, written}
unfoldable use Rattle.world_core.specs.Deeds.{find, puts_of, puts_to}
use Rattle.serial_law.proofs.Before.{find-is}
unfoldable use Rattle.log_replay.specs.Folders.{all_tries}
use Rattle.log_replay.specs.Folders.{log_at, tries_onto}
use Rattle.log_replay.specs.Tells.{HasPut}

-- ---- a put makes a version

IsSomething : List Version → Type 0
IsSomething vs = vs ≡ [] → ⊥

picked-some : (b : Bool) (w : Version) (p : Version) (ps qs : List Version) → IsSomething (if b then w ∷ p ∷ ps else p ∷ qs)
unfolding IsSomething
picked-some true w p ps qs e = cc e
picked-some false w p ps qs e = cc e

put-some : (w : Version) (vs : List Version) → IsSomething (put_in w vs)
unfolding put_in IsSomething
put-some w [] e = cc e
put-some w (p ∷ ps) e = picked-some (lt w.start p.start) w p ps (put_in w ps) e

if-some : (b : Bool) (w : Version) (vs : List Version) → IsSomething vs → IsSomething (if b then put_in w vs else vs)
if-some true w vs h = put-some w vs
if-some false w vs h = h

puts-keep : (s : StampParts) (m : List Mark) (vs : List Version) → IsSomething vs → IsSomething (puts_of s m vs)
unfolding puts_of
puts-keep s [] vs h = h
puts-keep s (mark.Put o x v ∷ m) vs h = if-some (same_stamp x.stamp s) (record { object = o; start = x; value = v }) (puts_of s m vs) (puts-keep s m vs h)
puts-keep s (mark.Stretch o x ∷ m) vs h = puts-keep s m vs h
puts-keep s (mark.Settle t c ∷ m) vs h = puts-keep s m vs h
puts-keep s (mark.Floor z ∷ m) vs h = puts-keep s m vs h

if-new : (b : Bool) (w : Version) (vs : List Version) → b ≡ true → IsSomething (if b then put_in w vs else vs)
if-new true w vs e = put-some w vs
if-new false w vs e = absurd (false≢true e)

puts-new : (s : StampParts) (log : List Effect) (vs : List Version) (o : ObjectId) (x : TimeParts) (v : Value) → Has (effect.Put o x v) log → x.stamp ≡ s → IsSomething (puts_of s (marks log) vs)
unfolding puts_of
puts-new s [] vs o x v h e = absurd h
puts-new s (effect.Put a y w ∷ log) vs o x v (inl h) e =
    let q : y ≡ x = cc h in if-new (same_stamp y.stamp s) (record { object = a; start = y; value = w }) (puts_of s (marks log) vs) (same_stamp-of y.stamp s (ap (λ (z : TimeParts). z.stamp) q ∙ e))
puts-new s (effect.Put a y w ∷ log) vs o x v (inr h) e = if-some (same_stamp y.stamp s) (record { object = a; start = y; value = w }) (puts_of s (marks log) vs) (puts-new s log vs o x v h e)
puts-new s (effect.Stretch a y ∷ log) vs o x v (inr h) e = puts-new s log vs o x v h e
puts-new s (effect.Begin t d ∷ log) vs o x v (inr h) e = puts-new s log vs o x v h e
puts-new s (effect.Decide t d ∷ log) vs o x v (inr h) e = puts-new s log vs o x v h e
puts-new s (effect.Learn t c ∷ log) vs o x v (inr h) e = puts-new s log vs o x v h e
puts-new s (effect.Run n ∷ log) vs o x v (inr h) e = puts-new s log vs o x v h e
puts-new s (effect.Act i a t n c b ∷ log) vs o x v (inr h) e = puts-new s log vs o x v h e
puts-new s (effect.Try i t ∷ log) vs o x v (inr h) e = puts-new s log vs o x v h e
puts-new s (effect.Got k w ∷ log) vs o x v (inr h) e = puts-new s log vs o x v h e
puts-new s (effect.Acked k ∷ log) vs o x v (inr h) e = puts-new s log vs o x v h e
puts-new s (effect.End i n ∷ log) vs o x v (inr h) e = puts-new s log vs o x v h e
puts-new s (effect.Mark at ∷ log) vs o x v (inr h) e = puts-new s log vs o x v h e
puts-new s (effect.Whole ∷ log) vs o x v (inr h) e = puts-new s log vs o x v h e
puts-new s (f ∷ log) vs o x v (inl h) e = absurd (cc h)

puts-to : (k : RunLogs) (s : StampParts) (n r : ℕ) (o : ObjectId) (x : TimeParts) (v : Value) → 1 ≤ r → r ≤ n → Has (effect.Put o x v) (log_of k r) → x.stamp ≡ s → IsSomething (puts_to k s n)
unfolding puts_to
puts-to k s zero r o x v l m h e = absurd (omega (arith, l, m))
puts-to k s (suc n) r o x v l m h e = elim (eq-or-lt_of_le m) [
  | inl q ↦ puts-new s (log_of k (suc n)) (puts_to k s n) o x v (subst (λ z. Has (effect.Put o x v) (log_of k z)) q h) e
  | inr q ↦ puts-keep s (marks (log_of k (suc n))) (puts_to k s n) (puts-to k s n r o x v l (omega (arith, q)) h e)
]

in-low : (k : RunLogs) (r : ℕ) → in_run k r ≡ true → 1 ≤ r
in-low k r h = leb-true 1 r (and-left (nat_le 1 r) _ h)

in-high : (k : RunLogs) (r : ℕ) → in_run k r ≡ true → r ≤ k.repositories
in-high k r h = leb-true r k.repositories (and-right (nat_le 1 r) _ h)

pub put-written : (k : RunLogs) (s : StampParts) → HasPut k s → written k s ≡ [] → ⊥
unfolding IsSomething
put-written k s p e = puts-to k s k.repositories p.repository p.object p.start p.value (in-low k p.repository p.inside) (in-high k p.repository p.inside) p.there p.same e

-- ---- a version is of a put

record OfPut (log : List Effect) (s : StampParts) : Type 0 where
  object : ObjectId
  start : TimeParts
  value : Value
  there : Has (effect.Put object start value) log
  same : start.stamp ≡ s

more-put : (f : Effect) (log : List Effect) (s : StampParts) → OfPut log s → OfPut (f ∷ log) s
more-put f log s p = record { object = p.object; start = p.start; value = p.value; there = inr p.there; same = p.same }

if-put : (b : Bool) (o : ObjectId) (x : TimeParts) (v : Value) (log : List Effect) (s : StampParts) (vs us : List Version) → same_stamp x.stamp s ≡ b → (us ≡ vs) ⊎ OfPut log s →
    ((if b then put_in (record { object = o; start = x; value = v }) us else us) ≡ vs) ⊎ OfPut (effect.Put o x v ∷ log) s
if-put true o x v log s vs us e h = inr (record { object = o; start = x; value = v; there = inl refl; same = same_stamp-is x.stamp s e })
if-put false o x v log s vs us e (inl q) = inl q
if-put false o x v log s vs us e (inr p) = inr (more-put (effect.Put o x v) log s p)

or-more : (f : Effect) (log : List Effect) (s : StampParts) (us vs : List Version) → (us ≡ vs) ⊎ OfPut log s → (us ≡ vs) ⊎ OfPut (f ∷ log) s
or-more f log s us vs (inl e) = inl e
or-more f log s us vs (inr p) = inr (more-put f log s p)

puts-or : (s : StampParts) (log : List Effect) (vs : List Version) → (puts_of s (marks log) vs ≡ vs) ⊎ OfPut log s
unfolding puts_of
puts-or s [] vs = inl refl
puts-or s (effect.Put o x v ∷ log) vs = if-put (same_stamp x.stamp s) o x v log s vs (puts_of s (marks log) vs) refl (puts-or s log vs)
puts-or s (effect.Stretch a y ∷ log) vs = or-more (effect.Stretch a y) log s (puts_of s (marks log) vs) vs (puts-or s log vs)
puts-or s (effect.Begin t d ∷ log) vs = or-more (effect.Begin t d) log s (puts_of s (marks log) vs) vs (puts-or s log vs)
puts-or s (effect.Decide t d ∷ log) vs = or-more (effect.Decide t d) log s (puts_of s (marks log) vs) vs (puts-or s log vs)
puts-or s (effect.Learn t c ∷ log) vs = or-more (effect.Learn t c) log s (puts_of s (marks log) vs) vs (puts-or s log vs)
puts-or s (effect.Run n ∷ log) vs = or-more (effect.Run n) log s (puts_of s (marks log) vs) vs (puts-or s log vs)
puts-or s (effect.Act i a t n c b ∷ log) vs = or-more (effect.Act i a t n c b) log s (puts_of s (marks log) vs) vs (puts-or s log vs)
puts-or s (effect.Try i t ∷ log) vs = or-more (effect.Try i t) log s (puts_of s (marks log) vs) vs (puts-or s log vs)
puts-or s (effect.Got k w ∷ log) vs = or-more (effect.Got k w) log s (puts_of s (marks log) vs) vs (puts-or s log vs)
puts-or s (effect.Acked k ∷ log) vs = or-more (effect.Acked k) log s (puts_of s (marks log) vs) vs (puts-or s log vs)
puts-or s (effect.End i n ∷ log) vs = or-more (effect.End i n) log s (puts_of s (marks log) vs) vs (puts-or s log vs)
puts-or s (effect.Mark at ∷ log) vs = or-more (effect.Mark at) log s (puts_of s (marks log) vs) vs (puts-or s log vs)
puts-or s (effect.Whole ∷ log) vs = or-more effect.Whole log s (puts_of s (marks log) vs) vs (puts-or s log vs)

to-or : (k : RunLogs) (s : StampParts) (n : ℕ) → n ≤ k.repositories → (puts_to k s n ≡ []) ⊎ HasPut k s
unfolding puts_to
to-or k s zero l = inl refl
to-or k s (suc n) l = elim (puts-or s (log_of k (suc n)) (puts_to k s n)) [
  | inl e ↦ elim (to-or k s n (omega (arith, l))) [ inl q ↦ inl (e ∙ q) | inr p ↦ inr p ]
  | inr p ↦ inr (record { repository = suc n; object = p.object; start = p.start; value = p.value; inside = and-both (nat_le 1 (suc n)) (nat_le (suc n) k.repositories) (le-leb 1 (suc n) (omega arith)) (le-leb (suc n) k.repositories l); there = p.there; same = p.same })
]

pub written-put : (k : RunLogs) (s : StampParts) → (written k s ≡ [] → ⊥) → HasPut k s
written-put k s n = elim (to-or k s k.repositories (omega arith)) [ inl e ↦ absurd (n e) | inr p ↦ p ]

-- ---- attempts by their stamp

pub find-none : (s : StampParts) (ts : List Try) → ((u : Try) → Has u ts → u.stamp ≡ s → ⊥) → find s ts ≡ None
find-none s ts h = by (find s ts) refl
  where
    by : (o : Option Try) → find s ts ≡ o → find s ts ≡ None
    by None e = e
    by (Some u) e = let w = find-is s ts u e in absurd (h u w.0 w.1)

found-none : (b : Bool) (t : Try) (r : Option Try) → b ≡ true → (if b then Some t else r) ≡ None → ⊥
found-none true t r e q = cc q
found-none false t r e q = false≢true e

rest-none : (b : Bool) (t : Try) (r : Option Try) → (if b then Some t else r) ≡ None → r ≡ None
rest-none true t r q = absurd (cc q)
rest-none false t r q = q

pub none-has : (s : StampParts) (ts : List Try) (t : Try) → find s ts ≡ None → Has t ts → t.stamp ≡ s → ⊥
unfolding find
none-has s [] t q h e = h
none-has s (u ∷ ts) t q (inl k) e = found-none (same_stamp u.stamp s) u (find s ts) (same_stamp-of u.stamp s (ap (λ (z : Try). z.stamp) k ∙ e)) q
none-has s (u ∷ ts) t q (inr h) e = none-has s ts t (rest-none (same_stamp u.stamp s) u (find s ts) q) h e

-- ---- the tries of sixteen brokers

module _ (script : List ℕ → Tree) (logs : ℕ → List Effect) where
  abbrev pub of_log : List Effect → List Try
  of_log log = map (attempt script) (tries (book log))

  -- the tries of brokers 1 to this number, as `all_tries` has them
  abbrev pub up_to : ℕ → List Try
  up_to zero = []
  up_to (suc b) = up_to b ++ of_log (logs (suc b))

  abbrev From : ℕ → List (List Effect) → Type 0
  From n list = (i : ℕ) → logs (n + suc i) ≡ reverse (log_at list (suc i))

  next : (n : ℕ) (log : List Effect) (list : List (List Effect)) → From n (log ∷ list) → (logs (suc n) ≡ reverse log) × From (suc n) list
  next n log list h = (ap logs (omega arith) ∙ h 0, λ i. ap logs (omega arith) ∙ h (suc i))

  onto-keeps : (list : List (List Effect)) (ts : List Try) (t : Try) → Has t ts → Has t (tries_onto script list ts)
  onto-keeps [] ts t h = h
  onto-keeps (log ∷ list) ts t h = onto-keeps list (of_log (reverse log) ++ ts) t (has-right (of_log (reverse log)) ts t h)

  -- those that come, those of the brokers below, and those of the brokers so far
  pub onto-has : (list : List (List Effect)) (n m : ℕ) (ts : List Try) → From n list → length list + n ≡ m → (t : Try) → Has t (tries_onto script list ts) → ((u : Try) → Has u ts → Has u (up_to n)) → Has t (up_to m)
  onto-has [] n m ts f e t h k = let z : n ≡ length {A = List Effect} [] + n = omega arith in subst (λ z. Has t (up_to z)) (z ∙ e) (k t h)
  onto-has (log ∷ list) n m ts f e t h k =
      let w = next n log list f in
      onto-has list (suc n) m (of_log (reverse log) ++ ts) w.1 (omega (arith, e)) t h (λ u j. elim (has-either (of_log (reverse log)) ts u j) [
        | inl i ↦ has-right (up_to n) (of_log (logs (suc n))) u (subst (λ l. Has u (of_log l)) (sym w.0) i)
        | inr i ↦ has-left (up_to n) (of_log (logs (suc n))) u (k u i)
      ])

  pub has-onto : (list : List (List Effect)) (n m : ℕ) (ts : List Try) → From n list → length list + n ≡ m → (t : Try) → Has t (up_to m) → ((u : Try) → Has u (up_to n) → Has u ts) → Has t (tries_onto script list ts)
  has-onto [] n m ts f e t h k = let z : n ≡ length {A = List Effect} [] + n = omega arith in k t (subst (λ z. Has t (up_to z)) (sym (z ∙ e)) h)
  has-onto (log ∷ list) n m ts f e t h k =
      let w = next n log list f in
      has-onto list (suc n) m (of_log (reverse log) ++ ts) w.1 (omega (arith, e)) t h (λ u j. elim (has-either (up_to n) (of_log (logs (suc n))) u j) [
        | inl i ↦ has-right (of_log (reverse log)) ts u (k u i)
        | inr i ↦ has-left (of_log (reverse log)) ts u (subst (λ l. Has u (of_log l)) w.0 i)
      ])
