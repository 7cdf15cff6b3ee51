-- The versions of each stamp, as the code keeps them, are those of the run.
use Rattle.std.proofs.Common.{◌≡◌, ◌≤◌, ◌<◌, ℕ, zero, suc, ◌+◌, Bool, true, false, List, [], ◌∷◌, ◌++◌, length, take, drop, get_or, reverse, refl, sym, ◌∙◌, ap, subst, Option, Some, None, arith, if◌then◌else◌}
use Rattle.std.specs.Prelude.{cond}
use Rattle.std.specs.Option.{option_to_list}
use Rattle.std.proofs.Math.Seq.{drop-cons, take-suc}
use Rattle.std.proofs.lemmas.List.{reverse-append}
use Rattle.std.specs.Ordering.{is_eq}
use Rattle.std.specs.Global.{Vec}
use Rattle.pseudo_time.specs.StampParts.{StampParts, stamp_cmp}
use Rattle.pseudo_time.specs.TimeParts.{TimeParts}
use Rattle.pseudo_time.specs.Order.{lt}
use Rattle.pseudo_time.proofs.OrderLemmas.{same_stamp-is}
unfoldable use Rattle.pseudo_time.specs.Order.{same_stamp}
use Rattle.value_form.specs.declared.objects.ObjectId.{ObjectId}
use Rattle.value_form.specs.declared.values.Value.{Value}
use Rattle.effect_form.specs.declared.effects.Effect.{Effect}
use Rattle.effect_form.specs.declared.effects.Effect.TheVariants as effect
use Rattle.object_history.specs.declared.marks.Mark.{Mark}
use Rattle.object_history.specs.declared.marks.Mark.TheVariants as mark
use Rattle.repository_log.specs.Logs.{mark_of}
use Rattle.repository_core.specs.Logs.{marks}
use Rattle.serial_model.specs.Deeds.{Version}
unfoldable use Rattle.serial_model.specs.Deeds.{put_in}
use Rattle.world_core.specs.Deeds.{RunLogs, log_of, written}
unfoldable use Rattle.world_core.specs.Deeds.{puts_of, puts_to}
use Rattle.script_replay.specs.Attempts.{version_of, versions_of}
use Rattle.script_replay.specs.declared.attempts.Put.{Put}
use Rattle.log_replay.specs.Folders.{items_of, log_at}
use Rattle.log_replay.specs.Puts.{versions_in}
unfoldable use Rattle.log_replay.specs.Puts.{puts_by}

-- ---- the place of a version

pub here-in : (w : Version) (vs : List Version) (i : ℕ) (p : Version) → i < length vs → p ≡ get_or vs i p → lt w.start p.start ≡ true → put_in w (drop i vs) ≡ w ∷ drop i vs
unfolding put_in
here-in w vs i p low is l =
    let e : drop i vs ≡ p ∷ drop (suc i) vs = drop-cons vs i p low ∙ ap (λ z. z ∷ drop (suc i) vs) (sym is) in
    ap (put_in w) e ∙ (ap (λ (b : Bool). if b then w ∷ p ∷ drop (suc i) vs else p ∷ put_in w (drop (suc i) vs)) l ∙ ap (λ z. w ∷ z) (sym e))

pub past-in : (w : Version) (vs : List Version) (i : ℕ) (p : Version) → i < length vs → p ≡ get_or vs i p → lt w.start p.start ≡ false → put_in w (drop i vs) ≡ p ∷ put_in w (drop (suc i) vs)
unfolding put_in
past-in w vs i p low is l =
    let e : drop i vs ≡ p ∷ drop (suc i) vs = drop-cons vs i p low ∙ ap (λ z. z ∷ drop (suc i) vs) (sym is) in
    ap (put_in w) e ∙ ap (λ (b : Bool). if b then w ∷ p ∷ drop (suc i) vs else p ∷ put_in w (drop (suc i) vs)) l

-- ---- the map

puts-case : (b : Bool) (found at_key : Option (Vec Put)) (own : Vec Put) (w : Version) → (b ≡ true → found ≡ at_key) → versions_of own.items ≡ put_in w (versions_in at_key) →
    versions_in (cond b (Some own) (cond b None found)) ≡ (if b then put_in w (versions_in found) else versions_in found)
puts-case true found at_key own w h is = is ∙ ap (λ z. put_in w (versions_in z)) (sym (h refl))
puts-case false found at_key own w h is = refl

pub put-added : (old mid new : StampParts → Option (Vec Put)) (stamp : StampParts) (own more : Vec Put) (w : Version) → versions_of own.items ≡ versions_in (old stamp) →
    versions_of more.items ≡ put_in w (versions_of own.items) → ((s : StampParts) → mid s ≡ cond (is_eq (stamp_cmp stamp s)) None (old s)) → ((s : StampParts) → new s ≡ cond (is_eq (stamp_cmp stamp s)) (Some more) (mid s)) →
    (s : StampParts) → versions_in (new s) ≡ (if same_stamp stamp s then put_in w (versions_in (old s)) else versions_in (old s))
unfolding same_stamp
put-added old mid new stamp own more w is put mids news s =
    ap versions_in (news s ∙ ap (cond (is_eq (stamp_cmp stamp s)) (Some more)) (mids s))
    ∙ puts-case (is_eq (stamp_cmp stamp s)) (old s) (old stamp) more w (λ e. ap old (sym (same_stamp-is stamp s e))) (put ∙ ap (put_in w) is)

-- ---- an effect that puts nothing

pub nothing-put : (s : StampParts) (f : Effect) (ps : List Version) → ((o : ObjectId) (x : TimeParts) (v : Value) → f ≡ effect.Put o x v → ⊥) → puts_of s (option_to_list (mark_of f)) ps ≡ ps
unfolding puts_of
nothing-put s (effect.Put o x v) ps h = absurd (h o x v refl)
nothing-put s (effect.Stretch o x) ps h = refl
nothing-put s (effect.Begin t d) ps h = refl
nothing-put s (effect.Decide t d) ps h = refl
nothing-put s (effect.Learn t c) ps h = refl
nothing-put s (effect.Run n) ps h = refl
nothing-put s (effect.Act i a t n c b) ps h = refl
nothing-put s (effect.Try i t) ps h = refl
nothing-put s (effect.Got k v) ps h = refl
nothing-put s (effect.Acked k) ps h = refl
nothing-put s (effect.End i e) ps h = refl
nothing-put s (effect.Mark at) ps h = refl
nothing-put s effect.Whole ps h = refl

-- one mark more, in front of those of a log
pub puts-more : (s : StampParts) (ms m : List Mark) (ps : List Version) → puts_of s (ms ++ m) ps ≡ puts_of s ms (puts_of s m ps)
unfolding puts_of
puts-more s [] m ps = refl
puts-more s (mark.Put o x v ∷ ms) m ps = ap (λ z. if same_stamp x.stamp s then put_in (record { object = o; start = x; value = v }) z else z) (puts-more s ms m ps)
puts-more s (mark.Stretch o x ∷ ms) m ps = puts-more s ms m ps
puts-more s (mark.Settle t c ∷ ms) m ps = puts-more s ms m ps
puts-more s (mark.Floor z ∷ ms) m ps = puts-more s ms m ps

-- ---- all logs

-- the logs from number n + 1 on
LogsFrom : RunLogs → ℕ → List (List Effect) → Type 0
LogsFrom k n logs = (i : ℕ) → log_of k (n + suc i) ≡ reverse (log_at logs (suc i))

puts-from : (k : RunLogs) (s : StampParts) (logs : List (List Effect)) (n : ℕ) → LogsFrom k n logs → puts_by s logs (puts_to k s n) ≡ puts_to k s (length logs + n)
unfolding puts_by puts_to LogsFrom
puts-from k s [] n h = let e : n ≡ length {A = List Effect} [] + n = omega arith in ap (puts_to k s) e
puts-from k s (log ∷ logs) n h =
    let here : log_of k (suc n) ≡ reverse log = ap (log_of k) (omega arith) ∙ h 0 in
    ap (λ l. puts_by s logs (puts_of s (marks l) (puts_to k s n))) (sym here)
    ∙ (puts-from k s logs (suc n) (λ i. ap (log_of k) (omega arith) ∙ h (suc i)) ∙ ap (puts_to k s) (omega arith))

pub puts-written : (k : RunLogs) (logs : List (List Effect)) → k.repositories ≡ 16 → length logs ≡ 16 → ((r : ℕ) → log_of k r ≡ reverse (log_at logs r)) → (s : StampParts) → puts_by s logs [] ≡ written k s
unfolding puts_to LogsFrom
puts-written k logs n m h s = puts-from k s logs 0 (λ i. ap (log_of k) (omega arith) ∙ h (suc i)) ∙ ap (puts_to k s) (omega (arith, n, m))

-- ---- the effects of a log, oldest first

pub log-step : (s : StampParts) (log : List Effect) (i : ℕ) (f : Effect) → i < length log → f ≡ get_or log i f → (old mid new : List Version) → new ≡ puts_of s (option_to_list (mark_of f)) mid →
    mid ≡ puts_of s (marks (reverse (take i log))) old → new ≡ puts_of s (marks (reverse (take (i + 1) log))) old
log-step s log i f low is old mid new e h =
    let one : i + 1 ≡ suc i = omega arith in
    let next : take (i + 1) log ≡ take i log ++ f ∷ [] = ap (λ n. take n log) one ∙ (take-suc log i f low ∙ ap (λ (z : Effect). take i log ++ z ∷ []) (sym is)) in
    let turned : reverse (take (i + 1) log) ≡ f ∷ reverse (take i log) = ap reverse next ∙ reverse-append (take i log) (f ∷ []) in
    e ∙ (ap (puts_of s (option_to_list (mark_of f))) h ∙ (sym (puts-more s (option_to_list (mark_of f)) (marks (reverse (take i log))) old) ∙ ap (λ (l : List Effect). puts_of s (marks l) old) (sym turned)))

-- ---- a version in its place

pub in-place : (puts : List Put) (p : Put) (i : ℕ) → versions_of (take i puts ++ p ∷ drop i puts) ≡ take i (versions_of puts) ++ version_of p ∷ drop i (versions_of puts)
in-place puts p zero = refl
in-place [] p (suc i) = refl
in-place (q ∷ puts) p (suc i) = ap (λ z. version_of q ∷ z) (in-place puts p i)

-- ---- the place of a version, as it is looked for

drop-put : (puts : List Put) (i : ℕ) (x : Put) → i < length puts → x ≡ get_or puts i x → drop i (versions_of puts) ≡ version_of x ∷ drop (suc i) (versions_of puts)
drop-put [] i x low is = absurd (omega (arith, low))
drop-put (q ∷ puts) zero x low is = ap (λ z. version_of z ∷ versions_of puts) (sym is)
drop-put (q ∷ puts) (suc i) x low is = drop-put puts i x (omega (arith, low)) is

take-on : (vs : List Version) (i : ℕ) (x : Version) (rest : List Version) → drop i vs ≡ x ∷ rest → (z : List Version) → take i vs ++ x ∷ z ≡ take (suc i) vs ++ z
take-on [] zero x rest e z = absurd (cc e)
take-on [] (suc i) x rest e z = absurd (cc e)
take-on (v ∷ vs) zero x rest e z = let q : v ≡ x = cc e in ap (λ y. y ∷ z) (sym q)
take-on (v ∷ vs) (suc i) x rest e z = ap (λ ys. v ∷ ys) (take-on vs i x rest e z)

module _ (puts : List Put) (i : ℕ) (w : Version) (far : put_in w (versions_of puts) ≡ take i (versions_of puts) ++ put_in w (drop i (versions_of puts))) where
  pub place-here : (x : Put) → i < length puts → x ≡ get_or puts i x → lt w.start x.start ≡ true → put_in w (versions_of puts) ≡ take i (versions_of puts) ++ w ∷ drop i (versions_of puts)
  unfolding put_in
  place-here x low is l =
      let e = drop-put puts i x low is in
      far ∙ ap (λ z. take i (versions_of puts) ++ z) (ap (put_in w) e ∙ (ap (λ (b : Bool). if b then w ∷ version_of x ∷ drop (suc i) (versions_of puts) else version_of x ∷ put_in w (drop (suc i) (versions_of puts))) l ∙ ap (λ z. w ∷ z) (sym e)))

  pub place-past : (x : Put) → i < length puts → x ≡ get_or puts i x → lt w.start x.start ≡ false → put_in w (versions_of puts) ≡ take (i + 1) (versions_of puts) ++ put_in w (drop (i + 1) (versions_of puts))
  unfolding put_in
  place-past x low is l =
      let e = drop-put puts i x low is in
      let one : suc i ≡ i + 1 = omega arith in
      far ∙ (ap (λ z. take i (versions_of puts) ++ z) (ap (put_in w) e ∙ ap (λ (b : Bool). if b then w ∷ version_of x ∷ drop (suc i) (versions_of puts) else version_of x ∷ put_in w (drop (suc i) (versions_of puts))) l)
      ∙ (take-on (versions_of puts) i (version_of x) (drop (suc i) (versions_of puts)) e (put_in w (drop (suc i) (versions_of puts))) ∙ ap (λ n. take n (versions_of puts) ++ put_in w (drop n (versions_of puts))) one))

  pub place-end : length puts ≤ i → put_in w (versions_of puts) ≡ take i (versions_of puts) ++ w ∷ drop i (versions_of puts)
  unfolding put_in
  place-end l = let e = drop-end puts i l in far ∙ ap (λ z. take i (versions_of puts) ++ z) (ap (put_in w) e ∙ ap (λ z. w ∷ z) (sym e))
    where
      drop-end : (ps : List Put) (n : ℕ) → length ps ≤ n → drop n (versions_of ps) ≡ []
      drop-end [] zero l = refl
      drop-end [] (suc n) l = refl
      drop-end (p ∷ ps) zero l = absurd (omega (arith, l))
      drop-end (p ∷ ps) (suc n) l = drop-end ps n (omega (arith, l))

pub put-into : (old new seen : List Put) (p : Put) (i : ℕ) → new ≡ take i old ++ p ∷ drop i old → seen ≡ old → put_in (version_of p) (versions_of seen) ≡ take i (versions_of seen) ++ version_of p ∷ drop i (versions_of seen) →
    versions_of new ≡ put_in (version_of p) (versions_of old)
put-into old new seen p i e same h =
    ap versions_of e ∙ (in-place old p i ∙ sym (subst (λ (z : List Put). put_in (version_of p) (versions_of z) ≡ take i (versions_of z) ++ version_of p ∷ drop i (versions_of z)) same h))

pub put-effect : (s : StampParts) (f : Effect) (o : ObjectId) (x : TimeParts) (v u : Value) (ps new : List Version) → f ≡ effect.Put o x v → u ≡ v →
    new ≡ (if same_stamp x.stamp s then put_in (record { object = o; start = x; value = u }) ps else ps) → new ≡ puts_of s (option_to_list (mark_of f)) ps
unfolding puts_of
put-effect s f o x v u ps new e q h =
    h ∙ (ap (λ (z : Value). if same_stamp x.stamp s then put_in (record { object = o; start = x; value = z }) ps else ps) q ∙ ap (λ (g : Effect). puts_of s (option_to_list (mark_of g)) ps) (sym e))

pub log-init : (s : StampParts) (log : List Effect) (ps : List Version) → ps ≡ puts_of s (marks (reverse (take 0 log))) ps
unfolding puts_of
log-init s [] ps = refl
log-init s (f ∷ log) ps = refl

-- one log more
pub all-step : (s : StampParts) (logs : List (Vec Effect)) (i : ℕ) (log : Vec Effect) (effects : List Effect) (old new end : List Version) → i < length logs → log ≡ get_or logs i log → effects ≡ log.items →
    new ≡ puts_of s (marks (reverse effects)) old → puts_by s (items_of (drop i logs)) old ≡ end → puts_by s (items_of (drop (i + 1) logs)) new ≡ end
unfolding puts_by
all-step s logs i log effects old new end low is same e h =
    let one : i + 1 ≡ suc i = omega arith in
    let here : drop i logs ≡ log ∷ drop (i + 1) logs = drop-cons logs i log low ∙ (ap (λ (z : Vec Effect). z ∷ drop (suc i) logs) (sym is) ∙ ap (λ n. log ∷ drop n logs) (sym one)) in
    ap (puts_by s (items_of (drop (i + 1) logs))) (e ∙ ap (λ l. puts_of s (marks (reverse l)) old) same) ∙ (sym (ap (λ (z : List (Vec Effect)). puts_by s (items_of z) old) here) ∙ h)

pub all-end : (s : StampParts) (logs : List (Vec Effect)) (i : ℕ) (old end : List Version) → length logs ≤ i → puts_by s (items_of (drop i logs)) old ≡ end → old ≡ end
unfolding puts_by
all-end s logs i old end l h = sym (ap (λ (z : List (Vec Effect)). puts_by s (items_of z) old) (drop-all logs i l)) ∙ h
  where
    drop-all : (xs : List (Vec Effect)) (n : ℕ) → length xs ≤ n → drop n xs ≡ []
    drop-all [] zero l = refl
    drop-all [] (suc n) l = refl
    drop-all (x ∷ xs) zero l = absurd (omega (arith, l))
    drop-all (x ∷ xs) (suc n) l = drop-all xs n (omega (arith, l))
