-- The stamps of deeds: whose they are, and that rising lists of the same stamps are the same.
use Rattle.std.proofs.Common.{◌≡◌, ◌⊎◌, inl, inr, ℕ, zero, suc, ◌≤◌, Bool, true, false, List, [], ◌∷◌, Option, Some, refl, sym, ap, ◌∙◌, subst, arith, if◌then◌else◌}
use Rattle.std.proofs.lemmas.Bool.{false≢true, true≢false}
use Rattle.pseudo_time.specs.Lists.{Has}
use Rattle.pseudo_time.specs.StampParts.{StampParts}
use Rattle.pseudo_time.specs.TimeParts.{TimeParts}
use Rattle.pseudo_time.specs.Order.{same_stamp, stamp_lt}
use Rattle.value_form.specs.declared.objects.ObjectId.{ObjectId}
use Rattle.value_form.specs.declared.values.Value.{Value}
use Rattle.object_history.specs.declared.marks.Mark.{Mark}
use Rattle.object_history.specs.declared.marks.Mark.TheVariants as mark
use Rattle.repository_core.specs.Logs.{marks}
use Rattle.world_core.specs.Deeds.{RunLogs, Try, deed_stamps, find, log_of}
unfoldable use Rattle.world_core.specs.Deeds.{log_stamps, put_stamps, stamp_if, stamp_in, try_stamps}
use Rattle.serial_law.proofs.Names.{same_stamp-of}
use Rattle.serial_law.proofs.LogLemmas.{in-both, in-high, in-low, marks-put, put-marks}
use Rattle.serial_law.proofs.Puts.{PutAt}
use Rattle.serial_law.proofs.Stamps.{InS, Rising, here-logs, in-stamp, keep-puts, new-if, old-if}
use Rattle.serial_law.proofs.Times.{stamp_lt-self, stamp_lt-trans}
use Rattle.log_replay.specs.Tells.{HasPut}

-- ---- rising lists

below-not : (s x : StampParts) → stamp_lt s x ≡ true → stamp_lt x s ≡ true → ⊥
below-not s x h k = true≢false (sym (stamp_lt-trans s x s h k) ∙ stamp_lt-self s)

pub not-itself : (s x : StampParts) → stamp_lt s x ≡ true → x ≡ s → ⊥
not-itself s x h e = true≢false (sym h ∙ (ap (stamp_lt s) e ∙ stamp_lt-self s))

pub rising-same : (xs ys : List StampParts) → Rising xs → Rising ys → ((z : StampParts) → InS xs z → InS ys z) → ((z : StampParts) → InS ys z → InS xs z) → xs ≡ ys
rising-same [] [] h k to back = refl
rising-same [] (y ∷ ys) h k to back = absurd (back y (inl refl))
rising-same (x ∷ xs) [] h k to back = absurd (to x (inl refl))
rising-same (x ∷ xs) (y ∷ ys) h k to back =
    let e : x ≡ y = same (to x (inl refl)) (back y (inl refl)) in
    ap (λ z. z ∷ xs) e ∙ ap (λ zs. y ∷ zs) (rising-same xs ys h.1 k.1
    (λ z i. rest ys z (to z (inr i)) (λ q. not-itself x z (h.0 z i) (q ∙ sym e)))
    (λ z i. rest xs z (back z (inr i)) (λ q. not-itself y z (k.0 z i) (q ∙ e))))
  where
    same : (x ≡ y) ⊎ InS ys x → (y ≡ x) ⊎ InS xs y → x ≡ y
    same (inl e) j = e
    same (inr i) (inl e) = sym e
    same (inr i) (inr j) = absurd (below-not x y (h.0 y j) (k.0 x i))

    rest : {w : StampParts} (zs : List StampParts) (z : StampParts) → (z ≡ w) ⊎ InS zs z → (z ≡ w → ⊥) → InS zs z
    rest zs z (inl q) n = absurd (n q)
    rest zs z (inr i) n = i

-- ---- one stamp more

if-in : (b : Bool) (s : StampParts) (ss : List StampParts) (x : StampParts) → InS (stamp_if b s ss) x → (x ≡ s) ⊎ InS ss x
unfolding stamp_if
if-in true s ss x j = in-stamp s ss x j
if-in false s ss x j = inr j

-- ---- whose they are

-- the stamp of a put among these marks
record OfPut (m : List Mark) (s : StampParts) : Type 0 where
  object : ObjectId
  start : TimeParts
  value : Value
  there : PutAt object start value m
  same : start.stamp ≡ s

puts-in : (ok : StampParts → Bool) (m : List Mark) (ss : List StampParts) (s : StampParts) → InS (put_stamps ok m ss) s → OfPut m s ⊎ InS ss s
unfolding put_stamps
puts-in ok [] ss s j = inr j
puts-in ok (mark.Put o x v ∷ m) ss s j = elim (if-in (ok x.stamp) x.stamp (put_stamps ok m ss) s j) [
  | inl e ↦ inl (record { object = o; start = x; value = v; there = inl (refl, refl, refl); same = sym e })
  | inr i ↦ elim (puts-in ok m ss s i) [ inl p ↦ inl (record { object = p.object; start = p.start; value = p.value; there = inr p.there; same = p.same }) | inr i ↦ inr i ]
]
puts-in ok (mark.Stretch o x ∷ m) ss s j = elim (puts-in ok m ss s j) [ inl p ↦ inl (record { object = p.object; start = p.start; value = p.value; there = p.there; same = p.same }) | inr i ↦ inr i ]
puts-in ok (mark.Settle t c ∷ m) ss s j = elim (puts-in ok m ss s j) [ inl p ↦ inl (record { object = p.object; start = p.start; value = p.value; there = p.there; same = p.same }) | inr i ↦ inr i ]
puts-in ok (mark.Floor z ∷ m) ss s j = elim (puts-in ok m ss s j) [ inl p ↦ inl (record { object = p.object; start = p.start; value = p.value; there = p.there; same = p.same }) | inr i ↦ inr i ]

logs-in : (k : RunLogs) (ok : StampParts → Bool) (n : ℕ) (ss : List StampParts) (s : StampParts) → n ≤ k.repositories → InS (log_stamps k ok n ss) s → HasPut k s ⊎ InS ss s
unfolding log_stamps
logs-in k ok zero ss s l j = inr j
logs-in k ok (suc n) ss s l j = elim (puts-in ok (marks (log_of k (suc n))) (log_stamps k ok n ss) s j) [
  | inl p ↦ inl (record { repository = suc n; object = p.object; start = p.start; value = p.value; inside = in-both k (suc n) (omega arith) l; there = marks-put (log_of k (suc n)) p.object p.start p.value p.there; same = p.same })
  | inr i ↦ logs-in k ok n ss s (omega (arith, l)) i
]

tries-in : (ok : StampParts → Bool) (ts : List Try) (s : StampParts) → InS (try_stamps ok ts) s → (t : Try) × Has t ts × (t.stamp ≡ s)
unfolding try_stamps
tries-in ok [] s j = absurd j
tries-in ok (t ∷ ts) s j = elim (if-in (ok t.stamp) t.stamp (try_stamps ok ts) s j) [
  | inl e ↦ (t, inl refl, sym e)
  | inr i ↦ (let r = tries-in ok ts s i in (r.0, inr r.1, r.2))
]

-- each is that of a put or of a try
pub whose : (k : RunLogs) (ok : StampParts → Bool) (s : StampParts) → InS (deed_stamps k ok) s → HasPut k s ⊎ ((t : Try) × Has t k.tries × (t.stamp ≡ s))
whose k ok s j = elim (logs-in k ok k.repositories (try_stamps ok k.tries) s (omega arith) j) [ inl p ↦ inl p | inr i ↦ inr (tries-in ok k.tries s i) ]

-- ---- what is listed

pub put-listed : (k : RunLogs) (ok : StampParts → Bool) (s : StampParts) → HasPut k s → ok s ≡ true → InS (deed_stamps k ok) s
put-listed k ok s p e =
    subst (InS (deed_stamps k ok)) p.same (here-logs k ok k.repositories p.repository (try_stamps ok k.tries) p.object p.start p.value
    (in-low k p.repository p.inside) (in-high k p.repository p.inside) (put-marks (log_of k p.repository) p.object p.start p.value p.there) (ap ok p.same ∙ e))

keep-logs : (k : RunLogs) (ok : StampParts → Bool) (n : ℕ) (ss : List StampParts) (s : StampParts) → InS ss s → InS (log_stamps k ok n ss) s
unfolding log_stamps
keep-logs k ok zero ss s j = j
keep-logs k ok (suc n) ss s j = keep-puts ok (marks (log_of k (suc n))) (log_stamps k ok n ss) s (keep-logs k ok n ss s j)

here-tries : (ok : StampParts → Bool) (ts : List Try) (t : Try) → Has t ts → ok t.stamp ≡ true → InS (try_stamps ok ts) t.stamp
unfolding try_stamps
here-tries ok [] t h e = absurd h
here-tries ok (u ∷ ts) t (inl q) e =
    subst (λ (z : Try). InS (stamp_if (ok u.stamp) u.stamp (try_stamps ok ts)) z.stamp) q (new-if (ok u.stamp) u.stamp (try_stamps ok ts) (ap (λ (z : Try). ok z.stamp) q ∙ e))
here-tries ok (u ∷ ts) t (inr h) e = old-if (ok u.stamp) u.stamp (try_stamps ok ts) t.stamp (here-tries ok ts t h e)

pub try-listed : (k : RunLogs) (ok : StampParts → Bool) (t : Try) → Has t k.tries → ok t.stamp ≡ true → InS (deed_stamps k ok) t.stamp
try-listed k ok t h e = keep-logs k ok k.repositories (try_stamps ok k.tries) t.stamp (here-tries ok k.tries t h e)

-- ---- the attempt with a stamp

found-some : (b : Bool) (t : Try) (r : Option Try) → (b ≡ true) ⊎ ((u : Try) × (r ≡ Some u)) → (u : Try) × ((if b then Some t else r) ≡ Some u)
found-some true t r h = (t, refl)
found-some false t r (inl e) = absurd (false≢true e)
found-some false t r (inr w) = w

pub find-some : (s : StampParts) (ts : List Try) (t : Try) → Has t ts → t.stamp ≡ s → (u : Try) × (find s ts ≡ Some u)
unfolding find
find-some s [] t h e = absurd h
find-some s (u ∷ ts) t (inl q) e = found-some (same_stamp u.stamp s) u (find s ts) (inl (same_stamp-of u.stamp s (ap (λ (z : Try). z.stamp) q ∙ e)))
find-some s (u ∷ ts) t (inr h) e = found-some (same_stamp u.stamp s) u (find s ts) (inr (find-some s ts t h e))
