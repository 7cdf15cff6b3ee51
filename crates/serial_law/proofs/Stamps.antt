-- the list of the stamps of deeds: rising, and complete
use Rattle.serial_law.proofs.Names.{TimeParts, StampParts, ObjectId, Value, Mark, Put, Stretch, same_stamp, stamp_lt, RunLogs, Try, deed_stamps, log_of, log_stamps, marks_at, put_stamps, stamp_if, stamp_in, try_stamps, marks, same_stamp-is, ◌≡◌, ℕ, ◌≤◌, zero, suc, Bool, true, false, List, [], ◌∷◌, refl, ◌∙◌, ap, subst, ◌⊎◌, inl, inr, arith, if◌then◌else◌, false≢true}
use Rattle.serial_law.proofs.LogLemmas.{le-cases, in-low, in-high, put-marks}
use Rattle.serial_law.proofs.Premises.{put-at}
use Rattle.serial_law.proofs.Puts.{PutAt}
use Rattle.serial_law.proofs.Times.{stamp_lt-else, stamp_lt-trans}

abbrev pub InS : List StampParts → StampParts → Type 0
InS [] x = ⊥
InS (s ∷ ss) x = (x ≡ s) ⊎ InS ss x

abbrev pub Rising : List StampParts → Type 0
Rising [] = Unit {0}
Rising (s ∷ ss) = ((x : StampParts) → InS ss x → stamp_lt s x ≡ true) × Rising ss

choose-in : (b c : Bool) (s t : StampParts) (ts us : List StampParts) (x : StampParts) → InS (if b then t ∷ ts else (if c then s ∷ t ∷ ts else t ∷ us)) x →
    (InS us x → (x ≡ s) ⊎ InS ts x) → (x ≡ s) ⊎ InS (t ∷ ts) x
choose-in true c s t ts us x j h = inr j
choose-in false true s t ts us x (inl e) h = inl e
choose-in false true s t ts us x (inr j) h = inr j
choose-in false false s t ts us x (inl e) h = inr (inl e)
choose-in false false s t ts us x (inr j) h = elim (h j) [ inl e ↦ inl e | inr i ↦ inr (inr i) ]

pub in-stamp : (s : StampParts) (ts : List StampParts) (x : StampParts) → InS (stamp_in s ts) x → (x ≡ s) ⊎ InS ts x
unfolding stamp_in
in-stamp s [] x (inl e) = inl e
in-stamp s [] x (inr j) = absurd j
in-stamp s (t ∷ ts) x j = choose-in (same_stamp s t) (stamp_lt s t) s t ts (stamp_in s ts) x j (in-stamp s ts x)

choose-new : (b c : Bool) (s t : StampParts) (ts us : List StampParts) → (b ≡ true → s ≡ t) → InS us s → InS (if b then t ∷ ts else (if c then s ∷ t ∷ ts else t ∷ us)) s
choose-new true c s t ts us e h = inl (e refl)
choose-new false true s t ts us e h = inl refl
choose-new false false s t ts us e h = inr h

pub stamp-new : (s : StampParts) (ts : List StampParts) → InS (stamp_in s ts) s
unfolding stamp_in
stamp-new s [] = inl refl
stamp-new s (t ∷ ts) = choose-new (same_stamp s t) (stamp_lt s t) s t ts (stamp_in s ts) (same_stamp-is s t) (stamp-new s ts)

choose-old : (b c : Bool) (s t : StampParts) (ts us : List StampParts) (x : StampParts) → InS (t ∷ ts) x → (InS ts x → InS us x) → InS (if b then t ∷ ts else (if c then s ∷ t ∷ ts else t ∷ us)) x
choose-old true c s t ts us x j h = j
choose-old false true s t ts us x j h = inr j
choose-old false false s t ts us x (inl e) h = inl e
choose-old false false s t ts us x (inr j) h = inr (h j)

pub stamp-old : (s : StampParts) (ts : List StampParts) (x : StampParts) → InS ts x → InS (stamp_in s ts) x
unfolding stamp_in
stamp-old s [] x j = absurd j
stamp-old s (t ∷ ts) x j = choose-old (same_stamp s t) (stamp_lt s t) s t ts (stamp_in s ts) x j (stamp-old s ts x)

above-all : (s t : StampParts) (ts : List StampParts) → stamp_lt s t ≡ true → ((x : StampParts) → InS ts x → stamp_lt t x ≡ true) → (x : StampParts) → InS (t ∷ ts) x → stamp_lt s x ≡ true
above-all s t ts h k x (inl e) = ap (λ z. stamp_lt s z) e ∙ h
above-all s t ts h k x (inr j) = stamp_lt-trans s t x h (k x j)

choose-rising : (b c : Bool) (s t : StampParts) (ts : List StampParts) → same_stamp s t ≡ b → stamp_lt s t ≡ c → Rising (t ∷ ts) → Rising (stamp_in s ts) →
    Rising (if b then t ∷ ts else (if c then s ∷ t ∷ ts else t ∷ stamp_in s ts))
choose-rising true c s t ts e f h k = h
choose-rising false true s t ts e f h k = (above-all s t ts f h.0, h)
choose-rising false false s t ts e f h k = ((λ x j. elim (in-stamp s ts x j) [ inl p ↦ ap (λ z. stamp_lt t z) p ∙ stamp_lt-else s t e f | inr i ↦ h.0 x i ]), k)

rising-in : (s : StampParts) (ts : List StampParts) → Rising ts → Rising (stamp_in s ts)
unfolding stamp_in
rising-in s [] h = ((λ x j. absurd j), tt)
rising-in s (t ∷ ts) h = choose-rising (same_stamp s t) (stamp_lt s t) s t ts refl refl h (rising-in s ts h.1)

rising-if : (b : Bool) (s : StampParts) (ss : List StampParts) → Rising ss → Rising (stamp_if b s ss)
unfolding stamp_if
rising-if true s ss h = rising-in s ss h
rising-if false s ss h = h

pub old-if : (b : Bool) (s : StampParts) (ss : List StampParts) (x : StampParts) → InS ss x → InS (stamp_if b s ss) x
unfolding stamp_if
old-if true s ss x j = stamp-old s ss x j
old-if false s ss x j = j

pub new-if : (b : Bool) (s : StampParts) (ss : List StampParts) → b ≡ true → InS (stamp_if b s ss) s
unfolding stamp_if
new-if true s ss e = stamp-new s ss
new-if false s ss e = absurd (false≢true e)

-- each listed stamp passes
abbrev All_pass : (StampParts → Bool) → List StampParts → Type 0
All_pass ok ss = (x : StampParts) → InS ss x → ok x ≡ true

pass-if : (ok : StampParts → Bool) (b : Bool) (s : StampParts) (ss : List StampParts) → ok s ≡ b → All_pass ok ss → All_pass ok (stamp_if b s ss)
unfolding stamp_if
pass-if ok true s ss e h x j = elim (in-stamp s ss x j) [ inl p ↦ ap ok p ∙ e | inr i ↦ h x i ]
pass-if ok false s ss e h x j = h x j

rising-puts : (ok : StampParts → Bool) (m : List Mark) (ss : List StampParts) → Rising ss → Rising (put_stamps ok m ss)
unfolding put_stamps
rising-puts ok [] ss h = h
rising-puts ok (Put o x v ∷ m) ss h = rising-if (ok x.stamp) x.stamp (put_stamps ok m ss) (rising-puts ok m ss h)
rising-puts ok (_ ∷ m) ss h = rising-puts ok m ss h

rising-logs : (k : RunLogs) (ok : StampParts → Bool) (n : ℕ) (ss : List StampParts) → Rising ss → Rising (log_stamps k ok n ss)
unfolding log_stamps
rising-logs k ok zero ss h = h
rising-logs k ok (suc n) ss h = rising-puts ok (marks (log_of k (suc n))) (log_stamps k ok n ss) (rising-logs k ok n ss h)

rising-tries : (ok : StampParts → Bool) (ts : List Try) → Rising (try_stamps ok ts)
unfolding try_stamps
rising-tries ok [] = tt
rising-tries ok (T ∷ ts) = rising-if (ok T.stamp) T.stamp (try_stamps ok ts) (rising-tries ok ts)

pub rising : (k : RunLogs) (ok : StampParts → Bool) → Rising (deed_stamps k ok)
rising k ok = rising-logs k ok k.repositories (try_stamps ok k.tries) (rising-tries ok k.tries)

pass-puts : (ok : StampParts → Bool) (m : List Mark) (ss : List StampParts) → All_pass ok ss → All_pass ok (put_stamps ok m ss)
unfolding put_stamps
pass-puts ok [] ss h = h
pass-puts ok (Put o x v ∷ m) ss h = pass-if ok (ok x.stamp) x.stamp (put_stamps ok m ss) refl (pass-puts ok m ss h)
pass-puts ok (_ ∷ m) ss h = pass-puts ok m ss h

pass-logs : (k : RunLogs) (ok : StampParts → Bool) (n : ℕ) (ss : List StampParts) → All_pass ok ss → All_pass ok (log_stamps k ok n ss)
unfolding log_stamps
pass-logs k ok zero ss h = h
pass-logs k ok (suc n) ss h = pass-puts ok (marks (log_of k (suc n))) (log_stamps k ok n ss) (pass-logs k ok n ss h)

pass-tries : (ok : StampParts → Bool) (ts : List Try) → All_pass ok (try_stamps ok ts)
unfolding try_stamps
pass-tries ok [] = λ x j. absurd j
pass-tries ok (T ∷ ts) = pass-if ok (ok T.stamp) T.stamp (try_stamps ok ts) refl (pass-tries ok ts)

pub listed-pass : (k : RunLogs) (ok : StampParts → Bool) (x : StampParts) → InS (deed_stamps k ok) x → ok x ≡ true
listed-pass k ok = pass-logs k ok k.repositories (try_stamps ok k.tries) (pass-tries ok k.tries)

pub keep-puts : (ok : StampParts → Bool) (m : List Mark) (ss : List StampParts) (x : StampParts) → InS ss x → InS (put_stamps ok m ss) x
unfolding put_stamps
keep-puts ok [] ss x j = j
keep-puts ok (Put o y v ∷ m) ss x j = old-if (ok y.stamp) y.stamp (put_stamps ok m ss) x (keep-puts ok m ss x j)
keep-puts ok (_ ∷ m) ss x j = keep-puts ok m ss x j

pub here-puts : (ok : StampParts → Bool) (m : List Mark) (ss : List StampParts) (o : ObjectId) (x : TimeParts) (v : Value) → PutAt o x v m → ok x.stamp ≡ true → InS (put_stamps ok m ss) x.stamp
unfolding put_stamps
here-puts ok [] ss o x v h e = absurd h
here-puts ok (Put a y w ∷ m) ss o x v (inl h) e =
    subst (λ z. InS (stamp_if (ok y.stamp) y.stamp (put_stamps ok m ss)) z) (ap (λ z. z.stamp) h.1)
    (new-if (ok y.stamp) y.stamp (put_stamps ok m ss) (ap (λ z. ok z.stamp) h.1 ∙ e))
here-puts ok (Put a y w ∷ m) ss o x v (inr h) e = old-if (ok y.stamp) y.stamp (put_stamps ok m ss) x.stamp (here-puts ok m ss o x v h e)
here-puts ok (Stretch a y ∷ m) ss o x v h e = here-puts ok m ss o x v h e
here-puts ok (_ ∷ m) ss o x v h e = here-puts ok m ss o x v h e

pub here-logs : (k : RunLogs) (ok : StampParts → Bool) (n r : ℕ) (ss : List StampParts) (o : ObjectId) (x : TimeParts) (v : Value) → 1 ≤ r → r ≤ n →
    PutAt o x v (marks (log_of k r)) → ok x.stamp ≡ true → InS (log_stamps k ok n ss) x.stamp
unfolding log_stamps
here-logs k ok zero r ss o x v h j p e = absurd (omega (arith, h, j))
here-logs k ok (suc n) r ss o x v h j p e =
    elim (le-cases r n j) [
      | inl q ↦ here-puts ok (marks (log_of k (suc n))) (log_stamps k ok n ss) o x v (subst (λ z. PutAt o x v (marks (log_of k z))) q p) e
      | inr q ↦ keep-puts ok (marks (log_of k (suc n))) (log_stamps k ok n ss) x.stamp (here-logs k ok n r ss o x v h q p e)
    ]

-- the stamp of each put of the run's logs is listed, where it passes
pub put-listed : (k : RunLogs) (ok : StampParts → Bool) (o : ObjectId) (x : TimeParts) (v : Value) → PutAt o x v (marks_at k o) → ok x.stamp ≡ true → InS (deed_stamps k ok) x.stamp
put-listed k ok o x v h e =
    let w = put-at k o x v h in
    here-logs k ok k.repositories o.repository (try_stamps ok k.tries) o x v (in-low k o.repository w.0) (in-high k o.repository w.0)
    (put-marks (log_of k o.repository) o x v w.1) e
