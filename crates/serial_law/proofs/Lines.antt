-- the puts of a committed try are the Wrote lines of its transcript
use Rattle.serial_law.proofs.Names.{TimeParts, StampParts, ObjectId, Value, Mark, Put, Post, Distinct, lt, same_stamp, Answer, Got, Stored, ToWrite, RunLogs, Try, Version, committed, in_run, lines_written, log_of, marks_at, put_in, puts_of, puts_to, written, RunFacts, asks, at, marks, Ends, Reads, Says, Tree, Writes, after, talked, Line, Has, lt-total, same_stamp-is, ◌≡◌, ◌≢◌, ℕ, ◌+◌, ◌≤◌, ◌<◌, zero, suc, length, Bool, true, false, List, [], ◌∷◌, refl, sym, ◌∙◌, ap, subst, Some, inl, inr, arith, if◌then◌else◌, true≢false, lt-irreflexive, lt-trans}
use Rattle.serial_law.proofs.LogLemmas.{marks-put, in-both}
use Rattle.serial_law.proofs.Own.{Kinds, Written, fronts, no-split, tail_of}
use Rattle.serial_law.proofs.Premises.{lone, write-stored, put-written}
use Rattle.serial_law.proofs.Talking.{kinds-all}
use Rattle.serial_law.proofs.Given.{In, in-put, in-of, in-to, version-path, written-at, at-written}
use Rattle.serial_law.proofs.Before.{whole-puts}
use Rattle.value_form.specs.declared.transcripts.Line.TheVariants as line
use Rattle.serial_law.proofs.Puts.{PutAt, starts-at}
use Rattle.serial_law.proofs.Times.{lt-step}

-- rising puts, no two with one start
abbrev pub Strict : List Version → Type 0
Strict [] = Unit {0}
Strict (p ∷ ps) = ((u : Version) → In ps u → lt p.start u.start ≡ true) × Strict ps

-- two such lists with the same puts are the same
pub same-lists : (ps qs : List Version) → Strict ps → Strict qs → ((v : Version) → In ps v → In qs v) → ((v : Version) → In qs v → In ps v) → ps ≡ qs
same-lists [] [] s t h j = refl
same-lists [] (q ∷ qs) s t h j = absurd (j q (inl refl))
same-lists (p ∷ ps) [] s t h j = absurd (h p (inl refl))
same-lists (p ∷ ps) (q ∷ qs) s t h j =
    let e : p ≡ q = first (h p (inl refl)) (j q (inl refl)) in
    ap (λ x. x ∷ ps) e ∙ ap (λ xs. q ∷ xs) (same-lists ps qs s.1 t.1
    (λ v i. rest p q ps qs e s.0 v i (h v (inr i)))
    (λ v i. rest q p qs ps (sym e) t.0 v i (j v (inr i))))
  where
    first : In (q ∷ qs) p → In (p ∷ ps) q → p ≡ q
    first (inl e) k = e
    first (inr i) (inl e) = sym e
    first (inr i) (inr k) = absurd (true≢false (sym (lt-trans q.start p.start q.start (t.0 p i) (s.0 q k)) ∙ lt-irreflexive q.start))

    rest : (p q : Version) (ps qs : List Version) → p ≡ q → ((u : Version) → In ps u → lt p.start u.start ≡ true) → (v : Version) → In ps v → In (q ∷ qs) v → In qs v
    rest p q ps qs e s v i (inl d) = absurd (true≢false (sym (s v i) ∙ ap (λ z. lt p.start z.start) (d ∙ sym e) ∙ lt-irreflexive p.start))
    rest p q ps qs e s v i (inr k) = k

-- the lines of a transcript
len-one : (n : ℕ) (q : List Answer) (a : Answer) (j : ℕ) → j ≡ (n + 1) + length q → j ≡ n + length (a ∷ q)
len-one n q a j h = omega (arith, h)

-- a Wrote line stands after a prefix of the answers, and has the front's step
pub line-of : (s : StampParts) (t : Tree) (ans : List Answer) (n : ℕ) (v : Version) → In (lines_written s n (talked t ans).lines) v →
    (pre : List Answer) × (v.start.stamp ≡ s) × (v.start.step ≡ n + length pre) × Written t ans v.object pre v.value
unfolding lines_written
line-of s (Ends e) ans n v j = absurd j
line-of s (Says w t) ans n v j = line-of s t ans n v j
line-of s (Reads o k) (Got w ∷ ans) n v j =
    let r = line-of s (k w) ans (n + 1) v j in
    (Got w ∷ r.0, r.1, len-one n r.0 (Got w) v.start.step r.2, ((r.3.0.0, ap (λ xs. Got w ∷ xs) r.3.0.1), r.3.1))
line-of s (Reads o k) (Stored ∷ ans) n v j = absurd j
line-of s _ [] n v j = absurd j
line-of s (Writes o w t) (Stored ∷ ans) n v (inl e) = ([], ap (λ z. z.start.stamp) e, (let p = ap (λ z. z.start.step) e in omega (arith, p)), ((ans, refl), sym (ap (λ z. Some (ToWrite z.object z.value)) e)))
line-of s (Writes o w t) (Stored ∷ ans) n v (inr j) =
    let r = line-of s t ans (n + 1) v j in
    (Stored ∷ r.0, r.1, len-one n r.0 Stored v.start.step r.2, ((r.3.0.0, ap (λ xs. Stored ∷ xs) r.3.0.1), r.3.1))
line-of s (Writes o w t) (Got u ∷ ans) n v j = absurd j

unfoldable pub version : ObjectId → StampParts → ℕ → Value → Version
version o s n v = record { object = o; start = record { stamp = s; step = n }; value = v }

step-path : (o p : ObjectId) (s : StampParts) (n m : ℕ) (v w : Value) → o ≡ p → n ≡ m → v ≡ w → version o s n v ≡ version p s m w
step-path o p s n m v w e f g = λ i. version (e i) s (f i) (g i)

write-object : (o p : ObjectId) (v w : Value) → Some (ToWrite o v) ≡ Some (ToWrite p w) → o ≡ p
write-object o p v w e = cc e

write-value : (o p : ObjectId) (v w : Value) → Some (ToWrite o v) ≡ Some (ToWrite p w) → v ≡ w
write-value o p v w e = cc e

unfoldable got_of : List Answer → Value → Value
got_of [] d = d
got_of (Got v ∷ ans) d = v
got_of (Stored ∷ ans) d = d

pub of-line : (s : StampParts) (t : Tree) (ans : List Answer) (n : ℕ) (o : ObjectId) (pre : List Answer) (w : Value) → Kinds t ans → Written t ans o pre w →
    In (lines_written s n (talked t ans).lines) (version o s (n + length pre) w)
unfolding lines_written tail_of got_of version
of-line s (Ends e) ans n o pre w k h = absurd (cc h.1)
of-line s (Says v t) ans n o pre w k h = of-line s t ans n o pre w k h
of-line s (Reads p f) (Got v ∷ ans) n o [] w k h = absurd (cc h.1)
of-line s (Reads p f) (Got v ∷ ans) n o (Stored ∷ q) w k h = absurd (cc (h.0.1))
of-line s (Reads p f) (Got v ∷ ans) n o (Got u ∷ q) w k h =
    let e : v ≡ u = ap (λ xs. got_of xs v) h.0.1 in
    let P : Value → Type 0 = λ x. asks (after (f x) q) ≡ Some (ToWrite o w) in
    subst (λ z. In (lines_written s (n + 1) (talked (f v) ans).lines) z)
    (step-path o o s ((n + 1) + length q) (n + length (Got u ∷ q)) w w refl (omega arith) refl)
    (of-line s (f v) ans (n + 1) o q w k ((h.0.0, ap (λ xs. tail_of xs) h.0.1), subst P (sym e) h.1))
of-line s (Reads p f) (Stored ∷ ans) n o pre w k h = absurd k
of-line s _ [] n o pre w k h = absurd (no-split pre h.0.0 Stored h.0.1)
of-line s (Writes p v t) (Stored ∷ ans) n o [] w k h = inl (step-path o p s (n + length {A = Answer} []) n w v (sym (write-object p o v w h.1)) (omega arith) (sym (write-value p o v w h.1)))
of-line s (Writes p v t) (Stored ∷ ans) n o (Got u ∷ q) w k h = absurd (cc (h.0.1))
of-line s (Writes p v t) (Stored ∷ ans) n o (Stored ∷ q) w k h =
    inr (subst (λ z. In (lines_written s (n + 1) (talked t ans).lines) z)
    (step-path o o s ((n + 1) + length q) (n + length (Stored ∷ q)) w w refl (omega arith) refl)
    (of-line s t ans (n + 1) o q w k ((h.0.0, ap (λ xs. tail_of xs) h.0.1), h.1)))
of-line s (Writes p v t) (Got u ∷ ans) n o pre w k h = absurd k

-- lines have rising steps
line-after : (s : StampParts) (n : ℕ) (ls : List Line) (v : Version) → In (lines_written s n ls) v → (v.start.stamp ≡ s) × (n ≤ v.start.step)
unfolding lines_written
line-after s n [] v j = absurd j
line-after s n (line.Print w ∷ ls) v j = line-after s n ls v j
line-after s n (line.Read o w ∷ ls) v j = let r = line-after s (n + 1) ls v j in (r.0, (let le = r.1 in omega (arith, le)))
line-after s n (line.Wrote o w ∷ ls) v (inl e) = (ap (λ z. z.start.stamp) e, (let p = ap (λ z. z.start.step) e in omega (arith, p)))
line-after s n (line.Wrote o w ∷ ls) v (inr j) = let r = line-after s (n + 1) ls v j in (r.0, (let le = r.1 in omega (arith, le)))

later-than : (s : StampParts) (n : ℕ) (x : TimeParts) → x.stamp ≡ s → n < x.step → lt (record { stamp = s; step = n }) x ≡ true
later-than s n x e h = subst (λ z. lt (record { stamp = z; step = n }) x ≡ true) e (lt-step x.stamp n x.step h)

pub strict-lines : (s : StampParts) (n : ℕ) (ls : List Line) → Strict (lines_written s n ls)
unfolding lines_written
strict-lines s n [] = tt
strict-lines s n (line.Print w ∷ ls) = strict-lines s n ls
strict-lines s n (line.Read o w ∷ ls) = strict-lines s (n + 1) ls
strict-lines s n (line.Wrote o w ∷ ls) = ((λ u j. let r = line-after s (n + 1) ls u j in later-than s n u.start r.0 (let le = r.1 in omega (arith, le))), strict-lines s (n + 1) ls)

-- the puts of a try have rising starts
strict-one : (b : Bool) (w p : Version) (ps : List Version) → lt w.start p.start ≡ b → Strict (p ∷ ps) → ((u : Version) → In (p ∷ ps) u → u.start ≡ w.start → ⊥) →
    Strict (put_in w ps) → Strict (if b then w ∷ p ∷ ps else p ∷ put_in w ps)
strict-one true w p ps e h k j = ((λ u i. below u i), h)
  where
    below : (u : Version) → In (p ∷ ps) u → lt w.start u.start ≡ true
    below u (inl q) = ap (λ z. lt w.start z.start) q ∙ e
    below u (inr i) = lt-trans w.start p.start u.start e (h.0 u i)
strict-one false w p ps e h k j =
    let pw : lt p.start w.start ≡ true = (elim (lt p.start w.start) as (λ b. lt p.start w.start ≡ b → lt p.start w.start ≡ true) [ true ↦ λ q. q | false ↦ λ q. absurd (k p (inl refl) (lt-total p.start w.start q e)) ]) refl in
    ((λ u i. elim (in-put w ps u i) [ inl q ↦ ap (λ z. lt p.start z.start) q ∙ pw | inr q ↦ h.0 u q ]), j)

strict-put : (w : Version) (ps : List Version) → Strict ps → ((u : Version) → In ps u → u.start ≡ w.start → ⊥) → Strict (put_in w ps)
unfolding put_in
strict-put w [] h k = ((λ u j. absurd j), tt)
strict-put w (p ∷ ps) h k = strict-one (lt w.start p.start) w p ps refl h k (strict-put w ps h.1 (λ u i. k u (inr i)))

strict-if : (b : Bool) (w : Version) (ps : List Version) → Strict ps → (b ≡ true → (u : Version) → In ps u → u.start ≡ w.start → ⊥) → Strict (if b then put_in w ps else ps)
strict-if true w ps h k = strict-put w ps h (k refl)
strict-if false w ps h k = h

-- puts of the stamp with one start are of one object
abbrev One : StampParts → List Mark → Type 0
One s m = (o p : ObjectId) (x : TimeParts) (v w : Value) → x.stamp ≡ s → PutAt o x v m → PutAt p x w m → o ≡ p

-- no put of the stamp among the marks starts where a listed one does
abbrev Apart : StampParts → List Mark → List Version → Type 0
Apart s m ps = (o : ObjectId) (x : TimeParts) (v : Value) → x.stamp ≡ s → PutAt o x v m → (u : Version) → In ps u → u.start ≡ x → ⊥

strict-of : (s : StampParts) (m : List Mark) (ps : List Version) → Distinct m → One s m → Apart s m ps → Strict ps → Strict (puts_of s m ps)
unfolding puts_of
strict-of s [] ps d h k j = j
strict-of s (Put o x v ∷ m) ps d h k j =
    strict-if (same_stamp x.stamp s) (record { object = o; start = x; value = v }) (puts_of s m ps)
    (strict-of s m ps d.1 (λ a b y w z e p q. h a b y w z e (inr p) (inr q)) (λ a y w e p. k a y w e (inr p)) j)
    (λ b u i e. elim (in-of s m ps u i) [
      | inl r ↦
          let own : PutAt u.object x u.value m = subst (λ y. PutAt u.object y u.value m) e r.0 in
          starts-at (λ y. y ≢ x) o x u.value m d.0 (subst (λ y. PutAt y x u.value m) (h u.object o x u.value v (same_stamp-is x.stamp s b) (inr own) (inl (refl, refl, refl))) own) refl
      | inr r ↦ k o x v (same_stamp-is x.stamp s b) (inl (refl, refl, refl)) u r e
    ])
strict-of s (_ ∷ m) ps d h k j = strict-of s m ps d h k j

-- a put of the try's stamp in a log of the run: what its script asks there
one-log : (k : RunLogs) (ever : List Post) → RunFacts k ever → (T : Try) → Has T k.tries → (r q : ℕ) → in_run k r ≡ true → in_run k q ≡ true →
    (o p : ObjectId) (x : TimeParts) (v w : Value) → x.stamp ≡ T.stamp → PutAt o x v (marks (log_of k r)) → PutAt p x w (marks (log_of k q)) → (o ≡ p) × (r ≡ q)
one-log k ever f T a r q i j o p x v w e h g =
    let hp = f.put r o x v i (marks-put (log_of k r) o x v h) in
    let gp = f.put q p x w j (marks-put (log_of k q) p x w g) in
    let ha = f.write_asked T x o v a hp.1 e in
    let ga = f.write_asked T x p w a gp.1 e in
    let n : length ha.0 ≡ length ga.0 = (let m = ha.3 in let m2 = ga.3 in omega (arith, m, m2)) in
    let obj : o ≡ p = write-object o p v w (sym ha.4 ∙ ap (λ xs. asks (after T.script xs)) (fronts ha.0 ga.0 ha.1 ga.1 (sym ha.2 ∙ ga.2) n) ∙ ga.4) in
    (obj, sym hp.0 ∙ ap (λ z. z.repository) obj ∙ gp.0)

strict-to : (k : RunLogs) (ever : List Post) → RunFacts k ever → (T : Try) → Has T k.tries → (n : ℕ) → n ≤ k.repositories → Strict (puts_to k T.stamp n)
unfolding puts_to
strict-to k ever f T a zero le = tt
strict-to k ever f T a (suc n) le =
    let here : in_run k (suc n) ≡ true = in-both k (suc n) (omega arith) le in
    strict-of T.stamp (marks (log_of k (suc n))) (puts_to k T.stamp n) (f.distinct (suc n) here)
    (λ o p x v w e h g. (one-log k ever f T a (suc n) (suc n) here here o p x v w e h g).0)
    (λ o x v e h u i q.
    let r = in-to k T.stamp n u i in
    let hi = r.2 in
    let eq : suc n ≡ r.0 = (one-log k ever f T a (suc n) r.0 here (in-both k r.0 r.1 (omega (arith, hi, le))) o u.object x v u.value e h (subst (λ y. PutAt u.object y u.value (marks (log_of k r.0))) q r.3.0)).1 in
    absurd (omega (arith, eq, hi)))
    (strict-to k ever f T a n (omega (arith, le)))

-- the puts of a committed try
pub puts-are-lines : (k : RunLogs) (ever : List Post) → RunFacts k ever → (T : Try) → Has T k.tries → committed k T.stamp ≡ true →
    written k T.stamp ≡ lines_written T.stamp 1 (talked T.script T.answers).lines
unfolding version
puts-are-lines k ever f T a c =
    same-lists (written k T.stamp) (lines_written T.stamp 1 (talked T.script T.answers).lines)
    (strict-to k ever f T a k.repositories (omega arith)) (strict-lines T.stamp 1 (talked T.script T.answers).lines)
    (λ v j.
    let w = written-at k ever f T.stamp v j in
    let p = put-written k ever f T a v.object v.start v.value w.0 w.1 (whole-puts k ever f T a c v.object v.start v.value w.0 w.1) in
    subst (λ z. In (lines_written T.stamp 1 (talked T.script T.answers).lines) z)
    (back v w.1 p.0 p.1)
    (of-line T.stamp T.script T.answers 1 v.object p.0 v.value (kinds-all T.script T.answers T.stamp (marks_at k) (committed k) (lone k ever f T a)) p.2))
    (λ v j.
    let r = line-of T.stamp T.script T.answers 1 v j in
    subst (λ z. In (written k T.stamp) z) (forth v r.0 r.1 r.2) (at-written k T.stamp v.object (at T.stamp r.0) v.value (write-stored k ever f T a v.object v.value r.0 r.3) refl))
  where
    time-path : (s t : StampParts) (n m : ℕ) → s ≡ t → n ≡ m → (let a : TimeParts = record { stamp = s; step = n } in let b : TimeParts = record { stamp = t; step = m } in a ≡ b)
    time-path s t n m e f = λ i. record { stamp = e i; step = f i }

    back : (v : Version) → v.start.stamp ≡ T.stamp → (pre : List Answer) → v.start.step ≡ length pre + 1 → version v.object T.stamp (1 + length pre) v.value ≡ v
    back v e pre n = version-path v.object v.object (record { stamp = T.stamp; step = 1 + length pre }) v.start v.value v.value refl
        (time-path T.stamp v.start.stamp (1 + length pre) v.start.step (sym e) (omega (arith, n))) refl

    forth : (v : Version) (pre : List Answer) → v.start.stamp ≡ T.stamp → v.start.step ≡ 1 + length pre →
        (let b : Version = record { object = v.object; start = at T.stamp pre; value = v.value } in b ≡ v)
    forth v pre e n = version-path v.object v.object (at T.stamp pre) v.start v.value v.value refl
        (time-path T.stamp v.start.stamp (length pre + 1) v.start.step (sym e) (omega (arith, n))) refl
