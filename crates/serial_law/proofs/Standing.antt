-- What of a committed attempt, and of all that is committed, the logs as they stand tell.
use Rattle.serial_law.proofs.Names.{Every, Has, repository, StampParts, TimeParts, NodeId, ObjectId, Value, value_at, Effect, Post, Mark, Put, Seen, pick, scan, settle_of, version_count, same_object, value_of, same_object-is, Gone, Same, marks, RunLogs, Try, Version, committed, finals, in_run, log_of, marks_at, written, last_put, last_values, marks_to, RunFacts, KeepsPuts, WasGivenUp, whole_run, wrote, ◌≡◌, ℕ, zero, suc, ◌≤◌, ◌+◌, Bool, true, false, List, [], ◌∷◌, ◌++◌, refl, sym, ◌∙◌, ap, subst, Option, Some, None, ◌⊎◌, inl, inr, ◌&&◌, arith, if◌then◌else◌, true≢false, all_marks}
use Rattle.effect_form.specs.declared.effects.Effect.TheVariants as effect
use Rattle.trace_report.proofs.FinalLemmas.{last-value}
use Rattle.serial_law.proofs.Before.{finals-hold}
use Rattle.serial_law.proofs.Given.{In, in-to, to-in}
use Rattle.serial_law.proofs.Lines.{puts-are-lines}
use Rattle.serial_law.proofs.LogLemmas.{in-both, in-high, in-low, le-cases, marks-in, marks-put, put-marks}
use Rattle.serial_law.proofs.Puts.{PutAt, put-stands}
use Rattle.serial_law.proofs.Settled.{sure-no, sure-yes}
use Rattle.serial_law.proofs.WholeLemmas.{committed-whole, settle-whole, whole-has}

-- ---- lists of versions

has-of : (ps : List Version) (v : Version) → In ps v → Has v ps
has-of [] v j = j
has-of (p ∷ ps) v (inl e) = inl (sym e)
has-of (p ∷ ps) v (inr j) = inr (has-of ps v j)

every-in : (P : Version → Type 0) (ps : List Version) → ((v : Version) → In ps v → P v) → Every P ps
every-in P [] h = tt
every-in P (p ∷ ps) h = (h p (inl refl), every-in P ps (λ v j. h v (inr j)))

-- ---- marks of other objects

-- no put of the object stands among the marks
abbrev Lacks : ObjectId → List Mark → Type 0
Lacks o m = (x : TimeParts) (v : Value) → Has (Put o x v) m → ⊥

module _ (o : ObjectId) where
  other-object : (a : ObjectId) (x : TimeParts) (v : Value) (m : List Mark) → Lacks o (Put a x v ∷ m) → (b : Bool) → same_object a o ≡ b → b ≡ false
  other-object a x v m l true e = absurd (l x v (inl (ap (λ z. Put z x v) (same_object-is a o e))))
  other-object a x v m l false e = refl

  count-lacking : (m : List Mark) → Lacks o m → version_count o m ≡ 0
  unfolding version_count
  count-lacking [] l = refl
  count-lacking (Put a x v ∷ m) l = ap (λ b. if b then version_count o m + 1 else version_count o m) (other-object a x v m l (same_object a o) refl) ∙ count-lacking m (λ y w h. l y w (inr h))
  count-lacking (_ ∷ m) l = count-lacking m (λ y w h. l y w (inr h))

  module _ (ok : TimeParts → Bool) where
    scan-lacking : (m more : List Mark) → Lacks o m → scan ok o (m ++ more) ≡ scan ok o more
    unfolding scan pick
    scan-lacking [] more l = refl
    scan-lacking (Put a x v ∷ m) more l =
        ap (λ b. pick (b && ok x) (record { place = version_count o (m ++ more); start = x; value = v }) (scan ok o (m ++ more))) (other-object a x v m l (same_object a o) refl)
        ∙ scan-lacking m more (λ y w h. l y w (inr h))
    scan-lacking (_ ∷ m) more l = scan-lacking m more (λ y w h. l y w (inr h))

    scan-none : (m : List Mark) → Lacks o m → scan ok o m ≡ None
    unfolding scan pick
    scan-none [] l = refl
    scan-none (Put a x v ∷ m) l =
        ap (λ b. pick (b && ok x) (record { place = version_count o m; start = x; value = v }) (scan ok o m)) (other-object a x v m l (same_object a o) refl)
        ∙ scan-none m (λ y w h. l y w (inr h))
    scan-none (_ ∷ m) l = scan-none m (λ y w h. l y w (inr h))

    count-over : (m more : List Mark) → Lacks o more → version_count o (m ++ more) ≡ version_count o m
    unfolding version_count
    count-over [] more l = count-lacking more l
    count-over (Put a x v ∷ m) more l = ap (λ n. if same_object a o then n + 1 else n) (count-over m more l)
    count-over (_ ∷ m) more l = count-over m more l

    scan-over : (m more : List Mark) → Lacks o more → scan ok o (m ++ more) ≡ scan ok o m
    unfolding scan
    scan-over [] more l = scan-none more l
    scan-over (Put a x v ∷ m) more l = λ i. pick (same_object a o && ok x) (record { place = count-over m more l i; start = x; value = v }) (scan-over m more l i)
    scan-over (_ ∷ m) more l = scan-over m more l

-- ---- a run as its logs stand, with the facts of all versions that ever stood

same-value : (p q : Option Seen) → Same p q → value_of p ≡ value_of q
same-value None None h = refl
same-value (Some p) (Some q) h = h.1
same-value None (Some q) h = absurd h
same-value (Some p) None h = absurd h

module _ (olds : NodeId → List (List Effect)) (k : RunLogs) (ever : List Post) (f : RunFacts (whole_run olds k) ever) where
  abbrev all : RunLogs
  all = whole_run olds k

  here-all : (r : ℕ) (o : ObjectId) (x : TimeParts) (v : Value) → PutAt o x v (marks (log_of k r)) → PutAt o x v (marks (log_of all r))
  here-all r o x v h = put-marks (log_of all r) o x v (whole-has (olds (repository r)) (log_of k r) (effect.Put o x v) (marks-put (log_of k r) o x v h))

  same-committed : committed all ≡ committed k
  same-committed = λ i s. committed-whole s olds k i

  -- what a log of the run settles is so
  pub no-here : (r : ℕ) (s : StampParts) → in_run k r ≡ true → settle_of (marks (log_of k r)) s ≡ Some false → committed k s ≡ false
  no-here r s here h = sym (committed-whole s olds k) ∙ sure-no all ever f r s here (settle-whole (olds (repository r)) (log_of k r) s ∙ h)

  pub yes-here : (r : ℕ) (s : StampParts) → in_run k r ≡ true → settle_of (marks (log_of k r)) s ≡ Some true → committed k s ≡ true
  yes-here r s here h = sym (committed-whole s olds k) ∙ sure-yes all ever f r s here (settle-whole (olds (repository r)) (log_of k r) s ∙ h)

  -- ---- the puts of a committed attempt

  module _ (gone : (r : ℕ) (o : ObjectId) (x : TimeParts) (v : Value) → Has (effect.Put o x v) (log_of all r) → Has (effect.Put o x v) (log_of k r) ⊎ Gone (marks (log_of k r)) o x) where
    -- a put of the whole run stands, or was given up for a later one
    stands : (T : Try) → Has T k.tries → committed all T.stamp ≡ true → (v : Version) → In (written all T.stamp) v → Has v (written k T.stamp) ⊎ WasGivenUp (marks_at k v.object) v
    stands T a c v j =
        let w = in-to all T.stamp k.repositories v j in
        let here : in_run k w.0 ≡ true = in-both k w.0 w.1 w.2 in
        let put = marks-put (log_of all w.0) v.object v.start v.value w.3.0 in
        by w.0 w.1 w.2 here w.3.1 (f.put w.0 v.object v.start v.value here put).0 (gone w.0 v.object v.start v.value put)
      where
        by : (r : ℕ) → 1 ≤ r → r ≤ k.repositories → in_run k r ≡ true → v.start.stamp ≡ T.stamp → v.object.repository ≡ r →
            Has (effect.Put v.object v.start v.value) (log_of k r) ⊎ Gone (marks (log_of k r)) v.object v.start → Has v (written k T.stamp) ⊎ WasGivenUp (marks_at k v.object) v
        by r low high here own at (inl h) = inl (has-of (written k T.stamp) v (to-in k T.stamp k.repositories r v.object v.start v.value low high (put-marks (log_of k r) v.object v.start v.value h) own))
        by r low high here own at (inr (e, floor, below, inl dead)) =
            absurd (true≢false (sym c ∙ ap (committed all) (sym own) ∙ sure-no all ever f r v.start.stamp here (settle-whole (olds (repository r)) (log_of k r) v.start.stamp ∙ dead)))
        by r low high here own at (inr (e, floor, below, inr later)) = inr (subst (λ m. WasGivenUp m v) (ap (λ q. marks (log_of k q)) (sym at) ∙ marks-in k v.object (ap (in_run k) at ∙ here)) (e, floor, below, later))

    pub puts-stand : KeepsPuts k
    puts-stand T a c =
        let sure : committed all T.stamp ≡ true = committed-whole T.stamp olds k ∙ c in
        let lines : written all T.stamp ≡ wrote T = puts-are-lines all ever f T a sure in
        record {
          lines = every-in (λ v. Has v (wrote T)) (written k T.stamp) (λ v j. subst (Has v) lines (has-of (written all T.stamp) v (also v j)));
          puts = every-in (λ v. Has v (written k T.stamp) ⊎ WasGivenUp (marks_at k v.object) v) (wrote T) (λ v j. stands T a sure v (subst (λ ps. In ps v) (sym lines) j));
        }
      where
        also : (v : Version) → In (written k T.stamp) v → In (written all T.stamp) v
        also v j =
            let w = in-to k T.stamp k.repositories v j in
            to-in all T.stamp k.repositories w.0 v.object v.start v.value w.1 w.2 (here-all w.0 v.object v.start v.value w.3.0) w.3.1

  -- ---- finals

  own-put : (r : ℕ) (o : ObjectId) → in_run k r ≡ true → (o.repository ≡ r → ⊥) → Lacks o (marks (log_of k r))
  own-put r o here other x v h = other (f.put r o x v here (marks-put (log_of all r) o x v (here-all r o x v (put-stands (marks (log_of k r)) o x v h)))).0

  abbrev sure : TimeParts → Bool
  sure x = committed k x.stamp

  lacks-append : (o : ObjectId) (m more : List Mark) → Lacks o m → Lacks o more → Lacks o (m ++ more)
  lacks-append o [] more l n x v h = n x v h
  lacks-append o (g ∷ m) more l n x v (inl e) = l x v (inl e)
  lacks-append o (g ∷ m) more l n x v (inr h) = lacks-append o m more (λ y w j. l y w (inr j)) n x v h

  -- the logs of other repositories have no put of the object
  lacks-to : (o : ObjectId) (n : ℕ) → n ≤ k.repositories → ((r : ℕ) → 1 ≤ r → r ≤ n → o.repository ≡ r → ⊥) → Lacks o (marks_to k n)
  lacks-to o zero le other = λ x v h. h
  lacks-to o (suc n) le other =
      lacks-append o (marks (log_of k (suc n))) (marks_to k n) (own-put (suc n) o (in-both k (suc n) (omega arith) le) (other (suc n) (omega arith) (omega arith)))
      (lacks-to o n (omega (arith, le)) (λ r low high. other r low (omega (arith, high))))

  -- so its last put stands in the log of its own one
  last-own : (o : ObjectId) (n : ℕ) → n ≤ k.repositories → 1 ≤ o.repository → o.repository ≤ n → scan sure o (marks_to k n) ≡ scan sure o (marks (log_of k o.repository))
  last-own o zero le low high = absurd (omega (arith, low, high))
  last-own o (suc n) le low high = by (le-cases o.repository n high) (λ h. last-own o n (omega (arith, le)) low h)
    where
      by : (o.repository ≡ suc n) ⊎ (o.repository ≤ n) → (o.repository ≤ n → scan sure o (marks_to k n) ≡ scan sure o (marks (log_of k o.repository))) → scan sure o (marks (log_of k (suc n)) ++ marks_to k n) ≡ scan sure o (marks (log_of k o.repository))
      by (inl e) rest =
          scan-over o sure (marks (log_of k (suc n))) (marks_to k n) (lacks-to o n (omega (arith, le)) (λ r rl rh same. absurd (omega (arith, rh, same, e))))
          ∙ ap (λ r. scan sure o (marks (log_of k r))) (sym e)
      by (inr h) rest =
          scan-lacking o sure (marks (log_of k (suc n))) (marks_to k n) (own-put (suc n) o (in-both k (suc n) (omega arith) le) (λ same. absurd (omega (arith, h, same))))
          ∙ rest h

  module _ (same : (r : ℕ) (o : ObjectId) → in_run k r ≡ true → Same (scan sure o (marks (log_of k r))) (scan sure o (marks (log_of all r)))) where
    outside : (o : ObjectId) → in_run k o.repository ≡ false → marks_at all o ≡ []
    unfolding marks_at
    outside o e = ap (λ b. if b then marks (log_of all o.repository) else []) e

    last-all : (o : ObjectId) (b : Bool) → in_run k o.repository ≡ b → value_of (last_put k o) ≡ value_of (scan sure o (marks_at all o))
    unfolding scan
    last-all o true e =
        ap value_of (last-own o k.repositories (omega arith) (in-low k o.repository e) (in-high k o.repository e))
        ∙ same-value (scan sure o (marks (log_of k o.repository))) (scan sure o (marks (log_of all o.repository))) (same o.repository o e)
        ∙ ap (λ m. value_of (scan sure o m)) (marks-in all o e)
    last-all o false e =
        ap value_of (scan-none o sure (all_marks k) (lacks-to o k.repositories (omega arith) (λ r low high at. true≢false (sym (in-both k r low high) ∙ ap (in_run k) (sym at) ∙ e))))
        ∙ ap (λ m. value_of (scan sure o m)) (sym (outside o e))

    -- what the logs as they stand hold is what all committed deeds leave
    pub finals-stand : (o : ObjectId) → value_at (last_values k) o ≡ value_at (finals all) o
    finals-stand o =
        last-value k o ∙ last-all o (in_run k o.repository) refl
        ∙ ap (λ (c : StampParts → Bool). value_of (scan (λ x. c x.stamp) o (marks_at all o))) (sym same-committed)
        ∙ sym (finals-hold all ever f o)
