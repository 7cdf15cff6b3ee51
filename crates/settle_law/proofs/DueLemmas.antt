-- What is due at a moment that a repository hears has expired after it, and stays so while nothing begins.
use Rattle.std.proofs.Common.{◌≡◌, ◌<◌, ℕ, Bool, true, false, List, [], ◌∷◌, inl, inr, refl, sym, ap, subst, ◌∙◌, Option, Some, None, nat_le, if◌then◌else◌, arith}
use Rattle.std.proofs.lemmas.Bool.{false≢true, true≢false}
use Rattle.std.proofs.lemmas.Bool.Decides.{nat_tests}
use Rattle.std.specs.BTreeSet.{insert_key}
use Rattle.std.specs.Ordering.{match_ordering}
use Rattle.std.specs.declared.cmp.Ordering.{Ordering}
use Rattle.std.specs.declared.cmp.Ordering.TheVariants.{Less, Equal, Greater}
use Rattle.pseudo_time.proofs.OrderLemmas.{same_stamp-is, same_stamp-self, stamp_cmp-exact}
use Rattle.pseudo_time.specs.Lists.{Has}
use Rattle.pseudo_time.specs.Order.{same_stamp}
use Rattle.pseudo_time.specs.StampParts.{StampParts, stamp_cmp}
use Rattle.pseudo_time.specs.declared.decisions.Decision.{Decision}
use Rattle.pseudo_time.specs.declared.decisions.Decision.TheVariants as decision
use Rattle.commit_record.specs.declared.states.RecordState.{RecordState}
use Rattle.commit_record.specs.declared.states.RecordState.TheVariants.{Unknown, Decided}
use Rattle.effect_form.specs.declared.effects.Effect.{Effect}
use Rattle.effect_form.specs.declared.effects.Effect.TheVariants as effect
use Rattle.object_history.specs.History.{or_else}
use Rattle.repository_core.proofs.HearLemmas.{again-now, record-release}
use Rattle.repository_core.proofs.RowLemmas.{tell-now}
use Rattle.repository_core.specs.Hands.{Hand, now, note}
use Rattle.repository_core.specs.Hearing.{ask_again, expire, expire_all, expire_as, on_moment}
use Rattle.repository_core.specs.Rows.{learn_as, on_learn, release, tell_askers}
use Rattle.repository_log.specs.Expiries.{due, is_due}
use Rattle.repository_log.specs.Logs.{as_decision, begun, begun_by, decided_by, first_said, known, record_from, record_of, with_begun}
unfoldable use Rattle.repository_log.specs.Logs.{decision_of, first_begin}
use Rattle.world_facts.proofs.Growths.{has-filter}

-- this record is unknown until this deadline
abbrev pub Stands : List Effect → StampParts → ℕ → Type 0
Stands l s d = record_of l s ≡ Some (Unknown d)

none-some : {X : Type 0} {x : X} → None ≡ Some x → ⊥
none-some e = cc e

decided-unknown : {x : Decision} {d : ℕ} → Some (Decided x) ≡ Some (Unknown d) → ⊥
decided-unknown e = cc e

-- ---- effects that begin nothing

said-back : (t : Option ℕ) (u : Option (StampParts × Decision)) (before : Option Decision) (s : StampParts) (d : ℕ) → record_from t (first_said u before s) ≡ Some (Unknown d) → record_from t before ≡ Some (Unknown d)
said-back None u before s d h = absurd (none-some h)
said-back (Some t) None before s d h = h
said-back (Some t) (Some e) (Some x) s d h = go (same_stamp e.0 s) h
  where
    go : (b : Bool) → record_from (Some t) (if b then or_else (Some x) e.1 else Some x) ≡ Some (Unknown d) → record_from (Some t) (Some x) ≡ Some (Unknown d)
    go true h = h
    go false h = h
said-back (Some t) (Some e) None s d h = go (same_stamp e.0 s) h
  where
    go : (b : Bool) → record_from (Some t) (if b then or_else None e.1 else None) ≡ Some (Unknown d) → record_from (Some t) None ≡ Some (Unknown d)
    go true h = absurd (decided-unknown h)
    go false h = h

-- a record that is unknown after a Learn or a Decide was so before it
learn-back : (l : List Effect) (s p : StampParts) (c : Bool) (d : ℕ) → Stands (effect.Learn s c ∷ l) p d → Stands l p d
unfolding first_begin decision_of
learn-back l s p c d h = said-back (first_begin l p) (Some (s, as_decision c)) (decision_of l p) p d h

decide-back : (l : List Effect) (s p : StampParts) (x : Decision) (d : ℕ) → Stands (effect.Decide s x ∷ l) p d → Stands l p d
unfolding first_begin decision_of
decide-back l s p x d h = said-back (first_begin l p) (Some (s, x)) (decision_of l p) p d h

-- what was decided isn't unknown
decide-known : (l : List Effect) (s : StampParts) (x : Decision) (d : ℕ) → Stands (effect.Decide s x ∷ l) s d → ⊥
unfolding first_begin decision_of
decide-known l s x d h = go (first_begin l s) (decision_of l s) (subst (λ b. record_from (first_begin l s) (if b then or_else (decision_of l s) x else decision_of l s) ≡ Some (Unknown d)) (same_stamp-self s) h)
  where
    go : (t : Option ℕ) (before : Option Decision) → record_from t (or_else before x) ≡ Some (Unknown d) → ⊥
    go None before h = none-some h
    go (Some t) None h = decided-unknown h
    go (Some t) (Some y) h = decided-unknown h

-- ---- a turn that begins nothing

released : (s p : StampParts) (h : Hand) (d : ℕ) → Stands (now (release s h)) p d → Stands (now h) p d
released s p h d k = sym (record-release s h p) ∙ k

learn-as-back : (h : Hand) (s p : StampParts) (c : Bool) (u : Option Bool) (d : ℕ) → Stands (now (learn_as h s c u)) p d → Stands (now h) p d
learn-as-back h s p c None d k = learn-back (now h) s p c d (released s p (note (effect.Learn s c) h) d k)
learn-as-back h s p c (Some x) d k = k

pub learned-back : (h : Hand) (s p : StampParts) (c : Bool) (d : ℕ) → Stands (now (on_learn h s c)) p d → Stands (now h) p d
unfolding on_learn
learned-back h s p c d k = learn-as-back h s p c (known (now h) s) d k

-- the record is that of the log with the Decide
expired-as : (s p : StampParts) (h : Hand) (x : Decision) → record_of (now (release s (tell_askers s false (note (effect.Decide s x) h)))) p ≡ record_of (effect.Decide s x ∷ now h) p
expired-as s p h x =
    let g : Hand = note (effect.Decide s x) h in
    record-release s (tell_askers s false g) p ∙ ap (λ l. record_of l p) (tell-now s false g)

expire-as-back : (m : ℕ) (s p : StampParts) (h : Hand) (u : Option RecordState) (d : ℕ) → Stands (now (expire_as m s h u)) p d → Stands (now h) p d
expire-as-back m s p h None d k = k
expire-as-back m s p h (Some (Decided x)) d k = k
expire-as-back m s p h (Some (Unknown t)) d k = go (nat_le t m) k
  where
    go : (b : Bool) → Stands (now (if b then release s (tell_askers s false (note (effect.Decide s (decision.Expired t m)) h)) else h)) p d → Stands (now h) p d
    go true k = decide-back (now h) s p (decision.Expired t m) d (sym (expired-as s p h (decision.Expired t m)) ∙ k)
    go false k = k

expire-all-back : (m : ℕ) (ss : List StampParts) (p : StampParts) (h : Hand) (d : ℕ) → Stands (now (expire_all m ss h)) p d → Stands (now h) p d
unfolding expire
expire-all-back m [] p h d k = k
expire-all-back m (s ∷ more) p h d k =
    expire-as-back m s p h (record_of (now h) s) d (expire-all-back m more p (expire_as m s h (record_of (now h) s)) d k)

-- an attempt whose turn has come isn't due any more
expire-one : (m : ℕ) (s : StampParts) (h : Hand) (u : Option RecordState) (d : ℕ) → record_of (now h) s ≡ u → Stands (now (expire_as m s h u)) s d → m < d
expire-one m s h None d e k = absurd (none-some (sym e ∙ k))
expire-one m s h (Some (Decided x)) d e k = absurd (decided-unknown (sym e ∙ k))
expire-one m s h (Some (Unknown t)) d e k = go (nat_le t m) refl k
  where
    go : (b : Bool) → nat_le t m ≡ b → Stands (now (if b then release s (tell_askers s false (note (effect.Decide s (decision.Expired t m)) h)) else h)) s d → m < d
    go true q k = absurd (decide-known (now h) s (decision.Expired t m) d (sym (expired-as s s h (decision.Expired t m)) ∙ k))
    go false q k =
        let same : t ≡ d = same-deadline (sym e ∙ k) in
        let above : m < t = grind (arith, nat_tests) in
        subst (λ (n : ℕ). m < n) same above
      where
        same-deadline : Some (Unknown t) ≡ Some (Unknown d) → t ≡ d
        same-deadline e = cc e

expire-each : (m : ℕ) (ss : List StampParts) (s : StampParts) (h : Hand) (d : ℕ) → Has s ss → Stands (now (expire_all m ss h)) s d → m < d
unfolding expire
expire-each m [] s h d has k = absurd has
expire-each m (x ∷ more) s h d (inl is) k =
    let back : Stands (now (expire_as m x h (record_of (now h) x))) s d = expire-all-back m more s (expire_as m x h (record_of (now h) x)) d k in
    let at : Stands (now (expire_as m s h (record_of (now h) s))) s d = subst (λ y. Stands (now (expire_as m y h (record_of (now h) y))) s d) is back in
    expire-one m s h (record_of (now h) s) d refl at
expire-each m (x ∷ more) s h d (inr has) k = expire-each m more s (expire_as m x h (record_of (now h) x)) d has k

-- ---- what is due is listed

key-has : (xs : List StampParts) (s : StampParts) → Has s (insert_key stamp_cmp xs s)
key-has [] s = inl refl
key-has (x ∷ xs) s = go (key-has xs s) (stamp_cmp s x) refl
  where
    go : Has s (insert_key stamp_cmp xs s) → (o : Ordering) → stamp_cmp s x ≡ o → Has s (match_ordering o (s ∷ x ∷ xs) (x ∷ xs) (x ∷ insert_key stamp_cmp xs s))
    go again Less q = inl refl
    go again Equal q = inl (sym (stamp_cmp-exact s x q))
    go again Greater q = inr again

key-stays : (xs : List StampParts) (x s : StampParts) → Has s xs → Has s (insert_key stamp_cmp xs x)
key-stays [] x s h = absurd h
key-stays (y ∷ xs) x s h = go (λ k. key-stays xs x s k) (stamp_cmp x y) h
  where
    go : (Has s xs → Has s (insert_key stamp_cmp xs x)) → (o : Ordering) → Has s (y ∷ xs) → Has s (match_ordering o (x ∷ y ∷ xs) (y ∷ xs) (y ∷ insert_key stamp_cmp xs x))
    go more Less h = inr h
    go more Equal h = h
    go more Greater (inl e) = inl e
    go more Greater (inr k) = inr (more k)

-- what began is listed
begun-has : (l : List Effect) (s : StampParts) (t : ℕ) → first_begin l s ≡ Some t → Has s (begun l)
unfolding first_begin
begun-has [] s t h = absurd (none-some h)
begun-has (f ∷ l) s t h = go (λ k. begun-has l s t k) (begun_by f) h
  where
    by : (first_begin l s ≡ Some t → Has s (begun l)) → (x : StampParts) (d : ℕ) (b : Bool) → same_stamp x s ≡ b → (if b then or_else (first_begin l s) d else first_begin l s) ≡ Some t → Has s (insert_key stamp_cmp (begun l) x)
    by more x d true q h = subst (λ y. Has s (insert_key stamp_cmp (begun l) y)) (sym (same_stamp-is x s q)) (key-has (begun l) s)
    by more x d false q h = key-stays (begun l) x s (more h)

    go : (first_begin l s ≡ Some t → Has s (begun l)) → (u : Option (StampParts × ℕ)) → first_said u (first_begin l s) s ≡ Some t → Has s (with_begun u (begun l))
    go more None h = more h
    go more (Some e) h = by more e.0 e.1 (same_stamp e.0 s) refl h

unknown-begun : (t : Option ℕ) (x : Option Decision) (d : ℕ) → record_from t x ≡ Some (Unknown d) → t ≡ Some d
unknown-begun None x d h = absurd (none-some h)
unknown-begun (Some t) None d h = cc h
unknown-begun (Some t) (Some y) d h = absurd (decided-unknown h)

due-has : (m : ℕ) (l : List Effect) (s : StampParts) (d : ℕ) → Stands l s d → nat_le d m ≡ true → Has s (due m l)
due-has m l s d h le =
    has-filter (λ x. is_due m (record_of l x)) (begun l) s (begun-has l s d (unknown-begun (first_begin l s) (decision_of l s) d h))
    (ap (is_due m) h ∙ le)

-- nothing is due after the moment was heard
pub heard-none : (h : Hand) (m : ℕ) (s : StampParts) (d : ℕ) → Stands (now (on_moment h m)) s d → m < d
unfolding on_moment
heard-none h m s d k = go (nat_le d m) refl
  where
    g : Hand
    g = record h { moment = m }

    at : Stands (now (expire_all m (due m (now h)) g)) s d
    at = ap (λ l. record_of l s) (sym (again-now (expire_all m (due m (now h)) g))) ∙ k

    before : Stands (now h) s d
    before = expire-all-back m (due m (now h)) s g d at

    go : (b : Bool) → nat_le d m ≡ b → m < d
    go true q = expire-each m (due m (now h)) s g d (due-has m (now h) s d before q) at
    go false q = grind (arith, nat_tests)
