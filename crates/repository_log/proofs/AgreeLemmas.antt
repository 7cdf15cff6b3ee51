-- What is looked up agrees with the log as that was read, and after a Begin, a Decide, a Learn and an expiry.
use Rattle.repository_log.proofs.Names.{◌≡◌, ◌≢◌, ℕ, Bool, true, false, List, [], ◌∷◌, refl, sym, ◌∙◌, ap, subst, cond, Option, Some, None, if◌then◌else◌, eq_by_cmp_equiv, StampParts, same_stamp, stamp_cmp-total, same_stamp-is, same_stamp-self, Decision, Effect, Decide, Learn, RecordState, Unknown, Decided, States, begin_step, begun, begun_at, settled, settled_at, listed_at, Mark, or_else, settle_of, is_commit, as_decision, known, first_begin, decision_of, record_from, record_of, marks, began, began_by, AreRecords, AreEarly}
use Rattle.std.specs.FinMap as finite
use Rattle.commit_record.specs.declared.states.BeginStep.TheVariants as begins
use Rattle.object_history.specs.declared.marks.Mark.TheVariants.{Settle}
use Rattle.repository_log.specs.Lookups.{BooksShow, early_or, pending_or, restored}
use Rattle.repository_log.proofs.OpenLemmas.{get-put}
use Rattle.repository_log.proofs.LogLemmas.{known-decision, commits, undecided, from-unknown, from-begin, from-none, record-begin, record-decide, record-learn}

-- ---- a log that was read

early-is : (v : Option Decision) → v ≡ early_or v (commits v)
early-is None = refl
early-is (Some d) = refl

-- at the end of the log
pub opened-agrees : (l : List Effect) (r : States) (e : List (StampParts × Decision)) → AreRecords l r → AreEarly l e → BooksShow [] l (marks l) r e
opened-agrees l r e h k = record {
  marked = refl;
  recorded = h;
  remembered = λ s none. early-is (decision_of l s) ∙ ap (λ z. early_or z (commits (decision_of l s))) (sym (k s none)) ∙ ap (λ z. early_or (listed_at e s) z) (sym (known-decision l s));
}

-- ---- the map of records

absent-if : (b : Bool) (r : States) (s q : StampParts) → (b ≡ true → s ≡ q) → finite.get r s ≡ None → finite.get r q ≡ (if b then None else finite.get r q)
absent-if true r s q e none = ap (λ z. finite.get r z) (sym (e refl)) ∙ none
absent-if false r s q e none = refl

-- a record that isn't decided is decided, if it is there
decided-at : (r : States) (s q : StampParts) (x : Decision) (t : Option ℕ) → finite.get r s ≡ record_from t None
    → finite.get (settled r s x) q ≡ (if same_stamp s q then record_from t (Some x) else finite.get r q)
decided-at r s q x None e = ap (λ u. finite.get (settled_at u r s x) q) e ∙ absent-if (same_stamp s q) r s q (same_stamp-is s q) e
decided-at r s q x (Some d) e = ap (λ u. finite.get (settled_at u r s x) q) e ∙ get-put r s q (Decided x)

-- ---- what is remembered of attempts that haven't begun

decide-if : (b : Bool) (l : List Effect) (s q : StampParts) (x : Decision) (c : Bool) (w : Option Decision) (t : ℕ) → (b ≡ true → s ≡ q) → first_begin l s ≡ Some t → first_begin l q ≡ None
    → decision_of l q ≡ early_or w (known l q) → (if b then or_else (decision_of l q) x else decision_of l q) ≡ early_or w (if b then or_else (known l q) c else known l q)
decide-if true l s q x c w t e there none h = let k : Some t ≡ None = sym there ∙ ap (λ z. first_begin l z) (e refl) ∙ none in absurd (cc k)
decide-if false l s q x c w t e there none h = h

learn-if : (b : Bool) (v : Option Decision) (k : Option Bool) (w : Option Decision) (c : Bool) → (b ≡ true → v ≡ None) → (b ≡ true → k ≡ None) → v ≡ early_or w k
    → (if b then or_else v (as_decision c) else v) ≡ early_or w (if b then or_else k c else k)
learn-if true (Some d) k w c f g h = let e : Some d ≡ None = f refl in absurd (cc e)
learn-if true None (Some y) w c f g h = let e : Some y ≡ None = g refl in absurd (cc e)
learn-if true None None None c f g h = refl
learn-if true None None (Some d) c f g h = absurd (cc h)
learn-if false v k w c f g h = h

-- ---- one effect more

module _ (l : List Effect) (m : List Mark) (r : States) (e : List (StampParts × Decision)) (s : StampParts) where
  pub agree-decide : (t : ℕ) (x : Decision) → BooksShow [] l m r e → record_of l s ≡ Some (Unknown t) → BooksShow [] (Decide s x ∷ l) (Settle s (is_commit x) ∷ m) (settled r s x) e
  unfolding first_begin decision_of settle_of
  agree-decide t x a unknown =
      let begin : first_begin l s ≡ Some t = from-begin (first_begin l s) (decision_of l s) t unknown in
      let none : decision_of l s ≡ None = from-unknown (first_begin l s) (decision_of l s) t unknown in
      record {
        marked = ap (λ z. Settle s (is_commit x) ∷ z) a.marked;
        recorded = λ q.
            decided-at r s q x (first_begin l s) (a.recorded s ∙ ap (λ d. record_from (first_begin l s) d) none)
            ∙ ap (λ u. if same_stamp s q then record_from (first_begin l s) (Some x) else u) (a.recorded q) ∙ sym (record-decide l s q x none);
        remembered = λ q h. decide-if (same_stamp s q) l s q x (is_commit x) (listed_at e q) t (same_stamp-is s q) begin h (a.remembered q h);
      }

  expire-if : (b : Bool) (q : StampParts) (x : Decision) (w : Option Decision) (u : Option RecordState) → (b ≡ true → w ≡ None) → u ≡ Some (Decided x)
      → pending_or (cond b (Some x) w) (record_of l q) ≡ pending_or w (if b then u else record_of l q)
  expire-if true q x w u none is = sym (ap (λ z. pending_or z u) (none refl) ∙ is)
  expire-if false q x w u none is = refl

  listed-at : (rest : List (StampParts × Decision)) (q : StampParts) (x : Decision) → listed_at ((s, x) ∷ rest) q ≡ cond (same_stamp s q) (Some x) (listed_at rest q)
  unfolding same_stamp
  listed-at rest q x = ap (λ b. cond b (Some x) (listed_at rest q)) ((eq_by_cmp_equiv stamp_cmp-total).symm q s)

  pub agree-expire : (t : ℕ) (x : Decision) (rest : List (StampParts × Decision)) → BooksShow ((s, x) ∷ rest) l m r e → record_of l s ≡ Some (Unknown t) → listed_at rest s ≡ None
      → BooksShow rest (Decide s x ∷ l) (Settle s (is_commit x) ∷ m) r e
  unfolding first_begin decision_of settle_of
  agree-expire t x rest a unknown once =
      let begin : first_begin l s ≡ Some t = from-begin (first_begin l s) (decision_of l s) t unknown in
      let none : decision_of l s ≡ None = from-unknown (first_begin l s) (decision_of l s) t unknown in
      record {
        marked = ap (λ z. Settle s (is_commit x) ∷ z) a.marked;
        recorded = λ q.
            a.recorded q ∙ ap (λ w. pending_or w (record_of l q)) (listed-at rest q x)
            ∙ expire-if (same_stamp s q) q x (listed_at rest q) (record_from (first_begin l s) (Some x)) (λ b. ap (λ z. listed_at rest z) (sym (same_stamp-is s q b)) ∙ once) (ap (λ z. record_from z (Some x)) begin)
            ∙ ap (λ z. pending_or (listed_at rest q) z) (sym (record-decide l s q x none));
        remembered = λ q h. decide-if (same_stamp s q) l s q x (is_commit x) (listed_at e q) t (same_stamp-is s q) begin h (a.remembered q h);
      }

  pub agree-learn : (c : Bool) → BooksShow [] l m r e → settle_of m s ≡ None → BooksShow [] (Learn s c ∷ l) (Settle s c ∷ m) (settled r s (as_decision c)) e
  unfolding first_begin decision_of settle_of
  agree-learn c a unsettled =
      let unknown : known l s ≡ None = ap (λ z. settle_of z s) (sym a.marked) ∙ unsettled in
      let none : decision_of l s ≡ None = undecided l s unknown in
      record {
        marked = ap (λ z. Settle s c ∷ z) a.marked;
        recorded = λ q.
            decided-at r s q (as_decision c) (first_begin l s) (a.recorded s ∙ ap (λ d. record_from (first_begin l s) d) none)
            ∙ ap (λ u. if same_stamp s q then record_from (first_begin l s) (Some (as_decision c)) else u) (a.recorded q) ∙ sym (record-learn l s q c none);
        remembered = λ q h. learn-if (same_stamp s q) (decision_of l q) (known l q) (listed_at e q) c (λ b. ap (λ z. decision_of l z) (sym (same_stamp-is s q b)) ∙ none)
            (λ b. ap (λ z. known l z) (sym (same_stamp-is s q b)) ∙ unknown) (a.remembered q h);
      }

  -- ---- a Begin

  begins-if : (b : Bool) (q : StampParts) (u v : Option RecordState) → (if b then u else (if b then v else record_of l q)) ≡ (if b then u else record_of l q)
  begins-if true q u v = refl
  begins-if false q u v = refl

  restored-at : (q : StampParts) (d : ℕ) (x : Option Decision) → finite.get r s ≡ None → finite.get r q ≡ record_of l q
      → finite.get (restored x (begun r s d) s) q ≡ (if same_stamp s q then record_from (Some d) x else record_of l q)
  restored-at q d None none is =
      ap (λ u. finite.get (begun_at u r s d) q) none ∙ get-put r s q (Unknown d) ∙ ap (λ u. if same_stamp s q then Some (Unknown d) else u) is
  restored-at q d (Some x) none is =
      let now : States = begun r s d in
      let put : (z : StampParts) → finite.get now z ≡ (if same_stamp s z then Some (Unknown d) else finite.get r z) = λ z. ap (λ u. finite.get (begun_at u r s d) z) none ∙ get-put r s z (Unknown d) in
      decided-at now s q x (Some d) (put s ∙ ap (λ b. if b then Some (Unknown d) else finite.get r s) (same_stamp-self s))
      ∙ ap (λ u. if same_stamp s q then Some (Decided x) else u) (put q ∙ ap (λ u. if same_stamp s q then Some (Unknown d) else u) is)
      ∙ begins-if (same_stamp s q) q (Some (Decided x)) (Some (Unknown d))

  begin-if : (b : Bool) (q : StampParts) (t : Option ℕ) (d : ℕ) → (if b then or_else t d else t) ≡ None → t ≡ None
  begin-if true q None d h = refl
  begin-if true q (Some y) d h = absurd (cc h)
  begin-if false q t d h = h

  new-none : (u : Option RecordState) → begin_step u ≡ begins.New → u ≡ None
  new-none None h = refl
  new-none (Some (Unknown t)) h = absurd (cc h)
  new-none (Some (Decided x)) h = absurd (cc h)

  agree-begun-as : (d : ℕ) (u : Option RecordState) → finite.get r s ≡ u → begin_step u ≢ begins.New → BooksShow [] l m r e → BooksShow [] (began_by u l s d) m (begun r s d) e
  agree-begun-as d None is old a = absurd (old refl)
  agree-begun-as d (Some v) is old a = subst (λ z. BooksShow [] l m z e) (sym (ap (λ u. begun_at u r s d) is)) a

  agree-begin-as : (d : ℕ) (x : Option Decision) (u : Option RecordState) → record_of l s ≡ u → u ≡ None → BooksShow [] l m r e → x ≡ early_or (listed_at e s) (settle_of m s)
      → BooksShow [] (began_by u l s d) m (restored x (begun r s d) s) e
  unfolding first_begin decision_of settle_of
  agree-begin-as d x (Some v) is none a early = absurd (cc none)
  agree-begin-as d x None is none a early =
      let first : first_begin l s ≡ None = from-none (first_begin l s) (decision_of l s) is in
      let decided : decision_of l s ≡ x = a.remembered s first ∙ ap (λ z. early_or (listed_at e s) (settle_of z s)) (sym a.marked) ∙ sym early in
      record {
        marked = a.marked;
        recorded = λ q.
            restored-at q d x (a.recorded s ∙ is) (a.recorded q) ∙ ap (λ z. if same_stamp s q then record_from (Some d) z else record_of l q) (sym decided)
            ∙ sym (record-begin l s q d first);
        remembered = λ q h. a.remembered q (begin-if (same_stamp s q) q (first_begin l q) d h);
      }

  -- the record was made
  pub agree-begin : (d : ℕ) (x : Option Decision) → begin_step (finite.get r s) ≡ begins.New → BooksShow [] l m r e → x ≡ early_or (listed_at e s) (settle_of m s)
      → BooksShow [] (began l s d) m (restored x (begun r s d) s) e
  agree-begin d x new a early = agree-begin-as d x (record_of l s) refl (new-none (record_of l s) (ap begin_step (sym (a.recorded s)) ∙ new)) a early

  -- it was there
  pub agree-begun : (d : ℕ) → begin_step (finite.get r s) ≢ begins.New → BooksShow [] l m r e → BooksShow [] (began l s d) m (begun r s d) e
  agree-begun d old a = agree-begun-as d (record_of l s) (a.recorded s) (λ k. old (ap begin_step (a.recorded s) ∙ k)) a
