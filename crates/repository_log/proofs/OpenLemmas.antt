-- What is gathered from a log as it is read.
use Rattle.repository_log.proofs.Names.{◌≡◌, ◌<◌, ◌+◌, ◌++◌, length, take, get_or, reverse, ℕ, Bool, true, false, List, [], ◌∷◌, refl, sym, ◌∙◌, ap, cond, Option, Some, None, is_some, if◌then◌else◌, option_copied, is_at, eq_by_cmp_equiv, reverse-append, take_more, StampParts, stamp_cmp, same_stamp, stamp_cmp-total, same_stamp-is, Decision, Effect, RecordState, Unknown, Decided, States, begun, begun_at, settled, settled_at, listed_at, or_else, as_decision, first_begin, decision_of, record_from, begun_by, decided_by, kept_after, AreBegun, AreDecided, AreKept}
use Rattle.std.specs.FinMap as finite
use Rattle.std.specs.Borrow.{Bor}
use Rattle.std.proofs.lemmas.Bool.{false≢true, true≢false}
use Rattle.effect_form.specs.declared.effects.Effect.TheVariants.{Put, Stretch, Begin, Decide, Learn, Run, Act, Try, Got, Acked, End, Mark, Whole}

-- ---- the map of records

pub get-put : (r : States) (s q : StampParts) (v : RecordState) → finite.get (finite.insert r s v) q ≡ (if same_stamp s q then Some v else finite.get r q)
unfolding same_stamp
get-put r s q v = finite.get-insert stamp_cmp-total r s v q ∙ ap (λ b. cond b (Some v) (finite.get r q)) ((eq_by_cmp_equiv stamp_cmp-total).symm q s)

-- ---- one effect more

none-begun : (f : Effect) (l : List Effect) (q : StampParts) → begun_by f ≡ None → first_begin (f ∷ l) q ≡ first_begin l q
unfolding first_begin
none-begun (Begin s d) l q h = absurd (cc h)
none-begun (Put o x v) l q h = refl
none-begun (Stretch o x) l q h = refl
none-begun (Decide s d) l q h = refl
none-begun (Learn s c) l q h = refl
none-begun (Run n) l q h = refl
none-begun (Act i a t n c b) l q h = refl
none-begun (Try i s) l q h = refl
none-begun (Got k v) l q h = refl
none-begun (Acked k) l q h = refl
none-begun (End i e) l q h = refl
none-begun (Mark at) l q h = refl
none-begun Whole l q h = refl

some-begun : (f : Effect) (l : List Effect) (s q : StampParts) (d : ℕ) → begun_by f ≡ Some (s, d) → first_begin (f ∷ l) q ≡ (if same_stamp s q then or_else (first_begin l q) d else first_begin l q)
unfolding first_begin
some-begun (Begin p e) l s q d h =
    let both : ◌≡◌ {A = StampParts × ℕ} (p, e) (s, d) = cc h in ap (λ z. if same_stamp z.0 q then or_else (first_begin l q) z.1 else first_begin l q) both
some-begun (Put o x v) l s q d h = absurd (cc h)
some-begun (Stretch o x) l s q d h = absurd (cc h)
some-begun (Decide p e) l s q d h = absurd (cc h)
some-begun (Learn p c) l s q d h = absurd (cc h)
some-begun (Run n) l s q d h = absurd (cc h)
some-begun (Act i a t n c b) l s q d h = absurd (cc h)
some-begun (Try i p) l s q d h = absurd (cc h)
some-begun (Got k v) l s q d h = absurd (cc h)
some-begun (Acked k) l s q d h = absurd (cc h)
some-begun (End i e) l s q d h = absurd (cc h)
some-begun (Mark at) l s q d h = absurd (cc h)
some-begun Whole l s q d h = absurd (cc h)

none-decided : (f : Effect) (l : List Effect) (q : StampParts) → decided_by f ≡ None → decision_of (f ∷ l) q ≡ decision_of l q
unfolding decision_of
none-decided (Begin s d) l q h = refl
none-decided (Put o x v) l q h = refl
none-decided (Stretch o x) l q h = refl
none-decided (Decide s d) l q h = absurd (cc h)
none-decided (Learn s c) l q h = absurd (cc h)
none-decided (Run n) l q h = refl
none-decided (Act i a t n c b) l q h = refl
none-decided (Try i s) l q h = refl
none-decided (Got k v) l q h = refl
none-decided (Acked k) l q h = refl
none-decided (End i e) l q h = refl
none-decided (Mark at) l q h = refl
none-decided Whole l q h = refl

some-decided : (f : Effect) (l : List Effect) (s q : StampParts) (x : Decision) → decided_by f ≡ Some (s, x) → decision_of (f ∷ l) q ≡ (if same_stamp s q then or_else (decision_of l q) x else decision_of l q)
unfolding decision_of
some-decided (Decide p e) l s q x h =
    let both : ◌≡◌ {A = StampParts × Decision} (p, e) (s, x) = cc h in ap (λ z. if same_stamp z.0 q then or_else (decision_of l q) z.1 else decision_of l q) both
some-decided (Learn p c) l s q x h =
    let both : ◌≡◌ {A = StampParts × Decision} (p, as_decision c) (s, x) = cc h in ap (λ z. if same_stamp z.0 q then or_else (decision_of l q) z.1 else decision_of l q) both
some-decided (Begin p d) l s q x h = absurd (cc h)
some-decided (Put o y v) l s q x h = absurd (cc h)
some-decided (Stretch o y) l s q x h = absurd (cc h)
some-decided (Run n) l s q x h = absurd (cc h)
some-decided (Act i a t n c b) l s q x h = absurd (cc h)
some-decided (Try i p) l s q x h = absurd (cc h)
some-decided (Got k v) l s q x h = absurd (cc h)
some-decided (Acked k) l s q x h = absurd (cc h)
some-decided (End i e) l s q x h = absurd (cc h)
some-decided (Mark at) l s q x h = absurd (cc h)
some-decided Whole l s q x h = absurd (cc h)

-- ---- the records

kept-begin : (b : Bool) (k : ℕ) (u : Option ℕ) (d : ℕ) → (b ≡ true → Some k ≡ u) → record_from u None ≡ record_from (if b then or_else u d else u) None
kept-begin true k (Some y) d same = refl
kept-begin true k None d same = let e : Some k ≡ None = same refl in absurd (cc e)
kept-begin false k u d same = refl

new-begin : (b : Bool) (u : Option ℕ) (d : ℕ) → (b ≡ true → None ≡ u) → (if b then Some (Unknown d) else record_from u None) ≡ record_from (if b then or_else u d else u) None
new-begin true None d same = refl
new-begin true (Some y) d same = let e : None ≡ Some y = same refl in absurd (cc e)
new-begin false u d same = refl

begun-as : (r : States) (s q : StampParts) (t u : Option ℕ) (d : ℕ) → (same_stamp s q ≡ true → t ≡ u) → finite.get r s ≡ record_from t None → finite.get r q ≡ record_from u None
    → finite.get (begun r s d) q ≡ record_from (if same_stamp s q then or_else u d else u) None
begun-as r s q (Some k) u d same here there = ap (λ z. finite.get (begun_at z r s d) q) here ∙ there ∙ kept-begin (same_stamp s q) k u d same
begun-as r s q None u d same here there =
    ap (λ z. finite.get (begun_at z r s d) q) here ∙ get-put r s q (Unknown d) ∙ ap (λ z. if same_stamp s q then Some (Unknown d) else z) there ∙ new-begin (same_stamp s q) u d same

-- the records of a log and one effect more
pub begun-step : (f : Effect) (l : List Effect) (s : StampParts) (d : ℕ) (r : States) → begun_by f ≡ Some (s, d) → ((q : StampParts) → finite.get r q ≡ record_from (first_begin l q) None)
    → (q : StampParts) → finite.get (begun r s d) q ≡ record_from (first_begin (f ∷ l) q) None
begun-step f l s d r is all q =
    begun-as r s q (first_begin l s) (first_begin l q) d (λ e. ap (λ z. first_begin l z) (same_stamp-is s q e)) (all s) (all q)
    ∙ ap (λ z. record_from z None) (sym (some-begun f l s q d is))

pub begun-same : (f : Effect) (l : List Effect) (r : States) → begun_by f ≡ None → ((q : StampParts) → finite.get r q ≡ record_from (first_begin l q) None)
    → (q : StampParts) → finite.get r q ≡ record_from (first_begin (f ∷ l) q) None
begun-same f l r is all q = all q ∙ ap (λ z. record_from z None) (sym (none-begun f l q is))

-- ---- the decisions

absent-if : (b : Bool) (v : Option Decision) (x : Decision) (u : Option ℕ) → (b ≡ true → None ≡ u) → record_from u v ≡ record_from u (if b then or_else v x else v)
absent-if true v x None same = refl
absent-if true v x (Some y) same = let e : None ≡ Some y = same refl in absurd (cc e)
absent-if false v x u same = refl

decided-if : (b : Bool) (k : ℕ) (u : Option ℕ) (y : Decision) (v : Option Decision) (x : Decision) → (b ≡ true → Some k ≡ u) → (b ≡ true → Some y ≡ v) → record_from u v ≡ record_from u (if b then or_else v x else v)
decided-if true k u y (Some z) x same that = refl
decided-if true k u y None x same that = let e : Some y ≡ None = that refl in absurd (cc e)
decided-if false k u y v x same that = refl

new-if : (b : Bool) (k : ℕ) (u : Option ℕ) (v : Option Decision) (x : Decision) → (b ≡ true → Some k ≡ u) → (b ≡ true → None ≡ v) → (if b then Some (Decided x) else record_from u v) ≡ record_from u (if b then or_else v x else v)
new-if true k (Some y) None x same that = refl
new-if true k None v x same that = let e : Some k ≡ None = same refl in absurd (cc e)
new-if true k (Some y) (Some z) x same that = let e : None ≡ Some z = that refl in absurd (cc e)
new-if false k u v x same that = refl

settled-as : (r : States) (s q : StampParts) (t u : Option ℕ) (w v : Option Decision) (x : Decision) → (same_stamp s q ≡ true → t ≡ u) → (same_stamp s q ≡ true → w ≡ v)
    → finite.get r s ≡ record_from t w → finite.get r q ≡ record_from u v → finite.get (settled r s x) q ≡ record_from u (if same_stamp s q then or_else v x else v)
settled-as r s q None u w v x same that here there = ap (λ z. finite.get (settled_at z r s x) q) here ∙ there ∙ absent-if (same_stamp s q) v x u same
settled-as r s q (Some k) u (Some y) v x same that here there = ap (λ z. finite.get (settled_at z r s x) q) here ∙ there ∙ decided-if (same_stamp s q) k u y v x same that
settled-as r s q (Some k) u None v x same that here there =
    ap (λ z. finite.get (settled_at z r s x) q) here ∙ get-put r s q (Decided x) ∙ ap (λ z. if same_stamp s q then Some (Decided x) else z) there ∙ new-if (same_stamp s q) k u v x same that

module _ (all : List Effect) where
  pub decided-step : (f : Effect) (l : List Effect) (s : StampParts) (x : Decision) (r : States) → decided_by f ≡ Some (s, x) → AreDecided all l r → AreDecided all (f ∷ l) (settled r s x)
  decided-step f l s x r is h q =
      settled-as r s q (first_begin all s) (first_begin all q) (decision_of l s) (decision_of l q) x (λ e. ap (λ z. first_begin all z) (same_stamp-is s q e))
      (λ e. ap (λ z. decision_of l z) (same_stamp-is s q e)) (h s) (h q)
      ∙ ap (λ z. record_from (first_begin all q) z) (sym (some-decided f l s q x is))

  pub decided-same : (f : Effect) (l : List Effect) (r : States) → decided_by f ≡ None → AreDecided all l r → AreDecided all (f ∷ l) r
  decided-same f l r is h q = h q ∙ ap (λ z. record_from (first_begin all q) z) (sym (none-decided f l q is))

  pub kept-same : (f : Effect) (l : List Effect) (e : List (StampParts × Decision)) → decided_by f ≡ None → AreKept all l e → AreKept all (f ∷ l) e
  kept-same f l e is h q none = h q none ∙ sym (none-decided f l q is)

  kept-as : (b : Bool) (t : Option ℕ) (v : Option Decision) (old : Option Decision) (s q : StampParts) (x : Decision) (w : Option Decision) → same_stamp s q ≡ b → (b ≡ true → t ≡ None) → old ≡ v
      → kept_after (record_from t w) s x old q ≡ (if b then or_else v x else v)
  kept-as b None v old s q x w is none h = ap (λ z. if z then or_else old x else old) is ∙ ap (λ z. if b then or_else z x else z) h
  kept-as true (Some k) v old s q x w is none h = let e : Some k ≡ None = none refl in absurd (cc e)
  kept-as false (Some k) v old s q x None is none h = h
  kept-as false (Some k) v old s q x (Some y) is none h = h

  pub kept-step : (f : Effect) (l : List Effect) (s : StampParts) (x : Decision) (r : States) (e e' : List (StampParts × Decision)) → decided_by f ≡ Some (s, x) → AreDecided all l r → AreKept all l e
      → ((q : StampParts) → listed_at e' q ≡ kept_after (finite.get r s) s x (listed_at e q) q) → AreKept all (f ∷ l) e'
  kept-step f l s x r e e' is h k step q none =
      step q ∙ ap (λ z. kept_after z s x (listed_at e q) q) (h s)
      ∙ kept-as (same_stamp s q) (first_begin all s) (decision_of l q) (listed_at e q) s q x (decision_of l s) refl (λ b. ap (λ z. first_begin all z) (same_stamp-is s q b) ∙ none) (k q none)
      ∙ sym (some-decided f l s q x is)

kept-new-if : (b : Bool) (v : Option Decision) (x : Decision) → (b ≡ true → v ≡ None) → cond b (Some x) v ≡ (if b then or_else v x else v)
kept-new-if true None x h = refl
kept-new-if true (Some y) x h = let e : Some y ≡ None = h refl in absurd (cc e)
kept-new-if false v x h = refl

kept-old-if : (b : Bool) (v : Option Decision) (x : Decision) → (b ≡ true → is_some v ≡ true) → v ≡ (if b then or_else v x else v)
kept-old-if true (Some y) x h = refl
kept-old-if true None x h = absurd (false≢true (h refl))
kept-old-if false v x h = refl

-- the log so far, and one effect more
pub taken-next : (xs : List Effect) (i : ℕ) (x : Effect) → i < length xs → x ≡ get_or xs i x → reverse (take (i + 1) xs) ≡ x ∷ reverse (take i xs)
taken-next xs i x h e = ap reverse (take_more xs i x h ∙ ap (λ z. take i xs ++ z ∷ []) (sym e)) ∙ reverse-append (take i xs) (x ∷ [])

-- ---- a decision that is kept

pub kept-new : (s q : StampParts) (x : Decision) (e e' : List (StampParts × Decision)) → listed_at e s ≡ None → listed_at e' q ≡ cond (is_at (stamp_cmp s) q) (Some x) (listed_at e q)
    → listed_at e' q ≡ (if same_stamp s q then or_else (listed_at e q) x else listed_at e q)
unfolding same_stamp
kept-new s q x e e' none is = is ∙ kept-new-if (same_stamp s q) (listed_at e q) x (λ b. ap (λ z. listed_at e z) (sym (same_stamp-is s q b)) ∙ none)

pub kept-old : (s q : StampParts) (x : Decision) (e : List (StampParts × Decision)) → is_some (listed_at e s) ≡ true → listed_at e q ≡ (if same_stamp s q then or_else (listed_at e q) x else listed_at e q)
kept-old s q x e some = kept-old-if (same_stamp s q) (listed_at e q) x (λ b. ap (λ z. is_some (listed_at e z)) (sym (same_stamp-is s q b)) ∙ some)

pub copied-none : {X : Type 0} (r : Option (Bor X)) → is_some r ≡ false → option_copied r ≡ None
copied-none None h = refl
copied-none (Some x) h = absurd (true≢false h)

pub copied-some : {X : Type 0} (r : Option (Bor X)) → is_some r ≡ true → is_some (option_copied r) ≡ true
copied-some None h = absurd (false≢true h)
copied-some (Some x) h = refl

-- ---- before the log is read

pub begun-none : (r : States) → r ≡ finite.empty → AreBegun [] r
unfolding first_begin
begun-none r e q = ap (λ z. finite.get z q) e ∙ finite.get-empty stamp_cmp q

pub decided-none : (all : List Effect) (r : States) → AreBegun all r → AreDecided all [] r
unfolding decision_of
decided-none all r h q = h q

pub kept-none : (all : List Effect) (e : List (StampParts × Decision)) → e ≡ [] → AreKept all [] e
unfolding decision_of
kept-none all e is q none = ap (λ z. listed_at z q) is
