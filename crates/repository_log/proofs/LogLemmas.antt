-- What a log says of an attempt, and how one effect more changes it.
use Rattle.repository_log.proofs.Names.{◌≡◌, ℕ, Bool, true, false, List, [], ◌∷◌, refl, sym, ◌∙◌, ap, subst, Option, Some, None, if◌then◌else◌, StampParts, same_stamp, same_stamp-is, Decision, Effect, Begin, Decide, Learn, Unknown, Decided, or_else, settle_of, is_commit, as_decision, known, first_begin, decision_of, record_from, record_of}

-- ---- whether it is settled

abbrev pub commits : Option Decision → Option Bool
commits None = None
commits (Some d) = Some (is_commit d)

settle-if : (b : Bool) (u : Option Bool) (v : Option Decision) (c : Bool) (d : Decision) → c ≡ is_commit d → u ≡ commits v →
    (if b then or_else u c else u) ≡ commits (if b then or_else v d else v)
settle-if false u v c d e h = h
settle-if true u None c d e h = ap (λ z. or_else z c) h ∙ ap (λ z. Some z) e
settle-if true u (Some w) c d e h = ap (λ z. or_else z c) h

told-commit : (c : Bool) → c ≡ is_commit (as_decision c)
told-commit true = refl
told-commit false = refl

-- the histories settle an attempt as the log decides it
pub known-decision : (l : List Effect) (s : StampParts) → known l s ≡ commits (decision_of l s)
unfolding settle_of decision_of
known-decision [] s = refl
known-decision (Decide p d ∷ l) s = settle-if (same_stamp p s) _ (decision_of l s) (is_commit d) d refl (known-decision l s)
known-decision (Learn p c ∷ l) s = settle-if (same_stamp p s) _ (decision_of l s) c (as_decision c) (told-commit c) (known-decision l s)
known-decision (f ∷ l) s = known-decision l s

none-commits : (v : Option Decision) → commits v ≡ None → v ≡ None
none-commits None h = refl
none-commits (Some d) h = absurd (cc h)

pub undecided : (l : List Effect) (s : StampParts) → known l s ≡ None → decision_of l s ≡ None
undecided l s h = none-commits (decision_of l s) (sym (known-decision l s) ∙ h)

-- ---- what a record says

pub from-unknown : (t : Option ℕ) (d : Option Decision) (u : ℕ) → record_from t d ≡ Some (Unknown u) → d ≡ None
from-unknown None d u h = absurd (cc h)
from-unknown (Some t) None u h = refl
from-unknown (Some t) (Some d) u h = absurd (cc h)

pub from-begin : (t : Option ℕ) (d : Option Decision) (u : ℕ) → record_from t d ≡ Some (Unknown u) → t ≡ Some u
from-begin None d u h = absurd (cc h)
from-begin (Some t) None u h = let e : t ≡ u = cc h in ap (λ z. Some z) e
from-begin (Some t) (Some d) u h = absurd (cc h)

pub from-decided : (t : Option ℕ) (d : Option Decision) (e : Decision) → record_from t d ≡ Some (Decided e) → d ≡ Some e
from-decided None d e h = absurd (cc h)
from-decided (Some t) None e h = absurd (cc h)
from-decided (Some t) (Some d) e h = let k : d ≡ e = cc h in ap (λ z. Some z) k

pub from-none : (t : Option ℕ) (d : Option Decision) → record_from t d ≡ None → t ≡ None
from-none None d h = refl
from-none (Some t) None h = absurd (cc h)
from-none (Some t) (Some d) h = absurd (cc h)

pub unknown-unsettled : (l : List Effect) (s : StampParts) (t : ℕ) → record_of l s ≡ Some (Unknown t) → known l s ≡ None
unknown-unsettled l s t h = known-decision l s ∙ ap (λ z. commits z) (from-unknown (first_begin l s) (decision_of l s) t h)

-- ---- one effect more

begin-if : (b : Bool) (l : List Effect) (s q : StampParts) (d : ℕ) → (b ≡ true → s ≡ q) → first_begin l s ≡ None
    → record_from (if b then or_else (first_begin l q) d else first_begin l q) (decision_of l q) ≡ (if b then record_from (Some d) (decision_of l s) else record_of l q)
begin-if true l s q d e none =
    subst (λ z. record_from (or_else (first_begin l z) d) (decision_of l z) ≡ record_from (Some d) (decision_of l s)) (e refl)
    (ap (λ u. record_from (or_else u d) (decision_of l s)) none)
begin-if false l s q d e none = refl

-- a first Begin makes the record
pub record-begin : (l : List Effect) (s q : StampParts) (d : ℕ) → first_begin l s ≡ None
    → record_of (Begin s d ∷ l) q ≡ (if same_stamp s q then record_from (Some d) (decision_of l s) else record_of l q)
unfolding first_begin decision_of
record-begin l s q d none = begin-if (same_stamp s q) l s q d (same_stamp-is s q) none

decide-if : (b : Bool) (l : List Effect) (s q : StampParts) (x : Decision) → (b ≡ true → s ≡ q) → decision_of l s ≡ None
    → record_from (first_begin l q) (if b then or_else (decision_of l q) x else decision_of l q) ≡ (if b then record_from (first_begin l s) (Some x) else record_of l q)
decide-if true l s q x e none =
    subst (λ z. record_from (first_begin l z) (or_else (decision_of l z) x) ≡ record_from (first_begin l s) (Some x)) (e refl)
    (ap (λ u. record_from (first_begin l s) (or_else u x)) none)
decide-if false l s q x e none = refl

-- a first Decide or Learn decides it
pub record-decide : (l : List Effect) (s q : StampParts) (x : Decision) → decision_of l s ≡ None
    → record_of (Decide s x ∷ l) q ≡ (if same_stamp s q then record_from (first_begin l s) (Some x) else record_of l q)
unfolding first_begin decision_of
record-decide l s q x none = decide-if (same_stamp s q) l s q x (same_stamp-is s q) none

pub record-learn : (l : List Effect) (s q : StampParts) (c : Bool) → decision_of l s ≡ None
    → record_of (Learn s c ∷ l) q ≡ (if same_stamp s q then record_from (first_begin l s) (Some (as_decision c)) else record_of l q)
unfolding first_begin decision_of
record-learn l s q c none = decide-if (same_stamp s q) l s q (as_decision c) (same_stamp-is s q) none
