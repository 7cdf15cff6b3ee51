-- What a log that was carried forward says: its marks are those that a retirement keeps, its records and decisions are as they were.
use Rattle.object_retirement.proofs.Names.{◌≡◌, Bool, true, false, List, [], ◌∷◌, refl, sym, ◌∙◌, ap, if◌then◌else◌, ◌⊎◌, inl, inr, StampParts, TimeParts, Has, same_stamp, lt, ObjectId, Value, or_else, settle_of, version_count, stays_put, kept, retired}
use Rattle.pseudo_time.specs.declared.decisions.Decision.{Decision}
use Rattle.effect_form.specs.declared.effects.Effect.{Effect}
use Rattle.effect_form.specs.declared.effects.Effect.TheVariants.{Put, Stretch, Begin, Decide, Learn, Mark, Whole}
use Rattle.object_history.specs.declared.marks.Mark as history
use Rattle.object_history.specs.declared.marks.Mark.TheVariants as mark
use Rattle.repository_log.specs.Logs.{marks, known, is_commit, as_decision, first_begin, decision_of, record_from, record_of}
use Rattle.object_retirement.specs.Forward.{carried, forwarded}
use Rattle.object_retirement.proofs.RetiredLemmas.{settle-kept}

-- ---- its marks

marks-put : (b : Bool) (o : ObjectId) (x : TimeParts) (v : Value) (k : List Effect) (m : List history.Mark) → marks k ≡ m →
    marks (if b then Put o x v ∷ k else k) ≡ (if b then mark.Put o x v ∷ m else m)
marks-put true o x v k m h = ap (λ z. mark.Put o x v ∷ z) h
marks-put false o x v k m h = h

marks-stretch : (b : Bool) (o : ObjectId) (x : TimeParts) (k : List Effect) (m : List history.Mark) → marks k ≡ m → marks (if b then Stretch o x ∷ k else k) ≡ (if b then mark.Stretch o x ∷ m else m)
marks-stretch true o x k m h = ap (λ z. mark.Stretch o x ∷ z) h
marks-stretch false o x k m h = h

pub marks-carried : (all : List Effect) (at : TimeParts) (l : List Effect) → marks (carried all at l) ≡ kept (marks all) at (marks l)
unfolding kept
marks-carried all at [] = refl
marks-carried all at (Put o x v ∷ l) = marks-put (stays_put (marks all) at o x (version_count o (marks l))) o x v (carried all at l) (kept (marks all) at (marks l)) (marks-carried all at l)
marks-carried all at (Stretch o x ∷ l) = marks-stretch (lt at x) o x (carried all at l) (kept (marks all) at (marks l)) (marks-carried all at l)
marks-carried all at (Decide s d ∷ l) = ap (λ z. mark.Settle s (is_commit d) ∷ z) (marks-carried all at l)
marks-carried all at (Learn s c ∷ l) = ap (λ z. mark.Settle s c ∷ z) (marks-carried all at l)
marks-carried all at (f ∷ l) = marks-carried all at l

-- the history of a log that was carried forward is the retired one
pub marks-forwarded : (l : List Effect) (at : TimeParts) → marks (forwarded l at) ≡ retired (marks l) at
marks-forwarded l at = marks-carried l at l

pub known-carried : (all : List Effect) (at : TimeParts) (l : List Effect) (s : StampParts) → known (carried all at l) s ≡ known l s
known-carried all at l s = ap (λ m. settle_of m s) (marks-carried all at l) ∙ settle-kept (marks all) at (marks l) s

-- ---- its records

begin-if : (b : Bool) (f : Effect) (k : List Effect) (s : StampParts) → first_begin (f ∷ k) s ≡ first_begin k s → first_begin (if b then f ∷ k else k) s ≡ first_begin k s
begin-if true f k s h = h
begin-if false f k s h = refl

pub begin-carried : (all : List Effect) (at : TimeParts) (l : List Effect) (s : StampParts) → first_begin (carried all at l) s ≡ first_begin l s
unfolding first_begin
begin-carried all at [] s = refl
begin-carried all at (Put o x v ∷ l) s = begin-if (stays_put (marks all) at o x (version_count o (marks l))) (Put o x v) (carried all at l) s refl ∙ begin-carried all at l s
begin-carried all at (Stretch o x ∷ l) s = begin-if (lt at x) (Stretch o x) (carried all at l) s refl ∙ begin-carried all at l s
begin-carried all at (Begin p d ∷ l) s = ap (λ u. if same_stamp p s then or_else u d else u) (begin-carried all at l s)
begin-carried all at (f ∷ l) s = begin-carried all at l s

decision-if : (b : Bool) (f : Effect) (k : List Effect) (s : StampParts) → decision_of (f ∷ k) s ≡ decision_of k s → decision_of (if b then f ∷ k else k) s ≡ decision_of k s
decision-if true f k s h = h
decision-if false f k s h = refl

pub decision-carried : (all : List Effect) (at : TimeParts) (l : List Effect) (s : StampParts) → decision_of (carried all at l) s ≡ decision_of l s
unfolding decision_of
decision-carried all at [] s = refl
decision-carried all at (Put o x v ∷ l) s = decision-if (stays_put (marks all) at o x (version_count o (marks l))) (Put o x v) (carried all at l) s refl ∙ decision-carried all at l s
decision-carried all at (Stretch o x ∷ l) s = decision-if (lt at x) (Stretch o x) (carried all at l) s refl ∙ decision-carried all at l s
decision-carried all at (Decide p d ∷ l) s = ap (λ u. if same_stamp p s then or_else u d else u) (decision-carried all at l s)
decision-carried all at (Learn p c ∷ l) s = ap (λ u. if same_stamp p s then or_else u (as_decision c) else u) (decision-carried all at l s)
decision-carried all at (f ∷ l) s = decision-carried all at l s

pub record-carried : (all : List Effect) (at : TimeParts) (l : List Effect) (s : StampParts) → record_of (carried all at l) s ≡ record_of l s
record-carried all at l s = ap (λ u. record_from u (decision_of (carried all at l) s)) (begin-carried all at l s) ∙ ap (record_from (first_begin l s)) (decision-carried all at l s)

-- ---- its effects

has-if : (b : Bool) (f g : Effect) (k : List Effect) → Has g k → Has g (if b then f ∷ k else k)
has-if true f g k h = inr h
has-if false f g k h = h

-- each decision stays
pub decide-carried : (all : List Effect) (at : TimeParts) (l : List Effect) (s : StampParts) (d : Decision) → Has (Decide s d) l → Has (Decide s d) (carried all at l)
decide-carried all at [] s d h = absurd h
decide-carried all at (Put o x v ∷ l) s d (inl e) = absurd (cc e)
decide-carried all at (Put o x v ∷ l) s d (inr h) = has-if (stays_put (marks all) at o x (version_count o (marks l))) (Put o x v) (Decide s d) (carried all at l) (decide-carried all at l s d h)
decide-carried all at (Stretch o x ∷ l) s d (inl e) = absurd (cc e)
decide-carried all at (Stretch o x ∷ l) s d (inr h) = has-if (lt at x) (Stretch o x) (Decide s d) (carried all at l) (decide-carried all at l s d h)
decide-carried all at (Mark x ∷ l) s d (inl e) = absurd (cc e)
decide-carried all at (Mark x ∷ l) s d (inr h) = decide-carried all at l s d h
decide-carried all at (Whole ∷ l) s d (inl e) = absurd (cc e)
decide-carried all at (Whole ∷ l) s d (inr h) = decide-carried all at l s d h
decide-carried all at (f ∷ l) s d (inl e) = inl e
decide-carried all at (f ∷ l) s d (inr h) = inr (decide-carried all at l s d h)

from-if : (b : Bool) (f g : Effect) (k l : List Effect) (X : Type 0) → (Has g k → X ⊎ Has g l) → Has g (if b then f ∷ k else k) → X ⊎ Has g (f ∷ l)
from-if true f g k l X h (inl e) = inr (inl e)
from-if true f g k l X h (inr j) = deeper (h j)
  where
    deeper : X ⊎ Has g l → X ⊎ Has g (f ∷ l)
    deeper (inl x) = inl x
    deeper (inr i) = inr (inr i)
from-if false f g k l X h j = deeper (h j)
  where
    deeper : X ⊎ Has g l → X ⊎ Has g (f ∷ l)
    deeper (inl x) = inl x
    deeper (inr i) = inr (inr i)

-- and nothing is new but the mark
pub carried-has : (all : List Effect) (at : TimeParts) (l : List Effect) (g : Effect) → Has g (carried all at l) → (g ≡ Mark at) ⊎ Has g l
carried-has all at [] g (inl e) = inl (sym e)
carried-has all at [] g (inr h) = absurd h
carried-has all at (Put o x v ∷ l) g h = from-if (stays_put (marks all) at o x (version_count o (marks l))) (Put o x v) g (carried all at l) l (g ≡ Mark at) (carried-has all at l g) h
carried-has all at (Stretch o x ∷ l) g h = from-if (lt at x) (Stretch o x) g (carried all at l) l (g ≡ Mark at) (carried-has all at l g) h
carried-has all at (Mark x ∷ l) g h = from-if false (Mark x) g (carried all at l) l (g ≡ Mark at) (carried-has all at l g) h
carried-has all at (Whole ∷ l) g h = from-if false Whole g (carried all at l) l (g ≡ Mark at) (carried-has all at l g) h
carried-has all at (f ∷ l) g h = from-if true f g (carried all at l) l (g ≡ Mark at) (carried-has all at l g) h

-- ---- the whole of it

pub record-forwarded : (l : List Effect) (at : TimeParts) (s : StampParts) → record_of (forwarded l at) s ≡ record_of l s
unfolding first_begin decision_of
record-forwarded l at s = record-carried l at l s

pub decide-forwarded : (l : List Effect) (at : TimeParts) (s : StampParts) (d : Decision) → Has (Decide s d) l → Has (Decide s d) (forwarded l at)
decide-forwarded l at s d h = inr (decide-carried l at l s d h)

pub forwarded-has : (l : List Effect) (at : TimeParts) (g : Effect) → Has g (forwarded l at) → (g ≡ Whole) ⊎ ((g ≡ Mark at) ⊎ Has g l)
forwarded-has l at g (inl e) = inl (sym e)
forwarded-has l at g (inr h) = inr (carried-has l at l g h)
