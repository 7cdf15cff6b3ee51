-- What a member keeps goes on to be that of its log.
use Rattle.record_votes.proofs.Names.{◌≡◌, ◌<◌, ◌+◌, ℕ, Bool, true, false, List, [], ◌∷◌, ◌++◌, length, take, get_or, map, refl, sym, ◌∙◌, ap, subst, cond, Option, Some, None, T, ◌&&◌, reverse, if◌then◌else◌, is_sorted, below_all, filter, is_lt, is_eq, true≢false, false≢true, Every, is_due, expiry_of, expiries, sorted-expiries, option_copied, reverse-append, map-append, append-nil, append_assoc, take_more, StampParts, stamp_cmp, same_stamp, same_stamp-is, Decision, Effect, RecordState, Unknown, Decided, States, begun, settled, listed_at, begin_step, or_else, marks, first_begin, decision_of, record_from, record_of, known, begun_stamps, began, began_by, IsUnknown, BooksShow, restored, early_or, from-begin, from-none, from-unknown, record-decide, own, book, decides, IsBook, settled_all}
use Rattle.std.specs.declared.cmp.Ordering.{Ordering}
use Rattle.std.specs.declared.cmp.Ordering.TheVariants.{Less, Equal, Greater}
use Rattle.std.specs.Borrow.{Bor}
use Rattle.std.specs.declared.snapshot.Snapshot.{Snapshot}
use Rattle.effect_form.specs.declared.effects.Effect.TheVariants as effect
use Rattle.repository_log.proofs.AgreeLemmas.{opened-agrees, agree-begin, agree-decide}
use Rattle.repository_log.specs.Opening.{AreRecords, AreEarly}

abbrev Entries : Type 0
Entries = List (StampParts × Decision)

pub book-begin : (l : List Effect) (s : StampParts) (d : ℕ) → book (l ++ effect.Begin s d ∷ []) ≡ effect.Begin s d ∷ book l
book-begin l s d = ap own (reverse-append l (effect.Begin s d ∷ []))

pub book-decide : (l : List Effect) (s : StampParts) (x : Decision) → book (l ++ effect.Decide s x ∷ []) ≡ effect.Decide s x ∷ book l
book-decide l s x = ap own (reverse-append l (effect.Decide s x ∷ []))

agrees : (l : List Effect) (r : States) (e : Entries) → IsBook l r e → BooksShow [] l (marks l) r e
agrees l r e b = opened-agrees l r e b.recorded b.remembered

-- ---- a Begin

not-begun : (b : Bool) (t : Option ℕ) (d : ℕ) → (if b then or_else t d else t) ≡ None → t ≡ None
not-begun true None d h = refl
not-begun true (Some y) d h = absurd (cc h)
not-begun false t d h = h

pub begin-book : (l : List Effect) (r : States) (e : Entries) (s : StampParts) (d : ℕ) → IsBook l r e → record_of l s ≡ None
    → IsBook (effect.Begin s d ∷ l) (restored (listed_at e s) (begun r s d) s) e
unfolding first_begin decision_of
begin-book l r e s d b none =
    let a : BooksShow [] l (marks l) r e = agrees l r e b in
    let first : first_begin l s ≡ None = from-none (first_begin l s) (decision_of l s) none in
    let early : listed_at e s ≡ early_or (listed_at e s) (known l s) = b.remembered s first ∙ a.remembered s first in
    let after : BooksShow [] (began l s d) (marks l) (restored (listed_at e s) (begun r s d) s) e = agree-begin l (marks l) r e s d (listed_at e s) (ap begin_step (b.recorded s ∙ none)) a early in
    record {
      recorded = λ q. after.recorded q ∙ ap (λ z. record_of (began_by z l s d) q) none;
      remembered = λ q h. b.remembered q (not-begun (same_stamp s q) (first_begin l q) d h);
    }

-- ---- a Decide

not-decided : (b : Bool) (l : List Effect) (s q : StampParts) (x : Decision) (t : ℕ) → (b ≡ true → s ≡ q) → first_begin l s ≡ Some t → first_begin l q ≡ None
    → decision_of l q ≡ (if b then or_else (decision_of l q) x else decision_of l q)
not-decided true l s q x t e there none = let k : Some t ≡ None = sym there ∙ ap (λ z. first_begin l z) (e refl) ∙ none in absurd (cc k)
not-decided false l s q x t e there none = refl

pub decide-book : (l : List Effect) (r : States) (e : Entries) (s : StampParts) (x : Decision) (t : ℕ) → IsBook l r e → record_of l s ≡ Some (Unknown t)
    → IsBook (effect.Decide s x ∷ l) (settled r s x) e
unfolding first_begin decision_of
decide-book l r e s x t b unknown =
    let begin : first_begin l s ≡ Some t = from-begin (first_begin l s) (decision_of l s) t unknown in
    let after : BooksShow [] (effect.Decide s x ∷ l) _ (settled r s x) e = agree-decide l (marks l) r e s t x (agrees l r e b) unknown in
    record {
      recorded = λ q. after.recorded q;
      remembered = λ q h. b.remembered q h ∙ not-decided (same_stamp s q) l s q x t (same_stamp-is s q) begin h;
    }

-- ---- over the log as a list of snapshots

abbrev Snaps : Type 0
Snaps = List (Snapshot Effect)

abbrev pub values : Snaps → List Effect
values l = map (λ s. s.value) l

next-values : (old new : Snaps) (x : Snapshot Effect) (f : Effect) → x.value ≡ f → new ≡ old ++ x ∷ [] → values new ≡ values old ++ f ∷ []
next-values old new x f e is = ap values is ∙ map-append (λ s. s.value) old (x ∷ []) ∙ ap (λ z. values old ++ z ∷ []) e

pub begin-kept : (now : List Effect) (old new : Snaps) (x : Snapshot Effect) (r r2 : States) (e : Entries) (s : StampParts) (d : ℕ) → x.value ≡ effect.Begin s d → new ≡ old ++ x ∷ []
    → now ≡ values old → IsBook (book (values old)) r e → record_of (book now) s ≡ None → r2 ≡ restored (listed_at e s) (begun r s d) s → IsBook (book (values new)) r2 e
begin-kept now old new x r r2 e s d v is view b none same =
    subst (λ z. IsBook (book (values new)) z e) (sym same)
    (subst (λ z. IsBook z (restored (listed_at e s) (begun r s d) s) e) (sym (ap book (next-values old new x (effect.Begin s d) v is) ∙ book-begin (values old) s d)) (begin-book (book (values old)) r e s d b (ap (λ z. record_of (book z) s) (sym view) ∙ none)))

pub decide-kept : (now : List Effect) (old new : Snaps) (x : Snapshot Effect) (r r2 : States) (e : Entries) (s : StampParts) (y : Decision) → x.value ≡ effect.Decide s y → new ≡ old ++ x ∷ []
    → now ≡ values old → IsBook (book (values old)) r e → ((t : ℕ) × (record_of (book now) s ≡ Some (Unknown t))) → r2 ≡ settled r s y → IsBook (book (values new)) r2 e
decide-kept now old new x r r2 e s y v is view b unknown same =
    subst (λ z. IsBook (book (values new)) z e) (sym same)
    (subst (λ z. IsBook z (settled r s y) e) (sym (ap book (next-values old new x (effect.Decide s y) v is) ∙ book-decide (values old) s y)) (decide-book (book (values old)) r e s y unknown.0 b (ap (λ z. record_of (book z) s) (sym view) ∙ unknown.1)))

pub not-some : {X : Type 0} (r : Option (Bor X)) → ((x : Bor X) → r ≡ Some x → ⊥) → option_copied r ≡ None
not-some None h = refl
not-some (Some x) h = absurd (h x refl)

-- ---- a moment is heard

-- the log, newest first, once each of these is decided
abbrev pub added : Entries → List Effect → List Effect
added [] l = l
added (e ∷ es) l = added es (effect.Decide e.0 e.1 ∷ l)

pub book-added : (l : List Effect) (es : Entries) → book (l ++ decides es) ≡ added es (book l)
book-added l [] = ap book (append-nil l)
book-added l (e ∷ es) =
    ap book (sym (append_assoc l (effect.Decide e.0 e.1 ∷ []) (decides es))) ∙ book-added (l ++ effect.Decide e.0 e.1 ∷ []) es ∙ ap (λ z. added es z) (book-decide l e.0 e.1)

abbrev Unknowns : List Effect → Entries → Type 0
Unknowns l es = Every (λ e. IsUnknown l e.0) es

pub first-of : (a b : Bool) → T (a && b) → T a
first-of true b p = tt
first-of false b p = p

pub second-of : (a b : Bool) → T (a && b) → T b
second-of true b p = p
second-of false b p = absurd p

apart : (o : Ordering) → T (is_lt o) → is_eq o ≡ false
apart Less p = refl
apart Equal p = absurd p
apart Greater p = absurd p

still-if : (b : Bool) (u v : Option RecordState) → b ≡ false → (if b then u else v) ≡ v
still-if true u v e = absurd (true≢false e)
still-if false u v e = refl

still-unknown : (l : List Effect) (s q : StampParts) (x : Decision) → decision_of l s ≡ None → same_stamp s q ≡ false → IsUnknown l q → IsUnknown (effect.Decide s x ∷ l) q
still-unknown l s q x none e h = (h.0, record-decide l s q x none ∙ still-if (same_stamp s q) (record_from (first_begin l s) (Some x)) (record_of l q) e ∙ h.1)

pub apart-stamps : (s q : StampParts) → T (is_lt (stamp_cmp s q)) → same_stamp s q ≡ false
unfolding same_stamp
apart-stamps s q h = apart (stamp_cmp s q) h

unknowns-stay : (l : List Effect) (s : StampParts) (x : Decision) (es : Entries) → decision_of l s ≡ None → T (below_all stamp_cmp s es) → Unknowns l es → Unknowns (effect.Decide s x ∷ l) es
unknowns-stay l s x [] none below h = tt
unknowns-stay l s x (e ∷ es) none below h = (
  still-unknown l s e.0 x none (apart-stamps s e.0 (first-of (is_lt (stamp_cmp s e.0)) (below_all stamp_cmp s es) below)) h.0,
  unknowns-stay l s x es none (second-of (is_lt (stamp_cmp s e.0)) (below_all stamp_cmp s es) below) h.1,
)

expire-each : (es : Entries) (l : List Effect) (r : States) (e : Entries) → IsBook l r e → T (is_sorted stamp_cmp es) → Unknowns l es → IsBook (added es l) (settled_all r es) e
expire-each [] l r e b rise all = b
expire-each (d ∷ es) l r e b rise all =
    let none : decision_of l d.0 ≡ None = from-unknown (first_begin l d.0) (decision_of l d.0) all.0.0 all.0.1 in
    expire-each es (effect.Decide d.0 d.1 ∷ l) (settled r d.0 d.1) e (decide-book l r e d.0 d.1 all.0.0 b all.0.1)
    (second-of (below_all stamp_cmp d.0 es) (is_sorted stamp_cmp es) rise)
    (unknowns-stay l d.0 d.1 es none (first-of (below_all stamp_cmp d.0 es) (is_sorted stamp_cmp es) rise) all.1)

due-unknown : (m : ℕ) (u : Option RecordState) → is_due m u ≡ true → (t : ℕ) × (u ≡ Some (Unknown t))
due-unknown m None h = absurd (false≢true h)
due-unknown m (Some (Unknown t)) h = (t, refl)
due-unknown m (Some (Decided d)) h = absurd (false≢true h)

unknowns-if : (m : ℕ) (l : List Effect) (k : StampParts) (ks : List StampParts) (b : Bool) → is_due m (record_of l k) ≡ b
    → Unknowns l (map (λ s. (s, expiry_of m (record_of l s))) ks) → Unknowns l (map (λ s. (s, expiry_of m (record_of l s))) (cond b (k ∷ ks) ks))
unknowns-if m l k ks true e h = (due-unknown m (record_of l k) e, h)
unknowns-if m l k ks false e h = h

unknowns : (m : ℕ) (l : List Effect) (ks : List StampParts) → Unknowns l (map (λ s. (s, expiry_of m (record_of l s))) (filter (λ s. is_due m (record_of l s)) ks))
unknowns m l [] = tt
unknowns m l (k ∷ ks) = unknowns-if m l k (filter (λ s. is_due m (record_of l s)) ks) (is_due m (record_of l k)) refl (unknowns m l ks)

pub expire-kept : (now : List Effect) (old new more : Snaps) (r r2 : States) (e es : Entries) → values more ≡ decides es → new ≡ old ++ more → now ≡ values old
    → IsBook (book (values old)) r e → ((m : ℕ) × (es ≡ expiries m (book now))) → r2 ≡ settled_all r es → IsBook (book (values new)) r2 e
expire-kept now old new more r r2 e es v is view b due same =
    let l : List Effect = book (values old) in
    let m : ℕ = due.0 in
    let are : es ≡ expiries m l = due.1 ∙ ap (λ z. expiries m (book z)) view in
    let log : book (values new) ≡ added es l = ap book (ap values is ∙ map-append (λ s. s.value) old more ∙ ap (λ z. values old ++ z) v) ∙ book-added (values old) es in
    subst (λ z. IsBook (book (values new)) z e) (sym same)
    (subst (λ z. IsBook z (settled_all r es) e) (sym log)
    (expire-each es l r e b (subst (λ z. T (is_sorted stamp_cmp z)) (sym are) (sorted-expiries m l)) (subst (λ z. Unknowns l z) (sym are) (unknowns m l (begun_stamps l)))))

-- ---- the Begins and Decides of a log

pub own-append : (a b : List Effect) → own (a ++ b) ≡ own a ++ own b
own-append [] b = refl
own-append (effect.Begin s t ∷ a) b = ap (λ z. effect.Begin s t ∷ z) (own-append a b)
own-append (effect.Decide s d ∷ a) b = ap (λ z. effect.Decide s d ∷ z) (own-append a b)
own-append (f ∷ a) b = own-append a b

own-turned : (f : Effect) → reverse (own (f ∷ [])) ≡ own (f ∷ [])
own-turned (effect.Begin s t) = refl
own-turned (effect.Decide s d) = refl
own-turned f = refl

-- from the other end
pub own-reverse : (l : List Effect) → own (reverse l) ≡ reverse (own l)
own-reverse [] = refl
own-reverse (f ∷ l) =
    ap own (reverse-append (f ∷ []) l) ∙ own-append (reverse l) (f ∷ [])
    ∙ (λ j. own-reverse l j ++ sym (own-turned f) j)
    ∙ sym (reverse-append (own (f ∷ [])) (own l)) ∙ ap reverse (sym (own-append (f ∷ []) l))

-- with those of one effect more
pub own-next : (l : List Effect) (i : ℕ) (f : Effect) (old new : List Effect) → i < length l → f ≡ get_or l i f → old ≡ own (take i l) → new ≡ old ++ own (f ∷ []) → new ≡ own (take (i + 1) l)
own-next l i f old new lt at h n =
    n ∙ ap (λ z. z ++ own (f ∷ [])) h ∙ sym (own-append (take i l) (f ∷ [])) ∙ ap (λ z. own (take i l ++ z ∷ [])) at ∙ ap own (sym (take_more l i f lt))

pub opened-book : (l : List Effect) (owned : List Effect) (snaps : Snaps) (r : States) (e : Entries) → owned ≡ own l → values snaps ≡ l → AreRecords (reverse owned) r → AreEarly (reverse owned) e
    → IsBook (book (values snaps)) r e
opened-book l owned snaps r e is log h k =
    let turned : reverse owned ≡ book (values snaps) = ap reverse is ∙ sym (own-reverse l) ∙ ap book (sym log) in
    subst (λ z. IsBook z r e) turned (record { recorded = h; remembered = k })
