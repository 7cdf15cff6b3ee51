-- The records that expire in a hearing are still unknown, each in its turn.
use Rattle.repository_core.proofs.Names.{◌≡◌, ℕ, ◌<◌, ◌+◌, Bool, true, false, List, [], ◌∷◌, map, length, drop, get_or, cond, refl, sym, ◌∙◌, ap, subst, Option, Some, None, T, nat_le, not, ◌&&◌, if◌then◌else◌, filter, is_lt, is_eq, Ordering, Less, Equal, Greater, drop_more, StampParts, stamp_cmp, TimeParts, same_stamp, Every, Decision, NodeId, ObjectId, Effect, listed_at, read_step, HeldRead, first_begin, decision_of, record_of, marks, known, begun, IsUnknown, HasSameRecords, Hand, now, note, send, HasSameLog, repository, unhold, read_as, read_known, on_read, reread, release, tell_askers, expired, expire_as, expire, expire_all, waited, asks, ask_again, on_moment, is_due, due, expiry_of, expiries, unknown-unsettled, sorted-expiries}
use Rattle.std.specs.FinMap.Entries.{is_sorted, below_all}
use Rattle.std.proofs.lemmas.Bool.{false≢true, true≢false}
use Rattle.pseudo_time.specs.declared.decisions.Decision.TheVariants as decision
use Rattle.repository_draft.specs.Effect.TheVariants as effect
use Rattle.repository_draft.specs.Message.TheVariants as message
use Rattle.commit_record.specs.declared.states.RecordState.{RecordState}
use Rattle.commit_record.specs.declared.states.RecordState.TheVariants.{Unknown, Decided}
use Rattle.repository_core.proofs.RowLemmas.{now-read, record-by, tell-now}

-- ---- a read, and all that is set free, changes no record

record-as : (before : List (TimeParts × HeldRead)) (h : Hand) (from : NodeId) (t : TimeParts) (o : ObjectId) (s : _) → HasSameRecords (now h) (now (read_as before (unhold t h) from t o s))
record-as before h from t o s = subst (λ l. HasSameRecords (now h) l) (sym (now-read before h from t o s)) (record-by (now h) o t s)

record-known : (h : Hand) (from : NodeId) (t : TimeParts) (o : ObjectId) (u : Option Bool) → HasSameRecords (now h) (now (read_known h from t o u))
record-known h from t o (Some false) = λ p. refl
record-known h from t o (Some true) = record-as h.held h from t o (read_step (marks (now h)) o t)
record-known h from t o None = record-as h.held h from t o (read_step (marks (now h)) o t)

record-read : (h : Hand) (from : NodeId) (t : TimeParts) (o : ObjectId) → HasSameRecords (now h) (now (on_read h from t o))
unfolding on_read
record-read h from t o = record-known h from t o (known (now h) t.stamp)

record-reread : (xs : List (TimeParts × HeldRead)) (h : Hand) → HasSameRecords (now h) (now (reread xs h))
record-reread [] h = λ p. refl
record-reread (x ∷ xs) h = λ p. record-reread xs (on_read h x.1.from x.0 x.1.object) p ∙ record-read h x.1.from x.0 x.1.object p

pub record-release : (s : StampParts) (h : Hand) → HasSameRecords (now h) (now (release s h))
unfolding release
record-release s h = record-reread (filter (λ e. same_stamp e.1.waits s) h.held) (record h { held = filter (λ e. not (same_stamp e.1.waits s)) h.held })

-- what is noted, told and released of a record that expires
abbrev expiring : StampParts × Decision → Hand → Hand
expiring x h = release x.0 (tell_askers x.0 false (note (effect.Decide x.0 x.1) h))

record-expiring : (x : StampParts × Decision) (h : Hand) (p : StampParts) → record_of (now (expiring x h)) p ≡ record_of (effect.Decide x.0 x.1 ∷ now h) p
record-expiring x h p =
    record-release x.0 (tell_askers x.0 false (note (effect.Decide x.0 x.1) h)) p ∙ ap (λ l. record_of l p) (tell-now x.0 false (note (effect.Decide x.0 x.1) h))

-- a Decide changes the record of its stamp alone
pub record-other : (l : List Effect) (s : StampParts) (d : Decision) (p : StampParts) → same_stamp s p ≡ false → record_of (effect.Decide s d ∷ l) p ≡ record_of l p
unfolding first_begin decision_of
record-other l s d p h = rw h refl

-- ---- records that wait for their expiry

-- this record is unknown, and expires so
abbrev pub IsPending : ℕ → List Effect → StampParts × Decision → Type 0
IsPending m l x = (t : ℕ) × (record_of l x.0 ≡ Some (Unknown t)) × (x.1 ≡ decision.Expired t m) × (nat_le t m ≡ true)

-- no two are of one stamp
abbrev pub Apart : List (StampParts × Decision) → Type 0
Apart [] = Unit {0}
Apart (x ∷ more) = Every (λ y. same_stamp x.0 y.0 ≡ false) more × Apart more

pub still-pending : (m : ℕ) (l k : List Effect) (x : StampParts × Decision) (ys : List (StampParts × Decision)) → ((p : StampParts) → record_of k p ≡ record_of (effect.Decide x.0 x.1 ∷ l) p)
    → Every (λ y. same_stamp x.0 y.0 ≡ false) ys → Every (IsPending m l) ys → Every (IsPending m k) ys
still-pending m l k x [] same apart h = tt
still-pending m l k x (y ∷ ys) same apart h =
    ((h.0.0, same y.0 ∙ record-other l x.0 x.1 y.0 apart.0 ∙ h.0.1, h.0.2, h.0.3), still-pending m l k x ys same apart.1 h.1)

expire-one : (m : ℕ) (h : Hand) (x : StampParts × Decision) → IsPending m (now h) x → expire m x.0 h ≡ expiring x h
unfolding expire
expire-one m h x p =
    ap (λ u. expire_as m x.0 h u) p.1
    ∙ ap (λ b. if b then expiring (x.0, decision.Expired p.0 m) h else h) p.3
    ∙ ap (λ d. expiring (x.0, d) h) (sym p.2)

abbrev stamps : List (StampParts × Decision) → List StampParts
stamps xs = map (λ x. x.0) xs

-- asking again in the fold makes no difference
expire-all-is : (m : ℕ) (xs : List (StampParts × Decision)) (h : Hand) → Every (IsPending m (now h)) xs → Apart xs → expire_all m (stamps xs) h ≡ expired xs h
expire-all-is m [] h p a = refl
expire-all-is m (x ∷ xs) h p a =
    ap (λ z. expire_all m (stamps xs) z) (expire-one m h x p.0)
    ∙ expire-all-is m xs (expiring x h) (still-pending m (now h) (now (expiring x h)) x xs (record-expiring x h) a.0 p.1) a.1

-- ---- those that are due are such records

due-pending : (m : ℕ) (u : Option RecordState) → is_due m u ≡ true → (t : ℕ) × (u ≡ Some (Unknown t)) × (expiry_of m u ≡ decision.Expired t m) × (nat_le t m ≡ true)
due-pending m None h = absurd (false≢true h)
due-pending m (Some (Unknown t)) h = (t, refl, refl, h)
due-pending m (Some (Decided d)) h = absurd (false≢true h)

pending-if : (b : Bool) (m : ℕ) (l : List Effect) (s : StampParts) (xs : List (StampParts × Decision)) → is_due m (record_of l s) ≡ b → Every (IsPending m l) xs
    → Every (IsPending m l) (cond b ((s, expiry_of m (record_of l s)) ∷ xs) xs)
pending-if true m l s xs e h = (due-pending m (record_of l s) e, h)
pending-if false m l s xs e h = h

abbrev tag : (StampParts → Decision) → List StampParts → List (StampParts × Decision)
tag f ss = map {B = StampParts × Decision} (λ z. (z, f z)) ss

tag-if : (b : Bool) (f : StampParts → Decision) (s : StampParts) (ss : List StampParts) → tag f (cond b (s ∷ ss) ss) ≡ cond b ((s, f s) ∷ tag f ss) (tag f ss)
tag-if true f s ss = refl
tag-if false f s ss = refl

all-pending : (m : ℕ) (l : List Effect) (ss : List StampParts) → Every (IsPending m l) (tag (λ s. expiry_of m (record_of l s)) (filter (λ s. is_due m (record_of l s)) ss))
all-pending m l [] = tt
all-pending m l (s ∷ ss) =
    let rest : List StampParts = filter (λ z. is_due m (record_of l z)) ss in
    let f : StampParts → Decision = λ z. expiry_of m (record_of l z) in
    subst (Every (IsPending m l)) (sym (tag-if (is_due m (record_of l s)) f s rest))
    (pending-if (is_due m (record_of l s)) m l s (tag f rest) refl (all-pending m l ss))

pub expiries-pending : (m : ℕ) (l : List Effect) → Every (IsPending m l) (expiries m l)
expiries-pending m l = all-pending m l (begun l)

apart-less : (o : Ordering) → T (is_lt o) → is_eq o ≡ false
apart-less Less h = refl
apart-less Equal h = absurd h
apart-less Greater h = absurd h

first : (a b : Bool) → T (a && b) → T a
first true b p = tt
first false b p = p

second : (a b : Bool) → T (a && b) → T b
second true b p = p
second false b p = absurd p

below-apart : (s : StampParts) (xs : List (StampParts × Decision)) → T (below_all stamp_cmp s xs) → Every (λ y. same_stamp s y.0 ≡ false) xs
unfolding same_stamp
below-apart s [] h = tt
below-apart s (x ∷ xs) h =
    (apart-less (stamp_cmp s x.0) (first (is_lt (stamp_cmp s x.0)) (below_all stamp_cmp s xs) h), below-apart s xs (second (is_lt (stamp_cmp s x.0)) (below_all stamp_cmp s xs) h))

sorted-apart : (xs : List (StampParts × Decision)) → T (is_sorted stamp_cmp xs) → Apart xs
sorted-apart [] h = tt
sorted-apart (x ∷ xs) h =
    (below-apart x.0 xs (first (below_all stamp_cmp x.0 xs) (is_sorted stamp_cmp xs) h), sorted-apart xs (second (below_all stamp_cmp x.0 xs) (is_sorted stamp_cmp xs) h))

pub expiries-apart : (m : ℕ) (l : List Effect) → Apart (expiries m l)
expiries-apart m l = sorted-apart (expiries m l) (sorted-expiries m l)

stamps-back : (f : StampParts → Decision) (ss : List StampParts) → stamps (tag f ss) ≡ ss
stamps-back f [] = refl
stamps-back f (s ∷ ss) = ap (λ z. s ∷ z) (stamps-back f ss)

-- a hearing expires just the records that were due as it began, each once, in the order of their stamps
pub hearing-listed : (h : Hand) (m : ℕ) → on_moment h m ≡ ask_again (expired (expiries m (now h)) (record h { moment = m }))
unfolding on_moment
hearing-listed h m =
    let g : Hand = record h { moment = m } in
    ap ask_again
    (ap (λ z. expire_all m z g) (sym (stamps-back (λ s. expiry_of m (record_of (now h) s)) (due m (now h))))
    ∙ expire-all-is m (expiries m (now h)) g (expiries-pending m (now h)) (expiries-apart m (now h)))

-- ---- one of them after the other

pub next-is : (xs : List (StampParts × Decision)) (i : ℕ) (x : StampParts × Decision) → i < length xs → x ≡ get_or xs i x → drop i xs ≡ x ∷ drop (i + 1) xs
next-is xs i x h e = drop_more xs i x h ∙ ap (λ z. z ∷ drop (i + 1) xs) (sym e)

listed-if : (b : Bool) (x : Decision) (w : Option Decision) → b ≡ false → w ≡ None → cond b (Some x) w ≡ None
listed-if true x w h e = absurd (true≢false h)
listed-if false x w h e = e

pub listed-apart : (s : StampParts) (xs : List (StampParts × Decision)) → Every (λ y. same_stamp s y.0 ≡ false) xs → listed_at xs s ≡ None
unfolding same_stamp
listed-apart s [] h = refl
listed-apart s (x ∷ xs) h = listed-if (is_eq (stamp_cmp s x.0)) x.1 (listed_at xs s) h.0 (listed-apart s xs h.1)

pub pending-unknown : (m : ℕ) (l : List Effect) (x : StampParts × Decision) → IsPending m l x → IsUnknown l x.0
pending-unknown m l x p = (p.0, p.1)

pub pending-unsettled : (m : ℕ) (l : List Effect) (x : StampParts × Decision) → IsPending m l x → known l x.0 ≡ None
pending-unsettled m l x p = unknown-unsettled l x.0 p.0 p.1

-- ---- asking again

asks-now : (ss : List StampParts) (h : Hand) → now (asks ss h) ≡ now h
asks-now [] h = refl
asks-now (w ∷ ss) h = asks-now ss (send (repository w.home) (message.Ask w) h)

asks-log : (ss : List StampParts) (h : Hand) → HasSameLog h (asks ss h)
asks-log [] h = (refl, refl)
asks-log (w ∷ ss) h = asks-log ss (send (repository w.home) (message.Ask w) h)

pub again-now : (h : Hand) → now (ask_again h) ≡ now h
unfolding ask_again
again-now h = asks-now (waited h.number h.held []) h

pub again-log : (h : Hand) → HasSameLog h (ask_again h)
unfolding ask_again
again-log h = asks-log (waited h.number h.held []) h
