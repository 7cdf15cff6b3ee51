-- What a row of the rules makes of the log.
use Rattle.repository_core.proofs.Names.{◌≡◌, ◌≤◌, ◌<◌, ◌+◌, subst, get_or, length, drop, ℕ, Bool, true, false, List, [], ◌∷◌, refl, sym, ◌∙◌, ap, Some, None, ◌==◌, ◌||◌, if◌then◌else◌, not, StampParts, TimeParts, NodeId, ObjectId, Value, Effect, ReadStep, WriteStep, HeldRead, Asker, drop_all, drop_more, filter, same_stamp, read_step, AreHeld, read_by, wrote, first_begin, decision_of, marks, known, HasSameRecords, Hand, now, note, send, HasSameLog, repository, unhold, hold, waits_for, read_as, read_known, on_read, write_as, reread, release, learn_as, on_learn, tells, tell_askers}
use Rattle.repository_draft.specs.Message.TheVariants as message
use Rattle.repository_draft.specs.ReadStep.TheVariants as read
use Rattle.repository_draft.specs.WriteStep.TheVariants as write
use Rattle.repository_draft.specs.Effect.TheVariants as effect

now-if : (b : Bool) (x y : Hand) (l : List Effect) → now x ≡ l → now y ≡ l → now (if b then x else y) ≡ l
now-if true x y l h k = h
now-if false x y l h k = k

pub now-read : (before : List (TimeParts × HeldRead)) (h : Hand) (from : NodeId) (t : TimeParts) (o : ObjectId) (s : ReadStep) → now (read_as before (unhold t h) from t o s) ≡ read_by (now h) o t s
now-read before h from t o (read.Answer v true) = refl
now-read before h from t o (read.Answer v false) = refl
now-read before h from t o (read.Wait w) =
    let g : Hand = hold t (record { from = from; object = o; waits = w }) (unhold t h) in
    now-if ((w.home == h.number) || waits_for w before) g (send (repository w.home) (message.Ask w) g) (now h) refl refl
now-read before h from t o (read.LaterRead e) = refl

pub record-by : (l : List Effect) (o : ObjectId) (t : TimeParts) (s : ReadStep) → HasSameRecords l (read_by l o t s)
unfolding first_begin decision_of
record-by l o t (read.Answer v true) = λ q. refl
record-by l o t (read.Answer v false) = λ q. refl
record-by l o t (read.Wait w) = λ q. refl
record-by l o t (read.LaterRead e) = λ q. refl

pub now-write : (h : Hand) (from : NodeId) (t : TimeParts) (o : ObjectId) (v : Value) (s : WriteStep) → now (write_as h from t o v false false s) ≡ wrote (now h) o t v s
now-write h from t o v write.Put = refl
now-write h from t o v write.Again = refl
now-write h from t o v (write.LaterVersion x) = refl
now-write h from t o v (write.LaterRead e) = refl

pub now-known : (h : Hand) (from : NodeId) (t : TimeParts) (o : ObjectId) (v : Value) (b : Bool) (s : WriteStep) → now (write_as h from t o v b true s) ≡ now h
now-known h from t o v true s = refl
now-known h from t o v false s = refl

pub log-known : (h : Hand) (from : NodeId) (t : TimeParts) (o : ObjectId) (v : Value) (b : Bool) (s : WriteStep) → HasSameLog h (write_as h from t o v b true s)
log-known h from t o v true s = (refl, refl)
log-known h from t o v false s = (refl, refl)

pub on-read-known : (h : Hand) (from : NodeId) (t : TimeParts) (o : ObjectId) → known (now h) t.stamp ≡ Some true → on_read h from t o ≡ read_as h.held (unhold t h) from t o (read_step (marks (now h)) o t)
unfolding on_read
on-read-known h from t o e = ap (λ u. read_known h from t o u) e

pub on-read-none : (h : Hand) (from : NodeId) (t : TimeParts) (o : ObjectId) → known (now h) t.stamp ≡ None → on_read h from t o ≡ read_as h.held (unhold t h) from t o (read_step (marks (now h)) o t)
unfolding on_read
on-read-none h from t o e = ap (λ u. read_known h from t o u) e

pub release-is : (s : StampParts) (h g : Hand) (released : List (TimeParts × HeldRead)) → released ≡ filter (λ e. same_stamp e.1.waits s) h.held → g ≡ record h { held = filter (λ e. not (same_stamp e.1.waits s)) h.held }
    → reread released g ≡ release s h
unfolding release
release-is s h g released e f = ap (λ z. reread z g) e ∙ ap (λ z. reread (filter (λ e. same_stamp e.1.waits s) h.held) z) f

pub on-learn-none : (h : Hand) (s : StampParts) (c : Bool) → known (now h) s ≡ None → on_learn h s c ≡ release s (note (effect.Learn s c) h)
unfolding on_learn
on-learn-none h s c e = ap (λ u. learn_as h s c u) e

-- at the end none are left
pub none-left : (n : ℕ) (xs : List (TimeParts × HeldRead)) (g : Hand) → length xs ≤ n → reread (drop n xs) g ≡ g
none-left n xs g h = ap (λ z. reread z g) (drop_all n xs h)

next : (xs : List (TimeParts × HeldRead)) (i : ℕ) (x : TimeParts × HeldRead) → i < length xs → x ≡ get_or xs i x → drop i xs ≡ x ∷ drop (i + 1) xs
next xs i x h e = drop_more xs i x h ∙ ap (λ z. z ∷ drop (i + 1) xs) (sym e)

pub held-next : (xs : List (TimeParts × HeldRead)) (i : ℕ) (x : TimeParts × HeldRead) → i < length xs → x ≡ get_or xs i x → AreHeld (drop i xs) → AreHeld (drop (i + 1) xs)
held-next xs i x h e held = let k : AreHeld (x ∷ drop (i + 1) xs) = subst AreHeld (next xs i x h e) held in k.1

pub reread-next : (xs : List (TimeParts × HeldRead)) (i : ℕ) (x : TimeParts × HeldRead) (g g' : Hand) → i < length xs → x ≡ get_or xs i x → g' ≡ on_read g x.1.from x.0 x.1.object
    → reread (drop (i + 1) xs) g' ≡ reread (drop i xs) g
reread-next xs i x g g' h e is = ap (λ z. reread (drop (i + 1) xs) z) is ∙ ap (λ z. reread z g) (sym (next xs i x h e))

-- ---- Tells

tells-now : (askers : List Asker) (s : StampParts) (c : Bool) (h : Hand) → now (tells askers s c h) ≡ now h
tells-now [] s c h = refl
tells-now (a ∷ more) s c h = tells-now more s c (send (repository a.repository) (message.Tell s c) h)

tells-log : (askers : List Asker) (s : StampParts) (c : Bool) (h : Hand) → HasSameLog h (tells askers s c h)
tells-log [] s c h = (refl, refl)
tells-log (a ∷ more) s c h = tells-log more s c (send (repository a.repository) (message.Tell s c) h)

pub tell-now : (s : StampParts) (c : Bool) (h : Hand) → now (tell_askers s c h) ≡ now h
unfolding tell_askers
tell-now s c h = tells-now (filter (λ a. same_stamp a.stamp s) h.askers) s c (record h { askers = filter (λ a. not (same_stamp a.stamp s)) h.askers })

pub tell-log : (s : StampParts) (c : Bool) (h : Hand) → HasSameLog h (tell_askers s c h)
unfolding tell_askers
tell-log s c h = tells-log (filter (λ a. same_stamp a.stamp s) h.askers) s c (record h { askers = filter (λ a. not (same_stamp a.stamp s)) h.askers })
