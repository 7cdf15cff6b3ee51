-- What each step of a repository's turn keeps of those who asked: an asker is kept while its attempt isn't decided, and then it is told.
use Rattle.repository_laws.proofs.Names.{Has, has-left, has-right, StampParts, TimeParts, same_stamp, same_stamp-is, same_stamp-of, Decision, NodeId, RecordState, ObjectId, Value, Effect, Message, Out, ReadStep, Answer, Wait, LaterRead, WriteStep, is_settled, read_step, stands_written, write_step, eq-from, and-right, HeldRead, Asker, Hand, asker_cmp, note, now, send, repository, is_commit, known, marks, record_of, accepts, ask_as, begin_as, close_as, hold, learn_as, on_ask, on_begin, on_close, on_learn, on_message, on_read, on_write, read_as, read_known, release, reread, row, tell_askers, tells, unhold, waits_for, write_as, is_repository, unknown-unsettled, due, ask_again, asks, expire, expire_all, expire_as, on_moment, waited, tell_of, ◌≡◌, ◌⊎◌, ℕ, ◌+◌, ◌==◌, Bool, true, false, ◌||◌, not, List, [], ◌∷◌, refl, sym, ◌∙◌, ap, subst, Option, Some, None, if◌then◌else◌, inl, inr, false≢true, filter, cond, nat_le, insert_key, match_ordering, Ordering, Less, Equal, Greater}
use Rattle.pseudo_time.specs.declared.decisions.Decision.TheVariants as decision
use Rattle.commit_record.specs.declared.states.RecordState.TheVariants as state
use Rattle.effect_form.specs.declared.effects.Effect.TheVariants as effect
use Rattle.message_form.specs.declared.messages.Message.TheVariants as message
use Rattle.object_history.specs.declared.steps.WriteStep.TheVariants as write
use Rattle.repository_laws.proofs.Logs.{decide-settles}
use Rattle.repository_laws.proofs.HeldLemmas.{filter-has, has-split}

-- nothing of the askers has changed, and nothing was decided
pub record Still (h k : Hand) : Type 0 where
  pub number : k.number ≡ h.number
  pub askers : k.askers ≡ h.askers
  pub outs : (o : Out) → Has o h.outs → Has o k.outs
  pub decides : (s : StampParts) (d : Decision) → Has (effect.Decide s d) (now k) → Has (effect.Decide s d) (now h)

same-still : (h : Hand) → Still h h
same-still h = record { number = refl; askers = refl; outs = λ o i. i; decides = λ s d i. i }

then-still : (h k j : Hand) → Still h k → Still k j → Still h j
then-still h k j a c = record { number = c.number ∙ a.number; askers = c.askers ∙ a.askers; outs = λ o i. c.outs o (a.outs o i); decides = λ s d i. a.decides s d (c.decides s d i) }

send-still : (h : Hand) (to : NodeId) (m : Message) → Still h (send to m h)
send-still h to m = record { number = refl; askers = refl; outs = λ o i. has-left h.outs (record { to = to; message = m } ∷ []) o i; decides = λ s d i. i }

abbrev NoDecide : Effect → Type 0
NoDecide f = (s : StampParts) (d : Decision) → f ≡ effect.Decide s d → ⊥

note-still : (h : Hand) (f : Effect) → NoDecide f → Still h (note f h)
note-still h f never = record { number = refl; askers = refl; outs = λ o i. i; decides = λ s d i. elim i [ inl e ↦ absurd (never s d e) | inr j ↦ j ] }

read-as-still : (before : List (TimeParts × HeldRead)) (h : Hand) (from : NodeId) (t : TimeParts) (o : ObjectId) (s : ReadStep) → Still h (read_as before h from t o s)
read-as-still before h from t o (Answer v true) = then-still h (note (effect.Stretch o t) h) (send from (message.Value t v) (note (effect.Stretch o t) h)) (note-still h (effect.Stretch o t) (λ s d e. absurd (cc e))) (send-still (note (effect.Stretch o t) h) from (message.Value t v))
read-as-still before h from t o (Answer v false) = send-still h from (message.Value t v)
read-as-still before h from t o (LaterRead e) = send-still h from (message.LaterRead t e)
read-as-still before h from t o (Wait w) = go ((w.home == h.number) || waits_for w before)
  where
    go : (b : Bool) → Still h (if b then hold t (record { from = from; object = o; waits = w }) h else send (repository w.home) (message.Ask w) (hold t (record { from = from; object = o; waits = w }) h))
    go true = record { number = refl; askers = refl; outs = λ x i. i; decides = λ s d i. i }
    go false = record { number = refl; askers = refl; outs = λ x i. has-left h.outs (record { to = repository w.home; message = message.Ask w } ∷ []) x i; decides = λ s d i. i }

unhold-still : (h k : Hand) (t : TimeParts) → Still (unhold t h) k → Still h k
unhold-still h k t a = record { number = a.number; askers = a.askers; outs = a.outs; decides = a.decides }

read-known-still : (h : Hand) (from : NodeId) (t : TimeParts) (o : ObjectId) (u : Option Bool) → Still h (read_known h from t o u)
read-known-still h from t o (Some false) = unhold-still h (send from (message.Ended t) (unhold t h)) t (send-still (unhold t h) from (message.Ended t))
read-known-still h from t o (Some true) = unhold-still h _ t (read-as-still h.held (unhold t h) from t o (read_step (marks (now h)) o t))
read-known-still h from t o None = unhold-still h _ t (read-as-still h.held (unhold t h) from t o (read_step (marks (now h)) o t))

on-read-still : (h : Hand) (from : NodeId) (t : TimeParts) (o : ObjectId) → Still h (on_read h from t o)
unfolding on_read
on-read-still h from t o = read-known-still h from t o (known (now h) t.stamp)

reread-still : (xs : List (TimeParts × HeldRead)) (h : Hand) → Still h (reread xs h)
reread-still [] h = same-still h
reread-still (e ∷ xs) h = then-still h (on_read h e.1.from e.0 e.1.object) (reread xs (on_read h e.1.from e.0 e.1.object)) (on-read-still h e.1.from e.0 e.1.object) (reread-still xs (on_read h e.1.from e.0 e.1.object))

release-still : (s : StampParts) (h : Hand) → Still h (release s h)
unfolding release
release-still s h = let k = reread-still (filter (λ e. same_stamp e.1.waits s) h.held) (record h { held = filter (λ e. not (same_stamp e.1.waits s)) h.held }) in
    record { number = k.number; askers = k.askers; outs = k.outs; decides = k.decides }

-- ---- askers

module _ (old : Hand) where
  pub record Askers (h : Hand) : Type 0 where
    pub kept : (a : Asker) → Has a old.askers → Has a h.askers ⊎ ((c : Bool) × Has (tell_of a c) h.outs)
    pub undone : (a : Asker) → Has a h.askers → (a.stamp.home ≡ h.number) × ((d : Decision) → Has (effect.Decide a.stamp d) (now h) → ⊥)

  still-askers : (h k : Hand) → Still h k → Askers h → Askers k
  still-askers h k s a = record {
    kept = λ x i. elim (a.kept x i) [ inl j ↦ inl (subst (Has x) (sym s.askers) j) | inr j ↦ inr (j.0, s.outs (tell_of x j.0) j.1) ];
    undone = λ x i. let u = a.undone x (subst (Has x) s.askers i) in (u.0 ∙ sym s.number, λ d j. u.1 d (s.decides x.stamp d j));
  }

  -- each asker of the attempt is told
  tells-more : (as' : List Asker) (s : StampParts) (c : Bool) (h : Hand) (o : Out) → Has o h.outs → Has o (tells as' s c h).outs
  tells-more [] s c h o i = i
  tells-more (a ∷ as') s c h o i = tells-more as' s c (send (repository a.repository) (message.Tell s c) h) o (has-left h.outs (record { to = repository a.repository; message = message.Tell s c } ∷ []) o i)

  tells-all : (as' : List Asker) (s : StampParts) (c : Bool) (h : Hand) (a : Asker) → Has a as' → Has (record { to = repository a.repository; message = message.Tell s c }) (tells as' s c h).outs
  tells-all [] s c h a i = absurd i
  tells-all (x ∷ as') s c h a (inl e) =
      tells-more as' s c (send (repository x.repository) (message.Tell s c) h) (record { to = repository a.repository; message = message.Tell s c })
      (has-right h.outs (record { to = repository x.repository; message = message.Tell s c } ∷ []) (record { to = repository a.repository; message = message.Tell s c }) (inl (ap (λ (z : Asker). let o : Out = record { to = repository z.repository; message = message.Tell s c } in o) e)))
  tells-all (x ∷ as') s c h a (inr i) = tells-all as' s c (send (repository x.repository) (message.Tell s c) h) a i

  tells-same : (as' : List Asker) (s : StampParts) (c : Bool) (h : Hand) → ((tells as' s c h).number ≡ h.number) × ((tells as' s c h).askers ≡ h.askers) × (now (tells as' s c h) ≡ now h)
  tells-same [] s c h = (refl, refl, refl)
  tells-same (a ∷ as') s c h = tells-same as' s c (send (repository a.repository) (message.Tell s c) h)

  -- the attempt was decided, and its askers are told
  decided-askers : (s : StampParts) (d : Decision) (h j : Hand) → j.number ≡ h.number → j.askers ≡ h.askers → now j ≡ effect.Decide s d ∷ now h → ((o : Out) → Has o h.outs → Has o j.outs) →
      Askers h → Askers (tell_askers s (is_commit d) j)
  unfolding tell_askers
  decided-askers s d h j number same_askers log more a =
      let mine : List Asker = filter (λ x. same_stamp x.stamp s) j.askers in
      let rest : List Asker = filter (λ x. not (same_stamp x.stamp s)) j.askers in
      let k : Hand = record j { askers = rest } in
      let same = tells-same mine s (is_commit d) k in
      record {
        kept = λ x i. elim (a.kept x i) [
          | inl y ↦ elim (has-split (λ z. same_stamp z.stamp s) j.askers x (subst (Has x) (sym same_askers) y)) [
            | inl t ↦ inr (is_commit d, subst (λ z. Has (record { to = repository x.repository; message = message.Tell z (is_commit d) }) (tells mine s (is_commit d) k).outs) (sym (passes j.askers x t)) (tells-all mine s (is_commit d) k x t))
            | inr t ↦ inl (subst (Has x) (sym same.1) t)
          ]
          | inr y ↦ inr (y.0, tells-more mine s (is_commit d) k (tell_of x y.0) (more (tell_of x y.0) y.1))
        ];
        undone = λ x i.
            let t : Has x rest = subst (Has x) same.1 i in
            let u = a.undone x (subst (Has x) same_askers (filter-has (λ z. not (same_stamp z.stamp s)) j.askers x t)) in
            (u.0 ∙ (sym number ∙ sym same.0), λ g q. other x t g u.1 (subst (Has (effect.Decide x.stamp g)) (same.2 ∙ log) q));
      }
    where
      passes : (xs : List Asker) (x : Asker) → Has x (filter (λ z. same_stamp z.stamp s) xs) → x.stamp ≡ s
      passes [] x i = absurd i
      passes (y ∷ xs) x i = go (λ k. passes xs x k) (same_stamp y.stamp s) refl i
        where
          go : (Has x (filter (λ z. same_stamp z.stamp s) xs) → x.stamp ≡ s) → (b : Bool) → same_stamp y.stamp s ≡ b → Has x (cond b (y ∷ filter (λ z. same_stamp z.stamp s) xs) (filter (λ z. same_stamp z.stamp s) xs)) → x.stamp ≡ s
          go again true q (inl e) = ap (λ (z : Asker). z.stamp) (sym e) ∙ same_stamp-is y.stamp s q
          go again true q (inr k) = again k
          go again false q k = again k

      fails : (xs : List Asker) (x : Asker) → Has x (filter (λ z. not (same_stamp z.stamp s)) xs) → same_stamp x.stamp s ≡ false
      fails [] x i = absurd i
      fails (y ∷ xs) x i = go (λ k. fails xs x k) (same_stamp y.stamp s) refl i
        where
          go : (Has x (filter (λ z. not (same_stamp z.stamp s)) xs) → same_stamp x.stamp s ≡ false) → (b : Bool) → same_stamp y.stamp s ≡ b → Has x (cond (not b) (y ∷ filter (λ z. not (same_stamp z.stamp s)) xs) (filter (λ z. not (same_stamp z.stamp s)) xs)) → same_stamp x.stamp s ≡ false
          go again false q (inl e) = ap (λ (z : Asker). same_stamp z.stamp s) (sym e) ∙ q
          go again false q (inr k) = again k
          go again true q k = again k

      other : (x : Asker) → Has x (filter (λ z. not (same_stamp z.stamp s)) j.askers) → (g : Decision) → ((e : Decision) → Has (effect.Decide x.stamp e) (now h) → ⊥) → Has (effect.Decide x.stamp g) (effect.Decide s d ∷ now h) → ⊥
      other x t g none (inr q) = none g q
      other x t g none (inl e) = let k : s ≡ x.stamp = cc e in false≢true (sym (fails j.askers x t) ∙ same_stamp-of x.stamp s (sym k))

  close-as-askers : (h : Hand) (from : NodeId) (s : StampParts) (d : Decision) (u : Option RecordState) → Askers h → Askers (close_as h from s d u)
  close-as-askers h from s d None a = a
  close-as-askers h from s d (Some (state.Unknown t)) a =
      let k : Hand = tell_askers s (is_commit d) (send from (message.Decided s d) (note (effect.Decide s d) h)) in
      still-askers k (release s k) (release-still s k)
      (decided-askers s d h (send from (message.Decided s d) (note (effect.Decide s d) h)) refl refl refl (λ o i. has-left h.outs (record { to = from; message = message.Decided s d } ∷ []) o i) a)
  close-as-askers h from s d (Some (state.Decided e)) a = still-askers h (send from (message.Decided s e) h) (send-still h from (message.Decided s e)) a

  -- an asker of an unknown attempt of this home is kept
  inserted : (xs : List Asker) (x y : Asker) → Has y (insert_key asker_cmp xs x) → (x ≡ y) ⊎ Has y xs
  inserted [] x y (inl e) = inl e
  inserted [] x y (inr i) = absurd i
  inserted (z ∷ xs) x y i = go (λ k. inserted xs x y k) (asker_cmp x z) i
    where
      go : (Has y (insert_key asker_cmp xs x) → (x ≡ y) ⊎ Has y xs) → (o : Ordering) → Has y (match_ordering o (x ∷ z ∷ xs) (z ∷ xs) (z ∷ insert_key asker_cmp xs x)) → (x ≡ y) ⊎ Has y (z ∷ xs)
      go again Less (inl e) = inl e
      go again Less (inr k) = inr k
      go again Equal k = inr k
      go again Greater (inl e) = inr (inl e)
      go again Greater (inr k) = elim (again k) [ inl e ↦ inl e | inr j ↦ inr (inr j) ]

  stays-in : (xs : List Asker) (x y : Asker) → Has y xs → Has y (insert_key asker_cmp xs x)
  stays-in [] x y i = absurd i
  stays-in (z ∷ xs) x y i = go (λ k. stays-in xs x y k) (asker_cmp x z) i
    where
      go : (Has y xs → Has y (insert_key asker_cmp xs x)) → (o : Ordering) → Has y (z ∷ xs) → Has y (match_ordering o (x ∷ z ∷ xs) (z ∷ xs) (z ∷ insert_key asker_cmp xs x))
      go again Less i = inr i
      go again Equal i = i
      go again Greater (inl e) = inl e
      go again Greater (inr k) = inr (again k)

  ask-as-askers : (h : Hand) (from : NodeId) (s : StampParts) (u : Option RecordState) → record_of (now h) s ≡ u → s.home ≡ h.number → Askers h → Askers (ask_as h from s u)
  ask-as-askers h from s None e home a = a
  ask-as-askers h from s (Some (state.Decided d)) e home a = still-askers h (send from (message.Tell s (is_commit d)) h) (send-still h from (message.Tell s (is_commit d))) a
  ask-as-askers h from s (Some (state.Unknown t)) e home a = record {
    kept = λ x i. elim (a.kept x i) [ inl j ↦ inl (stays-in h.askers (record { repository = from.number; stamp = s }) x j) | inr j ↦ inr j ];
    undone = λ x i. elim (inserted h.askers (record { repository = from.number; stamp = s }) x i) [
      | inl q ↦ subst (λ (z : Asker). (z.stamp.home ≡ h.number) × ((d : Decision) → Has (effect.Decide z.stamp d) (now h) → ⊥)) q (
        home,
        λ d j.
            let k = decide-settles (now h) s d j in let no : Some k.0 ≡ None = sym k.1 ∙ unknown-unsettled (now h) s t e in absurd (cc no),
      )
      | inr j ↦ a.undone x j
    ];
  }

  begin-as-askers : (h : Hand) (from : NodeId) (s : StampParts) (timeout : ℕ) (u : Option RecordState) → Askers h → Askers (begin_as h from s timeout u)
  begin-as-askers h from s timeout None a =
      still-askers h (send from (message.Begun s) (note (effect.Begin s (h.moment + timeout)) h))
      (then-still h (note (effect.Begin s (h.moment + timeout)) h) _ (note-still h (effect.Begin s (h.moment + timeout)) (λ x d e. absurd (cc e))) (send-still (note (effect.Begin s (h.moment + timeout)) h) from (message.Begun s))) a
  begin-as-askers h from s timeout (Some (state.Unknown t)) a = still-askers h (send from (message.Begun s) h) (send-still h from (message.Begun s)) a
  begin-as-askers h from s timeout (Some (state.Decided d)) a = still-askers h (send from (message.Decided s d) h) (send-still h from (message.Decided s d)) a

  write-as-askers : (h : Hand) (from : NodeId) (t : TimeParts) (o : ObjectId) (v : Value) (b c : Bool) (w : WriteStep) → Askers h → Askers (write_as h from t o v b c w)
  write-as-askers h from t o v true c w a = still-askers h _ (send-still h from (message.Stored t)) a
  write-as-askers h from t o v false true w a = still-askers h _ (send-still h from (message.Ended t)) a
  write-as-askers h from t o v false false write.Put a =
      still-askers h (send from (message.Stored t) (note (effect.Put o t v) h)) (then-still h (note (effect.Put o t v) h) _ (note-still h (effect.Put o t v) (λ x d e. absurd (cc e))) (send-still (note (effect.Put o t v) h) from (message.Stored t))) a
  write-as-askers h from t o v false false write.Again a = still-askers h _ (send-still h from (message.Stored t)) a
  write-as-askers h from t o v false false (write.LaterVersion x) a = still-askers h _ (send-still h from (message.LaterVersion t x)) a
  write-as-askers h from t o v false false (write.LaterRead e) a = still-askers h _ (send-still h from (message.LaterRead t e)) a

  learn-as-askers : (h : Hand) (s : StampParts) (c : Bool) (u : Option Bool) → Askers h → Askers (learn_as h s c u)
  learn-as-askers h s c None a =
      still-askers h (release s (note (effect.Learn s c) h)) (then-still h (note (effect.Learn s c) h) _ (note-still h (effect.Learn s c) (λ x d e. absurd (cc e))) (release-still s (note (effect.Learn s c) h))) a
  learn-as-askers h s c (Some d) a = a

  pub on-learn-askers : (h : Hand) (s : StampParts) (c : Bool) → Askers h → Askers (on_learn h s c)
  unfolding on_learn
  on-learn-askers h s c a = learn-as-askers h s c (known (now h) s) a

  -- a message is taken
  pub on-message-askers : (h : Hand) (from : NodeId) (m : Message) → Askers h → Askers (on_message h from m)
  unfolding on_message on_begin on_close on_write on_ask
  on-message-askers h from m a = (elim (accepts h.number from m) as (λ b. accepts h.number from m ≡ b → Askers (if b then row h from m else h)) [ true ↦ λ e. one m e | false ↦ λ e. a ]) refl
    where
      one : (m : Message) → accepts h.number from m ≡ true → Askers (row h from m)
      one (message.Begin s timeout) e = begin-as-askers h from s timeout (record_of (now h) s) a
      one (message.Commit s) e = close-as-askers h from s decision.Committed (record_of (now h) s) a
      one (message.Withdraw s) e = close-as-askers h from s decision.Withdrawn (record_of (now h) s) a
      one (message.Read t o) e = still-askers h (on_read h from t o) (on-read-still h from t o) a
      one (message.Write t o v) e = write-as-askers h from t o v (stands_written (marks (now h)) o t v) (is_settled (known (now h) t.stamp)) (write_step (marks (now h)) o t v) a
      one (message.Ask s) e = ask-as-askers h from s (record_of (now h) s) refl (eq-from s.home h.number (and-right (is_repository from.kind) (s.home == h.number) e)) a
      one (message.Tell s c) e = on-learn-askers h s c a
      one _ e = a

  -- ---- a moment

  expire-as-askers : (m : ℕ) (h : Hand) (s : StampParts) (u : Option RecordState) → Askers h → Askers (expire_as m s h u)
  expire-as-askers m h s None a = a
  expire-as-askers m h s (Some (state.Unknown t)) a = go (nat_le t m)
    where
      j : Hand
      j = note (effect.Decide s (decision.Expired t m)) h

      go : (b : Bool) → Askers (if b then release s (tell_askers s false j) else h)
      go true =
          still-askers (tell_askers s false j) (release s (tell_askers s false j)) (release-still s (tell_askers s false j))
          (decided-askers s (decision.Expired t m) h j refl refl refl (λ o i. i) a)
      go false = a
  expire-as-askers m h s (Some (state.Decided d)) a = a

  expire-all-askers : (m : ℕ) (ss : List StampParts) (h : Hand) → Askers h → Askers (expire_all m ss h)
  unfolding expire
  expire-all-askers m [] h a = a
  expire-all-askers m (s ∷ more) h a = expire-all-askers m more (expire_as m s h (record_of (now h) s)) (expire-as-askers m h s (record_of (now h) s) a)

  asks-still : (ws : List StampParts) (h : Hand) → Still h (asks ws h)
  asks-still [] h = same-still h
  asks-still (w ∷ more) h = then-still h (send (repository w.home) (message.Ask w) h) (asks more (send (repository w.home) (message.Ask w) h)) (send-still h (repository w.home) (message.Ask w)) (asks-still more (send (repository w.home) (message.Ask w) h))

  -- a moment is heard
  pub on-moment-askers : (h : Hand) (m : ℕ) → Askers h → Askers (on_moment h m)
  unfolding on_moment ask_again
  on-moment-askers h m a =
      let i : Hand = record h { moment = m } in
      let j : Hand = expire_all m (due m (now h)) i in
      still-askers j (asks (waited j.number j.held []) j) (asks-still (waited j.number j.held []) j)
      (expire-all-askers m (due m (now h)) i (still-askers h i (record { number = refl; askers = refl; outs = λ o k. k; decides = λ s d k. k }) a))
