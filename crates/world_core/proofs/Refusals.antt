-- A repository refuses what its history refuses: writes, and reads below the floor.
use Rattle.std.specs.Map.{remove_entry}
use Rattle.std.specs.BTreeMap.{insert_entry, is_at}
use Rattle.std.specs.BTreeSet.{insert_key}
use Rattle.world_core.proofs.Names.{Every, every-append, StampParts, TimeParts, NodeId, ObjectId, Value, Effect, Message, Out, WriteStep, floor_of, read_step, write_step, IsOnFloor, HeldRead, marks, Hand, now, accepts, ◌≡◌, ◌≢◌, ℕ, ◌+◌, ◌==◌, Bool, true, false, ◌||◌, not, nat_le, List, [], ◌∷◌, refl, sym, ◌∙◌, subst, Option, Some, None, if◌then◌else◌, true≢false, filter, time_cmp, Seen, settle_of, is_settled, sees, needs_stretch, read_seen, read_from, is_commit, known, record_of, note, send, asker_cmp, unhold, hold, waits_for, ask_for, read_as, read_known, on_read, reread, release, tells, tell_askers, begin_as, on_begin, close_as, on_close, write_as, on_write, ask_as, on_ask, learn_as, on_learn, row, on_message}
use Rattle.pseudo_time.specs.Order.{same_stamp, lt}
use Rattle.pseudo_time.specs.declared.decisions.Decision.{Decision}
use Rattle.pseudo_time.specs.declared.decisions.Decision.TheVariants as decision
use Rattle.effect_form.specs.declared.effects.Effect.TheVariants as effect
use Rattle.message_form.specs.declared.messages.Message.TheVariants as message
use Rattle.commit_record.specs.declared.states.RecordState.{RecordState}
use Rattle.commit_record.specs.declared.states.RecordState.TheVariants as state
use Rattle.object_history.specs.declared.steps.ReadStep.{ReadStep}
use Rattle.object_history.specs.declared.steps.ReadStep.TheVariants as read
use Rattle.object_history.specs.declared.steps.WriteStep.TheVariants as write
use Rattle.object_history.specs.declared.marks.Mark.{Mark}
use Rattle.repository_log.proofs.MarkLemmas.{floor-other}
use Rattle.repository_core.proofs.HeldLemmas.{every-filter, every-remove, every-put}
use Rattle.repository_core.specs.Asker.{Asker}
use Rattle.pseudo_time.specs.Nodes.{repository}
use Rattle.repository_core.specs.Hearing.{expire_as, expire, expire_all, waited, asks, ask_again, on_moment}
use Rattle.repository_log.specs.Expiries.{due}

-- ---- reads and the floor

-- a read that waits isn't below the floor
waits-over : (f : Option TimeParts) (m : List Mark) (o : ObjectId) (t : TimeParts) (w : StampParts) → read_from f m o t ≡ read.Wait w → (e : TimeParts) → f ≡ Some e → lt t e ≡ false
waits-over None m o t w h e q = absurd (cc q)
waits-over (Some x) m o t w h e q = by (lt t x) refl h
  where
    by : (b : Bool) → lt t x ≡ b → (if b then read.LaterRead x else read_seen m o t (sees m o t)) ≡ read.Wait w → lt t e ≡ false
    by true l h = absurd (cc h)
    by false l h = let same : x ≡ e = cc q in subst (λ z. lt t z ≡ false) same l

never-refused : (m : List Mark) (o : ObjectId) (t : TimeParts) (r : Option Seen) (x : TimeParts) → read_seen m o t r ≡ read.LaterRead x → ⊥
never-refused m o t None x h = absurd (cc h)
never-refused m o t (Some q) x h = by (same_stamp q.start.stamp t.stamp || is_settled (settle_of m q.start.stamp)) h
  where
    by : (b : Bool) → (if b then read.Answer q.value (needs_stretch m o t (Some q)) else read.Wait q.start.stamp) ≡ read.LaterRead x → ⊥
    by true h = absurd (cc h)
    by false h = absurd (cc h)

-- one that isn't below it isn't refused
pub refused-under : (f : Option TimeParts) (m : List Mark) (o : ObjectId) (t x : TimeParts) → read_from f m o t ≡ read.LaterRead x → ((e : TimeParts) → f ≡ Some e → lt t e ≡ false) → ⊥
refused-under None m o t x h on = never-refused m o t (sees m o t) x h
refused-under (Some e) m o t x h on = by (lt t e) (on e refl) h
  where
    by : (b : Bool) → b ≡ false → (if b then read.LaterRead e else read_seen m o t (sees m o t)) ≡ read.LaterRead x → ⊥
    by true l h = absurd (true≢false l)
    by false l h = never-refused m o t (sees m o t) x h

module _ (P : TimeParts → WriteStep → Type 0) where
  -- of a refusal P holds
  abbrev pub Says : Message → Type 0
  Says (message.LaterRead t e) = P t (write.LaterRead e)
  Says (message.LaterVersion t x) = P t (write.LaterVersion x)
  Says _ = Unit {0}

  abbrev pub Fine : List Out → Type 0
  Fine outs = Every (λ (o : Out). Says o.message) outs

module _ (P : TimeParts → WriteStep → Type 0) (log : List Effect) where
  -- a reader at t isn't below the log's floor
  abbrev pub OnFloor : TimeParts → Type 0
  OnFloor t = IsOnFloor (marks log) t

  -- over the log the turn owes only refusals that have P, what it holds isn't below the floor, and it added none
  pub record Ok (h : Hand) : Type 0 where
    pub past : h.past ≡ log
    pub outs : Fine P h.outs
    pub held : Every (λ (e : TimeParts × HeldRead). OnFloor e.0) h.held
    pub floors : floor_of (marks log) ≡ floor_of (marks (now h))

  sends : (to : NodeId) (m : Message) (h : Hand) → Ok h → Says P m → Ok (send to m h)
  sends to m h k s = record { past = k.past; outs = every-append (λ (o : Out). Says P o.message) h.outs (record { to = to; message = m } ∷ []) k.outs (s, tt); held = k.held; floors = k.floors }

  notes : (f : Effect) (h : Hand) → ((at : TimeParts) → f ≢ effect.Mark at) → Ok h → Ok (note f h)
  notes f h plain k = record { past = k.past; outs = k.outs; held = k.held; floors = floor-other f (now h) (floor_of (marks log)) plain k.floors }

  holds : (h : Hand) (xs : List (TimeParts × HeldRead)) → Every (λ (e : TimeParts × HeldRead). OnFloor e.0) xs → Ok h → Ok (record h { held = xs })
  holds h xs held k = record { past = k.past; outs = k.outs; held = held; floors = k.floors }

  asked : (h : Hand) (xs : List Asker) → Ok h → Ok (record h { askers = xs })
  asked h xs k = record { past = k.past; outs = k.outs; held = k.held; floors = k.floors }

  heard : (h : Hand) (m : ℕ) → Ok h → Ok (record h { moment = m })
  heard h m k = record { past = k.past; outs = k.outs; held = k.held; floors = k.floors }

  -- ---- reads

  asks-for : (before : List (TimeParts × HeldRead)) (w : StampParts) (h : Hand) → Ok h → Ok (ask_for before w h)
  asks-for before w h k = by ((w.home == h.number) || waits_for w before)
    where
      by : (b : Bool) → Ok (if b then h else send (repository w.home) (message.Ask w) h)
      by true = k
      by false = sends (repository w.home) (message.Ask w) h k tt

  -- a read that these marks refuse has P
  abbrev pub OfRead : List Mark → TimeParts → ObjectId → Type 0
  OfRead m t o = (e : TimeParts) → read_step m o t ≡ read.LaterRead e → P t (write.LaterRead e)

  reads-as : (before : List (TimeParts × HeldRead)) (h : Hand) (from : NodeId) (t : TimeParts) (o : ObjectId) (r : ReadStep) → read_step (marks (now h)) o t ≡ r → OfRead (marks (now h)) t o → Ok h → Ok (read_as before h from t o r)
  reads-as before h from t o (read.Answer v true) is p k = sends from (message.Value t v) (note (effect.Stretch o t) h) (notes (effect.Stretch o t) h (λ at e. absurd (cc e)) k) tt
  reads-as before h from t o (read.Answer v false) is p k = sends from (message.Value t v) h k tt
  reads-as before h from t o (read.Wait w) is p k =
      let x : HeldRead = record { from = from; object = o; waits = w } in
      asks-for before w (hold t x h) (holds h (insert_entry time_cmp h.held t x)
      (every-put (λ (e : TimeParts × HeldRead). OnFloor e.0) t x h.held (λ e q. waits-over (floor_of (marks (now h))) (marks (now h)) o t w is e (sym k.floors ∙ q)) k.held) k)
  reads-as before h from t o (read.LaterRead e) is p k = sends from (message.LaterRead t e) h k (p e is)

  unholds : (h : Hand) (t : TimeParts) → Ok h → Ok (unhold t h)
  unholds h t k = holds h (remove_entry (is_at (time_cmp t)) h.held) (every-remove (λ (e : TimeParts × HeldRead). OnFloor e.0) (is_at (time_cmp t)) h.held k.held) k

  reads-known : (h : Hand) (from : NodeId) (t : TimeParts) (o : ObjectId) (c : Option Bool) → OfRead (marks (now h)) t o → Ok h → Ok (read_known h from t o c)
  reads-known h from t o (Some false) p k = sends from (message.Ended t) (unhold t h) (unholds h t k) tt
  reads-known h from t o (Some true) p k = reads-as h.held (unhold t h) from t o (read_step (marks (now h)) o t) refl p (unholds h t k)
  reads-known h from t o None p k = reads-as h.held (unhold t h) from t o (read_step (marks (now h)) o t) refl p (unholds h t k)

  on-read : (h : Hand) (from : NodeId) (t : TimeParts) (o : ObjectId) → OfRead (marks (now h)) t o → Ok h → Ok (on_read h from t o)
  unfolding on_read
  on-read h from t o p k = reads-known h from t o (known (now h) t.stamp) p k

  -- none of those that were held is refused
  rereads : (held : List (TimeParts × HeldRead)) (h : Hand) → Every (λ (e : TimeParts × HeldRead). OnFloor e.0) held → Ok h → Ok (reread held h)
  rereads [] h on k = k
  rereads (e ∷ more) h on k =
      rereads more (on_read h e.1.from e.0 e.1.object) on.1
      (on-read h e.1.from e.0 e.1.object (λ x q. absurd (refused-under (floor_of (marks (now h))) (marks (now h)) e.1.object e.0 x q (λ z f. on.0 z (k.floors ∙ f)))) k)

  releases : (s : StampParts) (h : Hand) → Ok h → Ok (release s h)
  unfolding release
  releases s h k =
      rereads (filter (λ e. same_stamp e.1.waits s) h.held) (record h { held = filter (λ e. not (same_stamp e.1.waits s)) h.held })
      (every-filter (λ (e : TimeParts × HeldRead). OnFloor e.0) (λ e. same_stamp e.1.waits s) h.held k.held)
      (holds h (filter (λ e. not (same_stamp e.1.waits s)) h.held) (every-filter (λ (e : TimeParts × HeldRead). OnFloor e.0) (λ e. not (same_stamp e.1.waits s)) h.held k.held) k)

  tells-all : (askers : List Asker) (s : StampParts) (c : Bool) (h : Hand) → Ok h → Ok (tells askers s c h)
  tells-all [] s c h k = k
  tells-all (a ∷ more) s c h k = tells-all more s c (send (repository a.repository) (message.Tell s c) h) (sends (repository a.repository) (message.Tell s c) h k tt)

  tells-askers : (s : StampParts) (c : Bool) (h : Hand) → Ok h → Ok (tell_askers s c h)
  unfolding tell_askers
  tells-askers s c h k =
      tells-all (filter (λ a. same_stamp a.stamp s) h.askers) s c (record h { askers = filter (λ a. not (same_stamp a.stamp s)) h.askers }) (asked h (filter (λ a. not (same_stamp a.stamp s)) h.askers) k)

  -- ---- records

  begins : (h : Hand) (from : NodeId) (s : StampParts) (n : ℕ) (r : Option RecordState) → Ok h → Ok (begin_as h from s n r)
  begins h from s n None k = sends from (message.Begun s) (note (effect.Begin s (h.moment + n)) h) (notes (effect.Begin s (h.moment + n)) h (λ at e. absurd (cc e)) k) tt
  begins h from s n (Some (state.Unknown t)) k = sends from (message.Begun s) h k tt
  begins h from s n (Some (state.Decided d)) k = sends from (message.Decided s d) h k tt

  on-begin : (h : Hand) (from : NodeId) (s : StampParts) (n : ℕ) → Ok h → Ok (on_begin h from s n)
  unfolding on_begin
  on-begin h from s n k = begins h from s n (record_of (now h) s) k

  closes : (h : Hand) (from : NodeId) (s : StampParts) (d : Decision) (r : Option RecordState) → Ok h → Ok (close_as h from s d r)
  closes h from s d None k = k
  closes h from s d (Some (state.Unknown t)) k = releases s _ (tells-askers s (is_commit d) _ (sends from (message.Decided s d) (note (effect.Decide s d) h) (notes (effect.Decide s d) h (λ at e. absurd (cc e)) k) tt))
  closes h from s d (Some (state.Decided e)) k = sends from (message.Decided s e) h k tt

  on-close : (h : Hand) (from : NodeId) (s : StampParts) (d : Decision) → Ok h → Ok (on_close h from s d)
  unfolding on_close
  on-close h from s d k = closes h from s d (record_of (now h) s) k

  ask-as : (h : Hand) (from : NodeId) (s : StampParts) (r : Option RecordState) → Ok h → Ok (ask_as h from s r)
  ask-as h from s None k = k
  ask-as h from s (Some (state.Unknown t)) k = asked h (insert_key asker_cmp h.askers (record { repository = from.number; stamp = s })) k
  ask-as h from s (Some (state.Decided d)) k = sends from (message.Tell s (is_commit d)) h k tt

  on-ask : (h : Hand) (from : NodeId) (s : StampParts) → Ok h → Ok (on_ask h from s)
  unfolding on_ask
  on-ask h from s k = ask-as h from s (record_of (now h) s) k

  learns : (h : Hand) (s : StampParts) (c : Bool) (o : Option Bool) → Ok h → Ok (learn_as h s c o)
  learns h s c None k = releases s (note (effect.Learn s c) h) (notes (effect.Learn s c) h (λ at e. absurd (cc e)) k)
  learns h s c (Some d) k = k

  pub on-learn : (h : Hand) (s : StampParts) (c : Bool) → Ok h → Ok (on_learn h s c)
  unfolding on_learn
  on-learn h s c k = learns h s c (known (now h) s) k

  -- ---- writes

  -- what the history answers has P
  writes : (h : Hand) (from : NodeId) (t : TimeParts) (o : ObjectId) (v : Value) (a b : Bool) (w : WriteStep) → Ok h → P t w → Ok (write_as h from t o v a b w)
  writes h from t o v true b w k p = sends from (message.Stored t) h k tt
  writes h from t o v false true w k p = sends from (message.Ended t) h k tt
  writes h from t o v false false write.Put k p = sends from (message.Stored t) (note (effect.Put o t v) h) (notes (effect.Put o t v) h (λ at e. absurd (cc e)) k) tt
  writes h from t o v false false write.Again k p = sends from (message.Stored t) h k tt
  writes h from t o v false false (write.LaterVersion x) k p = sends from (message.LaterVersion t x) h k p
  writes h from t o v false false (write.LaterRead e) k p = sends from (message.LaterRead t e) h k p

  on-write : (h : Hand) (from : NodeId) (t : TimeParts) (o : ObjectId) (v : Value) → Ok h → P t (write_step (marks (now h)) o t v) → Ok (on_write h from t o v)
  unfolding on_write
  on-write h from t o v k p = writes h from t o v _ _ (write_step (marks (now h)) o t v) k p

  -- ---- messages

  -- a request that is taken has P, by the log
  abbrev pub OfRequest : List Effect → Message → Type 0
  OfRequest l (message.Write t o v) = P t (write_step (marks l) o t v)
  OfRequest l (message.Read t o) = OfRead (marks l) t o
  OfRequest l _ = Unit {0}

  rows : (h : Hand) (from : NodeId) (m : Message) → Ok h → OfRequest (now h) m → Ok (row h from m)
  rows h from (message.Begin s timeout) k p = on-begin h from s timeout k
  rows h from (message.Commit s) k p = on-close h from s decision.Committed k
  rows h from (message.Withdraw s) k p = on-close h from s decision.Withdrawn k
  rows h from (message.Read t o) k p = on-read h from t o p k
  rows h from (message.Write t o v) k p = on-write h from t o v k p
  rows h from (message.Ask s) k p = on-ask h from s k
  rows h from (message.Tell s c) k p = on-learn h s c k
  rows h from (message.Begun s) k p = k
  rows h from (message.Value t v) k p = k
  rows h from (message.Stored t) k p = k
  rows h from (message.LaterRead t e) k p = k
  rows h from (message.LaterVersion t x) k p = k
  rows h from (message.Ended t) k p = k
  rows h from (message.Decided s d) k p = k

  pub on-message : (h : Hand) (from : NodeId) (m : Message) → Ok h → (accepts h.number from m ≡ true → OfRequest (now h) m) → Ok (on_message h from m)
  unfolding on_message
  on-message h from m k p = by (accepts h.number from m) p
    where
      by : (b : Bool) → (b ≡ true → OfRequest (now h) m) → Ok (if b then row h from m else h)
      by true p = rows h from m k (p refl)
      by false p = k

  -- ---- moments

  expires : (m : ℕ) (s : StampParts) (h : Hand) (r : Option RecordState) → Ok h → Ok (expire_as m s h r)
  expires m s h None k = k
  expires m s h (Some (state.Unknown t)) k = by (nat_le t m)
    where
      by : (b : Bool) → Ok (if b then release s (tell_askers s false (note (effect.Decide s (decision.Expired t m)) h)) else h)
      by true = releases s _ (tells-askers s false _ (notes (effect.Decide s (decision.Expired t m)) h (λ at e. absurd (cc e)) k))
      by false = k
  expires m s h (Some (state.Decided d)) k = k

  expire-one : (m : ℕ) (s : StampParts) (h : Hand) → Ok h → Ok (expire m s h)
  unfolding expire
  expire-one m s h k = expires m s h (record_of (now h) s) k

  expire-each : (m : ℕ) (ss : List StampParts) (h : Hand) → Ok h → Ok (expire_all m ss h)
  expire-each m [] h k = k
  expire-each m (s ∷ ss) h k = expire-each m ss (expire m s h) (expire-one m s h k)

  asks-each : (ss : List StampParts) (h : Hand) → Ok h → Ok (asks ss h)
  asks-each [] h k = k
  asks-each (w ∷ ws) h k = asks-each ws (send (repository w.home) (message.Ask w) h) (sends (repository w.home) (message.Ask w) h k tt)

  asks-again : (h : Hand) → Ok h → Ok (ask_again h)
  unfolding ask_again
  asks-again h k = asks-each (waited h.number h.held []) h k

  pub on-moment : (h : Hand) (m : ℕ) → Ok h → Ok (on_moment h m)
  unfolding on_moment
  on-moment h m k = asks-again _ (expire-each m (due m (now h)) (record h { moment = m }) (heard h m k))

pub says-map : (P Q : TimeParts → WriteStep → Type 0) → ((x : TimeParts) (w : WriteStep) → P x w → Q x w) → (m : Message) → Says P m → Says Q m
says-map P Q f (message.LaterRead t e) h = f t (write.LaterRead e) h
says-map P Q f (message.LaterVersion t x) h = f t (write.LaterVersion x) h
says-map P Q f (message.Begin s t) h = tt
says-map P Q f (message.Begun s) h = tt
says-map P Q f (message.Read t o) h = tt
says-map P Q f (message.Value t v) h = tt
says-map P Q f (message.Write t o v) h = tt
says-map P Q f (message.Stored t) h = tt
says-map P Q f (message.Ended t) h = tt
says-map P Q f (message.Commit s) h = tt
says-map P Q f (message.Withdraw s) h = tt
says-map P Q f (message.Decided s d) h = tt
says-map P Q f (message.Ask s) h = tt
says-map P Q f (message.Tell s c) h = tt
