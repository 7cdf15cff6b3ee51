-- What a repository's turn adds to what it owes, stores, may ask for, holds and keeps: no more than the price of the message that it took.
use Rattle.std.specs.BTreeSet.{insert_key}
use Rattle.complete_law.proofs.Names.{StampParts, TimeParts, time_cmp, same_stamp, Decision, NodeId, ObjectId, Value, Effect, Message, RecordState, ReadStep, WriteStep, is_settled, read_step, write_step, stands_written, HeldRead, Asker, is_commit, marks, known, record_of, Hand, now, note, send, repository, unhold, hold, waits_for, ask_for, read_as, read_known, on_read, reread, release, tells, tell_askers, begin_as, on_begin, close_as, on_close, write_as, on_write, ask_as, on_ask, learn_as, on_learn, accepts, on_message, Waits, decide-settles, ◌≡◌, ℕ, ◌+◌, ◌≤◌, ◌==◌, Bool, true, false, ◌||◌, not, List, [], ◌∷◌, refl, sym, ◌∙◌, ap, subst, Option, Some, None, if◌then◌else◌, inl, arith, filter, is_at, match_ordering, Ordering, Greater, false≢true, true≢false, asker_cmp, waits-remove, read-waits}
use Rattle.pseudo_time.specs.declared.decisions.Decision.TheVariants as decision
use Rattle.effect_form.specs.declared.effects.Effect.TheVariants as effect
use Rattle.message_form.specs.declared.messages.Message.TheVariants as message
use Rattle.commit_record.specs.declared.states.RecordState.TheVariants as state
use Rattle.object_history.specs.declared.steps.ReadStep.TheVariants as read
use Rattle.object_history.specs.declared.steps.WriteStep.TheVariants as write
use Rattle.repository_core.specs.Rows.{row}
use Rattle.complete_law.proofs.AskLoads.{asked-free, free, held-free, noted-free, put-free, putters, released-free, removed-free, times}
use Rattle.complete_law.proofs.GateEntries.{learn-settles}
use Rattle.complete_law.proofs.Loads.{if-from, load, load-append}

-- ---- lists

times-keyed : (k : ℕ) (xs : List Asker) (a : Asker) → times k (insert_key asker_cmp xs a) ≤ k + times k xs
times-keyed k [] a = omega arith
times-keyed k (x ∷ xs) a = go (asker_cmp a x) (times-keyed k xs a)
  where
    go : (o : Ordering) → times k (insert_key asker_cmp xs a) ≤ k + times k xs → times k (match_ordering o (a ∷ x ∷ xs) (x ∷ xs) (x ∷ insert_key asker_cmp xs a)) ≤ k + (k + times k xs)
    go Greater h = omega (arith, h)
    go _ h = omega arith

times-parted : {X : Type 0} (k : ℕ) (test : X → Bool) (xs : List X) → times k (filter test xs) + times k (filter (λ x. not (test x)) xs) ≡ times k xs
times-parted k test [] = omega arith
times-parted k test (x ∷ xs) = go (test x) (times-parted k test xs)
  where
    go : (c : Bool) → times k (filter test xs) + times k (filter (λ x. not (test x)) xs) ≡ times k xs →
        times k (if c then x ∷ filter test xs else filter test xs) + times k (if not c then x ∷ filter (λ x. not (test x)) xs else filter (λ x. not (test x)) xs) ≡ k + times k xs
    go true h = omega (arith, h)
    go false h = omega (arith, h)

-- an attempt that is decided or learned is known
decide-known : (l : List Effect) (s : StampParts) (d : Decision) → is_settled (known (effect.Decide s d ∷ l) s) ≡ true
decide-known l s d = let k = decide-settles (effect.Decide s d ∷ l) s d (inl refl) in ap is_settled k.1

pub learn-known : (l : List Effect) (s : StampParts) (c : Bool) → is_settled (known (effect.Learn s c ∷ l) s) ≡ true
learn-known l s c = let k = learn-settles (effect.Learn s c ∷ l) s c (inl refl) in ap is_settled k.1

-- ---- weights and prices

-- all effects but Learns
abbrev pub stored : ℕ → List Effect → ℕ
stored s [] = 0
stored s (effect.Learn x c ∷ log) = stored s log
stored s (f ∷ log) = s + stored s log

-- an answer counts a, a Tell t, an effect s, and an Ask q, with all that may still be asked for
module _ (a t s q : ℕ) where
  abbrev pub wt : Message → ℕ
  wt (message.Ask x) = q
  wt (message.Tell x c) = t
  wt m = a

  abbrev pub price : Message → ℕ
  price (message.Begin x n) = a + s
  price (message.Commit x) = a + s
  price (message.Withdraw x) = a + s
  price (message.Read x o) = a + (s + q)
  price (message.Write x o v) = a + (s + q)
  price (message.Ask x) = t
  price m = 0

  abbrev pub rest : List Effect → List (TimeParts × HeldRead) → List Asker → ℕ
  rest log held askers = stored s log + ((free q log held + times (a + (s + q)) held) + times t askers)

  -- THE MEASURE
  abbrev pub measure : Hand → ℕ
  measure h = load wt h.outs + rest (now h) h.held h.askers

  low : q ≤ a + (s + q)
  low = omega arith

  sends : (h : Hand) (to : NodeId) (m : Message) → measure (send to m h) ≡ measure h + wt m
  sends h to m = let i = load-append wt h.outs (record { to = to; message = m } ∷ []) in omega (arith, i)

  stored-most : (f : Effect) (log : List Effect) → stored s (f ∷ log) ≤ s + stored s log
  stored-most (effect.Learn x c) log = omega arith
  stored-most f log = omega arith

  -- an effect that is no Put
  notes : (f : Effect) (h : Hand) → putters (f ∷ now h) ≡ putters (now h) → measure (note f h) ≤ measure h + s
  notes f h e = let i = noted-free q f (now h) h.held e in let j = stored-most f (now h) in omega (arith, i, j)

  -- a read is held, and its attempt is asked for where none was held for it before
  holds : (before : List (TimeParts × HeldRead)) (h : Hand) (x : TimeParts) (e : HeldRead) → Waits (now h) (x, e) → ((y : StampParts) → waits_for y h.held ≡ true → waits_for y before ≡ true) →
      measure (ask_for before e.waits (hold x e h)) ≤ measure h + (a + (s + q))
  holds before h x e waits more = go ((e.waits.home == h.number) || waits_for e.waits before) refl
    where
      off : (b c : Bool) → (b || c) ≡ false → c ≡ false
      off false c p = p
      off true c p = absurd (true≢false p)

      not-held : (c : Bool) → waits_for e.waits h.held ≡ c → waits_for e.waits before ≡ false → waits_for e.waits h.held ≡ false
      not-held false p n = p
      not-held true p n = absurd (false≢true (sym n ∙ more e.waits p))

      go : (c : Bool) → ((e.waits.home == h.number) || waits_for e.waits before) ≡ c → measure (if c then hold x e h else send (repository e.waits.home) (message.Ask e.waits) (hold x e h)) ≤ measure h + (a + (s + q))
      go true p = let i = held-free q (a + (s + q)) low x e (now h) h.held in omega (arith, i)
      go false p =
          let j = sends (hold x e h) (repository e.waits.home) (message.Ask e.waits) in
          omega (arith, asked-free q (a + (s + q)) low x e (now h) h.held waits (not-held (waits_for e.waits h.held) refl (off (e.waits.home == h.number) (waits_for e.waits before) p)), j)

  reads-as : (before : List (TimeParts × HeldRead)) (h : Hand) (from : NodeId) (x : TimeParts) (o : ObjectId) (r : ReadStep) → read_step (marks (now h)) o x ≡ r →
      ((y : StampParts) → waits_for y h.held ≡ true → waits_for y before ≡ true) → measure (read_as before h from x o r) ≤ measure h + (a + (s + q))
  reads-as before h from x o (read.Answer v true) e more = let i = sends (note (effect.Stretch o x) h) from (message.Value x v) in let j = notes (effect.Stretch o x) h refl in omega (arith, i, j)
  reads-as before h from x o (read.Answer v false) e more = let i = sends h from (message.Value x v) in omega (arith, i)
  reads-as before h from x o (read.LaterRead y) e more = let i = sends h from (message.LaterRead x y) in omega (arith, i)
  reads-as before h from x o (read.Wait w) e more = holds before h x (record { from = from; object = o; waits = w }) (read-waits (now h) from x o w e) more

  unholds : (x : TimeParts) (h : Hand) → measure (unhold x h) ≤ measure h
  unholds x h = let i = removed-free q (a + (s + q)) low (is_at (time_cmp x)) (now h) h.held in omega (arith, i)

  reads-on : (h : Hand) (from : NodeId) (x : TimeParts) (o : ObjectId) → measure (read_as h.held (unhold x h) from x o (read_step (marks (now h)) o x)) ≤ measure h + (a + (s + q))
  reads-on h from x o = omega (arith, reads-as h.held (unhold x h) from x o (read_step (marks (now h)) o x) refl (λ y j. waits-remove y (is_at (time_cmp x)) h.held j), unholds x h)

  reads-known : (h : Hand) (from : NodeId) (x : TimeParts) (o : ObjectId) (c : Option Bool) → measure (read_known h from x o c) ≤ measure h + (a + (s + q))
  reads-known h from x o (Some false) = let i = sends (unhold x h) from (message.Ended x) in let j = unholds x h in omega (arith, i, j)
  reads-known h from x o (Some true) = reads-on h from x o
  reads-known h from x o None = reads-on h from x o

  reads : (h : Hand) (from : NodeId) (x : TimeParts) (o : ObjectId) → measure (on_read h from x o) ≤ measure h + (a + (s + q))
  unfolding on_read
  reads h from x o = reads-known h from x o (known (now h) x.stamp)

  rereads : (es : List (TimeParts × HeldRead)) (h : Hand) → measure (reread es h) ≤ measure h + times (a + (s + q)) es
  rereads [] h = omega arith
  rereads (e ∷ es) h = let i = rereads es (on_read h e.1.from e.0 e.1.object) in let j = reads h e.1.from e.0 e.1.object in omega (arith, i, j)

  releases : (x : StampParts) (h : Hand) → is_settled (known (now h) x) ≡ true → measure (release x h) ≤ measure h
  unfolding release
  releases x h e =
      let i = rereads (filter (λ e. same_stamp e.1.waits x) h.held) (record h { held = filter (λ e. not (same_stamp e.1.waits x)) h.held }) in
      let l = released-free q x (now h) h.held e in
      omega (arith, i, times-parted (a + (s + q)) (λ (e : TimeParts × HeldRead). same_stamp e.1.waits x) h.held, l)

  tells-all : (as' : List Asker) (x : StampParts) (c : Bool) (h : Hand) → (measure (tells as' x c h) ≤ measure h + times t as') × (now (tells as' x c h) ≡ now h)
  tells-all [] x c h = (omega arith, refl)
  tells-all (b ∷ as') x c h =
      let i = tells-all as' x c (send (repository b.repository) (message.Tell x c) h) in
      (omega (arith, i.0, sends h (repository b.repository) (message.Tell x c)), i.1)

  tells-askers : (x : StampParts) (c : Bool) (h : Hand) → (measure (tell_askers x c h) ≤ measure h) × (now (tell_askers x c h) ≡ now h)
  unfolding tell_askers
  tells-askers x c h =
      let i = tells-all (filter (λ b. same_stamp b.stamp x) h.askers) x c (record h { askers = filter (λ b. not (same_stamp b.stamp x)) h.askers }) in
      (omega (arith, i.0, times-parted t (λ (b : Asker). same_stamp b.stamp x) h.askers), i.1)

  begins-as : (h : Hand) (from : NodeId) (x : StampParts) (n : ℕ) (r : Option RecordState) → measure (begin_as h from x n r) ≤ measure h + (a + s)
  begins-as h from x n None = let i = sends (note (effect.Begin x (h.moment + n)) h) from (message.Begun x) in let j = notes (effect.Begin x (h.moment + n)) h refl in omega (arith, i, j)
  begins-as h from x n (Some (state.Unknown d)) = let i = sends h from (message.Begun x) in omega (arith, i)
  begins-as h from x n (Some (state.Decided d)) = let i = sends h from (message.Decided x d) in omega (arith, i)

  closes-as : (h : Hand) (from : NodeId) (x : StampParts) (d : Decision) (r : Option RecordState) → measure (close_as h from x d r) ≤ measure h + (a + s)
  closes-as h from x d None = omega arith
  closes-as h from x d (Some (state.Unknown n)) =
      let told = tells-askers x (is_commit d) (send from (message.Decided x d) (note (effect.Decide x d) h)) in
      let i = releases x (tell_askers x (is_commit d) (send from (message.Decided x d) (note (effect.Decide x d) h))) (subst (λ z. is_settled (known z x) ≡ true) (sym told.1) (decide-known (now h) x d)) in
      omega (arith, told.0, i, sends (note (effect.Decide x d) h) from (message.Decided x d), notes (effect.Decide x d) h refl)
  closes-as h from x d (Some (state.Decided e)) = let i = sends h from (message.Decided x e) in omega (arith, i)

  writes-as : (h : Hand) (from : NodeId) (x : TimeParts) (o : ObjectId) (v : Value) (b c : Bool) (w : WriteStep) → measure (write_as h from x o v b c w) ≤ measure h + (a + (s + q))
  writes-as h from x o v true c w = let i = sends h from (message.Stored x) in omega (arith, i)
  writes-as h from x o v false true w = let i = sends h from (message.Ended x) in omega (arith, i)
  writes-as h from x o v false false write.Put = let i = sends (note (effect.Put o x v) h) from (message.Stored x) in let j = put-free q o x v (now h) h.held in omega (arith, i, j)
  writes-as h from x o v false false write.Again = let i = sends h from (message.Stored x) in omega (arith, i)
  writes-as h from x o v false false (write.LaterVersion y) = let i = sends h from (message.LaterVersion x y) in omega (arith, i)
  writes-as h from x o v false false (write.LaterRead e) = let i = sends h from (message.LaterRead x e) in omega (arith, i)

  asks-as : (h : Hand) (from : NodeId) (x : StampParts) (r : Option RecordState) → measure (ask_as h from x r) ≤ measure h + t
  asks-as h from x None = omega arith
  asks-as h from x (Some (state.Unknown n)) = let i = times-keyed t h.askers (record { repository = from.number; stamp = x }) in omega (arith, i)
  asks-as h from x (Some (state.Decided d)) = let i = sends h from (message.Tell x (is_commit d)) in omega (arith, i)

  learns-as : (h : Hand) (x : StampParts) (c : Bool) (u : Option Bool) → measure (learn_as h x c u) ≤ measure h
  learns-as h x c None = let i = releases x (note (effect.Learn x c) h) (learn-known (now h) x c) in let j = noted-free q (effect.Learn x c) (now h) h.held refl in omega (arith, i, j)
  learns-as h x c (Some d) = omega arith

  pub learnt : (h : Hand) (x : StampParts) (c : Bool) → measure (on_learn h x c) ≤ measure h
  unfolding on_learn
  learnt h x c = learns-as h x c (known (now h) x)

  rows : (h : Hand) (from : NodeId) (m : Message) → measure (row h from m) ≤ measure h + price m
  unfolding on_begin on_close on_write on_ask
  rows h from (message.Begin x n) = begins-as h from x n (record_of (now h) x)
  rows h from (message.Commit x) = closes-as h from x decision.Committed (record_of (now h) x)
  rows h from (message.Withdraw x) = closes-as h from x decision.Withdrawn (record_of (now h) x)
  rows h from (message.Read x o) = reads h from x o
  rows h from (message.Write x o v) = writes-as h from x o v (stands_written (marks (now h)) o x v) (is_settled (known (now h) x.stamp)) (write_step (marks (now h)) o x v)
  rows h from (message.Ask x) = asks-as h from x (record_of (now h) x)
  rows h from (message.Tell x c) = let i = learnt h x c in omega (arith, i)
  rows h from m = omega arith

  -- a message that is taken
  pub taken : (h : Hand) (from : NodeId) (m : Message) → measure (on_message h from m) ≤ measure h + if-from (accepts h.number from m) (price m)
  unfolding on_message
  taken h from m = elim (accepts h.number from m) as (λ c. measure (if c then row h from m else h) ≤ measure h + if-from c (price m)) [ true ↦ rows h from m | false ↦ omega arith ]
