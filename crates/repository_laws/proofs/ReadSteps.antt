-- What each step of a turn keeps of the reads: one that is held stays held or is answered, what is waited for isn't known, and the home of what is waited for anew is asked.
use Rattle.repository_laws.proofs.Names.{Every, Has, has-left, has-right, every-map, StampParts, TimeParts, time_cmp, same_stamp, same_stamp-is, same_stamp-of, Decision, RecordState, Unknown, Decided, NodeId, ObjectId, Value, Effect, Message, Out, ReadStep, Answer, Wait, LaterRead, WriteStep, or_else, settle_of, is_settled, alive, floor_of, read_step, stands_written, write_step, and-left, HeldRead, Asker, Hand, asker_cmp, note, now, send, repository, is_commit, known, marks, record_of, accepts, ask_as, begin_as, close_as, hold, learn_as, on_ask, on_begin, on_close, on_learn, on_message, on_read, on_write, row, write_as, read_as, read_known, release, reread, tell_askers, tells, unhold, waits_for, due, ask_again, asks, expire, expire_all, expire_as, on_moment, waited, Waits, put-in, every-remove, every-put, ◌≡◌, ◌⊎◌, ℕ, ◌+◌, ◌==◌, Bool, true, false, ◌&&◌, ◌||◌, not, List, [], ◌∷◌, ◌++◌, refl, sym, ◌∙◌, ap, subst, Option, Some, None, if◌then◌else◌, inl, inr, false≢true, true≢false, nat_le, filter, is_at, insert_key, every-has, lt, Seen, sees, read_seen, read_from, needs_stretch, standing, Standing, stands-has, ask_for, ask_of}
use Rattle.pseudo_time.specs.declared.decisions.Decision.TheVariants as decision
use Rattle.effect_form.specs.declared.effects.Effect.TheVariants as effect
use Rattle.message_form.specs.declared.messages.Message.TheVariants as message
use Rattle.object_history.specs.declared.steps.WriteStep.TheVariants as write
use Rattle.object_history.specs.declared.marks.Mark.{Mark}
use Rattle.object_history.proofs.StableLemmas.{scan-passes}
use Rattle.object_history.proofs.Words.{Passes}
use Rattle.repository_laws.proofs.Logs.{put-logged}
use Rattle.repository_laws.proofs.HeldLemmas.{or-split, has-split, every-passing, gone-or, kept-or, waits-put, waits-remove, waits-filter}

-- a read that has to wait
-- a read that waits isn't below the floor
waits-from : (f : Option TimeParts) (m : List Mark) (o : ObjectId) (t : TimeParts) (w : StampParts) → read_from f m o t ≡ Wait w → read_seen m o t (sees m o t) ≡ Wait w
waits-from None m o t w h = h
waits-from (Some e) m o t w h = (elim (lt t e) as (λ b. (if b then LaterRead e else read_seen m o t (sees m o t)) ≡ Wait w → read_seen m o t (sees m o t) ≡ Wait w) [ true ↦ λ h. absurd (cc h) | false ↦ λ h. h ]) h

pub read-waits : (l : List Effect) (from : NodeId) (t : TimeParts) (o : ObjectId) (w : StampParts) → read_step (marks l) o t ≡ Wait w → Waits l (t, record { from = from; object = o; waits = w })
read-waits l from t o w h = go (sees (marks l) o t) (standing (λ x. lt x t && alive (marks l) x) o (marks l)) (scan-passes (λ x. lt x t && alive (marks l) x) o (marks l)) (waits-from (floor_of (marks l)) (marks l) o t w h)
  where
    go : (r : Option Seen) → Standing o (marks l) r → Passes (λ x. lt x t && alive (marks l) x) r → read_seen (marks l) o t r ≡ Wait w → Waits l (t, record { from = from; object = o; waits = w })
    go None st p h = absurd (cc h)
    go (Some q) st p h = by (same_stamp q.start.stamp t.stamp) refl (settle_of (marks l) q.start.stamp) refl h
      where
        by : (b : Bool) → same_stamp q.start.stamp t.stamp ≡ b → (u : Option Bool) → settle_of (marks l) q.start.stamp ≡ u →
            (if b || is_settled u then Answer q.value (needs_stretch (marks l) o t (Some q)) else Wait q.start.stamp) ≡ Wait w → Waits l (t, record { from = from; object = o; waits = w })
        by true e u f h = absurd (cc h)
        by false e (Some c) f h = absurd (cc h)
        by false e None f h =
            let k : q.start.stamp ≡ w = cc h in
            record {
              unknown = subst (λ z. settle_of (marks l) z ≡ None) k f;
              start = q.start;
              value = q.value;
              put = put-logged l o q.start q.value (stands-has o (marks l) q st);
              own = k;
              below = and-left (lt q.start t) (alive (marks l) q.start) p;
              other = λ z. false≢true (sym e ∙ same_stamp-of q.start.stamp t.stamp z);
            }

waits-more : (l : List Effect) (f : Effect) (e : TimeParts × HeldRead) → Waits l e → known (f ∷ l) e.1.waits ≡ None → Waits (f ∷ l) e
waits-more l f e w n = record { unknown = n; start = w.start; value = w.value; put = inr w.put; own = w.own; below = w.below; other = w.other }

pub known-stretch : (l : List Effect) (o : ObjectId) (x : TimeParts) (w : StampParts) → known (effect.Stretch o x ∷ l) w ≡ known l w
unfolding settle_of
known-stretch l o x w = refl

known-put : (l : List Effect) (o : ObjectId) (x : TimeParts) (v : Value) (w : StampParts) → known (effect.Put o x v ∷ l) w ≡ known l w
unfolding settle_of
known-put l o x v w = refl

settled-other : (s w : StampParts) (c : Bool) (u : Option Bool) → u ≡ None → (w ≡ s) ⊎ ((if same_stamp s w then or_else u c else u) ≡ None)
settled-other s w c u n = (elim (same_stamp s w) as (λ b. same_stamp s w ≡ b → (w ≡ s) ⊎ ((if b then or_else u c else u) ≡ None)) [ true ↦ λ e. inl (sym (same_stamp-is s w e)) | false ↦ λ e. inr n ]) refl

known-decide : (l : List Effect) (s : StampParts) (d : Decision) (w : StampParts) → known l w ≡ None → (w ≡ s) ⊎ (known (effect.Decide s d ∷ l) w ≡ None)
unfolding settle_of
known-decide l s d w n = settled-other s w (is_commit d) (settle_of (marks l) w) n

known-learn : (l : List Effect) (s : StampParts) (c : Bool) (w : StampParts) → known l w ≡ None → (w ≡ s) ⊎ (known (effect.Learn s c ∷ l) w ≡ None)
unfolding settle_of
known-learn l s c w n = settled-other s w c (settle_of (marks l) w) n

-- ---- a turn in hand

-- the answers to a read
abbrev pub Answers : TimeParts → Message → Type 0
Answers t m = ((v : Value) × (m ≡ message.Value t v)) ⊎ ((m ≡ message.Ended t) ⊎ ((e : TimeParts) × (m ≡ message.LaterRead t e)))

-- the read is held, or its answer is owed
abbrev pub Serves : Hand → TimeParts → ObjectId → NodeId → Type 0
Serves h t o from = ((w : StampParts) × Has (t, record { from = from; object = o; waits = w }) h.held) ⊎ ((m : Message) × Answers t m × Has (record { to = from; message = m }) h.outs)

-- all reads are of the requests of which R holds, and these are of one object each and from one node
module _ (R : TimeParts → ObjectId → NodeId → Type 0) (agree : (t : TimeParts) (o p : ObjectId) (f g : NodeId) → R t o f → R t p g → (o ≡ p) × (f ≡ g)) where
  abbrev pub IsRead : TimeParts × HeldRead → Type 0
  IsRead e = R e.0 e.1.object e.1.from

  -- `old` is the hand as the turn began. Held reads of which `gap` holds may be lost so far, and stamps of which `off` holds may be known.
  pub record Keeps (old : Hand) (gap : TimeParts × HeldRead → Type 0) (off : StampParts → Type 0) (h : Hand) : Type 0 where
    pub number : h.number ≡ old.number
    pub first : Every IsRead old.held
    pub reads : Every IsRead h.held
    pub served : (e : TimeParts × HeldRead) → Has e old.held → gap e ⊎ Serves h e.0 e.1.object e.1.from
    pub waiting : Every (λ e. off e.1.waits ⊎ Waits (now h) e) h.held
    pub asks : (w : StampParts) → waits_for w h.held ≡ true → (w.home == h.number) ≡ false → (waits_for w old.held ≡ true) ⊎ Has (ask_of w) h.outs

  module _ (old : Hand) where
    serves-more : (h : Hand) (to : NodeId) (m : Message) (t : TimeParts) (o : ObjectId) (from : NodeId) → Serves h t o from → Serves (send to m h) t o from
    serves-more h to m t o from (inl a) = inl a
    serves-more h to m t o from (inr (n, a, k)) = inr (n, a, has-left h.outs (record { to = to; message = m } ∷ []) (record { to = from; message = n }) k)

    -- a message is owed
    pub send-keeps : (gap : TimeParts × HeldRead → Type 0) (off : StampParts → Type 0) (h : Hand) (to : NodeId) (m : Message) → Keeps old gap off h → Keeps old gap off (send to m h)
    send-keeps gap off h to m k = record {
      number = k.number;
      first = k.first;
      reads = k.reads;
      served = λ e i. elim (k.served e i) [ inl a ↦ inl a | inr b ↦ inr (serves-more h to m e.0 e.1.object e.1.from b) ];
      waiting = k.waiting;
      asks = λ w i n. elim (k.asks w i n) [ inl a ↦ inl a | inr b ↦ inr (has-left h.outs (record { to = to; message = m } ∷ []) (ask_of w) b) ];
    }

    -- an effect is added
    pub note-keeps : (gap : TimeParts × HeldRead → Type 0) (off more : StampParts → Type 0) (h : Hand) (f : Effect) → ((w : StampParts) → off w → more w) →
        ((w : StampParts) → known (now h) w ≡ None → more w ⊎ (known (f ∷ now h) w ≡ None)) → Keeps old gap off h → Keeps old gap more (note f h)
    note-keeps gap off more h f wider stays k = record {
      number = k.number;
      first = k.first;
      reads = k.reads;
      served = k.served;
      waiting = every-map (λ e. off e.1.waits ⊎ Waits (now h) e) (λ e. more e.1.waits ⊎ Waits (f ∷ now h) e) one h.held k.waiting;
      asks = k.asks;
    }
      where
        one : (e : TimeParts × HeldRead) → (off e.1.waits ⊎ Waits (now h) e) → more e.1.waits ⊎ Waits (f ∷ now h) e
        one e (inl a) = inl (wider e.1.waits a)
        one e (inr w) = elim (stays e.1.waits w.unknown) [ inl a ↦ inl a | inr n ↦ inr (waits-more (now h) f e w n) ]

    -- the gap of one read is closed
    abbrev At : TimeParts → (TimeParts × HeldRead → Type 0) → TimeParts × HeldRead → Type 0
    At t gap e = (e.0 ≡ t) ⊎ gap e

    closed : (gap : TimeParts × HeldRead → Type 0) (off : StampParts → Type 0) (h : Hand) (t : TimeParts) (o : ObjectId) (from : NodeId) → R t o from → Serves h t o from →
        Keeps old (At t gap) off h → Keeps old gap off h
    closed gap off h t o from r s k = record {
      number = k.number;
      first = k.first;
      reads = k.reads;
      served = λ e i. elim (k.served e i) [ inl a ↦ elim a [ inl q ↦ inr (mine e i q) | inr g ↦ inl g ] | inr b ↦ inr b ];
      waiting = k.waiting;
      asks = k.asks;
    }
      where
        mine : (e : TimeParts × HeldRead) → Has e old.held → e.0 ≡ t → Serves h e.0 e.1.object e.1.from
        mine e i q =
            let re : R t e.1.object e.1.from = subst (λ z. R z e.1.object e.1.from) q (every-has IsRead old.held e k.first i) in
            let both = agree t o e.1.object from e.1.from r re in
            subst (λ z. Serves h z e.1.object e.1.from) (sym q) (subst (λ z. Serves h t z e.1.from) both.0 (subst (λ z. Serves h t o z) both.1 s))

    -- a read is no longer held
    unhold-keeps : (gap : TimeParts × HeldRead → Type 0) (off : StampParts → Type 0) (h : Hand) (t : TimeParts) → Keeps old gap off h → Keeps old (At t gap) off (unhold t h)
    unhold-keeps gap off h t k = record {
      number = k.number;
      first = k.first;
      reads = every-remove IsRead (is_at (time_cmp t)) h.held k.reads;
      served = λ e i. elim (k.served e i) [ inl a ↦ inl (inr a) | inr b ↦ still e b ];
      waiting = every-remove (λ (e : TimeParts × HeldRead). off e.1.waits ⊎ Waits (now h) e) (is_at (time_cmp t)) h.held k.waiting;
      asks = λ w i n. k.asks w (waits-remove w (is_at (time_cmp t)) h.held i) n;
    }
      where
        still : (e : TimeParts × HeldRead) → Serves h e.0 e.1.object e.1.from → At t gap e ⊎ Serves (unhold t h) e.0 e.1.object e.1.from
        still e (inl (w, i)) = elim (gone-or t h.held (e.0, record { from = e.1.from; object = e.1.object; waits = w }) i) [ inl q ↦ inl (inl q) | inr j ↦ inr (inl (w, j)) ]
        still e (inr b) = inr (inr b)

    -- a read is held; `before` are the reads that were held just before
    hold-keeps : (gap : TimeParts × HeldRead → Type 0) (off : StampParts → Type 0) (before : List (TimeParts × HeldRead)) (h : Hand) (from : NodeId) (t : TimeParts) (o : ObjectId) (w : StampParts) →
        R t o from → Waits (now h) (t, record { from = from; object = o; waits = w }) →
        ((u : StampParts) → waits_for u before ≡ true → (u.home == h.number) ≡ false → (waits_for u old.held ≡ true) ⊎ Has (ask_of u) h.outs) →
        Keeps old (At t gap) off h → Keeps old gap off (ask_for before w (hold t (record { from = from; object = o; waits = w }) h))
    hold-keeps gap off before h from t o w r waits earlier k = go ((w.home == h.number) || waits_for w before) refl
      where
        x : HeldRead
        x = record { from = from; object = o; waits = w }

        still : (e : TimeParts × HeldRead) → Serves h e.0 e.1.object e.1.from → At t gap e ⊎ Serves (hold t x h) e.0 e.1.object e.1.from
        still e (inl (v, i)) = elim (kept-or t x h.held (e.0, record { from = e.1.from; object = e.1.object; waits = v }) i) [ inl q ↦ inl (inl q) | inr j ↦ inr (inl (v, j)) ]
        still e (inr b) = inr (inr b)

        -- but for the Ask of w
        held : (outs : List Out) → ((o : Out) → Has o h.outs → Has o outs) → ((w.home == h.number) ≡ false → (waits_for w old.held ≡ true) ⊎ Has (ask_of w) outs) →
            Keeps old (At t gap) off (record (hold t x h) { outs = outs })
        held outs more asked = record {
          number = k.number;
          first = k.first;
          reads = every-put IsRead t x h.held r k.reads;
          served = λ e i. elim (k.served e i) [
            | inl a ↦ inl a
            | inr b ↦ elim (still e b) [ inl a ↦ inl a | inr c ↦ inr (elim c [ inl d ↦ inl d | inr f ↦ inr (f.0, f.1, more (record { to = e.1.from; message = f.0 }) f.2) ]) ]
          ];
          waiting = every-put (λ e. off e.1.waits ⊎ Waits (now h) e) t x h.held (inr waits) k.waiting;
          asks = λ u i n. elim (waits-put u t x h.held i) [ inl q ↦ anew u q n | inr j ↦ elim (k.asks u j n) [ inl a ↦ inl a | inr b ↦ inr (more (ask_of u) b) ] ];
        }
          where
            anew : (u : StampParts) → same_stamp w u ≡ true → (u.home == h.number) ≡ false → (waits_for u old.held ≡ true) ⊎ Has (ask_of u) outs
            anew u q n = let e : w ≡ u = same_stamp-is w u q in
                subst (λ z. (waits_for z old.held ≡ true) ⊎ Has (ask_of z) outs) e (asked (subst (λ (z : StampParts). (z.home == h.number) ≡ false) (sym e) n))

        go : (b : Bool) → ((w.home == h.number) || waits_for w before) ≡ b → Keeps old gap off (if b then hold t x h else send (repository w.home) (message.Ask w) (hold t x h))
        go true e = closed gap off (hold t x h) t o from r (inl (w, put-in t x h.held)) (held h.outs (λ o i. i) (λ n. elim (or-split (w.home == h.number) (waits_for w before) e) [
          | inl a ↦ absurd (true≢false (sym a ∙ n))
          | inr b ↦ earlier w b n
        ]))
        go false e = closed gap off (send (repository w.home) (message.Ask w) (hold t x h)) t o from r (inl (w, put-in t x h.held))
            (held (h.outs ++ ask_of w ∷ []) (λ o i. has-left h.outs (ask_of w ∷ []) o i) (λ n. inr (has-right h.outs (ask_of w ∷ []) (ask_of w) (inl refl))))

    -- a wider gap
    wider-gap : (gap more : TimeParts × HeldRead → Type 0) (off : StampParts → Type 0) (h : Hand) → ((e : TimeParts × HeldRead) → gap e → more e) → Keeps old gap off h → Keeps old more off h
    wider-gap gap more off h f k = record {
      number = k.number;
      first = k.first;
      reads = k.reads;
      served = λ e i. elim (k.served e i) [ inl a ↦ inl (f e a) | inr b ↦ inr b ];
      waiting = k.waiting;
      asks = k.asks;
    }

    -- the askers don't matter here
    askers-keep : (gap : TimeParts × HeldRead → Type 0) (off : StampParts → Type 0) (h : Hand) (as' : List Asker) → Keeps old gap off h → Keeps old gap off (record h { askers = as' })
    askers-keep gap off h as' k = record { number = k.number; first = k.first; reads = k.reads; served = k.served; waiting = k.waiting; asks = k.asks }

    abbrev Earlier : List (TimeParts × HeldRead) → Hand → Type 0
    Earlier before h = (u : StampParts) → waits_for u before ≡ true → (u.home == h.number) ≡ false → (waits_for u old.held ≡ true) ⊎ Has (ask_of u) h.outs

    read-as-keeps : (gap : TimeParts × HeldRead → Type 0) (off : StampParts → Type 0) (before : List (TimeParts × HeldRead)) (h : Hand) (from : NodeId) (t : TimeParts) (o : ObjectId) (s : ReadStep) →
        read_step (marks (now h)) o t ≡ s → R t o from → Earlier before h → Keeps old (At t gap) off h → Keeps old gap off (read_as before h from t o s) × Serves (read_as before h from t o s) t o from
    read-as-keeps gap off before h from t o (Answer v true) e r earlier k =
        let j : Hand = note (effect.Stretch o t) h in
        let served : Serves (send from (message.Value t v) j) t o from = inr (message.Value t v, inl (v, refl), has-right j.outs (record { to = from; message = message.Value t v } ∷ []) (record { to = from; message = message.Value t v }) (inl refl)) in (
          closed gap off (send from (message.Value t v) j) t o from r served
              (send-keeps (At t gap) off j from (message.Value t v) (note-keeps (At t gap) off off h (effect.Stretch o t) (λ w a. a) (λ w n. inr (known-stretch (now h) o t w ∙ n)) k)),
          served,
        )
    read-as-keeps gap off before h from t o (Answer v false) e r earlier k =
        let served : Serves (send from (message.Value t v) h) t o from = inr (message.Value t v, inl (v, refl), has-right h.outs (record { to = from; message = message.Value t v } ∷ []) (record { to = from; message = message.Value t v }) (inl refl)) in
        (closed gap off (send from (message.Value t v) h) t o from r served (send-keeps (At t gap) off h from (message.Value t v) k), served)
    read-as-keeps gap off before h from t o (LaterRead x) e r earlier k =
        let served : Serves (send from (message.LaterRead t x) h) t o from =
        inr (message.LaterRead t x, inr (inr (x, refl)), has-right h.outs (record { to = from; message = message.LaterRead t x } ∷ []) (record { to = from; message = message.LaterRead t x }) (inl refl)) in
        (closed gap off (send from (message.LaterRead t x) h) t o from r served (send-keeps (At t gap) off h from (message.LaterRead t x) k), served)
    read-as-keeps gap off before h from t o (Wait w) e r earlier k =
        (hold-keeps gap off before h from t o w r (read-waits (now h) from t o w e) earlier k, inl (w, go ((w.home == h.number) || waits_for w before)))
      where
        x : HeldRead
        x = record { from = from; object = o; waits = w }

        go : (b : Bool) → Has (t, x) (if b then hold t x h else send (repository w.home) (message.Ask w) (hold t x h)).held
        go true = put-in t x h.held
        go false = put-in t x h.held

    same-gap : (gap : TimeParts × HeldRead → Type 0) (t : TimeParts) (e : TimeParts × HeldRead) → At t (At t gap) e → At t gap e
    same-gap gap t e (inl a) = inl a
    same-gap gap t e (inr b) = b

    read-known-keeps : (gap : TimeParts × HeldRead → Type 0) (off : StampParts → Type 0) (h : Hand) (from : NodeId) (t : TimeParts) (o : ObjectId) (u : Option Bool) →
        R t o from → Keeps old (At t gap) off h → Keeps old gap off (read_known h from t o u) × Serves (read_known h from t o u) t o from
    read-known-keeps gap off h from t o (Some false) r k =
        let j : Hand = unhold t h in
        let served : Serves (send from (message.Ended t) j) t o from = inr (message.Ended t, inr (inl refl), has-right j.outs (record { to = from; message = message.Ended t } ∷ []) (record { to = from; message = message.Ended t }) (inl refl)) in (
          closed gap off (send from (message.Ended t) j) t o from r served
              (send-keeps (At t gap) off j from (message.Ended t) (wider-gap (At t (At t gap)) (At t gap) off j (same-gap gap t) (unhold-keeps (At t gap) off h t k))),
          served,
        )
    read-known-keeps gap off h from t o (Some true) r k =
        read-as-keeps gap off h.held (unhold t h) from t o (read_step (marks (now h)) o t) refl r k.asks (wider-gap (At t (At t gap)) (At t gap) off (unhold t h) (same-gap gap t) (unhold-keeps (At t gap) off h t k))
    read-known-keeps gap off h from t o None r k =
        read-as-keeps gap off h.held (unhold t h) from t o (read_step (marks (now h)) o t) refl r k.asks (wider-gap (At t (At t gap)) (At t gap) off (unhold t h) (same-gap gap t) (unhold-keeps (At t gap) off h t k))

    -- a read is carried out
    pub on-read-keeps : (gap : TimeParts × HeldRead → Type 0) (off : StampParts → Type 0) (h : Hand) (from : NodeId) (t : TimeParts) (o : ObjectId) →
        R t o from → Keeps old (At t gap) off h → Keeps old gap off (on_read h from t o) × Serves (on_read h from t o) t o from
    unfolding on_read
    on-read-keeps gap off h from t o r k = read-known-keeps gap off h from t o (known (now h) t.stamp) r k

    -- the read is among these
    abbrev Missing : List (TimeParts × HeldRead) → TimeParts × HeldRead → Type 0
    Missing xs e = (w : StampParts) × Has (e.0, record { from = e.1.from; object = e.1.object; waits = w }) xs

    abbrev none-missing : TimeParts × HeldRead → Type 0
    none-missing e = ⊥

    abbrev none-off : StampParts → Type 0
    none-off w = ⊥

    reread-keeps : (xs : List (TimeParts × HeldRead)) (off : StampParts → Type 0) (h : Hand) → Every IsRead xs → Keeps old (Missing xs) off h → Keeps old none-missing off (reread xs h)
    reread-keeps [] off h all k = wider-gap (Missing []) none-missing off h (λ e m. m.1) k
    reread-keeps (x ∷ xs) off h all k =
        reread-keeps xs off (on_read h x.1.from x.0 x.1.object) all.1
        (on-read-keeps (Missing xs) off h x.1.from x.0 x.1.object all.0 (wider-gap (Missing (x ∷ xs)) (At x.0 (Missing xs)) off h next k)).0
      where
        next : (e : TimeParts × HeldRead) → Missing (x ∷ xs) e → At x.0 (Missing xs) e
        next e (w, inl q) = inl (ap (λ (z : TimeParts × HeldRead). z.0) (sym q))
        next e (w, inr i) = inr (w, i)

    -- the reads that wait for a stamp that is known now are released
    pub release-keeps : (s : StampParts) (h : Hand) → Keeps old none-missing (λ w. w ≡ s) h → Keeps old none-missing none-off (release s h)
    unfolding release
    release-keeps s h k =
        reread-keeps (filter passes h.held) none-off (record h { held = filter fails h.held }) (every-passing IsRead IsRead passes h.held (λ e q r. r) k.reads) (record {
          number = k.number;
          first = k.first;
          reads = every-passing IsRead IsRead fails h.held (λ e q r. r) k.reads;
          served = λ e i. elim (k.served e i) [ inl a ↦ absurd a | inr b ↦ parted e b ];
          waiting = every-passing (λ e. (e.1.waits ≡ s) ⊎ Waits (now h) e) (λ e. ⊥ ⊎ Waits (now h) e) fails h.held others k.waiting;
          asks = λ w i n. k.asks w (waits-filter w fails h.held i) n;
        })
      where
        passes : TimeParts × HeldRead → Bool
        passes e = same_stamp e.1.waits s

        fails : TimeParts × HeldRead → Bool
        fails e = not (same_stamp e.1.waits s)

        parted : (e : TimeParts × HeldRead) → Serves h e.0 e.1.object e.1.from → Missing (filter passes h.held) e ⊎ Serves (record h { held = filter fails h.held }) e.0 e.1.object e.1.from
        parted e (inl (w, i)) = elim (has-split passes h.held (e.0, record { from = e.1.from; object = e.1.object; waits = w }) i) [ inl a ↦ inl (w, a) | inr b ↦ inr (inl (w, b)) ]
        parted e (inr b) = inr (inr b)

        others : (e : TimeParts × HeldRead) → fails e ≡ true → ((e.1.waits ≡ s) ⊎ Waits (now h) e) → ⊥ ⊎ Waits (now h) e
        others e q (inl a) = absurd (false≢true (sym (ap not (same_stamp-of e.1.waits s a)) ∙ q))
        others e q (inr w) = inr w

    tells-keep : (as' : List Asker) (s : StampParts) (c : Bool) (off : StampParts → Type 0) (h : Hand) → Keeps old none-missing off h → Keeps old none-missing off (tells as' s c h)
    tells-keep [] s c off h k = k
    tells-keep (a ∷ as') s c off h k = tells-keep as' s c off (send (repository a.repository) (message.Tell s c) h) (send-keeps none-missing off h (repository a.repository) (message.Tell s c) k)

    tell-askers-keeps : (s : StampParts) (c : Bool) (off : StampParts → Type 0) (h : Hand) → Keeps old none-missing off h → Keeps old none-missing off (tell_askers s c h)
    unfolding tell_askers
    tell-askers-keeps s c off h k =
        tells-keep (filter (λ a. same_stamp a.stamp s) h.askers) s c off (record h { askers = filter (λ a. not (same_stamp a.stamp s)) h.askers })
        (askers-keep none-missing off h (filter (λ a. not (same_stamp a.stamp s)) h.askers) k)

    abbrev Fine : Hand → Type 0
    Fine h = Keeps old none-missing none-off h

    -- a message is owed, or an effect that settles nothing is added
    owes : (h : Hand) (to : NodeId) (m : Message) → Fine h → Fine (send to m h)
    owes h to m k = send-keeps none-missing none-off h to m k

    close-as-keeps : (h : Hand) (from : NodeId) (s : StampParts) (d : Decision) (u : Option RecordState) → Fine h → Fine (close_as h from s d u)
    close-as-keeps h from s d None k = k
    close-as-keeps h from s d (Some (Unknown t)) k =
        release-keeps s (tell_askers s (is_commit d) (send from (message.Decided s d) (note (effect.Decide s d) h)))
        (tell-askers-keeps s (is_commit d) (λ w. w ≡ s) (send from (message.Decided s d) (note (effect.Decide s d) h))
        (send-keeps none-missing (λ w. w ≡ s) (note (effect.Decide s d) h) from (message.Decided s d)
        (note-keeps none-missing none-off (λ w. w ≡ s) h (effect.Decide s d) (λ w a. absurd a) (known-decide (now h) s d) k)))
    close-as-keeps h from s d (Some (Decided e)) k = owes h from (message.Decided s e) k

    begin-as-keeps : (h : Hand) (from : NodeId) (s : StampParts) (timeout : ℕ) (u : Option RecordState) → Fine h → Fine (begin_as h from s timeout u)
    begin-as-keeps h from s timeout None k =
        owes (note (effect.Begin s (h.moment + timeout)) h) from (message.Begun s) (note-keeps none-missing none-off none-off h (effect.Begin s (h.moment + timeout)) (λ w a. a) (λ w n. inr n) k)
    begin-as-keeps h from s timeout (Some (Unknown t)) k = owes h from (message.Begun s) k
    begin-as-keeps h from s timeout (Some (Decided d)) k = owes h from (message.Decided s d) k

    write-as-keeps : (h : Hand) (from : NodeId) (t : TimeParts) (o : ObjectId) (v : Value) (b c : Bool) (w : WriteStep) → Fine h → Fine (write_as h from t o v b c w)
    write-as-keeps h from t o v true c w k = owes h from (message.Stored t) k
    write-as-keeps h from t o v false true w k = owes h from (message.Ended t) k
    write-as-keeps h from t o v false false write.Put k =
        owes (note (effect.Put o t v) h) from (message.Stored t) (note-keeps none-missing none-off none-off h (effect.Put o t v) (λ u a. a) (λ u n. inr (known-put (now h) o t v u ∙ n)) k)
    write-as-keeps h from t o v false false write.Again k = owes h from (message.Stored t) k
    write-as-keeps h from t o v false false (write.LaterVersion x) k = owes h from (message.LaterVersion t x) k
    write-as-keeps h from t o v false false (write.LaterRead e) k = owes h from (message.LaterRead t e) k

    ask-as-keeps : (h : Hand) (from : NodeId) (s : StampParts) (u : Option RecordState) → Fine h → Fine (ask_as h from s u)
    ask-as-keeps h from s None k = k
    ask-as-keeps h from s (Some (Unknown t)) k = askers-keep none-missing none-off h (insert_key asker_cmp h.askers (record { repository = from.number; stamp = s })) k
    ask-as-keeps h from s (Some (Decided d)) k = owes h from (message.Tell s (is_commit d)) k

    learn-as-keeps : (h : Hand) (s : StampParts) (c : Bool) (u : Option Bool) → Fine h → Fine (learn_as h s c u)
    learn-as-keeps h s c None k = release-keeps s (note (effect.Learn s c) h) (note-keeps none-missing none-off (λ w. w ≡ s) h (effect.Learn s c) (λ w a. absurd a) (known-learn (now h) s c) k)
    learn-as-keeps h s c (Some d) k = k

    pub on-learn-keeps : (h : Hand) (s : StampParts) (c : Bool) → Fine h → Fine (on_learn h s c)
    unfolding on_learn
    on-learn-keeps h s c k = learn-as-keeps h s c (known (now h) s) k

    on-begin-keeps : (h : Hand) (from : NodeId) (s : StampParts) (timeout : ℕ) → Fine h → Fine (on_begin h from s timeout)
    unfolding on_begin
    on-begin-keeps h from s timeout k = begin-as-keeps h from s timeout (record_of (now h) s) k

    on-close-keeps : (h : Hand) (from : NodeId) (s : StampParts) (d : Decision) → Fine h → Fine (on_close h from s d)
    unfolding on_close
    on-close-keeps h from s d k = close-as-keeps h from s d (record_of (now h) s) k

    on-write-keeps : (h : Hand) (from : NodeId) (t : TimeParts) (o : ObjectId) (v : Value) → Fine h → Fine (on_write h from t o v)
    unfolding on_write
    on-write-keeps h from t o v k = write-as-keeps h from t o v (stands_written (marks (now h)) o t v) (is_settled (known (now h) t.stamp)) (write_step (marks (now h)) o t v) k

    on-ask-keeps : (h : Hand) (from : NodeId) (s : StampParts) → Fine h → Fine (on_ask h from s)
    unfolding on_ask
    on-ask-keeps h from s k = ask-as-keeps h from s (record_of (now h) s) k

    -- a Read is one of which R holds
    abbrev pub Asks : NodeId → Message → Type 0
    Asks from (message.Read t o) = R t o from
    Asks from m = Unit {0}

    read-fine : (h : Hand) (from : NodeId) (t : TimeParts) (o : ObjectId) → R t o from → Fine h → Fine (on_read h from t o) × Serves (on_read h from t o) t o from
    read-fine h from t o r k = on-read-keeps none-missing none-off h from t o r (wider-gap none-missing (At t none-missing) none-off h (λ e a. inr a) k)

    row-keeps : (h : Hand) (from : NodeId) (m : Message) → Asks from m → Fine h → Fine (row h from m)
    row-keeps h from (message.Begin s timeout) a k = on-begin-keeps h from s timeout k
    row-keeps h from (message.Commit s) a k = on-close-keeps h from s decision.Committed k
    row-keeps h from (message.Withdraw s) a k = on-close-keeps h from s decision.Withdrawn k
    row-keeps h from (message.Read t o) a k = (read-fine h from t o a k).0
    row-keeps h from (message.Write t o v) a k = on-write-keeps h from t o v k
    row-keeps h from (message.Ask s) a k = on-ask-keeps h from s k
    row-keeps h from (message.Tell s c) a k = on-learn-keeps h s c k
    row-keeps h from _ a k = k

    -- a message is taken
    pub on-message-keeps : (h : Hand) (from : NodeId) (m : Message) → (accepts h.number from m ≡ true → Asks from m) → Fine h → Fine (on_message h from m)
    unfolding on_message
    on-message-keeps h from m a k = (elim (accepts h.number from m) as (λ b. accepts h.number from m ≡ b → Fine (if b then row h from m else h)) [ true ↦ λ e. row-keeps h from m (a e) k | false ↦ λ e. k ]) refl

    -- a Read that is taken is held or answered
    pub on-message-serves : (h : Hand) (from : NodeId) (t : TimeParts) (o : ObjectId) → accepts h.number from (message.Read t o) ≡ true → R t o from → Fine h → Serves (on_message h from (message.Read t o)) t o from
    unfolding on_message
    on-message-serves h from t o e r k = subst (λ b. Serves (if b then row h from (message.Read t o) else h) t o from) (sym e) (read-fine h from t o r k).1

    -- ---- a moment

    expire-as-keeps : (m : ℕ) (h : Hand) (s : StampParts) (u : Option RecordState) → Fine h → Fine (expire_as m s h u)
    expire-as-keeps m h s None k = k
    expire-as-keeps m h s (Some (Unknown t)) k = go (nat_le t m)
      where
        j : Hand
        j = note (effect.Decide s (decision.Expired t m)) h

        go : (b : Bool) → Fine (if b then release s (tell_askers s false j) else h)
        go true =
            release-keeps s (tell_askers s false j)
            (tell-askers-keeps s false (λ w. w ≡ s) j
            (note-keeps none-missing none-off (λ w. w ≡ s) h (effect.Decide s (decision.Expired t m)) (λ w a. absurd a) (known-decide (now h) s (decision.Expired t m)) k))
        go false = k
    expire-as-keeps m h s (Some (Decided d)) k = k

    expire-all-keeps : (m : ℕ) (ss : List StampParts) (h : Hand) → Fine h → Fine (expire_all m ss h)
    unfolding expire
    expire-all-keeps m [] h k = k
    expire-all-keeps m (s ∷ more) h k = expire-all-keeps m more (expire_as m s h (record_of (now h) s)) (expire-as-keeps m h s (record_of (now h) s) k)

    asks-keep : (ws : List StampParts) (h : Hand) → Fine h → Fine (asks ws h)
    asks-keep [] h k = k
    asks-keep (w ∷ more) h k = asks-keep more (send (repository w.home) (message.Ask w) h) (owes h (repository w.home) (message.Ask w) k)

    heard-keeps : (h : Hand) (m : ℕ) → Fine h → Fine (record h { moment = m })
    heard-keeps h m k = record { number = k.number; first = k.first; reads = k.reads; served = k.served; waiting = k.waiting; asks = k.asks }

    -- a moment is heard
    pub on-moment-keeps : (h : Hand) (m : ℕ) → Fine h → Fine (on_moment h m)
    unfolding on_moment ask_again
    on-moment-keeps h m k =
        let j : Hand = expire_all m (due m (now h)) (record h { moment = m }) in
        asks-keep (waited j.number j.held []) j (expire-all-keeps m (due m (now h)) (record h { moment = m }) (heard-keeps h m k))

  -- a turn begins
  pub begins : (old : Hand) → Every IsRead old.held → Every (Waits (now old)) old.held → Keeps old (λ e. ⊥) (λ w. ⊥) old
  begins old all waits = record {
    number = refl;
    first = all;
    reads = all;
    served = λ e i. inr (inl (e.1.waits, i));
    waiting = every-map (Waits (now old)) (λ e. ⊥ ⊎ Waits (now old) e) (λ e w. inr w) old.held waits;
    asks = λ w i n. inl i;
  }
