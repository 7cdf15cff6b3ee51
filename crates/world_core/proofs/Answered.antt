-- In a legal trace each refusal that was sent answers a Take of that write, or of that read.
use Rattle.std.proofs.Common.{slice_get, suc, zero, inr, inl, ◌≡◌, ℕ, ◌==◌, Bool, true, false, ◌&&◌, List, [], ◌∷◌, ◌++◌, append-nil, append_assoc, map, refl, sym, ◌∙◌, ap, subst, Option, Some, None, if◌then◌else◌}
use Rattle.world_core.proofs.Names.{Every, Has, every-append, has-left, TimeParts, NodeId, NodeKind, Repository, Broker, ObjectId, Value, ActSpec, Effect, Message, Out, Post, Fate, same_node, WriteStep, floor_of, read_step, write_step, IsOnFloor, Tree, marks, accepts, Hand, now, HeldRead, Entry, Take, Go, Learn, Hear, Gate, Crash, Down, Tick, Mind, Input, Given, gives, repository, Going, Taking, Learning, Hearing, Base, Life, World, Sending, numbered, all_effects, after_input, took, hears, lives_on, life_after, names, leaving, sendings_after, step, start_world, walk_from, walk, sent_by, Rule, Meets, eqb-true, ◌⊎◌, reverse, reverse-append, filter, every-map, every-has, posts, kind_number, is_broker, is_broker_of, broker, leaves}
use Rattle.message_form.specs.declared.messages.Message.TheVariants as message
use Rattle.object_history.specs.declared.steps.WriteStep.TheVariants as write
use Rattle.repository_core.specs.Turns as turns
use Rattle.world_core.specs.Answered.{WasAnswered, WasRefused}
use Rattle.world_core.proofs.Lives.{sent-grows}
use Rattle.world_core.proofs.Refusals.{Says, Fine, OfRequest, Ok, on-message, on-learn, on-moment}

-- ---- nodes

and-left : (a b : Bool) → (a && b) ≡ true → a ≡ true
and-left true b h = refl
and-left false b h = cc

and-right : (a b : Bool) → (a && b) ≡ true → b ≡ true
and-right true b h = h
and-right false b h = cc

same-kind : (a b : NodeKind) → (kind_number a == kind_number b) ≡ true → a ≡ b
same-kind Repository Repository h = refl
same-kind Repository Broker h = cc
same-kind Broker Repository h = cc
same-kind Broker Broker h = refl

node-is : (a b : NodeId) → same_node a b ≡ true → a ≡ b
node-is a b h =
    let k = same-kind a.kind b.kind (and-left (kind_number a.kind == kind_number b.kind) (a.number == b.number) h) in
    let n = eqb-true a.number b.number (and-right (kind_number a.kind == kind_number b.kind) (a.number == b.number) h) in
    λ i. record { kind = k i; number = n i }

broker-of : (n : ℕ) (k : NodeKind) (i : ℕ) → (is_broker k && (i == n)) ≡ true → ◌≡◌ {A = NodeId} (record { kind = k; number = i }) (broker n)
broker-of n Repository i h = cc
broker-of n Broker i h = ap broker (eqb-true i n h)

-- ---- what a repository gives

reverse-twice : (xs : List Effect) → reverse (reverse xs) ≡ xs
reverse-twice [] = refl
reverse-twice (x ∷ xs) = ap reverse (reverse-append (x ∷ []) xs) ∙ reverse-append (reverse xs) (x ∷ []) ∙ ap (λ z. x ∷ z) (reverse-twice xs)

module _ (P : TimeParts → WriteStep → Type 0) (script : List ℕ → Tree) (run : ℕ) (acts : List ActSpec) (r : ℕ) where
  -- of a request that is taken the answer has P
  abbrev MayTell : List Effect → Input → Type 0
  MayTell log Going = Unit {0}
  MayTell log (Taking from m) = accepts r from m ≡ true → OfRequest P (reverse log) (reverse log) m
  MayTell log (Learning s c) = Unit {0}
  MayTell log (Hearing t) = Unit {0}

  -- what it holds isn't below the floor of its log
  abbrev pub Over : List Effect → Mind → Type 0
  Over log mind = Every (λ (e : TimeParts × HeldRead). IsOnFloor (marks (reverse log)) e.0) mind.hands.held

  started : (log : List Effect) (mind : Mind) → Over log mind → Ok P (reverse log) (turns.hand_at r (reverse log) mind.hands)
  started log mind over = record { past = refl; outs = tt; held = over; floors = refl }

  -- what a turn leaves
  ended : (log : List Effect) (h : Hand) → Ok P (reverse log) h → Fine P h.outs × Every (λ (e : TimeParts × HeldRead). IsOnFloor (marks (reverse (log ++ reverse h.added))) e.0) h.held
  ended log h k =
      let whole : reverse (log ++ reverse h.added) ≡ now h = reverse-append log (reverse h.added) ∙ ap (λ l. l ++ reverse log) (reverse-twice h.added) ∙ ap (λ l. h.added ++ l) (sym k.past) in (
        k.outs,
        every-map (λ (e : TimeParts × HeldRead). IsOnFloor (marks (reverse log)) e.0) (λ (e : TimeParts × HeldRead). IsOnFloor (marks (reverse (log ++ reverse h.added))) e.0)
            (λ e on x f. on x (k.floors ∙ ap (λ l. floor_of (marks l)) (sym whole) ∙ f)) h.held k.held,
      )

  gives-fine : (log : List Effect) (mind : Mind) (input : Input) → Over log mind → MayTell log input →
      Fine P (gives script run acts (repository r) log mind input).outs × Over (log ++ (gives script run acts (repository r) log mind input).effects) (gives script run acts (repository r) log mind input).mind
  unfolding gives turns.gives
  gives-fine log mind Going over k = (tt, subst (λ l. Over l mind) (sym (append-nil log)) over)
  gives-fine log mind (Taking from m) over k = ended log _ (on-message P (reverse log) (turns.hand_at r (reverse log) mind.hands) from m (started log mind over) k)
  gives-fine log mind (Learning s c) over k = ended log _ (on-learn P (reverse log) (turns.hand_at r (reverse log) mind.hands) s c (started log mind over))
  gives-fine log mind (Hearing t) over k = ended log _ (on-moment P (reverse log) (turns.hand_at r (reverse log) mind.hands) t (started log mind over))

module _ (b : Base) where
  -- the repository answered so to a write that it took, or so refused a read that it took
  abbrev pub Reason : List Entry → ℕ → TimeParts → WriteStep → Type 0
  Reason es r x step = ((o : ObjectId) × (v : Value) × (o.repository ≡ r) × WasAnswered b es x o v step)
      ⊎ ((o : ObjectId) × (e : TimeParts) × (step ≡ write.LaterRead e) × (o.repository ≡ r) × WasRefused b es x o e)

  reason-more : (es : List Entry) (e : Entry) (r : ℕ) (x : TimeParts) (s : WriteStep) → Reason es r x s → Reason (es ++ e ∷ []) r x s
  reason-more es e r x s (inl (o, v, q, a)) = inl (
    o,
    v,
    q,
    record {
      before = a.before;
      number = a.number;
      after = a.after ++ e ∷ [];
      sending = a.sending;
      here = ap (λ l. l ++ e ∷ []) a.here ∙ append_assoc a.before (Take (repository o.repository) a.number ∷ a.after) (e ∷ []);
      sent = a.sent;
      is_write = a.is_write;
      answer = a.answer;
    },
  )
  reason-more es e r x s (inr (o, end, is, q, a)) = inr (
    o,
    end,
    is,
    q,
    record {
      before = a.before;
      number = a.number;
      after = a.after ++ e ∷ [];
      sending = a.sending;
      here = ap (λ l. l ++ e ∷ []) a.here ∙ append_assoc a.before (Take (repository o.repository) a.number ∷ a.after) (e ∷ []);
      sent = a.sent;
      is_read = a.is_read;
      answer = a.answer;
    },
  )

  says-more : (es : List Entry) (e : Entry) (r : ℕ) (m : Message) → Says (Reason es r) m → Says (Reason (es ++ e ∷ []) r) m
  says-more es e r (message.LaterRead t x) h = reason-more es e r t (write.LaterRead x) h
  says-more es e r (message.LaterVersion t x) h = reason-more es e r t (write.LaterVersion x) h
  says-more es e r (message.Begin s t) h = tt
  says-more es e r (message.Begun s) h = tt
  says-more es e r (message.Read t o) h = tt
  says-more es e r (message.Value t v) h = tt
  says-more es e r (message.Write t o v) h = tt
  says-more es e r (message.Stored t) h = tt
  says-more es e r (message.Ended t) h = tt
  says-more es e r (message.Commit s) h = tt
  says-more es e r (message.Withdraw s) h = tt
  says-more es e r (message.Decided s d) h = tt
  says-more es e r (message.Ask s) h = tt
  says-more es e r (message.Tell s c) h = tt

  fine-more : (es : List Entry) (e : Entry) (r : ℕ) (outs : List Out) → Fine (Reason es r) outs → Fine (Reason (es ++ e ∷ []) r) outs
  fine-more es e r outs h = every-map (λ (o : Out). Says (Reason es r) o.message) (λ (o : Out). Says (Reason (es ++ e ∷ []) r) o.message) (λ o k. says-more es e r o.message k) outs h

  -- of a message that a repository sent
  abbrev pub FineSent : List Entry → Sending → Type 0
  FineSent es s = (r : ℕ) → s.post.from ≡ repository r → Says (Reason es r) s.post.message

  -- what a repository holds isn't below the floor of its log
  abbrev pub Held : Life → Type 0
  Held l = Every (λ (e : TimeParts × HeldRead). IsOnFloor (marks (reverse (all_effects l))) e.0) l.mind.hands.held

  pub record Inv (es : List Entry) (w : World) : Type 0 where
    pub outs : (r : ℕ) → Fine (Reason es r) (w.life (repository r)).outs
    pub held : (r : ℕ) → Held (w.life (repository r))
    pub sent : Every (FineSent es) w.sendings

  -- ---- one entry

  module _ (fates : List Fate) (es : List Entry) (w : World) (at : w ≡ walk b es) (inv : Inv es w) where
    -- a request that the repository takes now
    of-request : (r number : ℕ) (s : Sending) (from : NodeId) (m : Message) → numbered w.sendings number ≡ Some s → s.post.from ≡ from → s.post.to ≡ repository r → s.post.message ≡ m →
        accepts r from m ≡ true → OfRequest (Reason (es ++ Take (repository r) number ∷ []) r) (reverse (all_effects (w.life (repository r)))) (reverse (all_effects (w.life (repository r)))) m
    of-request r number s from (message.Write t o v) n f to is a =
        let rep : o.repository ≡ r = eqb-true o.repository r (and-right (is_broker_of t.stamp.broker from) (o.repository == r) a) in
        let fr : from ≡ broker t.stamp.broker = broker-of t.stamp.broker from.kind from.number (and-left (is_broker_of t.stamp.broker from) (o.repository == r) a) in
        let to' : s.post.to ≡ repository o.repository = to ∙ ap repository (sym rep) in
        let here' : es ++ Take (repository r) number ∷ [] ≡ es ++ Take (repository o.repository) number ∷ [] = ap (λ k. es ++ Take (repository k) number ∷ []) (sym rep) in inl (
          o,
          v,
          rep,
          record {
            before = es;
            number = number;
            after = [];
            sending = s;
            here = here';
            sent = ap (λ (u : World). numbered u.sendings number) (sym at) ∙ n;
            is_write = λ i. record { from = (f ∙ fr) i; to = to' i; message = is i };
            answer = ap (λ (u : World). write_step (marks (reverse (all_effects (u.life (repository o.repository))))) o t v) (sym at) ∙ ap (λ k. write_step (marks (reverse (all_effects (w.life (repository k))))) o t v) rep;
          },
        )
    of-request r number s from (message.Begin x t) n f to is a = tt
    of-request r number s from (message.Begun x) n f to is a = tt
    of-request r number s from (message.Read t o) n f to is a = λ x refused.
        let rep : o.repository ≡ r = eqb-true o.repository r (and-right (is_broker_of t.stamp.broker from) (o.repository == r) a) in
        let fr : from ≡ broker t.stamp.broker = broker-of t.stamp.broker from.kind from.number (and-left (is_broker_of t.stamp.broker from) (o.repository == r) a) in
        let to' : s.post.to ≡ repository o.repository = to ∙ ap repository (sym rep) in
        let here' : es ++ Take (repository r) number ∷ [] ≡ es ++ Take (repository o.repository) number ∷ [] = ap (λ k. es ++ Take (repository k) number ∷ []) (sym rep) in inr (
          o,
          x,
          refl,
          rep,
          record {
            before = es;
            number = number;
            after = [];
            sending = s;
            here = here';
            sent = ap (λ (u : World). numbered u.sendings number) (sym at) ∙ n;
            is_read = λ i. record { from = (f ∙ fr) i; to = to' i; message = is i };
            answer = ap (λ (u : World). read_step (marks (reverse (all_effects (u.life (repository o.repository))))) o t) (sym at) ∙ ap (λ k. read_step (marks (reverse (all_effects (w.life (repository k))))) o t) rep ∙ refused;
          },
        )
    of-request r number s from (message.Value t v) n f to is a = tt
    of-request r number s from (message.Stored t) n f to is a = tt
    of-request r number s from (message.LaterRead t x) n f to is a = tt
    of-request r number s from (message.LaterVersion t x) n f to is a = tt
    of-request r number s from (message.Ended t) n f to is a = tt
    of-request r number s from (message.Commit x) n f to is a = tt
    of-request r number s from (message.Withdraw x) n f to is a = tt
    of-request r number s from (message.Decided x d) n f to is a = tt
    of-request r number s from (message.Ask x) n f to is a = tt
    of-request r number s from (message.Tell x c) n f to is a = tt

    -- ---- lives

    abbrev Then : Entry → ℕ → TimeParts → WriteStep → Type 0
    Then e r = Reason (es ++ e ∷ []) r

    -- its messages have reasons, and what it holds isn't below the floor
    abbrev Well : Entry → ℕ → Life → Type 0
    Well e r l = Fine (Then e r) l.outs × Held l

    told-well : (e : Entry) (r : ℕ) (l : Life) (input : Input) → Well e r l → MayTell (Then e r) b.script b.run b.acts r (all_effects l) input → Well e r (after_input b (repository r) l input)
    told-well e r l input k m =
        let g : Given = gives b.script b.run b.acts (repository r) (all_effects l) l.mind input in
        let both = gives-fine (Then e r) b.script b.run b.acts r (all_effects l) l.mind input k.1 m in (
          every-append (λ (o : Out). Says (Then e r) o.message) l.outs g.outs k.0 both.0,
          subst (λ z. Every (λ (x : TimeParts × HeldRead). IsOnFloor (marks (reverse z)) x.0) g.mind.hands.held) (append_assoc l.gated l.fresh g.effects) both.1,
        )

    hears-well : (e : Entry) (r : ℕ) (l : Life) (o : Option ℕ) → Well e r l → Well e r (hears b (repository r) l o)
    hears-well e r l None k = k
    hears-well e r l (Some m) k = told-well e r l (Hearing m) k tt

    took-well : (r number : ℕ) (s : Sending) → numbered w.sendings number ≡ Some s → s.post.to ≡ repository r → Well (Take (repository r) number) r (w.life (repository r)) →
        Well (Take (repository r) number) r (took b (repository r) (w.life (repository r)) (Some s))
    took-well r number s n to k =
        told-well (Take (repository r) number) r (w.life (repository r)) (Taking s.post.from s.post.message) k (of-request r number s s.post.from s.post.message n refl to refl)

    lives-well : (r : ℕ) (e : Entry) → names (repository r) e ≡ true → Rule b fates w e → Well e r (w.life (repository r)) → Well e r (lives_on b w (repository r) (w.life (repository r)) e)
    lives-well r (Take node number) h rule k =
        let is : node ≡ repository r = node-is node (repository r) h in
        subst (λ (n : NodeId). Well (Take n number) r (took b (repository r) (w.life (repository r)) (numbered w.sendings number))) (sym is)
        (subst (λ (o : Option Sending). Well (Take (repository r) number) r (took b (repository r) (w.life (repository r)) o)) (sym rule.sent)
        (took-well r number rule.sending rule.sent (rule.to ∙ is) (subst (λ (n : NodeId). Well (Take n number) r (w.life (repository r))) is k)))
    lives-well r (Go node) h rule k = told-well (Go node) r (w.life (repository r)) Going k tt
    lives-well r (Learn node x c) h rule k = told-well (Learn node x c) r (w.life (repository r)) (Learning x c) k tt
    lives-well r (Hear node) h rule k = hears-well (Hear node) r (w.life (repository r)) w.last k
    lives-well r (Gate node) h rule k = (tt, subst (λ z. Every (λ (x : TimeParts × HeldRead). IsOnFloor (marks (reverse z)) x.0) (w.life (repository r)).mind.hands.held) (sym (append-nil (all_effects (w.life (repository r))))) k.1)
    lives-well r (Crash node kept) h rule k = (tt, tt)
    lives-well r (Down node cause) h rule k = k
    lives-well r (Tick m) h rule k = k

    old-fine : (e : Entry) (r : ℕ) → Fine (Then e r) (w.life (repository r)).outs
    old-fine e r = fine-more es e r (w.life (repository r)).outs (inv.outs r)

    life-well : (e : Entry) → Rule b fates w e → (r : ℕ) → Well e r (life_after b w e (repository r))
    life-well e rule r = by (names (repository r) e) (w.flags (repository r)).known (λ h. lives-well r e h rule (old-fine e r, inv.held r))
      where
        by : (c d : Bool) → (c ≡ true → Well e r (lives_on b w (repository r) (w.life (repository r)) e)) →
            Well e r (if c && d then lives_on b w (repository r) (w.life (repository r)) e else w.life (repository r))
        by true true h = h refl
        by true false h = (old-fine e r, inv.held r)
        by false d h = (old-fine e r, inv.held r)

    -- ---- messages

    old-sent : (e : Entry) → Every (FineSent (es ++ e ∷ [])) w.sendings
    old-sent e = every-map (FineSent es) (FineSent (es ++ e ∷ [])) (λ s k r f. says-more es e r s.post.message (k r f)) w.sendings inv.sent

    abbrev sent_at : Post → Sending
    sent_at p = record { post = p; ticks = w.ticks }

    filtered : (P : Out → Type 0) (f : Out → Bool) (outs : List Out) → Every P outs → Every P (filter f outs)
    filtered P f [] k = tt
    filtered P f (o ∷ outs) k = by (f o) (filtered P f outs k.1)
      where
        by : (c : Bool) → Every P (filter f outs) → Every P (if c then o ∷ filter f outs else filter f outs)
        by true h = (k.0, h)
        by false h = h

    posted : (e : Entry) (n : NodeId) (outs : List Out) → ((r : ℕ) → n ≡ repository r → Fine (Then e r) outs) → Every (FineSent (es ++ e ∷ [])) (map sent_at (posts n outs))
    posted e n [] k = tt
    posted e n (o ∷ outs) k = ((λ r f. (k r f).0), posted e n outs (λ r f. (k r f).1))

    leaves-fine : (e : Entry) (n : NodeId) → Every (FineSent (es ++ e ∷ [])) (map sent_at (leaving w n))
    leaves-fine e n = by (w.flags n).known
      where
        by : (c : Bool) → Every (FineSent (es ++ e ∷ [])) (map sent_at (if c then posts n (filter (leaves (all_effects (w.life n))) (w.life n).outs) else []))
        by true = posted e n (filter (leaves (all_effects (w.life n))) (w.life n).outs) (λ r f. filtered (λ (o : Out). Says (Then e r) o.message) (leaves (all_effects (w.life n))) (w.life n).outs
            (subst (λ (m : NodeId). Fine (Then e r) (w.life m).outs) (sym f) (old-fine e r)))
        by false = tt

    sent-fine : (e : Entry) → Every (FineSent (es ++ e ∷ [])) (sendings_after w e)
    sent-fine (Take node number) = old-sent (Take node number)
    sent-fine (Go node) = old-sent (Go node)
    sent-fine (Learn node x c) = old-sent (Learn node x c)
    sent-fine (Hear node) = old-sent (Hear node)
    sent-fine (Gate node) = every-append (FineSent (es ++ Gate node ∷ [])) w.sendings (map sent_at (leaving w node)) (old-sent (Gate node)) (leaves-fine (Gate node) node)
    sent-fine (Crash node kept) = old-sent (Crash node kept)
    sent-fine (Down node cause) = old-sent (Down node cause)
    sent-fine (Tick m) = old-sent (Tick m)

    step-inv : (e : Entry) → Rule b fates w e → Inv (es ++ e ∷ []) (step b w e)
    step-inv e rule = record { outs = λ r. (life-well e rule r).0; held = λ r. (life-well e rule r).1; sent = sent-fine e }

  -- ---- a whole walk

  walk-app : (w : World) (es more : List Entry) → walk_from b w (es ++ more) ≡ walk_from b (walk_from b w es) more
  unfolding walk_from
  walk-app w [] more = refl
  walk-app w (e ∷ es) more = walk-app (step b w e) es more

  one-more : (w : World) (e : Entry) → walk_from b w (e ∷ []) ≡ step b w e
  unfolding walk_from
  one-more w e = refl

  inv-from : (fates : List Fate) (front : List Entry) (w : World) (es : List Entry) → w ≡ walk b front → Inv front w → Meets b fates w es → Inv (front ++ es) (walk_from b w es)
  unfolding walk_from Meets
  inv-from fates front w [] at inv m = subst (λ l. Inv l w) (sym (append-nil front)) inv
  inv-from fates front w (e ∷ es) at inv m =
      let next : step b w e ≡ walk b (front ++ e ∷ []) = ap (λ u. step b u e) at ∙ sym (one-more (walk b front) e) ∙ sym (walk-app (start_world b) front (e ∷ [])) in
      subst (λ l. Inv l (walk_from b (step b w e) es)) (append_assoc front (e ∷ []) es)
      (inv-from fates (front ++ e ∷ []) (step b w e) es next (step-inv fates front w at inv e m.0) m.1)

  start-inv : Inv [] (start_world b)
  start-inv = record { outs = λ r. tt; held = λ r. tt; sent = tt }

  here-at : start_world b ≡ walk b []
  unfolding walk_from
  here-at = refl

  pub walked : (fates : List Fate) (es : List Entry) → Meets b fates (start_world b) es → Inv es (walk b es)
  walked fates es m = inv-from fates [] (start_world b) es here-at start-inv m

-- ---- of what was sent

has-map : {X Y : Type 0} (f : X → Y) (xs : List X) (y : Y) → Has y (map f xs) → (x : X) × Has x xs × (f x ≡ y)
has-map f [] y h = absurd h
has-map f (x ∷ xs) y (inl e) = (x, inl refl, e)
has-map f (x ∷ xs) y (inr h) = let r = has-map f xs y h in (r.0, inr r.1, r.2)

map-has : {X Y : Type 0} (f : X → Y) (xs : List X) (x : X) → Has x xs → Has (f x) (map f xs)
map-has f [] x h = absurd h
map-has f (y ∷ xs) x (inl e) = inl (ap f e)
map-has f (y ∷ xs) x (inr h) = inr (map-has f xs x h)

slice-has : {X : Type 0} (xs : List X) (i : ℕ) (x : X) → slice_get xs i ≡ Some x → Has x xs
slice-has [] i x h = absurd (none i h)
  where
    none : (i : ℕ) → slice_get [] i ≡ Some x → ⊥
    none zero h = absurd (cc h)
    none (suc i) h = absurd (cc h)
slice-has (y ∷ xs) zero x h = inl (cc h)
slice-has (y ∷ xs) (suc i) x h = inr (slice-has xs i x h)

numbered-has : {X : Type 0} (xs : List X) (k : ℕ) (x : X) → numbered xs k ≡ Some x → Has x xs
numbered-has xs zero x h = absurd (cc h)
numbered-has xs (suc k) x h = slice-has xs k x h

pub meets-front : (b : Base) (fates : List Fate) (w : World) (es more : List Entry) → Meets b fates w (es ++ more) → Meets b fates w es
unfolding Meets
meets-front b fates w [] more m = tt
meets-front b fates w (e ∷ es) more m = (m.0, meets-front b fates (step b w e) es more m.1)

-- what a repository refused, it took and answered so
pub post-answered : (b : Base) (fates : List Fate) (es : List Entry) → Meets b fates (start_world b) es → (q : Post) → Has q (sent_by (walk b es)) → (r : ℕ) → q.from ≡ repository r →
    Says (Reason b es r) q.message
post-answered b fates es m q h r f =
    let s = has-map (λ (s : Sending). s.post) (walk b es).sendings q h in
    subst (λ (z : Post). Says (Reason b es r) z.message) s.2
    (every-has (FineSent b es) (walk b es).sendings s.0 (walked b fates es m).sent s.1 r (ap (λ (z : Post). z.from) s.2 ∙ f))

-- and that write was sent
pub write-sent : (b : Base) (es : List Entry) (x : TimeParts) (o : ObjectId) (v : Value) (step : WriteStep) → WasAnswered b es x o v step →
    Has (record { from = broker x.stamp.broker; to = repository o.repository; message = message.Write x o v }) (sent_by (walk b es))
write-sent b es x o v step a =
    let rest = Take (repository o.repository) a.number ∷ a.after in
    let g = sent-grows b a.before rest in
    let here : Has a.sending.post (sent_by (walk b a.before)) = map-has (λ (s : Sending). s.post) (walk b a.before).sendings a.sending (numbered-has (walk b a.before).sendings a.number a.sending a.sent) in
    subst (λ (z : Post). Has z (sent_by (walk b es))) a.is_write
    (subst (λ l. Has a.sending.post (sent_by (walk b l))) (sym a.here) (subst (Has a.sending.post) (sym g.1) (has-left (sent_by (walk b a.before)) g.0 a.sending.post here)))

-- and so was a read that was refused
pub read-sent : (b : Base) (es : List Entry) (x : TimeParts) (o : ObjectId) (end : TimeParts) → WasRefused b es x o end →
    Has (record { from = broker x.stamp.broker; to = repository o.repository; message = message.Read x o }) (sent_by (walk b es))
read-sent b es x o end a =
    let rest = Take (repository o.repository) a.number ∷ a.after in
    let g = sent-grows b a.before rest in
    let here : Has a.sending.post (sent_by (walk b a.before)) = map-has (λ (s : Sending). s.post) (walk b a.before).sendings a.sending (numbered-has (walk b a.before).sendings a.number a.sending a.sent) in
    subst (λ (z : Post). Has z (sent_by (walk b es))) a.is_read
    (subst (λ l. Has a.sending.post (sent_by (walk b l))) (sym a.here) (subst (Has a.sending.post) (sym g.1) (has-left (sent_by (walk b a.before)) g.0 a.sending.post here)))
