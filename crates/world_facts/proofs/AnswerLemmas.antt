-- Whatever a node sent, its log, or an older one, keeps.
use Rattle.world_facts.proofs.Names.{Every, Has, lt, TimeParts, Decision, NodeId, NodeKind, Repository, Broker, every-has, ObjectId, Value, Effect, Message, Post, floor_of, Gone, is_commit, marks, Tree, book, tries, repository, Base, StandsOrGone, ViewedOrBelow, kind_post, node_facts, node_turns, OlderFacts, SomeOf, Lineage, OldOk, ◌≡◌, ℕ, ◌≤◌, ◌+◌, true, List, [], ◌∷◌, ◌++◌, map, reverse, sym, ◌∙◌, ap, subst, Some, ◌⊎◌, inl, inr, arith, true≢false, broker, WasSent, Firm, IsOnFloor, Viewed, value_of, WriteSent, put-logged, Keeps, SeesAbove, SeesOverAll, SeesStill}
use Rattle.effect_form.specs.declared.effects.Effect.TheVariants as effect
use Rattle.message_form.specs.declared.messages.Message.TheVariants as message
use Rattle.object_history.specs.declared.marks.Mark as history
use Rattle.object_history.specs.declared.marks.Mark.TheVariants as mark
use Rattle.object_history.proofs.ViewLemmas.{sees-views}
use Rattle.object_retirement.specs.Chains as chains
use Rattle.object_retirement.specs.Stood.{all_stood}
use Rattle.object_retirement.proofs.StoodLemmas.{all-stood}
use Rattle.object_retirement.proofs.ChainLemmas.{Stays, chain-floor, chain-given, chain-view, one-side, some-given, stays}
use Rattle.script_meaning.specs.Meaning.{ToWrite}
use Rattle.broker_laws.proofs.Found.{one-request}
use Rattle.world_facts.proofs.Growths.{each-has}
use Rattle.world_facts.proofs.Keeps.{decided-still}
use Rattle.world_facts.proofs.NodeLaws.{node-laws}
use Rattle.world_facts.proofs.OldChains.{chain-of, history-log, some-history, some-log}

module _ (script : List ℕ → Tree) (b : Base) (logs : NodeId → List Effect) (olds : NodeId → List (List Effect)) (past sent : List Post) (May : ℕ → Type 0)
    (f : OlderFacts (node_facts script) b logs olds past sent May) where
  abbrev ever : List Post
  ever = past ++ sent

  -- newest effect first
  abbrev last : NodeId → List Effect
  last n = reverse (logs n)

  abbrev before : NodeId → List (List Effect)
  before n = map reverse (olds n)

  -- ---- what was put was asked for, by a request of step 1 or more

  pub broker-post : (k : ℕ) (older : List (List Effect)) (log : List Effect) (to : NodeId) (m : Message) → Lineage (node_facts script) (broker k) older log →
      SomeOf (λ l. kind_post script ever Broker k l (record { to = to; message = m })) (log ∷ older) → kind_post script ever Broker k log (record { to = to; message = m })
  broker-post k older log to m g (inl p) = p
  broker-post k [] log to m g (inr p) = absurd p
  broker-post k (old ∷ older) log to m g (inr p) = absurd g.1.1

  asked : (r : ℕ) (o : ObjectId) (x : TimeParts) (v : Value) → WriteSent ever r x o v → 1 ≤ x.step
  asked r o x v w =
      let p = broker-post x.stamp.broker (before (broker x.stamp.broker)) (last (broker x.stamp.broker)) (repository r) (message.Write x o v) (f.lineage (broker x.stamp.broker)) (every-has _ ever _ f.sent_ok w.0) in
      omega (arith, p.2.2.3)

  rests : (r : ℕ) (l : List Effect) → OldOk (node_facts script) (record { ever = ever; logs = last; ticks = f.ticks }) (repository r) l →
      (o : ObjectId) (x : TimeParts) (v : Value) → Has (effect.Put o x v) l → WriteSent ever r x o v
  rests r l ok o x v h = (each-has _ l (effect.Put o x v) ok.1 h).1

  -- a version of one of a repository's histories was asked for
  asked-for : (r : ℕ) (o : ObjectId) (x : TimeParts) (v : Value) → chains.SomeOf (λ m. Has (mark.Put o x v) m) (map marks (last (repository r) ∷ before (repository r))) → WriteSent ever r x o v
  asked-for r o x v h =
      let k = history-log (λ m. Has (mark.Put o x v) m) (last (repository r) ∷ before (repository r)) h in
      let all : Every (OldOk (node_facts script) (record { ever = ever; logs = last; ticks = f.ticks }) (repository r)) (last (repository r) ∷ before (repository r)) =
      ((f.tidy (repository r), f.proofs (repository r)), f.older (repository r)) in
      rests r k.0 (every-has (OldOk (node_facts script) (record { ever = ever; logs = last; ticks = f.ticks }) (repository r)) (last (repository r) ∷ before (repository r)) k.0 all k.1) o x v (put-logged k.0 o x v k.2)

  steps : (r : ℕ) (o : ObjectId) (x : TimeParts) (v : Value) → chains.SomeOf (λ m. Has (mark.Put o x v) m) (map marks (last (repository r) ∷ before (repository r))) → 1 ≤ x.step
  steps r o x v h = asked r o x v (asked-for r o x v h)

  -- one start of an object has one value, since one pseudotime carries one request
  one-value : (r : ℕ) (o : ObjectId) (x : TimeParts) (v w : Value) → WriteSent ever r x o v → WriteSent ever r x o w → v ≡ w
  one-value r o x v w h k =
      let me : ℕ = x.stamp.broker in
      let p = broker-post me (before (broker me)) (last (broker me)) (repository r) (message.Write x o v) (f.lineage (broker me)) (every-has _ ever _ f.sent_ok h.0) in
      let q = broker-post me (before (broker me)) (last (broker me)) (repository r) (message.Write x o w) (f.lineage (broker me)) (every-has _ ever _ f.sent_ok k.0) in
      cc (one-request script me (tries (book (last (broker me)))) x (ToWrite o v) (ToWrite o w) p.2 q.2)

  -- ---- what was stored, and what was viewed

  module _ (r : ℕ) where
    abbrev now : List Effect
    now = last (repository r)

    abbrev gone : List (List Effect)
    gone = before (repository r)

    chain : chains.Chain (map marks gone) (marks now)
    chain = chain-of script r gone now (f.lineage (repository r))

    put-marked : (l : List Effect) (o : ObjectId) (x : TimeParts) (v : Value) → Has (effect.Put o x v) l → Has (mark.Put o x v) (marks l)
    put-marked [] o x v h = absurd h
    put-marked (effect.Put a y w ∷ l) o x v (inl e) = let p : a ≡ o = cc e in let q : y ≡ x = cc e in let s : w ≡ v = cc e in inl (ap (λ z. mark.Put z y w) p ∙ ap (λ z. mark.Put o z w) q ∙ ap (λ z. mark.Put o x z) s)
    put-marked (effect.Put a y w ∷ l) o x v (inr h) = inr (put-marked l o x v h)
    put-marked (effect.Stretch a y ∷ l) o x v (inl e) = absurd (cc e)
    put-marked (effect.Stretch a y ∷ l) o x v (inr h) = inr (put-marked l o x v h)
    put-marked (effect.Decide s d ∷ l) o x v (inl e) = absurd (cc e)
    put-marked (effect.Decide s d ∷ l) o x v (inr h) = inr (put-marked l o x v h)
    put-marked (effect.Learn s c ∷ l) o x v (inl e) = absurd (cc e)
    put-marked (effect.Learn s c ∷ l) o x v (inr h) = inr (put-marked l o x v h)
    put-marked (effect.Mark at ∷ l) o x v (inl e) = absurd (cc e)
    put-marked (effect.Mark at ∷ l) o x v (inr h) = inr (put-marked l o x v h)
    put-marked (g ∷ l) o x v (inl e) = absurd (cc e)
    put-marked (g ∷ l) o x v (inr h) = put-marked l o x v h

    stood : (o : ObjectId) (x : TimeParts) (v : Value) (l : List Effect) → Has l (now ∷ gone) → Has (effect.Put o x v) l → StandsOrGone now gone o x v
    stood o x v l (inl e) h = inl (subst (Has (effect.Put o x v)) (sym e) h)
    stood o x v l (inr k) h =
        elim (some-given (marks now) o x v (map marks gone) (chain-given (map marks gone) (marks now) chain) (some-history (λ m. Has (mark.Put o x v) m) gone l k (put-marked l o x v h))) [
          | inl j ↦ inl (put-logged now o x v j)
          | inr j ↦ inr (j, (l, k, h))
        ]

    seen : (o : ObjectId) (t : TimeParts) (v : Value) (l : List Effect) → Has l (now ∷ gone) → IsOnFloor (marks l) t → Viewed (marks l) o t v → ViewedOrBelow now gone o t v
    seen o t v l (inl e) on w = inl (subst (λ z. Viewed (marks z) o t v) (sym e) w)
    seen o t v l (inr k) on w = go (stays o t v (map marks gone) (marks now) chain (λ x z h. steps r o x z h) (inr (some-history (λ m. IsOnFloor m t × Viewed m o t v) gone l k (on, w))))
      where
        go : Stays o t v (map marks gone) (marks now) → ViewedOrBelow now gone o t v
        go (inl s) = inl s.1
        go (inr z) = inr (z.floor, (l, k, w))

    -- ---- all versions that ever stood

    pub all-of : (o : ObjectId) → chains.AllOf (map marks gone) (marks now) (all_stood (map marks gone) (marks now)) o
    all-of o = all-stood (map marks gone) (marks now) o chain (λ x v w h k. one-value r o x v w (asked-for r o x v h) (asked-for r o x w k)) (λ x v h. steps r o x v h)

    over-all : (o : ObjectId) (t : TimeParts) (v : Value) (l : List Effect) → Has l (now ∷ gone) → IsOnFloor (marks l) t → Viewed (marks l) o t v → SeesOverAll (map marks gone) (marks now) o t v
    over-all o t v l k on w = chain-view (map marks gone) (marks now) (all_stood (map marks gone) (marks now)) o t v chain (all-of o) (some-history (λ m. IsOnFloor m t × Viewed m o t v) (now ∷ gone) l k (on, w))

    pub all-read : (to : NodeId) (t : TimeParts) (v : Value) → Has (record { from = repository r; to = to; message = message.Value t v }) ever →
        (o : ObjectId) × WasSent ever (broker t.stamp.broker) (repository r) (message.Read t o) × SeesOverAll (map marks gone) (marks now) o t v
    all-read to t v h =
        let p = some-log (λ l. kind_post script ever Repository r l (record { to = to; message = message.Value t v })) (now ∷ gone) (every-has _ ever (record { from = repository r; to = to; message = message.Value t v }) f.sent_ok h) in
        (p.2.0, p.2.1.0, over-all p.2.0 t v p.0 p.1 p.2.4 p.2.3)

    -- ---- what a reader viewed, among its own versions

    -- a history in which the reader viewed this, and that has each of the reader's own versions below it, of whatever log, and none that wasn't asked for
    pub record ViewedThere (o : ObjectId) (t : TimeParts) (v : Value) : Type 0 where
      pub there : List history.Mark
      pub viewed : Viewed there o t v
      pub own : (y : TimeParts) (w : Value) (l : List Effect) → Has l (now ∷ gone) → Has (effect.Put o y w) l → y.stamp ≡ t.stamp → lt y t ≡ true → Has (mark.Put o y w) there
      pub wanted : (y : TimeParts) (w : Value) → Has (mark.Put o y w) there → WriteSent ever r y o w

    -- a reader's own version isn't given up below a floor that the reader isn't below
    own-stays : (m : List history.Mark) (o : ObjectId) (y t : TimeParts) (w : Value) → ((e : TimeParts) → floor_of m ≡ Some e → e.step ≡ 1) → IsOnFloor m t → 1 ≤ y.step → y.stamp ≡ t.stamp →
        Has (mark.Put o y w) m ⊎ Gone m o y → Has (mark.Put o y w) m
    own-stays m o y t w one on low same (inl h) = h
    own-stays m o y t w one on low same (inr g) = absurd (one-side y g.0 t (one g.0 g.1) low g.2 (on g.0 g.1) same)

    stood-once : (o : ObjectId) (y : TimeParts) (w : Value) (l : List Effect) → Has l (now ∷ gone) → Has (effect.Put o y w) l → chains.SomeOf (λ m. Has (mark.Put o y w) m) (map marks (now ∷ gone))
    stood-once o y w l k h = some-history (λ m. Has (mark.Put o y w) m) (now ∷ gone) l k (put-marked l o y w h)

    here-or-gone : (o : ObjectId) (y : TimeParts) (w : Value) → chains.SomeOf (λ m. Has (mark.Put o y w) m) (map marks (now ∷ gone)) → Has (mark.Put o y w) (marks now) ⊎ Gone (marks now) o y
    here-or-gone o y w (inl h) = inl h
    here-or-gone o y w (inr h) = some-given (marks now) o y w (map marks gone) (chain-given (map marks gone) (marks now) chain) h

    pub viewed-there : (o : ObjectId) (t : TimeParts) (v : Value) (l : List Effect) → Has l (now ∷ gone) → IsOnFloor (marks l) t → Viewed (marks l) o t v → ViewedThere o t v
    viewed-there o t v l k on w = go (stays o t v (map marks gone) (marks now) chain (λ x z h. steps r o x z h) (some-history (λ m. IsOnFloor m t × Viewed m o t v) (now ∷ gone) l k (on, w)))
      where
        go : Stays o t v (map marks gone) (marks now) → ViewedThere o t v
        go (inl s) = record {
          there = marks now;
          viewed = s.1;
          own = λ y z old j h same low. let once = stood-once o y z old j h in
              own-stays (marks now) o y t z (λ e is. chain-floor (map marks gone) (marks now) chain e is) s.0 (steps r o y z once) same (here-or-gone o y z once);
          wanted = λ y z h. asked-for r o y z (inl h);
        }
        go (inr x) = record {
          there = x.there;
          viewed = x.viewed;
          own = λ y z old j h same low. let once = stood-once o y z old j h in
              elim (x.below y z once) [ inl g ↦ own-stays x.there o y t z x.steps x.on_floor (steps r o y z once) same g | inr n ↦ absurd (true≢false (sym low ∙ n)) ];
          wanted = λ y z h. asked-for r o y z (x.sub y z h);
        }

  -- ---- all messages

  kept : (k : NodeKind) (i : ℕ) (to : NodeId) (m : Message) → SomeOf (λ l. kind_post script ever k i l (record { to = to; message = m })) (last (record { kind = k; number = i }) ∷ before (record { kind = k; number = i })) →
      Keeps ever (record { kind = k; number = i }) (last (record { kind = k; number = i })) (before (record { kind = k; number = i })) m
  kept Repository i to (message.Stored t) h = let p = some-log (λ l. kind_post script ever Repository i l (record { to = to; message = message.Stored t })) (now i ∷ gone i) h in
      (p.2.0, p.2.1, p.2.2.0, stood i p.2.0 t p.2.1 p.0 p.1 p.2.3)
  kept Repository i to (message.Value t v) h = let p = some-log (λ l. kind_post script ever Repository i l (record { to = to; message = message.Value t v })) (now i ∷ gone i) h in
      (p.2.0, p.2.1.0, seen i p.2.0 t v p.0 p.1 p.2.4 p.2.3)
  kept Repository i to (message.Decided s d) h =
      let p = decided-still script (node_turns script) (node_facts script) (node-laws script) (λ l. Has (effect.Decide s d) l) (repository i) (gone i) (now i) (f.lineage (repository i)) h in
      p.1 s d p.2
  kept Repository i to (message.Tell s c) h =
      let p = decided-still script (node_turns script) (node_facts script) (node-laws script) (λ l. (d : Decision) × Has (effect.Decide s d) l × (c ≡ is_commit d)) (repository i) (gone i) (now i) (f.lineage (repository i)) h in
      (p.2.0, p.1 s p.2.0 p.2.1, p.2.2)
  kept Repository i to m h = tt
  kept Broker i to (message.Begin s d) h = tt
  kept Broker i to (message.Read x o) h = tt
  kept Broker i to (message.Write x o v) h = tt
  kept Broker i to (message.Commit s) h = tt
  kept Broker i to (message.Withdraw s) h = tt
  kept Broker i to m h = absurd (broker-post i (before (broker i)) (last (broker i)) to m (f.lineage (broker i)) h)

  pub all-kept : (q : Post) → Has q ever → Keeps ever q.from (last q.from) (before q.from) q.message
  all-kept q h = kept q.from.kind q.from.number q.to q.message (every-has _ ever q f.sent_ok h)

  -- ---- what a read was answered is seen still

  sees-still : (m : List history.Mark) (o : ObjectId) (t : TimeParts) (v : Value) → Viewed m o t v → SeesStill m o t v
  sees-still m o t v h = λ living. let same = sees-views m o t living in (ap value_of same ∙ h.0, subst (Firm m t) (sym same) h.1)

  sees-above : (log : List Effect) (older : List (List Effect)) (o : ObjectId) (t : TimeParts) (v : Value) → ViewedOrBelow log older o t v → IsOnFloor (marks log) t → SeesStill (marks log) o t v
  sees-above log older o t v (inl h) on = sees-still (marks log) o t v h
  sees-above log older o t v (inr (low, h)) on = absurd (true≢false (sym low.2 ∙ on low.0 low.1))

  pub all-seen : (r : ℕ) (to : NodeId) (t : TimeParts) (v : Value) → Has (record { from = repository r; to = to; message = message.Value t v }) ever → SeesAbove ever (repository r) (last (repository r)) t v
  all-seen r to t v h =
      let k = all-kept (record { from = repository r; to = to; message = message.Value t v }) h in
      (k.0, k.1, sees-above (last (repository r)) (before (repository r)) k.0 t v k.2)
