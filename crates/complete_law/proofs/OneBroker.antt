-- With one broker no write is refused, at any calm place.
use Rattle.complete_law.proofs.Names.{Every, Has, has-right, StampParts, TimeParts, lt, NodeId, NodeKind, broker, repository, same_node, ObjectId, Value, Effect, Outcome, Message, same_node-refl, Out, Grew, Post, WasSent, post, Answer, Asks, Got, Over, Request, Stored, ToRead, ToWrite, stop, WriteStep, floor_of, stands_written, write_step, and-left, and-right, eq-from, Hand, accepts, is_broker_of, on_learn, on_message, hand_at, known, marks, tidy-through, broker-is, Book, Try, book, find, tries, tries_of, state, EndsBy, FitsLog, IsTidy, EndCame, IsAskOf, IsPlayed, IsProven, PostHolds, TurnHolds, each-found, one-request, kept, post-grown, played, proven, Entry, Base, Life, Sending, World, sent_by, start_world, step, Rule, base_of, LogFacts, Refines, logs_at, soft_of, kind_post, node_facts, node_turns, NodeOk, around, happened, each-has, node-laws, facts-of, CalmPlace, IsUnstopped, IsRefusal, book_at, log_at, sent_at, world_at, found-in, ◌≡◌, ◌≢◌, ◌⊎◌, ℕ, ◌+◌, ◌==◌, nat_le, Bool, true, false, ◌&&◌, length, List, [], ◌∷◌, ◌++◌, map, reverse, refl, sym, ◌∙◌, ap, subst, Option, Some, None, if◌then◌else◌, inl, inr, append-nil, arith, common_steps, false≢true, true≢false, reverse-append, lt-asymmetric, lt-irreflexive, Ending, put-logged, grown-floor, grown-floors, IsFitting, at, WasRefused}
use Rattle.pseudo_time.specs.declared.decisions.Decision.TheVariants as decision
use Rattle.pseudo_time.specs.declared.nodes.NodeKind.TheVariants as kind
use Rattle.effect_form.specs.declared.effects.Effect.TheVariants as effect
use Rattle.effect_form.specs.declared.outcomes.Outcome.TheVariants as outcome
use Rattle.message_form.specs.declared.messages.Message.TheVariants as message
use Rattle.object_history.specs.declared.steps.WriteStep.TheVariants as write
use Rattle.object_history.specs.declared.marks.Mark.TheVariants as mark
use Rattle.object_history.proofs.AnswerLemmas.{later-read, later-version}
use Rattle.repository_laws.specs.Facts as repositories
use Rattle.broker_laws.specs.Waits.{Trail}
use Rattle.serial_law.proofs.OldChains.{grown-alone, grown-more}
use Rattle.complete_law.proofs.BrokerMoves.{node-there, turn-there}
use Rattle.complete_law.proofs.Frames.{came-sent}
use Rattle.complete_law.proofs.Loads.{Fed, by-entry, if-from, issued, load, load-append, sent-load}
use Rattle.complete_law.proofs.Hearings.{asking-undecided, gated-same, says}
use Rattle.complete_law.proofs.Outcomes.{book-is, own-tries, unknown-book}
use Rattle.complete_law.proofs.Places.{CalmWorld, IsBegun, IsDecided, desk_of, log_of, tasks_of}
use Rattle.complete_law.proofs.Refusals.{ArePlain, IsNotRefused, IsRefusing, learn-plain, put-written, take-plain}
use Rattle.complete_law.proofs.RepositoryEntries.{hand-learns, hand-takes, life-hand}
use Rattle.complete_law.proofs.Rising.{asked-before, falling, undecided-last}
use Rattle.complete_law.proofs.Steps.{Facts-at, fates, always, calm-there, empty-life, facts-there}
use Rattle.serial_law.proofs.CauseLemmas.{stretch-logged}

-- a message that refuses a write counts one
abbrev refusal : Message → ℕ
refusal (message.LaterRead x e) = 1
refusal (message.LaterVersion x y) = 1
refusal m = 0

refusal-one : (m : Message) → IsRefusal m → refusal m ≡ 1
refusal-one (message.LaterRead x e) is = refl
refusal-one (message.LaterVersion x y) is = refl
refusal-one _ is = absurd is

refusal-none : (m : Message) → (IsRefusal m → ⊥) → refusal m ≡ 0
refusal-none (message.LaterRead x e) no-refusal = absurd (no-refusal tt)
refusal-none (message.LaterVersion x y) no-refusal = absurd (no-refusal tt)
refusal-none _ no-refusal = refl

plain-load : (outs : List Out) → ArePlain outs → load refusal outs ≡ 0
plain-load [] k = refl
plain-load (o ∷ outs) k = let i = plain-load outs k.1 in let j = refusal-none o.message k.0 in omega (arith, i, j)

sent-none : (n : NodeId) (ss : List Sending) → sent-load refusal n ss ≡ 0 → (o : Out) → IsRefusal o.message → Has (post n o) (map (λ (s : Sending). s.post) ss) → ⊥
sent-none n [] z o is h = h
sent-none n (s ∷ ss) z o is (inl e) =
    let k : if-from (same_node s.post.from n) (refusal s.post.message) ≡ refusal o.message =
    ap (λ (p : Post). if-from (same_node p.from n) (refusal p.message)) e ∙ ap (λ c. if-from c (refusal o.message)) (same_node-refl n) in
    absurd (omega (arith, z, k, refusal-one o.message is))
sent-none n (s ∷ ss) z o is (inr h) = sent-none n ss (omega (arith, z)) o is h

-- no repository says, or owes, that a write is refused
abbrev pub NoRefusal : World → Type 0
NoRefusal w = (r : ℕ) → issued refusal w (repository r) ≡ 0

-- all brokers that were opened are one
abbrev pub OneBroker : World → Type 0
OneBroker w = (i j : ℕ) → (w.flags (broker i)).known ≡ true → (w.flags (broker j)).known ≡ true → i ≡ j

module _ (b : Base) (w : World) (calm : CalmWorld b w) (f : Refines (node_turns b.script) (node_facts b.script) b (λ n. []) (λ n. []) [] (λ t. ⊥) w) (none : NoRefusal w) (one : OneBroker w) where
  facts : LogFacts (node_facts b.script) b (logs_at (λ n. []) w) [] (sent_by w) (λ t. ⊥)
  facts = facts-of b.script (node_turns b.script) (node_facts b.script) (node-laws b.script) b (λ n. []) [] (λ t. ⊥) w f

  durable : (n : NodeId) → (w.flags n).known ≡ true → reverse (logs_at (λ n. []) w n) ≡ reverse (w.life n).gated
  durable n e = ap (λ c. reverse (if c then (w.life n).gated else [])) e

  -- no message at all refuses a write
  pub unsaid : (from to : NodeId) (m : Message) → IsRefusal m → Has (record { from = from; to = to; message = m }) (sent_by w) → ⊥
  unsaid from to m is h = go from.kind from.number m is h (says b w calm facts from to m h)
    where
      go : (kd : NodeKind) (i : ℕ) (m : Message) → IsRefusal m → Has (record { from = record { kind = kd; number = i }; to = to; message = m }) (sent_by w) →
          kind_post b.script (sent_by w) kd i (reverse (logs_at (λ n. []) w (record { kind = kd; number = i }))) (record { to = to; message = m }) → ⊥
      go kind.Repository i m is h p = let k = none i in sent-none (repository i) w.sendings (omega (arith, k)) (record { to = to; message = m }) is h
      go kind.Broker i (message.LaterRead x e) is h p = p
      go kind.Broker i (message.LaterVersion x y) is h p = p
      go kind.Broker i _ is h p = is

  -- nor does one say that an attempt expired
  unexpired : (from to : NodeId) (s : StampParts) (d m : ℕ) → Has (record { from = from; to = to; message = message.Decided s (decision.Expired d m) }) (sent_by w) → ⊥
  unexpired from to s d m h = go from.kind from.number (says b w calm facts from to (message.Decided s (decision.Expired d m)) h)
    where
      go : (kd : NodeKind) (i : ℕ) → kind_post b.script (sent_by w) kd i (reverse (logs_at (λ n. []) w (record { kind = kd; number = i }))) (record { to = to; message = message.Decided s (decision.Expired d m) }) → ⊥
      go kind.Repository i h = facts.ticked m (each-has _ (reverse (logs_at (λ n. []) w (repository i))) (effect.Decide s (decision.Expired d m)) (facts.proofs (repository i)) h).1
      go kind.Broker i h = h

  -- a broker that asked for something was opened
  asker-known : (i : ℕ) (x : TimeParts) (q : Request) → IsAskOf b.script (tries (book (reverse (logs_at (λ n. []) w (broker i))))) x q → (w.flags (broker i)).known ≡ true
  unfolding book
  asker-known i x q = elim (w.flags (broker i)).known as (λ c. IsAskOf b.script (tries (book (reverse (if c then (w.life (broker i)).gated else [])))) x q → c ≡ true) [ true ↦ λ k. refl | false ↦ λ k. absurd (cc k.1) ]

  -- what a message of a broker says holds of its whole log
  now-holds : (i : ℕ) → (w.flags (broker i)).known ≡ true → (to : NodeId) (m : Message) → Has (record { from = broker i; to = to; message = m }) (sent_by w) → PostHolds b.script i (tries (book (log_of w (broker i)))) to m
  now-holds i e to m h =
      let l : Life = w.life (broker i) in
      let ok : NodeOk (node_facts b.script) (around (happened (node_turns b.script) f.events)) (broker i) (soft_of (w.life (broker i))) = node-there b w calm f (broker i) e in
      subst (λ z. PostHolds b.script i (tries (book z)) to m) (sym (reverse-append l.gated l.fresh))
      (post-grown b.script i (reverse l.gated) (reverse l.fresh) to m ok.tidy ok.grew (subst (λ z. PostHolds b.script i (tries (book z)) to m) (durable (broker i) e) (says b w calm facts (broker i) to m h)))

  module _ (n : ℕ) (opened : (w.flags (repository n)).known ≡ true) where
    abbrev log : List Effect
    log = log_of w (repository n)

    log-tidy : repositories.IsTidy n log
    log-tidy =
        let l : Life = w.life (repository n) in
        let ok : NodeOk (node_facts b.script) (around (happened (node_turns b.script) f.events)) (repository n) (soft_of (w.life (repository n))) = node-there b w calm f (repository n) opened in
        subst (repositories.IsTidy n) (sym (reverse-append l.gated l.fresh)) (tidy-through n (reverse l.gated) (reverse l.fresh) ok.grew ok.tidy)

    log-grown : Grew (repositories.FitsLog n) [] log
    log-grown =
        let l : Life = w.life (repository n) in
        let ok : NodeOk (node_facts b.script) (around (happened (node_turns b.script) f.events)) (repository n) (soft_of (w.life (repository n))) = node-there b w calm f (repository n) opened in
        subst (Grew (repositories.FitsLog n) []) (sym (reverse-append l.gated l.fresh))
        (grown-more (repositories.FitsLog n) (reverse l.gated) (reverse l.fresh)
        (subst (Grew (repositories.FitsLog n) []) (durable (repository n) opened) (grown-alone (repositories.FitsLog n) (reverse (logs_at (λ n. []) w (repository n))) (facts.grown (repository n)))) ok.grew)

    -- what an effect of the repository rests on
    rests : (x : Effect) → Has x log → (below : List Effect) × (node_facts b.script).Proof (around (happened (node_turns b.script) f.events)) (repository n) below x
    rests x h =
        let l : Life = w.life (repository n) in
        each-has _ (reverse l.fresh ++ reverse l.gated) x (node-there b w calm f (repository n) opened).proofs (subst (Has x) (reverse-append l.gated l.fresh) h)

    module _ (x : TimeParts) (o : ObjectId) (v : Value) (sent : Has (record { from = broker x.stamp.broker; to = repository n; message = message.Write x o v }) (sent_by w)) (here : o.repository ≡ n) where
      abbrev i : ℕ
      i = x.stamp.broker

      known-i : (w.flags (broker i)).known ≡ true
      known-i = asker-known i x (ToWrite o v) (says b w calm facts (broker i) (repository n) (message.Write x o v) sent).2

      abbrev blog : List Effect
      blog = log_of w (broker i)

      abbrev B : List Try
      B = tries (book blog)

      turn : TurnHolds b.script i b.run (tasks_of b i) (sent_by w) (desk_of b w i)
      turn = turn-there b w calm f i known-i

      ask : IsAskOf b.script B x (ToWrite o v)
      ask = (now-holds i known-i (repository n) (message.Write x o v) sent).2

      abbrev t : Try
      t = ask.0

      plays : IsPlayed b.script t × (t.stamp ≡ x.stamp)
      plays = each-found (IsPlayed b.script) x.stamp B t ask.1 (played b.script i blog turn.desk.tidy)

      proves : IsProven i (sent_by w) t × (t.stamp ≡ x.stamp)
      proves = each-found (IsProven i (sent_by w)) x.stamp B t ask.1 (proven b.script i (sent_by w) blog turn.desk.tidy turn.desk.causes)

      -- ---- the write was answered: it stands

      stored-there : (from : NodeId) → Has (record { from = from; to = broker i; message = message.Stored x }) (sent_by w) → Has (effect.Put o x v) log
      stored-there from h = go from.kind from.number (says b w calm facts from (broker i) (message.Stored x) h)
        where
          go : (kd : NodeKind) (r : ℕ) → kind_post b.script (sent_by w) kd r (reverse (logs_at (λ n. []) w (record { kind = kd; number = r }))) (record { to = broker i; message = message.Stored x }) → Has (effect.Put o x v) log
          go kind.Broker r p = absurd p
          go kind.Repository r (p, u, wrote, put) =
              let same : ToWrite p u ≡ ToWrite o v = one-request b.script i B x (ToWrite p u) (ToWrite o v) (now-holds i known-i (repository r) (message.Write x p u) wrote.0).2 ask in
              let po : p ≡ o = cc same in
              let uv : u ≡ v = cc same in
              let rn : r ≡ n = sym wrote.1 ∙ ap (λ (a : ObjectId). a.repository) po ∙ here in
              let l : Life = w.life (repository n) in
              let mine : Has (effect.Put o x v) (reverse (logs_at (λ n. []) w (repository n))) = subst (λ z. Has (effect.Put o x v) (reverse (logs_at (λ n. []) w (repository z)))) rn
              (subst (λ z. Has (effect.Put o x z) (reverse (logs_at (λ n. []) w (repository r)))) uv (subst (λ z. Has (effect.Put z x u) (reverse (logs_at (λ n. []) w (repository r)))) po put)) in
              subst (Has (effect.Put o x v)) (sym (reverse-append l.gated l.fresh)) (has-right (reverse l.fresh) (reverse l.gated) (effect.Put o x v) (subst (Has (effect.Put o x v)) (durable (repository n) opened) mine))

      is-stored : (pre : List Answer) (a : Answer) (more : List Answer) → t.answers ≡ pre ++ a ∷ more → x.step ≡ length pre + 1 → stop (b.script t.task.script) pre ≡ Asks (ToWrite o v) → Has (effect.Put o x v) log
      is-stored pre a more all step asks = go a all (subst (λ s. IsFitting s a) asks (plays.0.asked pre more a all))
        where
          go : (a : Answer) → t.answers ≡ pre ++ a ∷ more → IsFitting (Asks (ToWrite o v)) a → Has (effect.Put o x v) log
          go (Got u) e fit = absurd fit
          go Stored e fit =
              let came = proves.0.answers pre more Stored e in
              let time : at t.stamp (length pre + 1) ≡ x = ap (λ s. at s (length pre + 1)) proves.1 ∙ ap (λ k. at x.stamp k) (sym step) in
              stored-there came.0 (subst (λ z. Has (record { from = came.0; to = broker i; message = message.Stored z }) (sent_by w)) time came.1)

      -- ---- or it is the current request: all others lie below it

      module _ (asks : stop (b.script t.task.script) t.answers ≡ Asks (ToWrite o v)) (step : x.step ≡ length t.answers + 1) where
        open-end : t.end ≡ None
        open-end = (elim t.end as (λ e. t.end ≡ e → t.end ≡ None) [ None ↦ λ e. e | Some c ↦ λ e. absurd (by c (plays.0.ends c e) (proves.0.ends c e)) ]) refl
          where
            over : (e : Ending) → stop (b.script t.task.script) t.answers ≡ Over e → ⊥
            over e q = let no : Asks (ToWrite o v) ≡ Over e = sym asks ∙ q in cc no

            by : (c : Outcome) → EndsBy b.script t c → EndCame i (sent_by w) t c → ⊥
            by (outcome.LaterRead a e) k came = unsaid came.0 (broker i) (message.LaterRead _ e) tt came.1
            by (outcome.LaterVersion a e) k came = unsaid came.0 (broker i) (message.LaterVersion _ e) tt came.1
            by (outcome.Expired d m) k came = unexpired came.0 (broker i) t.stamp d m came.1
            by (outcome.Spent c) k came = k
            by o k came = over _ k

        undecided : IsDecided w t.stamp → ⊥
        undecided (d, h) =
            let l : Life = w.life (broker i) in
            let ok : NodeOk (node_facts b.script) (around (happened (node_turns b.script) f.events)) (broker i) (soft_of (w.life (broker i))) = node-there b w calm f (broker i) known-i in
            let same : reverse l.gated ≡ reverse (logs_at (λ n. []) w (broker i)) = sym (durable (broker i) known-i) in
            asking-undecided b w calm facts i (subst (IsTidy b.script i) same ok.tidy) (reverse l.fresh) (reverse-append l.gated l.fresh ∙ ap (λ z. reverse l.fresh ++ z) same)
            (subst (λ z. Grew (FitsLog b.script i) z (reverse (w.life (broker i)).fresh)) same ok.grew) t (ToWrite o v) (subst (λ s. find s B ≡ Some t) (sym plays.1) ask.1) open-end asks (ap (λ (s : StampParts). s.broker) plays.1)
            d t.stamp.home (subst (Has (effect.Decide t.stamp d)) (gated-same b w calm facts (repository t.stamp.home)) h)

        book-same : state b.script i b.run (tasks_of b i) (desk_of b w i) ≡ book blog
        book-same = ap book (kept b.script i b.run (tasks_of b i) blog turn.desk.tidy turn.ready.same_plan)

        own-book : B ≡ tries_of (book blog).acts
        own-book =
            let past : (book blog).past ≡ [] = subst (λ (k : Book). k.past ≡ []) book-same (calm.sound i).past in
            ap (λ z. tries_of ((book blog).acts ++ z)) past ∙ ap (λ z. tries_of z) (append-nil (book blog).acts)

        last : (rest : List Try) × (B ≡ t ∷ rest)
        last =
            let k = undecided-last b.run (IsBegun w) (IsDecided w) (book blog).acts t (subst (λ (k : Book). Trail b.run (IsBegun w) (IsDecided w) k.acts) book-same (calm.sound i).trail)
            (subst (Has t) own-book (found-in x.stamp B t ask.1).0) undecided in
            (k.0, own-book ∙ k.1)

        below : (e : TimeParts) (q : Request) → IsAskOf b.script B e q → (lt e x ≡ true) ⊎ (e ≡ x)
        below e q k = asked-before b.script B last.0 t x e q last.1 (falling b.script i blog turn.desk.tidy) plays.1 step k

        -- what another request asked, of the one broker
        asked : (e : TimeParts) (m : Message) (q : Request) → Has (record { from = broker e.stamp.broker; to = repository n; message = m }) (sent_by w) →
            ((j : ℕ) → PostHolds b.script j (tries (book (log_of w (broker j)))) (repository n) m → IsAskOf b.script (tries (book (log_of w (broker j)))) e q) →
            ((j : ℕ) → PostHolds b.script j (tries (book (reverse (logs_at (λ n. []) w (broker j))))) (repository n) m → IsAskOf b.script (tries (book (reverse (logs_at (λ n. []) w (broker j))))) e q) → IsAskOf b.script B e q
        asked e m q h whole first =
            let j : ℕ = e.stamp.broker in
            let opened-j : (w.flags (broker j)).known ≡ true = asker-known j e q (first j (says b w calm facts (broker j) (repository n) m h)) in
            subst (λ z. IsAskOf b.script (tries (book (log_of w (broker z)))) e q) (one j i opened-j known-i) (whole j (now-holds j opened-j (repository n) m h))

        sent-before : (p : Post) → Has p (happened (node_turns b.script) f.events).ever → Has p (sent_by w)
        sent-before p = subst (Has p) f.models.ever

        no-later-read : (e : TimeParts) → write_step (marks log) o x v ≡ write.LaterRead e → ⊥
        no-later-read e h =
            let k = later-read (marks log) o x v e h in
            let stretched : Has (mark.Stretch o e) (marks log) = elim k.1 [ inl s ↦ s | inr g ↦ absurd (grown-floors n log e log-grown g) ] in
            let read = (rests (effect.Stretch o e) (stretch-logged log o e stretched)).1 in
            elim (below e (ToRead o) (asked e (message.Read e o) (ToRead o) (sent-before _ read.0) (λ j p. p.2) (λ j p. p.2))) [
              | inl l ↦ true≢false (sym l ∙ lt-asymmetric x e k.0)
              | inr s ↦ true≢false (sym k.0 ∙ subst (λ z. lt x z ≡ false) (sym s) (lt-irreflexive x))
            ]

        no-later-version : (y : TimeParts) → stands_written (marks log) o x v ≡ false → known log x.stamp ≡ None → write_step (marks log) o x v ≡ write.LaterVersion y → ⊥
        no-later-version y off unknown h =
            let k = later-version (marks log) o x v y h in
            let u : Value = k.1.0 in
            let put : Has (effect.Put o y u) log = put-logged log o y u k.1.1 in
            let wrote = (rests (effect.Put o y u) put).1 in
            let its : IsAskOf b.script B y (ToWrite o u) = asked y (message.Write y o u) (ToWrite o u) (sent-before _ wrote.0) (λ j p. p.2) (λ j p. p.2) in
            elim (below y (ToWrite o u) its) [
              | inl l ↦ true≢false (sym l ∙ k.0)
              | inr s ↦
                  let uv : u ≡ v = cc (one-request b.script i B x (ToWrite o u) (ToWrite o v) (subst (λ z. IsAskOf b.script B z (ToWrite o u)) s its) ask) in
                  let stands : Has (effect.Put o x v) log = subst (λ z. Has (effect.Put o x z) log) uv (subst (λ z. Has (effect.Put o z u) log) s put) in
                  true≢false (sym (put-written log o x v unknown stands) ∙ off)
            ]

        current : IsNotRefused log x o v
        current off unknown = go (write_step (marks log) o x v) refl
          where
            go : (s : WriteStep) → write_step (marks log) o x v ≡ s → IsRefusing s → ⊥
            go (write.LaterRead e) h is = no-later-read e h
            go (write.LaterVersion y) h is = no-later-version y off unknown h
            go _ h is = is

      pub not-refused : IsNotRefused log x o v
      not-refused = go ask.2.1 ask.2.2
        where
          go : (after : List Answer) → t.answers ≡ ask.2.0 ++ after → IsNotRefused log x o v
          go (a ∷ more) all = λ off unknown is. true≢false (sym (put-written log o x v unknown (is-stored ask.2.0 a more all ask.2.3 ask.2.4)) ∙ off)
          go [] all =
              let same : t.answers ≡ ask.2.0 = all ∙ append-nil ask.2.0 in
              current (subst (λ z. stop (b.script t.task.script) z ≡ Asks (ToWrite o v)) (sym same) ask.2.4) (ask.2.3 ∙ ap (λ (z : List Answer). length z + 1) (sym same))

  no-floor : (n : ℕ) → (w.flags (repository n)).known ≡ true → floor_of (marks (log_of w (repository n))) ≡ None
  no-floor n opened = grown-floor n (log_of w (repository n)) (log-grown n opened)

  -- ---- a repository's turn

  module _ (i : ℕ) (up : (w.flags (repository i)).up ≡ true) where
    opened : (w.flags (repository i)).known ≡ true
    opened = sym (calm.ups (repository i)) ∙ up

    never : (from : NodeId) (m : Message) → Has (record { from = from; to = repository i; message = m }) (sent_by w) → (x : TimeParts) (o : ObjectId) (v : Value) → m ≡ message.Write x o v → accepts i from m ≡ true →
        IsNotRefused (log_of w (repository i)) x o v
    never from m sent x o v is takes-it =
        let accepted : accepts i from (message.Write x o v) ≡ true = subst (λ z. accepts i from z ≡ true) is takes-it in
        let own : from ≡ broker x.stamp.broker = broker-is x.stamp.broker from (and-left (is_broker_of x.stamp.broker from) (o.repository == i) accepted) in
        not-refused i opened x o v
        (subst (λ z. Has (record { from = z; to = repository i; message = message.Write x o v }) (sent_by w)) own (subst (λ z. Has (record { from = from; to = repository i; message = z }) (sent_by w)) is sent))
        (eq-from o.repository i (and-right (is_broker_of x.stamp.broker from) (o.repository == i) accepted))

    pub take-none : (from : NodeId) (m : Message) → Has (record { from = from; to = repository i; message = m }) (sent_by w) → ArePlain (on_message (hand_at i (log_of w (repository i)) (w.life (repository i)).mind.hands) from m).outs
    take-none from m sent = take-plain i (log_of w (repository i)) (w.life (repository i)).mind.hands (no-floor i opened) from m (never from m sent)

    pub learn-none : (s : StampParts) (c : Bool) → ArePlain (on_learn (hand_at i (log_of w (repository i)) (w.life (repository i)).mind.hands) s c).outs
    learn-none s c = learn-plain i (log_of w (repository i)) (w.life (repository i)).mind.hands (no-floor i opened) s c

-- ---- at a place

one-broker : (b : Base) (w : World) → Refines (node_turns b.script) (node_facts b.script) b (λ n. []) (λ n. []) [] (λ t. ⊥) w → ((i : ℕ) → (w.flags (broker i)).known ≡ true → i ≡ 1) → OneBroker w
one-broker b w f all i j e q = all i e ∙ sym (all j q)

module _ (p : CalmPlace) (single : p.run.plan.brokers ≡ 1) where
  abbrev base : Base
  base = base_of p.run.script p.run.plan p.run.trace

  first : (most i : ℕ) → most ≡ 1 → (nat_le 1 i && nat_le i most) ≡ true → i ≡ 1
  first most i e h = grind (arith, common_steps)

  ones : (w : World) → Facts-at p.run w → OneBroker w
  ones w f = one-broker base w f (λ i e. first p.run.plan.brokers i single (sym (p.run.legal.nodes.just (broker i)) ∙ sym (f.models.known (broker i)) ∙ e))

  module _ (w : World) (e : Entry) (f : Facts-at p.run w) (c : CalmWorld base w) (q : IsUnstopped e) (rule : Rule base (fates p.run) w e) (none : NoRefusal w) (n : ℕ) where
    abbrev w' : World
    w' = step base w e

    turn-none : (h : Hand) (l : Life) → l ≡ life-hand (w.life (repository n)) h → Fed w w' (repository n) l → ArePlain h.outs → issued refusal w' (repository n) ≡ 0
    turn-none h l is fed plain =
        let x : load refusal (w'.life (repository n)).outs ≡ load refusal ((w.life (repository n)).outs ++ h.outs) = ap (λ (y : Life). load refusal y.outs) (fed.life ∙ is) in
        let s : sent-load refusal (repository n) w'.sendings ≡ sent-load refusal (repository n) w.sendings = ap (sent-load refusal (repository n)) fed.sendings in
        omega (arith, x, load-append refusal (w.life (repository n)).outs h.outs, s, plain-load h.outs plain, none n)

    keeps : issued refusal w' (repository n) ≡ 0
    keeps = by-entry p.run w f c (issued refusal w' (repository n) ≡ 0) e (repository n) q rule (record {
      kept = λ same. (let x = same.issued refusal in let k = none n in omega (arith, x, k));
      takes = λ k may ks gone fed. turn-none (on_message (hand_at n (log_of w (repository n)) (w.life (repository n)).mind.hands) may.sending.post.from may.sending.post.message) _ (hand-takes base w n may.sending.post.from may.sending.post.message) fed
          (take-none base w c f none (ones w f) n may.up may.sending.post.from may.sending.post.message (came-sent base w c (repository n) k (fates p.run) may));
      goes = λ may gone fed. absurd (false≢true may.broker);
      learns = λ s d may fed. turn-none (on_learn (hand_at n (log_of w (repository n)) (w.life (repository n)).mind.hands) s d) _ (hand-learns base w n s d) fed (learn-none base w c f none (ones w f) n may.up s d);
    })

  begins : NoRefusal (start_world base)
  begins n = let x : load refusal ((start_world base).life (repository n)).outs ≡ 0 = ap (λ (l : Life). load refusal l.outs) (empty-life p.run (repository n)) in omega (arith, x)

  no-refusal : NoRefusal (world_at p)
  no-refusal = always p NoRefusal begins keeps

  pub said-never : (from to : NodeId) (m : Message) → WasSent (sent_at p) from to m → IsRefusal m → ⊥
  said-never from to m h is = unsaid base (world_at p) (calm-there p) (facts-there p) no-refusal (ones (world_at p) (facts-there p)) from to m is h

  unrefused : (i : ℕ) (t : Try) → IsProven i (sent_at p) t → WasRefused t.end → ⊥
  unrefused i t k = go t.end refl
    where
      go : (e : Option Outcome) → t.end ≡ e → WasRefused e → ⊥
      go (Some (outcome.LaterRead o e)) q h = let came = k.ends (outcome.LaterRead o e) q in said-never came.0 (broker i) _ came.1 tt
      go (Some (outcome.LaterVersion o e)) q h = let came = k.ends (outcome.LaterVersion o e) q in said-never came.0 (broker i) _ came.1 tt
      go _ q h = h

  all-unrefused : (i : ℕ) (ts : List Try) → Every (IsProven i (sent_at p)) ts → Every (λ (t : Try). WasRefused t.end → ⊥) ts
  all-unrefused i [] k = tt
  all-unrefused i (t ∷ ts) k = (unrefused i t k.0, all-unrefused i ts k.1)

  pub ended-never : (i : ℕ) → Every (λ (t : Try). WasRefused t.end → ⊥) (tries_of (book_at p i).acts)
  ended-never i = go ((world_at p).flags (broker i)).known refl
    where
      go : (c : Bool) → ((world_at p).flags (broker i)).known ≡ c → Every (λ (t : Try). WasRefused t.end → ⊥) (tries_of (book_at p i).acts)
      go false e = subst (λ as'. Every (λ (t : Try). WasRefused t.end → ⊥) (tries_of as')) (sym (unknown-book p i e)) tt
      go true e =
          let turn : TurnHolds base.script i base.run (tasks_of base i) (sent_by (world_at p)) (desk_of base (world_at p) i) = turn-there base (world_at p) (calm-there p) (facts-there p) i e in
          let k : Book = book (log_at p (broker i)) in
          subst (λ (k : Book). Every (λ (t : Try). WasRefused t.end → ⊥) (tries_of k.acts)) (sym (book-is p i e))
          (own-tries (λ (t : Try). WasRefused t.end → ⊥) k.acts k.past (all-unrefused i (tries k) (proven base.script i (sent_by (world_at p)) (log_at p (broker i)) turn.desk.tidy turn.desk.causes)))

pub never-said : (p : CalmPlace) (from to : NodeId) (m : Message) → p.run.plan.brokers ≡ 1 → WasSent (sent_at p) from to m → IsRefusal m → ⊥
never-said p from to m single h is = said-never p single from to m h is

pub never-ended : (p : CalmPlace) (b : ℕ) → p.run.plan.brokers ≡ 1 → Every (λ (t : Try). WasRefused t.end → ⊥) (tries_of (book_at p b).acts)
never-ended p b single = ended-never p single b
