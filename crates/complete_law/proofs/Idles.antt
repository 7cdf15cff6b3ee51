-- At an idle place the nodes rest, so every broker is done.
use Rattle.complete_law.proofs.Names.{Every, Has, every-append, every-has, StampParts, TimeParts, same_stamp, same_stamp-is, NodeId, ObjectId, Value, Effect, Out, Post, Fate, copies_of, Tree, Plan, InRange, CanRun, asked_of, Inside, IsReady, StageOk, stage-ok, stop_of, HeldRead, known, waits_for, WriteSent, WasSent, decide-settles, Heard, eq-from, Request, Asks, ToRead, ToWrite, Act, Book, Try, book, find, front, last_try, open_try, tries, tries_of, Stage, Idle, Refused, Opening, Asking, Finishing, Closing, stage, standing, repository, broker, Scripted, Task, tasks, desk_at, state, TurnHolds, IsRested, IsAskOf, kept, acts_of, Base, Life, World, numbered, opened_log, sent_by, LogFacts, logs_at, node_facts, SentOk, each-has, Waits, DecidedAt, standing_at, is_done, read_to, AtRest, IsPlain, older, BookSound, HasSettled, Trail, ask_of, tell_of, found-in, in-range, ◌≡◌, ◌⊎◌, ℕ, zero, suc, ◌+◌, ◌==◌, ◌≤◌, nat_lt, Bool, true, false, ◌||◌, List, [], ◌∷◌, ◌++◌, reverse, min, refl, sym, ◌∙◌, ap, subst, Some, None, is_some, if◌then◌else◌, inl, inr, append-nil, arith, false≢true, JustNodes, none-has, AllDecided, last-among, open-among, within}
use Rattle.effect_form.specs.declared.effects.Effect.TheVariants as effect
use Rattle.message_form.specs.declared.messages.Message.TheVariants as message
use Rattle.complete_law.proofs.Ranges.{asks-kept, same-run, try-kept}
use Rattle.broker_core.specs.Stages.{is_settled}
use Rattle.world_core.specs.Legal as legal
use Rattle.complete_law.proofs.Places.{log_of, gated_of, held_of, IsBegun, IsDecided, Flying, AskedFor, tasks_of, standing_in, Placed, CalmWorld}
use Rattle.complete_law.proofs.Rests.{all-done}

-- a numbered element stands in the list
numbered-in : {X : Type 0} (xs : List X) (k : ℕ) (x : X) → numbered xs k ≡ Some x → Has x xs
numbered-in xs zero x e = absurd (cc e)
numbered-in [] (suc k) x e = absurd (cc e)
numbered-in (y ∷ xs) (suc zero) x e = let q : y ≡ x = cc e in inl q
numbered-in (y ∷ xs) (suc (suc k)) x e = inr (numbered-in xs (suc k) x e)

pub waits-has : (s : StampParts) (es : List (TimeParts × HeldRead)) → waits_for s es ≡ true → (e : TimeParts × HeldRead) × Has e es × (e.1.waits ≡ s)
waits-has s [] h = absurd (false≢true h)
waits-has s (x ∷ es) h = go (λ k. waits-has s es k) (same_stamp x.1.waits s) refl h
  where
    go : (waits_for s es ≡ true → (e : TimeParts × HeldRead) × Has e es × (e.1.waits ≡ s)) → (b : Bool) → same_stamp x.1.waits s ≡ b → (b || waits_for s es) ≡ true → (e : TimeParts × HeldRead) × Has e (x ∷ es) × (e.1.waits ≡ s)
    go again true q h = (x, inl refl, same_stamp-is x.1.waits s q)
    go again false q h = let r = again h in (r.0, inr r.1, r.2)

-- an attempt that is found is the last one, or is decided
module _ (script : List ℕ → Tree) (me run : ℕ) (acts : List Task) (Begun Decided : StampParts → Type 0) where
  found-decided : (s : StampParts) (ts : List Try) (t : Try) → AllDecided script me run acts Begun Decided ts → find s ts ≡ Some t → Decided s
  found-decided s [] t all e = absurd (cc e)
  found-decided s (x ∷ ts) t all e = go (λ k. found-decided s ts t all.1 k) (same_stamp x.stamp s) refl e
    where
      go : (find s ts ≡ Some t → Decided s) → (b : Bool) → same_stamp x.stamp s ≡ b → (if b then Some x else find s ts) ≡ Some t → Decided s
      go again true q e = subst Decided (same_stamp-is x.stamp s q) all.0
      go again false q e = again e

  trail-found : (s : StampParts) (as' : List Act) (t : Try) → Trail script me run acts Begun Decided as' → find s (tries_of as') ≡ Some t → (front (tries_of as') ≡ Some t) ⊎ Decided s
  trail-found s [] t k e = absurd (cc e)
  trail-found s (a ∷ done) t k e = go a.tries k.1 e
    where
      go : (ts : List Try) → AllDecided script me run acts Begun Decided (older ts) → find s (ts ++ tries_of done) ≡ Some t → (front (ts ++ tries_of done) ≡ Some t) ⊎ Decided s
      go [] all e = inr (found-decided s (tries_of done) t k.0 e)
      go (x ∷ ts) all e = by (same_stamp x.stamp s) e
        where
          by : (b : Bool) → (if b then Some x else find s (ts ++ tries_of done)) ≡ Some t → (Some x ≡ Some t) ⊎ Decided s
          by true e = inl e
          by false e = inr (found-decided s (ts ++ tries_of done) t (every-append (λ (y : Try). Decided y.stamp) ts (tries_of done) all k.0) e)

module _ (b : Base) (plan : Plan) (May : ℕ → Type 0) (w : World) (fates : List Fate) (nodes : JustNodes plan b.opened) (plain : Every IsPlain fates) (calm : CalmWorld b w)
    (knowns : (n : NodeId) → (w.flags n).known ≡ is_some (opened_log b.opened n))
    (facts : LogFacts (node_facts b.script) b (logs_at (λ n. []) w) [] (sent_by w) May) (idle : legal.Idle fates w)
    (whole : CanRun plan) (scripted : Scripted b.script plan.acts) (same-acts : b.acts ≡ plan.acts) where
  abbrev L : NodeId → List Effect
  L n = reverse (logs_at (λ n. []) w n)

  -- nothing is open
  shut : (n : NodeId) → ((w.life n).fresh ≡ []) × ((w.life n).outs ≡ [])
  shut n = go (w.flags n).known refl
    where
      go : (c : Bool) → (w.flags n).known ≡ c → ((w.life n).fresh ≡ []) × ((w.life n).outs ≡ [])
      go true e = calm.shut n (idle n (calm.ups n ∙ e)).closed
      go false e = (ap (λ (l : Life). l.fresh) (calm.outside n e), ap (λ (l : Life). l.outs) (calm.outside n e))

  gated-is : (n : NodeId) → gated_of w n ≡ L n
  gated-is n = (elim (w.flags n).known as (λ c. (w.flags n).known ≡ c → gated_of w n ≡ reverse (if c then (w.life n).gated else [])) [ true ↦ λ e. refl | false ↦ λ e. ap (λ (l : Life). reverse l.gated) (calm.outside n e) ]) refl

  log-is : (n : NodeId) → log_of w n ≡ L n
  log-is n = ap (λ f. reverse ((w.life n).gated ++ f)) (shut n).0 ∙ ap reverse (append-nil (w.life n).gated) ∙ gated-is n

  -- and nothing is on its way
  lands : (from : NodeId) (out : Out) → (w.flags out.to).known ≡ true → Flying w from out → ⊥
  lands from out to (inl h) = none-has (w.life from).outs out (shut from).1 h
  lands from out to (inr (k, s, at, is, not-taken)) =
      let kn : (w.flags s.post.to).known ≡ true = subst (λ (p : Post). (w.flags p.to).known ≡ true) (sym is) to in
      let t = (idle s.post.to (calm.ups s.post.to ∙ kn)).taken k s at refl in
      let p : IsPlain t.0 = every-has IsPlain fates t.0 plain (numbered-in fates k t.0 t.1) in
      let one : copies_of t.0 ≡ 1 = ap (λ n. min n 3) p.0 in
      let free : s.ticks + t.0.hold ≤ w.ticks = subst (λ n. s.ticks + n ≤ w.ticks) (sym p.1) (omega (arith, calm.still s (numbered-in w.sendings k s at))) in
      let no : 0 ≡ 1 = sym not-taken ∙ t.2 free ∙ one in
      absurd (cc no)

  -- ---- the nodes rest

  abbrev homes : ℕ → List Effect
  homes r = L (repository r)

  abbrev logs : ℕ → List Effect
  logs n = L (broker n)

  decided-is : (s : StampParts) → IsDecided w s → DecidedAt homes s
  decided-is s d = (d.0, subst (Has (effect.Decide s d.0)) (gated-is (repository s.home)) d.1)

  known-in : (n : ℕ) → InRange plan.brokers n → (w.flags (broker n)).known ≡ true
  known-in n i = knowns (broker n) ∙ nodes.just (broker n) ∙ within n plan.brokers i

  abbrev heard : ℕ → Heard
  heard n = (w.life (broker n)).mind.heard

  abbrev me-tasks : ℕ → List Task
  me-tasks n = tasks_of b n

  turns : (n : ℕ) → InRange plan.brokers n → TurnHolds b.script n b.run (me-tasks n) (sent_by w) (desk_at (logs n) (heard n))
  turns n i = record { desk = record { tidy = facts.tidy (broker n); grew = tt; causes = facts.proofs (broker n); outs = tt }; ready = facts.ready (broker n) (sym (knowns (broker n)) ∙ known-in n i) }

  counts : (n : ℕ) → InRange plan.brokers n → state b.script n b.run (me-tasks n) (desk_at (logs n) (heard n)) ≡ book (logs n)
  counts n i = ap book (kept b.script n b.run (me-tasks n) (logs n) (turns n i).desk.tidy (turns n i).ready.same_plan)

  -- what is sound of a broker's desk is sound of its book
  abbrev Sound : ℕ → Book → Type 0
  Sound n k = BookSound b.script n b.run (me-tasks n) (IsBegun w) (IsDecided w) (heard n) k

  sound : (n : ℕ) → InRange plan.brokers n → Sound n (book (logs n))
  sound n i = subst (Sound n) (counts n i) (subst (λ l. Sound n (state b.script n b.run (me-tasks n) (desk_at l (heard n)))) (log-is (broker n)) (calm.sound n))

  -- ---- within the plan

  repository-known : (r : ℕ) → InRange plan.repositories r → (w.flags (repository r)).known ≡ true
  repository-known r i = knowns (repository r) ∙ nodes.just (repository r) ∙ within r plan.repositories i

  kept-there : (n : ℕ) (t : Try) → InRange plan.brokers n → Has t (tries_of (book (logs n)).acts) → InRange plan.repositories t.stamp.home × Inside plan.repositories (b.script t.task.script)
  kept-there n t i has =
      try-kept b.script plan n b.run (logs n) t whole scripted (turns n i).desk.tidy (subst (λ x. IsReady b.script n b.run (tasks (acts_of n x)) (logs n)) same-acts (turns n i).ready) run-is has
    where
      not-below : (c : Bool) → nat_lt (book (logs n)).run b.run ≡ c → c ≡ false
      not-below true e = absurd ((elim (book (logs n)).acts as (λ as'. as' ≡ [] → Has t (tries_of as') → ⊥) [ [] ↦ λ e h. h | a ∷ as' ↦ λ e h. absurd (cc e) ]) ((sound n i).early e) has)
      not-below false e = refl

      run-is : (book (logs n)).run ≡ b.run
      run-is = same-run (book (logs n)).run b.run (not-below (nat_lt (book (logs n)).run b.run) refl) (subst (λ k. nat_lt b.run k.run ≡ false) (counts n i) (turns n i).ready.not_old)

  -- the request that stands goes to a repository of the plan
  aims : (n : ℕ) (o : Out) → InRange plan.brokers n → standing_in b w n ≡ Some o → (w.flags o.to).known ≡ true
  aims n o i e = go (stage b.script b.run k (heard n)) (stage-ok b.script n b.run (me-tasks n) k (heard n)) (subst (λ l. standing_at b.script n b.run (me-tasks n) l (heard n) ≡ Some o) (log-is (broker n)) e)
    where
      k : Book
      k = state b.script n b.run (me-tasks n) (desk_at (logs n) (heard n))

      to-home : (t : Try) (o' : Out) → Has t (tries_of (book (logs n)).acts) → o'.to ≡ repository t.stamp.home → o' ≡ o → (w.flags o.to).known ≡ true
      to-home t o' h q is = subst (λ (z : Out). (w.flags z.to).known ≡ true) is (subst (λ z. (w.flags z).known ≡ true) (sym q) (repository-known t.stamp.home (kept-there n t i h).0))

      opens : (t : Try) → open_try (state b.script n b.run (me-tasks n) (desk_at (logs n) (heard n))) ≡ Some t → Has t (tries_of (book (logs n)).acts)
      opens t e = (open-among b.script n b.run (me-tasks n) (IsBegun w) (IsDecided w) (book (logs n)).acts t (subst (λ z. open_try z ≡ Some t) (counts n i) e)).0

      same : (x y : Out) → Some x ≡ Some y → x ≡ y
      same x y e = cc e

      to-object : (t : Try) (q : Request) (o' : Out) → Has t (tries_of (book (logs n)).acts) → stop_of b.script t ≡ Asks q → o'.to ≡ repository (asked_of q).repository → o' ≡ o → (w.flags o.to).known ≡ true
      to-object t q o' h s p is = subst (λ (z : Out). (w.flags z.to).known ≡ true) is (subst (λ z. (w.flags z).known ≡ true) (sym p)
          (repository-known (asked_of q).repository (asks-kept b.script plan.repositories t q (kept-there n t i h).1 s)))

      go : (st : Stage) → StageOk b.script n b.run (me-tasks n) (state b.script n b.run (me-tasks n) (desk_at (logs n) (heard n))) st → standing st ≡ Some o → (w.flags o.to).known ≡ true
      go (Refused t) ok e = to-home t _ (opens t ok) refl (same _ _ e)
      go (Opening t) ok e = to-home t _ (opens t ok) refl (same _ _ e)
      go (Asking t (ToRead a)) ok e = to-object t (ToRead a) _ (opens t ok.0) ok.1 refl (same _ _ e)
      go (Asking t (ToWrite a v)) ok e = to-object t (ToWrite a v) _ (opens t ok.0) ok.1 refl (same _ _ e)
      go (Finishing t) ok e = to-home t _ (opens t ok.0) refl (same _ _ e)
      go (Closing t) ok e = to-home t _ (last-among b.script n b.run (me-tasks n) (IsBegun w) (IsDecided w) (book (logs n)).acts t (subst (λ z. last_try z ≡ Some t) (counts n i) ok)) refl (same _ _ e)
      go _ ok e = absurd (cc e)

  reads : (n : ℕ) (out : Out) → InRange plan.brokers n → standing_at b.script n b.run (me-tasks n) (logs n) (heard n) ≡ Some out →
      (x : TimeParts) × (e : HeldRead) × (out ≡ read_to x e.object) × Has (x, e) (held_of w e.object.repository)
  reads n out i e =
      let gone : (w.flags (broker n)).gone ≡ true = (idle (broker n) (calm.ups (broker n) ∙ known-in n i)).gone refl in
      let stands : standing_in b w n ≡ Some out = subst (λ l. standing_at b.script n b.run (me-tasks n) l (heard n) ≡ Some out) (sym (log-is (broker n))) e in
      go (calm.placed n out gone stands)
    where
      go : Placed b w n out → (x : TimeParts) × (e : HeldRead) × (out ≡ read_to x e.object) × Has (x, e) (held_of w e.object.repository)
      go (inl f) = absurd (lands (broker n) out (aims n out i (subst (λ l. standing_at b.script n b.run (me-tasks n) l (heard n) ≡ Some out) (sym (log-is (broker n))) e)) f)
      go (inr (inl (from, m, f, h))) = absurd (lands from (record { to = broker n; message = m }) (known-in n i) f)
      go (inr (inr k)) = (k.0, k.1, k.2, k.4)

  waits : (r : ℕ) (e : TimeParts × HeldRead) → Has e (held_of w r) → Waits (homes r) e
  waits r e h = subst (λ l. Waits l e) (log-is (repository r)) (calm.waits r e h)

  puts : (r : ℕ) (o : ObjectId) (x : TimeParts) (v : Value) → Has (effect.Put o x v) (homes r) → WriteSent (sent_by w) r x o v
  puts r o x v h = (each-has _ (homes r) (effect.Put o x v) (facts.proofs (repository r)) h).1

  writers : (n : ℕ) (to : NodeId) (x : TimeParts) (o : ObjectId) (v : Value) → WasSent (sent_by w) (broker n) to (message.Write x o v) →
      InRange plan.brokers n × IsAskOf b.script (tries (book (logs n))) x (ToWrite o v)
  unfolding book
  writers n to x o v sent = (by-known (w.flags (broker n)).known refl, ask)
    where
      says : SentOk (node_facts b.script) (sent_by w) L (record { from = broker n; to = to; message = message.Write x o v })
      says = every-has (SentOk (node_facts b.script) (sent_by w) L) (sent_by w) (record { from = broker n; to = to; message = message.Write x o v }) facts.sent_ok sent

      ask : IsAskOf b.script (tries (book (logs n))) x (ToWrite o v)
      ask = says.2

      by-known : (c : Bool) → (w.flags (broker n)).known ≡ c → InRange plan.brokers n
      by-known true e = in-range n plan.brokers (sym (nodes.just (broker n)) ∙ sym (knowns (broker n)) ∙ e)
      by-known false e = absurd ((elim (logs n) as (λ l. l ≡ [] → find x.stamp (tries (book l)) ≡ Some ask.0 → ⊥) [ [] ↦ λ e f. absurd (cc f) | g ∷ l ↦ λ e f. absurd (cc e) ]) (ap (λ c. reverse (if c then (w.life (broker n)).gated else [])) e) ask.1)

  -- and so does an Ask of what a read waits for
  homed : (r : ℕ) (o : ObjectId) (x : TimeParts) (v : Value) → Has (effect.Put o x v) (homes r) → (w.flags (repository x.stamp.home)).known ≡ true
  homed r o x v h =
      let k = writers x.stamp.broker (repository r) x o v (puts r o x v h).0 in
      let i : InRange plan.brokers x.stamp.broker = k.0 in
      let all : tries (book (logs x.stamp.broker)) ≡ tries_of (book (logs x.stamp.broker)).acts = ap (λ z. tries_of ((book (logs x.stamp.broker)).acts ++ z)) (sound x.stamp.broker i).past ∙ ap tries_of (append-nil (book (logs x.stamp.broker)).acts) in
      let has = found-in x.stamp (tries_of (book (logs x.stamp.broker)).acts) k.1.0 (subst (λ ts. find x.stamp ts ≡ Some k.1.0) all k.1.1) in
      subst (λ z. (w.flags (repository z.home)).known ≡ true) has.1 (repository-known k.1.0.stamp.home (kept-there x.stamp.broker k.1.0 i has.0).0)

  undecided : (r : ℕ) (s : StampParts) → waits_for s (held_of w r) ≡ true → DecidedAt homes s → ⊥
  undecided r s e d = (elim (s.home == r) as (λ c. (s.home == r) ≡ c → ⊥) [ true ↦ λ q. at-home (eq-from s.home r q) | false ↦ λ q. asked-for (calm.asked r s e q) ]) refl
    where
      at-home : s.home ≡ r → ⊥
      at-home q =
          let h = waits-has s (held_of w r) e in
          let here : Has (effect.Decide s d.0) (homes r) = subst (λ z. Has (effect.Decide s d.0) (homes z)) q d.1 in
          let set = decide-settles (homes r) s d.0 here in
          let none : known (homes r) s ≡ None = subst (λ z. known (homes r) z ≡ None) h.2 (waits r h.0 h.1).unknown in
          let no : Some set.0 ≡ None = sym set.1 ∙ none in
          absurd (cc no)

      home-known : (w.flags (repository s.home)).known ≡ true
      home-known =
          let h = waits-has s (held_of w r) e in
          let k : Waits (homes r) h.0 = waits r h.0 h.1 in
          subst (λ z. (w.flags (repository z.home)).known ≡ true) (k.own ∙ h.2) (homed r h.0.1.object k.start k.value k.put)

      here-known : (c : Bool) → (w.flags (repository r)).known ≡ c → c ≡ true
      here-known true q = refl
      here-known false q = absurd (false≢true (sym (ap (λ (l : Life). waits_for s l.mind.hands.held) (calm.outside (repository r) q)) ∙ e))

      asked-for : AskedFor w r s → ⊥
      asked-for (inl f) = lands (repository r) (ask_of s) home-known f
      asked-for (inr (inl a)) = (calm.askers s.home (record { repository = r; stamp = s }) a).1 d.0 (subst (Has (effect.Decide s d.0)) (sym (log-is (repository s.home))) d.1)
      asked-for (inr (inr (c, f))) = lands (repository s.home) (tell_of (record { repository = r; stamp = s }) c) (here-known (w.flags (repository r)).known refl) f

  earlier : (n : ℕ) (s : StampParts) (t : Try) → InRange plan.brokers n → find s (tries (book (logs n))) ≡ Some t → (last_try (book (logs n)) ≡ Some t) ⊎ DecidedAt homes s
  earlier n s t i e =
      let k = sound n i in
      let all : tries (book (logs n)) ≡ tries_of (book (logs n)).acts = ap (λ z. tries_of ((book (logs n)).acts ++ z)) k.past ∙ ap tries_of (append-nil (book (logs n)).acts) in
      elim (trail-found b.script n b.run (me-tasks n) (IsBegun w) (IsDecided w) s (book (logs n)).acts t k.trail (subst (λ ts. find s ts ≡ Some t) all e)) [
        | inl l ↦ inl l
        | inr d ↦ inr (decided-is s d)
      ]

  settled : (n : ℕ) (t : Try) → InRange plan.brokers n → last_try (book (logs n)) ≡ Some t → is_settled t.end ≡ true → DecidedAt homes t.stamp
  settled n t i l e = decided-is t.stamp (every-has (HasSettled b.script n b.run (me-tasks n) (IsBegun w) (IsDecided w)) (tries_of (book (logs n)).acts) t (sound n i).settled
      (last-among b.script n b.run (me-tasks n) (IsBegun w) (IsDecided w) (book (logs n)).acts t l) e)

  closed : (n : ℕ) (s : StampParts) → InRange plan.brokers n → (heard n).closed ≡ Some s → DecidedAt homes s
  closed n s i e = decided-is s ((sound n i).closed s e)

  at-rest : AtRest b.script b.run me-tasks plan.brokers
  at-rest = record {
    brokers = logs;
    homes = homes;
    heard = heard;
    held = held_of w;
    ever = sent_by w;
    turns = turns;
    rested = λ n i. subst (λ l. IsRested b.script n b.run (me-tasks n) (desk_at l (heard n))) (log-is (broker n)) (calm.rested n ((idle (broker n) (calm.ups (broker n) ∙ known-in n i)).gone refl));
    reads = reads;
    waits = waits;
    puts = puts;
    undecided = undecided;
    writers = writers;
    earlier = earlier;
    settled = settled;
    closed = closed;
  }

  -- every broker is done
  pub idle-done : (n : ℕ) → InRange plan.brokers n → is_done b.script n b.run (me-tasks n) (log_of w (broker n)) (heard n) ≡ true
  unfolding at-rest
  idle-done n i = subst (λ l. is_done b.script n b.run (me-tasks n) l (heard n) ≡ true) (sym (log-is (broker n))) (all-done b.script b.run me-tasks plan.brokers at-rest n i)
