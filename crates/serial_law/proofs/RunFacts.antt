-- What holds of all logs and messages of a legal run gives the facts that keep it serial.
use Rattle.std.proofs.lemmas.List.{append-nil}
use Rattle.serial_law.proofs.Names.{Every, Has, StampParts, TimeParts, Decision, NodeId, NodeKind, Repository, Broker, every-has, ActSpec, ObjectId, Value, Effect, Outcome, Message, Post, WasSent, Distinct, Viewed, all_stood, Got, Stored, Request, ToRead, ToWrite, Asks, Over, Tree, after, stop, talked, talked-stop, InRange, is_commit, marks, Once, decide-home, decided-once, book, tries, broker, repository, Task, tasks, Scripted, IsAskOf, IsBelow, IsPlayed, IsProven, MayCommit, clocks, distinct, played, proven, Base, kind_post, node_facts, Causes, Happened, HasReason, HasStood, Try, RunLogs, in_run, Sees, at, asks, asked_of, RunFacts, whole_log, whole_run, attempt, WriteStep, read_step, write_step, lt, each-has, broker-post, some-history, some-log, ◌≡◌, ◌⊎◌, ℕ, ◌+◌, ◌≤◌, true, List, [], ◌∷◌, ◌++◌, map, reverse, refl, sym, ◌∙◌, ap, subst, Some, inl, inr, block, IsOnFloor, chain-view, Stop, EachAct, learn-home, decide-cause, task_of, IsCommitOf}
use Rattle.pseudo_time.specs.declared.decisions.Decision.TheVariants as decision
use Rattle.value_form.specs.declared.endings.Ending.TheVariants as ending
use Rattle.effect_form.specs.declared.effects.Effect.TheVariants as effect
use Rattle.effect_form.specs.declared.outcomes.Outcome.TheVariants as outcome
use Rattle.message_form.specs.declared.messages.Message.TheVariants as message
use Rattle.repository_laws.specs.Facts as repositories
use Rattle.broker_core.specs.Book as books
use Rattle.broker_core.specs.Book.{find}
use Rattle.broker_laws.specs.Posts as posts
use Rattle.world_facts.specs.Refines as refines
use Rattle.serial_law.specs.Facts.{Said, request_at, Asked}
use Rattle.serial_law.proofs.Attempts.{found-in, found-try}
use Rattle.object_history.specs.declared.steps.WriteStep.TheVariants as write
use Rattle.object_history.specs.declared.steps.ReadStep.TheVariants as read
use Rattle.world_core.proofs.Refusals.{Says}
use Rattle.serial_law.proofs.CauseLemmas.{once-read, once-refused, once-version}
use Rattle.serial_law.proofs.WholeLemmas.{IsPut, marks-whole, other-whole, put-once, whole-has}
use Rattle.serial_law.proofs.Inside.{Inside, inside-after, inside-asks, inside-script}
use Rattle.serial_law.proofs.LogLemmas.{in-both}
use Rattle.serial_law.proofs.WholeFacts.{its-all, its-chain, put-asked, put-whole}
use Rattle.serial_law.proofs.Premises.{asked-here}
use Rattle.world_facts.specs.Rules.{SomeOf}
use Rattle.world_facts.proofs.AnswerLemmas as answers

-- ---- lists

pub said-of : (ever : List Post) (p : Post) → Has p ever → Said ever p.message
said-of [] p h = absurd h
said-of (q ∷ ever) p (inl e) = inl (ap (λ (x : Post). x.message) e)
said-of (q ∷ ever) p (inr h) = inr (said-of ever p h)

pub of-said : (ever : List Post) (m : Message) → Said ever m → (p : Post) × Has p ever × (p.message ≡ m)
of-said [] m h = absurd h
of-said (q ∷ ever) m (inl e) = (q, inl refl, e)
of-said (q ∷ ever) m (inr h) = let r = of-said ever m h in (r.0, inr r.1, r.2)

-- ---- requests that were answered

-- a write to repository r that was sent and was answered so, or a read that was refused so
abbrev pub ToldRequest : List Post → ℕ → (TimeParts → ObjectId → Value → WriteStep → Type 0) → (TimeParts → ObjectId → TimeParts → Type 0) → TimeParts → WriteStep → Type 0
ToldRequest sent r Answered Refused x step =
    ((o : ObjectId) × (v : Value) × repositories.WriteSent sent r x o v × Answered x o v step) ⊎ ((o : ObjectId) × (e : TimeParts) × (step ≡ write.LaterRead e) × repositories.ReadSent sent r x o × Refused x o e)

-- ---- what the acts of a plan keep to

-- its home is a repository of the run, and so are those of the objects that its script asks for
abbrev pub IsKept : (List ℕ → Tree) → ℕ → Task → Type 0
IsKept script n task = InRange n task.home × Inside n (script task.script)

pub kept-acts : (script : List ℕ → Tree) (n k first : ℕ) (acts : List ActSpec) → EachAct n k first acts → Scripted script acts → Every (λ a. IsKept script n (task_of a)) acts
kept-acts script n k first [] h s = tt
kept-acts script n k first (a ∷ acts) h s = ((h.0.home, subst (Inside n) (sym s.0) (inside-script n (block a.script.lines) h.0.script.limits)), kept-acts script n k (first + 1) acts h.1 s.1)

pub kept-tasks : (script : List ℕ → Tree) (n : ℕ) (acts : List ActSpec) → Every (λ a. IsKept script n (task_of a)) acts → Every (IsKept script n) (tasks acts)
kept-tasks script n [] h = tt
kept-tasks script n (a ∷ acts) h = (h.0, kept-tasks script n acts h.1)

pub clock-tasks : (c : ℕ) (acts : List ActSpec) → Every (λ (a : ActSpec). c ≤ a.clock) acts → Every (λ (t : Task). c ≤ t.clock) (tasks acts)
clock-tasks c [] h = tt
clock-tasks c (a ∷ acts) h = (h.0, clock-tasks c acts h.1)

-- ---- one question, two words

asks-some : (s : Stop) (q : Request) → s ≡ Asks q → request_at s ≡ Some q
asks-some s q e = ap request_at e

-- An attempt is this try of a broker's book, of whatever run. Its home, and what its script asks for, lie within these repositories.
pub record IsBooked (script : List ℕ → Tree) (logs : NodeId → List Effect) (most : ℕ) (a : Try) : Type 0 where
  pub number : ℕ
  pub try : books.Try
  pub has : Has try (tries (book (logs (broker number))))
  pub is : attempt script try ≡ a
  pub home : InRange most try.stamp.home
  pub inside : Inside most (script try.task.script)

-- `attempts` are tries of the brokers' books
module _ (script : List ℕ → Tree) (b : Base) (most : ℕ) (attempts : List Try) (logs : NodeId → List Effect) (olds : NodeId → List (List Effect)) (past sent : List Post) (May : ℕ → Type 0)
    (f : refines.OlderFacts (node_facts script) b logs olds past sent May) (booked : (a : Try) → Has a attempts → IsBooked script (λ n. reverse (logs n)) most a) where
  abbrev ever : List Post
  ever = past ++ sent

  abbrev log : NodeId → List Effect
  log n = reverse (logs n)

  abbrev run : RunLogs
  run = record { repositories = most; logs = log; tries = attempts }

  -- the older logs, newest effect first, and the run with all versions that ever stood
  abbrev before : NodeId → List (List Effect)
  before n = map reverse (olds n)

  abbrev whole_one : RunLogs
  whole_one = whole_run before run

  -- ---- messages

  -- one of the logs of a sender has what it said
  abbrev Posted : Message → Type 0
  Posted m = (k : NodeKind) × (i : ℕ) × (to : NodeId) × SomeOf (λ l. kind_post script ever k i l (record { to = to; message = m })) (log (record { kind = k; number = i }) ∷ before (record { kind = k; number = i }))

  posted : (m : Message) → Said ever m → Posted m
  posted m h =
      let r = of-said ever m h in (
        r.0.from.kind,
        r.0.from.number,
        r.0.to,
        subst (λ x. SomeOf (λ l. kind_post script ever r.0.from.kind r.0.from.number l (record { to = r.0.to; message = x })) (log r.0.from ∷ before r.0.from)) r.2 (every-has _ ever r.0 f.sent_ok r.1),
      )

  -- a broker's log is never retired
  by-broker : (i : ℕ) (to : NodeId) (m : Message) → SomeOf (λ l. kind_post script ever Broker i l (record { to = to; message = m })) (log (broker i) ∷ before (broker i)) → kind_post script ever Broker i (log (broker i)) (record { to = to; message = m })
  by-broker i to m h = broker-post script b logs olds past sent May f i (before (broker i)) (log (broker i)) to m (f.lineage (broker i)) h

  -- a log that sent such a message
  by-repository : (i : ℕ) (to : NodeId) (m : Message) → SomeOf (λ l. kind_post script ever Repository i l (record { to = to; message = m })) (log (repository i) ∷ before (repository i)) →
      (l : List Effect) × Has l (log (repository i) ∷ before (repository i)) × kind_post script ever Repository i l (record { to = to; message = m })
  by-repository i to m h = some-log (λ l. kind_post script ever Repository i l (record { to = to; message = m })) (log (repository i) ∷ before (repository i)) h

  was-said : (from to : NodeId) (m : Message) → WasSent ever from to m → Said ever m
  was-said from to m h = said-of ever (record { from = from; to = to; message = m }) h

  came : (me : ℕ) (m : Message) → posts.HasCome me ever m → Said ever m
  came me m h = was-said h.0 (broker me) m h.1

  -- ---- repositories, and all versions that ever stood

  abbrev all_logs : ℕ → List (List Effect)
  all_logs r = log (repository r) ∷ before (repository r)

  value-said : (t : TimeParts) (v : Value) → Posted (message.Value t v) → (o : ObjectId) × Said ever (message.Read t o) × Sees (marks (whole_log (before (repository o.repository)) (log (repository o.repository)))) o t v
  value-said t v (Broker, i, to, h) = absurd (by-broker i to (message.Value t v) h)
  value-said t v (Repository, i, to, h) =
      let p = by-repository i to (message.Value t v) h in
      let sees = chain-view (map marks (before (repository i))) (marks (log (repository i))) (all_stood (map marks (before (repository i))) (marks (log (repository i)))) p.2.0 t v
      (its-chain script b logs olds past sent May f i) (its-all script b logs olds past sent May f i p.2.0)
      (some-history (λ m. IsOnFloor m t × Viewed m p.2.0 t v) (all_logs i) p.0 p.1 (p.2.4, p.2.3)) in
      (p.2.0, was-said _ _ _ p.2.1.0, subst (λ r. Sees (marks (whole_log (before (repository r)) (log (repository r)))) p.2.0 t v) (sym p.2.1.1) (subst (λ m. Sees m p.2.0 t v) (sym (marks-whole (before (repository i)) (log (repository i)))) sees))

  stored-said : (t : TimeParts) → Posted (message.Stored t) →
      (o : ObjectId) × (v : Value) × Said ever (message.Write t o v) × Has (effect.Put o t v) (whole_log (before (repository o.repository)) (log (repository o.repository)))
  stored-said t (Broker, i, to, h) = absurd (by-broker i to (message.Stored t) h)
  stored-said t (Repository, i, to, h) =
      let p = by-repository i to (message.Stored t) h in
      (p.2.0, p.2.1, was-said _ _ _ p.2.2.0, subst (λ r. Has (effect.Put p.2.0 t p.2.1) (whole_log (before (repository r)) (log (repository r)))) (sym p.2.2.1) (put-whole script b logs olds past sent May f i p.0 p.2.0 t p.2.1 p.1 p.2.3))

  -- what was decided stays decided
  decided-there : (i : ℕ) (to : NodeId) (s : StampParts) (d : Decision) → Has (record { from = repository i; to = to; message = message.Decided s d }) ever → Has (effect.Decide s d) (log (repository i))
  decided-there i to s d h = answers.all-kept script b logs olds past sent May f (record { from = repository i; to = to; message = message.Decided s d }) h

  decided-said : (s : StampParts) (d : Decision) → Said ever (message.Decided s d) → Has (effect.Decide s d) (log (repository s.home))
  decided-said s d h = let r = of-said ever (message.Decided s d) h in by r.0.from.kind r.0.from.number r.0.to (subst (λ x. Has (record { from = r.0.from; to = r.0.to; message = x }) ever) r.2 r.1)
    where
      by : (k : NodeKind) (i : ℕ) (to : NodeId) → Has (record { from = record { kind = k; number = i }; to = to; message = message.Decided s d }) ever → Has (effect.Decide s d) (log (repository s.home))
      by Broker i to h = absurd (by-broker i to (message.Decided s d) (every-has _ ever (record { from = broker i; to = to; message = message.Decided s d }) f.sent_ok h))
      by Repository i to h = let there = decided-there i to s d h in
          subst (λ r. Has (effect.Decide s d) (log (repository r))) (sym (decide-home i (log (repository i)) s d (f.tidy (repository i)) there)) there

  -- ---- attempts

  abbrev Mine : Try → Type 0
  Mine a = IsBooked script log most a

  mine : (a : Try) → Has a attempts → Mine a
  mine = booked

  module _ (a : Try) (m : Mine a) where
    abbrev me : ℕ
    me = m.number

    abbrev own : List Effect
    own = log (broker m.number)

    its-play : IsPlayed script m.try
    its-play = every-has (IsPlayed script) (tries (book own)) m.try (played script me own (f.tidy (broker me))) m.has

    its-proof : IsProven me ever m.try
    its-proof = every-has (IsProven me ever) (tries (book own)) m.try (proven script me ever own (f.tidy (broker me)) (f.proofs (broker me))) m.has

    its-broker : m.try.stamp.broker ≡ me
    its-broker = (every-has (IsBelow me (book own).clock) (tries (book own)) m.try (clocks script me own (f.tidy (broker me))) m.has).1

    its-place : find m.try.stamp (tries (book own)) ≡ Some m.try
    its-place = found-try (tries (book own)) m.try (distinct script me own (f.tidy (broker me))) m.has

    -- what the book of its broker finds by its stamp is this try
    same-try : (x : StampParts) (i : ℕ) (u : books.Try) → x ≡ m.try.stamp → x.broker ≡ i → find x (tries (book (log (broker i)))) ≡ Some u → u ≡ m.try
    same-try x i u e k h =
        let here : i ≡ me = sym k ∙ ap (λ (y : StampParts). y.broker) e ∙ its-broker in
        let found : find m.try.stamp (tries (book own)) ≡ Some u = subst (λ y. find y (tries (book own)) ≡ Some u) e (subst (λ j. find x (tries (book (log (broker j)))) ≡ Some u) here h) in
        let both : Some m.try ≡ Some u = sym its-place ∙ found in cc both

    its-request : (x : TimeParts) (q : Request) (i : ℕ) → x.stamp ≡ m.try.stamp → x.stamp.broker ≡ i → IsAskOf script (tries (book (log (broker i)))) x q → Asked (attempt script m.try) x q
    its-request x q i e k h =
        let same : h.0 ≡ m.try = same-try x.stamp i h.0 e k h.1 in (
          h.2.0,
          h.2.1,
          ap (λ (y : books.Try). y.answers) (sym same) ∙ h.2.2,
          h.2.3,
          asks-some _ q (subst (λ (y : books.Try). stop (script y.task.script) h.2.0 ≡ Asks q) same h.2.4),
        )

    its-commit : (i : ℕ) → m.try.stamp.broker ≡ i → IsCommitOf script (tries (book (log (broker i)))) m.try.stamp →
        ((talked (script m.try.task.script) m.try.answers).stop ≡ Over ending.Finished) × MayCommit m.try.end
    its-commit i k h =
        let same : h.0 ≡ m.try = same-try m.try.stamp i h.0 refl k h.1 in (
          talked-stop (script m.try.task.script) m.try.answers ∙ subst (λ (y : books.Try). stop (script y.task.script) y.answers ≡ Over ending.Finished) same h.3,
          subst (λ (y : books.Try). MayCommit y.end) same h.2,
        )

  -- ---- what was asked

  read-said : (a : Try) (m : Mine a) (t : TimeParts) (o : ObjectId) → Posted (message.Read t o) → t.stamp ≡ m.try.stamp → Asked (attempt script m.try) t (ToRead o)
  read-said a m t o (Repository, i, to, h) e = absurd (by-repository i to (message.Read t o) h).2
  read-said a m t o (Broker, i, to, h) e = let k = by-broker i to (message.Read t o) h in its-request a m t (ToRead o) i e k.0 k.2

  write-said : (a : Try) (m : Mine a) (t : TimeParts) (o : ObjectId) (v : Value) → Posted (message.Write t o v) → t.stamp ≡ m.try.stamp → Asked (attempt script m.try) t (ToWrite o v)
  write-said a m t o v (Repository, i, to, h) e = absurd (by-repository i to (message.Write t o v) h).2
  write-said a m t o v (Broker, i, to, h) e = let k = by-broker i to (message.Write t o v) h in its-request a m t (ToWrite o v) i e k.0 k.2

  -- the try that asked for a write
  pub write-of : (x : TimeParts) (o : ObjectId) (v : Value) → Said ever (message.Write x o v) →
      (t : books.Try) × Has t (tries (book (log (broker x.stamp.broker)))) × (t.stamp ≡ x.stamp) × Asked (attempt script t) x (ToWrite o v)
  write-of x o v said = by (posted (message.Write x o v) said)
    where
      by : Posted (message.Write x o v) → (t : books.Try) × Has t (tries (book (log (broker x.stamp.broker)))) × (t.stamp ≡ x.stamp) × Asked (attempt script t) x (ToWrite o v)
      by (Repository, i, to, h) = absurd (by-repository i to (message.Write x o v) h).2
      by (Broker, i, to, h) =
          let k = by-broker i to (message.Write x o v) h in
          let found = found-in x.stamp (tries (book (log (broker i)))) k.2.0 k.2.1 in
          (k.2.0, subst (λ j. Has k.2.0 (tries (book (log (broker j))))) (sym k.0) found.0, found.1, (k.2.2.0, k.2.2.1, k.2.2.2, k.2.2.3, asks-some _ (ToWrite o v) k.2.2.4))

  commit-said : (a : Try) (m : Mine a) → Posted (message.Commit m.try.stamp) → ((talked (script m.try.task.script) m.try.answers).stop ≡ Over ending.Finished) × MayCommit m.try.end
  commit-said a m (Repository, i, to, h) = absurd (by-repository i to (message.Commit m.try.stamp) h).2
  commit-said a m (Broker, i, to, h) = let k = by-broker i to (message.Commit m.try.stamp) h in its-commit a m i k.0 k.2

  -- ---- repositories

  caused : (r : ℕ) (e : Effect) → Has e (log (repository r)) → repositories.RestsOn ever (λ k. log (repository k)) f.ticks r e
  caused r e h = (each-has _ (log (repository r)) e (f.proofs (repository r)) h).1

  -- ---- all together

  moved : (P : Try → Type 0) (a : Try) (m : Mine a) → P (attempt script m.try) → P a
  moved P a m h = subst P m.is h

  -- an effect that isn't a Put stands in the whole log where it stands in the log itself
  other : (r : ℕ) (e : Effect) → (IsPut e → ⊥) → Has e (whole_log (before (repository r)) (log (repository r))) → Has e (log (repository r))
  other r e isnt h = other-whole (before (repository r)) (log (repository r)) e isnt h

  also : (r : ℕ) (e : Effect) → Has e (log (repository r)) → Has e (whole_log (before (repository r)) (log (repository r)))
  also r e h = whole-has (before (repository r)) (log (repository r)) e h

  pub run-facts : RunFacts whole_one ever
  run-facts = record {
    decided_once = λ s d e h k. ap is_commit (decided-once s.home (log (repository s.home)) s d e (f.tidy (repository s.home)) (other s.home (effect.Decide s d) (λ z. z) h) (other s.home (effect.Decide s e) (λ z. z) k));
    decided_home = λ r s d i h. sym (decide-home r (log (repository r)) s d (f.tidy (repository r)) (other r (effect.Decide s d) (λ z. z) h));
    learned = λ r s c i h. let k = caused r (effect.Learn s c) (other r (effect.Learn s c) (λ z. z) h) in (k.0, also s.home (effect.Decide s k.0) k.1, k.2);
    learned_away = λ r s c i h e. learn-home r (log (repository r)) s c (f.tidy (repository r)) (other r (effect.Learn s c) (λ z. z) h) e;
    value = λ t v h. value-said t v (posted (message.Value t v) h);
    stored = λ t h. stored-said t (posted (message.Stored t) h);
    decided = λ s d h. also s.home (effect.Decide s d) (decided-said s d h);
    got = λ a pre post v has. moved (λ x. x.answers ≡ pre ++ (Got v ∷ post) → Said ever (message.Value (at x.stamp pre) v)) a (mine a has)
        (λ e. came (mine a has).number _ ((its-proof a (mine a has)).answers pre post (Got v) e));
    acked = λ a pre post has. moved (λ x. x.answers ≡ pre ++ (Stored ∷ post) → Said ever (message.Stored (at x.stamp pre))) a (mine a has)
        (λ e. came (mine a has).number _ ((its-proof a (mine a has)).answers pre post Stored e));
    end_committed = λ a has. moved (λ x. x.ended ≡ Some outcome.Committed → Said ever (message.Decided x.stamp decision.Committed)) a (mine a has)
        (λ e. came (mine a has).number _ ((its-proof a (mine a has)).ends outcome.Committed e));
    end_expired = λ a d n has. moved (λ x. x.ended ≡ Some (outcome.Expired d n) → Said ever (message.Decided x.stamp (decision.Expired d n))) a (mine a has)
        (λ e. came (mine a has).number _ ((its-proof a (mine a has)).ends (outcome.Expired d n) e));
    end_withdrawn = λ a l has. moved (λ x. x.ended ≡ Some (outcome.Withdrawn l) → (talked x.script x.answers).stop ≡ Over (ending.Withdrawn l)) a (mine a has)
        (λ e. talked-stop (script (mine a has).try.task.script) (mine a has).try.answers ∙ (its-play a (mine a has)).ends (outcome.Withdrawn l) e);
    end_failed = λ a l k has. moved (λ x. x.ended ≡ Some (outcome.Failed l k) → (talked x.script x.answers).stop ≡ Over (ending.Failed l k)) a (mine a has)
        (λ e. talked-stop (script (mine a has).try.task.script) (mine a has).try.answers ∙ (its-play a (mine a has)).ends (outcome.Failed l k) e);
    read_asked = λ a t o has h. moved (λ x. t.stamp ≡ x.stamp → Asked x t (ToRead o)) a (mine a has) (read-said a (mine a has) t o (posted (message.Read t o) h));
    write_asked = λ a t o v has h. moved (λ x. t.stamp ≡ x.stamp → Asked x t (ToWrite o v)) a (mine a has) (write-said a (mine a has) t o v (posted (message.Write t o v) h));
    commit_asked = λ a has. moved (λ x. Said ever (message.Commit x.stamp) → ((talked x.script x.answers).stop ≡ Over ending.Finished) × MayCommit x.ended) a (mine a has)
        (λ h. commit-said a (mine a has) (posted (message.Commit (mine a has).try.stamp) h));
    distinct = λ r i. subst Distinct (sym (marks-whole (before (repository r)) (log (repository r)))) (its-all script b logs olds past sent May f r (record { repository = r; number = 0 })).distinct;
    put = λ r o x v i h. let k = put-once (before (repository r)) (log (repository r)) (effect.Put o x v) h in
        let asked = put-asked script b logs olds past sent May f r k.0 o x v k.1 k.2 in (asked.1, was-said _ _ _ asked.0);
    commit = λ s h. was-said _ _ _ (caused s.home (effect.Decide s decision.Committed) (other s.home (effect.Decide s decision.Committed) (λ z. z) h));
    home = λ a has. moved (λ x. in_run run x.stamp.home ≡ true) a (mine a has) (in-both run _ (mine a has).home.0 (mine a has).home.1);
    within = λ a pre post q has. moved (λ x. x.answers ≡ pre ++ post → asks (after x.script pre) ≡ Some q → in_run run (asked_of q).repository ≡ true) a (mine a has)
        (λ e k. let r = inside-asks most (after (script (mine a has).try.task.script) pre) q
        (inside-after most (script (mine a has).try.task.script) pre (mine a has).inside) k in in-both run _ r.0 r.1);
  }

  -- ---- causes

  same-write : (p o : ObjectId) (v w : Value) → Asks (ToWrite p v) ≡ Asks (ToWrite o w) → p ≡ o
  same-write p o v w e = cc e

  some-asks : (s : Stop) (q : Request) → request_at s ≡ Some q → s ≡ Asks q
  some-asks (Asks p) q e = cc e
  some-asks (Over x) q e = absurd (cc e)

  same-read : (p o : ObjectId) → Asks (ToRead p) ≡ Asks (ToRead o) → p ≡ o
  same-read p o e = cc e

  -- one of the logs of a sender has what it said, and it was sent
  abbrev PostedFrom : Message → Type 0
  PostedFrom m = (k : NodeKind) × (i : ℕ) × (to : NodeId)
      × SomeOf (λ l. kind_post script ever k i l (record { to = to; message = m })) (log (record { kind = k; number = i }) ∷ before (record { kind = k; number = i }))
      × Has (record { from = record { kind = k; number = i }; to = to; message = m }) ever

  posted-from : (m : Message) → Said ever m → PostedFrom m
  posted-from m h =
      let r = of-said ever m h in (
        r.0.from.kind,
        r.0.from.number,
        r.0.to,
        subst (λ x. SomeOf (λ l. kind_post script ever r.0.from.kind r.0.from.number l (record { to = r.0.to; message = x })) (log r.0.from ∷ before r.0.from)) r.2 (every-has _ ever r.0 f.sent_ok r.1),
        subst (λ x. Has (record { from = r.0.from; to = r.0.to; message = x }) ever) r.2 r.1,
      )

  -- what one of the logs of a repository has
  stood-in : (r : ℕ) (e : Effect) (l : List Effect) → Has l (all_logs r) → Has e l → HasStood run before r e
  stood-in r e l (inl same) h = inl (subst (Has e) (sym same) h)
  stood-in r e l (inr k) h = inr (l, k, h)

  -- `Answered` holds of what a repository answered to a write that it took, and `Refused` of a read
  abbrev TellsOf : (TimeParts → ObjectId → Value → WriteStep → Type 0) → (TimeParts → ObjectId → TimeParts → Type 0) → Type 0
  TellsOf Answered Refused = (r : ℕ) (q : Post) → Has q ever → q.from ≡ repository r → Says (ToldRequest ever r Answered Refused) q.message

  module _ (Answered : TimeParts → ObjectId → Value → WriteStep → Type 0) (Refused : TimeParts → ObjectId → TimeParts → Type 0) (tells : TellsOf Answered Refused) (a : Try) (m : Mine a) where
    abbrev happened : Happened
    happened = record { Ticked = May; Answered = Answered; Refused = Refused }

    abbrev mine-try : Try
    mine-try = attempt script m.try

    abbrev time : TimeParts
    time = at m.try.stamp m.try.answers

    -- what the script asks at this pseudotime
    abbrev Stands : Request → Type 0
    Stands q = stop (script m.try.task.script) m.try.answers ≡ Asks q

    abbrev AsksFor : Request → Type 0
    AsksFor q = asks (after (script m.try.task.script) m.try.answers) ≡ Some q

    -- what was asked of a repository at this pseudotime is that
    asked-write : (r : ℕ) (p : ObjectId) (w : Value) → repositories.WriteSent ever r time p w → AsksFor (ToWrite p w)
    asked-write r p w sent =
        let said : Asked mine-try time (ToWrite p w) = write-said a m time p w (posted (message.Write time p w) (was-said _ _ _ sent.0)) refl in
        asked-here mine-try m.try.answers [] (ToWrite p w) (sym (append-nil m.try.answers)) said

    asked-read : (r : ℕ) (p : ObjectId) → repositories.ReadSent ever r time p → AsksFor (ToRead p)
    asked-read r p sent =
        let said : Asked mine-try time (ToRead p) = read-said a m time p (posted (message.Read time p) (was-said _ _ _ sent.0)) refl in
        asked-here mine-try m.try.answers [] (ToRead p) (sym (append-nil m.try.answers)) said

    is-write : (r : ℕ) (o p : ObjectId) (v w : Value) → repositories.WriteSent ever r time p w → Stands (ToWrite o v) → p ≡ o
    is-write r o p v w sent e = same-write p o w v (sym (some-asks _ (ToWrite p w) (asked-write r p w sent)) ∙ e)

    is-read : (r : ℕ) (o p : ObjectId) → repositories.ReadSent ever r time p → Stands (ToRead o) → p ≡ o
    is-read r o p sent e = same-read p o (sym (some-asks _ (ToRead p) (asked-read r p sent)) ∙ e)

    -- nor was a read of it sent where it asks to write, or a write where it asks to read
    no-read : (r : ℕ) (o p : ObjectId) (v : Value) → repositories.ReadSent ever r time p → Stands (ToWrite o v) → ⊥
    no-read r o p v sent e = let both : Asks (ToRead p) ≡ Asks (ToWrite o v) = sym (some-asks _ (ToRead p) (asked-read r p sent)) ∙ e in cc

    no-write : (r : ℕ) (o p : ObjectId) (v : Value) → repositories.WriteSent ever r time p v → Stands (ToRead o) → ⊥
    no-write r o p v sent e = let both : Asks (ToWrite p v) ≡ Asks (ToRead o) = sym (some-asks _ (ToWrite p v) (asked-write r p v sent)) ∙ e in cc

    stretched-in : (r : ℕ) (o : ObjectId) (e : TimeParts) (l : List Effect) → Has l (all_logs r) → Has (effect.Stretch o e) l ⊎ Has (effect.Mark e) l → HasStood run before r (effect.Stretch o e) ⊎ HasStood run before r (effect.Mark e)
    stretched-in r o e l k (inl h) = inl (stood-in r (effect.Stretch o e) l k h)
    stretched-in r o e l k (inr h) = inr (stood-in r (effect.Mark e) l k h)

    -- a write that was refused
    write-refused : (i : ℕ) (o p : ObjectId) (e : TimeParts) (v w : Value) (l : List Effect) → Has l (all_logs i) → lt time e ≡ true → Stands (ToWrite o v) → repositories.WriteSent ever i time p w →
        Once (λ k. write_step (marks k) p time w ≡ write.LaterRead e) l → ToldRequest ever i Answered Refused time (write.LaterRead e) → HasReason run before happened mine-try (outcome.LaterRead o e)
    write-refused i o p e v w l k less stands sent once (inr t) = absurd (no-read i o t.0 v t.3 stands)
    write-refused i o p e v w l k less stands sent once (inl t) =
        let q : t.0 ≡ o = is-write i o t.0 v t.1 t.2 stands in
        subst (λ y. HasReason run before happened mine-try (outcome.LaterRead y e)) q (
          less,
          inl (
            t.1,
            asked-write i t.0 t.1 t.2,
            subst (λ y. HasStood run before y.repository (effect.Stretch y e) ⊎ HasStood run before y.repository (effect.Mark e)) ((is-write i o p v w sent stands) ∙ sym q)
                (subst (λ j. HasStood run before j (effect.Stretch p e) ⊎ HasStood run before j (effect.Mark e)) (sym sent.1) (stretched-in i p e l k (once-read l p time e w once))),
            t.3,
          ),
        )

    -- a read that was
    read-refused : (i : ℕ) (o p : ObjectId) (e : TimeParts) (l : List Effect) → Has l (all_logs i) → lt time e ≡ true → Stands (ToRead o) → repositories.ReadSent ever i time p →
        Once (λ k. read_step (marks k) p time ≡ read.LaterRead e) l → ToldRequest ever i Answered Refused time (write.LaterRead e) → HasReason run before happened mine-try (outcome.LaterRead o e)
    read-refused i o p e l k less stands sent once (inl t) = absurd (no-write i o t.0 t.1 t.2 stands)
    read-refused i o p e l k less stands sent once (inr t) =
        let q : t.0 ≡ o = is-read i o t.0 t.3 stands in
        let end : t.1 ≡ e = cc (sym t.2) in
        let there = stood-in i (effect.Mark e) l k (once-refused l p time e once) in
        subst (λ y. HasReason run before happened mine-try (outcome.LaterRead y e)) q (
          less,
          inr (
            asked-read i t.0 t.3,
            subst (λ y. HasStood run before y.repository (effect.Mark e)) ((is-read i o p sent stands) ∙ sym q) (subst (λ j. HasStood run before j (effect.Mark e)) (sym sent.1) there),
            subst (λ z. Refused time t.0 z) end t.4,
          ),
        )

    refused-by : (i : ℕ) (o p : ObjectId) (e : TimeParts) (l : List Effect) → Has l (all_logs i) → lt time e ≡ true → Stands (ToRead o) ⊎ ((v : Value) × Stands (ToWrite o v)) → repositories.WasReadLater ever i l p time e →
        ToldRequest ever i Answered Refused time (write.LaterRead e) → HasReason run before happened mine-try (outcome.LaterRead o e)
    refused-by i o p e l k less (inl reads) (inl r) told = read-refused i o p e l k less reads r.0 r.1 told
    refused-by i o p e l k less (inl reads) (inr r) told = absurd (no-write i o p r.0 r.1 reads)
    refused-by i o p e l k less (inr writes) (inl r) told = absurd (no-read i o p writes.0 r.0 writes.1)
    refused-by i o p e l k less (inr writes) (inr r) told = write-refused i o p e writes.0 r.0 l k less writes.1 r.1 r.2 told

    refused-later : (o : ObjectId) (e : TimeParts) → Stands (ToRead o) ⊎ ((v : Value) × Stands (ToWrite o v)) → PostedFrom (message.LaterRead time e) → HasReason run before happened mine-try (outcome.LaterRead o e)
    refused-later o e stands (Broker, i, to, h, s) = absurd (by-broker i to (message.LaterRead time e) h)
    refused-later o e stands (Repository, i, to, h, s) =
        let p = by-repository i to (message.LaterRead time e) h in
        refused-by i o p.2.0 e p.0 p.1 p.2.1 stands p.2.2 (tells i (record { from = repository i; to = to; message = message.LaterRead time e }) s refl)

    refused-version : (o : ObjectId) (x : TimeParts) → ((v : Value) × Stands (ToWrite o v)) → PostedFrom (message.LaterVersion time x) → HasReason run before happened mine-try (outcome.LaterVersion o x)
    refused-version o x asks-it (Broker, i, to, h, s) = absurd (by-broker i to (message.LaterVersion time x) h)
    refused-version o x asks-it (Repository, i, to, h, s) = by (by-repository i to (message.LaterVersion time x) h) (tells i (record { from = repository i; to = to; message = message.LaterVersion time x }) s refl)
      where
        by : ((l : List Effect) × Has l (all_logs i) × kind_post script ever Repository i l (record { to = to; message = message.LaterVersion time x })) → ToldRequest ever i Answered Refused time (write.LaterVersion x) →
            HasReason run before happened mine-try (outcome.LaterVersion o x)
        by p (inr g) = absurd (no-read i o g.0 asks-it.0 g.3 asks-it.1)
        by p (inl t) =
            let r : p.2.0 ≡ o = is-write i o p.2.0 asks-it.0 p.2.1 p.2.2 asks-it.1 in
            let q : t.0 ≡ o = is-write i o t.0 asks-it.0 t.1 t.2 asks-it.1 in
            let once = once-version p.0 p.2.0 time x p.2.1 p.2.4 in
            let there = stood-in i (effect.Put p.2.0 x once.0) p.0 p.1 once.1 in
            subst (λ y. HasReason run before happened mine-try (outcome.LaterVersion y x)) q (
              t.1,
              asked-write i t.0 t.1 t.2,
              p.2.3,
              (once.0, subst (λ y. HasStood run before y.repository (effect.Put y x once.0)) (r ∙ sym q) (subst (λ j. HasStood run before j (effect.Put p.2.0 x once.0)) (sym p.2.2.1) there)),
              t.3,
            )

    try-cause : (o : Outcome) → m.try.end ≡ Some o → HasReason run before happened mine-try o
    try-cause outcome.Committed e = decided-said m.try.stamp decision.Committed (came m.number _ ((its-proof a m).ends outcome.Committed e))
    try-cause (outcome.Expired d n) e =
        let decided = decided-said m.try.stamp (decision.Expired d n) (came m.number _ ((its-proof a m).ends (outcome.Expired d n) e)) in
        let c = decide-cause m.try.stamp.home (log (repository m.try.stamp.home)) m.try.stamp (decision.Expired d n) (f.tidy (repository m.try.stamp.home)) decided in
        (decided, subst (λ x. Has (effect.Begin m.try.stamp x) (log (repository m.try.stamp.home))) (sym c.2.0) c.1, subst (λ x. x ≤ n) (sym c.2.0) c.2.1, f.ticked n (caused m.try.stamp.home (effect.Decide m.try.stamp (decision.Expired d n)) decided))
    try-cause (outcome.LaterRead o x) e = refused-later o x ((its-play a m).ends (outcome.LaterRead o x) e) (posted-from _ (came m.number _ ((its-proof a m).ends (outcome.LaterRead o x) e)))
    try-cause (outcome.LaterVersion o x) e = refused-version o x ((its-play a m).ends (outcome.LaterVersion o x) e) (posted-from _ (came m.number _ ((its-proof a m).ends (outcome.LaterVersion o x) e)))
    try-cause (outcome.Spent c) e = absurd ((its-play a m).ends (outcome.Spent c) e)
    try-cause f e = talked-stop (script m.try.task.script) m.try.answers ∙ (its-play a m).ends f e

  pub run-causes : (Answered : TimeParts → ObjectId → Value → WriteStep → Type 0) (Refused : TimeParts → ObjectId → TimeParts → Type 0) → TellsOf Answered Refused →
      Causes run before (record { Ticked = May; Answered = Answered; Refused = Refused })
  run-causes Answered Refused tells a o has =
      moved (λ x. x.ended ≡ Some o → HasReason run before (record { Ticked = May; Answered = Answered; Refused = Refused }) x o) a (mine a has) (try-cause Answered Refused tells a (mine a has) o)
