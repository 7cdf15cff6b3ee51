-- Two readings that both read a plan's scripts give the same runs of it.
use Rattle.std.specs.List.{slice_get}
use Rattle.world_core.proofs.Names.{NodeId, NodeKind, Repository, Broker, ActSpec, block, Effect, Asked, Fate, Tree, Plan, tasks, Scripted, Entry, Take, Go, Learn, Hear, Gate, Crash, Down, Tick, Trace, Mind, Input, gives, kind_gives, broker_gives, acts_of, with_desk, Going, Taking, Learning, Hearing, Base, Life, World, Sending, all_effects, after_input, took, hears, lives_on, life_after, flags_after, heard_after, sendings_after, taken_after, ticks_after, last_after, is_down, names, numbered, with_given, step, start_world, walk_from, walk, sent_by, Rule, Meets, Legal, base_of, fates_of, ◌≡◌, ℕ, zero, suc, ◌==◌, Bool, true, false, ◌&&◌, List, [], ◌∷◌, refl, sym, ◌∙◌, ap, subst, Option, Some, None, if◌then◌else◌, reverse, is_none, Task, task_of, is_ready, kind_ready}
use Rattle.script_form.specs.RowTexts.{script_text}
use Rattle.broker_core.specs.Turns as desks
use Rattle.world_core.specs.declared.traces.Opened.{Opened}
use Rattle.broker_core.proofs.SameTurns.{desk-same, fault-same}

-- ---- readings of a broker's acts

abbrev pub Agree : (s s' : List ℕ → Tree) → List Task → Type 0
Agree s s' plan = (i : ℕ) (t : Task) → slice_get plan i ≡ Some t → s t.script ≡ s' t.script

module _ (s s' : List ℕ → Tree) where
  agree-more : (a : ActSpec) (ts : List Task) → s (script_text (block a.script.lines)) ≡ s' (script_text (block a.script.lines)) → Agree s s' ts → Agree s s' (task_of a ∷ ts)
  agree-more a ts e h zero t k = let is : task_of a ≡ t = cc in subst (λ (x : Task). s x.script ≡ s' x.script) is e
  agree-more a ts e h (suc i) t k = h i t k

  none-there : (i : ℕ) (t : Task) → ◌≡◌ {A = Option Task} (slice_get [] i) (Some t) → ⊥
  none-there zero t k = absurd (cc k)
  none-there (suc i) t k = absurd (cc k)

  agree-if : (c : Bool) (a : ActSpec) (own : List ActSpec) → s (script_text (block a.script.lines)) ≡ s' (script_text (block a.script.lines)) → Agree s s' (tasks own) → Agree s s' (tasks (if c then a ∷ own else own))
  agree-if true a own e h = agree-more a (tasks own) e h
  agree-if false a own e h = h

  pub agree-of : (b : ℕ) (acts : List ActSpec) → Scripted s acts → Scripted s' acts → Agree s s' (tasks (acts_of b acts))
  agree-of b [] h h' = λ i t k. absurd (none-there i t k)
  agree-of b (a ∷ acts) h h' = agree-if (a.broker == b) a (acts_of b acts) (h.0 ∙ sym h'.0) (agree-of b acts h.1 h'.1)

-- ---- what nodes give

module _ (s s' : List ℕ → Tree) (run : ℕ) (acts : List ActSpec) (h : Scripted s acts) (h' : Scripted s' acts) where
  broker-same : (b : ℕ) (log : List Effect) (mind : Mind) (input : Input) → broker_gives s run acts b log mind input ≡ broker_gives s' run acts b log mind input
  broker-same b log mind Going = ap (with_desk mind) (desk-same s s' b run (tasks (acts_of b acts)) (agree-of s s' b acts h h') (desks.desk_at (reverse log) mind.heard) desks.Go)
  broker-same b log mind (Taking from m) = ap (with_desk mind) (desk-same s s' b run (tasks (acts_of b acts)) (agree-of s s' b acts h h') (desks.desk_at (reverse log) mind.heard) (desks.Take from m))
  broker-same b log mind (Learning x c) = refl
  broker-same b log mind (Hearing t) = ap (with_desk mind) (desk-same s s' b run (tasks (acts_of b acts)) (agree-of s s' b acts h h') (desks.desk_at (reverse log) mind.heard) (desks.Hear t))

  kind-same : (k : NodeKind) (i : ℕ) (log : List Effect) (mind : Mind) (input : Input) → kind_gives s run acts k i log mind input ≡ kind_gives s' run acts k i log mind input
  kind-same Repository i log mind input = refl
  kind-same Broker i log mind input = broker-same i log mind input

  gives-same : (n : NodeId) (log : List Effect) (mind : Mind) (input : Input) → gives s run acts n log mind input ≡ gives s' run acts n log mind input
  unfolding gives
  gives-same n log mind input = kind-same n.kind n.number log mind input

  ready-kind : (k : NodeKind) (i : ℕ) (log : List Effect) → kind_ready s run acts k i log ≡ kind_ready s' run acts k i log
  ready-kind Repository i log = refl
  ready-kind Broker i log = ap is_none (fault-same s s' i run (tasks (acts_of i acts)) (agree-of s s' i acts h h') (reverse log))

  ready-same : (n : NodeId) (log : List Effect) → is_ready s run acts n log ≡ is_ready s' run acts n log
  unfolding is_ready
  ready-same n log = ready-kind n.kind n.number log

-- ---- walks

abbrev with_script : (List ℕ → Tree) → ℕ → List ActSpec → ℕ → List Opened → Base
with_script s run acts start opened = record { script = s; run = run; acts = acts; start = start; opened = opened }

module _ (s s' : List ℕ → Tree) (run : ℕ) (acts : List ActSpec) (start : ℕ) (opened : List Opened) (h : Scripted s acts) (h' : Scripted s' acts) where
  abbrev b : Base
  b = with_script s run acts start opened

  abbrev b' : Base
  b' = with_script s' run acts start opened

  told-same : (n : NodeId) (l : Life) (input : Input) → after_input b n l input ≡ after_input b' n l input
  told-same n l input = ap (with_given l) (gives-same s s' run acts h h' n (all_effects l) l.mind input)

  took-same : (n : NodeId) (l : Life) (o : Option Sending) → took b n l o ≡ took b' n l o
  took-same n l None = refl
  took-same n l (Some x) = told-same n l (Taking x.post.from x.post.message)

  hears-same : (n : NodeId) (l : Life) (o : Option ℕ) → hears b n l o ≡ hears b' n l o
  hears-same n l None = refl
  hears-same n l (Some m) = told-same n l (Hearing m)

  lives-same : (w : World) (n : NodeId) (l : Life) (e : Entry) → lives_on b w n l e ≡ lives_on b' w n l e
  lives-same w n l (Take node number) = took-same n l (numbered w.sendings number)
  lives-same w n l (Go node) = told-same n l Going
  lives-same w n l (Learn node x c) = told-same n l (Learning x c)
  lives-same w n l (Hear node) = hears-same n l w.last
  lives-same w n l (Gate node) = refl
  lives-same w n l (Crash node kept) = refl
  lives-same w n l (Down node cause) = refl
  lives-same w n l (Tick m) = refl

  life-same : (w : World) (e : Entry) (n : NodeId) → life_after b w e n ≡ life_after b' w e n
  life-same w e n = ap (λ l. if names n e && (w.flags n).known then l else w.life n) (lives-same w n (w.life n) e)

  step-same : (w : World) (e : Entry) → step b w e ≡ step b' w e
  step-same w e = λ i. record {
    life = λ n. life-same w e n i;
    flags = flags_after w e;
    heard = heard_after w e;
    sendings = sendings_after w e;
    taken = taken_after w.taken e;
    ticks = ticks_after w.ticks e;
    last = last_after w.last e;
    moved = if is_down e then w.moved else true;
  }

  pub walk_from-same : (w : World) (es : List Entry) → walk_from b w es ≡ walk_from b' w es
  unfolding walk_from
  walk_from-same w [] = refl
  walk_from-same w (e ∷ es) = walk_from-same (step b w e) es ∙ ap (λ v. walk_from b' v es) (step-same w e)

  rule-same : (fates : List Fate) (w : World) (e : Entry) → Rule b fates w e → Rule b' fates w e
  rule-same fates w (Take node number) r = r
  rule-same fates w (Go node) r = r
  rule-same fates w (Learn node x c) r = r
  rule-same fates w (Hear node) r = r
  rule-same fates w (Gate node) r = r
  rule-same fates w (Crash node kept) r = r
  rule-same fates w (Down node cause) r = r
  rule-same fates w (Tick m) r = r

  pub meets-same : (fates : List Fate) (w : World) (es : List Entry) → Meets b fates w es → Meets b' fates w es
  unfolding Meets
  meets-same fates w [] m = tt
  meets-same fates w (e ∷ es) m = (rule-same fates w e m.0, subst (λ v. Meets b' fates v es) (step-same w e) (meets-same fates (step b w e) es m.1))

-- ---- traces

module _ (s s' : List ℕ → Tree) (plan : Plan) (h : Scripted s plan.acts) (h' : Scripted s' plan.acts) where
  pub walk-same : (t : Trace) (es : List Entry) → walk (base_of s plan t) es ≡ walk (base_of s' plan t) es
  walk-same t es = walk_from-same s s' plan.run plan.acts t.start t.opened h h' (start_world (base_of s plan t)) es

  -- a trace that is legal by one of them is so by the other
  pub legal-same : (asked : List Asked) (t : Trace) → Legal s plan asked t → Legal s' plan asked t
  legal-same asked t l = record {
    scripted = h';
    nodes = l.nodes;
    ready = λ n log e. sym (ready-same s s' plan.run plan.acts h h' n log) ∙ l.ready n log e;
    meets = meets-same s s' plan.run plan.acts t.start t.opened h h' (fates_of t.sent) (start_world (base_of s plan t)) t.entries l.meets;
    sent = l.sent ∙ ap sent_by (walk-same t t.entries);
    numbers = l.numbers;
    before = l.before;
    fated = l.fated;
  }
