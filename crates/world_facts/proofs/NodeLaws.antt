-- The rules of repositories and of brokers keep what a run asks of them.
use Rattle.world_facts.proofs.Names.{Every, Has, StampParts, Decision, NodeId, NodeKind, Repository, Broker, every-map, ActSpec, Effect, Message, Out, Grew, Each, Post, Tree, Hand, held-more, book, tries, turn-added, cause-more, Mind, opened_mind, Input, gives, is_ready, repository, Going, Taking, Learning, Hearing, Around, Later, MayInput, SenderOk, TurnGiven, TurnGives, NodeLaws, PastLaws, of_hand, of_desk, kind_turn, node_turns, kind_post, node_facts, ◌≡◌, ℕ, true, List, [], ◌∷◌, ◌++◌, reverse, refl, sym, subst, Option, Some, None, is_none, has-left, decide-forwarded, tidy-kept, post-stays, post-more, ready-cut, kind_gives, kind_ready, acts_of, kind_fits, kind_tidy, kind_cause, kind_mind, kind_is_ready, kind_retires}
use Rattle.pseudo_time.specs.declared.decisions.Decision.TheVariants as decision
use Rattle.effect_form.specs.declared.effects.Effect.TheVariants as effect
use Rattle.message_form.specs.declared.messages.Message.TheVariants as message
use Rattle.repository_core.specs.Turns as hands
use Rattle.repository_laws.specs.Facts as repositories
use Rattle.repository_laws.specs.Givens.{IsGiven, Gives}
use Rattle.repository_laws.proofs.Whole.{gives-taking, gives-learning, gives-hearing}
use Rattle.broker_core.specs.Fits.{resume_fault}
use Rattle.broker_core.specs.Tasks.{tasks}
use Rattle.broker_core.specs.Turns as desks
use Rattle.broker_laws.specs.Fits as brokers
use Rattle.broker_laws.specs.Posts as broker_posts
use Rattle.broker_laws.specs.Works.{TurnHolds}
use Rattle.broker_laws.specs.Works as works
use Rattle.broker_laws.proofs.Desks.{desk-ok}
use Rattle.broker_laws.proofs.Moves.{post-kept}
use Rattle.broker_laws.proofs.ReadyLemmas.{no-fault}
use Rattle.world_facts.specs.Rules.{forward}
use Rattle.world_facts.proofs.RetiredLogs.{each-forwarded, tidy-forwarded}

none-is : {A : Type 0} (o : Option A) → is_none o ≡ true → o ≡ None
none-is None h = refl
none-is (Some x) h = absurd (cc h)

-- each new effect has P
new-have : (P : List Effect → Effect → Type 0) (log fresh : List Effect) → Each P (fresh ++ log) → Grew P log fresh
new-have P log [] h = tt
new-have P log (f ∷ fresh) h = (new-have P log fresh h.0, h.1)

module _ (script : List ℕ → Tree) where
  -- ---- the same function

  turns-are : (run : ℕ) (acts : List ActSpec) (k : NodeKind) (i : ℕ) (log : List Effect) (mind : Mind) (input : Input) → kind_gives script run acts k i log mind input ≡ forward (kind_turn script run acts k i (reverse log) mind input)
  unfolding hands.gives
  turns-are run acts Repository i log mind Going = refl
  turns-are run acts Broker i log mind Going = refl
  turns-are run acts Repository i log mind x = refl
  turns-are run acts Broker i log mind x = refl

  pub gives-are : (run : ℕ) (acts : List ActSpec) (n : NodeId) (log : List Effect) (mind : Mind) (input : Input) → gives script run acts n log mind input ≡ forward (node_turns script run acts n (reverse log) mind input)
  unfolding gives
  gives-are run acts n log mind input = turns-are run acts n.kind n.number log mind input

  ready-kind : (run : ℕ) (acts : List ActSpec) (k : NodeKind) (i : ℕ) (log : List Effect) → kind_ready script run acts k i log ≡ true → kind_is_ready script run acts k i (reverse log)
  ready-kind run acts Repository i log h = tt
  ready-kind run acts Broker i log h = no-fault script i run (tasks (acts_of i acts)) (reverse log) (none-is (resume_fault script i run (tasks (acts_of i acts)) (reverse log)) h)

  ready-are : (run : ℕ) (acts : List ActSpec) (n : NodeId) (log : List Effect) → is_ready script run acts n log ≡ true → kind_is_ready script run acts n.kind n.number (reverse log)
  unfolding is_ready
  ready-are run acts n log h = ready-kind run acts n.kind n.number log h

  -- ---- what stays

  tidied-kind : (k : NodeKind) (i : ℕ) (log : List Effect) (f : Effect) → kind_tidy script k i log → kind_fits script k i log f → kind_tidy script k i (f ∷ log)
  tidied-kind Repository i log f tidy fits = tidy-kept i log f fits tidy
  tidied-kind Broker i log f tidy fits = (tidy, fits)

  stays-kind : (ever : List Post) (k : NodeKind) (i : ℕ) (log : List Effect) (f : Effect) (out : Out) → kind_tidy script k i log → kind_fits script k i log f → kind_post script ever k i log out → kind_post script ever k i (f ∷ log) out
  stays-kind ever Repository i log f out tidy fits h = post-stays ever i log f out.to out.message fits h
  stays-kind ever Broker i log f out tidy fits h = post-kept script i log f out.to out.message tidy fits h

  more-kind : (ever more : List Post) (k : NodeKind) (i : ℕ) (log : List Effect) (out : Out) → kind_post script ever k i log out → kind_post script (ever ++ more) k i log out
  more-kind ever more Repository i log out h = post-more ever more i log out.to out.message h
  more-kind ever more Broker i log out h = h

  mind-kind : (ever more : List Post) (k : NodeKind) (i : ℕ) (mind : Mind) → kind_mind script ever k i mind → kind_mind script (ever ++ more) k i mind
  mind-kind ever more Repository i mind h = every-map (repositories.HeldHolds ever i) (repositories.HeldHolds (ever ++ more) i) (λ e p. held-more ever more i e p) mind.hands.held h
  mind-kind ever more Broker i mind h = h

  repository-later : (w v : Around) (r : ℕ) (f : Effect) → Later w v → repositories.RestsOn w.ever (λ k. w.logs (repository k)) w.ticks r f → repositories.RestsOn v.ever (λ k. v.logs (repository k)) v.ticks r f
  repository-later w v r (effect.Put o x y) l p = (subst (Has _) (sym l.ever) (has-left w.ever l.more _ p.0), p.1)
  repository-later w v r (effect.Decide s decision.Committed) l p = subst (Has _) (sym l.ever) (has-left w.ever l.more _ p)
  repository-later w v r (effect.Decide s decision.Withdrawn) l p = subst (Has _) (sym l.ever) (has-left w.ever l.more _ p)
  repository-later w v r (effect.Decide s (decision.Expired d m)) l p = l.ticks m p
  repository-later w v r (effect.Learn s c) l p = (p.0, l.homes s p.0 p.1, p.2)
  repository-later w v r (effect.Stretch o x) l p = (subst (Has _) (sym l.ever) (has-left w.ever l.more _ p.0), p.1)
  repository-later w v r f l p = p

  later-kind : (w v : Around) (k : NodeKind) (i : ℕ) (log : List Effect) (f : Effect) → Later w v → kind_cause script w k i log f → kind_cause script v k i log f
  later-kind w v Repository i log f l p = repository-later w v i f l p
  later-kind w v Broker i log f l p = subst (λ e. broker_posts.RestsOn i e (book log) f) (sym l.ever) (cause-more script i w.ever l.more (book log) f p)

  opened-kind : (ever : List Post) (k : NodeKind) (i : ℕ) (start : ℕ) → kind_mind script ever k i (opened_mind start)
  opened-kind ever Repository i start = tt
  opened-kind ever Broker i start = tt

  below-kind : (run : ℕ) (acts : List ActSpec) (k : NodeKind) (i : ℕ) (log : List Effect) (f : Effect) → kind_tidy script k i log → kind_fits script k i log f →
      kind_is_ready script run acts k i (f ∷ log) → kind_is_ready script run acts k i log
  below-kind run acts Repository i log f tidy fits ready = tt
  below-kind run acts Broker i log f tidy fits ready = ready-cut script i run (tasks (acts_of i acts)) (f ∷ []) log (tidy, fits) ready

  empty-kind : (k : NodeKind) (i : ℕ) → kind_tidy script k i []
  empty-kind Repository i = tt
  empty-kind Broker i = tt

  -- ---- retirements

  retired-tidy : (k : NodeKind) (i : ℕ) (old new : List Effect) → kind_retires script k old new → kind_tidy script k i old → kind_tidy script k i new
  retired-tidy Repository i old new r t = subst (repositories.IsTidy i) (sym r.2) (tidy-forwarded i old r.0 t)
  retired-tidy Broker i old new r t = absurd r

  retired-proofs : (w : Around) (k : NodeKind) (i : ℕ) (old new : List Effect) → kind_retires script k old new → Each (kind_cause script w k i) old → Each (kind_cause script w k i) new
  retired-proofs w Repository i old new r h = subst (Each (kind_cause script w Repository i)) (sym r.2) (each-forwarded (repositories.RestsOn w.ever (λ j. w.logs (repository j)) w.ticks i) old r.0 tt tt h)
  retired-proofs w Broker i old new r h = absurd r

  retired-decided : (k : NodeKind) (old new : List Effect) → kind_retires script k old new → (s : StampParts) (d : Decision) → Has (effect.Decide s d) old → Has (effect.Decide s d) new
  retired-decided Repository old new r s d h = subst (Has (effect.Decide s d)) (sym r.2) (decide-forwarded old r.0 s d h)
  retired-decided Broker old new r s d h = absurd r

  -- ---- turns

  -- nothing is given
  nothing-gives : (w : Around) (run : ℕ) (acts : List ActSpec) (n : NodeId) (log : List Effect) (mind : Mind) → TurnGiven (node_facts script) w run acts n log mind →
      TurnGives (node_facts script) w run acts n log (record { effects = []; outs = []; mind = mind })
  nothing-gives w run acts n log mind g = record { grew = tt; proofs = tt; mind_ok = g.mind_ok; outs = tt; ready = g.ready }

  -- a decision that was told stands in its sender's durable log
  backed : (w : Around) (n : NodeId) (k : NodeKind) (i : ℕ) (m : Message) (log : List Effect) →
      ((s : StampParts) (d : Decision) → Has (effect.Decide s d) log → Has (effect.Decide s d) (w.logs (record { kind = k; number = i }))) →
      kind_post script w.ever k i log (record { to = n; message = m }) → repositories.IsBacked (λ j. w.logs (repository j)) k i m
  backed w n Repository i (message.Tell s c) log still h = (h.0, still s h.0 h.1, h.2)
  backed w n k i m log still h = tt

  is-given : (w : Around) (run : ℕ) (acts : List ActSpec) (r : ℕ) (log : List Effect) (mind : Mind) → TurnGiven (node_facts script) w run acts (repository r) log mind →
      IsGiven w.ever (λ k. w.logs (repository k)) r log mind.hands
  is-given w run acts r log mind g = record { tidy = g.tidy; held = g.mind_ok; added = g.added; own = g.own; grew = g.grew }

  hand-gives : (w : Around) (run : ℕ) (acts : List ActSpec) (r : ℕ) (log : List Effect) (mind : Mind) (h : Hand) → Gives w.ever (λ k. w.logs (repository k)) w.ticks r log h →
      TurnGives (node_facts script) w run acts (repository r) log (of_hand mind h)
  hand-gives w run acts r log mind h g = record { grew = g.grew; proofs = g.causes; mind_ok = g.held; outs = g.outs; ready = tt }

  module _ (w : Around) (run : ℕ) (acts : List ActSpec) (b : ℕ) (log : List Effect) (mind : Mind) (g : TurnGiven (node_facts script) w run acts (record { kind = Broker; number = b }) log mind) where
    desk-given : TurnHolds script b run (tasks (acts_of b acts)) w.ever (desks.desk_at log mind.heard)
    desk-given = record { desk = record { tidy = g.tidy; grew = tt; causes = g.proofs; outs = tt }; ready = g.ready }

    desk-gives : (i : desks.Input) → works.MayInput b w.ever i →
        TurnGives (node_facts script) w run acts (record { kind = Broker; number = b }) log (of_desk mind (desks.desk_turn script b run (tasks (acts_of b acts)) (desks.desk_at log mind.heard) i))
    desk-gives i may =
        let d : desks.Desk = desks.desk_turn script b run (tasks (acts_of b acts)) (desks.desk_at log mind.heard) i in
        let k : TurnHolds script b run (tasks (acts_of b acts)) w.ever d = desk-ok script b run (tasks (acts_of b acts)) w.ever (desks.desk_at log mind.heard) i desk-given may in
        let base : d.past ≡ log = (turn-added script b run (tasks (acts_of b acts)) (desks.desk_at log mind.heard) i).past in
        record {
          grew = subst (λ l. Grew (brokers.FitsLog script b) l d.added) base k.desk.grew;
          proofs = new-have (λ l f. broker_posts.RestsOn b w.ever (book l) f) log d.added (subst (λ l. broker_posts.HaveCauses b w.ever (d.added ++ l)) base k.desk.causes);
          mind_ok = tt;
          outs = subst (λ l. Every (λ o. broker_posts.PostHolds script b (tries (book (d.added ++ l))) o.to o.message) d.outs) base k.desk.outs;
          ready = subst (λ l. brokers.IsReady script b run (tasks (acts_of b acts)) (d.added ++ l)) base k.ready;
        }

  turn-kind : (w : Around) (run : ℕ) (acts : List ActSpec) (k : NodeKind) (i : ℕ) (log : List Effect) (mind : Mind) (input : Input) →
      TurnGiven (node_facts script) w run acts (record { kind = k; number = i }) log mind → MayInput w (record { kind = k; number = i }) input →
      SenderOk (node_facts script) w (record { kind = k; number = i }) input → TurnGives (node_facts script) w run acts (record { kind = k; number = i }) log (kind_turn script run acts k i log mind input)
  turn-kind w run acts Repository i log mind Going g may sender = nothing-gives w run acts (repository i) log mind g
  turn-kind w run acts Repository i log mind (Taking from m) g may sender =
      hand-gives w run acts i log mind _ (gives-taking w.ever (λ k. w.logs (repository k)) w.ticks i log mind.hands (is-given w run acts i log mind g) from m (may, backed w (repository i) from.kind from.number m sender.0 sender.1 sender.2))
  turn-kind w run acts Repository i log mind (Learning s committed) g may sender =
      hand-gives w run acts i log mind _ (gives-learning w.ever (λ k. w.logs (repository k)) w.ticks i log mind.hands (is-given w run acts i log mind g) s committed may)
  turn-kind w run acts Repository i log mind (Hearing t) g may sender =
      hand-gives w run acts i log mind _ (gives-hearing w.ever (λ k. w.logs (repository k)) w.ticks i log mind.hands (is-given w run acts i log mind g) t may)
  turn-kind w run acts Broker i log mind Going g may sender = desk-gives w run acts i log mind g desks.Go tt
  turn-kind w run acts Broker i log mind (Taking from m) g may sender = desk-gives w run acts i log mind g (desks.Take from m) may
  turn-kind w run acts Broker i log mind (Learning s committed) g may sender = nothing-gives w run acts (record { kind = Broker; number = i }) log mind g
  turn-kind w run acts Broker i log mind (Hearing t) g may sender = desk-gives w run acts i log mind g (desks.Hear t) tt

  pub node-laws : NodeLaws script (node_turns script) (node_facts script)
  node-laws = record {
    turns_are = gives-are;
    tidied = λ n log f tidy fits. tidied-kind n.kind n.number log f tidy fits;
    stays = λ ever n log f out tidy fits h. stays-kind ever n.kind n.number log f out tidy fits h;
    more_posts = λ ever more n log out h. more-kind ever more n.kind n.number log out h;
    more_mind = λ ever more n mind h. mind-kind ever more n.kind n.number mind h;
    later = λ w v n log f l p. later-kind w v n.kind n.number log f l p;
    opened = λ ever n start. opened-kind ever n.kind n.number start;
    turn = λ w run acts n log mind input g may sender. turn-kind w run acts n.kind n.number log mind input g may sender;
    ready_below = λ run acts n log f tidy fits ready. below-kind run acts n.kind n.number log f tidy fits ready;
    retired_tidy = λ n old new r t. retired-tidy n.kind n.number old new r t;
    retired_proofs = λ w n old new r h. retired-proofs w n.kind n.number old new r h;
    retired_decided = λ n old new r s d h. retired-decided n.kind old new r s d h;
  }

  pub past-laws : PastLaws script (node_facts script)
  past-laws = record { ready_is = ready-are; empty = λ n. empty-kind n.kind n.number; begins = λ n. refl }
