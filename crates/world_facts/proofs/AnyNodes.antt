-- The rules of nodes keep over any logs what a run asks of them there; and so it is at each place of a legal trace over any logs.
use Rattle.world_facts.proofs.Names.{Every, Has, every-map, NodeId, NodeKind, Repository, Broker, ActSpec, Effect, Out, Grew, Each, Post, Asked, Tree, Plan, Hand, held-more, turn-added, cause-more, Entry, Trace, Mind, opened_mind, Input, repository, Going, Taking, Learning, Hearing, Base, sent_by, start_world, walk, Meets, Legal, base_of, fates_of, OpenedWith, meets-front, Around, Later, NodeFacts, MayInput, TurnGives, NodeLaws, Start, Left, LogFacts, logs_at, of_hand, of_desk, kind_turn, node_turns, ◌≡◌, ℕ, ◌≤◌, length, List, [], ◌∷◌, ◌++◌, reverse, refl, sym, ap, subst, arith, unwrap_or, grew_map, HeldHolds}
use Rattle.repository_core.specs.Turns as hands
use Rattle.repository_laws.specs.AnyLogs.{Refuses, RefusesRightly}
use Rattle.repository_laws.proofs.AnyTurns.{refuses-on, refuses-more, take-fine, on-learn-fine, hear-fine, begun-fine}
use Rattle.broker_core.specs.Turns as desks
use Rattle.broker_core.specs.Counted.{counted}
use Rattle.broker_laws.specs.AnyLogs.{Joins, Rests, Says, GoesOn}
use Rattle.broker_laws.specs.Posts as broker_posts
use Rattle.broker_laws.specs.Works as works
use Rattle.broker_laws.proofs.AnyDesks.{says-on, turn-on}
use Rattle.world_core.specs.declared.entries.Entry.TheVariants.{Tick}
use Rattle.world_facts.specs.AnyRules.{tasks_of, any_fits, any_post, any_cause, any_mind, any_facts, log_opened, log_before}
use Rattle.world_facts.proofs.NodeLaws.{gives-are}
use Rattle.world_facts.proofs.Openings.{opens, facts-of}
use Rattle.world_facts.proofs.Refinements.{walk-refines}

grew-any : (P : List Effect → Effect → Type 0) → ((l : List Effect) (f : Effect) → P l f) → (log fresh : List Effect) → Grew P log fresh
grew-any P h log [] = tt
grew-any P h log (f ∷ fresh) = (grew-any P h log fresh, h (fresh ++ log) f)

-- what is asked only of longer logs
each-short : (m : ℕ) (C : List Effect → Effect → Type 0) (log : List Effect) → length log ≤ m → Each (λ l f. m ≤ length l → C l f) log
each-short m C [] h = tt
each-short m C (f ∷ log) h = (each-short m C log (omega (arith, h)), λ big. absurd (omega (arith, h, big)))

module _ (script : List ℕ → Tree) (run : ℕ) (acts : List ActSpec) (own : NodeId → List Effect) where
  abbrev F : NodeFacts
  F = any_facts script run acts own

  grown-on : (n : NodeId) (log : List Effect) (f : Effect) → F.Tidy n log → F.Fits n log f → F.Tidy n (f ∷ log)
  grown-on n log f t fits = record { early = f ∷ t.early; is = ap (λ z. f ∷ z) t.is; grew = (t.grew, subst (λ z. any_fits script run acts n.kind n.number z f) t.is fits) }

  post-on : (ever : List Post) (k : NodeKind) (i : ℕ) (log : List Effect) (f : Effect) (out : Out) → any_fits script run acts k i log f → any_post script run acts ever k i log out → any_post script run acts ever k i (f ∷ log) out
  post-on ever Repository i log f out fits h = refuses-on ever i log f out.to out.message h
  post-on ever Broker i log f out fits h = says-on script i run (tasks_of script run acts i) log f out.to out.message fits h

  post-more : (ever more : List Post) (k : NodeKind) (i : ℕ) (log : List Effect) (out : Out) → any_post script run acts ever k i log out → any_post script run acts (ever ++ more) k i log out
  post-more ever more Repository i log out h = refuses-more ever more i log out.to out.message h
  post-more ever more Broker i log out h = h

  mind-more : (ever more : List Post) (k : NodeKind) (i : ℕ) (mind : Mind) → any_mind script run acts ever k i mind → any_mind script run acts (ever ++ more) k i mind
  mind-more ever more Repository i mind h = every-map (HeldHolds ever i) (HeldHolds (ever ++ more) i) (λ e p. held-more ever more i e p) mind.hands.held h
  mind-more ever more Broker i mind h = tt

  opened-mind : (ever : List Post) (k : NodeKind) (i start : ℕ) → any_mind script run acts ever k i (opened_mind start)
  opened-mind ever Repository i start = tt
  opened-mind ever Broker i start = tt

  cause-later : (w v : Around) (k : NodeKind) (i : ℕ) (log : List Effect) (f : Effect) → Later w v → any_cause script run acts w.ever k i log f → any_cause script run acts v.ever k i log f
  cause-later w v Repository i log f l h = h
  cause-later w v Broker i log f l h =
      (h.0, subst (λ e. broker_posts.RestsOn i e (counted script i run (tasks_of script run acts i) log) f) (sym l.ever) (cause-more script i w.ever l.more (counted script i run (tasks_of script run acts i) log) f h.1), h.2)

  -- ---- turns

  nothing-gives : (w : Around) (n : NodeId) (log : List Effect) (mind : Mind) → F.MindOk w.ever n mind → TurnGives F w run acts n log (record { effects = []; outs = []; mind = mind })
  nothing-gives w n log mind ok = record { grew = tt; proofs = tt; mind_ok = ok; outs = tt; ready = (refl, refl) }

  hand-gives : (w : Around) (r : ℕ) (log : List Effect) (mind : Mind) (h : Hand) → RefusesRightly w.ever r log h → TurnGives F w run acts (repository r) log (of_hand mind h)
  hand-gives w r log mind h k = record {
    grew = grew-any (λ l f. Unit {0}) (λ l f. tt) log h.added;
    proofs = grew-any (λ l f. length (own (repository r)) ≤ length l → Unit {0}) (λ l f big. tt) log h.added;
    mind_ok = k.held;
    outs = subst (λ l. Every (λ o. Refuses w.ever r (h.added ++ l) o.to o.message) h.outs) k.past k.outs;
    ready = (refl, refl);
  }

  desk-gives : (w : Around) (b : ℕ) (log : List Effect) (mind : Mind) (i : desks.Input) → works.MayInput b w.ever i →
      TurnGives F w run acts (record { kind = Broker; number = b }) log (of_desk mind (desks.desk_turn script b run (tasks_of script run acts b) (desks.desk_at log mind.heard) i))
  desk-gives w b log mind i may =
      let d : desks.Desk = desks.desk_turn script b run (tasks_of script run acts b) (desks.desk_at log mind.heard) i in
      let k : GoesOn script b run (tasks_of script run acts b) w.ever (desks.desk_turn script b run (tasks_of script run acts b) (desks.desk_at log mind.heard) i) =
      turn-on script b run (tasks_of script run acts b) w.ever (desks.desk_at log mind.heard) i may (record { joins = tt; rests = tt; outs = tt }) in
      let base : d.past ≡ log = (turn-added script b run (tasks_of script run acts b) (desks.desk_at log mind.heard) i).past in
      record {
        grew = subst (λ l. Grew (Joins script b run (tasks_of script run acts b)) l d.added) base k.joins;
        proofs = grew_map (Rests script b run (tasks_of script run acts b) w.ever) (λ l f. length (own (record { kind = Broker; number = b })) ≤ length l → Rests script b run (tasks_of script run acts b) w.ever l f)
            (λ l f r big. r) log d.added (subst (λ l. Grew (Rests script b run (tasks_of script run acts b) w.ever) l d.added) base k.rests);
        mind_ok = tt;
        outs = subst (λ l. Every (λ o. Says script b run (tasks_of script run acts b) (d.added ++ l) o.to o.message) d.outs) base k.outs;
        ready = (refl, refl);
      }

  turn-kind : (w : Around) (k : NodeKind) (i : ℕ) (log : List Effect) (mind : Mind) (input : Input) → any_mind script run acts w.ever k i mind → MayInput w (record { kind = k; number = i }) input →
      TurnGives F w run acts (record { kind = k; number = i }) log (kind_turn script run acts k i log mind input)
  turn-kind w Repository i log mind Going ok may = nothing-gives w (repository i) log mind ok
  turn-kind w Repository i log mind (Taking from m) ok may = hand-gives w i log mind _ (take-fine w.ever i log (hands.hand_at i log mind.hands) from m may (begun-fine w.ever i log mind.hands ok))
  turn-kind w Repository i log mind (Learning s committed) ok may = hand-gives w i log mind _ (on-learn-fine w.ever i log (hands.hand_at i log mind.hands) s committed (begun-fine w.ever i log mind.hands ok))
  turn-kind w Repository i log mind (Hearing t) ok may = hand-gives w i log mind _ (hear-fine w.ever i log (hands.hand_at i log mind.hands) t (begun-fine w.ever i log mind.hands ok))
  turn-kind w Broker i log mind Going ok may = desk-gives w i log mind desks.Go tt
  turn-kind w Broker i log mind (Taking from m) ok may = desk-gives w i log mind (desks.Take from m) may
  turn-kind w Broker i log mind (Learning s committed) ok may = nothing-gives w (record { kind = Broker; number = i }) log mind tt
  turn-kind w Broker i log mind (Hearing t) ok may = desk-gives w i log mind (desks.Hear t) tt

  turn-same : (w : Around) (r : ℕ) (a : List ActSpec) (n : NodeId) (log : List Effect) (mind : Mind) (input : Input) → r ≡ run → a ≡ acts → F.MindOk w.ever n mind → MayInput w n input →
      TurnGives F w r a n log (node_turns script r a n log mind input)
  turn-same w r a n log mind input same these ok may =
      subst (λ z. TurnGives F w z a n log (node_turns script z a n log mind input)) (sym same)
      (subst (λ z. TurnGives F w run z n log (node_turns script run z n log mind input)) (sym these) (turn-kind w n.kind n.number log mind input ok may))

  any-laws : NodeLaws script (node_turns script) F
  any-laws = record {
    turns_are = gives-are script;
    tidied = grown-on;
    stays = λ ever n log f out tidy fits h. post-on ever n.kind n.number log f out fits h;
    more_posts = λ ever more n log out h. post-more ever more n.kind n.number log out h;
    more_mind = λ ever more n mind h. mind-more ever more n.kind n.number mind h;
    later = λ w v n log f l p big. cause-later w v n.kind n.number log f l (p big);
    opened = λ ever n start. opened-mind ever n.kind n.number start;
    turn = λ w r a n log mind input g may sender. turn-same w r a n log mind input g.ready.0 g.ready.1 g.mind_ok may;
    ready_below = λ r a n log f tidy fits ready. ready;
    retired_tidy = λ n old new r t. absurd r;
    retired_proofs = λ w n old new r h. absurd r;
    retired_decided = λ n old new r s d h. absurd r;
  }

-- ---- traces

module _ (script : List ℕ → Tree) (run : ℕ) (acts : List ActSpec) (logs : NodeId → List Effect) (May : ℕ → Type 0) where
  -- a run begins over these logs, oldest effect first
  any-left : Left (node_turns script) (any_facts script run acts (λ n. reverse (logs n))) logs (λ n. []) [] (λ t. ⊥)
  any-left = record {
    events = Start (λ n. reverse (logs n)) ∷ [];
    may = λ n. (record { early = []; is = refl; grew = tt }, each-short (length (reverse (logs n))) (any_cause script run acts [] n.kind n.number) (reverse (logs n)) (omega arith), tt);
    gated = λ n. refl;
    fresh = λ n. refl;
    retired = λ n. refl;
    ever = refl;
    ticked = λ t h. h;
  }

pub any-trace : (script : List ℕ → Tree) (plan : Plan) (asked : List Asked) (t : Trace) (front rest : List Entry) → Legal script plan asked t → t.entries ≡ front ++ rest →
    LogFacts (any_facts script (base_of script plan t).run (base_of script plan t).acts (log_before t)) (base_of script plan t) (logs_at (log_opened t) (walk (base_of script plan t) front)) [] (sent_by (walk (base_of script plan t) front))
    (λ moment. Has (Tick moment) front)
any-trace script plan asked t front rest legal here =
    let b : Base = base_of script plan t in
    let logs : NodeId → List Effect = λ n. log_opened t n in
    let own : NodeId → List Effect = λ n. reverse (log_opened t n) in
    let laws : NodeLaws script (node_turns script) (any_facts script b.run b.acts own) = any-laws script b.run b.acts own in
    let agrees : OpenedWith t.opened logs = λ n log e. sym (ap (λ z. unwrap_or z []) e) in
    let rules : Meets b (fates_of t.sent) (start_world b) front = meets-front b (fates_of t.sent) (start_world b) front rest (subst (Meets b (fates_of t.sent) (start_world b)) here legal.meets) in
    facts-of script (node_turns script) (any_facts script b.run b.acts own) laws b logs [] (λ moment. Has (Tick moment) front) (walk b front)
    (walk-refines script (node_turns script) (any_facts script b.run b.acts own) laws b logs (λ n. []) [] (λ moment. Has (Tick moment) front) refl (fates_of t.sent) (start_world b) front (λ moment h. h)
    (opens script (node_turns script) (any_facts script b.run b.acts own) laws b logs (λ n. []) [] (λ moment. ⊥) (λ moment. Has (Tick moment) front) (λ moment h. absurd h) (any-left script b.run b.acts logs (λ moment. ⊥)) agrees (λ n e. (refl, refl))) rules)
