-- The logs of a run's trace are those of its media, before and after.
use Rattle.run_rounds.proofs.Names.{NodeId, Effect, storage, Plan, View, Founding, LockTable, Entry, Trace, in_plan, WasNotOpened, Life, WireParts, base_from, life_at, IsKept, NodeParts, sight, HasMemory, Media, node_count, Along, Became, RestoresLogs, KeepsLog, ◌≡◌, ◌∙◌, true, IsTrue, List, length, Option, Ok, ap, sym, subst, same_Some, LeavesLife, WasHeld}
use Rattle.run_rounds.proofs.SeenLemmas.{At, Seen, are-back, left, of-seen, seen}
use Rattle.run_rounds.proofs.KnownLemmas.{HaveStood, Known, base, life-end, log-end, none-open, origin, was-opened}

module _ {M Q A : Type 0} (w : Media M) (plan : Plan) (lock : LockTable WireParts (View WireParts Entry) (Founding WireParts) Q A) (t : Trace) (first : List (Option M)) (ps : List (NodeParts M))
    (along : Along (At w plan (origin w plan lock t) (Known w plan lock t)) 0 first ps) (count : length first ≡ node_count plan)
    (same : base_from (origin w plan lock t) ≡ base w plan lock t) (logs : t.opened ≡ (origin w plan lock t).opened) where
  -- the node of this name
  abbrev pub Came : NodeId → Type 0
  Came n = Seen w plan (origin w plan lock t) (Known w plan lock t) first ps along n

  pub held : (n : NodeId) (s : Came n) → IsTrue w.tells → WasHeld w t n s.old
  held n s told = λ log e. subst (λ (l : List Effect). storage (w.reads s.old) ≡ Ok l) (same_Some _ _ (sym (log-end w plan lock t same logs n s.old s.node s.went) ∙ e)) (s.went.held told)

  pub lives : (n : NodeId) (s : Came n) → IsTrue w.tells → LeavesLife w plan t n s.node.medium
  lives n s told = λ c leaves. subst (λ (l : Life). IsKept l c) (sym (life-end w plan lock t same logs n s.old s.node s.went))
      (subst (λ (m : NodeId). IsKept (life_at (sight s.node) m) c) s.went.name (s.went.rest.kept told c leaves))

  -- whether memory ran out or not, each medium held its node's log, and has its life
  pub all-live : IsTrue w.tells → (n : NodeId) → in_plan plan n ≡ true
      → (old : M) × (new : M) × Became plan first (left w plan (origin w plan lock t) (Known w plan lock t) first ps along) n old new × WasHeld w t n old × LeavesLife w plan t n new
  all-live told n is =
      let s = seen w plan (origin w plan lock t) (Known w plan lock t) first ps along count n is in
      (s.old, s.node.medium, (s.before, s.after), held n s told, lives n s told)

module _ {M Q A : Type 0} (w : Media M) (plan : Plan) (lock : LockTable WireParts (View WireParts Entry) (Founding WireParts) Q A) (t : Trace) (first : List (Option M)) (ps : List (NodeParts M)) (stood : HaveStood w plan lock t first ps) where
  -- the node of this name
  abbrev pub Stood : NodeId → Type 0
  Stood n = Seen w plan (origin w plan lock t) (Known w plan lock t) first ps stood.along n

  pub stood-at : (n : NodeId) → in_plan plan n ≡ true → Stood n
  stood-at n is = seen w plan (origin w plan lock t) (Known w plan lock t) first ps stood.along stood.count n is

  pub has-memory : (n : NodeId) (s : Stood n) → HasMemory s.node
  has-memory n s = of-seen w plan (origin w plan lock t) (Known w plan lock t) first ps stood.along n s HasMemory stood.memory

  -- it was opened
  pub opened-at : (n : NodeId) → in_plan plan n ≡ true → WasNotOpened t.entries n → ⊥
  opened-at n is not = let s = stood-at n is in was-opened w plan lock t stood.same stood.opened n s.old s.node s.went (has-memory n s) not

  keeps : (n : NodeId) (s : Stood n) → IsTrue w.tells → KeepsLog w first (left w plan (origin w plan lock t) (Known w plan lock t) first ps stood.along) plan t n s.old s.node.medium
  keeps n s told = record {
    opened = held w plan lock t first ps stood.along stood.count stood.same stood.opened n s told;
    images = lives w plan lock t first ps stood.along stood.count stood.same stood.opened n s told;
    up = λ none. ap (λ (l : Life). l.fresh) (life-end w plan lock t stood.same stood.opened n s.old s.node s.went) ∙ none-open w plan lock t stood.same stood.opened n s.old s.node s.went (has-memory n s) told none;
  }

  -- the logs are those of the media
  pub restores : RestoresLogs w first (left w plan (origin w plan lock t) (Known w plan lock t) first ps stood.along) plan t
  restores = record {
    back = are-back w plan (origin w plan lock t) (Known w plan lock t) first ps stood.along;
    opened = λ n is not. (let s = stood-at n is in (s.old, s.node.medium, (s.before, s.after), λ told. keeps n s told));
    unopened = λ n old new is not became. absurd (opened-at n is not);
    empty = λ n is not. absurd (opened-at n is not);
  }
