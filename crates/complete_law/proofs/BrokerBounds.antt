-- A calm broker's log has no more effects than its acts allow, and fills no more pages.
use Rattle.complete_law.proofs.Names.{Every, every-left, every-right, ActSpec, Effect, Tree, stop, Act, Book, Try, book, tries_of, broker, Task, task_of, tasks, state, Started, IsPlayed, TurnHolds, kept, played, acts_of, Base, Life, World, sent_by, AskAtMost, AsksAtMost, CalmPlace, filled_by, log_at, tries_in, world_at, every-at, every-filter, ◌≡◌, ℕ, ◌+◌, ◌*◌, ◌≤◌, ◌==◌, nat_lt, Bool, true, false, length, List, [], ◌∷◌, ◌++◌, reverse, refl, sym, ◌∙◌, ap, subst, append-nil, arith, EachAct, OfAct, kin, started}
use Rattle.world_core.specs.Walks as walks
use Rattle.complete_law.proofs.BrokerMoves.{turn-there}
use Rattle.complete_law.proofs.BrokerRuns.{only-runs}
use Rattle.complete_law.proofs.Outcomes.{own-tries}
use Rattle.complete_law.proofs.Places.{desk_of, tasks_of}
use Rattle.complete_law.proofs.Ranges.{same-run}
use Rattle.complete_law.proofs.Shares.{act-size, acts-share, answers-few, asking-one, mul-mono, started-few, tasks-few, tries-allowed, tries-given}
use Rattle.complete_law.proofs.Sizes.{IsSpare, begun-run, log-pages, log-size, one-if, size-act, size-acts, spare}
use Rattle.complete_law.proofs.Steps as steps
use Rattle.complete_law.proofs.Steps.{calm-there, facts-there}

-- a task of the plan may be tried, and its script makes few requests
abbrev pub IsAllowed : (List ℕ → Tree) → ℕ → Task → Type 0
IsAllowed script most t = (1 ≤ t.tries) × AsksAtMost most (script t.script)

allowed-acts : (script : List ℕ → Tree) (most n k first : ℕ) (acts : List ActSpec) → EachAct n k first acts → Every (λ (a : ActSpec). AsksAtMost most (script (task_of a).script)) acts →
    Every (λ a. IsAllowed script most (task_of a)) acts
allowed-acts script most n k first [] h s = tt
allowed-acts script most n k first (a ∷ acts) h s = let low : 1 ≤ a.tries = h.0.tries.0 in ((low, s.0), allowed-acts script most n k (first + 1) acts h.1 s.1)

allowed-tasks : (script : List ℕ → Tree) (most : ℕ) (acts : List ActSpec) → Every (λ a. IsAllowed script most (task_of a)) acts → Every (IsAllowed script most) (tasks acts)
allowed-tasks script most [] h = tt
allowed-tasks script most (a ∷ acts) h = (h.0, allowed-tasks script most acts h.1)

-- the attempts of an act of the plan: they are of its task, and play by its script
abbrev pub IsLed : (List ℕ → Tree) → ℕ → Act → Type 0
IsLed script most a = IsAllowed script most a.task × IsSpare a × Every (λ (t : Try). IsPlayed script t × (t.task ≡ a.task)) a.tries

pub led : (script : List ℕ → Tree) (most run : ℕ) (ts : List Task) (as' : List Act) → Every (IsAllowed script most) ts → Started ts as' → Every IsSpare as' → Every (λ (a : Act). (a.run ≡ run) × OfAct a) as' → Every (IsPlayed script) (tries_of as') →
    Every (IsLed script most) as'
led script most run ts [] allowed s spare kin played = tt
led script most run ts (a ∷ as') allowed s spare kin played = (
  (every-at (IsAllowed script most) ts (length as') a.task allowed s.1, spare.0, both a.tries kin.0.1 (every-left (IsPlayed script) a.tries (tries_of as') played)),
  led script most run ts as' allowed s.0 spare.1 kin.1 (every-right (IsPlayed script) a.tries (tries_of as') played),
)
  where
    both : (us : List Try) → Every (λ (t : Try). (t.task ≡ a.task) × (t.run ≡ a.run)) us → Every (IsPlayed script) us → Every (λ (t : Try). IsPlayed script t × (t.task ≡ a.task)) us
    both [] k p = tt
    both (t ∷ us) k p = ((p.0, k.0.0), both us k.1 p.1)

-- an attempt has as many answers as its script has requests, one fewer where it stands at one
pub few-answers : (script : List ℕ → Tree) (most : ℕ) (a : Act) (t : Try) → IsAllowed script most a.task → IsPlayed script t → t.task ≡ a.task → length t.answers + asking-one (stop (script t.task.script) t.answers) ≤ most
few-answers script most a t allowed p same = answers-few most (script t.task.script) t.answers (subst (λ (x : Task). AsksAtMost most (script x.script)) (sym same) allowed.1) p.asked

led-size : (script : List ℕ → Tree) (most : ℕ) (a : Act) → IsLed script most a → size-act a ≤ a.task.tries * (most + 3)
led-size script most a k = act-size most a k.0.0 k.1 (answers a.tries k.2)
  where
    answers : (us : List Try) → Every (λ (t : Try). IsPlayed script t × (t.task ≡ a.task)) us → Every (λ (t : Try). length t.answers ≤ most) us
    answers [] h = tt
    answers (t ∷ us) h = let n = few-answers script most a t k.0 h.0.0 h.0.1 in (omega (arith, n), answers us h.1)

led-sizes : (script : List ℕ → Tree) (most : ℕ) (as' : List Act) → Every (IsLed script most) as' → Every (λ (a : Act). size-act a ≤ a.task.tries * (most + 3)) as'
led-sizes script most [] h = tt
led-sizes script most (a ∷ as') h = (led-size script most a h.0, led-sizes script most as' h.1)

module _ (p : CalmPlace) (most : ℕ) (asks : AskAtMost p.run most) where
  abbrev base : Base
  base = steps.b p.run

  abbrev w : World
  w = world_at p

  abbrev log : ℕ → List Effect
  log n = log_at p (broker n)

  module _ (n : ℕ) (known : (w.flags (broker n)).known ≡ true) where
    turn : TurnHolds base.script n base.run (tasks_of base n) (sent_by w) (desk_of base w n)
    turn = turn-there base w (calm-there p) (facts-there p) n known

    pub state-is : state base.script n base.run (tasks_of base n) (desk_of base w n) ≡ book (log n)
    state-is = ap book (kept base.script n base.run (tasks_of base n) (log n) turn.desk.tidy turn.ready.same_plan)

    no-past : (book (log n)).past ≡ []
    no-past = ap (λ (b : Book). b.past) (sym state-is) ∙ ((calm-there p).sound n).past

    allowed : Every (IsAllowed base.script most) (tasks_of base n)
    allowed = allowed-tasks base.script most (acts_of n base.acts)
        (every-filter (λ a. IsAllowed base.script most (task_of a)) (λ (a : ActSpec). a.broker == n) base.acts (allowed-acts base.script most p.run.plan.repositories p.run.plan.brokers 1 base.acts p.run.whole.acts asks))

    in-run : (book (log n)).run ≡ base.run → Every (IsLed base.script most) (book (log n)).acts × (tries-allowed (book (log n)).acts ≤ tries-given (tasks_of base n))
    in-run same =
        let s : Started (tasks_of base n) (book (log n)).acts = started base.script n base.run (tasks_of base n) (log n) turn.desk.tidy turn.ready.same_plan same in (
          led base.script most (book (log n)).run (tasks_of base n) (book (log n)).acts allowed s
              (every-left IsSpare (book (log n)).acts (book (log n)).past (spare base.script n (log n) turn.desk.tidy)) (kin (log n))
              (own-tries (IsPlayed base.script) (book (log n)).acts (book (log n)).past (played base.script n (log n) turn.desk.tidy)),
          started-few (tasks_of base n) (book (log n)).acts s,
        )

    -- all acts of the book are led, and have no more attempts than the broker's tasks
    pub all-led : Every (IsLed base.script most) (book (log n)).acts × (tries-allowed (book (log n)).acts ≤ tries-given (tasks_of base n))
    all-led = go (nat_lt (book (log n)).run base.run) refl
      where
        go : (c : Bool) → nat_lt (book (log n)).run base.run ≡ c → Every (IsLed base.script most) (book (log n)).acts × (tries-allowed (book (log n)).acts ≤ tries-given (tasks_of base n))
        go true e =
            let none : (book (log n)).acts ≡ [] = ap (λ (b : Book). b.acts) (sym state-is) ∙ ((calm-there p).sound n).early (subst (λ (b : Book). nat_lt b.run base.run ≡ true) (sym state-is) e) in
            subst (λ as'. Every (IsLed base.script most) as' × (tries-allowed as' ≤ tries-given (tasks_of base n))) (sym none) (tt, omega arith)
        go false e = in-run (same-run (book (log n)).run base.run e (subst (λ (b : Book). nat_lt base.run b.run ≡ false) state-is turn.ready.not_old))

    -- the acts have no more effects than their attempts allow
    acts-few : size-acts ((book (log n)).acts ++ (book (log n)).past) ≤ tries_in base.acts * (most + 3)
    acts-few =
        let join : size-acts ((book (log n)).acts ++ (book (log n)).past) ≡ size-acts (book (log n)).acts = ap (λ past. size-acts ((book (log n)).acts ++ past)) no-past ∙ ap size-acts (append-nil (book (log n)).acts) in
        let share : size-acts (book (log n)).acts ≤ tries-allowed (book (log n)).acts * (most + 3) =
        acts-share size-act (most + 3) (book (log n)).acts (led-sizes base.script most (book (log n)).acts all-led.0) size-acts refl (λ a more. refl) in
        omega (arith, join, share, mul-mono (tries-allowed (book (log n)).acts) (tries_in base.acts) (most + 3) (omega (arith, tasks-few (λ (a : ActSpec). a.broker == n) base.acts, all-led.1)))

    one-run : begun-run base.run (book (log n)) ≤ 1
    one-run = elim ((book (log n)).run == base.run) as (λ c. one-if c ≤ 1) [ true ↦ omega arith | false ↦ omega arith ]

    pub known-few : length (log n) ≤ 1 + tries_in base.acts * (most + 3)
    known-few = omega (arith, log-size base.script n base.run (log n) turn.desk.tidy (only-runs p n), acts-few, one-run)

    pub known-pages : filled_by (log n) ≤ 1 + 17 * (tries_in base.acts * (most + 3))
    known-pages = omega (arith, log-pages base.script n base.run (log n) turn.desk.tidy (only-runs p n), acts-few, one-run)

  unknown-log : (m : _) → (w.flags m).known ≡ false → log_at p m ≡ []
  unknown-log m off = ap (λ (l : Life). reverse (walks.all_effects l)) ((calm-there p).outside m off)

  -- the log of a broker
  pub broker-few : (n : ℕ) → length (log n) ≤ 1 + tries_in base.acts * (most + 3)
  broker-few n = go (w.flags (broker n)).known refl
    where
      go : (c : Bool) → (w.flags (broker n)).known ≡ c → length (log n) ≤ 1 + tries_in base.acts * (most + 3)
      go true e = known-few n e
      go false e = subst (λ (l : List Effect). length l ≤ 1 + tries_in base.acts * (most + 3)) (sym (unknown-log (broker n) e)) (omega arith)

  pub broker-pages : (n : ℕ) → filled_by (log n) ≤ 1 + 17 * (tries_in base.acts * (most + 3))
  broker-pages n = go (w.flags (broker n)).known refl
    where
      go : (c : Bool) → (w.flags (broker n)).known ≡ c → filled_by (log n) ≤ 1 + 17 * (tries_in base.acts * (most + 3))
      go true e = known-pages n e
      go false e = subst (λ (l : List Effect). filled_by l ≤ 1 + 17 * (tries_in base.acts * (most + 3))) (sym (unknown-log (broker n) e)) (omega arith)
