-- What a broker has sent and owes is paid by its attempts, and those have no more than the plan allows.
use Rattle.complete_law.proofs.Names.{Every, Effect, Outcome, Answer, Stop, Asks, Over, Tree, Heard, Act, Book, Try, book, tries_of, keep, stop_of, broker, desk_at, state, ToRead, ToWrite, EndsBy, IsPlayed, Entry, Going, Taking, Base, Life, World, sent_by, start_world, step, after_input, Rule, MayGo, MayTake, AskAtMost, CalmPlace, CalmRun, IsUnstopped, log_at, world_at, ◌≡◌, ℕ, ◌+◌, ◌*◌, ◌≤◌, Bool, true, false, length, List, [], ◌∷◌, ◌++◌, reverse, refl, sym, ◌∙◌, ap, Option, Some, None, inl, inr, if◌then◌else◌, arith, true≢false}
use Rattle.effect_form.specs.declared.outcomes.Outcome.TheVariants as outcome
use Rattle.broker_core.specs.Turns as desks
use Rattle.world_core.specs.Walks as walks
use Rattle.complete_law.proofs.BrokerBounds.{IsAllowed, IsLed, all-led, few-answers, state-is}
use Rattle.complete_law.proofs.BrokerMoves as moves
use Rattle.complete_law.proofs.Costs as costs
use Rattle.complete_law.proofs.Costs.{ac, is-fresh, at-stop, old, pos, pos-by, rank, refused, weight}
use Rattle.complete_law.proofs.Frames.{desk-after, goes, life-with, takes, turned}
use Rattle.complete_law.proofs.Loads.{Fed, Kept, by-entry, issued, load, load-append, sent-load}
use Rattle.complete_law.proofs.Places.{CalmWorld, IsBegun, IsDecided, desk_of, log_of, tasks_of}
use Rattle.complete_law.proofs.Shares.{acts-share, asking-one, mul-mono, mul-plus, tries-allowed, tries-given}
use Rattle.complete_law.proofs.Steps as steps
use Rattle.complete_law.proofs.Steps.{Facts-at}

module _ (u v z : ℕ) (r : CalmRun) where
  abbrev b : Base
  b = steps.b r

  -- what the attempts of a log have paid
  abbrev pub paid-of : ℕ → List Effect → Heard → ℕ
  paid-of n log h = rank u v z b.script h (tries_of (state b.script n b.run (tasks_of b n) (desk_at log h)).acts)

  -- THE INVARIANT: what a broker has sent and owes is paid
  abbrev pub IsPaid : World → ℕ → Type 0
  IsPaid w n = ((w.flags (broker n)).gone ≡ false → (log_of w (broker n) ≡ []) × (issued (weight u v z) w (broker n) ≡ 0)) × (issued (weight u v z) w (broker n) ≤ paid-of n (log_of w (broker n)) (w.life (broker n)).mind.heard)

  no-acts : (n : ℕ) (log : List Effect) (h : Heard) → log ≡ [] → (state b.script n b.run (tasks_of b n) (desk_at log h)).acts ≡ []
  unfolding keep book
  no-acts n log h e = ap (λ l. (book (keep b.script n b.run (tasks_of b n) l)).acts) e

  pub empty-paid : (n : ℕ) (log : List Effect) (h : Heard) → log ≡ [] → paid-of n log h ≡ 0
  empty-paid n log h e = ap (λ as'. rank u v z b.script h (tries_of as')) (no-acts n log h e)

  module _ (w : World) (e : Entry) (f : Facts-at r w) (c : CalmWorld b w) (n : ℕ) (k : IsPaid w n) where
    abbrev w' : World
    w' = step b w e

    kept-paid : Kept w w' (broker n) → IsPaid w' n
    kept-paid same =
        let sent = same.issued (weight u v z) in
        let p : paid-of n (log_of w' (broker n)) (w'.life (broker n)).mind.heard ≡ paid-of n (log_of w (broker n)) (w.life (broker n)).mind.heard =
        ap (λ log. paid-of n log (w'.life (broker n)).mind.heard) same.log ∙ ap (λ m. paid-of n (log_of w (broker n)) m.heard) same.mind in
        ((λ g. let x = k.0 (sym same.gone ∙ g) in let y = x.1 in (same.log ∙ x.0, omega (arith, sent, y))), omega (arith, sent, k.1, p))

    -- a turn pays what it says
    turn-paid : (i : desks.Input) (l : Life) → l ≡ life-with b (w.life (broker n)) (turned b w n i) → Fed w w' (broker n) l →
        issued (weight u v z) w (broker n) + load (weight u v z) (turned b w n i).outs ≤ rank u v z b.script (turned b w n i).heard (tries_of (state b.script n b.run (tasks_of b n) (turned b w n i)).acts) →
        issued (weight u v z) w' (broker n) ≤ paid-of n (log_of w' (broker n)) (w'.life (broker n)).mind.heard
    turn-paid i l is fed paid =
        let now : w'.life (broker n) ≡ life-with b (w.life (broker n)) (turned b w n i) = fed.life ∙ is in
        let x : load (weight u v z) (w'.life (broker n)).outs ≡ load (weight u v z) ((w.life (broker n)).outs ++ (turned b w n i).outs) = ap (λ (y : Life). load (weight u v z) y.outs) now in
        let y = load-append (weight u v z) (w.life (broker n)).outs (turned b w n i).outs in
        let s : sent-load (weight u v z) (broker n) w'.sendings ≡ sent-load (weight u v z) (broker n) w.sendings = ap (sent-load (weight u v z) (broker n)) fed.sendings in
        let p : paid-of n (log_of w' (broker n)) (w'.life (broker n)).mind.heard ≡ paid-of n (desks.all_effects (turned b w n i)) (turned b w n i).heard =
        ap (λ (y : Life). paid-of n (reverse (walks.all_effects y)) y.mind.heard) now ∙ ap (λ z'. paid-of n z' (turned b w n i).heard) (desk-after b w n i).0 in
        omega (arith, paid, x, y, s, p)

    take-case : (number : ℕ) (may : MayTake (steps.fates r) w (broker n) number) → w'.taken ≡ number ∷ w.taken → (w'.flags (broker n)).gone ≡ (w.flags (broker n)).gone →
        Fed w w' (broker n) (after_input b (broker n) (w.life (broker n)) (Taking may.sending.post.from may.sending.post.message)) → IsPaid w' n
    take-case number may taken gone fed = (
      (λ g. absurd (true≢false (sym (may.gone refl) ∙ sym gone ∙ g))),
      turn-paid (desks.Take may.sending.post.from may.sending.post.message) (after_input b (broker n) (w.life (broker n)) (Taking may.sending.post.from may.sending.post.message)) (takes b w n may.sending.post.from may.sending.post.message) fed
          (costs.take-paid u v z b.script n b.run (tasks_of b n) (IsBegun w) (IsDecided w) (issued (weight u v z) w (broker n)) (sent_by w) (desk_of b w n) may.sending.post.from may.sending.post.message refl
          (may.sending.post.from, moves.was-sent b w c f n number (steps.fates r) may) (moves.tells b w c f n number (steps.fates r) may) (c.sound n) k.1),
    )

    go-case : MayGo w (broker n) → (w'.flags (broker n)).gone ≡ true → Fed w w' (broker n) (after_input b (broker n) (w.life (broker n)) Going) → IsPaid w' n
    go-case may gone fed =
        let new = k.0 may.fresh in (
          (λ g. absurd (true≢false (sym gone ∙ g))),
          turn-paid desks.Go (after_input b (broker n) (w.life (broker n)) Going) (goes b w n) fed
              (let x = costs.go-paid u v z b.script n b.run (tasks_of b n) (IsBegun w) (IsDecided w) (desk_of b w n) refl (c.sound n) (no-acts n (log_of w (broker n)) (w.life (broker n)).mind.heard new.0) in let y = new.1 in omega (arith, x, y)),
        )

    paid-case : IsUnstopped e → Rule b (steps.fates r) w e → IsPaid w' n
    paid-case q rule = by-entry r w f c (IsPaid w' n) e (broker n) q rule (record { kept = kept-paid; takes = take-case; goes = go-case; learns = λ s d may fed. absurd (true≢false may.repository) })

  start-paid : (n : ℕ) → IsPaid (start_world b) n
  start-paid n =
      let x : load (weight u v z) ((start_world b).life (broker n)).outs ≡ 0 = ap (λ (l : Life). load (weight u v z) l.outs) (steps.empty-life r (broker n)) in
      ((λ g. (ap (λ (l : Life). reverse (walks.all_effects l)) (steps.empty-life r (broker n)), omega (arith, x))), omega (arith, x))

-- at each place
pub all-paid : (u v z : ℕ) (p : CalmPlace) (n : ℕ) → IsPaid u v z p.run (world_at p) n
all-paid u v z p = steps.always p (λ w. (n : ℕ) → IsPaid u v z p.run w n) (start-paid u v z p.run) (λ w e f c q rule k n. paid-case u v z p.run w e f c n (k n) q rule)

-- ---- what attempts may pay

module _ (u v z most : ℕ) (script : List ℕ → Tree) where
  abbrev pub fee : ℕ
  fee = u + (most * v + z)

  ac-is : (ans : List Answer) → ac u v z script ans ≡ length ans * v
  ac-is [] = omega arith
  ac-is (a ∷ ans) = let k = ac-is ans in omega (arith, k)

  requests-fee : (k x : ℕ) → k + x ≤ most → k * v + x * v ≤ most * v
  requests-fee k x h = let m = mul-mono (k + x) most v h in let p = mul-plus k x v in omega (arith, m, p)

  stop-fee : (t : Try) (s : Stop) → length t.answers + asking-one s ≤ most → at-stop u v z script t s ≤ fee
  stop-fee t (Asks q) h = let k = ac-is t.answers in let m = requests-fee (length t.answers) 1 h in omega (arith, k, m)
  stop-fee t (Over e) h = let k = ac-is t.answers in let m = requests-fee (length t.answers) 0 h in omega (arith, k, m)

  refused-fee : (t : Try) (o : Outcome) → IsPlayed script t → t.end ≡ Some o → length t.answers + asking-one (stop_of script t) ≤ most → ac u v z script t.answers + refused u v z script o ≤ most * v
  refused-fee t o played e h = go o (played.ends o e)
    where
      plain : ac u v z script t.answers + 0 ≤ most * v
      plain = let k = ac-is t.answers in let m = requests-fee (length t.answers) (asking-one (stop_of script t)) h in omega (arith, k, m)

      asked : (q : _) → stop_of script t ≡ Asks q → ac u v z script t.answers + v ≤ most * v
      asked q e = let k = ac-is t.answers in let j : asking-one (stop_of script t) ≡ 1 = ap asking-one e in let m = requests-fee (length t.answers) 1 (omega (arith, h, j)) in omega (arith, k, m)

      go : (o : Outcome) → EndsBy script t o → ac u v z script t.answers + refused u v z script o ≤ most * v
      go (outcome.LaterRead o x) (inl k) = asked (ToRead o) k
      go (outcome.LaterRead o x) (inr k) = asked (ToWrite o k.0) k.1
      go (outcome.LaterVersion o x) k = asked (ToWrite o k.0) k.1
      go (outcome.Expired d m) k = plain
      go (outcome.Spent x) k = plain
      go o k = plain

  try-fee : (t : Try) → IsPlayed script t → length t.answers + asking-one (stop_of script t) ≤ most → pos u v z script true t ≤ fee
  try-fee t played h = go t.end refl
    where
      go : (e : Option Outcome) → t.end ≡ e → pos-by u v z script e true t ≤ fee
      go None e = elim (is-fresh u v z script true t) as (λ f. (if f then u else at-stop u v z script t (stop_of script t)) ≤ fee) [ true ↦ omega arith | false ↦ stop-fee t (stop_of script t) h ]
      go (Some o) e = let k = refused-fee t o played e h in omega (arith, k)

  old-append : (ts us : List Try) → old u v z script (ts ++ us) ≡ old u v z script ts + old u v z script us
  old-append [] us = omega arith
  old-append (t ∷ ts) us = let k = old-append ts us in omega (arith, k)

  tries-fee : (a : Act) (ts : List Try) → IsAllowed script most a.task → Every (λ (t : Try). IsPlayed script t × (t.task ≡ a.task)) ts → old u v z script ts ≤ length ts * fee
  tries-fee a [] allowed h = omega arith
  tries-fee a (t ∷ ts) allowed h = let k = tries-fee a ts allowed h.1 in let j = try-fee t h.0.0 (few-answers script most a t allowed h.0.0 h.0.1) in omega (arith, k, j)

  act-fee : (a : Act) → IsLed script most a → old u v z script a.tries ≤ a.task.tries * fee
  act-fee a k = omega (arith, tries-fee a a.tries k.0 k.2, mul-mono (length a.tries) a.task.tries fee (omega (arith, k.1, k.0.0)))

  acts-fee : (as' : List Act) → Every (IsLed script most) as' → Every (λ (a : Act). old u v z script a.tries ≤ a.task.tries * fee) as'
  acts-fee [] h = tt
  acts-fee (a ∷ as') h = (act-fee a h.0, acts-fee as' h.1)

  pub few-paid : (h : Heard) (as' : List Act) → Every (IsLed script most) as' → rank u v z script h (tries_of as') ≤ tries-allowed as' * fee
  few-paid h as' led =
      let y = costs.rank-old u v z script h (tries_of as') in
      omega (arith, acts-share (λ a. old u v z script a.tries) fee as' (acts-fee as' led) (λ bs. old u v z script (tries_of bs)) refl (λ a more. old-append a.tries (tries_of more)), y)

-- a broker sends no more than its acts allow
pub broker-issues : (u v z : ℕ) (p : CalmPlace) (most : ℕ) → AskAtMost p.run most → (n : ℕ) → issued (weight u v z) (world_at p) (broker n) ≤ tries-given (tasks_of (steps.b p.run) n) * fee u v z most (steps.b p.run).script
broker-issues u v z p most asks n = go ((world_at p).flags (broker n)).known refl
  where
    go : (c : Bool) → ((world_at p).flags (broker n)).known ≡ c → issued (weight u v z) (world_at p) (broker n) ≤ tries-given (tasks_of (steps.b p.run) n) * fee u v z most (steps.b p.run).script
    go true known =
        let led = all-led p most asks n known in
        let paid = (all-paid u v z p n).1 in
        let m = mul-mono (tries-allowed (book (log_at p (broker n))).acts) (tries-given (tasks_of (steps.b p.run) n)) (fee u v z most (steps.b p.run).script) led.1 in
        let same = ap (λ (x : Book). rank u v z (steps.b p.run).script ((world_at p).life (broker n)).mind.heard (tries_of x.acts)) (state-is p most asks n known) in
        omega (arith, paid, few-paid u v z most (steps.b p.run).script ((world_at p).life (broker n)).mind.heard (book (log_at p (broker n))).acts led.0, m, same)
    go false off =
        let paid = (all-paid u v z p n).1 in
        omega (arith, paid, empty-paid u v z p.run n (log_at p (broker n)) ((world_at p).life (broker n)).mind.heard (ap (λ (l : Life). reverse (walks.all_effects l)) ((steps.calm-there p).outside (broker n) off)))
