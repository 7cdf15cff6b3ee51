-- What a repository has sent, owes, stores, holds and keeps is paid by the messages that it took, and each is taken once.
use Rattle.complete_law.proofs.Names.{Every, StampParts, same_node, same_node-refl, copies_of, Post, Hand, now, hand_at, accepts, on_learn, on_message, HeldHolds, begun-fine, on-learn-fine, take-fine, repository, count, Entry, Taking, Learning, Base, Life, Sending, World, leaving, numbered, sent_by, start_world, step, after_input, MayLearn, MayTake, Rule, times_taken, every-at, CalmPlace, CalmRun, IsPlain, IsUnstopped, world_at, ◌≡◌, ℕ, zero, suc, ◌+◌, ◌≤◌, ◌<◌, ◌==◌, min, Bool, true, false, List, [], ◌∷◌, ◌++◌, map, reverse, cond, refl, sym, ◌∙◌, ap, subst, Some, if◌then◌else◌, arith, slice_get, common_steps, false≢true}
use Rattle.world_core.specs.declared.entries.Entry.TheVariants as entry
use Rattle.world_core.specs.Walks as walks
use Rattle.complete_law.proofs.BrokerMoves.{node-there}
use Rattle.complete_law.proofs.Frames.{came-sent, grown-log}
use Rattle.complete_law.proofs.HandLoads.{learnt, measure, price, rest, taken, wt}
use Rattle.complete_law.proofs.Loads.{Fed, Kept, by-entry, if-from, load, load-append, sent-load}
use Rattle.complete_law.proofs.Places.{CalmWorld, log_of}
use Rattle.complete_law.proofs.RepositoryEntries.{hand-learns, hand-takes, life-hand}
use Rattle.complete_law.proofs.Steps as steps
use Rattle.complete_law.proofs.Steps.{Facts-at}

-- ---- what was taken, each message once

abbrev pub seen : ℕ → List ℕ → Bool
seen j [] = false
seen j (k ∷ ks) = if k == j then true else seen j ks

unseen : (j : ℕ) (ks : List ℕ) → count j ks ≡ 0 → seen j ks ≡ false
unseen j [] e = refl
unseen j (k ∷ ks) e = go (λ h. unseen j ks h) (k == j) refl
  where
    go : (count j ks ≡ 0 → seen j ks ≡ false) → (c : Bool) → (k == j) ≡ c → (if c then true else seen j ks) ≡ false
    go again c q = last c again (sym (ap (λ d. cond d 1 0 + count j ks) q) ∙ e)
      where
        last : (c : Bool) → (count j ks ≡ 0 → seen j ks ≡ false) → cond c 1 0 + count j ks ≡ 0 → (if c then true else seen j ks) ≡ false
        last true again h = absurd (omega (arith, h))
        last false again h = again (omega (arith, h))

module _ (g : Sending → ℕ) where
  -- what the messages that were taken bring; the first one has number j
  abbrev pub used : ℕ → List ℕ → List Sending → ℕ
  used j ks [] = 0
  used j ks (s ∷ ss) = if-from (seen j ks) (g s) + used (suc j) ks ss

  -- what all bring
  abbrev pub all : List Sending → ℕ
  all [] = 0
  all (s ∷ ss) = g s + all ss

  pub used-most : (j : ℕ) (ks : List ℕ) (ss : List Sending) → used j ks ss ≤ all ss
  used-most j ks [] = omega arith
  used-most j ks (s ∷ ss) = let k = used-most (suc j) ks ss in let i = (elim (seen j ks) as (λ c. if-from c (g s) ≤ g s) [ true ↦ omega arith | false ↦ omega arith ]) in omega (arith, k, i)

  used-append : (j : ℕ) (ks : List ℕ) (xs ys : List Sending) → used j ks xs ≤ used j ks (xs ++ ys)
  used-append j ks [] ys = omega arith
  used-append j ks (x ∷ xs) ys = let k = used-append (suc j) ks xs ys in omega (arith, k)

  used-grows : (j k : ℕ) (ks : List ℕ) (ss : List Sending) → used j ks ss ≤ used j (k ∷ ks) ss
  used-grows j k ks [] = omega arith
  used-grows j k ks (s ∷ ss) = let i = used-grows (suc j) k ks ss in let l = go (k == j) (seen j ks) in omega (arith, i, l)
    where
      go : (c d : Bool) → if-from d (g s) ≤ if-from (if c then true else d) (g s)
      go true true = omega arith
      go true false = omega arith
      go false d = omega arith

  used-takes : (j i : ℕ) (ks : List ℕ) (ss : List Sending) (s : Sending) → slice_get ss i ≡ Some s → seen (j + i) ks ≡ false → used j ks ss + g s ≤ used j ((j + i) ∷ ks) ss
  used-takes j i ks [] s e n = absurd (cc e)
  used-takes j zero ks (x ∷ ss) s e n =
      let is : x ≡ s = cc e in
      let zero' : j + 0 ≡ j = omega arith in
      let off : seen j ks ≡ false = subst (λ m. seen m ks ≡ false) zero' n in
      let a : if-from (seen j ks) (g x) ≡ 0 = ap (λ c. if-from c (g x)) off in
      let same : ((j + 0) == j) ≡ true = grind (arith, common_steps) in
      let b : if-from (if (j + 0) == j then true else seen j ks) (g x) ≡ g x = ap (λ (c : Bool). if-from (if c then true else seen j ks) (g x)) same in
      let v : g x ≡ g s = ap g is in
      omega (arith, used-grows (suc j) (j + 0) ks ss, a, b, v)
  used-takes j (suc i) ks (x ∷ ss) s e n =
      let next : j + suc i ≡ suc j + i = omega arith in
      let k = used-takes (suc j) i ks ss s e (subst (λ m. seen m ks ≡ false) next n) in
      let same : used (suc j) ((j + suc i) ∷ ks) ss ≡ used (suc j) ((suc j + i) ∷ ks) ss = ap (λ m. used (suc j) (m ∷ ks) ss) next in
      omega (arith, k, same, go ((j + suc i) == j) (seen j ks))
    where
      go : (c d : Bool) → if-from d (g x) ≤ if-from (if c then true else d) (g x)
      go true true = omega arith
      go true false = omega arith
      go false d = omega arith

  abbrev pub used-in : World → ℕ
  used-in w = used 1 w.taken w.sendings

  pub used-on : (b : Base) (w : World) (e : Entry) → used-in w ≤ used-in (step b w e)
  used-on b w (entry.Take m k) = used-grows 1 k w.taken w.sendings
  used-on b w (entry.Gate m) = used-append 1 w.taken w.sendings (map (λ (p : Post). record { post = p; ticks = w.ticks }) (leaving w m))
  used-on b w (entry.Crash m k) = omega arith
  used-on b w (entry.Down m k) = omega arith
  used-on b w (entry.Tick m) = omega arith
  used-on b w e = omega arith

-- ---- one repository

module _ (a t s q : ℕ) where
  -- what a message that is taken brings it
  abbrev pub gain : ℕ → Sending → ℕ
  gain n x = if-from (same_node x.post.to (repository n)) (if-from (accepts n x.post.from x.post.message) (price a t s q x.post.message))

  -- what a life owes, stores, may ask for, holds and keeps
  abbrev pub owes : Life → ℕ
  owes l = load (wt a t s q) l.outs + rest a t s q (reverse (walks.all_effects l)) l.mind.hands.held l.mind.hands.askers

  module _ (r : CalmRun) where
    abbrev b : Base
    b = steps.b r

    -- THE INVARIANT: that, with what it has sent, is paid by what it took
    abbrev pub IsPaidFor : World → ℕ → Type 0
    IsPaidFor w n = sent-load (wt a t s q) (repository n) w.sendings + owes (w.life (repository n)) ≤ used-in (gain n) w

    module _ (w : World) (e : Entry) (f : Facts-at r w) (c : CalmWorld b w) (n : ℕ) (k : IsPaidFor w n) where
      abbrev w' : World
      w' = step b w e

      abbrev hand0 : Hand
      hand0 = hand_at n (log_of w (repository n)) (w.life (repository n)).mind.hands

      -- what it holds was sent by those who are to be answered
      reads : (w.flags (repository n)).up ≡ true → Every (HeldHolds (sent_by w) n) (w.life (repository n)).mind.hands.held
      reads up = subst (λ ever. Every (HeldHolds ever n) (w.life (repository n)).mind.hands.held) f.models.ever (node-there b w c f (repository n) (sym (c.ups (repository n)) ∙ up)).mind_ok

      kept-paid : Kept w w' (repository n) → IsPaidFor w' n
      kept-paid same =
          let y : rest a t s q (log_of w' (repository n)) (w'.life (repository n)).mind.hands.held (w'.life (repository n)).mind.hands.askers ≡ rest a t s q (log_of w (repository n)) (w.life (repository n)).mind.hands.held (w.life (repository n)).mind.hands.askers =
          ap (λ z. rest a t s q z (w'.life (repository n)).mind.hands.held (w'.life (repository n)).mind.hands.askers) same.log ∙ ap (λ m. rest a t s q (log_of w (repository n)) m.hands.held m.hands.askers) same.mind in
          omega (arith, k, same.issued (wt a t s q), y, used-on (gain n) b w e)

      -- a turn
      turn-paid : (h : Hand) (most : ℕ) (l : Life) → l ≡ life-hand (w.life (repository n)) h → h.past ≡ log_of w (repository n) → Fed w w' (repository n) l → measure a t s q h ≤ measure a t s q hand0 + most →
          used-in (gain n) w + most ≤ used-in (gain n) w' → IsPaidFor w' n
      turn-paid h most l is base fed costs more =
          let x : owes (w'.life (repository n)) ≡ owes (life-hand (w.life (repository n)) h) = ap owes (fed.life ∙ is) in
          let z : sent-load (wt a t s q) (repository n) w'.sendings ≡ sent-load (wt a t s q) (repository n) w.sendings = ap (sent-load (wt a t s q) (repository n)) fed.sendings in
          let m : rest a t s q (reverse (walks.all_effects (life-hand (w.life (repository n)) h))) h.held h.askers ≡ rest a t s q (now h) h.held h.askers =
          ap (λ g. rest a t s q g h.held h.askers) (grown-log (w.life (repository n)).gated (w.life (repository n)).fresh h.added ∙ ap (λ g. h.added ++ g) (sym base)) in
          omega (arith, k, costs, more, x, load-append (wt a t s q) (w.life (repository n)).outs h.outs, z, m)

      once : (number : ℕ) (may : MayTake (steps.fates r) w (repository n) number) → seen number w.taken ≡ false
      once number may = unseen number w.taken (zero-of (times_taken w number) (one number may.fated) may.fewer)
        where
          one : (m : ℕ) → numbered (steps.fates r) m ≡ Some may.fate → copies_of may.fate ≡ 1
          one zero e = absurd (cc e)
          one (suc m) e = let x = every-at IsPlain (steps.fates r) m may.fate r.plain e in ap (λ k. min k 3) x.0

          zero-of : (x : ℕ) → copies_of may.fate ≡ 1 → x < copies_of may.fate → x ≡ 0
          zero-of x p h = let l : x < 1 = subst (λ m. x < m) p h in omega (arith, l)

      brings : (number : ℕ) (x : Sending) → numbered w.sendings number ≡ Some x → seen number w.taken ≡ false → used-in (gain n) w + gain n x ≤ used (gain n) 1 (number ∷ w.taken) w.sendings
      brings zero x e off = absurd (cc e)
      brings (suc i) x e off =
          let next : suc i ≡ 1 + i = omega arith in
          let k = used-takes (gain n) 1 i w.taken w.sendings x e (subst (λ m. seen m w.taken ≡ false) next off) in
          let same : used (gain n) 1 (suc i ∷ w.taken) w.sendings ≡ used (gain n) 1 ((1 + i) ∷ w.taken) w.sendings = ap (λ m. used (gain n) 1 (m ∷ w.taken) w.sendings) next in
          omega (arith, k, same)

      take-case : (number : ℕ) (may : MayTake (steps.fates r) w (repository n) number) → w'.taken ≡ number ∷ w.taken → (w'.flags (repository n)).gone ≡ (w.flags (repository n)).gone →
          Fed w w' (repository n) (after_input b (repository n) (w.life (repository n)) (Taking may.sending.post.from may.sending.post.message)) → IsPaidFor w' n
      take-case number may ks gone fed =
          let sent = came-sent b w c (repository n) number (steps.fates r) may in
          let base = (take-fine (sent_by w) n (log_of w (repository n)) hand0 may.sending.post.from may.sending.post.message sent (begun-fine (sent_by w) n (log_of w (repository n)) (w.life (repository n)).mind.hands (reads may.up))).past in
          let to : same_node may.sending.post.to (repository n) ≡ true = subst (λ z. same_node z (repository n) ≡ true) (sym may.to) (same_node-refl (repository n)) in
          let worth : gain n may.sending ≡ if-from (accepts n may.sending.post.from may.sending.post.message) (price a t s q may.sending.post.message) =
          ap (λ c. if-from c (if-from (accepts n may.sending.post.from may.sending.post.message) (price a t s q may.sending.post.message))) to in
          let after : used-in (gain n) w' ≡ used (gain n) 1 (number ∷ w.taken) w.sendings = ap (λ ks. used (gain n) 1 ks w'.sendings) ks ∙ ap (used (gain n) 1 (number ∷ w.taken)) fed.sendings in
          turn-paid (on_message hand0 may.sending.post.from may.sending.post.message) (if-from (accepts n may.sending.post.from may.sending.post.message) (price a t s q may.sending.post.message))
          (after_input b (repository n) (w.life (repository n)) (Taking may.sending.post.from may.sending.post.message)) (hand-takes b w n may.sending.post.from may.sending.post.message) base fed
          (taken a t s q hand0 may.sending.post.from may.sending.post.message) (omega (arith, worth, brings number may.sending may.sent (once number may), after))

      learn-case : (x : StampParts) (d : Bool) → MayLearn w (repository n) x d → Fed w w' (repository n) (after_input b (repository n) (w.life (repository n)) (Learning x d)) → IsPaidFor w' n
      learn-case x d may fed =
          let base = (on-learn-fine (sent_by w) n (log_of w (repository n)) hand0 x d (begun-fine (sent_by w) n (log_of w (repository n)) (w.life (repository n)).mind.hands (reads may.up))).past in
          let l = learnt a t s q hand0 x d in
          turn-paid (on_learn hand0 x d) 0 (after_input b (repository n) (w.life (repository n)) (Learning x d)) (hand-learns b w n x d) base fed (omega (arith, l)) (omega (arith, used-on (gain n) b w e))

      paid-case : IsUnstopped e → Rule b (steps.fates r) w e → IsPaidFor w' n
      paid-case p rule = by-entry r w f c (IsPaidFor w' n) e (repository n) p rule (record { kept = kept-paid; takes = take-case; goes = λ may gone fed. absurd (false≢true may.broker); learns = learn-case })

    start-paid : (n : ℕ) → IsPaidFor (start_world b) n
    start-paid n = let x : owes ((start_world b).life (repository n)) ≡ 0 = ap owes (steps.empty-life r (repository n)) in omega (arith, x)

  -- at each place
  pub all-paid : (p : CalmPlace) (n : ℕ) → IsPaidFor p.run (world_at p) n
  all-paid p = steps.always p (λ w. (n : ℕ) → IsPaidFor p.run w n) (start-paid p.run) (λ w e f c q rule k n. paid-case p.run w e f c n (k n) q rule)
