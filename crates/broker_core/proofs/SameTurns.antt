-- Two readings of the scripts of a broker's acts give the same turns.
use Rattle.broker_core.proofs.Names.{Every, same_stamp, Effect, Outcome, Stop, Asks, Over, Tree, stop, Heard, Reply, Ignored, Hears, Adds, ResumeFault, is_time, is_stamp, Task, Try, Act, Book, book, open_try, open_of, open_front, if_open, last_try, time_of, stop_of, reads_now, writes_now, fits_got, fits_acked, counts, add_if, keep, unfit_act, other_plan, first_some, resume_fault, plan_fault, is_none, Stage, Idle, Refused, Opening, Closing, stage, stage_of, by_last, by_stop, is_finished, standing, is_asking, no_answer, is_closed, owed, by_stage, row, when, decided_early, news, Desk, all_effects, note, hears, send, note_if, fuel, state, settle_up, say, reply, Hear, Take, Started, OfAct, Sound, ◌≡◌, ℕ, zero, suc, ◌+◌, ◌==◌, Bool, true, false, ◌&&◌, length, List, [], ◌∷◌, refl, sym, ◌∙◌, ap, subst, Option, Some, None, if◌then◌else◌, eqb-true, slice_get, nat_lt, ◌||◌, News, Begun, Answered, Refusal, Over_there, Decided, Nothing_new, desk_turn, Input, Go}
use Rattle.broker_ledger.specs.Effect.TheVariants as effect
use Rattle.broker_ledger.specs.Ending.TheVariants as ending
use Rattle.broker_ledger.specs.declared.resume_faults.ResumeFault.TheVariants as fault
use Rattle.broker_ledger.proofs.SoundLemmas.{sound-kept}

if-same : {A : Type 0} (c : Bool) (x y z : A) → (c ≡ true → x ≡ y) → (if c then x else z) ≡ (if c then y else z)
if-same true x y z h = h refl
if-same false x y z h = refl

open-is : (u : Try) (o : Option Outcome) (t : Try) → if_open u o ≡ Some t → u ≡ t
open-is u None t h = cc
open-is u (Some o) t h = cc

module _ (s s' : List ℕ → Tree) (me run : ℕ) (plan : List Task) (agree : (i : ℕ) (t : Task) → slice_get plan i ≡ Some t → s t.script ≡ s' t.script) where
  -- ---- where scripts stop

  front-same : (task : Task) (r : ℕ) (ts : List Try) → Every (λ (t : Try). (t.task ≡ task) × (t.run ≡ r)) ts → s task.script ≡ s' task.script → (t : Try) → open_front ts ≡ Some t → stop_of s t ≡ stop_of s' t
  front-same task r [] h e t k = cc
  front-same task r (u ∷ ts) h e t k =
      let i : u ≡ t = open-is u u.end t k in
      let j : s t.task.script ≡ s' t.task.script = subst (λ (v : Try). s v.task.script ≡ s' v.task.script) i (subst (λ (x : Task). s x.script ≡ s' x.script) (sym h.0.0) e) in
      ap (λ k. stop k t.answers) j

  acts-same : (acts : List Act) → Started plan acts → Every OfAct acts → (t : Try) → open_of acts ≡ Some t → stop_of s t ≡ stop_of s' t
  acts-same [] h k t e = cc
  acts-same (a ∷ done) h k t e = front-same a.task a.run a.tries k.0 (agree (length done) a.task h.1) t e

  open-same : (b : Book) → Sound run plan b → b.run ≡ run → (t : Try) → open_try b ≡ Some t → stop_of s t ≡ stop_of s' t
  open-same b h r t e = acts-same b.acts (h.started r) (h.of_acts r) t e

  -- ---- what counts

  got-same : (k : ℕ) (o : Option Try) → ((t : Try) → o ≡ Some t → stop_of s t ≡ stop_of s' t) → fits_got s k o ≡ fits_got s' k o
  got-same k None h = refl
  got-same k (Some t) h = ap (λ st. (k == length t.answers + 1) && reads_now st) (h t refl)

  acked-same : (k : ℕ) (o : Option Try) → ((t : Try) → o ≡ Some t → stop_of s t ≡ stop_of s' t) → fits_acked s k o ≡ fits_acked s' k o
  acked-same k None h = refl
  acked-same k (Some t) h = ap (λ st. (k == length t.answers + 1) && writes_now st) (h t refl)

  counts-same : (b : Book) (f : Effect) → Sound run plan b → counts s me run plan b f ≡ counts s' me run plan b f
  counts-same b (effect.Run n) h = refl
  counts-same b (effect.Act i x t k c y) h = refl
  counts-same b (effect.Try i x) h = refl
  counts-same b (effect.Got k v) h = if-same (b.run == run) _ _ true (λ r. got-same k (open_try b) (open-same b h (eqb-true _ _ r)))
  counts-same b (effect.Acked k) h = if-same (b.run == run) _ _ true (λ r. acked-same k (open_try b) (open-same b h (eqb-true _ _ r)))
  counts-same b f h = refl

  pub keep-same : (log : List Effect) → keep s me run plan log ≡ keep s' me run plan log
  unfolding keep
  keep-same [] = refl
  keep-same (f ∷ log) =
      let kept : List Effect = keep s me run plan log in
      ap (λ c. add_if c f kept) (counts-same (book kept) f (sound-kept s me run plan log))
      ∙ ap (λ k. add_if (counts s' me run plan (book k) f) f k) (keep-same log)

  pub book-same : (log : List Effect) → book (keep s me run plan log) ≡ book (keep s' me run plan log)
  book-same log = ap book (keep-same log)

  -- ---- stages

  of-open-same : (h : Heard) (o : Option Try) (last : Option Try) → ((t : Try) → o ≡ Some t → stop_of s t ≡ stop_of s' t) → stage_of s h o last ≡ stage_of s' h o last
  of-open-same h None last k = refl
  of-open-same h (Some t) last k =
      ap (λ st. if is_asking st && is_time h.ended (time_of t) then Refused t
      else (if no_answer t && (if is_stamp h.begun t.stamp then false else true) then Opening t else by_stop t st)) (k t refl)

  pub stage-same : (b : Book) (h : Heard) → Sound run plan b → stage s run b h ≡ stage s' run b h
  stage-same b h k = if-same (b.run == run) _ _ Idle (λ r. of-open-same h (open_try b) (last_try b) (open-same b k (eqb-true _ _ r)))

  -- ---- what is owed and heard

  owed-same : (b : Book) (h : Heard) → Sound run plan b → owed s me run plan b h ≡ owed s' me run plan b h
  owed-same b h k = ap (λ st. if nat_lt b.run run then Some (effect.Run run) else by_stage me plan h b st) (stage-same b h k)

  state-same : (d : Desk) → state s me run plan d ≡ state s' me run plan d
  state-same d = book-same (all_effects d)

  sound-state : (d : Desk) → Sound run plan (state s me run plan d)
  sound-state d = sound-kept s me run plan (all_effects d)

  next-same : (d : Desk) → owed s me run plan (state s me run plan d) d.heard ≡ owed s' me run plan (state s' me run plan d) d.heard
  next-same d = owed-same (state s me run plan d) d.heard (sound-state d) ∙ ap (λ b. owed s' me run plan b d.heard) (state-same d)

  note-same : (f g : Desk → Desk) → ((d : Desk) → f d ≡ g d) → (o : Option Effect) (d : Desk) → note_if f o d ≡ note_if g o d
  note-same f g h None d = refl
  note-same f g h (Some e) d = h (note e d)

  settle-same : (n : ℕ) (d : Desk) → settle_up s me run plan n d ≡ settle_up s' me run plan n d
  unfolding settle_up
  settle-same zero d = refl
  settle-same (suc n) d =
      note-same (settle_up s me run plan n) (settle_up s' me run plan n) (settle-same n) (owed s me run plan (state s me run plan d) d.heard) d
      ∙ ap (λ o. note_if (settle_up s' me run plan n) o d) (next-same d)

  standing-same : (d : Desk) → stage s run (state s me run plan d) d.heard ≡ stage s' run (state s' me run plan d) d.heard
  standing-same d = stage-same (state s me run plan d) d.heard (sound-state d) ∙ ap (λ b. stage s' run b d.heard) (state-same d)

  say-same : (d : Desk) → say s me run plan d ≡ say s' me run plan d
  say-same d = ap (λ st. send (standing st) d) (standing-same d)

  both-same : (d : Desk) → say s me run plan (settle_up s me run plan (fuel plan) d) ≡ say s' me run plan (settle_up s' me run plan (fuel plan) d)
  both-same d = say-same (settle_up s me run plan (fuel plan) d) ∙ ap (say s' me run plan) (settle-same (fuel plan) d)

  reply-same : (d : Desk) (r : Reply) → reply s me run plan d r ≡ reply s' me run plan d r
  reply-same d Ignored = refl
  reply-same d (Hears h) = both-same (hears h d)
  reply-same d (Adds f) = both-same (note f d)

  -- ---- rows

  abbrev AtOpening : Stage → Type 0
  AtOpening st = (t : Try) → st ≡ Opening t → stop_of s t ≡ stop_of s' t

  row-same : (st : Stage) (h : Heard) (n : News) → AtOpening st → row s st h n ≡ row s' st h n
  row-same (Opening t) h (Begun x) k = refl
  row-same (Opening t) h (Answered x a) k = refl
  row-same (Opening t) h (Refusal x e c) k = refl
  row-same (Opening t) h (Over_there x) k = refl
  row-same (Opening t) h (Decided x d) k = ap (λ st. when (same_stamp t.stamp x) (decided_early (is_finished st) t d)) (k t refl)
  row-same (Opening t) h Nothing_new k = refl
  row-same Idle h n k = refl
  row-same x h n k = refl

  -- an attempt that opens is the open one
  by-stop-not : (u : Try) (st : Stop) (t : Try) → by_stop u st ≡ Opening t → u ≡ t
  by-stop-not u (Asks q) t h = cc
  by-stop-not u (Over ending.Finished) t h = cc
  by-stop-not u (Over (ending.Withdrawn l)) t h = cc
  by-stop-not u (Over (ending.Failed l k)) t h = cc

  of-open-is : (u : Try) (a c : Bool) (st : Stop) (t : Try) → (if a then Refused u else (if c then Opening u else by_stop u st)) ≡ Opening t → u ≡ t
  of-open-is u true c st t h = cc
  of-open-is u false true st t h = cc
  of-open-is u false false st t h = by-stop-not u st t h

  if-not : (c : Bool) (u t : Try) → (if c then Idle else Closing u) ≡ Opening t → ⊥
  if-not true u t e = absurd (cc e)
  if-not false u t e = absurd (cc e)

  last-not : (h : Heard) (last : Option Try) (t : Try) → by_last h last ≡ Opening t → ⊥
  last-not h None t e = absurd (cc e)
  last-not h (Some u) t e = if-not (is_none u.end || is_closed h u) u t e

  opens-open : (h : Heard) (o last : Option Try) (t : Try) → stage_of s' h o last ≡ Opening t → o ≡ Some t
  opens-open h None last t e = absurd (last-not h last t e)
  opens-open h (Some u) last t e = ap (λ (v : Try). Some v) (of-open-is u _ _ (stop_of s' u) t e)

  opening-by : (c : Bool) (st : Stage) (t : Try) → (if c then st else Idle) ≡ Opening t → (c ≡ true) × (st ≡ Opening t)
  opening-by true st t e = (refl, e)
  opening-by false st t e = absurd (cc e)

  at-opening : (b : Book) (h : Heard) → Sound run plan b → AtOpening (stage s' run b h)
  at-opening b h k t e =
      let p = opening-by (b.run == run) _ t e in
      open-same b k (eqb-true _ _ p.0) t (opens-open h (open_try b) (last_try b) t p.1)

  heard-same : (d : Desk) (n : News) → row s (stage s run (state s me run plan d) d.heard) d.heard n ≡ row s' (stage s' run (state s' me run plan d) d.heard) d.heard n
  heard-same d n =
      ap (λ st. row s st d.heard n) (stage-same (state s me run plan d) d.heard (sound-state d))
      ∙ row-same (stage s' run (state s me run plan d) d.heard) d.heard n (at-opening (state s me run plan d) d.heard (sound-state d))
      ∙ ap (λ b. row s' (stage s' run b d.heard) d.heard n) (state-same d)

  pub desk-same : (d : Desk) (i : Input) → desk_turn s me run plan d i ≡ desk_turn s' me run plan d i
  desk-same d Go = both-same (hears (record d.heard { gone = true }) d)
  desk-same d (Hear m) = say-same d
  desk-same d (Take from m) =
      reply-same d (row s (stage s run (state s me run plan d) d.heard) d.heard (news m))
      ∙ ap (reply s' me run plan d) (heard-same d (news m))

  -- ---- opening

  unfit-same : (b : Book) (f : Effect) → unfit_act s me run plan b f ≡ unfit_act s' me run plan b f
  unfit-same b (effect.Run n) = refl
  unfit-same b f = refl

  other-same : (log : List Effect) → other_plan s me run plan log ≡ other_plan s' me run plan log
  unfolding other_plan
  other-same [] = refl
  other-same (f ∷ log) =
      ap (λ x. first_some x (unfit_act s me run plan (book (keep s me run plan log)) f)) (other-same log)
      ∙ ap (first_some (other_plan s' me run plan log)) (unfit-same (book (keep s me run plan log)) f)
      ∙ ap (λ b. first_some (other_plan s' me run plan log) (unfit_act s' me run plan b f)) (book-same log)

  abbrev fault-by : Book → Option ℕ → Option ResumeFault
  fault-by b o = if nat_lt run b.run then Some (fault.OldRun b.run) else (if b.run == run then plan_fault o else None)

  pub fault-same : (log : List Effect) → resume_fault s me run plan log ≡ resume_fault s' me run plan log
  fault-same log =
      ap (λ x. fault-by (book (keep s me run plan log)) x) (other-same log) ∙ ap (λ b. fault-by b (other_plan s' me run plan log)) (book-same log)
