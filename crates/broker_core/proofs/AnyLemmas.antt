-- What the notes show of any book, also of an earlier run.
use Rattle.broker_core.proofs.Names.{ActSpec, Effect, Message, Tree, Given, Heard, Notes, Phase, tasks, Book, open_try, last_try, Stage, Idle, stage, stage_of, standing, row, news, owed, open_last, act_at, stop_at, index_of, timeout_of, phase_at, phase_by_open, standing_at, reply_at, owed_at, ◌≡◌, ℕ, ◌==◌, ◌≤◌, nat_lt, Bool, true, false, List, refl, sym, ◌∙◌, ap, subst, Option, Some, if◌then◌else◌, arith, common_steps, eqb-true}
use Rattle.broker_ledger.specs.Effect.TheVariants as effect
use Rattle.broker_core.specs.declared.phases.Phase.TheVariants as phase
use Rattle.broker_ledger.proofs.MeetLemmas.{Knows, meets}
use Rattle.broker_core.proofs.PhaseLemmas.{shown, phase-is, standing-is, none-stands}
use Rattle.broker_core.proofs.ReplyLemmas.{idle-is, reply-is}
use Rattle.broker_core.proofs.DueLemmas.{owed-is}

module _ (script : List ℕ → Tree) (run : ℕ) (acts : List ActSpec) where
  -- another run
  away : (n : Notes) (answers : List Given) (b : Book) (c : Bool) → Knows script run acts n answers b → (b.run == run) ≡ c → (n.run == run) ≡ c
  away n answers b c k e = ap (λ (x : ℕ). x == run) k.shows.run_is ∙ e

  idle-away : (n : Notes) (answers : List Given) (b : Book) (h : Heard) → Knows script run acts n answers b → (b.run == run) ≡ false → phase_at acts run n answers h ≡ phase.Idle
  idle-away n answers b h k e = ap (λ (c : Bool). if c then phase_by_open acts n answers h (open_last n) else phase.Idle) (away n answers b false k e)

  pub stage-away : (b : Book) (h : Heard) → (b.run == run) ≡ false → stage script run b h ≡ Idle
  stage-away b h e = ap (λ (c : Bool). if c then stage_of script h (open_try b) (last_try b) else Idle) e

  phase-by : (n : Notes) (answers : List Given) (b : Book) (h : Heard) (c : Bool) → Knows script run acts n answers b → (b.run == run) ≡ c → phase_at acts run n answers h ≡ shown (stage script run b h)
  phase-by n answers b h true k e = phase-is script run acts n answers b h (meets script run acts n answers b k (eqb-true b.run run e))
  phase-by n answers b h false k e = idle-away n answers b h k e ∙ sym (ap shown (stage-away b h e))

  pub phase-any : (n : Notes) (answers : List Given) (b : Book) (h : Heard) → Knows script run acts n answers b → phase_at acts run n answers h ≡ shown (stage script run b h)
  phase-any n answers b h k = phase-by n answers b h (b.run == run) k refl

  standing-by : (n : Notes) (answers : List Given) (b : Book) (h : Heard) (c : Bool) → Knows script run acts n answers b → (b.run == run) ≡ c → standing_at acts n (phase_at acts run n answers h) ≡ standing (stage script run b h)
  standing-by n answers b h true k e = standing-is script run acts n answers b h (meets script run acts n answers b k (eqb-true b.run run e))
  standing-by n answers b h false k e =
      ap (standing_at acts n) (idle-away n answers b h k e) ∙ (none-stands script run acts n.last (timeout_of (act_at acts n)) ∙ sym (ap standing (stage-away b h e)))

  pub standing-any : (n : Notes) (answers : List Given) (b : Book) (h : Heard) → Knows script run acts n answers b → standing_at acts n (phase_at acts run n answers h) ≡ standing (stage script run b h)
  standing-any n answers b h k = standing-by n answers b h (b.run == run) k refl

  reply-by : (n : Notes) (answers : List Given) (b : Book) (h : Heard) (m : Message) (c : Bool) → Knows script run acts n answers b → (b.run == run) ≡ c →
      reply_at acts n answers (phase_at acts run n answers h) h m ≡ row script (stage script run b h) h (news m)
  reply-by n answers b h m true k e = reply-is script run acts n answers b h m (meets script run acts n answers b k (eqb-true b.run run e))
  reply-by n answers b h m false k e =
      ap (λ (p : Phase). reply_at acts n answers p h m) (idle-away n answers b h k e)
      ∙ (idle-is script (index_of (act_at acts n)) (stop_at acts n answers) n.last h m ∙ sym (ap (λ (s : Stage). row script s h (news m)) (stage-away b h e)))

  pub reply-any : (n : Notes) (answers : List Given) (b : Book) (h : Heard) (m : Message) → Knows script run acts n answers b →
      reply_at acts n answers (phase_at acts run n answers h) h m ≡ row script (stage script run b h) h (news m)
  reply-any n answers b h m k = reply-by n answers b h m (b.run == run) k refl

  -- a later run isn't to be
  later-not : (m : ℕ) → m ≤ run → (m == run) ≡ false → nat_lt m run ≡ true
  later-not m h e = grind (arith, common_steps)

  owed-by : (me : ℕ) (n : Notes) (answers : List Given) (b : Book) (h : Heard) (c : Bool) → Knows script run acts n answers b → n.run ≤ run → (b.run == run) ≡ c →
      owed_at me acts run n h (phase_at acts run n answers h) ≡ owed script me run (tasks acts) b h
  owed-by me n answers b h true k l e = owed-is me acts script run n answers b h (meets script run acts n answers b k (eqb-true b.run run e))
  owed-by me n answers b h false k l e =
      let low : nat_lt n.run run ≡ true = later-not n.run l (away n answers b false k e) in
      let low' : nat_lt b.run run ≡ true = subst (λ (x : ℕ). nat_lt x run ≡ true) k.shows.run_is low in
      at-once (nat_lt n.run run) (nat_lt b.run run) _ _ low low'
    where
      at-once : (c d : Bool) (x y : Option Effect) → c ≡ true → d ≡ true → (if c then Some (effect.Run run) else x) ≡ (if d then Some (effect.Run run) else y)
      at-once true true x y p q = refl
      at-once true false x y p q = cc
      at-once false d x y p q = cc

  pub owed-any : (me : ℕ) (n : Notes) (answers : List Given) (b : Book) (h : Heard) → Knows script run acts n answers b → n.run ≤ run →
      owed_at me acts run n h (phase_at acts run n answers h) ≡ owed script me run (tasks acts) b h
  owed-any me n answers b h k l = owed-by me n answers b h (b.run == run) k l refl
