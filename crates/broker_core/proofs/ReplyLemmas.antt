-- What is heard by the notes is what is heard by the book.
use Rattle.broker_core.proofs.Names.{ActSpec, ObjectId, Value, same_stamp, Decision, Outcome, Message, ToRead, ToWrite, Stop, Tree, Given, Heard, Last, Notes, Phase, Ignored, Hears, Task, Try, Book, open_try, last_try, stop_of, Stage, Idle, Refused, Opening, Asking, Finishing, Stopping, Closing, is_finished, stage, row, news, when, decided_commit, decided_early, last_of, notes_of, act_at, index_of, stop_at, phase_at, opening_row, reading_row, writing_row, decided_of, decision_row, commit_answered, early_answered, reply_for, reply_by, reply_at, ◌≡◌, ℕ, Bool, true, false, List, refl, ◌∙◌, ap, Option, Some, None, if◌then◌else◌, option_map, deciding_row, finished_for}
use Rattle.broker_ledger.specs.Decision.TheVariants as decision
use Rattle.message_form.specs.declared.messages.Message.TheVariants as message
use Rattle.broker_core.specs.declared.phases.Phase.TheVariants as phase
use Rattle.broker_ledger.proofs.ShapeLemmas.{open-is-last}
use Rattle.broker_ledger.proofs.MeetLemmas.{act-is, stop-is, Meets}
use Rattle.broker_core.proofs.PhaseLemmas.{shown, StageOf, phase-is, stage-of-is}

commit-is : (t : Try) (d : Decision) → commit_answered t.task.index d ≡ decided_commit t d
commit-is t decision.Committed = refl
commit-is t decision.Withdrawn = refl
commit-is t (decision.Expired n m) = refl

early-is : (c : Bool) (t : Try) (d : Decision) → early_answered c t.task.index d ≡ decided_early c t d
early-is c t decision.Committed = refl
early-is c t decision.Withdrawn = refl
early-is c t (decision.Expired n m) = refl

not-deciding : (i : ℕ) (l : Last) (h : Heard) (o : Option Decision) → decision_row i l phase.Idle h o ≡ Ignored
not-deciding i l h None = refl
not-deciding i l h (Some d) = refl

still-stopping : (i : ℕ) (l : Last) (h : Heard) (e : Outcome) (o : Option Decision) → decision_row i l (phase.Stopping e) h o ≡ Ignored
still-stopping i l h e None = refl
still-stopping i l h e (Some d) = refl

commit-if : (c : Bool) (t : Try) (h : Heard) (d : Decision) → decision_row t.task.index (last_of t) phase.Finishing h (if c then Some d else None) ≡ when c (decided_commit t d)
commit-if true t h d = commit-is t d
commit-if false t h d = refl

early-if : (c : Bool) (t : Try) (h : Heard) (d : Decision) → decision_row t.task.index (last_of t) phase.Refused h (if c then Some d else None) ≡ when c (decided_early false t d)
early-if true t h d = early-is false t d
early-if false t h d = refl

closed-if : (c : Bool) (t : Try) (h : Heard) (d : Decision) → decision_row t.task.index (last_of t) phase.Closing h (if c then Some d else None) ≡ when c (Hears (record h { closed = Some t.stamp }))
closed-if true t h d = refl
closed-if false t h d = refl

module _ (script : List ℕ → Tree) where
  pub idle-is : (i : ℕ) (s : Stop) (o : Option Last) (h : Heard) (m : Message) → reply_by i s o phase.Idle h m ≡ row script Idle h (news m)
  idle-is i s None h m = refl
  idle-is i s (Some l) h m = not-deciding i l h (decided_of l.stamp m)

  stopping-is : (t : Try) (e : Outcome) (h : Heard) (m : Message) → deciding_row t.task.index (last_of t) (phase.Stopping e) h m ≡ row script (Stopping t e) h (news m)
  stopping-is t e h m = still-stopping t.task.index (last_of t) h e (decided_of t.stamp m)

  opening-is : (t : Try) (h : Heard) (m : Message) → opening_row t.task.index (finished_for m (stop_of script t)) (last_of t) h m ≡ row script (Opening t) h (news m)
  opening-is t h (message.Decided s d) = ap (when (same_stamp t.stamp s)) (early-is (is_finished (stop_of script t)) t d)
  opening-is t h (message.Ask s) = refl
  opening-is t h (message.Tell s c) = refl
  opening-is t h m = refl

  reading-is : (t : Try) (o : ObjectId) (h : Heard) (m : Message) → reading_row t.task.index o (last_of t) h m ≡ row script (Asking t (ToRead o)) h (news m)
  reading-is t o h (message.Begin s n) = refl
  reading-is t o h m = refl

  writing-is : (t : Try) (o : ObjectId) (v : Value) (h : Heard) (m : Message) → writing_row t.task.index o (last_of t) h m ≡ row script (Asking t (ToWrite o v)) h (news m)
  writing-is t o v h (message.Begin s n) = refl
  writing-is t o v h m = refl

  finishing-is : (t : Try) (h : Heard) (m : Message) → deciding_row t.task.index (last_of t) phase.Finishing h m ≡ row script (Finishing t) h (news m)
  finishing-is t h (message.Decided s d) = commit-if (same_stamp t.stamp s) t h d
  finishing-is t h (message.Ask s) = refl
  finishing-is t h (message.Tell s c) = refl
  finishing-is t h m = refl

  refused-is : (t : Try) (h : Heard) (m : Message) → deciding_row t.task.index (last_of t) phase.Refused h m ≡ row script (Refused t) h (news m)
  refused-is t h (message.Decided s d) = early-if (same_stamp t.stamp s) t h d
  refused-is t h (message.Ask s) = refl
  refused-is t h (message.Tell s c) = refl
  refused-is t h m = refl

  closing-is : (t : Try) (h : Heard) (m : Message) → deciding_row t.task.index (last_of t) phase.Closing h m ≡ row script (Closing t) h (news m)
  closing-is t h (message.Decided s d) = closed-if (same_stamp t.stamp s) t h d
  closing-is t h (message.Ask s) = refl
  closing-is t h (message.Tell s c) = refl
  closing-is t h m = refl

module _ (script : List ℕ → Tree) (run : ℕ) (acts : List ActSpec) where
  at-last-try : (b : Book) (t : Try) (i : ℕ) (s : Stop) (p : Phase) (h : Heard) (m : Message) → last_try b ≡ Some t → reply_by i s (option_map last_of (last_try b)) p h m ≡ reply_for i s (last_of t) p h m
  at-last-try b t i s p h m e = ap (λ (o : Option Try). reply_by i s (option_map last_of o) p h m) e

  index-is : (b : Book) (t : Try) (answers : List Given) → Meets script run acts (notes_of b) answers b → open_try b ≡ Some t → index_of (act_at acts (notes_of b)) ≡ t.task.index
  index-is b t answers k e = let a = act-is acts script run b t k.sound k.here e in ap index_of a.1 ∙ ap (λ (x : Task). x.index) a.2

  closing-any : (i : ℕ) (t : Try) (h : Heard) (o : Option Decision) → decision_row i (last_of t) phase.Closing h o ≡ decision_row t.task.index (last_of t) phase.Closing h o
  closing-any i t h None = refl
  closing-any i t h (Some d) = refl

  reply-shown : (b : Book) (answers : List Given) (s : Stage) (h : Heard) (m : Message) → Meets script run acts (notes_of b) answers b → StageOf script run acts b s →
      reply_at acts (notes_of b) answers (shown s) h m ≡ row script s h (news m)
  unfolding StageOf
  reply-shown b answers Idle h m k e = idle-is script _ _ (option_map last_of (last_try b)) h m
  reply-shown b answers (Refused t) h m k e =
      at-last-try b t _ _ phase.Refused h m (open-is-last b t e)
      ∙ (ap (λ (i : ℕ). deciding_row i (last_of t) phase.Refused h m) (index-is b t answers k e) ∙ refused-is script t h m)
  reply-shown b answers (Opening t) h m k e =
      at-last-try b t _ _ phase.Opening h m (open-is-last b t e)
      ∙ (ap (λ (i : ℕ). opening_row i (finished_for m (stop_at acts (notes_of b) answers)) (last_of t) h m) (index-is b t answers k e)
      ∙ (ap (λ (s : Stop). opening_row t.task.index (finished_for m s) (last_of t) h m) (stop-is acts script run b t answers k.scripted k.sound k.here e k.answers_are)
      ∙ opening-is script t h m))
  reply-shown b answers (Asking t (ToRead o)) h m k e =
      at-last-try b t _ _ (phase.Reading o) h m (open-is-last b t e.0)
      ∙ (ap (λ (i : ℕ). reading_row i o (last_of t) h m) (index-is b t answers k e.0) ∙ reading-is script t o h m)
  reply-shown b answers (Asking t (ToWrite o v)) h m k e =
      at-last-try b t _ _ (phase.Writing o v) h m (open-is-last b t e.0)
      ∙ (ap (λ (i : ℕ). writing_row i o (last_of t) h m) (index-is b t answers k e.0) ∙ writing-is script t o v h m)
  reply-shown b answers (Finishing t) h m k e =
      at-last-try b t _ _ phase.Finishing h m (open-is-last b t e)
      ∙ (ap (λ (i : ℕ). deciding_row i (last_of t) phase.Finishing h m) (index-is b t answers k e) ∙ finishing-is script t h m)
  reply-shown b answers (Stopping t o) h m k e =
      at-last-try b t _ _ (phase.Stopping o) h m (open-is-last b t e)
      ∙ (ap (λ (i : ℕ). deciding_row i (last_of t) (phase.Stopping o) h m) (index-is b t answers k e) ∙ stopping-is script t o h m)
  reply-shown b answers (Closing t) h m k e =
      at-last-try b t _ _ phase.Closing h m e ∙ (closing-any (index_of (act_at acts (notes_of b))) t h (decided_of t.stamp m) ∙ closing-is script t h m)

  pub reply-is : (n : Notes) (answers : List Given) (b : Book) (h : Heard) (m : Message) → Meets script run acts n answers b →
      reply_at acts n answers (phase_at acts run n answers h) h m ≡ row script (stage script run b h) h (news m)
  reply-is n answers b h m k =
      let k' : Meets script run acts (notes_of b) answers b = record { scripted = k.scripted; sound = k.sound; here = k.here; notes_are = refl; answers_are = k.answers_are } in
      ap (λ (p : Phase). reply_at acts n answers p h m) (phase-is script run acts n answers b h k)
      ∙ (ap (λ (x : Notes). reply_at acts x answers (shown (stage script run b h)) h m) k.notes_are
      ∙ reply-shown b answers (stage script run b h) h m k' (stage-of-is script run acts b h))
