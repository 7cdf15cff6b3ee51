-- The stage that the notes show, and the request that stands at it, are those of the book.
use Rattle.broker_core.proofs.Names.{ActSpec, ToRead, ToWrite, Stop, Asks, Over, Tree, Given, Heard, Last, Notes, Phase, is_stamp, is_time, Task, Try, Book, open_try, last_try, time_of, is_none, stop_of, Stage, Idle, Refused, Opening, Asking, Finishing, Stopping, Closing, no_answer, by_stop, by_last, is_asking, is_closed, stage_of, stage, standing, last_of, notes_of, act_at, timeout_of, phase_of, phase_by_last, phase_by_stop, phase_by_open, phase_at, standing_for, standing_by, standing_at, ◌≡◌, ℕ, ◌==◌, Bool, true, false, ◌&&◌, ◌||◌, List, refl, ◌∙◌, ap, Option, Some, None, if◌then◌else◌, option_map}
use Rattle.broker_ledger.specs.Ending.TheVariants as ending
use Rattle.broker_core.specs.declared.phases.Phase.TheVariants as phase
use Rattle.broker_ledger.proofs.ShapeLemmas.{open-is, open-is-last}
use Rattle.broker_ledger.proofs.MeetLemmas.{act-is, stop-is, Meets}

-- a stage without its try
abbrev pub shown : Stage → Phase
shown Idle = phase.Idle
shown (Refused t) = phase.Refused
shown (Opening t) = phase.Opening
shown (Asking t (ToRead o)) = phase.Reading o
shown (Asking t (ToWrite o v)) = phase.Writing o v
shown (Finishing t) = phase.Finishing
shown (Stopping t o) = phase.Stopping o
shown (Closing t) = phase.Closing

by-stop-shown : (t : Try) (s : Stop) → phase_of s ≡ shown (by_stop t s)
by-stop-shown t (Asks (ToRead o)) = refl
by-stop-shown t (Asks (ToWrite o v)) = refl
by-stop-shown t (Over ending.Finished) = refl
by-stop-shown t (Over (ending.Withdrawn l)) = refl
by-stop-shown t (Over (ending.Failed l k)) = refl

either-shown : (c d : Bool) (t : Try) (s : Stop) → (if c then phase.Refused else (if d then phase.Opening else phase_of s)) ≡ shown (if c then Refused t else (if d then Opening t else by_stop t s))
either-shown true d t s = refl
either-shown false true t s = refl
either-shown false false t s = by-stop-shown t s

last-shown : (h : Heard) (o : Option Try) → phase_by_last h (option_map last_of o) ≡ shown (by_last h o)
last-shown h None = refl
last-shown h (Some t) = closing (is_none t.end || is_closed h t) t
  where
    closing : (c : Bool) (t : Try) → (if c then phase.Idle else phase.Closing) ≡ shown (if c then Idle else Closing t)
    closing true t = refl
    closing false t = refl

module _ (script : List ℕ → Tree) (run : ℕ) (acts : List ActSpec) where
  open-shown : (b : Book) (answers : List Given) (h : Heard) (o : Option Try) → Meets script run acts (notes_of b) answers b → open_try b ≡ o →
      phase_by_open acts (notes_of b) answers h (option_map last_of o) ≡ shown (stage_of script h o (last_try b))
  open-shown b answers h None k e = last-shown h (last_try b)
  open-shown b answers h (Some t) k e =
      ap (phase_by_stop h (last_of t)) (stop-is acts script run b t answers k.scripted k.sound k.here e k.answers_are)
      ∙ either-shown (is_asking (stop_of script t) && is_time h.ended (time_of t)) (no_answer t && (if is_stamp h.begun t.stamp then false else true)) t (stop_of script t)

  here-shown : (c : Bool) (p : Phase) (s : Stage) → p ≡ shown s → (if c then p else phase.Idle) ≡ shown (if c then s else Idle)
  here-shown true p s e = e
  here-shown false p s e = refl

  phase-shown : (b : Book) (answers : List Given) (h : Heard) → Meets script run acts (notes_of b) answers b → phase_at acts run (notes_of b) answers h ≡ shown (stage script run b h)
  phase-shown b answers h k =
      here-shown (b.run == run) _ _
      (ap (phase_by_open acts (notes_of b) answers h) (open-is b) ∙ open-shown b answers h (open_try b) k refl)

  pub phase-is : (n : Notes) (answers : List Given) (b : Book) (h : Heard) → Meets script run acts n answers b → phase_at acts run n answers h ≡ shown (stage script run b h)
  phase-is n answers b h k =
      ap (λ (x : Notes). phase_at acts run x answers h) k.notes_are
      ∙ phase-shown b answers h (record { scripted = k.scripted; sound = k.sound; here = k.here; notes_are = refl; answers_are = k.answers_are })

  -- ---- what a stage says of its try

  unfoldable pub StageOf : Book → Stage → Type 0
  StageOf b Idle = Unit {0}
  StageOf b (Refused t) = open_try b ≡ Some t
  StageOf b (Opening t) = open_try b ≡ Some t
  StageOf b (Asking t q) = (open_try b ≡ Some t) × (stop_of script t ≡ Asks q)
  StageOf b (Finishing t) = open_try b ≡ Some t
  StageOf b (Stopping t o) = open_try b ≡ Some t
  StageOf b (Closing t) = last_try b ≡ Some t

  stop-stage : (b : Book) (t : Try) (s : Stop) → open_try b ≡ Some t → stop_of script t ≡ s → StageOf b (by_stop t s)
  unfolding StageOf
  stop-stage b t (Asks q) o e = (o, e)
  stop-stage b t (Over ending.Finished) o e = o
  stop-stage b t (Over (ending.Withdrawn l)) o e = o
  stop-stage b t (Over (ending.Failed l k)) o e = o

  either-stage : (b : Book) (c d : Bool) (t : Try) → open_try b ≡ Some t → StageOf b (if c then Refused t else (if d then Opening t else by_stop t (stop_of script t)))
  unfolding StageOf
  either-stage b true d t o = o
  either-stage b false true t o = o
  either-stage b false false t o = stop-stage b t (stop_of script t) o refl

  closing-stage : (b : Book) (c : Bool) (t : Try) → last_try b ≡ Some t → StageOf b (if c then Idle else Closing t)
  unfolding StageOf
  closing-stage b true t e = tt
  closing-stage b false t e = e

  last-stage : (b : Book) (h : Heard) (o : Option Try) → last_try b ≡ o → StageOf b (by_last h o)
  unfolding StageOf
  last-stage b h None e = tt
  last-stage b h (Some t) e = closing-stage b (is_none t.end || is_closed h t) t e

  open-stage : (b : Book) (h : Heard) (o : Option Try) → open_try b ≡ o → StageOf b (stage_of script h o (last_try b))
  open-stage b h None e = last-stage b h (last_try b) refl
  open-stage b h (Some t) e = either-stage b _ _ t e

  here-stage : (b : Book) (c : Bool) (s : Stage) → StageOf b s → StageOf b (if c then s else Idle)
  unfolding StageOf
  here-stage b true s k = k
  here-stage b false s k = tt

  pub stage-of-is : (b : Book) (h : Heard) → StageOf b (stage script run b h)
  stage-of-is b h = here-stage b (b.run == run) _ (open-stage b h (open_try b) refl)

  -- ---- the request that stands

  standing-last : (b : Book) (answers : List Given) (t : Try) (p : Phase) → last_try b ≡ Some t → standing_at acts (notes_of b) p ≡ standing_for (timeout_of (act_at acts (notes_of b))) (last_of t) p
  standing-last b answers t p e = ap (λ (o : Option Try). standing_by (timeout_of (act_at acts (notes_of b))) p (option_map last_of o)) e

  pub none-stands : (o : Option Last) (k : ℕ) → standing_by k phase.Idle o ≡ None
  none-stands None k = refl
  none-stands (Some l) k = refl

  standing-shown : (b : Book) (answers : List Given) (s : Stage) → Meets script run acts (notes_of b) answers b → StageOf b s → standing_at acts (notes_of b) (shown s) ≡ standing s
  unfolding StageOf
  standing-shown b answers Idle k e = none-stands (option_map last_of (last_try b)) (timeout_of (act_at acts (notes_of b)))
  standing-shown b answers (Refused t) k e = standing-last b answers t phase.Refused (open-is-last b t e)
  standing-shown b answers (Opening t) k e =
      let a = act-is acts script run b t k.sound k.here e in
      standing-last b answers t phase.Opening (open-is-last b t e)
      ∙ ap (λ (x : ℕ). standing_for x (last_of t) phase.Opening) (ap timeout_of a.1 ∙ ap (λ (x : Task). x.timeout) a.2)
  standing-shown b answers (Asking t (ToRead o)) k e = standing-last b answers t (phase.Reading o) (open-is-last b t e.0)
  standing-shown b answers (Asking t (ToWrite o v)) k e = standing-last b answers t (phase.Writing o v) (open-is-last b t e.0)
  standing-shown b answers (Finishing t) k e = standing-last b answers t phase.Finishing (open-is-last b t e)
  standing-shown b answers (Stopping t o) k e = standing-last b answers t (phase.Stopping o) (open-is-last b t e)
  standing-shown b answers (Closing t) k e = standing-last b answers t phase.Closing e

  pub standing-is : (n : Notes) (answers : List Given) (b : Book) (h : Heard) → Meets script run acts n answers b →
      standing_at acts n (phase_at acts run n answers h) ≡ standing (stage script run b h)
  standing-is n answers b h k =
      let k' : Meets script run acts (notes_of b) answers b = record { scripted = k.scripted; sound = k.sound; here = k.here; notes_are = refl; answers_are = k.answers_are } in
      ap (standing_at acts n) (phase-is n answers b h k)
      ∙ (ap (λ (x : Notes). standing_at acts x (shown (stage script run b h))) k.notes_are
      ∙ standing-shown b answers (stage script run b h) k' (stage-of-is b h))
