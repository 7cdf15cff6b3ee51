-- What `done` and `hear` answer.
use Rattle.broker_core.proofs.Names.{ActSpec, Effect, Out, Turn, ToRead, ToWrite, Tree, Given, Heard, Notes, Phase, tasks, task_of, Scripted, Book, is_none, Stage, Idle, Refused, Opening, Asking, Finishing, Stopping, Closing, stage, standing, all_over, Desk, Hear, desk_at, send, notes_of, act_at, most_of, over_at, phase_at, standing_at, LedgerParts, kept, listed, BrokerParts, IsBroker, IsLedTo, book_of, parts_of, Gives, turn_of, ◌≡◌, ℕ, ◌==◌, Bool, true, false, ◌&&◌, length, List, [], ◌++◌, reverse, refl, sym, ◌∙◌, ap, subst, Option, Some, None, if◌then◌else◌, eqb-true, append-nil, length-map, done, is_quiet, over_by, is_done}
use Rattle.broker_ledger.proofs.ShapeLemmas.{over-is}
use Rattle.broker_ledger.proofs.SoundLemmas.{sound-kept}
use Rattle.broker_ledger.proofs.NotedLemmas.{most-of-last}
use Rattle.broker_core.proofs.PhaseLemmas.{shown}
use Rattle.broker_ledger.proofs.MeetLemmas.{Knows}
use Rattle.broker_core.proofs.AnyLemmas.{phase-any, standing-any}

quiet-is : (s : Stage) → is_quiet (shown s) ≡ is_none (standing s)
quiet-is Idle = refl
quiet-is (Refused t) = refl
quiet-is (Opening t) = refl
quiet-is (Asking t (ToRead o)) = refl
quiet-is (Asking t (ToWrite o v)) = refl
quiet-is (Finishing t) = refl
quiet-is (Stopping t o) = refl
quiet-is (Closing t) = refl

module _ (script : List ℕ → Tree) (run : ℕ) (acts : List ActSpec) where
  over-notes : (b : Book) (answers : List Given) → Knows script run acts (notes_of b) answers b → b.run ≡ run →
      ((length b.acts == length acts) && over_at (most_of (act_at acts (notes_of b))) (notes_of b)) ≡ ((length b.acts == length (tasks acts)) && all_over b.acts)
  over-notes b answers k r =
      ap (λ (m : ℕ). (length b.acts == length acts) && over_at m (notes_of b)) (most-of-last acts b.acts (k.sound.started r))
      ∙ (ap (λ (c : Bool). (length b.acts == length acts) && c) (over-is b)
      ∙ ap (λ (m : ℕ). (length b.acts == m) && all_over b.acts) (sym (length-map acts task_of)))

  over-by : (n : Notes) (answers : List Given) (b : Book) (c : Bool) → Knows script run acts n answers b → (b.run == run) ≡ c →
      over_by run acts n ≡ (if b.run == run then (length b.acts == length (tasks acts)) && all_over b.acts else length (tasks acts) == 0)
  over-by n answers b true k e =
      let r : b.run ≡ run = eqb-true b.run run e in
      let k' : Knows script run acts (notes_of b) answers b = subst (λ (x : Notes). Knows script run acts x answers b) (k.shows.notes_are r) k in
      ap (over_by run acts) (k.shows.notes_are r)
      ∙ (ap (λ (x : Bool). if b.run == run then x else length acts == 0) (over-notes b answers k' r)
      ∙ ap (λ (m : ℕ). if b.run == run then (length b.acts == length (tasks acts)) && all_over b.acts else m == 0) (sym (length-map acts task_of)))
  over-by n answers b false k e =
      ap (λ (x : ℕ). if x == run then (n.started == length acts) && over_at (most_of (act_at acts n)) n else length acts == 0) k.shows.run_is
      ∙ (ap (λ (c : Bool). if c then (n.started == length acts) && over_at (most_of (act_at acts n)) n else length acts == 0) e
      ∙ (ap (λ (m : ℕ). m == 0) (sym (length-map acts task_of))
      ∙ sym (ap (λ (c : Bool). if c then (length b.acts == length (tasks acts)) && all_over b.acts else length (tasks acts) == 0) e)))

  done-of : (n : Notes) (answers : List Given) (b : Book) (h : Heard) → Knows script run acts n answers b →
      (over_by run acts n && is_quiet (phase_at acts run n answers h)) ≡ done script run (tasks acts) b h
  done-of n answers b h k =
      ap (λ (c : Bool). c && is_quiet (phase_at acts run n answers h)) (over-by n answers b (b.run == run) k refl)
      ∙ ap (λ (c : Bool). (if b.run == run then (length b.acts == length (tasks acts)) && all_over b.acts else length (tasks acts) == 0) && c)
      (ap is_quiet (phase-any script run acts n answers b h k) ∙ quiet-is (stage script run b h))

-- what the notes show of the log
pub knows-of : (script : List ℕ → Tree) (b : BrokerParts) (n : Notes) (answers : List Given) → Scripted script b.acts → IsLedTo script b n answers → Knows script b.run b.acts n answers (book_of script b)
knows-of script b n answers m st = record { scripted = m; sound = sound-kept script b.number b.run (tasks b.acts) (reverse b.log); shows = st.shows }

module _ (script : List ℕ → Tree) (l : LedgerParts) (h : Heard) (p : Phase) (log : List Effect) (b : BrokerParts) (view : parts_of l h log ≡ b) (k : IsBroker l h p log) where
  done-is : Scripted script l.acts → (over_by l.run l.acts l.notes && is_quiet p) ≡ is_done script (parts_of l h log)
  done-is m =
      ap (λ (y : Phase). over_by l.run l.acts l.notes && is_quiet y) k.phase_is
      ∙ done-of script l.run l.acts l.notes (kept l.notes l.answers) (book_of script (parts_of l h log)) h (knows-of script (parts_of l h log) l.notes (kept l.notes l.answers) m (k.led script m))

  done-viewed : Scripted script b.acts → (over_by l.run l.acts l.notes && is_quiet p) ≡ is_done script b
  done-viewed = subst (λ (x : BrokerParts). Scripted script x.acts → (over_by l.run l.acts l.notes && is_quiet p) ≡ is_done script x) view done-is

  pub done-then : (over quiet : Bool) → over ≡ over_by l.run l.acts l.notes → over ≡ true → quiet ≡ is_quiet p → Scripted script b.acts → quiet ≡ is_done script b
  done-then over quiet o t e m = e ∙ (ap (λ (c : Bool). c && is_quiet p) (sym t ∙ o) ∙ done-viewed m)

  pub done-else : (over : Bool) → over ≡ over_by l.run l.acts l.notes → over ≡ false → Scripted script b.acts → over ≡ is_done script b
  done-else over o t m = t ∙ (ap (λ (c : Bool). c && is_quiet p) (sym t ∙ o) ∙ done-viewed m)

-- ---- calls after which the broker is as before

send-alone : (o : Option Out) (log : List Effect) (h : Heard) → (send o (desk_at log h)).outs ≡ listed o
send-alone None log h = refl
send-alone (Some x) log h = refl

send-quiet : (o : Option Out) (log : List Effect) (h : Heard) → (send o (desk_at log h)).added ≡ []
send-quiet None log h = refl
send-quiet (Some x) log h = refl

send-same : (o : Option Out) (log : List Effect) (h : Heard) → (send o (desk_at log h)).heard ≡ h
send-same None log h = refl
send-same (Some x) log h = refl

still-gives : (b : BrokerParts) (d : Desk) (turn : Turn) (outs : List Out) → d.added ≡ [] → d.outs ≡ outs → d.heard ≡ b.heard → turn.effects ≡ [] → turn.outs ≡ outs → Gives d turn b b
still-gives b d turn outs f o h te to = record {
  effects = te ∙ sym (ap reverse f);
  outs = to ∙ sym o;
  broker = λ j. record { number = b.number; run = b.run; acts = b.acts; log = (sym (append-nil b.log) ∙ ap (λ (xs : List Effect). b.log ++ xs) (sym te)) j; heard = sym h j };
}

-- a message that is ignored
pub ignored-gives : (b : BrokerParts) (d : Desk) (turn : Turn) → d ≡ desk_at (reverse b.log) b.heard → turn.effects ≡ [] → turn.outs ≡ [] → Gives d turn b b
ignored-gives b d turn e none nothing = still-gives b d turn [] (ap (λ (x : Desk). x.added) e) (ap (λ (x : Desk). x.outs) e) (ap (λ (x : Desk). x.heard) e) none nothing

-- a moment that is heard
pub hear-gives : (script : List ℕ → Tree) (l : LedgerParts) (h : Heard) (p : Phase) (log : List Effect) (b : BrokerParts) (moment : ℕ) (out : Option Out) (turn : Turn) → parts_of l h log ≡ b → IsBroker l h p log →
    out ≡ standing_at l.acts l.notes p → turn.effects ≡ [] → turn.outs ≡ listed out → Scripted script b.acts → Gives (turn_of script b (Hear moment)) turn b b
hear-gives script l h p log b moment out turn view k o-is te to =
    subst (λ (x : BrokerParts). Scripted script x.acts → Gives (turn_of script x (Hear moment)) turn x x) view go
  where
    go : Scripted script l.acts → Gives (turn_of script (parts_of l h log) (Hear moment)) turn (parts_of l h log) (parts_of l h log)
    go m =
        let q : BrokerParts = parts_of l h log in
        let o : Option Out = standing (stage script l.run (book_of script q) h) in
        let stands : out ≡ o =
        o-is ∙ (ap (standing_at l.acts l.notes) k.phase_is
        ∙ standing-any script l.run l.acts l.notes (kept l.notes l.answers) (book_of script q) h (knows-of script q l.notes (kept l.notes l.answers) m (k.led script m))) in
        still-gives q (turn_of script q (Hear moment)) turn (listed out) (send-quiet o (reverse log) h) (send-alone o (reverse log) h ∙ ap listed (sym stands)) (send-same o (reverse log) h) te to
