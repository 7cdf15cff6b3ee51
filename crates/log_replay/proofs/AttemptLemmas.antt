-- One attempt: that it replays over a map, and that it is serial over it.
use Rattle.std.proofs.Common.{◌≡◌, ℕ, Bool, true, false, List, [], ◌∷◌, Option, Some, None, refl, sym, ap, ◌∙◌, subst}
use Rattle.std.proofs.lemmas.Bool.{false≢true, true≢false}
use Rattle.std.specs.FinMap as finite
use Rattle.value_form.specs.Objects.{Objects}
use Rattle.value_form.specs.declared.endings.Ending.{Ending}
use Rattle.value_form.specs.declared.endings.Ending.TheVariants as ending
use Rattle.value_form.specs.declared.fail_kinds.FailKind.{FailKind}
use Rattle.value_form.specs.declared.transcripts.Line.{Line}
use Rattle.value_form.specs.declared.transcripts.Line.TheVariants as line
use Rattle.effect_form.specs.declared.outcomes.Outcome.{Outcome}
use Rattle.effect_form.specs.declared.outcomes.Outcome.TheVariants as outcome
use Rattle.script_meaning.specs.Meaning.{Answer, Got, Stored, Over, Stop}
use Rattle.serial_model.specs.Questions.{AnswersOf, Ends, IsFrontOf, Reads, Says, Talked, Tree, Writes, stop, talked, talked_alone}
use Rattle.serial_model.proofs.AgreeLemmas.{agrees-whole}
use Rattle.serial_model.proofs.AnswerLemmas.{talked-stop}
use Rattle.world_core.specs.Deeds.{RunLogs, Try, committed, lines_written}
use Rattle.serial_law.specs.Serial.{IsComplete, IsSerial}
use Rattle.script_replay.specs.Attempts.{EndsSo, answers_of, tree_of}
use Rattle.script_replay.specs.Replays.{IsReplay}
use Rattle.script_replay.specs.declared.attempts.Attempt.{Attempt}
use Rattle.log_replay.specs.Tells as tells

-- answers that agree lead to a front of the transcript alone
pub agrees-front : (t : Tree) (ans : List Answer) (m : Objects) → AnswersOf t ans m → IsFrontOf (talked t ans).lines (talked_alone t m).lines
agrees-front (Ends e) [] m h = ([], refl)
agrees-front (Ends e) (a ∷ ans) m h = absurd h
agrees-front (Says a t) ans m h = let f = agrees-front t ans m h in (f.0, ap (λ (z : List Line). line.Print a ∷ z) f.1)
agrees-front (Reads o k) [] m h = ((talked_alone (Reads o k) m).lines, refl)
agrees-front (Reads o k) (Got a ∷ ans) m h =
    let f = agrees-front (k a) ans m h.1 in (f.0, ap (λ (z : List Line). line.Read o a ∷ z) f.1 ∙ ap (λ z. line.Read o z ∷ (talked_alone (k z) m).lines) h.0)
agrees-front (Reads o k) (Stored ∷ ans) m h = absurd h
agrees-front (Writes o a t) [] m h = ((talked_alone (Writes o a t) m).lines, refl)
agrees-front (Writes o a t) (Stored ∷ ans) m h = let f = agrees-front t ans (finite.insert m o a) h in (f.0, ap (λ (z : List Line). line.Wrote o a ∷ z) f.1)
agrees-front (Writes o a t) (Got b ∷ ans) m h = absurd h

complete : (t : Tree) (ans : List Answer) (m : Objects) (e : Ending) → AnswersOf t ans m → stop t ans ≡ Over e → IsComplete (talked t ans) (talked_alone t m) e
complete t ans m e h s =
    let w = agrees-whole t ans m e h s in
    let over : (talked t ans).stop ≡ Over e = talked-stop t ans ∙ s in
    record { over = over; lines = ap (λ (z : Talked). z.lines) (sym w.0); ends = ap (λ (z : Talked). z.stop) w.0 ∙ over }

-- ---- how an attempt ends

ends-finished : (o : Option Outcome) (s : Stop) → EndsSo true o s → s ≡ Over ending.Finished
ends-finished None s h = h
ends-finished (Some outcome.Committed) s h = h
ends-finished (Some (outcome.Withdrawn l)) s h = absurd h
ends-finished (Some (outcome.Failed l k)) s h = absurd h
ends-finished (Some (outcome.LaterRead o e)) s h = absurd h
ends-finished (Some (outcome.LaterVersion o x)) s h = absurd h
ends-finished (Some (outcome.Expired d n)) s h = absurd h
ends-finished (Some (outcome.Spent c)) s h = absurd h

ends-withdrawn : (c : Bool) (l : ℕ) (s : Stop) → EndsSo c (Some (outcome.Withdrawn l)) s → s ≡ Over (ending.Withdrawn l)
ends-withdrawn true l s h = absurd h
ends-withdrawn false l s h = h

ends-failed : (c : Bool) (l : ℕ) (k : FailKind) (s : Stop) → EndsSo c (Some (outcome.Failed l k)) s → s ≡ Over (ending.Failed l k)
ends-failed true l k s h = absurd h
ends-failed false l k s h = h

ends-sure : (c : Bool) (s : Stop) → EndsSo c (Some outcome.Committed) s → c ≡ true
ends-sure true s h = refl
ends-sure false s h = absurd h

ends-other : (c : Bool) (e : Outcome) (s : Stop) → (e ≡ outcome.Committed → ⊥) → EndsSo c (Some e) s → c ≡ false
ends-other false e s n h = refl
ends-other true outcome.Committed s n h = absurd (n refl)
ends-other true (outcome.Withdrawn l) s n h = absurd h
ends-other true (outcome.Failed l k) s n h = absurd h
ends-other true (outcome.LaterRead o e) s n h = absurd h
ends-other true (outcome.LaterVersion o x) s n h = absurd h
ends-other true (outcome.Expired d m) s n h = absurd h
ends-other true (outcome.Spent c) s n h = absurd h

-- what has to be known of an End
record Known (c : Bool) (o : Option Outcome) (s : Stop) : Type 0 where
  finished : c ≡ true → s ≡ Over ending.Finished
  withdrawn : (l : ℕ) → o ≡ Some (outcome.Withdrawn l) → s ≡ Over (ending.Withdrawn l)
  failed : (l : ℕ) (k : FailKind) → o ≡ Some (outcome.Failed l k) → s ≡ Over (ending.Failed l k)
  sure : o ≡ Some outcome.Committed → c ≡ true
  other : (e : Outcome) → o ≡ Some e → (e ≡ outcome.Committed → ⊥) → c ≡ false

ends-known : (c : Bool) (o : Option Outcome) (s : Stop) → Known c o s → EndsSo c o s
ends-known true None s k = k.finished refl
ends-known true (Some outcome.Committed) s k = k.finished refl
ends-known true (Some (outcome.Withdrawn l)) s k = true≢false (k.other (outcome.Withdrawn l) refl (λ e. cc e))
ends-known true (Some (outcome.Failed l f)) s k = true≢false (k.other (outcome.Failed l f) refl (λ e. cc e))
ends-known true (Some (outcome.LaterRead o e)) s k = true≢false (k.other (outcome.LaterRead o e) refl (λ e. cc e))
ends-known true (Some (outcome.LaterVersion o x)) s k = true≢false (k.other (outcome.LaterVersion o x) refl (λ e. cc e))
ends-known true (Some (outcome.Expired d m)) s k = true≢false (k.other (outcome.Expired d m) refl (λ e. cc e))
ends-known true (Some (outcome.Spent c)) s k = true≢false (k.other (outcome.Spent c) refl (λ e. cc e))
ends-known false None s k = tt
ends-known false (Some outcome.Committed) s k = false≢true (k.sure refl)
ends-known false (Some (outcome.Withdrawn l)) s k = k.withdrawn l refl
ends-known false (Some (outcome.Failed l f)) s k = k.failed l f refl
ends-known false (Some (outcome.LaterRead o e)) s k = tt
ends-known false (Some (outcome.LaterVersion o x)) s k = tt
ends-known false (Some (outcome.Expired d m)) s k = tt
ends-known false (Some (outcome.Spent c)) s k = tt

-- ---- an attempt of a run, and what is told of it

module _ (k : RunLogs) (t : Try) (a : Attempt) (says : tells.Says k t a) (m : Objects) where
  answers-told : IsReplay m a → AnswersOf t.script t.answers m
  answers-told r = subst (λ (xs : List Answer). AnswersOf t.script xs m) says.answers (subst (λ (z : Tree). AnswersOf z (answers_of a.replies) m) says.script r.answers)

  stop-told : stop (tree_of a) (answers_of a.replies) ≡ stop t.script t.answers
  stop-told = ap (λ (z : Tree). stop z (answers_of a.replies)) says.script ∙ ap (stop t.script) says.answers

  lines-told : (talked (tree_of a) (answers_of a.replies)).lines ≡ (talked t.script t.answers).lines
  lines-told = ap (λ (z : Tree). (talked z (answers_of a.replies)).lines) says.script ∙ ap (λ (xs : List Answer). (talked t.script xs).lines) says.answers

  ends-told : IsReplay m a → EndsSo (committed k t.stamp) t.ended (stop t.script t.answers)
  ends-told r =
      subst (λ (z : Bool). EndsSo z t.ended (stop t.script t.answers)) says.decided
      (subst (λ (o : Option Outcome). EndsSo a.committed o (stop t.script t.answers)) says.ended (subst (EndsSo a.committed a.ended) stop-told r.stops))

  pub replays-answers : IsReplay m a → AnswersOf t.script t.answers m
  replays-answers r = answers-told r

  pub replays-serial : IsReplay m a → IsSerial k t (talked t.script t.answers) (talked_alone t.script m)
  replays-serial r =
      let h = answers-told r in
      let e = ends-told r in
      let s = stop t.script t.answers in
      record {
        front = agrees-front t.script t.answers m h;
        finished = λ c. complete t.script t.answers m ending.Finished h (ends-finished t.ended s (subst (λ (z : Bool). EndsSo z t.ended s) c e));
        withdrawn = λ l q. complete t.script t.answers m (ending.Withdrawn l) h (ends-withdrawn (committed k t.stamp) l s (subst (λ (o : Option Outcome). EndsSo (committed k t.stamp) o s) q e));
        failed = λ l f q. complete t.script t.answers m (ending.Failed l f) h (ends-failed (committed k t.stamp) l f s (subst (λ (o : Option Outcome). EndsSo (committed k t.stamp) o s) q e));
        sure = λ q. ends-sure (committed k t.stamp) s (subst (λ (o : Option Outcome). EndsSo (committed k t.stamp) o s) q e);
        other = λ f q n. ends-other (committed k t.stamp) f s n (subst (λ (o : Option Outcome). EndsSo (committed k t.stamp) o s) q e);
        puts = λ c. sym says.puts ∙ (r.wrote (says.decided ∙ c) ∙ (ap (λ z. lines_written z 1 (talked (tree_of a) (answers_of a.replies)).lines) says.stamp ∙ ap (lines_written t.stamp 1) lines-told));
      }

  pub serial-replays : IsSerial k t (talked t.script t.answers) (talked_alone t.script m) → AnswersOf t.script t.answers m → IsReplay m a
  serial-replays i h =
      let s = stop t.script t.answers in
      let known : Known (committed k t.stamp) t.ended s = record {
        finished = λ c. sym (talked-stop t.script t.answers) ∙ (i.finished c).over;
        withdrawn = λ l q. sym (talked-stop t.script t.answers) ∙ (i.withdrawn l q).over;
        failed = λ l f q. sym (talked-stop t.script t.answers) ∙ (i.failed l f q).over;
        sure = i.sure;
        other = i.other;
      } in
      record {
        answers = subst (λ (z : Tree). AnswersOf z (answers_of a.replies) m) (sym says.script) (subst (λ (xs : List Answer). AnswersOf t.script xs m) (sym says.answers) h);
        stops = subst (EndsSo a.committed a.ended) (sym stop-told) (subst (λ (o : Option Outcome). EndsSo a.committed o s) (sym says.ended)
            (subst (λ (z : Bool). EndsSo z t.ended s) (sym says.decided) (ends-known (committed k t.stamp) t.ended s known)));
        wrote = λ c. says.puts ∙ (i.puts (sym says.decided ∙ c) ∙ (ap (lines_written t.stamp 1) (sym lines-told) ∙ ap (λ z. lines_written z 1 (talked (tree_of a) (answers_of a.replies)).lines) (sym says.stamp)));
      }
