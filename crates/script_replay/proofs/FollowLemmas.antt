-- An attempt that is carried out again over the map that it found.
use Rattle.std.proofs.Common.{◌≡◌, Bool, true, false, List, Option, Some, None, sym, ap, ◌∙◌, subst}
use Rattle.std.proofs.lemmas.Bool.{false≢true}
use Rattle.std.specs.Prelude.{if◌then◌else◌}
use Rattle.std.specs.FinMap as finite
use Rattle.value_form.specs.Mirror.{block}
use Rattle.value_form.specs.Objects.{Objects}
use Rattle.value_form.specs.declared.endings.Ending.TheVariants as ending
use Rattle.value_form.specs.declared.scripts.Stmt.{Stmt}
use Rattle.pseudo_time.specs.StampParts.{StampParts}
use Rattle.value_form.specs.declared.transcripts.Line.{Line}
use Rattle.effect_form.specs.declared.outcomes.Outcome.{Outcome}
use Rattle.effect_form.specs.declared.outcomes.Outcome.TheVariants as outcome
use Rattle.script_meaning.specs.Meaning.{Answer, Over, Stop}
use Rattle.script_run.specs.RunParts.{RunParts, Tells, begun, stop_of}
use Rattle.script_run.specs.declared.nexts.Next.{Next}
use Rattle.serial_model.specs.Overlays.{overlaid}
use Rattle.serial_model.specs.Deeds.{lines_written}
use Rattle.serial_model.specs.Questions.{AnswersOf, denote, left_after, left_by, stop, talked}
use Rattle.serial_model.proofs.AgreeLemmas.{agrees-none, agrees-whole}
use Rattle.script_replay.specs.declared.attempts.Attempt.{Attempt}
use Rattle.script_replay.specs.declared.attempts.Put.{Put}
use Rattle.script_replay.specs.declared.attempts.Reply.{Reply}
use Rattle.script_replay.specs.declared.attempts.Told.TheVariants.{Tried}
use Rattle.script_replay.specs.declared.replays.Difference.TheVariants as difference
use Rattle.script_replay.specs.Attempts.{EndsSo, answers_of, tree_of, versions_of}
use Rattle.script_replay.specs.Replays.{AnswersSo, Fails, IsReplay, StopsSo, after_told}
use Rattle.script_replay.specs.Works.{Agrees, TookAll, tree_run}
use Rattle.script_replay.proofs.WorkLemmas.{overlaid-none, told-lines, told-stop}

-- nothing was written yet
pub empty-agrees : (m : Objects) (lines : List Stmt) → Agrees m (begun lines) finite.empty
empty-agrees m lines = let n = agrees-none (denote (block lines)) m in record { answers = n.0; left = n.1 ∙ sym (overlaid-none m) }

pub run-agrees : (m w : Objects) (lines : List Stmt) (run : RunParts) → run ≡ begun lines → w ≡ finite.empty → Agrees m run w
run-agrees m w lines run e q = subst (λ (r : RunParts). Agrees m r w) (sym e) (subst (λ (z : Objects). Agrees m (begun lines) z) (sym q) (empty-agrees m lines))

-- of lists that are the same
pub took-same : (took : Bool) (m : Objects) (old run : RunParts) (w : Objects) (xs ys : List Reply) → xs ≡ ys → TookAll took m old run w (answers_of xs) → TookAll took m old run w (answers_of ys)
took-same took m old run w xs ys e h = subst (λ (z : List Reply). TookAll took m old run w (answers_of z)) e h

pub wrote-same : (s : StampParts) (ps qs : List Put) (ls ms : List Line) → ps ≡ qs → ls ≡ ms → versions_of ps ≡ lines_written s 1 ls → versions_of qs ≡ lines_written s 1 ms
wrote-same s ps qs ls ms e k h = ap versions_of (sym e) ∙ (h ∙ ap (lines_written s 1) k)

-- an attempt that may be committed, once it is finished
finished : (o : Option Outcome) (s : Stop) → EndsSo true o s → s ≡ Over ending.Finished
finished None s h = h
finished (Some outcome.Committed) s h = h
finished (Some (outcome.Withdrawn l)) s h = absurd h
finished (Some (outcome.Failed l k)) s h = absurd h
finished (Some (outcome.LaterRead o e)) s h = absurd h
finished (Some (outcome.LaterVersion o x)) s h = absurd h
finished (Some (outcome.Expired d n)) s h = absurd h
finished (Some (outcome.Spent c)) s h = absurd h

-- `old` is the run as it began, `run` once it took all replies, and `now` once it was asked
module _ (m : Objects) (a : Attempt) (old run now : RunParts) (w : Objects) (begins : old ≡ begun a.script.lines) where
  pub not-taken : (took : Bool) → took ≡ false → TookAll took m old run w (answers_of a.replies) → Fails difference.Answers m (Tried a)
  not-taken took e h k = (subst (λ (b : Bool). TookAll b m old run w (answers_of a.replies)) e h) (subst (λ (r : RunParts). AnswersOf (tree_run r) (answers_of a.replies) m) (sym begins) k)

  module _ (took : Bool) (yes : took ≡ true) (all : TookAll took m old run w (answers_of a.replies)) (n : Next) (tells : Tells run.script run.answers now.lines n) where
    taken : (run.script ≡ old.script) × (run.answers ≡ answers_of a.replies) × Agrees m run w
    taken = subst (λ (b : Bool). TookAll b m old run w (answers_of a.replies)) yes all

    script-is : run.script ≡ a.script.lines
    script-is = taken.0 ∙ ap (λ (r : RunParts). r.script) begins

    answers : AnswersSo m a
    answers = subst (λ (s : List Stmt). AnswersOf (denote (block s)) (answers_of a.replies) m) script-is (subst (λ (xs : List Answer). AnswersOf (tree_run run) xs m) taken.1 taken.2.answers)

    left : left_after (tree_of a) (answers_of a.replies) m ≡ overlaid w m
    left = subst (λ (s : List Stmt). left_after (denote (block s)) (answers_of a.replies) m ≡ overlaid w m) script-is (subst (λ (xs : List Answer). left_after (tree_run run) xs m ≡ overlaid w m) taken.1 taken.2.left)

    stop-is : stop_of n ≡ stop (tree_of a) (answers_of a.replies)
    stop-is = told-stop run.script run.answers now.lines n tells ∙ (ap (λ (s : List Stmt). stop (denote (block s)) run.answers) script-is ∙ ap (stop (tree_of a)) taken.1)

    lines-are : now.lines ≡ (talked (tree_of a) (answers_of a.replies)).lines
    lines-are = told-lines run.script run.answers now.lines n tells ∙ (ap (λ (s : List Stmt). (talked (denote (block s)) run.answers).lines) script-is ∙ ap (λ (xs : List Answer). (talked (tree_of a) xs).lines) taken.1)

    pub not-ended : (EndsSo a.committed a.ended (stop_of n) → ⊥) → Fails difference.Ending m (Tried a)
    not-ended isnt = (answers, λ k. isnt (subst (EndsSo a.committed a.ended) (sym stop-is) k))

    module _ (ends : EndsSo a.committed a.ended (stop_of n)) where
      stops : StopsSo a
      stops = subst (EndsSo a.committed a.ended) stop-is ends

      pub not-committed : a.committed ≡ false → IsReplay m a × (m ≡ after_told (Tried a) m)
      not-committed e = (
        record { answers = answers; stops = stops; wrote = λ c. absurd (false≢true (sym e ∙ c)) },
        ap (λ (b : Bool). if b then left_by (tree_of a) m else m) (sym e),
      )

      pub not-wrote : a.committed ≡ true → (versions_of a.puts ≡ lines_written a.stamp 1 now.lines → ⊥) → Fails difference.Versions m (Tried a)
      not-wrote c isnt = (answers, stops, λ k. isnt (k c ∙ ap (lines_written a.stamp 1) (sym lines-are)))

      pub follows : a.committed ≡ true → versions_of a.puts ≡ lines_written a.stamp 1 now.lines → (after : Objects) → after ≡ overlaid w m → IsReplay m a × (after ≡ after_told (Tried a) m)
      follows c wrote after is =
          let over : stop (tree_of a) (answers_of a.replies) ≡ Over ending.Finished = finished a.ended (stop (tree_of a) (answers_of a.replies)) (subst (λ (b : Bool). EndsSo b a.ended (stop (tree_of a) (answers_of a.replies))) c stops) in
          let whole = agrees-whole (tree_of a) (answers_of a.replies) m ending.Finished answers over in (
            record { answers = answers; stops = stops; wrote = λ c. wrote ∙ ap (lines_written a.stamp 1) lines-are },
            is ∙ (sym left ∙ (sym whole.1 ∙ ap (λ (b : Bool). if b then left_by (tree_of a) m else m) (sym c))),
          )
