-- Serial from the facts
use Rattle.pseudo_time.specs.declared.decisions.Decision.TheVariants as decision
use Rattle.serial_law.proofs.Names.{Outcome, Post, Answer, Over, RunLogs, Try, before, committed, marks_at, RunFacts, IsSerial, Serial, Tree, talked, talked_alone, Objects, Ending, Has, MayCommit, ◌≡◌, Bool, true, false, List, refl, subst, Some, false≢true, IsComplete}
use Rattle.effect_form.specs.declared.outcomes.Outcome.TheVariants as outcome
use Rattle.serial_model.specs.Questions.{AnswersOf}
use Rattle.serial_law.proofs.Talking.{Alike, alone, answers-alone}
use Rattle.serial_law.proofs.Settled.{at-home, committed-home}
use Rattle.serial_law.proofs.Premises.{lone}
use Rattle.serial_law.proofs.Before.{whole, before-holds}
use Rattle.serial_law.proofs.Lines.{puts-are-lines}
use Rattle.value_form.specs.declared.endings.Ending.TheVariants as ending

whole-of : (t : Tree) (ans : List Answer) (m : Objects) (e : Ending) → Alike t ans m → (talked t ans).stop ≡ Over e → IsComplete (talked t ans) (talked_alone t m) e
whole-of t ans m e h k = let s = h.whole e k in record { over = k; lines = s.0; ends = s.1 }

not-other : (k : RunLogs) (ever : List Post) → RunFacts k ever → (T : Try) → Has T k.tries → (e : Outcome) → T.ended ≡ Some e →
    (e ≡ outcome.Committed → ⊥) → committed k T.stamp ≡ true → MayCommit (Some e) → ⊥
not-other k ever f T a outcome.Committed h n c m = n refl
not-other k ever f T a (outcome.Expired d t) h n c m =
    false≢true (f.decided_once T.stamp (decision.Expired d t) decision.Committed
    (f.decided T.stamp (decision.Expired d t) (f.end_expired T d t a h)) (at-home k ever f T.stamp c))
not-other k ever f T a e h n c m = absurd m

pub serial-try : (k : RunLogs) (ever : List Post) → RunFacts k ever → (T : Try) → Has T k.tries → IsSerial k T (talked T.script T.answers) (talked_alone T.script (before k T.stamp))
serial-try k ever f T a =
    let al = alone T.script T.answers T.stamp (marks_at k) (committed k) (lone k ever f T a) (before k T.stamp) (before-holds k ever f T.stamp) in
    record {
      front = al.front;
      finished = λ c. whole-of T.script T.answers (before k T.stamp) ending.Finished al (whole k ever f T a c);
      withdrawn = λ l e. whole-of T.script T.answers (before k T.stamp) (ending.Withdrawn l) al (f.end_withdrawn T l a e);
      failed = λ l x e. whole-of T.script T.answers (before k T.stamp) (ending.Failed l x) al (f.end_failed T l x a e);
      sure = λ e. committed-home k ever f T.stamp (f.home T a) (f.decided T.stamp decision.Committed (f.end_committed T a e));
      other = λ e h n. other e h n (committed k T.stamp) refl;
      puts = λ c. puts-are-lines k ever f T a c;
    }
  where
    other : (e : Outcome) → T.ended ≡ Some e → (e ≡ outcome.Committed → ⊥) → (b : Bool) → committed k T.stamp ≡ b → committed k T.stamp ≡ false
    other e h n false c = c
    other e h n true c = absurd (not-other k ever f T a e h n c (subst MayCommit h (f.commit_asked T a (f.commit T.stamp (at-home k ever f T.stamp c))).1))

-- its answers are what the map gives, with its own writes so far
pub answers-try : (k : RunLogs) (ever : List Post) → RunFacts k ever → (T : Try) → Has T k.tries → AnswersOf T.script T.answers (before k T.stamp)
answers-try k ever f T a = answers-alone T.script T.answers T.stamp (marks_at k) (committed k) (lone k ever f T a) (before k T.stamp) (before-holds k ever f T.stamp)

-- the second part
pub serial : (k : RunLogs) (ever : List Post) → RunFacts k ever → Serial k
serial k ever f T a = serial-try k ever f T a
