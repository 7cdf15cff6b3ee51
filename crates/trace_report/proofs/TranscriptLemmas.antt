-- A script that is given answers, up to the first that it doesn't ask for.
use Rattle.std.proofs.Math.Seq.{split_at}
use Rattle.trace_report.proofs.Names.{map-append, true≢false, false≢true, Stmt, Value, block, Answer, Got, Stored, Tree, denote, talked, Answered, answer_of, answers_of, ◌≡◌, ℕ, suc, ◌<◌, Bool, true, false, List, [], ◌∷◌, ◌++◌, append_assoc, length, take, drop, get_or, refl, sym, ◌∙◌, ap, subst, Stop, Ends, Says, Reads, Writes, stop, line_before, IsUnasked, Gave, reads_now, writes_now}
use Rattle.value_form.specs.declared.transcripts.Line.{Line}
use Rattle.value_form.specs.declared.transcripts.Line.TheVariants as line
use Rattle.script_run.specs.declared.nexts.Next.{Next}
use Rattle.script_run.specs.declared.nexts.Next.TheVariants as next
use Rattle.script_run.specs.RunParts.{RunParts, Tells, begun, stop_of}
use Rattle.serial_model.specs.Asked.{IsAnswerTo}
use Rattle.serial_model.proofs.ScriptLemmas.{talk_of}
use Rattle.broker_core.proofs.StopLemmas.{told-stop}

-- what isn't asked for, and what is behind it, changes nothing
pub talked-front : (t : Tree) (xs ys : List Answer) (a : Answer) → IsUnasked (stop t xs) a → talked t xs ≡ talked t (xs ++ a ∷ ys)
talked-front (Ends e) xs ys a u = refl
talked-front (Says v t) xs ys a u = ap (line_before (line.Print v)) (talked-front t xs ys a u)
talked-front (Reads o k) [] ys (Got v) u = absurd u
talked-front (Reads o k) [] ys Stored u = refl
talked-front (Reads o k) (Got v ∷ xs) ys a u = ap (line_before (line.Read o v)) (talked-front (k v) xs ys a u)
talked-front (Reads o k) (Stored ∷ xs) ys a u = refl
talked-front (Writes o w t) [] ys (Got v) u = refl
talked-front (Writes o w t) [] ys Stored u = absurd u
talked-front (Writes o w t) (Stored ∷ xs) ys a u = ap (line_before (line.Wrote o w)) (talked-front t xs ys a u)
talked-front (Writes o w t) (Got v ∷ xs) ys a u = refl

read-asked : (n : Next) (v : Value) → reads_now (stop_of n) ≡ true → IsAnswerTo (stop_of n) (Got v)
read-asked (next.Read o) v h = tt
read-asked x v h = absurd (false≢true h)

read-unasked : (n : Next) (v : Value) → reads_now (stop_of n) ≡ false → IsUnasked (stop_of n) (Got v)
read-unasked (next.Read o) v h = absurd (true≢false h)
read-unasked x v h = tt

write-asked : (n : Next) → writes_now (stop_of n) ≡ true → IsAnswerTo (stop_of n) Stored
write-asked (next.Read o) h = absurd (false≢true h)
write-asked (next.Write o w) h = tt
write-asked x h = absurd (false≢true h)

write-unasked : (n : Next) → writes_now (stop_of n) ≡ false → IsUnasked (stop_of n) Stored
write-unasked (next.Read o) h = tt
write-unasked (next.Write o w) h = absurd (true≢false h)
write-unasked x h = tt

module _ (script : List Stmt) (ans : List Answer) (ls : List Line) (n : Next) (t : Tells script ans ls n) where
  pub asks-read : (v : Value) → reads_now (stop_of n) ≡ true → IsAnswerTo (stop (denote (block script)) ans) (Got v)
  asks-read v h = subst (λ (s : Stop). IsAnswerTo s (Got v)) (told-stop script ans ls n t) (read-asked n v h)

  pub asks-no-read : (v : Value) → reads_now (stop_of n) ≡ false → IsUnasked (stop (denote (block script)) ans) (Got v)
  asks-no-read v h = subst (λ (s : Stop). IsUnasked s (Got v)) (told-stop script ans ls n t) (read-unasked n v h)

  pub asks-write : writes_now (stop_of n) ≡ true → IsAnswerTo (stop (denote (block script)) ans) Stored
  asks-write h = subst (λ (s : Stop). IsAnswerTo s Stored) (told-stop script ans ls n t) (write-asked n h)

  pub asks-no-write : writes_now (stop_of n) ≡ false → IsUnasked (stop (denote (block script)) ans) Stored
  asks-no-write h = subst (λ (s : Stop). IsUnasked s Stored) (told-stop script ans ls n t) (write-unasked n h)

  -- the transcript so far is that of the answers
  pub told-lines : ls ≡ (talked (denote (block script)) ans).lines
  told-lines = sym (ap (λ x. x.lines) t) ∙ (talk_of (block script) ans).0

gave-not : (b : Bool) (old new : RunParts) (a : Answer) → b ≡ false → Gave b old new a → Gave false old new a
gave-not b old new a h g = subst (λ z. Gave z old new a) h g

-- the answer in this place isn't asked for
pub stopped-early : (lines : List Stmt) (first : List Answer) (old new : RunParts) (xs : List Answered) (i : ℕ) (x : Answered) (b : Bool) → old.script ≡ lines → old.answers ≡ first ++ answers_of (take i xs) → i < length xs → x ≡ get_or xs i x →
    b ≡ false → Gave b old new (answer_of x) → talked (denote (block lines)) new.answers ≡ talked (denote (block lines)) (first ++ answers_of xs)
stopped-early lines first old new xs i x b e q l is h g =
    let k = gave-not b old new (answer_of x) h g in
    let u : IsUnasked (stop (denote (block lines)) old.answers) (answer_of x) = subst (λ (s : List Stmt). IsUnasked (stop (denote (block s)) old.answers) (answer_of x)) e k.1 in
    let parts : answers_of xs ≡ answers_of (take i xs) ++ answer_of x ∷ answers_of (drop (suc i) xs) =
    ap answers_of (split_at xs i x l) ∙ map-append answer_of (take i xs) (get_or xs i x ∷ drop (suc i) xs) ∙ ap (λ y. answers_of (take i xs) ++ answer_of y ∷ answers_of (drop (suc i) xs)) (sym is) in
    ap (talked (denote (block lines))) k.0 ∙ talked-front (denote (block lines)) old.answers (answers_of (drop (suc i) xs)) (answer_of x) u
    ∙ ap (talked (denote (block lines))) (ap (λ z. z ++ answer_of x ∷ answers_of (drop (suc i) xs)) q ∙ append_assoc first (answers_of (take i xs)) (answer_of x ∷ answers_of (drop (suc i) xs)) ∙ ap (λ z. first ++ z) (sym parts))

-- of a run that began and was given answers
pub transcript-is : (lines : List Stmt) (run new : RunParts) (xs : List Answered) → run ≡ begun lines → new.script ≡ run.script →
    talked (denote (block run.script)) new.answers ≡ talked (denote (block run.script)) (run.answers ++ answers_of xs) → (talked (denote (block new.script)) new.answers).lines ≡ (talked (denote (block lines)) (answers_of xs)).lines
transcript-is lines run new xs r e t =
    ap (λ (s : List Stmt). (talked (denote (block s)) new.answers).lines) e ∙ ap (λ k. k.lines) t ∙ ap (λ (z : RunParts). (talked (denote (block z.script)) (z.answers ++ answers_of xs)).lines) r
