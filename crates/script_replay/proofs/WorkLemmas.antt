-- A script that is given answers over a map: one answer more, and an answer that doesn't agree.
use Rattle.std.proofs.Math.Seq.{split_at}
use Rattle.serial_model.proofs.Names.{◌≡◌, ℕ, suc, List, [], ◌∷◌, ◌++◌, Some, cond, refl, sym, ap, ◌∙◌, subst, Bool, true, false, eq_by_cmp, get, get-insert, same_map, object_cmp-exact, ObjectId, Value, object_cmp, Objects, value_at, object_cmp-total, ToRead, ToWrite, Asks, Over, Answer, Got, Stored, Tree, Ends, Says, Reads, Writes, denote, stop, talked, AnswersOf, left_after, IsAnswerTo, overlaid, Option, None}
use Rattle.std.proofs.Common.{take, drop, length, get_or, ◌<◌}
use Rattle.std.proofs.lemmas.List.{map-append}
use Rattle.std.specs.FinMap as finite
use Rattle.value_form.specs.Mirror.{block}
use Rattle.value_form.specs.declared.scripts.Stmt.{Stmt}
use Rattle.value_form.specs.declared.transcripts.Line.{Line}
use Rattle.value_form.specs.declared.transcripts.Line.TheVariants as line
use Rattle.script_meaning.specs.Meaning.{Came, Stop}
use Rattle.script_run.specs.RunParts.{RunParts, Tells, answered, stop_of}
use Rattle.script_run.specs.declared.nexts.Next.{Next}
use Rattle.script_run.specs.declared.nexts.Next.TheVariants as next
use Rattle.serial_model.proofs.AgreeLemmas.{agrees-read, agrees-write}
use Rattle.std.specs.Prelude.{unwrap_or}
use Rattle.value_form.specs.declared.values.Value.TheVariants.{Nothing}
use Rattle.serial_model.proofs.OverlayLemmas.{found_below, get-overlaid, or_below}
use Rattle.serial_model.proofs.AnswerLemmas.{talked-stop}
use Rattle.serial_model.proofs.ScriptLemmas.{talk_of}
use Rattle.script_replay.specs.declared.attempts.Reply.{Reply}
use Rattle.script_replay.specs.Attempts.{answer_of, answers_of}
use Rattle.script_replay.specs.Works.{Agrees, Took, tree_run}

-- ---- writes over a map

below-cond : (b : Bool) (v : Value) (x r : Option Value) → or_below (cond b (Some v) x) r ≡ cond b (Some v) (or_below x r)
below-cond true v x r = refl
below-cond false v x r = refl

pub overlaid-insert : (w m : Objects) (o : ObjectId) (a : Value) → overlaid (finite.insert w o a) m ≡ finite.insert (overlaid w m) o a
overlaid-insert w m o a = same_map object_cmp-total object_cmp-exact (overlaid (finite.insert w o a) m) (finite.insert (overlaid w m) o a) (λ q.
    get-overlaid (finite.insert w o a) m q ∙ ap (λ z. or_below z (get m q)) (get-insert object_cmp-total w o a q) ∙ below-cond (eq_by_cmp object_cmp q o) a (get w q) (get m q)
    ∙ sym (get-insert object_cmp-total (overlaid w m) o a q ∙ ap (cond (eq_by_cmp object_cmp q o) (Some a)) (get-overlaid w m q)))

pub overlaid-none : (m : Objects) → overlaid finite.empty m ≡ m
overlaid-none m = same_map object_cmp-total object_cmp-exact (overlaid finite.empty m) m (λ q. get-overlaid finite.empty m q ∙ ap (λ z. or_below z (get m q)) (finite.get-empty object_cmp q))

-- what an object has by the writes over the map
pub has-write : (w m : Objects) (o : ObjectId) (h : Value) → get w o ≡ Some h → h ≡ value_at (overlaid w m) o
has-write w m o h e = sym (ap (λ z. unwrap_or z Nothing) (get-overlaid w m o ∙ ap (λ z. or_below z (get m o)) e))

pub has-below : (w m : Objects) (o : ObjectId) (h : Value) → get w o ≡ None → get m o ≡ Some h → h ≡ value_at (overlaid w m) o
has-below w m o h e k = sym (found_below w m o e ∙ ap (λ z. unwrap_or z Nothing) k)

pub has-none : (w m : Objects) (o : ObjectId) → get w o ≡ None → get m o ≡ None → Nothing ≡ value_at (overlaid w m) o
has-none w m o e k = sym (found_below w m o e ∙ ap (λ z. unwrap_or z Nothing) k)

-- ---- where a run stops

pub told-stop : (script : List Stmt) (ans : List Answer) (ls : List Line) (n : Next) → Tells script ans ls n → stop_of n ≡ stop (denote (block script)) ans
told-stop script ans ls n t = sym (ap (λ (x : Came (List Answer)). x.stop) t) ∙ ((talk_of (block script) ans).1 ∙ talked-stop (denote (block script)) ans)

pub told-lines : (script : List Stmt) (ans : List Answer) (ls : List Line) (n : Next) → Tells script ans ls n → ls ≡ (talked (denote (block script)) ans).lines
told-lines script ans ls n t = sym (ap (λ (x : Came (List Answer)). x.lines) t) ∙ (talk_of (block script) ans).0

-- ---- one answer, and whatever is behind it

same-value : (p o : ObjectId) (m : Objects) (v : Value) → Asks (ToRead p) ≡ Asks (ToRead o) → v ≡ value_at m p → v ≡ value_at m o
same-value p o m v e h = let same : p ≡ o = cc e in h ∙ ap (value_at m) same

-- what is read is what the map has there
read-agrees : (t : Tree) (ans more : List Answer) (m : Objects) (o : ObjectId) (v : Value) → stop t ans ≡ Asks (ToRead o) → AnswersOf t (ans ++ Got v ∷ more) m → v ≡ value_at (left_after t ans m) o
read-agrees (Ends e) ans more m o v is h = absurd (let k : Over e ≡ Asks (ToRead o) = is in cc)
read-agrees (Says a t) ans more m o v is h = read-agrees t ans more m o v is h
read-agrees (Reads p k) [] more m o v is h = same-value p o m v is h.0
read-agrees (Reads p k) (Got a ∷ ans) more m o v is h = read-agrees (k a) ans more m o v is h.1
read-agrees (Reads p k) (Stored ∷ ans) more m o v is h = absurd h
read-agrees (Writes p a t) [] more m o v is h = absurd h
read-agrees (Writes p a t) (Stored ∷ ans) more m o v is h = read-agrees t ans more (finite.insert m p a) o v is h
read-agrees (Writes p a t) (Got b ∷ ans) more m o v is h = absurd h

-- an answer is of the kind that is asked for
kind-agrees : (t : Tree) (ans more : List Answer) (m : Objects) (a : Answer) → AnswersOf t (ans ++ a ∷ more) m → IsAnswerTo (stop t ans) a
kind-agrees (Ends e) [] more m a h = absurd h
kind-agrees (Ends e) (x ∷ ans) more m a h = absurd h
kind-agrees (Says v t) ans more m a h = kind-agrees t ans more m a h
kind-agrees (Reads p k) [] more m (Got v) h = tt
kind-agrees (Reads p k) [] more m Stored h = absurd h
kind-agrees (Reads p k) (Got b ∷ ans) more m a h = kind-agrees (k b) ans more m a h.1
kind-agrees (Reads p k) (Stored ∷ ans) more m a h = absurd h
kind-agrees (Writes p v t) [] more m (Got b) h = absurd h
kind-agrees (Writes p v t) [] more m Stored h = tt
kind-agrees (Writes p v t) (Stored ∷ ans) more m a h = kind-agrees t ans more (finite.insert m p v) a h
kind-agrees (Writes p v t) (Got b ∷ ans) more m a h = absurd h

-- ---- a run goes on

agrees-with : (m : Objects) (old new : RunParts) (w : Objects) (list : List Answer) → new.script ≡ old.script → new.answers ≡ list → AnswersOf (tree_run old) list m → left_after (tree_run old) list m ≡ overlaid w m → Agrees m new w
agrees-with m old new w list e q a l = record {
  answers = subst (λ (s : List Stmt). AnswersOf (denote (block s)) new.answers m) (sym e) (subst (λ xs. AnswersOf (tree_run old) xs m) (sym q) a);
  left = subst (λ (s : List Stmt). left_after (denote (block s)) new.answers m ≡ overlaid w m) (sym e) (subst (λ xs. left_after (tree_run old) xs m ≡ overlaid w m) (sym q) l);
}

-- `now` is the run once it was asked, `new` once it was given the answer
module _ (m : Objects) (old now new : RunParts) (w : Objects) (g : Agrees m old w) where
  pub read-took : (o : ObjectId) (v u : Value) → Tells old.script old.answers now.lines (next.Read o) → now.said ≡ Some (next.Read o) → now.script ≡ old.script → now.answers ≡ old.answers →
      v ≡ value_at (overlaid w m) o → u ≡ v → ((p : ObjectId) → now.said ≡ Some (next.Read p) → new ≡ answered now (Got u) (line.Read p u)) → Took true m old new w (Got v)
  read-took o v u t s e q h c k =
      let is : new ≡ answered now (Got u) (line.Read o u) = k o s in
      let script : new.script ≡ old.script = ap (λ (x : RunParts). x.script) is ∙ e in
      let answers : new.answers ≡ old.answers ++ Got v ∷ [] = ap (λ (x : RunParts). x.answers) is ∙ (ap (λ (xs : List Answer). xs ++ Got u ∷ []) q ∙ ap (λ (x : Value). old.answers ++ Got x ∷ []) c) in
      let asks : stop (tree_run old) old.answers ≡ Asks (ToRead o) = sym (told-stop old.script old.answers now.lines (next.Read o) t) in
      let r = agrees-read (tree_run old) old.answers m o g.answers asks in
      let same : value_at (left_after (tree_run old) old.answers m) o ≡ v = ap (λ (z : Objects). value_at z o) g.left ∙ sym h in (
        script,
        answers,
        agrees-with m old new w (old.answers ++ Got v ∷ []) script answers (subst (λ x. AnswersOf (tree_run old) (old.answers ++ Got x ∷ []) m) same r.0)
            (subst (λ x. left_after (tree_run old) (old.answers ++ Got x ∷ []) m ≡ left_after (tree_run old) old.answers m) same r.1 ∙ g.left),
      )

  pub read-other : (o : ObjectId) (v : Value) → Tells old.script old.answers now.lines (next.Read o) → (v ≡ value_at (overlaid w m) o → ⊥) → Took false m old new w (Got v)
  read-other o v t isnt = λ more h. isnt (read-agrees (tree_run old) old.answers more m o v (sym (told-stop old.script old.answers now.lines (next.Read o) t)) h ∙ ap (λ (z : Objects). value_at z o) g.left)

  pub none-took : (n : Next) (a : Answer) (u : Objects) → Tells old.script old.answers now.lines n → (IsAnswerTo (stop_of n) a → ⊥) → Took false m old new u a
  none-took n a u t isnt = λ more h. isnt (subst (λ (s : Stop). IsAnswerTo s a) (sym (told-stop old.script old.answers now.lines n t)) (kind-agrees (tree_run old) old.answers more m a h))

  pub write-took : (o : ObjectId) (v : Value) (u : Objects) → Tells old.script old.answers now.lines (next.Write o v) → now.said ≡ Some (next.Write o v) → now.script ≡ old.script → now.answers ≡ old.answers →
      u ≡ finite.insert w o v → ((p : ObjectId) (b : Value) → now.said ≡ Some (next.Write p b) → new ≡ answered now Stored (line.Wrote p b)) → Took true m old new u Stored
  write-took o v u t s e q h k =
      let is : new ≡ answered now Stored (line.Wrote o v) = k o v s in
      let script : new.script ≡ old.script = ap (λ (x : RunParts). x.script) is ∙ e in
      let answers : new.answers ≡ old.answers ++ Stored ∷ [] = ap (λ (x : RunParts). x.answers) is ∙ ap (λ (xs : List Answer). xs ++ Stored ∷ []) q in
      let asks : stop (tree_run old) old.answers ≡ Asks (ToWrite o v) = sym (told-stop old.script old.answers now.lines (next.Write o v) t) in
      let r = agrees-write (tree_run old) old.answers m o v g.answers asks in (
        script,
        answers,
        agrees-with m old new u (old.answers ++ Stored ∷ []) script answers r.0
            (r.1 ∙ ap (λ (z : Objects). finite.insert z o v) g.left ∙ sym (overlaid-insert w m o v) ∙ ap (λ (z : Objects). overlaid z m) (sym h)),
      )

-- a run that was only asked
pub now-agrees : (m : Objects) (old now : RunParts) (w : Objects) → Agrees m old w → now.script ≡ old.script → now.answers ≡ old.answers → Agrees m now w
now-agrees m old now w g e q = agrees-with m old now w old.answers e q g.answers g.left

pub now-tells : (old now : RunParts) (n k : Next) → n ≡ k → Tells old.script old.answers now.lines n → now.script ≡ old.script → now.answers ≡ old.answers → Tells now.script now.answers now.lines k
now-tells old now n k is t e q =
    subst (λ (s : List Stmt). Tells s now.answers now.lines k) (sym e) (subst (λ (xs : List Answer). Tells old.script xs now.lines k) (sym q) (subst (λ (z : Next). Tells old.script old.answers now.lines z) is t))

pub took-before : (b : Bool) (m : Objects) (old now new : RunParts) (w : Objects) (a : Answer) → Took b m now new w a → now.script ≡ old.script → now.answers ≡ old.answers → Took b m old new w a
took-before true m old now new w a h e q = (h.0 ∙ e, h.1 ∙ ap (λ (xs : List Answer). xs ++ a ∷ []) q, h.2)
took-before false m old now new w a h e q = λ more k.
    h more (subst (λ (s : List Stmt). AnswersOf (denote (block s)) (now.answers ++ a ∷ more) m) (sym e) (subst (λ (xs : List Answer). AnswersOf (tree_run old) (xs ++ a ∷ more) m) (sym q) k))

took-not : (b : Bool) (m : Objects) (old new : RunParts) (w : Objects) (a : Answer) → b ≡ false → Took b m old new w a → Took false m old new w a
took-not b m old new w a e h = subst (λ (z : Bool). Took z m old new w a) e h

-- ---- all of them

-- the answer in this place doesn't agree
pub stopped : (m : Objects) (first old new : RunParts) (w : Objects) (xs : List Reply) (i : ℕ) (x : Reply) → old.script ≡ first.script → old.answers ≡ answers_of (take i xs) → i < length xs → x ≡ get_or xs i x →
    (b : Bool) → b ≡ false → Took b m old new w (answer_of x) → AnswersOf (tree_run first) (answers_of xs) m → ⊥
stopped m first old new w xs i x e q l is b not took h =
    let isnt : Took false m old new w (answer_of x) = took-not b m old new w (answer_of x) not took in
    let parts : answers_of xs ≡ answers_of (take i xs) ++ answer_of x ∷ answers_of (drop (suc i) xs) =
    ap answers_of (split_at xs i x l) ∙ map-append answer_of (take i xs) (get_or xs i x ∷ drop (suc i) xs) ∙ ap (λ (y : Reply). answers_of (take i xs) ++ answer_of y ∷ answers_of (drop (suc i) xs)) (sym is) in
    isnt (answers_of (drop (suc i) xs))
    (subst (λ (list : List Answer). AnswersOf (tree_run old) (list ++ answer_of x ∷ answers_of (drop (suc i) xs)) m) (sym q)
    (subst (λ (s : List Stmt). AnswersOf (denote (block s)) (answers_of (take i xs) ++ answer_of x ∷ answers_of (drop (suc i) xs)) m) (sym e)
    (subst (λ (list : List Answer). AnswersOf (tree_run first) list m) parts h)))

-- ---- what isn't asked for

pub answered-read : (n : Next) (v : Value) → ((o : ObjectId) → n ≡ next.Read o → ⊥) → IsAnswerTo (stop_of n) (Got v) → ⊥
answered-read (next.Read o) v isnt h = isnt o refl
answered-read (next.Write o w) v isnt h = h
answered-read next.Finished v isnt h = h
answered-read (next.Withdrawn l) v isnt h = h
answered-read (next.Failed l k) v isnt h = h

pub answered-write : (n : Next) → ((o : ObjectId) (w : Value) → n ≡ next.Write o w → ⊥) → IsAnswerTo (stop_of n) Stored → ⊥
answered-write (next.Read o) isnt h = h
answered-write (next.Write o w) isnt h = isnt o w refl
answered-write next.Finished isnt h = h
answered-write (next.Withdrawn l) isnt h = h
answered-write (next.Failed l k) isnt h = h
