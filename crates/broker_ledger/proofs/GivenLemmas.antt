-- A run that is given answers to what it asks.
use Rattle.broker_ledger.proofs.Names.{Stmt, Line, ObjectId, Value, Answer, Stop, Next, RunParts, Tells, block, Tree, denote, stop, IsAnswerTo, AreAsked, Given, answer_of, answers_given, ◌≡◌, ℕ, suc, ◌<◌, ◌++◌, ◌∷◌, [], List, length, take, drop, get_or, Some, refl, ap, ◌∙◌, subst, sym, split_at, map-append, Got, Stored, asked-front}
use Rattle.value_form.specs.declared.transcripts.Line.TheVariants as line
use Rattle.script_run.specs.declared.nexts.Next.TheVariants as next
use Rattle.script_run.specs.RunParts.{stop_of, answered, IsRead, IsWrite}
use Rattle.broker_ledger.proofs.StopLemmas.{told-stop}

-- what is given to a run that asks for it
read-next : (n : Next) (a : Value) → IsAnswerTo (stop_of n) (Got a) → (o : ObjectId) × (n ≡ next.Read o)
read-next (next.Read o) a h = (o, refl)
read-next x a h = absurd h

write-next : (n : Next) → IsAnswerTo (stop_of n) Stored → (o : ObjectId) × (v : Value) × (n ≡ next.Write o v)
write-next (next.Read o) h = absurd h
write-next (next.Write o v) h = (o, v, refl)
write-next x h = absurd h

told-asks : (script : List Stmt) (ans : List Answer) (ls : List Line) (n : Next) (a : Answer) → Tells script ans ls n → IsAnswerTo (stop (denote (block script)) ans) a → IsAnswerTo (stop_of n) a
told-asks script ans ls n a t h = subst (λ (s : Stop). IsAnswerTo s a) (sym (told-stop script ans ls n t)) h

-- `old` is the run before it was asked, `now` after that, and `new` once it was given the answer
module _ (old now : RunParts) (n : Next) where
  read-said : (a : Value) → Tells old.script old.answers now.lines n → now.said ≡ Some n → IsAnswerTo (stop (denote (block old.script)) old.answers) (Got a) → (o : ObjectId) × (now.said ≡ Some (next.Read o))
  read-said a t s h = let r = read-next n a (told-asks old.script old.answers now.lines n (Got a) t h) in (r.0, s ∙ ap Some r.1)

  pub said-read : (a : Value) → Tells old.script old.answers now.lines n → now.said ≡ Some n → IsAnswerTo (stop (denote (block old.script)) old.answers) (Got a) → IsRead now.said
  said-read a t s h = let r = read-said a t s h in subst IsRead (sym r.1) tt

  pub value-given : (new : RunParts) (a b : Value) → Tells old.script old.answers now.lines n → now.said ≡ Some n → now.script ≡ old.script → now.answers ≡ old.answers →
      IsAnswerTo (stop (denote (block old.script)) old.answers) (Got a) → b ≡ a → ((o : ObjectId) → now.said ≡ Some (next.Read o) → new ≡ answered now (Got b) (line.Read o b)) →
      (new.script ≡ old.script) × (new.answers ≡ old.answers ++ Got a ∷ [])
  value-given new a b t s e q h c g =
      let r = read-said a t s h in
      let k : new ≡ answered now (Got b) (line.Read r.0 b) = g r.0 r.1 in
      (ap (λ (x : RunParts). x.script) k ∙ e, ap (λ (x : RunParts). x.answers) k ∙ (ap (λ (xs : List Answer). xs ++ Got b ∷ []) q ∙ ap (λ (x : Value). old.answers ++ Got x ∷ []) c))

  write-said : Tells old.script old.answers now.lines n → now.said ≡ Some n → IsAnswerTo (stop (denote (block old.script)) old.answers) Stored → (o : ObjectId) × (v : Value) × (now.said ≡ Some (next.Write o v))
  write-said t s h = let r = write-next n (told-asks old.script old.answers now.lines n Stored t h) in (r.0, r.1, s ∙ ap Some r.2)

  pub said-write : Tells old.script old.answers now.lines n → now.said ≡ Some n → IsAnswerTo (stop (denote (block old.script)) old.answers) Stored → IsWrite now.said
  said-write t s h = let r = write-said t s h in subst IsWrite (sym r.2) tt

  pub stored-given : (new : RunParts) → Tells old.script old.answers now.lines n → now.said ≡ Some n → now.script ≡ old.script → now.answers ≡ old.answers →
      IsAnswerTo (stop (denote (block old.script)) old.answers) Stored → ((o : ObjectId) (v : Value) → now.said ≡ Some (next.Write o v) → new ≡ answered now Stored (line.Wrote o v)) →
      (new.script ≡ old.script) × (new.answers ≡ old.answers ++ Stored ∷ [])
  stored-given new t s e q h g =
      let r = write-said t s h in
      let k : new ≡ answered now Stored (line.Wrote r.0 r.1) = g r.0 r.1 r.2 in
      (ap (λ (x : RunParts). x.script) k ∙ e, ap (λ (x : RunParts). x.answers) k ∙ ap (λ (xs : List Answer). xs ++ Stored ∷ []) q)

-- the answer in this place is to what is asked after those before it
pub asked-at : (t : Tree) (xs : List Given) (i : ℕ) (x : Given) → AreAsked t (answers_given xs) → i < length xs → x ≡ get_or xs i x → IsAnswerTo (stop t (answers_given (take i xs))) (answer_of x)
asked-at t xs i x h l e =
    let s : answers_given xs ≡ answers_given (take i xs) ++ answer_of (get_or xs i x) ∷ answers_given (drop (suc i) xs) =
    ap answers_given (split_at xs i x l) ∙ map-append answer_of (take i xs) (get_or xs i x ∷ drop (suc i) xs) in
    subst (λ (y : Given). IsAnswerTo (stop t (answers_given (take i xs))) (answer_of y)) (sym e)
    (asked-front t (answers_given (take i xs)) (answers_given (drop (suc i) xs)) (answer_of (get_or xs i x)) (subst (AreAsked t) s h)).1

-- the answer in this place, for a run that was given those before it
pub asked-there : (r : RunParts) (script : List Stmt) (xs : List Given) (i : ℕ) (x : Given) → r.script ≡ script → r.answers ≡ answers_given (take i xs) → AreAsked (denote (block script)) (answers_given xs) → i < length xs → x ≡ get_or xs i x →
    IsAnswerTo (stop (denote (block r.script)) r.answers) (answer_of x)
asked-there r script xs i x e q h l is =
    subst (λ (ys : List Answer). IsAnswerTo (stop (denote (block r.script)) ys) (answer_of x)) (sym q)
    (subst (λ (s : List Stmt). IsAnswerTo (stop (denote (block s)) (answers_given (take i xs))) (answer_of x)) (sym e) (asked-at (denote (block script)) xs i x h l is))
