-- Answers that agree with a map: what they lead to, and that there are at most 10,000.
use Rattle.serial_model.proofs.Names.{◌≡◌, ◌≤◌, List, [], ◌∷◌, ◌++◌, length, refl, sym, ap, ◌∙◌, Ending, ObjectId, Value, Read, Print, Block, Objects, value_at, ToRead, ToWrite, Asks, Over, Answer, Got, Stored, AreAsked, Tree, Ends, Says, Reads, Writes, denote, line_before, talked, talked_alone, left_by, stop, AnswersOf, left_after}
use Rattle.std.specs.FinMap as finite
use Rattle.value_form.specs.declared.transcripts.Line.TheVariants as line
use Rattle.serial_model.proofs.AskedLemmas.{asked-few}

-- ---- one answer more

pub agrees-none : (t : Tree) (m : Objects) → AnswersOf t [] m × (left_after t [] m ≡ m)
agrees-none (Ends e) m = (tt, refl)
agrees-none (Says a t) m = agrees-none t m
agrees-none (Reads o k) m = (tt, refl)
agrees-none (Writes o a t) m = (tt, refl)

-- it agrees, and leaves the map as it was
abbrev pub ReadOn : Tree → List Answer → Objects → Value → Type 0
ReadOn t ans m a = AnswersOf t (ans ++ Got a ∷ []) m × (left_after t (ans ++ Got a ∷ []) m ≡ left_after t ans m)

read_here : (o p : ObjectId) (k : Value → Tree) (m : Objects) → Asks (ToRead o) ≡ Asks (ToRead p) → ReadOn (Reads o k) [] m (value_at m p)
read_here o p k m e =
    let same : o ≡ p = cc in
    let next = agrees-none (k (value_at m p)) m in
    ((ap (value_at m) (sym same), next.0), next.1)

pub agrees-read : (t : Tree) (ans : List Answer) (m : Objects) (o : ObjectId) → AnswersOf t ans m → stop t ans ≡ Asks (ToRead o) → ReadOn t ans m (value_at (left_after t ans m) o)
agrees-read (Ends e) ans m o h is = absurd (let k : Over e ≡ Asks (ToRead o) = is in cc)
agrees-read (Says a t) ans m o h is = agrees-read t ans m o h is
agrees-read (Reads p k) [] m o h is = read_here p o k m is
agrees-read (Reads p k) (Got a ∷ ans) m o h is = let next = agrees-read (k a) ans m o h.1 is in ((h.0, next.0), next.1)
agrees-read (Writes p a t) [] m o h is = absurd (let k : Asks (ToWrite p a) ≡ Asks (ToRead o) = is in cc)
agrees-read (Writes p a t) (Stored ∷ ans) m o h is = agrees-read t ans (finite.insert m p a) o h is
agrees-read _ _ m o h is = absurd h

-- it agrees, and the map has the write
abbrev pub WrittenOn : Tree → List Answer → Objects → ObjectId → Value → Type 0
WrittenOn t ans m o a = AnswersOf t (ans ++ Stored ∷ []) m × (left_after t (ans ++ Stored ∷ []) m ≡ finite.insert (left_after t ans m) o a)

write_here : (o p : ObjectId) (a b : Value) (t : Tree) (m : Objects) → Asks (ToWrite o a) ≡ Asks (ToWrite p b) → WrittenOn (Writes o a t) [] m p b
write_here o p a b t m e =
    let same : o ≡ p = cc in
    let equal : a ≡ b = cc in
    let next = agrees-none t (finite.insert m o a) in
    (next.0, next.1 ∙ ap (λ z. finite.insert m z a) same ∙ ap (finite.insert m p) equal)

pub agrees-write : (t : Tree) (ans : List Answer) (m : Objects) (o : ObjectId) (a : Value) → AnswersOf t ans m → stop t ans ≡ Asks (ToWrite o a) → WrittenOn t ans m o a
agrees-write (Ends e) ans m o a h is = absurd (let k : Over e ≡ Asks (ToWrite o a) = is in cc)
agrees-write (Says b t) ans m o a h is = agrees-write t ans m o a h is
agrees-write (Reads p k) [] m o a h is = absurd (let k : Asks (ToRead p) ≡ Asks (ToWrite o a) = is in cc)
agrees-write (Reads p k) (Got b ∷ ans) m o a h is = let next = agrees-write (k b) ans m o a h.1 is in ((h.0, next.0), next.1)
agrees-write (Writes p b t) [] m o a h is = write_here p o b a t m is
agrees-write (Writes p b t) (Stored ∷ ans) m o a h is = agrees-write t ans (finite.insert m p b) o a h is
agrees-write _ _ m o a h is = absurd h

-- ---- all answers

-- the transcript, the ending and the map are those of the script alone
pub agrees-whole : (t : Tree) (ans : List Answer) (m : Objects) (e : Ending) → AnswersOf t ans m → stop t ans ≡ Over e → (talked_alone t m ≡ talked t ans) × (left_by t m ≡ left_after t ans m)
agrees-whole (Ends f) ans m e h is = (refl, refl)
agrees-whole (Says a t) ans m e h is = let next = agrees-whole t ans m e h is in (ap (line_before (line.Print a)) next.0, next.1)
agrees-whole (Reads o k) [] m e h is = absurd (let k : Asks (ToRead o) ≡ Over e = is in cc)
agrees-whole (Reads o k) (Got a ∷ ans) m e h is =
    let next = agrees-whole (k a) ans m e h.1 is in
    (ap (λ z. line_before (line.Read o z) (talked_alone (k z) m)) (sym h.0) ∙ ap (line_before (line.Read o a)) next.0, ap (λ z. left_by (k z) m) (sym h.0) ∙ next.1)
agrees-whole (Writes o a t) [] m e h is = absurd (let k : Asks (ToWrite o a) ≡ Over e = is in cc)
agrees-whole (Writes o a t) (Stored ∷ ans) m e h is =
    let next = agrees-whole t ans (finite.insert m o a) e h is in (ap (line_before (line.Wrote o a)) next.0, next.1)
agrees-whole _ _ m e h is = absurd h

-- ---- how many there are

agrees-asked : (t : Tree) (ans : List Answer) (m : Objects) → AnswersOf t ans m → AreAsked t ans
agrees-asked (Ends e) [] m h = tt
agrees-asked (Says a t) ans m h = agrees-asked t ans m h
agrees-asked (Reads o k) [] m h = tt
agrees-asked (Reads o k) (Got a ∷ ans) m h = agrees-asked (k a) ans m h.1
agrees-asked (Writes o a t) [] m h = tt
agrees-asked (Writes o a t) (Stored ∷ ans) m h = agrees-asked t ans (finite.insert m o a) h
agrees-asked (Ends e) (x ∷ ans) m h = absurd h
agrees-asked (Reads o k) (Stored ∷ ans) m h = absurd h
agrees-asked (Writes o a t) (Got v ∷ ans) m h = absurd h

-- a script asks at most 10,000 times
pub agrees-few : (script : Block) (ans : List Answer) (m : Objects) → AnswersOf (denote script) ans m → length ans ≤ 10000
agrees-few script ans m h = asked-few script ans (agrees-asked (denote script) ans m h)
