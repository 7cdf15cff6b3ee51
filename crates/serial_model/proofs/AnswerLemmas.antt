-- What answers make of a tree of questions.
use Rattle.serial_model.proofs.Names.{◌≡◌, List, [], ◌∷◌, ◌++◌, Some, None, refl, ap, ◌∙◌, subst, Line, Objects, value_at, Request, ToRead, ToWrite, Asks, Answer, Got, Stored, answers_of, Tree, Ends, Says, Reads, Writes, Talked, line_before, waits, talked, talked_alone, stop, request_of, IsFrontOf}
use Rattle.std.specs.FinMap as finite
use Rattle.value_form.specs.declared.transcripts.Line.TheVariants as line

-- where a talk stops
pub talked-stop : (t : Tree) (ans : List Answer) → (talked t ans).stop ≡ stop t ans
talked-stop (Ends e) ans = refl
talked-stop (Says a t) ans = talked-stop t ans
talked-stop (Reads o k) [] = refl
talked-stop (Reads o k) (Got a ∷ ans) = talked-stop (k a) ans
talked-stop (Reads o k) (Stored ∷ ans) = refl
talked-stop (Writes o a t) [] = refl
talked-stop (Writes o a t) (Stored ∷ ans) = talked-stop t ans
talked-stop (Writes o a t) (Got b ∷ ans) = refl

-- the answers of the map give what the map gives
pub talked-answers_of : (t : Tree) (m : Objects) → talked t (answers_of (talked_alone t m).lines) ≡ talked_alone t m
talked-answers_of (Ends e) m = refl
talked-answers_of (Says a t) m = ap (line_before (line.Print a)) (talked-answers_of t m)
talked-answers_of (Reads o k) m = ap (line_before (line.Read o (value_at m o))) (talked-answers_of (k (value_at m o)) m)
talked-answers_of (Writes o a t) m = ap (line_before (line.Wrote o a)) (talked-answers_of t (finite.insert m o a))

-- more answers only extend a transcript
front_before : (l : Line) (x y : Talked) → IsFrontOf x.lines y.lines → IsFrontOf (line_before l x).lines (line_before l y).lines
front_before l x y h = (h.0, ap (λ z. l ∷ z) h.1)

pub talked-append : (t : Tree) (ans more : List Answer) → IsFrontOf (talked t ans).lines (talked t (ans ++ more)).lines
talked-append (Ends e) ans more = ([], refl)
talked-append (Says a t) ans more = front_before (line.Print a) (talked t ans) (talked t (ans ++ more)) (talked-append t ans more)
talked-append (Reads o k) [] more = (_, refl)
talked-append (Reads o k) (Got a ∷ ans) more = front_before (line.Read o a) (talked (k a) ans) (talked (k a) (ans ++ more)) (talked-append (k a) ans more)
talked-append (Reads o k) (Stored ∷ ans) more = ([], refl)
talked-append (Writes o a t) [] more = (_, refl)
talked-append (Writes o a t) (Stored ∷ ans) more = front_before (line.Wrote o a) (talked t ans) (talked t (ans ++ more)) (talked-append t ans more)
talked-append (Writes o a t) (Got b ∷ ans) more = ([], refl)

-- ---- a prefix of the answers stops at the request of the next line

unfoldable first_of : Line → List Line → Line
first_of d [] = d
first_of d (l ∷ lines) = l

unfoldable rest_of : List Line → List Line
rest_of [] = []
rest_of (l ∷ lines) = lines

pub talked-front : (t : Tree) (m : Objects) (before rest : List Line) (l : Line) (q : Request) → (talked_alone t m).lines ≡ before ++ (l ∷ rest) → request_of l ≡ Some q → talked t (answers_of before) ≡ record { lines = before; stop = Asks q }
unfolding first_of rest_of
talked-front (Ends e) m [] rest l q is r = cc
talked-front (Ends e) m (x ∷ before) rest l q is r = cc
talked-front (Says a t) m [] rest l q is r =
    let this : line.Print a ≡ l = ap (λ ls. first_of (line.Print a) ls) is in
    let other : None ≡ Some q = ap request_of this ∙ r in cc
talked-front (Says a t) m (x ∷ before) rest l q is r =
    let this : line.Print a ≡ x = ap (λ ls. first_of (line.Print a) ls) is in
    subst (λ y. talked (Says a t) (answers_of (y ∷ before)) ≡ record { lines = y ∷ before; stop = Asks q }) this
    (ap (λ y. line_before (line.Print a) y) (talked-front t m before rest l q (ap (λ ls. rest_of ls) is) r))
talked-front (Reads o k) m [] rest l q is r =
    let this : line.Read o (value_at m o) ≡ l = ap (λ ls. first_of l ls) is in
    let asked : Some (ToRead o) ≡ Some q = ap request_of this ∙ r in
    let same : ToRead o ≡ q = cc in ap (λ y. waits y) same
talked-front (Reads o k) m (x ∷ before) rest l q is r =
    let this : line.Read o (value_at m o) ≡ x = ap (λ ls. first_of l ls) is in
    subst (λ y. talked (Reads o k) (answers_of (y ∷ before)) ≡ record { lines = y ∷ before; stop = Asks q }) this
    (ap (λ y. line_before (line.Read o (value_at m o)) y) (talked-front (k (value_at m o)) m before rest l q (ap (λ ls. rest_of ls) is) r))
talked-front (Writes o a t) m [] rest l q is r =
    let this : line.Wrote o a ≡ l = ap (λ ls. first_of l ls) is in
    let asked : Some (ToWrite o a) ≡ Some q = ap request_of this ∙ r in
    let same : ToWrite o a ≡ q = cc in ap (λ y. waits y) same
talked-front (Writes o a t) m (x ∷ before) rest l q is r =
    let this : line.Wrote o a ≡ x = ap (λ ls. first_of l ls) is in
    subst (λ y. talked (Writes o a t) (answers_of (y ∷ before)) ≡ record { lines = y ∷ before; stop = Asks q }) this
    (ap (λ y. line_before (line.Wrote o a) y) (talked-front t (finite.insert m o a) before rest l q (ap (λ ls. rest_of ls) is) r))

-- every proper front of the answers comes before such a line
abbrev pub IsBefore : List Line → List Answer → Type 0
IsBefore lines pre = (before : List Line) × (l : Line) × (rest : List Line) × (q : Request) × (lines ≡ before ++ (l ∷ rest)) × (request_of l ≡ Some q) × (answers_of before ≡ pre)

unfoldable first_answer : List Answer → Answer
first_answer [] = Stored
first_answer (x ∷ xs) = x

unfoldable other_answers : List Answer → List Answer
other_answers [] = []
other_answers (x ∷ xs) = xs

no_answer : (pre post : List Answer) (a : Answer) → [] ≡ pre ++ (a ∷ post) → ⊥
no_answer [] post a is = cc
no_answer (x ∷ pre) post a is = cc

pub before_line : (lines : List Line) (pre post : List Answer) (a : Answer) → answers_of lines ≡ pre ++ (a ∷ post) → IsBefore lines pre
unfolding first_answer other_answers
before_line [] pre post a is = absurd (no_answer pre post a is)
before_line (line.Print b ∷ lines) pre post a is =
    let r = before_line lines pre post a is in (line.Print b ∷ r.0, r.1, r.2, r.3, ap (λ ls. line.Print b ∷ ls) r.4, r.5, r.6)
before_line (line.Read o b ∷ lines) [] post a is = ([], line.Read o b, lines, ToRead o, refl, refl, refl)
before_line (line.Read o b ∷ lines) (x ∷ pre) post a is =
    let r = before_line lines pre post a (ap (λ xs. other_answers xs) is) in
    (line.Read o b ∷ r.0, r.1, r.2, r.3, ap (λ ls. line.Read o b ∷ ls) r.4, r.5, ap (λ xs. Got b ∷ xs) r.6 ∙ ap (λ y. y ∷ pre) (ap (λ xs. first_answer xs) is))
before_line (line.Wrote o b ∷ lines) [] post a is = ([], line.Wrote o b, lines, ToWrite o b, refl, refl, refl)
before_line (line.Wrote o b ∷ lines) (x ∷ pre) post a is =
    let r = before_line lines pre post a (ap (λ xs. other_answers xs) is) in
    (line.Wrote o b ∷ r.0, r.1, r.2, r.3, ap (λ ls. line.Wrote o b ∷ ls) r.4, r.5, ap (λ xs. Stored ∷ xs) r.6 ∙ ap (λ y. y ∷ pre) (ap (λ xs. first_answer xs) is))
