-- The laws of answers, for scripts.
use Rattle.serial_model.proofs.Names.{◌≡◌, List, ◌∷◌, ◌++◌, Some, sym, ap, ◌∙◌, subst, Line, Objects, Block, Request, Asks, Answer, perform, talk, answers_of, Talked, denote, talked_alone, talked, request_of, IsFrontOf, IsTalkOf}
use Rattle.serial_model.proofs.QuestionLemmas.{perform-told, talk-talked}
use Rattle.serial_model.proofs.AnswerLemmas.{talked-answers_of, talked-append, talked-front}

pub talk_of : (script : Block) (ans : List Answer) → IsTalkOf (talked (denote script) ans) (talk script ans)
talk_of script ans = let is = talk-talked script ans in (ap (λ t. t.lines) is, ap (λ t. t.stop) is)

by : (script : Block) (ans : List Answer) (t : Talked) → talked (denote script) ans ≡ t → IsTalkOf t (talk script ans)
by script ans t is = subst (λ z. IsTalkOf z (talk script ans)) is (talk_of script ans)

lines_alone : (script : Block) (m : Objects) → (perform script m).lines ≡ (talked_alone (denote script) m).lines
lines_alone script m = ap (λ c. c.lines) (perform-told script m)

pub talk_whole : (script : Block) (m : Objects) → IsTalkOf (talked_alone (denote script) m) (talk script (answers_of (perform script m).lines))
talk_whole script m = by script _ _ (ap (λ ls. talked (denote script) (answers_of ls)) (lines_alone script m) ∙ talked-answers_of (denote script) m)

pub talk_front : (script : Block) (m : Objects) (before rest : List Line) (l : Line) (q : Request) → (perform script m).lines ≡ before ++ (l ∷ rest) → request_of l ≡ Some q → IsTalkOf (record { lines = before; stop = Asks q }) (talk script (answers_of before))
talk_front script m before rest l q is r = by script _ _ (talked-front (denote script) m before rest l q (sym (lines_alone script m) ∙ is) r)

pub talk_more : (script : Block) (ans more : List Answer) → IsFrontOf (talk script ans).lines (talk script (ans ++ more)).lines
talk_more script ans more =
    let h = talked-append (denote script) ans more in
    (h.0, ap (λ z. z ++ h.0) (talk_of script ans).0 ∙ h.1 ∙ sym (talk_of script (ans ++ more)).0)
