-- A whole turn, from its beginning to its end, is what the rules give.
use Rattle.repository_core.proofs.Names.{◌≡◌, List, [], ◌++◌, reverse, sym, ◌∙◌, ap, subst, reverse-reverse, StampParts, Decision, Effect, Mark, AgreeBut, AgreeWith, IsOpen, Mind, Hand, now, given, Input, Given, hand_turn, hand_at, mind_of, gives}
use Rattle.repository_draft.specs.Out.{Out}
use Rattle.repository_draft.specs.Turn.{Turn}
use Rattle.repository_core.specs.declared.books.Books.{Books}

abbrev given_as : List Effect → List Out → Mind → Given
given_as effects outs mind = record { effects = effects; outs = outs; mind = mind }

abbrev with_parts : Hand → List Effect → List Out → List Effect → Hand
with_parts h added outs past = record h { past = past; added = added; outs = outs }

-- a hand to which nothing is added and which owes nothing
began-is : (h : Hand) → h.added ≡ [] → h.outs ≡ [] → h ≡ hand_at h.number (reverse (reverse h.past)) (mind_of h)
began-is h e f =
    ap (λ z. with_parts h z h.outs h.past) e ∙ ap (λ z. with_parts h [] z h.past) f ∙ ap (λ z. with_parts h [] [] z) (sym (reverse-reverse h.past))

pub gives-is : (before first last after : Hand) (input : Input) (t : Turn) → before.added ≡ [] → before.outs ≡ [] → first ≡ before → last ≡ hand_turn first input
    → t.effects ≡ reverse last.added → t.outs ≡ last.outs → after ≡ record last { past = now last; added = []; outs = [] }
    → given t (mind_of after) ≡ gives before.number (reverse before.past) (mind_of before) input
unfolding gives
gives-is before first last after input t e f began went effects outs closed =
    ap (λ z. given_as z t.outs (mind_of after)) effects ∙ ap (λ z. given_as (reverse last.added) z (mind_of after)) outs ∙ ap (λ z. given_as (reverse last.added) last.outs (mind_of z)) closed
    ∙ ap (λ z. given_as (reverse z.added) z.outs (mind_of z)) (went ∙ ap (λ z. hand_turn z input) (began ∙ began-is before e f))

-- between two calls the log is that of the turn in hand, and so the books agree with it as the next call begins
pub begins-agreed : {H : Type 0} {g k : _} (content : H → List Mark) (before first : Hand) (b : Books H g) (started : Books H k) → IsOpen content before b → first ≡ before
    → ((pending : List (StampParts × Decision)) (log : List Effect) → AgreeBut content pending log b → AgreeBut content pending log started) → AgreeWith content (now first) started
begins-agreed content before first b started rests same keeps =
    subst (λ h. AgreeWith content (now h) started) (sym same)
    (keeps [] (now before) (subst (λ l. AgreeWith content l b) (sym (ap (λ z. z ++ before.past) rests.0)) rests.2))
