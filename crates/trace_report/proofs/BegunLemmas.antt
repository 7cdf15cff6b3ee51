-- Lists of which the last element is changed.
use Rattle.trace_report.proofs.Names.{reverse-append, BegunAct, ActParts, kept, kept_act, ◌≡◌, List, [], ◌∷◌, ◌++◌, map, sym, ◌∙◌, ap}

pub kept-more : (old new : List BegunAct) (a : BegunAct) → new ≡ old ++ a ∷ [] → kept new ≡ kept_act a ∷ kept old
kept-more old new a is = ap kept is ∙ ap (map kept_act) (reverse-append old (a ∷ []))

-- there is none
pub kept-none : (old new : List BegunAct) (change : List ActParts → List ActParts) → old ≡ [] → new ≡ [] → change [] ≡ [] → kept new ≡ change (kept old)
kept-none old new change was is h = ap kept is ∙ sym h ∙ ap change (sym (ap kept was))
