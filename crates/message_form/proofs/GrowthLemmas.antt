-- What stays true of a log that grows by effects that fit.
use Rattle.std.proofs.Common.{ℕ, zero, suc, List, [], ◌∷◌, ◌++◌, drop, subst, sym, append_assoc}
use Rattle.effect_form.specs.declared.effects.Effect.{Effect}
use Rattle.message_form.specs.Growth.{Grew, Each}

-- a fact that each fitting effect keeps is kept by all of them
pub grew_keeps : (Fits : List Effect → Effect → Type 0) (P : List Effect → Type 0) → ((log : List Effect) (effect : Effect) → P log → Fits log effect → P (effect ∷ log))
    → (log new : List Effect) → Grew Fits log new → P log → P (new ++ log)
grew_keeps Fits P keeps log [] grew p = p
grew_keeps Fits P keeps log (effect ∷ new) grew p = keeps (new ++ log) effect (grew_keeps Fits P keeps log new grew.0 p) grew.1

-- growth on growth
pub grew_on : (Fits : List Effect → Effect → Type 0) (log first then : List Effect) → Grew Fits log first → Grew Fits (first ++ log) then → Grew Fits log (then ++ first)
grew_on Fits log first [] one two = one
grew_on Fits log first (effect ∷ then) one two = (grew_on Fits log first then one two.0, subst (λ (below : List Effect). Fits below effect) (sym (append_assoc then first log)) two.1)

-- the older part of the new effects, as a crash leaves it
pub grew_drop : (Fits : List Effect → Effect → Type 0) (log : List Effect) (n : ℕ) (new : List Effect) → Grew Fits log new → Grew Fits log (drop n new)
grew_drop Fits log zero new grew = grew
grew_drop Fits log (suc n) [] grew = grew
grew_drop Fits log (suc n) (effect ∷ new) grew = grew_drop Fits log n new grew.0

-- what fits one way fits another
pub grew_map : (P Q : List Effect → Effect → Type 0) → ((log : List Effect) (effect : Effect) → P log effect → Q log effect) → (log new : List Effect) → Grew P log new → Grew Q log new
grew_map P Q to log [] grew = grew
grew_map P Q to log (effect ∷ new) grew = (grew_map P Q to log new grew.0, to (new ++ log) effect grew.1)

-- a log each of whose effects has P grows by such
pub each_grew : (P : List Effect → Effect → Type 0) (log new : List Effect) → Each P log → Grew P log new → Each P (new ++ log)
each_grew P log [] each grew = each
each_grew P log (effect ∷ new) each grew = (each_grew P log new each grew.0, grew.1)

-- and so has the log below
pub each_below : (P : List Effect → Effect → Type 0) (log new : List Effect) → Each P (new ++ log) → Each P log
each_below P log [] each = each
each_below P log (effect ∷ new) each = each_below P log new each.0
