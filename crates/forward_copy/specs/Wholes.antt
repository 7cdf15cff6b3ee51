-- Whether a volume is whole.
use Rattle.std.specs.Prelude.{Bool, true, false, List, [], ◌∷◌, ◌||◌}
use Rattle.effect_form.specs.declared.effects.Effect.{Effect}
use Rattle.effect_form.specs.declared.effects.Effect.TheVariants.{Put, Stretch, Begin, Decide, Learn, Run, Act, Try, Got, Acked, End, Mark, Whole}

abbrev pub is_whole : Effect → Bool
is_whole Whole = true
is_whole (Put o x v) = false
is_whole (Stretch o x) = false
is_whole (Begin s d) = false
is_whole (Decide s d) = false
is_whole (Learn s c) = false
is_whole (Run n) = false
is_whole (Act i h t n c b) = false
is_whole (Try i s) = false
is_whole (Got k v) = false
is_whole (Acked k) = false
is_whole (End i e) = false
is_whole (Mark x) = false

-- a Whole stands in the log
abbrev pub has_whole : List Effect → Bool
has_whole [] = false
has_whole (f ∷ l) = is_whole f || has_whole l
