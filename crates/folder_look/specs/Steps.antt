-- What an attempt read and wrote, and how it ended, as its broker's log goes on behind its Try.
use Rattle.std.specs.Prelude.{ℕ, List, [], ◌∷◌, ◌++◌, codes, Option, Some, None}
use Rattle.pseudo_time.specs.StampParts.{StampParts}
use Rattle.value_form.specs.declared.values.Value.{Value}
use Rattle.effect_form.specs.declared.effects.Effect.{Effect}
use Rattle.effect_form.specs.declared.effects.Effect.TheVariants as effect
use Rattle.effect_form.specs.declared.outcomes.Outcome.{Outcome}
use Rattle.effect_form.specs.declared.outcomes.Outcome.TheVariants as outcome
use Rattle.folder_look.specs.declared.touches.Touch.{Touch}
use Rattle.folder_look.specs.Attempts.{ended_text, ended_class}
use Rattle.folder_look.specs.Pieces.{text_of, Words, Stamp, Printed}
use Rattle.folder_look.specs.Shown.{ShownParts, object_ref}
use Rattle.folder_look.specs.Touches.{touch_at}

-- the object that was read, if it is known
abbrev pub owner_text : ShownParts → Option Touch → List ℕ
owner_text p None = []
owner_text p (Some t) = object_ref p t.object ++ codes " = "

-- a read with its answer
abbrev pub read_text : ShownParts → Option Touch → Value → List ℕ
read_text p touch v = codes "<p>read " ++ (owner_text p touch ++ text_of (Printed v ∷ Words (codes "</p>\n") ∷ []))

abbrev pub value_set : Option Value → List ℕ
value_set None = []
value_set (Some v) = text_of (Words (codes " = ") ∷ Printed v ∷ [])

abbrev pub put_text : ShownParts → Option Touch → List ℕ
put_text p None = []
put_text p (Some t) = object_ref p t.object ++ value_set t.value

-- a write with its value
abbrev pub write_text : ShownParts → Option Touch → List ℕ
write_text p touch = codes "<p>wrote " ++ (put_text p touch ++ codes "</p>\n")

-- the steps, up to the end of the attempt
abbrev pub steps_text : ShownParts → StampParts → List Effect → List ℕ
steps_text p s [] = []
steps_text p s (effect.Got k v ∷ es) = read_text p (touch_at p.touched s k) v ++ steps_text p s es
steps_text p s (effect.Acked k ∷ es) = write_text p (touch_at p.touched s k) ++ steps_text p s es
steps_text p s (effect.End i o ∷ es) = []
steps_text p s (effect.Run n ∷ es) = []
steps_text p s (effect.Act i h t k c x ∷ es) = []
steps_text p s (effect.Try i t ∷ es) = []
steps_text p s (effect.Put o x v ∷ es) = steps_text p s es
steps_text p s (effect.Stretch o x ∷ es) = steps_text p s es
steps_text p s (effect.Mark at ∷ es) = steps_text p s es
steps_text p s (effect.Whole ∷ es) = steps_text p s es
steps_text p s (effect.Begin t d ∷ es) = steps_text p s es
steps_text p s (effect.Decide t d ∷ es) = steps_text p s es
steps_text p s (effect.Learn t d ∷ es) = steps_text p s es

-- an act is spent, and not an attempt of it
abbrev pub unless_spent : Outcome → Option Outcome
unless_spent outcome.Committed = Some outcome.Committed
unless_spent (outcome.Withdrawn l) = Some (outcome.Withdrawn l)
unless_spent (outcome.Failed l k) = Some (outcome.Failed l k)
unless_spent (outcome.LaterRead o e) = Some (outcome.LaterRead o e)
unless_spent (outcome.LaterVersion o x) = Some (outcome.LaterVersion o x)
unless_spent (outcome.Expired d m) = Some (outcome.Expired d m)
unless_spent (outcome.Spent c) = None

-- how the attempt ended; None if its log has no End of it
abbrev pub end_of : List Effect → Option Outcome
end_of [] = None
end_of (effect.End i o ∷ es) = unless_spent o
end_of (effect.Run n ∷ es) = None
end_of (effect.Act i h t k c x ∷ es) = None
end_of (effect.Try i t ∷ es) = None
end_of (effect.Got k v ∷ es) = end_of es
end_of (effect.Acked k ∷ es) = end_of es
end_of (effect.Put o x v ∷ es) = end_of es
end_of (effect.Stretch o x ∷ es) = end_of es
end_of (effect.Mark at ∷ es) = end_of es
end_of (effect.Whole ∷ es) = end_of es
end_of (effect.Begin t d ∷ es) = end_of es
end_of (effect.Decide t d ∷ es) = end_of es
end_of (effect.Learn t d ∷ es) = end_of es

abbrev pub end_class : Option Outcome → List ℕ
end_class None = codes "open"
end_class (Some o) = ended_class o

abbrev pub end_text : Option Outcome → List ℕ
end_text None = codes "open"
end_text (Some o) = ended_text o

-- how it ended, as the last cell of a row
abbrev pub end_cell : Option Outcome → List ℕ
end_cell o = codes "<td class=\"" ++ (end_class o ++ (codes "\">" ++ (end_text o ++ codes "</td></tr>\n")))

-- a row for an attempt
abbrev pub try_text : ShownParts → StampParts → List Effect → List ℕ
try_text p s es =
    text_of (Words (codes "<tr id=\"t") ∷ Stamp s ∷ Words (codes "\"><td>") ∷ Stamp s ∷ Words (codes "</td><td>") ∷ [])
    ++ (steps_text p s es ++ (codes "</td>" ++ end_cell (end_of es)))
