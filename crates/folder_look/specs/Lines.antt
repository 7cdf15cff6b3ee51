-- The time line of attempts: a line for each broker, a mark for each attempt, in the order of stamps.
use Rattle.std.specs.Prelude.{ℕ, List, [], ◌∷◌, ◌++◌, codes, length, if◌then◌else◌}
use Rattle.std.specs.List.{flat_map}
use Rattle.pseudo_time.specs.StampParts.{StampParts}
use Rattle.pseudo_time.specs.declared.nodes.NodeKind.{NodeKind}
use Rattle.pseudo_time.specs.declared.nodes.NodeKind.TheVariants.{Repository, Broker}
use Rattle.effect_form.specs.declared.effects.Effect.{Effect}
use Rattle.effect_form.specs.declared.effects.Effect.TheVariants as effect
use Rattle.folder_look.specs.declared.looks.MediumLook.{MediumLook}
use Rattle.folder_look.specs.Axes.{column}
use Rattle.folder_look.specs.Pieces.{text_of, Words, Number}
use Rattle.folder_look.specs.Shown.{ShownParts, is_shown}
use Rattle.folder_look.specs.Steps.{end_class, end_of}

-- an attempt by how it ended, in the column of its stamp
abbrev pub mark_text : ShownParts → StampParts → List Effect → List ℕ
mark_text p s es = codes "<i class=\"" ++ (end_class (end_of es) ++ text_of (Words (codes "\" style=\"--a:") ∷ Number (column p.tries s) ∷ Words (codes "\"></i>") ∷ []))

abbrev pub mark_shown : ShownParts → StampParts → List Effect → List ℕ
mark_shown p s es = if is_shown p s then mark_text p s es else []

abbrev pub marks_text : ShownParts → List Effect → List ℕ
marks_text p [] = []
marks_text p (effect.Try i s ∷ es) = mark_shown p s es ++ marks_text p es
marks_text p (effect.Run n ∷ es) = marks_text p es
marks_text p (effect.Act i h t k c x ∷ es) = marks_text p es
marks_text p (effect.End i o ∷ es) = marks_text p es
marks_text p (effect.Got k v ∷ es) = marks_text p es
marks_text p (effect.Acked k ∷ es) = marks_text p es
marks_text p (effect.Put o x v ∷ es) = marks_text p es
marks_text p (effect.Stretch o x ∷ es) = marks_text p es
marks_text p (effect.Mark at ∷ es) = marks_text p es
marks_text p (effect.Whole ∷ es) = marks_text p es
marks_text p (effect.Begin s d ∷ es) = marks_text p es
marks_text p (effect.Decide s d ∷ es) = marks_text p es
marks_text p (effect.Learn s d ∷ es) = marks_text p es

abbrev pub line_head : ℕ → List ℕ
line_head n = text_of (Words (codes "<div class=\"line\"><b>broker ") ∷ Number n ∷ Words (codes "</b><span class=\"bars\">") ∷ [])

abbrev pub broker_line : ShownParts → MediumLook → List ℕ
broker_line p m = line_head m.number ++ (marks_text p m.log ++ codes "</span></div>\n")

abbrev pub line_with : NodeKind → ShownParts → MediumLook → List ℕ
line_with Repository p m = []
line_with Broker p m = broker_line p m

-- the line of a broker
abbrev pub line_text : ShownParts → MediumLook → List ℕ
line_text p m = line_with m.kind p m

abbrev pub lines_head : ShownParts → List ℕ
lines_head p = text_of (Words (codes "<div class=\"lines\" style=\"--n:") ∷ Number (length p.tries) ∷ Words (codes "\">\n") ∷ [])

abbrev pub lines_text : ShownParts → List MediumLook → List ℕ
lines_text p media = lines_head p ++ (flat_map (line_text p) media ++ codes "</div>\n")
