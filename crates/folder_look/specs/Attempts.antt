-- How attempts and acts end.
use Rattle.std.specs.Prelude.{ℕ, List, ◌∷◌, ◌++◌, codes}
use Rattle.effect_form.specs.declared.outcomes.Outcome.{Outcome}
use Rattle.effect_form.specs.declared.outcomes.Outcome.TheVariants as outcome
use Rattle.report_writer.specs.Parts.{kind_text}
use Rattle.report_writer.specs.Reports.{named, two_named, refusal_text}

-- how an attempt or an act ended
abbrev pub ended_text : Outcome → List ℕ
ended_text outcome.Committed = codes "committed"
ended_text (outcome.Withdrawn l) = named (codes "withdrawn line ") l
ended_text (outcome.Failed l k) = named (codes "failed line ") l ++ 32 ∷ kind_text k
ended_text (outcome.LaterRead o e) = refusal_text (codes "refused later-read ") o e
ended_text (outcome.LaterVersion o x) = refusal_text (codes "refused later-version ") o x
ended_text (outcome.Expired d m) = two_named (codes "expired deadline ") d (codes " moment ") m
ended_text (outcome.Spent c) = named (codes "spent ") c

-- the class of its cell
abbrev pub ended_class : Outcome → List ℕ
ended_class outcome.Committed = codes "committed"
ended_class (outcome.Withdrawn l) = codes "withdrawn"
ended_class (outcome.Failed l k) = codes "failed"
ended_class (outcome.LaterRead o e) = codes "refused"
ended_class (outcome.LaterVersion o x) = codes "refused"
ended_class (outcome.Expired d m) = codes "expired"
ended_class (outcome.Spent c) = codes "spent"
