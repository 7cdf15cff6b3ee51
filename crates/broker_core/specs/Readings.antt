-- What a script's text asks and says, by the acts of a plan.
use Rattle.std.specs.Prelude.{ℕ, List, [], ◌∷◌, ◌==◌, if◌then◌else◌}
use Rattle.std.specs.Cmp.Lexicographic.{pointwise}
use Rattle.broker_ledger.specs.ActSpec.{ActSpec}
use Rattle.broker_ledger.specs.Ending.TheVariants as ending
use Rattle.broker_ledger.specs.Mirror.{block}
use Rattle.broker_ledger.specs.RowTexts.{script_text}
use Rattle.broker_ledger.specs.Questions.{Tree, Ends, denote}

-- the tree of questions of the first of these acts whose script has this text
unfoldable pub reading : List ActSpec → List ℕ → Tree
reading [] text = Ends ending.Finished
reading (a ∷ acts) text = if pointwise ◌==◌ (script_text (block a.script.lines)) text then denote (block a.script.lines) else reading acts text
