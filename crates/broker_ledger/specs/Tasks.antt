-- What an Act effect says, and the scripts behind the texts in it.
use Rattle.std.specs.Prelude.{◌≡◌, ℕ, List, map}
use Rattle.value_form.specs.declared.acts.ActSpec.{ActSpec}
use Rattle.value_form.specs.Mirror.{block}
use Rattle.script_form.specs.RowTexts.{script_text}
use Rattle.serial_model.specs.Questions.{Tree, denote}
use Rattle.pseudo_time.specs.Lists.{Every}

-- an act of a broker, its script by its canonical text
pub record Task : Type 0 where
  pub index : ℕ
  pub home : ℕ
  pub timeout : ℕ
  pub tries : ℕ
  pub clock : ℕ
  pub script : List ℕ

abbrev pub task_with : ℕ → ℕ → ℕ → ℕ → ℕ → List ℕ → Task
task_with i h t k c x = record { index = i; home = h; timeout = t; tries = k; clock = c; script = x }

-- an act of a plan as its Act effect will say it
abbrev pub task_of : ActSpec → Task
task_of a = task_with a.index a.home a.timeout a.tries a.clock (script_text (block a.script.lines))

abbrev pub tasks : List ActSpec → List Task
tasks acts = map task_of acts

-- `script` gives the meaning of a script's text: for these acts it is the tree of questions of their scripts
abbrev pub Scripted : (List ℕ → Tree) → List ActSpec → Type 0
Scripted script acts = Every (λ (a : ActSpec). script (script_text (block a.script.lines)) ≡ denote (block a.script.lines)) acts
