-- What a broker holds in memory, as its callers see it, and what always holds of it.
use Rattle.std.specs.Prelude.{◌≡◌, ◌≢◌, ℕ, ◌≤◌, ◌<◌, length, List, [], ◌∷◌, ◌++◌, Option, Some, None, take}
use Rattle.value_form.specs.declared.acts.ActSpec.{ActSpec}
use Rattle.value_form.specs.declared.scripts.Stmt.{Stmt}
use Rattle.value_form.specs.Mirror.{block}
use Rattle.script_form.specs.Printable.{IsPrintable}
use Rattle.pseudo_time.specs.Lists.{Every}
use Rattle.effect_form.specs.declared.effects.Effect.{Effect}
use Rattle.effect_form.specs.declared.effects.Effect.TheVariants as effect
use Rattle.script_run.specs.RunParts.{RunParts}
use Rattle.serial_model.specs.Asked.{IsAnswerTo, AreAsked}
use Rattle.broker_ledger.specs.declared.givens.Given.{Given}
use Rattle.broker_ledger.specs.declared.givens.Given.TheVariants as given
use Rattle.broker_ledger.specs.declared.notes.Notes.{Notes}
use Rattle.broker_ledger.specs.Notes.{act_at, answer_of, answered_in, answers_given, stop_at, tree_of}

-- an act that a plan can give a broker: an Act effect can say its numbers, and its script is one of the language
pub record IsBrokerAct (a : ActSpec) : Type 0 where
  pub index_low : 1 ≤ a.index
  pub index_high : a.index ≤ 10000
  pub home_low : 1 ≤ a.home
  pub home_high : a.home ≤ 16
  pub timeout_low : 1 ≤ a.timeout
  pub timeout_high : a.timeout ≤ 1000000
  pub tries_low : 1 ≤ a.tries
  pub tries_high : a.tries ≤ 100
  pub clock_low : 1 ≤ a.clock
  pub clock_high : a.clock ≤ 1099511627775
  pub script : IsPrintable 16 (block a.script.lines)

pub record AreBrokerActs (acts : List ActSpec) : Type 0 where
  pub each : Every IsBrokerAct acts
  pub few : length acts ≤ 10000

-- what a log comes to, with the acts that the plan gives the broker
pub record LedgerParts : Type 0 where
  pub number : ℕ
  pub run : ℕ
  pub acts : List ActSpec
  pub notes : Notes
  pub answers : List Given

-- the answers of the last try
abbrev pub kept : Notes → List Given → List Given
kept n answers = take (answered_in n.last) answers

abbrev pub lines_of : Option ActSpec → List Stmt
lines_of None = []
lines_of (Some a) = a.script.lines

-- a run of the script at hand, with the answers so far
abbrev pub StepperFits : List ActSpec → Notes → List Given → Option RunParts → Type 0
StepperFits acts n answers None = Unit {0}
StepperFits acts n answers (Some r) = (r.script ≡ lines_of (act_at acts n)) × (r.answers ≡ answers_given (kept n answers))

-- what the notes count is in range, and each answer of the last try is to what its script asks
pub record AreNotes (acts : List ActSpec) (n : Notes) (answers : List Given) : Type 0 where
  pub started : n.started ≤ length acts
  pub tries : n.tries ≤ n.clock
  pub clock : n.clock ≤ 1099511627775
  pub answered : answered_in n.last ≤ length answers
  pub few : answered_in n.last ≤ 10000
  pub asked : n.tries ≢ 0 → AreAsked (tree_of (act_at acts n)) (answers_given (kept n answers))

pub record IsLedger (number : ℕ) (acts : List ActSpec) (n : Notes) (answers : List Given) (stepper : Option RunParts) : Type 0 where
  pub number_low : 1 ≤ number
  pub number_high : number ≤ 16
  pub are_acts : AreBrokerActs acts
  pub are_notes : AreNotes acts n answers
  pub stepper_fits : StepperFits acts n answers stepper

-- ---- the effects that are added

-- there is a try, and its script waits for this answer
pub record IsAskedFor (acts : List ActSpec) (n : Notes) (answers : List Given) (g : Given) : Type 0 where
  pub tried : n.tries ≢ 0
  pub last : n.last ≢ None
  pub asks : IsAnswerTo (stop_at acts n answers) (answer_of g)

-- the effect is an act that the plan has, a try with a greater clock, an answer that is asked for, or another
abbrev pub MayAdd : List ActSpec → Notes → List Given → Effect → Type 0
MayAdd acts n answers (effect.Run m) = Unit {0}
MayAdd acts n answers (effect.Act i h t k c x) = n.started < length acts
MayAdd acts n answers (effect.Try i s) = n.clock < s.clock
MayAdd acts n answers (effect.Got k v) = IsAskedFor acts n answers (given.Got v)
MayAdd acts n answers (effect.Acked k) = IsAskedFor acts n answers given.Stored
MayAdd acts n answers (effect.End i o) = Unit {0}
MayAdd acts n answers (effect.Mark at) = Unit {0}
MayAdd acts n answers effect.Whole = Unit {0}
MayAdd acts n answers (effect.Put o x v) = Unit {0}
MayAdd acts n answers (effect.Stretch o x) = Unit {0}
MayAdd acts n answers (effect.Begin s d) = Unit {0}
MayAdd acts n answers (effect.Decide s d) = Unit {0}
MayAdd acts n answers (effect.Learn s c) = Unit {0}

abbrev pub answers_noted : Effect → Notes → List Given → List Given
answers_noted (effect.Run m) n answers = answers
answers_noted (effect.Act i h t k c x) n answers = answers
answers_noted (effect.Try i s) n answers = answers
answers_noted (effect.Got k v) n answers = kept n answers ++ given.Got v ∷ []
answers_noted (effect.Acked k) n answers = kept n answers ++ given.Stored ∷ []
answers_noted (effect.End i o) n answers = answers
answers_noted (effect.Mark at) n answers = answers
answers_noted effect.Whole n answers = answers
answers_noted (effect.Put o x v) n answers = answers
answers_noted (effect.Stretch o x) n answers = answers
answers_noted (effect.Begin s d) n answers = answers
answers_noted (effect.Decide s d) n answers = answers
answers_noted (effect.Learn s c) n answers = answers
