-- The laboratory's command, and what its words say.
use Rattle.std.specs.Prelude.{◌≡◌, ◌≢◌, ℕ, ◌≤◌, List, [], ◌∷◌, Bool, true, false, Result, Ok, Err, Some, pos, codes}
use Rattle.std.specs.String.{string_bytes}
use Rattle.std.specs.Str.Parse.{digits_value, without_leading_plus}
use Rattle.clap.specs.Words.{App, Row, Rule, Text, first_of, one_of, new_app, new_rule, with_rule, matches_of, takes, fault_of}
use Rattle.clap.specs.Simple.{on_top}
use Rattle.clap.specs.declared.builder.ArgAction.TheVariants.{Set}
use Rattle.clap.specs.declared.builder.value_parser.ValueParser.{ValueParser}
use Rattle.clap.specs.declared.builder.value_parser.ValueParser.TheVariants as value
use Rattle.laboratory.specs.declared.options.Lab.{Lab}
use Rattle.laboratory.specs.declared.options.LabFault.{LabFault}
use Rattle.laboratory.specs.declared.options.LabFault.TheVariants.{Words, NoMemory}

-- an option that has to be given, with one value
abbrev pub needed : Text → ValueParser → Rule
needed name parser = record (new_rule name) { long = Some name; action = Some Set; required = true; parser = Some parser }

-- the numbers between these
abbrev pub numbers : (least most : ℕ) → ValueParser
numbers least most = value.Signed (pos least) (pos most)

-- the command: four options, and no word in front of them
abbrev pub command : App
command = with_rule (with_rule (with_rule (with_rule
    (on_top (λ s. record s { no_binary_name = true }) (new_app (codes "swallow_lab")))
    (needed (codes "pages") (numbers 1 1048576)))
    (needed (codes "lose") (numbers 0 1000000)))
    (needed (codes "stop") (numbers 0 1048575)))
    (needed (codes "words") value.String)

-- the value of this option reads as this number, which is between these
pub record HasNumber (rows : List Row) (name : Text) (least most n : ℕ) : Type 0 where
  pub text : Text
  pub given : one_of name rows ≡ Some text
  pub is : n ≡ digits_value 10 (without_leading_plus text)
  pub low : least ≤ n
  pub high : n ≤ most

-- the matches say so
pub record Says (rows : List Row) (lab : Lab) : Type 0 where
  pub pages : HasNumber rows (codes "pages") 1 1048576 lab.pages
  pub lose : HasNumber rows (codes "lose") 0 1000000 lab.lose
  pub stop : HasNumber rows (codes "stop") 0 1048575 lab.stop
  pub words : first_of (codes "words") rows ≡ Some (string_bytes lab.text)

-- the command takes the words, and so its matches say
pub record AreFor (words : List Text) (lab : Lab) : Type 0 where
  pub taken : fault_of command words ≡ []
  pub says : Says (matches_of command words) lab

-- the command refuses the words
pub record AreRefused (words : List Text) : Type 0 where
  pub fault : fault_of command words ≢ []
  pub not_taken : takes command words ≡ false

-- what the words are
abbrev pub AreRead : List Text → Result Lab LabFault → Type 0
AreRead words (Ok lab) = AreFor words lab
AreRead words (Err Words) = AreRefused words
AreRead words (Err NoMemory) = Unit {0}
