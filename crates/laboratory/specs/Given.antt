-- What a parse of the laboratory's command has found.
use Rattle.std.specs.Prelude.{◌≡◌, ℕ, Some, pos, false, codes, is_some, true}
use Rattle.clap.specs.Built.{IsPlainArg}
use Rattle.clap.specs.Words.{Text, IsSignedIn, first_value, one_text, rule_of, without_minus}
use Rattle.clap.specs.declared.builder.arg.Arg.{Arg}
use Rattle.clap.specs.declared.builder.value_parser.ValueParser.{ValueParser}
use Rattle.clap.specs.declared.parser.matches.Found.{Found}
use Rattle.laboratory.specs.Options.{needed}

-- the argument is an option that has to be given
pub record IsOption (name : Text) (parser : ValueParser) (a : Arg) : Type 0 where
  pub rule : rule_of a ≡ needed name parser
  pub local : a.global ≡ false

-- this option has a value that is a number between these
pub record HasText (f : Found) (name : Text) (least most : ℕ) : Type 0 where
  pub text : Text
  pub read : one_text f name ≡ Some (without_minus text)
  pub passed : IsSignedIn (pos least) (pos most) text

-- each option has a value that passes
pub record IsGiven (f : Found) : Type 0 where
  pub pages : HasText f (codes "pages") 1 1048576
  pub lose : HasText f (codes "lose") 0 1000000
  pub stop : HasText f (codes "stop") 0 1048575
  pub words : is_some (first_value f (codes "words")) ≡ true
