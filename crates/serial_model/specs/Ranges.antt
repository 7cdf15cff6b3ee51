-- Which scripts ask only for what has bytes.
use Rattle.std.specs.Prelude.{ℕ, ◌≤◌, ◌<◌, ◌^◌}
use Rattle.value_form.specs.declared.values.Value.TheVariants as v
use Rattle.value_form.specs.Mirror.{Term, Number, Text, Nothing, Name, Before, Between, Applied, Given, Spot, Fixed, At, Step, Let, Read, Write, Print, If, IfElse, Repeat, Withdraw, Block, End, Then}
use Rattle.value_form.specs.ObjectBytes.{IsObject}
use Rattle.value_form.specs.ValueBytes.{IsValue}
use Rattle.value_form.specs.declared.endings.Ending.{Ending}
use Rattle.value_form.specs.declared.endings.Ending.TheVariants as ending
use Rattle.script_meaning.specs.Meaning.{ToRead, ToWrite, Stop, Asks, Over}

-- the numbers in an expression are below 2^63, and its texts have at most 65,536 bytes
abbrev pub TermInRange : Term → Type 0
TermInRange (Number n) = n < 2 ^ 63
TermInRange (Text bytes) = IsValue (v.Text bytes)
TermInRange Nothing = Unit {0}
TermInRange (Name name) = Unit {0}
TermInRange (Before o x) = TermInRange x
TermInRange (Between o x y) = TermInRange x × TermInRange y
TermInRange (Applied f x) = TermInRange x
TermInRange (Given x y) = TermInRange x × TermInRange y

-- the repository of an object is one of 1 to 16, and its number is below 2^32 where the script says it
abbrev pub SpotInRange : Spot → Type 0
SpotInRange (Fixed object) = IsObject object
SpotInRange (At repository x) = (1 ≤ repository) × (repository ≤ 16) × TermInRange x

-- a script has lines 1 to 200
abbrev pub IsLine : ℕ → Type 0
IsLine l = (1 ≤ l) × (l ≤ 200)

-- the lines, expressions and objects of a statement, and of a part, are in range
abbrev mutual
  pub StepInRange : Step → Type 0
  StepInRange (Let l name x) = IsLine l × TermInRange x
  StepInRange (Read l name place) = IsLine l × SpotInRange place
  StepInRange (Write l place x) = IsLine l × SpotInRange place × TermInRange x
  StepInRange (Print l x) = IsLine l × TermInRange x
  StepInRange (If l x part e) = IsLine l × TermInRange x × BlockInRange part
  StepInRange (IfElse l x first m second e) = IsLine l × TermInRange x × BlockInRange first × BlockInRange second
  StepInRange (Repeat l x part e) = IsLine l × TermInRange x × BlockInRange part
  StepInRange (Withdraw l) = IsLine l

  pub BlockInRange : Block → Type 0
  BlockInRange End = Unit {0}
  BlockInRange (Then x part) = StepInRange x × BlockInRange part

-- it ends on a line that a script has
abbrev pub EndingInRange : Ending → Type 0
EndingInRange ending.Finished = Unit {0}
EndingInRange (ending.Withdrawn l) = IsLine l
EndingInRange (ending.Failed l k) = IsLine l

-- the object and the value that are asked for have bytes, and an ending is in range
abbrev pub StopInRange : Stop → Type 0
StopInRange (Asks (ToRead o)) = IsObject o
StopInRange (Asks (ToWrite o a)) = IsObject o × IsValue a
StopInRange (Over e) = EndingInRange e
