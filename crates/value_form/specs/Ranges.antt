-- Which scripts have a text: the numbers in them are at most 2^63 - 1.
use Rattle.std.specs.Prelude.{◌<◌, ◌^◌, List}
use Rattle.value_form.specs.declared.scripts.Stmt.{Stmt}
use Rattle.value_form.specs.Mirror.{Term, Number, Text, Nothing, Name, Before, Between, Applied, Given, Spot, Fixed, At, Step, Let, Read, Write, Print, If, IfElse, Repeat, Withdraw, Block, End, Then, block}

abbrev pub IsTerm : Term → Type 0
IsTerm (Number n) = n < 2 ^ 63
IsTerm (Text bytes) = Unit {0}
IsTerm Nothing = Unit {0}
IsTerm (Name name) = Unit {0}
IsTerm (Before o x) = IsTerm x
IsTerm (Between o x y) = IsTerm x × IsTerm y
IsTerm (Applied f x) = IsTerm x
IsTerm (Given x y) = IsTerm x × IsTerm y

abbrev pub IsSpot : Spot → Type 0
IsSpot (Fixed object) = Unit {0}
IsSpot (At repository x) = IsTerm x

abbrev mutual
  pub IsStep : Step → Type 0
  IsStep (Let l name x) = IsTerm x
  IsStep (Read l name place) = IsSpot place
  IsStep (Write l place x) = IsSpot place × IsTerm x
  IsStep (Print l x) = IsTerm x
  IsStep (If l x part e) = IsTerm x × IsBlock part
  IsStep (IfElse l x first m second e) = IsTerm x × IsBlock first × IsBlock second
  IsStep (Repeat l x part e) = IsTerm x × IsBlock part
  IsStep (Withdraw l) = Unit {0}

  pub IsBlock : Block → Type 0
  IsBlock End = Unit {0}
  IsBlock (Then x b) = IsStep x × IsBlock b

abbrev pub IsScript : List Stmt → Type 0
IsScript script = IsBlock (block script)
