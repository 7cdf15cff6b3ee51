-- Scripts as plain trees, on which definitions go by cases.
use Rattle.std.specs.Prelude.{ℕ, List, [], ◌∷◌}
use Rattle.value_form.specs.declared.objects.ObjectId.{ObjectId}
use Rattle.value_form.specs.declared.expressions.Prefix.{Prefix}
use Rattle.value_form.specs.declared.expressions.Infix.{Infix}
use Rattle.value_form.specs.declared.expressions.Call.{Call}
use Rattle.value_form.specs.declared.expressions.Expr.{Expr}
use Rattle.value_form.specs.declared.expressions.Expr.TheOpen.{Expr-F}
use Rattle.value_form.specs.declared.expressions.Expr.TheFolds.{fold-Expr}
use Rattle.value_form.specs.declared.scripts.Target.{Target}
use Rattle.value_form.specs.declared.scripts.Target.TheVariants as p
use Rattle.value_form.specs.declared.scripts.Stmt.{Stmt}
use Rattle.value_form.specs.declared.scripts.Stmt.TheOpen.{Stmt-F}
use Rattle.value_form.specs.declared.scripts.Stmt.TheFolds.{fold-Stmt}

-- an expression
pub data Term : Type 0 where
  Number : ℕ → Term
  Text : List ℕ → Term
  Nothing : Term
  Name : List ℕ → Term
  Before : Prefix → Term → Term
  Between : Infix → Term → Term → Term
  Applied : Call → Term → Term
  Given : Term → Term → Term

-- the object of a statement
pub data Spot : Type 0 where
  Fixed : ObjectId → Spot
  At : (repository : ℕ) → Term → Spot

-- a statement with its line, and the statements of a part
mutual
  pub data Step : Type 0 where
    Let : (line : ℕ) (name : List ℕ) → Term → Step
    Read : (line : ℕ) (name : List ℕ) → Spot → Step
    Write : (line : ℕ) → Spot → Term → Step
    Print : (line : ℕ) → Term → Step
    If : (line : ℕ) → Term → Block → (end : ℕ) → Step
    IfElse : (line : ℕ) → Term → Block → (middle : ℕ) → Block → (end : ℕ) → Step
    Repeat : (line : ℕ) → Term → Block → (end : ℕ) → Step
    Withdraw : (line : ℕ) → Step

  pub data Block : Type 0 where
    End : Block
    Then : Step → Block → Block

abbrev pub term_layer : Expr-F Term → Term
term_layer (Expr-F.Number n) = Number n
term_layer (Expr-F.Text bytes) = Text bytes
term_layer Expr-F.Nothing = Nothing
term_layer (Expr-F.Name name) = Name name
term_layer (Expr-F.Prefix o x) = Before o x
term_layer (Expr-F.Infix o x y) = Between o x y
term_layer (Expr-F.Call f x) = Applied f x
term_layer (Expr-F.Given x y) = Given x y

-- the plain tree of an expression
abbrev pub term : Expr → Term
term = fold-Expr Term term_layer

abbrev pub spot : Target → Spot
spot (p.Fixed object) = Fixed object
spot (p.At repository x) = At repository (term x)

abbrev pub block_of : List Step → Block
block_of [] = End
block_of (x ∷ xs) = Then x (block_of xs)

abbrev pub step_layer : Stmt-F Step → Step
step_layer (Stmt-F.Let l name x) = Let l name (term x)
step_layer (Stmt-F.Read l name place) = Read l name (spot place)
step_layer (Stmt-F.Write l place x) = Write l (spot place) (term x)
step_layer (Stmt-F.Print l x) = Print l (term x)
step_layer (Stmt-F.If l x part e) = If l (term x) (block_of part) e
step_layer (Stmt-F.IfElse l x first m second e) = IfElse l (term x) (block_of first) m (block_of second) e
step_layer (Stmt-F.Repeat l x part e) = Repeat l (term x) (block_of part) e
step_layer (Stmt-F.Withdraw l) = Withdraw l

-- the plain tree of a statement
abbrev pub plain : Stmt → Step
plain = fold-Stmt Step step_layer

-- the plain tree of a script, or of a part of one
abbrev pub block : List Stmt → Block
block [] = End
block (x ∷ xs) = Then (plain x) (block xs)
