-- Reading an expression token by token, with a stack of what is open.
use Rattle.std.specs.Prelude.{ℕ, ◌+◌, Bool, false, List, [], ◌∷◌, Option, Some, None, option_and_then, nat_le, if◌then◌else◌}
use Rattle.token_form.specs.declared.tokens.Token.{Token}
use Rattle.token_form.specs.declared.tokens.Token.TheVariants as t
use Rattle.token_form.specs.declared.tokens.Word.TheVariants as w
use Rattle.token_form.specs.declared.tokens.Sign.TheVariants as g
use Rattle.value_form.specs.declared.expressions.Prefix.{Prefix}
use Rattle.value_form.specs.declared.expressions.Prefix.TheVariants as p
use Rattle.value_form.specs.declared.expressions.Infix.{Infix}
use Rattle.value_form.specs.declared.expressions.Infix.TheVariants as i
use Rattle.value_form.specs.declared.expressions.Call.TheVariants as c
use Rattle.value_form.specs.declared.expressions.Expr.TheVariants as e
use Rattle.expression_form.specs.declared.operands.Operand.{Operand}
use Rattle.expression_form.specs.declared.frames.Frame.{Frame}
use Rattle.expression_form.specs.declared.frames.Frame.TheVariants as f
use Rattle.expression_form.specs.declared.frames.Head.{Head}
use Rattle.expression_form.specs.declared.frames.Head.TheVariants as h
use Rattle.expression_form.specs.declared.frames.Mode.{Mode}
use Rattle.expression_form.specs.declared.frames.Mode.TheVariants as m
use Rattle.expression_form.specs.Levels.{infix_level, left_level, prefix_level}
use Rattle.expression_form.specs.Operands.{single, before, between, applied, given}

-- the operator between operands that a token is
abbrev pub infix_of : Token → Option Infix
infix_of (t.Word w.Or) = Some i.Or
infix_of (t.Word w.And) = Some i.And
infix_of (t.Word w.Mod) = Some i.Modulo
infix_of (t.Sign g.Equal) = Some i.Equal
infix_of (t.Sign g.NotEqual) = Some i.NotEqual
infix_of (t.Sign g.Less) = Some i.Less
infix_of (t.Sign g.LessEqual) = Some i.LessEqual
infix_of (t.Sign g.Greater) = Some i.Greater
infix_of (t.Sign g.GreaterEqual) = Some i.GreaterEqual
infix_of (t.Sign g.Plus) = Some i.Add
infix_of (t.Sign g.Minus) = Some i.Subtract
infix_of (t.Sign g.Ampersand) = Some i.Join
infix_of (t.Sign g.Star) = Some i.Multiply
infix_of (t.Sign g.Slash) = Some i.Divide
infix_of _ = None

-- the level that an operand on top of this stack needs
abbrev pub hole : List Frame → ℕ
hole [] = 0
hole (f.Prefix o ∷ st) = prefix_level o
hole (f.Infix o x ∷ st) = infix_level o + 1
hole (_ ∷ st) = 0

-- an operator that binds at least at this level
abbrev pub is_tighter : ℕ → Option Frame → Bool
is_tighter k (Some (f.Prefix o)) = nat_le k (prefix_level o)
is_tighter k (Some (f.Infix o x)) = nat_le k (infix_level o)
is_tighter k _ = false

-- an operand, its level and what is open below it
pub record Waiting : Type 0 where
  pub stack : List Frame
  pub operand : Operand
  pub level : ℕ

abbrev pub held : List Frame → Operand → ℕ → Waiting
held st x l = record { stack = st; operand = x; level = l }

-- takes the operand into what binds at least at this level
abbrev pub close : ℕ → List Frame → Operand → ℕ → Waiting
close k [] x l = held [] x l
close k (f.Group ∷ st) x l = held (f.Group ∷ st) x l
close k (f.Applied c ∷ st) x l = held (f.Applied c ∷ st) x l
close k (f.GivenFirst ∷ st) x l = held (f.GivenFirst ∷ st) x l
close k (f.GivenSecond y ∷ st) x l = held (f.GivenSecond y ∷ st) x l
close k (f.Prefix o ∷ st) x l =
    if nat_le k (prefix_level o) then close k st (before o x) (prefix_level o) else held (f.Prefix o ∷ st) x l
close k (f.Infix o y ∷ st) x l =
    if nat_le k (infix_level o) then close k st (between o y x) (infix_level o) else held (f.Infix o y ∷ st) x l

-- where a reader stands
pub record State : Type 0 where
  pub stack : List Frame
  pub mode : Mode

abbrev pub state : List Frame → Mode → State
state st m = record { stack = st; mode = m }

-- an operator between operands, after its left one
abbrev pub shift : Infix → Waiting → Option State
shift o a = if nat_le (left_level o) a.level then Some (state (f.Infix o a.operand ∷ a.stack) m.Want) else None

abbrev pub joined : Infix → List Frame → Operand → ℕ → Option State
joined o st x l = shift o (close (infix_level o) st x l)

-- a closing parenthesis
abbrev pub shut_at : Operand → List Frame → Option State
shut_at x (f.Group ∷ st) = Some (state st (m.Have x 7))
shut_at x (f.Applied c ∷ st) = Some (state st (m.Have (applied c x) 7))
shut_at x (f.GivenSecond y ∷ st) = Some (state st (m.Have (given y x) 7))
shut_at x _ = None

abbrev pub shut : Waiting → Option State
shut a = shut_at a.operand a.stack

-- a comma
abbrev pub parted_at : Operand → List Frame → Option State
parted_at x (f.GivenFirst ∷ st) = Some (state (f.GivenSecond x ∷ st) m.Want)
parted_at x _ = None

abbrev pub parted : Waiting → Option State
parted a = parted_at a.operand a.stack

-- an operator before its operand
abbrev pub prefixed : Prefix → List Frame → Option State
prefixed o st = if nat_le (hole st) (prefix_level o) then Some (state (f.Prefix o ∷ st) m.Want) else None

-- where an operand is wanted
abbrev pub wanting : List Frame → Token → Option State
wanting st (t.Number n) = Some (state st (m.Have (single (e.Number n)) 7))
wanting st (t.Text bytes) = Some (state st (m.Have (single (e.Text bytes)) 7))
wanting st (t.Name name) = Some (state st (m.Have (single (e.Name name)) 7))
wanting st (t.Word w.Nothing) = Some (state st (m.Have (single e.Nothing) 7))
wanting st (t.Word w.Not) = prefixed p.Not st
wanting st (t.Sign g.Minus) = prefixed p.Minus st
wanting st (t.Sign g.Open) = Some (state (f.Group ∷ st) m.Want)
wanting st (t.Word w.Len) = Some (state st (m.Opens (h.Applied c.Len)))
wanting st (t.Word w.Text) = Some (state st (m.Opens (h.Applied c.Text)))
wanting st (t.Word w.Given) = Some (state st (m.Opens h.Given))
wanting st _ = None

abbrev pub frame_of : Head → Frame
frame_of (h.Applied c) = f.Applied c
frame_of h.Given = f.GivenFirst

-- where an opening parenthesis is wanted
abbrev pub opening : List Frame → Head → Token → Option State
opening st head (t.Sign g.Open) = Some (state (frame_of head ∷ st) m.Want)
opening st head _ = None

-- a token after an operand that is no operator
abbrev pub closing : List Frame → Operand → ℕ → Token → Option State
closing st x l (t.Sign g.Close) = shut (close 0 st x l)
closing st x l (t.Sign g.Comma) = parted (close 0 st x l)
closing st x l _ = None

abbrev pub having_as : Option Infix → List Frame → Operand → ℕ → Token → Option State
having_as (Some o) st x l token = joined o st x l
having_as None st x l token = closing st x l token

-- after an operand
abbrev pub having : List Frame → Operand → ℕ → Token → Option State
having st x l token = having_as (infix_of token) st x l token

abbrev pub step_at : List Frame → Mode → Token → Option State
step_at st m.Want token = wanting st token
step_at st (m.Opens head) token = opening st head token
step_at st (m.Have x l) token = having st x l token

abbrev pub step : State → Token → Option State
step s token = step_at s.stack s.mode token

abbrev pub run : State → List Token → Option State
run s [] = Some s
run s (token ∷ ts) = option_and_then (λ s'. run s' ts) (step s token)

abbrev pub ended : List Frame → Operand → Option Operand
ended [] x = Some x
ended (_ ∷ st) x = None

abbrev pub finish_at : List Frame → Mode → Option Operand
finish_at st (m.Have x l) = let a = close 0 st x l in ended a.stack a.operand
finish_at st _ = None

abbrev pub finish : State → Option Operand
finish s = finish_at s.stack s.mode

-- the operand that a whole list of tokens is
abbrev pub operand_read : List Token → Option Operand
operand_read ts = option_and_then finish (run (state [] m.Want) ts)
