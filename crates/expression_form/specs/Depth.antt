-- How deep an expression is.
use Rattle.std.specs.Prelude.{ℕ, ◌+◌, ◌≤◌, max}
use Rattle.value_form.specs.Mirror.{Term, Number, Text, Nothing, Name, Before, Between, Applied, Given}

-- the nested expressions on its longest path; parentheses are none
abbrev pub depth : Term → ℕ
depth (Number n) = 1
depth (Text bytes) = 1
depth Nothing = 1
depth (Name name) = 1
depth (Before o x) = depth x + 1
depth (Between o x y) = max (depth x) (depth y) + 1
depth (Applied f x) = depth x + 1
depth (Given x y) = max (depth x) (depth y) + 1

-- no deeper than the language allows
abbrev pub IsShallow : Term → Type 0
IsShallow x = depth x ≤ 16
