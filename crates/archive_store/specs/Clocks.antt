-- The greatest clock that marks have.
use Rattle.std.specs.Prelude.{ℕ, max, List, [], ◌∷◌}
use Rattle.object_history.specs.declared.marks.Mark.{Mark}
use Rattle.object_history.specs.declared.marks.Mark.TheVariants.{Put, Stretch, Settle, Floor}

abbrev pub clock_in : Mark → ℕ
clock_in (Put o x v) = x.stamp.clock
clock_in (Stretch o x) = x.stamp.clock
clock_in (Settle s c) = s.clock
clock_in (Floor x) = x.stamp.clock

-- of these marks; without any, 0
unfoldable pub top_clock : List Mark → ℕ
top_clock [] = 0
top_clock (f ∷ m) = max (clock_in f) (top_clock m)

-- of several archives
unfoldable pub top_of_all : List (List Mark) → ℕ
top_of_all [] = 0
top_of_all (m ∷ ms) = max (top_clock m) (top_of_all ms)
