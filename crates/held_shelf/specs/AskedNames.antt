-- The names that a shelf was asked for.
use Rattle.std.specs.Prelude.{List, [], ◌∷◌, ◌++◌}
use Rattle.medium_port.specs.declared.shelves.MediumName.{MediumName}
use Rattle.held_shelf.specs.declared.asked_names.AskedNames.{AskedNames, Nothing, More'}

-- in the order of the askings
abbrev pub names_of : AskedNames → List MediumName
names_of Nothing = []
names_of (More' marker before name) = names_of before ++ name ∷ []
