-- The archives of several repositories together: what one of them doesn't know of an attempt, that of the attempt's home may know. The joined marks of each
-- repository stand oldest first, those of repository 1 at the front.
use Rattle.std.specs.Prelude.{ℕ, Bool, List, [], ◌∷◌, ◌++◌, reverse, get_or, Option, Some, None}
use Rattle.pseudo_time.specs.StampParts.{StampParts}
use Rattle.object_history.specs.declared.marks.Mark.{Mark}
use Rattle.object_history.specs.declared.marks.Mark.TheVariants.{Settle}
use Rattle.object_history.specs.History.{at_put, settle_of}

-- what the archive of this repository says, newest mark first; without one, nothing
abbrev pub archive_at : List (List Mark) → ℕ → List Mark
archive_at joined r = reverse (get_or ([] ∷ joined) r [])

-- how the attempt was decided, by the archive of its home
abbrev pub at_home : List (List Mark) → StampParts → Option Bool
at_home joined s = settle_of (archive_at joined s.home) s

-- a decision as a mark, if there is one
abbrev pub as_mark : StampParts → Option Bool → List Mark
as_mark s None = []
as_mark s (Some c) = Settle s c ∷ []

-- what the home says of an attempt, where the archive doesn't know it
abbrev pub unless_known : Option Bool → Option Bool → Option Bool
unless_known None said = said
unless_known (Some c) said = None

-- what the homes say of the attempts that put these versions and aren't settled so
unfoldable pub from_homes : (settled home : StampParts → Option Bool) → List Mark → List Mark
from_homes settled home [] = []
from_homes settled home (f ∷ m) = at_put (λ o x v more. as_mark x.stamp (unless_known (settled x.stamp) (home x.stamp)) ++ more) f (from_homes settled home m)

-- an archive, with what the homes say of the attempts that it doesn't know
abbrev pub with_homes : List (List Mark) → List Mark → List Mark
with_homes joined m = from_homes (settle_of m) (at_home joined) m ++ m

-- the archive of this repository with that
abbrev pub informed : List (List Mark) → ℕ → List Mark
informed joined r = with_homes joined (archive_at joined r)
