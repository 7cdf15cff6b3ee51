-- The undecided version below a pseudotime that is reported first. Marks stand newest first.
use Rattle.std.specs.Prelude.{Bool, List, [], ◌∷◌, Option, Some, None, ◌&&◌, not, if◌then◌else◌}
use Rattle.std.specs.Ordering.{is_lt}
use Rattle.pseudo_time.specs.StampParts.{StampParts}
use Rattle.pseudo_time.specs.TimeParts.{TimeParts}
use Rattle.pseudo_time.specs.Order.{lt}
use Rattle.object_history.specs.declared.marks.Mark.{Mark}
use Rattle.object_history.specs.History.{at_put, settle_of, is_settled}
use Rattle.archive_store.specs.declared.starts.Start.{Start}
use Rattle.archive_store.specs.Met.{start_cmp}

-- the lesser of two, by object, then start
abbrev pub lesser : Start → Option Start → Start
lesser s None = s
lesser s (Some t) = if is_lt (start_cmp t s) then t else s

-- below t, and not decided so
abbrev pub is_unsettled : (StampParts → Option Bool) → TimeParts → TimeParts → Bool
is_unsettled settled t x = lt x t && not (is_settled (settled x.stamp))

-- the least of them
unfoldable pub first_among : (StampParts → Option Bool) → TimeParts → List Mark → Option Start
first_among settled t [] = None
first_among settled t (f ∷ m) =
    at_put (λ o x v s. if is_unsettled settled t x then Some (lesser (record { object = o; start = x }) s) else s) f (first_among settled t m)

abbrev pub first_open : List Mark → TimeParts → Option Start
first_open m t = first_among (settle_of m) t m
