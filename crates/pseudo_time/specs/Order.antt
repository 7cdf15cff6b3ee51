-- Which of two stamps or pseudotimes comes first, and whether they are the same, as tests.
use Rattle.std.specs.Prelude.{Bool}
use Rattle.std.specs.Ordering.{is_lt, is_eq}
use Rattle.pseudo_time.specs.StampParts.{StampParts, stamp_cmp}
use Rattle.pseudo_time.specs.TimeParts.{TimeParts, time_cmp}

unfoldable pub same_stamp : StampParts → StampParts → Bool
same_stamp a b = is_eq (stamp_cmp a b)

unfoldable pub same_time : TimeParts → TimeParts → Bool
same_time a b = is_eq (time_cmp a b)

-- the first comes before the second
unfoldable pub stamp_lt : StampParts → StampParts → Bool
stamp_lt a b = is_lt (stamp_cmp a b)

unfoldable pub lt : TimeParts → TimeParts → Bool
lt a b = is_lt (time_cmp a b)
