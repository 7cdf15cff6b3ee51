-- Tests of equality.
use Rattle.std.specs.Prelude.{ℕ, ◌==◌, Bool, false, ◌&&◌, List, Option, Some, None}
use Rattle.std.specs.Cmp.Lexicographic.{pointwise}
use Rattle.pseudo_time.specs.StampParts.{StampParts}
use Rattle.pseudo_time.specs.TimeParts.{TimeParts}
use Rattle.pseudo_time.specs.Order.{same_stamp, same_time}
use Rattle.broker_ledger.specs.Tasks.{Task}

-- two texts are the same
abbrev pub same_bytes : List ℕ → List ℕ → Bool
same_bytes = pointwise ◌==◌

-- two tasks say the same
abbrev pub same_task : Task → Task → Bool
same_task a b = (a.index == b.index) && ((a.home == b.home) && ((a.timeout == b.timeout) && ((a.tries == b.tries) && ((a.clock == b.clock) && same_bytes a.script b.script))))

-- is it this stamp, this pseudotime, this task?
abbrev pub is_stamp : Option StampParts → StampParts → Bool
is_stamp None s = false
is_stamp (Some x) s = same_stamp x s

abbrev pub is_time : Option TimeParts → TimeParts → Bool
is_time None t = false
is_time (Some x) t = same_time x t

abbrev pub is_task : Option Task → Task → Bool
is_task None a = false
is_task (Some x) a = same_task x a
