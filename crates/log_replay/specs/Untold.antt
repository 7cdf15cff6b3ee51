-- Versions that no attempt has, though their broker has a log, and what is told then.
use Rattle.std.specs.Prelude.{◌≡◌, true, false, Bool, List, [], Option, Some, None}
use Rattle.std.specs.Global.{Vec}
use Rattle.pseudo_time.specs.Lists.{Every, Has}
use Rattle.pseudo_time.specs.Nodes.{broker}
use Rattle.pseudo_time.specs.Order.{stamp_lt}
use Rattle.pseudo_time.specs.StampParts.{StampParts}
use Rattle.script_replay.specs.declared.attempts.Attempt.{Attempt}
use Rattle.script_replay.specs.declared.attempts.Put.{Put}
use Rattle.script_replay.specs.declared.attempts.Told.{Told}
use Rattle.script_replay.specs.declared.attempts.Told.TheVariants.{Tried}
use Rattle.world_core.specs.Deeds.{RunLogs, Try, find}
use Rattle.log_replay.specs.Telling.{AreGiven}
use Rattle.log_replay.specs.Tells.{AreRising, HasPut, IsTold, Says, TellsAll}

-- a version has the stamp, its broker has a log, and no attempt has the stamp
pub record IsUntried (k : RunLogs) (s : StampParts) : Type 0 where
  pub put : HasPut k s
  pub none : find s k.tries ≡ None
  pub there : k.logs (broker s.broker) ≡ [] → ⊥

-- and no lesser stamp is so
pub record IsFirstUntried (k : RunLogs) (s : StampParts) : Type 0 where
  pub is : IsUntried k s
  pub least : (t : StampParts) → stamp_lt t s ≡ true → IsUntried k t → ⊥

-- What is told, in rising stamps, is what the logs say, and all attempts are told.
pub record TellsTries (k : RunLogs) (told : List Told) : Type 0 where
  pub rising : AreRising told
  pub each : Every (IsTold k) told
  pub tried : (t : Try) → Has t k.tries → (a : Attempt) × Has (Tried a) told × Says k t a

-- all is told; or this is the least stamp of a version that can't be told, and all attempts are told
abbrev pub Tells : RunLogs → List Told → Option StampParts → Type 0
Tells k told None = TellsAll k told
Tells k told (Some s) = IsFirstUntried k s × TellsTries k told

-- ---- on the way

-- these versions were passed or given; or they can't be told
abbrev pub Gave : RunLogs → StampParts → (StampParts → Option Told) → (old new : StampParts → Option (Vec Put)) → Bool → Type 0
Gave k stamp told old new false = AreGiven k told new
Gave k stamp told old new true = AreGiven k told old × IsUntried k stamp

abbrev pub GaveAll : RunLogs → (StampParts → Option Told) → Option StampParts → Type 0
GaveAll k told None = AreGiven k told (λ s. None)
GaveAll k told (Some s) = ((puts : StampParts → Option (Vec Put)) × AreGiven k told puts) × IsFirstUntried k s
