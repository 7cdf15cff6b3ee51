-- What the code has told so far, as a fact of the run.
use Rattle.std.specs.Prelude.{◌≡◌, List, Option, Some}
use Rattle.pseudo_time.specs.Lists.{Has}
use Rattle.pseudo_time.specs.StampParts.{StampParts}
use Rattle.world_core.specs.Deeds.{RunLogs, Try}
use Rattle.script_replay.specs.Replays.{HasScript}
use Rattle.script_replay.specs.declared.attempts.Told.{Told}
use Rattle.log_replay.specs.declared.tells.Teller.{Teller}
use Rattle.log_replay.specs.Telling.{AreDecided, AreTold, left_at, told_at}

-- it knows which attempts are committed
abbrev pub Knows : RunLogs → Teller → Type 0
Knows k t = AreDecided k t.commits.items

-- it has told of these tries
abbrev pub HasTold : RunLogs → List Try → Teller → Type 0
HasTold k ts t = AreTold k ts (told_at t.told) (left_at t.puts)

-- it has told of no other stamps than these
abbrev pub KeysIn : List StampParts → Teller → Type 0
KeysIn ss t = (s : StampParts) (x : Told) → told_at t.told s ≡ Some x → Has s ss

-- all that is told has scripts of a text's form
abbrev pub AllScripts : (StampParts → Option Told) → Type 0
AllScripts told = (s : StampParts) (x : Told) → told s ≡ Some x → HasScript x
