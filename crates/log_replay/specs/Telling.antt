-- How far the tries of a run are told.
use Rattle.std.specs.Prelude.{◌≡◌, ◌-◌, Bool, false, List, [], slice_get, Option, Some, None}
use Rattle.std.specs.BTreeMap.{BTreeMap, get}
use Rattle.std.specs.FinMap as finite
use Rattle.std.specs.Global.{Vec}
use Rattle.object_history.specs.Kept.{Settled}
use Rattle.pseudo_time.specs.Lists.{Has}
use Rattle.pseudo_time.specs.Nodes.{broker}
use Rattle.pseudo_time.specs.StampParts.{IsStamp, StampParts, stamp_cmp}
use Rattle.script_replay.specs.Attempts.{stamp_of}
use Rattle.script_replay.specs.Replays.{HasScript}
use Rattle.script_replay.specs.declared.attempts.Attempt.{Attempt}
use Rattle.script_replay.specs.declared.attempts.Put.{Put}
use Rattle.script_replay.specs.declared.attempts.Told.{Told}
use Rattle.script_replay.specs.declared.attempts.Told.TheVariants.{Given, Tried}
use Rattle.world_core.specs.Deeds.{RunLogs, Try, committed, find, written}
use Rattle.log_replay.specs.Commits.{is_said}
use Rattle.log_replay.specs.Puts.{versions_in}
use Rattle.log_replay.specs.Tells.{HasPut, IsTold, Says}

-- ---- decisions

abbrev pub said_at : Option Settled → StampParts → Bool
said_at None s = false
said_at (Some said) s = is_said (finite.get said s)

-- whether the log of its home commits the attempt, by what each log says first
abbrev pub committed_by : List Settled → StampParts → Bool
committed_by commits s = said_at (slice_get commits (s.home - 1)) s

abbrev pub AreDecided : RunLogs → List Settled → Type 0
AreDecided k commits = (s : StampParts) → IsStamp s → committed_by commits s ≡ committed k s

-- ---- maps of stamps

-- what is told of a stamp
abbrev pub told_at : BTreeMap StampParts Told → StampParts → Option Told
told_at told s = get stamp_cmp told s

-- the versions of a stamp that are left
abbrev pub left_at : BTreeMap StampParts (Vec Put) → StampParts → Option (Vec Put)
left_at puts s = get stamp_cmp puts s

-- ---- attempts

-- it is told of one of these tries
abbrev pub IsTried : RunLogs → List Try → Told → Type 0
IsTried k ts (Tried a) = (t : Try) × Has t ts × Says k t a
IsTried k ts (Given s ps) = ⊥

-- of these tries all is told, each under its stamp, and the versions of the other stamps are left
pub record AreTold (k : RunLogs) (ts : List Try) (told : StampParts → Option Told) (puts : StampParts → Option (Vec Put)) : Type 0 where
  pub each : (s : StampParts) (x : Told) → told s ≡ Some x → (stamp_of x ≡ s) × IsTried k ts x
  pub scripts : (s : StampParts) (x : Told) → told s ≡ Some x → HasScript x
  pub tried : (t : Try) → Has t ts → (a : Attempt) × (told t.stamp ≡ Some (Tried a)) × Says k t a
  pub left : (s : StampParts) → told s ≡ None → versions_in (puts s) ≡ written k s
  pub gone : (s : StampParts) (x : Told) → told s ≡ Some x → puts s ≡ None

-- ---- versions without an attempt

-- All attempts are told, and what is committed, but for the versions that are left, which belong to no attempt. Those that are
-- neither told nor left belong to brokers without a log.
pub record AreGiven (k : RunLogs) (told : StampParts → Option Told) (puts : StampParts → Option (Vec Put)) : Type 0 where
  pub each : (s : StampParts) (x : Told) → told s ≡ Some x → (stamp_of x ≡ s) × IsTold k x
  pub scripts : (s : StampParts) (x : Told) → told s ≡ Some x → HasScript x
  pub tried : (t : Try) → Has t k.tries → (a : Attempt) × (told t.stamp ≡ Some (Tried a)) × Says k t a
  pub left : (s : StampParts) (ps : Vec Put) → puts s ≡ Some ps → (told s ≡ None) × (versions_in (Some ps) ≡ written k s)
  pub done : (s : StampParts) → told s ≡ None → puts s ≡ None → HasPut k s → (committed k s ≡ false) × (k.logs (broker s.broker) ≡ [])
  pub lost : (s : StampParts) (x : Told) → told s ≡ Some x → find s k.tries ≡ None → k.logs (broker s.broker) ≡ []
