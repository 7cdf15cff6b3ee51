-- When what is told, in rising stamps, is what the logs of a run say.
use Rattle.std.specs.Prelude.{◌≡◌, ℕ, true, List, [], ◌∷◌, None}
use Rattle.pseudo_time.specs.Lists.{Every, Has}
use Rattle.pseudo_time.specs.Nodes.{broker}
use Rattle.pseudo_time.specs.Order.{stamp_lt}
use Rattle.pseudo_time.specs.StampParts.{StampParts}
use Rattle.pseudo_time.specs.TimeParts.{TimeParts}
use Rattle.value_form.specs.declared.objects.ObjectId.{ObjectId}
use Rattle.value_form.specs.declared.values.Value.{Value}
use Rattle.effect_form.specs.declared.effects.Effect.TheVariants as effect
use Rattle.world_core.specs.Deeds.{RunLogs, Try, committed, find, in_run, log_of, written}
use Rattle.script_replay.specs.Attempts.{answers_of, stamp_of, tree_of, versions_of}
use Rattle.script_replay.specs.declared.attempts.Attempt.{Attempt}
use Rattle.script_replay.specs.declared.attempts.Put.{Put}
use Rattle.script_replay.specs.declared.attempts.Told.{Told}
use Rattle.script_replay.specs.declared.attempts.Told.TheVariants.{Given, Tried}

-- what is told of an attempt is this attempt of the run, how its home decided, and the versions with its stamp
pub record Says (k : RunLogs) (t : Try) (a : Attempt) : Type 0 where
  pub stamp : a.stamp ≡ t.stamp
  pub script : tree_of a ≡ t.script
  pub answers : answers_of a.replies ≡ t.answers
  pub ended : a.ended ≡ t.ended
  pub decided : a.committed ≡ committed k t.stamp
  pub puts : versions_of a.puts ≡ written k t.stamp

-- a repository's log has a version with this stamp
pub record HasPut (k : RunLogs) (s : StampParts) : Type 0 where
  pub repository : ℕ
  pub object : ObjectId
  pub start : TimeParts
  pub value : Value
  pub inside : in_run k repository ≡ true
  pub there : Has (effect.Put object start value) (log_of k repository)
  pub same : start.stamp ≡ s

-- versions that are given: their stamp is committed, and their broker has no log
pub record IsGiven (k : RunLogs) (s : StampParts) (ps : List Put) : Type 0 where
  pub decided : committed k s ≡ true
  pub untried : find s k.tries ≡ None
  pub lost : k.logs (broker s.broker) ≡ []
  pub some : HasPut k s
  pub puts : versions_of ps ≡ written k s

abbrev pub IsTold : RunLogs → Told → Type 0
IsTold k (Tried a) = (t : Try) × Has t k.tries × Says k t a
IsTold k (Given s ps) = IsGiven k s ps

-- each stamp is below those that follow
abbrev pub AreRising : List Told → Type 0
AreRising [] = Unit {0}
AreRising (x ∷ more) = Every (λ (y : Told). stamp_lt (stamp_of x) (stamp_of y) ≡ true) more × AreRising more

-- All attempts of the run are told, and all committed versions whose broker has no log, in rising stamps, and nothing else. Each version
-- without an attempt belongs to a broker that has no log.
pub record TellsAll (k : RunLogs) (told : List Told) : Type 0 where
  pub rising : AreRising told
  pub each : Every (IsTold k) told
  pub tried : (t : Try) → Has t k.tries → (a : Attempt) × Has (Tried a) told × Says k t a
  pub given : (s : StampParts) → HasPut k s → committed k s ≡ true → (x : Told) × Has x told × (stamp_of x ≡ s)
  pub lost : (s : StampParts) → HasPut k s → find s k.tries ≡ None → k.logs (broker s.broker) ≡ []
