-- What calls left of a repository's volumes, what stood in its logs, and what an archive of them is.
use Rattle.std.specs.Prelude.{◌≡◌, ◌⊎◌, ℕ, Bool, true, List, [], ◌∷◌, ◌++◌, map, reverse, Some}
use Rattle.pseudo_time.specs.Lists.{Has}
use Rattle.pseudo_time.specs.Nodes.{repository}
use Rattle.pseudo_time.specs.StampParts.{StampParts}
use Rattle.pseudo_time.specs.TimeParts.{TimeParts}
use Rattle.pseudo_time.specs.declared.decisions.Decision.{Decision}
use Rattle.pseudo_time.specs.declared.nodes.NodeId.{NodeId}
use Rattle.value_form.specs.declared.objects.ObjectId.{ObjectId}
use Rattle.value_form.specs.declared.values.Value.{Value}
use Rattle.effect_form.specs.declared.effects.Effect.{Effect}
use Rattle.effect_form.specs.declared.effects.Effect.TheVariants as effect
use Rattle.object_history.specs.declared.marks.Mark.{Mark}
use Rattle.object_history.specs.declared.marks.Mark.TheVariants as mark
use Rattle.object_history.specs.History.{settle_of}
use Rattle.object_history.specs.Views.{Distinct}
use Rattle.archive_store.specs.Joined.{joined}
use Rattle.repository_log.specs.Logs.{is_commit, known, marks}
use Rattle.world_core.specs.declared.entries.Entry.{Entry}
use Rattle.world_core.specs.Legal.{base_of, in_plan}
use Rattle.world_core.specs.Pasts.{Call, own_reading}
use Rattle.world_core.specs.Walks.{walk}
use Rattle.serial_law.specs.Earlier.{AreEarlier, AreOfLanguage, Earlier, logs_left, replaced}
use Rattle.serial_law.specs.Earlier.Earlier.{Running, Retiring}

-- ---- calls, and the logs that they left

-- runs of plans that can run, and retirements, each over what those before it left; the last call stands first
abbrev pub IsPast : List Earlier → Type 0
IsPast cs = AreEarlier own_reading cs × AreOfLanguage cs

-- a node's log after these calls, oldest effect first
abbrev pub log_after : List Earlier → NodeId → List Effect
log_after cs n = logs_left own_reading cs n

-- the logs of a repository's complete volumes, from volume 0 on: those that retirements replaced, then this last one
abbrev pub volumes_with : List Earlier → ℕ → List Effect → List (List Effect)
volumes_with cs r log = reverse (replaced own_reading cs (repository r)) ++ log ∷ []

-- those that the calls left
abbrev pub volumes_left : List Earlier → ℕ → List (List Effect)
volumes_left cs r = volumes_with cs r (log_after cs (repository r))

-- what complete volumes say together, newest mark first
abbrev pub archive : List (List Effect) → List Mark
archive volumes = reverse (joined (map marks volumes))

-- ---- what stood in a repository's durable log

-- a node's durable log at a place of a run, which comes behind these entries
abbrev pub log_there : Call → List Entry → NodeId → List Effect
log_there c front n = ((walk (base_of (own_reading c.plan) c.plan c.trace) front).life n).gated

-- at a place of a run that has the repository
abbrev pub StoodIn : Earlier → ℕ → Effect → Type 0
StoodIn (Running c) r f = (in_plan c.plan (repository r) ≡ true) × ((front rest : List Entry) × (c.trace.entries ≡ front ++ rest) × Has f (log_there c front (repository r)))
StoodIn (Retiring q at) r f = ⊥

-- after one of these calls, or at a place of a run among them
abbrev pub EverStood : List Earlier → ℕ → Effect → Type 0
EverStood [] r f = ⊥
EverStood (c ∷ cs) r f = Has f (log_after (c ∷ cs) (repository r)) ⊎ (StoodIn c r f ⊎ EverStood cs r f)

-- the attempt was decided so: that stands in the log of its home
abbrev pub WasDecided : List Earlier → StampParts → Bool → Type 0
WasDecided cs s c = (d : Decision) × Has (effect.Decide s d) (log_after cs (repository s.home)) × (c ≡ is_commit d)

-- ---- an archive

-- These marks have each version that ever stood in the repository's durable logs, each object and start once, and no other. A decision that they have of
-- an attempt is its home's, and they have one of each attempt of which the repository's last log has one.
pub record IsArchive (cs : List Earlier) (r : ℕ) (m : List Mark) : Type 0 where
  pub all : (o : ObjectId) (x : TimeParts) (v : Value) → EverStood cs r (effect.Put o x v) → Has (mark.Put o x v) m
  pub none : (o : ObjectId) (x : TimeParts) (v : Value) → Has (mark.Put o x v) m → EverStood cs r (effect.Put o x v)
  pub once : Distinct m
  pub decided : (s : StampParts) (c : Bool) → settle_of m s ≡ Some c → WasDecided cs s c
  pub known_so : (s : StampParts) → settle_of m s ≡ known (reverse (log_after cs (repository r))) s
