-- A wire as contracts see it: what it began with, what happened since, and what is on its way.
use Rattle.std.specs.Prelude.{◌≡◌, ℕ, Bool, false, List, [], Option}
use Rattle.value_form.specs.declared.acts.ActSpec.{ActSpec}
use Rattle.stream_port.specs.declared.fates.Asked.{Asked}
use Rattle.message_core.specs.Parts.{FlightParts}
use Rattle.plan_form.specs.declared.plans.Plan.{Plan}
use Rattle.broker_core.specs.Readings.{reading}
use Rattle.broker_core.specs.Tasks.{Scripted}
use Rattle.world_core.specs.declared.entries.Entry.{Entry}
use Rattle.world_core.specs.declared.traces.Opened.{Opened}
use Rattle.world_core.specs.declared.traces.Sent.{Sent}
use Rattle.world_core.specs.declared.traces.Trace.{Trace}
use Rattle.world_core.specs.Walks.{Base, World, walk}
use Rattle.world_core.specs.Legal.{JustNodes, AllReady}

-- what a wire began with
pub record Origin : Type 0 where
  pub run : ℕ
  pub acts : List ActSpec
  pub start : ℕ
  pub opened : List Opened
  -- the fates that were asked for before
  pub asked : List Asked
  -- what the clock had answered before, where it tells that
  pub answers : Option (List ℕ)

pub record WireParts : Type 0 where
  pub origin : Origin
  pub entries : List Entry
  pub sent : List Sent
  pub asked : List Asked
  pub answers : Option (List ℕ)
  -- the due and the held copies
  pub flight : FlightParts
  -- a change found no memory
  pub broken : Bool

-- what a walk over the entries begins with
abbrev pub base_from : Origin → Base
base_from o = record { script = reading o.acts; run = o.run; acts = o.acts; start = o.start; opened = o.opened }

-- Where the entries lead to. Nothing but lives and messages rests on what acts and logs say.
abbrev pub world_of : WireParts → World
world_of w = walk (base_from w.origin) w.entries

-- nothing happened yet
pub record IsNew (w : WireParts) : Type 0 where
  pub entries : w.entries ≡ []
  pub sent : w.sent ≡ []
  pub whole : w.broken ≡ false

-- The run is one of this plan: it has the plan's number and acts, which their reading reads, and just the plan's nodes, whose logs
-- show neither a later run nor another plan.
pub record IsRunOf (plan : Plan) (o : Origin) : Type 0 where
  pub run : plan.run ≡ o.run
  pub acts : plan.acts ≡ o.acts
  pub nodes : JustNodes plan o.opened
  pub scripted : Scripted (reading o.acts) o.acts
  pub ready : AllReady (base_from o)

-- the trace so far
abbrev pub trace_of : WireParts → Trace
trace_of w = record { start = w.origin.start; opened = w.origin.opened; sent = w.sent; entries = w.entries }
