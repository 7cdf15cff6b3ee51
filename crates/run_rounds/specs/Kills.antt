-- What a kill at any place of a run leaves of its media.
use Rattle.std.specs.Prelude.{◌≡◌, ℕ, suc, true, List, ◌++◌, length, Option}
use Rattle.pseudo_time.specs.declared.nodes.NodeId.{NodeId}
use Rattle.medium_port.specs.Moment.{Stage, Goes, LeavesOnly}
use Rattle.plan_form.specs.declared.plans.Plan.{Plan}
use Rattle.world_core.specs.declared.entries.Entry.{Entry}
use Rattle.world_core.specs.declared.traces.Trace.{Trace}
use Rattle.world_core.specs.Walks.{own}
use Rattle.world_core.specs.Legal.{in_plan}
use Rattle.world_core.specs.Pasts.{WasNotOpened}
use Rattle.kill_law.specs.Places.{life_there}
use Rattle.run_starts.specs.Lives.{IsKept}
use Rattle.run_starts.specs.Windows.{cut_at}
use Rattle.run_media.specs.Media.{Media}
use Rattle.run_rounds.specs.Media.{Became}

-- what a node's medium had gone through when its node was opened, and when each of the node's entries was added, in order
pub record Course : Type 0 where
  pub begun : List Stage
  pub cuts : List (List Stage)

-- The window of a place goes from the node's last entry before the place to its next one: from the opening where there is none before, and to what the medium went through in all where none follows. At any
-- moment of it a crash left the node's durable log of the place, with a prefix of its open effects.
pub record KeepsPlaces (plan : Plan) (t : Trace) (n : NodeId) (c : Course) (all : List Stage) : Type 0 where
  pub each : length c.cuts ≡ length (own n t.entries)
  pub kept : (front rest : List Entry) → t.entries ≡ front ++ rest → Goes (cut_at c.begun c.cuts all (length (own n front))) (cut_at c.begun c.cuts all (suc (length (own n front)))) (IsKept (life_there plan t front n))

module _ {M : Type 0} (w : Media M) where
  -- A node's medium from when it was handed in to when it is handed back: until it was opened a crash left no image that it couldn't have left before, and from then on it kept each place.
  pub record KeepsThroughout (plan : Plan) (t : Trace) (n : NodeId) (old new : M) : Type 0 where
    pub course : Course
    pub opening : Goes (w.stages old) course.begun (w.may_leave old)
    pub places : KeepsPlaces plan t n course (w.stages new)

  -- So it is of each node that was opened; and of one that wasn't a crash left at no moment an image that it couldn't have left before.
  pub record SurvivesKills (media left : List (Option M)) (plan : Plan) (t : Trace) : Type 0 where
    pub opened : (n : NodeId) (old new : M) → in_plan plan n ≡ true → (WasNotOpened t.entries n → ⊥) → Became plan media left n old new → KeepsThroughout plan t n old new
    pub unopened : (n : NodeId) (old new : M) → in_plan plan n ≡ true → WasNotOpened t.entries n → Became plan media left n old new → LeavesOnly w.stages old new (w.may_leave old)
