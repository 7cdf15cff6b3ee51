-- When a run has ended.
use Rattle.std.specs.Prelude.{◌≡◌, ◌⊎◌, ℕ, ◌≤◌, Bool, true, false, List, ◌∷◌, ◌++◌, length}
use Rattle.std.specs.List.{list_any}
use Rattle.pseudo_time.specs.declared.nodes.NodeId.{NodeId}
use Rattle.pseudo_time.specs.Lists.{Has}
use Rattle.pseudo_time.specs.StampParts.{StampParts}
use Rattle.pseudo_time.specs.Nodes.{broker, repository}
use Rattle.plan_form.specs.declared.plans.Plan.{Plan}
use Rattle.broker_core.specs.Readings.{reading}
use Rattle.world_core.specs.declared.entries.Entry.{Entry}
use Rattle.world_core.specs.declared.entries.Entry.TheVariants.{Tick}
use Rattle.world_core.specs.declared.traces.Trace.{Trace}
use Rattle.world_core.specs.Walks.{World, is_down, own, walk}
use Rattle.world_core.specs.Legal.{Idle, base_of, fates_of, in_plan, is_within}
use Rattle.world_core.specs.Pasts.{WasNotOpened}
use Rattle.world_core.specs.Readings.{world_after}
use Rattle.world_core.specs.Counts.{tick_count}
use Rattle.run_starts.specs.Logs.{is_over}
use Rattle.run_starts.specs.Costs.{costs}
use Rattle.run_starts.specs.Doubts.{HasDecided, doubts}
use Rattle.run_rounds.specs.declared.goals.Course.{Course}
use Rattle.run_rounds.specs.declared.goals.Course.TheVariants.{Acts, Settling}

-- some node is down
abbrev pub some_down : List Entry → Bool
some_down es = list_any is_down es

-- where these entries lead each act of the broker has its outcome, and no request is outstanding
abbrev pub broker_done_after : Plan → Trace → List Entry → ℕ → Bool
broker_done_after plan t es b = is_over (base_of (reading plan.acts) plan t) b ((walk (base_of (reading plan.acts) plan t) es).life (broker b))

-- and so it is at the end
abbrev pub broker_done : Plan → Trace → ℕ → Bool
broker_done plan t b = broker_done_after plan t t.entries b

abbrev pub AllDone : Plan → Trace → Type 0
AllDone plan t = (b : ℕ) → is_within b plan.brokers ≡ true → broker_done plan t b ≡ true

-- In a repository's durable log no version is left in doubt whose home, of this run, has decided its attempt.
abbrev pub IsSettled : Plan → World → ℕ → Type 0
IsSettled plan w r = (s : StampParts) → is_within s.home plan.repositories ≡ true → Has s (doubts r (w.life (repository r)).gated) → HasDecided (w.life (repository s.home)).gated s → ⊥

-- So it is of each repository of which no crash was counted.
abbrev pub AllSettled : Plan → Trace → Type 0
AllSettled plan t = (r : ℕ) → is_within r plan.repositories ≡ true → costs (own (repository r) t.entries) ≡ 0 → IsSettled plan (world_after plan t) r

-- no node that is up has anything to do, and no further Tick may be made
abbrev pub HasRunOut : (most_ticks : ℕ) → Plan → Trace → Type 0
HasRunOut most_ticks plan t = Idle (fates_of t.sent) (world_after plan t) × (tick_count t.entries ≡ most_ticks)

-- Time passes only where some broker isn't done.
abbrev pub TicksAreWanted : Plan → Trace → Type 0
TicksAreWanted plan t = (front : List Entry) (moment : ℕ) (rest : List Entry) → t.entries ≡ front ++ Tick moment ∷ rest → (b : ℕ) × (is_within b plan.brokers ≡ true) × (broker_done_after plan t front b ≡ false)

-- A run has at most so many Ticks, and ends if a node is down, all brokers are done and what is decided is settled, enough messages were sent, or it has run out.
pub record HasEnded (most_ticks enough : ℕ) (plan : Plan) (t : Trace) : Type 0 where
  pub few : tick_count t.entries ≤ most_ticks
  pub wanted : TicksAreWanted plan t
  pub why : (some_down t.entries ≡ true) ⊎ ((AllDone plan t × AllSettled plan t) ⊎ ((enough ≤ length t.sent) ⊎ HasRunOut most_ticks plan t))

-- A run that only settles makes one Tick at most. It ends if a node is down; or no node that is up has anything to do after the Tick, which each has heard, and what is decided is settled.
pub record HasSettled (plan : Plan) (t : Trace) : Type 0 where
  pub few : tick_count t.entries ≤ 1
  pub why : (some_down t.entries ≡ true) ⊎ (HasRunOut 1 plan t × AllSettled plan t)

-- A node of the plan wasn't opened, so that no round began.
abbrev pub IsUnopened : Plan → Trace → Type 0
IsUnopened plan t = (n : NodeId) × (in_plan plan n ≡ true) × WasNotOpened t.entries n

-- ---- by what a run is for

-- a run for acts has ended, one that only settles has settled
abbrev pub HasDoneSo : Course → Plan → Trace → Type 0
HasDoneSo (Acts limits) plan t = HasEnded limits.ticks limits.messages plan t
HasDoneSo Settling plan t = HasSettled plan t

abbrev pub IsOver : Course → Plan → Trace → Type 0
IsOver course plan t = HasDoneSo course plan t ⊎ IsUnopened plan t
