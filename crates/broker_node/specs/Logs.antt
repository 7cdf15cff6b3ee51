-- Where a broker's log stands.
use Rattle.std.specs.Prelude.{◌≡◌, ℕ, Bool, true, false, List, reverse}
use Rattle.medium_port.specs.Image.{Image}
use Rattle.effect_form.specs.declared.effects.Effect.{Effect}
use Rattle.version_store.specs.StoreWords.{medium_of, effects_in}
use Rattle.version_store.specs.declared.faults.OpenFault.{OpenFault}
use Rattle.version_store.specs.declared.faults.OpenFault.TheVariants as opening
use Rattle.broker_core.specs.ResumeFault.{ResumeFault}
use Rattle.broker_core.specs.ResumeFault.TheVariants as resuming
use Rattle.broker_core.specs.Book.{book}
use Rattle.broker_core.specs.Fits.{keep}
use Rattle.broker_core.specs.Owed.{done}
use Rattle.broker_core.specs.Tasks.{tasks}
use Rattle.node_turn.specs.WorldNodes.{acts_of}
use Rattle.node_turn.specs.Walks.{Base, Life, all_effects}
use Rattle.broker_node.specs.declared.logs.Log.{Log}
use Rattle.broker_node.specs.declared.logs.Log.TheVariants.{Open, Shut}

-- its store is open
abbrev pub is_open : {M : Type 0} {g : _} → Log M g → Bool
is_open (Open store) = true
is_open (Shut medium) = false

abbrev pub medium_in : {M : Type 0} {g : _} → Log M g → M
medium_in (Open store) = medium_of store
medium_in (Shut medium) = medium

-- the effects are those of the store, which is open
abbrev pub HasEffects : {M : Type 0} {g : _} → (M → Image) → Log M g → List Effect → Type 0
HasEffects reads (Open store) es = effects_in reads store ≡ es
HasEffects reads (Shut medium) es = ⊥

-- the medium of an open store has failed
abbrev pub has_failed : {M : Type 0} {g : _} → (M → Bool) → Log M g → Bool
has_failed failed (Open store) = failed (medium_of store)
has_failed failed (Shut medium) = false

-- what a log that shows a later run or another plan counts as: damage of the first page
abbrev pub as_damage : ResumeFault → OpenFault
as_damage resuming.NoMemory = opening.NoMemory
as_damage (resuming.OldRun latest) = opening.Damaged 0
as_damage (resuming.OtherPlan index) = opening.Damaged 0

-- whether a broker of this life has an outcome for each of its acts, and no request is outstanding
abbrev pub is_over : Base → ℕ → Life → Bool
is_over b i l = done b.script b.run (tasks (acts_of i b.acts)) (book (keep b.script i b.run (tasks (acts_of i b.acts)) (reverse (all_effects l)))) l.mind.heard
