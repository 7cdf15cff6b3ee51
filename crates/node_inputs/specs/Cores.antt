-- What the calls of a core that keeps its log on a medium do. Logs stand oldest first.
use Rattle.std.specs.Prelude.{◌≡◌, ◌≢◌, ◌⊎◌, ◌≤◌, ◌<◌, ◌+◌, ℕ, true, List, [], ◌++◌, length, count_by, Result, Ok, Err, IsTrue, IfOk, IfErr, OnOk, IsErrOf}
use Rattle.stream_port.specs.Causes.{Rose}
use Rattle.medium_port.specs.Image.{Image, NoMore}
use Rattle.medium_port.specs.Moment.{LeavesOnly}
use Rattle.medium_port.specs.declared.media.Medium.{Ghosts as Media}
use Rattle.page_gate.specs.States.{is_blank}
use Rattle.pseudo_time.specs.declared.nodes.NodeId.{NodeId}
use Rattle.effect_form.specs.declared.effects.Effect.{Effect}
use Rattle.message_form.specs.declared.turns.Turn.{Turn}
use Rattle.message_form.specs.Ranges.{AreEffects, AreOuts}
use Rattle.object_history.specs.declared.steps.HistoryFault.{HistoryFault}
use Rattle.object_history.specs.declared.steps.HistoryFault.TheVariants as fault
use Rattle.object_history.specs.Causes.{IsNotDamage}
use Rattle.version_store.specs.declared.faults.StoreFault.{StoreFault}
use Rattle.version_store.specs.declared.faults.StoreFault.TheVariants as adding
use Rattle.version_store.specs.declared.faults.OpenFault.{OpenFault}
use Rattle.version_store.specs.declared.faults.OpenFault.TheVariants as opening
use Rattle.version_store.specs.Filling.{HasPrefix, KeepsPages, StaysClean, filling, pages_apart}
use Rattle.version_store.specs.Storage.{storage}
use Rattle.world_core.specs.Nodes.{Input, Given, gives, is_ready}
use Rattle.world_core.specs.Walks.{Base, Life, all_effects, opened_life, gated_life, after_input}
use Rattle.node_inputs.specs.declared.core_meanings.Meanings.{Ghosts as Meanings}

-- a crash leaves no image but those of this log
abbrev pub LeavesLog : (Image → Type 0) → List Effect → Type 0
LeavesLog images log = (c : Image) → images c → storage c ≡ Ok log

-- what the rules give a node of this life for an input
abbrev pub given_for : Base → NodeId → Life → Input → Given
given_for b n l input = gives b.script b.run b.acts n (all_effects l) l.mind input

-- the turn has the effects and the messages that were given
abbrev pub HasTurn : Given → Turn → Type 0
HasTurn g t = (t.effects ≡ g.effects) × (t.outs ≡ g.outs)

-- behind this log stand more effects, and no more pages were written than these fill where none shares one
pub record HasGrown (log : List Effect) (old new : Image) : Type 0 where
  pub more : List Effect
  pub ranges : AreEffects more
  pub is : storage new ≡ Ok (log ++ more)
  pub pages : count_by is_blank old ≤ count_by is_blank new + pages_apart more

-- the pages of an image are there later: none that wasn't blank was changed, none that was is spoiled, and what was written is the log's
pub record IsIntact (old new : Image) : Type 0 where
  pub count : length new ≡ length old
  pub keeps : KeepsPages old new
  pub clean : StaysClean old new
  pub grown : (log : List Effect) → storage old ≡ Ok log → HasGrown log old new

-- the node's log shows neither a later run nor another plan
abbrev pub IsReady : Base → NodeId → List Effect → Type 0
IsReady b n log = is_ready b.script b.run b.acts n log ≡ true

-- This page is an image's damage for the node: the first that no log has there; or page 0, where the node isn't ready with the log.
abbrev pub IsDamageOf : Base → NodeId → Image → ℕ → Type 0
IsDamageOf b n image page = (storage image ≡ Err page) ⊎ ((page ≡ 0) × (log : List Effect) × (storage image ≡ Ok log) × (IsReady b n log → ⊥))

-- The meanings are those of a type K of cores over media of a type M.
module _ {K M : Type 0} (w : Media M) (m : Meanings K M) where
  -- it stays the core of its node in its run, and its medium's count of faults doesn't fall
  pub record StaysOwn (old new : K) : Type 0 where
    pub node : (m.parts new).node ≡ (m.parts old).node
    pub run : (b : Base) → m.fits b old → m.fits b new
    pub later : w.faults (m.parts old).medium ≤ w.faults (m.parts new).medium

  -- An input was given: the turn is what the rules give, and the core has the life after it. Nothing was written, and nothing that crashes see was changed. A fault of the medium
  -- comes only where its count rose, and a damaged page never where media tell their content.
  pub record IsGiven (old new : K) (input : Input) (result : Result Turn HistoryFault) : Type 0 where
    pub same : StaysOwn old new
    pub able : OnOk result ((m.parts new).able ≡ true)
    pub gave : IsTrue w.tells → (b : Base) (l : Life) → m.fits b old → m.lives b old l → IfOk result (λ t. HasTurn (given_for b (m.parts old).node l input) t × m.lives b new (after_input b (m.parts old).node l input))
    pub owed : (es : List Effect) → m.owes old es → IfOk result (λ t. m.owes new (es ++ t.effects))
    pub in_range : IfOk result (λ t. AreEffects t.effects × AreOuts t.outs)
    pub still : IsTrue w.tells → w.reads (m.parts new).medium ≡ w.reads (m.parts old).medium
    pub stages_still : IsTrue w.tells → w.stages (m.parts new).medium ≡ w.stages (m.parts old).medium
    pub images : IsTrue w.tells → NoMore (w.may_leave (m.parts old).medium) (w.may_leave (m.parts new).medium)
    pub cause : IsErrOf result fault.Medium → Rose (w.faults (m.parts old).medium) (w.faults (m.parts new).medium)
    pub sound : IsTrue w.tells → IfErr result IsNotDamage

  -- The effects need more pages than are blank. The number is that of all its pages.
  pub record IsFull (medium : M) (effects : List Effect) (number : ℕ) : Type 0 where
    pub all : number ≡ w.page_count medium
    pub blank : IsTrue w.tells → count_by is_blank (w.reads medium) < length (filling effects)

  -- The new effects were added to the log on the medium: the core has the life after it, and a crash leaves that log. Where they
  -- weren't, a crash leaves the old log with a beginning of them; only a fault of the medium comes after anything was written.
  pub record IsAppended {T : Type 0} (old new : K) (effects : List Effect) (result : Result T StoreFault) : Type 0 where
    pub same : StaysOwn old new
    pub able : OnOk result (((m.parts new).able ≡ true) × m.owes new [])
    pub has : IsTrue w.tells → (b : Base) (l : Life) → m.lives b old l → l.fresh ≡ effects → OnOk result (m.lives b new (gated_life l))
    pub left : IsTrue w.tells → (log : List Effect) → LeavesLog (w.may_leave (m.parts old).medium) log → OnOk result (LeavesLog (w.may_leave (m.parts new).medium) (log ++ effects))
    pub images : IsTrue w.tells → (log : List Effect) → LeavesLog (w.may_leave (m.parts old).medium) log → (c : Image) → w.may_leave (m.parts new).medium c → HasPrefix log effects c
    pub at_moments : IsTrue w.tells → (log : List Effect) → LeavesLog (w.may_leave (m.parts old).medium) log → LeavesOnly w.stages (m.parts old).medium (m.parts new).medium (HasPrefix log effects)
    pub intact : IsTrue w.tells → OnOk result (IsIntact (w.reads (m.parts old).medium) (w.reads (m.parts new).medium))
    pub nothing : IfErr result (λ f. f ≢ adding.Medium → (m.parts new).medium ≡ (m.parts old).medium)
    pub full : IfErr result (λ f. (number : ℕ) → f ≡ adding.Full number → IsFull (m.parts old).medium effects number)
    pub cause : IsErrOf result adding.Medium → Rose (w.faults (m.parts old).medium) (w.faults (m.parts new).medium)

  -- The log that was found on an image that a crash could leave; so many effects stand in it.
  pub record HasFound (old new : K) (count : ℕ) : Type 0 where
    pub image : Image
    pub left : w.may_leave (m.parts old).medium image
    pub log : List Effect
    pub is : storage image ≡ Ok log
    pub size : length log ≡ count
    pub only : LeavesLog (w.may_leave (m.parts new).medium) log
    pub has : (b : Base) → m.fits b old → m.lives b new (opened_life b.start log)

  -- The medium was opened anew, and the core over the log that was found. A damaged page is the damage of an image that a crash could leave.
  pub record IsReopened (old new : K) (result : Result ℕ OpenFault) : Type 0 where
    pub same : StaysOwn old new
    pub able : OnOk result (((m.parts new).able ≡ true) × m.owes new [])
    pub found : IsTrue w.tells → IfOk result (HasFound old new)
    pub images : IsTrue w.tells → NoMore (w.may_leave (m.parts old).medium) (w.may_leave (m.parts new).medium)
    pub at_moments : IsTrue w.tells → LeavesOnly w.stages (m.parts old).medium (m.parts new).medium (w.may_leave (m.parts old).medium)
    pub cause : IsErrOf result opening.Medium → Rose (w.faults (m.parts old).medium) (w.faults (m.parts new).medium)
    pub damaged : IsTrue w.tells → (b : Base) → m.fits b old → (page : ℕ) → IsErrOf result (opening.Damaged page) → (image : Image) × w.may_leave (m.parts old).medium image × IsDamageOf b (m.parts old).node image page
