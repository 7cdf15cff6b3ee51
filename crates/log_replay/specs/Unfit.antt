-- Why logs can't be told: a broker's log has a try whose text is no script, or whose stamp is that of a try before it. Logs stand oldest effect first, tries newest first.
use Rattle.std.specs.Prelude.{◌≡◌, ◌⊎◌, ◌<◌, ℕ, suc, List, [], ◌∷◌, ◌++◌, length, map, reverse, take}
use Rattle.pseudo_time.specs.Lists.{Has}
use Rattle.pseudo_time.specs.StampParts.{StampParts}
use Rattle.value_form.specs.Mirror.{Block}
use Rattle.effect_form.specs.declared.effects.Effect.{Effect}
use Rattle.script_form.specs.Lines.{lines}
use Rattle.script_form.specs.Scripts.{IsScriptLines}
use Rattle.broker_core.specs.Book.{book, tries}
use Rattle.log_replay.specs.Drafts.{DraftParts, try_parts}
use Rattle.log_replay.specs.Folders.{log_at}
use Rattle.log_replay.specs.declared.faults.ToldFault.{ToldFault}
use Rattle.log_replay.specs.declared.faults.ToldFault.TheVariants.{Log, NoMemory}

-- the tries of a log, of all runs
abbrev pub tries_in : List Effect → List DraftParts
tries_in log = map try_parts (tries (book (reverse log)))

abbrev pub stamps_of : List DraftParts → List StampParts
stamps_of = map (λ (t : DraftParts). t.stamp)

-- the stamps of the tries of these logs, onto others
abbrev pub stamps_onto : List (List Effect) → List StampParts → List StampParts
stamps_onto [] ss = ss
stamps_onto (log ∷ more) ss = stamps_onto more (stamps_of (tries_in log) ++ ss)

-- no script has the text
abbrev pub IsNoScript : List ℕ → Type 0
IsNoScript text = (b : Block) → IsScriptLines 16 (lines text) b → ⊥

-- a try that comes after tries with these stamps
abbrev pub IsUnfitAfter : List StampParts → DraftParts → Type 0
IsUnfitAfter before t = IsNoScript t.text ⊎ Has t.stamp before

-- one of these tries is so, after those with these stamps
pub record HasUnfit (before : List StampParts) (ts : List DraftParts) : Type 0 where
  pub later : List DraftParts
  pub unfit : DraftParts
  pub earlier : List DraftParts
  pub are : ts ≡ later ++ unfit ∷ earlier
  pub why : IsUnfitAfter (stamps_of earlier ++ before) unfit

-- the log of the broker with this number has one, after the logs of the brokers before it
pub record IsUnfitLog (brokers : List (List Effect)) (number : ℕ) : Type 0 where
  pub place : ℕ
  pub is : number ≡ suc place
  pub within : place < length brokers
  pub unfit : HasUnfit (stamps_onto (take place brokers) []) (tries_in (log_at brokers number))

-- why the log with this number wasn't told: memory ran out, or this holds of it
abbrev pub IsCause : ℕ → Type 0 → ToldFault → Type 0
IsCause number P f = (f ≡ NoMemory) ⊎ ((f ≡ Log number) × P)

-- and of several
abbrev pub IsFault : List (List Effect) → ToldFault → Type 0
IsFault brokers f = (f ≡ NoMemory) ⊎ ((number : ℕ) × (f ≡ Log number) × IsUnfitLog brokers number)
