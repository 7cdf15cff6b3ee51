-- What callers see of a store.
use Rattle.std.specs.Prelude.{ℕ, ◌-◌, List, Result, Ok, Err}
use Rattle.medium_port.specs.Image.{Image}
use Rattle.page_form.specs.Effect.{Effect}
use Rattle.page_form.specs.Entries.{Log, effects_of}
use Rattle.version_store.specs.Storage.{log_of}
use Rattle.version_store.specs.declared.stores.Store.{Store}

-- its medium
abbrev pub medium_of : {M : Type 0} {g : _} → Store M g → M
medium_of s = s.medium

-- how many pages are blank and left for effects
abbrev pub left_in : {M : Type 0} {g : _} → Store M g → ℕ
left_in s = s.pages - s.next

-- how often a fetch found damage
abbrev pub damage_in : {M : Type 0} {g : _} → Store M g → ℕ
damage_in s = s.damage

-- its log, by what its medium reads
abbrev pub log_in : {M : Type 0} {g : _} → (M → Image) → Store M g → Log
log_in reads s = log_of (reads s.medium)

-- and the effects of its log
abbrev pub effects_in : {M : Type 0} {g : _} → (M → Image) → Store M g → List Effect
effects_in reads s = effects_of (log_in reads s)

-- the medium that an append hands back, in a store or alone
abbrev pub handed : {M F : Type 0} {g : _} → Result (Store M g) (M × F) → M
handed (Ok store) = store.medium
handed (Err refused) = refused.0

-- and the one that an opening hands back
abbrev pub opened : {M E F : Type 0} {g : _} → Result (Store M g × E) (M × F) → M
opened (Ok found) = found.0.medium
opened (Err refused) = refused.0
