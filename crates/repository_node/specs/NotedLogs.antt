-- What notes say of a log.
use Rattle.std.specs.Prelude.{◌≡◌, ℕ, true, List}
use Rattle.effect_form.specs.declared.effects.Effect.{Effect}
use Rattle.repository_node.specs.declared.notes.Notes.{Notes}
use Rattle.repository_node.specs.declared.kept_cores.KeptCore.{KeptCore}
use Rattle.repository_node.specs.KeptCores.{is_able, log_in}
use Rattle.repository_node.specs.Doubts.{given, is_plain}

-- unless memory ran out for one, they are those of this log of the repository
abbrev pub AreNotes : ℕ → List Effect → Notes → Type 0
AreNotes r log notes = notes.is_whole ≡ true → (notes.given.items ≡ given r log) × (notes.is_plain ≡ is_plain r log)

-- so it is of the log of a core, if no call of it has failed
abbrev pub HasNotesOfLog : {M : Type 0} {g : _} → ℕ → KeptCore M g → Notes → Type 0
HasNotesOfLog r kept notes = is_able kept ≡ true → AreNotes r (log_in kept) notes
