-- What a repository's answers make of its log. Logs stand newest first.
use Rattle.std.specs.Prelude.{true, false, List, ◌∷◌}
use Rattle.pseudo_time.specs.TimeParts.{TimeParts}
use Rattle.repository_draft.specs.Effect.{Effect}
use Rattle.repository_draft.specs.Effect.TheVariants.{Put, Stretch}
use Rattle.repository_draft.specs.ObjectId.{ObjectId}
use Rattle.repository_draft.specs.Value.{Value}
use Rattle.repository_draft.specs.ReadStep.{ReadStep}
use Rattle.repository_draft.specs.ReadStep.TheVariants as read
use Rattle.repository_draft.specs.WriteStep.{WriteStep}
use Rattle.repository_draft.specs.WriteStep.TheVariants as write
pub use Rattle.repository_log.specs.Logs.{is_commit, as_decision, marks, known, record_from, record_of, begun, HasSameRecords, IsUnknown, began_by, began}
unfoldable pub use Rattle.repository_log.specs.Logs.{knows, first_begin, decision_of}

-- the log after a read that is answered so
abbrev pub read_by : List Effect → ObjectId → TimeParts → ReadStep → List Effect
read_by l o t (read.Answer v true) = Stretch o t ∷ l
read_by l o t (read.Answer v false) = l
read_by l o t (read.Wait s) = l
read_by l o t (read.LaterRead e) = l

-- the log after a write that is answered so
abbrev pub wrote : List Effect → ObjectId → TimeParts → Value → WriteStep → List Effect
wrote l o t v write.Put = Put o t v ∷ l
wrote l o t v write.Again = l
wrote l o t v (write.LaterVersion x) = l
wrote l o t v (write.LaterRead e) = l
