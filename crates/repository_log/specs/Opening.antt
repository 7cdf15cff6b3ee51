-- What is gathered from a log as it is read: the first Begins, and the first decisions.
use Rattle.std.specs.Prelude.{◌≡◌, List, Option, Some, None, if◌then◌else◌}
use Rattle.std.specs.FinMap as finite
use Rattle.pseudo_time.specs.StampParts.{StampParts}
use Rattle.pseudo_time.specs.Order.{same_stamp}
use Rattle.pseudo_time.specs.declared.decisions.Decision.{Decision}
use Rattle.effect_form.specs.declared.effects.Effect.{Effect}
use Rattle.commit_record.specs.declared.states.RecordState.{RecordState}
use Rattle.commit_record.specs.States.{States, listed_at}
use Rattle.object_history.specs.History.{or_else}
use Rattle.repository_log.specs.Logs.{first_begin, decision_of, record_from, record_of}

-- what is kept for an attempt q after a decision of s, where this is the record of s
abbrev pub kept_after : Option RecordState → StampParts → Decision → Option Decision → StampParts → Option Decision
kept_after (Some r) s x old q = old
kept_after None s x old q = if same_stamp s q then or_else old x else old

-- each record is that of this part of the log, but undecided
abbrev pub AreBegun : List Effect → States → Type 0
AreBegun part records = (s : StampParts) → finite.get records s ≡ record_from (first_begin part s) None

-- each record of the whole log is decided as this part of it says
abbrev pub AreDecided : List Effect → List Effect → States → Type 0
AreDecided whole part records = (s : StampParts) → finite.get records s ≡ record_from (first_begin whole s) (decision_of part s)

-- the decisions of this part are kept for the attempts without a record
abbrev pub AreKept : List Effect → List Effect → List (StampParts × Decision) → Type 0
AreKept whole part early = (s : StampParts) → first_begin whole s ≡ None → listed_at early s ≡ decision_of part s

-- each record is that of the log
abbrev pub AreRecords : List Effect → States → Type 0
AreRecords log records = (s : StampParts) → finite.get records s ≡ record_of log s

-- of each attempt that hasn't begun, its decision is kept
abbrev pub AreEarly : List Effect → List (StampParts × Decision) → Type 0
AreEarly log early = AreKept log log early
